-- No event gives a site pages or takes any: a class gets one only from the spare ones.
use Rattle.std.proofs.Common.{◌≡◌, ℕ, zero, suc, ◌+◌, ◌-◌, ◌<◌, ◌≤◌, Bool, true, false, cond, ◌&&◌, true≢false, is_some, nat_eq, nat_le, List, [], ◌∷◌, length, Option, None, Some, Ok, Err, refl, sym, ap, ◌∙◌, subst, arith, inl, inr}
use Rattle.std.specs.Option.{option_map_or}
use Rattle.std.proofs.lemmas.Bool.{cases_eq}
use Rattle.std.proofs.lemmas.Bool.Decides.{nat_tests, eqb_tells}
use Rattle.geo_slabs.specs.Storage.{class_count, chunk_bytes}
use Rattle.geo_records.specs.Operations.{Act, version_in}
use Rattle.geo_records.specs.Operations.Act.{Write, Delete, Touch, Flush}
use Rattle.geo_values.specs.Stock.{Stock, Same as SameStock, first_stock, dropped, evicted_from, with_page_of, with_room, with_chunk, is_used_up, is_full}
use Rattle.geo_lru.specs.Rules.{victim_of}
use Rattle.geo_site.specs.declared.site.Site.{Site}
use Rattle.geo_site.specs.declared.setup.Setup.{Setup}
use Rattle.geo_world.specs.declared.event.Event.{Event}
use Rattle.geo_world.specs.declared.event.Event.TheVariants.{Command, Evict, Send, Take, Remove, Tick, Reap, Fill, Retire}
use Rattle.geo_world.specs.declared.event.Trace.{Trace}
use Rattle.geo_world.specs.declared.event.Trace.TheVariants.{Replied, Evicted, Taken, TakeRefused, Removed, Ticked, Reaped, ReapRefused, Filled as FilledAs, FillRefused, Retired, RetireRefused}
use Rattle.geo_site.specs.declared.refusal.ReapError.{ReapError}
use Rattle.geo_site.specs.declared.refusal.ReapError.TheVariants.{ClockEnded, Memory}
use Rattle.geo_site.specs.declared.refusal.RetireError.TheVariants as retire
use Rattle.geo_requests.specs.declared.request.Request.{Request}
use Rattle.geo_requests.specs.declared.reply.Reply.{Reply}
use Rattle.std.specs.Prelude.{Result}
use Rattle.geo_site.specs.Entries.{names, is_done, is_stuck, due_acts, accesses}
use Rattle.geo_site.specs.Machine.{SiteState, fresh, Same, visible_in, with_stock, take, sifted_delta, removed, class_from, class_for, act_stock, hit_all, accessed, issue, issue_all}
use Rattle.geo_site.specs.declared.fill.Filled.{Filled}
use Rattle.geo_site.specs.declared.fill.Filled.TheVariants.{NotNamed, Full, Done}
use Rattle.geo_site.specs.declared.fill.Filled.TheVariants as filled
use Rattle.geo_site.specs.Fills.{after_fill, filled_in, filled_by}
use Rattle.geo_site.specs.Sites.{state_in, waiting_in, clock_in, issued_in, reaped_in, horizon_in, delta_of, HasIssuedAfter, FlushDoes, RequestDoes, RequestDoesBy, ReapResult}
use Rattle.geo_world.specs.Doing.{pages_below, pages_of, DoesThere, DoesAlone, EachAlone, EachOpens, HavePages, site_of}
use Rattle.geo_world.proofs.Worlds.{some_same}

-- ---- sums
below_same : (f g : ℕ → ℕ) (n : ℕ) → ((class : ℕ) → g class ≡ f class) → pages_below g n ≡ pages_below f n
below_same f g zero same = refl
below_same f g (suc n) same = λ i. below_same f g n same i + same n i

pub pages_same : (old new : Stock) → SameStock old new → pages_of new ≡ pages_of old
pages_same old new same = λ i. below_same old.pages new.pages class_count same.pages i + same.spare i

abbrev one_more : (class : ℕ) (f : ℕ → ℕ) → ℕ → ℕ
one_more class f c = cond (nat_eq c class) (f c + 1) (f c)

more_here : (f : ℕ → ℕ) (n : ℕ) → one_more n f n ≡ f n + 1
more_here f n = elim (eqb_tells n n) [ inl p ↦ ap (λ t. cond t (f n + 1) (f n)) p.0 | inr p ↦ absurd (p.1 refl) ]

more_there : (f : ℕ → ℕ) (class n : ℕ) → (n ≡ class → ⊥) → one_more class f n ≡ f n
more_there f class n ne = elim (eqb_tells n class) [ inl p ↦ absurd (ne p.1) | inr p ↦ ap (λ t. cond t (f n + 1) (f n)) p.0 ]

below_other : (f : ℕ → ℕ) (class n : ℕ) → n ≤ class → pages_below (one_more class f) n ≡ pages_below f n
below_other f class zero le = refl
below_other f class (suc n) le = λ i. below_other f class n (omega (arith, le)) i + more_there f class n (λ e. omega (arith, e, le)) i

below_more : (f : ℕ → ℕ) (class n : ℕ) → class < n → pages_below (one_more class f) n ≡ pages_below f n + 1
below_more f class zero lt = absurd (omega (arith, lt))
below_more f class (suc n) lt = elim (cases_eq n class) [
  | inl e ↦
      let rest = below_other f class n (omega (arith, e)) in
      let here = ap (λ c. one_more c f n) (sym e) ∙ more_here f n in
      omega (arith, rest, here)
  | inr ne ↦
      let rest = below_more f class n (omega (arith, lt, ne)) in
      let there = more_there f class n ne in
      omega (arith, rest, there)
]

-- ---- room
evicted_pages : (class : ℕ) (s : Stock) → pages_of (evicted_from class s) ≡ pages_of s
evicted_pages class s = by (victim_of (s.lists class))
  where
    by : (o : Option (List ℕ)) → pages_of (option_map_or (λ key. dropped key s) o s) ≡ pages_of s
    by None = refl
    by (Some key) = refl

page_pages : (class : ℕ) (s : Stock) → class < class_count → nat_eq s.spare 0 ≡ false → pages_of (with_page_of class s) ≡ pages_of s
page_pages class s lt some =
    let more = below_more s.pages class class_count lt in
    let spare : 1 ≤ s.spare = grind (arith, nat_tests) in
    sums (pages_below (one_more class s.pages) class_count) (pages_below s.pages class_count) s.spare more spare
  where
    sums : (a b c : ℕ) → a ≡ b + 1 → 1 ≤ c → a + (c - 1) ≡ b + c
    sums a b c e lo = omega (arith, e, lo)

room_pages : (class : ℕ) (s : Stock) → class < class_count → pages_of (with_room class s) ≡ pages_of s
room_pages class s lt = by (is_used_up s class) (nat_eq s.spare 0) refl
  where
    by : (used none : Bool) → nat_eq s.spare 0 ≡ none → pages_of (cond used (cond none (evicted_from class s) (with_page_of class s)) s) ≡ pages_of s
    by false none e = refl
    by true true e = evicted_pages class s
    by true false e = page_pages class s lt e

from_most : (more class bytes : ℕ) → class_from more class bytes ≤ class + more
from_most zero class bytes = omega arith
from_most (suc more) class bytes = by (nat_le bytes (chunk_bytes class)) (from_most more (class + 1) bytes)
  where
    by : (b : Bool) → class_from more (class + 1) bytes ≤ class + 1 + more → cond b class (class_from more (class + 1) bytes) ≤ class + suc more
    by true h = omega arith
    by false h = omega (arith, h)

class_below : (bytes : ℕ) → class_for bytes < class_count
class_below bytes = let h = from_most 14 0 bytes in last (class_for bytes) h
  where
    last : (c : ℕ) → c ≤ 14 → c < 15
    last c le = omega (arith, le)

-- ---- the machine's steps
act_pages : (act : Act) (s : Stock) → pages_of (act_stock act s) ≡ pages_of s
act_pages (Write key bytes flags expiry) s = room_pages (class_for (length bytes)) (dropped key s) (class_below (length bytes))
act_pages (Delete key) s = refl
act_pages (Touch key expiry) s = refl
act_pages Flush s = refl

issued_pages : (number : ℕ) (acts : List Act) (st : SiteState) → pages_of (issue_all number acts st).stock ≡ pages_of st.stock
issued_pages number [] st = refl
issued_pages number (act ∷ acts) st = issued_pages number acts (issue number act st) ∙ act_pages act st.stock

hit_pages : (keys : List (List ℕ)) (s : Stock) → pages_of (hit_all keys s) ≡ pages_of s
hit_pages [] s = refl
hit_pages (key ∷ keys) s = hit_pages keys (Rattle.geo_values.specs.Stock.hit_at key s)

pub same_pages : (old new : SiteState) → Same old new → pages_of new.stock ≡ pages_of old.stock
same_pages old new same = pages_same old.stock new.stock same.stock

-- a site has as many pages as before
abbrev pub KeepsPages : Site → Site → Type 0
KeepsPages old new = pages_of (state_in new).stock ≡ pages_of (state_in old).stock

issues_pages : (keys : List (List ℕ)) (old new : Site) (acts : List Act) → HasIssuedAfter keys old new acts → KeepsPages old new
issues_pages keys old new acts done = same_pages (issue_all old.number acts (accessed keys (state_in old))) (state_in new) done ∙ issued_pages old.number acts (accessed keys (state_in old)) ∙ hit_pages keys (state_in old).stock

-- ---- a site's calls
flush_pages : (old new : Site) (now : ℕ) → FlushDoes old new now → KeepsPages old new
flush_pages old new now does = issues_pages [] old new (due_acts (waiting_in old) (clock_in old) now) does.issued

done_pages : (old new : Site) (now : ℕ) (request : Request) (reply : Reply) (t : Bool) → is_done reply ≡ t → RequestDoes old new now request reply → KeepsPages old new
done_pages old new now request reply true e does = issues_pages (accesses now (visible_in (state_in old) now) request) old new (issued_in old now request) (does.done e)
done_pages old new now request reply false e does = same_pages (state_in old) (state_in new) (does.refused e)

request_pages : (t : Bool) (old new : Site) (now : ℕ) (request : Request) (reply : Reply) → RequestDoesBy t old new now request reply → KeepsPages old new
request_pages true old new now request reply does = same_pages (state_in old) (state_in new) does.1
request_pages false old new now request reply does = done_pages old new now request reply (is_done reply) refl does

reap_pages : (old new : Site) (now : ℕ) (key : List ℕ) (result : Result Bool ReapError) → ReapResult old new now key result → KeepsPages old new
reap_pages old new now key (Ok done) does = issues_pages [] old new (reaped_in old now key) does.2
reap_pages old new now key (Err ClockEnded) does = same_pages (state_in old) (state_in new) does.1
reap_pages old new now key (Err Memory) does = absurd does

chunk_pages : (class : ℕ) (s : Stock) → class < class_count → is_full s class ≡ false → pages_of (with_chunk class s) ≡ pages_of s
chunk_pages class s lt room = by (is_used_up s class) (nat_eq s.spare 0) refl room
  where
    by : (used none : Bool) → nat_eq s.spare 0 ≡ none → (used && none) ≡ false → pages_of (cond used (with_page_of class s) s) ≡ pages_of s
    by false none e room = refl
    by true false e room = page_pages class s lt e
    by true true e room = absurd (true≢false room)

-- bytes come only where their class is not full
has_room : (named held full : Bool) → Done ≡ filled_by named held full → full ≡ false
has_room true false false e = refl
has_room true false true e = absurd (done_apart_full e)
  where
    done_apart_full : Done ≡ Full → ⊥
    done_apart_full e = cc
has_room true true full e = absurd (done_apart_held e)
  where
    done_apart_held : Done ≡ filled.Held → ⊥
    done_apart_held e = cc
has_room false held full e = absurd (done_apart_unnamed e)
  where
    done_apart_unnamed : Done ≡ NotNamed → ⊥
    done_apart_unnamed e = cc

fill_pages : (filled : Filled) (st : SiteState) (key bytes : List ℕ) → filled ≡ filled_in st key bytes → pages_of (after_fill filled key bytes st).stock ≡ pages_of st.stock
fill_pages NotNamed st key bytes is = refl
fill_pages filled.Held st key bytes is = refl
fill_pages Full st key bytes is = refl
fill_pages Done st key bytes is = chunk_pages (class_for (length bytes)) st.stock (class_below (length bytes))
    (has_room (names (version_in (st.map key)) bytes) (is_some (st.stock.held key)) (is_full st.stock (class_for (length bytes))) is)

there_pages : (old new : Site) (event : Event) (trace : Trace) → DoesThere old new event trace → KeepsPages old new
there_pages old new (Command site now request) (Replied reply victim) c =
    let act = c.does in
    request_pages (is_stuck (waiting_in old) (clock_in old) now) act.mid new now request reply act.does ∙ flush_pages old act.mid now act.flush
there_pages old new (Evict site key) (Evicted done) does = same_pages (with_stock (dropped key (state_in old).stock) (state_in old)) (state_in new) does.left
there_pages old new (Send site to) trace does = ap (λ (s : Site). pages_of (state_in s).stock) does
there_pages old new (Take site parcel) Taken does = same_pages (take old.number (sifted_delta (horizon_in old) (delta_of does.parcel)) (state_in old)) (state_in new) does.does.1
there_pages old new (Take site parcel) (TakeRefused why) does = same_pages (state_in old) (state_in new) does.does.2
there_pages old new (Remove site) (Removed horizon count) does = same_pages (removed (horizon_in old) (state_in old)) (state_in new) does.1.left
there_pages old new (Tick site now) (Ticked done) does = flush_pages old new now does.flush
there_pages old new (Reap site now key) (Reaped done) does = reap_pages does.mid new now key (Ok done) does.does ∙ flush_pages old does.mid now does.flush
there_pages old new (Reap site now key) (ReapRefused why) does = reap_pages does.mid new now key (Err why) does.does ∙ flush_pages old does.mid now does.flush
there_pages old new (Fill site key bytes) (FilledAs filled) does = same_pages (after_fill filled key bytes (state_in old)) (state_in new) does.does.1 ∙ fill_pages filled (state_in old) key bytes does.does.0
there_pages old new (Fill site key bytes) FillRefused does = same_pages (state_in old) (state_in new) does.does.does.1
there_pages old new (Retire site other) (Retired fresh) does = same_pages (state_in old) (state_in new) does.2
there_pages old new (Retire site other) (RetireRefused retire.NoSuchSite) does = same_pages (state_in old) (state_in new) does.1
there_pages old new event trace does = absurd does

-- ---- all sites
alone_pages : (setups : List Setup) (old new : List Site) (event : Event) (trace : Trace) → HavePages setups old → DoesAlone old new event trace → HavePages setups new
alone_pages setups old new event trace have d k setup site at_setup at_site = elim (cases_eq (site_of event) (k + 1)) [
  | inl e ↦
      let is : d.after ≡ site = some_same (sym (d.is k e) ∙ at_site) in
      ap (λ (s : Site). pages_of (state_in s).stock) (sym is) ∙ there_pages d.before d.after event trace d.does ∙ have k setup d.before at_setup (d.was k e)
  | inr ne ↦ have k setup site at_setup (sym (d.others k ne) ∙ at_site)
]

each_pages : (setups : List Setup) (first : List Site) (events : List Event) (traces : List Trace) (last : List Site) → HavePages setups first → EachAlone first events traces last → HavePages setups last
each_pages setups first [] [] last have each = subst (HavePages setups) (sym each) have
each_pages setups first [] (trace ∷ traces) last have each = absurd each
each_pages setups first (event ∷ events) [] last have each = absurd each
each_pages setups first (event ∷ events) (trace ∷ traces) last have each = each_pages setups each.0 events traces last (alone_pages setups first each.0 event trace have each.1) each.2

first_pages : (pages : ℕ) → class_count ≤ pages → pages_of (first_stock pages) ≡ pages
first_pages pages le = sums pages le
  where
    sums : (p : ℕ) → 15 ≤ p → 15 + (p - 15) ≡ p
    sums p le = omega (arith, le)

opens_pages : (setups : List Setup) (sites : List Site) → EachOpens setups sites → HavePages setups sites
opens_pages setups sites opens k setup site at_setup at_site =
    let o = opens k setup site at_setup at_site in
    same_pages (fresh setup.sites setup.pages) (state_in site) o.9 ∙ first_pages setup.pages o.2.0

pub run_pages : (setups : List Setup) (first : List Site) (events : List Event) (traces : List Trace) (last : List Site) → EachOpens setups first → EachAlone first events traces last → HavePages setups last
run_pages setups first events traces last opens each = each_pages setups first events traces last (opens_pages setups first opens) each
