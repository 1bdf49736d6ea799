-- Whose bytes go for what a request issues: those of one other key at most, for its first act.
use Rattle.std.proofs.Common.{◌≡◌, ℕ, ℤ, Bool, true, false, cond, List, [], ◌∷◌, length, Option, None, Some, refl, sym, ◌∙◌, subst}
use Rattle.std.specs.Prelude.{IfSome}
use Rattle.geo_records.specs.Operations.{Act}
use Rattle.geo_records.specs.Operations.Act.{Write, Delete, Touch, Flush}
use Rattle.geo_requests.specs.declared.request.Request.{Request}
use Rattle.geo_requests.specs.declared.request.Request.TheVariants as request
use Rattle.geo_requests.specs.declared.reply.Found.{Found}
use Rattle.geo_memcache.specs.Entries.{Entry, expiry_at}
use Rattle.geo_memcache.specs.Decisions.{stores, deletes, touches, counts}
use Rattle.geo_memcache.specs.declared.decision.Effect.{Effect}
use Rattle.geo_memcache.specs.declared.decision.Effect.TheVariants.{Nothing, Keep, Made, Renew, Tomb}
use Rattle.geo_site.specs.declared.site.Site.{Site}
use Rattle.geo_site.specs.Entries.{Held, Visible, issued, accesses, acts_of, touches_of, touched_of, flushes_now}
use Rattle.geo_site.specs.Machine.{SiteState, accessed, victim_by, VictimFits, IsVictim, VictimOf}
use Rattle.geo_site.specs.Sites.{state_in, victim_in, FirstVictimFits}
use Rattle.geo_site.proofs.Stocking.{class_is}
use Rattle.geo_site.proofs.Named.{some_none}

-- acts for which no bytes go
abbrev pub AreQuiet : List Act → Type 0
AreQuiet [] = Unit {0}
AreQuiet (act ∷ acts) = ((st : SiteState) → victim_by act st.stock ≡ None) × AreQuiet acts

-- all but the first
abbrev pub rest_of : List Act → List Act
rest_of [] = []
rest_of (act ∷ acts) = acts

-- whose bytes go for the first
abbrev pub first_victim : List Act → SiteState → Option (List ℕ)
first_victim [] st = None
first_victim (act ∷ acts) st = victim_by act st.stock

-- the victim is the first act's, and the others have none
pub record GoesFor (acts : List Act) (st : SiteState) (victim : Option (List ℕ)) : Type 0 where
  pub first : victim ≡ first_victim acts st
  pub rest : AreQuiet (rest_of acts)

-- ---- acts for which none go
pub quiet_goes : (acts : List Act) (st : SiteState) → AreQuiet acts → GoesFor acts st None
quiet_goes [] st quiet = record { first = refl; rest = tt }
quiet_goes (act ∷ acts) st quiet = record { first = sym (quiet.0 st); rest = quiet.1 }

pub one_quiet : (t : Bool) (act : Act) → ((st : SiteState) → victim_by act st.stock ≡ None) → AreQuiet (cond {A = List Act} t (act ∷ []) [])
one_quiet true act h = (h, tt)
one_quiet false act h = tt

touches_quiet : (expiry : ℕ) (found : List Found) → AreQuiet (touches_of expiry found)
touches_quiet expiry [] = tt
touches_quiet expiry (f ∷ found) = (λ st. refl, touches_quiet expiry found)

touches_rest : (expiry : ℕ) (found : List Found) → AreQuiet (rest_of (touches_of expiry found))
touches_rest expiry [] = tt
touches_rest expiry (f ∷ found) = touches_quiet expiry found

effect_rest : (key bytes : List ℕ) (effect : Effect) → AreQuiet (rest_of (acts_of key bytes effect))
effect_rest key bytes Nothing = tt
effect_rest key bytes (Keep flags expiry) = tt
effect_rest key bytes (Made made flags expiry) = tt
effect_rest key bytes (Renew expiry) = tt
effect_rest key bytes Tomb = tt

flush_rest : (t : Bool) → AreQuiet (rest_of (cond {A = List Act} t (Flush ∷ []) []))
flush_rest true = tt
flush_rest false = tt

-- ---- what a request issues
pub request_rest : (now : ℕ) (visible : Visible) (r : Request) → AreQuiet (rest_of (issued now visible r))
request_rest now visible (request.Store verb key flags exptime unique bytes noreply) = effect_rest key bytes (stores verb flags exptime unique bytes now (visible key)).1
request_rest now visible (request.Fetch keys numbers) = tt
request_rest now visible (request.FetchTouch exptime keys numbers) = touches_rest (expiry_at exptime now) (touched_of now (expiry_at exptime now) numbers visible keys)
request_rest now visible (request.Delete key noreply) = effect_rest key [] (deletes (visible key)).1
request_rest now visible (request.Touch key exptime noreply) = effect_rest key [] (touches exptime now (visible key)).1
request_rest now visible (request.Arith up key by noreply) = effect_rest key [] (counts up by (visible key)).1
request_rest now visible (request.FlushAll delay noreply) = flush_rest (flushes_now delay now)
request_rest now visible request.ShowVersion = tt
request_rest now visible (request.Verbosity noreply) = tt
request_rest now visible request.Stats = tt
request_rest now visible request.Quit = tt

touches_first : (expiry : ℕ) (found : List Found) (one other : SiteState) → first_victim (touches_of expiry found) one ≡ first_victim (touches_of expiry found) other
touches_first expiry [] one other = refl
touches_first expiry (f ∷ found) one other = refl

touch_first : (key : List ℕ) (entry : Option Entry) (one other : SiteState) (exptime : ℤ) (now : ℕ) → first_victim (acts_of key [] (touches exptime now entry).1) one ≡ first_victim (acts_of key [] (touches exptime now entry).1) other
touch_first key None one other exptime now = refl
touch_first key (Some e) one other exptime now = refl

-- what a request accesses first has no say in whose bytes go
pub request_first : (now : ℕ) (visible : Visible) (r : Request) (st : SiteState) → first_victim (issued now visible r) (accessed (accesses now visible r) st) ≡ first_victim (issued now visible r) st
request_first now visible (request.Store verb key flags exptime unique bytes noreply) st = refl
request_first now visible (request.Fetch keys numbers) st = refl
request_first now visible (request.FetchTouch exptime keys numbers) st = touches_first (expiry_at exptime now) (touched_of now (expiry_at exptime now) numbers visible keys) (accessed (accesses now visible (request.FetchTouch exptime keys numbers)) st) st
request_first now visible (request.Delete key noreply) st = refl
request_first now visible (request.Touch key exptime noreply) st = touch_first key (visible key) (accessed (accesses now visible (request.Touch key exptime noreply)) st) st exptime now
request_first now visible (request.Arith up key by noreply) st = refl
request_first now visible (request.FlushAll delay noreply) st = refl
request_first now visible request.ShowVersion st = refl
request_first now visible (request.Verbosity noreply) st = refl
request_first now visible request.Stats st = refl
request_first now visible request.Quit st = refl

pub victim_first : (site : Site) (acts : List Act) → victim_in site acts ≡ first_victim acts (state_in site)
victim_first site [] = refl
victim_first site (act ∷ acts) = refl

-- so the victim that a site tells of goes for what a request issues after its accesses
pub request_goes : (site : Site) (now : ℕ) (visible : Visible) (r : Request) (victim : Option (List ℕ)) → victim ≡ victim_in site (issued now visible r) → GoesFor (issued now visible r) (accessed (accesses now visible r) (state_in site)) victim
request_goes site now visible r victim is = record {
  first = is ∙ victim_first site (issued now visible r) ∙ sym (request_first now visible r (state_in site));
  rest = request_rest now visible r;
}

-- ---- a victim by what is known to be held
-- accesses change no bytes
pub hit_held : (keys : List (List ℕ)) (st : SiteState) (key : List ℕ) → (accessed keys st).stock.held key ≡ st.stock.held key
hit_held [] st key = refl
hit_held (k ∷ keys) st key = hit_held keys (accessed (k ∷ []) st) key

if_some : {A : Type 0} (P : A → Type 0) (o : Option A) (x : A) → o ≡ Some x → IfSome o P → P x
if_some P o x is h = subst (λ o. IfSome o P) is h

module _ (st : SiteState) (held : Held) (same : (key : List ℕ) → st.stock.held key ≡ held key) where
  is_victim_of : (act : Act) (victim : List ℕ) → victim_by act st.stock ≡ Some victim → VictimFits act st.stock → IsVictim held act victim
  is_victim_of (Write key bytes flags expiry) victim is fits =
      let f = if_some _ _ victim is fits in
      (f.0, f.1.bytes, sym (same victim) ∙ f.1.held, sym (class_is (length f.1.bytes) _ f.1.fits))
  is_victim_of (Delete key) victim is fits = absurd (some_none (sym is))
  is_victim_of (Touch key expiry) victim is fits = absurd (some_none (sym is))
  is_victim_of Flush victim is fits = absurd (some_none (sym is))

-- what a site tells of a victim is one that the acts can have
pub victim_fits : (site : Site) (held : Held) → ((key : List ℕ) → (state_in site).stock.held key ≡ held key) → (acts : List Act) (victim : Option (List ℕ)) → victim ≡ victim_in site acts → FirstVictimFits site acts → VictimOf held acts victim
victim_fits site held same acts None is fits = tt
victim_fits site held same [] (Some victim) is fits = absurd (some_none is)
victim_fits site held same (act ∷ acts) (Some victim) is fits = is_victim_of (state_in site) held same act victim (sym is) fits
