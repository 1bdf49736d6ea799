-- What a fetch that touches finds, key by key.
use Rattle.std.proofs.Common.{◌≡◌, ℕ, ℤ, suc, ◌+◌, ◌≤◌, ◌<◌, Bool, true, false, cond, not, ◌&&◌, ◌||◌, inl, inr, List, [], ◌∷◌, ◌++◌, length, take, Option, None, Some, refl, sym, ap, ◌∙◌, subst, arith, get_or, append_assoc, true≢false}
use Rattle.std.specs.List.{list_any, All}
use Rattle.std.specs.Prelude.{nat_le}
use Rattle.std.proofs.lemmas.Bool.Decides.{nat_tests}
use Rattle.std.proofs.lemmas.List.Elements.{All-append, All-cons}
use Rattle.geo_stamp.specs.Stamps.{last_time}
use Rattle.geo_records.specs.Operations.{Register, Record}
use Rattle.geo_records.specs.declared.body.Body.{Body}
use Rattle.geo_site.specs.declared.site.Site.{Site}
use Rattle.geo_site.specs.Sites.{state_in, clock_in, basis_in, touched_in, fetched, victim_in, FirstVictimFits, HasIssuedAfter, FetchDoes, FetchTouchDoes}
use Rattle.geo_site.specs.Changes.{HasBody}
use Rattle.geo_site.proofs.Stocking.{state_path}
use Rattle.geo_site.proofs.Verdicts.{none_some}
use Rattle.geo_site.proofs.Acting.{and_false}
use Rattle.std.proofs.lemmas.List.{take_more, append-nil, length-append}
use Rattle.geo_requests.specs.declared.reply.Found.{Found}
use Rattle.geo_requests.specs.declared.reply.Reply.{Reply}
use Rattle.geo_requests.specs.declared.reply.Reply.TheVariants.{Values, MapFull, ClockEnded}
use Rattle.geo_requests.specs.declared.request.Request.TheVariants.{Fetch, FetchTouch}
use Rattle.geo_versions.specs.Maps.{has_register}
use Rattle.geo_memcache.specs.Entries.{Entry, is_live, expiry_at}
use Rattle.geo_records.specs.Keys.{same_key}
use Rattle.std.proofs.lemmas.List.{map-append, length-map}
use Rattle.geo_records.specs.Operations.{Act, version_in}
use Rattle.geo_records.specs.Operations.Act.{Touch}
use Rattle.geo_site.specs.Machine.{SiteState, Same, visible_in, issue, issue_all}
use Rattle.geo_site.specs.Entries.{Visible, entry_in, lacks, is_crowded, wants_record, is_growth, owed, Answers, is_done, keys_found, touches_of, found_at, renewed, after_touches, found_after, touched_after, touched_of}

module _ (now expiry : ℕ) (numbers : Bool) (seen : Visible) where
  touched_append : (before xs : List (List ℕ)) (k : List ℕ) → touched_after now expiry numbers seen before (xs ++ k ∷ []) ≡ touched_after now expiry numbers seen before xs ++ found_after now expiry numbers seen (before ++ xs) k
  touched_append before [] k = append-nil (found_after now expiry numbers seen before k) ∙ ap (λ b. found_after now expiry numbers seen b k) (sym (append-nil before))
  touched_append before (x ∷ xs) k =
      ap (λ ys. found_after now expiry numbers seen before x ++ ys) (touched_append (before ++ x ∷ []) xs k)
      ∙ sym (append_assoc (found_after now expiry numbers seen before x) (touched_after now expiry numbers seen (before ++ x ∷ []) xs) (found_after now expiry numbers seen ((before ++ x ∷ []) ++ xs) k))
      ∙ ap (λ b. (found_after now expiry numbers seen before x ++ touched_after now expiry numbers seen (before ++ x ∷ []) xs) ++ found_after now expiry numbers seen b k) (append_assoc before (x ∷ []) xs)

  -- one key more
  pub touched_next : (keys : List (List ℕ)) (i : ℕ) (key : List ℕ) → i < length keys → key ≡ get_or keys i key
      → touched_of now expiry numbers seen (take (i + 1) keys) ≡ touched_of now expiry numbers seen (take i keys) ++ found_after now expiry numbers seen (take i keys) key
  touched_next keys i key lt at =
      ap (touched_of now expiry numbers seen) (take_more keys i key lt)
      ∙ ap (λ k. touched_of now expiry numbers seen (take i keys ++ k ∷ [])) (sym at)
      ∙ touched_append [] (take i keys) key

  found_one : (key : List ℕ) (t : Bool) (o : Option Entry) → length (found_at numbers key (cond t (renewed now expiry o) o)) ≡ 1 → found_at numbers key (cond t (renewed now expiry o) o) ≡ found_at numbers key o
  found_one key false o h = refl
  found_one key true None h = refl
  found_one key true (Some e) h = by (is_live expiry now) h
    where
      by : (l : Bool) → length (found_at numbers key (cond l (Some (record { bytes = e.bytes; flags = e.flags; expiry = expiry; unique = e.unique })) None)) ≡ 1
          → found_at numbers key (cond l (Some (record { bytes = e.bytes; flags = e.flags; expiry = expiry; unique = e.unique })) None) ≡ found_at numbers key (Some e)
      by true h = refl
      by false h = absurd (omega (arith, h))

  -- a key that is found once more shows what is visible of it
  pub found_after_one : (before : List (List ℕ)) (key : List ℕ) → length (found_after now expiry numbers seen before key) ≡ 1 → found_after now expiry numbers seen before key ≡ found_at numbers key (seen key)
  found_after_one before key h = found_one key (list_any (same_key key) before) (seen key) h

  found_none : (xs : List Found) → length xs ≡ 0 → xs ≡ []
  found_none [] h = refl
  found_none (x ∷ xs) h = absurd (omega (arith, h))

  pub found_after_none : (before : List (List ℕ)) (key : List ℕ) → length (found_after now expiry numbers seen before key) ≡ 0 → found_after now expiry numbers seen before key ≡ []
  found_after_none before key h = found_none (found_after now expiry numbers seen before key) h

  -- as many are found as there are keys, at most
  found_after_most : (before : List (List ℕ)) (key : List ℕ) → length (found_after now expiry numbers seen before key) ≤ 1
  found_after_most before key = at_most (after_touches now expiry before key (seen key))
    where
      at_most : (o : Option Entry) → length (found_at numbers key o) ≤ 1
      at_most None = omega arith
      at_most (Some e) = omega arith

  touched_after_most : (before keys : List (List ℕ)) → length (touched_after now expiry numbers seen before keys) ≤ length keys
  touched_after_most before [] = omega arith
  touched_after_most before (key ∷ keys) =
      let a = length-append (found_after now expiry numbers seen before key) (touched_after now expiry numbers seen (before ++ key ∷ []) keys) in
      let m = found_after_most before key in
      let r = touched_after_most (before ++ key ∷ []) keys in
      omega (arith, a, m, r)

  pub touched_at_most : (keys : List (List ℕ)) → length (touched_of now expiry numbers seen keys) ≤ length keys
  touched_at_most keys = touched_after_most [] keys

-- ---- the touches one after the other

-- an act issued from an equal state
issue_from_same : (n : ℕ) (act : Act) (a b x : SiteState) → Same a b → Same (issue n act b) x → Same (issue n act a) x
issue_from_same n act a b x s t = subst (λ st. Same (issue n act st) x) (state_path a b s) t

issue_all_append : (n : ℕ) (acts : List Act) (act : Act) (st : SiteState) → issue_all n (acts ++ act ∷ []) st ≡ issue n act (issue_all n acts st)
issue_all_append n [] act st = refl
issue_all_append n (a ∷ acts) act st = issue_all_append n acts act (issue n a st)

touches_next : (expiry : ℕ) (found : List Found) (i : ℕ) (f : Found) → i < length found → f ≡ get_or found i f
    → touches_of expiry (take (i + 1) found) ≡ touches_of expiry (take i found) ++ Touch f.key expiry ∷ []
touches_next expiry found i f lt at =
    ap (touches_of expiry) (take_more found i f lt)
    ∙ map-append (λ (f : Found). Touch f.key expiry) (take i found) (get_or found i f ∷ [])
    ∙ ap (λ (g : Found). touches_of expiry (take i found) ++ Touch g.key expiry ∷ []) (sym at)

-- one touch more
pub touched_more : (n expiry : ℕ) (found : List Found) (i : ℕ) (f : Found) (st0 st st1 : SiteState) → i < length found → f ≡ get_or found i f
    → Same (issue_all n (touches_of expiry (take i found)) st0) st → Same (issue n (Touch f.key expiry) st) st1
    → Same (issue_all n (touches_of expiry (take (i + 1) found)) st0) st1
touched_more n expiry found i f st0 st st1 lt at s t =
    subst (λ (acts : List Act). Same (issue_all n acts st0) st1) (sym (touches_next expiry found i f lt at))
    (subst (λ (a : SiteState). Same a st1) (sym (issue_all_append n (touches_of expiry (take i found)) (Touch f.key expiry) st0))
    (issue_from_same n (Touch f.key expiry) (issue_all n (touches_of expiry (take i found)) st0) st st1 s t))

-- ---- whether stamps are left
pub fewer : (clock some all : ℕ) → some ≤ all → nat_le (clock + all) last_time ≡ true → nat_le (clock + some) last_time ≡ true
fewer clock some all le h = grind (arith, nat_tests)

lacks_few : (clock : ℕ) (acts : List Act) → nat_le (clock + length acts) last_time ≡ true → lacks clock acts ≡ false
lacks_few clock [] h = refl
lacks_few clock (a ∷ acts) h = grind (arith, nat_tests)

lacks_many : (clock : ℕ) (acts : List Act) → nat_le (clock + length acts) last_time ≡ false → 1 ≤ length acts → lacks clock acts ≡ true
lacks_many clock [] h some = absurd (omega arith)
lacks_many clock (a ∷ acts) h some = grind (arith, nat_tests)

touches_many : (expiry : ℕ) (found : List Found) → length (touches_of expiry found) ≡ length found
touches_many expiry found = length-map found (λ (f : Found). Touch f.key expiry)

pub touches_left : (clock expiry : ℕ) (found : List Found) → nat_le (clock + length found) last_time ≡ true → lacks clock (touches_of expiry found) ≡ false
touches_left clock expiry found h = lacks_few clock (touches_of expiry found) (ap (λ n. nat_le (clock + n) last_time) (touches_many expiry found) ∙ h)

pub touches_lack : (clock expiry : ℕ) (found : List Found) → nat_le (clock + length found) last_time ≡ false → 1 ≤ length found → lacks clock (touches_of expiry found) ≡ true
touches_lack clock expiry found h some = lacks_many clock (touches_of expiry found) (ap (λ n. nat_le (clock + n) last_time) (touches_many expiry found) ∙ h) (let e = touches_many expiry found in omega (arith, e, some))

pub touches_fit : (clock : ℕ) (found : List Found) → nat_le (clock + length found) last_time ≡ true → clock + length found ≤ last_time
touches_fit clock found h = grind (arith, nat_tests)

-- ---- what is touched is there
module _ (site : Site) (now expiry : ℕ) (numbers : Bool) where
  body_there : (key : List ℕ) (r : Record) (o : Option (List ℕ)) (e : Entry) → entry_in now (version_in r) o ≡ Some e → r.0 ≡ None → ⊥
  body_there key r None e h is = none_some h
  body_there key r (Some bytes) e h is = none_some (sym (ap (λ (b : Register Body). entry_in now (version_in (b, r.1)) (Some bytes)) is) ∙ h)

  there_at : (key : List ℕ) (o : Option Entry) → ((e : Entry) → o ≡ Some e → HasBody site key) → All (λ (f : Found). HasBody site f.key) (found_at numbers key o)
  there_at key None h = (λ k d lt. absurd (omega arith))
  there_at key (Some e) h = All-cons (λ (f : Found). HasBody site f.key) _ [] (h e refl) (λ k d lt. absurd (omega arith))

  there_after : (before : List (List ℕ)) (key : List ℕ) → All (λ (f : Found). HasBody site f.key) (found_after now expiry numbers (visible_in (state_in site) now) before key)
  there_after before key = there_at key (after_touches now expiry before key (visible_in (state_in site) now key)) (λ e h. by (list_any (same_key key) before) (visible_in (state_in site) now key) refl e h)
    where
      by : (t : Bool) (o : Option Entry) → visible_in (state_in site) now key ≡ o → (e : Entry) → cond t (renewed now expiry o) o ≡ Some e → HasBody site key
      by true None is e h = absurd (none_some h)
      by false None is e h = absurd (none_some h)
      by true (Some x) is e h = body_there key ((state_in site).map key) ((state_in site).stock.held key) x is
      by false (Some x) is e h = body_there key ((state_in site).map key) ((state_in site).stock.held key) x is

  all_there : (before keys : List (List ℕ)) → All (λ (f : Found). HasBody site f.key) (touched_after now expiry numbers (visible_in (state_in site) now) before keys)
  all_there before [] = (λ k d lt. absurd (omega arith))
  all_there before (key ∷ keys) =
      All-append (λ (f : Found). HasBody site f.key) (found_after now expiry numbers (visible_in (state_in site) now) before key) (touched_after now expiry numbers (visible_in (state_in site) now) (before ++ key ∷ []) keys)
      (there_after before key) (all_there (before ++ key ∷ []) keys)

  pub touched_there : (keys : List (List ℕ)) → All (λ (f : Found). HasBody site f.key) (touched_in site now expiry keys numbers)
  touched_there keys = all_there [] keys

-- ---- what is owed to a fetch that touches
body_register : (r : Record) → (r.0 ≡ None → ⊥) → has_register r ≡ true
body_register (None, x) h = absurd (h refl)
body_register (Some b, x) h = refl

uncrowded : (site : Site) (now expiry : ℕ) (found : List Found) → All (λ (f : Found). HasBody site f.key) found → list_any (wants_record (basis_in site now).recorded) (touches_of expiry found) ≡ false
uncrowded site now expiry [] h = refl
uncrowded site now expiry (f ∷ found) h =
    (λ i. not (body_register ((state_in site).map f.key) (h 0 f (omega arith)) i) || list_any (wants_record (basis_in site now).recorded) (touches_of expiry found))
    ∙ uncrowded site now expiry found (λ k d lt. h (suc k) d (omega (arith, lt)))

module _ (old new : Site) (now : ℕ) (exptime : ℤ) (keys : List (List ℕ)) (numbers : Bool) (said : Reply) (does : FetchTouchDoes old new now (expiry_at exptime now) keys numbers said) where
  found : List Found
  found = touched_in old now (expiry_at exptime now) keys numbers

  crowded : is_crowded (basis_in old now) (touches_of (expiry_at exptime now) (touched_in old now (expiry_at exptime now) keys numbers)) ≡ false
  crowded = ap (λ t. (basis_in old now).full && t) (uncrowded old now (expiry_at exptime now) (touched_in old now (expiry_at exptime now) keys numbers) (touched_there old now (expiry_at exptime now) numbers keys)) ∙ and_false (basis_in old now).full

  owed_by : (lacking : Bool) → lacks (clock_in old) (touches_of (expiry_at exptime now) (touched_in old now (expiry_at exptime now) keys numbers)) ≡ lacking
      → owed now (basis_in old now) (FetchTouch exptime keys numbers) ≡ cond {A = Reply} lacking ClockEnded (Values (touched_in old now (expiry_at exptime now) keys numbers))
  owed_by lacking e = λ i. cond {A = Reply} (crowded i) MapFull (cond {A = Reply} (e i) ClockEnded (Values (touched_in old now (expiry_at exptime now) keys numbers)))

  some_or : (a b : Bool) → b ≡ true → a || b ≡ true
  some_or true b h = refl
  some_or false b h = h

  pub touch_answers : Answers now (basis_in old now) (FetchTouch exptime keys numbers) said
  touch_answers = elim does [
    | inl (inl d) ↦ inl (d.0 ∙ sym (owed_by false d.1))
    | inl (inr d) ↦ inl (d.0 ∙ sym (owed_by true d.1))
    | inr d ↦ inr (d.0, (λ i. some_or (list_any (is_growth (basis_in old now).recorded) (touches_of (expiry_at exptime now) (touched_in old now (expiry_at exptime now) keys numbers))) true refl i && not (crowded i) && not (d.1 i)))
  ]

  -- what is shown is touched
  pub touch_done : is_done said ≡ true → HasIssuedAfter (keys_found (touched_in old now (expiry_at exptime now) keys numbers)) old new (touches_of (expiry_at exptime now) (touched_in old now (expiry_at exptime now) keys numbers))
  touch_done t = elim does [
    | inl (inl d) ↦ d.2
    | inl (inr d) ↦ absurd (true≢false (sym t ∙ ap is_done d.0))
    | inr d ↦ absurd (true≢false (sym t ∙ ap is_done d.0))
  ]

-- a touch has no victim
pub touches_keep : (site : Site) (expiry : ℕ) (found : List Found) → victim_in site (touches_of expiry found) ≡ None
touches_keep site expiry [] = refl
touches_keep site expiry (f ∷ more) = refl

pub touches_fitting : (site : Site) (expiry : ℕ) (found : List Found) → FirstVictimFits site (touches_of expiry found)
touches_fitting site expiry [] = tt
touches_fitting site expiry (f ∷ more) = tt

-- ---- what is owed to a fetch
module _ (old new : Site) (now : ℕ) (keys : List (List ℕ)) (numbers : Bool) (said : Reply) (does : FetchDoes old new now keys numbers said) where
  pub fetch_answers : Answers now (basis_in old now) (Fetch keys numbers) said
  fetch_answers = elim does.2 [
    | inl d ↦ inl (d.0 ∙ sym (ap (λ t. cond {A = Reply} t MapFull (Values (fetched old now keys numbers))) (and_false (basis_in old now).full)))
    | inr d ↦ inr (d.0, (λ i. d.3 i && not (and_false (basis_in old now).full i) && true))
  ]
