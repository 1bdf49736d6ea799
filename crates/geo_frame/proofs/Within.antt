-- What the tests of the ranges say.
use Rattle.std.proofs.Common.{◌≡◌, ℕ, ◌≤◌, Bool, true, Option, arith, sym, ◌∙◌}
use Rattle.std.specs.Prelude.{List, [], ◌∷◌, length, ◌↔◌, IsTrue}
use Rattle.std.specs.Option.{IfSome}
use Rattle.geo_delta.specs.Ranges.{sites_fit}
use Rattle.geo_records.specs.Keys.{is_key}
use Rattle.geo_records.specs.Lengths.{longest_value}
use Rattle.geo_frame.specs.Payloads.{Wanted, PayloadInRange}
use Rattle.geo_frame.specs.Payloads.Payload.{Asks, Offers}

pub sites_most : (from to n : ℕ) → sites_fit from to n ≡ true → n ≤ 16
unfolding sites_fit
sites_most from to n h = grind arith

pub sites_least : (from to n : ℕ) → sites_fit from to n ≡ true → 2 ≤ n
unfolding sites_fit
sites_least from to n h = grind arith

pub key_least : (key : List ℕ) → is_key key ≡ true → 1 ≤ length key
key_least [] h = absurd cc
key_least (b ∷ key) h = omega arith

-- a key and a digest will do
pub ask_in_range : (fits : Bool) (w : Wanted) → fits ≡ sites_fit w.route.from w.route.to w.route.sites → is_key w.key ≡ true → length w.digest ≡ 32 → IsTrue fits ↔ PayloadInRange (Asks w)
ask_in_range fits w e key digest = ((λ h. record { sites = sym e ∙ h; key = key; digest = digest }), λ r. e ∙ r.sites)

pub offer_in_range : (fits : Bool) (w : Wanted) (b : Option (List ℕ)) → (IsTrue fits ↔ ((sites_fit w.route.from w.route.to w.route.sites ≡ true) × IfSome b (λ x. length x ≤ longest_value))) → is_key w.key ≡ true → length w.digest ≡ 32
    → IsTrue fits ↔ PayloadInRange (Offers w b)
offer_in_range fits w b e key digest = ((λ h. let p = e.0 h in (record { sites = p.0; key = key; digest = digest }, p.1)), λ r. e.1 (r.0.sites, r.1))
