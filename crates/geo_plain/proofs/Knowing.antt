-- What a site of the plain program knows and holds, change by change.
use Rattle.std.proofs.Common.{◌≡◌, ℕ, List, [], ◌∷◌, ◌++◌, Option, None, Some, refl, ap, ◌∙◌}
use Rattle.std.proofs.lemmas.List.{map-append}
use Rattle.geo_records.specs.Operations as spec
use Rattle.geo_stamp.specs.Stamps.{Moment}
use Rattle.geo_site.specs.Entries.{Held, named_by, entry_in}
use Rattle.geo_site.specs.Machine.{act_held, without, held_with}
use Rattle.geo_world.specs.Schedule.{still_held}
use Rattle.geo_plain.specs.declared.operation.Operation.{Operation}
use Rattle.geo_plain.specs.declared.operation.Written.{Written}
use Rattle.geo_plain.specs.declared.operation.Act.{Act}
use Rattle.geo_plain.specs.declared.operation.Act.TheVariants.{Write}
use Rattle.geo_plain.specs.declared.knowledge.Change.{Change}
use Rattle.geo_plain.specs.declared.knowledge.Change.TheVariants.{Wrote, Dropped, Settled}
use Rattle.geo_plain.specs.declared.knowledge.Knowledge.{Knowledge}
use Rattle.geo_plain.specs.Plain.{act_of, operations_of, stamped, after, held_after, shown, Knows, KeepsCounts}

-- one change more
pub held_more : (key : List ℕ) (held : Option (List ℕ)) (changes : List Change) (change : Change) → held_after key held (changes ++ change ∷ []) ≡ after change key (held_after key held changes)
held_more key held [] change = refl
held_more key held (c ∷ changes) change = held_more key (after c key held) changes change

-- a site drops what its versions do not name
pub knows_settled : (old new : Knowledge) (known : List Operation) → known ≡ old.ops.items → new.ops ≡ old.ops → new.changes.items ≡ old.changes.items ++ Settled known ∷ []
    → (ops : List spec.Operation) (held : Held) → Knows old ops held → Knows new ops (still_held ops held)
knows_settled old new known is same more ops held k = record {
  operations = ap (λ v. operations_of v.items) same ∙ k.operations;
  holds = λ key.
      let means : operations_of known ≡ ops = ap operations_of is ∙ k.operations in
      ap (held_after key None) more ∙ held_more key None old.changes.items (Settled known) ∙ (λ i. named_by (spec.version_of (means i) key) (k.holds key i));
}

-- a site holds what it writes, and has not issued it yet
pub knows_wrote : (old new : Knowledge) (w : Written) (key bytes : List ℕ) → key ≡ w.key → bytes ≡ w.bytes → new.ops ≡ old.ops → new.changes.items ≡ old.changes.items ++ Wrote key bytes ∷ []
    → (ops : List spec.Operation) (held : Held) → Knows old ops held → Knows new ops (act_held (act_of (Write w)) held)
knows_wrote old new w own bytes own_is bytes_are same more ops held k = record {
  operations = ap (λ v. operations_of v.items) same ∙ k.operations;
  holds = λ key. ap (held_after key None) more ∙ held_more key None old.changes.items (Wrote own bytes) ∙ (λ i. after (Wrote (own_is i) (bytes_are i)) key (k.holds key i));
}

-- a site holds bytes that were offered
pub knows_filled : (old new : Knowledge) (own key given bytes : List ℕ) → own ≡ key → given ≡ bytes → new.ops ≡ old.ops → new.changes.items ≡ old.changes.items ++ Wrote own given ∷ []
    → (ops : List spec.Operation) (held : Held) → Knows old ops held → Knows new ops (held_with key bytes held)
knows_filled old new own key given bytes own_is bytes_are same more ops held k = record {
  operations = ap (λ v. operations_of v.items) same ∙ k.operations;
  holds = λ q. ap (held_after q None) more ∙ held_more q None old.changes.items (Wrote own given) ∙ (λ i. after (Wrote (own_is i) (bytes_are i)) q (k.holds q i));
}

-- a site evicts the bytes of a key
pub knows_dropped : (old new : Knowledge) (own key : List ℕ) → own ≡ key → new.ops ≡ old.ops → new.changes.items ≡ old.changes.items ++ Dropped own ∷ []
    → (ops : List spec.Operation) (held : Held) → Knows old ops held → Knows new ops (without (Some key) held)
knows_dropped old new own key own_is same more ops held k = record {
  operations = ap (λ v. operations_of v.items) same ∙ k.operations;
  holds = λ q. ap (held_after q None) more ∙ held_more q None old.changes.items (Dropped own) ∙ (λ i. after (Dropped (own_is i)) q (k.holds q i));
}

-- a site has issued an operation, and not settled yet
pub knows_issued : (old new : Knowledge) (stamp : Moment) (act : Act) → new.ops.items ≡ old.ops.items ++ record { stamp = stamp; act = act } ∷ [] → new.changes ≡ old.changes
    → (ops : List spec.Operation) (held : Held) → Knows old ops held → Knows new (ops ++ stamped stamp (act_of act) ∷ []) held
knows_issued old new stamp act one same ops held k = record {
  operations = ap operations_of one ∙ map-append _ old.ops.items (record { stamp = stamp; act = act } ∷ []) ∙ ap (λ o. o ++ stamped stamp (act_of act) ∷ []) k.operations;
  holds = λ q. ap (λ c. held_after q None c.items) same ∙ k.holds q;
}

-- a site has learned operations, and not settled yet
pub knows_learned : (old new : Knowledge) (known : List Operation) → new.ops.items ≡ old.ops.items ++ known → new.changes ≡ old.changes
    → (ops : List spec.Operation) (held : Held) → Knows old ops held → Knows new (ops ++ operations_of known) held
knows_learned old new known more same ops held k = record {
  operations = ap operations_of more ∙ map-append _ old.ops.items known ∙ ap (λ o. o ++ operations_of known) k.operations;
  holds = λ key. ap (λ c. held_after key None c.items) same ∙ k.holds key;
}

-- so what it shows is what is visible
pub shown_is : (site : Knowledge) (ops : List spec.Operation) (held : Held) (now : ℕ) → Knows site ops held → shown site now ≡ (λ key. entry_in now (spec.version_of ops key) (held key))
shown_is site ops held now k = λ i key. entry_in now (spec.version_of (k.operations i) key) (k.holds key i)

-- what rests from one change to the next
pub rests_on : (old mid new : Knowledge) → KeepsCounts old mid → KeepsCounts mid new → KeepsCounts old new
rests_on old mid new a b = record { counts = b.counts ∙ a.counts; waiting = b.waiting ∙ a.waiting; reap_after = b.reap_after ∙ a.reap_after; retired = b.retired ∙ a.retired }
