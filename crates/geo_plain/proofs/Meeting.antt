-- The plain program's sites and parcels are what is known, event by event.
use Rattle.std.proofs.Common.{◌≡◌, ◌≢◌, ℕ, zero, suc, ◌+◌, Bool, true, false, cond, Option, List, [], ◌∷◌, ◌++◌, length, None, Some, refl, sym, ap, ◌∙◌, subst, subst₂, inl, inr, arith, true≢false, map, slice_get, slice_set, slice_index_or}
use Rattle.std.proofs.lemmas.List.{map-append, length-append}
use Rattle.geo_stamp.specs.Stamps.{Moment}
use Rattle.geo_stamp.specs.Retired.{no_sites, set_joined, with_site}
use Rattle.geo_records.specs.Operations as spec
use Rattle.geo_records.specs.Operations.{latest}
use Rattle.geo_records.specs.Operations.Act.{Flush}
use Rattle.geo_requests.specs.declared.request.Request.{Request}
use Rattle.geo_requests.specs.declared.reply.Reply.{Reply}
use Rattle.geo_requests.specs.declared.reply.Reply.TheVariants.{MapFull, ClockEnded}
use Rattle.geo_site.specs.declared.setup.Limits.{Limits}
use Rattle.geo_site.specs.Entries.{Held, Counts, none_counted, evicted_on, replied, is_crowded, lacks, is_done, flushes_due}
use Rattle.geo_site.specs.Machine.{act_held, without, held_with}
use Rattle.geo_world.specs.Schedule as schedule
use Rattle.geo_world.specs.Schedule.{Known, never_sent, nothing_known, settles, still_held, new_operation, issues, issues_on, counts_keys, lets_go, evicts, fills, waits, flushed, visible, basis, RepliesTo, RepliesBy, learns, carried, told_retired, holds_retired}
use Rattle.geo_world.proofs.Sound.{here, held_here}
use Rattle.geo_plain.specs.declared.operation.Operation.{Operation}
use Rattle.geo_plain.specs.declared.knowledge.Knowledge.{Knowledge}
use Rattle.geo_plain.specs.declared.known.Sending.{Sending}
use Rattle.geo_world.specs.Agreement.{SiteKnown, about}
use Rattle.geo_plain.specs.Plain.{operations_of, stamped, held_after, sent_of, Knows, KeepsCounts, counts_of, shown, Meets}
use Rattle.geo_plain.proofs.Knowing.{shown_is}
use Rattle.geo_world.proofs.Worlds.{some_same, some_none, get_appended}
use Rattle.geo_world.proofs.Changing.{get_written, settled_about, put_here, put_same, filled_there, left_here, left_there, counts_here, counts_there, waits_here, waits_there, retired_here, retired_there}

module _ (sites : List Knowledge) (sent : List Sending) (w : Known) (meets : Meets sites sent w) where
  -- all sites are as they were
  pub meets_about : (v : Known) → ((t : ℕ) → about v t ≡ about w t) → v.sent ≡ w.sent → Meets sites sent v
  meets_about v same sent_same = record {
    each = λ j number site e got. subst (λ (x : SiteKnown). Knows site x.ops x.held) (sym (same number)) (meets.each j number site e got);
    counted = λ j number site e got. meets.counted j number site e got ∙ ap (λ (x : SiteKnown). x.counts) (sym (same number));
    waits = λ j number site e got. meets.waits j number site e got ∙ ap (λ (x : SiteKnown). x.waiting) (sym (same number));
    reaps = λ j number site e got. meets.reaps j number site e got ∙ ap (λ (x : SiteKnown). x.limits.reap_after) (sym (same number));
    retires = λ j number site e got. meets.retires j number site e got ∙ ap (λ (x : SiteKnown). x.set) (sym (same number));
    sent_is = meets.sent_is ∙ sym sent_same;
  }

  module _ (k s : ℕ) (at_number : s ≡ k + 1) where
    -- a site changes, and the others stay
    pub meets_changed : (new : Knowledge) (v : Known) → Knows new (v.at s) (v.held s) → counts_of new ≡ v.counts s → new.waiting ≡ v.waiting s → new.reap_after ≡ (v.limits s).reap_after → new.retired ≡ v.sets s
        → ((t : ℕ) → t ≢ s → about v t ≡ about w t) → v.sent ≡ w.sent → Meets (slice_set sites k new) sent v
    meets_changed new v knows counts waiting reap_after retired others sent_same = record {
      each = λ j number site e got. elim (get_written sites k new j site got) [
        | inl p ↦ let m : s ≡ number = let q = p.0 in omega arith in subst₂ (λ (t : ℕ) (x : Knowledge). Knows x (v.at t) (v.held t)) m (sym p.1) knows
        | inr p ↦ let ne : number ≢ s = let q = p.0 in omega arith in subst (λ (x : SiteKnown). Knows site x.ops x.held) (sym (others number ne)) (meets.each j number site e p.1)
      ];
      counted = λ j number site e got. elim (get_written sites k new j site got) [
        | inl p ↦ let m : s ≡ number = let q = p.0 in omega arith in subst₂ (λ (t : ℕ) (x : Knowledge). counts_of x ≡ v.counts t) m (sym p.1) counts
        | inr p ↦ let ne : number ≢ s = let q = p.0 in omega arith in meets.counted j number site e p.1 ∙ ap (λ (x : SiteKnown). x.counts) (sym (others number ne))
      ];
      waits = λ j number site e got. elim (get_written sites k new j site got) [
        | inl p ↦ let m : s ≡ number = let q = p.0 in omega arith in subst₂ (λ (t : ℕ) (x : Knowledge). x.waiting ≡ v.waiting t) m (sym p.1) waiting
        | inr p ↦ let ne : number ≢ s = let q = p.0 in omega arith in meets.waits j number site e p.1 ∙ ap (λ (x : SiteKnown). x.waiting) (sym (others number ne))
      ];
      reaps = λ j number site e got. elim (get_written sites k new j site got) [
        | inl p ↦ let m : s ≡ number = let q = p.0 in omega arith in subst₂ (λ (t : ℕ) (x : Knowledge). x.reap_after ≡ (v.limits t).reap_after) m (sym p.1) reap_after
        | inr p ↦ let ne : number ≢ s = let q = p.0 in omega arith in meets.reaps j number site e p.1 ∙ ap (λ (x : SiteKnown). x.limits.reap_after) (sym (others number ne))
      ];
      retires = λ j number site e got. elim (get_written sites k new j site got) [
        | inl p ↦ let m : s ≡ number = let q = p.0 in omega arith in subst₂ (λ (t : ℕ) (x : Knowledge). x.retired ≡ v.sets t) m (sym p.1) retired
        | inr p ↦ let ne : number ≢ s = let q = p.0 in omega arith in meets.retires j number site e p.1 ∙ ap (λ (x : SiteKnown). x.set) (sym (others number ne))
      ];
      sent_is = meets.sent_is ∙ sym sent_same;
    }

    module _ (old : Knowledge) (got : slice_get sites k ≡ Some old) where
      -- a site settles
      meets_settled : (new : Knowledge) (ops : List spec.Operation) (held : Held) → KeepsCounts old new → Knows new ops (still_held ops held) → Meets (slice_set sites k new) sent (settles w s ops held)
      meets_settled new ops held rests knows =
          meets_changed new (settles w s ops held) (subst₂ (Knows new) (sym (here w s ops held)) (sym (held_here w s ops held)) knows)
          (rests.counts ∙ meets.counted k s old at_number got) (rests.waiting ∙ meets.waits k s old at_number got) (rests.reap_after ∙ meets.reaps k s old at_number got) (rests.retired ∙ meets.retires k s old at_number got)
          (λ t ne. settled_about w s ops held t ne) refl

      -- it takes a parcel: it learns operations, and then holds more for retired
      pub meets_taken : (mid new : Knowledge) (parcel : ℕ) (x : Sending) (ops : List Operation) → slice_get sent parcel ≡ Some x → ops ≡ x.ops → KeepsCounts old mid
          → ((known : List spec.Operation) (held : Held) → Knows old known held → Knows mid (known ++ operations_of ops) (still_held (known ++ operations_of ops) held))
          → new ≡ record { ops = mid.ops; changes = mid.changes; hits = mid.hits; misses = mid.misses; evictions = mid.evictions; waiting = mid.waiting; reap_after = mid.reap_after; retired = set_joined mid.retired x.retired }
          → Meets (slice_set sites k new) sent (holds_retired (learns w s (carried w parcel)) s (set_joined (w.sets s) (told_retired w parcel)))
      meets_taken mid new parcel x ops there same rests does is =
          let sent_there : sent_of x ≡ slice_index_or w.sent parcel never_sent = sym (index_mapped sent parcel x there) ∙ ap (λ all. slice_index_or all parcel never_sent) meets.sent_is in
          let told : operations_of ops ≡ carried w parcel = ap operations_of same ∙ ap (λ (p : schedule.Sending). p.ops) sent_there in
          let set = set_joined (w.sets s) (told_retired w parcel) in
          let ops_now = w.at s ++ carried w parcel in
          let u = settles w s ops_now (w.held s) in
          let known : Knows mid ops_now (still_held ops_now (w.held s)) = subst (λ o. Knows mid (w.at s ++ o) (still_held (w.at s ++ o) (w.held s))) told (does (w.at s) (w.held s) (meets.each k s old at_number got)) in
          meets_changed new (holds_retired u s set)
          (subst₂ (λ (o : List spec.Operation) (h : Held). Knows new o h) (sym (here w s ops_now (w.held s))) (sym (held_here w s ops_now (w.held s))) (record {
            operations = ap (λ (k : Knowledge). operations_of k.ops.items) is ∙ known.operations;
            holds = λ key. ap (λ (k : Knowledge). held_after key None k.changes.items) is ∙ known.holds key;
          }))
          (ap counts_of is ∙ rests.counts ∙ meets.counted k s old at_number got) (ap (λ (k : Knowledge). k.waiting) is ∙ rests.waiting ∙ meets.waits k s old at_number got)
          (ap (λ (k : Knowledge). k.reap_after) is ∙ rests.reap_after ∙ meets.reaps k s old at_number got)
          (ap (λ (k : Knowledge). k.retired) is ∙ (λ i. set_joined ((rests.retired ∙ meets.retires k s old at_number got) i) (ap (λ (p : schedule.Sending). p.set) sent_there i)) ∙ sym (retired_here u s set))
          (λ t ne. retired_there u s set t ne ∙ settled_about w s ops_now (w.held s) t ne) refl
        where
          index_mapped : (all : List Sending) (p : ℕ) (x : Sending) → slice_get all p ≡ Some x → slice_index_or (map sent_of all) p never_sent ≡ sent_of x
          index_mapped [] p x h = absurd (some_none (sym h))
          index_mapped (y ∷ ys) zero x h = ap sent_of (some_same h)
          index_mapped (y ∷ ys) (suc p) x h = index_mapped ys p x h

      -- it holds one more for retired
      pub meets_retired : (new : Knowledge) (other : ℕ) → new ≡ record { ops = old.ops; changes = old.changes; hits = old.hits; misses = old.misses; evictions = old.evictions; waiting = old.waiting; reap_after = old.reap_after; retired = with_site old.retired other }
          → Meets (slice_set sites k new) sent (holds_retired w s (with_site (w.sets s) other))
      meets_retired new other is =
          let known = meets.each k s old at_number got in
          let set = with_site (w.sets s) other in
          meets_changed new (holds_retired w s set) (record {
            operations = ap (λ (k : Knowledge). operations_of k.ops.items) is ∙ known.operations;
            holds = λ key. ap (λ (k : Knowledge). held_after key None k.changes.items) is ∙ known.holds key;
          })
          (ap counts_of is ∙ meets.counted k s old at_number got) (ap (λ (k : Knowledge). k.waiting) is ∙ meets.waits k s old at_number got) (ap (λ (k : Knowledge). k.reap_after) is ∙ meets.reaps k s old at_number got)
          (ap (λ (k : Knowledge). k.retired) is ∙ ap (λ a. with_site a other) (meets.retires k s old at_number got) ∙ sym (retired_here w s set)) (λ t ne. retired_there w s set t ne) refl

      pub latest_is : latest (w.at s) ≡ latest (operations_of old.ops.items)
      latest_is = ap latest (sym (meets.each k s old at_number got).operations)

      -- what it shows is what is visible
      pub shows_visible : (now : ℕ) → shown old now ≡ visible w s now
      shows_visible now = shown_is old (w.at s) (w.held s) now (meets.each k s old at_number got)

      -- it issues an operation
      pub meets_issued : (new : Knowledge) (act : spec.Act) (stamp : Moment) → stamp ≡ record { time = latest (w.at s) + 1; site = s } → KeepsCounts old new
          → ((ops : List spec.Operation) (held : Held) → Knows old ops held → Knows new (ops ++ stamped stamp act ∷ []) (still_held (ops ++ stamped stamp act ∷ []) (act_held act held)))
          → Meets (slice_set sites k new) sent (issues w s (act ∷ []))
      meets_issued new act stamp is rests does =
          meets_settled new (w.at s ++ new_operation w s act ∷ []) (act_held act (w.held s)) rests
          (subst (λ (m : Moment). Knows new (w.at s ++ stamped m act ∷ []) (still_held (w.at s ++ stamped m act ∷ []) (act_held act (w.held s)))) is (does (w.at s) (w.held s) (meets.each k s old at_number got)))

      knows_still : (new : Knowledge) → new.ops ≡ old.ops → new.changes ≡ old.changes → Knows new (w.at s) (w.held s)
      knows_still new ops changes = let known = meets.each k s old at_number got in record {
        operations = ap (λ v. operations_of v.items) ops ∙ known.operations;
        holds = λ key. ap (λ c. held_after key None c.items) changes ∙ known.holds key;
      }

      -- it evicts the bytes of a key
      pub meets_evicted : (new : Knowledge) (key : List ℕ) → ((ops : List spec.Operation) (held : Held) → Knows old ops held → Knows new ops (without (Some key) held)) → counts_of new ≡ evicted_on (Some key) (counts_of old) → new.waiting ≡ old.waiting → new.reap_after ≡ old.reap_after → new.retired ≡ old.retired
          → Meets (slice_set sites k new) sent (evicts w s key)
      meets_evicted new key left counts waiting reap_after retired =
          let u = lets_go w s (Some key) in
          let c = evicted_on (Some key) (w.counts s) in
          meets_changed new (evicts w s key) (subst (Knows new (w.at s)) (sym (left_here w s (Some key))) (left (w.at s) (w.held s) (meets.each k s old at_number got)))
          (counts ∙ ap (evicted_on (Some key)) (meets.counted k s old at_number got) ∙ sym (counts_here u s c)) (waiting ∙ meets.waits k s old at_number got) (reap_after ∙ meets.reaps k s old at_number got) (retired ∙ meets.retires k s old at_number got)
          (λ t ne. counts_there u s c t ne ∙ left_there w s (Some key) t ne) refl

      -- it holds bytes that were offered
      pub meets_filled : (new : Knowledge) (key bytes : List ℕ) → ((ops : List spec.Operation) (held : Held) → Knows old ops held → Knows new ops (held_with key bytes held)) → KeepsCounts old new → Meets (slice_set sites k new) sent (fills w s key bytes)
      meets_filled new key bytes holds rests =
          meets_changed new (fills w s key bytes) (subst (Knows new (w.at s)) (sym (put_here w.held s (held_with key bytes (w.held s)))) (holds (w.at s) (w.held s) (meets.each k s old at_number got)))
          (rests.counts ∙ meets.counted k s old at_number got) (rests.waiting ∙ meets.waits k s old at_number got) (rests.reap_after ∙ meets.reaps k s old at_number got) (rests.retired ∙ meets.retires k s old at_number got)
          (λ t ne. filled_there w s key bytes t ne) refl

      -- it counts keys
      pub meets_counted : (new : Knowledge) (counts : Counts) → new.ops ≡ old.ops → new.changes ≡ old.changes → new.waiting ≡ old.waiting → new.reap_after ≡ old.reap_after → new.retired ≡ old.retired → counts_of new ≡ counts → Meets (slice_set sites k new) sent (counts_keys w s counts)
      meets_counted new counts ops changes waiting reap_after retired is =
          meets_changed new (counts_keys w s counts) (knows_still new ops changes) (is ∙ sym (counts_here w s counts)) (waiting ∙ meets.waits k s old at_number got) (reap_after ∙ meets.reaps k s old at_number got) (retired ∙ meets.retires k s old at_number got)
          (λ t ne. counts_there w s counts t ne) refl

      -- a flush waits there from now on, or none does
      pub meets_waits : (new : Knowledge) (waiting : Option ℕ) → new.ops ≡ old.ops → new.changes ≡ old.changes → counts_of new ≡ counts_of old → new.reap_after ≡ old.reap_after → new.retired ≡ old.retired → new.waiting ≡ waiting → Meets (slice_set sites k new) sent (waits w s waiting)
      meets_waits new waiting ops changes counts reap_after retired is =
          meets_changed new (waits w s waiting) (knows_still new ops changes) (counts ∙ meets.counted k s old at_number got) (is ∙ sym (waits_here w s waiting)) (reap_after ∙ meets.reaps k s old at_number got) (retired ∙ meets.retires k s old at_number got)
          (λ t ne. waits_there w s waiting t ne) refl

      -- what it knows goes into a parcel
      pub meets_sent : (to : ℕ) (x : Sending) → x ≡ record { from = s; to = to; retired = old.retired; ops = old.ops.items } → Meets sites (sent ++ x ∷ []) (record { at = w.at; held = w.held; counts = w.counts; waiting = w.waiting; limits = w.limits; sets = w.sets; sites = w.sites; sent = w.sent ++ record { from = s; to = to; set = w.sets s; ops = w.at s } ∷ [] })
      meets_sent to x is =
          let known = (meets.each k s old at_number got).operations in
          let held = meets.retires k s old at_number got in
          let told : sent_of x ≡ record { from = s; to = to; set = w.sets s; ops = w.at s } = ap sent_of is ∙ (λ i. record { from = s; to = to; set = held i; ops = known i }) in
          record {
            each = meets.each;
            counted = meets.counted;
            waits = meets.waits;
            reaps = meets.reaps;
            retires = meets.retires;
            sent_is = map-append sent_of sent (x ∷ []) ∙ (λ i. meets.sent_is i ++ told i ∷ []);
          }

-- one site more, that knows nothing
pub counts_more : {A : Type 0} (xs ys : List A) (x : A) (n : ℕ) → ys ≡ xs ++ x ∷ [] → length xs ≡ n → length ys ≡ n + 1
counts_more xs ys x n more many = ap length more ∙ length-append xs (x ∷ []) ∙ ap (λ m. m + 1) many

pub meets_more : (total : ℕ) (limits : ℕ → Limits) (sites more : List Knowledge) (new : Knowledge) (n : ℕ) → length sites ≡ n → more ≡ sites ++ new ∷ [] → new.ops.items ≡ [] → new.changes.items ≡ [] → counts_of new ≡ none_counted → new.waiting ≡ None → new.reap_after ≡ (limits (n + 1)).reap_after → new.retired ≡ no_sites
    → Meets sites [] (nothing_known total limits) → Meets more [] (nothing_known total limits)
meets_more total limits sites more new n many is ops changes counts waiting reap_after retired meets = record {
  each = λ k number site e got. elim (get_appended sites new k site (ap (λ all. slice_get all k) (sym is) ∙ got)) [
    | inl old ↦ meets.each k number site e old
    | inr p ↦ subst (λ (s : Knowledge). Knows s [] (λ _. None)) (sym p.1) (record { operations = ap operations_of ops; holds = λ key. ap (held_after key None) changes })
  ];
  counted = λ k number site e got. elim (get_appended sites new k site (ap (λ all. slice_get all k) (sym is) ∙ got)) [
    | inl old ↦ meets.counted k number site e old
    | inr p ↦ subst (λ (s : Knowledge). counts_of s ≡ none_counted) (sym p.1) counts
  ];
  waits = λ k number site e got. elim (get_appended sites new k site (ap (λ all. slice_get all k) (sym is) ∙ got)) [
    | inl old ↦ meets.waits k number site e old
    | inr p ↦ subst (λ (s : Knowledge). s.waiting ≡ None) (sym p.1) waiting
  ];
  reaps = λ k number site e got. elim (get_appended sites new k site (ap (λ all. slice_get all k) (sym is) ∙ got)) [
    | inl old ↦ meets.reaps k number site e old
    | inr p ↦ let m : n + 1 ≡ number = let q = p.0 in omega arith in subst₂ (λ (t : ℕ) (s : Knowledge). s.reap_after ≡ (limits t).reap_after) m (sym p.1) reap_after
  ];
  retires = λ k number site e got. elim (get_appended sites new k site (ap (λ all. slice_get all k) (sym is) ∙ got)) [
    | inl old ↦ meets.retires k number site e old
    | inr p ↦ subst (λ (s : Knowledge). s.retired ≡ no_sites) (sym p.1) retired
  ];
  sent_is = refl;
}

pub meets_none : (n : ℕ) (limits : ℕ → Limits) (sites : List Knowledge) → sites ≡ [] → Meets sites [] (nothing_known n limits)
meets_none n limits sites none = subst (λ (all : List Knowledge). Meets all [] (nothing_known n limits)) (sym none) (record {
  each = λ k number site e got. absurd (some_none (sym got));
  counted = λ k number site e got. absurd (some_none (sym got));
  waits = λ k number site e got. absurd (some_none (sym got));
  reaps = λ k number site e got. absurd (some_none (sym got));
  retires = λ k number site e got. absurd (some_none (sym got));
  sent_is = refl;
})

-- ---- a site that waits as it waited, or where no bytes go, is as it was
module _ (sites : List Knowledge) (sent : List Sending) (w : Known) (s : ℕ) where
  pub still_waits : (x : Option ℕ) → x ≡ w.waiting s → Meets sites sent w → Meets sites sent (waits w s x)
  still_waits x e meets = meets_about sites sent w meets (waits w s x) (λ t. let ws = put_same w.waiting s x e t in λ i. record { ops = w.at t; held = w.held t; counts = w.counts t; waiting = ws i; limits = w.limits t; set = w.sets t }) refl

  pub still_there : Meets sites sent w → Meets sites sent (counts_keys (lets_go w s None) s (w.counts s))
  still_there meets = meets_about sites sent w meets (counts_keys (lets_go w s None) s (w.counts s))
      (λ t. let hs = put_same w.held s (without None (w.held s)) refl t in let cs = put_same w.counts s (w.counts s) refl t in λ i. record { ops = w.at t; held = hs i; counts = cs i; waiting = w.waiting t; limits = w.limits t; set = w.sets t }) refl

  -- a due flush, by whether there is one
  pub flushed_kept : (now : ℕ) (b : Bool) → flushes_due (w.waiting s) (latest (w.at s)) now ≡ b → Meets sites sent (waits (issues w s (cond {A = List spec.Act} b (Flush ∷ []) [])) s (cond b None (w.waiting s))) → Meets sites sent (flushed w s now)
  flushed_kept now b e meets = subst (λ b. Meets sites sent (waits (issues w s (cond {A = List spec.Act} b (Flush ∷ []) [])) s (cond b None (w.waiting s)))) (sym e) meets

-- what was done was not refused for want of a stamp
pub done_has_stamp : (w : Known) (s now : ℕ) (request : Request) (reply : Reply) → is_done reply ≡ true → lacks (latest (w.at s)) (issues_on w s now request) ≡ true → RepliesTo w s now request reply → ⊥
done_has_stamp w s now request reply done ended h = elim h.answers [
  | inl e ↦ refused (is_crowded (basis w s now h.kept h.records h.items) (issues_on w s now request)) (e ∙ (λ i. cond {A = Reply} (is_crowded (basis w s now h.kept h.records h.items) (issues_on w s now request)) MapFull (cond {A = Reply} (ended i) ClockEnded (replied now (visible w s now) (basis w s now h.kept h.records h.items).stats request))))
  | inr e ↦ true≢false (sym done ∙ ap is_done e.0)
]
  where
    refused : (t : Bool) → reply ≡ cond {A = Reply} t MapFull ClockEnded → ⊥
    refused true e = true≢false (sym done ∙ ap is_done e)
    refused false e = true≢false (sym done ∙ ap is_done e)

-- nor after a due flush, where no stamp may be left for that
pub done_has_stamp_by : (b : Bool) (w : Known) (s now : ℕ) (request : Request) (reply : Reply) → is_done reply ≡ true → lacks (latest (w.at s)) (issues_on w s now request) ≡ true → RepliesBy b w s now request reply → ⊥
done_has_stamp_by true w s now request reply done ended h = true≢false (sym done ∙ ap is_done h)
done_has_stamp_by false w s now request reply done ended h = done_has_stamp w s now request reply done ended h
