-- What was read, one read after the other.
use Rattle.std.proofs.Common.{◌≡◌, ℕ, ◌≤◌, Bool, true, false, List, [], ◌++◌, length, take, drop, Option, None, Some, refl, sym, ap, subst, ◌∙◌, append_assoc, append-nil, take-append-drop, arith}
use Rattle.std.specs.Io.KnownBytes.{Appends, Consumes, Keeps, prepend_known}
use Rattle.std.proofs.KnownBytes.{Appends-nil, Appends-trans, Appends-kept, Consumes-nil, Consumes-trans}
use Rattle.std.proofs.lemmas.List.{take-take, take-append-le}
use Rattle.geo_link.specs.Streams.{Incoming, ReadsOn, Writes, left_in}

-- what was read stands at the front of the buffer
pub front_of : (n len : ℕ) (buf rest : List ℕ) → n ≤ length buf → length buf ≤ len → take n (take len (buf ++ rest)) ≡ take n buf
front_of n len buf rest within fits = let below : n ≤ len = omega arith in take-take n len (buf ++ rest) below ∙ take-append-le n buf rest within

-- a reader that gave nothing
pub gave_none : (a b : Option (List ℕ)) → Keeps a b → Consumes a b []
gave_none None b h = tt
gave_none (Some xs) None h = absurd h
gave_none (Some xs) (Some ys) h = sym h

pub not_failed : (failed : Bool) → (failed ≡ true → false ≡ true) → failed ≡ false
not_failed true h = let none = h refl in cc
not_failed false h = refl

pub reads_none : (v : Incoming) → ReadsOn v v
reads_none v = record { more = []; waiting = sym (append-nil v.waiting); unread = Consumes-nil v.unread }

pub reads_then : (u v w : Incoming) → ReadsOn u v → ReadsOn v w → ReadsOn u w
reads_then u v w h k = record {
  more = h.more ++ k.more;
  waiting = k.waiting ∙ ap (λ (t : List ℕ). t ++ k.more) h.waiting ∙ append_assoc u.waiting h.more k.more;
  unread = Consumes-trans u.unread v.unread w.unread h.more k.more h.unread k.unread;
}

-- what will come stays the same
prepend_kept : (a b : Option (List ℕ)) (xs ys more : List ℕ) → ys ≡ xs ++ more → Consumes a b more → Keeps (prepend_known xs a) (prepend_known ys b)
prepend_kept None b xs ys more e h = tt
prepend_kept (Some x) None xs ys more e h = absurd h
prepend_kept (Some x) (Some y) xs ys more e h = ap (λ (t : List ℕ). t ++ y) e ∙ append_assoc xs more y ∙ ap (λ (t : List ℕ). xs ++ t) (sym h)

pub reads_keep : (u v : Incoming) → ReadsOn u v → Keeps (left_in u) (left_in v)
reads_keep u v h = prepend_kept u.unread v.unread u.waiting v.waiting h.more h.waiting h.unread

-- what is written is all but the rest
pub record WritesTo (bytes rest : List ℕ) (before after : Option (List ℕ)) : Type 0 where
  pub part : List ℕ
  pub split : bytes ≡ part ++ rest
  pub written : Appends before after part

pub writes_none : (bytes : List ℕ) (a : Option (List ℕ)) → WritesTo bytes bytes a a
writes_none bytes a = record { part = []; split = refl; written = Appends-nil a }

-- one write more
pub writes_then : (bytes rest : List ℕ) (u v w : Option (List ℕ)) (count : ℕ) → WritesTo bytes rest u v → Appends v w (take count rest) → WritesTo bytes (drop count rest) u w
writes_then bytes rest u v w count h more = record {
  part = h.part ++ take count rest;
  split = h.split ∙ ap (λ (t : List ℕ). h.part ++ t) (sym (take-append-drop count rest)) ∙ sym (append_assoc h.part (take count rest) (drop count rest));
  written = Appends-trans u v w h.part (take count rest) h.written more;
}

-- all is written
pub writes_all : (bytes rest : List ℕ) (u v : Option (List ℕ)) → WritesTo bytes rest u v → rest ≡ [] → Appends u v bytes
writes_all bytes rest u v h none = subst (Appends u v) (sym (h.split ∙ ap (λ (t : List ℕ). h.part ++ t) none ∙ append-nil h.part)) h.written

-- a write that failed
pub writes_part : (bytes rest : List ℕ) (u v w : Option (List ℕ)) → WritesTo bytes rest u v → Keeps v w → Writes bytes u w
writes_part bytes rest u v w h kept = record { part = h.part; rest = rest; split = h.split; written = Appends-kept u v w h.part h.written kept }
