-- A script whose input comes piece by piece.
use Rattle.std.proofs.Common.{◌≡◌, ℕ, ◌==◌, true, false, cond, refl, ◌<◌, ◌≤◌, arith, take, List, [], ◌∷◌, ◌++◌, length, Option, Some, None, sym, ap, subst, ◌∙◌, append-nil, length-append, IfSome}
use Rattle.std.proofs.lemmas.List.{take-take, take-append-le}
use Rattle.std.specs.Io.KnownBytes.{Consumes, IsAtEnd}
use Rattle.std.proofs.KnownBytes.{Consumes-trans, Consumes-whole}
use Rattle.geo_cluster.specs.Lines.{ended_in, left_in, last_line, lines_of}
use Rattle.geo_cluster.specs.Runs.{Advances, Stops}
use Rattle.geo_cluster.specs.declared.script.fault.ScriptFault.{ScriptFault}
use Rattle.geo_cluster.specs.declared.script.run.Run.{Run}
use Rattle.geo_cluster.proofs.Cutting.{ended-append, left-append, lines_more, last_full, last_empty}
use Rattle.geo_cluster.specs.declared.script.fault.ScriptFault.TheVariants.{Memory}
use Rattle.geo_cluster.proofs.Playing.{advance_then, stop_after, stop_more, stop_wanting}

-- what a reader gave is a beginning of what it had
consumed : (a b : Option (List ℕ)) (bs : List ℕ) (P : List ℕ → Type 0) → Consumes a b bs → ((more : List ℕ) → P (bs ++ more)) → IfSome a P
consumed None b bs P h k = tt
consumed (Some xs) None bs P h k = absurd h
consumed (Some xs) (Some ys) bs P h k = subst P (sym h) (k ys)

-- a fault in what was read is a fault in the whole input
pub stops_in_all : (fault : ScriptFault) (a : Run) (xs : List ℕ) (u v r s : Option (List ℕ)) (waits : List ℕ) → Consumes r s xs → Stops fault a (ended_in [] xs) u v waits → IfSome r (λ input. Stops fault a (lines_of input) u v waits)
stops_in_all fault a xs u v r s waits read h = consumed r s xs (λ input. Stops fault a (lines_of input) u v waits) read (λ more.
    subst (λ (x : List (List ℕ)). Stops fault a x u v waits) (sym (lines_more xs more)) (stop_more fault a (ended_in [] xs) (ended_in (left_in [] xs) more ++ last_line (left_in [] (xs ++ more))) u v waits h))

-- the next line begins by what stands behind the last line end
record LongFirst (lines : List (List ℕ)) : Type 0 where
  line : List ℕ
  more : List (List ℕ)
  first : lines ≡ line ∷ more
  long : 16384 < length line

long_first : (begun more : List ℕ) → 16384 < length begun → LongFirst (ended_in begun more ++ last_line (left_in begun more))
long_first begun [] h = record { line = begun; more = []; first = last_full begun (omega (arith, h)); long = h }
long_first begun (b ∷ bs) h =
    elim (b == 10) as (λ t. LongFirst (cond t (begun ∷ ended_in [] bs) (ended_in (begun ++ b ∷ []) bs) ++ last_line (cond t (left_in [] bs) (left_in (begun ++ b ∷ []) bs)))) [
      | true ↦ record { line = begun; more = ended_in [] bs ++ last_line (left_in [] bs); first = refl; long = h }
      | false ↦ long_first (begun ++ b ∷ []) bs (omega (arith, h, length-append begun (b ∷ [])))
    ]

-- want of memory for a line of which much was read
pub stops_long : (a b : Run) (xs left : List ℕ) (u v r s : Option (List ℕ)) → Consumes r s xs → Advances a b (ended_in [] xs) u v → left ≡ left_in [] xs → 16384 < length left → IfSome r (λ input. Stops Memory a (lines_of input) u v b.out.items)
stops_long a b xs left u v r s read h is long = consumed r s xs (λ input. Stops Memory a (lines_of input) u v b.out.items) read (λ more.
    let next = long_first left more long in
    subst (λ (x : List (List ℕ)). Stops Memory a x u v b.out.items)
    (ap (λ (x : List (List ℕ)). ended_in [] xs ++ x) (sym next.first ∙ ap (λ (x : List ℕ). ended_in x more ++ last_line (left_in x more)) is ∙ ap (λ (x : List ℕ). ended_in (left_in [] xs) more ++ last_line x) (sym (left-append [] xs more)))
    ∙ sym (lines_more xs more))
    (stop_wanting a b (ended_in [] xs) next.line next.more u v next.long h))

-- one more piece
pub read_on : (r s t : Option (List ℕ)) (xs ys : List ℕ) → Consumes r s xs → Consumes s t ys → Consumes r t (xs ++ ys)
read_on r s t xs ys h k = Consumes-trans r s t xs ys h k

pub read_none : (r s t : Option (List ℕ)) (xs ys : List ℕ) → ys ≡ [] → Consumes r s xs → Consumes s t ys → Consumes r t xs
read_none r s t xs ys none h k = subst (λ (x : List ℕ). Consumes r t x) (ap (λ (y : List ℕ). xs ++ y) none ∙ append-nil xs) (Consumes-trans r s t xs ys h k)

pub piece_advances : (a b c : Run) (xs ys : List ℕ) (u v w : Option (List ℕ)) → b.unfinished.items ≡ left_in [] xs → Advances a b (ended_in [] xs) u v → Advances b c (ended_in b.unfinished.items ys) v w → Advances a c (ended_in [] (xs ++ ys)) u w
piece_advances a b c xs ys u v w left h k =
    subst (λ (x : List (List ℕ)). Advances a c x u w) (ap (λ (x : List ℕ). ended_in [] xs ++ ended_in x ys) left ∙ sym (ended-append [] xs ys)) (advance_then a b c (ended_in [] xs) (ended_in b.unfinished.items ys) u v w h k)

pub piece_stops : (fault : ScriptFault) (a b : Run) (xs ys : List ℕ) (u v w : Option (List ℕ)) (waits : List ℕ) → b.unfinished.items ≡ left_in [] xs → Advances a b (ended_in [] xs) u v → Stops fault b (ended_in b.unfinished.items ys) v w waits → Stops fault a (ended_in [] (xs ++ ys)) u w waits
piece_stops fault a b xs ys u v w waits left h k =
    subst (λ (x : List (List ℕ)). Stops fault a x u w waits) (ap (λ (x : List ℕ). ended_in [] xs ++ ended_in x ys) left ∙ sym (ended-append [] xs ys)) (stop_after fault a b (ended_in [] xs) (ended_in b.unfinished.items ys) u v w waits h k)

pub piece_left : (b : Run) (xs ys left : List ℕ) → b.unfinished.items ≡ left_in [] xs → left ≡ left_in b.unfinished.items ys → left ≡ left_in [] (xs ++ ys)
piece_left b xs ys left was is = is ∙ ap (λ (x : List ℕ). left_in x ys) was ∙ sym (left-append [] xs ys)

-- a last line, and none
last_is : (unfinished xs : List ℕ) → unfinished ≡ left_in [] xs → 0 < length unfinished → lines_of xs ≡ ended_in [] xs ++ (unfinished ++ []) ∷ []
last_is unfinished xs left some = ap (λ (x : List (List ℕ)). ended_in [] xs ++ x) (ap last_line (sym left) ∙ last_full unfinished some ∙ ap (λ (x : List ℕ). x ∷ []) (sym (append-nil unfinished)))

pub last_advances : (a b c : Run) (xs : List ℕ) (u v w r s : Option (List ℕ)) → b.unfinished.items ≡ left_in [] xs → 0 < length b.unfinished.items → Consumes r s xs → IsAtEnd s → Advances a b (ended_in [] xs) u v → Advances b c ((b.unfinished.items ++ []) ∷ []) v w → IfSome r (λ input. Advances a c (lines_of input) u w)
last_advances a b c xs u v w r s left some read end h k = Consumes-whole r s xs (λ input. Advances a c (lines_of input) u w) read end
    (subst (λ (x : List (List ℕ)). Advances a c x u w) (sym (last_is b.unfinished.items xs left some)) (advance_then a b c (ended_in [] xs) ((b.unfinished.items ++ []) ∷ []) u v w h k))

pub last_stops : (fault : ScriptFault) (a b : Run) (xs : List ℕ) (u v w r s : Option (List ℕ)) (waits : List ℕ) → b.unfinished.items ≡ left_in [] xs → 0 < length b.unfinished.items → Consumes r s xs → IsAtEnd s → Advances a b (ended_in [] xs) u v → Stops fault b ((b.unfinished.items ++ []) ∷ []) v w waits → IfSome r (λ input. Stops fault a (lines_of input) u w waits)
last_stops fault a b xs u v w r s waits left some read end h k = Consumes-whole r s xs (λ input. Stops fault a (lines_of input) u w waits) read end
    (subst (λ (x : List (List ℕ)). Stops fault a x u w waits) (sym (last_is b.unfinished.items xs left some)) (stop_after fault a b (ended_in [] xs) ((b.unfinished.items ++ []) ∷ []) u v w waits h k))

pub none_advances : (a b : Run) (xs : List ℕ) (u v r s : Option (List ℕ)) → b.unfinished.items ≡ left_in [] xs → length b.unfinished.items ≡ 0 → Consumes r s xs → IsAtEnd s → Advances a b (ended_in [] xs) u v → IfSome r (λ input. Advances a b (lines_of input) u v)
none_advances a b xs u v r s left none read end h = Consumes-whole r s xs (λ input. Advances a b (lines_of input) u v) read end
    (subst (λ (x : List (List ℕ)). Advances a b x u v) (sym (ap (λ (x : List (List ℕ)). ended_in [] xs ++ x) (ap last_line (sym left) ∙ last_empty b.unfinished.items none) ∙ append-nil (ended_in [] xs))) h)

-- what was read stands at the front of the buffer
pub front_of : (n len : ℕ) (buf rest : List ℕ) → n ≤ length buf → length buf ≤ len → take n (take len (buf ++ rest)) ≡ take n buf
front_of n len buf rest within fits = let below : n ≤ len = omega arith in take-take n len (buf ++ rest) below ∙ take-append-le n buf rest within

-- an input of which so much was read is as long
pub reads_long : (r s : Option (List ℕ)) (xs : List ℕ) (n : ℕ) → Consumes r s xs → n ≤ length xs → IfSome r (λ input. n ≤ length input)
reads_long r s xs n read h = consumed r s xs (λ input. n ≤ length input) read (λ more. omega (arith, h, length-append xs more))
