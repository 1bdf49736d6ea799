-- What a call under the lock tells of the station's answer.
use Rattle.std.proofs.Common.{◌≡◌, ℕ, Bool, List, Result, Ok, Err, IfOk, subst}
use Rattle.std.specs.declared.alloc.AllocError.{AllocError}
use Rattle.geo_delta.specs.declared.parcel.Parcel.{Parcel}
use Rattle.geo_requests.specs.declared.request.Request.{Request}
use Rattle.geo_requests.specs.declared.reply.Reply.{Reply}
use Rattle.geo_site.specs.declared.exchange.Taken.{Taken}
use Rattle.geo_site.specs.declared.fill.Filled.{Filled}
use Rattle.geo_site.specs.declared.refusal.RetireError.{RetireError}
use Rattle.geo_history.specs.Keeping.{Story, IsKept, FillForDoes, RetireForDoes}
use Rattle.geo_station.specs.declared.refusal.CallError.{CallError}
use Rattle.geo_station.specs.Receipts.{AnswersFrom, AnswersOnce, IsAnswer, RetiresOnce, IsRetirement, FillsOnce, IsFilling}

pub is_answer : (old : Story) (seat number now : ℕ) (request asked : Request) (reply kept : Reply) → number ≡ seat → asked ≡ request → kept ≡ reply
    → AnswersOnce old number now asked (Ok (reply, kept)) → IsAnswer seat now request reply
is_answer old seat number now request asked reply kept n a k once = record {
  old = old;
  new = once.1.0;
  lawful = once.0;
  answers = subst (λ s. AnswersFrom old once.1.0 s now request (reply, reply)) n
      (subst (λ q. AnswersFrom old once.1.0 number now q (reply, reply)) a
      (subst (λ x. AnswersFrom old once.1.0 number now asked (reply, x)) k once.1.1));
}

pub retired_once : (old new : Story) (seat other : ℕ) (r : Result Bool (CallError RetireError)) → ∥ IsKept old ∥₁
    → IfOk r (λ fresh. RetireForDoes old new seat other (Ok fresh)) → IfOk r (RetiresOnce old seat other)
retired_once old new seat other (Ok fresh) kept does = (kept, (new, does))
retired_once old new seat other (Err why) kept does = tt

pub retirement_of : (old : Story) (seat number other : ℕ) (r : Result Bool (CallError RetireError)) → number ≡ seat → IfOk r (RetiresOnce old number other)
    → IfOk r (IsRetirement seat other)
retirement_of old seat number other (Ok fresh) n once = record {
  old = old;
  new = once.1.0;
  lawful = once.0;
  retires = subst (λ s. RetireForDoes old once.1.0 s other (Ok fresh)) n once.1.1;
}
retirement_of old seat number other (Err why) n once = tt

pub filling_of : (old : Story) (seat number : ℕ) (key bytes offered : List ℕ) (r : Result Filled (CallError AllocError)) → number ≡ seat → offered ≡ bytes
    → FillsOnce old number key offered r → IfOk r (IsFilling seat key bytes)
filling_of old seat number key bytes offered (Ok filled) n b once = record {
  old = old;
  new = once.1.0;
  lawful = once.0;
  fills = subst (λ s. FillForDoes old once.1.0 s key bytes (Ok filled)) n (subst (λ x. FillForDoes old once.1.0 number key x (Ok filled)) b once.1.1);
}
filling_of old seat number key bytes offered (Err why) n b once = tt
