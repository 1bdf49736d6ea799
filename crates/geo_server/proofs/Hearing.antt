-- What a link keeps at each of its calls it keeps until no more is heard.
use Rattle.std.proofs.Common.{◌≡◌, inl, inr, ℕ, List, [], ◌∷◌, Option, Some, None, ap, ◌∙◌}
use Rattle.geo_frame.specs.declared.message.Message.{Message}
use Rattle.geo_frame.specs.declared.message.Message.TheVariants as message
use Rattle.geo_frame.specs.Payloads.{Payload}
use Rattle.geo_gossip.specs.Receiving.Came.{Got, Asked, Passed, Missed}
use Rattle.geo_gossip.specs.Receiving.{Came, Ends, HearsAll, HearsOut, LacksMemory, PutsOr}
use Rattle.geo_link.specs.declared.fault.LinkError.{LinkError}
use Rattle.geo_link.specs.declared.fault.LinkError.TheVariants.{Closed, Memory}
use Rattle.geo_station.specs.Seats.{Seated}

-- what is seen of a link stays at each put and each get
pub record Keeps {K V : Type 0} (puts gets : K → Message → K → Type 0) (put_fails : K → Message → LinkError → K → Type 0) (get_fails : K → LinkError → K → Type 0) (view : K → V) : Type 0 where
  pub put : (old : K) (m : Message) (new : K) → puts old m new → view new ≡ view old
  pub got : (old : K) (m : Message) (new : K) → gets old m new → view new ≡ view old
  pub unput : (old : K) (m : Message) (e : LinkError) (new : K) → put_fails old m e new → view new ≡ view old
  pub missed : (old : K) (e : LinkError) (new : K) → get_fails old e new → view new ≡ view old

kept_put : {K V : Type 0} (puts gets : K → Message → K → Type 0) (put_fails : K → Message → LinkError → K → Type 0) (get_fails : K → LinkError → K → Type 0) (view : K → V)
    → Keeps puts gets put_fails get_fails view → (m : Message) (failed : Option LinkError) (old new : K) → PutsOr puts put_fails m failed old new → view new ≡ view old
kept_put puts gets put_fails get_fails view keeps m None old new put = keeps.put old m new put
kept_put puts gets put_fails get_fails view keeps m (Some why) old new put = keeps.unput old m why new put.0

kept_all : {K V : Type 0} (puts gets : K → Message → K → Type 0) (put_fails : K → Message → LinkError → K → Type 0) (get_fails : K → LinkError → K → Type 0) (view : K → V)
    → Keeps puts gets put_fails get_fails view → (came : List Came) (old new : K) (seat after : Seated) → HearsAll puts gets put_fails get_fails came old new seat after → view new ≡ view old
kept_all puts gets put_fails get_fails view keeps [] old new seat after (same, kept) = ap view same
kept_all puts gets put_fails get_fails view keeps (Got parcel answer ∷ more) old new seat after (mid, between, heard, rest) =
    kept_all puts gets put_fails get_fails view keeps more mid new between after rest ∙ keeps.got old (message.Parcel parcel) mid heard.0
kept_all puts gets put_fails get_fails view keeps (Asked ask failed ∷ more) old new seat after (mid, between, (far, got, offered, same), rest) =
    kept_all puts gets put_fails get_fails view keeps more mid new between after rest ∙ kept_put puts gets put_fails get_fails view keeps offered.offer failed far mid offered.put ∙ keeps.got old ask far got
kept_all puts gets put_fails get_fails view keeps (Passed other ∷ more) old new seat after (mid, between, heard, rest) =
    kept_all puts gets put_fails get_fails view keeps more mid new between after rest ∙ keeps.got old other mid heard.0
kept_all puts gets put_fails get_fails view keeps (Missed why ∷ more) old new seat after (mid, between, heard, rest) =
    kept_all puts gets put_fails get_fails view keeps more mid new between after rest ∙ keeps.missed old why mid heard.0

kept_lacking : {K V : Type 0} (puts gets : K → Message → K → Type 0) (put_fails : K → Message → LinkError → K → Type 0) (get_fails : K → LinkError → K → Type 0) (view : K → V)
    → Keeps puts gets put_fails get_fails view → (ask : Payload) (old new : K) → LacksMemory put_fails ask old new → view new ≡ view old
kept_lacking puts gets put_fails get_fails view keeps ask old new (inl same) = ap view same
kept_lacking puts gets put_fails get_fails view keeps ask old new (inr (offer, answers, failed)) = keeps.unput old offer Memory new failed

kept_end : {K V : Type 0} (puts gets : K → Message → K → Type 0) (put_fails : K → Message → LinkError → K → Type 0) (get_fails : K → LinkError → K → Type 0) (view : K → V)
    → Keeps puts gets put_fails get_fails view → (old new : K) → Ends gets put_fails get_fails old new → view new ≡ view old
kept_end puts gets put_fails get_fails view keeps old new (inl closed) = keeps.missed old Closed new closed
kept_end puts gets put_fails get_fails view keeps old new (inr (ask, is, mid, got, lacks)) =
    kept_lacking puts gets put_fails get_fails view keeps _ mid new lacks ∙ keeps.got old ask mid got

pub kept_out : {K V : Type 0} {puts gets : K → Message → K → Type 0} {put_fails : K → Message → LinkError → K → Type 0} {get_fails : K → LinkError → K → Type 0} {old new : K} {seat after : Seated} {count : ℕ}
    → HearsOut puts gets put_fails get_fails old new seat after count → (view : K → V) → Keeps puts gets put_fails get_fails view → view new ≡ view old
kept_out {puts = puts} {gets = gets} {put_fails = put_fails} {get_fails = get_fails} {old = old} {new = new} {seat = seat} {after = after} out view keeps =
    kept_end puts gets put_fails get_fails view keeps out.last new out.ends ∙ kept_all puts gets put_fails get_fails view keeps out.came old out.last seat after out.heard
