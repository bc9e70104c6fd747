-- Laws of queue pairs: what whoever keeps them can rely on.
use Rattle.std.specs.Prelude.{◌≡◌, ◌≤◌, ◌<◌, ◌++◌, ℕ, false, is_some, Option, Some, List, [], ◌∷◌, length}
use Rattle.uv_num.specs.declared.attrs.QpAttrs.{QpAttrs}
use Rattle.uv_num.specs.declared.limits.TheConstants.{QP_NUMBERS}
use Rattle.uv_num.specs.declared.qp.QpState.{QpState}
use Rattle.uv_num.specs.declared.qp.QpState.TheVariants as state
use Rattle.uv_wr.specs.declared.completion.Completion.{Completion}
use Rattle.uv_wr.specs.declared.completion.Status.{Status}
use Rattle.uv_wr.specs.declared.work.Sge.{Sge}
use Rattle.uv_wr.specs.Works.{Sending, Receiving}
use Rattle.uv_region.specs.Several.{pieces_length}
use Rattle.uv_qp.specs.declared.state.Requester.{Requester}
use Rattle.uv_qp.specs.declared.state.Responder.{Responder}
use Rattle.uv_qp.specs.GoingOn.{PairGoesOn, TurnGoesOn}
use Rattle.uv_qp.specs.Ledgers.{IsOrdered}
use Rattle.uv_qp.specs.Moves.{pair_moved_to, reset}
use Rattle.uv_qp.specs.Pairs.{Paired, HasPlacesInOrder, IsPaired, mtu_of, next_receive, next_send, peer_of, receives_posted, sends_posted}
use Rattle.uv_qp.specs.Pieces.{pieces}
use Rattle.uv_qp.specs.Posts.{with_receive, with_send}
use Rattle.uv_qp.specs.Writers.{broken, held_from_queue, held_from_shared, receive_completed, receive_completion, send_completed, send_completion, with_requester, with_responder}

-- Its lists tell at each moment how the first works ended that were posted, and after one that failed none succeeded.

abbrev pub ListsAreOrdered : Type 0
ListsAreOrdered = (p : Paired) → HasPlacesInOrder p → IsOrdered (sends_posted p) p.sent × IsOrdered (receives_posted p) p.received

-- The works that wait were posted.

pub record WaitingWerePosted (p : Paired) : Type 0 where
  pub sends : length p.sends.works ≤ length (sends_posted p)
  pub receives : length p.receives.works ≤ length (receives_posted p)

abbrev pub WorksWerePosted : Type 0
WorksWerePosted = (p : Paired) → WaitingWerePosted p

-- A queue pair goes on from itself, and from each that it goes on from in turn.

abbrev pub PairGoesOnFromItself : Type 0
PairGoesOnFromItself = (p : Paired) → PairGoesOn p p

abbrev pub PairGoesOnInTurn : Type 0
PairGoesOnInTurn = (p q r : Paired) → PairGoesOn p q → PairGoesOn q r → PairGoesOn p r

-- It goes on by all that is done to it but a move to RESET: by its other moves, ..

abbrev pub MovesGoOn : Type 0
MovesGoOn = (p : Paired) (to : QpState) (attrs : QpAttrs) → (to ≡ state.Reset → ⊥) → PairGoesOn p (pair_moved_to p to attrs)

-- .. by posts, which add one work to one list, ..

pub record PostAdds (p : Paired) : Type 0 where
  pub send : (w : Sending) → sends_posted (with_send p w) ≡ sends_posted p ++ w.id ∷ []
  pub send_goes_on : (w : Sending) → PairGoesOn p (with_send p w)
  pub receive : (w : Receiving) → receives_posted (with_receive p w) ≡ receives_posted p ++ w.id ∷ []
  pub receive_goes_on : (w : Receiving) → PairGoesOn p (with_receive p w)

abbrev pub PostsGoOn : Type 0
PostsGoOn = (p : Paired) → PostAdds p

-- .. and by what the turns write, with the completions that are told, ..

pub record WritesGoOn (p : Paired) : Type 0 where
  pub requester : (r : Requester) → TurnGoesOn p [] (with_requester p r)
  pub responder : (r : Responder) → TurnGoesOn p [] (with_responder p r)
  pub broken : TurnGoesOn p [] (broken p)
  pub send : (status : Status) (w : Sending) → next_send p ≡ Some w → TurnGoesOn p (send_completion p.names status w ∷ []) (send_completed p status)
  pub receive : (status : Status) (length : ℕ) (imm : Option ℕ) (w : Receiving) → next_receive p ≡ Some w
      → TurnGoesOn p (receive_completion p.names status length imm w ∷ []) (receive_completed p status length imm)
  pub from_queue : (w : Receiving) → is_some p.held ≡ false → next_receive p ≡ Some w → TurnGoesOn p [] (held_from_queue p (Some w))
  pub from_shared : (w : Receiving) → is_some p.held ≡ false → p.receives.works ≡ [] → TurnGoesOn p [] (held_from_shared p (Some w))

abbrev pub TurnsGoOn : Type 0
TurnsGoOn = (p : Paired) → WritesGoOn p

-- .. of one after another.

abbrev pub TurnsGoOnInTurn : Type 0
TurnsGoOnInTurn = (p q r : Paired) (first more : List Completion) → TurnGoesOn p first q → TurnGoesOn q more r → TurnGoesOn p (first ++ more) r

-- After a move to RESET nothing was posted.

pub record BeginsAnew (p : Paired) : Type 0 where
  pub sends : sends_posted (reset p) ≡ []
  pub receives : receives_posted (reset p) ≡ []

abbrev pub ResetBeginsAnew : Type 0
ResetBeginsAnew = (p : Paired) → BeginsAnew p

-- What it was told is in its ranges, as packets need it.

pub record IsToldInRange (p : Paired) : Type 0 where
  pub mtu : mtu_of p ≤ 4096
  pub peer : peer_of p < QP_NUMBERS

abbrev pub ToldIsInRange : Type 0
ToldIsInRange = (p : Paired) → IsPaired p → IsToldInRange p

-- The pieces of so many bytes have no more.

abbrev pub PiecesAreFew : Type 0
PiecesAreFew = (parts : List Sge) (from count : ℕ) → pieces_length (pieces parts from count) ≤ count
