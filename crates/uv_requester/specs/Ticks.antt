-- What a tick makes of a queue pair: time has passed without an answer (`retransmit_timer`, `rnr_nak_timer`, `rxe_comp.c`,
-- `rxe_req.c`).
use Rattle.std.specs.Prelude.{◌+◌, nat_lt, ◌&&◌, Bool, true, false, if◌then◌else◌, Option, None, Some, []}
use Rattle.uv_num.specs.declared.qp.QpState.{QpState}
use Rattle.uv_num.specs.declared.qp.QpState.TheVariants.{Reset, Init, Rtr, Rts, Err}
use Rattle.uv_qp.specs.declared.state.Requester.{Requester}
use Rattle.uv_qp.specs.declared.turns.TurnWord.{TurnWord}
use Rattle.uv_qp.specs.declared.turns.TurnWord.TheVariants.{Woken, Resent}
use Rattle.uv_qp.specs.Pairs.{Paired, retries_of}
use Rattle.uv_qp.specs.Writers.{with_requester}
use Rattle.uv_wr.specs.declared.completion.Status.TheVariants.{RetryExcErr}
use Rattle.uv_requester.specs.Ends.{Made, failed_at}

abbrev pub is_sending_state : QpState → Bool
is_sending_state Reset = false
is_sending_state Init = false
is_sending_state Rtr = false
is_sending_state Rts = true
is_sending_state Err = false

-- whether an answer is waited for
abbrev pub is_outstanding : Requester → Bool
is_outstanding r = nat_lt r.una r.high

-- sending goes on from the oldest packet without an answer: the peer may be ready now, ..
abbrev pub woken : Requester → Requester
woken r = record r { next = r.una; paused = false }

-- .. or the packets were lost, and one more resend is used
abbrev pub resent : Requester → Requester
resent r = record r { next = r.una; retried = r.retried + 1 }

-- a turn that only puts the requester elsewhere
abbrev pub put_elsewhere : TurnWord → Paired → Requester → Made
put_elsewhere word p r = record { word = word; to = 0; packets = []; completions = []; pair = with_requester p r }

abbrev pub ticked : Paired → Made
ticked p =
    if p.requester.paused then put_elsewhere Woken p (woken p.requester)
    else (if nat_lt p.requester.retried (retries_of p) then put_elsewhere Resent p (resent p.requester)
    else failed_at p 0 RetryExcErr)

abbrev pub tick_made : Paired → Option Made
tick_made p = if is_sending_state p.state && is_outstanding p.requester then Some (ticked p) else None
