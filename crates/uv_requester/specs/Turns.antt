-- What a send turn makes of a queue pair: the first of these that there is to do. A read is answered, a broken queue pair is
-- flushed, or the next packet is sent.
use Rattle.std.specs.Prelude.{Option, None, Some}
use Rattle.uv_num.specs.declared.qp.QpState.{QpState}
use Rattle.uv_num.specs.declared.qp.QpState.TheVariants.{Reset, Init, Rtr, Rts, Err}
use Rattle.uv_qp.specs.declared.state.Reading.{Reading}
use Rattle.uv_qp.specs.Pairs.{Paired}
use Rattle.uv_region.specs.Lent.{Lent}
use Rattle.uv_requester.specs.Answers.{answer_made, answered_read, lent_by_answer}
use Rattle.uv_requester.specs.Ends.{Made, flush_made}
use Rattle.uv_requester.specs.Sends.{lent_by_send, send_made}

-- what there is to do where no read is answered
abbrev pub made_in_state : Paired → Lent → QpState → Option Made
made_in_state p lent Reset = None
made_in_state p lent Init = None
made_in_state p lent Rtr = None
made_in_state p lent Rts = send_made p lent p.service
made_in_state p lent Err = flush_made p

abbrev pub lent_in_state : Paired → Lent → QpState → Lent
lent_in_state p lent Reset = lent
lent_in_state p lent Init = lent
lent_in_state p lent Rtr = lent
lent_in_state p lent Rts = lent_by_send p lent p.service
lent_in_state p lent Err = lent

-- a read that is answered is the first that there is to do

abbrev pub made_with : Paired → Lent → Option Reading → Option Made
made_with p lent None = made_in_state p lent p.state
made_with p lent (Some r) = Some (answer_made p lent r)

abbrev pub lent_with : Paired → Lent → Option Reading → Lent
lent_with p lent None = lent_in_state p lent p.state
lent_with p lent (Some r) = lent_by_answer p lent r

abbrev pub send_turn_made : Paired → Lent → Option Made
send_turn_made p lent = made_with p lent (answered_read p)

abbrev pub lent_by_turn : Paired → Lent → Lent
lent_by_turn p lent = lent_with p lent (answered_read p)
