use Rattle.uv_engine.proofs.Finishing.{send_goes_out}
use Rattle.uv_engine.proofs.acting.send_into.Goals as goal

pub finish-requires-clause-out : goal.finish-requires-clause-out
finish-requires-clause-out c =
    let l = c.args.lent.now in
    send_goes_out c.turns_make_packets.ensures l.qp c.turn-done.new.qp l.regions c.turn-done.result c.keeps.ensures.paired c.turn-done.ensures.pair
