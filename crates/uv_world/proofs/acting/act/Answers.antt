use Rattle.std.proofs.Common.{sym, subst}
use Rattle.uv_engine.specs.Acting.{ActionGives}
use Rattle.uv_world.specs.declared.acting.PairWork.{PairWork}
use Rattle.uv_world.specs.Acting.{action_for}
use Rattle.uv_world.specs.Asking.{pair_task_of}
use Rattle.uv_world.proofs.acting.act.Goals as goal

pub returns-in-Packet-clause-gives : goal.returns-in-Packet-clause-gives
returns-in-Packet-clause-gives c = subst (λ (a : PairWork). ActionGives (action_for (pair_task_of a) c.args.lent.now) c.args.lent.now c.deliver.result c.deliver.new.lent) (sym c.in-Packet.is) c.deliver.ensures.gives
