use Rattle.std.proofs.Common.{arith}
use Rattle.uv_world.specs.Owing.{owes_journals, owes_lists}
use Rattle.uv_world.proofs.Counts.{count_set}
use Rattle.uv_world.proofs.cells.put_slot.Goals as goal

pub returns-then-at-len-clause-journals : goal.returns-then-at-len-clause-journals
returns-then-at-len-clause-journals c =
    omega (arith, count_set owes_journals c.args.slots.now c.args.slot c.item_mut.result.now c.args.now c.item_mut.ensures.value)

pub returns-then-at-len-clause-lists : goal.returns-then-at-len-clause-lists
returns-then-at-len-clause-lists c =
    omega (arith, count_set owes_lists c.args.slots.now c.args.slot c.item_mut.result.now c.args.now c.item_mut.ensures.value)
