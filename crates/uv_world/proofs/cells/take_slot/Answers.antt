use Rattle.std.proofs.Common.{arith, ap, sym}
use Rattle.uv_world.specs.Celled.{slot_value}
use Rattle.uv_world.specs.Owing.{owes_journals, owes_lists}
use Rattle.uv_world.proofs.Counts.{count_set, none_past}
use Rattle.uv_world.proofs.cells.take_slot.Goals as goal

pub returns-then-at-len-clause-journals : goal.returns-then-at-len-clause-journals
returns-then-at-len-clause-journals c =
    omega (arith, count_set owes_journals c.args.slots.now c.args.slot c.item_mut.result.now c.take.new.self c.item_mut.ensures.value, ap owes_journals c.take.ensures.value, ap owes_journals c.take.ensures.after)

pub returns-then-at-len-clause-lists : goal.returns-then-at-len-clause-lists
returns-then-at-len-clause-lists c =
    omega (arith, count_set owes_lists c.args.slots.now c.args.slot c.item_mut.result.now c.take.new.self c.item_mut.ensures.value, ap owes_lists c.take.ensures.value, ap owes_lists c.take.ensures.after)

pub returns-else-at-len-clause-taken : goal.returns-else-at-len-clause-taken
returns-else-at-len-clause-taken c = sym (ap slot_value (none_past c.args.slots.now c.args.slot (omega (arith, c.len.ensures, c.if-at-len.false))))
