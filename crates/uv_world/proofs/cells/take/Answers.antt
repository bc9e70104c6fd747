use Rattle.std.proofs.Common.{arith, ap, sym}
use Rattle.uv_world.specs.Celled.{cell_value}
use Rattle.uv_world.specs.Owing.{counts_cell, counts_value}
use Rattle.uv_world.proofs.Counts.{count_set, none_past}
use Rattle.uv_world.proofs.cells.take.Goals as goal

pub returns-then-at-len-clause-count : goal.returns-then-at-len-clause-count
returns-then-at-len-clause-count g c =
    omega (arith, count_set counts_cell c.args.cells.now c.args.at c.item_mut.result.now (record { generation = c.item_mut.result.now.generation; value = c.take.new.self }) c.item_mut.ensures.value, ap counts_value c.take.ensures.value, ap counts_value c.take.ensures.after)

pub returns-else-at-len-clause-taken : goal.returns-else-at-len-clause-taken
returns-else-at-len-clause-taken g c = sym (ap cell_value (none_past c.args.cells.now c.args.at (omega (arith, c.len.ensures, c.if-at-len.false))))
