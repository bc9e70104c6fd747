use Rattle.std.proofs.Common.{arith, Some}
use Rattle.uv_world.specs.Owing.{counts_cell}
use Rattle.uv_world.proofs.Counts.{count_set}
use Rattle.uv_world.proofs.cells.plant.Goals as goal

pub returns-then-at-len-clause-count : goal.returns-then-at-len-clause-count
returns-then-at-len-clause-count g c =
    omega (arith, count_set counts_cell c.args.cells.now c.args.at c.item_mut-cell.result.now (record { generation = c.args.generation; value = Some c.args.value }) c.item_mut-cell.ensures.value)
