use Rattle.std.proofs.Common.{arith, ap, Some}
use Rattle.uv_world.specs.Owing.{counts_cell, counts_value}
use Rattle.uv_world.proofs.Counts.{count_set}
use Rattle.uv_world.proofs.changing.modify.Goals as goal

pub returns-in-Some-clause-count : goal.returns-in-Some-clause-count
returns-in-Some-clause-count c =
    omega (arith, count_set counts_cell c.args.pairs.now c.args.at c.item_mut-cell.result.now (record { generation = c.item_mut-cell.result.now.generation; value = Some (record { qp = c.modify.new.self; send = c.in-Some.pair.send; receive = c.in-Some.pair.receive; shared = c.in-Some.pair.shared }) }) c.item_mut-cell.ensures.value, ap counts_value c.in-Some.is)

pub returns-in_default-clause-count : goal.returns-in_default-clause-count
returns-in_default-clause-count c =
    omega (arith, count_set counts_cell c.args.pairs.now c.args.at c.item_mut-cell.result.now (record { generation = c.item_mut-cell.result.now.generation; value = c.item_mut-cell.result.now.value }) c.item_mut-cell.ensures.value)
