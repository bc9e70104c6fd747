use Rattle.std.proofs.Common.{◌∙◌, ap, length, arith}
use Rattle.uv_guard.proofs.Many.{open_more}
use Rattle.uv_guard.proofs.Logs.{length_more}
use Rattle.uv_guard.proofs.makes.open_all.Goals as goal

pub loop-i-preserved : goal.loop-i-preserved
loop-i-preserved g c =
    let i = c.loop-i.invariant in let p = c.push_reserved.ensures in let q = c.push_reserved-in-loop-i.ensures in let lt = c.loop-i-test.true in (
      omega arith,
      ap length p.items ∙ (length_more c.loop-i.cells.items c.in_ok-cell.cell ∙ (let e = i.1 in omega arith)),
      open_more c.loop-i.cells.items c.push_reserved.new.self.items c.in_ok-cell.cell c.loop-i.deeds.items c.push_reserved-in-loop-i.new.self.items c.of.result c.loop-i.i c.in_ok-cell.chair.table_id i.1 p.items i.2 q.items c.of.ensures c.in_ok-cell.ensures.0,
      (let a = p.len in let b = i.3 in omega arith),
      (let a = p.capacity in let b = i.4 in omega arith),
      (let a = q.len in let b = i.5 in omega arith),
      (let a = q.capacity in let b = i.6 in omega arith),
    )
