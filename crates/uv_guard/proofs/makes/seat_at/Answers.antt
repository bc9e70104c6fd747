use Rattle.std.proofs.Common.{◌∙◌, ap, map, take, length, arith, suc}
use Rattle.uv_guard.specs.Cells.{tables}
use Rattle.uv_guard.specs.Seated.{seated, fresh_deed, fresh_place, indexed}
use Rattle.uv_guard.proofs.Lists.{at_cell, cell_id}
use Rattle.uv_guard.proofs.Many.{next_at, deeds_forked, places_more, half_length, half_whole, indexed_length, take_whole, fresh_own, fresh_seated}
use Rattle.uv_guard.proofs.makes.seat_at.Goals as goal

pub index_mut-requires : goal.index_mut-requires
index_mut-requires g c =
    let i = c.loop-i.invariant in let lt = c.loop-i-test.true in let w = c.requires.cells in let o = c.loop-i.deeds.ok.0 in
    let l = ap length i.1 ∙ (half_length c.loop-i.i (fresh_deed {T = g.row.T.Denot} (suc c.args.number)) (fresh_deed c.args.number) (indexed 0 (tables c.args.cells.now.items)) ∙ indexed_length 0 (tables c.args.cells.now.items)) in
    omega arith

pub fork-place-requires-clause-cell : goal.fork-place-requires-clause-cell
fork-place-requires-clause-cell g c =
    let i = c.loop-i.invariant in let lt = c.loop-i-test.true in let ts = tables c.args.cells.now.items in let at = cell_id c.args.cells.now.items c.loop-i.i c.index-cell.result.now (at_cell c.args.cells.now.items c.loop-i.i c.index-cell.result.now c.requires.cells lt c.index-cell.ensures) in
    let is = next_at c.args.number c.loop-i.i ts c.loop-i.deeds.items c.index_mut.result.now c.index-cell.result.now.table.shared.table_id at i.1 (let w = c.requires.cells in omega arith) c.index_mut.ensures.value in
    ap (λ d. d.cell) is

pub fork-place-requires-clause-number : goal.fork-place-requires-clause-number
fork-place-requires-clause-number g c =
    let i = c.loop-i.invariant in let lt = c.loop-i-test.true in let ts = tables c.args.cells.now.items in let at = cell_id c.args.cells.now.items c.loop-i.i c.index-cell.result.now (at_cell c.args.cells.now.items c.loop-i.i c.index-cell.result.now c.requires.cells lt c.index-cell.ensures) in
    let is = next_at c.args.number c.loop-i.i ts c.loop-i.deeds.items c.index_mut.result.now c.index-cell.result.now.table.shared.table_id at i.1 (let w = c.requires.cells in omega arith) c.index_mut.ensures.value in
    (ap (λ d. d.seats) is, c.requires.number, ap (λ d. d.kept) is)

pub loop-i-preserved : goal.loop-i-preserved
loop-i-preserved g c =
    let i = c.loop-i.invariant in let lt = c.loop-i-test.true in let ts = tables c.args.cells.now.items in let at = cell_id c.args.cells.now.items c.loop-i.i c.index-cell.result.now (at_cell c.args.cells.now.items c.loop-i.i c.index-cell.result.now c.requires.cells lt c.index-cell.ensures) in
    let is = next_at c.args.number c.loop-i.i ts c.loop-i.deeds.items c.index_mut.result.now c.index-cell.result.now.table.shared.table_id at i.1 (let w = c.requires.cells in omega arith) c.index_mut.ensures.value in
    let p = c.push_reserved.ensures in let f = c.fork-place.ensures in (
      omega arith,
      deeds_forked c.args.number c.loop-i.i ts c.loop-i.deeds.items c.index_mut.result.now c.fork-place.new.self c.index-cell.result.now.table.shared.table_id at i.1 is f.deed,
      places_more c.args.number c.loop-i.i ts c.loop-i.places.items c.push_reserved.new.self.items c.fork-place.result c.index-cell.result.now.table.shared.table_id at i.2 (f.place ∙ ap (λ d. fresh_place c.args.number d.cell) is) p.items,
      (let a = p.len in let b = i.3 in omega arith),
      (let a = p.capacity in let b = i.4 in omega arith),
    )

pub of-requires : goal.of-requires
of-requires g c = let i = c.loop-i.invariant in fresh_own c.args.number (take c.loop-i.i (tables c.args.cells.now.items)) c.loop-i.places.items i.2

pub returns-clause-deeds : goal.returns-clause-deeds
returns-clause-deeds g c =
    let i = c.loop-i.invariant in let f = c.loop-i-test.false in let w = c.requires.cells in let le = i.0 in
    i.1 ∙ half_whole c.loop-i.i (fresh_deed (suc c.args.number)) (fresh_deed c.args.number) (indexed 0 (tables c.args.cells.now.items)) (let l = indexed_length 0 (tables c.args.cells.now.items) in omega arith)

pub returns-clause-seat : goal.returns-clause-seat
returns-clause-seat g c =
    let i = c.loop-i.invariant in let f = c.loop-i-test.false in let w = c.requires.cells in let le = i.0 in let ts = tables c.args.cells.now.items in
    let whole = take_whole ts c.loop-i.i (omega arith) in
    c.of.ensures ∙ (ap (seated c.args.number) (i.2 ∙ ap (map (fresh_place c.args.number)) whole) ∙ fresh_seated c.args.number ts)
