use Rattle.std.proofs.Common.{◌≡◌, ◌≤◌, List, true, subst, sym, arith}
use Rattle.uv_region.specs.declared.piece.Piece.{Piece}
use Rattle.uv_region.specs.Several.{all_have_bytes, pieces_length}
use Rattle.uv_qp.proofs.Filled.{all_found, pieces_few, pieces_full}
use Rattle.uv_qp.proofs.gathering.pieces.Goals as goal

pub returns-clause-full : goal.returns-clause-full
returns-clause-full c =
    let P : List Piece → Type 0 = λ ps. all_have_bytes ps ≡ true in
    subst P (sym (all_found c.loop-part.found c.args.parts.now c.loop-part.part-index c.loop-part.at c.loop-part.left c.args.from c.args.count (omega (arith, c.loop-part.auto.part-index-end)) c.loop-part.invariant.found)) (pieces_full c.args.parts.now c.args.from c.args.count)

pub returns-clause-most : goal.returns-clause-most
returns-clause-most c =
    let P : List Piece → Type 0 = λ ps. pieces_length ps ≤ c.args.count in
    subst P (sym (all_found c.loop-part.found c.args.parts.now c.loop-part.part-index c.loop-part.at c.loop-part.left c.args.from c.args.count (omega (arith, c.loop-part.auto.part-index-end)) c.loop-part.invariant.found)) (pieces_few c.args.parts.now c.args.from c.args.count)
