use Rattle.std.proofs.Common.{sym, subst, List}
use Rattle.uv_region.specs.declared.piece.Piece.{Piece}
use Rattle.uv_region.specs.Lent.{Lent}
use Rattle.uv_region.specs.Several.{MayReadAll}
use Rattle.uv_region.proofs.Roomy.{may_read_all}
use Rattle.uv_region.proofs.regions.Regions.gather.Goals as goal

pub read_all-requires-clause-ready : goal.read_all-requires-clause-ready
read_all-requires-clause-ready c =
    let P : Lent → Type 0 = λ l. MayReadAll l c.args.kind c.args.qp c.args.domain c.args.found.now in
    let Q : List Piece → Type 0 = λ ps. MayReadAll c.reserve_all.new.self c.args.kind c.args.qp c.args.domain ps in
    subst Q (sym c.in_ok-blanks.ensures)
    (subst P (sym c.in_ok-reserve_all.ensures.ok) (may_read_all c.args.self.now c.args.kind c.args.found.now c.args.qp c.args.domain c.requires.allowed))
