use Rattle.std.proofs.Common.{◌∙◌, sym, ap, List, Option}
use Rattle.uv_num.specs.declared.qp.QpState.{QpState}
use Rattle.uv_world.specs.declared.cells.Cell.{Cell}
use Rattle.uv_world.specs.declared.content.Connected.{Connected}
use Rattle.uv_world.specs.Celled.{cells_changed}
use Rattle.uv_world.specs.Holdings.{held_of}
use Rattle.uv_world.specs.Moving.{pair_modified}
use Rattle.uv_world.proofs.Slots.{cells_same}
use Rattle.uv_world.proofs.contents.Contents.modify.Goals as goal

pub returns-in_default-clause-held : goal.returns-in_default-clause-held
returns-in_default-clause-held c =
    ap (λ (cells : List (Cell Connected)). record (held_of c.args.self.now) { pairs = cells }) (sym (cells_same c.args.self.now.pairs c.args.index))
    ∙ ap (λ (to : Option QpState). record (held_of c.args.self.now) { pairs = cells_changed c.args.self.now.pairs c.args.index (pair_modified to c.args.attrs) }) c.in_default.ensures
