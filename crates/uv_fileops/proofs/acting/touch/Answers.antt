use Rattle.std.proofs.Common.{sym, ap, ◌∙◌}
use Rattle.uv_machine.specs.States.{object_with}
use Rattle.uv_machine.specs.Histories.{state_of}
use Rattle.uv_fileops.proofs.Touched.{touched_stands}
use Rattle.uv_fileops.proofs.acting.touch.Goals as goal

-- what a call acts on stands there
pub unreachable-requires : goal.unreachable-requires
unreachable-requires g c =
    touched_stands c.args.graph.now.history c.args.client c.args.call c.is_legal.ensures c.requires.at.is c.requires.awaits
    (ap (object_with (state_of c.args.graph.now.history)) (sym c.acted_on.ensures) ∙ sym c.object_with.ensures ∙ c.in-None.is)
