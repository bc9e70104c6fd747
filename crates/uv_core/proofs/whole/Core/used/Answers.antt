use Rattle.std.proofs.Common.{◌∙◌, sym}
use Rattle.uv_core.proofs.Finding.{used_stands}
use Rattle.uv_core.proofs.whole.Core.used.Goals as goal

pub unreachable-requires : goal.unreachable-requires
unreachable-requires g c =
    used_stands c.self.inside.graph.history c.args.object c.args.place c.in-Some.id c.is_legal.ensures
    (sym c.use_at.ensures ∙ c.in-Some.is) (sym c.object_with.ensures ∙ c.in-None-object_with.is)
