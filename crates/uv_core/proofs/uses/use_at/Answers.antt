use Rattle.std.proofs.Common.{◌∙◌, sym}
use Rattle.uv_core.proofs.Finding.{uses_read}
use Rattle.uv_core.proofs.uses.use_at.Goals as goal

pub returns-in-Some : goal.returns-in-Some
returns-in-Some g c = c.get.ensures ∙ sym (uses_read c.args.graph.now.history c.args.object c.args.place c.in-Some.x c.is_legal.ensures (sym c.object_with.ensures ∙ c.in-Some.is))
