use Rattle.std.proofs.Common.{sym, ◌∙◌}
use Rattle.uv_link.proofs.Framing.{copied}
use Rattle.uv_link.proofs.link.Link.dup_at.Goals as goal

pub returns-in-Ok : goal.returns-in-Ok
returns-in-Ok c =
    copied c.self.inside.frames c.args.self.now c.args.place c.in-Some.frame.now c.in-Ok.copy c.put.new.self c.self.view_is (sym c.in-Some.ensures) (sym c.is_full.ensures ∙ c.if-is_full.false) c.in-Ok.ensures c.put.ensures
