use Rattle.std.proofs.Common.{map, remove, ap, ◌∙◌}
use Rattle.uv_link.specs.Frames.{plain_frame}
use Rattle.uv_link.proofs.Framing.{remove-map}
use Rattle.uv_link.proofs.link.Link.drop_at.Goals as goal

pub returns-clause-rest : goal.returns-clause-rest
returns-clause-rest c =
    ap (map plain_frame) c.remove.ensures.rest
    ∙ (remove-map plain_frame c.self.inside.frames c.args.place ∙ ap (λ fs. remove fs c.args.place) c.self.view_is)
