use Rattle.std.proofs.Common.{◌∙◌, sym, ap}
use Rattle.uv_pool.proofs.Homing.{IsPool-brought}
use Rattle.uv_pool.proofs.pool.Pool.home.Goals as goal

pub invariant_of-self : goal.invariant_of-self
invariant_of-self g c =
    IsPool-brought g.D.Deed.facts (record { kind = c.self.inside.kind; deeds = c.self.inside.deeds; next = c.self.inside.next }) c.index-place.result c.args.deed c.index-place.ensures.within c.index-place.ensures.index
    (c.requires.same_kind ∙ sym (ap (λ p. p.kind) c.self.view_is)) c.self.invariant
