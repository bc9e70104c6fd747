use Rattle.std.proofs.Common.{rules, arith, ap, sym, subst, ◌∙◌}
use Rattle.uv_region.specs.Actions.{plain}
use Rattle.uv_region.specs.Refusals.{IsAllowed}
use Rattle.uv_region.specs.Registered.{Registered, terms_of}
use Rattle.uv_region.specs.Replay.{effect}
use Rattle.uv_region.proofs.Keeping.{kept_parts}
use Rattle.uv_region.proofs.Replaying.{written_back}
use Rattle.uv_region.proofs.region.Region.act_reserved.Goals as goal

pub invariant_of-self : goal.invariant_of-self
invariant_of-self c =
    let P : Registered → Type 0 = λ r. IsAllowed (terms_of r) (plain c.args.action) in
    kept_parts c.self.inside.object c.self.inside.domain c.self.inside.size c.self.inside.rights c.self.inside.bytes.items _ c.self.inside.actions _ c.args.action c.apply-made.result
    c.self.invariant (subst P (sym c.self.view_is) c.requires.allowed) (record { some = c.requires.some; brings = λ h. c.requires.whole }) (written_back _ _ _ (omega arith) (omega arith) ∙ c.apply-made.ensures.bytes ∙ ap (effect (plain c.args.action)) c.as_mut_slice.ensures.value) (search rules) (search rules)
