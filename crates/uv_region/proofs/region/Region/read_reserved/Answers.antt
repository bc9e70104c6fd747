use Rattle.std.proofs.Common.{rules, sym, subst}
use Rattle.uv_region.specs.Actions.{plain}
use Rattle.uv_region.specs.Refusals.{IsAllowed}
use Rattle.uv_region.specs.Registered.{Registered, terms_of}
use Rattle.uv_region.proofs.Keeping.{kept_parts, read_leaves}
use Rattle.uv_region.proofs.region.Region.read_reserved.Goals as goal

pub invariant_of-self : goal.invariant_of-self
invariant_of-self c =
    let P : Registered → Type 0 = λ r. IsAllowed (terms_of r) (plain c.args.action) in
    kept_parts c.self.inside.object c.self.inside.domain c.self.inside.size c.self.inside.rights c.self.inside.bytes.items _ c.self.inside.actions _ c.args.action c.read_into-read.result
    c.self.invariant (subst P (sym c.self.view_is) c.requires.allowed) (record { some = c.requires.some; brings = λ h. c.requires.whole }) (read_leaves (plain c.args.action) _ c.requires.reads) (search rules) (search rules)
