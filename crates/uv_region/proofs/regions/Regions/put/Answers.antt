use Rattle.std.proofs.Common.{◌≡◌, ◌<◌, None, ap, sym, subst, ◌∙◌}
use Rattle.std.specs.FinMap as map
use Rattle.uv_num.specs.declared.limits.TheConstants.{LENT_REGIONS}
use Rattle.uv_region.specs.Lent.{Lent}
use Rattle.uv_region.proofs.Lending.{placed, put_lent, has_empty}
use Rattle.uv_region.proofs.regions.Regions.put.Goals as goal

pub empty_place-at-requires : goal.empty_place-at-requires
empty_place-at-requires c =
    let P : Lent → Type 0 = λ m. map.len m < LENT_REGIONS in
    has_empty c.self.inside.places c.self.invariant (subst P (sym c.self.view_is) c.requires.room)

pub invariant_of-self : goal.invariant_of-self
invariant_of-self c =
    let P : Lent → Type 0 = λ m. map.get m c.args.key ≡ None in
    put_lent c.self.inside.places c.empty_place-at.result _ c.empty_place-at.ensures.empty (subst P (sym c.self.view_is) c.requires.apart) c.self.invariant

pub returns : goal.returns
returns c =
    let P : Lent → Type 0 = λ m. map.get m c.args.key ≡ None in
    placed c.self.inside.places c.empty_place-at.result _ c.empty_place-at.ensures.empty (subst P (sym c.self.view_is) c.requires.apart)
    ∙ ap (λ (m : Lent). map.insert m c.args.key (c.args.region, c.args.window)) c.self.view_is
