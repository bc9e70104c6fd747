use Rattle.std.proofs.Common.{◌∙◌, ap, subst, map, Some, List}
use Rattle.uv_pool.specs.Homes.{AreOfCells}
use Rattle.std.specs.List.{list_all}
use Rattle.std.specs.Option.{is_some}
use Rattle.uv_pool.proofs.Homing.{IsPool-full}
use Rattle.uv_pool.proofs.Places.{has_all-full_homes}
use Rattle.uv_pool.proofs.pool.Pool.new.Goals as goal

pub invariant_of-result : goal.invariant_of-result
invariant_of-result g c =
    let P : List g.row.D.Denot → Type 0 = λ ds. AreOfCells g.D.Deed.facts c.first_kind-kind.result ds in
    IsPool-full g.D.Deed.facts c.first_kind-kind.result c.args.deeds c.from_vec.result
    (c.from_vec.ensures ∙ (c.in_ok-all_home.ensures ∙ ap (λ ds. map Some ds) c.into_vec.ensures)) (subst P c.as_slice.ensures c.first_kind-kind.ensures)

pub returns-clause-home : goal.returns-clause-home
returns-clause-home g c =
    ap (λ ds. list_all is_some ds)
    (c.from_vec.ensures ∙ (c.in_ok-all_home.ensures ∙ ap (λ ds. map Some ds) c.into_vec.ensures))
    ∙ has_all-full_homes c.first_kind-kind.result c.args.deeds
