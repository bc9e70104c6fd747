use Rattle.std.proofs.Common.{rules, ◌≡◌, ◌∙◌, ap, sym, subst, length}
use Rattle.std.specs.Prelude.{slice_get}
use Rattle.uv_num.specs.Each.{Each}
use Rattle.uv_guard.specs.Seated.{fresh_deeds, cells_of, IsOutside}
use Rattle.uv_guard.specs.Laws.{IsFree}
use Rattle.uv_guard.proofs.Logs.{each_map}
use Rattle.uv_guard.proofs.Lists.{map_set_same}
use Rattle.uv_guard.proofs.Tested.{written_back}
use Rattle.uv_guard.proofs.tests.count.Goals as goal

pub live-value-requires-clause-deed : goal.live-value-requires-clause-deed
live-value-requires-clause-deed g c κs within =
    let e : c.expect-guard.result.2 ≡ fresh_deeds c.args.threads c.expect-guard.result.0 = search rules in
    (c.fresh_laws.ensures.ready c.expect-guard.result.0 c.args.threads 0 _ (ap (λ l. slice_get l 0) (sym e) ∙ c.item_mut.ensures.value)).0

pub close-requires-clause-seats : goal.close-requires-clause-seats
close-requires-clause-seats g c =
    let guard = c.expect-guard.result.0 in let l = c.live-value.ensures in
    let len = l.len ∙ ap length c.as_mut_slice.ensures.value in
    subst (Each (IsOutside guard)) (sym (written_back c.expect-guard.result.1 c.live-value.new.seats len)) (each_map (IsFree guard) (IsOutside guard) (c.fresh_laws.ensures.outside guard) c.live-value.new.seats l.seats)

pub close-requires-clause-deeds : goal.close-requires-clause-deeds
close-requires-clause-deeds g c =
    let guard = c.expect-guard.result.0 in
    let e : c.expect-guard.result.2 ≡ fresh_deeds c.args.threads guard = search rules in
    map_set_same (λ d. d.cell) c.expect-guard.result.2 0 c.item_mut.result.now c.live-value.new.deed c.item_mut.ensures.value c.live-value.ensures.deed.0 ∙ (ap cells_of e ∙ c.fresh_laws.ensures.cells guard c.args.threads)
