use Rattle.std.proofs.Common.{rules, ◌≡◌, ◌∙◌, ap, sym}
use Rattle.std.specs.Prelude.{slice_get}
use Rattle.uv_guard.specs.Seated.{fresh_deeds}
use Rattle.uv_guard.proofs.Tested.{after_first}
use Rattle.uv_guard.proofs.tests.opened.Goals as goal

pub returns-clause-deeds : goal.returns-clause-deeds
returns-clause-deeds g c =
    let all = c.expect-guard.result.2 in
    let e : c.expect-guard.result.2 ≡ fresh_deeds 2 c.expect-guard.result.0 = search rules in
    let ready = c.fresh_laws.ensures.ready c.expect-guard.result.0 2 in
    let first = ap (λ l. slice_get l 0) (sym e) ∙ c.remove-deed.ensures.item in
    let last = ap (λ l. slice_get l 63) (sym e) ∙ (sym (after_first all 62) ∙ (ap (λ l. slice_get l 62) (sym c.remove-deed.ensures.rest) ∙ c.remove-last.ensures.item)) in
    ((ready 0 c.remove-deed.result first).0, (ready 63 c.remove-last.result last).0)
