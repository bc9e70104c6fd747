use Rattle.std.proofs.Common.{◌≡◌, ◌+◌, ◌-◌, ◌∙◌, suc, sym, false, arith}
use Rattle.std.proofs.lemmas.Option.{unwrap_or-slice_get}
use Rattle.uv_machine.proofs.Leasts.{least_from_free, least_from_taken, least_from_none}
use Rattle.uv_machine.proofs.marks.least_unmarked.Goals as goal

pub returns-then-not-table-number : goal.returns-then-not-table-number
returns-then-not-table-number c =
    let step : 256 - c.loop-number.number ≡ suc (256 - (c.loop-number.number + 1)) = omega arith in
    sym (least_from_free _ c.loop-number.number _ (256 - (c.loop-number.number + 1)) step (unwrap_or-slice_get c.args.table.now c.loop-number.number false ∙ c.if-not-table-number.true)) ∙ c.loop-number.invariant

pub loop-number-preserved : goal.loop-number-preserved
loop-number-preserved c =
    let step : 256 - c.loop-number.number ≡ suc (256 - (c.loop-number.number + 1)) = omega arith in
    sym (least_from_taken _ c.loop-number.number _ (256 - (c.loop-number.number + 1)) step (unwrap_or-slice_get c.args.table.now c.loop-number.number false ∙ c.if-not-table-number.false)) ∙ c.loop-number.invariant

pub returns : goal.returns
returns c = sym (least_from_none _ c.loop-number.number _ (omega arith)) ∙ c.loop-number.invariant
