use Rattle.std.proofs.Common.{refl, ap, ◌∙◌}
use Rattle.uv_guard.specs.declared.register.Register.{Register}
use Rattle.uv_guard.specs.declared.view.Held.{Held}
use Rattle.uv_guard.specs.Steps.{taking}
use Rattle.uv_guard.specs.Seated.{more_at, finds, outside}
use Rattle.uv_guard.proofs.Registers.{came_and_went, came_with, stays_out}
use Rattle.uv_guard.proofs.register.add.Goals as goal

pub leave-requires-clause-inside : goal.leave-requires-clause-inside
leave-requires-clause-inside c =
    let z = came_with c.args.index c.args.generation c.args.seat.now c.enter.new.seat c.enter.result c.in-Entered.register c.in-Entered.is c.enter.ensures c.requires.out in
    (record { number = z.1; generation = c.args.generation; value = c.in-Entered.register }, z.3, c.more-register.ensures.later)

pub returns-in-Entered : goal.returns-in-Entered
returns-in-Entered c =
    let z = came_with c.args.index c.args.generation c.args.seat.now c.enter.new.seat c.enter.result c.in-Entered.register c.in-Entered.is c.enter.ensures c.requires.out in
    let s = finds c.args.seat.now c.args.index z.0 in
    let h : Held Register = record { number = z.1; generation = c.args.generation; value = c.in-Entered.register } in (
      z.0,
      h,
      refl,
      ap (λ r. r.value) c.more-register.ensures.more,
      c.leave.ensures
          ∙ (ap (λ s. outside s c.args.index c.more-register.result) z.2
          ∙ (came_and_went s c.args.index h c.more-register.result c.requires.out ∙ ap (λ r. record s { took = more_at c.args.seat.now.took c.args.index (taking h r) }) c.more-register.ensures.more)),
    )

pub returns-in-Taken : goal.returns-in-Taken
returns-in-Taken c = stays_out c.args.index c.args.generation c.args.seat.now c.enter.new.seat c.enter.result c.in-Taken.turn c.in-Taken.is c.enter.ensures
