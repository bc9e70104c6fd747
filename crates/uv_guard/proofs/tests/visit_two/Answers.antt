use Rattle.std.proofs.Common.{◌≡◌, ◌<◌, ◌∙◌, ap, sym, arith}
use Rattle.std.specs.Prelude.{Some, None, slice_get}
use Rattle.uv_guard.specs.declared.view.Held.{Held}
use Rattle.uv_guard.specs.declared.register.Register.{Register}
use Rattle.uv_guard.specs.Registers.{later_same}
use Rattle.uv_guard.proofs.Registers.{came_with}
use Rattle.uv_guard.proofs.Tested.{apart, get_other, left_other}
use Rattle.uv_guard.proofs.tests.visit_two.Goals as goal

pub leave-requires-clause-inside : goal.leave-requires-clause-inside
leave-requires-clause-inside g c =
    let place = c.fresh_laws.ensures.place c.args.guard.now c.args.seat.now in let first : 0 < 63 = omega arith in let ne = apart 0 63 first in
    let lt : 0 < 64 = omega arith in let lt' : 63 < 64 = omega arith in
    let z = came_with 0 0 c.args.seat.now c.enter.new.seat c.enter.result c.in-Entered.near c.in-Entered.is c.enter.ensures (place 0 c.requires lt) in
    let h : Held Register = record { number = z.1; generation = 0; value = c.in-Entered.near } in
    let out : slice_get c.enter.new.seat.held 63 ≡ Some None = ap (λ s. slice_get s.held 63) z.2 ∙ (get_other c.args.seat.now.held 0 63 (Some h) ne ∙ place 63 c.requires lt') in
    let y = came_with 63 0 c.enter.new.seat c.enter-2.new.seat c.enter-2.result c.in-Entered-enter.far c.in-Entered-enter.is c.enter-2.ensures out in
    let k : Held Register = record { number = y.1; generation = 0; value = c.in-Entered-enter.far } in
    (h, ap (λ s. slice_get s.held 0) y.2 ∙ (get_other c.enter.new.seat.held 63 0 (Some k) (λ e. ne (sym e)) ∙ z.3), later_same c.in-Entered.near)

pub leave-requires-2-clause-inside : goal.leave-requires-2-clause-inside
leave-requires-2-clause-inside g c =
    let place = c.fresh_laws.ensures.place c.args.guard.now c.args.seat.now in let first : 0 < 63 = omega arith in let ne = apart 0 63 first in
    let lt : 0 < 64 = omega arith in let lt' : 63 < 64 = omega arith in
    let z = came_with 0 0 c.args.seat.now c.enter.new.seat c.enter.result c.in-Entered.near c.in-Entered.is c.enter.ensures (place 0 c.requires lt) in
    let h : Held Register = record { number = z.1; generation = 0; value = c.in-Entered.near } in
    let out : slice_get c.enter.new.seat.held 63 ≡ Some None = ap (λ s. slice_get s.held 63) z.2 ∙ (get_other c.args.seat.now.held 0 63 (Some h) ne ∙ place 63 c.requires lt') in
    let y = came_with 63 0 c.enter.new.seat c.enter-2.new.seat c.enter-2.result c.in-Entered-enter.far c.in-Entered-enter.is c.enter-2.ensures out in
    let k : Held Register = record { number = y.1; generation = 0; value = c.in-Entered-enter.far } in
    let has = ap (λ s. slice_get s.held 0) y.2 ∙ (get_other c.enter.new.seat.held 63 0 (Some k) (λ e. ne (sym e)) ∙ z.3) in
    (k, ap (λ s. slice_get s.held 63) c.leave.ensures ∙ left_other c.enter-2.new.seat 0 63 h k c.in-Entered.near ne has y.3, later_same c.in-Entered-enter.far)
