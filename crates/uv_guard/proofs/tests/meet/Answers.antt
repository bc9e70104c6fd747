use Rattle.std.proofs.Common.{◌<◌, arith}
use Rattle.uv_guard.specs.declared.view.Held.{Held}
use Rattle.uv_guard.specs.declared.register.Register.{Register}
use Rattle.uv_guard.specs.Registers.{later_same}
use Rattle.uv_guard.proofs.Registers.{came_with}
use Rattle.uv_guard.proofs.tests.meet.Goals as goal

pub leave-requires-clause-inside : goal.leave-requires-clause-inside
leave-requires-clause-inside g c =
    let lt : 0 < 64 = omega arith in
    let z = came_with 0 0 c.args.first.now c.enter.new.seat c.enter.result c.in-Entered.register c.in-Entered.is c.enter.ensures (c.fresh_laws.ensures.place c.args.guard.now c.args.first.now 0 c.requires.0 lt) in
    let h : Held Register = record { number = z.1; generation = 0; value = c.in-Entered.register } in
    (h, z.3, later_same c.in-Entered.register)
