use Rattle.std.proofs.Common.{inl, refl}
use Rattle.uv_run.specs.declared.flight.Teardown.TheVariants.{Unplugging}
use Rattle.uv_run.proofs.TearSounds.{ended_by, ended_lowers, ended_moved}
use Rattle.uv_run.proofs.flights.Flights.remove.Goals as goal

pub returns-in-None-clause-progress : goal.returns-in-None-clause-progress
returns-in-None-clause-progress c =
    let old = c.args.self.now in
    inl (ended_lowers c.args.actor old old c.end_teardown.new.self (Unplugging c.args.device) refl refl (ended_by c.args.actor old c.end_teardown.new.self c.end_teardown.ensures) c.requires.teardown)

pub returns-in-None-clause-moved : goal.returns-in-None-clause-moved
returns-in-None-clause-moved c =
    let old = c.args.self.now in
    ended_moved c.args.actor old c.end_teardown.new.self c.requires.sound (ended_by c.args.actor old c.end_teardown.new.self c.end_teardown.ensures) c.requires.none
