use Rattle.uv_run.proofs.TearSounds.{ended_by, ended_fewer, ended_moved}
use Rattle.uv_run.proofs.flights.Flights.dissociate.Goals as goal

pub returns-in-None-clause-fewer : goal.returns-in-None-clause-fewer
returns-in-None-clause-fewer c =
    let old = c.args.self.now in
    ended_fewer c.args.actor old c.end_teardown.new.self (ended_by c.args.actor old c.end_teardown.new.self c.end_teardown.ensures)

pub returns-in-None-clause-moved : goal.returns-in-None-clause-moved
returns-in-None-clause-moved c =
    let old = c.args.self.now in
    ended_moved c.args.actor old c.end_teardown.new.self c.requires.sound (ended_by c.args.actor old c.end_teardown.new.self c.end_teardown.ensures) c.requires.none
