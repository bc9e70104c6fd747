use Rattle.uv_run.proofs.Beginnings.{closing_moved}
use Rattle.uv_run.proofs.Sounds.{moved_then}
use Rattle.uv_run.proofs.flights.Flights.begin_close.Goals as goal

pub close-event-requires-clause-sound : goal.close-event-requires-clause-sound
close-event-requires-clause-sound c =
    (closing_moved c.args.actor c.args.file c.args.self.now c.change_at.new.items c.requires.sound c.requires.free c.requires.actor c.requires.not_driver c.requires.file c.change_at.ensures).sound

pub returns-clause-moved : goal.returns-clause-moved
returns-clause-moved c =
    let old = c.args.self.now in
    let mid = record c.args.self.now { teardowns = c.change_at.new.items } in
    moved_then c.args.actor old mid c.close-event.new.self
    (closing_moved c.args.actor c.args.file old c.change_at.new.items c.requires.sound c.requires.free c.requires.actor c.requires.not_driver c.requires.file c.change_at.ensures) c.close-event.ensures.moved
