use Rattle.uv_world.specs.Completing.{held_event_taken}
use Rattle.uv_run.specs.Sound.{site_of}
use Rattle.uv_run.proofs.DataPath.{contents_stay, held_site}
use Rattle.uv_run.proofs.flights.Flights.take_event.Goals as goal

pub returns-clause-site : goal.returns-clause-site
returns-clause-site c = held_site c.args.self.now c.event_of.new.self (held_event_taken (site_of c.args.self.now).held c.args.channel) c.event_of.ensures.stage

pub returns-clause-sound : goal.returns-clause-sound
returns-clause-sound c = contents_stay c.args.self.now c.event_of.new.self c.requires.sound c.event_of.ensures.world c.event_of.ensures.only
