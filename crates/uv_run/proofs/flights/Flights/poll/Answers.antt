use Rattle.uv_world.specs.Completing.{held_polled}
use Rattle.uv_run.specs.Sound.{site_of}
use Rattle.uv_run.proofs.DataPath.{contents_stay, held_site}
use Rattle.uv_run.proofs.flights.Flights.poll.Goals as goal

pub returns-clause-site : goal.returns-clause-site
returns-clause-site c = held_site c.args.self.now c.poll.new.self (held_polled (site_of c.args.self.now).held c.args.cq) c.poll.ensures.stage

pub returns-clause-sound : goal.returns-clause-sound
returns-clause-sound c = contents_stay c.args.self.now c.poll.new.self c.requires.sound c.poll.ensures.world c.poll.ensures.only
