use Rattle.uv_world.specs.Completing.{held_event_taken}
use Rattle.uv_world.specs.Holdings.{held_of}
use Rattle.uv_world.proofs.Named.{fits_beside, same_event_taken}
use Rattle.uv_world.proofs.world.World.event_of.Goals as goal

pub returns-clause-world : goal.returns-clause-world
returns-clause-world c =
    let old = c.args.self.now in
    record {
      seated = c.requires.world.seated;
      housed = c.event_of.ensures.housed;
      fits = fits_beside old c.event_of.new.self (held_event_taken (held_of old.contents) c.args.channel) c.event_of.ensures.held (same_event_taken (held_of old.contents) c.args.channel) c.requires.world.fits;
    }
