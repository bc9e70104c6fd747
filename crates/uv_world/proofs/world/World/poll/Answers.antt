use Rattle.uv_world.specs.Completing.{held_polled}
use Rattle.uv_world.specs.Holdings.{held_of}
use Rattle.uv_world.proofs.Named.{fits_beside, same_polled}
use Rattle.uv_world.proofs.world.World.poll.Goals as goal

pub returns-clause-world : goal.returns-clause-world
returns-clause-world c =
    let old = c.args.self.now in
    record {
      seated = c.requires.world.seated;
      housed = c.poll.ensures.housed;
      fits = fits_beside old c.poll.new.self (held_polled (held_of old.contents) c.args.cq) c.poll.ensures.held (same_polled (held_of old.contents) c.args.cq) c.requires.world.fits;
    }
