use Rattle.uv_world.specs.Completing.{held_armed}
use Rattle.uv_world.specs.Holdings.{held_of}
use Rattle.uv_world.proofs.Named.{fits_beside, same_armed}
use Rattle.uv_world.proofs.world.World.arm.Goals as goal

pub returns-clause-world : goal.returns-clause-world
returns-clause-world c =
    let old = c.args.self.now in
    record {
      seated = c.requires.world.seated;
      housed = c.arm.ensures.housed;
      fits = fits_beside old c.arm.new.self (held_armed (held_of old.contents) c.args.cq c.args.solicited) c.arm.ensures.held (same_armed (held_of old.contents) c.args.cq c.args.solicited) c.requires.world.fits;
    }
