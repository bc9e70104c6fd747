use Rattle.uv_world.specs.Poking.{held_acted, peek_of}
use Rattle.uv_world.specs.Holdings.{held_of}
use Rattle.uv_world.proofs.Named.{fits_beside, same_acted}
use Rattle.uv_world.proofs.world.World.peek.Goals as goal

pub returns-clause-world : goal.returns-clause-world
returns-clause-world c =
    let old = c.args.self.now in
    record {
      seated = c.requires.world.seated;
      housed = c.peek.ensures.housed;
      fits = fits_beside old c.peek.new.self (held_acted (held_of old.contents) c.args.mr (peek_of c.args.offset c.args.length) c.peek.result) c.peek.ensures.held (same_acted (held_of old.contents) c.args.mr (peek_of c.args.offset c.args.length) c.peek.result) c.requires.world.fits;
    }
