use Rattle.uv_world.specs.Poking.{held_acted, poke_of}
use Rattle.uv_world.specs.Holdings.{held_of}
use Rattle.uv_world.proofs.Named.{fits_beside, same_acted}
use Rattle.uv_world.proofs.world.World.poke.Goals as goal

pub returns-clause-world : goal.returns-clause-world
returns-clause-world c =
    let old = c.args.self.now in
    record {
      seated = c.requires.world.seated;
      housed = c.poke.ensures.housed;
      fits = fits_beside old c.poke.new.self (held_acted (held_of old.contents) c.args.mr (poke_of c.args.offset c.args.bytes.now) c.poke.result) c.poke.ensures.held (same_acted (held_of old.contents) c.args.mr (poke_of c.args.offset c.args.bytes.now) c.poke.result) c.requires.world.fits;
    }
