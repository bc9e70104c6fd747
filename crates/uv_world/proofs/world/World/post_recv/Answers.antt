use Rattle.uv_world.specs.Posting.{held_receive_posted}
use Rattle.uv_world.specs.Holdings.{held_of}
use Rattle.uv_world.proofs.Named.{fits_beside, same_receive_posted}
use Rattle.uv_world.proofs.world.World.post_recv.Goals as goal

pub returns-clause-world : goal.returns-clause-world
returns-clause-world c =
    let old = c.args.self.now in
    record {
      seated = c.requires.world.seated;
      housed = c.post_recv.ensures.housed;
      fits = fits_beside old c.post_recv.new.self (held_receive_posted (held_of old.contents) c.args.qp c.args.work c.post_recv.result) c.post_recv.ensures.held (same_receive_posted (held_of old.contents) c.args.qp c.args.work c.post_recv.result) c.requires.world.fits;
    }
