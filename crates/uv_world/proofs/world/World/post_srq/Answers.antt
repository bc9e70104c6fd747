use Rattle.uv_world.specs.Posting.{held_srq_posted}
use Rattle.uv_world.specs.Holdings.{held_of}
use Rattle.uv_world.proofs.Named.{fits_beside, same_srq_posted}
use Rattle.uv_world.proofs.world.World.post_srq.Goals as goal

pub returns-clause-world : goal.returns-clause-world
returns-clause-world c =
    let old = c.args.self.now in
    record {
      seated = c.requires.world.seated;
      housed = c.post_srq.ensures.housed;
      fits = fits_beside old c.post_srq.new.self (held_srq_posted (held_of old.contents) c.args.srq c.args.work c.post_srq.result) c.post_srq.ensures.held (same_srq_posted (held_of old.contents) c.args.srq c.args.work c.post_srq.result) c.requires.world.fits;
    }
