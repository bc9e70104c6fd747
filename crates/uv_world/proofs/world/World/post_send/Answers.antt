use Rattle.uv_world.specs.Sending.{held_send_posted}
use Rattle.uv_world.specs.Holdings.{held_of}
use Rattle.uv_world.proofs.Named.{fits_beside, same_send_posted}
use Rattle.uv_world.proofs.world.World.post_send.Goals as goal

pub returns-clause-world : goal.returns-clause-world
returns-clause-world c =
    let old = c.args.self.now in
    record {
      seated = c.requires.world.seated;
      housed = c.post_send.ensures.housed;
      fits = fits_beside old c.post_send.new.self (held_send_posted (held_of old.contents) c.args.qp c.args.ah c.args.work c.post_send.result) c.post_send.ensures.held (same_send_posted (held_of old.contents) c.args.qp c.args.ah c.args.work c.post_send.result) c.requires.world.fits;
    }
