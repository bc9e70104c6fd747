use Rattle.std.proofs.Common.{rules, arith, ◌≡◌, true}
use Rattle.uv_qp.specs.Inside.{seen_pair}
use Rattle.uv_qp.specs.Posts.{may_send}
use Rattle.uv_qp.proofs.Posting.{fits_posted}
use Rattle.uv_qp.proofs.qp.Qp.post_send.Goals as goal

pub invariant_of-self-in-Ok : goal.invariant_of-self-in-Ok
invariant_of-self-in-Ok c =
    let may : may_send (seen_pair c.self.inside) c.args.work ≡ true = grind arith in
    fits_posted c.self.inside c.args.work _ _ c.self.invariant may c.may_send.ensures.addressed (search rules) (search rules)
