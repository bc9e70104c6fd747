-- Laws of responses: what whoever lends a queue pair and its regions to a turn can rely on.
use Rattle.std.specs.Prelude.{◌≤◌}
use Rattle.uv_packet.specs.Packets.{Content}
use Rattle.uv_qp.specs.GoingOn.{TurnGoesOn}
use Rattle.uv_qp.specs.Pairs.{Paired}
use Rattle.uv_region.specs.GoingOn.{LentGoesOn}
use Rattle.uv_region.specs.Lent.{Lent}
use Rattle.uv_completer.specs.declared.judging.Upshot.{Upshot}
use Rattle.uv_completer.specs.declared.judging.Upshot.TheVariants.{Ignored, Moves, Breaks, Fills}
use Rattle.uv_completer.specs.Replies.{lent_by_reply, reply_made}
use Rattle.uv_completer.specs.Upshots.{upshot_of}

-- By a response the queue pair goes on, and its lists gain the completions that are told; the regions that are lent to the turn
-- go on, and the queue pair acts on them for its own domain.

pub record ReplyGoesOn (c : Content) (p : Paired) (lent : Lent) : Type 0 where
  pub pair : TurnGoesOn p (reply_made c p lent).completions (reply_made c p lent).pair
  pub regions : LentGoesOn p.names.object p.names.domain lent (lent_by_reply c p lent)

abbrev pub RepliesGoOn : Type 0
RepliesGoOn = (c : Content) (p : Paired) (lent : Lent) → ReplyGoesOn c p lent

-- What is acknowledged stays so: no response moves the oldest packet that waits for an answer back.

abbrev pub GoesNotBack : Paired → Upshot → Type 0
GoesNotBack p Ignored = Unit {0}
GoesNotBack p (Moves word works r) = p.requester.una ≤ r.una
GoesNotBack p (Breaks word works r status) = p.requester.una ≤ r.una
GoesNotBack p (Fills at older from last) = p.requester.una ≤ at

abbrev pub AcknowledgedStaysSo : Type 0
AcknowledgedStaysSo = (c : Content) (p : Paired) → GoesNotBack p (upshot_of c p)
