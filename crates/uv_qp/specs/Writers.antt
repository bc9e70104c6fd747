-- What the turns make of a queue pair.
use Rattle.std.specs.Prelude.{ℕ, ◌+◌, ◌-◌, ◌%◌, Option, None, Some, if◌then◌else◌}
use Rattle.uv_num.specs.declared.limits.TheConstants.{PSNS}
use Rattle.uv_num.specs.declared.qp.QpState.TheVariants as state
use Rattle.uv_queue.specs.Order.{with_newest}
use Rattle.uv_queue.specs.Queued.{after_pop}
use Rattle.uv_wr.specs.declared.completion.Completion.{Completion}
use Rattle.uv_wr.specs.declared.completion.Status.{Status}
use Rattle.uv_wr.specs.declared.completion.What.{What}
use Rattle.uv_wr.specs.declared.completion.What.TheVariants as what
use Rattle.uv_wr.specs.declared.work.Op.{Op}
use Rattle.uv_wr.specs.declared.work.Op.TheVariants.{Send, SendImm, Write, WriteImm, Read, Ud, UdImm}
use Rattle.uv_wr.specs.Statuses.{is_failure}
use Rattle.uv_wr.specs.Works.{Sending, Receiving, whole_length}
use Rattle.uv_qp.specs.declared.state.Message.TheVariants as message
use Rattle.uv_qp.specs.declared.state.Names.{Names}
use Rattle.uv_qp.specs.declared.state.Requester.{Requester}
use Rattle.uv_qp.specs.declared.state.Responder.{Responder}
use Rattle.uv_qp.specs.PacketCounts.{work_packets}
use Rattle.uv_qp.specs.Pairs.{Paired, mtu_of, next_send, next_receive, qpn_of}

-- with its requester, or its responder, elsewhere
abbrev pub with_requester : Paired → Requester → Paired
with_requester p r = record p { requester = r }

abbrev pub with_responder : Paired → Responder → Paired
with_responder p r = record p { responder = r }

-- broken: it takes part in nothing more, and what waits is flushed
abbrev pub broken : Paired → Paired
broken p = record p { state = state.Err }

-- how works end

-- what was completed
abbrev pub what_of : Op → What
what_of Send = what.Send
what_of (SendImm imm) = what.Send
what_of (Write at key) = what.Write
what_of (WriteImm at key imm) = what.Write
what_of (Read at key) = what.Read
what_of (Ud device qp qkey) = what.Ud
what_of (UdImm device qp qkey imm) = what.Ud

-- the completion of a send tells its whole length, or 0 where it failed
abbrev pub send_completion : Names → Status → Sending → Completion
send_completion names status w = record {
  id = w.id;
  status = status;
  what = what_of w.op;
  length = if is_failure status then 0 else whole_length w.parts;
  imm = None;
  qpn = qpn_of names;
}

-- the completion of a receive tells the length of the message and its immediate, or neither where it failed
abbrev pub receive_completion : Names → Status → ℕ → Option ℕ → Receiving → Completion
receive_completion names status length imm w = record {
  id = w.id;
  status = status;
  what = what.Recv;
  length = if is_failure status then 0 else length;
  imm = if is_failure status then None else imm;
  qpn = qpn_of names;
}

-- a requester counts from so many packets later
abbrev pub counted_from : Requester → ℕ → Requester
counted_from r packets = record r {
  base = (r.base + packets) % PSNS;
  una = r.una - packets;
  next = r.next - packets;
  high = r.high - packets;
  asked = r.asked - packets;
}

-- the oldest send ends with a status
abbrev pub send_ended : Paired → Status → Option Sending → Paired
send_ended p status None = p
send_ended p status (Some w) = record p {
  requester = counted_from p.requester (work_packets (mtu_of p) w);
  sends = after_pop p.sends;
  sent = with_newest p.sent (send_completion p.names status w);
}

abbrev pub send_completed : Paired → Status → Paired
send_completed p status = send_ended p status (next_send p)

-- what is left where the receive that ends next has gone: with it goes the send that held it
abbrev pub without_next : Paired → Option Receiving → Paired
without_next p None = record p { receives = after_pop p.receives }
without_next p (Some w) = record p { held = None; responder = record p.responder { message = None } }

-- the next receive ends with a status
abbrev pub receive_ended : Paired → Status → ℕ → Option ℕ → Option Receiving → Paired
receive_ended p status length imm None = p
receive_ended p status length imm (Some w) =
    record (without_next p p.held) { received = with_newest p.received (receive_completion p.names status length imm w) }

abbrev pub receive_completed : Paired → Status → ℕ → Option ℕ → Paired
receive_completed p status length imm = receive_ended p status length imm (next_receive p)

-- a send begins, of which nothing has come, and holds a receive
abbrev pub holding : Paired → Receiving → Paired
holding p w = record p { held = Some w; responder = record p.responder { message = Some (message.Send 0) } }

-- it holds the oldest receive of the queue
abbrev pub held_from_queue : Paired → Option Receiving → Paired
held_from_queue p None = p
held_from_queue p (Some w) = holding (record p { receives = after_pop p.receives }) w

-- it holds a receive of the shared receive queue
abbrev pub held_from_shared : Paired → Option Receiving → Paired
held_from_shared p None = p
held_from_shared p (Some w) = holding p w
