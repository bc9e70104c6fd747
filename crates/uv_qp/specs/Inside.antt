-- How the parts of a queue pair are seen, and how its ledgers fit its works.
use Rattle.std.specs.Prelude.{◌≡◌}
use Rattle.uv_qp.specs.declared.qp.Qp.TheInside.{Inside}
use Rattle.uv_qp.specs.Pairs.{Paired, IsPaired, sends_owed, receives_owed}

-- the queue pair of these parts
abbrev pub seen_pair : Inside → Paired
seen_pair q = record {
  names = q.names;
  service = q.service;
  srq = q.srq;
  state = q.state;
  kept = q.kept;
  requester = q.requester;
  responder = q.responder;
  held = q.held;
  sends = q.sends;
  receives = q.receives;
  sent = q.sent.completed;
  received = q.received.completed;
}

-- each work that waits is owed its completion, in order
pub record Fits (q : Inside) : Type 0 where
  pub pair : IsPaired (seen_pair q)
  pub sends : q.sent.owed ≡ sends_owed (seen_pair q)
  pub receives : q.received.owed ≡ receives_owed (seen_pair q)
