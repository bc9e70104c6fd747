-- How the completions of an action come into the rings of the queue pair, and the events into the channels of these.
use Rattle.std.specs.Prelude.{ℕ, nat_lt, ◌==◌, ◌&&◌, Bool, true, false, if◌then◌else◌, Option, None, Some, List, [], ◌∷◌, length}
use Rattle.uv_num.specs.declared.limits.TheConstants.{CHANNEL_EVENTS}
use Rattle.uv_queue.specs.Order.{with_newest}
use Rattle.uv_wr.specs.declared.completion.Completion.{Completion}
use Rattle.uv_cq.specs.Rings.{Ringed, push_told, after_push, after_disarm}
use Rattle.uv_qp.specs.GoingOn.{is_of_receive}
use Rattle.uv_engine.specs.declared.lent.CqLent.{CqLent}
use Rattle.uv_engine.specs.declared.lent.Lent.{Lent}

-- a channel that is lent, if one is: its events, the oldest first
abbrev pub LentChannel : Type 0
LentChannel = Option (List ℕ)

-- whether it takes one more event
abbrev pub has_event_room : LentChannel → Bool
has_event_room None = false
has_event_room (Some events) = nat_lt (length events) CHANNEL_EVENTS

-- the channel with an event, unless it is full
abbrev pub with_event : LentChannel → ℕ → LentChannel
with_event None cell = None
with_event (Some events) cell = Some (if has_event_room (Some events) then with_newest events cell else events)

-- a ring after a completion: where it is armed for that and its channel takes the event, it is disarmed
abbrev pub ring_rung : Ringed → Bool → Completion → Bool → Ringed
ring_rung r takes completion solicited =
    if (push_told r completion solicited).event && takes then after_disarm (after_push r completion) else after_push r completion

-- a completion queue after one
abbrev pub cq_rung : CqLent → LentChannel → Completion → Bool → CqLent
cq_rung cq channel completion solicited = record cq { ring = ring_rung cq.ring (has_event_room channel) completion solicited }

-- its channel
abbrev pub channel_rung : CqLent → LentChannel → Completion → Bool → LentChannel
channel_rung cq channel completion solicited =
    if (push_told cq.ring completion solicited).event then with_event channel cq.cell else channel

-- whether two completion queues have one channel
abbrev pub is_shared : Option ℕ → Option ℕ → Bool
is_shared None second = false
is_shared (Some first) None = false
is_shared (Some first) (Some second) = first == second

-- the completion of a send, which comes into the ring of the sends, or of a receive where both have one ring
abbrev pub rung_in_sends : Lent → Completion → Bool → Lent
rung_in_sends lent completion solicited = record lent {
  send = cq_rung lent.send lent.send_channel completion solicited;
  send_channel = channel_rung lent.send lent.send_channel completion solicited;
}

-- that of a receive, where the receives have a ring of their own
abbrev pub rung_in_receives : Lent → CqLent → Completion → Bool → Lent
rung_in_receives lent cq completion solicited =
    if is_shared lent.send.channel cq.channel
    then record lent {
      receive = Some (cq_rung cq lent.send_channel completion solicited);
      send_channel = channel_rung cq lent.send_channel completion solicited;
    }
    else record lent {
      receive = Some (cq_rung cq lent.receive_channel completion solicited);
      receive_channel = channel_rung cq lent.receive_channel completion solicited;
    }

abbrev pub rung_by_receive : Lent → Option CqLent → Completion → Bool → Lent
rung_by_receive lent None completion solicited = rung_in_sends lent completion solicited
rung_by_receive lent (Some cq) completion solicited = rung_in_receives lent cq completion solicited

-- what is lent after one completion. The packet that completes a receive may ask for an event; none asks for one for a send
abbrev pub rung : Lent → Completion → Bool → Lent
rung lent completion solicited =
    if is_of_receive completion then rung_by_receive lent lent.receive completion solicited else rung_in_sends lent completion false

-- and after all, in order
abbrev pub all_rung : Lent → List Completion → Bool → Lent
all_rung lent [] solicited = lent
all_rung lent (c ∷ cs) solicited = all_rung (rung lent c solicited) cs solicited
