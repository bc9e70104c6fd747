-- A queue pair as its callers see it, and what is true of each.
use Rattle.std.specs.Prelude.{◌≡◌, ◌≤◌, ◌<◌, ◌+◌, ◌==◌, ◌||◌, ℕ, Bool, true, false, not, is_some, Option, None, Some, IfSome, List, [], ◌∷◌, ◌++◌, map, length, unwrap_or}
use Rattle.std.specs.List.{list_all}
use Rattle.uv_num.specs.declared.attrs.QpAttrs.{QpAttrs}
use Rattle.uv_num.specs.declared.limits.TheConstants.{CELLS, FIRST_QP_NUMBER, MOST_RETRIES, PSNS, WORK_BYTES}
use Rattle.uv_num.specs.declared.qp.QpState.{QpState}
use Rattle.uv_num.specs.declared.qp.QpState.TheVariants.{Reset, Init, Rtr, Rts, Err}
use Rattle.uv_num.specs.declared.qp.Service.{Service}
use Rattle.uv_num.specs.Each.{Each}
use Rattle.uv_num.specs.Ranges.{attrs_in_range}
use Rattle.uv_queue.specs.Order.{oldest}
use Rattle.uv_queue.specs.Queued.{Queued}
use Rattle.uv_wr.specs.declared.completion.Completion.{Completion}
use Rattle.uv_wr.specs.Works.{Sending, Receiving}
use Rattle.uv_qp.specs.declared.counting.TheConstants.{WORK_PACKETS}
use Rattle.uv_qp.specs.declared.state.Message.{Message}
use Rattle.uv_qp.specs.declared.state.Message.TheVariants as message
use Rattle.uv_qp.specs.declared.state.Names.{Names}
use Rattle.uv_qp.specs.declared.state.Reading.{Reading}
use Rattle.uv_qp.specs.declared.state.Requester.{Requester}
use Rattle.uv_qp.specs.declared.state.Responder.{Responder}
use Rattle.uv_qp.specs.Ledgers.{all_succeeded, in_order, posted_of}
use Rattle.uv_qp.specs.PacketCounts.{queue_packets}
use Rattle.uv_qp.specs.Services.{IsServed}

-- what it is, where it stands, and its lists: the works that wait, and how those ended that have
pub record Paired : Type 0 where
  pub names : Names
  pub service : Service
  pub srq : Bool
  pub state : QpState
  pub kept : QpAttrs
  pub requester : Requester
  pub responder : Responder
  pub held : Option Receiving
  pub sends : Queued Sending
  pub receives : Queued Receiving
  pub sent : List Completion
  pub received : List Completion

-- the states

-- whether a state takes receives
abbrev pub takes_receives : QpState → Bool
takes_receives Reset = false
takes_receives Init = true
takes_receives Rtr = true
takes_receives Rts = true
takes_receives Err = true

-- whether a state takes sends
abbrev pub takes_sends : QpState → Bool
takes_sends Reset = false
takes_sends Init = false
takes_sends Rtr = false
takes_sends Rts = true
takes_sends Err = true

-- whether requests have come in, or may have
abbrev pub has_begun : QpState → Bool
has_begun Reset = false
has_begun Init = false
has_begun Rtr = true
has_begun Rts = true
has_begun Err = true

-- whether it is broken
abbrev pub is_broken : QpState → Bool
is_broken Reset = false
is_broken Init = false
is_broken Rtr = false
is_broken Rts = false
is_broken Err = true

-- its number

abbrev pub qpn_of : Names → ℕ
qpn_of names = FIRST_QP_NUMBER + names.index

-- whether a completion names it
abbrev pub names_pair : Names → Completion → Bool
names_pair names c = c.qpn == qpn_of names

-- its attributes: what is told to others where none was given

-- the remote rights that it gives
abbrev pub access_of : Paired → ℕ
access_of p = unwrap_or p.kept.access 0

-- the path MTU
abbrev pub mtu_of : Paired → ℕ
mtu_of p = unwrap_or p.kept.mtu 256

-- the number and the device of the queue pair that it is connected to
abbrev pub peer_of : Paired → ℕ
peer_of p = unwrap_or p.kept.dqpn 0

abbrev pub peer_device_of : Paired → ℕ
peer_device_of p = unwrap_or p.kept.dev 0

-- the Q_Key
abbrev pub qkey_of : Paired → ℕ
qkey_of p = unwrap_or p.kept.qkey 0

-- the code of the wait that a peer is told
abbrev pub rnr_timer_of : Paired → ℕ
rnr_timer_of p = unwrap_or p.kept.rnrtimer 0

-- the resends that it makes without an answer, and without a receive at the peer
abbrev pub retries_of : Paired → ℕ
retries_of p = unwrap_or p.kept.retry 0

abbrev pub rnr_retries_of : Paired → ℕ
rnr_retries_of p = unwrap_or p.kept.rnr 0

-- its works

abbrev pub sending_id : Sending → ℕ
sending_id w = w.id

abbrev pub receiving_id : Receiving → ℕ
receiving_id w = w.id

abbrev pub held_ids : Option Receiving → List ℕ
held_ids None = []
held_ids (Some w) = w.id ∷ []

-- the ids of the sends that wait
abbrev pub sends_owed : Paired → List ℕ
sends_owed p = map sending_id p.sends.works

-- the ids of the receives that wait: the one that a message holds, and then those of the queue
abbrev pub receives_owed : Paired → List ℕ
receives_owed p = held_ids p.held ++ map receiving_id p.receives.works

-- all that was posted since the last move to RESET
abbrev pub sends_posted : Paired → List ℕ
sends_posted p = posted_of p.sent (sends_owed p)

abbrev pub receives_posted : Paired → List ℕ
receives_posted p = posted_of p.received (receives_owed p)

-- the packets of the sends that wait
abbrev pub packets_waiting : Paired → ℕ
packets_waiting p = queue_packets (mtu_of p) p.sends.works

-- the send that ends next
abbrev pub next_send : Paired → Option Sending
next_send p = oldest p.sends.works

abbrev pub held_or : Option Receiving → Option Receiving → Option Receiving
held_or None next = next
held_or (Some w) next = Some w

-- the receive that ends next: the one that a message holds, or else the oldest of the queue
abbrev pub next_receive : Paired → Option Receiving
next_receive p = held_or p.held (oldest p.receives.works)

-- what is true

-- whether a message is a send, which holds a receive
abbrev pub is_send : Option Message → Bool
is_send None = false
is_send (Some (message.Send got)) = true
is_send (Some (message.Write key at got left)) = false

-- a message is no longer than a work
abbrev pub IsMessage : Message → Type 0
IsMessage (message.Send got) = got ≤ WORK_BYTES
IsMessage (message.Write key at got left) = got + left ≤ WORK_BYTES

-- a read is no longer than a work
pub record IsReading (r : Reading) : Type 0 where
  pub length : r.length ≤ WORK_BYTES
  pub psn : r.psn < PSNS
  pub sent : r.sent ≤ WORK_PACKETS

-- the numbers of a responder are in their ranges
pub record IsResponding (r : Responder) : Type 0 where
  pub expected : r.expected < PSNS
  pub msn : r.msn < PSNS
  pub message : IfSome r.message IsMessage
  pub reading : IfSome r.reading IsReading

-- the places of a requester are in order, and none is beyond so many packets
pub record IsRequesting (r : Requester) (packets : ℕ) : Type 0 where
  pub base : r.base < PSNS
  pub una : r.una ≤ r.next
  pub next : r.next ≤ r.high
  pub high : r.high ≤ packets
  pub asked : r.asked ≤ r.high
  pub retried : r.retried ≤ MOST_RETRIES
  pub unready : r.unready ≤ MOST_RETRIES

-- what is true of every queue pair: no work waits in a state that takes none, each send is one of its service, no message is in progress before RTR, a receive
-- is held exactly where the message is a send, only a broken one has works that failed, and its completions name it
pub record IsPaired (p : Paired) : Type 0 where
  pub cell : p.names.index < CELLS
  pub kept : attrs_in_range p.kept ≡ true
  pub requesting : IsRequesting p.requester (packets_waiting p)
  pub responding : IsResponding p.responder
  pub holding : is_some p.held ≡ is_send p.responder.message
  pub unposted : (takes_sends p.state || length p.sends.works == 0) ≡ true
  pub unbegun : (has_begun p.state || not (is_some p.responder.message)) ≡ true
  pub served : Each (IsServed p.service) p.sends.works
  pub shared : (not p.srq || length p.receives.works == 0) ≡ true
  pub sends_unbroken : (is_broken p.state || all_succeeded p.sent) ≡ true
  pub receives_unbroken : (is_broken p.state || all_succeeded p.received) ≡ true
  pub sends_named : list_all (names_pair p.names) p.sent ≡ true
  pub receives_named : list_all (names_pair p.names) p.received ≡ true

-- the works that ended are the first that were posted, and after one that failed none succeeded
pub record HasPlacesInOrder (p : Paired) : Type 0 where
  pub sends : in_order p.sent ≡ true
  pub receives : in_order p.received ≡ true
