-- What comes of a request, whole.
use Rattle.std.specs.Borrow.{MutBor}
use Rattle.std.proofs.Common.{inl, inr}
use Rattle.std.specs.Prelude.{ℕ, ◌⊎◌, ◌≡◌, ◌<◌, Bool, true, false, is_some, if◌then◌else◌, Option, None, Some, IfSome, List, [], ◌∷◌, map, ◌≤◌, slice_get, length}
use Rattle.uv_packet.specs.Packets.{Content, content_of, IsPacketValue}
use Rattle.uv_packet.specs.declared.opcode.Opcode.{Opcode}
use Rattle.uv_packet.specs.declared.packet.Packet.{Packet}
use Rattle.uv_packet.specs.Opcodes.{opcode_of}
use Rattle.uv_queue.specs.Order.{oldest}
use Rattle.uv_queue.specs.Queued.{Queued, after_pop}
use Rattle.uv_qp.specs.declared.state.Names.{Names}
use Rattle.uv_qp.specs.declared.turns.TurnDone.{TurnDone}
use Rattle.uv_qp.specs.declared.turns.TurnDone.TheVariants.{Turned, Idle, NoMemory}
use Rattle.uv_qp.specs.declared.turns.TurnWord.{TurnWord}
use Rattle.uv_qp.specs.GoingOn.{TurnGoesOn}
use Rattle.uv_qp.specs.Pairs.{Paired, IsResponding, has_begun, held_or, is_broken, is_send, next_receive, peer_of, peer_device_of}
use Rattle.uv_qp.specs.Writers.{broken, held_from_queue, held_from_shared, receive_completed, receive_completion, with_responder}
use Rattle.uv_region.specs.declared.action.Access.{Access}
use Rattle.uv_region.specs.declared.action.Access.TheVariants.{LocalWrite}
use Rattle.uv_region.specs.declared.piece.Piece.{Piece}
use Rattle.uv_region.specs.GoingOn.{LentGoesOn}
use Rattle.uv_region.specs.Lent.{Lent, StaysKnown}
use Rattle.uv_region.specs.Several.{lent_written, with_rooms_for, writes_of}
use Rattle.uv_wr.specs.declared.completion.Completion.{Completion}
use Rattle.uv_wr.specs.Statuses.{is_failure}
use Rattle.uv_wr.specs.Works.{Receiving}
use Rattle.uv_responder.specs.declared.part.Part.{Part}
use Rattle.uv_responder.specs.declared.planning.Ending.{Ending}
use Rattle.uv_responder.specs.declared.planning.Plan.{Plan}
use Rattle.uv_responder.specs.declared.turning.Prepared.{Prepared}
use Rattle.uv_responder.specs.Answers.{answer_packets, answers_to}
use Rattle.uv_responder.specs.Datagrams.{arrival_of, datagram_pieces, datagram_plan}
use Rattle.uv_responder.specs.Judging.{judgement_of}
use Rattle.uv_responder.specs.Parts.{part_of}
use Rattle.uv_responder.specs.Plans.{kind_of_write, pieces_written, row_plan}

-- the shared receive queue, where the queue pair has one
abbrev pub Shared : Type 0
Shared = Option (Queued Receiving)

-- the receive that a message has or would take
abbrev pub receive_for : Paired → Shared → Option Receiving
receive_for p None = next_receive p
receive_for p (Some q) = held_or p.held (oldest q.works)

-- the queue pair with the oldest receive of its own queue, or of the shared one
abbrev pub holding_next : Paired → Shared → Paired
holding_next p None = held_from_queue p (oldest p.receives.works)
holding_next p (Some q) = held_from_shared p (oldest q.works)

abbrev pub taken : Bool → Paired → Shared → Paired
taken takes p shared = if takes then holding_next p shared else p

abbrev pub shared_popped : Shared → Shared
shared_popped None = None
shared_popped (Some q) = Some (after_pop q)

abbrev pub shared_after : Bool → Shared → Shared
shared_after takes shared = if takes then shared_popped shared else shared

-- the receive that may be taken
abbrev pub oldest_for : Paired → Shared → Option Receiving
oldest_for p None = oldest p.receives.works
oldest_for p (Some q) = oldest q.works

pub record MayTake (takes : Bool) (p : Paired) (shared : Shared) : Type 0 where
  pub begun : has_begun p.state ≡ true
  pub free : takes ≡ true → is_some p.held ≡ false
  pub next : takes ≡ true → is_some (oldest_for p shared) ≡ true

-- the queue pair after that

abbrev pub broken_if : Bool → Paired → Paired
broken_if breaks p = if breaks then broken p else p

abbrev pub receive_ended_by : Option Ending → Paired → Paired
receive_ended_by None p = p
receive_ended_by (Some e) p = receive_completed p e.status e.length e.imm

abbrev pub settled : Plan → Paired → Paired
settled plan p = with_responder (receive_ended_by plan.ends (broken_if plan.breaks p)) plan.responder

-- what is told of the receive that ends
abbrev pub completion_for : Names → Ending → Option Receiving → List Completion
completion_for names e None = []
completion_for names e (Some w) = receive_completion names e.status e.length e.imm w ∷ []

abbrev pub completions_for : Names → Option Ending → Option Receiving → List Completion
completions_for names None next = []
completions_for names (Some e) next = completion_for names e next

-- what may be settled so
pub record MaySettle (plan : Plan) (p : Paired) : Type 0 where
  pub begun : has_begun p.state ≡ true
  pub unbroken : is_broken p.state ≡ false
  pub next : IfSome plan.ends (λ e. is_some (next_receive p) ≡ true)
  pub status : IfSome plan.ends (λ e. is_failure e.status ≡ plan.breaks)
  pub ranges : IsResponding plan.responder
  pub holding : is_some (receive_ended_by plan.ends (broken_if plan.breaks p)).held ≡ is_send plan.responder.message

-- the whole

-- what is told, and all that was lent, as it is left
pub record TurnMade : Type 0 where
  pub word : TurnWord
  pub to : ℕ
  pub packets : List Content
  pub completions : List Completion
  pub pair : Paired
  pub regions : Lent
  pub shared : Shared

-- a plan, and the pieces that bytes are written to
pub record Readied : Type 0 where
  pub plan : Plan
  pub kind : Access
  pub found : List Piece

-- of a request of a connection of which this part came
abbrev pub request_planned : Plan → Part → Content → Paired → Option Receiving → Readied
request_planned plan part c p next =
    record { plan = plan; kind = kind_of_write part.asks; found = pieces_written plan part c p next }

abbrev pub request_readied : Part → Content → Paired → Lent → Option Receiving → Readied
request_readied part c p lent next = request_planned (row_plan (judgement_of part c p lent next) part c p) part c p next

-- of a datagram
abbrev pub datagram_planned : Plan → Content → Option Receiving → Readied
datagram_planned plan c next = record { plan = plan; kind = LocalWrite; found = datagram_pieces plan c next }

abbrev pub datagram_readied : Content → Paired → Lent → Option Receiving → Readied
datagram_readied c p lent next = datagram_planned (datagram_plan (arrival_of c p lent next) c p) c next

-- what is no part of a connection's request is a datagram
abbrev pub readied_for : Option Part → Content → Paired → Lent → Option Receiving → Readied
readied_for None c p lent next = datagram_readied c p lent next
readied_for (Some part) c p lent next = request_readied part c p lent next

abbrev pub part_in : Option Opcode → Option Part
part_in None = None
part_in (Some opcode) = part_of opcode

abbrev pub readied : Content → Paired → Lent → Option Receiving → Readied
readied c p lent next = readied_for (part_in (opcode_of c.opcode)) c p lent next

-- what it makes
abbrev pub turned_by : Readied → Content → Paired → Lent → Shared → TurnMade
turned_by r c p lent shared = record {
  word = r.plan.word;
  to = answers_to (peer_device_of p) r.plan.told;
  packets = answer_packets (peer_of p) r.plan.responder.msn r.plan.told;
  completions = completions_for p.names r.plan.ends (receive_for p shared);
  pair = settled r.plan (taken r.plan.takes p shared);
  regions = lent_written (with_rooms_for lent r.found) r.kind p.names.object p.names.domain (writes_of r.found c.payload);
  shared = shared_after r.plan.takes shared;
}

-- what a request makes
abbrev pub turn_made : Content → Paired → Lent → Shared → TurnMade
turn_made c p lent shared = turned_by (readied c p lent (receive_for p shared)) c p lent shared

-- all its memory was taken
pub record IsPrepared (r : Readied) (c : Content) (p : Paired) (made : Prepared) : Type 0 where
  pub plan_is : made.plan ≡ r.plan
  pub kind_is : made.kind ≡ r.kind
  pub packets_are : map content_of made.packets ≡ answer_packets (peer_of p) r.plan.responder.msn r.plan.told
  pub writes_are : made.writes ≡ writes_of r.found c.payload
  pub none : made.completions.items ≡ []
  pub room : 0 < made.completions.room

-- it was made so
pub record IsTurned (m : TurnMade) (word : TurnWord) (to : ℕ) (packets : List Packet) (completions : List Completion) (p : Paired) (lent : Lent) (shared : Shared) : Type 0 where
  pub word_is : word ≡ m.word
  pub to_is : to ≡ m.to
  pub packets_are : map content_of packets ≡ m.packets
  pub completions_are : completions ≡ m.completions
  pub pair_is : p ≡ m.pair
  pub regions_are : lent ≡ m.regions
  pub shared_is : shared ≡ m.shared

-- nothing that counts has changed
pub record IsUnmade (p : Paired) (lent : Lent) (shared : Shared) (p' : Paired) (lent' : Lent) (shared' : Shared) : Type 0 where
  pub pair_is : p' ≡ p
  pub regions_stay : StaysKnown lent lent'
  pub shared_is : shared' ≡ shared

-- carried out, with a receive held where one was to be taken
abbrev pub carried_out : Prepared → Paired → Lent → TurnMade
carried_out made p lent = record {
  word = made.plan.word;
  to = answers_to (peer_device_of p) made.plan.told;
  packets = map content_of made.packets;
  completions = completions_for p.names made.plan.ends (next_receive p);
  pair = settled made.plan p;
  regions = lent_written lent made.kind p.names.object p.names.domain made.writes;
  shared = None;
}

abbrev pub Finishes : TurnMade → TurnDone → Paired → Lent → Type 0
Finishes m (Turned word to packets completions) p lent = IsTurned m word to packets completions p lent m.shared
Finishes m Idle p lent = ⊥
Finishes m NoMemory p lent = ⊥

-- what the answer says: the turn was made, or memory ran out; there is always something to do
abbrev pub RequestGives : TurnMade → Paired → Lent → Shared → TurnDone → Paired → Lent → Shared → Type 0
RequestGives m p lent shared (Turned word to packets completions) p' lent' shared' = IsTurned m word to packets completions p' lent' shared'
RequestGives m p lent shared Idle p' lent' shared' = ⊥
RequestGives m p lent shared NoMemory p' lent' shared' = IsUnmade p lent shared p' lent' shared'

-- what is left goes on from what was lent: the lists of the queue pair gained the completions that are told, and the regions were
-- acted on by it alone
abbrev pub RequestGoesOn : TurnDone → Paired → Lent → Paired → Lent → Type 0
RequestGoesOn (Turned word to packets completions) p lent p' lent' = TurnGoesOn p completions p' × LentGoesOn p.names.object p.names.domain lent lent'
RequestGoesOn Idle p lent p' lent' = ⊥
RequestGoesOn NoMemory p lent p' lent' = TurnGoesOn p [] p' × LentGoesOn p.names.object p.names.domain lent lent'

-- at most one packet goes out, and it may be written as bytes
pub record GoOut (packets : List Packet) : Type 0 where
  pub few : length packets ≤ 1
  pub value : (p : Packet) → slice_get packets 0 ≡ Some p → IsPacketValue (content_of p)

abbrev pub AnswersGoOut : TurnDone → Type 0
AnswersGoOut (Turned word to packets completions) = GoOut packets
AnswersGoOut Idle = Unit {0}
AnswersGoOut NoMemory = Unit {0}

-- with the shared queue as it was lent, and as it is given back

abbrev pub LentQueue : Type 0
LentQueue = Option (MutBor (Queued Receiving))

abbrev pub GivenBack : Type 0
GivenBack = Unit {0} ⊎ ((MutBor (Queued Receiving) × Unit {0}) ⊎ ⊥)

abbrev pub shared_lent : LentQueue → Shared
shared_lent None = None
shared_lent (Some q) = Some q.now

-- the queue that was lent is given back, or none was lent
abbrev pub RequestLeaves : Content → Paired → Lent → LentQueue → GivenBack → TurnDone → Paired → Lent → Type 0
RequestLeaves c p lent None given done p' lent' = RequestGives (turn_made c p lent None) p lent None done p' lent' None
RequestLeaves c p lent (Some q) (inl none) done p' lent' = ⊥
RequestLeaves c p lent (Some q) (inr (inl left)) done p' lent' = RequestGives (turn_made c p lent (Some q.now)) p lent (Some q.now) done p' lent' (Some left.0.now)
RequestLeaves c p lent (Some q) (inr (inr never)) done p' lent' = ⊥
