-- What an action makes of all that was lent to it.
use Rattle.std.specs.Prelude.{◌≡◌, ℕ, ◌==◌, ◌&&◌, Bool, true, false, is_some, if◌then◌else◌, Option, None, Some, List, [], map}
use Rattle.std.specs.Option.{option_map}
use Rattle.uv_num.specs.declared.qp.Service.{Service}
use Rattle.uv_num.specs.declared.qp.Service.TheVariants.{Rc, Ud}
use Rattle.uv_queue.specs.Queued.{Queued}
use Rattle.uv_packet.specs.declared.packet.Packet.{Packet}
use Rattle.uv_packet.specs.Packets.{Content, bytes_of, content_of}
use Rattle.uv_link.specs.declared.frame.Frame.{Frame}
use Rattle.uv_link.specs.Frames.{PlainFrame, plain_frame}
use Rattle.uv_region.specs.Lent as region
use Rattle.uv_region.specs.Lent.{StaysKnown}
use Rattle.uv_wr.specs.declared.completion.Completion.{Completion}
use Rattle.uv_wr.specs.Works.{Receiving}
use Rattle.uv_qp.specs.declared.turns.TurnWord.{TurnWord}
use Rattle.uv_qp.specs.declared.turns.TurnWord.TheVariants as word
use Rattle.uv_qp.specs.declared.turns.TurnDone.{TurnDone}
use Rattle.uv_qp.specs.declared.turns.TurnDone.TheVariants as turn
use Rattle.uv_qp.specs.Gate.{lets_in}
use Rattle.uv_qp.specs.Pairs.{Paired, peer_device_of}
use Rattle.uv_requester.specs.Ends.{Made}
use Rattle.uv_requester.specs.Ticks.{tick_made}
use Rattle.uv_requester.specs.Turns.{lent_by_turn, send_turn_made}
use Rattle.uv_responder.specs.Turns.{TurnMade, turn_made, RequestGives}
use Rattle.uv_completer.specs.Replies.{lent_by_reply, reply_made}
use Rattle.uv_packet.specs.Refusal.{packet_of, refusal_of}
use Rattle.uv_engine.specs.declared.acting.Work.{Work}
use Rattle.uv_engine.specs.declared.acting.Work.TheVariants as work
use Rattle.uv_engine.specs.declared.acting.Did.{Did}
use Rattle.uv_engine.specs.declared.acting.Did.TheVariants as did
use Rattle.uv_engine.specs.declared.lent.Lent.{Lent}
use Rattle.uv_engine.specs.Ringing.{all_rung}
use Rattle.uv_engine.specs.Wanting.{responds}

-- its word, the frames that go out, and what was lent, as it is given back
pub record ActionMade : Type 0 where
  pub word : TurnWord
  pub frames : List PlainFrame
  pub lent : Lent

-- the frame of a packet
abbrev pub framed : ℕ → ℕ → Content → PlainFrame
framed from to c = record { from = from; to = to; bytes = bytes_of c }

abbrev pub all_framed : ℕ → ℕ → List Content → List PlainFrame
all_framed from to packets = map (framed from to) packets

-- what comes of a turn: its packets go out from the device of the queue pair, and its completions are rung
abbrev pub with_turn : Lent → Paired → region.Lent → Lent
with_turn lent p regions = record lent { qp = p; regions = regions }

abbrev pub made_by_turn : Lent → TurnWord → ℕ → List Content → List Completion → Lent → Bool → ActionMade
made_by_turn lent word to packets completions left solicited = record {
  word = word;
  frames = all_framed lent.qp.names.device to packets;
  lent = all_rung left completions solicited;
}

-- a send turn, and a tick, where there is something to do

abbrev pub made_by_requester : Lent → region.Lent → Made → ActionMade
made_by_requester lent regions m = made_by_turn lent m.word m.to m.packets m.completions (with_turn lent m.pair regions) false

abbrev pub send_action : Lent → Option ActionMade
send_action lent = option_map (made_by_requester lent (lent_by_turn lent.qp lent.regions)) (send_turn_made lent.qp lent.regions)

abbrev pub tick_action : Lent → Option ActionMade
tick_action lent = option_map (made_by_requester lent lent.regions) (tick_made lent.qp)

-- a delivery

-- a packet that means nothing
abbrev pub only_word : TurnWord → Lent → ActionMade
only_word word lent = record { word = word; frames = []; lent = lent }

abbrev pub response_action : Lent → Content → ActionMade
response_action lent c =
    let m = reply_made c lent.qp lent.regions in
    made_by_turn lent m.word 0 [] m.completions (with_turn lent m.pair (lent_by_reply c lent.qp lent.regions)) c.solicited

-- what a request made, and the shared receive queue that it left
abbrev pub made_by_responder : Lent → TurnMade → Bool → ActionMade
made_by_responder lent m solicited =
    made_by_turn lent m.word m.to m.packets m.completions (record lent { qp = m.pair; regions = m.regions; srq = m.shared }) solicited

abbrev pub request_action : Lent → Content → ActionMade
request_action lent c = made_by_responder lent (turn_made c lent.qp lent.regions lent.srq) c.solicited

-- a connection takes packets from the device of its peer alone
abbrev pub comes_from_peer : Paired → Service → ℕ → Bool
comes_from_peer p Rc from = from == peer_device_of p
comes_from_peer p Ud from = true

abbrev pub is_admitted : Paired → ℕ → Content → Bool
is_admitted p from c = lets_in p c && comes_from_peer p p.service from

-- a packet that is let in is a response or a request
abbrev pub taking_action : Lent → Content → ActionMade
taking_action lent c = if responds c then response_action lent c else request_action lent c

-- one that came to the device of the queue pair
abbrev pub arrival_action : Lent → ℕ → Content → ActionMade
arrival_action lent from c = if is_admitted lent.qp from c then taking_action lent c else only_word word.Dropped lent

-- a frame to another device is for a queue pair that isn't there
abbrev pub is_here : Paired → ℕ → Bool
is_here p to = to == p.names.device

abbrev pub delivery_action : Lent → ℕ → ℕ → Content → ActionMade
delivery_action lent from to c = if is_here lent.qp to then arrival_action lent from c else only_word word.Dead lent

-- what each answer says

-- nothing that counts has changed: all is as it was lent, but for the room of the regions
pub record IsUntouched (old new : Lent) : Type 0 where
  pub rest_is : new ≡ record old { regions = new.regions }
  pub regions_stay : StaysKnown old.regions new.regions

pub record IsActionMade (m : ActionMade) (word : TurnWord) (frames : List Frame) (left : Lent) : Type 0 where
  pub word_is : word ≡ m.word
  pub frames_are : map plain_frame frames ≡ m.frames
  pub lent_is : left ≡ m.lent

-- where there may be nothing to do; want of memory may be met before that is clear
abbrev pub ActionGives : Option ActionMade → Lent → Did → Lent → Type 0
ActionGives None lent (did.Did word frames) left = ⊥
ActionGives None lent did.Idle left = left ≡ lent
ActionGives None lent did.NoMemory left = IsUntouched lent left
ActionGives (Some m) lent (did.Did word frames) left = IsActionMade m word frames left
ActionGives (Some m) lent did.Idle left = ⊥
ActionGives (Some m) lent did.NoMemory left = IsUntouched lent left

-- what the end of a turn makes of what it left: its packets go out from a device

pub record IsFinished (from : ℕ) (lent : Lent) (solicited : Bool) (word : TurnWord) (to : ℕ) (packets : List Packet) (completions : List Completion) (told : TurnWord) (frames : List Frame) (left : Lent) : Type 0 where
  pub word_is : told ≡ word
  pub frames_are : map plain_frame frames ≡ all_framed from to (map content_of packets)
  pub lent_is : left ≡ all_rung lent completions solicited

abbrev pub FinishGives : ℕ → Lent → Bool → TurnDone → Did → Lent → Type 0
FinishGives from lent solicited (turn.Turned word to packets completions) (did.Did told frames) left = IsFinished from lent solicited word to packets completions told frames left
FinishGives from lent solicited (turn.Turned word to packets completions) did.Idle left = ⊥
FinishGives from lent solicited (turn.Turned word to packets completions) did.NoMemory left = ⊥
FinishGives from lent solicited turn.Idle (did.Did told frames) left = ⊥
FinishGives from lent solicited turn.Idle did.Idle left = left ≡ lent
FinishGives from lent solicited turn.Idle did.NoMemory left = ⊥
FinishGives from lent solicited turn.NoMemory (did.Did told frames) left = ⊥
FinishGives from lent solicited turn.NoMemory did.Idle left = ⊥
FinishGives from lent solicited turn.NoMemory did.NoMemory left = left ≡ lent

-- no packet goes out
abbrev pub SendsNothing : TurnDone → Type 0
SendsNothing (turn.Turned word to packets completions) = packets ≡ []
SendsNothing turn.Idle = Unit {0}
SendsNothing turn.NoMemory = Unit {0}

-- only a word is told
abbrev pub TellsWord : TurnWord → Did → Type 0
TellsWord word (did.Did told frames) = (told ≡ word) × (map plain_frame frames ≡ [])
TellsWord word did.Idle = ⊥
TellsWord word did.NoMemory = ⊥

-- a request was turned, and all but the queue pair, the regions and the shared receive queue is as it was lent
pub record RequestTurned (lent : Lent) (c : Content) (done : TurnDone) (left : Lent) : Type 0 where
  pub gives : RequestGives (turn_made c lent.qp lent.regions lent.srq) lent.qp lent.regions lent.srq done left.qp left.regions left.srq
  pub rest : left ≡ record lent { qp = left.qp; regions = left.regions; srq = left.srq }

-- the bytes of a frame that is delivered are those of a packet
abbrev pub DeliversPacket : Work → Type 0
DeliversPacket (work.Send cell) = Unit {0}
DeliversPacket (work.Tick cell) = Unit {0}
DeliversPacket (work.Deliver frame) = refusal_of frame.bytes.bytes ≡ None

-- what the answer to the delivery of a frame says
abbrev pub FrameGives : Frame → Lent → Did → Lent → Type 0
FrameGives frame lent d left = (c : Content) → packet_of frame.bytes.bytes ≡ Some c → ActionGives (Some (delivery_action lent frame.from frame.to c)) lent d left

-- what the answer to an action says
abbrev pub WorkGives : Work → Lent → Did → Lent → Type 0
WorkGives (work.Send cell) lent d left = ActionGives (send_action lent) lent d left
WorkGives (work.Tick cell) lent d left = ActionGives (tick_action lent) lent d left
WorkGives (work.Deliver frame) lent d left = FrameGives frame lent d left
