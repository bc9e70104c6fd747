-- What packet actions answer, and what they leave.
use Rattle.std.specs.Prelude.{ℕ, ◌≡◌, Option, None, Some, List, map, option_map}
use Rattle.uv_packet.specs.declared.fault.PacketFault.{PacketFault}
use Rattle.uv_packet.specs.Packets.{Content}
use Rattle.uv_packet.specs.Reading.{content_at, dest_at}
use Rattle.uv_packet.specs.Refusal.{refusal_of}
use Rattle.uv_link.specs.declared.frame.Frame.{Frame}
use Rattle.uv_link.specs.Frames.{plain_frame}
use Rattle.uv_qp.specs.declared.turns.TurnWord.{TurnWord}
use Rattle.uv_region.specs.Registered.{KnownRegion, Registered, known_of}
use Rattle.uv_engine.specs.declared.acting.Did.{Did}
use Rattle.uv_engine.specs.declared.acting.Did.TheVariants as did
use Rattle.uv_engine.specs.declared.acting.Work.{Work}
use Rattle.uv_engine.specs.declared.acting.Work.TheVariants as work
use Rattle.uv_engine.specs.declared.lent.Lent.{Lent}
use Rattle.uv_engine.specs.Acting.{ActionMade, delivery_action, send_action, tick_action}
use Rattle.uv_world.specs.declared.acting.PacketTried.{PacketTried}
use Rattle.uv_world.specs.declared.acting.PacketTried.TheVariants as tried
use Rattle.uv_world.specs.declared.cells.Cell.{Cell}
use Rattle.uv_world.specs.Holdings.{Held}
use Rattle.uv_world.specs.Returning.{held_with_lent}
use Rattle.uv_world.specs.Taking.{PairTask, ReadyPair, cell_of_number, keys_lent, lent_to, ready_at}
use Rattle.uv_world.specs.Taking.PairTask.{MakesTick, MakesTurn, TakesPacket}

-- what a queue pair makes of what is lent, where there is something to do
abbrev pub action_for : PairTask → Lent → Option ActionMade
action_for MakesTurn lent = send_action lent
action_for MakesTick lent = tick_action lent
action_for (TakesPacket from to packet) lent = Some (delivery_action lent from to packet)

-- what counts of a cell of a region
abbrev pub known_cell : Cell Registered → Cell KnownRegion
known_cell cell = record { generation = cell.generation; value = option_map known_of cell.value }

-- nothing that counts has changed: all is held as it was, but for the room of the regions
pub record StaysHeld (old new : Held) : Type 0 where
  pub rest_is : new ≡ record old { regions = new.regions }
  pub regions_stay : map known_cell new.regions ≡ map known_cell old.regions

-- an action was made, and what it left came back
pub record IsActionDone (h : Held) (r : ReadyPair) (keys : List ℕ) (m : ActionMade) (word : TurnWord) (frames : List Frame) (new : Held) : Type 0 where
  pub word_is : word ≡ m.word
  pub frames_are : map plain_frame frames ≡ m.frames
  pub held_is : new ≡ held_with_lent h r keys m.lent

-- what an action did, and what is held after it; want of memory may be met before it is clear that there is nothing to do
abbrev pub DoneGives : Held → ReadyPair → List ℕ → Option ActionMade → Did → Held → Type 0
DoneGives h r keys None (did.Did word frames) new = ⊥
DoneGives h r keys None did.Idle new = new ≡ h
DoneGives h r keys None did.NoMemory new = StaysHeld h new
DoneGives h r keys (Some m) (did.Did word frames) new = IsActionDone h r keys m word frames new
DoneGives h r keys (Some m) did.Idle new = ⊥
DoneGives h r keys (Some m) did.NoMemory new = StaysHeld h new

abbrev pub TaskGives : Held → ReadyPair → PairTask → Did → Held → Type 0
TaskGives h r task d new = DoneGives h r (keys_lent h r task) (action_for task (lent_to h r (keys_lent h r task))) d new

-- what is answered: an action that wants memory comes back
abbrev pub AnswerGives : Held → Work → ReadyPair → PairTask → PacketTried → Held → Type 0
AnswerGives h asked r task (tried.Did word frames) new = TaskGives h r task (did.Did word frames) new
AnswerGives h asked r task tried.Idle new = TaskGives h r task did.Idle new
AnswerGives h asked r task (tried.Bad fault) new = ⊥
AnswerGives h asked r task tried.Dead new = ⊥
AnswerGives h asked r task (tried.NoMemory back) new = (back ≡ asked) × StaysHeld h new

-- nothing is done
abbrev pub IsDead : Held → PacketTried → Held → Type 0
IsDead h answer new = (answer ≡ tried.Dead) × (new ≡ h)

-- where the queue pair and all that it needs is live, and where not
abbrev pub ReadyGives : Held → Work → Option ReadyPair → PairTask → PacketTried → Held → Type 0
ReadyGives h asked None task answer new = IsDead h answer new
ReadyGives h asked (Some r) task answer new = AnswerGives h asked r task answer new

-- the packet of a frame goes to the queue pair of its number
abbrev pub ArrivalGives : Held → Frame → Option ℕ → Content → PacketTried → Held → Type 0
ArrivalGives h frame None packet answer new = IsDead h answer new
ArrivalGives h frame (Some at) packet answer new =
    ReadyGives h (work.Deliver frame) (ready_at h at (Some frame.to)) (TakesPacket frame.from frame.to packet) answer new

-- a frame that is delivered is refused by the first fault of its bytes, or has a packet
abbrev pub FrameAnswers : Held → Frame → Option PacketFault → PacketTried → Held → Type 0
FrameAnswers h frame (Some fault) answer new = (answer ≡ tried.Bad fault) × (new ≡ h)
FrameAnswers h frame None answer new = ArrivalGives h frame (cell_of_number (dest_at frame.bytes.bytes)) (content_at frame.bytes.bytes) answer new

-- what the answer to an action says, and what is held after it
abbrev pub PacketGives : Held → Work → PacketTried → Held → Type 0
PacketGives h (work.Send at) answer new = ReadyGives h (work.Send at) (ready_at h at None) MakesTurn answer new
PacketGives h (work.Tick at) answer new = ReadyGives h (work.Tick at) (ready_at h at None) MakesTick answer new
PacketGives h (work.Deliver frame) answer new = FrameAnswers h frame (refusal_of frame.bytes.bytes) answer new
