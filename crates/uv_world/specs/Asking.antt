-- What a queue pair is asked to do, and how its action is made between taking and giving back.
use Rattle.std.specs.Prelude.{ℕ, ◌≡◌, ◌≤◌, Option, None, Some}
use Rattle.uv_packet.specs.Packets.{IsPacketValue, content_of}
use Rattle.uv_packet.specs.Reading.{content_at}
use Rattle.uv_link.specs.declared.frame.Frame.{Frame}
use Rattle.uv_engine.specs.declared.acting.Did.{Did}
use Rattle.uv_engine.specs.declared.acting.Did.TheVariants as did
use Rattle.uv_engine.specs.declared.acting.Work.{Work}
use Rattle.uv_engine.specs.declared.acting.Work.TheVariants.{Deliver}
use Rattle.uv_world.specs.declared.acting.PairWork.{PairWork}
use Rattle.uv_world.specs.declared.acting.PairWork.TheVariants as asked
use Rattle.uv_world.specs.declared.acting.PacketTried.{PacketTried}
use Rattle.uv_world.specs.declared.acting.PacketTried.TheVariants as tried
use Rattle.uv_world.specs.declared.taking.PairPlaces.{PairPlaces}
use Rattle.uv_world.specs.Acting.{AnswerGives, TaskGives}
use Rattle.uv_world.specs.Holdings.{Held}
use Rattle.uv_world.specs.Taking.{PairTask, ReadyPair, places_of_pair, ready_at}
use Rattle.uv_world.specs.Taking.PairTask.{MakesTick, MakesTurn, TakesPacket}

abbrev pub pair_task_of : PairWork → PairTask
pair_task_of asked.Turn = MakesTurn
pair_task_of asked.Tick = MakesTick
pair_task_of (asked.Packet from to packet) = TakesPacket from to (content_of packet)

-- what is taken is a packet
abbrev pub IsTaskReady : PairTask → Type 0
IsTaskReady MakesTurn = Unit {0}
IsTaskReady MakesTick = Unit {0}
IsTaskReady (TakesPacket from to packet) = IsPacketValue packet

-- the answer tells what was done
abbrev pub AnswersAs : Did → Work → PacketTried → Type 0
AnswersAs (did.Did word frames) work answer = answer ≡ tried.Did word frames
AnswersAs did.Idle work answer = answer ≡ tried.Idle
AnswersAs did.NoMemory work answer = answer ≡ tried.NoMemory work

-- an action of the queue pair whose places these are
abbrev pub ActsAt : Held → PairPlaces → PairTask → Did → Held → Type 0
ActsAt h x task d new = (device : Option ℕ) (r : ReadyPair) → ready_at h x.pair device ≡ Some r → x ≡ places_of_pair r → TaskGives h r task d new

-- a frame that it takes
abbrev pub TakesFrame : Held → PairPlaces → Frame → PacketTried → Held → Type 0
TakesFrame h x frame answer new =
    (device : Option ℕ) (r : ReadyPair) → ready_at h x.pair device ≡ Some r → x ≡ places_of_pair r
    → AnswerGives h (Deliver frame) r (TakesPacket frame.from frame.to (content_at frame.bytes.bytes)) answer new
