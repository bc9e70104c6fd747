-- What polls, arms and looks for an event answer, and what they leave.
use Rattle.std.specs.Prelude.{ℕ, Bool, List, Option, None, Some}
use Rattle.uv_queue.specs.Order.{oldest, without_oldest}
use Rattle.uv_wr.specs.declared.completion.Completion.{Completion}
use Rattle.uv_wr.specs.declared.tried.PollTried.{PollTried}
use Rattle.uv_wr.specs.declared.tried.PollTried.TheVariants as poll
use Rattle.uv_wr.specs.declared.tried.ArmTried.{ArmTried}
use Rattle.uv_wr.specs.declared.tried.ArmTried.TheVariants as arm
use Rattle.uv_wr.specs.declared.tried.EventTried.{EventTried}
use Rattle.uv_wr.specs.declared.tried.EventTried.TheVariants as event
use Rattle.uv_cq.specs.Rings.{after_arm, after_poll}
use Rattle.uv_world.specs.declared.content.Belled.{Belled}
use Rattle.uv_world.specs.Holdings.{Held}
use Rattle.uv_world.specs.Named.{cells_under}

-- Polls: the oldest completion is told, and leaves its queue.

abbrev pub completion_told : Option Completion → Bool → PollTried
completion_told None overrun = poll.Empty overrun
completion_told (Some completion) overrun = poll.Got completion overrun

abbrev pub poll_answer : Option Belled → PollTried
poll_answer None = poll.Dead 0
poll_answer (Some q) = completion_told (oldest q.ring.completions) q.ring.overrun

abbrev pub ring_polled : Belled → Belled
ring_polled q = record q { ring = after_poll q.ring }

abbrev pub held_polled : Held → ℕ × ℕ → Held
held_polled h cq = record h { rings = cells_under h.rings cq ring_polled }

-- Arms: the queue is asked for an event.

abbrev pub arm_answer : Option Belled → ArmTried
arm_answer None = arm.Dead 0
arm_answer (Some q) = arm.Did

abbrev pub ring_armed : Bool → Belled → Belled
ring_armed solicited q = record q { ring = after_arm q.ring solicited }

abbrev pub held_armed : Held → ℕ × ℕ → Bool → Held
held_armed h cq solicited = record h { rings = cells_under h.rings cq (ring_armed solicited) }

-- Events: the oldest one is told once, since it leaves its channel.

abbrev pub event_told : Option ℕ → EventTried
event_told None = event.Empty
event_told (Some cq) = event.Got cq

abbrev pub event_answer : Option (List ℕ) → EventTried
event_answer None = event.Dead 0
event_answer (Some events) = event_told (oldest events)

abbrev pub held_event_taken : Held → ℕ × ℕ → Held
held_event_taken h channel = record h { channels = cells_under h.channels channel without_oldest }
