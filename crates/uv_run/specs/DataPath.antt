-- Calls of the data path: what they do to what is held, and what they tell. They make no entry of the history.
use Rattle.std.specs.Prelude.{ℕ, zero, suc, ◌++◌, Bool, ◌==◌, List, [], ◌∷◌, Option, None, Some, if◌then◌else◌, length, map}
use Rattle.uv_num.specs.declared.errno.Errno.TheVariants as errno
use Rattle.uv_wr.specs.declared.completion.Completion.{Completion}
use Rattle.uv_wr.specs.declared.tried.ArmTried.{ArmTried}
use Rattle.uv_wr.specs.declared.tried.ArmTried.TheVariants as arm
use Rattle.uv_wr.specs.declared.tried.EventTried.{EventTried}
use Rattle.uv_wr.specs.declared.tried.EventTried.TheVariants as event
use Rattle.uv_wr.specs.declared.tried.PollTried.{PollTried}
use Rattle.uv_wr.specs.declared.tried.PollTried.TheVariants as poll
use Rattle.uv_world.specs.Completing.{arm_answer, event_answer, held_armed, held_event_taken, held_polled, poll_answer}
use Rattle.uv_world.specs.Holdings.{Held}
use Rattle.uv_world.specs.Named.{value_named}
use Rattle.uv_report.specs.declared.record.Said.{Said}
use Rattle.uv_report.specs.declared.saying.Saying.{Saying}
use Rattle.uv_report.specs.declared.saying.Saying.TheVariants as saying
use Rattle.uv_script.specs.declared.form.DataCall.{DataCall}
use Rattle.uv_script.specs.declared.form.DataCall.TheVariants as call
use Rattle.uv_run.specs.declared.reply.Reply.{Reply}
use Rattle.uv_run.specs.Site.{Site}
use Rattle.uv_run.specs.Stand.{Stand, cell_given}

-- what is held after a call, and the texts that it tells
pub record Shown : Type 0 where
  pub held : Held
  pub texts : List Saying

-- a call that names no live cell leaves all as it was
abbrev pub dead_shown : Held → Shown
dead_shown h = record { held = h; texts = saying.Dead ∷ [] }

-- Polls.

-- what polls have come to: what is held, the completions that they took, the oldest first, and the answer of the last poll
pub record Polls : Type 0 where
  pub held : Held
  pub taken : List Completion
  pub last : PollTried

abbrev pub taken_by : PollTried → List Completion
taken_by (poll.Got completion overrun) = completion ∷ []
taken_by (poll.Empty overrun) = []
taken_by (poll.Again word) = []
taken_by (poll.Dead word) = []

abbrev pub polled_by : ℕ × ℕ → Polls → PollTried → Polls
polled_by cq p answer = record { held = held_polled p.held cq; taken = p.taken ++ taken_by answer; last = answer }

-- one more poll
abbrev pub polled_again : ℕ × ℕ → Polls → Polls
polled_again cq p = polled_by cq p (poll_answer (value_named p.held.rings cq))

-- so many polls, each of which takes one completion, if there is one
unfoldable pub polled_up_to : ℕ → Held → ℕ × ℕ → Polls
polled_up_to zero h cq = record { held = h; taken = []; last = poll.Dead 0 }
polled_up_to (suc n) h cq = polled_again cq (polled_up_to n h cq)

-- what is told first: how many completions were taken, and whether the queue has overrun
abbrev pub count_text : ℕ → Bool → Saying
count_text taken overrun = if taken == 0 then saying.Empty overrun else saying.Polled taken overrun

abbrev pub poll_text : ℕ → PollTried → Saying
poll_text taken (poll.Got completion overrun) = count_text taken overrun
poll_text taken (poll.Empty overrun) = count_text taken overrun
poll_text taken (poll.Again word) = saying.Dead
poll_text taken (poll.Dead word) = saying.Dead

abbrev pub polls_shown : Polls → Shown
polls_shown p = record { held = p.held; texts = poll_text (length p.taken) p.last ∷ map saying.Completed p.taken }

abbrev pub poll_shown : Held → Option (ℕ × ℕ) → ℕ → Shown
poll_shown h None count = dead_shown h
poll_shown h (Some cq) count = polls_shown (polled_up_to count h cq)

-- Arms.

abbrev pub arm_text : ArmTried → Saying
arm_text arm.Did = saying.Ok
arm_text (arm.Again word) = saying.Dead
arm_text (arm.Dead word) = saying.Dead

abbrev pub arm_shown : Held → Option (ℕ × ℕ) → Bool → Shown
arm_shown h None solicited = dead_shown h
arm_shown h (Some cq) solicited = record { held = held_armed h cq solicited; texts = arm_text (arm_answer (value_named h.rings cq)) ∷ [] }

-- Events.

abbrev pub taken_event_text : EventTried → Saying
taken_event_text (event.Got cq) = saying.EventOf cq
taken_event_text event.Empty = saying.Refused errno.Again
taken_event_text (event.Again word) = saying.Dead
taken_event_text (event.Dead word) = saying.Dead

abbrev pub event_shown : Held → Option (ℕ × ℕ) → Shown
event_shown h None = dead_shown h
event_shown h (Some channel) = record { held = held_event_taken h channel; texts = taken_event_text (event_answer (value_named h.channels channel)) ∷ [] }

-- Calls.

-- what a call does and tells, after these replies, which tell the cells of names
abbrev pub data_shown : Held → List Reply → DataCall → Shown
data_shown h replies (call.Poll cq count) = poll_shown h (cell_given replies cq) count
data_shown h replies (call.Arm cq solicited) = arm_shown h (cell_given replies cq) solicited
data_shown h replies (call.Event channel) = event_shown h (cell_given replies channel)

abbrev pub with_held : Site → Held → Site
with_held s h = record s { held = h }

abbrev pub said_under : ℕ → Saying → Said
said_under n text = record { line = n; text = text }

-- these texts are told under a line's number
abbrev pub with_texts : Stand → ℕ → List Saying → Stand
with_texts s n texts = record s { said = s.said ++ map (said_under n) texts }

-- this is held
abbrev pub with_holding : Stand → Held → Stand
with_holding s h = record s { site = with_held s.site h }

abbrev pub after_shown : Stand → ℕ → Shown → Stand
after_shown s n d = with_texts (with_holding s d.held) n d.texts

-- what stands after a call on a line
abbrev pub data_played : Stand → ℕ → DataCall → Stand
data_played s n call = after_shown s n (data_shown s.site.held s.replies call)
