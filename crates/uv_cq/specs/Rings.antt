-- Completion queues as their callers see them: what is kept, and when an event is due.
use Rattle.std.specs.Prelude.{ℕ, nat_lt, Bool, true, false, ◌&&◌, ◌||◌, Option, None, Some, List, [], length, if◌then◌else◌}
use Rattle.uv_queue.specs.Order.{with_newest, without_oldest}
use Rattle.uv_wr.specs.declared.completion.Completion.{Completion}
use Rattle.uv_wr.specs.Statuses.{is_failure}
use Rattle.uv_cq.specs.declared.ring.Arming.{Arming}
use Rattle.uv_cq.specs.declared.ring.Arming.TheVariants.{Solicited, All}
use Rattle.uv_cq.specs.declared.ring.Pushed.{Pushed}

-- the completions, the oldest first, how many there may be, what the ring is armed for, and whether one was lost
pub record Ringed : Type 0 where
  pub completions : List Completion
  pub depth : ℕ
  pub armed : Option Arming
  pub overrun : Bool

-- a ring without completions
abbrev pub fresh_ring : ℕ → Ringed
fresh_ring depth = record { completions = []; depth = depth; armed = None; overrun = false }

-- whether one more completion is kept
abbrev pub has_room : Ringed → Bool
has_room r = nat_lt (length r.completions) r.depth

-- an error counts as solicited
abbrev pub is_solicited : Completion → Bool → Bool
is_solicited completion solicited = is_failure completion.status || solicited

-- whether what a ring is armed for is a completion of this sort
abbrev pub wants : Option Arming → Bool → Bool
wants None solicited = false
wants (Some Solicited) solicited = solicited
wants (Some All) solicited = true

-- what a push tells
abbrev pub push_told : Ringed → Completion → Bool → Pushed
push_told r completion solicited = record {
  kept = has_room r;
  event = has_room r && wants r.armed (is_solicited completion solicited);
}

-- the ring after a push: a completion that isn't kept is marked for good
abbrev pub after_push : Ringed → Completion → Ringed
after_push r completion =
    if has_room r then record r { completions = with_newest r.completions completion } else record r { overrun = true }

-- the ring after a poll
abbrev pub after_poll : Ringed → Ringed
after_poll r = record r { completions = without_oldest r.completions }

-- the arming that is asked for
abbrev pub asked_arming : Bool → Arming
asked_arming true = Solicited
asked_arming false = All

-- an arming for all stays, else the later one counts
abbrev pub armed_again : Option Arming → Bool → Arming
armed_again None solicited = asked_arming solicited
armed_again (Some Solicited) solicited = asked_arming solicited
armed_again (Some All) solicited = All

-- the ring after it was armed
abbrev pub after_arm : Ringed → Bool → Ringed
after_arm r solicited = record r { armed = Some (armed_again r.armed solicited) }

-- the ring that is armed no longer
abbrev pub after_disarm : Ringed → Ringed
after_disarm r = record r { armed = None }
