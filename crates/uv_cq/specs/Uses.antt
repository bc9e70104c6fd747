-- What a ring tells and keeps over many uses of it.
use Rattle.std.specs.Prelude.{ℕ, ◌+◌, ◌≤◌, Bool, true, false, not, ◌||◌, Some, is_some, List, [], ◌∷◌, ◌++◌, ◌≡◌, if◌then◌else◌}
use Rattle.std.specs.Option.{option_to_list}
use Rattle.uv_queue.specs.Order.{oldest}
use Rattle.uv_wr.specs.declared.completion.Completion.{Completion}
use Rattle.uv_cq.specs.declared.ring.Arming.TheVariants.{All}
use Rattle.uv_cq.specs.Rings.{Ringed, has_room, after_push, after_poll, after_arm, after_disarm}

-- a use of a ring
pub data Use : Type 0 where
  Pushes : Completion → Bool → Use
  Polls : Use
  Arms : Bool → Use
  Disarms : Use

-- the ring after one use
abbrev pub after_use : Ringed → Use → Ringed
after_use r (Pushes completion solicited) = after_push r completion
after_use r Polls = after_poll r
after_use r (Arms solicited) = after_arm r solicited
after_use r Disarms = after_disarm r

-- and after many
abbrev pub after_uses : Ringed → List Use → Ringed
after_uses r [] = r
after_uses r (u ∷ uses) = after_uses (after_use r u) uses

-- the completion of a use that is kept
abbrev pub kept_by : Ringed → Use → List Completion
kept_by r (Pushes completion solicited) = if has_room r then completion ∷ [] else []
kept_by r Polls = []
kept_by r (Arms solicited) = []
kept_by r Disarms = []

-- those that are kept, in order
abbrev pub kept_by_uses : Ringed → List Use → List Completion
kept_by_uses r [] = []
kept_by_uses r (u ∷ uses) = kept_by r u ++ kept_by_uses (after_use r u) uses

-- the completion that a use takes out
abbrev pub told_by : Ringed → Use → List Completion
told_by r (Pushes completion solicited) = []
told_by r Polls = option_to_list (oldest r.completions)
told_by r (Arms solicited) = []
told_by r Disarms = []

-- those that are taken out, in order
abbrev pub told_in : Ringed → List Use → List Completion
told_in r [] = []
told_in r (u ∷ uses) = told_by r u ++ told_in (after_use r u) uses

-- whether a use loses a completion
abbrev pub loses : Ringed → Use → Bool
loses r (Pushes completion solicited) = not (has_room r)
loses r Polls = false
loses r (Arms solicited) = false
loses r Disarms = false

-- whether any does
abbrev pub loses_in : Ringed → List Use → Bool
loses_in r [] = false
loses_in r (u ∷ uses) = loses r u || loses_in (after_use r u) uses

-- whether a use disarms
abbrev pub is_disarming : Use → Bool
is_disarming (Pushes completion solicited) = false
is_disarming Polls = false
is_disarming (Arms solicited) = false
is_disarming Disarms = true

-- whether a use arms
abbrev pub is_arming : Use → Bool
is_arming (Pushes completion solicited) = false
is_arming Polls = false
is_arming (Arms solicited) = true
is_arming Disarms = false

-- how many do
abbrev pub armings_in : List Use → ℕ
armings_in [] = 0
armings_in (u ∷ uses) = if is_arming u then armings_in uses + 1 else armings_in uses

-- whether a use disarms a ring that is armed
abbrev pub ends_arming : Ringed → Use → Bool
ends_arming r (Pushes completion solicited) = false
ends_arming r Polls = false
ends_arming r (Arms solicited) = false
ends_arming r Disarms = is_some r.armed

-- how many do
abbrev pub endings_in : Ringed → List Use → ℕ
endings_in r [] = 0
endings_in r (u ∷ uses) = if ends_arming r u then endings_in (after_use r u) uses + 1 else endings_in (after_use r u) uses

-- what one use takes out and then what stands is what stood and then what it keeps
abbrev pub UseInOrder : Ringed → Use → Type 0
UseInOrder r u = told_by r u ++ (after_use r u).completions ≡ r.completions ++ kept_by r u

-- some uses, and then more of them, are all of them
pub record AreJoined (r : Ringed) (uses more : List Use) : Type 0 where
  pub ring : after_uses r (uses ++ more) ≡ after_uses (after_uses r uses) more
  pub kept : kept_by_uses r (uses ++ more) ≡ kept_by_uses r uses ++ kept_by_uses (after_uses r uses) more
  pub told : told_in r (uses ++ more) ≡ told_in r uses ++ told_in (after_uses r uses) more

-- a ring is disarmed while it is armed at most as often as it was armed, the arming that it began with included
abbrev pub HasFewEndings : Ringed → List Use → Type 0
HasFewEndings r uses = endings_in r uses ≤ armings_in uses + (if is_some r.armed then 1 else 0)

-- what was taken out and then what stands is what stood and then what was kept
abbrev pub AreInOrder : Ringed → List Use → Type 0
AreInOrder r uses = told_in r uses ++ (after_uses r uses).completions ≡ r.completions ++ kept_by_uses r uses

-- the mark is set where it was, or where a completion was lost since
abbrev pub IsMarked : Ringed → List Use → Type 0
IsMarked r uses = (after_uses r uses).overrun ≡ (r.overrun || loses_in r uses)

-- the ring is still armed for all
abbrev pub StaysArmed : Ringed → List Use → Type 0
StaysArmed r uses = (after_uses r uses).armed ≡ Some All
