-- What stands at a place of a history.
use Rattle.std.specs.Prelude.{ℕ, Bool, not, List, filter, map, take}
use Rattle.uv_machine.specs.declared.entry.Entry.{Entry}
use Rattle.uv_machine.specs.declared.object.Object.{Object}
use Rattle.uv_machine.specs.declared.state.State.{State}
use Rattle.uv_machine.specs.Objects.{is_husk}
use Rattle.uv_machine.specs.Histories.{state_of}
use Rattle.uv_model.specs.declared.left.Left.{Left}

-- what is told of an object that is left or goes
abbrev pub left_of : Object → Left
left_of x = record { file = x.file; kind = x.kind; handle = x.handle }

-- an object that no teardown has released
abbrev pub is_left : Object → Bool
is_left x = not (is_husk x.phase)

-- the objects of a state that are no husks, oldest first
abbrev pub all_left : State → List Left
all_left m = map left_of (filter is_left m.objects)

-- the objects that are no husks behind so many entries of a history, oldest first
abbrev pub standing_at : List Entry → ℕ → List Left
standing_at h place = all_left (state_of (take place h))
