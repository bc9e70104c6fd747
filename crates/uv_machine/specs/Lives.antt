-- The lives of objects in a history: for which file one was made, and which entries release it.
use Rattle.std.specs.Prelude.{ℕ, Bool, false, ◌&&◌, ◌||◌, ◌==◌, ◌+◌, List, [], ◌∷◌, Option, None, Some, is_none}
use Rattle.uv_machine.specs.declared.entry.Entry.{Entry}
use Rattle.uv_machine.specs.declared.entry.Entry.TheVariants.{Open, Enter, Step, Unplug, Tear, Kill, Gone, Dissociated, Closed}
use Rattle.uv_machine.specs.declared.entry.Word.{Word}
use Rattle.uv_machine.specs.declared.entry.Word.TheVariants.{Reserve, Look, Make, Commit, Act, Lock, Check, Finish, Abort, Free, Exit}
use Rattle.uv_machine.specs.declared.object.Object.{Object}
use Rattle.uv_machine.specs.declared.state.State.{State}
use Rattle.uv_machine.specs.Objects.{is_doomed}
use Rattle.uv_machine.specs.Plans.{is_call_on}
use Rattle.uv_machine.specs.States.{call_of, object_with, start}
use Rattle.uv_machine.specs.Effects.{refusal_in}
use Rattle.uv_machine.specs.Histories.{after}
use Rattle.uv_machine.specs.Accounts.{is_make, one_if}

-- A release is the finish of an object that was doomed, or its going in a teardown. The finish of a husk releases nothing.

abbrev pub is_doomed_object : Option Object → Bool
is_doomed_object None = false
is_doomed_object (Some x) = is_doomed x.phase

abbrev pub finishes : State → ℕ → Word → Bool
finishes m o Reserve = false
finishes m o Look = false
finishes m o Make = false
finishes m o Commit = false
finishes m o Act = false
finishes m o Lock = false
finishes m o Check = false
finishes m o Finish = is_doomed_object (object_with m o)
finishes m o Abort = false
finishes m o Free = false
finishes m o Exit = false

-- the entry releases the object
abbrev pub releases : State → ℕ → Entry → Bool
releases m o (Open c f d a) = false
releases m o (Enter c f request a) = false
releases m o (Step c w i found a) = (i == o) && finishes m o w
releases m o (Unplug d) = false
releases m o (Tear f by) = false
releases m o (Kill i) = false
releases m o (Gone i kept) = i == o
releases m o (Dissociated f) = false
releases m o (Closed f) = false

abbrev pub releases_from : State → ℕ → List Entry → ℕ
releases_from m o [] = 0
releases_from m o (e ∷ es) = one_if (releases m o e) + releases_from (after m e) o es

-- how many entries of a history release the object
abbrev pub releases_in : List Entry → ℕ → ℕ
releases_in h o = releases_from start o h

-- A file's objects are those that calls on it made.

-- the entry makes the object, for this file
abbrev pub makes_for : State → ℕ → ℕ → Entry → Bool
makes_for m f o (Open c k d a) = false
makes_for m f o (Enter c k request a) = false
makes_for m f o (Step c w i found a) = (i == o) && (is_make w && (is_none (refusal_in a) && is_call_on f (call_of m c)))
makes_for m f o (Unplug d) = false
makes_for m f o (Tear k by) = false
makes_for m f o (Kill i) = false
makes_for m f o (Gone i kept) = false
makes_for m f o (Dissociated k) = false
makes_for m f o (Closed k) = false

abbrev pub makes_from : State → ℕ → ℕ → List Entry → Bool
makes_from m f o [] = false
makes_from m f o (e ∷ es) = makes_for m f o e || makes_from (after m e) f o es

-- the object was made in a history, for this file
abbrev pub was_made_for : List Entry → ℕ → ℕ → Bool
was_made_for h f o = makes_from start f o h
