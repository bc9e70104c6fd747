-- What teardowns released, as a history tells it.
use Rattle.std.specs.Prelude.{ℕ, ◌+◌, Bool, true, false, ◌||◌, ◌==◌, List, [], ◌∷◌, ◌++◌, Option, None, Some, if◌then◌else◌, take, drop, slice_get, option_map, option_to_list}
use Rattle.uv_num.specs.declared.limits.TheConstants.{ENDER}
use Rattle.uv_machine.specs.declared.entry.Entry.{Entry}
use Rattle.uv_machine.specs.declared.entry.Entry.TheVariants.{Open, Enter, Step, Unplug, Tear, Kill, Gone, Dissociated, Closed}
use Rattle.uv_machine.specs.declared.object.Object.{Object}
use Rattle.uv_machine.specs.declared.state.State.{State}
use Rattle.uv_machine.specs.States.{object_with, start}
use Rattle.uv_machine.specs.Histories.{after, state_of}
use Rattle.uv_model.specs.declared.left.Left.{Left}
use Rattle.uv_model.specs.Standing.{left_of, all_left}

-- One teardown.

-- the file of an entry that is a tear
abbrev pub torn_file : Entry → Option ℕ
torn_file (Open c f d a) = None
torn_file (Enter c f request a) = None
torn_file (Step c w o found a) = None
torn_file (Unplug d) = None
torn_file (Tear f by) = Some f
torn_file (Kill o) = None
torn_file (Gone o kept) = None
torn_file (Dissociated f) = None
torn_file (Closed f) = None

-- the entry ends the teardown of this file
abbrev pub ends_teardown : ℕ → Entry → Bool
ends_teardown g (Open c f d a) = false
ends_teardown g (Enter c f request a) = false
ends_teardown g (Step c w o found a) = false
ends_teardown g (Unplug d) = false
ends_teardown g (Tear f by) = false
ends_teardown g (Kill o) = false
ends_teardown g (Gone o kept) = false
ends_teardown g (Dissociated f) = f == g
ends_teardown g (Closed f) = f == g

-- an object, if it is of this file
abbrev pub of_file : ℕ → Option Object → List Left
of_file f None = []
of_file f (Some x) = if x.file == f then left_of x ∷ [] else []

-- the object of this file that an entry releases, if it is the Gone of one
abbrev pub gone_in : State → ℕ → Entry → List Left
gone_in m g (Open c f d a) = []
gone_in m g (Enter c f request a) = []
gone_in m g (Step c w o found a) = []
gone_in m g (Unplug d) = []
gone_in m g (Tear f by) = []
gone_in m g (Kill o) = []
gone_in m g (Gone o kept) = of_file g (object_with m o)
gone_in m g (Dissociated f) = []
gone_in m g (Closed f) = []

-- the objects of a file that go among some entries, until its teardown ends
abbrev pub gone_until : State → ℕ → List Entry → List Left
gone_until m f [] = []
gone_until m f (e ∷ es) = if ends_teardown f e then [] else gone_in m f e ++ gone_until (after m e) f es

-- the objects that the tear at the end of some entries leads to, among those behind it
abbrev pub gone_behind : List Entry → Option ℕ → List Entry → List Left
gone_behind before None behind = []
gone_behind before (Some f) behind = gone_until (state_of before) f behind

-- the file of the tear at a place, if there is one
abbrev pub torn_at : Option Entry → Option ℕ
torn_at None = None
torn_at (Some e) = torn_file e

-- the objects that the tear at a place of a history leads to, in the order in which they went, up to the end of that
-- teardown or of the history
abbrev pub gone_after : List Entry → ℕ → List Left
gone_after h place = gone_behind (take (place + 1) h) (torn_at (slice_get h place)) (drop (place + 1) h)

-- The end of a script.

-- what was seen of a history: the state, whether the end has begun, and what went since
pub record Ending : Type 0 where
  pub state : State
  pub begun : Bool
  pub gone : List Left

-- the end of a script begins with the first tear by its actor
abbrev pub begins : Entry → Bool
begins (Open c f d a) = false
begins (Enter c f request a) = false
begins (Step c w o found a) = false
begins (Unplug d) = false
begins (Tear f by) = by == ENDER
begins (Kill o) = false
begins (Gone o kept) = false
begins (Dissociated f) = false
begins (Closed f) = false

-- the entries in front of the end of a script
abbrev pub before_end : List Entry → List Entry
before_end [] = []
before_end (e ∷ es) = if begins e then [] else e ∷ before_end es

-- the objects that were left when the end of the script began, or at the last entry where it didn't: those that are no husks,
-- oldest first
abbrev pub left_at_end : List Entry → List Left
left_at_end h = all_left (state_of (before_end h))

-- an object that is released, once the end has begun
abbrev pub gone_object : State → Bool → ℕ → List Left
gone_object m false o = []
gone_object m true o = option_to_list (option_map left_of (object_with m o))

-- what an entry releases, once the end has begun
abbrev pub gone_by : State → Bool → Entry → List Left
gone_by m begun (Open c f d a) = []
gone_by m begun (Enter c f request a) = []
gone_by m begun (Step c w o found a) = []
gone_by m begun (Unplug d) = []
gone_by m begun (Tear f by) = []
gone_by m begun (Kill o) = []
gone_by m begun (Gone o kept) = gone_object m begun o
gone_by m begun (Dissociated f) = []
gone_by m begun (Closed f) = []

-- what was seen behind one more entry
abbrev pub ending_with : Ending → Entry → Ending
ending_with t e = record { state = after t.state e; begun = t.begun || begins e; gone = t.gone ++ gone_by t.state t.begun e }

-- what was seen behind more entries
abbrev pub ending_from : Ending → List Entry → Ending
ending_from t [] = t
ending_from t (e ∷ es) = ending_from (ending_with t e) es

-- what a history shows of the end
abbrev pub ending_of : List Entry → Ending
ending_of h = ending_from (record { state = start; begun = false; gone = [] }) h

-- the objects that went when the end of the script closed the files, in order
abbrev pub gone_of : List Entry → List Left
gone_of h = (ending_of h).gone
