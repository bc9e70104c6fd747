-- What devices that are pulled and teardowns of files make of a stage.
use Rattle.std.specs.Prelude.{ℕ, Bool, true, false, ◌≡◌, ◌==◌, Option, None, Some, Result, Ok, Err, if◌then◌else◌}
use Rattle.uv_num.specs.declared.errno.Errno.{Errno}
use Rattle.uv_num.specs.declared.errno.Errno.TheVariants.{Io}
use Rattle.uv_machine.specs.declared.entry.Entry.TheVariants as entry
use Rattle.uv_machine.specs.declared.moves.Move.{Move}
use Rattle.uv_machine.specs.declared.moves.Move.TheVariants as move
use Rattle.uv_machine.specs.declared.moves.Slot.TheVariants.{OfTeardown}
use Rattle.uv_machine.specs.declared.object.Object.{Object}
use Rattle.uv_machine.specs.declared.state.State.{State}
use Rattle.uv_machine.specs.Histories.{state_of}
use Rattle.uv_machine.specs.Moves.{entry_move}
use Rattle.uv_pool.specs.declared.plain.PlainDeed.{PlainDeed}
use Rattle.uv_machine.specs.States.{newest_free}
use Rattle.uv_graph.specs.declared.told.Torn.{Torn}
use Rattle.uv_graph.specs.declared.told.Torn.TheVariants as torn
use Rattle.uv_graph.specs.declared.out.Own.{Own}
use Rattle.uv_graph.specs.Calls.{calls_on}
use Rattle.uv_graph.specs.Owns.{TearsNone}
use Rattle.uv_graph.specs.Turns.{last_entry}
use Rattle.uv_world.specs.declared.tearing.Turn.{Turn}
use Rattle.uv_world.specs.declared.tearing.Turn.TheVariants as turn
use Rattle.uv_world.specs.declared.world.Doomed.{Doomed}
use Rattle.uv_world.specs.Moving.{actions_in, held_in_slot}
use Rattle.uv_world.specs.Seating.{GoesBuried}
use Rattle.uv_world.specs.Stages.{Stage, stage_then}

-- what the pull of a device comes to: one that was pulled before is refused
abbrev pub pull_of : Bool → Result (Unit {0}) Errno
pull_of true = Err Io
pull_of false = Ok tt

abbrev pub stage_unplugged : Stage → ℕ → Result (Unit {0}) Errno → Stage
stage_unplugged s d (Ok u) = stage_then s (entry.Unplug d)
stage_unplugged s d (Err e) = s

abbrev pub stage_torn : Stage → ℕ → ℕ → Torn → Stage
stage_torn s f by torn.Began = stage_then s (entry.Tear f by)
stage_torn s f by (torn.NotYet actor) = s
stage_torn s f by (torn.Refused errno) = s

-- A sweep.

-- a turn of a teardown, and the stage after it
pub record StageTurn : Type 0 where
  pub stage : Stage
  pub turn : Turn

-- the newest object that nothing uses goes, and where none is left the teardown ends
abbrev pub stage_killed : Stage → ℕ → ℕ → Option Object → StageTurn
stage_killed s by f None = record { stage = stage_then s (last_entry by f); turn = turn.Done }
stage_killed s by f (Some x) = record { stage = stage_then s (entry.Kill x.id); turn = turn.Killed x.id x.kind x.handle }

-- the object that a turn has taken out of use
abbrev pub object_killed : Turn → Option ℕ
object_killed (turn.Killed object kind handle) = Some object
object_killed turn.Done = None
object_killed (turn.NotYet calls) = None

-- who has swept a file to its end tears nothing, else the teardown goes on
abbrev pub TurnLeads : Own → ℕ → Turn → Type 0
TurnLeads o f (turn.Killed object kind handle) = o.tear ≡ Some f
TurnLeads o f turn.Done = TearsNone o
TurnLeads o f (turn.NotYet calls) = o.tear ≡ Some f

-- a file is swept once no call on it is in flight
abbrev pub stage_swept : Stage → ℕ → ℕ → StageTurn
stage_swept s by f =
    if calls_on (state_of s.history) f == 0
    then stage_killed s by f (newest_free (state_of s.history) f)
    else record { stage = s; turn = turn.NotYet (calls_on (state_of s.history) f) }

-- what the kill of this object does to contents
abbrev pub kill_ahead : State → Option Object → Move
kill_ahead m None = move.Stays
kill_ahead m (Some x) = entry_move m (entry.Kill x.id)

-- the deed of a killed object lies somewhere, buried
pub record LaysDoomed (deed : PlainDeed) (object : ℕ) (Lies : Doomed → Type 0) : Type 0 where
  pub now : PlainDeed
  pub goes : GoesBuried deed now
  pub lies : Lies (record { object = object; deed = now })

-- A release.

abbrev pub object_doomed : Option Doomed → Option ℕ
object_doomed None = None
object_doomed (Some x) = Some x.object

-- an object of a file is released, with as many actions kept as stand in what was taken out of use
abbrev pub stage_gone : Stage → ℕ → ℕ → Stage
stage_gone s f o = stage_then s (entry.Gone o (actions_in (held_in_slot s.held (OfTeardown f))))
