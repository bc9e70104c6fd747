-- Entries that take no object out of use: all but a Kill and the accepted Check of an object that is no husk.
use Rattle.std.specs.Prelude.{Option, None, Some}
use Rattle.uv_num.specs.declared.errno.Errno.{Errno}
use Rattle.uv_machine.specs.declared.entry.Entry.{Entry}
use Rattle.uv_machine.specs.declared.entry.Entry.TheVariants.{Open, Enter, Step, Unplug, Tear, Kill, Gone, Dissociated, Closed}
use Rattle.uv_machine.specs.declared.entry.Word.{Word}
use Rattle.uv_machine.specs.declared.entry.Word.TheVariants.{Reserve, Look, Make, Commit, Act, Lock, Check, Finish, Abort, Free, Exit}
use Rattle.uv_machine.specs.declared.object.Object.{Object}
use Rattle.uv_machine.specs.declared.state.State.{State}
use Rattle.uv_machine.specs.States.{object_with}
use Rattle.uv_machine.specs.Effects.{refusal_in}
use Rattle.uv_graph.specs.Notes.{IsHuskIf}

-- a check that isn't refused is of a husk
abbrev pub IsHuskUnless : Option Errno → Option Object → Type 0
IsHuskUnless None x = IsHuskIf x
IsHuskUnless (Some e) x = Unit {0}

abbrev pub WordDoomsNone : Word → Option Errno → Option Object → Type 0
WordDoomsNone Reserve e x = Unit {0}
WordDoomsNone Look e x = Unit {0}
WordDoomsNone Make e x = Unit {0}
WordDoomsNone Commit e x = Unit {0}
WordDoomsNone Act e x = Unit {0}
WordDoomsNone Lock e x = Unit {0}
WordDoomsNone Check e x = IsHuskUnless e x
WordDoomsNone Finish e x = Unit {0}
WordDoomsNone Abort e x = Unit {0}
WordDoomsNone Free e x = Unit {0}
WordDoomsNone Exit e x = Unit {0}

abbrev pub DoomsNone : State → Entry → Type 0
DoomsNone m (Open c f d a) = Unit {0}
DoomsNone m (Enter c f request a) = Unit {0}
DoomsNone m (Step c w o found a) = WordDoomsNone w (refusal_in a) (object_with m o)
DoomsNone m (Unplug d) = Unit {0}
DoomsNone m (Tear f by) = Unit {0}
DoomsNone m (Kill o) = ⊥
DoomsNone m (Gone o kept) = Unit {0}
DoomsNone m (Dissociated f) = Unit {0}
DoomsNone m (Closed f) = Unit {0}
