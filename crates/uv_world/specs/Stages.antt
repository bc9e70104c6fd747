-- The machine's history, and what all objects hold after it: what an entry makes of them, and the step that a call makes next.
use Rattle.std.specs.Prelude.{ℕ, ◌++◌, ◌∷◌, List, [], Option, None, Some}
use Rattle.uv_num.specs.declared.qp.QpState.{QpState}
use Rattle.uv_num.specs.declared.qp.QpState.TheVariants.{Reset}
use Rattle.uv_machine.specs.declared.call.InFlight.{InFlight}
use Rattle.uv_machine.specs.declared.entry.CallStep.{CallStep}
use Rattle.uv_machine.specs.declared.entry.Entry.{Entry}
use Rattle.uv_machine.specs.declared.moves.Slot.TheVariants.{OfCall}
use Rattle.uv_machine.specs.Histories.{state_of}
use Rattle.uv_machine.specs.Moves.{cell_seen}
use Rattle.uv_machine.specs.States.{call_of}
use Rattle.uv_machine.specs.Plans.{next_word}
use Rattle.uv_machine.specs.Steps.{found_at, next_of}
use Rattle.uv_world.specs.declared.content.Connected.{Connected}
use Rattle.uv_world.specs.Celled.{value_of_cell}
use Rattle.uv_world.specs.Holdings.{Held, no_contents}
use Rattle.uv_world.specs.Moving.{held_after, held_in_slot, actions_in}

-- a history, and what all objects hold after it
pub record Stage : Type 0 where
  pub history : List Entry
  pub held : Held

-- each entry goes through this
abbrev pub stage_then : Stage → Entry → Stage
stage_then s e = record { history = s.history ++ e ∷ []; held = held_after s.held (state_of s.history) e }

-- nothing has happened
abbrev pub first_stage : Stage
first_stage = record { history = []; held = no_contents }

-- What an act finds.

abbrev pub pair_state : Option Connected → QpState
pair_state None = Reset
pair_state (Some p) = p.qp.state

-- the state of the pair in a cell; where none is there, that of a new one
abbrev pub state_in_cell : Held → Option ℕ → QpState
state_in_cell h None = Reset
state_in_cell h (Some at) = pair_state (value_of_cell h.pairs at)

-- what the step that a call makes next finds: a modify or a query the state of its pair, and any other step nothing
abbrev pub call_found : Stage → InFlight → Option QpState
call_found s call = found_at call (next_word call) (Some (state_in_cell s.held (cell_seen (state_of s.history) 0 call)))

abbrev pub stage_found : Stage → Option InFlight → Option QpState
stage_found s None = None
stage_found s (Some call) = call_found s call

-- A step of a call.

-- how many actions stand in what an actor's destroy has taken out of use
abbrev pub stage_kept : Stage → ℕ → ℕ
stage_kept s a = actions_in (held_in_slot s.held (OfCall a))

-- the step that an actor's call makes next
abbrev pub stage_next : Stage → ℕ → Option CallStep
stage_next s a = next_of (state_of s.history) a (stage_found s (call_of (state_of s.history) a)) (stage_kept s a)
