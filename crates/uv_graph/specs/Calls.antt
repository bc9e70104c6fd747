-- How many calls are in flight.
use Rattle.std.specs.Prelude.{ℕ, count_by}
use Rattle.uv_machine.specs.declared.state.State.{State}
use Rattle.uv_machine.specs.Plans.{is_call_on}

-- the calls on a file that are in flight
abbrev pub calls_on : State → ℕ → ℕ
calls_on m f = count_by (is_call_on f) m.calls
