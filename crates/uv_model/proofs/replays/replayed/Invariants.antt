use Rattle.std.proofs.Common.{◌≡◌, drop}
use Rattle.uv_machine.specs.Histories.{state_from, state_of}
use Rattle.uv_model.proofs.replays.replayed.Given as goal

-- the entries that are left lead from this state to the last
abbrev pub invariant-loop-entry : goal.invariant-loop-entry
invariant-loop-entry l = state_from l.state (drop l.entry-index l.entries) ≡ state_of l.entries
