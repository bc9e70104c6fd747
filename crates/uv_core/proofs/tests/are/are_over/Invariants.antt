use Rattle.std.proofs.Common.{◌≡◌, ℕ, ◌<◌, true}
use Rattle.uv_machine.specs.States.{phase_of}
use Rattle.uv_machine.specs.Filed.{is_over}
use Rattle.uv_machine.specs.Histories.{state_of}
use Rattle.uv_core.proofs.tests.are.are_over.Given as goal

abbrev pub invariant-loop-file : goal.invariant-loop-file
invariant-loop-file l = (f : ℕ) → f < l.file → is_over (phase_of (state_of l.core-inside.graph.history) f) ≡ true
