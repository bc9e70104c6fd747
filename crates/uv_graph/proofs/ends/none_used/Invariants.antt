use Rattle.std.proofs.Common.{◌≡◌, length}
use Rattle.uv_graph.specs.Begins.{UsesNone}
use Rattle.uv_graph.proofs.ends.none_used.Given as goal

abbrev pub invariant-loop-turn : goal.invariant-loop-turn
invariant-loop-turn l = (length l.uses ≡ l._turn) × UsesNone l.uses
