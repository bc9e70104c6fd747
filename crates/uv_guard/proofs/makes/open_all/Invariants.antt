use Rattle.std.proofs.Common.{◌≡◌, ◌≤◌, ◌-◌, length}
use Rattle.std.specs.Prelude.{vec_len, vec_capacity}
use Rattle.uv_guard.specs.Cells.{tables}
use Rattle.uv_guard.specs.Seated.{fresh_deeds}
use Rattle.uv_guard.proofs.makes.open_all.Given as goal

abbrev pub invariant-loop-i : goal.invariant-loop-i
invariant-loop-i g l =
    (l.i ≤ 64) × (length l.cells.items ≡ l.i) × (l.deeds.items ≡ fresh_deeds 0 (tables l.cells.items)) × (vec_len l.cells ≡ l.i) × (64 ≤ vec_capacity l.cells) × (vec_len l.deeds ≡ l.i) × (64 ≤ vec_capacity l.deeds)

abbrev pub decreases-loop-i : goal.decreases-loop-i
decreases-loop-i g l = 64 - l.i
