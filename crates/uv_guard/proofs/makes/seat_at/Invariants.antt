use Rattle.std.proofs.Common.{◌≡◌, ◌≤◌, ◌-◌, suc, map, take}
use Rattle.std.specs.Prelude.{vec_len, vec_capacity}
use Rattle.uv_guard.specs.Cells.{tables}
use Rattle.uv_guard.specs.Seated.{fresh_deed, fresh_place, indexed}
use Rattle.uv_guard.proofs.Many.{half_map}
use Rattle.uv_guard.proofs.makes.seat_at.Given as goal

abbrev pub invariant-loop-i : goal.invariant-loop-i
invariant-loop-i g l =
    (l.i ≤ 64) × (l.deeds.items ≡ half_map l.i (fresh_deed (suc l.number)) (fresh_deed l.number) (indexed 0 (tables l.cells.items)))
    × (l.places.items ≡ map (fresh_place l.number) (take l.i (tables l.cells.items))) × (vec_len l.places ≡ l.i) × (64 ≤ vec_capacity l.places)

abbrev pub decreases-loop-i : goal.decreases-loop-i
decreases-loop-i g l = 64 - l.i
