use Rattle.std.proofs.Common.{◌≡◌, ◌+◌, ◌≤◌, ◌-◌, ℕ}
use Rattle.std.specs.Prelude.{vec_len, vec_capacity}
use Rattle.uv_desk.specs.Seats.{IsSame, IsOpen, freshes}
use Rattle.uv_desk.proofs.opening.fork_all.Given as goal

abbrev pub invariant-loop-k : goal.invariant-loop-k
invariant-loop-k g l =
    IsSame l.fn.first l.first × IsOpen g.M.Machine.history g.M.Machine.own l.board.key.value l.k l.first.me × (l.k ≤ l.count)
    × (vec_len l.seats + 1 ≡ l.k) × (l.count ≤ vec_capacity l.seats)
    × ((n : ℕ) × (l.k ≡ n + 1) × (l.seats.items ≡ freshes l.board.table_id 1 n (g.M.Machine.history l.board.key.value) (g.M.Machine.own l.board.key.value)))

abbrev pub decreases-loop-k : goal.decreases-loop-k
decreases-loop-k g l = l.count - l.k
