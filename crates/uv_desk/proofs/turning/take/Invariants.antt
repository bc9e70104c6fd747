use Rattle.std.proofs.Common.{◌≡◌, ℕ, ◌%◌}
use Rattle.std.specs.Prelude.{Some}
use Rattle.uv_desk.specs.Rule.{turn}
use Rattle.uv_desk.specs.Seats.{IsSame}
use Rattle.uv_desk.proofs.turning.take.Given as goal

abbrev pub invariant-loop : goal.invariant-loop
invariant-loop g l = IsSame l.fn.chair l.chair × ((k : ℕ) × (l.mine ≡ k % turn) × (l.chair.me ≡ (record l.fn.chair.me.0 { ticket = Some k }, l.fn.chair.me.1)))
