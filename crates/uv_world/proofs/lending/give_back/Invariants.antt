use Rattle.std.proofs.Common.{◌≡◌, ◌-◌, drop, length}
use Rattle.uv_world.specs.Lending.{Lending, return_all}
use Rattle.uv_world.proofs.lending.give_back.Given as goal

abbrev pub invariant-loop-turn : goal.invariant-loop-turn
invariant-loop-turn l =
    let now : Lending = record { regions = l.regions; lent = l.lent } in
    let before : Lending = record { regions = l.initial.regions; lent = l.initial.lent } in
    now ≡ return_all l.windows before (drop (length l.keys - l.turn) l.keys)
