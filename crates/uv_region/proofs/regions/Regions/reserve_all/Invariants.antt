use Rattle.std.proofs.Common.{◌≡◌, drop}
use Rattle.uv_region.specs.Lent.{lent_with_rooms, StaysKnown}
use Rattle.uv_region.proofs.regions.Regions.reserve_all.Given as goal

abbrev pub invariant-loop-piece : goal.invariant-loop-piece
invariant-loop-piece l =
    (lent_with_rooms l.self (drop l.piece-index l.pieces) l.more ≡ lent_with_rooms l.initial.self l.pieces l.more) × StaysKnown l.initial.self l.self
