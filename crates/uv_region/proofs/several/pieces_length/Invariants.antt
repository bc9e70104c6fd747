use Rattle.std.proofs.Common.{◌≡◌, ◌≤◌, ◌*◌, ◌^◌, ◌-◌, take}
use Rattle.uv_region.specs.Several.{pieces_length}
use Rattle.uv_region.proofs.several.pieces_length.Given as goal

abbrev pub invariant-loop-piece : goal.invariant-loop-piece
invariant-loop-piece l = (l.whole ≡ pieces_length (take l.piece-index l.found)) × (l.whole ≤ l.piece-index * (2 ^ 32 - 1))
