use Rattle.std.proofs.Common.{◌≡◌, take, drop, true}
use Rattle.uv_region.specs.Several.{all_have_bytes}
use Rattle.uv_region.proofs.several.blank_reads.Given as goal

abbrev pub invariant-loop-piece : goal.invariant-loop-piece
invariant-loop-piece l = (l.blanks ≡ take l.piece-index l.found) × (all_have_bytes (drop l.piece-index l.found) ≡ true)
