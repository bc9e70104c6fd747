use Rattle.std.proofs.Common.{◌≡◌, ◌++◌, ◌≤◌, ◌+◌, drop, length, true}
use Rattle.uv_region.specs.Several.{all_have_bytes, pieces_length, writes_of}
use Rattle.uv_region.proofs.several.piece_writes.Given as goal

abbrev pub invariant-loop-piece : goal.invariant-loop-piece
invariant-loop-piece l = record {
  writes : l.writes ++ writes_of (drop l.piece-index l.found) (drop l.at l.bytes) ≡ writes_of l.found l.bytes;
  some : all_have_bytes (drop l.piece-index l.found) ≡ true;
  enough : l.at + pieces_length (drop l.piece-index l.found) ≤ length l.bytes;
}
