use Rattle.std.proofs.Common.{◌≡◌, ◌≤◌, ◌+◌, drop, length}
use Rattle.uv_engine.specs.Wanting.{and_locals, keys_wanted}
use Rattle.uv_engine.proofs.wanting.and_locals.Given as goal

abbrev pub invariant-loop-piece : goal.invariant-loop-piece
invariant-loop-piece l = record {
  keys : and_locals (keys_wanted l.all) (drop l.piece-index l.pieces) ≡ and_locals (keys_wanted l.fn.wants) l.pieces;
  count : l.all.count ≤ l.fn.wants.count + l.piece-index;
}
