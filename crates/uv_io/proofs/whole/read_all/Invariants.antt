use Rattle.std.proofs.Common.{◌≡◌, length, ◌≤◌, vec_len}
use Rattle.std.specs.Io.KnownBytes.{Consumes}
use Rattle.uv_io.proofs.whole.read_all.Given as goal

-- each turn so far took a byte, and what was read stands in the vector
abbrev pub invariant-loop-turn : goal.invariant-loop-turn
invariant-loop-turn g l = record {
  taken : l._turn ≤ vec_len l.all;
  bound : vec_len l.all ≤ l.most;
  block : length l.block ≡ 4096;
  consumed : Consumes (g.S.Source.left l.initial.source) (g.S.Source.left l.source) l.all.items;
  later : g.S.Source.faults l.initial.source ≤ g.S.Source.faults l.source;
}
