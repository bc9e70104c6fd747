use Rattle.std.proofs.Common.{◌≡◌, ◌+◌, ◌++◌, true, length}
use Rattle.uv_qp.specs.Pairs.{is_broken}
use Rattle.uv_requester.specs.Ends.{flush_completions, sends_flushed}
use Rattle.uv_requester.proofs.ending.flush_sends.Given as goal

abbrev pub invariant-loop : goal.invariant-loop
invariant-loop l = record {
  pair : l.qp ≡ sends_flushed l.initial.qp l.counter;
  told : l.told.items ≡ l.initial.told.items ++ flush_completions l.initial.qp l.counter;
  room : l.told.room + l.counter ≡ l.initial.told.room;
  broken : is_broken l.qp.state ≡ true;
  rest : length l.qp.sends.works + l.counter ≡ length l.initial.qp.sends.works;
}
