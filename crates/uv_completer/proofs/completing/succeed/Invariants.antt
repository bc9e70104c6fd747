use Rattle.std.proofs.Common.{◌≡◌, ◌+◌, ◌++◌}
use Rattle.uv_completer.specs.Replies.{succeeded, successes}
use Rattle.uv_completer.proofs.completing.succeed.Given as goal

abbrev pub invariant-loop : goal.invariant-loop
invariant-loop l = record {
  pair : l.qp ≡ succeeded l.initial.qp l.counter;
  told : l.told.items ≡ l.initial.told.items ++ successes l.initial.qp l.counter;
  room : l.told.room + l.counter ≡ l.initial.told.room;
}
