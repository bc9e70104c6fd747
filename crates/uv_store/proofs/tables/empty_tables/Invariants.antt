use Rattle.std.proofs.Common.{◌≡◌, replicate}
use Rattle.uv_handles.specs.Table.{empty_table}
use Rattle.uv_store.proofs.tables.empty_tables.Given as goal

abbrev pub invariant-loop-file : goal.invariant-loop-file
invariant-loop-file l = l.tables ≡ replicate l._file empty_table
