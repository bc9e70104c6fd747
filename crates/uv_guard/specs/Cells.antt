-- The cells of a guard.
use Rattle.std.specs.Prelude.{List, map}
use Rattle.atomic_table.specs.Seated.{TableId}
use Rattle.uv_guard.specs.declared.cell.Cell.{Cell}

-- who they are; I is the type of their values' identities
abbrev pub tables : {T I : Type 0} → List (Cell T I) → List TableId
tables {T} {I} cells = map (λ (c : Cell T I). c.table.shared.table_id) cells
