-- Cells: which one a new object gets, and what its going out and its burial do.
use Rattle.std.specs.Prelude.{ℕ, Bool, true, false, nat_le, ◌+◌, ◌%◌, Option, None, Some, if◌then◌else◌, take, drop, position, option_map, slice_get, replicate}
use Rattle.uv_num.specs.declared.limits.TheConstants.{CELLS, MOST_GENERATION}
use Rattle.uv_num.specs.Place.{at_place}
use Rattle.uv_machine.specs.declared.pool.Cell.{Cell}
use Rattle.uv_machine.specs.declared.pool.CellChange.{CellChange}
use Rattle.uv_machine.specs.declared.pool.CellChange.TheVariants as cell
use Rattle.uv_machine.specs.declared.pool.PoolChange.{PoolChange}
use Rattle.uv_machine.specs.declared.pool.PoolChange.TheVariants as pool
use Rattle.uv_machine.specs.declared.pool.Pool.{Pool}

abbrev pub is_home : Cell → Bool
is_home cell = cell.home

-- the first of two numbers that is there
abbrev pub first_of_two : Option ℕ → Option ℕ → Option ℕ
first_of_two None later = later
first_of_two (Some n) later = Some n

-- the choice goes round: the first cell that is home at or after the place, else the first before it
abbrev pub home_index : Pool → Option ℕ
home_index pool = first_of_two (option_map (λ i. pool.next + i) (position is_home (drop pool.next pool.cells))) (position is_home (take pool.next pool.cells))

abbrev pub sent_out : Cell → Cell
sent_out cell = record cell { home = false }

-- a burial ends a life of the cell; after the last generation it stays out for good
abbrev pub buried : Cell → Cell
buried cell = if nat_le MOST_GENERATION cell.generation then cell else record { generation = cell.generation + 1; home = true }

-- a pool whose cell at this index went to a new object: the next choice begins after it
abbrev pub drawn : ℕ → Pool → Pool
drawn i pool = record { cells = at_place pool.cells i sent_out; next = (i + 1) % CELLS }

-- a pool whose cell at this index was buried
abbrev pub buried_at : ℕ → Pool → Pool
buried_at i pool = record pool { cells = at_place pool.cells i buried }

-- what becomes of a cell, and of the cells of a kind
abbrev pub cell_changed : CellChange → Cell → Cell
cell_changed cell.GoesOut = sent_out
cell_changed cell.Buries = buried

abbrev pub pool_changed : PoolChange → Pool → Pool
pool_changed (pool.Draws i) = drawn i
pool_changed (pool.Buries i) = buried_at i

-- the generation of the cell at this index
abbrev pub generation_from : Option Cell → ℕ
generation_from None = 0
generation_from (Some cell) = cell.generation

abbrev pub generation_at : ℕ → Pool → ℕ
generation_at i pool = generation_from (slice_get pool.cells i)

-- all cells home, none ever buried
unfoldable pub full_pool : Pool
full_pool = record { cells = replicate CELLS (record { generation = 0; home = true }); next = 0 }
