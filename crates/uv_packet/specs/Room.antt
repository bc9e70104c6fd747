-- What putting bytes into a buffer leaves of its room.
use Rattle.std.specs.Prelude.{◌+◌, ◌≤◌, length}
use Rattle.uv_num.specs.Filled.{Filled}

-- bytes and spare together are no fewer than before, so that no spare was lost but to the bytes that were put
abbrev pub KeepsRoom : Filled → Filled → Type 0
KeepsRoom old new = old.spare + length old.bytes ≤ new.spare + length new.bytes
