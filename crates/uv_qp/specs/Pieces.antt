-- Where the bytes of a message lie in the parts of a work.
use Rattle.std.specs.Prelude.{ℕ, ◌+◌, ◌-◌, ◌==◌, min, if◌then◌else◌, List, [], ◌∷◌, ◌++◌}
use Rattle.uv_region.specs.declared.piece.Piece.{Piece}
use Rattle.uv_wr.specs.declared.work.Sge.{Sge}

-- how many of so many bytes, from a place on, lie in a part of this length
abbrev pub within_part : ℕ → ℕ → ℕ → ℕ
within_part size from count = min count (size - from)

-- the piece of a part: none where it has no bytes, so that a part which isn't touched is never looked at
abbrev pub piece_of : Sge → ℕ → ℕ → List Piece
piece_of part from count =
    if count == 0 then [] else record { key = part.key; offset = part.offset + from; length = count } ∷ []

-- the pieces of the parts that have so many bytes from a place on, in order
abbrev pub pieces : List Sge → ℕ → ℕ → List Piece
pieces [] from count = []
pieces (part ∷ parts) from count =
    piece_of part from (within_part part.length from count)
    ++ pieces parts (from - part.length) (count - within_part part.length from count)
