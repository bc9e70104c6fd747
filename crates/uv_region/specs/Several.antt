-- Actions on several pieces, one after another: bytes that are cut to the pieces and written there, or that are read from
-- them and put together.
use Rattle.std.specs.Prelude.{ℕ, ◌≡◌, ◌<◌, Bool, nat_lt, List, [], ◌∷◌, ◌++◌, length, take, drop, replicate}
use Rattle.std.specs.List.{list_all, sum_by}
use Rattle.uv_region.specs.declared.action.Access.{Access}
use Rattle.uv_region.specs.declared.piece.Piece.{Piece}
use Rattle.uv_region.specs.Actions.{PlainAction}
use Rattle.uv_region.specs.Lent.{Lent, MayAct, acting, lent_after, lent_allows, lent_bytes, lent_with_rooms}

-- pieces

-- whether each piece has bytes, and how many all have
abbrev pub holds_bytes : Piece → Bool
holds_bytes piece = nat_lt 0 piece.length

abbrev pub all_have_bytes : List Piece → Bool
all_have_bytes pieces = list_all holds_bytes pieces

abbrev pub piece_length : Piece → ℕ
piece_length piece = piece.length

abbrev pub pieces_length : List Piece → ℕ
pieces_length pieces = sum_by piece_length pieces

-- whether an action of a kind may be made on each piece
abbrev pub lent_allows_all : Lent → Access → ℕ → List Piece → Bool
lent_allows_all lent kind domain pieces = list_all (λ piece. lent_allows lent kind piece domain) pieces

-- the regions with room for one action on each piece
abbrev pub with_rooms_for : Lent → List Piece → Lent
with_rooms_for lent pieces = lent_with_rooms lent pieces (length pieces)

-- writes

-- a piece, and the bytes that are written there
pub record PlainWrite : Type 0 where
  pub piece : Piece
  pub bytes : List ℕ

-- it has bytes, and as many as the piece
pub record IsWrite (piece : Piece) (bytes : List ℕ) : Type 0 where
  pub some : 0 < piece.length
  pub whole : length bytes ≡ piece.length

-- bytes cut to pieces: the first of them go to the first piece, and so on
abbrev pub writes_of : List Piece → List ℕ → List PlainWrite
writes_of [] bytes = []
writes_of (piece ∷ pieces) bytes = record { piece = piece; bytes = take piece.length bytes } ∷ writes_of pieces (drop piece.length bytes)

-- the action that makes a write, before it has a window
abbrev pub piece_writing : Access → ℕ → ℕ → PlainWrite → PlainAction
piece_writing kind qp domain w = acting kind w.piece w.bytes qp domain

-- the regions after each write was made
abbrev pub lent_written : Lent → Access → ℕ → ℕ → List PlainWrite → Lent
lent_written lent kind qp domain [] = lent
lent_written lent kind qp domain (w ∷ ws) = lent_written (lent_after lent w.piece.key (piece_writing kind qp domain w)) kind qp domain ws

-- each write may be made after those before it
abbrev pub MayWriteAll : Lent → Access → ℕ → ℕ → List PlainWrite → Type 0
MayWriteAll lent kind qp domain [] = Unit {0}
MayWriteAll lent kind qp domain (w ∷ ws) =
    MayAct lent w.piece.key (piece_writing kind qp domain w) × MayWriteAll (lent_after lent w.piece.key (piece_writing kind qp domain w)) kind qp domain ws

-- reads

-- the action that reads a piece, before it has bytes and a window
abbrev pub piece_reading : Access → ℕ → ℕ → Piece → PlainAction
piece_reading kind qp domain piece = acting kind piece (replicate piece.length 0) qp domain

-- the regions after each piece was read
abbrev pub lent_read : Lent → Access → ℕ → ℕ → List Piece → Lent
lent_read lent kind qp domain [] = lent
lent_read lent kind qp domain (piece ∷ pieces) = lent_read (lent_after lent piece.key (piece_reading kind qp domain piece)) kind qp domain pieces

-- the bytes that are read, one piece after another
abbrev pub gathered : Lent → Access → ℕ → ℕ → List Piece → List ℕ
gathered lent kind qp domain [] = []
gathered lent kind qp domain (piece ∷ pieces) =
    lent_bytes lent piece.key (piece_reading kind qp domain piece)
    ++ gathered (lent_after lent piece.key (piece_reading kind qp domain piece)) kind qp domain pieces

-- each piece may be read after those before it were
abbrev pub MayReadAll : Lent → Access → ℕ → ℕ → List Piece → Type 0
MayReadAll lent kind qp domain [] = Unit {0}
MayReadAll lent kind qp domain (piece ∷ pieces) =
    MayAct lent piece.key (piece_reading kind qp domain piece) × MayReadAll (lent_after lent piece.key (piece_reading kind qp domain piece)) kind qp domain pieces
