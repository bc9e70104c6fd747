-- Where the bytes of a response are written, if it has any for a read.
use Rattle.std.specs.Prelude.{ℕ, List, [], length}
use Rattle.uv_packet.specs.Packets.{Content}
use Rattle.uv_qp.specs.Pairs.{Paired}
use Rattle.uv_qp.specs.Pieces.{pieces}
use Rattle.uv_region.specs.declared.piece.Piece.{Piece}
use Rattle.uv_completer.specs.declared.judging.Upshot.{Upshot}
use Rattle.uv_completer.specs.declared.judging.Upshot.TheVariants.{Ignored, Moves, Breaks, Fills}
use Rattle.uv_completer.specs.Replies.{parts_at}
use Rattle.uv_completer.specs.Upshots.{upshot_of}

abbrev pub upshot_touches : Paired → ℕ → Upshot → List Piece
upshot_touches p size Ignored = []
upshot_touches p size (Moves word works r) = []
upshot_touches p size (Breaks word works r status) = []
upshot_touches p size (Fills at older from last) = pieces (parts_at p older) from size

abbrev pub reply_touches : Content → Paired → List Piece
reply_touches c p = upshot_touches p (length c.payload) (upshot_of c p)
