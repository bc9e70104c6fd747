-- Which regions a request may touch, whatever row of the table it meets: that of the range which it names or goes on with, or those
-- of the receive which it fills.
use Rattle.std.specs.Prelude.{◌==◌, if◌then◌else◌, Option, None, Some, List, [], length}
use Rattle.uv_packet.specs.Packets.{Content}
use Rattle.uv_packet.specs.Opcodes.{opcode_of}
use Rattle.uv_qp.specs.Pairs.{Paired}
use Rattle.uv_region.specs.declared.piece.Piece.{Piece}
use Rattle.uv_wr.specs.Works.{Receiving}
use Rattle.uv_responder.specs.declared.part.Asks.{Asks}
use Rattle.uv_responder.specs.declared.part.Asks.TheVariants.{Sends, Writes, Reads, Invalidates}
use Rattle.uv_responder.specs.declared.part.Part.{Part}
use Rattle.uv_responder.specs.Judging.{bytes_got, received_at, tested_range}
use Rattle.uv_responder.specs.Turns.{part_in}

-- the range of a remote key, if it has bytes

abbrev pub some_with_bytes : Piece → Option Piece
some_with_bytes piece = if piece.length == 0 then None else Some piece

abbrev pub asked_range : Part → Asks → Content → Paired → Option Piece
asked_range part Sends c p = None
asked_range part Writes c p = some_with_bytes (tested_range part c p.responder)
asked_range part Reads c p = some_with_bytes (tested_range part c p.responder)
asked_range part Invalidates c p = None

abbrev pub range_of_part : Option Part → Content → Paired → Option Piece
range_of_part None c p = None
range_of_part (Some part) c p = asked_range part part.asks c p

abbrev pub range_touched : Content → Paired → Option Piece
range_touched c p = range_of_part (part_in (opcode_of c.opcode)) c p

-- the pieces of the parts of a receive, the one which the message has or would take. What is no part of a connection's request is
-- a datagram

abbrev pub filled_by : Part → Asks → Content → Paired → Option Receiving → List Piece
filled_by part Sends c p next = received_at next (bytes_got p.responder.message) (length c.payload)
filled_by part Writes c p next = []
filled_by part Reads c p next = []
filled_by part Invalidates c p next = []

abbrev pub filled_by_part : Option Part → Content → Paired → Option Receiving → List Piece
filled_by_part None c p next = received_at next 0 (length c.payload)
filled_by_part (Some part) c p next = filled_by part part.asks c p next

abbrev pub receive_touched : Content → Paired → Option Receiving → List Piece
receive_touched c p next = filled_by_part (part_in (opcode_of c.opcode)) c p next
