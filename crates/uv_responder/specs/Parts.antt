-- What a request of a connection is a part of, by its opcode (`rxe_opcode.c` of Linux has the same table as masks).
use Rattle.std.specs.Prelude.{Bool, true, false, Option, None, Some}
use Rattle.uv_packet.specs.declared.opcode.Opcode.{Opcode}
use Rattle.uv_packet.specs.declared.opcode.Opcode.TheVariants.{SendFirst, SendMiddle, SendLast, SendLastWithImmediate, SendOnly, SendOnlyWithImmediate, WriteFirst, WriteMiddle, WriteLast, WriteLastWithImmediate, WriteOnly, WriteOnlyWithImmediate, ReadRequest, ReadResponseFirst, ReadResponseMiddle, ReadResponseLast, ReadResponseOnly, Acknowledge, SendLastWithInvalidate, SendOnlyWithInvalidate, UdSendOnly, UdSendOnlyWithImmediate}
use Rattle.uv_responder.specs.declared.part.Asks.{Asks}
use Rattle.uv_responder.specs.declared.part.Asks.TheVariants.{Sends, Writes, Reads, Invalidates}
use Rattle.uv_responder.specs.declared.part.Part.{Part}

-- what a message asks for

abbrev pub asks_send : Asks → Bool
asks_send Sends = true
asks_send Writes = false
asks_send Reads = false
asks_send Invalidates = false

abbrev pub asks_write : Asks → Bool
asks_write Sends = false
asks_write Writes = true
asks_write Reads = false
asks_write Invalidates = false

abbrev pub asks_read : Asks → Bool
asks_read Sends = false
asks_read Writes = false
asks_read Reads = true
asks_read Invalidates = false

abbrev pub asks_invalidate : Asks → Bool
asks_invalidate Sends = false
asks_invalidate Writes = false
asks_invalidate Reads = false
asks_invalidate Invalidates = true

-- the part that a request of an opcode is, if it is one of a connection

abbrev pub some_part : Asks → Bool → Bool → Bool → Option Part
some_part asks first last imm = Some (record { asks = asks; first = first; last = last; imm = imm })

abbrev pub part_of : Opcode → Option Part
part_of SendFirst = some_part Sends true false false
part_of SendMiddle = some_part Sends false false false
part_of SendLast = some_part Sends false true false
part_of SendLastWithImmediate = some_part Sends false true true
part_of SendOnly = some_part Sends true true false
part_of SendOnlyWithImmediate = some_part Sends true true true
part_of WriteFirst = some_part Writes true false false
part_of WriteMiddle = some_part Writes false false false
part_of WriteLast = some_part Writes false true false
part_of WriteLastWithImmediate = some_part Writes false true true
part_of WriteOnly = some_part Writes true true false
part_of WriteOnlyWithImmediate = some_part Writes true true true
part_of ReadRequest = some_part Reads true true false
part_of ReadResponseFirst = None
part_of ReadResponseMiddle = None
part_of ReadResponseLast = None
part_of ReadResponseOnly = None
part_of Acknowledge = None
part_of SendLastWithInvalidate = some_part Invalidates false true false
part_of SendOnlyWithInvalidate = some_part Invalidates true true false
part_of UdSendOnly = None
part_of UdSendOnlyWithImmediate = None
