-- What a packet says to the requester.
use Rattle.std.specs.Prelude.{true, false, Option, None, Some}
use Rattle.uv_packet.specs.declared.opcode.Opcode.{Opcode}
use Rattle.uv_packet.specs.declared.opcode.Opcode.TheVariants.{SendFirst, SendMiddle, SendLast, SendLastWithImmediate, SendOnly, SendOnlyWithImmediate, WriteFirst, WriteMiddle, WriteLast, WriteLastWithImmediate, WriteOnly, WriteOnlyWithImmediate, ReadRequest, ReadResponseFirst, ReadResponseMiddle, ReadResponseLast, ReadResponseOnly, Acknowledge, SendLastWithInvalidate, SendOnlyWithInvalidate, UdSendOnly, UdSendOnlyWithImmediate}
use Rattle.uv_packet.specs.declared.packet.Aeth.{Aeth}
use Rattle.uv_packet.specs.Opcodes.{opcode_of}
use Rattle.uv_packet.specs.Packets.{Content}
use Rattle.uv_packet.specs.Syndromes.{syndrome_told}
use Rattle.uv_completer.specs.declared.meaning.Meaning.{Meaning}
use Rattle.uv_completer.specs.declared.meaning.Meaning.TheVariants.{Nothing, Tells, Returned}

abbrev pub aeth_meaning : Option Aeth → Meaning
aeth_meaning None = Nothing
aeth_meaning (Some a) = Tells (syndrome_told a.syndrome)

-- an acknowledge packet tells what its syndrome says, and a response to a read whether it is the first and the last of those
-- that were asked for: its syndrome changes nothing. A request says nothing to a requester
abbrev pub opcode_meaning : Opcode → Option Aeth → Meaning
opcode_meaning SendFirst aeth = Nothing
opcode_meaning SendMiddle aeth = Nothing
opcode_meaning SendLast aeth = Nothing
opcode_meaning SendLastWithImmediate aeth = Nothing
opcode_meaning SendOnly aeth = Nothing
opcode_meaning SendOnlyWithImmediate aeth = Nothing
opcode_meaning WriteFirst aeth = Nothing
opcode_meaning WriteMiddle aeth = Nothing
opcode_meaning WriteLast aeth = Nothing
opcode_meaning WriteLastWithImmediate aeth = Nothing
opcode_meaning WriteOnly aeth = Nothing
opcode_meaning WriteOnlyWithImmediate aeth = Nothing
opcode_meaning ReadRequest aeth = Nothing
opcode_meaning ReadResponseFirst aeth = Returned true false
opcode_meaning ReadResponseMiddle aeth = Returned false false
opcode_meaning ReadResponseLast aeth = Returned false true
opcode_meaning ReadResponseOnly aeth = Returned true true
opcode_meaning Acknowledge aeth = aeth_meaning aeth
opcode_meaning SendLastWithInvalidate aeth = Nothing
opcode_meaning SendOnlyWithInvalidate aeth = Nothing
opcode_meaning UdSendOnly aeth = Nothing
opcode_meaning UdSendOnlyWithImmediate aeth = Nothing

abbrev pub meaning_by : Option Opcode → Option Aeth → Meaning
meaning_by None aeth = Nothing
meaning_by (Some opcode) aeth = opcode_meaning opcode aeth

abbrev pub meaning_of : Content → Meaning
meaning_of c = meaning_by (opcode_of c.opcode) c.aeth
