-- The table of opcodes: the numbers and names of IBA volume 1, 9.2.1, and which headers stand behind the BTH of each.
use Rattle.std.specs.Prelude.{ℕ, Bool, true, false, ◌==◌, Option, List, [], ◌∷◌, find}
use Rattle.std.specs.Option.{option_map}
use Rattle.uv_packet.specs.declared.headers.Headers.{Headers}
use Rattle.uv_packet.specs.declared.opcode.Opcode.{Opcode}
use Rattle.uv_packet.specs.declared.opcode.Opcode.TheVariants.{SendFirst, SendMiddle, SendLast, SendLastWithImmediate, SendOnly, SendOnlyWithImmediate, WriteFirst, WriteMiddle, WriteLast, WriteLastWithImmediate, WriteOnly, WriteOnlyWithImmediate, ReadRequest, ReadResponseFirst, ReadResponseMiddle, ReadResponseLast, ReadResponseOnly, Acknowledge, SendLastWithInvalidate, SendOnlyWithInvalidate, UdSendOnly, UdSendOnlyWithImmediate}

-- the number of an opcode
abbrev pub opcode_number : Opcode → ℕ
opcode_number SendFirst = 0x00
opcode_number SendMiddle = 0x01
opcode_number SendLast = 0x02
opcode_number SendLastWithImmediate = 0x03
opcode_number SendOnly = 0x04
opcode_number SendOnlyWithImmediate = 0x05
opcode_number WriteFirst = 0x06
opcode_number WriteMiddle = 0x07
opcode_number WriteLast = 0x08
opcode_number WriteLastWithImmediate = 0x09
opcode_number WriteOnly = 0x0a
opcode_number WriteOnlyWithImmediate = 0x0b
opcode_number ReadRequest = 0x0c
opcode_number ReadResponseFirst = 0x0d
opcode_number ReadResponseMiddle = 0x0e
opcode_number ReadResponseLast = 0x0f
opcode_number ReadResponseOnly = 0x10
opcode_number Acknowledge = 0x11
opcode_number SendLastWithInvalidate = 0x16
opcode_number SendOnlyWithInvalidate = 0x17
opcode_number UdSendOnly = 0x64
opcode_number UdSendOnlyWithImmediate = 0x65

-- no header, and a payload
abbrev pub payload_alone : Headers
payload_alone = record { reth = false; aeth = false; deth = false; imm = false; ieth = false; payload = true }

-- the headers of an opcode
abbrev pub headers_for : Opcode → Headers
headers_for SendFirst = payload_alone
headers_for SendMiddle = payload_alone
headers_for SendLast = payload_alone
headers_for SendLastWithImmediate = record payload_alone { imm = true }
headers_for SendOnly = payload_alone
headers_for SendOnlyWithImmediate = record payload_alone { imm = true }
headers_for WriteFirst = record payload_alone { reth = true }
headers_for WriteMiddle = payload_alone
headers_for WriteLast = payload_alone
headers_for WriteLastWithImmediate = record payload_alone { imm = true }
headers_for WriteOnly = record payload_alone { reth = true }
headers_for WriteOnlyWithImmediate = record payload_alone { reth = true; imm = true }
headers_for ReadRequest = record payload_alone { reth = true; payload = false }
headers_for ReadResponseFirst = record payload_alone { aeth = true }
headers_for ReadResponseMiddle = payload_alone
headers_for ReadResponseLast = record payload_alone { aeth = true }
headers_for ReadResponseOnly = record payload_alone { aeth = true }
headers_for Acknowledge = record payload_alone { aeth = true; payload = false }
headers_for SendLastWithInvalidate = record payload_alone { ieth = true }
headers_for SendOnlyWithInvalidate = record payload_alone { ieth = true }
headers_for UdSendOnly = record payload_alone { deth = true }
headers_for UdSendOnlyWithImmediate = record payload_alone { deth = true; imm = true }

-- the opcodes, in the order of their numbers
abbrev pub opcodes : List Opcode
opcodes =
    SendFirst ∷ SendMiddle ∷ SendLast ∷ SendLastWithImmediate ∷ SendOnly ∷ SendOnlyWithImmediate
    ∷ WriteFirst ∷ WriteMiddle ∷ WriteLast ∷ WriteLastWithImmediate ∷ WriteOnly ∷ WriteOnlyWithImmediate
    ∷ ReadRequest ∷ ReadResponseFirst ∷ ReadResponseMiddle ∷ ReadResponseLast ∷ ReadResponseOnly ∷ Acknowledge
    ∷ SendLastWithInvalidate ∷ SendOnlyWithInvalidate ∷ UdSendOnly ∷ UdSendOnlyWithImmediate ∷ []

-- whether an opcode has this number
abbrev pub has_opcode_number : ℕ → Opcode → Bool
has_opcode_number n opcode = opcode_number opcode == n

-- the opcode that has a number, if one has
unfoldable pub opcode_of : ℕ → Option Opcode
opcode_of n = find (has_opcode_number n) opcodes

-- the headers of the opcode that has a number, if one has
abbrev pub headers_of : ℕ → Option Headers
headers_of n = option_map headers_for (opcode_of n)
