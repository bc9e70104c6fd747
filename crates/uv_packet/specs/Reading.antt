-- What stands in the fields of bytes, whether they are a packet or not. Reserved bits, reserved bytes and the values of
-- the pad stand in no field.
use Rattle.std.specs.Prelude.{ℕ, ◌+◌, ◌-◌, ◌/◌, ◌%◌, ◌==◌, Bool, if◌then◌else◌, Option, Some, None, unwrap_or, List, length, take, drop, slice_index}
use Rattle.uv_packet.specs.declared.headers.Headers.{Headers}
use Rattle.uv_packet.specs.declared.packet.Aeth.{Aeth}
use Rattle.uv_packet.specs.declared.packet.Deth.{Deth}
use Rattle.uv_packet.specs.declared.packet.Reth.{Reth}
use Rattle.uv_packet.specs.Fields.{field}
use Rattle.uv_packet.specs.Opcodes.{headers_of, payload_alone}
use Rattle.uv_packet.specs.Packets.{Content}
use Rattle.uv_packet.specs.Places.{reth_from, aeth_from, deth_from, imm_from, ieth_from, payload_from}

-- the fields of the BTH
abbrev pub opcode_at : List ℕ → ℕ
opcode_at bytes = slice_index bytes 0

abbrev pub flags_at : List ℕ → ℕ
flags_at bytes = slice_index bytes 1

abbrev pub solicited_at : List ℕ → Bool
solicited_at bytes = flags_at bytes / 128 % 2 == 1

abbrev pub migrated_at : List ℕ → Bool
migrated_at bytes = flags_at bytes / 64 % 2 == 1

abbrev pub pad_at : List ℕ → ℕ
pad_at bytes = flags_at bytes / 16 % 4

abbrev pub version_at : List ℕ → ℕ
version_at bytes = flags_at bytes % 16

abbrev pub pkey_at : List ℕ → ℕ
pkey_at bytes = field 2 2 bytes

abbrev pub dest_at : List ℕ → ℕ
dest_at bytes = field 3 5 bytes

abbrev pub ack_at : List ℕ → Bool
ack_at bytes = slice_index bytes 8 / 128 % 2 == 1

abbrev pub psn_at : List ℕ → ℕ
psn_at bytes = field 3 9 bytes

-- a header that begins at a place
abbrev pub reth_at : ℕ → List ℕ → Reth
reth_at at bytes = record { at = field 8 at bytes; key = field 4 (at + 8) bytes; length = field 4 (at + 12) bytes }

abbrev pub aeth_at : ℕ → List ℕ → Aeth
aeth_at at bytes = record { syndrome = slice_index bytes at; msn = field 3 (at + 1) bytes }

abbrev pub deth_at : ℕ → List ℕ → Deth
deth_at at bytes = record { qkey = field 4 at bytes; source = field 3 (at + 5) bytes }

abbrev pub word_at : ℕ → List ℕ → ℕ
word_at at bytes = field 4 at bytes

-- the headers behind the BTH of an opcode that has these
abbrev pub reth_in : Headers → List ℕ → Option Reth
reth_in h bytes = if h.reth then Some (reth_at (reth_from h) bytes) else None

abbrev pub aeth_in : Headers → List ℕ → Option Aeth
aeth_in h bytes = if h.aeth then Some (aeth_at (aeth_from h) bytes) else None

abbrev pub deth_in : Headers → List ℕ → Option Deth
deth_in h bytes = if h.deth then Some (deth_at (deth_from h) bytes) else None

abbrev pub imm_in : Headers → List ℕ → Option ℕ
imm_in h bytes = if h.imm then Some (word_at (imm_from h) bytes) else None

abbrev pub ieth_in : Headers → List ℕ → Option ℕ
ieth_in h bytes = if h.ieth then Some (word_at (ieth_from h) bytes) else None

-- how many bytes stand behind the headers: the payload and the pad
abbrev pub rest_in : Headers → List ℕ → ℕ
rest_in h bytes = length bytes - payload_from h

-- the bytes behind the headers, less the pad
abbrev pub payload_in : Headers → List ℕ → List ℕ
payload_in h bytes = take (rest_in h bytes - pad_at bytes) (drop (payload_from h) bytes)

abbrev pub content_in : Headers → List ℕ → Content
content_in h bytes = record { opcode = opcode_at bytes; solicited = solicited_at bytes; migrated = migrated_at bytes; pkey = pkey_at bytes; dest = dest_at bytes; ack = ack_at bytes; psn = psn_at bytes; reth = reth_in h bytes; aeth = aeth_in h bytes; imm = imm_in h bytes; ieth = ieth_in h bytes; deth = deth_in h bytes; payload = payload_in h bytes }

-- the headers of the opcode that the bytes begin with, and none where it isn't known
abbrev pub headers_at : List ℕ → Headers
headers_at bytes = unwrap_or (headers_of (opcode_at bytes)) payload_alone

abbrev pub content_at : List ℕ → Content
content_at bytes = content_in (headers_at bytes) bytes
