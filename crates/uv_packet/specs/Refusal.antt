-- When bytes are no packet: the first of five faults that applies. The faults and their order are this project's own.
use Rattle.std.specs.Prelude.{ℕ, ◌-◌, ◌%◌, ◌==◌, Bool, not, ◌||◌, ◌&&◌, nat_lt, if◌then◌else◌, Option, Some, None, is_none, List, length, codes}
use Rattle.uv_num.specs.declared.limits.TheConstants.{PACKET_PAYLOAD}
use Rattle.uv_packet.specs.declared.fault.PacketFault.{PacketFault}
use Rattle.uv_packet.specs.declared.fault.PacketFault.TheVariants.{Short, Version, Opcode, Pad, Length, NoMemory}
use Rattle.uv_packet.specs.declared.packet.TheConstants.{BTH_BYTES}
use Rattle.uv_packet.specs.Opcodes.{headers_of}
use Rattle.uv_packet.specs.Packets.{Content}
use Rattle.uv_packet.specs.Places.{payload_from}
use Rattle.uv_packet.specs.Reading.{opcode_at, version_at, pad_at, headers_at, rest_in, content_at}

-- how many bytes stand behind the headers
abbrev pub rest_at : List ℕ → ℕ
rest_at bytes = rest_in (headers_at bytes) bytes

-- 1. there are fewer bytes than a BTH has, or than the headers of the opcode
abbrev pub is_short : List ℕ → Bool
is_short bytes = nat_lt (length bytes) BTH_BYTES || nat_lt (length bytes) (payload_from (headers_at bytes))

-- 2. the version isn't 0
abbrev pub is_versioned : List ℕ → Bool
is_versioned bytes = not (version_at bytes == 0)

-- 3. the opcode isn't known
abbrev pub is_unknown : List ℕ → Bool
is_unknown bytes = is_none (headers_of (opcode_at bytes))

-- 4. there is more pad than there are bytes behind the headers
abbrev pub is_overpadded : List ℕ → Bool
is_overpadded bytes = nat_lt (rest_at bytes) (pad_at bytes)

-- 5. what stands behind the headers doesn't end at a multiple of 4, or is more payload than a packet may have, or
-- stands where the opcode has no payload
abbrev pub is_misfit : List ℕ → Bool
is_misfit bytes =
    not (rest_at bytes % 4 == 0) || nat_lt PACKET_PAYLOAD (rest_at bytes - pad_at bytes)
    || (not (headers_at bytes).payload && not (rest_at bytes == 0))

abbrev pub refusal_of : List ℕ → Option PacketFault
refusal_of bytes =
    if is_short bytes then Some Short
    else (if is_versioned bytes then Some Version
    else (if is_unknown bytes then Some Opcode
    else (if is_overpadded bytes then Some Pad
    else (if is_misfit bytes then Some Length
    else None))))

-- the packet that bytes are, if no fault applies
abbrev pub packet_of : List ℕ → Option Content
packet_of bytes = if is_none (refusal_of bytes) then Some (content_at bytes) else None

-- the word that reports print for a fault
abbrev pub fault_name : PacketFault → List ℕ
fault_name Short = codes "Short"
fault_name Version = codes "Version"
fault_name Opcode = codes "Opcode"
fault_name Pad = codes "Pad"
fault_name Length = codes "Length"
fault_name NoMemory = codes "NoMemory"
