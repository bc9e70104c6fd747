-- The grammar of packets: which bytes a packet has. The headers are those of IBA volume 1, 9.2 and 9.3, field by field
-- as in `rxe_hdr.h` of Linux. All numbers are big-endian, and what is reserved is written as 0.
use Rattle.std.specs.Prelude.{◌≡◌, ℕ, ◌+◌, ◌-◌, ◌*◌, ◌%◌, ◌^◌, ◌<◌, ◌≤◌, Bool, false, if◌then◌else◌, Option, is_some, IfSome, IsSomeAnd, List, [], ◌∷◌, ◌++◌, length, replicate}
use Rattle.std.specs.Option.{option_map_or}
use Rattle.byteorder.specs.Endian.{big_bytes}
use Rattle.uv_num.specs.declared.limits.TheConstants.{PACKET_PAYLOAD}
use Rattle.uv_packet.specs.declared.headers.Headers.{Headers}
use Rattle.uv_packet.specs.declared.packet.Aeth.{Aeth}
use Rattle.uv_packet.specs.declared.packet.Deth.{Deth}
use Rattle.uv_packet.specs.declared.packet.Packet.{Packet}
use Rattle.uv_packet.specs.declared.packet.Reth.{Reth}
use Rattle.uv_packet.specs.Opcodes.{headers_of}

-- what a packet says, with its payload as plain bytes
pub record Content : Type 0 where
  pub opcode : ℕ
  pub solicited : Bool
  pub migrated : Bool
  pub pkey : ℕ
  pub dest : ℕ
  pub ack : Bool
  pub psn : ℕ
  pub reth : Option Reth
  pub aeth : Option Aeth
  pub imm : Option ℕ
  pub ieth : Option ℕ
  pub deth : Option Deth
  pub payload : List ℕ

-- what a packet of the program says
abbrev pub content_of : Packet → Content
content_of p = record { opcode = p.opcode; solicited = p.solicited; migrated = p.migrated; pkey = p.pkey; dest = p.dest; ack = p.ack; psn = p.psn; reth = p.reth; aeth = p.aeth; imm = p.imm; ieth = p.ieth; deth = p.deth; payload = p.payload.bytes }

-- the least number of bytes that fills so many up to a multiple of 4
abbrev pub pad_of : ℕ → ℕ
pad_of n = (4 - n % 4) % 4

-- SE is bit 7, M is bit 6, the pad count bits 5 and 4; below them the version, which is 0
abbrev pub flags_of : Content → ℕ
flags_of p = (if p.solicited then 128 else 0) + (if p.migrated then 64 else 0) + 16 * pad_of (length p.payload)

-- what has no meaning, and is free in reading: the byte between P_Key and DestQP, the seven bits below A, the byte before
-- SrcQP, and the bytes of the pad
pub record Ignored : Type 0 where
  pub behind_pkey : ℕ
  pub below_ack : ℕ
  pub before_source : ℕ
  pub pad : List ℕ

-- A is bit 7
abbrev pub ack_byte : Ignored → Content → ℕ
ack_byte i p = if p.ack then 128 + i.below_ack else i.below_ack

-- opcode, flags, P_Key, a reserved byte, DestQP, A with seven reserved bits, and PSN
abbrev pub bth_bytes : Ignored → Content → List ℕ
bth_bytes i p = p.opcode ∷ flags_of p ∷ [] ++ big_bytes 2 p.pkey ++ i.behind_pkey ∷ [] ++ big_bytes 3 p.dest ++ ack_byte i p ∷ [] ++ big_bytes 3 p.psn

-- VA, R_Key and length
abbrev pub reth_bytes : Reth → List ℕ
reth_bytes r = big_bytes 8 r.at ++ big_bytes 4 r.key ++ big_bytes 4 r.length

-- syndrome and MSN
abbrev pub aeth_bytes : Aeth → List ℕ
aeth_bytes a = a.syndrome ∷ [] ++ big_bytes 3 a.msn

-- Q_Key, a reserved byte and SrcQP
abbrev pub deth_bytes : ℕ → Deth → List ℕ
deth_bytes reserved d = big_bytes 4 d.qkey ++ reserved ∷ [] ++ big_bytes 3 d.source

-- an immediate, or the R_Key of an invalidate header
abbrev pub word_bytes : ℕ → List ℕ
word_bytes n = big_bytes 4 n

-- the headers behind the BTH, each where there is one
abbrev pub headers_bytes : Ignored → Content → List ℕ
headers_bytes i p =
    option_map_or reth_bytes p.reth [] ++ option_map_or aeth_bytes p.aeth [] ++ option_map_or (deth_bytes i.before_source) p.deth []
    ++ option_map_or word_bytes p.imm [] ++ option_map_or word_bytes p.ieth []

-- the payload and its pad
abbrev pub payload_bytes : Ignored → Content → List ℕ
payload_bytes i p = p.payload ++ i.pad

-- the bytes of a packet, with this where nothing has a meaning
abbrev pub spelling : Ignored → Content → List ℕ
spelling i p = bth_bytes i p ++ headers_bytes i p ++ payload_bytes i p

-- what is written there
abbrev pub zeros : Content → Ignored
zeros p = record { behind_pkey = 0; below_ack = 0; before_source = 0; pad = replicate (pad_of (length p.payload)) 0 }

-- the bytes that a packet is written as
abbrev pub bytes_of : Content → List ℕ
bytes_of p = spelling (zeros p) p

-- the packet has exactly these headers, and a payload only where it may
pub record HasHeaders (h : Headers) (p : Content) : Type 0 where
  pub reth : is_some p.reth ≡ h.reth
  pub aeth : is_some p.aeth ≡ h.aeth
  pub deth : is_some p.deth ≡ h.deth
  pub imm : is_some p.imm ≡ h.imm
  pub ieth : is_some p.ieth ≡ h.ieth
  pub payload : h.payload ≡ false → p.payload ≡ []

-- the opcode is known, the headers are those of the opcode, the numbers of 24 bits are such numbers, and the payload
-- isn't too long
pub record IsPacketValue (p : Content) : Type 0 where
  pub headed : IsSomeAnd (headers_of p.opcode) (λ h. HasHeaders h p)
  pub dest : p.dest < 2 ^ 24
  pub psn : p.psn < 2 ^ 24
  pub msn : IfSome p.aeth (λ a. a.msn < 2 ^ 24)
  pub source : IfSome p.deth (λ d. d.source < 2 ^ 24)
  pub payload : length p.payload ≤ PACKET_PAYLOAD

-- each other number of several bytes is one that its field holds
pub record RethFits (r : Reth) : Type 0 where
  pub at : r.at < 2 ^ 64
  pub key : r.key < 2 ^ 32
  pub length : r.length < 2 ^ 32

pub record ContentFits (p : Content) : Type 0 where
  pub pkey : p.pkey < 2 ^ 16
  pub reth : IfSome p.reth RethFits
  pub imm : IfSome p.imm (λ n. n < 2 ^ 32)
  pub ieth : IfSome p.ieth (λ n. n < 2 ^ 32)
  pub qkey : IfSome p.deth (λ d. d.qkey < 2 ^ 32)

-- the bytes are that packet's, whatever they have where nothing has a meaning
pub record IsPacket (bytes : List ℕ) (p : Content) : Type 0 where
  pub ignored : Ignored
  pub below_ack : ignored.below_ack < 2 ^ 7
  pub pad : length ignored.pad ≡ pad_of (length p.payload)
  pub spelled : bytes ≡ spelling ignored p
  pub value : IsPacketValue p
  pub fits : ContentFits p
