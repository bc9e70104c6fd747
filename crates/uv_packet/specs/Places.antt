-- Where the headers of an opcode begin, counted in bytes from the front of the packet. They stand behind the BTH, one
-- behind the other: first the RDMA, acknowledgement or datagram header, and then the immediate or the invalidate header,
-- at the offsets of `rxe_opcode.c` in Linux.
use Rattle.std.specs.Prelude.{ℕ, ◌+◌, Bool, if◌then◌else◌}
use Rattle.uv_packet.specs.declared.headers.Headers.{Headers}
use Rattle.uv_packet.specs.declared.packet.TheConstants.{BTH_BYTES, RETH_BYTES, AETH_BYTES, DETH_BYTES, IMM_BYTES, IETH_BYTES}

-- how many bytes a header takes
abbrev pub bytes_if : Bool → ℕ → ℕ
bytes_if has size = if has then size else 0

abbrev pub reth_from : Headers → ℕ
reth_from h = BTH_BYTES

abbrev pub aeth_from : Headers → ℕ
aeth_from h = reth_from h + bytes_if h.reth RETH_BYTES

abbrev pub deth_from : Headers → ℕ
deth_from h = aeth_from h + bytes_if h.aeth AETH_BYTES

abbrev pub imm_from : Headers → ℕ
imm_from h = deth_from h + bytes_if h.deth DETH_BYTES

abbrev pub ieth_from : Headers → ℕ
ieth_from h = imm_from h + bytes_if h.imm IMM_BYTES

-- where the headers end, and the payload begins
abbrev pub payload_from : Headers → ℕ
payload_from h = ieth_from h + bytes_if h.ieth IETH_BYTES
