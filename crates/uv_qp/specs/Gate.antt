-- Which packets a queue pair lets in: the tests that come before all others (`check_type_state` and `check_keys`,
-- `rxe_recv.c`). The device that a packet comes from is looked at elsewhere.
use Rattle.std.specs.Prelude.{◌==◌, ◌&&◌, Bool, true, false, not, Option, None, Some}
use Rattle.uv_num.specs.declared.qp.QpState.{QpState}
use Rattle.uv_num.specs.declared.qp.QpState.TheVariants.{Reset, Init, Rtr, Rts, Err}
use Rattle.uv_num.specs.declared.qp.Service.{Service}
use Rattle.uv_num.specs.declared.qp.Service.TheVariants.{Rc, Ud}
use Rattle.uv_packet.specs.declared.opcode.Opcode.{Opcode}
use Rattle.uv_packet.specs.declared.opcode.Opcode.TheVariants.{SendFirst, SendMiddle, SendLast, SendLastWithImmediate, SendOnly, SendOnlyWithImmediate, WriteFirst, WriteMiddle, WriteLast, WriteLastWithImmediate, WriteOnly, WriteOnlyWithImmediate, ReadRequest, ReadResponseFirst, ReadResponseMiddle, ReadResponseLast, ReadResponseOnly, Acknowledge, SendLastWithInvalidate, SendOnlyWithInvalidate, UdSendOnly, UdSendOnlyWithImmediate}
use Rattle.uv_packet.specs.Opcodes.{opcode_of}
use Rattle.uv_packet.specs.Packets.{Content}
use Rattle.uv_qp.specs.declared.gate.TheConstants.{DEFAULT_PKEY}
use Rattle.uv_qp.specs.Pairs.{Paired}

-- whether an opcode is one of the reliable connection: all but the two datagrams are
abbrev pub is_connected : Opcode → Bool
is_connected SendFirst = true
is_connected SendMiddle = true
is_connected SendLast = true
is_connected SendLastWithImmediate = true
is_connected SendOnly = true
is_connected SendOnlyWithImmediate = true
is_connected WriteFirst = true
is_connected WriteMiddle = true
is_connected WriteLast = true
is_connected WriteLastWithImmediate = true
is_connected WriteOnly = true
is_connected WriteOnlyWithImmediate = true
is_connected ReadRequest = true
is_connected ReadResponseFirst = true
is_connected ReadResponseMiddle = true
is_connected ReadResponseLast = true
is_connected ReadResponseOnly = true
is_connected Acknowledge = true
is_connected SendLastWithInvalidate = true
is_connected SendOnlyWithInvalidate = true
is_connected UdSendOnly = false
is_connected UdSendOnlyWithImmediate = false

-- whether an opcode is one of a service
abbrev pub is_opcode_of : Service → Opcode → Bool
is_opcode_of Rc opcode = is_connected opcode
is_opcode_of Ud opcode = not (is_connected opcode)

-- whether an opcode is a response, to which a requester listens: 0x0d to 0x11
abbrev pub is_response : Opcode → Bool
is_response SendFirst = false
is_response SendMiddle = false
is_response SendLast = false
is_response SendLastWithImmediate = false
is_response SendOnly = false
is_response SendOnlyWithImmediate = false
is_response WriteFirst = false
is_response WriteMiddle = false
is_response WriteLast = false
is_response WriteLastWithImmediate = false
is_response WriteOnly = false
is_response WriteOnlyWithImmediate = false
is_response ReadRequest = false
is_response ReadResponseFirst = true
is_response ReadResponseMiddle = true
is_response ReadResponseLast = true
is_response ReadResponseOnly = true
is_response Acknowledge = true
is_response SendLastWithInvalidate = false
is_response SendOnlyWithInvalidate = false
is_response UdSendOnly = false
is_response UdSendOnlyWithImmediate = false

-- whether a state takes a request, or a response
abbrev pub takes_packet : QpState → Bool → Bool
takes_packet Reset response = false
takes_packet Init response = false
takes_packet Rtr response = not response
takes_packet Rts response = true
takes_packet Err response = false

abbrev pub takes_opcode : Paired → Option Opcode → Bool
takes_opcode p None = false
takes_opcode p (Some opcode) = is_opcode_of p.service opcode && takes_packet p.state (is_response opcode)

-- whether a packet is let in
abbrev pub lets_in : Paired → Content → Bool
lets_in p c = c.pkey == DEFAULT_PKEY && takes_opcode p (opcode_of c.opcode)
