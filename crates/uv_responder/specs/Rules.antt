-- The rules of the table of connections, by name: the key, the source, the syndrome and the row of each, and which of them a
-- request doesn't meet first. The tests are those of `Judging`, in their order.
use Rattle.std.specs.Prelude.{◌≡◌, ◌+◌, ◌==◌, ◌&&◌, ℕ, not, is_none, is_some, if◌then◌else◌, List, codes, length, Option, None, Some, IfSome}
use Rattle.uv_packet.specs.declared.syndrome.TheConstants.{ACK, RNR, NAK_SEQUENCE, NAK_INVALID, NAK_ACCESS, NAK_OPERATION}
use Rattle.uv_packet.specs.Packets.{Content}
use Rattle.uv_qp.specs.Pairs.{Paired, access_of, mtu_of, rnr_timer_of}
use Rattle.uv_region.specs.declared.action.Access.TheVariants.{LocalWrite}
use Rattle.uv_region.specs.Lent.{Lent}
use Rattle.uv_region.specs.Several.{lent_allows_all}
use Rattle.uv_wr.specs.Works.{Receiving}
use Rattle.uv_responder.specs.declared.judging.Judgement.{Judgement}
use Rattle.uv_responder.specs.declared.judging.Judgement.TheVariants as judgement
use Rattle.uv_responder.specs.declared.part.Part.{Part}
use Rattle.uv_responder.specs.declared.rule.PacketRule.{PacketRule}
use Rattle.uv_responder.specs.declared.rule.PacketRule.TheVariants.{Duplicate, Reread, Stale, Ahead, Busy, Invalidate, Place, Payload, Length, Granted, Receive, Range, Room, Parts}
use Rattle.uv_responder.specs.Judging.{bytes_got, came_before, can_reread, fits_receive, has_length, is_granted, is_in_place, is_sized, judgement_of, psn_distance, reaches, received_at, takes_receive}
use Rattle.uv_responder.specs.Parts.{asks_invalidate, asks_read, asks_send}
use Rattle.uv_responder.specs.Plans.{row_plan}

-- The tables.

abbrev pub packet_key : PacketRule → List ℕ
packet_key Duplicate = codes "psn-duplicate"
packet_key Reread = codes "psn-reread"
packet_key Stale = codes "psn-stale"
packet_key Ahead = codes "psn-ahead"
packet_key Busy = codes "read-busy"
packet_key Invalidate = codes "opcode-invalidate"
packet_key Place = codes "opcode-place"
packet_key Payload = codes "payload-length"
packet_key Length = codes "message-length"
packet_key Granted = codes "access-granted"
packet_key Receive = codes "receive-none"
packet_key Range = codes "rkey-range"
packet_key Room = codes "receive-room"
packet_key Parts = codes "receive-parts"

abbrev pub packet_source : PacketRule → List ℕ
packet_source Duplicate = codes "check_psn, duplicate_request"
packet_source Reread = codes "check_psn, duplicate_request"
packet_source Stale = codes "check_psn, duplicate_request"
packet_source Ahead = codes "check_psn"
packet_source Busy = codes "own"
packet_source Invalidate = codes "own"
packet_source Place = codes "check_op_seq"
packet_source Payload = codes "rxe_resp_check_length"
packet_source Length = codes "check_rkey"
packet_source Granted = codes "check_op_valid"
packet_source Receive = codes "check_resource"
packet_source Range = codes "check_rkey"
packet_source Room = codes "send_data_in"
packet_source Parts = codes "send_data_in"

-- the syndrome of the answer, if there is one
abbrev pub packet_syndrome : PacketRule → Paired → Option ℕ
packet_syndrome Duplicate p = Some ACK
packet_syndrome Reread p = None
packet_syndrome Stale p = None
packet_syndrome Ahead p = Some NAK_SEQUENCE
packet_syndrome Busy p = None
packet_syndrome Invalidate p = Some NAK_INVALID
packet_syndrome Place p = Some NAK_INVALID
packet_syndrome Payload p = Some NAK_INVALID
packet_syndrome Length p = Some NAK_INVALID
packet_syndrome Granted p = Some NAK_INVALID
packet_syndrome Receive p = Some (RNR + rnr_timer_of p)
packet_syndrome Range p = Some NAK_ACCESS
packet_syndrome Room p = Some NAK_INVALID
packet_syndrome Parts p = Some NAK_OPERATION

-- the row that a request meets which doesn't meet the rule
abbrev pub judgement_by : PacketRule → Judgement
judgement_by Duplicate = judgement.Duplicate
judgement_by Reread = judgement.Reread
judgement_by Stale = judgement.Stale
judgement_by Ahead = judgement.Ahead
judgement_by Busy = judgement.Busy
judgement_by Invalidate = judgement.Invalid
judgement_by Place = judgement.Invalid
judgement_by Payload = judgement.Invalid
judgement_by Length = judgement.Invalid
judgement_by Granted = judgement.Invalid
judgement_by Receive = judgement.NotReady
judgement_by Range = judgement.Denied
judgement_by Room = judgement.TooLong
judgement_by Parts = judgement.Unplaced

-- and one that meets all is accepted
abbrev pub judged_by : Option PacketRule → Judgement
judged_by None = judgement.Accepted
judged_by (Some r) = judgement_by r

-- Which rule isn't met.

-- by a packet that came before
abbrev pub rule_before : Part → Content → Paired → Lent → PacketRule
rule_before part c p lent =
    if not (asks_read part.asks) then Duplicate
    else (if can_reread c p lent then Reread else Stale)

-- by one that may be carried out
abbrev pub rule_valid : Part → Content → Paired → Lent → Option Receiving → Option PacketRule
rule_valid part c p lent next =
    if takes_receive part && is_none next then Some Receive
    else (if not (reaches part part.asks c p lent) then Some Range
    else (if asks_send part.asks && not (fits_receive (bytes_got p.responder.message) (length c.payload) next) then Some Room
    else (if asks_send part.asks && not (lent_allows_all lent LocalWrite p.names.domain (received_at next (bytes_got p.responder.message) (length c.payload))) then Some Parts
    else None)))

-- by the one that is expected
abbrev pub rule_expected : Part → Content → Paired → Lent → Option Receiving → Option PacketRule
rule_expected part c p lent next =
    if is_some p.responder.reading then Some Busy
    else (if asks_invalidate part.asks then Some Invalidate
    else (if not (is_in_place part p.responder.message) then Some Place
    else (if not (is_sized part (mtu_of p) (length c.payload)) then Some Payload
    else (if not (has_length part part.asks c p) then Some Length
    else (if not (is_granted part.asks (access_of p)) then Some Granted
    else rule_valid part c p lent next)))))

abbrev pub packet_rule : Part → Content → Paired → Lent → Option Receiving → Option PacketRule
packet_rule part c p lent next =
    if came_before (psn_distance p.responder.expected c.psn) then Some (rule_before part c p lent)
    else (if not (psn_distance p.responder.expected c.psn == 0) then Some Ahead
    else rule_expected part c p lent next)

-- The laws: the row of a request is that of the rule which it doesn't meet first, and what is told has the syndrome of the rule.

abbrev pub PacketHasRule : Type 0
PacketHasRule =
    (part : Part) (c : Content) (p : Paired) (lent : Lent) (next : Option Receiving)
    → judged_by (packet_rule part c p lent next) ≡ judgement_of part c p lent next

abbrev pub RuleTellsSyndrome : Type 0
RuleTellsSyndrome =
    (r : PacketRule) (part : Part) (c : Content) (p : Paired)
    → IfSome (row_plan (judgement_by r) part c p).told (λ t. packet_syndrome r p ≡ Some t.syndrome)
