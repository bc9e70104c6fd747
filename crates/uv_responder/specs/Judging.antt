-- What a request of a connection is, and which of the rules it meets: the first row that applies. The order is that of the
-- checks of a responder (`check_psn`, `check_op_seq`, `check_op_valid`, `check_resource`, `check_rkey` of `rxe_resp.c`), with
-- the payload's length tested before the resources (this project's own).
use Rattle.std.specs.Prelude.{ℕ, ◌+◌, ◌-◌, ◌%◌, ◌/◌, ◌==◌, ◌&&◌, ◌||◌, Bool, true, false, not, nat_le, nat_lt, is_some, is_none, if◌then◌else◌, Option, None, Some, unwrap_or, List, [], length}
use Rattle.uv_num.specs.declared.access.TheConstants.{ACCESS_REMOTE_READ, ACCESS_REMOTE_WRITE}
use Rattle.uv_num.specs.declared.limits.TheConstants.{PSNS, WORK_BYTES}
use Rattle.uv_num.specs.Access.{has_right}
use Rattle.uv_packet.specs.declared.packet.Reth.{Reth}
use Rattle.uv_packet.specs.Packets.{Content}
use Rattle.uv_qp.specs.declared.state.Message.{Message}
use Rattle.uv_qp.specs.declared.state.Message.TheVariants as message
use Rattle.uv_qp.specs.declared.state.Responder.{Responder}
use Rattle.uv_qp.specs.Pairs.{Paired, access_of, mtu_of}
use Rattle.uv_qp.specs.Pieces.{pieces}
use Rattle.uv_region.specs.declared.action.Access.{Access}
use Rattle.uv_region.specs.declared.action.Access.TheVariants.{LocalWrite, RemoteRead, RemoteWrite}
use Rattle.uv_region.specs.declared.piece.Piece.{Piece}
use Rattle.uv_region.specs.Lent.{Lent, lent_allows}
use Rattle.uv_region.specs.Several.{lent_allows_all}
use Rattle.uv_wr.specs.Works.{Receiving, whole_length}
use Rattle.uv_responder.specs.declared.judging.Judgement.{Judgement}
use Rattle.uv_responder.specs.declared.judging.Judgement.TheVariants as judgement
use Rattle.uv_responder.specs.declared.part.Asks.{Asks}
use Rattle.uv_responder.specs.declared.part.Asks.TheVariants.{Sends, Writes, Reads, Invalidates}
use Rattle.uv_responder.specs.declared.part.Part.{Part}
use Rattle.uv_responder.specs.Parts.{asks_send, asks_write, asks_read, asks_invalidate}

-- where a packet stands among those that are expected

-- how far a PSN is ahead of another, counted on around the numbers that there are
abbrev pub psn_distance : ℕ → ℕ → ℕ
psn_distance from to = (to + PSNS - from) % PSNS

-- more than half around stands for a packet that came before
abbrev pub came_before : ℕ → Bool
came_before distance = nat_lt (PSNS / 2) distance

-- the range that it names

-- the header of a write or a read, which each of their first packets has
abbrev pub reth_of : Content → Reth
reth_of c = unwrap_or c.reth (record { at = 0; key = 0; length = 0 })

-- the whole range
abbrev pub whole_range : Content → Piece
whole_range c = record { key = (reth_of c).key; offset = (reth_of c).at; length = (reth_of c).length }

-- whether an action on a piece may be made: one without bytes always may, whatever its key
abbrev pub lets_act : Lent → Access → ℕ → Piece → Bool
lets_act lent kind domain piece = (piece.length == 0) || lent_allows lent kind piece domain

-- whether a read that came before may be answered again
abbrev pub can_reread : Content → Paired → Lent → Bool
can_reread c p lent = nat_le (reth_of c).length WORK_BYTES && lets_act lent RemoteRead p.names.domain (whole_range c)

-- a packet that came before
abbrev pub judged_before : Part → Content → Paired → Lent → Judgement
judged_before part c p lent =
    if not (asks_read part.asks) then judgement.Duplicate
    else (if can_reread c p lent then judgement.Reread else judgement.Stale)

-- the tests of an expected packet that is well formed or isn't

-- whether it stands where its message is: a first, an only or a read begins one, a middle or a last goes on with one of its kind
abbrev pub is_in_place : Part → Option Message → Bool
is_in_place part None = part.first
is_in_place part (Some (message.Send got)) = not part.first && asks_send part.asks
is_in_place part (Some (message.Write key at got left)) = not part.first && asks_write part.asks

-- whether the payload is as long as its place in the message wants: the path MTU but at the end
abbrev pub is_sized : Part → ℕ → ℕ → Bool
is_sized part mtu size =
    if part.last then nat_le size mtu && (part.first || nat_lt 0 size) else size == mtu

-- how many bytes a write in progress has left
abbrev pub bytes_left : Option Message → ℕ
bytes_left None = 0
bytes_left (Some (message.Send got)) = 0
bytes_left (Some (message.Write key at got left)) = left

-- whether the length that a write tells is that of its packets: a first leaves some, a last is the rest
abbrev pub is_whole : Part → ℕ → ℕ → ℕ → ℕ → Bool
is_whole part named mtu left size =
    if part.first then nat_le named WORK_BYTES && (if part.last then named == size else nat_lt mtu named)
    else (if part.last then size == left else nat_lt size left)

-- whether the whole message has a length that it may have
abbrev pub has_length : Part → Asks → Content → Paired → Bool
has_length part Sends c p = true
has_length part Writes c p = is_whole part (reth_of c).length (mtu_of p) (bytes_left p.responder.message) (length c.payload)
has_length part Reads c p = nat_le (reth_of c).length WORK_BYTES
has_length part Invalidates c p = true

-- whether the queue pair's own access allows it
abbrev pub is_granted : Asks → ℕ → Bool
is_granted Sends access = true
is_granted Writes access = has_right ACCESS_REMOTE_WRITE access
is_granted Reads access = has_right ACCESS_REMOTE_READ access
is_granted Invalidates access = false

-- what it needs

-- whether it takes a receive: a send with its first packet, a write with an immediate with its last one
abbrev pub takes_receive : Part → Bool
takes_receive part = (asks_send part.asks && part.first) || (asks_write part.asks && part.last && part.imm)

-- where a write in progress goes on
abbrev pub next_range : Option Message → ℕ → Piece
next_range None size = record { key = 0; offset = 0; length = 0 }
next_range (Some (message.Send got)) size = record { key = 0; offset = 0; length = 0 }
next_range (Some (message.Write key at got left)) size = record { key = key; offset = at + got; length = size }

-- the range that is tested: the whole one at a first, an only and a read, else that of the payload
abbrev pub tested_range : Part → Content → Responder → Piece
tested_range part c r = if part.first then whole_range c else next_range r.message (length c.payload)

-- whether the region that it names lets it act
abbrev pub reaches : Part → Asks → Content → Paired → Lent → Bool
reaches part Sends c p lent = true
reaches part Writes c p lent = lets_act lent RemoteWrite p.names.domain (tested_range part c p.responder)
reaches part Reads c p lent = lets_act lent RemoteRead p.names.domain (tested_range part c p.responder)
reaches part Invalidates c p lent = true

-- how many bytes of a send have come
abbrev pub bytes_got : Option Message → ℕ
bytes_got None = 0
bytes_got (Some (message.Send got)) = got
bytes_got (Some (message.Write key at got left)) = 0

-- whether so many bytes from a place on fit a receive
abbrev pub fits_receive : ℕ → ℕ → Option Receiving → Bool
fits_receive got size None = false
fits_receive got size (Some w) = nat_le (got + size) (whole_length w.parts)

-- where they go
abbrev pub received_at : Option Receiving → ℕ → ℕ → List Piece
received_at None got size = []
received_at (Some w) got size = pieces w.parts got size

-- the rows

-- a packet that may be carried out
abbrev pub judged_valid : Part → Content → Paired → Lent → Option Receiving → Judgement
judged_valid part c p lent next =
    if takes_receive part && is_none next then judgement.NotReady
    else (if not (reaches part part.asks c p lent) then judgement.Denied
    else (if asks_send part.asks && not (fits_receive (bytes_got p.responder.message) (length c.payload) next) then judgement.TooLong
    else (if asks_send part.asks && not (lent_allows_all lent LocalWrite p.names.domain (received_at next (bytes_got p.responder.message) (length c.payload))) then judgement.Unplaced
    else judgement.Accepted)))

-- the packet that is expected
abbrev pub judged_expected : Part → Content → Paired → Lent → Option Receiving → Judgement
judged_expected part c p lent next =
    if is_some p.responder.reading then judgement.Busy
    else (if asks_invalidate part.asks then judgement.Invalid
    else (if not (is_in_place part p.responder.message) then judgement.Invalid
    else (if not (is_sized part (mtu_of p) (length c.payload)) then judgement.Invalid
    else (if not (has_length part part.asks c p) then judgement.Invalid
    else (if not (is_granted part.asks (access_of p)) then judgement.Invalid
    else judged_valid part c p lent next)))))

-- the first row that applies, `next` being the receive that its message has or would take
abbrev pub judgement_of : Part → Content → Paired → Lent → Option Receiving → Judgement
judgement_of part c p lent next =
    if came_before (psn_distance p.responder.expected c.psn) then judged_before part c p lent
    else (if not (psn_distance p.responder.expected c.psn == 0) then judgement.Ahead
    else judged_expected part c p lent next)
