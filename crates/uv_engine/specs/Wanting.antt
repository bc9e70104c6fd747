-- Which regions an action needs: the keys that it names.
use Rattle.std.specs.Prelude.{ℕ, ◌&&◌, Bool, true, false, if◌then◌else◌, Option, None, Some, List, [], ◌∷◌, take}
use Rattle.std.specs.List.{list_any}
use Rattle.uv_num.specs.declared.kind.Kind.{Kind}
use Rattle.uv_num.specs.declared.kind.Kind.TheVariants.{Pd, Channel, Cq, Qp, Srq, Ah, Mr, Mw}
use Rattle.uv_num.specs.Ids.{is_number}
use Rattle.uv_pool.specs.Keys.{key_parts}
use Rattle.uv_queue.specs.Order.{oldest, with_newest}
use Rattle.uv_packet.specs.declared.opcode.Opcode.{Opcode}
use Rattle.uv_packet.specs.Opcodes.{opcode_of}
use Rattle.uv_packet.specs.Packets.{Content}
use Rattle.uv_region.specs.declared.piece.Piece.{Piece}
use Rattle.uv_qp.specs.Gate.{is_response, lets_in}
use Rattle.uv_qp.specs.Pairs.{Paired}
use Rattle.uv_requester.specs.Touching.{response_touches, send_touches}
use Rattle.uv_responder.specs.Touching.{range_touched, receive_touched}
use Rattle.uv_responder.specs.Turns.{Shared, receive_for}
use Rattle.uv_completer.specs.Touching.{reply_touches}
use Rattle.uv_engine.specs.declared.wanted.Wants.{Wants}

-- the keys that count
abbrev pub keys_wanted : Wants → List ℕ
keys_wanted w = take w.count w.keys

-- a key of a region, and not of a window: no window gives a local right

abbrev pub is_region : Kind → Bool
is_region Pd = false
is_region Channel = false
is_region Cq = false
is_region Qp = false
is_region Srq = false
is_region Ah = false
is_region Mr = true
is_region Mw = false

abbrev pub names_region : Option (Kind × ℕ × ℕ) → Bool
names_region None = false
names_region (Some parts) = is_region parts.0

abbrev pub is_region_key : ℕ → Bool
is_region_key key = names_region (key_parts key)

-- keys without repeats

abbrev pub is_among : List ℕ → ℕ → Bool
is_among keys key = list_any (is_number key) keys

abbrev pub and_key : List ℕ → ℕ → List ℕ
and_key keys key = if is_among keys key then keys else with_newest keys key

-- those of local parts: of windows none is wanted, since the part is refused with and without it
abbrev pub and_local : List ℕ → ℕ → List ℕ
and_local keys key = if is_region_key key then and_key keys key else keys

abbrev pub and_locals : List ℕ → List Piece → List ℕ
and_locals keys [] = keys
and_locals keys (piece ∷ pieces) = and_locals (and_local keys piece.key) pieces

-- the remote key of a piece, if there is one
abbrev pub remote_keys : Option Piece → List ℕ
remote_keys None = []
remote_keys (Some piece) = piece.key ∷ []

-- by the action

-- a send turn: the key of a read that is answered, or those of the parts of the next packet
abbrev pub wanted_by_send : Paired → List ℕ
wanted_by_send p = and_locals (remote_keys (oldest (response_touches p))) (send_touches p)

-- a request: the key that it names or goes on with, or those of the parts of its receive
abbrev pub wanted_by_request : Content → Paired → Shared → List ℕ
wanted_by_request c p shared = and_locals (remote_keys (range_touched c p)) (receive_touched c p (receive_for p shared))

-- a response: those of the parts of the read
abbrev pub wanted_by_response : Content → Paired → List ℕ
wanted_by_response c p = and_locals [] (reply_touches c p)

-- whether a packet is a response
abbrev pub has_response : Option Opcode → Bool
has_response None = false
has_response (Some opcode) = is_response opcode

abbrev pub responds : Content → Bool
responds c = has_response (opcode_of c.opcode)

-- a packet: one that isn't let in needs nothing
abbrev pub wanted_by_packet : Content → Paired → Shared → List ℕ
wanted_by_packet c p shared =
    if lets_in p c then (if responds c then wanted_by_response c p else wanted_by_request c p shared) else []

abbrev pub keys_needed : Paired → Option Content → Shared → List ℕ
keys_needed p None shared = wanted_by_send p
keys_needed p (Some c) shared = wanted_by_packet c p shared
