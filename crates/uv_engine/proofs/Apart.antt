-- Why the keys that an action wants lead to different regions.
use Rattle.std.proofs.Common.{◌≡◌, ◌≤◌, ◌++◌, ◌==◌, ◌||◌, ◌&&◌, ℕ, zero, suc, Bool, true, false, Option, Some, None, List, [], ◌∷◌, length, refl, sym, ap, ◌∙◌, inl, inr, arith, if◌then◌else◌}
use Rattle.std.proofs.lemmas.Bool.{eqb-false, ne_eqb, or_from, or_parts}
use Rattle.std.proofs.lemmas.List.Folds.{list_all-append, list_any-append}
use Rattle.std.specs.List.{list_all, list_any}
use Rattle.uv_num.specs.Ids.{is_number}
use Rattle.uv_packet.specs.Packets.{Content}
use Rattle.uv_packet.specs.Opcodes.{opcode_of}
use Rattle.uv_region.specs.declared.piece.Piece.{Piece}
use Rattle.uv_qp.specs.declared.state.Reading.{Reading}
use Rattle.uv_qp.specs.Gate.{lets_in}
use Rattle.uv_qp.specs.Pairs.{Paired}
use Rattle.uv_queue.specs.Order.{oldest}
use Rattle.uv_wr.specs.Works.{Receiving}
use Rattle.uv_requester.specs.Answers.{answered_read}
use Rattle.uv_requester.specs.Touching.{read_touches, send_touches_after}
use Rattle.uv_responder.specs.declared.part.Asks.{Asks}
use Rattle.uv_responder.specs.declared.part.Asks.TheVariants.{Sends, Writes, Reads, Invalidates}
use Rattle.uv_responder.specs.declared.part.Part.{Part}
use Rattle.uv_responder.specs.Touching.{asked_range, filled_by, filled_by_part, range_of_part}
use Rattle.uv_responder.specs.Turns.{Shared, part_in, receive_for}
use Rattle.uv_completer.specs.Touching.{reply_touches}
use Rattle.uv_engine.specs.Laws.{AreAlone, LeadApart, StandOnce}
use Rattle.uv_engine.specs.Wanting.{and_key, and_local, and_locals, is_among, is_region_key, keys_needed, remote_keys, responds, wanted_by_packet, wanted_by_request, wanted_by_response}

same_back : (a b : ℕ) → (a == b) ≡ false → (b == a) ≡ false
same_back a b h = ne_eqb b a (λ e. eqb-false a b h (sym e))

-- one more that isn't there

once_more : (keys : List ℕ) (key : ℕ) → StandOnce keys → is_among keys key ≡ false → StandOnce (keys ++ key ∷ [])
once_more [] key once new = (refl, once)
once_more (k ∷ keys) key once new =
    let (apart, rest) = or_parts (k == key) (list_any (is_number key) keys) new in (
      list_any-append (is_number k) keys (key ∷ []) ∙ or_from (list_any (is_number k) keys) (list_any (is_number k) (key ∷ [])) once.0 (or_from (key == k) false (same_back k key apart) refl),
      once_more keys key once.1 rest,
    )

once_by : (there : Bool) (keys : List ℕ) (key : ℕ) → is_among keys key ≡ there → StandOnce keys → StandOnce (if there then keys else keys ++ key ∷ [])
once_by true keys key h once = once
once_by false keys key h once = once_more keys key once h

once_local_by : (local : Bool) (keys : List ℕ) (key : ℕ) → StandOnce keys → StandOnce (if local then and_key keys key else keys)
once_local_by true keys key once = once_by (is_among keys key) keys key refl once
once_local_by false keys key once = once

once_locals : (keys : List ℕ) (pieces : List Piece) → StandOnce keys → StandOnce (and_locals keys pieces)
once_locals keys [] once = once
once_locals keys (piece ∷ pieces) once = once_locals (and_local keys piece.key) pieces (once_local_by (is_region_key piece.key) keys piece.key once)

once_remote : (range : Option Piece) → StandOnce (remote_keys range)
once_remote None = tt
once_remote (Some piece) = (refl, tt)

-- keys of regions stay so

regions_more : (there : Bool) (keys : List ℕ) (key : ℕ) → is_region_key key ≡ true → list_all is_region_key keys ≡ true → list_all is_region_key (if there then keys else keys ++ key ∷ []) ≡ true
regions_more true keys key is all = all
regions_more false keys key is all = list_all-append is_region_key keys (key ∷ []) ∙ ap (λ b. b && list_all is_region_key (key ∷ [])) all ∙ ap (λ b. b && true) is

regions_local_by : (local : Bool) (keys : List ℕ) (key : ℕ) → is_region_key key ≡ local → list_all is_region_key keys ≡ true → list_all is_region_key (if local then and_key keys key else keys) ≡ true
regions_local_by true keys key is all = regions_more (is_among keys key) keys key is all
regions_local_by false keys key is all = all

regions_locals : (keys : List ℕ) (pieces : List Piece) → list_all is_region_key keys ≡ true → list_all is_region_key (and_locals keys pieces) ≡ true
regions_locals keys [] all = all
regions_locals keys (piece ∷ pieces) all = regions_locals (and_local keys piece.key) pieces (regions_local_by (is_region_key piece.key) keys piece.key refl all)

few_remote : (range : Option Piece) → length (remote_keys range) ≤ 1
few_remote None = omega (arith)
few_remote (Some piece) = omega (arith)

-- by the action

locals_apart : (pieces : List Piece) → LeadApart (and_locals [] pieces)
locals_apart pieces = record { once = once_locals [] pieces tt; alone = inr (regions_locals [] pieces refl) }

remote_apart : (range : Option Piece) → LeadApart (remote_keys range)
remote_apart range = record { once = once_remote range; alone = inl (few_remote range) }

send_apart : (p : Paired) (reading : Option Reading) → LeadApart (and_locals (remote_keys (oldest (read_touches p reading))) (send_touches_after p reading))
send_apart p None = locals_apart (send_touches_after p None)
send_apart p (Some r) = remote_apart (oldest (read_touches p (Some r)))

part_apart : (part : Part) (asks : Asks) (c : Content) (p : Paired) (next : Option Receiving) → LeadApart (and_locals (remote_keys (asked_range part asks c p)) (filled_by part asks c p next))
part_apart part Sends c p next = locals_apart (filled_by part Sends c p next)
part_apart part Writes c p next = remote_apart (asked_range part Writes c p)
part_apart part Reads c p next = remote_apart (asked_range part Reads c p)
part_apart part Invalidates c p next = locals_apart []

request_apart : (part : Option Part) (c : Content) (p : Paired) (next : Option Receiving) → LeadApart (and_locals (remote_keys (range_of_part part c p)) (filled_by_part part c p next))
request_apart None c p next = locals_apart (filled_by_part None c p next)
request_apart (Some part) c p next = part_apart part part.asks c p next

if_apart : (b : Bool) (xs ys : List ℕ) → LeadApart xs → LeadApart ys → LeadApart (if b then xs else ys)
if_apart true xs ys first second = first
if_apart false xs ys first second = second

none_apart : LeadApart []
none_apart = locals_apart []

pub wants_apart : (p : Paired) (packet : Option Content) (shared : Shared) → LeadApart (keys_needed p packet shared)
wants_apart p None shared = send_apart p (answered_read p)
wants_apart p (Some c) shared =
    if_apart (lets_in p c) (if responds c then wanted_by_response c p else wanted_by_request c p shared) []
    (if_apart (responds c) (wanted_by_response c p) (wanted_by_request c p shared)
    (locals_apart (reply_touches c p))
    (request_apart (part_in (opcode_of c.opcode)) c p (receive_for p shared)))
    none_apart
