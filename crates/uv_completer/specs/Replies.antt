-- What a response makes: the works that end, the queue pair, and the bytes of a read.
use Rattle.std.specs.Prelude.{◌≡◌, ◌<◌, ◌≤◌, ℕ, zero, suc, ◌+◌, Bool, true, if◌then◌else◌, List, [], ◌++◌, map, take, length, slice_get}
use Rattle.std.specs.Option.{option_map, option_map_or, option_to_list}
use Rattle.uv_num.specs.declared.limits.TheConstants.{PACKET_PAYLOAD}
use Rattle.uv_packet.specs.declared.packet.Packet.{Packet}
use Rattle.uv_packet.specs.Packets.{Content}
use Rattle.uv_qp.specs.declared.state.Requester.{Requester}
use Rattle.uv_qp.specs.declared.turns.TurnDone.{TurnDone}
use Rattle.uv_qp.specs.declared.turns.TurnDone.TheVariants.{Turned, Idle, NoMemory}
use Rattle.uv_qp.specs.declared.turns.TurnWord.{TurnWord}
use Rattle.uv_qp.specs.declared.turns.TurnWord.TheVariants as word
use Rattle.uv_qp.specs.Pairs.{Paired, packets_waiting, IsRequesting}
use Rattle.uv_qp.specs.Pieces.{pieces}
use Rattle.uv_qp.specs.Writers.{broken, send_completed, send_completion, with_requester}
use Rattle.uv_region.specs.declared.action.Access.TheVariants.{LocalWrite}
use Rattle.uv_region.specs.declared.piece.Piece.{Piece}
use Rattle.uv_region.specs.Lent.{Lent, StaysKnown}
use Rattle.uv_region.specs.Several.{lent_allows_all, lent_written, with_rooms_for, writes_of}
use Rattle.uv_wr.specs.declared.completion.Completion.{Completion}
use Rattle.uv_wr.specs.declared.completion.Status.{Status}
use Rattle.uv_wr.specs.declared.completion.Status.TheVariants.{LocProtErr, Success}
use Rattle.uv_wr.specs.declared.work.Sge.{Sge}
use Rattle.uv_wr.specs.Statuses.{is_failure}
use Rattle.uv_wr.specs.Works.{Sending}
use Rattle.uv_completer.specs.declared.judging.Upshot.{Upshot}
use Rattle.uv_completer.specs.declared.judging.Upshot.TheVariants.{Ignored, Moves, Breaks, Fills}
use Rattle.uv_completer.specs.Upshots.{una_at, upshot_of}

-- what is told of a response, and the queue pair after it
pub record ReplyMade : Type 0 where
  pub word : TurnWord
  pub completions : List Completion
  pub pair : Paired

abbrev pub ignored : Paired → ReplyMade
ignored p = record { word = word.Ignored; completions = []; pair = p }

-- the oldest sends succeed, so many of them

abbrev pub succeeded : Paired → ℕ → Paired
succeeded p zero = p
succeeded p (suc n) = send_completed (succeeded p n) Success

abbrev pub successes : Paired → ℕ → List Completion
successes p n = map (send_completion p.names Success) (take n p.sends.works)

abbrev pub went_on : TurnWord → ℕ → Requester → Paired → ReplyMade
went_on word works r p = record {
  word = word;
  completions = successes p works;
  pair = succeeded (with_requester p r) works;
}

-- and then the next one ends with a status that breaks the queue pair. What is after it is left to be flushed

abbrev pub failure_at : Paired → ℕ → Status → List Completion
failure_at p place status = option_to_list (option_map (send_completion p.names status) (slice_get p.sends.works place))

abbrev pub broke_at : TurnWord → ℕ → Requester → Status → Paired → ReplyMade
broke_at word works r status p = record {
  word = word;
  completions = successes p works ++ failure_at p works status;
  pair = send_completed (broken (succeeded (with_requester p r) works)) status;
}

-- bytes of a read are written to its parts, or it ends where a region isn't there or refuses them

abbrev pub sending_parts : Sending → List Sge
sending_parts w = w.parts

abbrev pub parts_at : Paired → ℕ → List Sge
parts_at p place = option_map_or sending_parts (slice_get p.sends.works place) []

abbrev pub may_fill : Paired → Lent → List Piece → Bool
may_fill p lent found = lent_allows_all lent LocalWrite p.names.domain found

abbrev pub lent_filled : Paired → Lent → List Piece → List ℕ → Lent
lent_filled p lent found bytes = lent_written (with_rooms_for lent found) LocalWrite p.names.object p.names.domain (writes_of found bytes)

-- the works that end with a response: those before the read, and the read itself by its last response
abbrev pub ended_by_response : ℕ → Bool → ℕ
ended_by_response older last = if last then older + 1 else older

abbrev pub filled : Paired → ℕ → ℕ → Bool → ReplyMade
filled p at older last = went_on word.Response (ended_by_response older last) (una_at p.requester (at + 1)) p

abbrev pub fill_refused : Paired → ℕ → ℕ → ReplyMade
fill_refused p at older = broke_at word.Response older (una_at p.requester at) LocProtErr p

abbrev pub fill_made : Paired → Lent → ℕ → ℕ → Bool → List Piece → ReplyMade
fill_made p lent at older last found = if may_fill p lent found then filled p at older last else fill_refused p at older

abbrev pub lent_by_fill : Paired → Lent → List Piece → List ℕ → Lent
lent_by_fill p lent found bytes = if may_fill p lent found then lent_filled p lent found bytes else lent

-- by what a response comes to

abbrev pub reply_made_by : Upshot → List ℕ → Paired → Lent → ReplyMade
reply_made_by Ignored bytes p lent = ignored p
reply_made_by (Moves word works r) bytes p lent = went_on word works r p
reply_made_by (Breaks word works r status) bytes p lent = broke_at word works r status p
reply_made_by (Fills at older from last) bytes p lent = fill_made p lent at older last (pieces (parts_at p older) from (length bytes))

abbrev pub lent_by_upshot : Upshot → List ℕ → Paired → Lent → Lent
lent_by_upshot Ignored bytes p lent = lent
lent_by_upshot (Moves word works r) bytes p lent = lent
lent_by_upshot (Breaks word works r status) bytes p lent = lent
lent_by_upshot (Fills at older from last) bytes p lent = lent_by_fill p lent (pieces (parts_at p older) from (length bytes)) bytes

abbrev pub reply_made : Content → Paired → Lent → ReplyMade
reply_made c p lent = reply_made_by (upshot_of c p) c.payload p lent

abbrev pub lent_by_reply : Content → Paired → Lent → Lent
lent_by_reply c p lent = lent_by_upshot (upshot_of c p) c.payload p lent

-- what it may come to: works that are there end, the places of the requester stay in order, and so many bytes of a read fit a
-- packet
abbrev pub MayCarryOut : Paired → ℕ → Upshot → Type 0
MayCarryOut p size Ignored = Unit {0}
MayCarryOut p size (Moves word works r) = (works ≤ length p.sends.works) × IsRequesting r (packets_waiting p)
MayCarryOut p size (Breaks word works r status) =
    (works < length p.sends.works) × IsRequesting r (packets_waiting p) × (is_failure status ≡ true)
MayCarryOut p size (Fills at older from last) =
    (older < length p.sends.works) × (at < p.requester.high) × (size ≤ PACKET_PAYLOAD)

-- what is told is what was made. No packet goes out
pub record IsReplyMade (m : ReplyMade) (told : TurnWord) (to : ℕ) (packets : List Packet) (completions : List Completion) (q : Paired) : Type 0 where
  pub word_is : told ≡ m.word
  pub nowhere : to ≡ 0
  pub no_packets : packets ≡ []
  pub completions_are : completions ≡ m.completions
  pub pair_is : q ≡ m.pair

-- what the answer of a turn says: this was made, or memory ran out, and nothing has changed
abbrev pub ReplyGives : Paired → ReplyMade → TurnDone → Paired → Type 0
ReplyGives p m (Turned told to packets completions) q = IsReplyMade m told to packets completions q
ReplyGives p m Idle q = ⊥
ReplyGives p m NoMemory q = q ≡ p

-- what becomes of the regions that are lent to a turn, which makes them so: where memory runs out, nothing that counts
abbrev pub FillGives : Lent → Lent → TurnDone → Lent → Type 0
FillGives lent made (Turned told to packets completions) after = after ≡ made
FillGives lent made Idle after = ⊥
FillGives lent made NoMemory after = StaysKnown lent after
