-- What stands in the bytes of a packet is the packet, field by field, whatever stands where nothing has a meaning.
use Rattle.std.proofs.Common.{◌≡◌, ℕ, ◌+◌, ◌-◌, ◌*◌, ◌/◌, ◌%◌, ◌^◌, ◌<◌, Bool, true, false, cond, List, [], ◌∷◌, ◌++◌, length, take, drop, Option, Some, None, Result, Ok, Err, refl, sym, ap, subst, ◌∙◌, append_assoc, length-append, arith}
use Rattle.std.specs.Prelude.{not, ◌&&◌, ◌==◌, nat_lt, if◌then◌else◌, is_some, is_none, IfSome, IsSomeAnd, IfOk, IfErr, MatchResult, unwrap_or, slice_index}
use Rattle.std.specs.Option.{option_map_or}
use Rattle.std.proofs.lemmas.Bool.{le-ltb, eq-eqb, or_from}
use Rattle.std.proofs.lemmas.List.{drop-drop, drop_at, take_at, get_or-drop, length-replicate}
use Rattle.std.proofs.lemmas.Option.{cond_some, same_Some}
use Rattle.byteorder.specs.Endian.{big_bytes, big_number}
use Rattle.byteorder.specs.Numbers.{big_number-reads_back}
use Rattle.uv_packet.specs.declared.fault.PacketFault.{PacketFault}
use Rattle.uv_packet.specs.declared.fault.PacketFault.TheVariants.{Short, Version, Opcode, Pad, Length, NoMemory}
use Rattle.uv_packet.specs.declared.headers.Headers.{Headers}
use Rattle.uv_packet.specs.declared.packet.Aeth.{Aeth}
use Rattle.uv_packet.specs.declared.packet.Deth.{Deth}
use Rattle.uv_packet.specs.declared.packet.Packet.{Packet}
use Rattle.uv_packet.specs.declared.packet.Reth.{Reth}
use Rattle.uv_packet.specs.Fields.{field}
use Rattle.uv_packet.specs.Opcodes.{headers_of, payload_alone}
use Rattle.uv_packet.specs.Places.{bytes_if, aeth_from, deth_from, imm_from, ieth_from, payload_from}
use Rattle.uv_packet.specs.Packets.{Content, content_of, Ignored, pad_of, bth_bytes, reth_bytes, aeth_bytes, deth_bytes, word_bytes, headers_bytes, spelling, bytes_of, zeros, HasHeaders, IsPacketValue, RethFits, ContentFits, IsPacket}
use Rattle.uv_packet.specs.Reading.{dest_at, pad_at, reth_at, aeth_at, deth_at, word_at, reth_in, aeth_in, deth_in, imm_in, ieth_in, payload_in, content_in, headers_at, content_at}
use Rattle.uv_packet.specs.Refusal.{rest_at, is_short, is_versioned, is_unknown, is_overpadded, is_misfit, refusal_of, packet_of}

-- ---- options

pub at_some : {A : Type 0} (o : Option A) (P : A → Type 0) (x : A) → IfSome o P → o ≡ Some x → P x
at_some None P x h e = absurd cc
at_some (Some a) P x h e = subst P (same_Some a x e) h

pub none_is : {A : Type 0} (o : Option A) → is_none o ≡ true → o ≡ None
none_is None e = refl
none_is (Some x) e = absurd cc

some_and : {A : Type 0} (o : Option A) (P : A → Type 0) → IsSomeAnd o P → (x : A) × (o ≡ Some x) × P x
some_and None P h = absurd h
some_and (Some a) P h = (a, refl, h)

-- what is read where a header is, is that header
given : {A : Type 0} (o : Option A) (has : Bool) (x : A) → is_some o ≡ has → ((a : A) → o ≡ Some a → x ≡ a) → cond has (Some x) None ≡ o
given None true x e same = absurd cc
given None false x e same = refl
given (Some a) true x e same = ap (λ v. Some v) (same a refl)
given (Some a) false x e same = absurd cc

length_given : {A : Type 0} (f : A → List ℕ) (k : ℕ) → ((a : A) → length (f a) ≡ k) → (o : Option A) (has : Bool) → is_some o ≡ has → length (option_map_or f o []) ≡ bytes_if has k
length_given f k len None true e = absurd cc
length_given f k len None false e = refl
length_given f k len (Some a) true e = len a
length_given f k len (Some a) false e = absurd cc

-- ---- places

-- the rest stands behind so many bytes
pub record Stands (at : ℕ) (bytes rest : List ℕ) : Type 0 where
  pub behind : drop at bytes ≡ rest
  pub count : length bytes ≡ at + length rest

stands-more : (at k : ℕ) (bytes part rest : List ℕ) → Stands at bytes (part ++ rest) → length part ≡ k → Stands (at + k) bytes rest
stands-more at k bytes part rest s e = record {
  behind = sym (drop-drop k at bytes) ∙ ap (drop k) s.behind ∙ drop_at part rest k e;
  count = omega (arith, s.count, length-append part rest, e);
}

-- a number that was put at a place is read there
number_read : (size at x : ℕ) (bytes rest : List ℕ) → drop at bytes ≡ big_bytes size x ++ rest → x < 256 ^ size → field size at bytes ≡ x
unfolding field
number_read size at x bytes rest e fits = ap (big_number size) e ∙ big_number-reads_back size x rest fits

-- the same some bytes behind the place
number_behind : (size at k x : ℕ) (bytes all rest : List ℕ) → drop at bytes ≡ all → drop k all ≡ big_bytes size x ++ rest → x < 256 ^ size → field size (at + k) bytes ≡ x
number_behind size at k x bytes all rest e f fits = number_read size (at + k) x bytes rest (sym (drop-drop k at bytes) ∙ ap (drop k) e ∙ f) fits

byte_read : (at x : ℕ) (bytes rest : List ℕ) → drop at bytes ≡ x ∷ rest → slice_index bytes at ≡ x
byte_read at x bytes rest e =
    let here : at ≡ at + 0 = omega arith in
    ap (slice_index bytes) here ∙ sym (get_or-drop at bytes 0 0) ∙ ap (λ (v : List ℕ). slice_index v 0) e

-- ---- headers

reth_read : (at : ℕ) (bytes rest : List ℕ) (r : Reth) → drop at bytes ≡ reth_bytes r ++ rest → RethFits r → reth_at at bytes ≡ r
reth_read at bytes rest r e fits =
    let all : List ℕ = reth_bytes r ++ rest in
    let first = number_read 8 at r.at bytes (drop 8 all) e fits.at in
    let key = number_behind 4 at 8 r.key bytes all (drop 12 all) e refl fits.key in
    let len = number_behind 4 at 12 r.length bytes all rest e refl fits.length in
    λ j. record { at = first j; key = key j; length = len j }

aeth_read : (at : ℕ) (bytes rest : List ℕ) (a : Aeth) → drop at bytes ≡ aeth_bytes a ++ rest → a.msn < 2 ^ 24 → aeth_at at bytes ≡ a
aeth_read at bytes rest a e fits =
    let all : List ℕ = aeth_bytes a ++ rest in
    let syndrome = byte_read at a.syndrome bytes (drop 1 all) e in
    let msn = number_behind 3 at 1 a.msn bytes all rest e refl fits in
    λ j. record { syndrome = syndrome j; msn = msn j }

deth_read : (at reserved : ℕ) (bytes rest : List ℕ) (d : Deth) → drop at bytes ≡ deth_bytes reserved d ++ rest → d.qkey < 2 ^ 32 → d.source < 2 ^ 24 → deth_at at bytes ≡ d
deth_read at reserved bytes rest d e fits below =
    let all : List ℕ = deth_bytes reserved d ++ rest in
    let qkey = number_read 4 at d.qkey bytes (drop 4 all) e fits in
    let source = number_behind 3 at 5 d.source bytes all rest e refl below in
    λ j. record { qkey = qkey j; source = source j }

-- ---- flags

pad-below : (n : ℕ) → pad_of n < 4
pad-below n = omega arith

not_one : (n : ℕ) → n ≡ 0 → (n == 1) ≡ false
not_one n e = ap (λ (k : ℕ). k == 1) e

solicited_again : (s m : Bool) (k : ℕ) → k < 4 → (((if s then 128 else 0) + (if m then 64 else 0) + 16 * k) / 128 % 2 == 1) ≡ s
solicited_again true true k lt = eq-eqb _ _ (omega arith)
solicited_again true false k lt = eq-eqb _ _ (omega arith)
solicited_again false true k lt = not_one _ (omega arith)
solicited_again false false k lt = not_one _ (omega arith)

migrated_again : (s m : Bool) (k : ℕ) → k < 4 → (((if s then 128 else 0) + (if m then 64 else 0) + 16 * k) / 64 % 2 == 1) ≡ m
migrated_again true true k lt = eq-eqb _ _ (omega arith)
migrated_again true false k lt = not_one _ (omega arith)
migrated_again false true k lt = eq-eqb _ _ (omega arith)
migrated_again false false k lt = not_one _ (omega arith)

pad_again : (s m : Bool) (k : ℕ) → k < 4 → ((if s then 128 else 0) + (if m then 64 else 0) + 16 * k) / 16 % 4 ≡ k
pad_again true true k lt = omega arith
pad_again true false k lt = omega arith
pad_again false true k lt = omega arith
pad_again false false k lt = omega arith

version_again : (s m : Bool) (k : ℕ) → k < 4 → ((if s then 128 else 0) + (if m then 64 else 0) + 16 * k) % 16 ≡ 0
version_again true true k lt = omega arith
version_again true false k lt = omega arith
version_again false true k lt = omega arith
version_again false false k lt = omega arith

ack_again : (a : Bool) (low : ℕ) → low < 128 → ((if a then 128 + low else low) / 128 % 2 == 1) ≡ a
ack_again true low lt = eq-eqb _ _ (omega arith)
ack_again false low lt = not_one _ (omega arith)

-- ---- the packet

not_empty : (payload : Bool) (n pad : ℕ) (content : List ℕ) → length content ≡ n → pad ≡ pad_of n → (payload ≡ false → content ≡ []) → (not payload && not (n + pad == 0)) ≡ false
not_empty true n pad content len e none = refl
not_empty false n pad content len e none =
    let empty : n ≡ 0 = sym len ∙ ap length (none refl) in
    let both : (n + pad == 0) ≡ true = eq-eqb _ _ (omega arith) in
    ap not both

module _ (p : Content) (i : Ignored) (h : Headers) (known : headers_of p.opcode ≡ Some h) (has : HasHeaders h p) (value : IsPacketValue p) (fits : ContentFits p) (low : i.below_ack < 2 ^ 7) (filled : length i.pad ≡ pad_of (length p.payload)) where
  abbrev bytes : List ℕ
  bytes = spelling i p

  abbrev part_reth : List ℕ
  part_reth = option_map_or reth_bytes p.reth []

  abbrev part_aeth : List ℕ
  part_aeth = option_map_or aeth_bytes p.aeth []

  abbrev part_deth : List ℕ
  part_deth = option_map_or (deth_bytes i.before_source) p.deth []

  abbrev part_imm : List ℕ
  part_imm = option_map_or word_bytes p.imm []

  abbrev part_ieth : List ℕ
  part_ieth = option_map_or word_bytes p.ieth []

  abbrev rest : List ℕ
  rest = p.payload ++ i.pad

  abbrev from_ieth : List ℕ
  from_ieth = part_ieth ++ rest

  abbrev from_imm : List ℕ
  from_imm = part_imm ++ from_ieth

  abbrev from_deth : List ℕ
  from_deth = part_deth ++ from_imm

  abbrev from_aeth : List ℕ
  from_aeth = part_aeth ++ from_deth

  abbrev from_reth : List ℕ
  from_reth = part_reth ++ from_aeth

  regrouped : headers_bytes i p ++ rest ≡ from_reth
  regrouped = simp append_assoc

  at-reth : Stands 12 bytes from_reth
  at-reth = record { behind = regrouped; count = ap (λ (v : List ℕ). length (bth_bytes i p ++ v)) regrouped ∙ length-append (bth_bytes i p) from_reth }

  at-aeth : Stands (aeth_from h) bytes from_aeth
  at-aeth = stands-more 12 (bytes_if h.reth 16) bytes part_reth from_aeth at-reth (length_given reth_bytes 16 (λ a. refl) p.reth h.reth has.reth)

  at-deth : Stands (deth_from h) bytes from_deth
  at-deth = stands-more (aeth_from h) (bytes_if h.aeth 4) bytes part_aeth from_deth at-aeth (length_given aeth_bytes 4 (λ a. refl) p.aeth h.aeth has.aeth)

  at-imm : Stands (imm_from h) bytes from_imm
  at-imm = stands-more (deth_from h) (bytes_if h.deth 8) bytes part_deth from_imm at-deth (length_given (deth_bytes i.before_source) 8 (λ a. refl) p.deth h.deth has.deth)

  at-ieth : Stands (ieth_from h) bytes from_ieth
  at-ieth = stands-more (imm_from h) (bytes_if h.imm 4) bytes part_imm from_ieth at-imm (length_given word_bytes 4 (λ a. refl) p.imm h.imm has.imm)

  at-payload : Stands (payload_from h) bytes rest
  at-payload = stands-more (ieth_from h) (bytes_if h.ieth 4) bytes part_ieth rest at-ieth (length_given word_bytes 4 (λ a. refl) p.ieth h.ieth has.ieth)

  reth_again : reth_in h bytes ≡ p.reth
  reth_again =
      given p.reth h.reth (reth_at 12 bytes) has.reth
      (λ r e. reth_read 12 bytes from_aeth r (at-reth.behind ∙ ap (λ (o : Option Reth). option_map_or reth_bytes o [] ++ from_aeth) e) (at_some p.reth RethFits r fits.reth e))

  aeth_again : aeth_in h bytes ≡ p.aeth
  aeth_again =
      given p.aeth h.aeth (aeth_at (aeth_from h) bytes) has.aeth
      (λ a e. aeth_read (aeth_from h) bytes from_deth a (at-aeth.behind ∙ ap (λ (o : Option Aeth). option_map_or aeth_bytes o [] ++ from_deth) e) (at_some p.aeth (λ (x : Aeth). x.msn < 2 ^ 24) a value.msn e))

  deth_again : deth_in h bytes ≡ p.deth
  deth_again =
      given p.deth h.deth (deth_at (deth_from h) bytes) has.deth
      (λ d e. deth_read (deth_from h) i.before_source bytes from_imm d (at-deth.behind ∙ ap (λ (o : Option Deth). option_map_or (deth_bytes i.before_source) o [] ++ from_imm) e) (at_some p.deth (λ (x : Deth). x.qkey < 2 ^ 32) d fits.qkey e) (at_some p.deth (λ (x : Deth). x.source < 2 ^ 24) d value.source e))

  imm_again : imm_in h bytes ≡ p.imm
  imm_again =
      given p.imm h.imm (word_at (imm_from h) bytes) has.imm
      (λ n e. number_read 4 (imm_from h) n bytes from_ieth (at-imm.behind ∙ ap (λ (o : Option ℕ). option_map_or word_bytes o [] ++ from_ieth) e) (at_some p.imm (λ (x : ℕ). x < 2 ^ 32) n fits.imm e))

  ieth_again : ieth_in h bytes ≡ p.ieth
  ieth_again =
      given p.ieth h.ieth (word_at (ieth_from h) bytes) has.ieth
      (λ n e. number_read 4 (ieth_from h) n bytes rest (at-ieth.behind ∙ ap (λ (o : Option ℕ). option_map_or word_bytes o [] ++ rest) e) (at_some p.ieth (λ (x : ℕ). x < 2 ^ 32) n fits.ieth e))

  pad_is : pad_at bytes ≡ length i.pad
  pad_is = pad_again p.solicited p.migrated (pad_of (length p.payload)) (pad-below (length p.payload)) ∙ sym filled

  payload_again : payload_in h bytes ≡ p.payload
  payload_again =
      let count : length bytes - payload_from h - pad_at bytes ≡ length p.payload = omega (arith, at-payload.count, length-append p.payload i.pad, pad_is) in
      ap (λ (n : ℕ). take n (drop (payload_from h) bytes)) count ∙ ap (take (length p.payload)) at-payload.behind ∙ take_at p.payload i.pad (length p.payload) refl

  content_again : content_in h bytes ≡ p
  content_again =
      let k : ℕ = pad_of (length p.payload) in
      let lt : k < 4 = pad-below (length p.payload) in
      let solicited = solicited_again p.solicited p.migrated k lt in
      let migrated = migrated_again p.solicited p.migrated k lt in
      let pkey = number_read 2 2 p.pkey bytes (drop 4 bytes) refl fits.pkey in
      let dest = number_read 3 5 p.dest bytes (drop 8 bytes) refl value.dest in
      let ack = ack_again p.ack i.below_ack low in
      let psn = number_read 3 9 p.psn bytes (drop 12 bytes) refl value.psn in
      λ j. record { opcode = p.opcode; solicited = solicited j; migrated = migrated j; pkey = pkey j; dest = dest j; ack = ack j; psn = psn j; reth = reth_again j; aeth = aeth_again j; imm = imm_again j; ieth = ieth_again j; deth = deth_again j; payload = payload_again j }

  headers_again : headers_at bytes ≡ h
  headers_again = ap (λ (o : Option Headers). unwrap_or o payload_alone) known

  rest_again : rest_at bytes ≡ length p.payload + length i.pad
  rest_again = ap (λ (k : Headers). length bytes - payload_from k) headers_again ∙ omega (arith, at-payload.count, length-append p.payload i.pad)

  not_short : is_short bytes ≡ false
  not_short =
      or_from _ _ (le-ltb (length bytes) 12 (omega (arith, at-reth.count)))
      (ap (λ (k : Headers). nat_lt (length bytes) (payload_from k)) headers_again ∙ le-ltb (length bytes) (payload_from h) (omega (arith, at-payload.count)))

  not_versioned : is_versioned bytes ≡ false
  not_versioned = ap (λ (n : ℕ). not (n == 0)) (version_again p.solicited p.migrated (pad_of (length p.payload)) (pad-below (length p.payload)))

  not_unknown : is_unknown bytes ≡ false
  not_unknown = ap (λ (o : Option Headers). is_none o) known

  not_overpadded : is_overpadded bytes ≡ false
  not_overpadded = le-ltb (rest_at bytes) (pad_at bytes) (omega (arith, rest_again, pad_is))

  not_misfit : is_misfit bytes ≡ false
  not_misfit =
      let whole : (rest_at bytes % 4 == 0) ≡ true = eq-eqb _ _ (omega (arith, rest_again, filled)) in
      let few : nat_lt 4096 (rest_at bytes - pad_at bytes) ≡ false = le-ltb 4096 (rest_at bytes - pad_at bytes) (omega (arith, rest_again, pad_is, value.payload)) in
      let none : (not (headers_at bytes).payload && not (rest_at bytes == 0)) ≡ false = ap (λ (k : Headers). not k.payload && not (rest_at bytes == 0)) headers_again ∙ ap (λ (n : ℕ). not h.payload && not (n == 0)) rest_again ∙ not_empty h.payload (length p.payload) (length i.pad) p.payload refl filled has.payload in
      or_from _ _ (or_from _ _ (ap not whole) few) none

  not_refused : refusal_of bytes ≡ None
  not_refused = λ j. cond (not_short j) (Some Short) (cond (not_versioned j) (Some Version) (cond (not_unknown j) (Some Opcode) (cond (not_overpadded j) (Some Pad) (cond (not_misfit j) (Some Length) None))))

  spelled_again : packet_of bytes ≡ Some p
  spelled_again =
      let content : content_at bytes ≡ p = ap (λ (k : Headers). content_in k bytes) headers_again ∙ content_again in
      ap (λ (o : Option PacketFault). cond (is_none o) (Some (content_at bytes)) None) not_refused ∙ ap (λ (c : Content). Some c) content

pub packet_again : (bytes : List ℕ) (p : Content) → IsPacket bytes p → packet_of bytes ≡ Some p
packet_again bytes p is =
    let h = some_and (headers_of p.opcode) (λ (k : Headers). HasHeaders k p) is.value.headed in
    ap packet_of is.spelled ∙ spelled_again p is.ignored h.0 h.1 h.2 is.value is.fits is.below_ack is.pad

pub written_is_packet : (p : Content) → IsPacketValue p → ContentFits p → IsPacket (bytes_of p) p
written_is_packet p value fits = record { ignored = zeros p; below_ack = omega arith; pad = length-replicate (pad_of (length p.payload)) 0; spelled = refl; value = value; fits = fits }

-- the same of what was written
pub written_bytes_are_packet : (bytes : List ℕ) (p : Content) → bytes ≡ bytes_of p → IsPacketValue p → ContentFits p → IsPacket bytes p
written_bytes_are_packet bytes p e value fits = subst (λ (v : List ℕ). IsPacket v p) (sym e) (written_is_packet p value fits)

pub written_again : (p : Content) → IsPacketValue p → ContentFits p → packet_of (bytes_of p) ≡ Some p
written_again p value fits = packet_again (bytes_of p) p (written_is_packet p value fits)

pub one_reading : (bytes : List ℕ) (p q : Content) → IsPacket bytes p → IsPacket bytes q → p ≡ q
one_reading bytes p q p-is q-is = same_Some p q (sym (packet_again bytes p p-is) ∙ packet_again bytes q q-is)

-- the same of what a function answered
pub answer_is_read : (bytes : List ℕ) (r : Result Packet PacketFault) → (refusal_of bytes ≡ None → IfErr r (λ fault. fault ≡ NoMemory)) → IfOk r (λ packet. packet_of bytes ≡ Some (content_of packet)) → (p : Content) → IsPacket bytes p → MatchResult r (λ packet. content_of packet ≡ p) (λ fault. fault ≡ NoMemory)
answer_is_read bytes (Ok packet) memory read p is = same_Some (content_of packet) p (sym read ∙ packet_again bytes p is)
answer_is_read bytes (Err fault) memory read p is =
    memory (none_is (refusal_of bytes) (cond_some (is_none (refusal_of bytes)) (content_at bytes) p (packet_again bytes p is)).0)

-- the queue pair that is told is the packet's
dest_told : (b : Bool) (q p : Content) → (if b then Some q else None) ≡ Some p → q.dest ≡ p.dest
dest_told true q p is = let same : q ≡ p = cc in ap (λ (c : Content). c.dest) same
dest_told false q p is = cc

pub dest_read : (bytes : List ℕ) (p : Content) → packet_of bytes ≡ Some p → dest_at bytes ≡ p.dest
dest_read bytes p is = dest_told (is_none (refusal_of bytes)) (content_at bytes) p is
