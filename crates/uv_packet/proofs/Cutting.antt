-- Bytes that no fault refuses are spelled as the packet that is read from them: the headers are cut from the front,
-- number by number.
use Rattle.std.proofs.Common.{◌≡◌, ℕ, zero, suc, ◌+◌, ◌-◌, ◌*◌, ◌/◌, ◌%◌, ◌^◌, ◌<◌, ◌≤◌, Bool, true, false, cond, List, [], ◌∷◌, ◌++◌, length, get_or, take, drop, Option, Some, None, Result, Ok, Err, refl, sym, ap, subst, ◌∙◌, append_assoc, length-drop, arith, inl, inr}
use Rattle.std.specs.Prelude.{not, ◌||◌, ◌&&◌, ◌==◌, nat_lt, if◌then◌else◌, is_some, is_none, IfSome, IsSomeAnd, IfOk, unwrap_or, slice_index}
use Rattle.std.specs.Option.{option_map_or}
use Rattle.std.proofs.lemmas.Bool.{cases_lt, ltb-false, eqb-true, not-false, or_parts}
use Rattle.std.proofs.lemmas.List.{take-append-drop, length-take, get_or-take, get_or-drop, get_or_past, drop-drop, drop_more, nil_from_length}
use Rattle.std.proofs.lemmas.Nat.{be_bytes_2, be_bytes_4, be_bytes_8}
use Rattle.std.proofs.lemmas.Option.{cond_some}
use Rattle.byteorder.specs.Endian.{big_bytes, big_number}
use Rattle.byteorder.specs.Numbers.{big_from-take, big_from-lt}
use Rattle.uv_packet.specs.declared.fault.PacketFault.{PacketFault}
use Rattle.uv_packet.specs.declared.fault.PacketFault.TheVariants.{Short, Version, Opcode, Pad, Length}
use Rattle.uv_packet.specs.declared.headers.Headers.{Headers}
use Rattle.uv_packet.specs.declared.packet.Aeth.{Aeth}
use Rattle.uv_packet.specs.declared.packet.Deth.{Deth}
use Rattle.uv_packet.specs.declared.packet.Packet.{Packet}
use Rattle.uv_packet.specs.declared.packet.Reth.{Reth}
use Rattle.uv_packet.specs.Fields.{field}
use Rattle.uv_packet.specs.Opcodes.{headers_of, payload_alone}
use Rattle.uv_packet.specs.Places.{bytes_if, reth_from, aeth_from, deth_from, imm_from, ieth_from, payload_from}
use Rattle.uv_packet.specs.Packets.{Content, content_of, Ignored, pad_of, flags_of, ack_byte, bth_bytes, reth_bytes, aeth_bytes, deth_bytes, word_bytes, headers_bytes, spelling, HasHeaders, IsPacketValue, RethFits, ContentFits, IsPacket}
use Rattle.uv_packet.specs.Reading.{opcode_at, flags_at, solicited_at, migrated_at, pad_at, version_at, pkey_at, dest_at, reth_at, aeth_at, deth_at, word_at, headers_at, content_at}
use Rattle.uv_packet.proofs.Again.{none_is}
use Rattle.uv_packet.specs.Refusal.{rest_at, is_short, is_versioned, is_unknown, is_overpadded, is_misfit, refusal_of, packet_of}

abbrev pub IsBytes : List ℕ → Type 0
IsBytes bytes = (i : ℕ) → get_or bytes i 0 < 256

IsBytes-drop : (n : ℕ) (bytes : List ℕ) → IsBytes bytes → IsBytes (drop n bytes)
IsBytes-drop n bytes h i = rw get_or-drop (h (n + i))

IsBytes-take : (n : ℕ) (bytes : List ℕ) → IsBytes bytes → IsBytes (take n bytes)
IsBytes-take n bytes h i =
    elim (cases_lt i n) [
      | inl lt ↦ rw (get_or-take n bytes i 0 lt) (h i)
      | inr le ↦ rw (get_or_past (take n bytes) i 0 (omega (arith, length-take n bytes))) (omega arith)
    ]

IsBytes-cons : (b : ℕ) (bytes : List ℕ) → b < 256 → IsBytes bytes → IsBytes (b ∷ bytes)
IsBytes-cons b bytes lt h zero = lt
IsBytes-cons b bytes lt h (suc i) = h i

-- ---- numbers

-- so many bytes are those of the number that they are
abbrev IsSpelled : ℕ → Type 0
IsSpelled size = (bytes : List ℕ) → length bytes ≡ size → IsBytes bytes → big_bytes size (big_number size bytes) ≡ bytes

spelled-2 : IsSpelled 2
spelled-2 bytes len fits = be_bytes_2 bytes (big_number 2 bytes) len fits (omega arith)

spelled-4 : IsSpelled 4
spelled-4 bytes len fits = be_bytes_4 bytes (big_number 4 bytes) len fits (omega arith)

spelled-8 : IsSpelled 8
spelled-8 bytes len fits = be_bytes_8 bytes (big_number 8 bytes) len fits (omega arith)

spelled-3 : IsSpelled 3
spelled-3 bytes len fits =
    let wide = be_bytes_4 (0 ∷ bytes) (big_number 3 bytes) (omega (arith, len)) (IsBytes-cons 0 bytes (omega arith) fits) (omega arith) in
    ap (drop 1) wide

-- the number at the front, and what stands behind it
cut : (size : ℕ) → IsSpelled size → (bytes : List ℕ) → IsBytes bytes → size ≤ length bytes → bytes ≡ big_bytes size (big_number size bytes) ++ drop size bytes
cut size spelled bytes fits long =
    let same : big_number size (take size bytes) ≡ big_number size bytes = big_from-take 0 size size bytes (omega arith) in
    let front = spelled (take size bytes) (omega (arith, length-take size bytes)) (IsBytes-take size bytes fits) in
    sym (ap (λ (v : List ℕ). v ++ drop size bytes) (ap (big_bytes size) (sym same) ∙ front) ∙ take-append-drop size bytes)

-- the same at a place
cut_at : (size : ℕ) → IsSpelled size → (at : ℕ) (bytes : List ℕ) → IsBytes bytes → at + size ≤ length bytes → drop at bytes ≡ big_bytes size (field size at bytes) ++ drop (at + size) bytes
unfolding field
cut_at size spelled at bytes fits long =
    cut size spelled (drop at bytes) (IsBytes-drop at bytes fits) (omega (arith, length-drop at bytes)) ∙ ap (λ (v : List ℕ). big_bytes size (big_number size (drop at bytes)) ++ v) (drop-drop size at bytes)

byte_cut : (at : ℕ) (bytes : List ℕ) → at < length bytes → drop at bytes ≡ slice_index bytes at ∷ drop (at + 1) bytes
byte_cut at bytes lt = drop_more bytes at 0 lt

-- ---- headers at the front

reth_cut : (bytes : List ℕ) → IsBytes bytes → 16 ≤ length bytes → bytes ≡ reth_bytes (reth_at 0 bytes) ++ drop 16 bytes
reth_cut bytes fits long =
    let r : Reth = reth_at 0 bytes in
    cut_at 8 spelled-8 0 bytes fits (omega arith)
    ∙ ap (λ (v : List ℕ). big_bytes 8 r.at ++ v) (cut_at 4 spelled-4 8 bytes fits (omega arith)
    ∙ ap (λ (v : List ℕ). big_bytes 4 r.key ++ v) (cut_at 4 spelled-4 12 bytes fits (omega arith)))

aeth_cut : (bytes : List ℕ) → IsBytes bytes → 4 ≤ length bytes → bytes ≡ aeth_bytes (aeth_at 0 bytes) ++ drop 4 bytes
aeth_cut bytes fits long =
    let a : Aeth = aeth_at 0 bytes in
    byte_cut 0 bytes (omega arith) ∙ ap (λ (v : List ℕ). a.syndrome ∷ v) (cut_at 3 spelled-3 1 bytes fits (omega arith))

deth_cut : (bytes : List ℕ) → IsBytes bytes → 8 ≤ length bytes → bytes ≡ deth_bytes (slice_index bytes 4) (deth_at 0 bytes) ++ drop 8 bytes
deth_cut bytes fits long =
    let d : Deth = deth_at 0 bytes in
    cut_at 4 spelled-4 0 bytes fits (omega arith)
    ∙ ap (λ (v : List ℕ). big_bytes 4 d.qkey ++ v) (byte_cut 4 bytes (omega arith)
    ∙ ap (λ (v : List ℕ). slice_index bytes 4 ∷ v) (cut_at 3 spelled-3 5 bytes fits (omega arith)))

word_cut : (bytes : List ℕ) → IsBytes bytes → 4 ≤ length bytes → bytes ≡ word_bytes (word_at 0 bytes) ++ drop 4 bytes
word_cut bytes fits long = cut_at 4 spelled-4 0 bytes fits (omega arith)

-- ---- headers at a place are those at the front of what begins there

field_behind : (size at k : ℕ) (bytes : List ℕ) → field size (at + k) bytes ≡ field size k (drop at bytes)
unfolding field
field_behind size at k bytes = ap (big_number size) (sym (drop-drop k at bytes))

byte_behind : (at k : ℕ) (bytes : List ℕ) → slice_index bytes (at + k) ≡ slice_index (drop at bytes) k
byte_behind at k bytes = sym (get_or-drop at bytes k 0)

here : (at : ℕ) → at ≡ at + 0
here at = omega arith

reth_behind : (at : ℕ) (bytes : List ℕ) → reth_at at bytes ≡ reth_at 0 (drop at bytes)
reth_behind at bytes =
    let first = ap (λ (k : ℕ). field 8 k bytes) (here at) ∙ field_behind 8 at 0 bytes in
    let key = field_behind 4 at 8 bytes in
    let len = field_behind 4 at 12 bytes in
    λ j. record { at = first j; key = key j; length = len j }

aeth_behind : (at : ℕ) (bytes : List ℕ) → aeth_at at bytes ≡ aeth_at 0 (drop at bytes)
aeth_behind at bytes =
    let syndrome = ap (slice_index bytes) (here at) ∙ byte_behind at 0 bytes in
    let msn = field_behind 3 at 1 bytes in
    λ j. record { syndrome = syndrome j; msn = msn j }

deth_behind : (at : ℕ) (bytes : List ℕ) → deth_at at bytes ≡ deth_at 0 (drop at bytes)
deth_behind at bytes =
    let qkey = ap (λ (k : ℕ). field 4 k bytes) (here at) ∙ field_behind 4 at 0 bytes in
    let source = field_behind 3 at 5 bytes in
    λ j. record { qkey = qkey j; source = source j }

word_behind : (at : ℕ) (bytes : List ℕ) → word_at at bytes ≡ word_at 0 (drop at bytes)
word_behind at bytes = ap (λ (k : ℕ). field 4 k bytes) (here at) ∙ field_behind 4 at 0 bytes

-- a header that an opcode has is cut off, and one that it hasn't is none
cut_if : {A : Type 0} (f : A → List ℕ) (k : ℕ) (x : A) (has : Bool) (bytes : List ℕ) → (has ≡ true → bytes ≡ f x ++ drop k bytes) → bytes ≡ option_map_or f (cond has (Some x) None) [] ++ drop (bytes_if has k) bytes
cut_if f k x true bytes e = e refl
cut_if f k x false bytes e = refl

reth_part : (has : Bool) (at : ℕ) (bytes : List ℕ) → IsBytes bytes → at + bytes_if has 16 ≤ length bytes → drop at bytes ≡ option_map_or reth_bytes (cond has (Some (reth_at at bytes)) None) [] ++ drop (at + bytes_if has 16) bytes
reth_part has at bytes fits long =
    cut_if reth_bytes 16 (reth_at at bytes) has (drop at bytes)
    (λ e. reth_cut (drop at bytes) (IsBytes-drop at bytes fits) (omega (arith, length-drop at bytes, ap (λ (b : Bool). bytes_if b 16) e))
    ∙ ap (λ (r : Reth). reth_bytes r ++ drop 16 (drop at bytes)) (sym (reth_behind at bytes)))
    ∙ ap (λ (v : List ℕ). option_map_or reth_bytes (cond has (Some (reth_at at bytes)) None) [] ++ v) (drop-drop (bytes_if has 16) at bytes)

aeth_part : (has : Bool) (at : ℕ) (bytes : List ℕ) → IsBytes bytes → at + bytes_if has 4 ≤ length bytes → drop at bytes ≡ option_map_or aeth_bytes (cond has (Some (aeth_at at bytes)) None) [] ++ drop (at + bytes_if has 4) bytes
aeth_part has at bytes fits long =
    cut_if aeth_bytes 4 (aeth_at at bytes) has (drop at bytes)
    (λ e. aeth_cut (drop at bytes) (IsBytes-drop at bytes fits) (omega (arith, length-drop at bytes, ap (λ (b : Bool). bytes_if b 4) e))
    ∙ ap (λ (a : Aeth). aeth_bytes a ++ drop 4 (drop at bytes)) (sym (aeth_behind at bytes)))
    ∙ ap (λ (v : List ℕ). option_map_or aeth_bytes (cond has (Some (aeth_at at bytes)) None) [] ++ v) (drop-drop (bytes_if has 4) at bytes)

deth_part : (has : Bool) (at : ℕ) (bytes : List ℕ) → IsBytes bytes → at + bytes_if has 8 ≤ length bytes → drop at bytes ≡ option_map_or (deth_bytes (slice_index bytes (at + 4))) (cond has (Some (deth_at at bytes)) None) [] ++ drop (at + bytes_if has 8) bytes
deth_part has at bytes fits long =
    cut_if (deth_bytes (slice_index bytes (at + 4))) 8 (deth_at at bytes) has (drop at bytes)
    (λ e. deth_cut (drop at bytes) (IsBytes-drop at bytes fits) (omega (arith, length-drop at bytes, ap (λ (b : Bool). bytes_if b 8) e))
    ∙ ap (λ (r : ℕ). deth_bytes r (deth_at 0 (drop at bytes)) ++ drop 8 (drop at bytes)) (sym (byte_behind at 4 bytes))
    ∙ ap (λ (d : Deth). deth_bytes (slice_index bytes (at + 4)) d ++ drop 8 (drop at bytes)) (sym (deth_behind at bytes)))
    ∙ ap (λ (v : List ℕ). option_map_or (deth_bytes (slice_index bytes (at + 4))) (cond has (Some (deth_at at bytes)) None) [] ++ v) (drop-drop (bytes_if has 8) at bytes)

word_part : (has : Bool) (at : ℕ) (bytes : List ℕ) → IsBytes bytes → at + bytes_if has 4 ≤ length bytes → drop at bytes ≡ option_map_or word_bytes (cond has (Some (word_at at bytes)) None) [] ++ drop (at + bytes_if has 4) bytes
word_part has at bytes fits long =
    cut_if word_bytes 4 (word_at at bytes) has (drop at bytes)
    (λ e. word_cut (drop at bytes) (IsBytes-drop at bytes fits) (omega (arith, length-drop at bytes, ap (λ (b : Bool). bytes_if b 4) e))
    ∙ ap (λ (n : ℕ). word_bytes n ++ drop 4 (drop at bytes)) (sym (word_behind at bytes)))
    ∙ ap (λ (v : List ℕ). option_map_or word_bytes (cond has (Some (word_at at bytes)) None) [] ++ v) (drop-drop (bytes_if has 4) at bytes)

-- ---- flags

flag_if : (n : ℕ) (worth : ℕ) → n < 2 → (if n == 1 then worth else 0) ≡ n * worth
flag_if zero worth lt = omega arith
flag_if (suc zero) worth lt = omega arith
flag_if (suc (suc n)) worth lt = absurd (omega arith)

flags_spelled : (b : ℕ) → b < 256 → b % 16 ≡ 0 → (if b / 128 % 2 == 1 then 128 else 0) + (if b / 64 % 2 == 1 then 64 else 0) + 16 * (b / 16 % 4) ≡ b
flags_spelled b lt none = omega (arith, flag_if (b / 128 % 2) 128 (omega arith), flag_if (b / 64 % 2) 64 (omega arith))

ack_if : (n low : ℕ) → n < 2 → (if n == 1 then 128 + low else low) ≡ n * 128 + low
ack_if zero low lt = omega arith
ack_if (suc zero) low lt = omega arith
ack_if (suc (suc n)) low lt = absurd (omega arith)

ack_spelled : (b : ℕ) → b < 256 → (if b / 128 % 2 == 1 then 128 + b % 128 else b % 128) ≡ b
ack_spelled b lt = omega (arith, ack_if (b / 128 % 2) (b % 128) (omega arith))

-- ---- the faults

passed : (b : Bool) (f : PacketFault) (later : Option PacketFault) → cond b (Some f) later ≡ None → (b ≡ false) × (later ≡ None)
passed true f later e = absurd cc
passed false f later e = (refl, e)

some_is : {A : Type 0} (o : Option A) (d : A) → is_none o ≡ false → o ≡ Some (unwrap_or o d)
some_is None d e = absurd cc
some_is (Some x) d e = refl

none_left : (payload : Bool) (n : ℕ) → (not payload && not (n == 0)) ≡ false → payload ≡ false → n ≡ 0
none_left true n e f = absurd cc
none_left false n e f = eqb-true n 0 (not-false (n == 0) e)

-- no fault applies
record IsClean (bytes : List ℕ) : Type 0 where
  pub bth : 12 ≤ length bytes
  pub long : payload_from (headers_at bytes) ≤ length bytes
  pub version : version_at bytes ≡ 0
  pub known : headers_of (opcode_at bytes) ≡ Some (headers_at bytes)
  pub padded : pad_at bytes ≤ rest_at bytes
  pub whole : rest_at bytes % 4 ≡ 0
  pub few : rest_at bytes - pad_at bytes ≤ 4096
  pub none : (headers_at bytes).payload ≡ false → rest_at bytes ≡ 0

clean : (bytes : List ℕ) → refusal_of bytes ≡ None → IsClean bytes
clean bytes none =
    let four : Option PacketFault = cond (is_misfit bytes) (Some Length) None in
    let three : Option PacketFault = cond (is_overpadded bytes) (Some Pad) four in
    let two : Option PacketFault = cond (is_unknown bytes) (Some Opcode) three in
    let one : Option PacketFault = cond (is_versioned bytes) (Some Version) two in
    let a = passed (is_short bytes) Short one none in
    let b = passed (is_versioned bytes) Version two a.1 in
    let c = passed (is_unknown bytes) Opcode three b.1 in
    let d = passed (is_overpadded bytes) Pad four c.1 in
    let e = passed (is_misfit bytes) Length None d.1 in
    let a-parts = or_parts (nat_lt (length bytes) 12) (nat_lt (length bytes) (payload_from (headers_at bytes))) a.0 in
    let e-parts = or_parts (not (rest_at bytes % 4 == 0) || nat_lt 4096 (rest_at bytes - pad_at bytes)) (not (headers_at bytes).payload && not (rest_at bytes == 0)) e.0 in
    let f-parts = or_parts (not (rest_at bytes % 4 == 0)) (nat_lt 4096 (rest_at bytes - pad_at bytes)) e-parts.0 in
    record {
      bth = ltb-false (length bytes) 12 a-parts.0;
      long = ltb-false (length bytes) (payload_from (headers_at bytes)) a-parts.1;
      version = eqb-true (version_at bytes) 0 (not-false (version_at bytes == 0) b.0);
      known = some_is (headers_of (opcode_at bytes)) payload_alone c.0;
      padded = ltb-false (rest_at bytes) (pad_at bytes) d.0;
      whole = eqb-true (rest_at bytes % 4) 0 (not-false (rest_at bytes % 4 == 0) f-parts.0);
      few = ltb-false 4096 (rest_at bytes - pad_at bytes) f-parts.1;
      none = none_left (headers_at bytes).payload (rest_at bytes) e-parts.1;
    }

-- ---- the packet

is_some_if : {A : Type 0} (has : Bool) (x : A) → is_some (cond has (Some x) None) ≡ has
is_some_if true x = refl
is_some_if false x = refl

some_if : {A : Type 0} (has : Bool) (x : A) (P : A → Type 0) → P x → IfSome (cond has (Some x) None) P
some_if true x P h = h
some_if false x P h = tt

pub field_below : (size at : ℕ) (bytes : List ℕ) → IsBytes bytes → field size at bytes < 256 ^ size
unfolding field
field_below size at bytes fits = big_from-lt 0 size (drop at bytes) (IsBytes-drop at bytes fits)

-- the pad of what is left of a multiple of 4
pad_left : (rest pad : ℕ) → rest % 4 ≡ 0 → pad ≤ rest → pad < 4 → pad ≡ pad_of (rest - pad)
pad_left rest pad whole le lt = omega arith

module _ (bytes : List ℕ) (fits : IsBytes bytes) (is : IsClean bytes) where
  abbrev h : Headers
  h = headers_at bytes

  abbrev p : Content
  p = content_at bytes

  abbrev pad : List ℕ
  pad = drop (length p.payload) (drop (payload_from h) bytes)

  abbrev ignored : Ignored
  ignored = record { behind_pkey = slice_index bytes 4; below_ack = slice_index bytes 8 % 128; before_source = slice_index bytes (deth_from h + 4); pad = pad }

  payload_length : length p.payload ≡ rest_at bytes - pad_at bytes
  payload_length = omega (arith, length-take (rest_at bytes - pad_at bytes) (drop (payload_from h) bytes), length-drop (payload_from h) bytes)

  pad_length : length pad ≡ pad_at bytes
  pad_length = omega (arith, length-drop (length p.payload) (drop (payload_from h) bytes), length-drop (payload_from h) bytes, payload_length, is.padded)

  pad_is : pad_at bytes ≡ pad_of (length p.payload)
  pad_is = pad_left (rest_at bytes) (pad_at bytes) is.whole is.padded (omega arith) ∙ ap pad_of (sym payload_length)

  flags_is : flags_at bytes ≡ flags_of p
  flags_is =
      sym (flags_spelled (flags_at bytes) (fits 1) is.version)
      ∙ ap (λ (n : ℕ). (if solicited_at bytes then 128 else 0) + (if migrated_at bytes then 64 else 0) + 16 * n) pad_is

  ack_is : slice_index bytes 8 ≡ ack_byte ignored p
  ack_is = sym (ack_spelled (slice_index bytes 8) (fits 8))

  bth_cut : bytes ≡ bth_bytes ignored p ++ drop 12 bytes
  bth_cut =
      byte_cut 0 bytes (omega (arith, is.bth))
      ∙ ap (λ (v : List ℕ). opcode_at bytes ∷ v) (byte_cut 1 bytes (omega (arith, is.bth)) ∙ ap (λ (n : ℕ). n ∷ drop 2 bytes) flags_is
      ∙ ap (λ (v : List ℕ). flags_of p ∷ v) (cut_at 2 spelled-2 2 bytes fits (omega (arith, is.bth))
      ∙ ap (λ (v : List ℕ). big_bytes 2 (pkey_at bytes) ++ v) (byte_cut 4 bytes (omega (arith, is.bth))
      ∙ ap (λ (v : List ℕ). slice_index bytes 4 ∷ v) (cut_at 3 spelled-3 5 bytes fits (omega (arith, is.bth))
      ∙ ap (λ (v : List ℕ). big_bytes 3 (dest_at bytes) ++ v) (byte_cut 8 bytes (omega (arith, is.bth)) ∙ ap (λ (n : ℕ). n ∷ drop 9 bytes) ack_is
      ∙ ap (λ (v : List ℕ). ack_byte ignored p ∷ v) (cut_at 3 spelled-3 9 bytes fits (omega (arith, is.bth))))))))

  abbrev part_reth : List ℕ
  part_reth = option_map_or reth_bytes p.reth []

  abbrev part_aeth : List ℕ
  part_aeth = option_map_or aeth_bytes p.aeth []

  abbrev part_deth : List ℕ
  part_deth = option_map_or (deth_bytes ignored.before_source) p.deth []

  abbrev part_imm : List ℕ
  part_imm = option_map_or word_bytes p.imm []

  abbrev part_ieth : List ℕ
  part_ieth = option_map_or word_bytes p.ieth []

  headers_cut : drop 12 bytes ≡ part_reth ++ (part_aeth ++ (part_deth ++ (part_imm ++ (part_ieth ++ drop (payload_from h) bytes))))
  headers_cut =
      reth_part h.reth 12 bytes fits (omega (arith, is.long))
      ∙ ap (λ (v : List ℕ). part_reth ++ v) (aeth_part h.aeth (aeth_from h) bytes fits (omega (arith, is.long))
      ∙ ap (λ (v : List ℕ). part_aeth ++ v) (deth_part h.deth (deth_from h) bytes fits (omega (arith, is.long))
      ∙ ap (λ (v : List ℕ). part_deth ++ v) (word_part h.imm (imm_from h) bytes fits (omega (arith, is.long))
      ∙ ap (λ (v : List ℕ). part_imm ++ v) (word_part h.ieth (ieth_from h) bytes fits (omega (arith, is.long))))))

  payload_cut : drop (payload_from h) bytes ≡ p.payload ++ pad
  payload_cut =
      sym (take-append-drop (rest_at bytes - pad_at bytes) (drop (payload_from h) bytes))
      ∙ ap (λ (n : ℕ). p.payload ++ drop n (drop (payload_from h) bytes)) (sym payload_length)

  regrouped : part_reth ++ (part_aeth ++ (part_deth ++ (part_imm ++ (part_ieth ++ (p.payload ++ pad))))) ≡ headers_bytes ignored p ++ (p.payload ++ pad)
  regrouped = sym (simp append_assoc)

  spelled : bytes ≡ spelling ignored p
  spelled =
      bth_cut
      ∙ ap (λ (v : List ℕ). bth_bytes ignored p ++ v)
      (headers_cut ∙ ap (λ (v : List ℕ). part_reth ++ (part_aeth ++ (part_deth ++ (part_imm ++ (part_ieth ++ v))))) payload_cut ∙ regrouped)

  headed : HasHeaders h p
  headed = record {
    reth = is_some_if h.reth (reth_at (reth_from h) bytes);
    aeth = is_some_if h.aeth (aeth_at (aeth_from h) bytes);
    deth = is_some_if h.deth (deth_at (deth_from h) bytes);
    imm = is_some_if h.imm (word_at (imm_from h) bytes);
    ieth = is_some_if h.ieth (word_at (ieth_from h) bytes);
    payload = λ no. nil_from_length p.payload (omega (arith, payload_length, is.none no));
  }

  value : IsPacketValue p
  value = record {
    headed = subst (λ (o : Option Headers). IsSomeAnd o (λ k. HasHeaders k p)) (sym is.known) headed;
    dest = field_below 3 5 bytes fits;
    psn = field_below 3 9 bytes fits;
    msn = some_if h.aeth (aeth_at (aeth_from h) bytes) (λ (a : Aeth). a.msn < 2 ^ 24) (field_below 3 (aeth_from h + 1) bytes fits);
    source = some_if h.deth (deth_at (deth_from h) bytes) (λ (d : Deth). d.source < 2 ^ 24) (field_below 3 (deth_from h + 5) bytes fits);
    payload = omega (arith, payload_length, is.few);
  }

  reth_fits : RethFits (reth_at 12 bytes)
  reth_fits = record { at = field_below 8 12 bytes fits; key = field_below 4 20 bytes fits; length = field_below 4 24 bytes fits }

  content_fits : ContentFits p
  content_fits = record {
    pkey = field_below 2 2 bytes fits;
    reth = some_if h.reth (reth_at 12 bytes) RethFits reth_fits;
    imm = some_if h.imm (word_at (imm_from h) bytes) (λ (n : ℕ). n < 2 ^ 32) (field_below 4 (imm_from h) bytes fits);
    ieth = some_if h.ieth (word_at (ieth_from h) bytes) (λ (n : ℕ). n < 2 ^ 32) (field_below 4 (ieth_from h) bytes fits);
    qkey = some_if h.deth (deth_at (deth_from h) bytes) (λ (d : Deth). d.qkey < 2 ^ 32) (field_below 4 (deth_from h) bytes fits);
  }

  clean_is_packet : IsPacket bytes p
  clean_is_packet = record { ignored = ignored; below_ack = omega arith; pad = pad_length ∙ pad_is; spelled = spelled; value = value; fits = content_fits }

pub accepted_is_packet : (bytes : List ℕ) (p : Content) → IsBytes bytes → packet_of bytes ≡ Some p → IsPacket bytes p
accepted_is_packet bytes p fits e =
    let parts = cond_some (is_none (refusal_of bytes)) (content_at bytes) p e in
    subst (λ (c : Content). IsPacket bytes c) parts.1 (clean_is_packet bytes fits (clean bytes (none_is (refusal_of bytes) parts.0)))

-- the same of what a function answered
pub answer_is_packet : (bytes : List ℕ) (r : Result Packet PacketFault) → IsBytes bytes → IfOk r (λ packet. packet_of bytes ≡ Some (content_of packet)) → IfOk r (λ packet. IsPacket bytes (content_of packet))
answer_is_packet bytes (Ok packet) fits read = accepted_is_packet bytes (content_of packet) fits read
answer_is_packet bytes (Err fault) fits read = tt
