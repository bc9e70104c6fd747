-- Bytes that are not refused are spelled as the call that is read from them: the header and each attribute are
-- cut from the front, number by number.
use Rattle.std.proofs.Common.{◌≡◌, ℕ, zero, suc, ◌+◌, ◌*◌, ◌/◌, ◌%◌, ◌<◌, ◌≤◌, Bool, true, false, cond, List, [], ◌∷◌, ◌++◌, length, map, get_or, take, drop, Option, Some, None, refl, sym, ap, subst, ◌∙◌, append_assoc, length-drop, arith, inl, inr}
use Rattle.std.specs.Prelude.{not, ◌||◌, ◌==◌, nat_lt, if◌then◌else◌, IfOk, OnOk, Result, Ok, Err}
use Rattle.std.specs.List.{list_any, flat_map}
use Rattle.std.specs.Int.{w16, w32, w64, to_le_bytes, from_le_bytes}
use Rattle.std.proofs.lemmas.Bool.{cases_lt, ltb-false, eqb-true}
use Rattle.std.proofs.lemmas.List.{take-append-drop, length-take, get_or-take, get_or-drop, get_or_past, drop-drop, append-nil, nil_from_length, length-map}
use Rattle.std.proofs.lemmas.List.Concat.{flat_map-cons}
use Rattle.std.proofs.lemmas.Nat.{le_bytes_2, le_bytes_4, le_bytes_8}
use Rattle.uv_attr.specs.declared.call.Attr.{Attr}
use Rattle.uv_attr.specs.declared.call.Call.{Call}
use Rattle.uv_attr.specs.declared.fault.CallFault.{CallFault}
use Rattle.uv_attr.specs.declared.fault.CallFault.TheVariants.{Inval, ProtoNoSupport}
use Rattle.uv_attr.specs.Fields.{field_at}
use Rattle.uv_attr.specs.Command.{attr_flags, attr_bytes, header_bytes, call_bytes, repeats, attr_ids, IsCommand}
use Rattle.uv_attr.specs.Reading.{stated_length, attr_count, reserved1, reserved2, RawAttr, raw_of, raws, raws_of, attr_of, call_in}
use Rattle.uv_attr.specs.Refusal.{lacks_header, is_misstated, has_reserved, is_long, is_malformed, raw_ids, has_wrong, bytes_refusal}

abbrev pub IsBytes : List ℕ → Type 0
IsBytes bytes = (i : ℕ) → get_or bytes i 0 < 256

IsBytes-drop : (n : ℕ) (bytes : List ℕ) → IsBytes bytes → IsBytes (drop n bytes)
IsBytes-drop n bytes h i = rw get_or-drop (h (n + i))

IsBytes-take : (n : ℕ) (bytes : List ℕ) → IsBytes bytes → IsBytes (take n bytes)
IsBytes-take n bytes h i =
    elim (cases_lt i n) [
      | inl lt ↦ rw (get_or-take n bytes i 0 lt) (h i)
      | inr le ↦ rw (get_or_past (take n bytes) i 0 (omega (arith, length-take n bytes))) (omega arith)
    ]

-- ---- numbers at the front

cut_16 : (bytes : List ℕ) → IsBytes bytes → 2 ≤ length bytes → bytes ≡ to_le_bytes w16 (from_le_bytes w16 bytes) ++ drop 2 bytes
cut_16 bytes fits long =
    let same : from_le_bytes w16 bytes ≡ from_le_bytes w16 (take 2 bytes) = omega (arith, get_or-take 2 bytes 0 0 (omega arith), get_or-take 2 bytes 1 0 (omega arith)) in
    let front : to_le_bytes w16 (from_le_bytes w16 bytes) ≡ take 2 bytes = le_bytes_2 (take 2 bytes) (from_le_bytes w16 bytes) (omega (arith, length-take 2 bytes)) (IsBytes-take 2 bytes fits) same in
    sym (ap (λ (v : List ℕ). v ++ drop 2 bytes) front ∙ take-append-drop 2 bytes)

cut_32 : (bytes : List ℕ) → IsBytes bytes → 4 ≤ length bytes → bytes ≡ to_le_bytes w32 (from_le_bytes w32 bytes) ++ drop 4 bytes
cut_32 bytes fits long =
    let at : (i : ℕ) → i < 4 → get_or (take 4 bytes) i 0 ≡ get_or bytes i 0 = λ i lt. get_or-take 4 bytes i 0 lt in
    let same : from_le_bytes w32 bytes ≡ from_le_bytes w32 (take 4 bytes) = omega (arith, at 0 (omega arith), at 1 (omega arith), at 2 (omega arith), at 3 (omega arith)) in
    let front : to_le_bytes w32 (from_le_bytes w32 bytes) ≡ take 4 bytes = le_bytes_4 (take 4 bytes) (from_le_bytes w32 bytes) (omega (arith, length-take 4 bytes)) (IsBytes-take 4 bytes fits) same in
    sym (ap (λ (v : List ℕ). v ++ drop 4 bytes) front ∙ take-append-drop 4 bytes)

cut_64 : (bytes : List ℕ) → IsBytes bytes → 8 ≤ length bytes → bytes ≡ to_le_bytes w64 (from_le_bytes w64 bytes) ++ drop 8 bytes
cut_64 bytes fits long =
    let at : (i : ℕ) → i < 8 → get_or (take 8 bytes) i 0 ≡ get_or bytes i 0 = λ i lt. get_or-take 8 bytes i 0 lt in
    let same : from_le_bytes w64 bytes ≡ from_le_bytes w64 (take 8 bytes) = omega (arith, at 0 (omega arith), at 1 (omega arith), at 2 (omega arith), at 3 (omega arith), at 4 (omega arith), at 5 (omega arith), at 6 (omega arith), at 7 (omega arith)) in
    let front : to_le_bytes w64 (from_le_bytes w64 bytes) ≡ take 8 bytes = le_bytes_8 (take 8 bytes) (from_le_bytes w64 bytes) (omega (arith, length-take 8 bytes)) (IsBytes-take 8 bytes fits) same in
    sym (ap (λ (v : List ℕ). v ++ drop 8 bytes) front ∙ take-append-drop 8 bytes)

-- ---- numbers at a place

at_16 : (at : ℕ) (bytes : List ℕ) → IsBytes bytes → at + 2 ≤ length bytes → drop at bytes ≡ to_le_bytes w16 (field_at w16 at bytes) ++ drop (at + 2) bytes
unfolding field_at
at_16 at bytes fits long =
    cut_16 (drop at bytes) (IsBytes-drop at bytes fits) (omega (arith, length-drop at bytes)) ∙ ap (λ (v : List ℕ). to_le_bytes w16 (from_le_bytes w16 (drop at bytes)) ++ v) (drop-drop 2 at bytes)

at_32 : (at : ℕ) (bytes : List ℕ) → IsBytes bytes → at + 4 ≤ length bytes → drop at bytes ≡ to_le_bytes w32 (field_at w32 at bytes) ++ drop (at + 4) bytes
unfolding field_at
at_32 at bytes fits long =
    cut_32 (drop at bytes) (IsBytes-drop at bytes fits) (omega (arith, length-drop at bytes)) ∙ ap (λ (v : List ℕ). to_le_bytes w32 (from_le_bytes w32 (drop at bytes)) ++ v) (drop-drop 4 at bytes)

at_64 : (at : ℕ) (bytes : List ℕ) → IsBytes bytes → at + 8 ≤ length bytes → drop at bytes ≡ to_le_bytes w64 (field_at w64 at bytes) ++ drop (at + 8) bytes
unfolding field_at
at_64 at bytes fits long =
    cut_64 (drop at bytes) (IsBytes-drop at bytes fits) (omega (arith, length-drop at bytes)) ∙ ap (λ (v : List ℕ). to_le_bytes w64 (from_le_bytes w64 (drop at bytes)) ++ v) (drop-drop 8 at bytes)

-- ---- an attribute

abbrev pub raw_bytes : RawAttr → List ℕ
raw_bytes r = to_le_bytes w16 r.id ++ to_le_bytes w16 r.len ++ to_le_bytes w16 r.flags ++ to_le_bytes w16 r.attr_data ++ to_le_bytes w64 r.value

attr_cut : (bytes : List ℕ) → IsBytes bytes → 16 ≤ length bytes → bytes ≡ raw_bytes (raw_of bytes) ++ drop 16 bytes
attr_cut bytes fits long =
    let r : RawAttr = raw_of bytes in
    at_16 0 bytes fits (omega arith)
    ∙ ap (λ (v : List ℕ). to_le_bytes w16 r.id ++ v) (at_16 2 bytes fits (omega arith)
    ∙ ap (λ (v : List ℕ). to_le_bytes w16 r.len ++ v) (at_16 4 bytes fits (omega arith)
    ∙ ap (λ (v : List ℕ). to_le_bytes w16 r.flags ++ v) (at_16 6 bytes fits (omega arith)
    ∙ ap (λ (v : List ℕ). to_le_bytes w16 r.attr_data ++ v) (at_64 8 bytes fits (omega arith)))))

pub or_false : (a b : Bool) → (a || b) ≡ false → (a ≡ false) × (b ≡ false)
or_false true b e = absurd cc
or_false false b e = (refl, e)

pub not_false : (a : Bool) → not a ≡ false → a ≡ true
not_false true e = refl
not_false false e = absurd cc

flags_again : (f : ℕ) → f ≤ 3 → (if f % 2 == 1 then 1 else 0) + (if f / 2 % 2 == 1 then 2 else 0) ≡ f
flags_again zero le = refl
flags_again (suc zero) le = refl
flags_again (suc (suc zero)) le = refl
flags_again (suc (suc (suc zero))) le = refl
flags_again (suc (suc (suc (suc f)))) le = absurd (omega arith)

attr_spelled : (r : RawAttr) → is_malformed r ≡ false → attr_bytes (attr_of r) ≡ raw_bytes r
attr_spelled r well =
    let parts = or_false (nat_lt 3 r.flags) (not (r.attr_data == 0)) well in
    let flags : attr_flags (attr_of r) ≡ r.flags = flags_again r.flags (ltb-false 3 r.flags parts.0) in
    let none : 0 ≡ r.attr_data = sym (eqb-true r.attr_data 0 (not_false _ parts.1)) in
    let spell : ℕ → ℕ → List ℕ = λ f d. to_le_bytes w16 r.id ++ to_le_bytes w16 r.len ++ to_le_bytes w16 f ++ to_le_bytes w16 d ++ to_le_bytes w64 r.value in
    ap (λ (f : ℕ). spell f 0) flags ∙ ap (λ (d : ℕ). spell r.flags d) none

rows_cut : (n : ℕ) (bytes : List ℕ) → IsBytes bytes → 16 * n ≤ length bytes → list_any is_malformed (raws n bytes) ≡ false → bytes ≡ flat_map attr_bytes (map attr_of (raws n bytes)) ++ drop (16 * n) bytes
unfolding raws
rows_cut zero bytes fits long well = refl
rows_cut (suc n) bytes fits long well =
    let r : RawAttr = raw_of bytes in
    let rs : List RawAttr = raws n (drop 16 bytes) in
    let parts = or_false (is_malformed r) (list_any is_malformed rs) well in
    let front : bytes ≡ attr_bytes (attr_of r) ++ drop 16 bytes = attr_cut bytes fits (omega arith) ∙ ap (λ (v : List ℕ). v ++ drop 16 bytes) (sym (attr_spelled r parts.0)) in
    let rest : drop 16 bytes ≡ flat_map attr_bytes (map attr_of rs) ++ drop (16 * n) (drop 16 bytes) = rows_cut n (drop 16 bytes) (IsBytes-drop 16 bytes fits) (omega (arith, length-drop 16 bytes)) parts.1 in
    let count : 16 + 16 * n ≡ 16 * suc n = omega arith in
    let last : drop (16 * n) (drop 16 bytes) ≡ drop (16 * suc n) bytes = drop-drop (16 * n) 16 bytes ∙ ap (λ (k : ℕ). drop k bytes) count in
    front
    ∙ ap (λ (v : List ℕ). attr_bytes (attr_of r) ++ v) (rest ∙ ap (λ (v : List ℕ). flat_map attr_bytes (map attr_of rs) ++ v) last)
    ∙ sym (append_assoc (attr_bytes (attr_of r)) (flat_map attr_bytes (map attr_of rs)) (drop (16 * suc n) bytes))
    ∙ ap (λ (v : List ℕ). v ++ drop (16 * suc n) bytes) (sym (flat_map-cons attr_bytes (attr_of r) (map attr_of rs)))

pub raws_length : (n : ℕ) (bytes : List ℕ) → length (raws n bytes) ≡ n
unfolding raws
raws_length zero bytes = refl
raws_length (suc n) bytes = ap suc (raws_length n (drop 16 bytes))

pub raws_ids : (rs : List RawAttr) → attr_ids (map attr_of rs) ≡ raw_ids rs
raws_ids [] = refl
raws_ids (r ∷ rs) = ap (λ (v : List ℕ). r.id ∷ v) (raws_ids rs)

-- ---- the header

abbrev pub header_of : ℕ → ℕ → ℕ → ℕ → ℕ → ℕ → ℕ → List ℕ
header_of stated object method count one driver two =
    to_le_bytes w16 stated ++ to_le_bytes w16 object ++ to_le_bytes w16 method ++ to_le_bytes w16 count
    ++ to_le_bytes w64 one ++ to_le_bytes w32 driver ++ to_le_bytes w32 two

header_cut : (bytes : List ℕ) → IsBytes bytes → 24 ≤ length bytes
    → bytes ≡ header_of (field_at w16 0 bytes) (field_at w16 2 bytes) (field_at w16 4 bytes) (field_at w16 6 bytes) (field_at w64 8 bytes) (field_at w32 16 bytes) (field_at w32 20 bytes) ++ drop 24 bytes
header_cut bytes fits long =
    at_16 0 bytes fits (omega arith)
    ∙ ap (λ (v : List ℕ). to_le_bytes w16 (field_at w16 0 bytes) ++ v) (at_16 2 bytes fits (omega arith)
    ∙ ap (λ (v : List ℕ). to_le_bytes w16 (field_at w16 2 bytes) ++ v) (at_16 4 bytes fits (omega arith)
    ∙ ap (λ (v : List ℕ). to_le_bytes w16 (field_at w16 4 bytes) ++ v) (at_16 6 bytes fits (omega arith)
    ∙ ap (λ (v : List ℕ). to_le_bytes w16 (field_at w16 6 bytes) ++ v) (at_64 8 bytes fits (omega arith)
    ∙ ap (λ (v : List ℕ). to_le_bytes w64 (field_at w64 8 bytes) ++ v) (at_32 16 bytes fits (omega arith)
    ∙ ap (λ (v : List ℕ). to_le_bytes w32 (field_at w32 16 bytes) ++ v) (at_32 20 bytes fits (omega arith)))))))

-- ---- the cases

passed : (b : Bool) (f : CallFault) (later : Option CallFault) → cond b (Some f) later ≡ None → (b ≡ false) × (later ≡ None)
passed true f later e = absurd cc
passed false f later e = (refl, e)

-- none of the five cases applies
pub record IsClean (bytes : List ℕ) : Type 0 where
  pub long : 24 ≤ length bytes
  pub stated : stated_length bytes ≡ 24 + 16 * attr_count bytes
  pub whole : stated_length bytes ≡ length bytes
  pub one : reserved1 bytes ≡ 0
  pub two : reserved2 bytes ≡ 0
  pub few : attr_count bytes ≤ 32
  pub well : list_any is_malformed (raws_of bytes) ≡ false
  pub distinct : repeats (raw_ids (raws_of bytes)) ≡ false

clean : (bytes : List ℕ) → bytes_refusal bytes ≡ None → IsClean bytes
clean bytes none =
    let four : Option CallFault = cond (has_wrong (raws_of bytes)) (Some Inval) None in
    let three : Option CallFault = cond (is_long bytes) (Some Inval) four in
    let two : Option CallFault = cond (has_reserved bytes) (Some ProtoNoSupport) three in
    let one : Option CallFault = cond (is_misstated bytes) (Some Inval) two in
    let a = passed (lacks_header bytes) Inval one none in
    let b = passed (is_misstated bytes) Inval two a.1 in
    let c = passed (has_reserved bytes) ProtoNoSupport three b.1 in
    let d = passed (is_long bytes) Inval four c.1 in
    let e = passed (has_wrong (raws_of bytes)) Inval None d.1 in
    let b-parts = or_false (not (stated_length bytes == 24 + 16 * attr_count bytes)) (not (stated_length bytes == length bytes)) b.0 in
    let c-parts = or_false (not (reserved1 bytes == 0)) (not (reserved2 bytes == 0)) c.0 in
    let e-parts = or_false (list_any is_malformed (raws_of bytes)) (repeats (raw_ids (raws_of bytes))) e.0 in
    record {
      long = ltb-false (length bytes) 24 a.0;
      stated = eqb-true _ _ (not_false _ b-parts.0);
      whole = eqb-true _ _ (not_false _ b-parts.1);
      one = eqb-true _ _ (not_false _ c-parts.0);
      two = eqb-true _ _ (not_false _ c-parts.1);
      few = ltb-false 32 (attr_count bytes) d.0;
      well = e-parts.0;
      distinct = e-parts.1;
    }

spelled : (bytes : List ℕ) → IsBytes bytes → IsClean bytes → bytes ≡ call_bytes (call_in bytes)
spelled bytes fits is =
    let n : ℕ = attr_count bytes in
    let attrs : List Attr = map attr_of (raws_of bytes) in
    let count : n ≡ length attrs = sym (length-map (raws_of bytes) attr_of ∙ raws_length n (drop 24 bytes)) in
    let rows = rows_cut n (drop 24 bytes) (IsBytes-drop 24 bytes fits) (omega (arith, length-drop 24 bytes, is.stated, is.whole)) is.well in
    let end : drop (16 * n) (drop 24 bytes) ≡ [] = nil_from_length (drop (16 * n) (drop 24 bytes)) (omega (arith, length-drop (16 * n) (drop 24 bytes), length-drop 24 bytes, is.stated, is.whole)) in
    let back : drop 24 bytes ≡ flat_map attr_bytes attrs = rows ∙ ap (λ (v : List ℕ). flat_map attr_bytes attrs ++ v) end ∙ append-nil (flat_map attr_bytes attrs) in
    let front : header_of (stated_length bytes) (field_at w16 2 bytes) (field_at w16 4 bytes) n (reserved1 bytes) (field_at w32 16 bytes) (reserved2 bytes) ≡ header_bytes (call_in bytes)
    = ap (λ (k : ℕ). header_of k (field_at w16 2 bytes) (field_at w16 4 bytes) n (reserved1 bytes) (field_at w32 16 bytes) (reserved2 bytes)) is.stated
    ∙ ap (λ (k : ℕ). header_of (24 + 16 * n) (field_at w16 2 bytes) (field_at w16 4 bytes) n k (field_at w32 16 bytes) (reserved2 bytes)) is.one
    ∙ ap (λ (k : ℕ). header_of (24 + 16 * n) (field_at w16 2 bytes) (field_at w16 4 bytes) n 0 (field_at w32 16 bytes) k) is.two
    ∙ ap (λ (k : ℕ). header_of (24 + 16 * k) (field_at w16 2 bytes) (field_at w16 4 bytes) k 0 (field_at w32 16 bytes) 0) count in
    header_cut bytes fits is.long ∙ ap (λ (v : List ℕ). v ++ drop 24 bytes) front ∙ ap (λ (v : List ℕ). header_bytes (call_in bytes) ++ v) back

pub accepted_is_command : (bytes : List ℕ) → IsBytes bytes → bytes_refusal bytes ≡ None → IsCommand bytes (call_in bytes)
accepted_is_command bytes fits none =
    let is = clean bytes none in
    record {
      spelled = spelled bytes fits is;
      few = omega (arith, is.few, length-map (raws_of bytes) attr_of, raws_length (attr_count bytes) (drop 24 bytes));
      distinct = ap repeats (raws_ids (raws_of bytes)) ∙ is.distinct;
    }

-- the same of what a function answered
pub answer_is_command : (bytes : List ℕ) (r : Result Call CallFault) → IsBytes bytes → OnOk r (bytes_refusal bytes ≡ None) → IfOk r (λ call. call ≡ call_in bytes) → IfOk r (λ call. IsCommand bytes call)
answer_is_command bytes (Ok call) fits none read = subst (λ (v : Call). IsCommand bytes v) (sym read) (accepted_is_command bytes fits none)
answer_is_command bytes (Err fault) fits none read = tt
