-- The bytes of a call are not refused, and the call is read from them again.
use Rattle.std.proofs.Common.{◌≡◌, ℕ, suc, ◌+◌, ◌*◌, ◌/◌, ◌%◌, ◌<◌, ◌≤◌, Bool, true, false, cond, List, [], ◌∷◌, ◌++◌, length, map, Some, None, refl, sym, ap, ◌∙◌, append_assoc, length-append, arith}
use Rattle.std.specs.Prelude.{not, ◌||◌, ◌==◌, nat_lt, if◌then◌else◌}
use Rattle.std.specs.List.{list_any, flat_map, AllByRecursion}
use Rattle.std.specs.Int.{w16, w32, w64}
use Rattle.std.proofs.lemmas.Bool.{le-ltb, eq-eqb}
use Rattle.std.proofs.lemmas.List.{append-nil}
use Rattle.std.proofs.lemmas.List.Concat.{flat_map-cons}
use Rattle.std.proofs.lemmas.Nat.{from_le_bytes-to_le_bytes_2, from_le_bytes-to_le_bytes_4, from_le_bytes-to_le_bytes_8}
use Rattle.uv_attr.specs.declared.call.Attr.{Attr}
use Rattle.uv_attr.specs.declared.call.Call.{Call}
use Rattle.uv_attr.specs.declared.fault.CallFault.TheVariants.{Inval, ProtoNoSupport}
use Rattle.uv_attr.specs.Fields.{field_at}
use Rattle.uv_attr.specs.Command.{attr_flags, attr_bytes, header_bytes, call_bytes, repeats, attr_ids, IsCommand, AttrFits, CallFits}
use Rattle.uv_attr.specs.Reading.{stated_length, attr_count, reserved2, RawAttr, raw_of, raws, raws_of, attr_of, call_in}
use Rattle.uv_attr.specs.Refusal.{lacks_header, is_misstated, has_reserved, is_long, is_malformed, raw_ids, has_wrong, bytes_refusal}

-- what is read where an attribute was spelled
abbrev raw_again : Attr → RawAttr
raw_again a = record { id = a.id; len = a.len; flags = attr_flags a; attr_data = 0; value = a.value }

flags-lt : (m o : Bool) → (if m then 1 else 0) + (if o then 2 else 0) < 4
flags-lt true true = omega arith
flags-lt true false = omega arith
flags-lt false true = omega arith
flags-lt false false = omega arith

mandatory_again : (m o : Bool) → (((if m then 1 else 0) + (if o then 2 else 0)) % 2 == 1) ≡ m
mandatory_again true true = refl
mandatory_again true false = refl
mandatory_again false true = refl
mandatory_again false false = refl

output_again : (m o : Bool) → (((if m then 1 else 0) + (if o then 2 else 0)) / 2 % 2 == 1) ≡ o
output_again true true = refl
output_again true false = refl
output_again false true = refl
output_again false false = refl

attr_again : (a : Attr) → attr_of (raw_again a) ≡ a
attr_again a = λ i. record { id = a.id; len = a.len; mandatory = mandatory_again a.mandatory a.output i; output = output_again a.mandatory a.output i; value = a.value }

raw_read : (a : Attr) (rest : List ℕ) → AttrFits a → raw_of (attr_bytes a ++ rest) ≡ raw_again a
unfolding field_at
raw_read a rest fits =
    let id : field_at w16 0 (attr_bytes a ++ rest) ≡ a.id = from_le_bytes-to_le_bytes_2 a.id fits.id in
    let len : field_at w16 2 (attr_bytes a ++ rest) ≡ a.len = from_le_bytes-to_le_bytes_2 a.len fits.len in
    let flags : field_at w16 4 (attr_bytes a ++ rest) ≡ attr_flags a = from_le_bytes-to_le_bytes_2 (attr_flags a) (omega (arith, flags-lt a.mandatory a.output)) in
    let none : field_at w16 6 (attr_bytes a ++ rest) ≡ 0 = refl in
    let value : field_at w64 8 (attr_bytes a ++ rest) ≡ a.value = from_le_bytes-to_le_bytes_8 a.value fits.value in
    λ i. record { id = id i; len = len i; flags = flags i; attr_data = none i; value = value i }

rows_read : (attrs : List Attr) (rest : List ℕ) → AllByRecursion AttrFits attrs → raws (length attrs) (flat_map attr_bytes attrs ++ rest) ≡ map raw_again attrs
unfolding raws
rows_read [] rest fits = refl
rows_read (a ∷ attrs) rest fits =
    let others : List ℕ = flat_map attr_bytes attrs ++ rest in
    let regrouped : flat_map attr_bytes (a ∷ attrs) ++ rest ≡ attr_bytes a ++ others = ap (λ (v : List ℕ). v ++ rest) (flat_map-cons attr_bytes a attrs) ∙ append_assoc (attr_bytes a) (flat_map attr_bytes attrs) rest in
    ap (raws (suc (length attrs))) regrouped
    ∙ ap (λ (r : RawAttr). r ∷ raws (length attrs) others) (raw_read a others fits.0)
    ∙ ap (λ (rs : List RawAttr). raw_again a ∷ rs) (rows_read attrs rest fits.1)

attrs_again : (attrs : List Attr) → map attr_of (map raw_again attrs) ≡ attrs
attrs_again [] = refl
attrs_again (a ∷ attrs) = λ i. attr_again a i ∷ attrs_again attrs i

ids_again : (attrs : List Attr) → raw_ids (map raw_again attrs) ≡ attr_ids attrs
ids_again [] = refl
ids_again (a ∷ attrs) = ap (λ (v : List ℕ). a.id ∷ v) (ids_again attrs)

well_again : (attrs : List Attr) → list_any is_malformed (map raw_again attrs) ≡ false
well_again [] = refl
well_again (a ∷ attrs) =
    let flags : nat_lt 3 (attr_flags a) ≡ false = le-ltb 3 (attr_flags a) (omega (arith, flags-lt a.mandatory a.output)) in
    ap (λ (v : Bool). v || not (0 == 0) || list_any is_malformed (map raw_again attrs)) flags ∙ well_again attrs

rows_length : (attrs : List Attr) → length (flat_map attr_bytes attrs) ≡ 16 * length attrs
rows_length [] = refl
rows_length (a ∷ attrs) = ap length (flat_map-cons attr_bytes a attrs) ∙ omega (arith, rows_length attrs, length-append (attr_bytes a) (flat_map attr_bytes attrs))

module _ (call : Call) (fits : CallFits call) (few : length call.attrs ≤ 32) where
  stated_again : field_at w16 0 (call_bytes call) ≡ 24 + 16 * length call.attrs
  unfolding field_at
  stated_again = from_le_bytes-to_le_bytes_2 (24 + 16 * length call.attrs) (omega arith)

  object_again : field_at w16 2 (call_bytes call) ≡ call.object
  unfolding field_at
  object_again = from_le_bytes-to_le_bytes_2 call.object fits.object

  method_again : field_at w16 4 (call_bytes call) ≡ call.method
  unfolding field_at
  method_again = from_le_bytes-to_le_bytes_2 call.method fits.method

  count_again : field_at w16 6 (call_bytes call) ≡ length call.attrs
  unfolding field_at
  count_again = from_le_bytes-to_le_bytes_2 (length call.attrs) (omega arith)

  reserved1_again : field_at w64 8 (call_bytes call) ≡ 0
  unfolding field_at
  reserved1_again = refl

  driver_again : field_at w32 16 (call_bytes call) ≡ call.driver
  unfolding field_at
  driver_again = from_le_bytes-to_le_bytes_4 call.driver fits.driver

  reserved2_again : field_at w32 20 (call_bytes call) ≡ 0
  unfolding field_at
  reserved2_again = refl

  raws_again : raws_of (call_bytes call) ≡ map raw_again call.attrs
  raws_again =
      ap (λ (n : ℕ). raws n (flat_map attr_bytes call.attrs)) count_again
      ∙ ap (raws (length call.attrs)) (sym (append-nil (flat_map attr_bytes call.attrs)))
      ∙ rows_read call.attrs [] fits.attrs

  call_again : call_in (call_bytes call) ≡ call
  call_again =
      let attrs : map attr_of (raws_of (call_bytes call)) ≡ call.attrs = ap (map attr_of) raws_again ∙ attrs_again call.attrs in
      λ i. record { object = object_again i; method = method_again i; driver = driver_again i; attrs = attrs i }

  length_again : length (call_bytes call) ≡ 24 + 16 * length call.attrs
  length_again = length-append (header_bytes call) (flat_map attr_bytes call.attrs) ∙ omega (arith, rows_length call.attrs)

  not_refused : repeats (attr_ids call.attrs) ≡ false → bytes_refusal (call_bytes call) ≡ None
  not_refused distinct =
      let short : lacks_header (call_bytes call) ≡ false = le-ltb (length (call_bytes call)) 24 (omega (arith, length_again)) in
      let misstated : is_misstated (call_bytes call) ≡ false =
      let counted : (stated_length (call_bytes call) == 24 + 16 * attr_count (call_bytes call)) ≡ true = eq-eqb _ _ (stated_again ∙ ap (λ (k : ℕ). 24 + 16 * k) (sym count_again)) in
      let whole : (stated_length (call_bytes call) == length (call_bytes call)) ≡ true = eq-eqb _ _ (stated_again ∙ sym length_again) in
      λ i. not (counted i) || not (whole i) in
      let reserved : has_reserved (call_bytes call) ≡ false = ap (λ (k : ℕ). not (k == 0) || not (reserved2 (call_bytes call) == 0)) reserved1_again ∙ ap (λ (k : ℕ). not (k == 0)) reserved2_again in
      let long : is_long (call_bytes call) ≡ false = le-ltb 32 (attr_count (call_bytes call)) (omega (arith, count_again)) in
      let wrong : has_wrong (raws_of (call_bytes call)) ≡ false = ap has_wrong raws_again ∙ ap (λ (v : Bool). v || repeats (raw_ids (map raw_again call.attrs))) (well_again call.attrs) ∙ ap repeats (ids_again call.attrs) ∙ distinct in
      λ i. cond (short i) (Some Inval) (cond (misstated i) (Some Inval) (cond (reserved i) (Some ProtoNoSupport) (cond (long i) (Some Inval) (cond (wrong i) (Some Inval) None))))

pub command_accepted : (bytes : List ℕ) (call : Call) → CallFits call → IsCommand bytes call → bytes_refusal bytes ≡ None
command_accepted bytes call fits is = ap bytes_refusal is.spelled ∙ not_refused call fits is.few is.distinct

pub command_read : (bytes : List ℕ) (call : Call) → CallFits call → IsCommand bytes call → call_in bytes ≡ call
command_read bytes call fits is = ap call_in is.spelled ∙ call_again call fits is.few
