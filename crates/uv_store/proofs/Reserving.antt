-- A number set aside, in what is kept beside the state.
use Rattle.std.proofs.Common.{◌≡◌, ℕ, ◌+◌, ◌<◌, Bool, true, false, List, [], Option, Some, None, length, get_or, refl, ap, sym, ◌∙◌, subst, arith}
use Rattle.std.specs.Prelude.{slice_get, slice_set, ◌==◌, ◌||◌, ◌&&◌, not, is_none, option_map, if◌then◌else◌}
use Rattle.std.specs.List.{list_any}
use Rattle.std.proofs.lemmas.Bool.{eq-eqb, ne_eqb, eqb-true, or_parts}
use Rattle.std.proofs.lemmas.Option.{none-some, same_Some, slice_get-get_or}
use Rattle.uv_num.specs.declared.errno.Errno.TheVariants.{NoSpc}
use Rattle.uv_num.specs.declared.limits.TheConstants.{FILES, HANDLES}
use Rattle.uv_num.specs.Place.{at_place}
use Rattle.uv_num.proofs.PlaceLaws.{at_place_write, length-at_place, slice_get-at_place_same}
use Rattle.uv_machine.specs.declared.entry.CallStep.{CallStep}
use Rattle.uv_machine.specs.declared.entry.Word.{Word}
use Rattle.uv_machine.specs.declared.entry.Word.TheVariants.{Reserve}
use Rattle.uv_machine.specs.declared.call.InFlight.{InFlight}
use Rattle.uv_machine.specs.declared.state.State.{State}
use Rattle.uv_machine.specs.Accounts.{count_of}
use Rattle.uv_machine.specs.Objects.{has_handle, is_published_at, is_made}
use Rattle.uv_machine.specs.Plans.{is_the_number, reserves, locks, with_number}
use Rattle.uv_machine.specs.States.{call_of, published, is_taken, least_free}
use Rattle.uv_machine.specs.Steps.{refused_told, plain_told, reserve_told, told, step_answer}
use Rattle.uv_machine.specs.Effects.{refusal_in, with_call, reserve, unless_refused}
use Rattle.uv_machine.specs.Histories.{after, kept_in}
use Rattle.uv_machine.specs.Reached.{Has}
use Rattle.uv_machine.proofs.Calling.{any_at}
use Rattle.uv_machine.proofs.Members.{fails_any, list_any-none}
use Rattle.uv_machine.proofs.Numbers.{least_from_free}
use Rattle.uv_machine.proofs.OwnCall.{call_stands}
use Rattle.uv_machine.proofs.Phased.{create_has}
use Rattle.uv_machine.proofs.Planned.{InPlan, in_plan, stands_in_plan}
use Rattle.uv_machine.proofs.Turns.{IsTurn, IsTurn-allowed}
use Rattle.uv_handles.specs.declared.slot.Slot.{Slot}
use Rattle.uv_handles.specs.declared.slot.Slot.TheVariants.{Reserved}
use Rattle.uv_handles.specs.Table.{least_free_in, reserved_if}
use Rattle.uv_store.specs.declared.mark.Mark.{Mark}
use Rattle.uv_store.specs.Going.{Goes, entry_by}
use Rattle.uv_store.specs.Marks.{looks_by, reads_on, word_for, word_on, mark_on}
use Rattle.uv_store.specs.Stored.{IsLegalState, IsStored}
use Rattle.uv_store.specs.Tables.{table_in, table_at, slot_for, slot_on, HasAllNumbers, AreTables}
use Rattle.uv_store.proofs.Aborting.{not_found, and_no}
use Rattle.uv_store.proofs.Legal.{goes_on, reached, bounded}
use Rattle.uv_store.proofs.Reading.{least_tells}
use Rattle.uv_store.proofs.Still.{any_alike, sum_alike, marks_alike, mark_alike}
use Rattle.uv_store.proofs.Stored.{went, fine_told}
use Rattle.uv_store.proofs.Tabled.{tables_set}

-- A Reserve that isn't refused finds a number.
number_by : (m : State) (f : ℕ) (n : Option ℕ) → least_free m f ≡ n → (reserve_told m f).refusal ≡ None → (k : ℕ) × (least_free m f ≡ Some k)
number_by m f None e fine =
    let P : Option ℕ → Type 0 = λ v. (if is_none v then refused_told NoSpc else plain_told).refusal ≡ None in
    absurd (none-some _ (sym (subst P e fine)))
number_by m f (Some k) e fine = (k, e)

none_reserved : (n : Option ℕ) → count_of n ≡ 0 → n ≡ None
none_reserved None e = refl
none_reserved (Some k) e = cc

and_last : (b : Bool) → (b && false) ≡ false
and_last true = refl
and_last false = refl

module _ (m : State) (l : IsLegalState m) (c : ℕ) (d : CallStep) (goes : Goes m c d Reserve) where
  pub turn : IsTurn m c d.word d.object d.found d.answer (after m (entry_by c d))
  turn = IsTurn-allowed m c d.word d.object d.found d.answer goes.allowed

  abbrev pub setter : InFlight
  setter = turn.call

  abbrev pub f : ℕ
  f = setter.file

  fine : (reserve_told m f).refusal ≡ None
  fine =
      let P : Word → Type 0 = λ w. refusal_in (step_answer m setter d.found (kept_in d.answer) w (told m c setter d.found w).refusal) ≡ None in
      fine_told m setter d.found (kept_in d.answer) Reserve (told m c setter d.found Reserve).refusal (subst P goes.word (ap refusal_in turn.answer ∙ goes.fine))

  number : (k : ℕ) × (least_free m f ≡ Some k)
  number = number_by m f (least_free m f) refl fine

  abbrev n : ℕ
  n = number.0

  free : (is_taken m f n ≡ false) × (n < 0 + HANDLES)
  free = least_from_free (is_taken m f) 0 HANDLES n number.1

  abbrev g : Option InFlight → Option InFlight
  g = option_map (with_number (Some n))

  abbrev later : State
  later = with_call m c (with_number (Some n))

  pub reserve_gives : after m (entry_by c d) ≡ with_call m c (with_number (least_free m f))
  reserve_gives = went m c d Reserve setter turn.is goes.word ∙ ap (λ r. unless_refused m c r (reserve m c setter)) goes.fine

  new : after m (entry_by c d) ≡ later
  new = reserve_gives ∙ ap (λ v. with_call m c (with_number v)) number.1

  legal : IsLegalState later
  legal = let Q : State → Type 0 = λ v. IsLegalState v in subst Q new (goes_on m (entry_by c d) l goes.allowed)

  at : slice_get m.calls c ≡ Some (Some setter)
  at = call_stands m c setter turn.is

  there : slice_get later.calls c ≡ Some (g (Some setter))
  there = slice_get-at_place_same m.calls c g ∙ ap (option_map g) at

  none : setter.reserved ≡ None
  none =
      let plan : InPlan setter Reserve = in_plan setter Reserve (turn.word ∙ goes.word) refl in
      let s = stands_in_plan setter Reserve plan in
      let has : Has setter 0 0 0 = (create_has setter s.kind ((reached m l).phased c setter turn.is) plan.fine s.creates).begun s.at in
      none_reserved setter.reserved has.numbers_are

  parts : (list_any (has_handle f n) m.objects ≡ false) × (list_any (reserves f n) m.calls ≡ false)
  parts = or_parts (list_any (has_handle f n) m.objects) (list_any (reserves f n) m.calls) free.0

  unpublished : published m f n ≡ None
  unpublished = not_found (is_published_at f n) m.objects
      (list_any-none (is_published_at f n) m.objects (λ x k. and_no (has_handle f n x) (not (is_made x.phase)) (fails_any (has_handle f n) x m.objects parts.0 k)))

  holds_it : reserves f n (g (Some setter)) ≡ true
  holds_it = ap (λ b. b && (n == n)) (eq-eqb f f refl) ∙ eq-eqb n n refl

  is_set : slot_on later f n ≡ Reserved
  is_set =
      let taken : is_taken later f n ≡ true = ap (λ b. b || list_any (reserves f n) later.calls) parts.0 ∙ any_at (reserves f n) later.calls c (g (Some setter)) there holds_it in
      ap (λ p. slot_for p (is_taken later f n)) unpublished ∙ ap (λ b. slot_for None b) taken

  apart_set : (k i : ℕ) → (k ≡ f → i ≡ n → ⊥) → (b : Bool) → (f == k) ≡ b → reserves k i (g (Some setter)) ≡ false
  apart_set k i apart true e = ap (λ v. v && (n == i)) e ∙ ne_eqb n i (λ same. apart (sym (eqb-true f k e)) (sym same))
  apart_set k i apart false e = ap (λ v. v && (n == i)) e

  others : (k i : ℕ) → (k ≡ f → i ≡ n → ⊥) → slot_on later k i ≡ slot_on m k i
  others k i apart =
      ap (λ b. slot_for (published m k i) (list_any (has_handle k i) m.objects || b)) (any_alike (reserves k i) g m.calls c (λ x e.
      let same : Some setter ≡ x = same_Some _ _ (sym at ∙ e) in
      let P : Option InFlight → Type 0 = λ v. reserves k i (g v) ≡ reserves k i v in
      subst P same (apart_set k i apart (f == k) refl ∙ sym (ap (λ r. (f == k) && is_the_number i r) none ∙ and_last (f == k)))))

  words : (i : ℕ) → word_on m.calls i ≡ word_on later.calls i
  words i =
      sym (ap (λ b. word_for b (reads_on later.calls i)) (any_alike (locks i) g m.calls c (λ x e. elim x as (λ v. locks i (g v) ≡ locks i v) [ None ↦ refl | Some k ↦ refl ]))
      ∙ ap (λ r. word_for (list_any (locks i) m.calls) r) (sum_alike (looks_by i) g m.calls c (λ x e. elim x as (λ v. looks_by i (g v) ≡ looks_by i v) [ None ↦ refl | Some k ↦ refl ])))

  -- what the table of the file gives and becomes
  module _ (tables : List (List Slot)) (files : length tables ≡ FILES) (are : AreTables tables m) (size : HasAllNumbers (slice_get tables f)) where
    file : f < FILES
    file = ((bounded later legal).numbers c n (with_number (Some n) setter) (ap (λ v. (elim v as (λ _. Option InFlight) [ None ↦ None | Some slot ↦ slot ])) there) refl).0

    abbrev table : List Slot
    table = get_or tables f []

    is_table : slice_get tables f ≡ Some table
    is_table = slice_get-get_or tables f [] (omega (arith, file, files))

    sized : length table ≡ HANDLES
    sized = let P : Option (List Slot) → Type 0 = λ v. HasAllNumbers v in subst P is_table size

    least : least_free_in table ≡ Some n
    least = least_tells tables m f table is_table are sized ∙ number.1

    pub number_least : least_free_in (table_at tables f) ≡ least_free m f
    number_least = ap (λ t. least_free_in (table_in t)) is_table ∙ (least ∙ sym number.1)

    set_there : at_place tables f (λ t. reserved_if (least_free_in t) t) ≡ at_place tables f (λ t. slice_set t n Reserved)
    set_there =
        at_place_write tables f (λ t. reserved_if (least_free_in t) t) table is_table
        ∙ (ap (λ v. slice_set tables f (reserved_if v table)) least ∙ sym (at_place_write tables f (λ t. slice_set t n Reserved) table is_table))

    low : n < length (table_at tables f)
    low = let e : length (table_at tables f) ≡ HANDLES = ap (λ t. length (table_in t)) is_table ∙ sized in omega (arith, free.1, e)

    tabled : (tables' : List (List Slot)) → tables' ≡ at_place tables f (λ t. reserved_if (least_free_in t) t) → AreTables tables' later
    tabled tables' gives =
        let P : List (List Slot) → Type 0 = λ v. AreTables v later in
        subst P (sym (gives ∙ set_there)) (tables_set tables m later f n Reserved (omega (arith, file, files)) low are (sym is_set) others)

  pub stored_reserve : (marks : List Mark) (tables tables' : List (List Slot)) (doomed standing : List ℕ) → IsStored m marks tables doomed standing → HasAllNumbers (slice_get tables f) → tables' ≡ at_place tables f (λ t. reserved_if (least_free_in t) t) → IsStored (after m (entry_by c d)) marks tables' doomed standing
  stored_reserve marks tables tables' doomed standing s size gives =
      let P : State → Type 0 = λ v. IsStored v marks tables' doomed standing in
      subst P (sym new) (record {
        legal = legal;
        marked = s.marked ∙ marks_alike (mark_on m) (mark_on later) m.objects (λ i. mark_alike (mark_on m i) (mark_on later i) (words i) refl);
        files = ap length gives ∙ (length-at_place tables f (λ t. reserved_if (least_free_in t) t) ∙ s.files);
        tabled = tabled tables s.files s.tabled size tables' gives;
        dooms = s.dooms;
        stands = s.stands;
      })

  -- the same of the call by its name, with the number that its table gives
  pub stored_set : (call : InFlight) → call_of m c ≡ Some call → (given : Option ℕ) (marks : List Mark) (tables tables' : List (List Slot)) (doomed standing : List ℕ) → IsStored m marks tables doomed standing → HasAllNumbers (slice_get tables call.file) → given ≡ least_free_in (table_at tables call.file) → tables' ≡ at_place tables call.file (λ t. reserved_if (least_free_in t) t) → (after m (entry_by c d) ≡ with_call m c (with_number given)) × IsStored (with_call m c (with_number given)) marks tables' doomed standing
  stored_set call is given marks tables tables' doomed standing s =
      let P : ℕ → Type 0 = λ k. HasAllNumbers (slice_get tables k) → given ≡ least_free_in (table_at tables k) → tables' ≡ at_place tables k (λ t. reserved_if (least_free_in t) t) → (after m (entry_by c d) ≡ with_call m c (with_number given)) × IsStored (with_call m c (with_number given)) marks tables' doomed standing in
      let Q : State → Type 0 = λ v. IsStored v marks tables' doomed standing in
      subst P (ap (λ (v : InFlight). v.file) (same_Some _ _ (sym turn.is ∙ is))) (λ size e gives. (
      let same : after m (entry_by c d) ≡ with_call m c (with_number given) = reserve_gives ∙ ap (λ v. with_call m c (with_number v)) (sym (e ∙ number_least tables s.files s.tabled size)) in
      (same, subst Q same (stored_reserve marks tables tables' doomed standing s size gives))))
