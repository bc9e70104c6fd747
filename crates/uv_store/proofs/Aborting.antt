-- A number given back, in what is kept beside the state.
use Rattle.std.proofs.Common.{◌≡◌, ℕ, Bool, true, false, List, [], ◌∷◌, Option, Some, None, length, cond, refl, ap, sym, ◌∙◌, subst, arith}
use Rattle.std.specs.Prelude.{slice_get, find, ◌==◌, ◌||◌, ◌&&◌, not, nat_lt, count_by, option_map}
use Rattle.std.specs.List.{list_any}
use Rattle.std.proofs.lemmas.Bool.{eq-eqb, ne_eqb, eqb-true}
use Rattle.std.proofs.lemmas.Option.{none-some, same_Some}
use Rattle.uv_num.specs.declared.limits.TheConstants.{FILES}
use Rattle.uv_num.specs.Place.{at_place}
use Rattle.uv_num.proofs.PlaceLaws.{sum_by-at_place, length-at_place}
use Rattle.uv_machine.specs.declared.entry.CallStep.{CallStep}
use Rattle.uv_machine.specs.declared.entry.Word.TheVariants.{Abort}
use Rattle.uv_machine.specs.declared.call.InFlight.{InFlight}
use Rattle.uv_machine.specs.declared.state.State.{State}
use Rattle.uv_machine.specs.Objects.{has_handle, is_published_at, is_made}
use Rattle.uv_machine.specs.Plans.{is_the_number, reserves, locks, without_number}
use Rattle.uv_machine.specs.States.{call_of, published, is_taken}
use Rattle.uv_machine.specs.Effects.{with_call, unless_refused}
use Rattle.uv_machine.specs.Histories.{after}
use Rattle.uv_machine.proofs.Calling.{any_at}
use Rattle.uv_machine.proofs.Members.{fails_any, list_any-none}
use Rattle.uv_machine.proofs.OwnCall.{call_stands}
use Rattle.uv_machine.proofs.Planned.{is_closing, closing_abort}
use Rattle.uv_machine.proofs.Turns.{IsTurn, IsTurn-allowed}
use Rattle.uv_handles.specs.declared.slot.Slot.{Slot}
use Rattle.uv_handles.specs.declared.slot.Slot.TheVariants.{Free, Reserved}
use Rattle.uv_handles.specs.Table.{is_free, is_reserved, is_reserved_in, freed_at}
use Rattle.uv_handles.proofs.Changes.{taken_within}
use Rattle.uv_store.specs.declared.mark.Mark.{Mark}
use Rattle.uv_store.specs.Going.{Goes, entry_by}
use Rattle.uv_store.specs.Marks.{looks_by, reads_on, word_for, word_on, mark_on}
use Rattle.uv_store.specs.Stored.{IsLegalState, IsStored}
use Rattle.uv_store.specs.Tables.{table_at, slot_for, slot_on, AreTables}
use Rattle.uv_store.proofs.Beside.{any_count, lt_false}
use Rattle.uv_store.proofs.Legal.{goes_on, bounded}
use Rattle.uv_store.proofs.Still.{any_alike, sum_alike, marks_alike, mark_alike}
use Rattle.uv_store.proofs.Stored.{went}
use Rattle.uv_store.proofs.Tabled.{tables_set}

pub no_count : (n : ℕ) (b : Bool) → nat_lt 0 n ≡ b → n ≡ 0 → b ≡ false
no_count n b e none = sym e ∙ (ap (nat_lt 0) none ∙ lt_false 0 0 (omega arith))

pub not_found : {X : Type 0} (p : X → Bool) (xs : List X) → list_any p xs ≡ false → find p xs ≡ None
not_found p [] e = refl
not_found {X} p (x ∷ xs) e =
    let by : (b : Bool) → (b || list_any p xs) ≡ false → cond b (Some x) (find p xs) ≡ None = λ b. elim b as (λ v. (v || list_any p xs) ≡ false → cond v (Some x) (find p xs) ≡ None) [ true ↦ λ h. cc | false ↦ λ h. not_found p xs h ] in
    by (p x) e

pub or_no : (a b : Bool) → a ≡ false → b ≡ false → (a || b) ≡ false
or_no a b e h = ap (λ v. v || b) e ∙ h

pub and_no : (a b : Bool) → a ≡ false → (a && b) ≡ false
and_no a b e = ap (λ v. v && b) e

one_of : (b : Bool) → b ≡ true → ◌≡◌ {A = ℕ} (cond b 1 0) 1
one_of b e = ap (λ v. cond v 1 0) e

module _ (m : State) (l : IsLegalState m) (c : ℕ) (call : InFlight) (n : ℕ) (is : call_of m c ≡ Some call) (own : call.reserved ≡ Some n) where
  abbrev pub g : Option InFlight → Option InFlight
  g = option_map without_number

  abbrev pub later : State
  later = with_call m c without_number

  at : slice_get m.calls c ≡ Some (Some call)
  at = call_stands m c call is

  holds_it : reserves call.file n (Some call) ≡ true
  holds_it = ap (λ r. (call.file == call.file) && is_the_number n r) own ∙ (ap (λ b. b && (n == n)) (eq-eqb call.file call.file refl) ∙ eq-eqb n n refl)

  abbrev weigh : Option InFlight → ℕ
  weigh x = cond (reserves call.file n x) 1 0

  -- no other call has set the number aside, and no object has it
  alone : (count_by (has_handle call.file n) m.objects ≡ 0) × (count_by (reserves call.file n) later.calls ≡ 0)
  alone =
      let here = sum_by-at_place weigh m.calls c g (Some call) at in
      let one : weigh (Some call) ≡ 1 = one_of (reserves call.file n (Some call)) holds_it in
      let none : weigh (g (Some call)) ≡ 0 = ap (λ b. cond b 1 0) (and_last (call.file == call.file)) in
      let most = (bounded m l).once call.file n in
      (omega (arith, here, one, none, most), omega (arith, here, one, none, most))
    where
      and_last : (b : Bool) → (b && false) ≡ false
      and_last true = refl
      and_last false = refl

  unhandled : list_any (has_handle call.file n) m.objects ≡ false
  unhandled = no_count _ (list_any (has_handle call.file n) m.objects) (any_count (has_handle call.file n) m.objects) alone.0

  unset : list_any (reserves call.file n) later.calls ≡ false
  unset = no_count _ (list_any (reserves call.file n) later.calls) (any_count (reserves call.file n) later.calls) alone.1

  unpublished : published m call.file n ≡ None
  unpublished = not_found (is_published_at call.file n) m.objects
      (list_any-none (is_published_at call.file n) m.objects (λ x k. and_no (has_handle call.file n x) (not (is_made x.phase)) (fails_any (has_handle call.file n) x m.objects unhandled k)))

  -- before, the number was set aside
  pub was_reserved : slot_on m call.file n ≡ Reserved
  was_reserved =
      let taken : is_taken m call.file n ≡ true = ap (λ b. b || list_any (reserves call.file n) m.calls) unhandled ∙ any_at (reserves call.file n) m.calls c (Some call) at holds_it in
      ap (λ p. slot_for p (is_taken m call.file n)) unpublished ∙ ap (λ b. slot_for None b) taken

  is_free_now : slot_on later call.file n ≡ Free
  is_free_now =
      ap (λ p. slot_for p (is_taken later call.file n)) unpublished ∙ ap (λ b. slot_for None b) (or_no _ _ unhandled unset)

  others : (k i : ℕ) → (k ≡ call.file → i ≡ n → ⊥) → slot_on later k i ≡ slot_on m k i
  others k i apart =
      ap (λ b. slot_for (published m k i) (list_any (has_handle k i) m.objects || b)) (any_alike (reserves k i) g m.calls c (λ x e.
      let same : Some call ≡ x = same_Some _ _ (sym at ∙ e) in
      let P : Option InFlight → Type 0 = λ v. reserves k i (g v) ≡ reserves k i v in
      subst P same (by_file (call.file == k) (call.file == k) refl)))
    where
      and_last : (b : Bool) → (b && false) ≡ false
      and_last true = refl
      and_last false = refl

      by_file : (b d : Bool) → (call.file == k) ≡ d → ((call.file == k) && false) ≡ ((call.file == k) && is_the_number i call.reserved)
      by_file b false e = ap (λ v. v && false) e ∙ sym (ap (λ v. v && is_the_number i call.reserved) e)
      by_file b true e =
          let file : k ≡ call.file = sym (eqb-true call.file k e) in
          and_last (call.file == k)
          ∙ sym (ap (λ r. (call.file == k) && is_the_number i r) own ∙ (ap (λ v. (call.file == k) && v) (ne_eqb n i (λ same. apart file (sym same))) ∙ and_last (call.file == k)))

  pub reserved_before : (tables : List (List Slot)) → AreTables tables m → is_reserved_in (table_at tables call.file) n ≡ true
  reserved_before tables are = ap is_reserved (are call.file n ∙ was_reserved)

  pub stored_abort : (marks : List Mark) (tables tables' : List (List Slot)) (doomed standing : List ℕ) → IsStored m marks tables doomed standing → tables' ≡ at_place tables call.file (freed_at n) → length tables' ≡ FILES → IsLegalState later → IsStored later marks tables' doomed standing
  stored_abort marks tables tables' doomed standing s gives size legal =
      let file = ((bounded m l).numbers c n call is own).0 in
      let taken = ap (λ v. not (is_free v)) (s.tabled call.file n ∙ was_reserved) in
      let low = taken_within (table_at tables call.file) n taken in
      let words : (i : ℕ) → word_on m.calls i ≡ word_on later.calls i = λ i.
      sym (ap (λ b. word_for b (reads_on later.calls i)) (any_alike (locks i) g m.calls c (λ x e. elim x as (λ v. locks i (g v) ≡ locks i v) [ None ↦ refl | Some k ↦ refl ]))
      ∙ ap (λ r. word_for (list_any (locks i) m.calls) r) (sum_alike (looks_by i) g m.calls c (λ x e. elim x as (λ v. looks_by i (g v) ≡ looks_by i v) [ None ↦ refl | Some k ↦ refl ]))) in
      let P : List (List Slot) → Type 0 = λ v. AreTables v later in
      record {
        legal = legal;
        marked = s.marked ∙ marks_alike (mark_on m) (mark_on later) m.objects (λ i. mark_alike (mark_on m i) (mark_on later i) (words i) refl);
        files = size;
        tabled = subst P (sym gives) (tables_set tables m later call.file n Free (omega (arith, file, s.files)) low s.tabled (sym is_free_now) others);
        dooms = s.dooms;
        stands = s.stands;
      }

-- The step by which a call gives its number back.

module _ (m : State) (l : IsLegalState m) (c : ℕ) (d : CallStep) (goes : Goes m c d Abort) where
  turn : IsTurn m c d.word d.object d.found d.answer (after m (entry_by c d))
  turn = IsTurn-allowed m c d.word d.object d.found d.answer goes.allowed

  new : after m (entry_by c d) ≡ with_call m c without_number
  new = went m c d Abort turn.call turn.is goes.word ∙ ap (λ r. unless_refused m c r (with_call m c without_number)) goes.fine

  -- there is a call, and it has set a number aside
  pub has_call : call_of m c ≡ None → ⊥
  has_call e = none-some _ (sym e ∙ turn.is)

  pub has_number : (call : InFlight) → call_of m c ≡ Some call → call.reserved ≡ None → ⊥
  has_number call is none =
      let same : turn.call ≡ call = same_Some _ _ (sym turn.is ∙ is) in
      let has = closing_abort turn.call (is_closing turn.call Abort (turn.word ∙ goes.word) refl).1 in
      none-some _ (sym none ∙ (ap (λ (v : InFlight). v.reserved) (sym same) ∙ has.1))

  pub stored_gives : (call : InFlight) (n : ℕ) → call_of m c ≡ Some call → call.reserved ≡ Some n → (marks : List Mark) (tables tables' : List (List Slot)) (doomed standing : List ℕ) → IsStored m marks tables doomed standing → tables' ≡ at_place tables call.file (freed_at n) → IsStored (after m (entry_by c d)) marks tables' doomed standing
  stored_gives call n is own marks tables tables' doomed standing s gives =
      let P : State → Type 0 = λ v. IsStored v marks tables' doomed standing in
      let Q : State → Type 0 = λ v. IsLegalState v in
      subst P (sym new) (stored_abort m l c call n is own marks tables tables' doomed standing s gives (ap length gives ∙ (length-at_place tables call.file (freed_at n) ∙ s.files)) (subst Q new (goes_on m (entry_by c d) l goes.allowed)))
