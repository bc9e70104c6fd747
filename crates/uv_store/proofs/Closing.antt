-- The end of a file, in what is kept beside the state: no call is on it, and its objects are husks, which use nothing.
use Rattle.std.proofs.Common.{◌≡◌, ◌≢◌, ℕ, Bool, true, false, List, Option, Some, None, length, cond, refl, ap, sym, ◌∙◌, subst, arith}
use Rattle.std.specs.Prelude.{filter, not, ◌==◌, ◌||◌, ◌&&◌, count_by}
use Rattle.std.specs.List.{list_any}
use Rattle.std.proofs.lemmas.Bool.{eq-eqb, ne_eqb, eqb-true, and_parts}
use Rattle.uv_num.specs.declared.limits.TheConstants.{FILES}
use Rattle.uv_num.specs.declared.ids.Ids.{Ids}
use Rattle.uv_num.specs.Ids.{ids_of, is_number}
use Rattle.uv_num.specs.Place.{at_place}
use Rattle.uv_num.proofs.PlaceLaws.{length-at_place}
use Rattle.uv_machine.specs.declared.entry.Entry.TheVariants.{Closed}
use Rattle.uv_machine.specs.declared.call.InFlight.{InFlight}
use Rattle.uv_machine.specs.declared.object.Object.{Object}
use Rattle.uv_machine.specs.declared.object.Phase.{Phase}
use Rattle.uv_machine.specs.declared.object.Phase.TheVariants as phase
use Rattle.uv_machine.specs.declared.state.State.{State}
use Rattle.uv_machine.specs.Objects.{in_file, has_handle, is_published_at, is_made, is_doomed, is_husk, is_doomed_in, is_standing_in}
use Rattle.uv_machine.specs.Plans.{reserves, is_call_on, is_the_number}
use Rattle.uv_machine.specs.States.{published, is_taken, is_quiet, is_closing, phase_of, has_standing}
use Rattle.uv_machine.specs.Effects.{not_in_file, after_closed}
use Rattle.uv_machine.specs.Histories.{Allowed, after}
use Rattle.uv_machine.specs.Reached.{IsIn}
use Rattle.uv_machine.proofs.Members.{Passes-filter, fails_any, list_any-none}
use Rattle.uv_handles.specs.declared.slot.Slot.{Slot}
use Rattle.uv_handles.specs.declared.slot.Slot.TheVariants.{Free}
use Rattle.uv_handles.specs.Table.{slot_in, empty_table}
use Rattle.uv_handles.proofs.Changes.{is_taken_in-empty_table}
use Rattle.uv_store.specs.declared.mark.Mark.{Mark}
use Rattle.uv_store.specs.Marks.{uses_by, mark_on, marks_by}
use Rattle.uv_store.specs.Stored.{IsLegalState, IsStored}
use Rattle.uv_store.specs.Tables.{table_at, slot_for, slot_on, AreTables, cleared}
use Rattle.uv_store.proofs.Aborting.{not_found, or_no, and_no}
use Rattle.uv_store.proofs.Beginning.{free_is}
use Rattle.uv_store.proofs.Kept.{sum_kept, any_kept, find_kept}
use Rattle.uv_store.proofs.Legal.{goes_on, reached}
use Rattle.uv_store.proofs.Still.{marks_alike, mark_alike}
use Rattle.uv_store.proofs.Tabled.{table_same, table_other}

not_true : (b : Bool) → not b ≡ true → b ≡ false
not_true true e = cc
not_true false e = refl

not_false : (b : Bool) → not b ≡ false → b ≡ true
not_false true e = refl
not_false false e = cc

and_false : (b : Bool) → (b && false) ≡ false
and_false true = refl
and_false false = refl

husk_only : (p : Phase) → is_husk p ≡ true → is_doomed p ≡ false
husk_only phase.Made e = cc
husk_only phase.Live e = cc
husk_only phase.Doomed e = cc
husk_only phase.Husk e = refl

abbrev one_by : (ℕ → Object → Bool) → ℕ → Object → ℕ
one_by p f y = cond (p f y) 1 0

module _ (m : State) (l : IsLegalState m) (f : ℕ) (allowed : Allowed m (Closed f)) where
  abbrev later : State
  later = after_closed m f

  abbrev keep : Object → Bool
  keep = not_in_file f

  may : (is_closing (phase_of m f) ≡ true) × ((is_quiet m f && not (has_standing m f)) ≡ true)
  may = and_parts (is_closing (phase_of m f)) (is_quiet m f && not (has_standing m f)) allowed.1

  quiet : list_any (is_call_on f) m.calls ≡ false
  quiet = not_true (list_any (is_call_on f) m.calls) (and_parts (is_quiet m f) (not (has_standing m f)) may.1).0

  none_stands : has_standing m f ≡ false
  none_stands = not_true (has_standing m f) (and_parts (is_quiet m f) (not (has_standing m f)) may.1).1

  -- What goes.

  of_file : (x : Object) → keep x ≡ false → in_file f x ≡ true
  of_file x e = not_false (in_file f x) e

  husk : (x : Object) → IsIn x m.objects → keep x ≡ false → is_husk x.phase ≡ true
  husk x k e =
      let none : is_standing_in f x ≡ false = fails_any (is_standing_in f) x m.objects none_stands k in
      not_false (is_husk x.phase) (sym (ap (λ b. b && not (is_husk x.phase)) (of_file x e)) ∙ none)

  unused : (i : ℕ) (x : Object) → IsIn x m.objects → keep x ≡ false → ◌≡◌ {A = ℕ} (uses_by i x) 0
  unused i x k e = ap (λ (v : Ids). count_by (is_number i) (ids_of v)) (((reached m l).graph.uses x k).husk (husk x k e))

  marks_now : (i : ℕ) → mark_on m i ≡ mark_on later i
  marks_now i = mark_alike (mark_on m i) (mark_on later i) refl (sym (sum_kept (uses_by i) keep m.objects (unused i)))

  doomed_now : (k : ℕ) → count_by (is_doomed_in k) m.objects ≡ count_by (is_doomed_in k) later.objects
  doomed_now k = sym (sum_kept (one_by is_doomed_in k) keep m.objects (λ x w e. ap (λ b. cond (in_file k x && b) 1 0) (husk_only x.phase (husk x w e)) ∙ ap (λ b. cond b 1 0) (and_false (in_file k x))))

  standing_now : (k : ℕ) → count_by (is_standing_in k) m.objects ≡ count_by (is_standing_in k) later.objects
  standing_now k = sym (sum_kept (one_by is_standing_in k) keep m.objects (λ x w e. ap (λ b. cond (in_file k x && not b) 1 0) (husk x w e) ∙ ap (λ b. cond b 1 0) (and_false (in_file k x))))

  -- The tables.

  unhandled : (n : ℕ) → list_any (has_handle f n) later.objects ≡ false
  unhandled n = list_any-none (has_handle f n) later.objects (λ x k. (
      let p = Passes-filter keep x m.objects k in
      and_no (in_file f x) (x.handle == n) (not_true (in_file f x) p.test)))

  unset : (n : ℕ) → list_any (reserves f n) m.calls ≡ false
  unset n = list_any-none (reserves f n) m.calls (λ s k. off s (fails_any (is_call_on f) s m.calls quiet k))
    where
      off : (s : Option InFlight) → is_call_on f s ≡ false → reserves f n s ≡ false
      off None e = refl
      off (Some call) e = and_no (call.file == f) (is_the_number n call.reserved) e

  free_now : (n : ℕ) → slot_on later f n ≡ Free
  free_now n =
      let out : published later f n ≡ None = not_found (is_published_at f n) later.objects
      (list_any-none (is_published_at f n) later.objects (λ x k. and_no (has_handle f n x) (not (is_made x.phase)) (fails_any (has_handle f n) x later.objects (unhandled n) k))) in
      ap (λ p. slot_for p (is_taken later f n)) out ∙ ap (λ b. slot_for None b) (or_no _ _ (unhandled n) (unset n))

  apart : (k n : ℕ) → k ≢ f → (x : Object) → IsIn x m.objects → keep x ≡ false → has_handle k n x ≡ false
  apart k n other x w e = and_no (x.file == k) (x.handle == n) (ne_eqb x.file k (λ same. other (sym same ∙ eqb-true x.file f (of_file x e))))

  others : (k n : ℕ) → k ≢ f → slot_on m k n ≡ slot_on later k n
  others k n other =
      ap (λ p. slot_for p (is_taken m k n)) (sym (find_kept (is_published_at k n) keep m.objects (λ x w e. and_no (has_handle k n x) (not (is_made x.phase)) (apart k n other x w e))))
      ∙ ap (λ b. slot_for (published later k n) (b || list_any (reserves k n) m.calls)) (sym (any_kept (has_handle k n) keep m.objects (apart k n other)))

  tabled : (tables : List (List Slot)) → length tables ≡ FILES → AreTables tables m → (k n : ℕ) (b : Bool) → (k == f) ≡ b → slot_in (table_at (at_place tables f cleared) k) n ≡ slot_on later k n
  tabled tables files are k n true e =
      let P : ℕ → Type 0 = λ v. slot_in (table_at (at_place tables f cleared) v) n ≡ slot_on later v n in
      subst P (sym (eqb-true k f e)) (ap (λ t. slot_in t n) (table_same tables f cleared (omega (arith, files, allowed.0))) ∙ (free_is (slot_in empty_table n) (is_taken_in-empty_table n) ∙ sym (free_now n)))
  tabled tables files are k n false e =
      let other : k ≢ f = λ same. (let has = eq-eqb k f same in cc) in
      ap (λ t. slot_in t n) (table_other tables f k cleared other) ∙ (are k n ∙ others k n other)

  pub stored_closed : (marks marks' : List Mark) (tables tables' : List (List Slot)) (doomed standing : List ℕ) → IsStored m marks tables doomed standing → marks' ≡ marks_by (mark_on m) (filter (not_in_file f) m.objects) → tables' ≡ at_place tables f cleared → IsStored (after m (Closed f)) marks' tables' doomed standing
  stored_closed marks marks' tables tables' doomed standing s is gives =
      let P : List (List Slot) → Type 0 = λ v. AreTables v later in
      record {
        legal = goes_on m (Closed f) l allowed;
        marked = is ∙ marks_alike (mark_on m) (mark_on later) later.objects marks_now;
        files = ap length gives ∙ (length-at_place tables f cleared ∙ s.files);
        tabled = subst P (sym gives) (λ k n. tabled tables s.files s.tabled k n (k == f) refl);
        dooms = λ k. s.dooms k ∙ doomed_now k;
        stands = λ k. s.stands k ∙ standing_now k;
      }
