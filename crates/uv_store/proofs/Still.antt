-- Entries that leave what is kept beside the state.
use Rattle.std.proofs.Common.{◌≡◌, ℕ, zero, suc, ◌+◌, Bool, List, [], ◌∷◌, Option, Some, length, refl, ap, sym, ◌∙◌}
use Rattle.std.specs.Prelude.{slice_get, find, ◌||◌, sum_by, count_by}
use Rattle.std.specs.List.{list_any}
use Rattle.std.proofs.lemmas.List.Sums.{sum_by-cons}
use Rattle.uv_num.specs.declared.limits.TheConstants.{FILES}
use Rattle.uv_num.specs.Place.{at_place}
use Rattle.uv_num.proofs.PlaceLaws.{at_place-cons}
use Rattle.uv_machine.specs.declared.call.InFlight.{InFlight}
use Rattle.uv_machine.specs.declared.object.Object.{Object}
use Rattle.uv_machine.specs.declared.state.State.{State}
use Rattle.uv_machine.specs.Objects.{has_handle, is_published_at, is_doomed_in, is_standing_in}
use Rattle.uv_machine.specs.Plans.{reserves, locks}
use Rattle.uv_machine.specs.States.{published}
use Rattle.uv_handles.specs.declared.slot.Slot.{Slot}
use Rattle.uv_store.specs.declared.mark.Mark.{Mark}
use Rattle.uv_store.specs.Counts.{AreCounts}
use Rattle.uv_store.specs.Going.{IsStill}
use Rattle.uv_store.specs.Marks.{looks_by, reads_on, word_for, word_on, users_on, mark_on, marks_by}
use Rattle.uv_store.specs.Stored.{IsLegalState, IsStored}
use Rattle.uv_store.specs.Tables.{slot_for, AreTables}

-- A change at one place that a test or a weight doesn't see.

pub any_alike : {X : Type 0} (p : X → Bool) (g : X → X) (xs : List X) (i : ℕ) → ((x : X) → slice_get xs i ≡ Some x → p (g x) ≡ p x) → list_any p (at_place xs i g) ≡ list_any p xs
any_alike p g [] i same = refl
any_alike p g (y ∷ ys) zero same = ap (λ b. b || list_any p ys) (same y refl)
any_alike p g (y ∷ ys) (suc i) same = ap (list_any p) (at_place-cons y ys i g) ∙ ap (λ b. p y || b) (any_alike p g ys i same)

pub sum_alike : {X : Type 0} (f : X → ℕ) (g : X → X) (xs : List X) (i : ℕ) → ((x : X) → slice_get xs i ≡ Some x → f (g x) ≡ f x) → sum_by f (at_place xs i g) ≡ sum_by f xs
sum_alike f g [] i same = refl
sum_alike f g (y ∷ ys) zero same = sum_by-cons f (g y) ys ∙ (ap (λ n. n + sum_by f ys) (same y refl) ∙ sym (sum_by-cons f y ys))
sum_alike f g (y ∷ ys) (suc i) same =
    ap (sum_by f) (at_place-cons y ys i g) ∙ (sum_by-cons f y (at_place ys i g) ∙ (ap (λ n. f y + n) (sum_alike f g ys i same) ∙ sym (sum_by-cons f y ys)))

-- a call that holds and has set aside what it did
pub record IsAlike (g : Option InFlight → Option InFlight) (x : Option InFlight) : Type 0 where
  pub looks : (o : ℕ) → looks_by o (g x) ≡ looks_by o x
  pub locks : (o : ℕ) → locks o (g x) ≡ locks o x
  pub numbers : (f n : ℕ) → reserves f n (g x) ≡ reserves f n x

pub still_calls : (m m' : State) (c : ℕ) (g : Option InFlight → Option InFlight) → m'.objects ≡ m.objects → m'.calls ≡ at_place m.calls c g → ((x : Option InFlight) → slice_get m.calls c ≡ Some x → IsAlike g x) → IsStill m m'
still_calls m m' c g objects calls alike = record {
  objects = objects;
  words = λ o.
      ap (λ v. word_on v o) calls
      ∙ (ap (λ b. word_for b (reads_on (at_place m.calls c g) o)) (any_alike (locks o) g m.calls c (λ x e. (alike x e).locks o))
      ∙ ap (λ n. word_for (list_any (locks o) m.calls) n) (sum_alike (looks_by o) g m.calls c (λ x e. (alike x e).looks o)));
  numbers = λ f n. ap (list_any (reserves f n)) calls ∙ any_alike (reserves f n) g m.calls c (λ x e. (alike x e).numbers f n);
}

pub still_same : (m m' : State) → m'.objects ≡ m.objects → m'.calls ≡ m.calls → IsStill m m'
still_same m m' objects calls = record {
  objects = objects;
  words = λ o. ap (λ v. word_on v o) calls;
  numbers = λ f n. ap (list_any (reserves f n)) calls;
}

-- What is kept beside the state stays.

pub marks_alike : (g h : ℕ → Mark) (xs : List Object) → ((i : ℕ) → g i ≡ h i) → marks_by g xs ≡ marks_by h xs
marks_alike g h [] same = refl
marks_alike g h (x ∷ xs) same = ap (λ k. k ∷ marks_by g xs) (same x.id) ∙ ap (λ ks. h x.id ∷ ks) (marks_alike g h xs same)

pub mark_alike : (k k' : Mark) → k.word ≡ k'.word → k.users ≡ k'.users → k ≡ k'
mark_alike k k' e h = ap (λ v. record { word = v; users = k.users }) e ∙ ap (λ v. record { word = k'.word; users = v }) h

module _ (m m' : State) (objects : m'.objects ≡ m.objects) where
  pub users_still : (o : ℕ) → users_on m'.objects o ≡ users_on m.objects o
  users_still o = ap (λ v. users_on v o) objects

  pub tables_still : (tables : List (List Slot)) → ((f n : ℕ) → list_any (reserves f n) m'.calls ≡ list_any (reserves f n) m.calls) → AreTables tables m → AreTables tables m'
  tables_still tables numbers are f n =
      are f n
      ∙ (ap (λ v. slot_for (find (is_published_at f n) v) (list_any (has_handle f n) v || list_any (reserves f n) m.calls)) (sym objects)
      ∙ ap (λ b. slot_for (published m' f n) (list_any (has_handle f n) m'.objects || b)) (sym (numbers f n)))

  pub counts_still : (counts : List ℕ) (p : ℕ → Object → Bool) → AreCounts counts p m.objects → AreCounts counts p m'.objects
  counts_still counts p are f = are f ∙ ap (count_by (p f)) (sym objects)

-- what is kept beside one state is kept beside another in which it stays
pub stored_beside : (m m' : State) (marks : List Mark) (tables : List (List Slot)) (doomed standing : List ℕ) → marks ≡ marks_by (mark_on m) m.objects → length tables ≡ FILES → AreTables tables m → AreCounts doomed is_doomed_in m.objects → AreCounts standing is_standing_in m.objects → IsStill m m' → IsLegalState m' → IsStored m' marks tables doomed standing
stored_beside m m' marks tables doomed standing marked files tabled dooms stands still legal = record {
  legal = legal;
  marked =
      marked
      ∙ (marks_alike (mark_on m) (mark_on m') m.objects (λ i. mark_alike (mark_on m i) (mark_on m' i) (sym (still.words i)) (sym (users_still m m' still.objects i)))
      ∙ ap (marks_by (mark_on m')) (sym still.objects));
  files = files;
  tabled = tables_still m m' still.objects tables still.numbers tabled;
  dooms = counts_still m m' still.objects doomed is_doomed_in dooms;
  stands = counts_still m m' still.objects standing is_standing_in stands;
}

pub stored_still : (m m' : State) (marks : List Mark) (tables : List (List Slot)) (doomed standing : List ℕ) → IsStored m marks tables doomed standing → IsStill m m' → IsLegalState m' → IsStored m' marks tables doomed standing
stored_still m m' marks tables doomed standing s still legal = stored_beside m m' marks tables doomed standing s.marked s.files s.tabled s.dooms s.stands still legal
