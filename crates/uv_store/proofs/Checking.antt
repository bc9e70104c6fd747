-- An object checked by its destroy, in what is kept beside the state: it is doomed where it was live, and a husk stays one.
use Rattle.std.proofs.Common.{◌≡◌, ℕ, zero, suc, Bool, true, false, List, [], ◌∷◌, Option, Some, None, length, map, refl, ap, sym, ◌∙◌, subst}
use Rattle.std.specs.Prelude.{slice_get, option_map, if◌then◌else◌}
use Rattle.std.proofs.lemmas.Bool.{eqb-true}
use Rattle.std.proofs.lemmas.Option.{same_Some}
use Rattle.uv_num.specs.declared.limits.TheConstants.{FILES}
use Rattle.uv_num.specs.Place.{at_place}
use Rattle.uv_num.proofs.PlaceLaws.{at_place-cons}
use Rattle.uv_machine.specs.declared.entry.CallStep.{CallStep}
use Rattle.uv_machine.specs.declared.entry.Word.TheVariants.{Check}
use Rattle.uv_machine.specs.declared.call.InFlight.{InFlight}
use Rattle.uv_machine.specs.declared.object.Object.{Object}
use Rattle.uv_machine.specs.declared.object.Phase.{Phase}
use Rattle.uv_machine.specs.declared.object.Phase.TheVariants as phase
use Rattle.uv_machine.specs.declared.object.Change.TheVariants.{ToDoomed}
use Rattle.uv_machine.specs.declared.state.State.{State}
use Rattle.uv_machine.specs.Objects.{has_id, is_live, doomed_from, with_change, on_object}
use Rattle.uv_machine.specs.Plans.{moved_on}
use Rattle.uv_machine.specs.States.{object_with}
use Rattle.uv_machine.specs.Effects.{check, with_object, unless_refused}
use Rattle.uv_machine.specs.Histories.{after}
use Rattle.uv_machine.proofs.Members.{Passes-find}
use Rattle.uv_machine.proofs.Turns.{IsTurn, IsTurn-allowed}
use Rattle.uv_handles.specs.declared.slot.Slot.{Slot}
use Rattle.uv_store.specs.declared.counts.CountChange.TheVariants.{OneMore}
use Rattle.uv_store.specs.declared.mark.Mark.{Mark}
use Rattle.uv_store.specs.Counts.{recounted, counted_if_live}
use Rattle.uv_store.specs.Going.{Goes, entry_by}
use Rattle.uv_store.specs.Stored.{IsLegalState, IsStored}
use Rattle.uv_store.proofs.Killing.{stored_doomed_as}
use Rattle.uv_store.proofs.Legal.{goes_on, rises}
use Rattle.uv_store.proofs.Placing.{turned_object, no_object}
use Rattle.uv_store.proofs.Reading.{place_in}
use Rattle.uv_store.proofs.Still.{IsAlike, still_calls, stored_still}
use Rattle.uv_store.proofs.Stored.{went}

-- What isn't live stays as it is.

doomed_same : (p : Phase) → is_live p ≡ false → doomed_from p ≡ p
doomed_same phase.Made e = refl
doomed_same phase.Live e = cc
doomed_same phase.Doomed e = refl
doomed_same phase.Husk e = refl

same_place : {X : Type 0} (g : X → X) (xs : List X) (i : ℕ) → ((x : X) → slice_get xs i ≡ Some x → g x ≡ x) → at_place xs i g ≡ xs
same_place g [] i same = refl
same_place g (y ∷ ys) zero same = ap (λ v. v ∷ ys) (same y refl)
same_place g (y ∷ ys) (suc i) same = at_place-cons y ys i g ∙ ap (λ v. y ∷ v) (same_place g ys i same)

moved_alike : (x : Option InFlight) → IsAlike (option_map moved_on) x
moved_alike None = record { looks = λ o. refl; locks = λ o. refl; numbers = λ f n. refl }
moved_alike (Some call) = record { looks = λ o. refl; locks = λ o. refl; numbers = λ f n. refl }

module _ (m : State) (l : IsLegalState m) (c : ℕ) (d : CallStep) (goes : Goes m c d Check) where
  turn : IsTurn m c d.word d.object d.found d.answer (after m (entry_by c d))
  turn = IsTurn-allowed m c d.word d.object d.found d.answer goes.allowed

  pub check_gives : after m (entry_by c d) ≡ check m c d.object
  check_gives = went m c d Check turn.call turn.is goes.word ∙ ap (λ r. unless_refused m c r (check m c d.object)) goes.fine

  legal : IsLegalState (check m c d.object)
  legal = let Q : State → Type 0 = λ v. IsLegalState v in subst Q check_gives (goes_on m (entry_by c d) l goes.allowed)

  -- where the objects stay as they are
  stays : (marks : List Mark) (tables : List (List Slot)) (doomed standing : List ℕ) → IsStored m marks tables doomed standing → map (on_object d.object ToDoomed) m.objects ≡ m.objects → IsStored (check m c d.object) marks tables doomed standing
  stays marks tables doomed standing s same =
      stored_still m (check m c d.object) marks tables doomed standing s (still_calls m (check m c d.object) c (option_map moved_on) same refl (λ x e. moved_alike x)) legal

  unlive : (x : Object) → object_with m d.object ≡ Some x → is_live x.phase ≡ false → map (on_object d.object ToDoomed) m.objects ≡ m.objects
  unlive x is dead =
      let p = Passes-find (has_id d.object) x m.objects is in
      let place = place_in x m.objects p.within in
      let keeps : with_change ToDoomed x ≡ x = ap (λ v. record x { phase = v }) (doomed_same x.phase dead) in
      sym (turned_object m.objects d.object place.0 ToDoomed (rises m l) (record { item = x; at = place.1; id = eqb-true x.id d.object p.test }))
      ∙ same_place (with_change ToDoomed) m.objects place.0 (λ y e. (
      let same : x ≡ y = same_Some _ _ (sym place.1 ∙ e) in
      let P : Object → Type 0 = λ v. with_change ToDoomed v ≡ v in
      subst P same keeps))

  by_phase : (x : Object) → object_with m d.object ≡ Some x → (b : Bool) → is_live x.phase ≡ b → (marks : List Mark) (tables : List (List Slot)) (doomed doomed' standing : List ℕ) → IsStored m marks tables doomed standing → length doomed ≡ FILES → doomed' ≡ (if b then at_place doomed x.file (recounted OneMore) else doomed) → IsStored (check m c d.object) marks tables doomed' standing
  by_phase x is true live marks tables doomed doomed' standing s size gives =
      stored_doomed_as m l d.object x is live (check m c d.object) (still_calls (with_object m d.object ToDoomed) (check m c d.object) c (option_map moved_on) refl refl (λ y e. moved_alike y)) marks tables doomed doomed' standing s gives size legal
  by_phase x is false dead marks tables doomed doomed' standing s size gives =
      let P : List ℕ → Type 0 = λ v. IsStored (check m c d.object) marks tables v standing in
      subst P (sym gives) (stays marks tables doomed standing s (unlive x is dead))

  by_object : (x : Option Object) → object_with m d.object ≡ x → (marks : List Mark) (tables : List (List Slot)) (doomed doomed' standing : List ℕ) → IsStored m marks tables doomed standing → length doomed ≡ FILES → doomed' ≡ counted_if_live x doomed → IsStored (check m c d.object) marks tables doomed' standing
  by_object None is marks tables doomed doomed' standing s size gives =
      let P : List ℕ → Type 0 = λ v. IsStored (check m c d.object) marks tables v standing in
      subst P (sym gives) (stays marks tables doomed standing s (no_object m.objects d.object ToDoomed is))
  by_object (Some x) is marks tables doomed doomed' standing s size gives =
      by_phase x is (is_live x.phase) refl marks tables doomed doomed' standing s size gives

  pub stored_check : (marks : List Mark) (tables : List (List Slot)) (doomed doomed' standing : List ℕ) → IsStored m marks tables doomed standing → length doomed ≡ FILES → doomed' ≡ counted_if_live (object_with m d.object) doomed → IsStored (check m c d.object) marks tables doomed' standing
  stored_check = by_object (object_with m d.object) refl
