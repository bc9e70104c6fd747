-- A call's exit, in what is kept beside the state: a destroy that was refused holds its object until now.
use Rattle.std.proofs.Common.{◌≡◌, ◌≢◌, ℕ, pos, negsuc, zero, suc, Bool, true, false, List, Option, Some, None, refl, ap, sym, ◌∙◌, subst, arith}
use Rattle.std.specs.Prelude.{slice_get, ◌&&◌, ◌==◌, nat_lt, count_by, option_map}
use Rattle.std.specs.List.{list_any}
use Rattle.std.proofs.lemmas.Bool.{eq-eqb, ne_eqb, eqb-true}
use Rattle.std.proofs.lemmas.Option.{same_Some}
use Rattle.uv_num.specs.declared.ids.Ids.{Ids}
use Rattle.uv_num.specs.declared.ids.Ids.TheVariants.{Empty}
use Rattle.uv_num.specs.Ids.{ids_of, is_number}
use Rattle.uv_num.specs.Place.{at_place}
use Rattle.uv_num.proofs.PlaceLaws.{slice_get-at_place_same, slice_get-at_place_other}
use Rattle.uv_machine.specs.declared.entry.CallStep.{CallStep}
use Rattle.uv_machine.specs.declared.entry.Word.TheVariants.{Exit}
use Rattle.uv_machine.specs.declared.call.InFlight.{InFlight}
use Rattle.uv_machine.specs.declared.state.State.{State}
use Rattle.uv_machine.specs.Plans.{reserves, locks, holds, is_the_number}
use Rattle.uv_machine.specs.States.{the_call, call_of}
use Rattle.uv_machine.specs.Effects.{left, no_call}
use Rattle.uv_machine.specs.Histories.{Allowed, after}
use Rattle.uv_machine.specs.Reached.{IsIn}
use Rattle.uv_machine.proofs.Calling.{any_at}
use Rattle.uv_machine.proofs.Members.{list_any-none}
use Rattle.uv_machine.proofs.OwnCall.{call_stands}
use Rattle.uv_machine.proofs.Planned.{is_closing, closing_exit}
use Rattle.uv_machine.proofs.Turns.{IsTurn, IsTurn-allowed}
use Rattle.uv_handles.specs.declared.slot.Slot.{Slot}
use Rattle.uv_store.specs.declared.mark.Mark.{Mark}
use Rattle.uv_store.specs.declared.mark.MarkChange.TheVariants.{Unlocks}
use Rattle.uv_store.specs.Going.{IsStill, entry_by, own_in}
use Rattle.uv_store.specs.Marks.{looks_by, reads_on, word_for, word_on, word_unlocked, users_on, mark_on, marks_by, marks_at_one}
use Rattle.uv_store.specs.Stored.{IsLegalState, IsStored}
use Rattle.uv_store.proofs.Beside.{any_sum, lt_true}
use Rattle.uv_store.proofs.Legal.{goes_on, reached}
use Rattle.uv_store.proofs.Reading.{place_in, locks_holds, looks_tell}
use Rattle.uv_store.proofs.Still.{IsAlike, any_alike, sum_alike, still_calls, stored_still}
use Rattle.uv_store.proofs.Stored.{IsTurned, stored_turned, went}

and_never : (a b : Bool) → b ≡ false → (a && b) ≡ false
and_never true b e = e
and_never false b e = refl

nothing_more : (n : ℕ) → nat_lt 0 n ≡ false → n ≡ 0
nothing_more zero e = refl
nothing_more (suc n) e = let yes = lt_true 0 (suc n) (omega arith) in cc

module _ (m : State) (l : IsLegalState m) (c : ℕ) (d : CallStep) (allowed : Allowed m (entry_by c d)) (exits : d.word ≡ Exit) where
  turn : IsTurn m c d.word d.object d.found d.answer (after m (entry_by c d))
  turn = IsTurn-allowed m c d.word d.object d.found d.answer allowed

  abbrev leaver : InFlight
  leaver = turn.call

  new : after m (entry_by c d) ≡ left m c
  new = went m c d Exit leaver turn.is exits

  none : (leaver.reserved ≡ None) × (leaver.looked ≡ Empty)
  none = closing_exit leaver (is_closing leaver Exit (turn.word ∙ exits) refl).1

  at : slice_get m.calls c ≡ Some (Some leaver)
  at = call_stands m c leaver turn.is

  looks_none : (i : ℕ) → looks_by i (Some leaver) ≡ 0
  looks_none i = ap (λ (v : Ids). count_by (is_number i) (ids_of v)) none.1

  numbers_none : (f n : ℕ) → reserves f n (Some leaver) ≡ false
  numbers_none f n = and_never (leaver.file == f) (is_the_number n leaver.reserved) (ap (is_the_number n) none.0)

  -- the slot of the call that leaves is the one that changes
  own_slot : (x : Option InFlight) → slice_get m.calls c ≡ Some x → Some leaver ≡ x
  own_slot x e = same_Some _ _ (sym at ∙ e)

  still : leaver.locked ≡ None → IsStill m (left m c)
  still free = still_calls m (left m c) c no_call refl refl (λ x e.
      let P : Option InFlight → Type 0 = λ v. IsAlike no_call v in
      subst P (own_slot x e) record {
        looks = λ o. sym (looks_none o);
        locks = λ o. sym (ap (is_the_number o) free);
        numbers = λ f n. sym (numbers_none f n);
      })

  pub stored_leave : (marks : List Mark) (tables : List (List Slot)) (doomed standing : List ℕ) → IsStored m marks tables doomed standing → own_in (call_of m c) ≡ None → IsStored (after m (entry_by c d)) marks tables doomed standing
  stored_leave marks tables doomed standing s free =
      let P : State → Type 0 = λ v. IsStill m v in
      stored_still m (after m (entry_by c d)) marks tables doomed standing s (subst P (sym new) (still (ap own_in (sym turn.is) ∙ free))) (goes_on m (entry_by c d) l allowed)

  -- where it holds an object alone
  module _ (o : ℕ) (own : leaver.locked ≡ Some o) where
    abbrev less : List (Option InFlight)
    less = at_place m.calls c no_call

    alone : (j : ℕ) (x : Option InFlight) (b : Bool) → (j == c) ≡ b → slice_get less j ≡ Some x → holds o x ≡ false
    alone j x true e h =
        let here : slice_get less c ≡ Some x = ap (slice_get less) (sym (eqb-true j c e)) ∙ h in
        let gone : slice_get less c ≡ Some None = slice_get-at_place_same m.calls c no_call ∙ ap (option_map no_call) at in
        let is : None ≡ x = same_Some _ _ (sym gone ∙ here) in
        ap (holds o) (sym is)
    alone j None false e h = refl
    alone j (Some k) false e h =
        let apart : j ≢ c = λ same. (let yes = eq-eqb j c same in cc) in
        let there : slice_get m.calls j ≡ Some (Some k) = sym (slice_get-at_place_other m.calls c j no_call apart) ∙ h in
        (reached m l).alone c j leaver k o turn.is (ap the_call there) (λ same. apart (sym same)) own

    unheld : (x : Option InFlight) → IsIn x less → holds o x ≡ false
    unheld x k = let p = place_in x less k in alone p.0 x (p.0 == c) refl p.1

    unlocked : list_any (locks o) less ≡ false
    unlocked = list_any-none (locks o) less (λ x k. locks_holds o x (unheld x k))

    unread : reads_on less o ≡ 0
    unread = nothing_more (reads_on less o)
        (any_sum (looks_by o) (holds o) less (λ x k. looks_tell o x (locks_holds o x (unheld x k))) ∙ list_any-none (holds o) less (λ x k. unheld x k))

    free_now : word_on less o ≡ pos 0
    free_now = ap (λ b. word_for b (reads_on less o)) unlocked ∙ ap (λ n. pos n) unread

    locked_before : word_on m.calls o ≡ negsuc 0
    locked_before =
        ap (λ b. word_for b (reads_on m.calls o)) (any_at (locks o) m.calls c (Some leaver) at (ap (is_the_number o) own ∙ eq-eqb o o refl))

    others_stay : (i : ℕ) → i ≢ o → word_on less i ≡ word_on m.calls i
    others_stay i apart =
        let locks_same : list_any (locks i) less ≡ list_any (locks i) m.calls = any_alike (locks i) no_call m.calls c (λ x e. (let P : Option InFlight → Type 0 = λ v. locks i (no_call v) ≡ locks i v in subst P (own_slot x e) (sym (ap (is_the_number i) own ∙ ne_eqb o i (λ same. apart (sym same)))))) in
        let reads_same : reads_on less i ≡ reads_on m.calls i = sum_alike (looks_by i) no_call m.calls c (λ x e. (let P : Option InFlight → Type 0 = λ v. looks_by i (no_call v) ≡ looks_by i v in subst P (own_slot x e) (sym (looks_none i)))) in
        ap (λ b. word_for b (reads_on less i)) locks_same ∙ ap (λ n. word_for (list_any (locks i) m.calls) n) reads_same

    turned : IsTurned m (after m (entry_by c d)) o Unlocks
    turned =
        let P : State → Type 0 = λ v. IsTurned m v o Unlocks in
        subst P (sym new) record {
          objects = refl;
          numbers = λ f n. any_alike (reserves f n) no_call m.calls c (λ x e. (let Q : Option InFlight → Type 0 = λ v. reserves f n (no_call v) ≡ reserves f n v in subst Q (own_slot x e) (sym (numbers_none f n))));
          own = ap (λ w. record { word = w; users = users_on m.objects o }) (ap word_unlocked locked_before ∙ sym free_now);
          others = others_stay;
        }

    stored_let : (marks marks' : List Mark) (tables : List (List Slot)) (doomed standing : List ℕ) → IsStored m marks tables doomed standing → marks' ≡ marks_by (marks_at_one Unlocks o (mark_on m)) m.objects → IsStored (after m (entry_by c d)) marks' tables doomed standing
    stored_let marks marks' tables doomed standing s is =
        stored_turned m (after m (entry_by c d)) o Unlocks turned marks marks' tables doomed standing s is (goes_on m (entry_by c d) l allowed)

  pub stored_let_go : (marks marks' : List Mark) (tables : List (List Slot)) (doomed standing : List ℕ) → IsStored m marks tables doomed standing → (o : ℕ) → own_in (call_of m c) ≡ Some o → marks' ≡ marks_by (marks_at_one Unlocks o (mark_on m)) m.objects → IsStored (after m (entry_by c d)) marks' tables doomed standing
  stored_let_go marks marks' tables doomed standing s o own gives =
      stored_let o (ap own_in (sym turn.is) ∙ own) marks marks' tables doomed standing s gives
