-- A look that is let go, in what is kept beside the state.
use Rattle.std.proofs.Common.{◌≡◌, ℕ, zero, suc, ◌+◌, ◌≤◌, Bool, true, false, List, [], ◌∷◌, ◌++◌, Option, Some, None, length, replicate, refl, ap, sym, ◌∙◌, subst, arith, ⊎_elim}
use Rattle.std.specs.Prelude.{slice_get, ◌==◌, option_map, unwrap_or}
use Rattle.std.specs.List.{list_any}
use Rattle.std.proofs.lemmas.Bool.{eq-eqb, eqb-true, or_right}
use Rattle.std.proofs.lemmas.Option.{none-some, same_Some, slice_get_cases}
use Rattle.uv_num.specs.declared.errno.Errno.{Errno}
use Rattle.uv_num.specs.declared.ids.Ids.{Ids}
use Rattle.uv_num.specs.declared.ids.Ids.TheVariants.{Empty, One, Two, Three, Four}
use Rattle.uv_num.specs.declared.limits.TheConstants.{NONE}
use Rattle.uv_num.specs.declared.request.Role.{Role}
use Rattle.uv_num.specs.declared.request.Role.TheVariants.{Creates, Destroys, Acts}
use Rattle.uv_num.specs.Ids.{ids_of, is_number}
use Rattle.uv_num.specs.Looks.{looks_of}
use Rattle.uv_num.specs.Request.{role_of}
use Rattle.uv_machine.specs.declared.entry.CallStep.{CallStep}
use Rattle.uv_machine.specs.declared.entry.Word.{Word}
use Rattle.uv_machine.specs.declared.entry.Word.TheVariants.{Look, Make, Commit, Act, Free}
use Rattle.uv_machine.specs.declared.call.InFlight.{InFlight}
use Rattle.uv_machine.specs.declared.state.State.{State}
use Rattle.uv_machine.specs.Accounts.{count_of}
use Rattle.uv_machine.specs.Plans.{plan_of, plan_for, freeing, closing, reserves, locks, holds, looks_at, is_the_number, without_look, acted_on}
use Rattle.uv_machine.specs.States.{the_call, call_of}
use Rattle.uv_machine.specs.Steps.{told}
use Rattle.uv_machine.specs.Effects.{with_call, unless_refused}
use Rattle.uv_machine.specs.Histories.{after}
use Rattle.uv_machine.specs.Reached.{HasInPlan, HasBehind, HasRefused}
use Rattle.uv_machine.proofs.Calling.{any_at, false_unless}
use Rattle.uv_machine.proofs.Members.{SomePasses-list_any}
use Rattle.uv_machine.proofs.OwnCall.{call_stands}
use Rattle.uv_machine.proofs.Planned.{IsClosing, is_closing, closing_free}
use Rattle.uv_machine.proofs.Turns.{IsTurn, IsTurn-allowed}
use Rattle.uv_handles.specs.declared.slot.Slot.{Slot}
use Rattle.uv_store.specs.declared.mark.Mark.{Mark}
use Rattle.uv_store.specs.declared.mark.MarkChange.TheVariants.{Frees}
use Rattle.uv_store.specs.Going.{Goes, entry_by}
use Rattle.uv_store.specs.Marks.{users_on, mark_on, marks_by, marks_at_one}
use Rattle.uv_store.specs.Stored.{IsLegalState, IsStored}
use Rattle.uv_store.proofs.Legal.{goes_on, reached}
use Rattle.uv_store.proofs.Reading.{place_in, locker}
use Rattle.uv_store.proofs.Still.{any_alike}
use Rattle.uv_store.proofs.Stored.{IsTurned, stored_turned, went}
use Rattle.uv_store.proofs.Words.{free_same, free_other}

-- A call that closes and still looks at something holds nothing alone.

length-looks : (n : ℕ) (ys : List Word) → length (replicate n Look ++ ys) ≡ n + length ys
length-looks zero ys = omega arith
length-looks (suc n) ys = omega (arith, length-looks n ys)

ended_unlocked : (call : InFlight) (role : Role) (n : ℕ) → length (plan_of role n) ≤ call.place → HasInPlan call role n → count_of call.locked ≡ 0
ended_unlocked call (Creates kind) n far has = (has.ended (omega (arith, far, has.within, length-looks n (Make ∷ Commit ∷ [])))).1
ended_unlocked call (Destroys asked) n far has = (has.ended (omega (arith, far, has.within))).locks_are
ended_unlocked call (Acts act) n far has = (has.ended (omega (arith, far, has.within, length-looks n (Act ∷ [])))).1

some_look : (ids : Ids) → freeing ids ≡ Free → length (ids_of ids) ≡ 0 → ⊥
some_look Empty e none = absurd cc
some_look (One a) e none = omega arith
some_look (Two a b) e none = omega arith
some_look (Three a b c) e none = omega arith
some_look (Four a b c d) e none = omega arith

refused_unlocked : (call : InFlight) (role : Role) → freeing call.looked ≡ Free → HasRefused call role → count_of call.locked ≡ 0
refused_unlocked call (Creates kind) loose has = has
refused_unlocked call (Destroys asked) loose has = absurd (some_look call.looked loose has.1)
refused_unlocked call (Acts act) loose has = has.1

past_end : (xs : List Word) (i : ℕ) → slice_get xs i ≡ None → length xs ≤ i
past_end xs i e = ⊎_elim (λ c. absurd (none-some _ (sym e ∙ c.2))) (λ c. c.0) (slice_get_cases xs i).1

unlocked_by : (call : InFlight) (r : Option Errno) → call.refusal ≡ r → IsClosing call → freeing call.looked ≡ Free → HasBehind call r → count_of call.locked ≡ 0
unlocked_by call None fine ends loose has =
    ended_unlocked call (role_of call.request) (length (looks_of call.request)) (past_end (plan_for call.request) call.place (ends fine)) has
unlocked_by call (Some e) fine ends loose has = refused_unlocked call (role_of call.request) loose has

first_look : (ids : Ids) → freeing ids ≡ Free → slice_get (ids_of ids) 0 ≡ Some (unwrap_or (slice_get (ids_of ids) 0) NONE)
first_look Empty e = absurd cc
first_look (One a) e = refl
first_look (Two a b) e = refl
first_look (Three a b c) e = refl
first_look (Four a b c d) e = refl

module _ (m : State) (l : IsLegalState m) (c : ℕ) (d : CallStep) (goes : Goes m c d Free) where
  turn : IsTurn m c d.word d.object d.found d.answer (after m (entry_by c d))
  turn = IsTurn-allowed m c d.word d.object d.found d.answer goes.allowed

  abbrev freer : InFlight
  freer = turn.call

  new : after m (entry_by c d) ≡ with_call m c without_look
  new = went m c d Free freer turn.is goes.word ∙ ap (λ r. unless_refused m c r (with_call m c without_look)) goes.fine

  ends : IsClosing freer × (closing freer ≡ Free)
  ends = is_closing freer Free (turn.word ∙ goes.word) refl

  loose : freeing freer.looked ≡ Free
  loose = (closing_free freer ends.1).1

  object : acted_on freer ≡ d.object
  object = let P : Word → Type 0 = λ w. (told m c freer d.found w).object ≡ d.object in subst P goes.word turn.object

  first : slice_get (ids_of freer.looked) 0 ≡ Some d.object
  first = first_look freer.looked loose ∙ ap (λ o. Some o) object

  unlocked : count_of freer.locked ≡ 0
  unlocked = unlocked_by freer freer.refusal refl ends.0 loose ((reached m l).phased c freer turn.is).has

  held : holds d.object (Some freer) ≡ true
  held = or_right (is_the_number d.object freer.locked) (looks_at d.object freer) (any_at (is_number d.object) (ids_of freer.looked) 0 d.object first (eq-eqb d.object d.object refl))

  none_by : (j : ℕ) (k : InFlight) (b : Bool) → (j == c) ≡ b → call_of m j ≡ Some k → k.locked ≡ Some d.object → ⊥
  none_by j k true e is own =
      let here : call_of m c ≡ Some k = ap (call_of m) (sym (eqb-true j c e)) ∙ is in
      let same : freer ≡ k = same_Some _ _ (sym turn.is ∙ here) in
      let one : count_of freer.locked ≡ 1 = ap (λ (v : InFlight). count_of v.locked) same ∙ ap count_of own in
      omega (arith, one, unlocked)
  none_by j k false e is own =
      let no : holds d.object (Some freer) ≡ false = (reached m l).alone j c k freer d.object is turn.is (λ same. (let yes = eq-eqb j c same in cc)) own in
      let yes = held in
      cc

  none : list_any (locks d.object) m.calls ≡ false
  none = false_unless (list_any (locks d.object) m.calls) (λ some.
      let s = SomePasses-list_any (locks d.object) m.calls some in
      let p = place_in s.item m.calls s.passes.within in
      let own = locker d.object s.item s.passes.test in
      none_by p.0 own.call (p.0 == c) refl (ap the_call p.1 ∙ own.is) own.own)

  at : slice_get m.calls c ≡ Some (Some freer)
  at = call_stands m c freer turn.is

  freed : IsTurned m (after m (entry_by c d)) d.object Frees
  freed =
      let P : State → Type 0 = λ v. IsTurned m v d.object Frees in
      subst P (sym new) record {
        objects = refl;
        numbers = λ f n. any_alike (reserves f n) (option_map without_look) m.calls c (λ x e. elim x as (λ v. reserves f n (option_map without_look v) ≡ reserves f n v) [ None ↦ refl | Some k ↦ refl ]);
        own = ap (λ w. record { word = w; users = users_on m.objects d.object }) (sym (free_same m.calls c freer at d.object first none));
        others = free_other m.calls c freer at d.object first;
      }

  pub stored_free : (marks marks' : List Mark) (tables : List (List Slot)) (doomed standing : List ℕ) → IsStored m marks tables doomed standing → marks' ≡ marks_by (marks_at_one Frees d.object (mark_on m)) m.objects → IsStored (after m (entry_by c d)) marks' tables doomed standing
  stored_free marks marks' tables doomed standing s is =
      stored_turned m (after m (entry_by c d)) d.object Frees freed marks marks' tables doomed standing s is (goes_on m (entry_by c d) l goes.allowed)
