-- A look, in what is kept beside the state.
use Rattle.std.proofs.Common.{◌≡◌, ℕ, ◌<◌, false, List, Some, None, length, refl, ap, sym, ◌∙◌, subst, arith}
use Rattle.std.specs.Prelude.{slice_get, option_map}
use Rattle.std.specs.List.{list_any}
use Rattle.std.proofs.lemmas.Option.{slice_get_within}
use Rattle.uv_num.specs.Ids.{ids_of}
use Rattle.uv_num.specs.Looks.{looks_of}
use Rattle.uv_machine.specs.declared.entry.CallStep.{CallStep}
use Rattle.uv_machine.specs.declared.entry.Word.{Word}
use Rattle.uv_machine.specs.declared.entry.Word.TheVariants.{Look}
use Rattle.uv_machine.specs.declared.call.InFlight.{InFlight}
use Rattle.uv_machine.specs.declared.state.State.{State}
use Rattle.uv_machine.specs.Plans.{reserves, locks, with_look, look_ask}
use Rattle.uv_machine.specs.States.{is_excluded}
use Rattle.uv_machine.specs.Steps.{told, step_answer, look_told}
use Rattle.uv_machine.specs.Effects.{refusal_in, with_call, unless_refused}
use Rattle.uv_machine.specs.Histories.{after, kept_in}
use Rattle.uv_machine.proofs.Keeping.{IsFound, found_at}
use Rattle.uv_machine.proofs.OwnCall.{call_stands}
use Rattle.uv_machine.proofs.Planned.{in_plan, looks_few}
use Rattle.uv_machine.proofs.Turns.{IsTurn, IsTurn-allowed}
use Rattle.uv_handles.specs.declared.slot.Slot.{Slot}
use Rattle.uv_store.specs.declared.mark.Mark.{Mark}
use Rattle.uv_store.specs.declared.mark.MarkChange.TheVariants.{Reads}
use Rattle.uv_store.specs.Going.{Goes, entry_by}
use Rattle.uv_store.specs.Marks.{users_on, mark_on, marks_by, marks_at_one}
use Rattle.uv_store.specs.Stored.{IsLegalState, IsStored}
use Rattle.uv_store.proofs.Legal.{goes_on, reached}
use Rattle.uv_store.proofs.Still.{any_alike}
use Rattle.uv_store.proofs.Stored.{IsTurned, stored_turned, went, fine_told}
use Rattle.uv_store.proofs.Words.{look_same, look_other}

module _ (m : State) (l : IsLegalState m) (c : ℕ) (d : CallStep) (goes : Goes m c d Look) where
  turn : IsTurn m c d.word d.object d.found d.answer (after m (entry_by c d))
  turn = IsTurn-allowed m c d.word d.object d.found d.answer goes.allowed

  abbrev looker : InFlight
  looker = turn.call

  new : after m (entry_by c d) ≡ with_call m c (with_look d.object)
  new = went m c d Look looker turn.is goes.word ∙ ap (λ r. unless_refused m c r (with_call m c (with_look d.object))) goes.fine

  fine : (look_told m looker.file (look_ask looker)).refusal ≡ None
  fine =
      let P : Word → Type 0 = λ w. refusal_in (step_answer m looker d.found (kept_in d.answer) w (told m c looker d.found w).refusal) ≡ None in
      fine_told m looker d.found (kept_in d.answer) Look (told m c looker d.found Look).refusal (subst P goes.word (ap refusal_in turn.answer ∙ goes.fine))

  object : (look_told m looker.file (look_ask looker)).object ≡ d.object
  object = let P : Word → Type 0 = λ w. (told m c looker d.found w).object ≡ d.object in subst P goes.word turn.object

  found : IsFound m looker
  found = found_at m (reached m l) c looker turn.is (in_plan looker Look (turn.word ∙ goes.word) refl) fine

  none : list_any (locks d.object) m.calls ≡ false
  none = ap (λ o. is_excluded m o) (sym object ∙ found.object) ∙ found.free

  low : length (ids_of looker.looked) < 4
  low = omega (arith, slice_get_within (looks_of looker.request) (length (ids_of looker.looked)) found.ask found.asks, looks_few looker.request)

  at : slice_get m.calls c ≡ Some (Some looker)
  at = call_stands m c looker turn.is

  looked : IsTurned m (after m (entry_by c d)) d.object Reads
  looked =
      let P : State → Type 0 = λ v. IsTurned m v d.object Reads in
      subst P (sym new) record {
        objects = refl;
        numbers = λ f n. any_alike (reserves f n) (option_map (with_look d.object)) m.calls c (λ x e. elim x as (λ v. reserves f n (option_map (with_look d.object) v) ≡ reserves f n v) [ None ↦ refl | Some k ↦ refl ]);
        own = ap (λ w. record { word = w; users = users_on m.objects d.object }) (sym (look_same m.calls c looker at d.object low none (reached m l).calls));
        others = look_other m.calls c looker at d.object low;
      }

  pub stored_look : (marks marks' : List Mark) (tables : List (List Slot)) (doomed standing : List ℕ) → IsStored m marks tables doomed standing → marks' ≡ marks_by (marks_at_one Reads d.object (mark_on m)) m.objects → IsStored (after m (entry_by c d)) marks' tables doomed standing
  stored_look marks marks' tables doomed standing s is =
      stored_turned m (after m (entry_by c d)) d.object Reads looked marks marks' tables doomed standing s is (goes_on m (entry_by c d) l goes.allowed)
