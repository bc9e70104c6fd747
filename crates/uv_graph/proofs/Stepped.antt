-- The step that a client's call is about to make: what its word says of it, and what its writer asks and answers.
use Rattle.std.proofs.Common.{◌≡◌, ℕ, Bool, true, false, Option, None, Some, refl, ap, sym, ◌∙◌, if◌then◌else◌}
use Rattle.std.specs.Prelude.{◌||◌, is_some}
use Rattle.std.proofs.lemmas.Option.{none-some, same_Some}
use Rattle.uv_num.specs.declared.errno.Errno.{Errno}
use Rattle.uv_num.specs.declared.qp.QpState.{QpState}
use Rattle.uv_machine.specs.declared.entry.Word.{Word}
use Rattle.uv_machine.specs.declared.entry.Word.TheVariants.{Reserve, Look, Make, Commit, Act, Lock, Check, Finish, Abort, Free, Exit}
use Rattle.uv_machine.specs.declared.entry.Answer.{Answer}
use Rattle.uv_machine.specs.declared.entry.Answer.TheVariants as answer
use Rattle.uv_machine.specs.declared.entry.CallStep.{CallStep}
use Rattle.uv_machine.specs.declared.entry.Entry.TheVariants.{Step}
use Rattle.uv_machine.specs.declared.object.Object.{Object}
use Rattle.uv_machine.specs.declared.call.InFlight.{InFlight}
use Rattle.uv_machine.specs.declared.state.State.{State}
use Rattle.uv_machine.specs.Plans.{next_word}
use Rattle.uv_machine.specs.States.{object_with}
use Rattle.uv_machine.specs.Steps.{next_from, step_of, done_as, step_answer, fine_answer, found_at, told}
use Rattle.uv_machine.specs.Effects.{refusal_in}
use Rattle.uv_machine.specs.Histories.{Allowed, state_of}
use Rattle.uv_graph.specs.declared.told.Progress.TheVariants as progress
use Rattle.uv_pool.specs.Deeds.{DeedFacts}
use Rattle.uv_graph.specs.Dooms.{DoomsNone, WordDoomsNone}
use Rattle.uv_graph.specs.Kept.{Kept}
use Rattle.uv_graph.specs.Notes.{Notes, Leaves, WordLeaves, IsHuskIf}
use Rattle.uv_graph.specs.Stepping.{IsStep, hands_none, went, progress_of}
use Rattle.uv_graph.specs.Turns.{StepGives, goes_plain, is_exit, is_husk_object, step_entry}
use Rattle.uv_graph.proofs.Following.{IsNext-next_of, client_acts}

-- The words that leave the deeds.

husk_if : (x : Option Object) → is_husk_object x ≡ true → IsHuskIf x
husk_if None e = tt
husk_if (Some x) e = e

-- a word that hands no deed out leaves the deeds where they are, where a finish isn't refused
leaves_by : (w : Word) (r : Option Errno) (x : Option Object) → (is_exit w || (is_some r || goes_plain x w)) ≡ true → (w ≡ Finish → r ≡ None) → WordLeaves w r x
leaves_by Reserve r x plain fine = tt
leaves_by Look r x plain fine = tt
leaves_by Make None x plain fine = absurd cc
leaves_by Make (Some e) x plain fine = refl
leaves_by Commit r x plain fine = tt
leaves_by Act r x plain fine = tt
leaves_by Lock r x plain fine = tt
leaves_by Check r x plain fine = tt
leaves_by Finish None x plain fine = husk_if x plain
leaves_by Finish (Some e) x plain fine = absurd (none-some e (sym (fine refl)))
leaves_by Abort r x plain fine = tt
leaves_by Free r x plain fine = tt
leaves_by Exit r x plain fine = tt

dooms_by : (w : Word) (r : Option Errno) (x : Option Object) → (is_exit w || (is_some r || goes_plain x w)) ≡ true → WordDoomsNone w r x
dooms_by Reserve r x plain = tt
dooms_by Look r x plain = tt
dooms_by Make r x plain = tt
dooms_by Commit r x plain = tt
dooms_by Act r x plain = tt
dooms_by Lock r x plain = tt
dooms_by Check None x plain = husk_if x plain
dooms_by Check (Some e) x plain = tt
dooms_by Finish r x plain = tt
dooms_by Abort r x plain = tt
dooms_by Free r x plain = tt
dooms_by Exit r x plain = tt

exit_word : (w : Word) → is_exit w ≡ true → w ≡ Exit
exit_word Reserve e = absurd cc
exit_word Look e = absurd cc
exit_word Make e = absurd cc
exit_word Commit e = absurd cc
exit_word Act e = absurd cc
exit_word Lock e = absurd cc
exit_word Check e = absurd cc
exit_word Finish e = absurd cc
exit_word Abort e = absurd cc
exit_word Free e = absurd cc
exit_word Exit e = refl

answer_fine : (m : State) (call : InFlight) (w : Word) (r : Option Errno) → refusal_in (step_answer m call None 0 w r) ≡ None → step_answer m call None 0 w r ≡ fine_answer m call None 0 w
answer_fine m call w None e = refl
answer_fine m call w (Some x) e = absurd (none-some x (sym e))

module _ (k : Kept) (c : ℕ) (d : CallStep) (s : IsStep k c d) where
  abbrev state : State
  state = state_of k.history

  abbrev call : InFlight
  call = s.next.call

  step_is : step_of state c None 0 call ≡ d
  step_is = same_Some (step_of state c None 0 call) d (ap (next_from state c None 0) (sym s.next.is) ∙ s.next.next)

  pub word_is : next_word call ≡ d.word
  word_is = ap (λ (v : CallStep). v.word) step_is

  is_by : (w : Word) → d.word ≡ w → done_as state call None 0 w (told state c call None w) ≡ d
  is_by w e = ap (λ v. done_as state call None 0 v (told state c call None v)) (sym (word_is ∙ e)) ∙ step_is

  -- the object that its word names
  pub step_names : (w : Word) → d.word ≡ w → (told state c call None w).object ≡ d.object
  step_names w e = ap (λ (v : CallStep). v.object) (is_by w e)

  pub step_may : Allowed state (step_entry c d)
  step_may = (client_acts c s.client, IsNext-next_of state c None 0 d s.next.next)

  never_refused : d.word ≡ Finish → refusal_in d.answer ≡ None
  never_refused e = ap (λ (v : CallStep). refusal_in v.answer) (sym (is_by Finish e))

  pub step_leaves : hands_none k d ≡ true → Leaves state (step_entry c d)
  step_leaves plain = leaves_by d.word (refusal_in d.answer) (object_with state d.object) plain never_refused

  pub step_dooms : hands_none k d ≡ true → DoomsNone state (step_entry c d)
  step_dooms plain = dooms_by d.word (refusal_in d.answer) (object_with state d.object) plain

  -- what the writer answers

  module _ {D : Type 0} (tell : D → DeedFacts) (new : Kept) (plain : hands_none k d ≡ true) (notes : Notes k new (step_entry c d)) where
    goes_plainly : is_exit d.word ≡ false → refusal_in d.answer ≡ None → goes_plain (object_with state d.object) d.word ≡ true
    goes_plainly on fine =
        let g = goes_plain (object_with state d.object) d.word in
        sym (ap (λ b. b || (is_some (refusal_in d.answer) || g)) on ∙ ap (λ r. is_some r || g) fine) ∙ plain

    gives_by : (b : Bool) (r : Option Errno) → is_exit d.word ≡ b → refusal_in d.answer ≡ r → StepGives tell k new c (if b then progress.Ended d.answer else went d.word r)
    gives_by true r e f = record { done = d; next = s.next; word = exit_word d.word e; answer_is = refl; notes = notes }
    gives_by false None e f = record { done = d; next = s.next; word = refl; fine = f; plain = goes_plainly e f; notes = notes }
    gives_by false (Some x) e f = record { done = d; next = s.next; word = refl; refused = f; goes_on = e; notes = notes }

    pub step_gives : StepGives tell k new c (progress_of d)
    step_gives = gives_by (is_exit d.word) (refusal_in d.answer) refl refl

  -- a step that isn't refused, by a word that finds nothing and answers Ok, is this entry
  pub plain_entry : (w : Word) → d.word ≡ w → refusal_in d.answer ≡ None → found_at call w None ≡ None → fine_answer state call None 0 w ≡ answer.Ok → step_entry c d ≡ Step c w d.object None answer.Ok
  plain_entry w e fine finds says =
      let t = told state c call None w in
      let found : d.found ≡ None = sym (ap (λ (v : CallStep). v.found) (is_by w e)) ∙ finds in
      let by : d.answer ≡ step_answer state call None 0 w t.refusal = sym (ap (λ (v : CallStep). v.answer) (is_by w e)) in
      let ok : d.answer ≡ answer.Ok = by ∙ answer_fine state call w t.refusal (sym (ap refusal_in by) ∙ fine) ∙ says in
      ap (λ v. Step c v d.object d.found d.answer) e
      ∙ ap (λ (v : Option QpState). Step c w d.object v d.answer) found
      ∙ ap (λ (v : Answer). Step c w d.object None v) ok
