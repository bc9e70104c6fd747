-- What is kept beside the state after one mark changed with the calls.
use Rattle.std.proofs.Common.{◌≡◌, ◌≢◌, ℕ, List, Option, Some, None, refl, ap, sym, ◌∙◌}
use Rattle.std.specs.List.{list_any}
use Rattle.uv_num.proofs.PlaceLaws.{changed_elim}
use Rattle.uv_machine.specs.declared.entry.CallStep.{CallStep}
use Rattle.uv_machine.specs.declared.entry.Word.{Word}
use Rattle.uv_machine.specs.declared.call.InFlight.{InFlight}
use Rattle.uv_machine.specs.declared.state.State.{State}
use Rattle.uv_num.specs.declared.errno.Errno.{Errno}
use Rattle.uv_num.specs.declared.qp.QpState.{QpState}
use Rattle.uv_machine.specs.Objects.{is_doomed_in, is_standing_in}
use Rattle.uv_machine.specs.Plans.{reserves}
use Rattle.uv_machine.specs.States.{call_of}
use Rattle.uv_machine.specs.Steps.{step_answer}
use Rattle.uv_machine.specs.Effects.{refusal_in, after_step, stepped}
use Rattle.uv_machine.specs.Histories.{after}
use Rattle.uv_handles.specs.declared.slot.Slot.{Slot}
use Rattle.uv_store.specs.declared.mark.Mark.{Mark}
use Rattle.uv_store.specs.declared.mark.MarkChange.{MarkChange}
use Rattle.uv_store.specs.Going.{entry_by}
use Rattle.uv_store.specs.Marks.{word_on, users_on, mark_on, marks_by, mark_changed, marks_at_one}
use Rattle.uv_store.specs.Stored.{IsLegalState, IsStored}
use Rattle.uv_store.proofs.Still.{marks_alike, mark_alike, users_still, tables_still, counts_still}

-- objects stay, and what is set aside; the words of all objects but one stay, and the mark of that one changes so
pub record IsTurned (m m' : State) (o : ℕ) (change : MarkChange) : Type 0 where
  pub objects : m'.objects ≡ m.objects
  pub numbers : (f n : ℕ) → list_any (reserves f n) m'.calls ≡ list_any (reserves f n) m.calls
  pub own : mark_changed change (mark_on m o) ≡ record { word = word_on m'.calls o; users = users_on m.objects o }
  pub others : (i : ℕ) → i ≢ o → word_on m'.calls i ≡ word_on m.calls i

module _ (m m' : State) (o : ℕ) (change : MarkChange) (t : IsTurned m m' o change) where
  mark_turned : (i : ℕ) → marks_at_one change o (mark_on m) i ≡ mark_on m' i
  mark_turned =
      changed_elim (λ i k. k ≡ mark_on m' i) (mark_on m) o (mark_changed change (mark_on m o))
      (t.own ∙ mark_alike (record { word = word_on m'.calls o; users = users_on m.objects o }) (mark_on m' o) refl (sym (users_still m m' t.objects o)))
      (λ i apart. mark_alike (mark_on m i) (mark_on m' i) (sym (t.others i apart)) (sym (users_still m m' t.objects i)))

  pub stored_turned : (marks marks' : List Mark) (tables : List (List Slot)) (doomed standing : List ℕ) → IsStored m marks tables doomed standing → marks' ≡ marks_by (marks_at_one change o (mark_on m)) m.objects → IsLegalState m' → IsStored m' marks' tables doomed standing
  stored_turned marks marks' tables doomed standing s is legal = record {
    legal = legal;
    marked = is ∙ (marks_alike (marks_at_one change o (mark_on m)) (mark_on m') m.objects mark_turned ∙ ap (marks_by (mark_on m')) (sym t.objects));
    files = s.files;
    tabled = tables_still m m' t.objects tables t.numbers s.tabled;
    dooms = counts_still m m' t.objects doomed is_doomed_in s.dooms;
    stands = counts_still m m' t.objects standing is_standing_in s.stands;
  }

-- the state after a step of a call
pub went : (m : State) (c : ℕ) (d : CallStep) (w : Word) (call : InFlight) → call_of m c ≡ Some call → d.word ≡ w → after m (entry_by c d) ≡ stepped m c call w d.object d.answer
went m c d w call is word =
    ap (λ s. after_step m c s d.word d.object d.answer) is ∙ ap (λ v. stepped m c call v d.object d.answer) word

-- a step that isn't refused was told no refusal
pub fine_told : (m : State) (call : InFlight) (found : Option QpState) (kept : ℕ) (w : Word) (r : Option Errno) → refusal_in (step_answer m call found kept w r) ≡ None → r ≡ None
fine_told m call found kept w None e = refl
fine_told m call found kept w (Some errno) e = cc
