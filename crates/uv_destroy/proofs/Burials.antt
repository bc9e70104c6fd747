-- A check that retires an object, and the finish after it.
use Rattle.std.proofs.Common.{◌≡◌, ℕ, Bool, true, false, None, Some, refl, sym, ap, subst, ◌∙◌, if◌then◌else◌, ◌⊎◌, inl, inr}
use Rattle.std.proofs.lemmas.Option.{same_Some}
use Rattle.uv_num.specs.declared.limits.TheConstants.{NONE}
use Rattle.std.specs.Prelude.{unwrap_or}
use Rattle.uv_machine.specs.declared.entry.Answer.TheVariants as answer
use Rattle.uv_machine.specs.declared.entry.CallStep.{CallStep}
use Rattle.uv_machine.specs.declared.entry.Entry.{Entry}
use Rattle.uv_machine.specs.declared.entry.Entry.TheVariants.{Step}
use Rattle.uv_machine.specs.declared.entry.Word.TheVariants.{Check, Finish}
use Rattle.uv_machine.specs.declared.object.Object.{Object}
use Rattle.uv_machine.specs.declared.object.Phase.{Phase}
use Rattle.uv_machine.specs.Objects.{is_made, is_doomed, is_husk}
use Rattle.uv_machine.specs.Plans.{own_object}
use Rattle.uv_machine.specs.States.{object_with}
use Rattle.uv_machine.specs.Steps.{next_of, own_told, kept_of}
use Rattle.uv_machine.specs.Effects.{refusal_in}
use Rattle.uv_machine.specs.Histories.{Allowed, state_of}
use Rattle.uv_graph.specs.declared.out.Out.{Out}
use Rattle.uv_pool.specs.Deeds.{DeedFacts}
use Rattle.uv_graph.specs.Hands.{HandsPlanted}
use Rattle.uv_graph.specs.Kept.{Kept, out_of}
use Rattle.uv_graph.specs.Owns.{own_of}
use Rattle.uv_graph.specs.Notes.{NotesOut}
use Rattle.uv_graph.specs.Seats.{HasOut}
use Rattle.uv_graph.specs.Stepping.{IsStep}
use Rattle.uv_graph.specs.Conditions.{IsFinishing}
use Rattle.uv_graph.specs.Turns.{RetiresFor, FinishesBy, step_entry}
use Rattle.uv_graph.proofs.Following.{next_is}
use Rattle.uv_graph.proofs.Holders.{made_stands, doomed_stands}
use Rattle.uv_graph.proofs.Stepped.{step_may, plain_entry}

-- A check that meets no refusal.

module _ (k : Kept) (c : ℕ) (d : CallStep) (s : IsStep k c d) (word : d.word ≡ Check) (fine : refusal_in d.answer ≡ None) where
  check_entry : step_entry c d ≡ Step c Check d.object None answer.Ok
  check_entry = plain_entry k c d s Check word fine refl refl

  pub check_allowed : Allowed (state_of k.history) (Step c Check d.object None answer.Ok)
  check_allowed =
      let P : Entry → Type 0 = λ e. Allowed (state_of k.history) e in
      subst P check_entry (step_may k c d s)

  pub retires : (new : Kept) (x : Object) (t : DeedFacts) → object_with (state_of k.history) d.object ≡ Some x → HandsPlanted k new (Step c Check d.object None answer.Ok) c d.object t → RetiresFor k new c t d.object x.kind
  retires new x t there hands =
      let P : Entry → Type 0 = λ e. HandsPlanted k new e c d.object t in
      let h = subst P (sym check_entry) hands in
      record { done = d; next = s.next; word = word; object = refl; hands = h; of_kind = ap (λ (v : Object). v.kind) (same_Some h.item x (sym h.there ∙ there)) }

-- The finish after a retirement.

all_kept : (b : Bool) (kept : ℕ) → b ≡ false → (if b then 0 else kept) ≡ kept
all_kept true kept e = absurd cc
all_kept false kept e = refl

stands_by : (p : Phase) → (is_made p ≡ true) ⊎ (is_doomed p ≡ true) → is_husk p ≡ false
stands_by p (inl h) = made_stands p h
stands_by p (inr h) = doomed_stands p h

module _ (k : Kept) (c kept : ℕ) (t : DeedFacts) (f : IsFinishing (own_of k c) t) (out : Out) (is_out : out_of k c ≡ Some out) (has : HasOut (state_of k.history) c out) where
  own_is : own_object f.call ≡ out.identity.id
  own_is =
      let same : has.call ≡ f.call = same_Some has.call f.call (sym has.is ∙ f.is) in
      ap own_object (sym same) ∙ ap (λ l. unwrap_or l NONE) has.locked

  keeps_all : kept_of (object_with (state_of k.history) (own_object f.call)) kept ≡ kept
  keeps_all =
      ap (λ o. kept_of (object_with (state_of k.history) o) kept) own_is
      ∙ ap (λ x. kept_of x kept) has.there
      ∙ all_kept (is_husk has.item.phase) kept (stands_by has.item.phase has.phase)

  abbrev finish_done : CallStep
  finish_done = record { word = Finish; object = out.identity.id; found = None; answer = answer.Kept kept }

  finish_next : next_of (state_of k.history) c None kept ≡ Some finish_done
  finish_next =
      next_is (state_of k.history) c f.call Finish (own_told f.call) None kept f.is f.word refl
      ∙ ap (λ o. Some (record { word = Finish; object = o; found = None; answer = answer.Kept (kept_of (object_with (state_of k.history) (own_object f.call)) kept) })) own_is
      ∙ ap (λ n. Some (record { word = Finish; object = out.identity.id; found = None; answer = answer.Kept n })) keeps_all

  pub finished : (new : Kept) → NotesOut k new (Step c Finish out.identity.id None (answer.Kept kept)) c None → FinishesBy k new c kept
  finished new notes = record { done = finish_done; next = finish_next; word = refl; answer_is = refl; notes = notes }
