-- A make, and the deed that it hands out.
use Rattle.std.proofs.Common.{◌≡◌, ℕ, None, refl, sym, subst, ◌∙◌}
use Rattle.uv_num.specs.declared.kind.Kind.{Kind}
use Rattle.uv_machine.specs.declared.entry.CallStep.{CallStep}
use Rattle.uv_machine.specs.declared.entry.Entry.{Entry}
use Rattle.uv_machine.specs.declared.entry.Entry.TheVariants.{Step}
use Rattle.uv_machine.specs.declared.entry.Word.TheVariants.{Make}
use Rattle.uv_machine.specs.declared.entry.Answer.TheVariants as answer
use Rattle.uv_machine.specs.Effects.{refusal_in}
use Rattle.uv_machine.specs.Histories.{Allowed, state_of}
use Rattle.uv_pool.specs.Deeds.{DeedFacts}
use Rattle.uv_graph.specs.Hands.{HandsNew}
use Rattle.uv_graph.specs.Kept.{Kept}
use Rattle.uv_graph.specs.Stepping.{IsStep}
use Rattle.uv_graph.specs.Turns.{PlantsFor, step_entry}
use Rattle.uv_graph.proofs.Stepped.{step_may, plain_entry}

module _ (k : Kept) (c : ℕ) (d : CallStep) (s : IsStep k c d) (word : d.word ≡ Make) (fine : refusal_in d.answer ≡ None) where
  make_entry : step_entry c d ≡ Step c Make d.object None answer.Ok
  make_entry = plain_entry k c d s Make word fine refl refl

  pub make_allowed : Allowed (state_of k.history) (Step c Make d.object None answer.Ok)
  make_allowed =
      let P : Entry → Type 0 = λ e. Allowed (state_of k.history) e in
      subst P make_entry (step_may k c d s)

  -- the deed tells the kind of the new object
  pub plants : (new : Kept) (t : DeedFacts) (kind : Kind) → kind ≡ t.kind → HandsNew k new (Step c Make d.object None answer.Ok) c d.object t → PlantsFor k new c t d.object kind
  plants new t kind same hands =
      let P : Entry → Type 0 = λ e. HandsNew k new e c d.object t in
      let h = subst P (sym make_entry) hands in
      record { done = d; next = s.next; word = word; object = refl; hands = h; of_kind = sym h.deed.kind ∙ sym same }
