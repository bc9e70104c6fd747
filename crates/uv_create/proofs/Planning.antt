-- The words of a call that creates.
use Rattle.std.proofs.Common.{◌≡◌, ℕ, true, false, refl, ap, sym, ◌∙◌, inl, inr, ◌⊎◌}
use Rattle.uv_num.specs.Request.{role_of}
use Rattle.uv_machine.specs.declared.entry.Word.{Word}
use Rattle.uv_machine.specs.declared.entry.Word.TheVariants.{Act, Lock, Check, Finish}
use Rattle.uv_machine.specs.declared.call.InFlight.{InFlight}
use Rattle.uv_machine.specs.Plans.{next_word}
use Rattle.uv_machine.proofs.Planned.{IsDestroying, in_plan, stands_in_plan}
use Rattle.uv_graph.specs.Conditions.{is_create}

module _ (call : InFlight) (creates : is_create (role_of call.request) ≡ true) where
  never_acts : next_word call ≡ Act → ⊥
  never_acts e =
      let s = stands_in_plan call Act (in_plan call Act e refl) in
      let no : false ≡ true = ap is_create (sym s.acts) ∙ creates in
      absurd cc

  destroys_not : (place here : ℕ) → IsDestroying (role_of call.request) place here → ⊥
  destroys_not place here s =
      let no : false ≡ true = ap is_create (sym s.destroys) ∙ creates in
      absurd cc

  never_locks : next_word call ≡ Lock → ⊥
  never_locks e = destroys_not call.place 0 (stands_in_plan call Lock (in_plan call Lock e refl))

  never_checks : next_word call ≡ Check → ⊥
  never_checks e = destroys_not call.place 1 (stands_in_plan call Check (in_plan call Check e refl))

  never_finishes : next_word call ≡ Finish → ⊥
  never_finishes e = destroys_not call.place 2 (stands_in_plan call Finish (in_plan call Finish e refl))

  -- it makes none of these
  pub never : (w : Word) → next_word call ≡ w → (w ≡ Act) ⊎ ((w ≡ Lock) ⊎ ((w ≡ Check) ⊎ (w ≡ Finish))) → ⊥
  never w e (inl h) = never_acts (e ∙ h)
  never w e (inr (inl h)) = never_locks (e ∙ h)
  never w e (inr (inr (inl h))) = never_checks (e ∙ h)
  never w e (inr (inr (inr h))) = never_finishes (e ∙ h)
