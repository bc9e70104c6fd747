-- The words of a call that destroys.
use Rattle.std.proofs.Common.{◌≡◌, true, false, refl, ap, sym, ◌∙◌, inl, inr, ◌⊎◌, ⊎_elim}
use Rattle.uv_num.specs.declared.kind.Kind.{Kind}
use Rattle.uv_num.specs.declared.request.Act as request
use Rattle.uv_num.specs.declared.request.Role.TheVariants.{Creates, Acts}
use Rattle.uv_num.specs.Request.{role_of}
use Rattle.uv_machine.specs.declared.entry.Word.{Word}
use Rattle.uv_machine.specs.declared.entry.Word.TheVariants.{Reserve, Look, Make, Commit, Act}
use Rattle.uv_machine.specs.declared.call.InFlight.{InFlight}
use Rattle.uv_machine.specs.Plans.{next_word}
use Rattle.uv_machine.proofs.Planned.{in_plan, stands_in_plan}
use Rattle.uv_graph.specs.Conditions.{is_destroy}

module _ (call : InFlight) (destroys : is_destroy (role_of call.request) ≡ true) where
  creates_not : (kind : Kind) → role_of call.request ≡ Creates kind → ⊥
  creates_not kind e =
      let no : false ≡ true = ap is_destroy (sym e) ∙ destroys in
      absurd cc

  acts_not : (act : request.Act) → role_of call.request ≡ Acts act → ⊥
  acts_not act e =
      let no : false ≡ true = ap is_destroy (sym e) ∙ destroys in
      absurd cc

  never_reserves : next_word call ≡ Reserve → ⊥
  never_reserves e = let s = stands_in_plan call Reserve (in_plan call Reserve e refl) in creates_not s.kind s.creates

  never_looks : next_word call ≡ Look → ⊥
  never_looks e = ⊎_elim (λ s. creates_not s.kind s.creates) (λ s. acts_not s.act s.acts) (stands_in_plan call Look (in_plan call Look e refl))

  never_makes : next_word call ≡ Make → ⊥
  never_makes e = let s = stands_in_plan call Make (in_plan call Make e refl) in creates_not s.kind s.creates

  never_commits : next_word call ≡ Commit → ⊥
  never_commits e = let s = stands_in_plan call Commit (in_plan call Commit e refl) in creates_not s.kind s.creates

  never_acts : next_word call ≡ Act → ⊥
  never_acts e = let s = stands_in_plan call Act (in_plan call Act e refl) in acts_not s.act s.acts

  -- it makes none of these
  pub never : (w : Word) → next_word call ≡ w → (w ≡ Reserve) ⊎ ((w ≡ Look) ⊎ ((w ≡ Make) ⊎ ((w ≡ Commit) ⊎ (w ≡ Act)))) → ⊥
  never w e (inl h) = never_reserves (e ∙ h)
  never w e (inr (inl h)) = never_looks (e ∙ h)
  never w e (inr (inr (inl h))) = never_makes (e ∙ h)
  never w e (inr (inr (inr (inl h)))) = never_commits (e ∙ h)
  never w e (inr (inr (inr (inr h)))) = never_acts (e ∙ h)
