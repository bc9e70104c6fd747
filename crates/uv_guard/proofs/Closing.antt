-- What the deed's view tells at the end.
use Rattle.std.proofs.Common.{◌≡◌, ◌++◌, ℕ, List, [], map, refl, ap, sym, subst, ◌∙◌, ⊎_elim, append-nil}
use Rattle.std.specs.Prelude.{Option}
use Rattle.atomic_table.specs.Table.{Final, Seen}
use Rattle.uv_guard.specs.declared.life.Stage.{Stage}
use Rattle.uv_guard.specs.declared.life.Planting.{Planting}
use Rattle.uv_guard.specs.declared.life.Life.{Life}
use Rattle.uv_guard.specs.declared.view.Kept.{Kept}
use Rattle.uv_guard.specs.declared.view.View.{View}
use Rattle.uv_guard.specs.declared.view.Role.TheVariants.{Owner}
use Rattle.uv_guard.specs.Lives.{over, begun, standing, planting, AreLived}
use Rattle.uv_guard.specs.Rule.{IsGuarded}
use Rattle.uv_guard.specs.Closed.{IsAtRest, Balanced}

module _ {T : Type 0} where
  -- at rest, all lives that have begun are over
  rests : (stage : Stage T) (g : ℕ) → IsAtRest stage → (begun stage g ≡ over stage g) × (standing stage g ≡ [])
  rests stage g r = ⊎_elim (λ e. subst (λ (s : Stage T). (begun s g ≡ over s g) × (standing s g ≡ [])) (sym e) (refl, refl)) (λ e. subst (λ (s : Stage T). (begun s g ≡ over s g) × (standing s g ≡ [])) (sym e) (refl, refl)) r

  pub ends : (goes_on : T → T → Type 0) (id : ℕ) (v : View T) (words : List ℕ) (slots : List (Option T)) → v.role ≡ Owner → IsAtRest v.stage → Final (Seen (IsGuarded goes_on) id v) words slots → Balanced goes_on v.given v.plants v.lives v.kept
  ends goes_on id v words slots is rest f =
      let r = f.1.0 in let t = r.truth in let a = r.account in let own = (r.each_seat id v f.1.1).owns is in
      let z = rests t.stage t.gen (subst IsAtRest own.stage_is rest) in
      let all : Balanced goes_on t.given t.plants t.lives t.kept = record {
        log = t.log;
        own = r.fits;
        authors = a.authors;
        numbered = a.numbered;
        lived = subst (λ n. AreLived n t.log) (z.0 ∙ a.past) a.lived;
        grows = a.grows;
        ended = a.ended;
        planted = a.planted ∙ (ap (λ (l : List (Planting T)). map planting t.lives ++ l) z.1 ∙ append-nil (map planting t.lives));
      } in
      subst (λ (y : ((ℕ × List (Planting T)) × List (Life T)) × List (Kept T)). Balanced goes_on y.0.0.0 y.0.0.1 y.0.1 y.1) (λ i. (((sym own.given_is i, sym own.plants_is i), sym own.lives_is i), sym own.kept_is i)) all
