-- Deeds that are planted and buried.
use Rattle.std.proofs.Common.{ℕ, ◌≡◌, ◌+◌, ◌++◌, ◌∷◌, [], ◌∙◌, sym, ap, subst, refl, Bool, true, false, List, Option, Some, None}
use Rattle.std.specs.Prelude.{nat_le}
use Rattle.uv_num.specs.declared.identity.Identity.{Identity}
use Rattle.uv_num.specs.declared.limits.TheConstants.{MOST_GENERATION}
use Rattle.uv_pool.specs.declared.deed.Life.{Life}
use Rattle.uv_pool.specs.Deeds.{DeedFacts, IsForNew, IsPlantedFor, IsBuried, BehindBy, TellsLives, TellsBefore, life_for, with_life, buried_by, after_planting, after_burial}

-- the lives that are told after the planting
told_after : (lives : Option (List Life)) (x : Identity) (n g : ℕ) (ls : List Life) → n ≡ g → TellsBefore lives (life_for x g) ls → TellsLives (with_life (life_for x n) lives) ls
told_after None x n g ls same tells = tt
told_after (Some told) x n g ls same tells = ap (λ k. told ++ life_for x k ∷ []) same ∙ tells

pub new_planted : (t : DeedFacts) (x : Identity) (i g : ℕ) (ls : List Life) → IsForNew t x i g ls → IsPlantedFor (after_planting x t) x i g ls
new_planted t x i g ls p = record {
  kind = p.kind;
  index = p.index;
  generation = p.generation;
  spent = p.spent;
  planted = refl;
  identity = refl;
  lives = told_after t.lives x t.generation g ls p.generation p.lives;
}

-- a burial by either case
buried : (b : Bool) (t : DeedFacts) (x : Identity) (i g : ℕ) (ls : List Life) → nat_le MOST_GENERATION g ≡ b → IsPlantedFor t x i g ls → IsBuried (buried_by b t) x.kind i g ls
buried true t x i g ls last p =
    let P : Bool → Type 0 = λ v. BehindBy v (buried_by true t) g in
    record { kind = p.kind; index = p.index; planted = refl; behind = subst P (sym last) (p.generation, refl); lives = p.lives }
buried false t x i g ls last p =
    let P : Bool → Type 0 = λ v. BehindBy v (buried_by false t) g in
    record { kind = p.kind; index = p.index; planted = refl; behind = subst P (sym last) (ap (λ n. n + 1) p.generation, p.spent); lives = p.lives }

pub planted_buried : (t : DeedFacts) (x : Identity) (i g : ℕ) (ls : List Life) → IsPlantedFor t x i g ls → IsBuried (after_burial t) x.kind i g ls
planted_buried t x i g ls p =
    buried (nat_le MOST_GENERATION t.generation) t x i g ls (ap (λ n. nat_le MOST_GENERATION n) (sym p.generation)) p
