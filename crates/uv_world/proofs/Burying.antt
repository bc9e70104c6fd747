-- Deeds that were buried are buried for what they were out for.
use Rattle.std.proofs.Common.{◌≡◌, ℕ, ◌+◌, Bool, true, false, List, None, nat_le, refl, sym, ap, subst}
use Rattle.uv_num.specs.declared.kind.Kind.{Kind}
use Rattle.uv_num.specs.declared.limits.TheConstants.{MOST_GENERATION}
use Rattle.uv_pool.specs.declared.deed.Life.{Life}
use Rattle.uv_pool.specs.Deeds.{BehindBy, DeedFacts, IsBuried, after_burial, buried_by}
use Rattle.uv_graph.specs.declared.out.Out.{Out}
use Rattle.uv_graph.specs.Deeds.{IsDeedBuried, IsDeedPlantedFor}

buried_if : (b : Bool) (t : DeedFacts) (k : Kind) (i g : ℕ) (ls : List Life) → nat_le MOST_GENERATION g ≡ b → t.kind ≡ k → t.index ≡ i → t.generation ≡ g → t.spent ≡ false → IsBuried (buried_by b (record t { lives = None })) k i g ls
buried_if true t k i g ls last ek ei eg es =
    let P : Bool → Type 0 = λ v. BehindBy v (buried_by true (record t { lives = None })) g in
    record { kind = ek; index = ei; planted = refl; behind = subst P (sym last) (eg, refl); lives = tt }
buried_if false t k i g ls last ek ei eg es =
    let P : Bool → Type 0 = λ v. BehindBy v (buried_by false (record t { lives = None })) g in
    record { kind = ek; index = ei; planted = refl; behind = subst P (sym last) (ap (λ (n : ℕ). n + 1) eg, es); lives = tt }

pub buried_is : (t u : DeedFacts) (out : Out) (ls told : List Life) → u ≡ after_burial (record t { lives = None }) → IsDeedPlantedFor t out ls → IsDeedBuried u out told
buried_is t u out ls told is p =
    let P : DeedFacts → Type 0 = λ v. IsDeedBuried v out told in
    subst P (sym is)
    (buried_if (nat_le MOST_GENERATION t.generation) t out.identity.kind out.index out.generation told (ap (λ (n : ℕ). nat_le MOST_GENERATION n) (sym p.generation)) p.kind p.index p.generation p.spent)
