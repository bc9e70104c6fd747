-- The steps of a call, put together.
use Rattle.std.proofs.Common.{◌≡◌, ℕ, List, [], ◌∷◌, sym, ap, ◌∙◌, subst}
use Rattle.std.specs.Prelude.{Option, Some, None}
use Rattle.atomic_table.specs.Table.{rest}
use Rattle.uv_guard.specs.declared.view.Found.{Found}
use Rattle.uv_guard.specs.declared.view.Held.{Held}
use Rattle.uv_guard.specs.Lives.{IsAfter, IsOf}
use Rattle.uv_guard.specs.Words.{life_word, turn_word, IsLive, IsTurn}
use Rattle.uv_guard.specs.Steps.{Sat, finding_more}
use Rattle.uv_guard.specs.Calls.{came_in}

module _ {T : Type 0} where
  second : (c : List (ℕ × Option T)) (a b : Option T) (r r' : List (ℕ × Option T)) → c ≡ (0, a) ∷ r → c ≡ (0, b) ∷ r' → a ≡ b
  second c a b r r' p q = let e : (0, a) ≡ (0, b) = cc in ap (λ (z : ℕ × Option T). z.1) e

  module _ (goes_on : T → T → Type 0) where
    abbrev Came : Sat T → ℕ → T → Sat T → Type 0
    Came m g x m' = (w n k : ℕ) × (m' ≡ came_in m (life_word w ∷ turn_word n ∷ []) k g x) × IsLive g w × IsTurn k n × IsAfter goes_on g m.0.took x × IsOf goes_on g m.0.plants x

    -- a seat that referred to g, took the turn and then the value has entered
    pub comes_in : (m m₁ m₂ m₃ m₄ : Sat T) (g f w : ℕ) (r : Option ℕ) (h : Held T) (res : Option T) (y : T) → m.1 ≡ [] → r ≡ Some g → m₁ ≡ (record m.0 { refers = r; found = life_word f ∷ [] }, m.1) → m₂ ≡ finding_more m₁ (turn_word w)
        → m₃ ≡ (record m₂.0 { entered = Some h }, (0, Some h.value) ∷ m₂.1) → m₂.0.refers ≡ Some h.generation → IsAfter goes_on h.generation m₂.0.took h.value → IsOf goes_on h.generation m₂.0.plants h.value
        → m₃.1 ≡ (0, res) ∷ rest m₃.1 → res ≡ Some y → m₄ ≡ (m₃.0, (0, None) ∷ rest m₃.1) → IsLive g f → IsTurn h.number w → Came m g y m₄
    comes_in m m₁ m₂ m₃ m₄ g f w r h res y empty is e e' e₃ refers aft of out got e₄ live turn =
        let ws : List Found = life_word f ∷ turn_word w ∷ [] in let p : m₂ ≡ (record m.0 { refers = r; found = ws }, m.1) = e' ∙ ap (λ (z : Sat T). finding_more z (turn_word w)) e in
        let gen : h.generation ≡ g = let q : Some h.generation ≡ Some g = sym refers ∙ (ap (λ (z : Sat T). z.0.refers) p ∙ is) in cc in
        let some_same : Some h.value ≡ Some y = second m₃.1 (Some h.value) res m₂.1 (rest m₃.1) (ap (λ (z : Sat T). z.1) e₃) out ∙ got in
        let val : h.value ≡ y = cc some_same in
        let q₃ : m₃ ≡ (record m.0 { refers = Some g; found = ws; entered = Some h }, (0, Some h.value) ∷ []) = e₃ ∙ (ap (λ (z : Sat T). (record z.0 { entered = Some h }, (0, Some h.value) ∷ z.1)) p ∙ (λ i. (record m.0 { refers = is i; found = ws; entered = Some h }, (0, Some h.value) ∷ empty i))) in (
          f,
          w,
          h.number,
          e₄ ∙ (ap (λ (z : Sat T). (z.0, (0, None) ∷ rest z.1)) q₃ ∙ (λ i. (record m.0 { refers = Some g; found = ws; entered = Some record { number = h.number; generation = gen i; value = val i } }, (0, None) ∷ []))),
          live,
          turn,
          subst (λ (z : ℕ × T). IsAfter goes_on z.0 m.0.took z.1) (λ i. (gen i, val i)) (subst (λ (z : Sat T). IsAfter goes_on h.generation z.0.took h.value) p aft),
          subst (λ (z : ℕ × T). IsOf goes_on z.0 m.0.plants z.1) (λ i. (gen i, val i)) (subst (λ (z : Sat T). IsOf goes_on h.generation z.0.plants h.value) p of),
        )
