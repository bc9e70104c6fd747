-- A filter that drops only what a weight or a test doesn't see.
use Rattle.std.proofs.Common.{◌≡◌, ℕ, Bool, true, false, List, [], ◌∷◌, Some, inl, inr, cond, refl, ap, sym, ◌∙◌, arith}
use Rattle.std.specs.Prelude.{find, filter, ◌||◌, sum_by}
use Rattle.std.specs.List.{list_any}
use Rattle.std.proofs.lemmas.List.Sums.{sum_by-cons}
use Rattle.uv_machine.specs.Reached.{IsIn}

pub sum_kept : {X : Type 0} (w : X → ℕ) (keep : X → Bool) (xs : List X) → ((x : X) → IsIn x xs → keep x ≡ false → ◌≡◌ {A = ℕ} (w x) 0) → sum_by w (filter keep xs) ≡ sum_by w xs
sum_kept w keep [] h = refl
sum_kept {X} w keep (x ∷ xs) h =
    let rest = sum_kept w keep xs (λ y k. h y (inr k)) in
    let by : (b : Bool) → keep x ≡ b → sum_by w (cond b (x ∷ filter keep xs) (filter keep xs)) ≡ sum_by w (x ∷ xs) = λ b. elim b as (λ v. keep x ≡ v → sum_by w (cond v (x ∷ filter keep xs) (filter keep xs)) ≡ sum_by w (x ∷ xs)) [
      | true ↦ λ e. omega (arith, sum_by-cons w x (filter keep xs), sum_by-cons w x xs, rest)
      | false ↦ λ e. (let none = h x (inl refl) e in omega (arith, sum_by-cons w x xs, rest, none))
    ] in
    by (keep x) refl

pub any_kept : {X : Type 0} (p keep : X → Bool) (xs : List X) → ((x : X) → IsIn x xs → keep x ≡ false → p x ≡ false) → list_any p (filter keep xs) ≡ list_any p xs
any_kept p keep [] h = refl
any_kept {X} p keep (x ∷ xs) h =
    let rest = any_kept p keep xs (λ y k. h y (inr k)) in
    let by : (b : Bool) → keep x ≡ b → list_any p (cond b (x ∷ filter keep xs) (filter keep xs)) ≡ list_any p (x ∷ xs) = λ b. elim b as (λ v. keep x ≡ v → list_any p (cond v (x ∷ filter keep xs) (filter keep xs)) ≡ list_any p (x ∷ xs)) [
      | true ↦ λ e. ap (λ v. p x || v) rest
      | false ↦ λ e. rest ∙ sym (ap (λ v. v || list_any p xs) (h x (inl refl) e))
    ] in
    by (keep x) refl

pub find_kept : {X : Type 0} (p keep : X → Bool) (xs : List X) → ((x : X) → IsIn x xs → keep x ≡ false → p x ≡ false) → find p (filter keep xs) ≡ find p xs
find_kept p keep [] h = refl
find_kept {X} p keep (x ∷ xs) h =
    let rest = find_kept p keep xs (λ y k. h y (inr k)) in
    let by : (b : Bool) → keep x ≡ b → find p (cond b (x ∷ filter keep xs) (filter keep xs)) ≡ find p (x ∷ xs) = λ b. elim b as (λ v. keep x ≡ v → find p (cond v (x ∷ filter keep xs) (filter keep xs)) ≡ find p (x ∷ xs)) [
      | true ↦ λ e. ap (λ v. cond (p x) (Some x) v) rest
      | false ↦ λ e. rest ∙ sym (ap (λ v. cond v (Some x) (find p xs)) (h x (inl refl) e))
    ] in
    by (keep x) refl
