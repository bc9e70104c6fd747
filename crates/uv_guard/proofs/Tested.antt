-- Seats and deeds of registers, for the tests.
use Rattle.std.proofs.Common.{◌≡◌, ◌≢◌, refl, inl, inr, ℕ, zero, suc, ◌<◌, List, [], ◌∷◌, ◌++◌, length, take, drop, reverse, set, Bool, true, false, cond, nat_eq, arith, ap, sym, ◌∙◌, subst, append-nil}
use Rattle.std.proofs.lemmas.List.{reverse-append}
use Rattle.std.specs.Prelude.{Some, None, slice_get, slice_index_or, remove}
use Rattle.uv_num.specs.Each.{Each}
use Rattle.uv_guard.specs.declared.life.Stage.{Stage}
use Rattle.uv_guard.specs.declared.life.Stage.TheVariants.{Home, Doomed, Spent}
use Rattle.uv_guard.specs.declared.view.Held.{Held}
use Rattle.uv_guard.specs.Steps.{last}
use Rattle.uv_guard.specs.Seated.{Seated, Deeded, outside, given_back, buried_at, buried_deed}
use Rattle.uv_guard.specs.Closed.{IsAtRest}
use Rattle.uv_guard.proofs.Logs.{each_snoc}
use Rattle.uv_guard.proofs.Many.{take_whole}

pub apart : (i j : ℕ) → i < j → i ≢ j
apart i j lt e = omega arith

module _ {X : Type 0} where
  pub get_other : (xs : List X) (i j : ℕ) (y : X) → i ≢ j → slice_get (set xs i y) j ≡ slice_get xs j
  get_other [] i j y ne = refl
  get_other (x ∷ xs) zero zero y ne = absurd (ne refl)
  get_other (x ∷ xs) zero (suc j) y ne = refl
  get_other (x ∷ xs) (suc i) zero y ne = refl
  get_other (x ∷ xs) (suc i) (suc j) y ne = get_other xs i j y (λ e. ne (ap suc e))

  pub after_first : (xs : List X) (i : ℕ) → slice_get (remove xs 0) i ≡ slice_get xs (suc i)
  after_first [] i = refl
  after_first (x ∷ xs) i = refl

  pub one_at : (P : X → Type 0) (xs : List X) (i : ℕ) (d : X) → i < length xs → Each P xs → P (slice_index_or xs i d)
  one_at P [] i d lt e = absurd (omega arith)
  one_at P (x ∷ xs) zero d lt e = e.0
  one_at P (x ∷ xs) (suc i) d lt e = one_at P xs i d (omega arith) e.1

  all_of : (P : X → Type 0) (n : ℕ) (ys : List X) → length ys ≡ n → ((i : ℕ) (d : X) → i < n → P (slice_index_or ys i d)) → Each P ys
  all_of P n [] len f = tt
  all_of P n (y ∷ ys) len f = (f 0 y (omega arith), all_of P (length ys) ys refl (λ i d lt. f (suc i) d (omega arith)))

  turned : (P : X → Type 0) (ys : List X) → Each P ys → Each P (reverse ys)
  turned P [] e = tt
  turned P (y ∷ ys) e = subst (Each P) (sym (reverse-append (y ∷ []) ys)) (each_snoc P (reverse ys) y (turned P ys e.1) e.0)

  pub all_turned : (P : X → Type 0) (n : ℕ) (ys zs : List X) → length ys ≡ n → ((i : ℕ) (d : X) → i < n → P (slice_index_or ys i d)) → zs ≡ reverse ys → Each P zs
  all_turned P n ys zs len f e = subst (Each P) (sym e) (turned P ys (all_of P n ys len f))

  drop_whole : (xs : List X) (n : ℕ) → n ≡ length xs → drop n xs ≡ []
  drop_whole [] zero e = refl
  drop_whole [] (suc n) e = absurd (omega arith)
  drop_whole (x ∷ xs) zero e = absurd (omega arith)
  drop_whole (x ∷ xs) (suc n) e = drop_whole xs n (omega arith)

  -- a slice of all of a list is written back as it is
  pub written_back : (xs ys : List X) → length ys ≡ length xs → take (length xs) (ys ++ drop (length ys) xs) ≡ ys
  written_back xs ys len = ap (λ l. take (length xs) (ys ++ l)) (drop_whole xs (length ys) len) ∙ (ap (take (length xs)) (append-nil ys) ∙ take_whole ys (length xs) (sym len))

module _ {T : Type 0} where
  -- a doomed deed that was buried is at rest, at its cell
  pub buried_rests : (d d' : Deeded T) (p x : T) → d.stage ≡ Doomed p → d' ≡ buried_deed d x → (d'.cell ≡ d.cell) × IsAtRest d'.stage
  buried_rests d d' p x st e = subst (λ (z : Deeded T). (z.cell ≡ d.cell) × IsAtRest z.stage) (sym (e ∙ ap (λ (s : Stage T). buried_at s d x) st)) (refl, rests (nat_eq d.generation last))
    where
      rests : (b : Bool) → IsAtRest {T = T} (cond b Spent Home)
      rests true = inr refl
      rests false = inl refl

  -- a seat that left one cell has what it has in another
  pub left_other : (s : Seated T) (i j : ℕ) (h g : Held T) (y : T) → i ≢ j → slice_get s.held i ≡ Some (Some h) → slice_get s.held j ≡ Some (Some g) → slice_get (outside s i y).held j ≡ Some (Some g)
  left_other s i j h g y ne at at' = ap (λ z. slice_get (given_back s i y z).held j) at ∙ (get_other s.held i j None ne ∙ at')
