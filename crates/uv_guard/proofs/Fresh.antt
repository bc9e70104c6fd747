-- What the seats and deeds of a new guard are fit for.
use Rattle.std.proofs.Common.{◌≡◌, refl, inl, ℕ, zero, suc, ◌+◌, ◌<◌, List, [], ◌∷◌, length, map, replicate, arith, ap, sym, ◌∙◌, subst}
use Rattle.std.specs.Prelude.{Option, Some, None, slice_get}
use Rattle.atomic_table.specs.Seated.{TableId}
use Rattle.uv_num.specs.Each.{Each}
use Rattle.uv_num.specs.declared.limits.TheConstants.{CELLS}
use Rattle.uv_guard.specs.declared.life.Stage.TheVariants.{Home}
use Rattle.uv_guard.specs.declared.view.Held.{Held}
use Rattle.uv_guard.specs.Seated.{Seated, Deeded, indexed, fresh_seats, fresh_deed, fresh_deeds, IsOutside, cells_of}
use Rattle.uv_guard.specs.Closed.{IsAtRest}
use Rattle.uv_guard.specs.Laws.{IsFree, IsReady, FreshLaws}

module _ {X : Type 0} where
  get_replicate : (n i : ℕ) (x : X) → i < n → slice_get (replicate n x) i ≡ Some x
  get_replicate zero i x lt = absurd (omega arith)
  get_replicate (suc n) zero x lt = refl
  get_replicate (suc n) (suc i) x lt = get_replicate n i x (omega arith)

  each_replicate : (n : ℕ) (x : X) → Each (λ y. y ≡ x) (replicate n x)
  each_replicate zero x = tt
  each_replicate (suc n) x = (refl, each_replicate n x)

module _ (T : Type 0) where
  free : (guard : List TableId) (n count : ℕ) → length guard ≡ CELLS → Each (IsFree {T = T} guard) (fresh_seats guard n count)
  free guard n zero len = tt
  free guard n (suc count) len = ((refl, ap (λ k. replicate k None) len), free guard (suc n) count len)

  cells : (count k : ℕ) (guard : List TableId) → cells_of (map (fresh_deed {T = T} count) (indexed k guard)) ≡ guard
  cells count k [] = refl
  cells count k (c ∷ cs) = ap (λ l. c ∷ l) (cells count (suc k) cs)

  rest : (count k : ℕ) (guard : List TableId) → Each (λ (d : Deeded T). IsAtRest d.stage) (map (fresh_deed count) (indexed k guard))
  rest count k [] = tt
  rest count k (c ∷ cs) = (inl refl, rest count (suc k) cs)

  here : (count k i : ℕ) (guard : List TableId) (d : Deeded T) → slice_get (map (fresh_deed count) (indexed k guard)) i ≡ Some d → (slice_get guard i ≡ Some d.cell) × (d.stage ≡ Home) × (d.index ≡ k + i)
  here count k i [] d at = absurd cc
  here count k zero (c ∷ cs) d at = let e : fresh_deed count (k, c) ≡ d = cc in let z : k ≡ k + 0 = omega arith in (ap (λ (x : Deeded T). Some x.cell) e, sym (ap (λ (x : Deeded T). x.stage) e), sym (ap (λ (x : Deeded T). x.index) e) ∙ z)
  here count k (suc i) (c ∷ cs) d at = let r = here count (suc k) i cs d at in let z : suc k + i ≡ k + suc i = omega arith in (r.0, r.1, r.2 ∙ z)

  ready : (guard : List TableId) (count i : ℕ) (d : Deeded T) → slice_get (fresh_deeds count guard) i ≡ Some d → IsReady guard d × (d.index ≡ i)
  ready guard count i d at = let r = here count 0 i guard d at in let z : 0 + i ≡ i = omega arith in let is : d.index ≡ i = r.2 ∙ z in ((ap (slice_get guard) is ∙ r.0, r.1), is)

  place : (guard : List TableId) (s : Seated T) (i : ℕ) → IsFree guard s → i < CELLS → slice_get s.held i ≡ Some None
  place guard s i f lt = ap (λ l. slice_get l i) f.1 ∙ get_replicate CELLS i None lt

  outside : (guard : List TableId) (s : Seated T) → IsFree guard s → IsOutside guard s
  outside guard s f = (f.0, subst (Each (λ (h : Option (Held T)). h ≡ None)) (sym f.1) (each_replicate CELLS None))

pub fresh : (T : Type 0) → FreshLaws T
fresh T = record {
  free = free T;
  cells = λ guard count. cells T count 0 guard;
  rest = λ guard count. rest T count 0 guard;
  ready = ready T;
  place = place T;
  outside = outside T;
}
