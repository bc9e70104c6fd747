-- Pools: what stays true of one as deeds go out and come home.
use Rattle.std.proofs.Common.{get_or, ℕ, zero, suc, ◌≡◌, ◌<◌, ◌∙◌, sym, ap, List, [], ◌∷◌, ◌++◌, ◌⊎◌, refl, Option, Some, None, inl, inr, length, map, subst, arith}
use Rattle.std.proofs.lemmas.List.{get_or-set_same, get_or-set_other, length-set, length-map}
use Rattle.std.proofs.lemmas.Option.{get_or_from_slice_get, slice_get-map}
use Rattle.std.proofs.lemmas.Bool.Decides.{eqb_tells}
use Rattle.std.specs.Prelude.{slice_set, slice_get, option_map, IfSome}
use Rattle.uv_num.specs.declared.kind.Kind.{Kind}
use Rattle.uv_num.specs.declared.limits.TheConstants.{CELLS}
use Rattle.uv_pool.specs.Deeds.{DeedFacts}
use Rattle.uv_pool.specs.Homes.{Homes, IsOfCell, AreInPlace, AreOfCells, IsPool, deed_at}

-- a deed that stands at a place of a full pool is the one at that place of the list
stands_there : {D : Type 0} (deeds : List D) (i : ℕ) (deed : D) → get_or (map Some deeds) i None ≡ Some deed → slice_get deeds i ≡ Some deed
stands_there [] i deed at = cc
stands_there (x ∷ deeds) zero deed at = at
stands_there (x ∷ deeds) (suc i) deed at = stands_there deeds i deed at

-- an item of a list with one more behind it is one of the list or the one behind it
pub behind_cases : {X : Type 0} (xs : List X) (y : X) (i : ℕ) (x : X) → slice_get (xs ++ y ∷ []) i ≡ Some x → (slice_get xs i ≡ Some x) ⊎ ((i ≡ length xs) × (y ≡ x))
behind_cases [] y zero x at = inr (refl, cc)
behind_cases [] y (suc i) x at = cc
behind_cases (z ∷ xs) y zero x at = inl at
behind_cases (z ∷ xs) y (suc i) x at =
    elim (behind_cases xs y i x at) [ inl before ↦ inl before | inr last ↦ inr (ap suc last.0, last.1) ]

module _ {D : Type 0} (facts : D → DeedFacts) where
  -- the pool with something else at one place: nothing, or the deed of its cell
  pub IsPool-set :
      (pool : Homes D) (i m : ℕ) (slot : Option D) → i < CELLS → m < CELLS → ((deed : D) → slot ≡ Some deed → IsOfCell facts pool.kind i deed)
      → IsPool facts pool → IsPool facts (record { kind = pool.kind; deeds = slice_set pool.deeds i slot; next = m })
  IsPool-set pool i m slot within begins own p =
      let inside : i < length pool.deeds = omega arith in
      record {
        size = length-set pool.deeds i slot ∙ p.size;
        begins = begins;
        each = λ j deed at.
            elim (eqb_tells j i) [
              | inl same ↦
                  (let Q : ℕ → Type 0 = λ k. IsOfCell facts pool.kind k deed in
                  subst Q (sym same.1) (own deed (sym (get_or-set_same pool.deeds i slot None inside) ∙ (ap (λ k. deed_at (record pool { deeds = slice_set pool.deeds i slot }) k) (sym same.1) ∙ at))))
              | inr apart ↦ p.each j deed (sym (get_or-set_other pool.deeds i j slot None apart.1) ∙ at)
            ];
      }

  -- the pool without the deed at one place
  pub IsPool-taken :
      (pool : Homes D) (i m : ℕ) (slot : Option D) → slot ≡ None → i < CELLS → m < CELLS → IsPool facts pool
      → IsPool facts (record { kind = pool.kind; deeds = slice_set pool.deeds i slot; next = m })
  IsPool-taken pool i m slot none within begins p = IsPool-set pool i m slot within begins (λ deed some. cc) p

  -- the pool with the deed of a cell at its place
  pub IsPool-brought :
      (pool : Homes D) (i : ℕ) (deed : D) → i < CELLS → i ≡ (facts deed).index → (facts deed).kind ≡ pool.kind → IsPool facts pool
      → IsPool facts (record { kind = pool.kind; deeds = slice_set pool.deeds i (Some deed); next = pool.next })
  IsPool-brought pool i deed within index kind p =
      IsPool-set pool i pool.next (Some deed) within p.begins
      (λ other some. (let same : other ≡ deed = cc in record { same_kind = ap (λ d. (facts d).kind) same ∙ kind; same_index = ap (λ d. (facts d).index) same ∙ sym index })) p

  -- the deed at a place is of the cell with that index
  pub IsOfCell-at : (pool : Homes D) (i : ℕ) (found : Option D) → found ≡ deed_at pool i → IsPool facts pool → IfSome found (λ deed. IsOfCell facts pool.kind i deed)
  IsOfCell-at pool i None e p = tt
  IsOfCell-at pool i (Some deed) e p = p.each i deed (sym e)

  -- all deeds of a pool from which none is out
  pub AreOfCells-IsPool : (pool : Homes D) (deeds : List D) → map Some deeds ≡ pool.deeds → IsPool facts pool → AreOfCells facts pool.kind deeds
  AreOfCells-IsPool pool deeds all p = record {
    size = sym (length-map deeds Some) ∙ (ap length all ∙ p.size);
    each = λ i deed at.
        p.each i deed
        (get_or_from_slice_get pool.deeds i (Some deed) None
        (ap (λ ds. slice_get ds i) (sym all) ∙ (slice_get-map Some deeds i ∙ ap (λ o. option_map Some o) at)));
  }

  -- a pool with all its deeds
  pub IsPool-full :
      (kind : Kind) (deeds : List D) (slots : List (Option D)) → slots ≡ map Some deeds → AreOfCells facts kind deeds
      → IsPool facts (record { kind = kind; deeds = slots; next = 0 })
  IsPool-full kind deeds slots all cells = record {
    size = ap length all ∙ (length-map deeds Some ∙ cells.size);
    begins = omega arith;
    each = λ i deed at. cells.each i deed (stands_there deeds i deed (ap (λ ds. get_or ds i None) (sym all) ∙ at));
  }

  -- one more deed, for the cell behind the others
  pub AreInPlace-push :
      (kind : Kind) (deeds : List D) (deed : D) → AreInPlace facts kind deeds → IsOfCell facts kind (length deeds) deed
      → AreInPlace facts kind (deeds ++ deed ∷ [])
  AreInPlace-push kind deeds deed each one i other at =
      elim (behind_cases deeds deed i other at) [
        | inl before ↦ each i other before
        | inr last ↦
            record {
              same_kind = ap (λ d. (facts d).kind) (sym last.1) ∙ one.same_kind;
              same_index = ap (λ d. (facts d).index) (sym last.1) ∙ (one.same_index ∙ sym last.0);
            }
      ]
