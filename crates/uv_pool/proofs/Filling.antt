-- Pools of deeds that were never planted, as they are filled.
use Rattle.std.proofs.Common.{ℕ, zero, suc, ◌≡◌, ◌+◌, ◌<◌, ◌∙◌, sym, ap, subst, refl, List, [], ◌∷◌, ◌++◌, Some, None, inl, inr, length, map, arith}
use Rattle.std.specs.Prelude.{slice_get, option_map}
use Rattle.std.proofs.lemmas.List.{length-append, length-map}
use Rattle.std.proofs.lemmas.Option.{get_or_from_slice_get, slice_get-map}
use Rattle.uv_num.specs.declared.kind.Kind.{Kind}
use Rattle.uv_num.specs.declared.limits.TheConstants.{CELLS, KINDS}
use Rattle.uv_num.specs.Kind.{kind_place}
use Rattle.uv_pool.specs.Deeds.{DeedFacts, IsNewDeed}
use Rattle.uv_pool.specs.Filled.{IsNewPool, AreNewPools}
use Rattle.uv_pool.specs.Homes.{Homes, IsOfCell, AreOfCells, full_homes}
use Rattle.uv_pool.proofs.Homing.{behind_cases}

-- what holds of each item by its place holds with one more after them
each_more :
    {X : Type 0} (P : ℕ → X → Type 0) (xs : List X) (y : X) (n : ℕ) → length xs ≡ n → ((i : ℕ) (x : X) → slice_get xs i ≡ Some x → P i x) → P n y
    → (i : ℕ) (x : X) → slice_get (xs ++ y ∷ []) i ≡ Some x → P i x
each_more {X} P xs y n size each own i x at =
    elim (behind_cases xs y i x at) [
      | inl before ↦ each i x before
      | inr last ↦
          (let Q : X → Type 0 = λ v. P i v in
          let R : ℕ → Type 0 = λ v. P v y in
          subst Q last.1 (subst R (sym (last.0 ∙ size)) own))
    ]

-- a place of a list has an item
pub record HasItem {X : Type 0} (xs : List X) (i : ℕ) : Type 0 where
  pub item : X
  pub is : slice_get xs i ≡ Some item

has_item : {X : Type 0} (xs : List X) (i : ℕ) → i < length xs → HasItem xs i
has_item [] i within = absurd (omega arith)
has_item (x ∷ xs) zero within = record { item = x; is = refl }
has_item (x ∷ xs) (suc i) within = let h = has_item xs i (omega arith) in record { item = h.item; is = h.is }

-- a deed of the cell that was never planted
pub record IsNewOf {D : Type 0} (facts : D → DeedFacts) (kind : Kind) (i : ℕ) (d : D) : Type 0 where
  pub of_cell : IsOfCell facts kind i d
  pub new : IsNewDeed (facts d) (kind_place kind) i

-- so many of them, in the order of the cells
pub record AreNew {D : Type 0} (facts : D → DeedFacts) (kind : Kind) (n : ℕ) (deeds : List D) : Type 0 where
  pub size : length deeds ≡ n
  pub each : (i : ℕ) (d : D) → slice_get deeds i ≡ Some d → IsNewOf facts kind i d

-- so many full pools, in the order of the kinds
pub record ArePools {D : Type 0} (facts : D → DeedFacts) (n : ℕ) (pools : List (Homes D)) : Type 0 where
  pub size : length pools ≡ n
  pub each : (k : ℕ) (pool : Homes D) → slice_get pools k ≡ Some pool → IsNewPool facts k pool

module _ {D : Type 0} (facts : D → DeedFacts) where
  pub new_more : (kind : Kind) (n : ℕ) (deeds more : List D) (d : D) → AreNew facts kind n deeds → IsNewOf facts kind n d → more ≡ deeds ++ d ∷ [] → AreNew facts kind (n + 1) more
  new_more kind n deeds more d a own e =
      let P : List D → Type 0 = λ v. AreNew facts kind (n + 1) v in
      let size = a.size in
      subst P (sym e)
      (record {
        size = omega (arith, length-append deeds (d ∷ []), size);
        each = each_more (λ i x. IsNewOf facts kind i x) deeds d n a.size a.each own;
      })

  pub new_cells : (kind : Kind) (n : ℕ) (deeds : List D) → n ≡ CELLS → AreNew facts kind n deeds → AreOfCells facts kind deeds
  new_cells kind n deeds all a = record { size = a.size ∙ all; each = λ i d at. (a.each i d at).of_cell }

  pub new_pool : (kind : Kind) (n : ℕ) (deeds : List D) → n ≡ CELLS → AreNew facts kind n deeds → IsNewPool facts (kind_place kind) (full_homes kind deeds)
  new_pool kind n deeds all a = record {
    kind = refl;
    size = length-map deeds (λ (d : D). Some d) ∙ (a.size ∙ all);
    next = refl;
    deeds = λ i low. (
        let size = a.size in
        let h = has_item deeds i (omega (arith, low, size, all)) in
        record {
          deed = h.item;
          there = get_or_from_slice_get (map (λ (d : D). Some d) deeds) i (Some h.item) None (slice_get-map (λ (d : D). Some d) deeds i ∙ ap (option_map (λ (d : D). Some d)) h.is);
          new = (a.each i h.item h.is).new;
        });
  }

  same_kind : (deeds : List D) (one other : Kind) → AreOfCells facts one deeds → AreOfCells facts other deeds → one ≡ other
  same_kind deeds one other a b =
      let size = a.size in
      let h = has_item deeds 0 (omega (arith, size)) in
      sym (a.each 0 h.item h.is).same_kind ∙ (b.each 0 h.item h.is).same_kind

  -- the pool that was made of new deeds
  pub pool_of : (kind : Kind) (deeds : List D) (pool : Homes D) → AreOfCells facts kind deeds → AreOfCells facts pool.kind deeds → IsNewPool facts (kind_place kind) (full_homes kind deeds)
      → pool ≡ full_homes pool.kind deeds → IsNewPool facts (kind_place kind) pool
  pool_of kind deeds pool a b new e =
      let P : Homes D → Type 0 = λ v. IsNewPool facts (kind_place kind) v in
      subst P (sym (e ∙ ap (λ v. full_homes v deeds) (same_kind deeds pool.kind kind b a))) new

  pub pools_more : (n : ℕ) (pools more : List (Homes D)) (pool : Homes D) (k : ℕ) → ArePools facts n pools → k ≡ n → IsNewPool facts k pool → more ≡ pools ++ pool ∷ [] → ArePools facts (n + 1) more
  pools_more n pools more pool k a same own e =
      let R : ℕ → Type 0 = λ v. IsNewPool facts v pool in
      let P : List (Homes D) → Type 0 = λ v. ArePools facts (n + 1) v in
      let size = a.size in
      subst P (sym e)
      (record {
        size = omega (arith, length-append pools (pool ∷ []), size);
        each = each_more (λ i x. IsNewPool facts i x) pools pool n a.size a.each (subst R same own);
      })

  pub all_pools : (n : ℕ) (pools : List (Homes D)) → n ≡ KINDS → ArePools facts n pools → AreNewPools facts pools
  all_pools n pools all a = record { count = a.size ∙ all; each = a.each }
