-- The deed that is drawn next, as a walk over any list with the same tests finds it.
use Rattle.std.proofs.Common.{ℕ, ◌+◌, ◌≡◌, Bool, cond, List, [], ◌∷◌, Some, None, map, take, drop, refl, ap, sym, ◌∙◌}
use Rattle.std.proofs.lemmas.Iterator.Adapters.{position_from-zero}
use Rattle.std.proofs.lemmas.List.{drop-map, take-map, map-set}
use Rattle.std.specs.Prelude.{option_map, position, slice_set}
use Rattle.std.specs.List.{position_from}
use Rattle.std.specs.Option.{option_or}
use Rattle.uv_pool.specs.Deeds.{DeedFacts}
use Rattle.uv_pool.specs.Homes.{Homes, is_drawable, home_place, deed_drawn, brought}

position_from-map : {X : Type 0} (p : X → Bool) (n : ℕ) (xs : List X) → position_from p n xs ≡ position_from (λ b. b) n (map p xs)
position_from-map p n [] = refl
position_from-map p n (x ∷ xs) = ap (λ o. cond (p x) (Some n) o) (position_from-map p (n + 1) xs)

-- the first item that passes a test is the first test that is passed
position-map : {X : Type 0} (p : X → Bool) (xs : List X) → position p xs ≡ position (λ b. b) (map p xs)
position-map p xs =
    position_from-zero p xs ∙ (position_from-map p 0 xs ∙ sym (position_from-zero (λ b. b) (map p xs)))

-- lists whose tests agree have their first items that pass at one place
pub position_same : {X Y : Type 0} (p : X → Bool) (q : Y → Bool) (xs : List X) (ys : List Y) → map p xs ≡ map q ys → position p xs ≡ position q ys
position_same p q xs ys same = position-map p xs ∙ (ap (λ bs. position (λ b. b) bs) same ∙ sym (position-map q ys))

module _ {D : Type 0} (facts : D → DeedFacts) where
  -- the place of the next deed, by any list whose tests agree with the pool's
  pub home_place_by :
      {X : Type 0} (pool : Homes D) (p : X → Bool) (xs : List X) → map p xs ≡ map (is_drawable facts) pool.deeds
      → option_or (option_map (λ i. pool.next + i) (position p (drop pool.next xs))) (position p (take pool.next xs)) ≡ home_place facts pool
  home_place_by pool p xs same =
      let behind : position p (drop pool.next xs) ≡ position (is_drawable facts) (drop pool.next pool.deeds) = position_same p (is_drawable facts) _ _ (sym (drop-map p pool.next xs) ∙ (ap (λ bs. drop pool.next bs) same ∙ drop-map (is_drawable facts) pool.next pool.deeds)) in
      let before : position p (take pool.next xs) ≡ position (is_drawable facts) (take pool.next pool.deeds) = position_same p (is_drawable facts) _ _ (sym (take-map p pool.next xs) ∙ (ap (λ bs. take pool.next bs) same ∙ take-map (is_drawable facts) pool.next pool.deeds)) in
      ap (λ o. option_or (option_map (λ i. pool.next + i) o) (position p (take pool.next xs))) behind
      ∙ ap (λ o. option_or (option_map (λ i. pool.next + i) (position (is_drawable facts) (drop pool.next pool.deeds))) o) before

  -- the tests of a pool whose deed at a place went out
  pub homes-drawn : (i : ℕ) (pool : Homes D) → map (is_drawable facts) (deed_drawn i pool).deeds ≡ slice_set (map (is_drawable facts) pool.deeds) i (is_drawable facts None)
  homes-drawn i pool = map-set (is_drawable facts) pool.deeds i None

  -- the tests of a pool to which a deed came home
  pub homes-brought : (i : ℕ) (deed : D) (pool : Homes D) → map (is_drawable facts) (brought i deed pool).deeds ≡ slice_set (map (is_drawable facts) pool.deeds) i (is_drawable facts (Some deed))
  homes-brought i deed pool = map-set (is_drawable facts) pool.deeds i (Some deed)
