-- What stands at the places of a pool after a deed went out or came home, at its place and at every other one.
use Rattle.std.proofs.Common.{ℕ, zero, suc, ◌≡◌, ◌≢◌, ◌<◌, Bool, true, false, not, ◌&&◌, List, [], ◌∷◌, length, Option, Some, None, map, get_or, refl, ap, ◌∙◌, arith}
use Rattle.std.proofs.lemmas.Bool.{lt-ltb, ltb-true}
use Rattle.std.proofs.lemmas.List.{get_or-set_same, get_or-set_other}
use Rattle.std.specs.Prelude.{slice_set, nat_lt}
use Rattle.std.specs.List.{list_all}
use Rattle.std.specs.Option.{is_some, is_none}
use Rattle.uv_num.specs.declared.kind.Kind.{Kind}
use Rattle.uv_num.specs.declared.limits.TheConstants.{CELLS}
use Rattle.uv_pool.specs.Homes.{Homes, deed_at, is_out_at, has_all, full_homes, deed_drawn, brought}

both : (a b : Bool) → (a && b) ≡ true → (a ≡ true) × (b ≡ true)
both true b e = (refl, e)
both false b e = cc

and_false : (a : Bool) → (a && false) ≡ false
and_false true = refl
and_false false = refl

is_nothing : {D : Type 0} (o : Option D) → is_none o ≡ true → o ≡ None
is_nothing None none = refl
is_nothing (Some deed) none = cc

-- a list without an item at one place
nothing_there : {D : Type 0} (xs : List (Option D)) (i : ℕ) → get_or (slice_set xs i None) i None ≡ None
nothing_there [] i = refl
nothing_there (x ∷ xs) zero = refl
nothing_there (x ∷ xs) (suc i) = nothing_there xs i

-- each place has its item
each_there : {D : Type 0} (xs : List (Option D)) → ((i : ℕ) → i < length xs → is_some (get_or xs i None) ≡ true) → list_all is_some xs ≡ true
each_there [] each = refl
each_there (x ∷ xs) each =
    ap (λ b. b && list_all is_some xs) (each 0 (omega arith))
    ∙ each_there xs (λ i within. each (suc i) (omega arith))

there_each : {D : Type 0} (xs : List (Option D)) → list_all is_some xs ≡ true → (i : ℕ) → i < length xs → is_some (get_or xs i None) ≡ true
there_each [] all i within = absurd (omega arith)
there_each (x ∷ xs) all zero within = (both (is_some x) (list_all is_some xs) all).0
there_each (x ∷ xs) all (suc i) within =
    there_each xs (both (is_some x) (list_all is_some xs) all).1 i (omega arith)

all_there : {D : Type 0} (deeds : List D) → list_all is_some (map Some deeds) ≡ true
all_there [] = refl
all_there (deed ∷ deeds) = all_there deeds

-- a test that fails of a cell fails by what stands there
there_where : (b c : Bool) → b ≡ true → (b && not c) ≡ false → c ≡ true
there_where b true is none = refl
there_where true false is none = cc
there_where false false is none = cc

not_out : (b c : Bool) → (b ≡ true → c ≡ true) → (b && not c) ≡ false
not_out true c there = ap not (there refl)
not_out false c there = refl

module _ {D : Type 0} (pool : Homes D) where
  -- Deeds that are out.

  -- where a deed is out, nothing stands at the place of its cell
  pub out_is_cell : (i : ℕ) → is_out_at pool i ≡ true → (i < CELLS) × (deed_at pool i ≡ None)
  out_is_cell i out =
      let parts = both (nat_lt i CELLS) (is_none (deed_at pool i)) out in
      (ltb-true i CELLS parts.0, is_nothing (deed_at pool i) parts.1)

  -- where nothing stands at the place of a cell, its deed is out
  pub cell_is_out : (i : ℕ) → i < CELLS → deed_at pool i ≡ None → is_out_at pool i ≡ true
  cell_is_out i cell none =
      ap (λ o. nat_lt i CELLS && is_none o) none ∙ ap (λ b. b && true) (lt-ltb i CELLS cell)

  -- a deed that stands at a place is not out
  pub deed_is_home : (i : ℕ) (deed : D) → deed_at pool i ≡ Some deed → is_out_at pool i ≡ false
  deed_is_home i deed at = ap (λ o. nat_lt i CELLS && is_none o) at ∙ and_false (nat_lt i CELLS)

  -- a pool in which no deed is out has them all
  pub has_all_where : length pool.deeds ≡ CELLS → ((i : ℕ) → is_out_at pool i ≡ false) → has_all pool ≡ true
  has_all_where size home =
      each_there pool.deeds
      (λ i within. there_where (nat_lt i CELLS) (is_some (deed_at pool i)) (lt-ltb i CELLS (omega arith)) (home i))

  -- no deed is out of a pool that has them all
  pub none_is_out : length pool.deeds ≡ CELLS → has_all pool ≡ true → (i : ℕ) → is_out_at pool i ≡ false
  none_is_out size all i =
      not_out (nat_lt i CELLS) (is_some (deed_at pool i))
      (λ cell. there_each pool.deeds all i (let below : i < CELLS = ltb-true i CELLS cell in omega arith))

  -- A deed that went out.

  pub deed_at-drawn_same : (i : ℕ) → deed_at (deed_drawn i pool) i ≡ None
  deed_at-drawn_same i = nothing_there pool.deeds i

  pub deed_at-drawn_other : (i k : ℕ) → k ≢ i → deed_at (deed_drawn i pool) k ≡ deed_at pool k
  deed_at-drawn_other i k other = get_or-set_other pool.deeds i k None None other

  pub is_out_at-drawn_same : (i : ℕ) → i < CELLS → is_out_at (deed_drawn i pool) i ≡ true
  is_out_at-drawn_same i cell =
      ap (λ o. nat_lt i CELLS && is_none o) (deed_at-drawn_same i) ∙ ap (λ b. b && true) (lt-ltb i CELLS cell)

  pub is_out_at-drawn_other : (i k : ℕ) → k ≢ i → is_out_at (deed_drawn i pool) k ≡ is_out_at pool k
  is_out_at-drawn_other i k other = ap (λ o. nat_lt k CELLS && is_none o) (deed_at-drawn_other i k other)

  -- A deed that came home.

  pub deed_at-brought_same : (i : ℕ) (deed : D) → i < length pool.deeds → deed_at (brought i deed pool) i ≡ Some deed
  deed_at-brought_same i deed within = get_or-set_same pool.deeds i (Some deed) None within

  pub deed_at-brought_other : (i k : ℕ) (deed : D) → k ≢ i → deed_at (brought i deed pool) k ≡ deed_at pool k
  deed_at-brought_other i k deed other = get_or-set_other pool.deeds i k (Some deed) None other

  pub is_out_at-brought_same : (i : ℕ) (deed : D) → i < length pool.deeds → is_out_at (brought i deed pool) i ≡ false
  is_out_at-brought_same i deed within =
      ap (λ o. nat_lt i CELLS && is_none o) (deed_at-brought_same i deed within) ∙ and_false (nat_lt i CELLS)

  pub is_out_at-brought_other : (i k : ℕ) (deed : D) → k ≢ i → is_out_at (brought i deed pool) k ≡ is_out_at pool k
  is_out_at-brought_other i k deed other = ap (λ o. nat_lt k CELLS && is_none o) (deed_at-brought_other i k deed other)

-- A pool with all its deeds.

pub has_all-full_homes : {D : Type 0} (kind : Kind) (deeds : List D) → has_all (full_homes kind deeds) ≡ true
has_all-full_homes kind deeds = all_there deeds
