-- Lists by cell, after a change at one place.
use Rattle.std.proofs.Common.{◌≡◌, refl, ℕ, zero, suc, ◌<◌, List, [], ◌∷◌, ◌++◌, length, map, set, get_or, arith, ap, sym, ◌∙◌, subst}
use Rattle.std.specs.Prelude.{Option, Some, None, slice_get, slice_index_or}
use Rattle.atomic_table.specs.Seated.{TableId}
use Rattle.uv_num.specs.Each.{Each}
use Rattle.uv_guard.specs.declared.cell.Cell.{Cell}
use Rattle.uv_guard.specs.declared.view.Found.{Found}
use Rattle.uv_guard.specs.declared.view.Held.{Held}
use Rattle.uv_guard.specs.Cells.{tables}
use Rattle.uv_guard.specs.Steps.{taking}
use Rattle.uv_guard.specs.Seated.{PlacedSeat, Seated, Deeded, more_at, seated, finds, outside, given_back, witnessed}

module _ {X : Type 0} where
  pub at_index : (xs : List X) (i : ℕ) (r : X) → i < length xs → r ≡ get_or xs i r → slice_get xs i ≡ Some r
  at_index [] i r lt e = absurd (omega arith)
  at_index (x ∷ xs) zero r lt e = ap (λ z. Some z) (sym e)
  at_index (x ∷ xs) (suc i) r lt e = at_index xs i r (omega arith) e

  pub set_same : (xs : List X) (i : ℕ) (x : X) → slice_get xs i ≡ Some x → set xs i x ≡ xs
  set_same [] i x e = refl
  set_same (y ∷ ys) zero x e = let z : y ≡ x = cc in ap (λ u. u ∷ ys) (sym z)
  set_same (y ∷ ys) (suc i) x e = ap (λ l. y ∷ l) (set_same ys i x e)

  pub index_or : (xs : List X) (i : ℕ) (x d : X) → slice_get xs i ≡ Some x → slice_index_or xs i d ≡ x
  index_or [] i x d e = absurd cc
  index_or (y ∷ ys) zero x d e = cc
  index_or (y ∷ ys) (suc i) x d e = index_or ys i x d e

  pub each_set : (P : X → Type 0) (xs : List X) (i : ℕ) (y : X) → Each P xs → P y → Each P (set xs i y)
  each_set P [] i y e p = tt
  each_set P (x ∷ xs) zero y e p = (p, e.1)
  each_set P (x ∷ xs) (suc i) y e p = (e.0, each_set P xs i y e.1 p)

  pub each_at : (P : X → Type 0) (xs : List X) (i : ℕ) (x : X) → Each P xs → slice_get xs i ≡ Some x → P x
  each_at P [] i x e at = absurd cc
  each_at P (y ∷ ys) zero x e at = let z : y ≡ x = cc in subst P z e.0
  each_at P (y ∷ ys) (suc i) x e at = each_at P ys i x e.1 at

  pub more_is_set : (ls : List (List X)) (i : ℕ) (l : List X) (x : X) → slice_get ls i ≡ Some l → more_at ls i x ≡ set ls i (l ++ x ∷ [])
  more_is_set [] i l x e = refl
  more_is_set (m ∷ ms) zero l x e = let z : m ≡ l = cc in ap (λ u. (u ++ x ∷ []) ∷ ms) z
  more_is_set (m ∷ ms) (suc i) l x e = ap (λ u. m ∷ u) (more_is_set ms i l x e)

pub same_some : {X : Type 0} (x y : X) → Some x ≡ Some y → x ≡ y
same_some x y e = cc

module _ {X Y : Type 0} (f : X → Y) where
  pub get_map : (xs : List X) (i : ℕ) (x : X) → slice_get xs i ≡ Some x → slice_get (map f xs) i ≡ Some (f x)
  get_map [] i x e = absurd cc
  get_map (y ∷ ys) zero x e = let z : y ≡ x = cc in ap (λ u. Some (f u)) z
  get_map (y ∷ ys) (suc i) x e = get_map ys i x e

  pub map_set : (xs : List X) (i : ℕ) (y : X) → map f (set xs i y) ≡ set (map f xs) i (f y)
  map_set [] i y = refl
  map_set (x ∷ xs) zero y = refl
  map_set (x ∷ xs) (suc i) y = ap (λ l. f x ∷ l) (map_set xs i y)

  pub map_length : (xs : List X) → length (map f xs) ≡ length xs
  map_length [] = refl
  map_length (x ∷ xs) = ap suc (map_length xs)

  -- a change that this doesn't see
  pub map_set_same : (xs : List X) (i : ℕ) (x y : X) → slice_get xs i ≡ Some x → f y ≡ f x → map f (set xs i y) ≡ map f xs
  map_set_same xs i x y at e = map_set xs i y ∙ (ap (set (map f xs) i) e ∙ set_same (map f xs) i (f x) (get_map xs i x at))

module _ {T : Type 0} where
  -- there are as many places as cells, and each is at its cell
  pub places_length : {I : Type 0} (n : ℕ) (ps : List (PlacedSeat T)) (cells : List (Cell T I)) (s : Seated T) (guard : List TableId) → seated n ps ≡ s → s.guard ≡ guard → tables cells ≡ guard → length ps ≡ length cells
  places_length {I = I} n ps cells s guard v e w =
      sym (map_length (λ (p : PlacedSeat T). p.cell) ps) ∙ (ap length (ap (λ (z : Seated T). z.guard) v ∙ (e ∙ sym w)) ∙ map_length (λ (c : Cell T I). c.table.shared.table_id) cells)

  pub same_cell : {I : Type 0} (n : ℕ) (ps : List (PlacedSeat T)) (cells : List (Cell T I)) (s : Seated T) (guard : List TableId) (i : ℕ) (p : PlacedSeat T) (c : Cell T I) → seated n ps ≡ s → s.guard ≡ guard → tables cells ≡ guard
      → slice_get ps i ≡ Some p → slice_get cells i ≡ Some c → p.cell ≡ c.table.shared.table_id
  same_cell {I = I} n ps cells s guard i p c v e w at at' =
      same_some p.cell c.table.shared.table_id (sym (get_map (λ (z : PlacedSeat T). z.cell) ps i p at) ∙ (ap (λ (l : List TableId). slice_get l i) (ap (λ (z : Seated T). z.guard) v ∙ (e ∙ sym w)) ∙ get_map (λ (z : Cell T I). z.table.shared.table_id) cells i c at'))

  pub same_held : (n : ℕ) (ps : List (PlacedSeat T)) (s : Seated T) (i : ℕ) (p : PlacedSeat T) (h : Option (Held T)) → seated n ps ≡ s → slice_get ps i ≡ Some p → slice_get s.held i ≡ Some h → p.held ≡ h
  same_held n ps s i p h v at e = same_some p.held h (sym (get_map (λ (z : PlacedSeat T). z.held) ps i p at) ∙ (ap (λ (z : Seated T). slice_get z.held i) v ∙ e))

  -- the seat, after a change at one place that stays at its cell
  pub put_place : (n : ℕ) (ps : List (PlacedSeat T)) (i : ℕ) (p q : PlacedSeat T) → slice_get ps i ≡ Some p → q.cell ≡ p.cell
      → seated n (set ps i q) ≡ record (seated n ps) { found = set (seated n ps).found i q.found; held = set (seated n ps).held i q.held; took = set (seated n ps).took i q.took; met = set (seated n ps).met i q.met }
  put_place n ps i p q at e k = record {
    number = n;
    guard = map_set_same (λ (z : PlacedSeat T). z.cell) ps i p q at e k;
    found = map_set (λ (z : PlacedSeat T). z.found) ps i q k;
    held = map_set (λ (z : PlacedSeat T). z.held) ps i q k;
    took = map_set (λ (z : PlacedSeat T). z.took) ps i q k;
    met = map_set (λ (z : PlacedSeat T). z.met) ps i q k;
  }

  -- nothing changes but what was found
  pub put_found : (n : ℕ) (ps : List (PlacedSeat T)) (i : ℕ) (p q : PlacedSeat T) (w : List Found) → slice_get ps i ≡ Some p → q ≡ record p { found = w } → seated n (set ps i q) ≡ finds (seated n ps) i w
  put_found n ps i p q w at is =
      ap (λ z. seated n (set ps i z)) is
      ∙ (put_place n ps i p (record p { found = w }) at refl
      ∙ (λ k. record (seated n ps) {
        found = set (seated n ps).found i w;
        held = set_same (seated n ps).held i p.held (get_map (λ (z : PlacedSeat T). z.held) ps i p at) k;
        took = set_same (seated n ps).took i p.took (get_map (λ (z : PlacedSeat T). z.took) ps i p at) k;
        met = set_same (seated n ps).met i p.met (get_map (λ (z : PlacedSeat T). z.met) ps i p at) k;
      }))

  pub put_held : (n : ℕ) (ps : List (PlacedSeat T)) (i : ℕ) (p : PlacedSeat T) (w : List Found) (h : Option (Held T)) → slice_get ps i ≡ Some p → seated n (set ps i (record p { found = w; held = h })) ≡ record (finds (seated n ps) i w) { held = set (seated n ps).held i h }
  put_held n ps i p w h at =
      put_place n ps i p (record p { found = w; held = h }) at refl
      ∙ (λ k. record (seated n ps) {
        found = set (seated n ps).found i w;
        held = set (seated n ps).held i h;
        took = set_same (seated n ps).took i p.took (get_map (λ (z : PlacedSeat T). z.took) ps i p at) k;
        met = set_same (seated n ps).met i p.met (get_map (λ (z : PlacedSeat T). z.met) ps i p at) k;
      })

  pub put_left : (n : ℕ) (ps : List (PlacedSeat T)) (i : ℕ) (p q : PlacedSeat T) (h : Held T) (y : T) → slice_get ps i ≡ Some p → p.held ≡ Some h → q ≡ record p { held = None; took = p.took ++ taking h y ∷ [] } → seated n (set ps i q) ≡ outside (seated n ps) i y
  put_left n ps i p q h y at has is =
      ap (λ z. seated n (set ps i z)) is
      ∙ (put_place n ps i p (record p { held = None; took = p.took ++ taking h y ∷ [] }) at refl
      ∙ ((λ k. record (seated n ps) {
        found = set_same (seated n ps).found i p.found (get_map (λ (z : PlacedSeat T). z.found) ps i p at) k;
        held = set (seated n ps).held i None;
        took = sym (more_is_set (seated n ps).took i p.took (taking h y) (get_map (λ (z : PlacedSeat T). z.took) ps i p at)) k;
        met = set_same (seated n ps).met i p.met (get_map (λ (z : PlacedSeat T). z.met) ps i p at) k;
      })
      ∙ ap (given_back (seated n ps) i y) (sym (get_map (λ (z : PlacedSeat T). z.held) ps i p at ∙ ap (λ z. Some z) has))))

  pub put_met : (n : ℕ) (ps : List (PlacedSeat T)) (i : ℕ) (p q : PlacedSeat T) (d : Deeded T) → slice_get ps i ≡ Some p → q ≡ record p { met = record { plants = d.plants; lives = d.lives } } → seated n (set ps i q) ≡ witnessed (seated n ps) i d
  put_met n ps i p q d at is =
      ap (λ z. seated n (set ps i z)) is
      ∙ (put_place n ps i p (record p { met = record { plants = d.plants; lives = d.lives } }) at refl
      ∙ (λ k. record (seated n ps) {
        found = set_same (seated n ps).found i p.found (get_map (λ (z : PlacedSeat T). z.found) ps i p at) k;
        held = set_same (seated n ps).held i p.held (get_map (λ (z : PlacedSeat T). z.held) ps i p at) k;
        took = set_same (seated n ps).took i p.took (get_map (λ (z : PlacedSeat T). z.took) ps i p at) k;
        met = set (seated n ps).met i record { plants = d.plants; lives = d.lives };
      }))

  -- a place of the seat, and the cell beside it
  pub at_place : {I : Type 0} (n : ℕ) (ps : List (PlacedSeat T)) (cells : List (Cell T I)) (s : Seated T) (guard : List TableId) (i : ℕ) (p : PlacedSeat T) → seated n ps ≡ s → s.guard ≡ guard → tables cells ≡ guard → length (tables cells) ≡ 64 → i < 64 → p ≡ get_or ps i p → slice_get ps i ≡ Some p
  at_place {I = I} n ps cells s guard i p v e w len lt at = let l = places_length n ps cells s guard v e w in let m = map_length (λ (c : Cell T I). c.table.shared.table_id) cells in at_index ps i p (omega arith) at

  pub at_cell : {I : Type 0} (cells : List (Cell T I)) (i : ℕ) (c : Cell T I) → length (tables cells) ≡ 64 → i < 64 → c ≡ get_or cells i c → slice_get cells i ≡ Some c
  at_cell {I = I} cells i c len lt at = let m = map_length (λ (c : Cell T I). c.table.shared.table_id) cells in at_index cells i c (omega arith) at

  pub cell_id : {I : Type 0} (cells : List (Cell T I)) (i : ℕ) (c : Cell T I) → slice_get cells i ≡ Some c → slice_get (tables cells) i ≡ Some c.table.shared.table_id
  cell_id {I = I} cells i c at = get_map (λ (z : Cell T I). z.table.shared.table_id) cells i c at
