-- The last of a list leaves it: seats from their guard, places from their seat, deeds with their cells.
use Rattle.std.proofs.Common.{◌≡◌, ◌≢◌, refl, ℕ, zero, suc, ◌<◌, List, [], ◌∷◌, ◌++◌, length, map, set, get_or, arith, ap, sym, ◌∙◌, subst, append_assoc, append-nil}
use Rattle.std.specs.Prelude.{Option, Some, None, slice_get}
use Rattle.atomic_table.specs.Seated.{TableId}
use Rattle.uv_num.specs.Each.{Each}
use Rattle.uv_guard.specs.declared.cell.Cell.{Cell}
use Rattle.uv_guard.specs.declared.view.Held.{Held}
use Rattle.uv_guard.specs.Cells.{tables}
use Rattle.uv_guard.specs.Seated.{PlacedSeat, Seated, Deeded, seated, AreOwn, kept_by, kepts, add_kept, joined_with, cells_of}
use Rattle.uv_guard.proofs.Lists.{at_index, get_map, same_some, map_length, map_set_same, cell_id}
use Rattle.uv_guard.proofs.Many.{map_more, kepts_are, none_held, joined_last}

pub no_items : {X : Type 0} (xs : List X) → length xs ≡ 0 → xs ≡ []
no_items [] e = refl
no_items (x ∷ xs) e = absurd (omega arith)

get_behind : {X : Type 0} (xs ys : List X) (x : X) → slice_get (xs ++ x ∷ ys) (length xs) ≡ Some x
get_behind [] ys x = refl
get_behind (y ∷ xs) ys x = get_behind xs ys x

get_below : {X : Type 0} (xs : List X) (i : ℕ) (x : X) → slice_get xs i ≡ Some x → i < length xs
get_below [] i x e = absurd cc
get_below (y ∷ ys) zero x e = omega arith
get_below (y ∷ ys) (suc i) x e = let r = get_below ys i x e in omega arith

none_behind : {X : Type 0} (xs : List X) (x : X) → [] ≢ xs ++ x ∷ []
none_behind [] x e = absurd cc
none_behind (y ∷ ys) x e = absurd cc

-- two lists that are one have one front and one last item
pub same_last : {X : Type 0} (xs ys : List X) (x y : X) → xs ++ x ∷ [] ≡ ys ++ y ∷ [] → (xs ≡ ys) × (x ≡ y)
same_last [] [] x y e = (refl, cc e)
same_last [] (b ∷ bs) x y e = absurd (none_behind bs y (cc e))
same_last (a ∷ xs) [] x y e = absurd (none_behind xs x (sym (cc e)))
same_last (a ∷ xs) (b ∷ bs) x y e =
    let r = same_last xs bs x y (cc e) in
    let h : a ≡ b = cc e in
    ((λ i. h i ∷ r.0 i), r.1)

module _ {T : Type 0} where
  -- before any place of a seat leaves
  pub starts : (n : ℕ) (ps : List (PlacedSeat T)) (s : Seated T) (ts : List TableId) (ds : List (Deeded T)) → seated n ps ≡ s → AreOwn n ps → s.guard ≡ ts → Each (λ (h : Option (Held T)). h ≡ None) s.held
      → (joined_with ds (map kept_by ps) ≡ joined_with ds (kepts s)) × Each (λ (p : PlacedSeat T). p.held ≡ None) ps × ((rest : List TableId) × (ts ≡ map (λ (p : PlacedSeat T). p.cell) ps ++ rest))
  starts n ps s ts ds v own at out = (
    ap (joined_with ds) (sym (kepts_are n ps own) ∙ ap kepts v),
    none_held n ps (subst (λ (z : Seated T). Each (λ (h : Option (Held T)). h ≡ None) z.held) (sym v) out),
    ([], sym at ∙ (ap (λ (z : Seated T). z.guard) (sym v) ∙ sym (append-nil (map (λ (p : PlacedSeat T). p.cell) ps)))),
  )

  module _ {I : Type 0} (cells : List (Cell T I)) (deeds : List (Deeded T)) (places front : List (PlacedSeat T)) (p : PlacedSeat T) (i : ℕ) (split : places ≡ front ++ p ∷ []) (len : i ≡ length front) (same : cells_of deeds ≡ tables cells) (rest : List TableId) (over : tables cells ≡ map (λ (p : PlacedSeat T). p.cell) places ++ rest) where
    abbrev cell_of : PlacedSeat T → TableId
    cell_of q = q.cell

    -- the cells behind this one are done with
    pub next_over : tables cells ≡ map (λ (q : PlacedSeat T). q.cell) front ++ p.cell ∷ rest
    next_over = over ∙ (ap (λ (l : List (PlacedSeat T)). map cell_of l ++ rest) split ∙ (ap (λ (l : List TableId). l ++ rest) (map_more cell_of front p) ∙ append_assoc (map cell_of front) (p.cell ∷ []) rest))

    here : slice_get (tables cells) i ≡ Some p.cell
    here = ap (λ (l : List TableId). slice_get l i) next_over ∙ (ap (λ (k : ℕ). slice_get (map cell_of front ++ p.cell ∷ rest) k) (len ∙ sym (map_length cell_of front)) ∙ get_behind (map cell_of front) rest p.cell)

    pub in_cells : i < length cells
    in_cells = let b = get_below (tables cells) i p.cell here in let m = map_length (λ (c : Cell T I). c.table.shared.table_id) cells in omega arith

    pub in_deeds : i < length deeds
    in_deeds = let b = get_below (tables cells) i p.cell here in let e = ap length same in let m = map_length (λ (d : Deeded T). d.cell) deeds in omega arith

    pub one_cell : (d : Deeded T) (c : Cell T I) → d ≡ get_or deeds i d → c ≡ get_or cells i c → (d.cell ≡ c.table.shared.table_id) × (p.cell ≡ c.table.shared.table_id)
    one_cell d c e e' =
        let id = cell_id cells i c (at_index cells i c in_cells e') in (
          same_some d.cell c.table.shared.table_id (sym (get_map (λ (z : Deeded T). z.cell) deeds i d (at_index deeds i d in_deeds e)) ∙ (ap (λ (l : List TableId). slice_get l i) same ∙ id)),
          same_some p.cell c.table.shared.table_id (sym here ∙ id),
        )

    pub next_joined : (d d' : Deeded T) → d ≡ get_or deeds i d → d' ≡ add_kept d (kept_by p) → joined_with (set deeds i d') (map kept_by front) ≡ joined_with deeds (map kept_by places)
    next_joined d d' e e' =
        let n : i ≡ length (map kept_by front) = len ∙ sym (map_length kept_by front) in
        let at : slice_get deeds (length (map kept_by front)) ≡ Some d = subst (λ (k : ℕ). slice_get deeds k ≡ Some d) n (at_index deeds i d in_deeds e) in
        (λ j. joined_with (set deeds (n j) (e' j)) (map kept_by front))
        ∙ (joined_last deeds (map kept_by front) (kept_by p) d at ∙ ap (joined_with deeds) (sym (map_more kept_by front p) ∙ ap (map kept_by) (sym split)))

    pub next_cells : (d d' : Deeded T) → d ≡ get_or deeds i d → d' ≡ add_kept d (kept_by p) → cells_of (set deeds i d') ≡ tables cells
    next_cells d d' e e' = map_set_same (λ (z : Deeded T). z.cell) deeds i d d' (at_index deeds i d in_deeds e) (ap (λ (z : Deeded T). z.cell) e') ∙ same
