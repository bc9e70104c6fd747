-- Cells that were emptied and are filled again: as if what they hold had been changed in place.
use Rattle.std.proofs.Common.{◌≡◌, ◌≢◌, ◌∙◌, ℕ, zero, suc, Bool, true, false, List, [], ◌∷◌, Option, None, Some, map, refl, sym, ap, subst}
use Rattle.std.specs.Prelude.{◌==◌, is_some, slice_get, option_map, if◌then◌else◌}
use Rattle.std.proofs.lemmas.Bool.{eq-eqb}
use Rattle.uv_num.specs.Place.{at_place}
use Rattle.uv_num.proofs.PlaceLaws.{at_place-at_place, at_place-cons, map-at_place, slice_get-at_place_other}
use Rattle.uv_engine.specs.Ringing.{is_shared}
use Rattle.uv_world.specs.declared.cells.Cell.{Cell}
use Rattle.uv_world.specs.Celled.{cell_changed_by, cell_emptied, cell_filled, cell_value, cells_changed, cells_emptied, cells_emptied_if, cells_filled, cells_filled_if, value_if, value_of_cell}
use Rattle.uv_world.specs.Fitting.{outline}
use Rattle.uv_world.specs.Returning.{cells_with}
use Rattle.uv_world.specs.Taking.{is_live_if}
use Rattle.uv_world.proofs.Outlines.{kept_outline}

-- changes at two places may be made in either order
place_apart : {X : Type 0} (xs : List X) (i j : ℕ) (f g : X → X) → i ≢ j → at_place (at_place xs i f) j g ≡ at_place (at_place xs j g) i f
place_apart [] i j f g apart = refl
place_apart (x ∷ xs) zero zero f g apart = absurd (apart refl)
place_apart (x ∷ xs) zero (suc j) f g apart = at_place-cons (f x) xs j g ∙ sym (ap (λ v. at_place v zero f) (at_place-cons x xs j g))
place_apart (x ∷ xs) (suc i) zero f g apart = ap (λ v. at_place v zero g) (at_place-cons x xs i f) ∙ sym (at_place-cons (g x) xs i f)
place_apart (x ∷ xs) (suc i) (suc j) f g apart =
    ap (λ v. at_place v (suc j) g) (at_place-cons x xs i f)
    ∙ (at_place-cons x (at_place xs i f) j g
    ∙ (ap (λ v. x ∷ v) (place_apart xs i j f g (λ e. apart (ap suc e)))
    ∙ (sym (at_place-cons x (at_place xs j g) i f)
    ∙ sym (ap (λ v. at_place v (suc i) f) (at_place-cons x xs j g)))))

-- what another cell holds stays
pub value_apart : {T : Type 0} (cells : List (Cell T)) (at k : ℕ) (f : Cell T → Cell T) → k ≢ at → value_of_cell (at_place cells at f) k ≡ value_of_cell cells k
value_apart cells at k f apart = ap cell_value (slice_get-at_place_other cells at k f apart)

refilled_cell : {T : Type 0} (cell : Cell T) (f : T → T) (x v : T) → cell.value ≡ Some x → v ≡ f x → cell_filled v (cell_emptied cell) ≡ cell_changed_by f cell
refilled_cell {T} cell f x v is back = ap (λ (o : Option T). (let c : Cell T = record { generation = cell.generation; value = o } in c)) (ap Some back ∙ sym (ap (option_map f) is))

refilled_place : {T : Type 0} (cells : List (Cell T)) (at : ℕ) (f : T → T) (x v : T) → value_of_cell cells at ≡ Some x → v ≡ f x → at_place cells at (λ c. cell_filled v (cell_emptied c)) ≡ cells_changed cells at f
refilled_place [] at f x v is back = refl
refilled_place (c ∷ cs) zero f x v is back = ap (λ w. w ∷ cs) (refilled_cell c f x v is back)
refilled_place (c ∷ cs) (suc at) f x v is back =
    at_place-cons c cs at (λ w. cell_filled v (cell_emptied w)) ∙ (ap (λ w. c ∷ w) (refilled_place cs at f x v is back) ∙ sym (at_place-cons c cs at (cell_changed_by f)))

pub refilled : {T : Type 0} (cells : List (Cell T)) (at : ℕ) (f : T → T) (x v : T) → value_of_cell cells at ≡ Some x → v ≡ f x → cells_filled (cells_emptied cells at) at v ≡ cells_changed cells at f
refilled cells at f x v is back = at_place-at_place cells at cell_emptied (cell_filled v) ∙ refilled_place cells at f x v is back

refilled_two :
    {T : Type 0} (cells : List (Cell T)) (a b : ℕ) (f g : T → T) (x y v w : T) → b ≢ a → value_of_cell cells a ≡ Some x → value_of_cell cells b ≡ Some y → v ≡ f x → w ≡ g y
    → cells_filled (cells_filled (cells_emptied (cells_emptied cells a) b) a v) b w ≡ cells_changed (cells_changed cells a f) b g
refilled_two {T} cells a b f g x y v w apart is_x is_y back_v back_w =
    ap (λ (c : List (Cell T)). cells_filled c b w) (place_apart (cells_emptied cells a) b a cell_emptied (cell_filled v) apart)
    ∙ (ap (λ (c : List (Cell T)). cells_filled (cells_emptied c b) b w) (refilled cells a f x v is_x back_v)
    ∙ refilled (cells_changed cells a f) b g y w (value_apart cells a b (cell_changed_by f) apart ∙ is_y) back_w)

-- What goes back into a cell that is named is what it held, with what came back.

abbrev pub GoesBack : {T V : Type 0} → (V → T → T) → Option T → Option V → Option T → Type 0
GoesBack with None now back = Unit {0}
GoesBack with (Some x) None back = ⊥
GoesBack with (Some x) (Some v) back = back ≡ Some (with v x)

back_one : {T V : Type 0} (cells : List (Cell T)) (at : ℕ) (with : V → T → T) (o : Option T) (now : Option V) (back : Option T) → value_of_cell cells at ≡ o → is_some o ≡ true → GoesBack with o now back
    → cells_filled_if (cells_emptied cells at) (Some at) back ≡ cells_with cells (Some at) with now
back_one cells at with None now back is live goes = absurd cc
back_one cells at with (Some x) None back is live goes = absurd goes
back_one {T} cells at with (Some x) (Some v) back is live goes =
    ap (cells_filled_if (cells_emptied cells at) (Some at)) goes ∙ refilled cells at (with v) x (with v x) is refl

pub back_if : {T V : Type 0} (cells : List (Cell T)) (at : Option ℕ) (with : V → T → T) (now : Option V) (back : Option T) → is_live_if cells at ≡ true → GoesBack with (value_if cells at) now back
    → cells_filled_if (cells_emptied_if cells at) at back ≡ cells_with cells at with now
back_if cells None with now back live goes = refl
back_if cells (Some at) with now back live goes = back_one cells at with (value_of_cell cells at) now back refl live goes

back_both :
    {T V : Type 0} (cells : List (Cell T)) (a b : ℕ) (with : V → T → T) (o p : Option T) (now_a now_b : Option V) (back_a back_b : Option T) → b ≢ a → value_of_cell cells a ≡ o → value_of_cell cells b ≡ p
    → is_some o ≡ true → is_some p ≡ true → GoesBack with o now_a back_a → GoesBack with p now_b back_b
    → cells_filled_if (cells_filled_if (cells_emptied (cells_emptied cells a) b) (Some a) back_a) (Some b) back_b ≡ cells_with (cells_with cells (Some a) with now_a) (Some b) with now_b
back_both cells a b with None p now_a now_b back_a back_b apart is_a is_b live_a live_b goes_a goes_b = absurd cc
back_both cells a b with (Some x) None now_a now_b back_a back_b apart is_a is_b live_a live_b goes_a goes_b = absurd cc
back_both cells a b with (Some x) (Some y) None now_b back_a back_b apart is_a is_b live_a live_b goes_a goes_b = absurd goes_a
back_both cells a b with (Some x) (Some y) (Some v) None back_a back_b apart is_a is_b live_a live_b goes_a goes_b = absurd goes_b
back_both {T} cells a b with (Some x) (Some y) (Some v) (Some w) back_a back_b apart is_a is_b live_a live_b goes_a goes_b =
    ap (λ (o : Option T). cells_filled_if (cells_filled_if (cells_emptied (cells_emptied cells a) b) (Some a) o) (Some b) back_b) goes_a
    ∙ (ap (λ (o : Option T). cells_filled_if (cells_filled (cells_emptied (cells_emptied cells a) b) a (with v x)) (Some b) o) goes_b
    ∙ refilled_two cells a b (with v) (with w) x y (with v x) (with w y) apart is_a is_b refl refl)

pub shared_apart : (a b : ℕ) → is_shared (Some a) (Some b) ≡ false → b ≢ a
shared_apart a b apart same = let no : true ≡ false = sym (eq-eqb a b (sym same)) ∙ apart in absurd cc

-- two cells of one kind, not the same one
pub back_two :
    {T V : Type 0} (cells : List (Cell T)) (a b : Option ℕ) (with : V → T → T) (now_a now_b : Option V) (back_a back_b : Option T) → is_shared a b ≡ false → is_live_if cells a ≡ true → is_live_if cells b ≡ true
    → GoesBack with (value_if cells a) now_a back_a → GoesBack with (value_if cells b) now_b back_b
    → cells_filled_if (cells_filled_if (cells_emptied_if (cells_emptied_if cells a) b) a back_a) b back_b ≡ cells_with (cells_with cells a with now_a) b with now_b
back_two cells None b with now_a now_b back_a back_b apart live_a live_b goes_a goes_b = back_if cells b with now_b back_b live_b goes_b
back_two cells (Some a) None with now_a now_b back_a back_b apart live_a live_b goes_a goes_b = back_if cells (Some a) with now_a back_a live_a goes_a
back_two cells (Some a) (Some b) with now_a now_b back_a back_b apart live_a live_b goes_a goes_b =
    back_both cells a b with (value_of_cell cells a) (value_of_cell cells b) now_a now_b back_a back_b (shared_apart a b apart) refl refl live_a live_b goes_a goes_b

-- The same cells hold something.

changed_outlines : {T : Type 0} (cells : List (Cell T)) (at : ℕ) (f : T → T) → map outline (cells_changed cells at f) ≡ map outline cells
changed_outlines cells at f = map-at_place outline cells at (cell_changed_by f) (kept_outline f)

pub with_outlines : {T V : Type 0} (cells : List (Cell T)) (at : Option ℕ) (with : V → T → T) (now : Option V) → map outline (cells_with cells at with now) ≡ map outline cells
with_outlines cells None with now = refl
with_outlines cells (Some at) with None = refl
with_outlines cells (Some at) with (Some v) = changed_outlines cells at (with v)

-- A change that leaves what a cell holds leaves the cells.

same_cell : {T : Type 0} (cell : Cell T) (f : T → T) (x : T) → cell.value ≡ Some x → f x ≡ x → cell_changed_by f cell ≡ cell
same_cell {T} cell f x is same = ap (λ (o : Option T). (let c : Cell T = record { generation = cell.generation; value = o } in c)) (ap (option_map f) is ∙ (ap Some same ∙ sym is))

pub changed_same : {T : Type 0} (cells : List (Cell T)) (at : ℕ) (f : T → T) (x : T) → value_of_cell cells at ≡ Some x → f x ≡ x → cells_changed cells at f ≡ cells
changed_same [] at f x is same = refl
changed_same (c ∷ cs) zero f x is same = ap (λ w. w ∷ cs) (same_cell c f x is same)
changed_same (c ∷ cs) (suc at) f x is same = at_place-cons c cs at (cell_changed_by f) ∙ ap (λ w. c ∷ w) (changed_same cs at f x is same)

-- what comes back is what was held
abbrev pub IsAsHeld : {T V : Type 0} → (V → T → T) → Option T → Option V → Type 0
IsAsHeld with None now = Unit {0}
IsAsHeld with (Some x) None = Unit {0}
IsAsHeld with (Some x) (Some v) = with v x ≡ x

same_one : {T V : Type 0} (cells : List (Cell T)) (at : ℕ) (with : V → T → T) (o : Option T) (now : Option V) → value_of_cell cells at ≡ o → is_some o ≡ true → IsAsHeld with o now → cells_with cells (Some at) with now ≡ cells
same_one cells at with None now is live held = absurd cc
same_one cells at with (Some x) None is live held = refl
same_one cells at with (Some x) (Some v) is live held = changed_same cells at (with v) x is held

pub same_with : {T V : Type 0} (cells : List (Cell T)) (at : Option ℕ) (with : V → T → T) (now : Option V) → is_live_if cells at ≡ true → IsAsHeld with (value_if cells at) now → cells_with cells at with now ≡ cells
same_with cells None with now live held = refl
same_with cells (Some at) with now live held = same_one cells at with (value_of_cell cells at) now refl live held
