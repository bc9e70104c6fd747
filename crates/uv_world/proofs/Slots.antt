-- What is true of each slot is true of what lies in one, and a change that leaves each item leaves the list.
use Rattle.std.proofs.Common.{◌≡◌, ◌∙◌, ℕ, zero, suc, List, [], ◌∷◌, Option, None, Some, refl, ap}
use Rattle.uv_num.specs.Each.{Each}
use Rattle.uv_num.proofs.PlaceLaws.{at_place-cons}
use Rattle.uv_world.specs.declared.cells.Cell.{Cell}
use Rattle.uv_world.specs.declared.content.Content.{Content}
use Rattle.uv_world.specs.Celled.{value_of_slot, cell_changed_by, cells_changed}
use Rattle.uv_world.specs.Owing.{IsUnused}

pub unused_in_slot : (slots : List (Option Content)) (at : ℕ) → Each IsUnused slots → IsUnused (value_of_slot slots at)
unused_in_slot [] at all = tt
unused_in_slot (x ∷ xs) zero all = all.0
unused_in_slot (x ∷ xs) (suc at) all = unused_in_slot xs at all.1

value_same : {T : Type 0} (generation : ℕ) (value : Option T) → cell_changed_by (λ (v : T). v) (record { generation = generation; value = value }) ≡ record { generation = generation; value = value }
value_same generation None = refl
value_same generation (Some v) = refl

pub cells_same : {T : Type 0} (cells : List (Cell T)) (at : ℕ) → cells_changed cells at (λ (v : T). v) ≡ cells
cells_same [] at = refl
cells_same {T} (x ∷ xs) zero = ap (λ (c : Cell T). c ∷ xs) (value_same x.generation x.value)
cells_same {T} (x ∷ xs) (suc at) = at_place-cons x xs at (cell_changed_by (λ (v : T). v)) ∙ ap (λ (cs : List (Cell T)). x ∷ cs) (cells_same xs at)
