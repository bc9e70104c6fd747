-- Contents of which there are none yet.
use Rattle.std.proofs.Common.{◌≡◌, ◌∙◌, ℕ, zero, suc, ◌*◌, Option, None, length, refl, sym, ap, subst, arith}
use Rattle.std.specs.Prelude.{replicate, sum_by}
use Rattle.std.proofs.lemmas.List.{length-replicate}
use Rattle.std.proofs.lemmas.List.Folds.{sum_by-replicate}
use Rattle.uv_num.specs.declared.limits.TheConstants.{ACTOR_PLACES, CELLS, FILES}
use Rattle.uv_num.specs.Each.{Each}
use Rattle.uv_region.specs.Journals.{IsJournal}
use Rattle.uv_world.specs.declared.cells.Cell.{Cell}
use Rattle.uv_world.specs.declared.content.Content.{Content}
use Rattle.uv_world.specs.declared.content.Connected.{Connected}
use Rattle.uv_world.specs.declared.content.Shared.{Shared}
use Rattle.uv_world.specs.declared.contents.Contents.{Contents}
use Rattle.uv_region.specs.Registered.{Registered}
use Rattle.uv_world.specs.Celled.{empty_cell}
use Rattle.uv_world.specs.Holdings.{Held, held_of, no_contents}
use Rattle.uv_world.specs.Owing.{IsHoused, IsOrderedList, IsUnused, counts_cell, full_cells, owes_journals, owes_lists}

full_none : (T : Type 0) (n : ℕ) → full_cells (replicate {A = Cell T} n empty_cell) ≡ 0
full_none T n =
    let e : full_cells (replicate {A = Cell T} n empty_cell) ≡ n * 0 = sum_by-replicate (counts_cell {T = T}) n empty_cell in
    omega (arith, e)

owes_none : (f : Option Content → ℕ) (n : ℕ) → f None ≡ 0 → sum_by f (replicate n None) ≡ 0
owes_none f n none =
    let e : sum_by f (replicate n None) ≡ n * 0 = sum_by-replicate f n None ∙ ap (λ (v : ℕ). n * v) none in
    omega (arith, e)

unused_none : (n : ℕ) → Each IsUnused (replicate n None)
unused_none zero = tt
unused_none (suc n) = (tt, unused_none n)

-- there is room for what none leave
pub new_housed : (c : Contents) → held_of c ≡ no_contents → IsHoused c
new_housed c e =
    let regions : full_cells c.regions ≡ 0 = ap (λ (h : Held). full_cells h.regions) e ∙ full_none Registered CELLS in
    let pairs : full_cells c.pairs ≡ 0 = ap (λ (h : Held). full_cells h.pairs) e ∙ full_none Connected CELLS in
    let shared : full_cells c.shared ≡ 0 = ap (λ (h : Held). full_cells h.shared) e ∙ full_none Shared CELLS in
    let pending : (f : Option Content → ℕ) → f None ≡ 0 → sum_by f c.pending ≡ 0 = λ f z. ap (λ (h : Held). sum_by f h.pending) e ∙ owes_none f ACTOR_PLACES z in
    let retiring : (f : Option Content → ℕ) → f None ≡ 0 → sum_by f c.retiring ≡ 0 = λ f z. ap (λ (h : Held). sum_by f h.retiring) e ∙ owes_none f ACTOR_PLACES z in
    let killed : (f : Option Content → ℕ) → f None ≡ 0 → sum_by f c.killed ≡ 0 = λ f z. ap (λ (h : Held). sum_by f h.killed) e ∙ owes_none f FILES z in
    record {
      journal_room = omega (arith, regions, pending owes_journals refl, retiring owes_journals refl, killed owes_journals refl);
      list_room = omega (arith, pairs, shared, pending owes_lists refl, retiring owes_lists refl, killed owes_lists refl);
      pairs = ap (λ (h : Held). length h.pairs) e ∙ length-replicate CELLS (let none : Cell Connected = empty_cell in none);
      unused = subst (Each IsUnused) (sym (ap (λ (h : Held). h.pending) e)) (unused_none ACTOR_PLACES);
      journals = subst (Each IsJournal) (sym (ap (λ (h : Held). h.journals) e)) tt;
      queues = subst (Each IsOrderedList) (sym (ap (λ (h : Held). h.queues) e)) tt;
    }
