-- What a ledger keeps as works are completed.
use Rattle.std.proofs.Common.{◌≡◌, ℕ, ◌+◌, true, ◌||◌, List, [], ◌∷◌, ◌++◌, Some, length, map, drop, slice_get, sym, ◌∙◌, ap, subst, append_assoc, arith, length-append}
use Rattle.std.proofs.lemmas.List.{map-append, drop-drop}
use Rattle.std.specs.List.{list_all}
use Rattle.uv_wr.specs.declared.completion.Completion.{Completion}
use Rattle.uv_wr.specs.Statuses.{is_failure}
use Rattle.uv_qp.specs.Ledgers.{Ledgered, completion_id, all_succeeded, has_failed, in_order, posted_of, with_completed, IsLedger}

-- a list with a first item is that item and the rest
pub first_and_rest : {X : Type 0} (xs : List X) (x : X) → slice_get xs 0 ≡ Some x → xs ≡ x ∷ drop 1 xs
first_and_rest [] x h = grind (arith, h)
first_and_rest (y ∷ ys) x h = grind (arith, h)

pub drop-snoc : {X : Type 0} (cs : List X) (c : X) (posted : List ℕ) → drop 1 (drop (length cs) posted) ≡ drop (length (cs ++ c ∷ [])) posted
drop-snoc cs c posted = drop-drop 1 (length cs) posted ∙ ap (λ k. drop k posted) (sym (length-append cs (c ∷ [])))

pub first-snoc : (posted : List ℕ) (cs : List Completion) (c : Completion) → slice_get (drop (length cs) posted) 0 ≡ Some c.id
    → posted_of cs (drop (length cs) posted) ≡ posted_of (cs ++ c ∷ []) (drop (length (cs ++ c ∷ [])) posted)
first-snoc posted cs c owed =
    let rest : List ℕ = drop 1 (drop (length cs) posted) in
    ap (λ v. map completion_id cs ++ v) (first_and_rest (drop (length cs) posted) c.id owed)
    ∙ sym (append_assoc (map completion_id cs) (c.id ∷ []) rest)
    ∙ ap (λ v. v ++ rest) (sym (map-append completion_id cs (c ∷ [])))
    ∙ ap (λ v. map completion_id (cs ++ c ∷ []) ++ v) (drop-snoc cs c posted)

pub failed-snoc : (cs : List Completion) (c : Completion) → list_all has_failed cs ≡ true → is_failure c.status ≡ true → list_all has_failed (cs ++ c ∷ []) ≡ true
failed-snoc [] c h f = grind arith
failed-snoc (d ∷ ds) c h f = grind (arith, failed-snoc ds c)

pub order-snoc : (cs : List Completion) (c : Completion) → in_order cs ≡ true → (is_failure c.status || all_succeeded cs) ≡ true → in_order (cs ++ c ∷ []) ≡ true
order-snoc [] c h f = grind arith
order-snoc (d ∷ ds) c h f = grind (arith, failed-snoc ds c, order-snoc ds c)

pub ledger-complete : (posted : List ℕ) (cs ds : List Completion) (c : Completion) (room less : ℕ)
    → IsLedger posted cs room → slice_get (drop (length cs) posted) 0 ≡ Some c.id → (is_failure c.status || all_succeeded cs) ≡ true
    → ds ≡ cs ++ c ∷ [] → less + 1 ≡ room → IsLedger posted ds less
ledger-complete posted cs ds c room less k owed order more put =
    let P : List Completion → Type 0 = λ v. IsLedger posted v less in
    subst P (sym more) record {
      first = k.first ∙ first-snoc posted cs c owed;
      order = order-snoc cs c k.order order;
      covered = omega (arith, k.covered, put, length-append cs (c ∷ []));
    }

pub completed_view : (posted : List ℕ) (cs ds : List Completion) (c : Completion) → ds ≡ cs ++ c ∷ []
    → let l : Ledgered = record { completed = ds; owed = drop (length ds) posted } in l ≡ with_completed (record { completed = cs; owed = drop (length cs) posted }) c
completed_view posted cs ds c more =
    ap (λ v. let l : Ledgered = record { completed = v; owed = drop (length v) posted } in l) more
    ∙ ap (λ v. let l : Ledgered = record { completed = cs ++ c ∷ []; owed = v } in l) (sym (drop-snoc cs c posted))
