-- The seats of a counter after a race, for the tests.
use Rattle.std.proofs.Common.{◌≡◌, ℕ, zero, suc, ◌+◌, ◌-◌, ◌<◌, List, [], ◌∷◌, ◌++◌, length, map, take, drop, reverse, refl, ap, sym, subst, ◌∙◌, arith, append-nil as append_nil}
use Rattle.std.specs.Prelude.{slice_index_or}
use Rattle.std.specs.Prelude.{IsPermutation}
use Rattle.std.proofs.lemmas.List.Sorted.{IsPermutation-reverse, length_permutation}
use Rattle.atomic_table.specs.Seated.{TableId}
use Rattle.uv_num.specs.Each.{Each}
use Rattle.uv_desk.specs.declared.counter.Added.{Added}
use Rattle.uv_desk.specs.Seats.{Placed, IsAll, freshes, all_fresh}
use Rattle.uv_desk.specs.Counting.{CanAdd}
use Rattle.uv_desk.specs.Laws.{place, PlacesAreAll, AnyOrderIsAll}

-- what is the same at each place is the same in the whole list
map_same : {X Y : Type 0} (f : X → Y) (xs ys : List X) → length ys ≡ length xs → ((i : ℕ) (d : X) → i < length xs → f (slice_index_or ys i d) ≡ f (slice_index_or xs i d)) → map f ys ≡ map f xs
map_same f [] [] len same = refl
map_same f [] (y ∷ ys) len same = absurd (omega arith)
map_same f (x ∷ xs) [] len same = absurd (omega arith)
map_same f (x ∷ xs) (y ∷ ys) len same =
    let head : f y ≡ f x = same 0 x (omega arith) in let rest = map_same f xs ys (omega arith) (λ i d lt. same (suc i) d (omega arith)) in
    λ i. head i ∷ rest i

pub each_at : {X : Type 0} (P : X → Type 0) (xs : List X) (i : ℕ) (d : X) → i < length xs → Each P xs → P (slice_index_or xs i d)
each_at P [] i d lt e = absurd (omega arith)
each_at P (x ∷ xs) zero d lt e = e.0
each_at P (x ∷ xs) (suc i) d lt e = each_at P xs i d (omega arith) e.1

freshes_can_add : (desk : TableId) (n more : ℕ) (history : List Added) (own : ℕ → ℕ) → Each (CanAdd desk) (freshes desk n more history own)
freshes_can_add desk n zero history own = tt
freshes_can_add desk n (suc more) history own = ((refl, (own n, refl)), freshes_can_add desk (n + 1) more history own)

pub new_can_add : (desk : TableId) (count : ℕ) (history : List Added) (own : ℕ → ℕ) (seats : List (Placed Added ℕ)) → seats ≡ all_fresh desk count history own → Each (CanAdd desk) seats
new_can_add desk count history own seats e = subst (λ (l : List (Placed Added ℕ)). Each (CanAdd desk) l) (sym e) ((refl, (own 0, refl)), freshes_can_add desk 1 (count - 1) history own)

take_all : {X : Type 0} (xs : List X) (n : ℕ) → n ≡ length xs → take n xs ≡ xs
take_all [] zero e = refl
take_all [] (suc n) e = absurd (omega arith)
take_all (x ∷ xs) zero e = absurd (omega arith)
take_all (x ∷ xs) (suc n) e = ap (λ l. x ∷ l) (take_all xs n (omega arith))

drop_all : {X : Type 0} (xs : List X) (n : ℕ) → n ≡ length xs → drop n xs ≡ []
drop_all [] zero e = refl
drop_all [] (suc n) e = absurd (omega arith)
drop_all (x ∷ xs) zero e = absurd (omega arith)
drop_all (x ∷ xs) (suc n) e = drop_all xs n (omega arith)

-- a slice of all of a list is written back as it is
written_back : {X : Type 0} (xs ys : List X) (n : ℕ) → length ys ≡ length xs → n ≡ length xs → take n (ys ++ drop (length ys) xs) ≡ ys
written_back xs ys n len is =
    ap (λ l. take n (ys ++ l)) (drop_all xs (length ys) len) ∙ (ap (λ l. take n l) (append_nil ys) ∙ take_all ys n (is ∙ sym len))

-- the seats after a race are still all
pub raced_all : PlacesAreAll Added ℕ → (desk : TableId) (before after : List (Placed Added ℕ)) (n : ℕ) → IsAll desk before → length after ≡ length before
    → ((i : ℕ) (d : Placed Added ℕ) → i < length before → place (slice_index_or after i d) ≡ place (slice_index_or before i d)) → n ≡ length before → IsAll desk (take n (after ++ drop (length after) before))
raced_all places desk before after n all len same is =
    subst (λ (l : List (Placed Added ℕ)). IsAll desk l) (sym (written_back before after n len is)) (places desk before after (map_same place before after len same) all)

-- the seats in the other direction are still all
pub reversed_all : AnyOrderIsAll Added ℕ → (desk : TableId) (before after : List (Placed Added ℕ)) (n : ℕ) → IsAll desk before → after ≡ reverse before → n ≡ length before → IsAll desk (take n (after ++ drop (length after) before))
reversed_all order desk before after n all e is =
    let p : IsPermutation before after = subst (λ (l : List (Placed Added ℕ)). IsPermutation before l) (sym e) (IsPermutation-reverse before) in
    subst (λ (l : List (Placed Added ℕ)). IsAll desk l) (sym (written_back before after n (length_permutation before after p) is)) (order desk before after p all)
