-- The least free number of a handle table, as a search over the numbers from 0 on finds it.
use Rattle.std.proofs.Common.{ℕ, zero, suc, ◌+◌, ◌≡◌, ◌<◌, Bool, true, false, not, cond, List, [], ◌∷◌, length, Option, None, Some, refl, ap, sym, ◌∙◌, arith, add-zero, zero-add}
use Rattle.std.proofs.lemmas.Iterator.Adapters.{position_from-zero}
use Rattle.std.proofs.lemmas.List.Quantifiers.{position-Some}
use Rattle.std.specs.Prelude.{if◌then◌else◌}
use Rattle.std.specs.List.{position_from}
use Rattle.uv_handles.specs.declared.slot.Slot.{Slot}
use Rattle.uv_handles.specs.declared.slot.Slot.TheVariants.{Free}
use Rattle.uv_handles.specs.Table.{is_free, is_taken_in, least_free_in}

-- a number is one of the table's and is free, and each number below it is taken
pub record IsLeastFree (table : List Slot) (n : ℕ) : Type 0 where
  pub within : n < length table
  pub free : is_taken_in table n ≡ false
  pub below : (k : ℕ) → k < n → is_taken_in table k ≡ true

-- the least free number, where there is one
pub least_free_some : (table : List Slot) (n : ℕ) → least_free_in table ≡ Some n → IsLeastFree table n
least_free_some table n found =
    let fact = position-Some is_free table n Free found in
    record { within = fact.0; free = ap not fact.1; below = λ k below. ap not (fact.2 k below) }

-- where the first slot was passed over, it is taken, and the search went on behind it
passed : (b : Bool) (n : ℕ) (rest : Option ℕ) → cond b (Some n) rest ≡ None → (not b ≡ true) × (rest ≡ None)
passed true n rest none = cc
passed false n rest none = (refl, none)

none_from : (table : List Slot) (n : ℕ) → position_from is_free n table ≡ None → (k : ℕ) → k < length table → is_taken_in table k ≡ true
none_from [] n none k within = absurd (omega arith)
none_from (slot ∷ table) n none zero within =
    (passed (is_free slot) n (position_from is_free (n + 1) table) none).0
none_from (slot ∷ table) n none (suc k) within =
    none_from table (n + 1) (passed (is_free slot) n (position_from is_free (n + 1) table) none).1 k (omega arith)

-- where there is none, every number of the table is taken
pub least_free_none : (table : List Slot) → least_free_in table ≡ None → (k : ℕ) → k < length table → is_taken_in table k ≡ true
least_free_none table none = none_from table 0 (sym (position_from-zero is_free table) ∙ none)

module _ (taken : ℕ → Bool) (least : ℕ → ℕ → Option ℕ) (none : (n : ℕ) → least n zero ≡ None) (next : (n k : ℕ) → least n (suc k) ≡ (if taken n then least (n + 1) k else Some n)) where
  step : (b : Bool) (n k : ℕ) (rest : Option ℕ) → not b ≡ taken n → least (n + 1) k ≡ rest → least n (suc k) ≡ cond b (Some n) rest
  step true n k rest same e = next n k ∙ ap (λ v. if v then least (n + 1) k else Some n) (sym same)
  step false n k rest same e = next n k ∙ (ap (λ v. if v then least (n + 1) k else Some n) (sym same) ∙ e)

  from : (table : List Slot) (n : ℕ) → ((i : ℕ) → i < length table → is_taken_in table i ≡ taken (n + i)) → least n (length table) ≡ position_from is_free n table
  from [] n same = none n
  from (slot ∷ table) n same =
      step (is_free slot) n (length table) (position_from is_free (n + 1) table) (same 0 (omega arith) ∙ ap taken (add-zero n))
      (from table (n + 1) (λ i within. (let next_place : n + suc i ≡ n + 1 + i = omega arith in same (suc i) (omega arith) ∙ ap taken next_place)))

  -- a search that goes up from 0, past each number that a test tells to be taken, finds the table's least free number where
  -- the table says the same of each of its numbers
  pub least_free_search : (table : List Slot) → ((i : ℕ) → i < length table → is_taken_in table i ≡ taken i) → least 0 (length table) ≡ least_free_in table
  least_free_search table same =
      from table 0 (λ i within. same i within ∙ ap taken (sym (zero-add i))) ∙ sym (position_from-zero is_free table)
