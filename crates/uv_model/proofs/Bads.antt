-- A history has one first bad place at most, and none where it is legal.
use Rattle.std.specs.Prelude.{ℕ, zero, suc, ◌≡◌, ◌<◌, List, [], ◌∷◌, length, take, slice_get, IfSome, Option, None, Some, MatchOption}
use Rattle.std.proofs.Common.{sym, ap, subst, arith, inl, ⊎_elim}
use Rattle.std.proofs.lemmas.Bool.{cases_order}
use Rattle.std.proofs.lemmas.List.{take_all}
use Rattle.uv_machine.specs.declared.entry.Entry.{Entry}
use Rattle.uv_machine.specs.declared.state.State.{State}
use Rattle.uv_machine.specs.States.{start}
use Rattle.uv_machine.specs.Histories.{Allowed, after, IsLegal, IsLegalFrom, IsFirstBad, state_from}
use Rattle.uv_model.specs.declared.judging.Verdict.TheVariants.{Legal, Bad}
use Rattle.uv_model.specs.Verdicts.{IsUnlessNoMemory}

-- no entry of a legal beginning is bad
not_bad_before : (m : State) (h : List Entry) (p q : ℕ) → p < q → p < length h → IsLegalFrom m (take q h) → IfSome (slice_get h p) (λ e. ¬ Allowed (state_from m (take p h)) e) → ⊥
not_bad_before m [] p q before within legal bad = omega arith
not_bad_before m (e ∷ h) p zero before within legal bad = omega arith
not_bad_before m (e ∷ h) zero (suc q) before within legal bad = bad legal.0
not_bad_before m (e ∷ h) (suc p) (suc q) before within legal bad = not_bad_before (after m e) h p q (omega arith) (omega arith) legal.1 bad

-- a legal history has no bad place
pub no_bad : (h : List Entry) (p : ℕ) → IsLegal h → IsFirstBad h p → ⊥
no_bad h p legal first =
    not_bad_before start h p (length h) first.within first.within (subst IsLegal (sym (take_all (length h) h (omega arith))) legal) first.bad

-- no place behind the first bad one is the first
not_behind : (h : List Entry) (p q : ℕ) → IsFirstBad h p → IsFirstBad h q → p < q → ⊥
not_behind h p q one other before = not_bad_before start h p q before one.within other.before one.bad

pub one_bad : (h : List Entry) (p q : ℕ) → IsFirstBad h p → IsFirstBad h q → p ≡ q
one_bad h p q one other =
    ⊎_elim (λ same. same) (λ apart. ⊎_elim (λ before. absurd (not_behind h p q one other before)) (λ behind. absurd (not_behind h q p other one behind)) apart)
    (cases_order p q)

-- What the first bad place that was found says of the verdict, the history being read as a slice.

-- there is none, or it is this one
abbrev pub IsFound : List Entry → Option ℕ → Type 0
IsFound h found = MatchOption found (IsLegal h) (IsFirstBad h)

found_in : (h g : List Entry) (found : Option ℕ) → g ≡ h → IsFound g found → IsFound h found
found_in h g found same is = subst (λ v. IsFound v found) same is

as_found : (h : List Entry) (found some : Option ℕ) → found ≡ some → IsFound h found → IsFound h some
as_found h found some same is = subst (λ v. IsFound h v) same is

module _ (h g : List Entry) (found : Option ℕ) (same : g ≡ h) (is : IsFound g found) where
  pub bad_where_none : found ≡ None → (place : ℕ) → IsFirstBad h place → IsUnlessNoMemory (Bad place) Legal
  bad_where_none none place first = absurd (no_bad h place (as_found h found None none (found_in h g found same is)) first)

  pub legal_where_some : (p : ℕ) → found ≡ Some p → IsLegal h → IsUnlessNoMemory Legal (Bad p)
  legal_where_some p some legal = absurd (no_bad h p legal (as_found h found (Some p) some (found_in h g found same is)))

  pub bad_where_some : (p : ℕ) → found ≡ Some p → (place : ℕ) → IsFirstBad h place → IsUnlessNoMemory (Bad place) (Bad p)
  bad_where_some p some place first = inl (ap Bad (one_bad h p place (as_found h found (Some p) some (found_in h g found same is)) first))
