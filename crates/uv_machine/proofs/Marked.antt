-- Tables with marks.
use Rattle.std.specs.Prelude.{ℕ, zero, suc, Bool, true, false, ◌||◌, ◌==◌, ◌≡◌, ◌<◌, ◌≤◌, ◌+◌, List, [], ◌∷◌, Some, refl, length, take, replicate, slice_set, slice_index_or, unwrap_or, if◌then◌else◌}
use Rattle.std.specs.List.{list_any}
use Rattle.std.proofs.Common.{ap, sym, ◌∙◌, inl, inr, arith}
use Rattle.std.proofs.Math.Bool.{or_assoc}
use Rattle.std.proofs.lemmas.Bool.Decides.{eqb_tells}
use Rattle.std.proofs.lemmas.List.{take_more, take_all}
use Rattle.std.proofs.lemmas.List.Folds.{list_any-append}
use Rattle.std.proofs.lemmas.Option.{slice_get-get_or}
use Rattle.uv_num.specs.declared.limits.TheConstants.{HANDLES}
use Rattle.uv_machine.specs.States.{least_from}
use Rattle.uv_machine.specs.Marking.{is_marked, Marks}
use Rattle.uv_machine.proofs.Members.{slice_get-set_same, slice_get-set_other}

or_none : (a b : Bool) → b ≡ false → (a || b) ≡ a
or_none true b e = refl
or_none false b e = e

or_one : (a b : Bool) → b ≡ true → (a || b) ≡ true
or_one true b e = refl
or_one false b e = e

pub is_marked-blank : (k n : ℕ) → is_marked (replicate k false) n ≡ false
is_marked-blank zero n = refl
is_marked-blank (suc k) zero = refl
is_marked-blank (suc k) (suc n) = is_marked-blank k n

-- nothing was marked
pub Marks-none : (takes : ℕ → Bool) (t : List Bool) → ((n : ℕ) → n < HANDLES → takes n ≡ false) → Marks takes t t
Marks-none takes t none = record { at = λ n below. sym (or_none (is_marked t n) (takes n) (none n below)) }

-- a test that says the same
pub Marks-as : (takes takes' : ℕ → Bool) (old new : List Bool) → ((n : ℕ) → takes' n ≡ takes n) → Marks takes old new → Marks takes' old new
Marks-as takes takes' old new same m = record { at = λ n below. m.at n below ∙ ap (λ v. is_marked old n || v) (sym (same n)) }

module _ (t : List Bool) (number : ℕ) (within : number < length t) where
  set_here : (n : ℕ) → number ≡ n → is_marked (slice_set t number true) n ≡ true
  set_here n e =
      ap (λ k. is_marked (slice_set t number true) k) (sym e)
      ∙ ap (λ v. unwrap_or v false) (slice_get-set_same t number (slice_index_or t number false) true (slice_get-get_or t number false within))

  set_at : (n : ℕ) → is_marked (slice_set t number true) n ≡ (is_marked t n || (number == n))
  set_at n =
      elim (eqb_tells number n) [
        | inl same ↦ set_here n same.1 ∙ sym (or_one (is_marked t n) (number == n) same.0)
        | inr apart ↦ ap (λ v. unwrap_or v false) (slice_get-set_other t number n true apart.1) ∙ sym (or_none (is_marked t n) (number == n) apart.0)
      ]

  -- one number was marked
  pub Marks-set : Marks (λ n. number == n) t (slice_set t number true)
  Marks-set = record { at = λ n below. set_at n }

past_none : (number : ℕ) → HANDLES ≤ number → (n : ℕ) → n < HANDLES → (number == n) ≡ false
past_none number past n below = elim (eqb_tells number n) [ inl same ↦ absurd (omega (arith, same.1)) | inr apart ↦ apart.0 ]

-- a number past the table's end isn't marked
pub Marks-past : (t : List Bool) (number : ℕ) → HANDLES ≤ number → Marks (λ n. number == n) t t
Marks-past t number past = Marks-none (λ n. number == n) t (past_none number past)

-- A walk over a list.

module _ {X : Type 0} (p : ℕ → X → Bool) where
  pub Marks-start : (xs : List X) (t : List Bool) → Marks (λ n. list_any (p n) (take 0 xs)) t t
  Marks-start xs t = Marks-none (λ n. list_any (p n) (take 0 xs)) t (λ n below. refl)

  any_next : (xs : List X) (i : ℕ) (d : X) (n : ℕ) → i < length xs → list_any (p n) (take (i + 1) xs) ≡ (list_any (p n) (take i xs) || p n (slice_index_or xs i d))
  any_next xs i d n within =
      ap (list_any (p n)) (take_more xs i d within)
      ∙ list_any-append (p n) (take i xs) (slice_index_or xs i d ∷ [])
      ∙ ap (λ v. list_any (p n) (take i xs) || v) (or_none (p n (slice_index_or xs i d)) false refl)

  -- one item more
  pub Marks-next :
      (xs : List X) (i : ℕ) (d : X) (a b c : List Bool) → i < length xs → Marks (λ n. list_any (p n) (take i xs)) a b → Marks (λ n. p n (slice_index_or xs i d)) b c
      → Marks (λ n. list_any (p n) (take (i + 1) xs)) a c
  Marks-next xs i d a b c within first second = record {
    at = λ n below.
        second.at n below
        ∙ ap (λ v. v || p n (slice_index_or xs i d)) (first.at n below)
        ∙ or_assoc (is_marked a n) (list_any (p n) (take i xs)) (p n (slice_index_or xs i d))
        ∙ ap (λ v. is_marked a n || v) (sym (any_next xs i d n within));
  }

  -- the whole list
  pub Marks-all : (xs : List X) (i : ℕ) (a b : List Bool) → length xs ≤ i → Marks (λ n. list_any (p n) (take i xs)) a b → Marks (λ n. list_any (p n) xs) a b
  Marks-all xs i a b all m =
      Marks-as (λ n. list_any (p n) (take i xs)) (λ n. list_any (p n) xs) a b (λ n. ap (list_any (p n)) (sym (take_all i xs all))) m

-- The least number.

least_from_same : (f g : ℕ → Bool) (n k : ℕ) → ((i : ℕ) → i < n + k → f i ≡ g i) → least_from f n k ≡ least_from g n k
unfolding least_from
least_from_same f g n zero same = refl
least_from_same f g n (suc more) same =
    rw (same n (omega arith)) (ap (λ v. if g n then v else Some n) (least_from_same f g (n + 1) more (λ i below. same i (omega arith))))

-- a table with two kinds of marks
pub least_from-marked :
    (p q : ℕ → Bool) (a b c : List Bool) → ((n : ℕ) → is_marked a n ≡ false) → Marks p a b → Marks q b c
    → least_from (is_marked c) 0 HANDLES ≡ least_from (λ n. p n || q n) 0 HANDLES
least_from-marked p q a b c blank first second =
    least_from_same (is_marked c) (λ n. p n || q n) 0 HANDLES
    (λ n below.
    (let here : n < HANDLES = omega arith in
    second.at n here ∙ ap (λ v. v || q n) (first.at n here) ∙ ap (λ v. v || p n || q n) (blank n)))
