-- The lock word after a call's step.
use Rattle.std.proofs.Common.{◌≡◌, ◌≢◌, ℕ, pos, ◌+◌, ◌-◌, ◌*◌, ◌<◌, ◌≤◌, Bool, true, false, List, [], ◌∷◌, Option, Some, None, length, cond, refl, ap, sym, ◌∙◌, arith}
use Rattle.std.specs.Prelude.{slice_get, ◌==◌, nat_lt, count_by, option_map, if◌then◌else◌}
use Rattle.std.specs.List.{list_any}
use Rattle.std.proofs.lemmas.Bool.{eq-eqb, ne_eqb}
use Rattle.std.proofs.lemmas.Bool.Decides.{nat_tests}
use Rattle.std.proofs.lemmas.List.Sums.{sum_by-cons, sum_by-append, count_by-le-length}
use Rattle.uv_num.specs.declared.ids.Ids.{Ids}
use Rattle.uv_num.specs.declared.ids.Ids.TheVariants.{Empty, One, Two, Three, Four}
use Rattle.uv_num.specs.declared.limits.TheConstants.{ACTOR_PLACES}
use Rattle.uv_num.specs.Ids.{ids_of, ids_behind, is_number}
use Rattle.uv_num.specs.Place.{at_place}
use Rattle.uv_num.proofs.PlaceLaws.{sum_by-at_place}
use Rattle.uv_machine.specs.declared.call.InFlight.{InFlight}
use Rattle.uv_machine.specs.Plans.{locks, with_look, without_look}
use Rattle.uv_machine.proofs.Changing.{ids_of-ids_and}
use Rattle.uv_store.specs.Marks.{looks_by, reads_on, word_for, word_on, word_read, word_freed}
use Rattle.uv_store.proofs.Still.{any_alike}

-- At most 44 looks are at an object: four of each place.

pub ids_few : (ids : Ids) → length (ids_of ids) ≤ 4
ids_few Empty = omega arith
ids_few (One a) = omega arith
ids_few (Two a b) = omega arith
ids_few (Three a b c) = omega arith
ids_few (Four a b c d) = omega arith

pub looks_few : (o : ℕ) (slot : Option InFlight) → looks_by o slot ≤ 4
looks_few o None = omega arith
looks_few o (Some call) = omega (arith, count_by-le-length (is_number o) (ids_of call.looked), ids_few call.looked)

pub reads_few : (calls : List (Option InFlight)) (o : ℕ) → reads_on calls o ≤ 4 * length calls
reads_few [] o = omega arith
reads_few (slot ∷ calls) o = omega (arith, sum_by-cons (looks_by o) slot calls, looks_few o slot, reads_few calls o)

-- one more look, and one less

looks_more : (call : InFlight) (o i : ℕ) → length (ids_of call.looked) < 4 → looks_by i (Some (with_look o call)) ≡ looks_by i (Some call) + cond (o == i) 1 0
looks_more call o i low =
    ap (count_by (is_number i)) (ids_of-ids_and call.looked o low)
    ∙ (sum_by-append (λ n. cond (is_number i n) 1 0) (ids_of call.looked) (o ∷ [])
    ∙ ap (λ n. count_by (is_number i) (ids_of call.looked) + n) (sum_by-cons (λ n. cond (is_number i n) 1 0) o [] ∙ (let e : cond (o == i) 1 0 + 0 ≡ cond (o == i) 1 0 = omega arith in e)))

looks_less : (call : InFlight) (o i : ℕ) → slice_get (ids_of call.looked) 0 ≡ Some o → looks_by i (Some (without_look call)) + cond (o == i) 1 0 ≡ looks_by i (Some call)
looks_less call o i first = by call.looked first
  where
    p : ℕ → Bool
    p = is_number i

    by : (ids : Ids) → slice_get (ids_of ids) 0 ≡ Some o → count_by p (ids_of (ids_behind ids)) + cond (o == i) 1 0 ≡ count_by p (ids_of ids)
    by Empty e = cc
    by (One a) e = let same : a ≡ o = cc in rw (← same) (omega (arith, sum_by-cons (λ n. cond (p n) 1 0) a []))
    by (Two a b) e = let same : a ≡ o = cc in rw (← same) (omega (arith, sum_by-cons (λ n. cond (p n) 1 0) a (b ∷ [])))
    by (Three a b c) e = let same : a ≡ o = cc in rw (← same) (omega (arith, sum_by-cons (λ n. cond (p n) 1 0) a (b ∷ c ∷ [])))
    by (Four a b c d) e = let same : a ≡ o = cc in rw (← same) (omega (arith, sum_by-cons (λ n. cond (p n) 1 0) a (b ∷ c ∷ d ∷ [])))

-- a word that none has alone
word_free : (calls : List (Option InFlight)) (o : ℕ) → list_any (locks o) calls ≡ false → word_on calls o ≡ pos (reads_on calls o)
word_free calls o none = ap (λ b. word_for b (reads_on calls o)) none

pub read_word : (n : ℕ) → n < 64 → word_read (pos n) ≡ pos (n + 1)
read_word n lt = let yes : nat_lt n 64 ≡ true = grind (arith, nat_tests) in ap (λ b. if b then pos (n + 1) else pos n) yes

-- the word of a call's object, and of every other, after a change of the call's slot
module _ (calls : List (Option InFlight)) (c : ℕ) (call : InFlight) (at : slice_get calls c ≡ Some (Some call)) where
  -- a look
  module _ (o : ℕ) (low : length (ids_of call.looked) < 4) where
    abbrev pub more : List (Option InFlight)
    more = at_place calls c (option_map (with_look o))

    locks_more : (i : ℕ) → list_any (locks i) more ≡ list_any (locks i) calls
    locks_more i = any_alike (locks i) (option_map (with_look o)) calls c (λ x e. elim x as (λ v. locks i (option_map (with_look o) v) ≡ locks i v) [ None ↦ refl | Some k ↦ refl ])

    reads_more : (i : ℕ) → reads_on more i ≡ reads_on calls i + cond (o == i) 1 0
    reads_more i = omega (arith, sum_by-at_place (looks_by i) calls c (option_map (with_look o)) (Some call) at, looks_more call o i low)

    pub look_other : (i : ℕ) → i ≢ o → word_on more i ≡ word_on calls i
    look_other i apart =
        let same : reads_on more i ≡ reads_on calls i = reads_more i ∙ (ap (λ b. reads_on calls i + cond b 1 0) (ne_eqb o i (λ e. apart (sym e))) ∙ omega arith) in
        ap (λ b. word_for b (reads_on more i)) (locks_more i) ∙ ap (λ n. word_for (list_any (locks i) calls) n) same

    pub look_same : list_any (locks o) calls ≡ false → length calls ≡ ACTOR_PLACES → word_on more o ≡ word_read (word_on calls o)
    look_same none size =
        let one : reads_on more o ≡ reads_on calls o + 1 = reads_more o ∙ ap (λ b. reads_on calls o + cond b 1 0) (eq-eqb o o refl) in
        word_free more o (locks_more o ∙ none)
        ∙ (ap (λ n. pos n) one
        ∙ (sym (read_word (reads_on calls o) (omega (arith, reads_few calls o, size))) ∙ ap word_read (sym (word_free calls o none))))

  -- a look let go
  module _ (o : ℕ) (first : slice_get (ids_of call.looked) 0 ≡ Some o) where
    abbrev pub less : List (Option InFlight)
    less = at_place calls c (option_map without_look)

    locks_less : (i : ℕ) → list_any (locks i) less ≡ list_any (locks i) calls
    locks_less i = any_alike (locks i) (option_map without_look) calls c (λ x e. elim x as (λ v. locks i (option_map without_look v) ≡ locks i v) [ None ↦ refl | Some k ↦ refl ])

    reads_less : (i : ℕ) → reads_on less i + cond (o == i) 1 0 ≡ reads_on calls i
    reads_less i = omega (arith, sum_by-at_place (looks_by i) calls c (option_map without_look) (Some call) at, looks_less call o i first)

    pub free_other : (i : ℕ) → i ≢ o → word_on less i ≡ word_on calls i
    free_other i apart =
        let same : reads_on less i ≡ reads_on calls i = omega arith ∙ (ap (λ b. reads_on less i + cond b 1 0) (sym (ne_eqb o i (λ e. apart (sym e)))) ∙ reads_less i) in
        ap (λ b. word_for b (reads_on less i)) (locks_less i) ∙ ap (λ n. word_for (list_any (locks i) calls) n) same

    pub free_same : list_any (locks o) calls ≡ false → word_on less o ≡ word_freed (word_on calls o)
    free_same none =
        let one : reads_on less o + 1 ≡ reads_on calls o = ap (λ b. reads_on less o + cond b 1 0) (sym (eq-eqb o o refl)) ∙ reads_less o in
        let n : reads_on less o ≡ reads_on calls o - 1 = omega arith in
        word_free less o (locks_less o ∙ none)
        ∙ (ap (λ n. pos n) n ∙ ap word_freed (sym (word_free calls o none)))
