-- The words that are ahead of a call, and the steps that they stand for.
use Rattle.std.proofs.Common.{◌≡◌, ℕ, zero, suc, ◌+◌, ◌<◌, ◌≤◌, Bool, true, false, List, [], ◌∷◌, ◌++◌, Option, Some, None, length, drop, replicate, refl, ap, ◌∙◌, arith}
use Rattle.std.specs.Prelude.{◌||◌, slice_get, sum_by}
use Rattle.std.specs.List.{list_any}
use Rattle.std.proofs.lemmas.Option.{same_Some}
use Rattle.std.proofs.lemmas.List.Sums.{sum_by-cons}
use Rattle.uv_num.specs.declared.errno.Errno.{Errno}
use Rattle.uv_num.specs.declared.ids.Ids.{Ids}
use Rattle.uv_num.specs.declared.ids.Ids.TheVariants.{Empty, One, Two, Three, Four}
use Rattle.uv_num.specs.declared.request.Role.{Role}
use Rattle.uv_num.specs.declared.request.Role.TheVariants.{Creates, Destroys, Acts}
use Rattle.uv_num.specs.Ids.{ids_of, ids_and, ids_behind}
use Rattle.uv_num.specs.Looks.{looks_of}
use Rattle.uv_num.specs.Request.{role_of}
use Rattle.uv_machine.specs.declared.entry.Word.{Word}
use Rattle.uv_machine.specs.declared.entry.Word.TheVariants.{Reserve, Look, Make, Commit, Act, Lock, Check, Finish, Abort, Free, Exit}
use Rattle.uv_machine.specs.declared.call.InFlight.{InFlight}
use Rattle.uv_machine.specs.Plans.{plan_of, plan_for, freeing, next_place}
use Rattle.uv_machine.specs.Accounts.{words_ahead, word_steps, is_make, count_of, free_steps, steps_back, steps_on, makes_ahead, steps_behind, new_object_owes, making_owes, one_if, making_comes}
use Rattle.uv_machine.proofs.Planned.{InPlan, IsClosing, next_place-in_plan, drop-here, drop-behind}

-- The lists of words.

none_behind : (p : ℕ) → list_any is_make (drop p []) ≡ false
none_behind zero = refl
none_behind (suc p) = refl

-- a Make comes after these looks, and a step after it
pub makes_behind_looks : (n : ℕ) → list_any is_make (replicate n Look ++ Make ∷ Commit ∷ []) ≡ true
makes_behind_looks zero = refl
makes_behind_looks (suc n) = makes_behind_looks n

acts_make_nothing : (n p : ℕ) → list_any is_make (drop p (replicate n Look ++ Act ∷ [])) ≡ false
acts_make_nothing zero zero = refl
acts_make_nothing zero (suc zero) = refl
acts_make_nothing zero (suc (suc p)) = none_behind (suc p)
acts_make_nothing (suc n) zero = acts_make_nothing n zero
acts_make_nothing (suc n) (suc p) = acts_make_nothing n p

two_behind_looks : (n p : ℕ) → list_any is_make (drop p (replicate n Look ++ Make ∷ Commit ∷ [])) ≡ true → 2 ≤ sum_by word_steps (drop p (replicate n Look ++ Make ∷ Commit ∷ []))
two_behind_looks zero zero e = omega arith
two_behind_looks zero (suc zero) e = absurd cc
two_behind_looks zero (suc (suc p)) e = absurd (let none = none_behind p in cc)
two_behind_looks (suc n) zero e = omega (arith, sum_by-cons word_steps Look (replicate n Look ++ Make ∷ Commit ∷ []))
two_behind_looks (suc n) (suc p) e = two_behind_looks n p e

-- where a Make is ahead two steps are
pub two_ahead : (role : Role) (n p : ℕ) → list_any is_make (drop p (plan_of role n)) ≡ true → 2 ≤ sum_by word_steps (drop p (plan_of role n))
two_ahead (Creates kind) n zero e =
    omega (arith, sum_by-cons word_steps Reserve (replicate n Look ++ Make ∷ Commit ∷ []), two_behind_looks n 0 (makes_behind_looks n))
two_ahead (Creates kind) n (suc p) e = two_behind_looks n p e
two_ahead (Destroys asked) n zero e = absurd cc
two_ahead (Destroys asked) n (suc zero) e = absurd cc
two_ahead (Destroys asked) n (suc (suc zero)) e = absurd cc
two_ahead (Destroys asked) n (suc (suc (suc p))) e = absurd (let none = none_behind p in cc)
two_ahead (Acts act) n p e = absurd (let none : list_any is_make (drop p (replicate n Look ++ Act ∷ [])) ≡ false = acts_make_nothing n p in cc)

one_make_behind_looks : (n p : ℕ) → slice_get (replicate n Look ++ Make ∷ Commit ∷ []) p ≡ Some Make → list_any is_make (drop (suc p) (replicate n Look ++ Make ∷ Commit ∷ [])) ≡ false
one_make_behind_looks zero zero e = refl
one_make_behind_looks zero (suc zero) e = refl
one_make_behind_looks zero (suc (suc p)) e = none_behind (suc p)
one_make_behind_looks (suc n) zero e = absurd (let same : Look ≡ Make = same_Some Look Make e in cc)
one_make_behind_looks (suc n) (suc p) e = one_make_behind_looks n p e

-- a plan has one Make
pub one_make : (role : Role) (n p : ℕ) → slice_get (plan_of role n) p ≡ Some Make → list_any is_make (drop (suc p) (plan_of role n)) ≡ false
one_make (Creates kind) n zero e = absurd (let same : Reserve ≡ Make = same_Some Reserve Make e in cc)
one_make (Creates kind) n (suc p) e = one_make_behind_looks n p e
one_make (Destroys asked) n zero e = refl
one_make (Destroys asked) n (suc zero) e = refl
one_make (Destroys asked) n (suc (suc zero)) e = refl
one_make (Destroys asked) n (suc (suc (suc p))) e = none_behind (suc p)
one_make (Acts act) n p e = acts_make_nothing n (suc p)

-- A step of the plan.

-- the words ahead of a call that is in its plan, and after the step
pub record IsAhead (call : InFlight) (w : Word) (rest : List Word) : Type 0 where
  pub now : words_ahead call ≡ w ∷ rest
  pub behind : drop (next_place call.place) (plan_for call.request) ≡ rest

pub IsAhead-in_plan : (call : InFlight) (w : Word) → InPlan call w → IsAhead call w (drop (call.place + 1) (plan_for call.request))
IsAhead-in_plan call w plan = record {
  now = drop-here (plan_for call.request) call.place w plan.planned;
  behind = ap (λ p. drop p (plan_for call.request)) (next_place-in_plan call w plan);
}

-- a call after a step of its plan
pub record IsNextOf (call call' : InFlight) : Type 0 where
  pub request : call'.request ≡ call.request
  pub refusal : call'.refusal ≡ call.refusal
  pub place : call'.place ≡ next_place call.place

pub words_behind : (call call' : InFlight) (w : Word) (rest : List Word) → IsAhead call w rest → IsNextOf call call' → words_ahead call' ≡ rest
words_behind call call' w rest ahead next = rw (next.request, next.place) ahead.behind

-- How many steps there are.

-- the steps by the number of those of the plan, and whether a Make is among them
abbrev pub steps_by : Bool → ℕ → InFlight → ℕ
steps_by true sum call = sum + free_steps call
steps_by false sum call = sum + steps_back call

pub steps_on_by : (makes : Bool) (call : InFlight) → steps_on makes call ≡ steps_by makes (sum_by word_steps (words_ahead call)) call
steps_on_by true call = refl
steps_on_by false call = refl

pub steps_in_plan : (call : InFlight) (w : Word) (rest : List Word) → call.refusal ≡ None → words_ahead call ≡ w ∷ rest → steps_behind call call.refusal ≡ steps_by (is_make w || list_any is_make rest) (word_steps w + sum_by word_steps rest) call
steps_in_plan call w rest fine ahead =
    ap (steps_behind call) fine
    ∙ steps_on_by (makes_ahead call) call
    ∙ ap (λ b. steps_by b (sum_by word_steps (words_ahead call)) call) (ap (list_any is_make) ahead)
    ∙ ap (λ n. steps_by (is_make w || list_any is_make rest) n call) (ap (sum_by word_steps) ahead ∙ sum_by-cons word_steps w rest)

pub steps_then : (call' : InFlight) (rest : List Word) → call'.refusal ≡ None → words_ahead call' ≡ rest → steps_behind call' call'.refusal ≡ steps_by (list_any is_make rest) (sum_by word_steps rest) call'
steps_then call' rest fine ahead =
    ap (steps_behind call') fine
    ∙ steps_on_by (makes_ahead call') call'
    ∙ ap (λ b. steps_by b (sum_by word_steps (words_ahead call')) call') (ap (list_any is_make) ahead)
    ∙ ap (λ n. steps_by (list_any is_make rest) n call') (ap (sum_by word_steps) ahead)

closing_none : (call : InFlight) → call.refusal ≡ None → IsClosing call → steps_behind call None ≡ steps_back call
closing_none call fine ends =
    let none : words_ahead call ≡ [] = drop-behind (plan_for call.request) call.place (ends fine) in
    let makes : makes_ahead call ≡ false = ap (list_any is_make) none in
    let sum : sum_by word_steps (words_ahead call) ≡ 0 = ap (sum_by word_steps) none in
    ap (λ b. steps_on b call) makes ∙ omega (arith, sum)

closing_steps_by : (call : InFlight) (r : Option Errno) → call.refusal ≡ r → IsClosing call → steps_behind call r ≡ steps_back call
closing_steps_by call None fine ends = closing_none call fine ends
closing_steps_by call (Some e) fine ends = refl

-- a call that closes has the steps of its end ahead
pub closing_steps : (call : InFlight) → IsClosing call → steps_behind call call.refusal ≡ steps_back call
closing_steps call ends = closing_steps_by call call.refusal refl ends

closing_makes_by : (call : InFlight) (r : Option Errno) → call.refusal ≡ r → IsClosing call → (making_owes call r ≡ 0) × (making_comes call r ≡ 0)
closing_makes_by call None fine ends =
    let none : words_ahead call ≡ [] = drop-behind (plan_for call.request) call.place (ends fine) in
    let makes : makes_ahead call ≡ false = ap (list_any is_make) none in
    (ap new_object_owes makes, ap one_if makes)
closing_makes_by call (Some e) fine ends = (refl, refl)

-- and makes nothing
pub closing_makes : (call : InFlight) → IsClosing call → (making_owes call call.refusal ≡ 0) × (making_comes call call.refusal ≡ 0)
closing_makes call ends = closing_makes_by call call.refusal refl ends

-- What is looked at.

pub length-ids_and : (looked : Ids) (o : ℕ) → length (ids_of (ids_and looked o)) ≤ length (ids_of looked) + 1
length-ids_and Empty o = omega arith
length-ids_and (One a) o = omega arith
length-ids_and (Two a b) o = omega arith
length-ids_and (Three a b c) o = omega arith
length-ids_and (Four a b c d) o = omega arith

pub length-ids_behind : (looked : Ids) → freeing looked ≡ Free → length (ids_of (ids_behind looked)) + 1 ≡ length (ids_of looked)
length-ids_behind Empty e = absurd cc
length-ids_behind (One a) e = refl
length-ids_behind (Two a b) e = refl
length-ids_behind (Three a b c) e = refl
length-ids_behind (Four a b c d) e = refl

-- The steps after a turn.

-- a word that makes nothing
pub fewer_by : (b : Bool) (w s : ℕ) (call call' : InFlight) → count_of call'.reserved ≡ count_of call.reserved → free_steps call' + 1 ≤ free_steps call + w → steps_by b s call' < steps_by b (w + s) call
fewer_by true w s call call' aborts frees = omega arith
fewer_by false w s call call' aborts frees = omega arith

-- a word after which a Make comes
pub fewer_before_make : (w s : ℕ) (call call' : InFlight) → free_steps call' + 1 ≤ free_steps call + w → steps_by true s call' < steps_by true (w + s) call
fewer_before_make w s call call' frees = omega arith

-- the Make
pub fewer_made : (b : Bool) (s : ℕ) (call call' : InFlight) → count_of call'.reserved ≡ 0 → free_steps call' ≡ free_steps call → steps_by b s call' < steps_by true (1 + s) call
fewer_made true s call call' aborts frees = omega arith
fewer_made false s call call' aborts frees = omega arith

abort_most : (number : Option ℕ) → count_of number ≤ 1
abort_most None = omega arith
abort_most (Some n) = omega arith

word_least : (w : Word) → 1 ≤ word_steps w
word_least Reserve = omega arith
word_least Look = omega arith
word_least Make = omega arith
word_least Commit = omega arith
word_least Act = omega arith
word_least Lock = omega arith
word_least Check = omega arith
word_least Finish = omega arith
word_least Abort = omega arith
word_least Free = omega arith
word_least Exit = omega arith

refused_by : (b : Bool) (s : ℕ) (call : InFlight) → (b ≡ true → 2 ≤ s) → 1 ≤ s → steps_back call < steps_by b s call
refused_by true s call two one = omega (arith, two refl, abort_most call.reserved)
refused_by false s call two one = omega arith

-- a refusal leaves fewer
pub fewer_refused : (call : InFlight) (w : Word) → InPlan call w → steps_back call < steps_behind call call.refusal
fewer_refused call w plan =
    let rest = drop (call.place + 1) (plan_for call.request) in
    let ahead = IsAhead-in_plan call w plan in
    let steps = steps_in_plan call w rest plan.fine ahead.now in
    let words : sum_by word_steps (words_ahead call) ≡ word_steps w + sum_by word_steps rest = ap (sum_by word_steps) ahead.now ∙ sum_by-cons word_steps w rest in
    let two : (is_make w || list_any is_make rest) ≡ true → 2 ≤ word_steps w + sum_by word_steps rest =
    λ makes. (let enough = two_ahead (role_of call.request) (length (looks_of call.request)) call.place (ap (list_any is_make) ahead.now ∙ makes) in omega (arith, enough, words)) in
    rw steps (refused_by (is_make w || list_any is_make rest) (word_steps w + sum_by word_steps rest) call two (omega (arith, word_least w)))
