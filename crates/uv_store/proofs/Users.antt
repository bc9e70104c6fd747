-- The counts of users after some uses were let go, or came.
use Rattle.std.proofs.Common.{◌≡◌, ℕ, ◌+◌, ◌-◌, ◌*◌, ◌<◌, ◌≤◌, Bool, true, false, List, [], ◌∷◌, length, cond, refl, ap, sym, ◌∙◌, subst, arith}
use Rattle.std.specs.Prelude.{◌==◌, count_by, if◌then◌else◌}
use Rattle.std.proofs.lemmas.Bool.{eq-eqb, eqb-true}
use Rattle.std.proofs.lemmas.List.Sums.{sum_by-cons, count_by-le-length}
use Rattle.uv_num.specs.Ids.{ids_of, is_number}
use Rattle.uv_num.proofs.PlaceLaws.{changed_same, changed_other}
use Rattle.uv_machine.specs.declared.object.Object.{Object}
use Rattle.uv_store.specs.declared.mark.Mark.{Mark}
use Rattle.uv_store.specs.declared.mark.MarkChange.TheVariants.{LosesUser, GainsUser}
use Rattle.uv_store.specs.Marks.{uses_by, users_on, mark_changed, marks_at_one, marks_at}
use Rattle.uv_store.proofs.Beside.{lt_true}
use Rattle.uv_store.proofs.Still.{mark_alike}
use Rattle.uv_store.proofs.Words.{ids_few}

-- a mark with fewer users
abbrev pub less_used : Mark → ℕ → Mark
less_used k n = record k { users = k.users - n }

loses_one : (g : ℕ → Mark) (o i : ℕ) (b : Bool) → (o == i) ≡ b → marks_at_one LosesUser o g i ≡ less_used (g i) (cond b 1 0)
loses_one g o i true e =
    let P : ℕ → Type 0 = λ v. marks_at_one LosesUser o g v ≡ less_used (g v) 1 in
    subst P (eqb-true o i e) (changed_same g o (mark_changed LosesUser (g o)))
loses_one g o i false e =
    changed_other g o (mark_changed LosesUser (g o)) i (λ same. (let yes = eq-eqb o i (sym same) in cc))
    ∙ mark_alike (g i) (less_used (g i) 0) refl (omega arith)

-- each use that is let go is one user less
pub loses_all : (os : List ℕ) (g : ℕ → Mark) (i : ℕ) → marks_at LosesUser os g i ≡ less_used (g i) (count_by (is_number i) os)
loses_all [] g i = mark_alike (g i) (less_used (g i) 0) refl (omega arith)
loses_all (o ∷ os) g i =
    let here = loses_one g o i (o == i) refl in
    let all = sum_by-cons (λ n. cond (is_number i n) 1 0) o os in
    loses_all os (marks_at_one LosesUser o g) i
    ∙ (ap (λ k. less_used k (count_by (is_number i) os)) here
    ∙ mark_alike (less_used (less_used (g i) (cond (o == i) 1 0)) (count_by (is_number i) os)) (less_used (g i) (count_by (is_number i) (o ∷ os))) refl (omega (arith, all)))

-- a mark with more users
abbrev pub more_used : Mark → ℕ → Mark
more_used k n = record k { users = k.users + n }

at_most_one : (b : Bool) → cond b 1 0 ≤ 1
at_most_one true = omega arith
at_most_one false = omega arith

gains_one : (g : ℕ → Mark) (o i : ℕ) (b : Bool) → (o == i) ≡ b → (g i).users < 65536 → marks_at_one GainsUser o g i ≡ more_used (g i) (cond b 1 0)
gains_one g o i true e low =
    let P : ℕ → Type 0 = λ v. (g v).users < 65536 → marks_at_one GainsUser o g v ≡ more_used (g v) 1 in
    subst P (eqb-true o i e) (λ lt. changed_same g o (mark_changed GainsUser (g o)) ∙ mark_alike (mark_changed GainsUser (g o)) (more_used (g o) 1) refl (ap (λ b. if b then (g o).users + 1 else (g o).users) (lt_true (g o).users 65536 lt))) low
gains_one g o i false e low =
    changed_other g o (mark_changed GainsUser (g o)) i (λ same. (let yes = eq-eqb o i (sym same) in cc))
    ∙ mark_alike (g i) (more_used (g i) 0) refl (omega arith)

-- each use that comes is one user more
pub gains_all : (os : List ℕ) (g : ℕ → Mark) (i : ℕ) → (g i).users + length os ≤ 65536 → marks_at GainsUser os g i ≡ more_used (g i) (count_by (is_number i) os)
gains_all [] g i few = mark_alike (g i) (more_used (g i) 0) refl (omega arith)
gains_all (o ∷ os) g i few =
    let here = gains_one g o i (o == i) refl (omega arith) in
    let grown : (marks_at_one GainsUser o g i).users ≡ (g i).users + cond (o == i) 1 0 = ap (λ (k : Mark). k.users) here in
    let one = at_most_one (o == i) in
    let all = sum_by-cons (λ n. cond (is_number i n) 1 0) o os in
    gains_all os (marks_at_one GainsUser o g) i (omega (arith, grown, one))
    ∙ (ap (λ k. more_used k (count_by (is_number i) os)) here
    ∙ mark_alike (more_used (more_used (g i) (cond (o == i) 1 0)) (count_by (is_number i) os)) (more_used (g i) (count_by (is_number i) (o ∷ os))) refl (omega (arith, all)))

-- At most four users come of each object.

uses_few : (o : ℕ) (x : Object) → uses_by o x ≤ 4
uses_few o x = omega (arith, count_by-le-length (is_number o) (ids_of x.uses), ids_few x.uses)

pub users_few : (objects : List Object) (o : ℕ) → users_on objects o ≤ 4 * length objects
users_few [] o = omega arith
users_few (x ∷ xs) o = omega (arith, sum_by-cons (uses_by o) x xs, uses_few o x, users_few xs o)
