-- How many steps a call has ahead that has just entered.
use Rattle.std.proofs.Common.{◌≡◌, ℕ, zero, suc, ◌+◌, ◌*◌, ◌≤◌, Bool, true, false, [], ◌∷◌, ◌++◌, Some, length, replicate, refl, arith}
use Rattle.std.specs.Prelude.{sum_by}
use Rattle.std.specs.List.{list_any}
use Rattle.std.proofs.lemmas.List.Sums.{sum_by-cons}
use Rattle.uv_num.specs.declared.request.Request.{Request}
use Rattle.uv_num.specs.declared.request.Role.{Role}
use Rattle.uv_num.specs.declared.request.Role.TheVariants.{Creates, Destroys, Acts}
use Rattle.uv_num.specs.Looks.{looks_of}
use Rattle.uv_num.specs.Request.{role_of}
use Rattle.uv_machine.specs.declared.entry.Word.TheVariants.{Reserve, Look, Make, Commit, Act}
use Rattle.uv_machine.specs.Plans.{plan_of, entered}
use Rattle.uv_machine.specs.Accounts.{word_steps, is_make, steps_ahead}
use Rattle.uv_machine.proofs.Ahead.{steps_by, steps_then}

made_sum : (n : ℕ) → sum_by word_steps (replicate n Look ++ Make ∷ Commit ∷ []) ≡ 2 * n + 2
made_sum zero = refl
made_sum (suc n) = omega (arith, sum_by-cons word_steps Look (replicate n Look ++ Make ∷ Commit ∷ []), made_sum n)

acted_sum : (n : ℕ) → sum_by word_steps (replicate n Look ++ Act ∷ []) ≡ 2 * n + 1
acted_sum zero = refl
acted_sum (suc n) = omega (arith, sum_by-cons word_steps Look (replicate n Look ++ Act ∷ []), acted_sum n)

plan_sum : (role : Role) (n : ℕ) → sum_by word_steps (plan_of role n) ≤ 2 * n + 3
plan_sum (Creates kind) n = omega (arith, sum_by-cons word_steps Reserve (replicate n Look ++ Make ∷ Commit ∷ []), made_sum n)
plan_sum (Destroys asked) n = omega arith
plan_sum (Acts act) n = omega (arith, acted_sum n)

entered_by : (b : Bool) (s n f : ℕ) (request : Request) → s ≤ 2 * n + 3 → steps_by b s (entered f request) ≤ 4 + 2 * n
entered_by true s n f request le = omega arith
entered_by false s n f request le = omega arith

pub steps_ahead-entered : (f : ℕ) (request : Request) → steps_ahead (Some (entered f request)) ≤ 4 + 2 * length (looks_of request)
steps_ahead-entered f request =
    let plan = plan_of (role_of request) (length (looks_of request)) in
    rw (steps_then (entered f request) plan refl refl) (entered_by (list_any is_make plan) (sum_by word_steps plan) (length (looks_of request)) f request (plan_sum (role_of request) (length (looks_of request))))
