-- The step that a call makes next, by what its word says: it is the one that the machine allows.
use Rattle.std.proofs.Common.{◌≡◌, ℕ, Bool, true, false, Option, None, Some, refl, ap, subst, ◌∙◌, if◌then◌else◌, arith}
use Rattle.std.proofs.lemmas.Option.{none-some, same_Some}
use Rattle.uv_num.specs.declared.errno.Errno.{Errno}
use Rattle.uv_num.specs.declared.qp.QpState.{QpState}
use Rattle.uv_num.specs.declared.request.Act as request
use Rattle.uv_num.specs.declared.request.Act.TheVariants.{Modify, Query, Bind, Unbind, Async}
use Rattle.uv_num.specs.declared.request.Role.{Role}
use Rattle.uv_num.specs.declared.request.Role.TheVariants.{Creates, Destroys, Acts}
use Rattle.uv_num.specs.Request.{role_of}
use Rattle.uv_machine.specs.declared.entry.Word.{Word}
use Rattle.uv_machine.specs.declared.entry.Word.TheVariants.{Reserve, Look, Make, Commit, Act, Lock, Check, Finish, Abort, Free, Exit}
use Rattle.uv_machine.specs.declared.entry.Answer.{Answer}
use Rattle.uv_machine.specs.declared.entry.Answer.TheVariants as answer
use Rattle.uv_machine.specs.declared.entry.CallStep.{CallStep}
use Rattle.uv_machine.specs.declared.object.Object.{Object}
use Rattle.uv_machine.specs.declared.call.InFlight.{InFlight}
use Rattle.uv_machine.specs.declared.state.State.{State}
use Rattle.uv_machine.specs.declared.told.Told.{Told}
use Rattle.uv_machine.specs.Objects.{is_husk}
use Rattle.uv_machine.specs.States.{call_of, object_with}
use Rattle.uv_machine.specs.Plans.{next_word, own_object, acted_on}
use Rattle.uv_machine.specs.Acts.{act_refusal, act_answer, found_by}
use Rattle.uv_machine.specs.Steps.{next_of, next_from, step_of, done_as, step_answer, role_answer, act_told, role_found, found_at, kept_of, told}
use Rattle.uv_machine.specs.Histories.{kept_in, Allowed, IsActor, IsNext}
use Rattle.uv_graph.specs.Conditions.{IsClient}
use Rattle.uv_graph.specs.Turns.{step_entry}

-- A step tells what it found and what it kept, so that it is the same step again where these are given.

kept_twice_if : (b : Bool) (k : ℕ) → (if b then 0 else (if b then 0 else k)) ≡ (if b then 0 else k)
kept_twice_if true k = refl
kept_twice_if false k = refl

kept_twice : (x : Option Object) (k : ℕ) → kept_of x (kept_of x k) ≡ kept_of x k
kept_twice None k = refl
kept_twice (Some x) k = kept_twice_if (is_husk x.phase) k

-- an act finds again what it says that it found
module _ (m : State) (call : InFlight) (found : Option QpState) where
  act_refusal_again : (what : request.Act) → act_refusal m call (found_by what found) what ≡ act_refusal m call found what
  act_refusal_again (Modify to attrs) = refl
  act_refusal_again Query = refl
  act_refusal_again (Bind offset long access) = refl
  act_refusal_again (Unbind offset long access) = refl
  act_refusal_again Async = refl

  act_answer_again : (what : request.Act) → act_answer m call (found_by what found) what ≡ act_answer m call found what
  act_answer_again (Modify to attrs) = refl
  act_answer_again Query = refl
  act_answer_again (Bind offset long access) = refl
  act_answer_again (Unbind offset long access) = refl
  act_answer_again Async = refl

  role_told_again : (role : Role) → act_told m call (role_found role found) role ≡ act_told m call found role
  role_told_again (Creates kind) = refl
  role_told_again (Destroys asked) = refl
  role_told_again (Acts what) =
      let with_refusal : Option Errno → Told = λ r. record { object = acted_on call; refusal = r } in
      ap with_refusal (act_refusal_again what)

  role_answer_again : (role : Role) → role_answer m call (role_found role found) role ≡ role_answer m call found role
  role_answer_again (Creates kind) = refl
  role_answer_again (Destroys asked) = refl
  role_answer_again (Acts what) = act_answer_again what

found_by_again : (found : Option QpState) (what : request.Act) → found_by what (found_by what found) ≡ found_by what found
found_by_again found (Modify to attrs) = refl
found_by_again found Query = refl
found_by_again found (Bind offset long access) = refl
found_by_again found (Unbind offset long access) = refl
found_by_again found Async = refl

role_found_again : (found : Option QpState) (role : Role) → role_found role (role_found role found) ≡ role_found role found
role_found_again found (Creates kind) = refl
role_found_again found (Destroys asked) = refl
role_found_again found (Acts what) = found_by_again found what

module _ (m : State) (c : ℕ) (call : InFlight) (found : Option QpState) (kept : ℕ) where
  told_again : (w : Word) → told m c call (found_at call w found) w ≡ told m c call found w
  told_again Reserve = refl
  told_again Look = refl
  told_again Make = refl
  told_again Commit = refl
  told_again Act = role_told_again m call found (role_of call.request)
  told_again Lock = refl
  told_again Check = refl
  told_again Finish = refl
  told_again Abort = refl
  told_again Free = refl
  told_again Exit = refl

  found_again : (w : Word) → found_at call w (found_at call w found) ≡ found_at call w found
  found_again Reserve = refl
  found_again Look = refl
  found_again Make = refl
  found_again Commit = refl
  found_again Act = role_found_again found (role_of call.request)
  found_again Lock = refl
  found_again Check = refl
  found_again Finish = refl
  found_again Abort = refl
  found_again Free = refl
  found_again Exit = refl

  -- what a step keeps is what its answer says, where that matters
  answer_again : (w : Word) (r : Option Errno) → step_answer m call (found_at call w found) (kept_in (step_answer m call found kept w r)) w r ≡ step_answer m call found kept w r
  answer_again Reserve None = refl
  answer_again Look None = refl
  answer_again Make None = refl
  answer_again Commit None = refl
  answer_again Act None = role_answer_again m call found (role_of call.request)
  answer_again Lock None = refl
  answer_again Check None = refl
  answer_again Finish None = ap answer.Kept (kept_twice (object_with m (own_object call)) kept)
  answer_again Abort None = refl
  answer_again Free None = refl
  answer_again Exit None = refl
  answer_again w (Some e) = refl

  done_again : (w : Word) (t : Told) → done_as m call (found_at call w found) (kept_in (step_answer m call found kept w t.refusal)) w t ≡ done_as m call found kept w t
  done_again w t =
      let again : ℕ = kept_in (step_answer m call found kept w t.refusal) in
      let with_found : Option QpState → CallStep = λ f. record { word = w; object = t.object; found = f; answer = step_answer m call (found_at call w found) again w t.refusal } in
      let with_answer : Answer → CallStep = λ a. record { word = w; object = t.object; found = found_at call w found; answer = a } in
      ap with_found (found_again w) ∙ ap with_answer (answer_again w t.refusal)

  step_again : step_of m c (step_of m c found kept call).found (kept_in (step_of m c found kept call).answer) call ≡ step_of m c found kept call
  step_again =
      let w : Word = next_word call in
      let again : ℕ = kept_in (step_answer m call found kept w (told m c call found w).refusal) in
      ap (λ t. done_as m call (found_at call w found) again w t) (told_again w) ∙ done_again w (told m c call found w)

next_from_again : (m : State) (c : ℕ) (found : Option QpState) (kept : ℕ) (d : CallStep) (slot : Option InFlight) → next_from m c found kept slot ≡ Some d → next_from m c d.found (kept_in d.answer) slot ≡ Some d
next_from_again m c found kept d None e = absurd (none-some d e)
next_from_again m c found kept d (Some call) e =
    let P : CallStep → Type 0 = λ v. Some (step_of m c v.found (kept_in v.answer) call) ≡ Some v in
    subst P (same_Some _ _ e) (ap (λ (v : CallStep). Some v) (step_again m c call found kept))

-- the step that a call makes next is the one that the machine allows
pub IsNext-next_of : (m : State) (c : ℕ) (found : Option QpState) (kept : ℕ) (d : CallStep) → next_of m c found kept ≡ Some d → IsNext m c d
IsNext-next_of m c found kept d e = next_from_again m c found kept d (call_of m c) e

-- the next step of a call, by its word and what that says
pub next_is : (m : State) (c : ℕ) (call : InFlight) (w : Word) (t : Told) (found : Option QpState) (kept : ℕ) → call_of m c ≡ Some call → next_word call ≡ w → told m c call found w ≡ t → next_of m c found kept ≡ Some (done_as m call found kept w t)
next_is m c call w t found kept is word says =
    ap (next_from m c found kept) is
    ∙ ap (λ v. Some (done_as m call found kept v (told m c call found v))) word
    ∙ ap (λ v. Some (done_as m call found kept w v)) says

pub step_allowed : (m : State) (c : ℕ) (call : InFlight) (w : Word) (t : Told) (found : Option QpState) (kept : ℕ) → IsActor c → call_of m c ≡ Some call → next_word call ≡ w → told m c call found w ≡ t → Allowed m (step_entry c (done_as m call found kept w t))
step_allowed m c call w t found kept actor is word says =
    (actor, IsNext-next_of m c found kept (done_as m call found kept w t) (next_is m c call w t found kept is word says))

pub client_acts : (c : ℕ) → IsClient c → IsActor c
client_acts c i = (i.0, omega (arith, i.1))
