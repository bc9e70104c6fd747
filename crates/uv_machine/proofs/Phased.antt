-- What a call in flight has and holds by its place in its plan, from one turn to the next.
use Rattle.uv_machine.specs.Accounts.{count_of}
use Rattle.std.proofs.Common.{true, ◌≡◌, ℕ, zero, suc, ◌+◌, ◌<◌, ◌≤◌, List, [], ◌∷◌, ◌++◌, Option, Some, None, length, replicate, refl, ap, sym, ◌∙◌, subst, arith, ⊎_elim}
use Rattle.std.specs.Prelude.{slice_get}
use Rattle.std.proofs.lemmas.Option.{none-some}
use Rattle.uv_num.specs.declared.errno.Errno.{Errno}
use Rattle.uv_num.specs.declared.ids.Ids.{Ids}
use Rattle.uv_num.specs.declared.ids.Ids.TheVariants.{Empty, One, Two, Three, Four}
use Rattle.uv_num.specs.declared.kind.Kind.{Kind}
use Rattle.uv_num.specs.declared.request.Act as request
use Rattle.uv_num.specs.declared.request.Ask.{Ask}
use Rattle.uv_num.specs.declared.request.Request.{Request}
use Rattle.uv_num.specs.declared.request.Role.{Role}
use Rattle.uv_num.specs.declared.request.Role.TheVariants.{Creates, Destroys, Acts}
use Rattle.uv_num.specs.Ids.{ids_of, ids_and}
use Rattle.uv_num.specs.Looks.{looks_of}
use Rattle.uv_num.specs.Request.{role_of}
use Rattle.uv_machine.specs.declared.entry.Word.{Word}
use Rattle.uv_machine.specs.declared.entry.Word.TheVariants.{Reserve, Look, Make, Commit, Act, Lock, Check, Finish, Abort, Free, Exit}
use Rattle.uv_machine.specs.declared.entry.Answer.{Answer}
use Rattle.uv_machine.specs.declared.call.InFlight.{InFlight}
use Rattle.uv_machine.specs.Plans.{plan_of, plan_for, entered, with_refusal, with_number, with_look, with_made, with_outcome, with_lock, without_lock, without_number, without_look, moved_on}
use Rattle.uv_machine.specs.Reached.{look_count, HasInCreate, HasInDestroy, HasInAct, HasRefused, HasInPlan, HasBehind, IsPhased}
use Rattle.uv_machine.proofs.Planned.{InPlan, IsClosing, StandsAt, IsCreateLook, IsActLook, stands_in_plan, next_place-in_plan, looks_few, closing_free}
use Rattle.uv_machine.proofs.Turns.{may_refuse}
use Rattle.uv_machine.proofs.Ahead.{length-ids_behind}
use Rattle.uv_machine.proofs.OwnCall.{OwnTurn}

abbrev pub looks_in : InFlight → ℕ
looks_in call = length (looks_of call.request)

-- What is known of a call by its role.

has_by : (call : InFlight) (r r' : Option Errno) → r ≡ r' → HasBehind call r → HasBehind call r'
has_by call r r' e h = let P : Option Errno → Type 0 = λ v. HasBehind call v in subst P e h

pub plan_has : (call : InFlight) → IsPhased call → call.refusal ≡ None → HasInPlan call (role_of call.request) (looks_in call)
plan_has call p fine = has_by call call.refusal None fine p.has

role_has : (call : InFlight) (role role' : Role) (n : ℕ) → role ≡ role' → HasInPlan call role n → HasInPlan call role' n
role_has call role role' n e h = let P : Role → Type 0 = λ v. HasInPlan call v n in subst P e h

pub create_has : (call : InFlight) (kind : Kind) → IsPhased call → call.refusal ≡ None → role_of call.request ≡ Creates kind → HasInCreate call (looks_in call) call.place
create_has call kind p fine role = role_has call (role_of call.request) (Creates kind) (looks_in call) role (plan_has call p fine)

pub destroy_has : (call : InFlight) (asked : Ask) → IsPhased call → call.refusal ≡ None → role_of call.request ≡ Destroys asked → HasInDestroy call call.place
destroy_has call asked p fine role = role_has call (role_of call.request) (Destroys asked) (looks_in call) role (plan_has call p fine)

pub act_has : (call : InFlight) (act : request.Act) → IsPhased call → call.refusal ≡ None → role_of call.request ≡ Acts act → HasInAct call (looks_in call) call.place
act_has call act p fine role = role_has call (role_of call.request) (Acts act) (looks_in call) role (plan_has call p fine)

-- and what makes it so
phased_in_plan : (call : InFlight) → look_count call ≤ looks_in call → call.refusal ≡ None → HasInPlan call (role_of call.request) (looks_in call) → IsPhased call
phased_in_plan call looks fine has = record { looks = looks; has = has_by call None call.refusal (sym fine) has }

phased_create : (call : InFlight) (kind : Kind) → look_count call ≤ looks_in call → call.refusal ≡ None → role_of call.request ≡ Creates kind → HasInCreate call (looks_in call) call.place → IsPhased call
phased_create call kind looks fine role has = phased_in_plan call looks fine (role_has call (Creates kind) (role_of call.request) (looks_in call) (sym role) has)

phased_destroy : (call : InFlight) (asked : Ask) → look_count call ≤ looks_in call → call.refusal ≡ None → role_of call.request ≡ Destroys asked → HasInDestroy call call.place → IsPhased call
phased_destroy call asked looks fine role has = phased_in_plan call looks fine (role_has call (Destroys asked) (role_of call.request) (looks_in call) (sym role) has)

phased_act : (call : InFlight) (act : request.Act) → look_count call ≤ looks_in call → call.refusal ≡ None → role_of call.request ≡ Acts act → HasInAct call (looks_in call) call.place → IsPhased call
phased_act call act looks fine role has = phased_in_plan call looks fine (role_has call (Acts act) (role_of call.request) (looks_in call) (sym role) has)

-- What is looked at.

length-ids_and_low : (looked : Ids) (o : ℕ) → length (ids_of looked) < 4 → length (ids_of (ids_and looked o)) ≡ length (ids_of looked) + 1
length-ids_and_low Empty o low = refl
length-ids_and_low (One a) o low = refl
length-ids_and_low (Two a b) o low = refl
length-ids_and_low (Three a b c) o low = refl
length-ids_and_low (Four a b c d) o low = absurd (omega arith)

-- The beginning.

entered_has : (f : ℕ) (request : Request) (role : Role) (n : ℕ) → HasInPlan (entered f request) role n
entered_has f request (Creates kind) n = record {
  begun = λ h. record { numbers_are = refl; looks_are = refl; locks_are = refl };
  looking = λ h k. absurd (omega arith);
  made = λ h. absurd (omega (arith, h));
  ended = λ h. absurd (omega (arith, h));
  within = omega arith;
}
entered_has f request (Destroys asked) n = record {
  begun = λ h. record { numbers_are = refl; looks_are = refl; locks_are = refl };
  locked = λ h k. absurd (omega arith);
  ended = λ h. absurd (omega (arith, h));
  within = omega arith;
}
entered_has f request (Acts act) n = record {
  looking = λ h. record { numbers_are = refl; looks_are = refl; locks_are = refl };
  ended = λ h. absurd (omega (arith, h));
  within = omega arith;
}

pub IsPhased-entered : (f : ℕ) (request : Request) → IsPhased (entered f request)
IsPhased-entered f request = record { looks = omega arith; has = entered_has f request (role_of request) (length (looks_of request)) }

-- Refusals.

refused_by : (call : InFlight) (e : Errno) (role : Role) → role_of call.request ≡ role → look_count call ≤ looks_in call → HasRefused (with_refusal e call) role → IsPhased (with_refusal e call)
refused_by call e role is looks has = record { looks = looks; has = (let P : Role → Type 0 = λ v. HasRefused (with_refusal e call) v in subst P (sym is) has) }

refused_create : (call : InFlight) (e : Errno) (kind : Kind) → IsPhased call → role_of call.request ≡ Creates kind → count_of call.locked ≡ 0 → IsPhased (with_refusal e call)
refused_create call e kind p role locks = refused_by call e (Creates kind) role p.looks locks

refused_destroy : (call : InFlight) (e : Errno) (asked : Ask) → IsPhased call → role_of call.request ≡ Destroys asked → count_of call.reserved ≡ 0 → look_count call ≡ 0 → IsPhased (with_refusal e call)
refused_destroy call e asked p role numbers looks = refused_by call e (Destroys asked) role p.looks (numbers, looks)

refused_act : (call : InFlight) (e : Errno) (act : request.Act) → IsPhased call → role_of call.request ≡ Acts act → count_of call.reserved ≡ 0 → count_of call.locked ≡ 0 → IsPhased (with_refusal e call)
refused_act call e act p role numbers locks = refused_by call e (Acts act) role p.looks (numbers, locks)

refused_stands : (call : InFlight) (w : Word) (e : Errno) → IsPhased call → call.refusal ≡ None → may_refuse w ≡ true → StandsAt (role_of call.request) (looks_in call) call.place w → IsPhased (with_refusal e call)
refused_stands call Reserve e p fine may s = refused_create call e s.kind p s.creates ((create_has call s.kind p fine s.creates).begun s.at).locks_are
refused_stands call Look e p fine may s =
    ⊎_elim
    (λ k. refused_create call e k.kind p k.creates ((create_has call k.kind p fine k.creates).looking k.from (omega (arith, k.to))).locks_are)
    (λ k. (let has = (act_has call k.act p fine k.acts).looking (omega (arith, k.to)) in refused_act call e k.act p k.acts has.numbers_are has.locks_are))
    s
refused_stands call Make e p fine may s = refused_create call e s.kind p s.creates ((create_has call s.kind p fine s.creates).looking (omega (arith, s.at)) (omega (arith, s.at))).locks_are
refused_stands call Commit e p fine may s = absurd cc
refused_stands call Act e p fine may s = let has = (act_has call s.act p fine s.acts).looking (omega (arith, s.at)) in refused_act call e s.act p s.acts has.numbers_are has.locks_are
refused_stands call Lock e p fine may s = let has = (destroy_has call s.asked p fine s.destroys).begun s.at in refused_destroy call e s.asked p s.destroys has.numbers_are has.looks_are
refused_stands call Check e p fine may s = let has = (destroy_has call s.asked p fine s.destroys).locked (omega (arith, s.at)) (omega (arith, s.at)) in refused_destroy call e s.asked p s.destroys has.numbers_are has.looks_are
refused_stands call Finish e p fine may s = absurd cc
refused_stands call Abort e p fine may s = absurd s
refused_stands call Free e p fine may s = absurd s
refused_stands call Exit e p fine may s = absurd s

-- Steps of the plan.

module _ (call : InFlight) (p : IsPhased call) where
  reserved_phased : (n : ℕ) → InPlan call Reserve → IsPhased (with_number (Some n) call)
  reserved_phased n plan =
      let s = stands_in_plan call Reserve plan in
      let next = next_place-in_plan call Reserve plan in
      let has = (create_has call s.kind p plan.fine s.creates).begun s.at in
      phased_create (with_number (Some n) call) s.kind p.looks plan.fine s.creates (record {
        begun = λ h. absurd (omega (arith, next, h));
        looking = λ h k. record { numbers_are = refl; looks_are = omega (arith, next, s.at, has.looks_are); locks_are = has.locks_are };
        made = λ h. absurd (omega (arith, next, h, s.at));
        ended = λ h. absurd (omega (arith, next, h, s.at));
        within = omega (arith, next, s.at);
      })

  looked_create : (o : ℕ) → InPlan call Look → IsCreateLook (role_of call.request) (looks_in call) call.place → IsPhased (with_look o call)
  looked_create o plan s =
      let next = next_place-in_plan call Look plan in
      let has = (create_has call s.kind p plan.fine s.creates).looking s.from (omega (arith, s.to)) in
      let more = length-ids_and_low call.looked o (omega (arith, has.looks_are, s.to, looks_few call.request)) in
      phased_create (with_look o call) s.kind (omega (arith, more, has.looks_are, s.from, s.to)) plan.fine s.creates (record {
        begun = λ h. absurd (omega (arith, next, h));
        looking = λ h k. record { numbers_are = has.numbers_are; looks_are = omega (arith, next, more, has.looks_are, s.from); locks_are = has.locks_are };
        made = λ h. absurd (omega (arith, next, h, s.to));
        ended = λ h. absurd (omega (arith, next, h, s.to));
        within = omega (arith, next, s.to);
      })

  looked_act : (o : ℕ) → InPlan call Look → IsActLook (role_of call.request) (looks_in call) call.place → IsPhased (with_look o call)
  looked_act o plan s =
      let next = next_place-in_plan call Look plan in
      let has = (act_has call s.act p plan.fine s.acts).looking (omega (arith, s.to)) in
      let more = length-ids_and_low call.looked o (omega (arith, has.looks_are, s.to, looks_few call.request)) in
      phased_act (with_look o call) s.act (omega (arith, more, has.looks_are, s.to)) plan.fine s.acts (record {
        looking = λ h. record { numbers_are = has.numbers_are; looks_are = omega (arith, next, more, has.looks_are); locks_are = has.locks_are };
        ended = λ h. absurd (omega (arith, next, h, s.to));
        within = omega (arith, next, s.to);
      })

  made_phased : (o : ℕ) (outcome : Answer) → InPlan call Make → IsPhased (with_made o outcome call)
  made_phased o outcome plan =
      let s = stands_in_plan call Make plan in
      let next = next_place-in_plan call Make plan in
      let has = (create_has call s.kind p plan.fine s.creates).looking (omega (arith, s.at)) (omega (arith, s.at)) in
      phased_create (with_made o outcome call) s.kind p.looks plan.fine s.creates (record {
        begun = λ h. absurd (omega (arith, next, h));
        looking = λ h k. absurd (omega (arith, next, k, s.at));
        made = λ h. record { numbers_are = refl; looks_are = omega (arith, has.looks_are, s.at); locks_are = refl };
        ended = λ h. absurd (omega (arith, next, h, s.at));
        within = omega (arith, next, s.at);
      })

  committed_phased : InPlan call Commit → IsPhased (without_lock call)
  committed_phased plan =
      let s = stands_in_plan call Commit plan in
      let next = next_place-in_plan call Commit plan in
      let has = (create_has call s.kind p plan.fine s.creates).made s.at in
      phased_create (without_lock call) s.kind p.looks plan.fine s.creates (record {
        begun = λ h. absurd (omega (arith, next, h));
        looking = λ h k. absurd (omega (arith, next, k, s.at));
        made = λ h. absurd (omega (arith, next, h, s.at));
        ended = λ h. (has.numbers_are, refl);
        within = omega (arith, next, s.at);
      })

  acted_phased : (outcome : Answer) → InPlan call Act → IsPhased (with_outcome outcome call)
  acted_phased outcome plan =
      let s = stands_in_plan call Act plan in
      let next = next_place-in_plan call Act plan in
      let has = (act_has call s.act p plan.fine s.acts).looking (omega (arith, s.at)) in
      phased_act (with_outcome outcome call) s.act p.looks plan.fine s.acts (record {
        looking = λ h. absurd (omega (arith, next, h, s.at));
        ended = λ h. (has.numbers_are, has.locks_are);
        within = omega (arith, next, s.at);
      })

  locked_phased : (o : ℕ) → InPlan call Lock → IsPhased (with_lock o call)
  locked_phased o plan =
      let s = stands_in_plan call Lock plan in
      let next = next_place-in_plan call Lock plan in
      let has = (destroy_has call s.asked p plan.fine s.destroys).begun s.at in
      phased_destroy (with_lock o call) s.asked p.looks plan.fine s.destroys (record {
        begun = λ h. absurd (omega (arith, next, h));
        locked = λ h k. record { numbers_are = has.numbers_are; looks_are = has.looks_are; locks_are = refl };
        ended = λ h. absurd (omega (arith, next, h, s.at));
        within = omega (arith, next, s.at);
      })

  checked_phased : InPlan call Check → IsPhased (moved_on call)
  checked_phased plan =
      let s = stands_in_plan call Check plan in
      let next = next_place-in_plan call Check plan in
      let has = (destroy_has call s.asked p plan.fine s.destroys).locked (omega (arith, s.at)) (omega (arith, s.at)) in
      phased_destroy (moved_on call) s.asked p.looks plan.fine s.destroys (record {
        begun = λ h. absurd (omega (arith, next, h));
        locked = λ h k. record { numbers_are = has.numbers_are; looks_are = has.looks_are; locks_are = has.locks_are };
        ended = λ h. absurd (omega (arith, next, h, s.at));
        within = omega (arith, next, s.at);
      })

  finished_phased : InPlan call Finish → IsPhased (without_lock call)
  finished_phased plan =
      let s = stands_in_plan call Finish plan in
      let next = next_place-in_plan call Finish plan in
      let has = (destroy_has call s.asked p plan.fine s.destroys).locked (omega (arith, s.at)) (omega (arith, s.at)) in
      phased_destroy (without_lock call) s.asked p.looks plan.fine s.destroys (record {
        begun = λ h. absurd (omega (arith, next, h));
        locked = λ h k. absurd (omega (arith, next, k, s.at));
        ended = λ h. record { numbers_are = has.numbers_are; looks_are = has.looks_are; locks_are = refl };
        within = omega (arith, next, s.at);
      })

-- The end.

length-looks : (n : ℕ) (ys : List Word) → length (replicate n Look ++ ys) ≡ n + length ys
length-looks zero ys = omega arith
length-looks (suc n) ys = omega (arith, length-looks n ys)

behind_all : (xs : List Word) (p : ℕ) → slice_get xs p ≡ None → length xs ≤ p
behind_all [] p e = omega arith
behind_all (x ∷ xs) zero e = absurd (none-some x (sym e))
behind_all (x ∷ xs) (suc p) e = omega (arith, behind_all xs p e)

plan_length : (role : Role) (n : ℕ) → ℕ
plan_length (Creates kind) n = n + 3
plan_length (Destroys asked) n = 3
plan_length (Acts act) n = n + 1

length-plan : (role : Role) (n : ℕ) → plan_length role n ≤ length (plan_of role n)
unfolding plan_length
length-plan (Creates kind) n = omega (arith, length-looks n (Make ∷ Commit ∷ []))
length-plan (Destroys asked) n = omega arith
length-plan (Acts act) n = omega (arith, length-looks n (Act ∷ []))

-- what a call keeps that goes on closing: less of what it looks at, and no more numbers
pub record ClosesOn (call call' : InFlight) : Type 0 where
  pub request : call'.request ≡ call.request
  pub refusal : call'.refusal ≡ call.refusal
  pub place : call'.place ≡ call.place
  pub locked : call'.locked ≡ call.locked
  pub numbers : count_of call'.reserved ≤ count_of call.reserved
  pub looks : look_count call' ≤ look_count call

module _ (call call' : InFlight) (on : ClosesOn call call') where
  same_locks : (n : ℕ) → count_of call.locked ≡ n → count_of call'.locked ≡ n
  same_locks n e = ap count_of on.locked ∙ e

  closed_plan : (role : Role) (n : ℕ) → plan_length role n ≤ call.place → HasInPlan call role n → HasInPlan call' role n
  unfolding plan_length
  closed_plan (Creates kind) n far has =
      let end : call.place ≡ n + 3 = omega (arith, has.within) in
      record {
        begun = λ h. absurd (omega (arith, h, on.place, end));
        looking = λ h k. absurd (omega (arith, k, on.place, end));
        made = λ h. absurd (omega (arith, h, on.place, end));
        ended = λ h. (let old = has.ended end in (omega (arith, on.numbers, old.0), same_locks 0 old.1));
        within = omega (arith, on.place, end);
      }
  closed_plan (Destroys asked) n far has =
      let end : call.place ≡ 3 = omega (arith, has.within) in
      record {
        begun = λ h. absurd (omega (arith, h, on.place, end));
        locked = λ h k. absurd (omega (arith, k, on.place, end));
        ended = λ h. (let old = has.ended end in record { numbers_are = omega (arith, on.numbers, old.numbers_are); looks_are = omega (arith, on.looks, old.looks_are); locks_are = same_locks 0 old.locks_are });
        within = omega (arith, on.place, end);
      }
  closed_plan (Acts act) n far has =
      let end : call.place ≡ n + 1 = omega (arith, has.within) in
      record {
        looking = λ h. absurd (omega (arith, h, on.place, end));
        ended = λ h. (let old = has.ended end in (omega (arith, on.numbers, old.0), same_locks 0 old.1));
        within = omega (arith, on.place, end);
      }

  closed_refused : (role : Role) → HasRefused call role → HasRefused call' role
  closed_refused (Creates kind) has = same_locks 0 has
  closed_refused (Destroys asked) has = (omega (arith, on.numbers, has.0), omega (arith, on.looks, has.1))
  closed_refused (Acts act) has = (omega (arith, on.numbers, has.0), same_locks 0 has.1)

  closed_by : (r : Option Errno) → call.refusal ≡ r → IsClosing call → HasBehind call r → HasBehind call' r
  closed_by None fine ends has =
      let far = behind_all (plan_for call.request) call.place (ends fine) in
      let kept = closed_plan (role_of call.request) (looks_in call) (omega (arith, far, length-plan (role_of call.request) (looks_in call))) has in
      let P : Request → Type 0 = λ v. HasInPlan call' (role_of v) (length (looks_of v)) in
      subst P (sym on.request) kept
  closed_by (Some e) fine ends has =
      let P : Request → Type 0 = λ v. HasRefused call' (role_of v) in
      subst P (sym on.request) (closed_refused (role_of call.request) has)

  pub closed_phased : IsClosing call → IsPhased call → IsPhased call'
  closed_phased ends p = record {
    looks = (let P : Request → Type 0 = λ v. look_count call' ≤ length (looks_of v) in subst P (sym on.request) (omega (arith, on.looks, p.looks)));
    has = has_by call' call.refusal call'.refusal (sym on.refusal) (closed_by call.refusal refl ends p.has);
  }

-- Turns.

abbrev pub IsPhasedSlot : Option InFlight → Type 0
IsPhasedSlot None = Unit {0}
IsPhasedSlot (Some call) = IsPhased call

phased_as : (slot slot' : Option InFlight) → slot ≡ slot' → IsPhasedSlot slot' → IsPhasedSlot slot
phased_as slot slot' e h = let P : Option InFlight → Type 0 = λ s. IsPhasedSlot s in subst P (sym e) h

pub IsPhased-turn : (call : InFlight) (slot : Option InFlight) → IsPhased call → OwnTurn call slot → IsPhasedSlot slot
IsPhased-turn call slot p (OwnTurn.OwnRefuses w e plan may is) = phased_as slot _ is (refused_stands call w e p plan.fine may (stands_in_plan call w plan))
IsPhased-turn call slot p (OwnTurn.OwnReserves n plan is) = phased_as slot _ is (reserved_phased call p n plan)
IsPhased-turn call slot p (OwnTurn.OwnLooks o plan is) = phased_as slot _ is (⊎_elim (λ k. looked_create call p o plan k) (λ k. looked_act call p o plan k) (stands_in_plan call Look plan))
IsPhased-turn call slot p (OwnTurn.OwnMakes o outcome plan is) = phased_as slot _ is (made_phased call p o outcome plan)
IsPhased-turn call slot p (OwnTurn.OwnCommits plan is) = phased_as slot _ is (committed_phased call p plan)
IsPhased-turn call slot p (OwnTurn.OwnDoes outcome plan is) = phased_as slot _ is (acted_phased call p outcome plan)
IsPhased-turn call slot p (OwnTurn.OwnLocks o plan is) = phased_as slot _ is (locked_phased call p o plan)
IsPhased-turn call slot p (OwnTurn.OwnChecks plan is) = phased_as slot _ is (checked_phased call p plan)
IsPhased-turn call slot p (OwnTurn.OwnFinishes plan is) = phased_as slot _ is (finished_phased call p plan)
IsPhased-turn call slot p (OwnTurn.OwnAborts ends word is) =
    phased_as slot _ is (closed_phased call (without_number call) (record { request = refl; refusal = refl; place = refl; locked = refl; numbers = omega arith; looks = omega arith }) ends p)
IsPhased-turn call slot p (OwnTurn.OwnFrees ends word is) =
    phased_as slot _ is (closed_phased call (without_look call) (record { request = refl; refusal = refl; place = refl; locked = refl; numbers = omega arith; looks = omega (arith, length-ids_behind call.looked (closing_free call word).1) }) ends p)
IsPhased-turn call slot p (OwnTurn.OwnLeaves ends word is) = phased_as slot _ is tt
