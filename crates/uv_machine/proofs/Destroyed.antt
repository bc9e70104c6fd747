-- What a destroy's own steps say of how it ends.
use Rattle.uv_machine.specs.Accounts.{count_of}
use Rattle.std.proofs.Common.{◌≡◌, ◌<◌, ℕ, zero, suc, Bool, true, false, List, [], ◌∷◌, ◌++◌, Option, Some, None, length, refl, ap, sym, ◌∙◌, subst, arith, ⊎_elim, inl, inr}
use Rattle.std.specs.Prelude.{not, ◌==◌, slice_get, if◌then◌else◌}
use Rattle.std.proofs.lemmas.Option.{none-some, same_Some}
use Rattle.std.proofs.lemmas.Bool.Decides.{eqb_tells}
use Rattle.uv_num.specs.declared.errno.Errno.{Errno}
use Rattle.uv_num.specs.declared.errno.Errno.TheVariants.{NoEnt, Busy, Inval}
use Rattle.uv_num.specs.declared.qp.QpState.{QpState}
use Rattle.uv_num.specs.declared.ids.Ids.{Ids}
use Rattle.uv_num.specs.declared.ids.Ids.TheVariants.{Empty, One, Two, Three, Four}
use Rattle.uv_num.specs.declared.kind.Kind.{Kind}
use Rattle.uv_num.specs.declared.request.Act as request
use Rattle.uv_num.specs.declared.request.Ask.{Ask}
use Rattle.uv_num.specs.declared.request.Request.{Request}
use Rattle.uv_num.specs.declared.request.Role.{Role}
use Rattle.uv_num.specs.declared.request.Role.TheVariants.{Creates, Destroys, Acts}
use Rattle.uv_num.specs.Ids.{ids_of}
use Rattle.uv_num.specs.Looks.{looks_of}
use Rattle.uv_num.specs.Place.{at_place}
use Rattle.uv_num.specs.Request.{role_of}
use Rattle.uv_machine.specs.declared.entry.Word.{Word}
use Rattle.uv_machine.specs.declared.entry.Word.TheVariants.{Reserve, Look, Make, Commit, Act, Lock, Check, Finish, Abort, Free, Exit}
use Rattle.uv_machine.specs.declared.entry.Answer.{Answer}
use Rattle.uv_machine.specs.declared.entry.Answer.TheVariants as answer
use Rattle.uv_machine.specs.declared.entry.CallStep.{CallStep}
use Rattle.uv_machine.specs.declared.entry.Entry.{Entry}
use Rattle.uv_machine.specs.declared.entry.Entry.TheVariants.{Open, Enter, Step, Unplug, Tear, Kill, Gone, Dissociated, Closed}
use Rattle.uv_num.specs.declared.limits.TheConstants.{ACTOR_PLACES}
use Rattle.uv_machine.specs.declared.object.Object.{Object}
use Rattle.uv_machine.specs.declared.call.InFlight.{InFlight}
use Rattle.uv_machine.specs.declared.state.State.{State}
use Rattle.uv_machine.specs.Objects.{is_kind}
use Rattle.uv_machine.specs.Plans.{plan_of, next_word, own_object, entered, freeing, call_answer, answer_behind, moved_on, with_refusal, with_lock, without_lock}
use Rattle.uv_machine.specs.States.{call_of, phase_of, is_callable, published, has_users, has_others, start}
use Rattle.uv_machine.specs.Steps.{told, lock_found, lock_told, step_answer, step_of, found_at, next_from}
use Rattle.uv_machine.specs.Effects.{refusal_in, unless_answered, put_call}
use Rattle.uv_machine.specs.Histories.{Allowed, after, kept_in, IsLegalFrom, state_from, state_of}
use Rattle.uv_machine.specs.Reached.{look_count, Reached, HasInDestroy, HasRefused, HasBehind, IsPhased}
use Rattle.uv_machine.specs.Words.{steps_with, steps_from, steps_of_call, step_done, is_lock_errno, DestroyEnd, DestroyEnds}
use Rattle.uv_machine.proofs.Planned.{InPlan, IsClosing, stands_in_plan, next_word-planned, is_closing, next_place-in_plan, closing_abort, closing_free}
use Rattle.uv_machine.proofs.Phased.{destroy_has}
use Rattle.uv_machine.proofs.Turns as turns
use Rattle.uv_machine.proofs.Turns.{Turn, IsTurn-allowed, may_refuse}
use Rattle.uv_machine.proofs.Turns.Turn.{Refuses, Reserves, Looks, Makes, Commits, Does, Locks, Checks, Finishes, Aborts, Frees, Leaves}
use Rattle.uv_machine.proofs.OwnCall.{calls_turn, call_of-changed}
use Rattle.uv_machine.proofs.Apart.{call_of-after}
use Rattle.uv_machine.proofs.Keeping.{owns_at_check, owns_at_finish}
use Rattle.uv_machine.proofs.Silence.{step_keeps_request}
use Rattle.uv_machine.proofs.Reaching.{start_calls, new_or_old, was_callable, Reached-start, Reached-after}

-- How far a destroy is, and the steps that it has made.

pub data DestroySo (call : InFlight) (steps : List CallStep) : Type 0 where
  Begun : call.place ≡ 0 → call.refusal ≡ None → steps ≡ [] → DestroySo call steps
  Unlocked : (o : ℕ) (e : Errno) → call.refusal ≡ Some e → is_lock_errno e → steps ≡ step_done Lock o (answer.Refused e) ∷ [] → DestroySo call steps
  Locked : (o : ℕ) → call.place ≡ 1 → call.refusal ≡ None → call.locked ≡ Some o → steps ≡ step_done Lock o answer.Ok ∷ [] → DestroySo call steps
  Unchecked : (o : ℕ) → call.refusal ≡ Some Busy → steps ≡ step_done Lock o answer.Ok ∷ step_done Check o (answer.Refused Busy) ∷ [] → DestroySo call steps
  Checked : (o : ℕ) → call.place ≡ 2 → call.refusal ≡ None → call.locked ≡ Some o → steps ≡ step_done Lock o answer.Ok ∷ step_done Check o answer.Ok ∷ [] → DestroySo call steps
  Finished : (o kept : ℕ) → call.place ≡ 3 → call.refusal ≡ None → steps ≡ step_done Lock o answer.Ok ∷ step_done Check o answer.Ok ∷ step_done Finish o (answer.Kept kept) ∷ [] → DestroySo call steps

pub record DestroyTold (call : InFlight) (steps : List CallStep) : Type 0 where
  pub outcome : call.outcome ≡ answer.Ok
  pub so : DestroySo call steps

told_as : (call call' : InFlight) (steps : List CallStep) → call ≡ call' → DestroyTold call' steps → DestroyTold call steps
told_as call call' steps e t = let P : InFlight → Type 0 = λ v. DestroyTold v steps in subst P (sym e) t

-- The steps of a destroy stand at one place each.

module _ (call : InFlight) (asked : Ask) (role : role_of call.request ≡ Destroys asked) where
  no_create : (kind : Kind) → role_of call.request ≡ Creates kind → ⊥
  no_create kind creates = let same : Creates kind ≡ Destroys asked = sym creates ∙ role in cc

  no_act : (what : request.Act) → role_of call.request ≡ Acts what → ⊥
  no_act what acts = let same : Acts what ≡ Destroys asked = sym acts ∙ role in cc

-- an answer that has a refusal is that
refused_is : (a : Answer) (e : Errno) → refusal_in a ≡ Some e → a ≡ answer.Refused e
refused_is answer.Ok e h = absurd (none-some e h)
refused_is (answer.Made handle index generation) e h = absurd (none-some e h)
refused_is (answer.State state index) e h = absurd (none-some e h)
refused_is answer.Event e h = absurd (none-some e h)
refused_is (answer.Kept kept) e h = absurd (none-some e h)
refused_is (answer.Refused x) e h = ap (λ (v : Errno). answer.Refused v) (same_Some x e h)

busy_by : (b : Bool) (e : Errno) → (if b then Some Busy else None) ≡ Some e → e ≡ Busy
busy_by true e h = sym (same_Some Busy e h)
busy_by false e h = absurd (none-some e h)

kind_by : (b : Bool) (rest : Option Errno) (e : Errno) → (if not b then Some Inval else rest) ≡ Some e → (rest ≡ Some e → e ≡ Busy) → is_lock_errno e
kind_by true rest e h busy = inr (inr (busy h))
kind_by false rest e h busy = inr (inl (sym (same_Some Inval e h)))

lock_errno : (m : State) (c : ℕ) (asked : Ask) (slot : Option Object) (e : Errno) → (lock_found m c asked slot).refusal ≡ Some e → is_lock_errno e
lock_errno m c asked None e h = inl (sym (same_Some NoEnt e h))
lock_errno m c asked (Some x) e h = kind_by (is_kind x.kind asked.kind) (if has_others m c x.id then Some Busy else None) e h (busy_by (has_others m c x.id) e)

lock_errno_by : (m : State) (c f : ℕ) (role : Role) (asked : Ask) (e : Errno) → role ≡ Destroys asked → (lock_told m c f role).refusal ≡ Some e → is_lock_errno e
lock_errno_by m c f (Creates kind) asked e same h = absurd cc
lock_errno_by m c f (Destroys ask) asked e same h = lock_errno m c ask (published m f ask.handle) e h
lock_errno_by m c f (Acts what) asked e same h = absurd cc

-- the state that a step carries
found_is : (m : State) (c : ℕ) (w : Word) (o : ℕ) (found : Option QpState) (a : Answer) (call : InFlight) → Allowed m (Step c w o found a) → call_of m c ≡ Some call → next_word call ≡ w → found_at call w found ≡ found
found_is m c w o found a call allowed is word =
    let d : CallStep = record { word = w; object = o; found = found; answer = a } in
    let same : step_of m c found (kept_in a) call ≡ d = same_Some (step_of m c found (kept_in a) call) d (ap (next_from m c found (kept_in a)) (sym is) ∙ allowed.1) in
    ap (λ v. found_at call v found) (sym word) ∙ ap (λ (v : CallStep). v.found) same

done_is : (w v : Word) (o i : ℕ) (found : Option QpState) (a b : Answer) → w ≡ v → o ≡ i → None ≡ found → a ≡ b → record { word = w; object = o; found = found; answer = a } ≡ step_done v i b
done_is w v o i found a b word object none same =
    ap (λ (x : Word). record { word = x; object = o; found = found; answer = a }) word
    ∙ (ap (λ (x : ℕ). record { word = v; object = x; found = found; answer = a }) object
    ∙ (ap (λ (x : Option QpState). record { word = v; object = i; found = x; answer = a }) (sym none)
    ∙ ap (λ (x : Answer). step_done v i x) same))

more_steps : (steps before : List CallStep) (d e : CallStep) → steps ≡ before → d ≡ e → steps ++ d ∷ [] ≡ before ++ e ∷ []
more_steps steps before d e one two = ap (λ v. v ++ d ∷ []) one ∙ ap (λ v. before ++ v ∷ []) two

-- what is told of a destroy by its place

steps_at_lock : (call : InFlight) (steps : List CallStep) → DestroySo call steps → call.place ≡ 0 → call.refusal ≡ None → steps ≡ []
steps_at_lock call steps (DestroySo.Begun at fine is) here none = is
steps_at_lock call steps (DestroySo.Unlocked o e fine lock is) here none = absurd (none-some e (sym none ∙ fine))
steps_at_lock call steps (DestroySo.Locked o at fine own is) here none = absurd (omega (arith, at, here))
steps_at_lock call steps (DestroySo.Unchecked o fine is) here none = absurd (none-some Busy (sym none ∙ fine))
steps_at_lock call steps (DestroySo.Checked o at fine own is) here none = absurd (omega (arith, at, here))
steps_at_lock call steps (DestroySo.Finished o kept at fine is) here none = absurd (omega (arith, at, here))

pub record HasLocked (call : InFlight) (steps : List CallStep) : Type 0 where
  pub object : ℕ
  pub own : call.locked ≡ Some object
  pub is : steps ≡ step_done Lock object answer.Ok ∷ []

steps_at_check : (call : InFlight) (steps : List CallStep) → DestroySo call steps → call.place ≡ 1 → call.refusal ≡ None → HasLocked call steps
steps_at_check call steps (DestroySo.Begun at fine is) here none = absurd (omega (arith, at, here))
steps_at_check call steps (DestroySo.Unlocked o e fine lock is) here none = absurd (none-some e (sym none ∙ fine))
steps_at_check call steps (DestroySo.Locked o at fine own is) here none = record { object = o; own = own; is = is }
steps_at_check call steps (DestroySo.Unchecked o fine is) here none = absurd (none-some Busy (sym none ∙ fine))
steps_at_check call steps (DestroySo.Checked o at fine own is) here none = absurd (omega (arith, at, here))
steps_at_check call steps (DestroySo.Finished o kept at fine is) here none = absurd (omega (arith, at, here))

pub record HasChecked (call : InFlight) (steps : List CallStep) : Type 0 where
  pub object : ℕ
  pub own : call.locked ≡ Some object
  pub is : steps ≡ step_done Lock object answer.Ok ∷ step_done Check object answer.Ok ∷ []

steps_at_finish : (call : InFlight) (steps : List CallStep) → DestroySo call steps → call.place ≡ 2 → call.refusal ≡ None → HasChecked call steps
steps_at_finish call steps (DestroySo.Begun at fine is) here none = absurd (omega (arith, at, here))
steps_at_finish call steps (DestroySo.Unlocked o e fine lock is) here none = absurd (none-some e (sym none ∙ fine))
steps_at_finish call steps (DestroySo.Locked o at fine own is) here none = absurd (omega (arith, at, here))
steps_at_finish call steps (DestroySo.Unchecked o fine is) here none = absurd (none-some Busy (sym none ∙ fine))
steps_at_finish call steps (DestroySo.Checked o at fine own is) here none = record { object = o; own = own; is = is }
steps_at_finish call steps (DestroySo.Finished o kept at fine is) here none = absurd (omega (arith, at, here))

-- a destroy sets no number aside and looks at nothing

has_none : (call : InFlight) (p : ℕ) → HasInDestroy call p → (count_of call.reserved ≡ 0) × (look_count call ≡ 0)
has_none call zero h = let k = h.begun refl in (k.numbers_are, k.looks_are)
has_none call (suc zero) h = let k = h.locked (omega arith) (omega arith) in (k.numbers_are, k.looks_are)
has_none call (suc (suc zero)) h = let k = h.locked (omega arith) (omega arith) in (k.numbers_are, k.looks_are)
has_none call (suc (suc (suc zero))) h = let k = h.ended refl in (k.numbers_are, k.looks_are)
has_none call (suc (suc (suc (suc p)))) h = absurd (omega (arith, h.within))

refused_none : (call : InFlight) (role : Role) (asked : Ask) → role ≡ Destroys asked → HasRefused call role → (count_of call.reserved ≡ 0) × (look_count call ≡ 0)
refused_none call (Creates kind) asked same h = absurd cc
refused_none call (Destroys ask) asked same h = h
refused_none call (Acts what) asked same h = absurd cc

none_by : (call : InFlight) (asked : Ask) (r : Option Errno) → call.refusal ≡ r → IsPhased call → role_of call.request ≡ Destroys asked → (count_of call.reserved ≡ 0) × (look_count call ≡ 0)
none_by call asked None fine p role = has_none call call.place (destroy_has call asked p fine role)
none_by call asked (Some e) fine p role =
    let P : Option Errno → Type 0 = λ v. HasBehind call v in refused_none call (role_of call.request) asked role (subst P fine p.has)

counted_some : (n : ℕ) (number : Option ℕ) → number ≡ Some n → count_of number ≡ 0 → ⊥
counted_some n number is none = let one : count_of number ≡ 1 = ap count_of is in omega arith

frees_none : (looked : Ids) → length (ids_of looked) ≡ 0 → freeing looked ≡ Free → ⊥
frees_none Empty none free = cc
frees_none (One a) none free = omega (arith, none)
frees_none (Two a b) none free = omega (arith, none)
frees_none (Three a b c) none free = omega (arith, none)
frees_none (Four a b c d) none free = omega (arith, none)

module _ (m : State) (r : Reached m) (c : ℕ) (call : InFlight) (is : call_of m c ≡ Some call) (asked : Ask) (role : role_of call.request ≡ Destroys asked) (steps : List CallStep) (t : DestroyTold call steps) (w : Word) (o : ℕ) (found : Option QpState) (a : Answer) (word : next_word call ≡ w) (object : (told m c call found w).object ≡ o) (answers : step_answer m call found (kept_in a) w (told m c call found w).refusal ≡ a) (carries : found_at call w found ≡ found) where
  abbrev GoesOn : InFlight → Type 0
  GoesOn left = DestroyTold left (steps ++ record { word = w; object = o; found = found; answer = a } ∷ [])

  word_is : (v : Word) → InPlan call v → w ≡ v
  word_is v plan = sym word ∙ next_word-planned call v plan.fine plan.planned

  object_is : (v : Word) → w ≡ v → (told m c call found v).object ≡ o
  object_is v e = ap (λ x. (told m c call found x).object) (sym e) ∙ object

  answer_is : (v : Word) → w ≡ v → (told m c call found v).refusal ≡ None → a ≡ step_answer m call found (kept_in a) v None
  answer_is v e fine =
      sym answers
      ∙ (ap (λ x. step_answer m call found (kept_in a) x (told m c call found x).refusal) e
      ∙ ap (step_answer m call found (kept_in a) v) fine)

  carries_is : (v : Word) → w ≡ v → found_at call v found ≡ found
  carries_is v e = ap (λ x. found_at call x found) (sym e) ∙ carries

  -- refused
  refused_so : (v : Word) (e : Errno) (other : Option QpState) → InPlan call v → may_refuse v ≡ true → (told m c call other v).refusal ≡ Some e → refusal_in a ≡ Some e → w ≡ v → DestroySo (with_refusal e call) (steps ++ record { word = w; object = o; found = found; answer = a } ∷ [])
  refused_so Reserve e other plan may meets tells same = let s = stands_in_plan call Reserve plan in absurd (no_create call asked role s.kind s.creates)
  refused_so Look e other plan may meets tells same =
      absurd (⊎_elim (λ s. no_create call asked role s.kind s.creates) (λ s. no_act call asked role s.act s.acts) (stands_in_plan call Look plan))
  refused_so Make e other plan may meets tells same = let s = stands_in_plan call Make plan in absurd (no_create call asked role s.kind s.creates)
  refused_so Commit e other plan may meets tells same = absurd cc
  refused_so Act e other plan may meets tells same = let s = stands_in_plan call Act plan in absurd (no_act call asked role s.act s.acts)
  refused_so Lock e other plan may meets tells same =
      let s = stands_in_plan call Lock plan in
      DestroySo.Unlocked o e refl (lock_errno_by m c call.file (role_of call.request) asked e role meets)
      (more_steps steps [] _ _ (steps_at_lock call steps t.so s.at plan.fine) (done_is w Lock o o found a (answer.Refused e) same refl (carries_is Lock same) (refused_is a e tells)))
  refused_so Check e other plan may meets tells same =
      let s = stands_in_plan call Check plan in
      let k = steps_at_check call steps t.so s.at plan.fine in
      let own : k.object ≡ own_object call = same_Some k.object (own_object call) (sym k.own ∙ owns_at_check m r c call is plan) in
      let busy : e ≡ Busy = busy_by (has_users m (own_object call)) e meets in
      DestroySo.Unchecked k.object (ap (λ (v : Errno). Some v) busy)
      (more_steps steps (step_done Lock k.object answer.Ok ∷ []) _ _ k.is
      (done_is w Check o k.object found a (answer.Refused Busy) same (sym (object_is Check same) ∙ sym own) (carries_is Check same) (refused_is a e tells ∙ ap (λ (v : Errno). answer.Refused v) busy)))
  refused_so Finish e other plan may meets tells same = absurd cc
  refused_so Abort e other plan may meets tells same = absurd cc
  refused_so Free e other plan may meets tells same = absurd cc
  refused_so Exit e other plan may meets tells same = absurd cc

  locked_so : (m' : State) → (k : turns.Locked m c call m') → GoesOn (with_lock k.item.id call)
  locked_so m' k =
      let s = stands_in_plan call Lock k.plan in
      let same = word_is Lock k.plan in
      let fine : (told m c call found Lock).refusal ≡ None = rw (k.destroys, k.published) k.fine in
      let id : (told m c call found Lock).object ≡ k.item.id = rw (k.destroys, k.published) refl in
      let next = next_place-in_plan call Lock k.plan in
      record {
        outcome = t.outcome;
        so =
            DestroySo.Locked k.item.id (let at = s.at in omega (arith, next, at)) k.plan.fine refl
            (more_steps steps [] _ _ (steps_at_lock call steps t.so s.at k.plan.fine) (done_is w Lock o k.item.id found a answer.Ok same (sym (object_is Lock same) ∙ id) (carries_is Lock same) (answer_is Lock same fine)));
      }

  checked_so : (m' : State) → turns.Checked m c call m' → GoesOn (moved_on call)
  checked_so m' k =
      let s = stands_in_plan call Check k.plan in
      let same = word_is Check k.plan in
      let before = steps_at_check call steps t.so s.at k.plan.fine in
      let own : before.object ≡ own_object call = same_Some before.object (own_object call) (sym before.own ∙ owns_at_check m r c call is k.plan) in
      let fine : (told m c call found Check).refusal ≡ None = ap (λ b. if b then Some Busy else None) k.unused in
      let next = next_place-in_plan call Check k.plan in
      record {
        outcome = t.outcome;
        so =
            DestroySo.Checked before.object (let at = s.at in omega (arith, next, at)) k.plan.fine before.own
            (more_steps steps (step_done Lock before.object answer.Ok ∷ []) _ _ before.is
            (done_is w Check o before.object found a answer.Ok same (sym (object_is Check same) ∙ sym own) (carries_is Check same) (answer_is Check same fine)));
      }

  finished_so : (m' : State) → turns.Finished m c call m' → GoesOn (without_lock call)
  finished_so m' k =
      let s = stands_in_plan call Finish k.plan in
      let same = word_is Finish k.plan in
      let before = steps_at_finish call steps t.so s.at k.plan.fine in
      let own : before.object ≡ own_object call = same_Some before.object (own_object call) (sym before.own ∙ owns_at_finish m r c call is k.plan) in
      let next = next_place-in_plan call Finish k.plan in
      record {
        outcome = t.outcome;
        so =
            DestroySo.Finished before.object _ (let at = s.at in omega (arith, next, at)) k.plan.fine
            (more_steps steps (step_done Lock before.object answer.Ok ∷ step_done Check before.object answer.Ok ∷ []) _ _ before.is
            (done_is w Finish o before.object found a _ same (sym (object_is Finish same) ∙ sym own) (carries_is Finish same) (answer_is Finish same refl)));
      }

  told_turn : (m' : State) (turn : Turn m c call a m') (left : InFlight) → (calls_turn m c call a m' turn).change (Some call) ≡ Some left → GoesOn left
  told_turn m' (Refuses k) left e =
      told_as left (with_refusal k.errno call) _ (sym (same_Some (with_refusal k.errno call) left e))
      (record { outcome = t.outcome; so = refused_so k.word k.errno k.found k.plan k.may k.meets k.tells (word_is k.word k.plan) })
  told_turn m' (Reserves k) left e = let s = stands_in_plan call Reserve k.plan in absurd (no_create call asked role s.kind s.creates)
  told_turn m' (Looks k) left e =
      absurd (⊎_elim (λ s. no_create call asked role s.kind s.creates) (λ s. no_act call asked role s.act s.acts) (stands_in_plan call Look k.plan))
  told_turn m' (Makes k) left e = absurd (no_create call asked role k.kind k.creates)
  told_turn m' (Commits k) left e = let s = stands_in_plan call Commit k.plan in absurd (no_create call asked role s.kind s.creates)
  told_turn m' (Does k) left e = absurd (no_act call asked role k.what k.acts)
  told_turn m' (Locks k) left e = told_as left (with_lock k.item.id call) _ (sym (same_Some (with_lock k.item.id call) left e)) (locked_so m' k)
  told_turn m' (Checks k) left e = told_as left (moved_on call) _ (sym (same_Some (moved_on call) left e)) (checked_so m' k)
  told_turn m' (Finishes k) left e = told_as left (without_lock call) _ (sym (same_Some (without_lock call) left e)) (finished_so m' k)
  told_turn m' (Aborts k) left e =
      let number = closing_abort call k.word in
      absurd (counted_some number.0 call.reserved number.1 (none_by call asked call.refusal refl (r.phased c call is) role).0)
  told_turn m' (Frees k) left e = absurd (frees_none call.looked (none_by call asked call.refusal refl (r.phased c call is) role).1 (closing_free call k.word).1)
  told_turn m' (Leaves k) left e = absurd (none-some left e)

-- Through a history.

abbrev pub TellsDestroy : State → ℕ → List CallStep → Type 0
TellsDestroy m c steps = (call : InFlight) (asked : Ask) → call_of m c ≡ Some call → role_of call.request ≡ Destroys asked → DestroyTold call steps

tells_still : (m m' : State) (c : ℕ) (steps : List CallStep) → call_of m' c ≡ call_of m c → TellsDestroy m c steps → TellsDestroy m' c steps
tells_still m m' c steps same tells call asked is role = tells call asked (sym same ∙ is) role

if_so : {X : Type 0} (b : Bool) (x y : X) → b ≡ true → (if b then x else y) ≡ x
if_so true x y h = refl
if_so false x y h = absurd cc

if_not : {X : Type 0} (b : Bool) (x y : X) → b ≡ false → (if b then x else y) ≡ y
if_not true x y h = absurd cc
if_not false x y h = refl

tells_as : (m : State) (c : ℕ) (steps steps' : List CallStep) → steps ≡ steps' → TellsDestroy m c steps' → TellsDestroy m c steps
tells_as m c steps steps' e tells = let P : List CallStep → Type 0 = λ v. TellsDestroy m c v in subst P (sym e) tells

tells_entered : (m : State) (b c f : ℕ) (request : Request) (e : Option Errno) → Reached m → b ≡ c → call_of m b ≡ None → (e ≡ None → is_callable (phase_of m f) ≡ true) → TellsDestroy (unless_answered m e (record m { calls = at_place m.calls b (put_call (entered f request)) })) c []
tells_entered m b c f request (Some e) r same idle callable call asked is role = absurd (none-some call (sym idle ∙ (ap (call_of m) same ∙ is)))
tells_entered m b c f request None r same idle callable call asked is role =
    ⊎_elim
    (λ new. told_as call (entered f request) [] (sym new.1) (record { outcome = refl; so = DestroySo.Begun refl refl refl }))
    (λ old. absurd (old.0 same))
    (new_or_old m b f request r idle (callable refl) c call is)

tells_stepped : (m : State) (c : ℕ) (w : Word) (o : ℕ) (found : Option QpState) (a : Answer) (steps : List CallStep) → Reached m → Allowed m (Step c w o found a) → TellsDestroy m c steps → TellsDestroy (after m (Step c w o found a)) c (steps ++ record { word = w; object = o; found = found; answer = a } ∷ [])
tells_stepped m c w o found a steps r allowed tells left asked is role =
    let m' = after m (Step c w o found a) in
    let t = IsTurn-allowed m c w o found a allowed in
    let k = calls_turn m c t.call a m' t.turn in
    let now : k.change (Some t.call) ≡ Some left = sym (call_of-changed m m' c k.change t.call k.calls t.is) ∙ is in
    let kept = step_keeps_request m c w o found a t.call left allowed t.is is in
    let role' : role_of t.call.request ≡ Destroys asked = ap role_of (sym kept.1) ∙ role in
    told_turn m r c t.call t.is asked role' steps (tells t.call asked t.is role') w o found a t.word t.object t.answer (found_is m c w o found a t.call allowed t.is t.word) m' t.turn left now

tells_after : (m : State) (e : Entry) (c : ℕ) (steps : List CallStep) → Reached m → Allowed m e → TellsDestroy m c steps → TellsDestroy (after m e) c (steps_with c steps e)
tells_after m (Open b f d a) c steps r allowed tells = tells_still m (after m (Open b f d a)) c steps (call_of-after m (Open b f d a) c refl) tells
tells_after m (Enter b f request a) c steps r allowed tells =
    ⊎_elim
    (λ same.
    tells_as (after m (Enter b f request a)) c _ [] (if_so (b == c) [] steps same.0)
    (tells_entered m b c f request (refusal_in a) r same.1 allowed.2 (λ fine. was_callable (is_callable (phase_of m f)) _ a allowed.3 fine)))
    (λ other. tells_as (after m (Enter b f request a)) c _ steps (if_not (b == c) [] steps other.0) (tells_still m (after m (Enter b f request a)) c steps (call_of-after m (Enter b f request a) c other.0) tells))
    (eqb_tells b c)
tells_after m (Step b w o found a) c steps r allowed tells =
    ⊎_elim
    (λ same. (
    let P : ℕ → Type 0 = λ i. TellsDestroy m i steps in
    let Q : ℕ → Type 0 = λ i. TellsDestroy (after m (Step b w o found a)) i (steps ++ record { word = w; object = o; found = found; answer = a } ∷ []) in
    tells_as (after m (Step b w o found a)) c _ _ (if_so (b == c) _ steps same.0) (subst Q same.1 (tells_stepped m b w o found a steps r allowed (subst P (sym same.1) tells)))))
    (λ other. tells_as (after m (Step b w o found a)) c _ steps (if_not (b == c) _ steps other.0) (tells_still m (after m (Step b w o found a)) c steps (call_of-after m (Step b w o found a) c other.0) tells))
    (eqb_tells b c)
tells_after m (Unplug d) c steps r allowed tells = tells_still m (after m (Unplug d)) c steps (call_of-after m (Unplug d) c refl) tells
tells_after m (Tear f by) c steps r allowed tells = tells_still m (after m (Tear f by)) c steps (call_of-after m (Tear f by) c refl) tells
tells_after m (Kill o) c steps r allowed tells = tells_still m (after m (Kill o)) c steps (call_of-after m (Kill o) c refl) tells
tells_after m (Gone o kept) c steps r allowed tells = tells_still m (after m (Gone o kept)) c steps (call_of-after m (Gone o kept) c refl) tells
tells_after m (Dissociated f) c steps r allowed tells = tells_still m (after m (Dissociated f)) c steps (call_of-after m (Dissociated f) c refl) tells
tells_after m (Closed f) c steps r allowed tells = tells_still m (after m (Closed f)) c steps (call_of-after m (Closed f) c refl) tells

tells_from : (m : State) (h : List Entry) (c : ℕ) (steps : List CallStep) → Reached m → IsLegalFrom m h → TellsDestroy m c steps → TellsDestroy (state_from m h) c (steps_from c steps h)
tells_from m [] c steps r legal tells = tells
tells_from m (e ∷ h) c steps r legal tells =
    tells_from (after m e) h c (steps_with c steps e) (Reached-after m e legal.0 r) legal.1 (tells_after m e c steps r legal.0 tells)

tells_start : (c : ℕ) → TellsDestroy start c []
unfolding start
tells_start c call asked is role = absurd (start_calls c ACTOR_PLACES call is)

-- The end.

planned_not_exit : (role : Role) (n place : ℕ) (asked : Ask) → role ≡ Destroys asked → place < 3 → slice_get (plan_of role n) place ≡ None → ⊥
planned_not_exit (Creates kind) n place asked same low none = cc
planned_not_exit (Destroys ask) n zero asked same low none = none-some Lock (sym none)
planned_not_exit (Destroys ask) n (suc zero) asked same low none = none-some Check (sym none)
planned_not_exit (Destroys ask) n (suc (suc zero)) asked same low none = none-some Finish (sym none)
planned_not_exit (Destroys ask) n (suc (suc (suc place))) asked same low none = omega (arith, low)
planned_not_exit (Acts what) n place asked same low none = cc

end_by : (call : InFlight) (steps : List CallStep) (a : Answer) (asked : Ask) → role_of call.request ≡ Destroys asked → IsClosing call → call_answer call ≡ a → call.outcome ≡ answer.Ok → DestroySo call steps → DestroyEnd steps a
end_by call steps a asked role ends tells outcome (DestroySo.Begun at fine is) =
    absurd (planned_not_exit (role_of call.request) (length (looks_of call.request)) call.place asked role (omega (arith, at)) (ends fine))
end_by call steps a asked role ends tells outcome (DestroySo.Unlocked o e fine lock is) = DestroyEnd.AtLock o e lock is (sym tells ∙ ap (answer_behind call) fine)
end_by call steps a asked role ends tells outcome (DestroySo.Locked o at fine own is) =
    absurd (planned_not_exit (role_of call.request) (length (looks_of call.request)) call.place asked role (omega (arith, at)) (ends fine))
end_by call steps a asked role ends tells outcome (DestroySo.Unchecked o fine is) = DestroyEnd.AtCheck o is (sym tells ∙ ap (answer_behind call) fine)
end_by call steps a asked role ends tells outcome (DestroySo.Checked o at fine own is) =
    absurd (planned_not_exit (role_of call.request) (length (looks_of call.request)) call.place asked role (omega (arith, at)) (ends fine))
end_by call steps a asked role ends tells outcome (DestroySo.Finished o kept at fine is) = DestroyEnd.AtFinish o kept is (sym tells ∙ (ap (answer_behind call) fine ∙ outcome))

pub destroy_ends : DestroyEnds
destroy_ends h c o found a call asked legal is role allowed =
    let t = IsTurn-allowed (state_of h) c Exit o found a allowed in
    let mine : t.call ≡ call = same_Some t.call call (sym t.is ∙ is) in
    let told = tells_from start h c [] Reached-start legal (tells_start c) call asked is role in
    let ends = is_closing call Exit (ap next_word (sym mine) ∙ t.word) refl in
    end_by call (steps_of_call h c) a asked role ends.0 (ap call_answer (sym mine) ∙ t.answer) told.outcome told.so
