-- What a turn leaves in its own call, and that fewer steps are ahead after it.
use Rattle.std.proofs.Common.{◌≡◌, ℕ, ◌+◌, ◌<◌, ◌≤◌, true, false, Option, Some, None, length, drop, refl, ap, ◌∙◌, arith}
use Rattle.std.specs.Prelude.{◌||◌, slice_get, option_map, sum_by}
use Rattle.std.specs.List.{list_any}
use Rattle.uv_num.specs.declared.errno.Errno.{Errno}
use Rattle.uv_num.specs.declared.request.Act as request
use Rattle.uv_num.specs.declared.request.Act.TheVariants.{Modify, Query, Bind, Unbind, Async}
use Rattle.uv_num.specs.declared.qp.QpState.{QpState}
use Rattle.uv_num.specs.Looks.{looks_of}
use Rattle.uv_num.specs.Place.{at_place}
use Rattle.uv_machine.specs.declared.entry.Word.{Word}
use Rattle.uv_machine.specs.declared.entry.Word.TheVariants.{Reserve, Look, Make, Commit, Act, Lock, Check, Finish, Abort, Free, Exit}
use Rattle.uv_machine.specs.declared.entry.Answer.{Answer}
use Rattle.uv_machine.specs.declared.entry.Entry.TheVariants.{Step}
use Rattle.uv_machine.specs.declared.call.InFlight.{InFlight}
use Rattle.uv_machine.specs.declared.state.State.{State}
use Rattle.uv_machine.specs.Plans.{plan_for, closing, own_object, look_ask, moved_on, with_refusal, with_number, with_look, with_made, with_outcome, with_lock, without_lock, without_number, without_look}
use Rattle.uv_machine.specs.States.{the_call, call_of, object_with}
use Rattle.uv_machine.specs.Steps.{look_told}
use Rattle.uv_machine.specs.Effects.{no_call, made_outcome, act}
use Rattle.uv_machine.specs.Histories.{Allowed, after}
use Rattle.uv_machine.specs.Accounts.{word_steps, is_make, count_of, free_steps, steps_back, steps_behind, steps_ahead}
use Rattle.uv_num.proofs.PlaceLaws.{slice_get-at_place_same}
use Rattle.uv_machine.proofs.Planned.{InPlan, IsClosing, stands_in_plan, closing_abort, closing_free}
use Rattle.uv_machine.proofs.Turns.{Turn, object_made, may_refuse, IsTurn, IsTurn-allowed}
use Rattle.uv_machine.proofs.Turns.Turn.{Refuses, Reserves, Looks, Makes, Commits, Does, Locks, Checks, Finishes, Aborts, Frees, Leaves}
use Rattle.uv_machine.proofs.Ahead.{IsAhead-in_plan, IsNextOf, words_behind, makes_behind_looks, steps_by, steps_in_plan, steps_then, closing_steps, length-ids_and, length-ids_behind, fewer_by, fewer_before_make, fewer_made, fewer_refused}
use Rattle.uv_machine.proofs.Apart.{calls_buried}

-- What a turn leaves in the place of its call.
pub data OwnTurn (call : InFlight) (slot : Option InFlight) : Type 0 where
  OwnRefuses : (w : Word) (e : Errno) → InPlan call w → may_refuse w ≡ true → slot ≡ Some (with_refusal e call) → OwnTurn call slot
  OwnReserves : (n : ℕ) → InPlan call Reserve → slot ≡ Some (with_number (Some n) call) → OwnTurn call slot
  OwnLooks : (o : ℕ) → InPlan call Look → slot ≡ Some (with_look o call) → OwnTurn call slot
  OwnMakes : (o : ℕ) (outcome : Answer) → InPlan call Make → slot ≡ Some (with_made o outcome call) → OwnTurn call slot
  OwnCommits : InPlan call Commit → slot ≡ Some (without_lock call) → OwnTurn call slot
  OwnDoes : (outcome : Answer) → InPlan call Act → slot ≡ Some (with_outcome outcome call) → OwnTurn call slot
  OwnLocks : (o : ℕ) → InPlan call Lock → slot ≡ Some (with_lock o call) → OwnTurn call slot
  OwnChecks : InPlan call Check → slot ≡ Some (moved_on call) → OwnTurn call slot
  OwnFinishes : InPlan call Finish → slot ≡ Some (without_lock call) → OwnTurn call slot
  OwnAborts : IsClosing call → closing call ≡ Abort → slot ≡ Some (without_number call) → OwnTurn call slot
  OwnFrees : IsClosing call → closing call ≡ Free → slot ≡ Some (without_look call) → OwnTurn call slot
  OwnLeaves : IsClosing call → closing call ≡ Exit → slot ≡ None → OwnTurn call slot

-- the table of calls after a turn
pub record CallsTurn (m : State) (c : ℕ) (call : InFlight) (m' : State) : Type 0 where
  pub change : Option InFlight → Option InFlight
  pub calls : m'.calls ≡ at_place m.calls c change
  pub own : OwnTurn call (change (Some call))

pub act_calls : (m : State) (c : ℕ) (call : InFlight) (a : Answer) (what : request.Act) → (act m c call a what).calls ≡ at_place m.calls c (option_map (with_outcome a))
act_calls m c call a (Modify to attrs) = refl
act_calls m c call a Query = refl
act_calls m c call a (Bind offset length access) = refl
act_calls m c call a (Unbind offset length access) = refl
act_calls m c call a Async = refl

abbrev pub calls_turn : (m : State) (c : ℕ) (call : InFlight) (a : Answer) (m' : State) → Turn m c call a m' → CallsTurn m c call m'
calls_turn m c call a m' (Refuses k) = record { change = option_map (with_refusal k.errno); calls = ap (λ (s : State). s.calls) k.gives; own = OwnRefuses k.word k.errno k.plan k.may refl }
calls_turn m c call a m' (Reserves k) = record { change = option_map (with_number (Some k.number)); calls = ap (λ (s : State). s.calls) k.gives; own = OwnReserves k.number k.plan refl }
calls_turn m c call a m' (Looks k) =
    let o = (look_told m call.file (look_ask call)).object in
    record { change = option_map (with_look o); calls = ap (λ (s : State). s.calls) k.gives; own = OwnLooks o k.plan refl }
calls_turn m c call a m' (Makes k) =
    let x = object_made m call k.kind k.index in
    record { change = option_map (with_made x.id (made_outcome x)); calls = ap (λ (s : State). s.calls) k.gives; own = OwnMakes x.id (made_outcome x) k.plan refl }
calls_turn m c call a m' (Commits k) = record { change = option_map without_lock; calls = ap (λ (s : State). s.calls) k.gives; own = OwnCommits k.plan refl }
calls_turn m c call a m' (Does k) = record { change = option_map (with_outcome a); calls = ap (λ (s : State). s.calls) k.gives ∙ act_calls m c call a k.what; own = OwnDoes a k.plan refl }
calls_turn m c call a m' (Locks k) = record { change = option_map (with_lock k.item.id); calls = ap (λ (s : State). s.calls) k.gives; own = OwnLocks k.item.id k.plan refl }
calls_turn m c call a m' (Checks k) = record { change = option_map moved_on; calls = ap (λ (s : State). s.calls) k.gives; own = OwnChecks k.plan refl }
calls_turn m c call a m' (Finishes k) =
    record {
      change = option_map without_lock;
      calls = ap (λ (s : State). s.calls) k.gives ∙ ap (λ calls. at_place calls c (option_map without_lock)) (calls_buried m (object_with m (own_object call)));
      own = OwnFinishes k.plan refl;
    }
calls_turn m c call a m' (Aborts k) = record { change = option_map without_number; calls = ap (λ (s : State). s.calls) k.gives; own = OwnAborts k.ends k.word refl }
calls_turn m c call a m' (Frees k) = record { change = option_map without_look; calls = ap (λ (s : State). s.calls) k.gives; own = OwnFrees k.ends k.word refl }
calls_turn m c call a m' (Leaves k) = record { change = no_call; calls = ap (λ (s : State). s.calls) k.gives; own = OwnLeaves k.ends k.word refl }

slot_from : (slot : Option (Option InFlight)) (call : InFlight) → the_call slot ≡ Some call → slot ≡ Some (Some call)
slot_from None call e = absurd cc
slot_from (Some inner) call e = ap (λ (x : Option InFlight). Some x) e

-- a call in flight stands at its actor's place
pub call_stands : (m : State) (c : ℕ) (call : InFlight) → call_of m c ≡ Some call → slice_get m.calls c ≡ Some (Some call)
call_stands m c call e = slot_from (slice_get m.calls c) call e

-- the actor's call after a change of its place
pub call_of-changed : (m m' : State) (c : ℕ) (g : Option InFlight → Option InFlight) (call : InFlight) → m'.calls ≡ at_place m.calls c g → call_of m c ≡ Some call → call_of m' c ≡ g (Some call)
call_of-changed m m' c g call calls is =
    ap (λ v. the_call (slice_get v c)) calls
    ∙ ap the_call (slice_get-at_place_same m.calls c g)
    ∙ ap (λ v. the_call (option_map g v)) (call_stands m c call is)

-- The steps ahead.

abbrev pub IsFewer : InFlight → Option InFlight → Type 0
IsFewer call slot = steps_ahead slot < steps_behind call call.refusal

fewer_as : (call : InFlight) (slot slot' : Option InFlight) → slot ≡ slot' → IsFewer call slot' → IsFewer call slot
fewer_as call slot slot' e f = rw e f

-- a step of the plan that makes nothing, and keeps the number
fewer_plain : (call call' : InFlight) (w : Word) → InPlan call w → is_make w ≡ false → IsNextOf call call' → count_of call'.reserved ≡ count_of call.reserved → free_steps call' + 1 ≤ free_steps call + word_steps w → IsFewer call (Some call')
fewer_plain call call' w plan makes next aborts frees =
    let rest = drop (call.place + 1) (plan_for call.request) in
    let ahead = IsAhead-in_plan call w plan in
    let before = steps_in_plan call w rest plan.fine ahead.now ∙ ap (λ b. steps_by (b || list_any is_make rest) (word_steps w + sum_by word_steps rest) call) makes in
    let behind = steps_then call' rest (next.refusal ∙ plan.fine) (words_behind call call' w rest ahead next) in
    rw (before, behind) (fewer_by (list_any is_make rest) (word_steps w) (sum_by word_steps rest) call call' aborts frees)

-- after a Reserve a Make comes
makes_behind_reserve : (call : InFlight) → InPlan call Reserve → list_any is_make (drop (call.place + 1) (plan_for call.request)) ≡ true
makes_behind_reserve call plan =
    let s = stands_in_plan call Reserve plan in
    rw (s.creates, s.at) (makes_behind_looks (length (looks_of call.request)))

fewer_reserved : (call call' : InFlight) → InPlan call Reserve → IsNextOf call call' → free_steps call' ≡ free_steps call → IsFewer call (Some call')
fewer_reserved call call' plan next frees =
    let rest = drop (call.place + 1) (plan_for call.request) in
    let ahead = IsAhead-in_plan call Reserve plan in
    let makes : list_any is_make rest ≡ true = makes_behind_reserve call plan in
    let before = steps_in_plan call Reserve rest plan.fine ahead.now ∙ ap (λ b. steps_by b (1 + sum_by word_steps rest) call) makes in
    let behind = steps_then call' rest (next.refusal ∙ plan.fine) (words_behind call call' Reserve rest ahead next) ∙ ap (λ b. steps_by b (sum_by word_steps rest) call') makes in
    rw (before, behind) (fewer_before_make 1 (sum_by word_steps rest) call call' (omega (arith, frees)))

fewer_make : (call call' : InFlight) → InPlan call Make → IsNextOf call call' → count_of call'.reserved ≡ 0 → free_steps call' ≡ free_steps call → IsFewer call (Some call')
fewer_make call call' plan next aborts frees =
    let rest = drop (call.place + 1) (plan_for call.request) in
    let ahead = IsAhead-in_plan call Make plan in
    let before = steps_in_plan call Make rest plan.fine ahead.now in
    let behind = steps_then call' rest (next.refusal ∙ plan.fine) (words_behind call call' Make rest ahead next) in
    rw (before, behind) (fewer_made (list_any is_make rest) (sum_by word_steps rest) call call' aborts frees)

fewer_closing : (call call' : InFlight) → IsClosing call → IsClosing call' → steps_back call' < steps_back call → IsFewer call (Some call')
fewer_closing call call' ends ends' less = rw (closing_steps call ends, closing_steps call' ends') less

pub fewer_own : (call : InFlight) (slot : Option InFlight) → OwnTurn call slot → IsFewer call slot
fewer_own call slot (OwnTurn.OwnRefuses w e plan may is) = fewer_as call slot _ is (fewer_refused call w plan)
fewer_own call slot (OwnTurn.OwnReserves n plan is) = fewer_as call slot _ is (fewer_reserved call (with_number (Some n) call) plan (record { request = refl; refusal = refl; place = refl }) refl)
fewer_own call slot (OwnTurn.OwnLooks o plan is) =
    fewer_as call slot _ is (fewer_plain call (with_look o call) Look plan refl (record { request = refl; refusal = refl; place = refl }) refl (omega (arith, length-ids_and call.looked o)))
fewer_own call slot (OwnTurn.OwnMakes o outcome plan is) = fewer_as call slot _ is (fewer_make call (with_made o outcome call) plan (record { request = refl; refusal = refl; place = refl }) refl refl)
fewer_own call slot (OwnTurn.OwnCommits plan is) = fewer_as call slot _ is (fewer_plain call (without_lock call) Commit plan refl (record { request = refl; refusal = refl; place = refl }) refl (omega arith))
fewer_own call slot (OwnTurn.OwnDoes outcome plan is) = fewer_as call slot _ is (fewer_plain call (with_outcome outcome call) Act plan refl (record { request = refl; refusal = refl; place = refl }) refl (omega arith))
fewer_own call slot (OwnTurn.OwnLocks o plan is) = fewer_as call slot _ is (fewer_plain call (with_lock o call) Lock plan refl (record { request = refl; refusal = refl; place = refl }) refl (omega arith))
fewer_own call slot (OwnTurn.OwnChecks plan is) = fewer_as call slot _ is (fewer_plain call (moved_on call) Check plan refl (record { request = refl; refusal = refl; place = refl }) refl (omega arith))
fewer_own call slot (OwnTurn.OwnFinishes plan is) = fewer_as call slot _ is (fewer_plain call (without_lock call) Finish plan refl (record { request = refl; refusal = refl; place = refl }) refl (omega arith))
fewer_own call slot (OwnTurn.OwnAborts ends word is) =
    let number = closing_abort call word in
    let one : count_of call.reserved ≡ 1 = ap count_of number.1 in
    fewer_as call slot _ is (fewer_closing call (without_number call) ends ends (omega (arith, one)))
fewer_own call slot (OwnTurn.OwnFrees ends word is) =
    let frees = length-ids_behind call.looked (closing_free call word).1 in
    fewer_as call slot _ is (fewer_closing call (without_look call) ends ends (omega (arith, frees)))
fewer_own call slot (OwnTurn.OwnLeaves ends word is) = fewer_as call slot _ is (rw (closing_steps call ends) (omega arith))

-- each turn leaves fewer ahead
pub fewer_turn : (m m' : State) (c : ℕ) (w : Word) (o : ℕ) (found : Option QpState) (a : Answer) → IsTurn m c w o found a m' → steps_ahead (call_of m' c) < steps_ahead (call_of m c)
fewer_turn m m' c w o found a t =
    let k = calls_turn m c t.call a m' t.turn in
    rw (call_of-changed m m' c k.change t.call k.calls t.is, t.is) (fewer_own t.call (k.change (Some t.call)) k.own)

pub steps_ahead-step :
    (m : State) (c : ℕ) (w : Word) (o : ℕ) (found : Option QpState) (a : Answer) → Allowed m (Step c w o found a)
    → steps_ahead (call_of (after m (Step c w o found a)) c) < steps_ahead (call_of m c)
steps_ahead-step m c w o found a allowed = fewer_turn m (after m (Step c w o found a)) c w o found a (IsTurn-allowed m c w o found a allowed)
