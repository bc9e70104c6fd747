-- A call tells of a new object from its Make on alone.
use Rattle.std.proofs.Common.{◌≡◌, ◌∙◌, ◌≤◌, ◌+◌, ℕ, Bool, true, false, Option, None, Some, length, refl, sym, ap, subst, arith}
use Rattle.std.specs.Prelude.{option_map, slice_get, if◌then◌else◌}
use Rattle.std.proofs.lemmas.Bool.{eqb-true}
use Rattle.uv_num.specs.declared.errno.Errno.{Errno}
use Rattle.uv_num.specs.declared.qp.QpState.{QpState}
use Rattle.uv_num.specs.declared.request.Act as request
use Rattle.uv_num.specs.declared.request.Act.TheVariants.{Modify, Query, Bind, Unbind, Async}
use Rattle.uv_num.specs.declared.request.Request.{Request}
use Rattle.uv_num.specs.Looks.{looks_of}
use Rattle.uv_num.specs.Place.{at_place}
use Rattle.uv_num.proofs.PlaceLaws.{slice_get-at_place_same}
use Rattle.uv_machine.specs.declared.call.InFlight.{InFlight}
use Rattle.uv_machine.specs.declared.entry.Answer.{Answer}
use Rattle.uv_machine.specs.declared.entry.Entry.{Entry}
use Rattle.uv_machine.specs.declared.entry.Entry.TheVariants.{Open, Enter, Step, Unplug, Tear, Kill, Gone, Dissociated, Closed}
use Rattle.uv_machine.specs.declared.entry.Word.TheVariants.{Make}
use Rattle.uv_machine.specs.declared.state.State.{State}
use Rattle.uv_machine.specs.Acts.{act_answer}
use Rattle.uv_machine.specs.Effects.{after_enter, made_outcome, put_call, refusal_in, unless_answered}
use Rattle.uv_machine.specs.Histories.{Allowed, after}
use Rattle.uv_machine.specs.Laws.{CallsStandApart, is_of}
use Rattle.uv_machine.specs.Plans.{entered, look_ask, moved_on, next_place, with_look, with_made, with_number, with_outcome, with_refusal, with_lock, without_lock, without_look, without_number}
use Rattle.uv_machine.specs.States.{call_of, the_call}
use Rattle.uv_machine.specs.Steps.{look_told}
use Rattle.uv_machine.proofs.OwnCall.{call_of-changed, calls_turn}
use Rattle.uv_machine.proofs.Planned.{next_place-in_plan, stands_in_plan}
use Rattle.uv_machine.proofs.Turns.{IsTurn-allowed, Turn, object_made}
use Rattle.uv_machine.proofs.Turns.Turn.{Refuses, Reserves, Looks, Makes, Commits, Does, Locks, Checks, Finishes, Aborts, Frees, Leaves}
use Rattle.uv_world.specs.Fitting.{AllTellAfterMake, TellsAfterMake}
use Rattle.uv_world.specs.Waiting.{tells_of_made}

later_by : (b : Bool) (n : ℕ) → n ≤ (if b then n + 1 else n)
later_by true n = omega arith
later_by false n = omega arith

later : (n : ℕ) → n ≤ next_place n
later n = later_by _ n

kept_tells : (call call' : InFlight) → call'.outcome ≡ call.outcome → call'.request ≡ call.request → call.place ≤ call'.place → TellsAfterMake call → TellsAfterMake call'
kept_tells call call' outcome request place tell says =
    let was = tell (ap tells_of_made (sym outcome) ∙ says) in
    let looks : length (looks_of call'.request) ≡ length (looks_of call.request) = ap (λ (q : Request). length (looks_of q)) request in
    omega (arith, was, looks, place)

as_tells : (call call' : InFlight) → Some call ≡ Some call' → TellsAfterMake call → TellsAfterMake call'
as_tells call call' is tell =
    let same : call ≡ call' = cc in
    let P : InFlight → Type 0 = λ v. TellsAfterMake v in
    subst P same tell

as_kept : (call next call' : InFlight) → Some next ≡ Some call' → next.outcome ≡ call.outcome → next.request ≡ call.request → call.place ≤ next.place → TellsAfterMake call → TellsAfterMake call'
as_kept call next call' is outcome request place tell = as_tells next call' is (kept_tells call next outcome request place tell)

act_tells : (m : State) (call : InFlight) (found : Option QpState) (what : request.Act) → tells_of_made (act_answer m call found what) ≡ false
act_tells m call found (Modify to attrs) = refl
act_tells m call found Query = refl
act_tells m call found (Bind offset long access) = refl
act_tells m call found (Unbind offset long access) = refl
act_tells m call found Async = refl

turn_tells : (m : State) (a : ℕ) (call : InFlight) (said : Answer) (m' : State) (t : Turn m a call said m') (call' : InFlight) → TellsAfterMake call → (calls_turn m a call said m' t).change (Some call) ≡ Some call' → TellsAfterMake call'
turn_tells m a call said m' (Refuses k) call' tell is = as_kept call (with_refusal k.errno call) call' is refl refl (omega arith) tell
turn_tells m a call said m' (Reserves k) call' tell is = as_kept call (with_number (Some k.number) call) call' is refl refl (later call.place) tell
turn_tells m a call said m' (Looks k) call' tell is = as_kept call (with_look (look_told m call.file (look_ask call)).object call) call' is refl refl (later call.place) tell
turn_tells m a call said m' (Makes k) call' tell is =
    let x = object_made m call k.kind k.index in
    let at : call.place ≡ length (looks_of call.request) + 1 = (stands_in_plan call Make k.plan).at in
    let next : next_place call.place ≡ call.place + 1 = next_place-in_plan call Make k.plan in
    as_tells (with_made x.id (made_outcome x) call) call' is (λ says. omega (arith, at, next))
turn_tells m a call said m' (Commits k) call' tell is = as_kept call (without_lock call) call' is refl refl (later call.place) tell
turn_tells m a call said m' (Does k) call' tell is =
    as_tells (with_outcome said call) call' is (λ says. absurd (let none : tells_of_made said ≡ false = ap tells_of_made k.answers ∙ act_tells m call k.found k.what in cc))
turn_tells m a call said m' (Locks k) call' tell is = as_kept call (with_lock k.item.id call) call' is refl refl (later call.place) tell
turn_tells m a call said m' (Checks k) call' tell is = as_kept call (moved_on call) call' is refl refl (later call.place) tell
turn_tells m a call said m' (Finishes k) call' tell is = as_kept call (without_lock call) call' is refl refl (later call.place) tell
turn_tells m a call said m' (Aborts k) call' tell is = as_kept call (without_number call) call' is refl refl (omega arith) tell
turn_tells m a call said m' (Frees k) call' tell is = as_kept call (without_look call) call' is refl refl (omega arith) tell
turn_tells m a call said m' (Leaves k) call' tell is = absurd cc

enter_tells : (f : ℕ) (q : Request) (slot : Option (Option InFlight)) (call : InFlight) → the_call (option_map (put_call (entered f q)) slot) ≡ Some call → TellsAfterMake call
enter_tells f q None call is = absurd cc
enter_tells f q (Some slot) call is = as_tells (entered f q) call is (λ says. absurd cc)

entered_tells : (m : State) (c f : ℕ) (q : Request) (r : Option Errno) (said : Answer) (call : InFlight) → refusal_in said ≡ r → AllTellAfterMake m → call_of (after_enter m c f (entered f q) said) c ≡ Some call → TellsAfterMake call
entered_tells m c f q None said call fine tell is =
    let calls = ap (λ (v : State). call_of v c) (ap (λ (r : Option Errno). unless_answered m r (record m { calls = at_place m.calls c (put_call (entered f q)) })) (sym fine)) in
    enter_tells f q (slice_get m.calls c) call (sym (ap the_call (slice_get-at_place_same m.calls c (put_call (entered f q)))) ∙ (calls ∙ is))
entered_tells m c f q (Some e) said call refused tell is =
    let calls = ap (λ (v : State). call_of v c) (ap (λ (r : Option Errno). unless_answered m r (record m { calls = at_place m.calls c (put_call (entered f q)) })) (sym refused)) in
    tell c call (calls ∙ is)

own_tells : (m : State) (e : Entry) (b : ℕ) (call : InFlight) → Allowed m e → is_of b e ≡ true → AllTellAfterMake m → call_of (after m e) b ≡ Some call → TellsAfterMake call
own_tells m (Open c f d said) b call allowed own tell is = absurd cc
own_tells m (Enter c f q said) b call allowed own tell is =
    let same : c ≡ b = eqb-true c b own in
    entered_tells m c f q (refusal_in said) said call refl tell (ap (λ n. call_of (after m (Enter c f q said)) n) same ∙ is)
own_tells m (Step c w o found said) b call allowed own tell is =
    let same : c ≡ b = eqb-true c b own in
    let m' = after m (Step c w o found said) in
    let t = IsTurn-allowed m c w o found said allowed in
    let k = calls_turn m c t.call said m' t.turn in
    turn_tells m c t.call said m' t.turn call (tell c t.call t.is) (sym (call_of-changed m m' c k.change t.call k.calls t.is) ∙ (ap (λ n. call_of m' n) same ∙ is))
own_tells m (Unplug d) b call allowed own tell is = absurd cc
own_tells m (Tear f by) b call allowed own tell is = absurd cc
own_tells m (Kill o) b call allowed own tell is = absurd cc
own_tells m (Gone o n) b call allowed own tell is = absurd cc
own_tells m (Dissociated f) b call allowed own tell is = absurd cc
own_tells m (Closed f) b call allowed own tell is = absurd cc

tells_if : (m : State) (e : Entry) (b : ℕ) (call : InFlight) (own : Bool) → is_of b e ≡ own → CallsStandApart → Allowed m e → AllTellAfterMake m → call_of (after m e) b ≡ Some call → TellsAfterMake call
tells_if m e b call true own apart allowed tell is = own_tells m e b call allowed own tell is
tells_if m e b call false own apart allowed tell is = tell b call (sym (apart m e b own) ∙ is)

pub all_tell_after : (m : State) (e : Entry) → CallsStandApart → Allowed m e → AllTellAfterMake m → AllTellAfterMake (after m e)
all_tell_after m e apart allowed tell b call is = tells_if m e b call (is_of b e) refl apart allowed tell is
