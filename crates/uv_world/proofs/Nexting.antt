-- The step that a call makes next looks at what is kept at a finish alone, and finds something at an act alone.
use Rattle.std.proofs.Common.{◌≡◌, ◌∙◌, ℕ, Bool, true, false, Option, None, Some, refl, sym, ap, subst}
use Rattle.std.specs.Prelude.{is_some, if◌then◌else◌}
use Rattle.uv_num.specs.declared.errno.Errno.{Errno}
use Rattle.uv_num.specs.declared.qp.QpState.{QpState}
use Rattle.uv_num.specs.declared.request.Act.TheVariants.{Modify, Query, Bind, Unbind, Async}
use Rattle.uv_num.specs.declared.request.Role.{Role}
use Rattle.uv_num.specs.declared.request.Role.TheVariants.{Creates, Destroys, Acts}
use Rattle.uv_num.specs.Request.{role_of}
use Rattle.uv_machine.specs.declared.call.InFlight.{InFlight}
use Rattle.uv_machine.specs.declared.entry.Answer.{Answer}
use Rattle.uv_machine.specs.declared.entry.Answer.TheVariants as answer
use Rattle.uv_machine.specs.declared.entry.CallStep.{CallStep}
use Rattle.uv_machine.specs.declared.entry.Word.{Word}
use Rattle.uv_machine.specs.declared.entry.Word.TheVariants.{Reserve, Look, Make, Commit, Act as Acting, Lock, Check, Finish, Abort, Free, Exit}
use Rattle.uv_machine.specs.declared.object.Object.{Object}
use Rattle.uv_machine.specs.declared.state.State.{State}
use Rattle.uv_machine.specs.declared.told.Told.{Told}
use Rattle.uv_machine.specs.Effects.{refusal_in}
use Rattle.uv_machine.specs.Plans.{next_word, own_object}
use Rattle.uv_machine.specs.States.{call_of, object_with}
use Rattle.uv_machine.specs.Steps.{done_as, fine_answer, found_at, kept_of, next_from, next_of, role_found, step_answer, step_of, told}
use Rattle.uv_graph.specs.Conditions.{role_finds, role_touches, touches_at}
use Rattle.uv_graph.specs.Turns.{goes_plain, is_husk_object}

-- What is kept.

-- a step with this word looks at nothing that is kept
abbrev pub keeps_none : Option Object → Word → Bool
keeps_none x Reserve = true
keeps_none x Look = true
keeps_none x Make = true
keeps_none x Commit = true
keeps_none x Acting = true
keeps_none x Lock = true
keeps_none x Check = true
keeps_none x Finish = is_husk_object x
keeps_none x Abort = true
keeps_none x Free = true
keeps_none x Exit = true

husk_keeps : (x : Option Object) (n : ℕ) → is_husk_object x ≡ true → kept_of x 0 ≡ kept_of x n
husk_keeps None n e = absurd (cc)
husk_keeps (Some x) n e = ap (λ (b : Bool). if b then 0 else 0) e ∙ sym (ap (λ (b : Bool). if b then 0 else n) e)

fine_same : (m : State) (call : InFlight) (f : Option QpState) (n : ℕ) (w : Word) → keeps_none (object_with m (own_object call)) w ≡ true → fine_answer m call f 0 w ≡ fine_answer m call f n w
fine_same m call f n Reserve e = refl
fine_same m call f n Look e = refl
fine_same m call f n Make e = refl
fine_same m call f n Commit e = refl
fine_same m call f n Acting e = refl
fine_same m call f n Lock e = refl
fine_same m call f n Check e = refl
fine_same m call f n Finish e = ap answer.Kept (husk_keeps (object_with m (own_object call)) n e)
fine_same m call f n Abort e = refl
fine_same m call f n Free e = refl
fine_same m call f n Exit e = refl

answer_same : (m : State) (call : InFlight) (f : Option QpState) (n : ℕ) (w : Word) (r : Option Errno) → keeps_none (object_with m (own_object call)) w ≡ true → step_answer m call f 0 w r ≡ step_answer m call f n w r
answer_same m call f n w None e = fine_same m call f n w e
answer_same m call f n w (Some x) e = refl

done_same : (m : State) (call : InFlight) (f : Option QpState) (n : ℕ) (w : Word) (t : Told) → keeps_none (object_with m (own_object call)) w ≡ true → done_as m call f 0 w t ≡ done_as m call f n w t
done_same m call f n w t e = ap (λ (v : Answer). (let d : CallStep = record { word = w; object = t.object; found = found_at call w f; answer = v } in d)) (answer_same m call f n w t.refusal e)

-- a finish names the object that the call holds
own_free : (m : State) (c : ℕ) (call : InFlight) (f : Option QpState) (w : Word) → keeps_none (object_with m (told m c call f w).object) w ≡ true → keeps_none (object_with m (own_object call)) w ≡ true
own_free m c call f Reserve e = refl
own_free m c call f Look e = refl
own_free m c call f Make e = refl
own_free m c call f Commit e = refl
own_free m c call f Acting e = refl
own_free m c call f Lock e = refl
own_free m c call f Check e = refl
own_free m c call f Finish e = e
own_free m c call f Abort e = refl
own_free m c call f Free e = refl
own_free m c call f Exit e = refl

same_step : (m : State) (c : ℕ) (f : Option QpState) (n : ℕ) (call : InFlight) (d : CallStep) → Some (step_of m c f 0 call) ≡ Some d → keeps_none (object_with m d.object) d.word ≡ true → Some (step_of m c f n call) ≡ Some d
same_step m c f n call d is e =
    let now : step_of m c f 0 call ≡ d = cc in
    let P : CallStep → Type 0 = λ v. keeps_none (object_with m v.object) v.word ≡ true in
    let free : keeps_none (object_with m (own_object call)) (next_word call) ≡ true = own_free m c call f (next_word call) (subst P (sym now) e) in
    ap (λ (v : CallStep). Some v) (sym (done_same m call f n (next_word call) (told m c call f (next_word call)) free)) ∙ is

same_from : (m : State) (c : ℕ) (f : Option QpState) (n : ℕ) (slot : Option InFlight) (d : CallStep) → next_from m c f 0 slot ≡ Some d → keeps_none (object_with m d.object) d.word ≡ true → next_from m c f n slot ≡ Some d
same_from m c f n None d is e = absurd (cc)
same_from m c f n (Some call) d is e = same_step m c f n call d is e

-- a step that looks at nothing kept is the next one, whatever is kept
pub next_same : (m : State) (c : ℕ) (f : Option QpState) (n : ℕ) (d : CallStep) → next_of m c f 0 ≡ Some d → keeps_none (object_with m d.object) d.word ≡ true → next_of m c f n ≡ Some d
next_same m c f n d is e = same_from m c f n (call_of m c) d is e

-- Which steps look at nothing kept.

pub plain_keeps : (x : Option Object) (w : Word) → goes_plain x w ≡ true → keeps_none x w ≡ true
plain_keeps x Reserve e = refl
plain_keeps x Look e = refl
plain_keeps x Make e = refl
plain_keeps x Commit e = refl
plain_keeps x Acting e = refl
plain_keeps x Lock e = refl
plain_keeps x Check e = refl
plain_keeps x Finish e = e
plain_keeps x Abort e = refl
plain_keeps x Free e = refl
plain_keeps x Exit e = refl

pub touch_keeps : (x : Option Object) (role : Role) (w : Word) → touches_at role w ≡ true → keeps_none x w ≡ true
touch_keeps x role Reserve e = refl
touch_keeps x role Look e = refl
touch_keeps x role Make e = refl
touch_keeps x role Commit e = refl
touch_keeps x role Acting e = refl
touch_keeps x role Lock e = refl
touch_keeps x role Check e = refl
touch_keeps x role Finish e = absurd (cc)
touch_keeps x role Abort e = refl
touch_keeps x role Free e = refl
touch_keeps x role Exit e = refl

none_some : {X : Type 0} (x : X) → (let o : Option X = None in o) ≡ Some x → ⊥
none_some x e = cc

-- a finish isn't refused
refused_at : (m : State) (c : ℕ) (call : InFlight) (f : Option QpState) (x : Option Object) (w : Word) (r : Errno) → refusal_in (done_as m call f 0 w (told m c call f w)).answer ≡ Some r → keeps_none x w ≡ true
refused_at m c call f x Reserve r e = refl
refused_at m c call f x Look r e = refl
refused_at m c call f x Make r e = refl
refused_at m c call f x Commit r e = refl
refused_at m c call f x Acting r e = refl
refused_at m c call f x Lock r e = refl
refused_at m c call f x Check r e = refl
refused_at m c call f x Finish r e = absurd (none_some r e)
refused_at m c call f x Abort r e = refl
refused_at m c call f x Free r e = refl
refused_at m c call f x Exit r e = refl

refused_from : (m : State) (c : ℕ) (f : Option QpState) (slot : Option InFlight) (d : CallStep) (r : Errno) → next_from m c f 0 slot ≡ Some d → refusal_in d.answer ≡ Some r → keeps_none (object_with m d.object) d.word ≡ true
refused_from m c f None d r is e = absurd (cc)
refused_from m c f (Some call) d r is e =
    let now : step_of m c f 0 call ≡ d = cc in
    let P : CallStep → Type 0 = λ v. refusal_in v.answer ≡ Some r in
    let Q : CallStep → Type 0 = λ v. keeps_none (object_with m v.object) v.word ≡ true in
    subst Q now (refused_at m c call f (object_with m (step_of m c f 0 call).object) (next_word call) r (subst P (sym now) e))

pub refused_keeps : (m : State) (c : ℕ) (f : Option QpState) (d : CallStep) (r : Errno) → next_of m c f 0 ≡ Some d → refusal_in d.answer ≡ Some r → keeps_none (object_with m d.object) d.word ≡ true
refused_keeps m c f d r is e = refused_from m c f (call_of m c) d r is e

-- What is found.

act_none : (f : Option QpState) (role : Role) → role_touches role ≡ false → role_found role f ≡ None
act_none f (Creates kind) e = refl
act_none f (Destroys asked) e = refl
act_none f (Acts (Modify to attrs)) e = absurd (cc)
act_none f (Acts Query) e = absurd (cc)
act_none f (Acts (Bind offset length access)) e = refl
act_none f (Acts (Unbind offset length access)) e = refl
act_none f (Acts Async) e = refl

-- a step that isn't about what a cell holds finds nothing
pub found_none : (call : InFlight) (f : Option QpState) (w : Word) → touches_at (role_of call.request) w ≡ false → found_at call w f ≡ None
found_none call f Reserve e = refl
found_none call f Look e = refl
found_none call f Make e = refl
found_none call f Commit e = refl
found_none call f Acting e = act_none f (role_of call.request) e
found_none call f Lock e = refl
found_none call f Check e = refl
found_none call f Finish e = refl
found_none call f Abort e = refl
found_none call f Free e = refl
found_none call f Exit e = refl

role_some : (s : QpState) (role : Role) → is_some (role_found role (Some s)) ≡ role_finds role
role_some s (Creates kind) = refl
role_some s (Destroys asked) = refl
role_some s (Acts (Modify to attrs)) = refl
role_some s (Acts Query) = refl
role_some s (Acts (Bind offset length access)) = refl
role_some s (Acts (Unbind offset length access)) = refl
role_some s (Acts Async) = refl

-- an act that is about what a cell holds finds a state where its request looks at one
pub found_some : (call : InFlight) (s : QpState) (w : Word) → touches_at (role_of call.request) w ≡ true → is_some (found_at call w (Some s)) ≡ role_finds (role_of call.request)
found_some call s Reserve e = absurd (cc)
found_some call s Look e = absurd (cc)
found_some call s Make e = absurd (cc)
found_some call s Commit e = absurd (cc)
found_some call s Acting e = role_some s (role_of call.request)
found_some call s Lock e = absurd (cc)
found_some call s Check e = absurd (cc)
found_some call s Finish e = absurd (cc)
found_some call s Abort e = absurd (cc)
found_some call s Free e = absurd (cc)
found_some call s Exit e = absurd (cc)
