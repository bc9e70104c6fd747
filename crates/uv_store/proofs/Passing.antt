-- The entries that leave what is kept beside the state: opens, enters, refusals, and acts that bind nothing.
use Rattle.std.proofs.Common.{◌≡◌, ℕ, Bool, true, false, Option, Some, None, refl, ap, sym, ◌∙◌, subst}
use Rattle.std.specs.Prelude.{IsSome, slice_get, ◌&&◌, ◌==◌, option_map}
use Rattle.uv_num.specs.declared.errno.Errno.{Errno}
use Rattle.uv_num.specs.declared.request.Request.{Request}
use Rattle.uv_num.specs.declared.request.Act as request
use Rattle.uv_num.specs.declared.request.Act.TheVariants.{Modify, Query, Bind, Unbind, Async}
use Rattle.uv_num.specs.declared.request.Role.TheVariants.{Acts}
use Rattle.uv_num.specs.Request.{role_of}
use Rattle.uv_num.specs.Place.{at_place}
use Rattle.uv_num.specs.declared.request.Role.{Role}
use Rattle.uv_machine.specs.declared.entry.Answer.{Answer}
use Rattle.uv_machine.specs.declared.entry.CallStep.{CallStep}
use Rattle.uv_machine.specs.declared.entry.Entry.{Entry}
use Rattle.uv_machine.specs.declared.entry.Entry.TheVariants as entry
use Rattle.uv_machine.specs.declared.entry.Word.{Word}
use Rattle.uv_machine.specs.declared.entry.Word.TheVariants.{Reserve, Look, Make, Commit, Act, Lock, Check, Finish, Abort, Free, Exit}
use Rattle.uv_machine.specs.declared.call.InFlight.{InFlight}
use Rattle.uv_machine.specs.declared.state.State.{State}
use Rattle.uv_machine.specs.Plans.{entered, with_refusal, with_outcome}
use Rattle.uv_machine.specs.States.{the_call, call_of}
use Rattle.uv_machine.specs.Effects.{refusal_in, with_call, with_file, put_call, unless_answered, unless_refused, after_open, after_enter, after_step, stepped, opened, act, act_by}
use Rattle.uv_machine.specs.Histories.{Allowed, after}
use Rattle.uv_store.specs.Going.{Goes, IsStill, entry_by}
use Rattle.uv_store.proofs.Still.{IsAlike, still_calls, still_same}

pub still_open : (m : State) (c f d : ℕ) (a : Answer) → IsStill m (after_open m c f d a)
still_open m c f d a =
    let by : (r : Option Errno) → IsStill m (unless_answered m r (with_file m f (opened c d))) = λ r. elim r as (λ v. IsStill m (unless_answered m v (with_file m f (opened c d)))) [ None ↦ still_same m _ refl refl | Some e ↦ still_same m m refl refl ] in
    by (refusal_in a)

and_none : (b : Bool) → (b && false) ≡ false
and_none true = refl
and_none false = refl

entered_alike : (f : ℕ) (request : Request) → IsAlike (put_call (entered f request)) None
entered_alike f request = record { looks = λ o. refl; locks = λ o. refl; numbers = λ g n. and_none (f == g) }

pub still_enter : (m : State) (c f : ℕ) (request : Request) (a : Answer) → call_of m c ≡ None → IsStill m (after_enter m c f (entered f request) a)
still_enter m c f request a idle =
    let g = put_call (entered f request) in
    let there : (x : Option InFlight) → slice_get m.calls c ≡ Some x → IsAlike g x = λ x e. (let P : Option InFlight → Type 0 = λ v. IsAlike g v in subst P (sym (ap the_call (sym e) ∙ idle)) (entered_alike f request)) in
    let by : (r : Option Errno) → IsStill m (unless_answered m r (record m { calls = at_place m.calls c g })) = λ r. elim r as (λ v. IsStill m (unless_answered m v (record m { calls = at_place m.calls c g }))) [ None ↦ still_calls m _ c g refl refl there | Some e ↦ still_same m m refl refl ] in
    by (refusal_in a)

refused_alike : (e : Errno) (x : Option InFlight) → IsAlike (option_map (with_refusal e)) x
refused_alike e None = record { looks = λ o. refl; locks = λ o. refl; numbers = λ f n. refl }
refused_alike e (Some call) = record { looks = λ o. refl; locks = λ o. refl; numbers = λ f n. refl }

pub outcome_alike : (a : Answer) (x : Option InFlight) → IsAlike (option_map (with_outcome a)) x
outcome_alike a None = record { looks = λ o. refl; locks = λ o. refl; numbers = λ f n. refl }
outcome_alike a (Some call) = record { looks = λ o. refl; locks = λ o. refl; numbers = λ f n. refl }

still_refusal : (m : State) (c : ℕ) (r : Option Errno) (e : Errno) (fine : State) → r ≡ Some e → IsStill m (unless_refused m c r fine)
still_refusal m c r e fine is =
    let P : Option Errno → Type 0 = λ v. IsStill m (unless_refused m c v fine) in
    subst P (sym is) (still_calls m (with_call m c (with_refusal e)) c (option_map (with_refusal e)) refl refl (λ x h. refused_alike e x))

still_word : (m : State) (c : ℕ) (call : InFlight) (w : Word) (o : ℕ) (a : Answer) (e : Errno) → refusal_in a ≡ Some e → (w ≡ Exit → ⊥) → IsStill m (stepped m c call w o a)
still_word m c call Reserve o a e is other = still_refusal m c _ e _ is
still_word m c call Look o a e is other = still_refusal m c _ e _ is
still_word m c call Make o a e is other = still_refusal m c _ e _ is
still_word m c call Commit o a e is other = still_refusal m c _ e _ is
still_word m c call Act o a e is other = still_refusal m c _ e _ is
still_word m c call Lock o a e is other = still_refusal m c _ e _ is
still_word m c call Check o a e is other = still_refusal m c _ e _ is
still_word m c call Finish o a e is other = still_refusal m c _ e _ is
still_word m c call Abort o a e is other = still_refusal m c _ e _ is
still_word m c call Free o a e is other = still_refusal m c _ e _ is
still_word m c call Exit o a e is other = absurd (other refl)

-- a step that is refused, and isn't an exit
pub still_refused : (m : State) (c : ℕ) (slot : Option InFlight) (w : Word) (o : ℕ) (a : Answer) (e : Errno) → refusal_in a ≡ Some e → (w ≡ Exit → ⊥) → IsStill m (after_step m c slot w o a)
still_refused m c None w o a e is other = still_same m m refl refl
still_refused m c (Some call) w o a e is other = still_word m c call w o a e is other

-- an act that binds nothing
abbrev pub binds : request.Act → Bool
binds (Modify to attrs) = false
binds Query = false
binds (Bind offset length access) = true
binds (Unbind offset length access) = true
binds Async = false

still_does : (m : State) (c : ℕ) (call : InFlight) (a : Answer) (what : request.Act) → binds what ≡ false → IsStill m (act m c call a what)
still_does m c call a (Modify to attrs) e = still_calls m _ c (option_map (with_outcome a)) refl refl (λ x h. outcome_alike a x)
still_does m c call a Query e = still_calls m _ c (option_map (with_outcome a)) refl refl (λ x h. outcome_alike a x)
still_does m c call a (Bind offset length access) e = cc
still_does m c call a (Unbind offset length access) e = cc
still_does m c call a Async e = still_calls m _ c (option_map (with_outcome a)) refl refl (λ x h. outcome_alike a x)

pub still_act : (m : State) (c o : ℕ) (slot : Option InFlight) (call : InFlight) (a : Answer) (what : request.Act) → slot ≡ Some call → refusal_in a ≡ None → role_of call.request ≡ Acts what → binds what ≡ false → IsStill m (after_step m c slot Act o a)
still_act m c o slot call a what is fine acts plain =
    let P : Option InFlight → Type 0 = λ v. IsStill m (after_step m c v Act o a) in
    let Q : Option Errno → Type 0 = λ r. IsStill m (unless_refused m c r (act_by m c call a (role_of call.request))) in
    let R : Role → Type 0 = λ r. IsStill m (act_by m c call a r) in
    subst P (sym is) (subst Q (sym fine) (subst R (sym acts) (still_does m c call a what plain)))

-- The steps by which that is so.

pub still_acts : (m : State) (c : ℕ) (d : CallStep) (call : InFlight) (what : request.Act) → Goes m c d Act → call_of m c ≡ Some call → role_of call.request ≡ Acts what → binds what ≡ false → IsStill m (after m (entry_by c d))
still_acts m c d call what goes is acts plain =
    let P : Word → Type 0 = λ w. IsStill m (after_step m c (call_of m c) w d.object d.answer) in
    subst P (sym goes.word) (still_act m c d.object (call_of m c) call d.answer what is goes.fine acts plain)

-- the word that ends a call
abbrev pub ends : Word → Bool
ends Reserve = false
ends Look = false
ends Make = false
ends Commit = false
ends Act = false
ends Lock = false
ends Check = false
ends Finish = false
ends Abort = false
ends Free = false
ends Exit = true

still_by : (m : State) (c : ℕ) (d : CallStep) (r : Option Errno) → refusal_in d.answer ≡ r → IsSome r → ends d.word ≡ false → IsStill m (after m (entry_by c d))
still_by m c d None e some other = cc
still_by m c d (Some errno) e some other =
    still_refused m c (call_of m c) d.word d.object d.answer errno e (λ is. (let yes : ends d.word ≡ true = ap ends is in cc))

pub still_goes : (m : State) (c : ℕ) (d : CallStep) → IsSome (refusal_in d.answer) → ends d.word ≡ false → IsStill m (after m (entry_by c d))
still_goes m c d some other = still_by m c d (refusal_in d.answer) refl some other

-- the entries of which that is always so
abbrev pub passes : Entry → Bool
passes (entry.Open c f d a) = true
passes (entry.Enter c f request a) = true
passes (entry.Step c w o found a) = false
passes (entry.Unplug d) = true
passes (entry.Tear f by) = true
passes (entry.Kill o) = false
passes (entry.Gone o kept) = false
passes (entry.Dissociated f) = true
passes (entry.Closed f) = false

pub still_entry : (m : State) (e : Entry) → Allowed m e → passes e ≡ true → IsStill m (after m e)
still_entry m (entry.Open c f d a) allowed p = still_open m c f d a
still_entry m (entry.Enter c f request a) allowed p = still_enter m c f request a allowed.2
still_entry m (entry.Step c w o found a) allowed p = cc
still_entry m (entry.Unplug d) allowed p = still_same m _ refl refl
still_entry m (entry.Tear f by) allowed p = still_same m _ refl refl
still_entry m (entry.Kill o) allowed p = cc
still_entry m (entry.Gone o kept) allowed p = cc
still_entry m (entry.Dissociated f) allowed p = still_same m _ refl refl
still_entry m (entry.Closed f) allowed p = cc
