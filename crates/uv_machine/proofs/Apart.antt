-- What entries do to the calls of others: nothing.
use Rattle.std.specs.Prelude.{ℕ, Bool, true, false, not, ◌≡◌, ◌≢◌, List, [], ◌∷◌, Option, None, Some, refl, slice_get, if◌then◌else◌}
use Rattle.std.specs.List.{list_any}
use Rattle.std.proofs.Common.{ap, suc, ◌∙◌}
use Rattle.std.proofs.lemmas.Bool.{eqb-false}
use Rattle.uv_num.specs.declared.errno.Errno.{Errno}
use Rattle.uv_num.specs.declared.kind.Kind.{Kind}
use Rattle.uv_num.specs.declared.request.Act as request
use Rattle.uv_num.specs.declared.request.Act.TheVariants.{Modify, Query, Bind, Unbind, Async}
use Rattle.uv_num.specs.declared.request.Role.{Role}
use Rattle.uv_num.specs.declared.request.Role.TheVariants.{Creates, Destroys, Acts}
use Rattle.uv_num.specs.Request.{role_of}
use Rattle.uv_machine.specs.declared.entry.Entry.{Entry}
use Rattle.uv_machine.specs.declared.entry.Entry.TheVariants.{Open, Enter, Step, Unplug, Tear, Kill, Gone, Dissociated, Closed}
use Rattle.uv_machine.specs.declared.entry.Word.{Word}
use Rattle.uv_machine.specs.declared.entry.Word.TheVariants.{Reserve, Look, Make, Commit, Act, Lock, Check, Finish, Abort, Free, Exit}
use Rattle.uv_machine.specs.declared.entry.Answer.{Answer}
use Rattle.uv_machine.specs.declared.object.Object.{Object}
use Rattle.uv_machine.specs.declared.call.InFlight.{InFlight}
use Rattle.uv_machine.specs.declared.state.State.{State}
use Rattle.uv_machine.specs.Objects.{is_doomed}
use Rattle.uv_machine.specs.Plans.{is_call_on}
use Rattle.uv_machine.specs.States.{the_call, call_of, object_with, home_cell, is_quiet}
use Rattle.uv_machine.specs.Effects.{refusal_in, unless_refused, unless_answered, with_burial, buried_if_doomed, gone_from, stepped, after_step, make, make_at, act, act_by}
use Rattle.uv_machine.specs.Histories.{after}
use Rattle.uv_machine.specs.Laws.{is_of, IsIdle}
use Rattle.uv_machine.proofs.Members.{slice_get-at_place_elsewhere}

-- the call at a place is as it was
abbrev pub IsSameAt : ℕ → State → State → Type 0
IsSameAt b m m' = slice_get m'.calls b ≡ slice_get m.calls b

-- a choice between two states that have one list of calls
pub calls_either : (b : Bool) (m m' : State) → m'.calls ≡ m.calls → (if b then m' else m).calls ≡ m.calls
calls_either true m m' e = e
calls_either false m m' e = refl

pub calls_buried : (m : State) (x : Option Object) → (buried_if_doomed m x).calls ≡ m.calls
calls_buried m None = refl
calls_buried m (Some x) = calls_either (is_doomed x.phase) m (with_burial m x) refl

pub calls_gone : (m : State) (o : ℕ) (x : Option Object) → (gone_from m o x).calls ≡ m.calls
calls_gone m o None = refl
calls_gone m o (Some x) = refl

unless_answered_same : (b : ℕ) (m m' : State) (r : Option Errno) → IsSameAt b m m' → IsSameAt b m (unless_answered m r m')
unless_answered_same b m m' None e = e
unless_answered_same b m m' (Some e) h = refl

module _ (m : State) (c b : ℕ) (apart : c ≢ b) where
  unless_refused_same : (m' : State) (r : Option Errno) → IsSameAt b m m' → IsSameAt b m (unless_refused m c r m')
  unless_refused_same m' None e = e
  unless_refused_same m' (Some e) h = slice_get-at_place_elsewhere m.calls c b _ apart

  make_at_same : (call : InFlight) (kind : Kind) (i : Option ℕ) → IsSameAt b m (make_at m c call kind i)
  make_at_same call kind None = refl
  make_at_same call kind (Some i) = slice_get-at_place_elsewhere m.calls c b _ apart

  make_same : (call : InFlight) (role : Role) → IsSameAt b m (make m c call role)
  make_same call (Creates kind) = make_at_same call kind (home_cell m kind)
  make_same call (Destroys asked) = refl
  make_same call (Acts act) = refl

  act_same : (call : InFlight) (a : Answer) (what : request.Act) → IsSameAt b m (act m c call a what)
  act_same call a (Modify to attrs) = slice_get-at_place_elsewhere m.calls c b _ apart
  act_same call a Query = slice_get-at_place_elsewhere m.calls c b _ apart
  act_same call a (Bind offset length access) = slice_get-at_place_elsewhere m.calls c b _ apart
  act_same call a (Unbind offset length access) = slice_get-at_place_elsewhere m.calls c b _ apart
  act_same call a Async = slice_get-at_place_elsewhere m.calls c b _ apart

  act_by_same : (call : InFlight) (a : Answer) (role : Role) → IsSameAt b m (act_by m c call a role)
  act_by_same call a (Creates kind) = refl
  act_by_same call a (Destroys asked) = refl
  act_by_same call a (Acts what) = act_same call a what

  stepped_same : (call : InFlight) (w : Word) (o : ℕ) (a : Answer) → IsSameAt b m (stepped m c call w o a)
  stepped_same call Reserve o a = unless_refused_same _ (refusal_in a) (slice_get-at_place_elsewhere m.calls c b _ apart)
  stepped_same call Look o a = unless_refused_same _ (refusal_in a) (slice_get-at_place_elsewhere m.calls c b _ apart)
  stepped_same call Make o a = unless_refused_same _ (refusal_in a) (make_same call (role_of call.request))
  stepped_same call Commit o a = unless_refused_same _ (refusal_in a) (slice_get-at_place_elsewhere m.calls c b _ apart)
  stepped_same call Act o a = unless_refused_same _ (refusal_in a) (act_by_same call a (role_of call.request))
  stepped_same call Lock o a = unless_refused_same _ (refusal_in a) (slice_get-at_place_elsewhere m.calls c b _ apart)
  stepped_same call Check o a = unless_refused_same _ (refusal_in a) (slice_get-at_place_elsewhere m.calls c b _ apart)
  stepped_same call Finish o a = unless_refused_same _ (refusal_in a) (slice_get-at_place_elsewhere _ c b _ apart ∙ ap (λ calls. slice_get calls b) (calls_buried m (object_with m o)))
  stepped_same call Abort o a = unless_refused_same _ (refusal_in a) (slice_get-at_place_elsewhere m.calls c b _ apart)
  stepped_same call Free o a = unless_refused_same _ (refusal_in a) (slice_get-at_place_elsewhere m.calls c b _ apart)
  stepped_same call Exit o a = slice_get-at_place_elsewhere m.calls c b _ apart

  after_step_same : (slot : Option InFlight) (w : Word) (o : ℕ) (a : Answer) → IsSameAt b m (after_step m c slot w o a)
  after_step_same None w o a = refl
  after_step_same (Some call) w o a = stepped_same call w o a

pub after_same : (m : State) (e : Entry) (b : ℕ) → is_of b e ≡ false → IsSameAt b m (after m e)
after_same m (Open c f d a) b other = unless_answered_same b m _ (refusal_in a) refl
after_same m (Enter c f request a) b other = unless_answered_same b m _ (refusal_in a) (slice_get-at_place_elsewhere m.calls c b _ (eqb-false c b other))
after_same m (Step c w o found a) b other = after_step_same m c b (eqb-false c b other) (call_of m c) w o a
after_same m (Unplug d) b other = refl
after_same m (Tear f by) b other = refl
after_same m (Kill o) b other = refl
after_same m (Gone o kept) b other = ap (λ calls. slice_get calls b) (calls_gone m o (object_with m o))
after_same m (Dissociated f) b other = refl
after_same m (Closed f) b other = refl

pub call_of-after : (m : State) (e : Entry) (b : ℕ) → is_of b e ≡ false → call_of (after m e) b ≡ call_of m b
call_of-after m e b other = ap the_call (after_same m e b other)

-- Where no call is in flight none is on any file.

pub none_on : (f : ℕ) (slot : Option InFlight) → slot ≡ None → is_call_on f slot ≡ false
none_on f slot e = ap (is_call_on f) e

pub idle_on_none : (f : ℕ) (calls : List (Option InFlight)) → ((b : ℕ) → the_call (slice_get calls b) ≡ None) → list_any (is_call_on f) calls ≡ false
idle_on_none f [] idle = refl
idle_on_none f (slot ∷ calls) idle = rw (none_on f slot (idle 0)) (idle_on_none f calls (λ b. idle (suc b)))

pub is_quiet-idle : (m : State) (f : ℕ) → IsIdle m → is_quiet m f ≡ true
is_quiet-idle m f idle = ap not (idle_on_none f m.calls idle)
