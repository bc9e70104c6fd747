-- A history has as many devices as there are, so the driver knows which it has pulled.
use Rattle.std.proofs.Common.{◌≡◌, ℕ, ◌<◌, Bool, true, false, List, [], ◌∷◌, Option, Some, None, length, get_or, refl, ap, sym, subst, ◌∙◌}
use Rattle.std.specs.Prelude.{not, slice_get, option_map, unwrap_or}
use Rattle.std.proofs.lemmas.List.{length-replicate}
use Rattle.std.proofs.lemmas.Option.{none-some, slice_get-get_or, slice_get-map}
use Rattle.uv_num.specs.declared.errno.Errno.{Errno}
use Rattle.uv_num.specs.declared.kind.Kind.{Kind}
use Rattle.uv_num.specs.declared.limits.TheConstants.{DEVICES, DRIVER}
use Rattle.uv_num.specs.declared.request.Act as request
use Rattle.uv_num.specs.declared.request.Act.TheVariants.{Modify, Query, Bind, Unbind, Async}
use Rattle.uv_num.specs.declared.request.Role.{Role}
use Rattle.uv_num.specs.declared.request.Role.TheVariants.{Creates, Destroys, Acts}
use Rattle.uv_num.specs.Request.{role_of}
use Rattle.uv_num.proofs.PlaceLaws.{length-at_place}
use Rattle.uv_machine.specs.declared.call.InFlight.{InFlight}
use Rattle.uv_machine.specs.declared.entry.Answer.{Answer}
use Rattle.uv_machine.specs.declared.entry.Entry.{Entry}
use Rattle.uv_machine.specs.declared.entry.Entry.TheVariants.{Open, Enter, Step, Unplug, Tear, Kill, Gone, Dissociated, Closed}
use Rattle.uv_machine.specs.declared.entry.Word.{Word}
use Rattle.uv_machine.specs.declared.entry.Word.TheVariants.{Reserve, Look, Make, Commit, Act, Lock, Check, Finish, Abort, Free, Exit}
use Rattle.uv_machine.specs.declared.object.Object.{Object}
use Rattle.uv_machine.specs.declared.state.State.{State}
use Rattle.uv_machine.specs.States.{call_of, object_with, home_cell, is_unplugged, start}
use Rattle.uv_machine.specs.Effects.{refusal_in, unless_refused, unless_answered, make_at, make, act_by, stepped, after_step, finish, gone_from, without_plug}
use Rattle.uv_machine.specs.Histories.{after, state_from, state_of}
use Rattle.uv_machine.proofs.Files.{buried_plugged}
use Rattle.uv_graph.specs.Conditions.{Pulls}
use Rattle.uv_graph.specs.Kept.{Kept}
use Rattle.uv_graph.specs.Owns.{own_of}

-- No entry changes how many devices there are.

abbrev HasSize : State → State → Type 0
HasSize m n = length n.plugged ≡ length m.plugged

unless_refused_size : (m n : State) (c : ℕ) (r : Option Errno) → HasSize m n → HasSize m (unless_refused m c r n)
unless_refused_size m n c None e = e
unless_refused_size m n c (Some r) e = refl

unless_answered_size : (m n : State) (r : Option Errno) → HasSize m n → HasSize m (unless_answered m r n)
unless_answered_size m n None e = e
unless_answered_size m n (Some r) e = refl

make_at_size : (m : State) (c : ℕ) (call : InFlight) (kind : Kind) (cell : Option ℕ) → HasSize m (make_at m c call kind cell)
make_at_size m c call kind None = refl
make_at_size m c call kind (Some index) = refl

make_size : (m : State) (c : ℕ) (call : InFlight) (role : Role) → HasSize m (make m c call role)
make_size m c call (Creates kind) = make_at_size m c call kind (home_cell m kind)
make_size m c call (Destroys asked) = refl
make_size m c call (Acts act) = refl

act_size : (m : State) (c : ℕ) (call : InFlight) (a : Answer) (what : request.Act) → HasSize m (act_by m c call a (Acts what))
act_size m c call a (Modify to attrs) = refl
act_size m c call a Query = refl
act_size m c call a (Bind offset length access) = refl
act_size m c call a (Unbind offset length access) = refl
act_size m c call a Async = refl

act_by_size : (m : State) (c : ℕ) (call : InFlight) (a : Answer) (role : Role) → HasSize m (act_by m c call a role)
act_by_size m c call a (Creates kind) = refl
act_by_size m c call a (Destroys asked) = refl
act_by_size m c call a (Acts what) = act_size m c call a what

finish_size : (m : State) (c o : ℕ) → HasSize m (finish m c o)
finish_size m c o = ap (λ (v : List Bool). length v) (buried_plugged m (object_with m o))

stepped_size : (m : State) (c : ℕ) (call : InFlight) (w : Word) (o : ℕ) (a : Answer) → HasSize m (stepped m c call w o a)
stepped_size m c call Reserve o a = unless_refused_size m _ c (refusal_in a) refl
stepped_size m c call Look o a = unless_refused_size m _ c (refusal_in a) refl
stepped_size m c call Make o a = unless_refused_size m _ c (refusal_in a) (make_size m c call (role_of call.request))
stepped_size m c call Commit o a = unless_refused_size m _ c (refusal_in a) refl
stepped_size m c call Act o a = unless_refused_size m _ c (refusal_in a) (act_by_size m c call a (role_of call.request))
stepped_size m c call Lock o a = unless_refused_size m _ c (refusal_in a) refl
stepped_size m c call Check o a = unless_refused_size m _ c (refusal_in a) refl
stepped_size m c call Finish o a = unless_refused_size m _ c (refusal_in a) (finish_size m c o)
stepped_size m c call Abort o a = unless_refused_size m _ c (refusal_in a) refl
stepped_size m c call Free o a = unless_refused_size m _ c (refusal_in a) refl
stepped_size m c call Exit o a = refl

after_step_size : (m : State) (c : ℕ) (call : Option InFlight) (w : Word) (o : ℕ) (a : Answer) → HasSize m (after_step m c call w o a)
after_step_size m c None w o a = refl
after_step_size m c (Some call) w o a = stepped_size m c call w o a

gone_from_size : (m : State) (o : ℕ) (x : Option Object) → HasSize m (gone_from m o x)
gone_from_size m o None = refl
gone_from_size m o (Some x) = refl

after_size : (m : State) (e : Entry) → HasSize m (after m e)
after_size m (Open c f d a) = unless_answered_size m _ (refusal_in a) refl
after_size m (Enter c f request a) = unless_answered_size m _ (refusal_in a) refl
after_size m (Step c w o found a) = after_step_size m c (call_of m c) w o a
after_size m (Unplug d) = length-at_place m.plugged d without_plug
after_size m (Tear f by) = refl
after_size m (Kill o) = refl
after_size m (Gone o kept) = gone_from_size m o (object_with m o)
after_size m (Dissociated f) = refl
after_size m (Closed f) = refl

state_from_size : (es : List Entry) (m : State) → HasSize m (state_from m es)
state_from_size [] m = refl
state_from_size (e ∷ es) m = state_from_size es (after m e) ∙ after_size m e

device_count : (h : List Entry) → length (state_of h).plugged ≡ DEVICES
unfolding start
device_count h = state_from_size h start ∙ length-replicate DEVICES true

-- What the driver knows.

pulled_if : (slot : Option Bool) (b : Bool) → slot ≡ Some b → not (unwrap_or slot false) ≡ true → option_map not slot ≡ Some true
pulled_if None b is e = absurd (none-some b is)
pulled_if (Some v) b is e = ap (λ (w : Bool). Some w) e

-- a device that is unplugged was pulled by the driver
pub unplugged_pulls : (k : Kept) (d : ℕ) → d < DEVICES → is_unplugged (state_of k.history) d ≡ true → Pulls (own_of k DRIVER) d
unplugged_pulls k d within e =
    let plugged = (state_of k.history).plugged in
    let there = slice_get-get_or plugged d false (subst (λ (n : ℕ). d < n) (sym (device_count k.history)) within) in
    slice_get-map not plugged d ∙ pulled_if (slice_get plugged d) (get_or plugged d false) there e
