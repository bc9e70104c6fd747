-- What waits to be planted is told by the calls in flight.
use Rattle.std.proofs.Common.{◌≡◌, ◌∙◌, ℕ, zero, suc, Bool, true, false, List, [], ◌∷◌, Option, None, Some, map, refl, sym, ap, subst}
use Rattle.std.specs.Prelude.{slice_get, option_map, if◌then◌else◌}
use Rattle.uv_num.specs.Place.{at_place}
use Rattle.uv_num.proofs.PlaceLaws.{at_place-cons}
use Rattle.uv_num.specs.declared.attrs.QpAttrs.{QpAttrs}
use Rattle.uv_num.specs.declared.kind.Kind.{Kind}
use Rattle.uv_num.specs.declared.kind.Kind.TheVariants as kind
use Rattle.uv_num.specs.declared.errno.Errno.{Errno}
use Rattle.uv_num.specs.declared.request.Act.{Act}
use Rattle.uv_num.specs.declared.request.Act.TheVariants.{Modify, Query, Bind, Unbind, Async}
use Rattle.uv_num.specs.declared.request.Role.{Role}
use Rattle.uv_num.specs.declared.request.Role.TheVariants.{Creates, Destroys, Acts}
use Rattle.uv_num.specs.declared.request.Request.{Request}
use Rattle.uv_num.specs.declared.request.Request.TheVariants.{AllocPd, DeallocPd, CreateChannel, DestroyChannel, CreateCq, DestroyCq, CreateQp, DestroyQp, ModifyQp, QueryQp, CreateSrq, DestroySrq, CreateAh, DestroyAh, RegMr, DeregMr, AllocMw, DeallocMw, BindMw, GetAsync}
use Rattle.uv_num.specs.Request.{role_of}
use Rattle.uv_machine.specs.declared.entry.Entry.{Entry}
use Rattle.uv_machine.specs.declared.entry.Entry.TheVariants.{Open, Enter, Step, Unplug, Tear, Kill, Gone, Dissociated, Closed}
use Rattle.uv_machine.specs.declared.entry.Word.{Word}
use Rattle.uv_machine.specs.declared.entry.Word.TheVariants as word
use Rattle.uv_machine.specs.declared.entry.Answer.{Answer}
use Rattle.uv_machine.specs.declared.entry.Answer.TheVariants as answer
use Rattle.uv_machine.specs.declared.moves.Move.{Move}
use Rattle.uv_machine.specs.declared.moves.Move.TheVariants as move
use Rattle.uv_machine.specs.declared.moves.Slot.{Slot}
use Rattle.uv_machine.specs.declared.moves.Slot.TheVariants.{OfCall, OfTeardown}
use Rattle.uv_machine.specs.declared.moves.Spot.{Spot}
use Rattle.uv_machine.specs.declared.object.Object.{Object}
use Rattle.uv_machine.specs.declared.call.InFlight.{InFlight}
use Rattle.uv_machine.specs.declared.state.State.{State}
use Rattle.uv_machine.specs.Objects.{is_live, is_doomed}
use Rattle.uv_machine.specs.Plans.{with_refusal, with_made, with_outcome, with_number, with_look, with_lock, moved_on, without_lock, without_number, without_look, entered}
use Rattle.uv_machine.specs.States.{call_of, object_with, home_cell, least_free, start}
use Rattle.uv_machine.specs.Effects.{refusal_in, reserve, with_call, commit, lock, check, finish, no_call, after_step, unless_refused, unless_answered, make, make_at, act, act_by, buried_if_doomed, gone_from, put_call, with_file, opened, stepped, with_burial}
use Rattle.uv_machine.specs.Histories.{after, state_of}
use Rattle.uv_machine.specs.Moves.{entry_move, word_move, step_move, move_unless, make_move, plant_move, check_move, finish_move, kill_move, gone_move, take_found, bury_found, role_move, act_move, modify_move, bind_move, unbind_move, cell_seen}
use Rattle.uv_machine.proofs.GoingOn.{state_from-snoc}
use Rattle.uv_machine.proofs.OwnCall.{call_stands}
use Rattle.uv_world.specs.declared.content.Content.{Content}
use Rattle.uv_world.specs.declared.content.Content.TheVariants as content
use Rattle.uv_world.specs.Celled.{slot_set, slots_set, value_of_slot}
use Rattle.uv_world.specs.Holdings.{Held}
use Rattle.uv_world.specs.Making.{content_for}
use Rattle.uv_world.specs.Moving.{held_moved, held_brought, held_unless, held_with_pending, held_planted, held_without, held_with_slot, held_at}
use Rattle.uv_world.specs.Waiting.{tells_of_made, waiting_of, WaitingGoesOn}

-- a change of one place of the calls, and the same place of what waits
tie_at : (calls : List (Option InFlight)) (c : ℕ) (g : Option InFlight → Option InFlight) (now : Option Content) → ((x : Option InFlight) → slice_get calls c ≡ Some x → waiting_of (g x) ≡ now) → slots_set (map waiting_of calls) c now ≡ map waiting_of (at_place calls c g)
tie_at [] c g now h = refl
tie_at (x ∷ calls) zero g now h = ap (λ (o : Option Content). o ∷ map waiting_of calls) (sym (h x refl))
tie_at (x ∷ calls) (suc c) g now h =
    at_place-cons (waiting_of x) (map waiting_of calls) c (slot_set now)
    ∙ (ap (λ (v : List (Option Content)). waiting_of x ∷ v) (tie_at calls c g now h)
    ∙ ap (map waiting_of) (sym (at_place-cons x calls c g)))

-- a change that leaves what waits
tie_stay : (calls : List (Option InFlight)) (c : ℕ) (g : Option InFlight → Option InFlight) → ((x : Option InFlight) → slice_get calls c ≡ Some x → waiting_of (g x) ≡ waiting_of x) → map waiting_of calls ≡ map waiting_of (at_place calls c g)
tie_stay [] c g h = refl
tie_stay (x ∷ calls) zero g h = ap (λ (o : Option Content). o ∷ map waiting_of calls) (sym (h x refl))
tie_stay (x ∷ calls) (suc c) g h =
    ap (λ (v : List (Option Content)). waiting_of x ∷ v) (tie_stay calls c g h)
    ∙ ap (map waiting_of) (sym (at_place-cons x calls c g))

-- a change of a call that keeps its request and outcome
plain_slot : (f : InFlight → InFlight) → ((k : InFlight) → waiting_of (Some (f k)) ≡ waiting_of (Some k)) → (x : Option InFlight) → waiting_of (option_map f x) ≡ waiting_of x
plain_slot f h None = refl
plain_slot f h (Some k) = h k

plain : (calls : List (Option InFlight)) (c : ℕ) (f : InFlight → InFlight) → ((k : InFlight) → waiting_of (Some (f k)) ≡ waiting_of (Some k)) → map waiting_of calls ≡ map waiting_of (at_place calls c (option_map f))
plain calls c f h = tie_stay calls c (option_map f) (λ x _. plain_slot f h x)

unless_plain : (m fine : State) (c : ℕ) (r : Option Errno) → map waiting_of m.calls ≡ map waiting_of fine.calls → map waiting_of m.calls ≡ map waiting_of (unless_refused m c r fine).calls
unless_plain m fine c None h = h
unless_plain m fine c (Some e) h = plain m.calls c (with_refusal e) (λ k. refl)

-- What moves leave.

set_pending : (h : Held) (spot : Spot) (o : Option Content) → (held_planted h spot o).pending ≡ h.pending
set_pending h spot None = refl
set_pending h spot (Some (content.Channel events)) = refl
set_pending h spot (Some (content.Cq q)) = refl
set_pending h spot (Some (content.Qp p)) = refl
set_pending h spot (Some (content.Srq q)) = refl
set_pending h spot (Some (content.Ah a)) = refl
set_pending h spot (Some (content.Mr r)) = refl
set_pending h spot (Some (content.Mw w)) = refl

without_pending : (h : Held) (at : ℕ) (k : Kind) → (held_without h at k).pending ≡ h.pending
without_pending h at kind.Pd = refl
without_pending h at kind.Channel = refl
without_pending h at kind.Cq = refl
without_pending h at kind.Qp = refl
without_pending h at kind.Srq = refl
without_pending h at kind.Ah = refl
without_pending h at kind.Mr = refl
without_pending h at kind.Mw = refl

slot_pending : (h : Held) (slot : Slot) (o : Option Content) → (held_with_slot h slot o).pending ≡ h.pending
slot_pending h (OfCall c) o = refl
slot_pending h (OfTeardown f) o = refl

take_if : (h : Held) (slot : Slot) (x : Object) (b : Bool) → (held_moved h (if b then move.Takes slot x.kind x.index else move.Stays)).pending ≡ h.pending
take_if h slot x true = slot_pending (held_without h x.index x.kind) slot (held_at h x.index x.kind) ∙ without_pending h x.index x.kind
take_if h slot x false = refl

take_pending : (h : Held) (slot : Slot) (x : Object) → (held_moved h (take_found slot x)).pending ≡ h.pending
take_pending h slot x = take_if h slot x (is_live x.phase)

check_pending : (h : Held) (c : ℕ) (o : Option Object) → (held_moved h (check_move c o)).pending ≡ h.pending
check_pending h c None = refl
check_pending h c (Some x) = take_pending h (OfCall c) x

kill_pending : (h : Held) (o : Option Object) → (held_moved h (kill_move o)).pending ≡ h.pending
kill_pending h None = refl
kill_pending h (Some x) = take_pending h (OfTeardown x.file) x

bury_if : (h : Held) (slot : Slot) (b : Bool) → (held_moved h (if b then move.Buries slot else move.Stays)).pending ≡ h.pending
bury_if h slot true = slot_pending h slot None
bury_if h slot false = refl

bury_pending : (h : Held) (slot : Slot) (x : Object) → (held_moved h (bury_found slot x)).pending ≡ h.pending
bury_pending h slot x = bury_if h slot (is_doomed x.phase)

finish_pending : (h : Held) (c : ℕ) (o : Option Object) → (held_moved h (finish_move c o)).pending ≡ h.pending
finish_pending h c None = refl
finish_pending h c (Some x) = bury_pending h (OfCall c) x

gone_pending : (h : Held) (o : Option Object) → (held_moved h (gone_move o)).pending ≡ h.pending
gone_pending h None = refl
gone_pending h (Some x) = bury_pending h (OfTeardown x.file) x

modify_pending : (h : Held) (at : Option ℕ) (to : ℕ) (attrs : QpAttrs) → (held_moved h (modify_move at to attrs)).pending ≡ h.pending
modify_pending h None to attrs = refl
modify_pending h (Some at) to attrs = refl

bind_pending : (h : Held) (window region : Option ℕ) (offset length access : ℕ) → (held_moved h (bind_move window region offset length access)).pending ≡ h.pending
bind_pending h None region offset length access = refl
bind_pending h (Some window) None offset length access = refl
bind_pending h (Some window) (Some region) offset length access = refl

unbind_pending : (h : Held) (window : Option ℕ) → (held_moved h (unbind_move window)).pending ≡ h.pending
unbind_pending h None = refl
unbind_pending h (Some window) = refl

act_pending : (h : Held) (m : State) (call : InFlight) (what : Act) → (held_moved h (act_move m call what)).pending ≡ h.pending
act_pending h m call (Modify to attrs) = modify_pending h (cell_seen m 0 call) to attrs
act_pending h m call Query = refl
act_pending h m call (Bind offset length access) = bind_pending h (cell_seen m 0 call) (cell_seen m 1 call) offset length access
act_pending h m call (Unbind offset length access) = unbind_pending h (cell_seen m 0 call)
act_pending h m call Async = refl

role_pending : (h : Held) (m : State) (call : InFlight) (r : Role) → (held_moved h (role_move m call r)).pending ≡ h.pending
role_pending h m call (Creates k) = refl
role_pending h m call (Destroys asked) = refl
role_pending h m call (Acts what) = act_pending h m call what

unless_pending : (h : Held) (r : Option Errno) (step : Move) → (held_moved h step).pending ≡ h.pending → (held_moved h (move_unless r step)).pending ≡ h.pending
unless_pending h None step e = e
unless_pending h (Some e') step e = refl

-- What effects leave.

burial_calls_if : (m : State) (x : Object) (b : Bool) → (if b then with_burial m x else m).calls ≡ m.calls
burial_calls_if m x true = refl
burial_calls_if m x false = refl

burial_calls : (m : State) (o : Option Object) → (buried_if_doomed m o).calls ≡ m.calls
burial_calls m None = refl
burial_calls m (Some x) = burial_calls_if m x (is_doomed x.phase)

gone_calls : (m : State) (o : ℕ) (x : Option Object) → (gone_from m o x).calls ≡ m.calls
gone_calls m o None = refl
gone_calls m o (Some x) = refl

open_calls : (m : State) (f c d : ℕ) (r : Option Errno) → (unless_answered m r (with_file m f (opened c d))).calls ≡ m.calls
open_calls m f c d None = refl
open_calls m f c d (Some e) = refl

-- The steps.

abbrev Tied : Held → State → Type 0
Tied h m = h.pending ≡ map waiting_of m.calls

none_made : (o : ℕ) (h i g : ℕ) (x : Option InFlight) → waiting_of (option_map (with_made o (answer.Made h i g)) x) ≡ None
none_made o h i g None = refl
none_made o h i g (Some k) = refl

make_at_tied : (h : Held) (m : State) (c o : ℕ) (call : InFlight) (k : Kind) (home : Option ℕ) → Tied h m → Tied (held_moved h (plant_move m c call o k home)) (make_at m c call k home)
make_at_tied h m c o call k None tied = tied
make_at_tied h m c o call k (Some index) tied =
    set_pending (record h { pending = slots_set h.pending c None }) _ (value_of_slot h.pending c)
    ∙ (ap (λ (v : List (Option Content)). slots_set v c None) tied
    ∙ tie_at m.calls c _ None (λ x _. none_made _ _ _ _ x))

make_role : (h : Held) (m : State) (c o : ℕ) (call : InFlight) (r : Role) → Tied h m → Tied (held_moved h (make_move m c call o r)) (make m c call r)
make_role h m c o call (Creates k) tied = make_at_tied h m c o call k (home_cell m k) tied
make_role h m c o call (Destroys asked) tied = tied
make_role h m c o call (Acts a) tied = tied

make_tied : (h : Held) (m : State) (c o : ℕ) (call : InFlight) (r : Option Errno) → Tied h m → Tied (held_moved h (move_unless r (make_move m c call o (role_of call.request)))) (unless_refused m c r (make m c call (role_of call.request)))
make_tied h m c o call None tied = make_role h m c o call (role_of call.request) tied
make_tied h m c o call (Some e) tied = tied ∙ plain m.calls c (with_refusal e) (λ k. refl)

content_none : (request : Request) (what : Act) → role_of request ≡ Acts what → content_for request ≡ None
content_none AllocPd what e = refl
content_none (DeallocPd pd) what e = refl
content_none CreateChannel what e = absurd cc
content_none (DestroyChannel channel) what e = refl
content_none (CreateCq depth channel) what e = absurd cc
content_none (DestroyCq cq) what e = refl
content_none (CreateQp pd send_cq recv_cq srq service send_depth recv_depth) what e = absurd cc
content_none (DestroyQp qp) what e = refl
content_none (ModifyQp qp to attrs) what e = refl
content_none (QueryQp qp) what e = refl
content_none (CreateSrq pd depth) what e = absurd cc
content_none (DestroySrq srq) what e = refl
content_none (CreateAh pd device) what e = absurd cc
content_none (DestroyAh ah) what e = refl
content_none (RegMr pd length access) what e = absurd cc
content_none (DeregMr mr) what e = refl
content_none (AllocMw pd) what e = absurd cc
content_none (DeallocMw mw) what e = refl
content_none (BindMw mw mr offset length access) what e = refl
content_none GetAsync what e = refl

acts_none : (request : Request) (b : Bool) (what : Act) → role_of request ≡ Acts what → (if b then None else content_for request) ≡ None
acts_none request true what e = refl
acts_none request false what e = content_none request what e

act_slot : (a : Answer) (call : InFlight) (what : Act) (x slot : Option InFlight) → role_of call.request ≡ Acts what → x ≡ Some call → waiting_of (option_map (with_outcome a) x) ≡ waiting_of x
act_slot a call what x slot role same =
    let P : Option InFlight → Type 0 = λ y. waiting_of (option_map (with_outcome a) y) ≡ waiting_of y in
    subst P (sym same) (acts_none call.request (tells_of_made a) what role ∙ sym (acts_none call.request (tells_of_made call.outcome) what role))

one_slot : (o : Option (Option InFlight)) (x y : Option InFlight) → o ≡ Some x → o ≡ Some y → x ≡ y
one_slot o x y e f = cc

acted : (m : State) (c : ℕ) (call : InFlight) (a : Answer) (what : Act) → slice_get m.calls c ≡ Some (Some call) → role_of call.request ≡ Acts what → map waiting_of m.calls ≡ map waiting_of (at_place m.calls c (option_map (with_outcome a)))
acted m c call a what slot role = tie_stay m.calls c (option_map (with_outcome a)) (λ x e. act_slot a call what x x role (one_slot (slice_get m.calls c) x (Some call) e slot))

act_case : (m : State) (c : ℕ) (call : InFlight) (a : Answer) (what : Act) → slice_get m.calls c ≡ Some (Some call) → role_of call.request ≡ Acts what → map waiting_of m.calls ≡ map waiting_of (act m c call a what).calls
act_case m c call a (Modify to attrs) slot role = acted m c call a (Modify to attrs) slot role
act_case m c call a Query slot role = acted m c call a Query slot role
act_case m c call a (Bind offset length access) slot role = acted m c call a (Bind offset length access) slot role
act_case m c call a (Unbind offset length access) slot role = acted m c call a (Unbind offset length access) slot role
act_case m c call a Async slot role = acted m c call a Async slot role

act_role : (m : State) (c : ℕ) (call : InFlight) (a : Answer) (r : Role) → slice_get m.calls c ≡ Some (Some call) → role_of call.request ≡ r → map waiting_of m.calls ≡ map waiting_of (act_by m c call a r).calls
act_role m c call a (Creates k) slot role = refl
act_role m c call a (Destroys asked) slot role = refl
act_role m c call a (Acts what) slot role = act_case m c call a what slot role

word_tied : (h : Held) (m : State) (c : ℕ) (call : InFlight) (w : Word) (o : ℕ) (a : Answer) → slice_get m.calls c ≡ Some (Some call) → Tied h m → Tied (held_moved h (word_move m c call w o a)) (stepped m c call w o a)
word_tied h m c call word.Reserve o a slot tied = tied ∙ unless_plain m (reserve m c call) c (refusal_in a) (plain m.calls c (with_number (least_free m call.file)) (λ k. refl))
word_tied h m c call word.Look o a slot tied = tied ∙ unless_plain m (with_call m c (with_look o)) c (refusal_in a) (plain m.calls c (with_look o) (λ k. refl))
word_tied h m c call word.Make o a slot tied = make_tied h m c o call (refusal_in a) tied
word_tied h m c call word.Commit o a slot tied = tied ∙ unless_plain m (commit m c o) c (refusal_in a) (plain m.calls c without_lock (λ k. refl))
word_tied h m c call word.Act o a slot tied =
    unless_pending h (refusal_in a) (role_move m call (role_of call.request)) (role_pending h m call (role_of call.request))
    ∙ (tied ∙ unless_plain m (act_by m c call a (role_of call.request)) c (refusal_in a) (act_role m c call a (role_of call.request) slot refl))
word_tied h m c call word.Lock o a slot tied = tied ∙ unless_plain m (lock m c o) c (refusal_in a) (plain m.calls c (with_lock o) (λ k. refl))
word_tied h m c call word.Check o a slot tied =
    unless_pending h (refusal_in a) (check_move c (object_with m o)) (check_pending h c (object_with m o))
    ∙ (tied ∙ unless_plain m (check m c o) c (refusal_in a) (plain m.calls c moved_on (λ k. refl)))
word_tied h m c call word.Finish o a slot tied =
    unless_pending h (refusal_in a) (finish_move c (object_with m o)) (finish_pending h c (object_with m o))
    ∙ (tied ∙ unless_plain m (finish m c o) c (refusal_in a)
    (plain m.calls c without_lock (λ k. refl) ∙ ap (λ (v : List (Option InFlight)). map waiting_of (at_place v c (option_map without_lock))) (sym (burial_calls m (object_with m o)))))
word_tied h m c call word.Abort o a slot tied = tied ∙ unless_plain m (with_call m c without_number) c (refusal_in a) (plain m.calls c without_number (λ k. refl))
word_tied h m c call word.Free o a slot tied = tied ∙ unless_plain m (with_call m c without_look) c (refusal_in a) (plain m.calls c without_look (λ k. refl))
word_tied h m c call word.Exit o a slot tied = ap (λ (v : List (Option Content)). slots_set v c None) tied ∙ tie_at m.calls c no_call None (λ x _. refl)

step_tied : (h : Held) (m : State) (c : ℕ) (call : Option InFlight) (w : Word) (o : ℕ) (a : Answer) → call_of m c ≡ call → Tied h m → Tied (held_moved h (step_move m c call w o a)) (after_step m c call w o a)
step_tied h m c None w o a e tied = tied
step_tied h m c (Some call) w o a e tied = word_tied h m c call w o a (call_stands m c call e) tied

enter_tied : (h : Held) (m : State) (c f : ℕ) (request : Request) (r : Option Errno) → Tied h m → Tied (held_unless h r (held_with_pending h c (content_for request))) (unless_answered m r (record m { calls = at_place m.calls c (put_call (entered f request)) }))
enter_tied h m c f request None tied = ap (λ (v : List (Option Content)). slots_set v c (content_for request)) tied ∙ tie_at m.calls c (put_call (entered f request)) (content_for request) (λ x _. refl)
enter_tied h m c f request (Some e) tied = tied

entry_tied : (h : Held) (m : State) (e : Entry) → Tied h m → Tied (held_moved (held_brought h e) (entry_move m e)) (after m e)
entry_tied h m (Open c f d a) tied = tied ∙ ap (map waiting_of) (sym (open_calls m f c d (refusal_in a)))
entry_tied h m (Enter c f request a) tied = enter_tied h m c f request (refusal_in a) tied
entry_tied h m (Step c w o found a) tied = step_tied h m c (call_of m c) w o a refl tied
entry_tied h m (Unplug d) tied = tied
entry_tied h m (Tear f by) tied = tied
entry_tied h m (Kill o) tied = kill_pending h (object_with m o) ∙ tied
entry_tied h m (Gone o kept) tied =
    gone_pending h (object_with m o) ∙ (tied ∙ ap (map waiting_of) (sym (gone_calls m o (object_with m o))))
entry_tied h m (Dissociated f) tied = tied
entry_tied h m (Closed f) tied = tied

pub waiting_goes_on : WaitingGoesOn
waiting_goes_on s e tied = entry_tied s.held (state_of s.history) e tied ∙ ap (λ (m : State). map waiting_of m.calls) (sym (state_from-snoc start s.history e))
