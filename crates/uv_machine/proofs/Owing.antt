-- What a state owes falls by one with each entry, but for what an Open or an Enter takes; and so do the Makes to come.
use Rattle.std.proofs.Common.{◌≡◌, ℕ, suc, ◌+◌, ◌<◌, ◌≤◌, Bool, true, false, List, [], ◌∷◌, ◌++◌, Option, Some, None, map, refl, ap, sym, ◌∙◌, subst, arith, length, drop}
use Rattle.std.specs.Prelude.{reverse, not, ◌&&◌, ◌||◌, ◌==◌, nat_lt, slice_get, option_map, sum_by, is_none, unwrap_or, if◌then◌else◌}
use Rattle.std.specs.List.{list_any}
use Rattle.std.proofs.lemmas.Bool.{and_parts, and_from}
use Rattle.std.proofs.lemmas.List.Sums.{sum_by_push}
use Rattle.uv_num.specs.declared.errno.Errno.{Errno}
use Rattle.uv_num.specs.declared.limits.TheConstants.{DRIVER, MOST_OBJECTS}
use Rattle.uv_num.specs.declared.qp.QpState.{QpState}
use Rattle.uv_num.specs.declared.request.Act as request
use Rattle.uv_num.specs.declared.request.Act.TheVariants.{Modify, Query, Bind, Unbind, Async}
use Rattle.uv_num.specs.Looks.{looks_of}
use Rattle.uv_num.specs.Place.{at_place}
use Rattle.uv_num.specs.Request.{role_of}
use Rattle.uv_machine.specs.declared.entry.Word.{Word}
use Rattle.uv_machine.specs.declared.entry.Word.TheVariants.{Reserve, Look, Make, Commit, Act, Lock, Check, Finish, Abort, Free, Exit}
use Rattle.uv_machine.specs.declared.entry.Answer.{Answer}
use Rattle.uv_machine.specs.declared.entry.Entry.{Entry}
use Rattle.uv_machine.specs.declared.entry.Entry.TheVariants.{Open, Enter, Step, Unplug, Tear, Kill, Gone, Dissociated, Closed}
use Rattle.uv_machine.specs.declared.object.Phase.{Phase}
use Rattle.uv_machine.specs.declared.object.Phase.TheVariants as phase
use Rattle.uv_machine.specs.declared.object.Object.{Object}
use Rattle.uv_machine.specs.declared.object.Change.{Change}
use Rattle.uv_machine.specs.declared.object.Change.TheVariants.{ToLive, ToDoomed, ToHusk, ToBound}
use Rattle.uv_machine.specs.declared.file.FilePhase.{FilePhase}
use Rattle.uv_machine.specs.declared.file.FilePhase.TheVariants as file
use Rattle.uv_machine.specs.declared.file.File.{File}
use Rattle.uv_machine.specs.declared.call.InFlight.{InFlight}
use Rattle.uv_machine.specs.declared.state.State.{State}
use Rattle.uv_machine.specs.Objects.{has_id, in_file, is_live, is_doomed, live_from, doomed_from, with_change, on_object}
use Rattle.uv_machine.specs.Plans.{plan_for, next_word, own_object, entered, with_refusal, with_number, with_look, with_made, with_outcome, with_lock, without_lock, without_number, without_look, moved_on}
use Rattle.uv_machine.specs.States.{call_of, object_with, phase_in, phase_of, device_of, is_open, is_callable, is_removing, is_closing, is_unplugged, is_quiet, has_users, has_doomed, has_standing, can_go, newest_free}
use Rattle.uv_machine.specs.Effects.{refusal_in, with_call, with_file, with_object, with_burial, without_object, not_with_id, binding_of, act, event_taken, buried_if_doomed, opened, in_phase, put_call, gone_from, not_in_file, unless_answered, without_plug, dissociated}
use Rattle.uv_machine.specs.Outside.{may_kill, may_kill_object, is_object, may_sweep, may_go_object}
use Rattle.uv_machine.specs.Histories.{Allowed, after}
use Rattle.uv_machine.specs.Laws.{makes_object}
use Rattle.uv_machine.specs.Accounts.{is_make, steps_ahead, makes_ahead, new_object_owes, making_owes, call_owes, phase_owes, object_owes, file_phase_owes, file_owes, one_if, owed, costs, unless_refused_costs, making_comes, call_makes, coming, brings, unless_refused_makes}
use Rattle.uv_machine.proofs.Sums.{worth, sum_by-at_place_worth, sum_by-filter-le, sum_by-map-le, each_item, sum_by-map-falls, find_passes, find_among, find_among_reverse}
use Rattle.uv_machine.proofs.Planned.{InPlan, IsClosing, next_word-planned, next_word-closing}
use Rattle.uv_machine.proofs.Turns.{Turn, object_made, IsTurn, IsTurn-allowed}
use Rattle.uv_machine.proofs.Turns.Turn.{Refuses, Reserves, Looks, Makes, Commits, Does, Locks, Checks, Finishes, Aborts, Frees, Leaves}
use Rattle.uv_machine.proofs.Ahead.{IsAhead-in_plan, IsNextOf, words_behind, one_make, closing_makes}
use Rattle.uv_machine.proofs.OwnCall.{OwnTurn, CallsTurn, calls_turn, call_stands, fewer_own}

-- Calls.

-- what an object of the call can still cause
abbrev pub making_of : Option InFlight → ℕ
making_of None = 0
making_of (Some call) = making_owes call call.refusal

-- a turn that makes no object
abbrev pub is_making : (call : InFlight) (slot : Option InFlight) → OwnTurn call slot → Bool
is_making call slot (OwnTurn.OwnRefuses w e plan may is) = false
is_making call slot (OwnTurn.OwnReserves n plan is) = false
is_making call slot (OwnTurn.OwnLooks o plan is) = false
is_making call slot (OwnTurn.OwnMakes o outcome plan is) = true
is_making call slot (OwnTurn.OwnCommits plan is) = false
is_making call slot (OwnTurn.OwnDoes outcome plan is) = false
is_making call slot (OwnTurn.OwnLocks o plan is) = false
is_making call slot (OwnTurn.OwnChecks plan is) = false
is_making call slot (OwnTurn.OwnFinishes plan is) = false
is_making call slot (OwnTurn.OwnAborts ends word is) = false
is_making call slot (OwnTurn.OwnFrees ends word is) = false
is_making call slot (OwnTurn.OwnLeaves ends word is) = false

-- what is so of the Makes after a turn
pub record MakesFall (call : InFlight) (slot : Option InFlight) (makes : Bool) : Type 0 where
  pub owes : making_of slot + new_object_owes makes ≤ making_owes call call.refusal
  pub comes : call_makes slot + one_if makes ≤ making_comes call call.refusal

falls_as : (call : InFlight) (slot slot' : Option InFlight) (makes : Bool) → slot ≡ slot' → MakesFall call slot' makes → MakesFall call slot makes
falls_as call slot slot' makes e f = let P : Option InFlight → Type 0 = λ s. MakesFall call s makes in subst P (sym e) f

falls_refused : (call : InFlight) (e : Errno) → MakesFall call (Some (with_refusal e call)) false
falls_refused call e = record { owes = omega arith; comes = omega arith }

falls_plain : (call call' : InFlight) (w : Word) → InPlan call w → is_make w ≡ false → IsNextOf call call' → MakesFall call (Some call') false
falls_plain call call' w plan makes next =
    let rest = drop (call.place + 1) (plan_for call.request) in
    let ahead = IsAhead-in_plan call w plan in
    let now : makes_ahead call ≡ list_any is_make rest = ap (list_any is_make) ahead.now ∙ ap (λ b. b || list_any is_make rest) makes in
    let behind_it : makes_ahead call' ≡ list_any is_make rest = ap (list_any is_make) (words_behind call call' w rest ahead next) in
    let before : making_owes call call.refusal ≡ new_object_owes (list_any is_make rest) = ap (making_owes call) plan.fine ∙ ap new_object_owes now in
    let behind : making_owes call' call'.refusal ≡ new_object_owes (list_any is_make rest) = ap (making_owes call') (next.refusal ∙ plan.fine) ∙ ap new_object_owes behind_it in
    let comes : making_comes call call.refusal ≡ one_if (list_any is_make rest) = ap (making_comes call) plan.fine ∙ ap one_if now in
    let later : making_comes call' call'.refusal ≡ one_if (list_any is_make rest) = ap (making_comes call') (next.refusal ∙ plan.fine) ∙ ap one_if behind_it in
    record { owes = omega (arith, before, behind); comes = omega (arith, comes, later) }

falls_made : (call call' : InFlight) → InPlan call Make → IsNextOf call call' → MakesFall call (Some call') true
falls_made call call' plan next =
    let rest = drop (call.place + 1) (plan_for call.request) in
    let ahead = IsAhead-in_plan call Make plan in
    let more : call.place + 1 ≡ suc call.place = omega arith in
    let last : list_any is_make rest ≡ false = ap (λ p. list_any is_make (drop p (plan_for call.request))) more ∙ one_make (role_of call.request) (length (looks_of call.request)) call.place plan.planned in
    let now : makes_ahead call ≡ true = ap (list_any is_make) ahead.now in
    let behind_it : makes_ahead call' ≡ false = ap (list_any is_make) (words_behind call call' Make rest ahead next) ∙ last in
    let before : making_owes call call.refusal ≡ 2 = ap (making_owes call) plan.fine ∙ ap new_object_owes now in
    let behind : making_owes call' call'.refusal ≡ 0 = ap (making_owes call') (next.refusal ∙ plan.fine) ∙ ap new_object_owes behind_it in
    let comes : making_comes call call.refusal ≡ 1 = ap (making_comes call) plan.fine ∙ ap one_if now in
    let later : making_comes call' call'.refusal ≡ 0 = ap (making_comes call') (next.refusal ∙ plan.fine) ∙ ap one_if behind_it in
    record { owes = omega (arith, before, behind); comes = omega (arith, comes, later) }

falls_closing : (call call' : InFlight) → IsClosing call' → MakesFall call (Some call') false
falls_closing call call' ends' = let none = closing_makes call' ends' in record { owes = omega (arith, none.0); comes = omega (arith, none.1) }

pub makes_fall : (call : InFlight) (slot : Option InFlight) (t : OwnTurn call slot) → MakesFall call slot (is_making call slot t)
makes_fall call slot (OwnTurn.OwnRefuses w e plan may is) = falls_as call slot _ false is (falls_refused call e)
makes_fall call slot (OwnTurn.OwnReserves n plan is) = falls_as call slot _ false is (falls_plain call (with_number (Some n) call) Reserve plan refl (record { request = refl; refusal = refl; place = refl }))
makes_fall call slot (OwnTurn.OwnLooks o plan is) = falls_as call slot _ false is (falls_plain call (with_look o call) Look plan refl (record { request = refl; refusal = refl; place = refl }))
makes_fall call slot (OwnTurn.OwnMakes o outcome plan is) = falls_as call slot _ true is (falls_made call (with_made o outcome call) plan (record { request = refl; refusal = refl; place = refl }))
makes_fall call slot (OwnTurn.OwnCommits plan is) = falls_as call slot _ false is (falls_plain call (without_lock call) Commit plan refl (record { request = refl; refusal = refl; place = refl }))
makes_fall call slot (OwnTurn.OwnDoes outcome plan is) = falls_as call slot _ false is (falls_plain call (with_outcome outcome call) Act plan refl (record { request = refl; refusal = refl; place = refl }))
makes_fall call slot (OwnTurn.OwnLocks o plan is) = falls_as call slot _ false is (falls_plain call (with_lock o call) Lock plan refl (record { request = refl; refusal = refl; place = refl }))
makes_fall call slot (OwnTurn.OwnChecks plan is) = falls_as call slot _ false is (falls_plain call (moved_on call) Check plan refl (record { request = refl; refusal = refl; place = refl }))
makes_fall call slot (OwnTurn.OwnFinishes plan is) = falls_as call slot _ false is (falls_plain call (without_lock call) Finish plan refl (record { request = refl; refusal = refl; place = refl }))
makes_fall call slot (OwnTurn.OwnAborts ends word is) = falls_as call slot _ false is (falls_closing call (without_number call) ends)
makes_fall call slot (OwnTurn.OwnFrees ends word is) = falls_as call slot _ false is (falls_closing call (without_look call) ends)
makes_fall call slot (OwnTurn.OwnLeaves ends word is) = falls_as call slot _ false is (record { owes = omega arith; comes = omega arith })

slot_owes : (slot : Option InFlight) → call_owes slot ≡ steps_ahead slot + making_of slot
slot_owes None = refl
slot_owes (Some call) = refl

-- a sum over the calls, of which one has changed
pub calls_sum : (f : Option InFlight → ℕ) (m m' : State) (c : ℕ) (call : InFlight) (g : Option InFlight → Option InFlight) → m'.calls ≡ at_place m.calls c g → call_of m c ≡ Some call → sum_by f m'.calls + f (Some call) ≡ sum_by f m.calls + f (g (Some call))
calls_sum f m m' c call g calls is =
    let stands = call_stands m c call is in
    let here : worth f (slice_get m.calls c) ≡ f (Some call) = ap (worth f) stands in
    let there : worth f (option_map g (slice_get m.calls c)) ≡ f (g (Some call)) = ap (λ v. worth f (option_map g v)) stands in
    let with_change : sum_by f m'.calls ≡ sum_by f (at_place m.calls c g) = ap (sum_by f) calls in
    omega (arith, sum_by-at_place_worth f g m.calls c, here, there, with_change)

-- Objects.

doomed_phase_owes : (p : Phase) → phase_owes (doomed_from p) ≤ phase_owes p
doomed_phase_owes phase.Made = omega arith
doomed_phase_owes phase.Live = omega arith
doomed_phase_owes phase.Doomed = omega arith
doomed_phase_owes phase.Husk = omega arith

live_phase_owes : (p : Phase) → phase_owes (live_from p) ≤ phase_owes p
live_phase_owes phase.Made = omega arith
live_phase_owes phase.Live = omega arith
live_phase_owes phase.Doomed = omega arith
live_phase_owes phase.Husk = omega arith

changed_owes : (b : Bool) (change : Change) (x : Object) → object_owes (if b then with_change change x else x) ≤ object_owes x
changed_owes true ToLive x = live_phase_owes x.phase
changed_owes true ToDoomed x = doomed_phase_owes x.phase
changed_owes true ToHusk x = omega arith
changed_owes true (ToBound binding) x = omega arith
changed_owes false change x = omega arith

change_owes : (o : ℕ) (change : Change) (x : Object) → object_owes (on_object o change x) ≤ object_owes x
change_owes o change x = changed_owes (has_id o x) change x

objects_change : (objects : List Object) (o : ℕ) (change : Change) → sum_by object_owes (map (on_object o change) objects) ≤ sum_by object_owes objects
objects_change objects o change = sum_by-map-le object_owes (on_object o change) objects (each_item _ (change_owes o change) objects)

room_owes : (b : Bool) (x : Object) (objects : List Object) → object_owes x ≡ 2 → sum_by object_owes (if b then objects ++ x ∷ [] else objects) ≤ sum_by object_owes objects + 2
room_owes true x objects two = omega (arith, sum_by_push object_owes objects x, two)
room_owes false x objects two = omega arith

-- What a turn leaves of devices, files and objects.

pub record RestOwes (m m' : State) (more : ℕ) : Type 0 where
  pub devices : sum_by one_if m'.plugged ≤ sum_by one_if m.plugged
  pub files : sum_by file_owes m'.files ≤ sum_by file_owes m.files
  pub objects : sum_by object_owes m'.objects ≤ sum_by object_owes m.objects + more

rest_as : (m m' m'' : State) (more : ℕ) → m' ≡ m'' → RestOwes m m'' more → RestOwes m m' more
rest_as m m' m'' more e r = let P : State → Type 0 = λ s. RestOwes m s more in subst P (sym e) r

rest_calls : (m : State) (c : ℕ) (g : Option InFlight → Option InFlight) → RestOwes m (record m { calls = at_place m.calls c g }) 0
rest_calls m c g = record { devices = omega arith; files = omega arith; objects = omega arith }

rest_object : (m : State) (c o : ℕ) (change : Change) (g : InFlight → InFlight) → RestOwes m (with_call (with_object m o change) c g) 0
rest_object m c o change g = record { devices = omega arith; files = omega arith; objects = omega (arith, objects_change m.objects o change) }

taken_worth : (slot : Option File) → worth file_owes (option_map event_taken slot) ≡ worth file_owes slot
taken_worth None = refl
taken_worth (Some x) = refl

rest_act : (m : State) (c : ℕ) (call : InFlight) (a : Answer) (what : request.Act) → RestOwes m (act m c call a what) 0
rest_act m c call a (Modify to attrs) = rest_calls m c _
rest_act m c call a Query = rest_calls m c _
rest_act m c call a (Bind offset length access) = rest_object m c _ (ToBound (Some (binding_of call offset length access))) _
rest_act m c call a (Unbind offset length access) = rest_object m c _ (ToBound None) _
rest_act m c call a Async = record { devices = omega arith; files = omega (arith, sum_by-at_place_worth file_owes event_taken m.files call.file, taken_worth (slice_get m.files call.file)); objects = omega arith }

rest_finish_by : (b : Bool) (m : State) (c o : ℕ) (x : Object) → RestOwes m (with_call (without_object (if b then with_burial m x else m) o) c without_lock) 0
rest_finish_by true m c o x = record { devices = omega arith; files = omega arith; objects = omega (arith, sum_by-filter-le object_owes (not_with_id o) m.objects) }
rest_finish_by false m c o x = record { devices = omega arith; files = omega arith; objects = omega (arith, sum_by-filter-le object_owes (not_with_id o) m.objects) }

rest_finish : (m : State) (c o : ℕ) (slot : Option Object) → RestOwes m (with_call (without_object (buried_if_doomed m slot) o) c without_lock) 0
rest_finish m c o None = record { devices = omega arith; files = omega arith; objects = omega (arith, sum_by-filter-le object_owes (not_with_id o) m.objects) }
rest_finish m c o (Some x) = rest_finish_by (is_doomed x.phase) m c o x

-- a turn of a call
pub record TurnOwes (m : State) (c : ℕ) (call : InFlight) (m' : State) : Type 0 where
  pub calls : CallsTurn m c call m'
  pub rest : RestOwes m m' (new_object_owes (is_making call (calls.change (Some call)) calls.own))

turn_owes : (m : State) (c : ℕ) (call : InFlight) (a : Answer) (m' : State) → Turn m c call a m' → TurnOwes m c call m'
turn_owes m c call a m' (Refuses k) = record { calls = calls_turn m c call a m' (Refuses k); rest = rest_as m m' _ 0 k.gives (rest_calls m c _) }
turn_owes m c call a m' (Reserves k) = record { calls = calls_turn m c call a m' (Reserves k); rest = rest_as m m' _ 0 k.gives (rest_calls m c _) }
turn_owes m c call a m' (Looks k) = record { calls = calls_turn m c call a m' (Looks k); rest = rest_as m m' _ 0 k.gives (rest_calls m c _) }
turn_owes m c call a m' (Makes k) =
    let x = object_made m call k.kind k.index in
    record {
      calls = calls_turn m c call a m' (Makes k);
      rest = rest_as m m' _ 2 k.gives (record { devices = omega arith; files = omega arith; objects = room_owes (nat_lt (length m.objects) MOST_OBJECTS) x m.objects refl });
    }
turn_owes m c call a m' (Commits k) = record { calls = calls_turn m c call a m' (Commits k); rest = rest_as m m' _ 0 k.gives (rest_object m c _ ToLive _) }
turn_owes m c call a m' (Does k) = record { calls = calls_turn m c call a m' (Does k); rest = rest_as m m' _ 0 k.gives (rest_act m c call a k.what) }
turn_owes m c call a m' (Locks k) = record { calls = calls_turn m c call a m' (Locks k); rest = rest_as m m' _ 0 k.gives (rest_calls m c _) }
turn_owes m c call a m' (Checks k) = record { calls = calls_turn m c call a m' (Checks k); rest = rest_as m m' _ 0 k.gives (rest_object m c _ ToDoomed _) }
turn_owes m c call a m' (Finishes k) = record { calls = calls_turn m c call a m' (Finishes k); rest = rest_as m m' _ 0 k.gives (rest_finish m c (own_object call) (object_with m (own_object call))) }
turn_owes m c call a m' (Aborts k) = record { calls = calls_turn m c call a m' (Aborts k); rest = rest_as m m' _ 0 k.gives (rest_calls m c _) }
turn_owes m c call a m' (Frees k) = record { calls = calls_turn m c call a m' (Frees k); rest = rest_as m m' _ 0 k.gives (rest_calls m c _) }
turn_owes m c call a m' (Leaves k) = record { calls = calls_turn m c call a m' (Leaves k); rest = rest_as m m' _ 0 k.gives (rest_calls m c _) }

step_owes : (m m' : State) (c : ℕ) (w : Word) (o : ℕ) (found : Option QpState) (a : Answer) → IsTurn m c w o found a m' → owed m' + 1 ≤ owed m
step_owes m m' c w o found a t =
    let k = turn_owes m c t.call a m' t.turn in
    let slot = k.calls.change (Some t.call) in
    let fall = makes_fall t.call slot k.calls.own in
    omega (arith, calls_sum call_owes m m' c t.call k.calls.change k.calls.calls t.is, fewer_own t.call slot k.calls.own, fall.owes, slot_owes slot, slot_owes (Some t.call), k.rest.devices, k.rest.files, k.rest.objects)

-- The entries that no call makes.

file_worth : (slot : Option File) → worth file_owes slot ≡ file_phase_owes (phase_in slot)
file_worth None = refl
file_worth (Some x) = refl

new_file_worth : (g : File → File) (n : ℕ) → ((x : File) → file_owes (g x) ≤ n) → (slot : Option File) → worth file_owes (option_map g slot) ≤ n
new_file_worth g n small None = omega arith
new_file_worth g n small (Some x) = small x

files_change : (m : State) (f : ℕ) (g : File → File) (n : ℕ) → ((x : File) → file_owes (g x) ≤ n) → sum_by file_owes (at_place m.files f g) + file_phase_owes (phase_of m f) ≤ sum_by file_owes m.files + n
files_change m f g n small =
    omega (arith, sum_by-at_place_worth file_owes g m.files f, file_worth (slice_get m.files f), new_file_worth g n small (slice_get m.files f))

-- what a tear leaves a file to owe
abbrev pub torn_by : Bool → ℕ
torn_by driver = if driver then 3 else 1

torn_owes : (driver : Bool) (p : FilePhase) (unplugged : Bool) → (if driver then is_open p && unplugged else is_callable p) ≡ true → torn_by driver + 1 ≤ file_phase_owes p
torn_owes true file.Fresh unplugged e = absurd cc
torn_owes true file.Open unplugged e = omega arith
torn_owes true (file.Tearing by) unplugged e = absurd cc
torn_owes true file.Dissociated unplugged e = absurd cc
torn_owes true file.Closed unplugged e = absurd cc
torn_owes false file.Fresh unplugged e = absurd cc
torn_owes false file.Open unplugged e = omega arith
torn_owes false (file.Tearing by) unplugged e = absurd cc
torn_owes false file.Dissociated unplugged e = omega arith
torn_owes false file.Closed unplugged e = absurd cc

removed_by : (b : Bool) → b ≡ true → torn_by b ≡ 3
removed_by true e = refl
removed_by false e = absurd cc

removing_owes : (p : FilePhase) → is_removing p ≡ true → 3 ≤ file_phase_owes p
removing_owes file.Fresh e = absurd cc
removing_owes file.Open e = absurd cc
removing_owes (file.Tearing by) e = omega (arith, removed_by (by == DRIVER) e)
removing_owes file.Dissociated e = absurd cc
removing_owes file.Closed e = absurd cc

torn_least : (b : Bool) → 1 ≤ torn_by b
torn_least true = omega arith
torn_least false = omega arith

closing_owes : (p : FilePhase) → is_closing p ≡ true → 1 ≤ file_phase_owes p
closing_owes file.Fresh e = absurd cc
closing_owes file.Open e = absurd cc
closing_owes (file.Tearing by) e = torn_least (by == DRIVER)
closing_owes file.Dissociated e = absurd cc
closing_owes file.Closed e = absurd cc

unless_answered_owes : (m n : State) (r : Option Errno) (more : ℕ) → owed n ≤ owed m + more → owed (unless_answered m r n) + 1 ≤ owed m + unless_refused_costs r more
unless_answered_owes m n None more le = omega arith
unless_answered_owes m n (Some e) more le = omega arith

entered_worth : (call : InFlight) (slot : Option (Option InFlight)) → worth call_owes (option_map (put_call call) slot) ≤ call_owes (Some call)
entered_worth call None = omega arith
entered_worth call (Some inner) = omega arith

-- a device that is pulled was plugged in
plug_worth : (slot : Option Bool) → not (unwrap_or slot false) ≡ false → worth one_if slot ≡ 1
plug_worth None e = absurd cc
plug_worth (Some true) e = refl
plug_worth (Some false) e = absurd cc

no_plug_worth : (slot : Option Bool) → worth one_if (option_map without_plug slot) ≡ 0
no_plug_worth None = refl
no_plug_worth (Some b) = refl

-- an object of this id, live or doomed
abbrev pub is_live_with : ℕ → Object → Bool
is_live_with o x = has_id o x && is_live x.phase

abbrev pub is_doomed_with : ℕ → Object → Bool
is_doomed_with o x = has_id o x && is_doomed x.phase

doomed_live_owes : (p : Phase) → is_live p ≡ true → phase_owes (doomed_from p) < phase_owes p
doomed_live_owes phase.Made e = absurd cc
doomed_live_owes phase.Live e = omega arith
doomed_live_owes phase.Doomed e = absurd cc
doomed_live_owes phase.Husk e = absurd cc

husk_doomed_owes : (p : Phase) → is_doomed p ≡ true → 0 < phase_owes p
husk_doomed_owes phase.Made e = absurd cc
husk_doomed_owes phase.Live e = absurd cc
husk_doomed_owes phase.Doomed e = omega arith
husk_doomed_owes phase.Husk e = absurd cc

killed_falls : (b : Bool) (x : Object) → b ≡ true → is_live x.phase ≡ true → object_owes (if b then with_change ToDoomed x else x) < object_owes x
killed_falls true x is live = doomed_live_owes x.phase live
killed_falls false x is live = absurd cc

gone_falls : (b : Bool) (x : Object) → b ≡ true → is_doomed x.phase ≡ true → object_owes (if b then with_change ToHusk x else x) < object_owes x
gone_falls true x is doomed = husk_doomed_owes x.phase doomed
gone_falls false x is doomed = absurd cc

can_go_live : (m : State) (f o : ℕ) (slot : Option Object) → newest_free m f ≡ slot → is_object o slot ≡ true → list_any (is_live_with o) m.objects ≡ true
can_go_live m f o None is e = absurd cc
can_go_live m f o (Some x) is e =
    let can = and_parts (in_file f x) (is_live x.phase && not (has_users m x.id)) (find_passes (can_go m f) (reverse m.objects) x is) in
    let live = and_parts (is_live x.phase) (not (has_users m x.id)) can.1 in
    find_among_reverse (can_go m f) (is_live_with o) m.objects x is (and_from (has_id o x) (is_live x.phase) e live.0)

killed_stands : (m : State) (o : ℕ) (slot : Option Object) → may_kill_object m o slot ≡ true → list_any (is_live_with o) m.objects ≡ true
killed_stands m o None e = absurd cc
killed_stands m o (Some x) e =
    let swept = and_parts (may_sweep m x.file) (not (has_doomed m x.file) && is_object o (newest_free m x.file)) e in
    let newest = and_parts (not (has_doomed m x.file)) (is_object o (newest_free m x.file)) swept.1 in
    can_go_live m x.file o (newest_free m x.file) refl newest.1

kill_owes : (m : State) (o : ℕ) → may_kill m o ≡ true → owed (with_object m o ToDoomed) + 1 ≤ owed m
kill_owes m o may =
    let falls = sum_by-map-falls object_owes (on_object o ToDoomed) (is_live_with o) m.objects (change_owes o ToDoomed)
    (λ x is. (let parts = and_parts (has_id o x) (is_live x.phase) is in killed_falls (has_id o x) x parts.0 parts.1))
    (killed_stands m o (object_with m o) may) in
    omega (arith, falls)

gone_owes : (m : State) (o : ℕ) (slot : Option Object) → object_with m o ≡ slot → may_go_object m slot ≡ true → owed (gone_from m o slot) + 1 ≤ owed m
gone_owes m o None is may = absurd cc
gone_owes m o (Some x) is may =
    let doomed = and_parts (is_doomed x.phase) (may_sweep m x.file) may in
    let stands = find_among (has_id o) (is_doomed_with o) m.objects x is (and_from (has_id o x) (is_doomed x.phase) (find_passes (has_id o) m.objects x is) doomed.0) in
    let falls = sum_by-map-falls object_owes (on_object o ToHusk) (is_doomed_with o) m.objects (change_owes o ToHusk)
    (λ y same. (let parts = and_parts (has_id o y) (is_doomed y.phase) same in gone_falls (has_id o y) y parts.0 parts.1))
    stands in
    omega (arith, falls)

-- what is owed covers each entry
pub owed_after : (m : State) (e : Entry) → Allowed m e → owed (after m e) + 1 ≤ owed m + costs e
owed_after m (Open c f d a) allowed =
    unless_answered_owes m (with_file m f (opened c d)) (refusal_in a) 4 (omega (arith, files_change m f (opened c d) 4 (λ x. omega arith)))
owed_after m (Enter c f request a) allowed =
    let call = entered f request in
    unless_answered_owes m (record m { calls = at_place m.calls c (put_call call) }) (refusal_in a) (call_owes (Some call))
    (omega (arith, sum_by-at_place_worth call_owes (put_call call) m.calls c, entered_worth call (slice_get m.calls c)))
owed_after m (Step c w o found a) allowed =
    let pays = step_owes m (after m (Step c w o found a)) c w o found a (IsTurn-allowed m c w o found a allowed) in
    omega (arith, pays)
owed_after m (Unplug d) allowed =
    omega (arith, sum_by-at_place_worth one_if without_plug m.plugged d, plug_worth (slice_get m.plugged d) allowed.1, no_plug_worth (slice_get m.plugged d))
owed_after m (Tear f by) allowed =
    omega (arith, files_change m f (in_phase (file.Tearing by)) (torn_by (by == DRIVER)) (λ x. omega arith), torn_owes (by == DRIVER) (phase_of m f) (is_unplugged m (device_of m f)) allowed.2)
owed_after m (Kill o) allowed = omega (arith, kill_owes m o allowed)
owed_after m (Gone o kept) allowed = omega (arith, gone_owes m o (object_with m o) refl allowed)
owed_after m (Dissociated f) allowed =
    let removing = and_parts (is_removing (phase_of m f)) (is_quiet m f && not (has_standing m f)) allowed.1 in
    omega (arith, files_change m f dissociated 2 (λ x. omega arith), removing_owes (phase_of m f) removing.0)
owed_after m (Closed f) allowed =
    let closing = and_parts (is_closing (phase_of m f)) (is_quiet m f && not (has_standing m f)) allowed.1 in
    omega (arith, files_change m f (in_phase file.Closed) 0 (λ x. omega arith), closing_owes (phase_of m f) closing.0, sum_by-filter-le object_owes (not_in_file f) m.objects)

-- The Makes to come.

-- a step that tells a refusal makes nothing
refused_makes : (c : ℕ) (w : Word) (o : ℕ) (found : Option QpState) (a : Answer) (e : Errno) → refusal_in a ≡ Some e → makes_object (Step c w o found a) ≡ false
refused_makes c Reserve o found a e is = refl
refused_makes c Look o found a e is = refl
refused_makes c Make o found a e is = ap is_none is
refused_makes c Commit o found a e is = refl
refused_makes c Act o found a e is = refl
refused_makes c Lock o found a e is = refl
refused_makes c Check o found a e is = refl
refused_makes c Finish o found a e is = refl
refused_makes c Abort o found a e is = refl
refused_makes c Free o found a e is = refl
refused_makes c Exit o found a e is = refl

other_makes : (c : ℕ) (w : Word) (o : ℕ) (found : Option QpState) (a : Answer) → is_make w ≡ false → makes_object (Step c w o found a) ≡ false
other_makes c Reserve o found a is = refl
other_makes c Look o found a is = refl
other_makes c Make o found a is = absurd cc
other_makes c Commit o found a is = refl
other_makes c Act o found a is = refl
other_makes c Lock o found a is = refl
other_makes c Check o found a is = refl
other_makes c Finish o found a is = refl
other_makes c Abort o found a is = refl
other_makes c Free o found a is = refl
other_makes c Exit o found a is = refl

one_most : (b : Bool) → one_if b ≤ 1
one_most true = omega arith
one_most false = omega arith

-- a step makes an object only where its turn does
turn_makes : (m m' : State) (c : ℕ) (w : Word) (o : ℕ) (found : Option QpState) (a : Answer) (call : InFlight) → next_word call ≡ w → (t : Turn m c call a m') → one_if (makes_object (Step c w o found a)) ≤ one_if (is_making call ((calls_turn m c call a m' t).change (Some call)) (calls_turn m c call a m' t).own)
turn_makes m m' c w o found a call word (Refuses k) = omega (arith, ap one_if (refused_makes c w o found a k.errno k.tells))
turn_makes m m' c w o found a call word (Makes k) = one_most (makes_object (Step c w o found a))
turn_makes m m' c w o found a call word (Reserves k) = omega (arith, ap one_if (other_makes c w o found a (ap is_make (sym word ∙ next_word-planned call Reserve k.plan.fine k.plan.planned))))
turn_makes m m' c w o found a call word (Looks k) = omega (arith, ap one_if (other_makes c w o found a (ap is_make (sym word ∙ next_word-planned call Look k.plan.fine k.plan.planned))))
turn_makes m m' c w o found a call word (Commits k) = omega (arith, ap one_if (other_makes c w o found a (ap is_make (sym word ∙ next_word-planned call Commit k.plan.fine k.plan.planned))))
turn_makes m m' c w o found a call word (Does k) = omega (arith, ap one_if (other_makes c w o found a (ap is_make (sym word ∙ next_word-planned call Act k.plan.fine k.plan.planned))))
turn_makes m m' c w o found a call word (Locks k) = omega (arith, ap one_if (other_makes c w o found a (ap is_make (sym word ∙ next_word-planned call Lock k.plan.fine k.plan.planned))))
turn_makes m m' c w o found a call word (Checks k) = omega (arith, ap one_if (other_makes c w o found a (ap is_make (sym word ∙ next_word-planned call Check k.plan.fine k.plan.planned))))
turn_makes m m' c w o found a call word (Finishes k) = omega (arith, ap one_if (other_makes c w o found a (ap is_make (sym word ∙ next_word-planned call Finish k.plan.fine k.plan.planned))))
turn_makes m m' c w o found a call word (Aborts k) = omega (arith, ap one_if (other_makes c w o found a (ap is_make (sym word ∙ next_word-closing call k.ends ∙ k.word))))
turn_makes m m' c w o found a call word (Frees k) = omega (arith, ap one_if (other_makes c w o found a (ap is_make (sym word ∙ next_word-closing call k.ends ∙ k.word))))
turn_makes m m' c w o found a call word (Leaves k) = omega (arith, ap one_if (other_makes c w o found a (ap is_make (sym word ∙ next_word-closing call k.ends ∙ k.word))))

step_comes : (m m' : State) (c : ℕ) (w : Word) (o : ℕ) (found : Option QpState) (a : Answer) → IsTurn m c w o found a m' → coming m' + one_if (makes_object (Step c w o found a)) ≤ coming m
step_comes m m' c w o found a t =
    let k = calls_turn m c t.call a m' t.turn in
    let slot = k.change (Some t.call) in
    let fall = makes_fall t.call slot k.own in
    omega (arith, calls_sum call_makes m m' c t.call k.change k.calls t.is, fall.comes, turn_makes m m' c w o found a t.call t.word t.turn)

unless_answered_comes : (m n : State) (r : Option Errno) (more : ℕ) → coming n ≤ coming m + more → coming (unless_answered m r n) + 0 ≤ coming m + unless_refused_makes r more
unless_answered_comes m n None more le = omega arith
unless_answered_comes m n (Some e) more le = omega arith

entered_makes : (call : InFlight) (slot : Option (Option InFlight)) → worth call_makes (option_map (put_call call) slot) ≤ call_makes (Some call)
entered_makes call None = omega arith
entered_makes call (Some inner) = omega arith

gone_comes : (m : State) (o : ℕ) (slot : Option Object) → coming (gone_from m o slot) ≡ coming m
gone_comes m o None = refl
gone_comes m o (Some x) = refl

opened_comes : (m : State) (n : State) (r : Option Errno) → coming n ≡ coming m → coming (unless_answered m r n) ≡ coming m
opened_comes m n None e = e
opened_comes m n (Some errno) e = refl

-- no Make comes that wasn't counted
pub coming_after : (m : State) (e : Entry) → Allowed m e → coming (after m e) + one_if (makes_object e) ≤ coming m + brings e
coming_after m (Open c f d a) allowed = omega (arith, opened_comes m (with_file m f (opened c d)) (refusal_in a) refl)
coming_after m (Enter c f request a) allowed =
    let call = entered f request in
    unless_answered_comes m (record m { calls = at_place m.calls c (put_call call) }) (refusal_in a) (call_makes (Some call))
    (omega (arith, sum_by-at_place_worth call_makes (put_call call) m.calls c, entered_makes call (slice_get m.calls c)))
coming_after m (Step c w o found a) allowed =
    let pays = step_comes m (after m (Step c w o found a)) c w o found a (IsTurn-allowed m c w o found a allowed) in
    omega (arith, pays)
coming_after m (Unplug d) allowed = omega arith
coming_after m (Tear f by) allowed = omega arith
coming_after m (Kill o) allowed = omega arith
coming_after m (Gone o kept) allowed = omega (arith, gone_comes m o (object_with m o))
coming_after m (Dissociated f) allowed = omega arith
coming_after m (Closed f) allowed = omega arith
