-- There is a rule exactly where there is a refusal, and its errno is that of the refusal.
use Rattle.std.proofs.Common.{◌≡◌, ℕ, Bool, true, false, Option, Some, None, refl, ap, sym, ◌∙◌, subst, ⊎_elim}
use Rattle.std.specs.Prelude.{not, ◌==◌, ◌&&◌, ◌||◌, ◌+◌, nat_le, Result, Ok, Err, is_none, option_map, if◌then◌else◌}
use Rattle.std.proofs.lemmas.Option.{none-some, same_Some}
use Rattle.uv_num.specs.declared.access.TheConstants.{ACCESS_LOCAL_WRITE, ACCESS_REMOTE_WRITE, ACCESS_MW_BIND}
use Rattle.uv_num.specs.declared.attrs.QpAttrs.{QpAttrs}
use Rattle.uv_num.specs.declared.errno.Errno.{Errno}
use Rattle.uv_num.specs.declared.errno.Errno.TheVariants.{Inval, Io, NoMem, BadF, NoSpc, Again}
use Rattle.uv_num.specs.declared.limits.TheConstants.{NONE}
use Rattle.uv_num.specs.declared.qp.QpState.{QpState}
use Rattle.uv_num.specs.declared.request.Act.TheVariants.{Modify, Query, Bind, Unbind, Async}
use Rattle.uv_num.specs.declared.request.Ask.{Ask}
use Rattle.uv_num.specs.declared.request.Role.{Role}
use Rattle.uv_num.specs.declared.request.Role.TheVariants.{Creates, Destroys, Acts}
use Rattle.uv_num.specs.Access.{has_right}
use Rattle.uv_num.specs.Modify.{modify_to, moved, move_of, fits_move}
use Rattle.uv_num.specs.Qp.{qp_state_of}
use Rattle.uv_num.specs.Request.{role_of}
use Rattle.uv_machine.specs.declared.call.InFlight.{InFlight}
use Rattle.uv_machine.specs.declared.entry.Answer.{Answer}
use Rattle.uv_machine.specs.declared.entry.CallStep.{CallStep}
use Rattle.uv_machine.specs.declared.entry.Entry.TheVariants as entry
use Rattle.uv_machine.specs.declared.entry.Word.{Word}
use Rattle.uv_machine.specs.declared.entry.Word.TheVariants as word
use Rattle.uv_machine.specs.declared.file.FilePhase.{FilePhase}
use Rattle.uv_machine.specs.declared.file.FilePhase.TheVariants as file
use Rattle.uv_machine.specs.declared.object.Object.{Object}
use Rattle.uv_machine.specs.declared.rule.Rule.{Rule}
use Rattle.uv_machine.specs.declared.rule.Rule.TheVariants.{OpenTwice, OpenUnplugged, OpenMemory, EnterUnplugged, EnterMemory, ReserveFull, LookKind, LookUnplugged, LookHeld, MakeIds, LockKind, LockHeld, CheckUsed, BindDomain, BindRight, BindWrite, BindEmpty, BindRange, UnbindRange, EventGone, EventNone}
use Rattle.uv_machine.specs.declared.state.State.{State}
use Rattle.uv_machine.specs.Acts.{service_of_found, refused_move, has_same_domain, inval_unless, bind_refusal, gives_nothing, found_or, event_refusal}
use Rattle.uv_machine.specs.Effects.{refusal_in}
use Rattle.uv_machine.specs.Histories.{kept_in}
use Rattle.uv_machine.specs.Objects.{is_kind, region_length, region_access}
use Rattle.uv_machine.specs.Outside.{MayAnswer, needs_device}
use Rattle.uv_machine.specs.Plans.{next_word, own_object, acted_on, looked_at, look_ask}
use Rattle.uv_machine.specs.RuleNames.{errno_of, phase_rule, first_rule, table_rule, modify_rule_to, bind_rule, event_rule, cell_rule, look_rule_at, lock_rule_at, lock_rule, look_rule, make_rule, role_rule, next_rule_of, answered_by, step_refused, OpenHasRule, EnterHasRule, ActHasRule, StepHasRule, EntryHasRule}
use Rattle.uv_machine.specs.States.{call_of, object_with, published, phase_of, device_of, has_event, is_callable, is_fresh, is_dissociated, is_unplugged, is_excluded, has_users, has_others, least_free, home_cell}
use Rattle.uv_machine.specs.Steps.{plain_told, refused_told, told, look_found, look_told, cell_told, make_told, lock_found, lock_told, act_told, role_answer, fine_answer, step_answer, next_from}

-- one test, and two one after the other

one_test : (a : Bool) (r : Rule) → option_map errno_of (if a then Some r else None) ≡ (if a then Some (errno_of r) else None)
one_test true r = refl
one_test false r = refl

two_tests : (a b : Bool) (r s : Rule) → option_map errno_of (if a then Some r else (if b then Some s else None)) ≡ (if a then Some (errno_of r) else (if b then Some (errno_of s) else None))
two_tests true b r s = refl
two_tests false true r s = refl
two_tests false false r s = refl

three_tests :
    (a b c : Bool) (r s t : Rule)
    → option_map errno_of (if a then Some r else (if b then Some s else (if c then Some t else None)))
    ≡ (if a then Some (errno_of r) else (if b then Some (errno_of s) else (if c then Some (errno_of t) else None)))
three_tests true b c r s t = refl
three_tests false b c r s t = two_tests b c s t

-- Opens and enters.

pub open_has : OpenHasRule
open_has m f d = two_tests (not (is_fresh (phase_of m f))) (is_unplugged m d) OpenTwice OpenUnplugged

by_phase : (p : FilePhase) (b : Bool) → option_map errno_of (first_rule (phase_rule p) (if b then Some EnterUnplugged else None)) ≡ (if not (is_callable p) then Some BadF else (if b then Some Io else None))
by_phase file.Fresh b = refl
by_phase file.Open b = one_test b EnterUnplugged
by_phase (file.Tearing by) b = refl
by_phase file.Dissociated b = one_test b EnterUnplugged
by_phase file.Closed b = refl

pub enter_has : EnterHasRule
enter_has m f request = by_phase (phase_of m f) (is_unplugged m (device_of m f) && needs_device (role_of request))

-- Acts.

by_fit : (b : Bool) (to : QpState) → option_map errno_of (table_rule (if b then Ok to else Err Inval)) ≡ refused_move (if b then Ok to else Err Inval)
by_fit true to = refl
by_fit false to = refl

-- what a row decides: each answer of the table is a new state or EINVAL
abbrev IsByTable : Result QpState Errno → Type 0
IsByTable r = option_map errno_of (table_rule r) ≡ refused_move r

by_rows :
    {M : Type 0} (answer : Option M → Result QpState Errno) (fits : M → Bool) (to : QpState)
    → answer None ≡ Err Inval → ((row : M) → answer (Some row) ≡ (if fits row then Ok to else Err Inval)) → (row : Option M) → IsByTable (answer row)
by_rows answer fits to none some None = subst IsByTable (sym none) refl
by_rows answer fits to none some (Some row) = subst IsByTable (sym (some row)) (by_fit (fits row) to)

moved_has : (service : ℕ) (from to : QpState) (attrs : QpAttrs) → IsByTable (moved service (move_of from to) to attrs)
moved_has service from to attrs = by_rows (λ row. moved service row to attrs) (λ row. fits_move service row attrs) to refl (λ row. refl) (move_of from to)

modify_has : (service : ℕ) (from : QpState) (to : Option QpState) (attrs : QpAttrs) → option_map errno_of (modify_rule_to to (modify_to service from to attrs)) ≡ refused_move (modify_to service from to attrs)
modify_has service from None attrs = refl
modify_has service from (Some to) attrs = moved_has service from to attrs

-- the tests of a bind: domain, right, remote writes, local writes, no byte, range
bind_by : (d b w l z n : Bool) →
    option_map errno_of
    (if not d then Some BindDomain
    else (if not b then Some BindRight else (if w && not l then Some BindWrite else (if z then Some BindEmpty else (if not n then Some BindRange else None)))))
    ≡ inval_unless (d && ((b && (not w || l)) && (not z && n)))
bind_by false b w l z n = refl
bind_by true false w l z n = refl
bind_by true true true false z n = refl
bind_by true true true true true n = refl
bind_by true true true true false true = refl
bind_by true true true true false false = refl
bind_by true true false l true n = refl
bind_by true true false l false true = refl
bind_by true true false l false false = refl

bind_has : (window region : Option Object) (offset length access : ℕ) → option_map errno_of (bind_rule window region offset length access) ≡ bind_refusal window region offset length access
bind_has None region offset length access = refl
bind_has (Some window) None offset length access = refl
bind_has (Some window) (Some region) offset length access =
    bind_by
    (has_same_domain window region)
    (has_right ACCESS_MW_BIND (region_access region))
    (has_right ACCESS_REMOTE_WRITE access)
    (has_right ACCESS_LOCAL_WRITE (region_access region))
    (length == 0)
    (nat_le (offset + length) (region_length region))

unbind_by : (b : Bool) → option_map errno_of (if b then None else Some UnbindRange) ≡ inval_unless b
unbind_by true = refl
unbind_by false = refl

event_by : (b : Bool) → option_map errno_of (if b then Some EventGone else Some EventNone) ≡ (if b then Some Io else Some Again)
event_by true = refl
event_by false = refl

event_has : (waits : Bool) (p : FilePhase) → option_map errno_of (event_rule waits p) ≡ event_refusal waits p
event_has true p = refl
event_has false p = event_by (is_dissociated p)

pub act_has : ActHasRule
act_has m call found (Modify to attrs) = modify_has (service_of_found (object_with m (acted_on call))) (found_or found) (qp_state_of to) attrs
act_has m call found Query = refl
act_has m call found (Bind offset length access) = bind_has (object_with m (acted_on call)) (object_with m (looked_at 1 call)) offset length access
act_has m call found (Unbind offset length access) = unbind_by (gives_nothing offset length access)
act_has m call found Async = event_has (has_event m call.file) (phase_of m call.file)

-- Steps.

reserve_by : (b : Bool) → option_map errno_of (if b then Some ReserveFull else None) ≡ (if b then refused_told NoSpc else plain_told).refusal
reserve_by true = refl
reserve_by false = refl

look_at_has : (m : State) (f : ℕ) (asked : Ask) (found : Option Object) → option_map errno_of (look_rule_at m f asked found) ≡ (look_found m f asked found).refusal
look_at_has m f asked None = refl
look_at_has m f asked (Some x) = three_tests (not (is_kind x.kind asked.kind)) (is_unplugged m (device_of m f)) (is_excluded m x.id) LookKind LookUnplugged LookHeld

look_has : (m : State) (f : ℕ) (asked : Option Ask) → option_map errno_of (look_rule m f asked) ≡ (look_told m f asked).refusal
look_has m f None = refl
look_has m f (Some asked) = look_at_has m f asked (published m f asked.handle)

cell_has : (m : State) (cell : Option ℕ) → option_map errno_of (cell_rule cell) ≡ (cell_told m cell).refusal
cell_has m None = refl
cell_has m (Some index) = refl

make_by : (m : State) (b : Bool) (cell : Option ℕ) → option_map errno_of (if b then Some MakeIds else cell_rule cell) ≡ (if b then refused_told NoSpc else cell_told m cell).refusal
make_by m true cell = refl
make_by m false cell = cell_has m cell

make_has : (m : State) (call : InFlight) (role : Role) → option_map errno_of (make_rule m role) ≡ (make_told m role).refusal
make_has m call (Creates kind) = make_by m (m.made == NONE) (home_cell m kind)
make_has m call (Destroys asked) = refl
make_has m call (Acts act) = refl

lock_at_has : (m : State) (c : ℕ) (asked : Ask) (found : Option Object) → option_map errno_of (lock_rule_at m c asked found) ≡ (lock_found m c asked found).refusal
lock_at_has m c asked None = refl
lock_at_has m c asked (Some x) = two_tests (not (is_kind x.kind asked.kind)) (has_others m c x.id) LockKind LockHeld

lock_has : (m : State) (c f : ℕ) (role : Role) → option_map errno_of (lock_rule m c f role) ≡ (lock_told m c f role).refusal
lock_has m c f (Creates kind) = refl
lock_has m c f (Destroys asked) = lock_at_has m c asked (published m f asked.handle)
lock_has m c f (Acts act) = refl

role_has : (m : State) (call : InFlight) (found : Option QpState) (role : Role) → option_map errno_of (role_rule m call found role) ≡ (act_told m call found role).refusal
role_has m call found (Creates kind) = refl
role_has m call found (Destroys asked) = refl
role_has m call found (Acts act) = act_has m call found act

pub step_has : StepHasRule
step_has m c call found word.Reserve = reserve_by (is_none (least_free m call.file))
step_has m c call found word.Look = look_has m call.file (look_ask call)
step_has m c call found word.Make = make_has m call (role_of call.request)
step_has m c call found word.Commit = refl
step_has m c call found word.Act = role_has m call found (role_of call.request)
step_has m c call found word.Lock = lock_has m c call.file (role_of call.request)
step_has m c call found word.Check = one_test (has_users m (own_object call)) CheckUsed
step_has m c call found word.Finish = refl
step_has m c call found word.Abort = refl
step_has m c call found word.Free = refl
step_has m c call found word.Exit = refl

-- Entries.

answered : (rule : Option Rule) (want : Rule) (refusal : Option Errno) (a : Answer) → option_map errno_of rule ≡ refusal → errno_of want ≡ NoMem → MayAnswer refusal a
    → option_map errno_of (answered_by rule want (refusal_in a)) ≡ refusal_in a
answered None want None a q w h =
    let P : Answer → Type 0 = λ v. option_map errno_of (answered_by None want (refusal_in v)) ≡ refusal_in v in
    ⊎_elim (λ e. subst P (sym e) refl) (λ e. subst P (sym e) (ap Some w)) h
answered None want (Some e) a q w h = absurd (none-some e q)
answered (Some r) want None a q w h = absurd (none-some (errno_of r) (sym q))
answered (Some r) want (Some e) a q w h =
    let P : Answer → Type 0 = λ v. option_map errno_of (answered_by (Some r) want (refusal_in v)) ≡ refusal_in v in
    subst P (sym h) q

-- a step tells its own refusal, and no other

acts_fine : (m : State) (call : InFlight) (found : Option QpState) (role : Role) → refusal_in (role_answer m call found role) ≡ None
acts_fine m call found (Creates kind) = refl
acts_fine m call found (Destroys asked) = refl
acts_fine m call found (Acts (Modify to attrs)) = refl
acts_fine m call found (Acts Query) = refl
acts_fine m call found (Acts (Bind offset length access)) = refl
acts_fine m call found (Acts (Unbind offset length access)) = refl
acts_fine m call found (Acts Async) = refl

module _ (m : State) (call : InFlight) (found : Option QpState) (kept : ℕ) where
  refused_so : (w : Word) → refusal_in (fine_answer m call found kept w) ≡ None → (refusal : Option Errno) → refusal_in (step_answer m call found kept w refusal) ≡ refusal
  refused_so w fine None = fine
  refused_so w fine (Some e) = refl

  step_tells : (c : ℕ) (w : Word) → step_refused w (step_answer m call found kept w (told m c call found w).refusal) ≡ (told m c call found w).refusal
  step_tells c word.Reserve = refused_so word.Reserve refl (told m c call found word.Reserve).refusal
  step_tells c word.Look = refused_so word.Look refl (told m c call found word.Look).refusal
  step_tells c word.Make = refused_so word.Make refl (told m c call found word.Make).refusal
  step_tells c word.Commit = refl
  step_tells c word.Act = refused_so word.Act (acts_fine m call found (role_of call.request)) (told m c call found word.Act).refusal
  step_tells c word.Lock = refused_so word.Lock refl (told m c call found word.Lock).refusal
  step_tells c word.Check = refused_so word.Check refl (told m c call found word.Check).refusal
  step_tells c word.Finish = refl
  step_tells c word.Abort = refl
  step_tells c word.Free = refl
  step_tells c word.Exit = refl

step_entry : (m : State) (c : ℕ) (slot : Option InFlight) (w : Word) (o : ℕ) (found : Option QpState) (a : Answer)
    → next_from m c found (kept_in a) slot ≡ Some (record { word = w; object = o; found = found; answer = a }) → option_map errno_of (next_rule_of m c found slot) ≡ step_refused w a
step_entry m c None w o found a h = absurd (none-some _ h)
step_entry m c (Some call) w o found a h =
    let same = same_Some _ _ h in
    let P : CallStep → Type 0 = λ d. (told m c call found (next_word call)).refusal ≡ step_refused d.word d.answer in
    step_has m c call found (next_word call) ∙ subst P same (sym (step_tells m call found (kept_in a) c (next_word call)))

pub entry_has : EntryHasRule
entry_has m (entry.Open c f d a) h = answered _ OpenMemory _ a (open_has m f d) refl h.3
entry_has m (entry.Enter c f request a) h = answered _ EnterMemory _ a (enter_has m f request) refl h.3
entry_has m (entry.Step c w o found a) h = step_entry m c (call_of m c) w o found a h.1
entry_has m (entry.Unplug d) h = refl
entry_has m (entry.Tear f by) h = refl
entry_has m (entry.Kill o) h = refl
entry_has m (entry.Gone o kept) h = refl
entry_has m (entry.Dissociated f) h = refl
entry_has m (entry.Closed f) h = refl
