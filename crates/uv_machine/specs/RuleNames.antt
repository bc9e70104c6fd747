-- The rules that refuse, by name: the errno, the key and the source of each, and which of them refuses an open, an enter or a step.
-- The tests are those of `Outside`, `Steps` and `Acts`, in their order. A rule decides alone: it is the first that isn't met.
use Rattle.std.specs.Prelude.{ℕ, Bool, true, false, not, ◌&&◌, ◌==◌, ◌+◌, ◌≡◌, nat_le, List, codes, Option, None, Some, Result, Ok, Err, is_none, option_map, if◌then◌else◌}
use Rattle.uv_num.specs.declared.access.TheConstants.{ACCESS_LOCAL_WRITE, ACCESS_REMOTE_WRITE, ACCESS_MW_BIND}
use Rattle.uv_num.specs.declared.attrs.QpAttrs.{QpAttrs}
use Rattle.uv_num.specs.declared.errno.Errno.{Errno}
use Rattle.uv_num.specs.declared.errno.Errno.TheVariants.{Inval, Io, NoMem, BadF, NoSpc, NoEnt, Busy, Again}
use Rattle.uv_num.specs.declared.limits.TheConstants.{NONE}
use Rattle.uv_num.specs.declared.qp.QpState.{QpState}
use Rattle.uv_num.specs.declared.request.Act.{Act}
use Rattle.uv_num.specs.declared.request.Act.TheVariants.{Modify, Query, Bind, Unbind, Async}
use Rattle.uv_num.specs.declared.request.Ask.{Ask}
use Rattle.uv_num.specs.declared.request.Request.{Request}
use Rattle.uv_num.specs.declared.request.Role.{Role}
use Rattle.uv_num.specs.declared.request.Role.TheVariants.{Creates, Destroys, Acts}
use Rattle.uv_num.specs.Access.{has_right}
use Rattle.uv_num.specs.Modify.{modify_of}
use Rattle.uv_num.specs.Qp.{qp_state_of}
use Rattle.uv_num.specs.Request.{role_of}
use Rattle.uv_machine.specs.declared.call.InFlight.{InFlight}
use Rattle.uv_machine.specs.declared.entry.Answer.{Answer}
use Rattle.uv_machine.specs.declared.entry.Entry.{Entry}
use Rattle.uv_machine.specs.declared.entry.Entry.TheVariants as entry
use Rattle.uv_machine.specs.declared.entry.Word.{Word}
use Rattle.uv_machine.specs.declared.entry.Word.TheVariants as word
use Rattle.uv_machine.specs.declared.file.FilePhase.{FilePhase}
use Rattle.uv_machine.specs.declared.file.FilePhase.TheVariants as file
use Rattle.uv_machine.specs.declared.object.Object.{Object}
use Rattle.uv_machine.specs.declared.rule.Rule.{Rule}
use Rattle.uv_machine.specs.declared.rule.Rule.TheVariants.{OpenTwice, OpenUnplugged, OpenMemory, EnterUnopened, EnterTorn, EnterClosed, EnterUnplugged, EnterMemory, ReserveFull, LookMissing, LookKind, LookUnplugged, LookHeld, MakeIds, MakeCells, LockMissing, LockKind, LockHeld, CheckUsed, ModifyState, ModifyTable, BindMissing, BindDomain, BindRight, BindWrite, BindEmpty, BindRange, UnbindRange, EventGone, EventNone}
use Rattle.uv_machine.specs.declared.state.State.{State}
use Rattle.uv_machine.specs.Acts.{service_of_found, has_same_domain, gives_nothing, found_or, act_refusal}
use Rattle.uv_machine.specs.Effects.{refusal_in}
use Rattle.uv_machine.specs.Histories.{Allowed}
use Rattle.uv_machine.specs.Objects.{is_kind, region_length, region_access}
use Rattle.uv_machine.specs.Outside.{open_refusal, enter_refusal, needs_device}
use Rattle.uv_machine.specs.Plans.{own_object, acted_on, looked_at, look_ask, next_word}
use Rattle.uv_machine.specs.States.{call_of, object_with, published, phase_of, device_of, has_event, is_fresh, is_dissociated, is_unplugged, is_excluded, has_users, has_others, least_free, home_cell}
use Rattle.uv_machine.specs.Steps.{told}

-- The tables.

-- the errno that a call is refused with
abbrev pub errno_of : Rule → Errno
errno_of OpenTwice = Inval
errno_of OpenUnplugged = Io
errno_of OpenMemory = NoMem
errno_of EnterUnopened = BadF
errno_of EnterTorn = BadF
errno_of EnterClosed = BadF
errno_of EnterUnplugged = Io
errno_of EnterMemory = NoMem
errno_of ReserveFull = NoSpc
errno_of LookMissing = NoEnt
errno_of LookKind = Inval
errno_of LookUnplugged = Io
errno_of LookHeld = Busy
errno_of MakeIds = NoSpc
errno_of MakeCells = NoSpc
errno_of LockMissing = NoEnt
errno_of LockKind = Inval
errno_of LockHeld = Busy
errno_of CheckUsed = Busy
errno_of ModifyState = Inval
errno_of ModifyTable = Inval
errno_of BindMissing = Inval
errno_of BindDomain = Inval
errno_of BindRight = Inval
errno_of BindWrite = Inval
errno_of BindEmpty = Inval
errno_of BindRange = Inval
errno_of UnbindRange = Inval
errno_of EventGone = Io
errno_of EventNone = Again

-- the key that tells a rule from every other
abbrev pub rule_key : Rule → List ℕ
rule_key OpenTwice = codes "open-twice"
rule_key OpenUnplugged = codes "open-unplugged"
rule_key OpenMemory = codes "open-memory"
rule_key EnterUnopened = codes "enter-unopened"
rule_key EnterTorn = codes "enter-torn"
rule_key EnterClosed = codes "enter-closed"
rule_key EnterUnplugged = codes "enter-unplugged"
rule_key EnterMemory = codes "enter-memory"
rule_key ReserveFull = codes "reserve-full"
rule_key LookMissing = codes "look-missing"
rule_key LookKind = codes "look-kind"
rule_key LookUnplugged = codes "look-unplugged"
rule_key LookHeld = codes "look-held"
rule_key MakeIds = codes "make-ids"
rule_key MakeCells = codes "make-cells"
rule_key LockMissing = codes "lock-missing"
rule_key LockKind = codes "lock-kind"
rule_key LockHeld = codes "lock-held"
rule_key CheckUsed = codes "check-used"
rule_key ModifyState = codes "modify-state"
rule_key ModifyTable = codes "modify-table"
rule_key BindMissing = codes "bind-missing"
rule_key BindDomain = codes "bind-domain"
rule_key BindRight = codes "bind-right"
rule_key BindWrite = codes "bind-write"
rule_key BindEmpty = codes "bind-empty"
rule_key BindRange = codes "bind-range"
rule_key UnbindRange = codes "unbind-range"
rule_key EventGone = codes "event-gone"
rule_key EventNone = codes "event-none"

-- files and functions of Linux whose rule it is, or `own`
abbrev pub rule_source : Rule → List ℕ
rule_source OpenTwice = codes "uverbs_cmd.c, ib_init_ucontext"
rule_source OpenUnplugged = codes "uverbs_main.c, ib_uverbs_open"
rule_source OpenMemory = codes "uverbs_main.c, ib_uverbs_open"
rule_source EnterUnopened = codes "own"
rule_source EnterTorn = codes "own"
rule_source EnterClosed = codes "own"
rule_source EnterUnplugged = codes "uverbs_main.c, ib_uverbs_get_ucontext_file"
rule_source EnterMemory = codes "rdma_core.c, alloc_uobj"
rule_source ReserveFull = codes "own"
rule_source LookMissing = codes "rdma_core.c, lookup_get_idr_uobject"
rule_source LookKind = codes "rdma_core.c, rdma_lookup_get_uobject"
rule_source LookUnplugged = codes "rdma_core.c, rdma_lookup_get_uobject"
rule_source LookHeld = codes "rdma_core.c, uverbs_try_lock_object"
rule_source MakeIds = codes "own"
rule_source MakeCells = codes "own"
rule_source LockMissing = codes "rdma_core.c, lookup_get_idr_uobject"
rule_source LockKind = codes "rdma_core.c, rdma_lookup_get_uobject"
rule_source LockHeld = codes "rdma_core.c, uverbs_try_lock_object"
rule_source CheckUsed = codes "uverbs_std_types.c, uverbs_free_pd; verbs.c, ib_destroy_cq_user, ib_destroy_srq_user"
rule_source ModifyState = codes "uverbs_cmd.c, modify_qp"
rule_source ModifyTable = codes "verbs.c, ib_modify_qp_is_ok"
rule_source BindMissing = codes "own"
rule_source BindDomain = codes "own"
rule_source BindRight = codes "sw/rxe/rxe_mw.c, rxe_check_bind_mw"
rule_source BindWrite = codes "sw/rxe/rxe_mw.c, rxe_check_bind_mw"
rule_source BindEmpty = codes "own"
rule_source BindRange = codes "sw/rxe/rxe_mw.c, rxe_check_bind_mw"
rule_source UnbindRange = codes "own"
rule_source EventGone = codes "own"
rule_source EventNone = codes "uverbs_main.c, ib_uverbs_event_read"

-- Opens and enters.

abbrev pub open_rule : State → ℕ → ℕ → Option Rule
open_rule m f d = if not (is_fresh (phase_of m f)) then Some OpenTwice else (if is_unplugged m d then Some OpenUnplugged else None)

-- a file that takes no calls, by how far its life is
abbrev pub phase_rule : FilePhase → Option Rule
phase_rule file.Fresh = Some EnterUnopened
phase_rule file.Open = None
phase_rule (file.Tearing by) = Some EnterTorn
phase_rule file.Dissociated = None
phase_rule file.Closed = Some EnterClosed

abbrev pub device_rule : State → ℕ → Request → Option Rule
device_rule m f request = if is_unplugged m (device_of m f) && needs_device (role_of request) then Some EnterUnplugged else None

-- the first of two that isn't met
abbrev pub first_rule : Option Rule → Option Rule → Option Rule
first_rule None later = later
first_rule (Some r) later = Some r

abbrev pub enter_rule : State → ℕ → Request → Option Rule
enter_rule m f request = first_rule (phase_rule (phase_of m f)) (device_rule m f request)

-- Steps.

abbrev pub reserve_rule : State → ℕ → Option Rule
reserve_rule m f = if is_none (least_free m f) then Some ReserveFull else None

abbrev pub try_rule : State → ℕ → ℕ → Option Rule
try_rule m f o = if is_unplugged m (device_of m f) then Some LookUnplugged else (if is_excluded m o then Some LookHeld else None)

abbrev pub look_rule_at : State → ℕ → Ask → Option Object → Option Rule
look_rule_at m f asked None = Some LookMissing
look_rule_at m f asked (Some x) = if not (is_kind x.kind asked.kind) then Some LookKind else try_rule m f x.id

abbrev pub look_rule : State → ℕ → Option Ask → Option Rule
look_rule m f None = None
look_rule m f (Some asked) = look_rule_at m f asked (published m f asked.handle)

abbrev pub cell_rule : Option ℕ → Option Rule
cell_rule None = Some MakeCells
cell_rule (Some index) = None

abbrev pub make_rule : State → Role → Option Rule
make_rule m (Creates kind) = if m.made == NONE then Some MakeIds else cell_rule (home_cell m kind)
make_rule m (Destroys asked) = None
make_rule m (Acts act) = None

abbrev pub lock_rule_at : State → ℕ → Ask → Option Object → Option Rule
lock_rule_at m c asked None = Some LockMissing
lock_rule_at m c asked (Some x) = if not (is_kind x.kind asked.kind) then Some LockKind else (if has_others m c x.id then Some LockHeld else None)

abbrev pub lock_rule : State → ℕ → ℕ → Role → Option Rule
lock_rule m c f (Creates kind) = None
lock_rule m c f (Destroys asked) = lock_rule_at m c asked (published m f asked.handle)
lock_rule m c f (Acts act) = None

abbrev pub check_rule : State → ℕ → Option Rule
check_rule m o = if has_users m o then Some CheckUsed else None

-- Acts.

abbrev pub table_rule : Result QpState Errno → Option Rule
table_rule (Ok to) = None
table_rule (Err e) = Some ModifyTable

abbrev pub modify_rule_to : Option QpState → Result QpState Errno → Option Rule
modify_rule_to None moved = Some ModifyState
modify_rule_to (Some to) moved = table_rule moved

abbrev pub modify_rule : Option Object → QpState → ℕ → QpAttrs → Option Rule
modify_rule x from to attrs = modify_rule_to (qp_state_of to) (modify_of (service_of_found x) from to attrs)

abbrev pub range_rule : Object → ℕ → ℕ → Option Rule
range_rule region offset length = if length == 0 then Some BindEmpty else (if not (nat_le (offset + length) (region_length region)) then Some BindRange else None)

abbrev pub right_rule : Object → ℕ → ℕ → ℕ → Option Rule
right_rule region offset length access =
    if not (has_right ACCESS_MW_BIND (region_access region))
    then Some BindRight
    else (if has_right ACCESS_REMOTE_WRITE access && not (has_right ACCESS_LOCAL_WRITE (region_access region)) then Some BindWrite else range_rule region offset length)

abbrev pub bind_rule : Option Object → Option Object → ℕ → ℕ → ℕ → Option Rule
bind_rule None region offset length access = Some BindMissing
bind_rule (Some window) None offset length access = Some BindMissing
bind_rule (Some window) (Some region) offset length access =
    if not (has_same_domain window region) then Some BindDomain else right_rule region offset length access

abbrev pub event_rule : Bool → FilePhase → Option Rule
event_rule true p = None
event_rule false p = if is_dissociated p then Some EventGone else Some EventNone

abbrev pub act_rule : State → InFlight → Option QpState → Act → Option Rule
act_rule m call found (Modify to attrs) = modify_rule (object_with m (acted_on call)) (found_or found) to attrs
act_rule m call found Query = None
act_rule m call found (Bind offset length access) = bind_rule (object_with m (acted_on call)) (object_with m (looked_at 1 call)) offset length access
act_rule m call found (Unbind offset length access) = if gives_nothing offset length access then None else Some UnbindRange
act_rule m call found Async = event_rule (has_event m call.file) (phase_of m call.file)

abbrev pub role_rule : State → InFlight → Option QpState → Role → Option Rule
role_rule m call found (Creates kind) = None
role_rule m call found (Destroys asked) = None
role_rule m call found (Acts act) = act_rule m call found act

-- A call's next step, by its word. An exit tells the refusal of an earlier step, and none refuses it.

abbrev pub step_rule : State → ℕ → InFlight → Option QpState → Word → Option Rule
step_rule m c call found word.Reserve = reserve_rule m call.file
step_rule m c call found word.Look = look_rule m call.file (look_ask call)
step_rule m c call found word.Make = make_rule m (role_of call.request)
step_rule m c call found word.Commit = None
step_rule m c call found word.Act = role_rule m call found (role_of call.request)
step_rule m c call found word.Lock = lock_rule m c call.file (role_of call.request)
step_rule m c call found word.Check = check_rule m (own_object call)
step_rule m c call found word.Finish = None
step_rule m c call found word.Abort = None
step_rule m c call found word.Free = None
step_rule m c call found word.Exit = None

abbrev pub next_rule_of : State → ℕ → Option QpState → Option InFlight → Option Rule
next_rule_of m c found None = None
next_rule_of m c found (Some call) = step_rule m c call found (next_word call)

-- the rule that refuses the next step of an actor's call; `found` is the state that an act finds
abbrev pub next_rule : State → ℕ → Option QpState → Option Rule
next_rule m c found = next_rule_of m c found (call_of m c)

-- Entries.

-- what answered an open or an enter: its rule, or want of memory where it was refused and has none
abbrev pub answered_by : Option Rule → Rule → Option Errno → Option Rule
answered_by rule want None = None
answered_by None want (Some e) = Some want
answered_by (Some r) want (Some e) = Some r

-- the rule by which an entry was refused
abbrev pub rule_of : State → Entry → Option Rule
rule_of m (entry.Open c f d a) = answered_by (open_rule m f d) OpenMemory (refusal_in a)
rule_of m (entry.Enter c f request a) = answered_by (enter_rule m f request) EnterMemory (refusal_in a)
rule_of m (entry.Step c w o found a) = next_rule m c found
rule_of m (entry.Unplug d) = None
rule_of m (entry.Tear f by) = None
rule_of m (entry.Kill o) = None
rule_of m (entry.Gone o kept) = None
rule_of m (entry.Dissociated f) = None
rule_of m (entry.Closed f) = None

-- the errno that a step is refused with; an exit isn't, whatever it tells
abbrev pub step_refused : Word → Answer → Option Errno
step_refused word.Reserve a = refusal_in a
step_refused word.Look a = refusal_in a
step_refused word.Make a = refusal_in a
step_refused word.Commit a = refusal_in a
step_refused word.Act a = refusal_in a
step_refused word.Lock a = refusal_in a
step_refused word.Check a = refusal_in a
step_refused word.Finish a = refusal_in a
step_refused word.Abort a = refusal_in a
step_refused word.Free a = refusal_in a
step_refused word.Exit a = None

-- the errno that an entry is refused with
abbrev pub refused_with : Entry → Option Errno
refused_with (entry.Open c f d a) = refusal_in a
refused_with (entry.Enter c f request a) = refusal_in a
refused_with (entry.Step c w o found a) = step_refused w a
refused_with (entry.Unplug d) = None
refused_with (entry.Tear f by) = None
refused_with (entry.Kill o) = None
refused_with (entry.Gone o kept) = None
refused_with (entry.Dissociated f) = None
refused_with (entry.Closed f) = None

-- The laws: there is a rule exactly where there is a refusal, and its errno is that of the refusal.

abbrev pub OpenHasRule : Type 0
OpenHasRule = (m : State) (f d : ℕ) → option_map errno_of (open_rule m f d) ≡ open_refusal m f d

abbrev pub EnterHasRule : Type 0
EnterHasRule = (m : State) (f : ℕ) (request : Request) → option_map errno_of (enter_rule m f request) ≡ enter_refusal m f request

abbrev pub ActHasRule : Type 0
ActHasRule = (m : State) (call : InFlight) (found : Option QpState) (act : Act) → option_map errno_of (act_rule m call found act) ≡ act_refusal m call found act

abbrev pub StepHasRule : Type 0
StepHasRule =
    (m : State) (c : ℕ) (call : InFlight) (found : Option QpState) (w : Word) → option_map errno_of (step_rule m c call found w) ≡ (told m c call found w).refusal

-- of every entry that is allowed, want of memory among its rules
abbrev pub EntryHasRule : Type 0
EntryHasRule = (m : State) (e : Entry) → Allowed m e → option_map errno_of (rule_of m e) ≡ refused_with e
