-- The step rule: the one step that a call in flight makes next.
-- `rdma_core.c` has these steps as rdma_alloc_begin_uobject, alloc_uobj, rdma_alloc_commit_uobject,
-- rdma_alloc_abort_uobject, rdma_lookup_get_uobject, rdma_lookup_put_uobject and uverbs_destroy_uobject.
use Rattle.std.specs.Prelude.{ℕ, not, ◌==◌, Option, None, Some, if◌then◌else◌, is_none}
use Rattle.uv_num.specs.declared.kind.Kind.{Kind}
use Rattle.uv_num.specs.declared.errno.Errno.{Errno}
use Rattle.uv_num.specs.declared.errno.Errno.TheVariants.{NoEnt, Io, Busy, Inval, NoSpc}
use Rattle.uv_num.specs.declared.qp.QpState.{QpState}
use Rattle.uv_num.specs.declared.request.Ask.{Ask}
use Rattle.uv_num.specs.declared.request.Role.{Role}
use Rattle.uv_num.specs.declared.request.Role.TheVariants.{Creates, Destroys, Acts}
use Rattle.uv_num.specs.Request.{role_of}
use Rattle.uv_num.specs.declared.limits.TheConstants.{NONE}
use Rattle.uv_machine.specs.declared.entry.Word.{Word}
use Rattle.uv_machine.specs.declared.entry.Word.TheVariants.{Reserve, Look, Make, Commit, Act, Lock, Check, Finish, Abort, Free, Exit}
use Rattle.uv_machine.specs.declared.entry.Answer.{Answer}
use Rattle.uv_machine.specs.declared.entry.Answer.TheVariants as answer
use Rattle.uv_machine.specs.declared.entry.CallStep.{CallStep}
use Rattle.uv_machine.specs.declared.object.Object.{Object}
use Rattle.uv_machine.specs.declared.call.InFlight.{InFlight}
use Rattle.uv_machine.specs.declared.state.State.{State}
use Rattle.uv_machine.specs.declared.told.Told.{Told}
use Rattle.uv_machine.specs.Objects.{is_kind, is_husk}
use Rattle.uv_machine.specs.Plans.{next_word, own_object, acted_on, look_ask, call_answer}
use Rattle.uv_machine.specs.States.{call_of, object_with, published, device_of, is_unplugged, is_excluded, has_users, has_others, least_free, home_cell}
use Rattle.uv_machine.specs.Acts.{act_refusal, found_by, act_answer}

-- a step that names no object and meets no refusal
abbrev pub plain_told : Told
plain_told = record { object = NONE; refusal = None }

abbrev pub refused_told : Errno → Told
refused_told e = record { object = NONE; refusal = Some e }

-- Reserve: a number must be free
abbrev pub reserve_told : State → ℕ → Told
reserve_told m f = if is_none (least_free m f) then refused_told NoSpc else plain_told

-- Look: the object must be of the kind, the device there, and no call may hold the object exclusively
abbrev pub look_try : State → ℕ → ℕ → Option Errno
look_try m f o = if is_unplugged m (device_of m f) then Some Io else (if is_excluded m o then Some Busy else None)

abbrev pub look_refusal : State → ℕ → Ask → Object → Option Errno
look_refusal m f asked x = if not (is_kind x.kind asked.kind) then Some Inval else look_try m f x.id

abbrev pub look_found : State → ℕ → Ask → Option Object → Told
look_found m f asked None = refused_told NoEnt
look_found m f asked (Some x) = record { object = x.id; refusal = look_refusal m f asked x }

abbrev pub look_of : State → ℕ → Ask → Told
look_of m f asked = look_found m f asked (published m f asked.handle)

abbrev pub look_told : State → ℕ → Option Ask → Told
look_told m f None = plain_told
look_told m f (Some asked) = look_of m f asked

-- Make: an id and a cell must be there
abbrev pub cell_told : State → Option ℕ → Told
cell_told m None = refused_told NoSpc
cell_told m (Some index) = record { object = m.made; refusal = None }

abbrev pub make_of : State → Kind → Told
make_of m kind = if m.made == NONE then refused_told NoSpc else cell_told m (home_cell m kind)

abbrev pub make_told : State → Role → Told
make_told m (Creates kind) = make_of m kind
make_told m (Destroys asked) = plain_told
make_told m (Acts act) = plain_told

-- Act: by what the request does
abbrev pub act_told : State → InFlight → Option QpState → Role → Told
act_told m call found (Creates kind) = plain_told
act_told m call found (Destroys asked) = plain_told
act_told m call found (Acts act) = record { object = acted_on call; refusal = act_refusal m call found act }

-- Lock: the object must be of the kind, and no other call may hold it
abbrev pub lock_refusal : State → ℕ → Ask → Object → Option Errno
lock_refusal m c asked x =
    if not (is_kind x.kind asked.kind)
    then Some Inval
    else (if has_others m c x.id then Some Busy else None)

abbrev pub lock_found : State → ℕ → Ask → Option Object → Told
lock_found m c asked None = refused_told NoEnt
lock_found m c asked (Some x) = record { object = x.id; refusal = lock_refusal m c asked x }

abbrev pub lock_of : State → ℕ → ℕ → Ask → Told
lock_of m c f asked = lock_found m c asked (published m f asked.handle)

abbrev pub lock_told : State → ℕ → ℕ → Role → Told
lock_told m c f (Creates kind) = plain_told
lock_told m c f (Destroys asked) = lock_of m c f asked
lock_told m c f (Acts act) = plain_told

-- Check: nothing may use the object
abbrev pub check_told : State → ℕ → Told
check_told m o = record { object = o; refusal = if has_users m o then Some Busy else None }

-- Commit and Finish name the object that the call holds exclusively
abbrev pub own_told : InFlight → Told
own_told call = record { object = own_object call; refusal = None }

-- Free names the object that is freed
abbrev pub free_told : InFlight → Told
free_told call = record { object = acted_on call; refusal = None }

-- the object of a step, and its refusal
abbrev pub told : State → ℕ → InFlight → Option QpState → Word → Told
told m c call found Reserve = reserve_told m call.file
told m c call found Look = look_told m call.file (look_ask call)
told m c call found Make = make_told m (role_of call.request)
told m c call found Commit = own_told call
told m c call found Act = act_told m call found (role_of call.request)
told m c call found Lock = lock_told m c call.file (role_of call.request)
told m c call found Check = check_told m (own_object call)
told m c call found Finish = own_told call
told m c call found Abort = plain_told
told m c call found Free = free_told call
told m c call found Exit = plain_told

-- nothing is kept of a husk: it has been released before
abbrev pub kept_of : Option Object → ℕ → ℕ
kept_of None kept = kept
kept_of (Some x) kept = if is_husk x.phase then 0 else kept

-- an act answers by what the request does
abbrev pub role_answer : State → InFlight → Option QpState → Role → Answer
role_answer m call found (Creates kind) = answer.Ok
role_answer m call found (Destroys asked) = answer.Ok
role_answer m call found (Acts act) = act_answer m call found act

-- the answer of a step that meets no refusal
abbrev pub fine_answer : State → InFlight → Option QpState → ℕ → Word → Answer
fine_answer m call found kept Reserve = answer.Ok
fine_answer m call found kept Look = answer.Ok
fine_answer m call found kept Make = answer.Ok
fine_answer m call found kept Commit = answer.Ok
fine_answer m call found kept Act = role_answer m call found (role_of call.request)
fine_answer m call found kept Lock = answer.Ok
fine_answer m call found kept Check = answer.Ok
fine_answer m call found kept Finish = answer.Kept (kept_of (object_with m (own_object call)) kept)
fine_answer m call found kept Abort = answer.Ok
fine_answer m call found kept Free = answer.Ok
fine_answer m call found kept Exit = call_answer call

abbrev pub step_answer : State → InFlight → Option QpState → ℕ → Word → Option Errno → Answer
step_answer m call found kept w None = fine_answer m call found kept w
step_answer m call found kept w (Some e) = answer.Refused e

-- an act that looks at a state carries it, and no other step does
abbrev pub role_found : Role → Option QpState → Option QpState
role_found (Creates kind) found = None
role_found (Destroys asked) found = None
role_found (Acts act) found = found_by act found

abbrev pub found_at : InFlight → Word → Option QpState → Option QpState
found_at call Reserve found = None
found_at call Look found = None
found_at call Make found = None
found_at call Commit found = None
found_at call Act found = role_found (role_of call.request) found
found_at call Lock found = None
found_at call Check found = None
found_at call Finish found = None
found_at call Abort found = None
found_at call Free found = None
found_at call Exit found = None

abbrev pub done_as : State → InFlight → Option QpState → ℕ → Word → Told → CallStep
done_as m call found kept w t = record { word = w; object = t.object; found = found_at call w found; answer = step_answer m call found kept w t.refusal }

abbrev pub step_of : State → ℕ → Option QpState → ℕ → InFlight → CallStep
step_of m c found kept call = done_as m call found kept (next_word call) (told m c call found (next_word call))

abbrev pub next_from : State → ℕ → Option QpState → ℕ → Option InFlight → Option CallStep
next_from m c found kept None = None
next_from m c found kept (Some call) = Some (step_of m c found kept call)

-- the step that an actor's call makes next; `found` is the state that an act finds, `kept` what a finish keeps
abbrev pub next_of : State → ℕ → Option QpState → ℕ → Option CallStep
next_of m c found kept = next_from m c found kept (call_of m c)
