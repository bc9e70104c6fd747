-- The outside rule: the entries that no call makes by itself, and when they may come.
-- Open and Enter: `uverbs_main.c`, ib_uverbs_open, and `rdma_core.c`, rdma_lookup_get_uobject and rdma_alloc_begin_uobject.
-- Teardown: `rdma_core.c`, uverbs_destroy_ufile_hw and __uverbs_cleanup_ufile.
use Rattle.std.specs.Prelude.{ℕ, Bool, true, false, not, ◌&&◌, ◌==◌, ◌≡◌, ◌⊎◌, Option, None, Some, if◌then◌else◌}
use Rattle.uv_num.specs.declared.errno.Errno.{Errno}
use Rattle.uv_num.specs.declared.errno.Errno.TheVariants.{Io, BadF, NoMem, Inval}
use Rattle.uv_num.specs.declared.request.Request.{Request}
use Rattle.uv_num.specs.declared.request.Role.{Role}
use Rattle.uv_num.specs.declared.request.Role.TheVariants.{Creates, Destroys, Acts}
use Rattle.uv_num.specs.declared.request.Act.{Act}
use Rattle.uv_num.specs.declared.request.Act.TheVariants as act
use Rattle.uv_num.specs.Request.{role_of}
use Rattle.uv_num.specs.declared.limits.TheConstants.{DRIVER}
use Rattle.uv_machine.specs.declared.entry.Answer.{Answer}
use Rattle.uv_machine.specs.declared.entry.Answer.TheVariants as answer
use Rattle.uv_machine.specs.declared.object.Object.{Object}
use Rattle.uv_machine.specs.declared.state.State.{State}
use Rattle.uv_machine.specs.Objects.{has_id, is_doomed}
use Rattle.uv_machine.specs.States.{object_with, phase_of, device_of, is_unplugged, is_fresh, is_open, is_callable, is_tearing, is_removing, is_closing, is_quiet, has_doomed, has_standing, newest_free}

-- this refusal, or else success or want of memory
abbrev pub MayAnswer : Option Errno → Answer → Type 0
MayAnswer (Some e) a = a ≡ answer.Refused e
MayAnswer None a = (a ≡ answer.Ok) ⊎ (a ≡ answer.Refused NoMem)

-- a file is opened once, and on a device that is plugged in
abbrev pub open_refusal : State → ℕ → ℕ → Option Errno
open_refusal m f d = if not (is_fresh (phase_of m f)) then Some Inval else (if is_unplugged m d then Some Io else None)

-- events serve without the device, which tell that it went
abbrev pub act_needs_device : Act → Bool
act_needs_device (act.Modify to attrs) = true
act_needs_device act.Query = true
act_needs_device (act.Bind offset length access) = true
act_needs_device (act.Unbind offset length access) = true
act_needs_device act.Async = false

-- a destroy serves without the device: the handles that its removal left may be destroyed
abbrev pub needs_device : Role → Bool
needs_device (Creates kind) = true
needs_device (Destroys asked) = false
needs_device (Acts act) = act_needs_device act

abbrev pub enter_refusal : State → ℕ → Request → Option Errno
enter_refusal m f request =
    if not (is_callable (phase_of m f))
    then Some BadF
    else (if is_unplugged m (device_of m f) && needs_device (role_of request) then Some Io else None)

-- the driver tears open files of a device that is unplugged, a client also what the driver has dissociated
abbrev pub may_tear : State → ℕ → ℕ → Bool
may_tear m f by = if by == DRIVER then is_open (phase_of m f) && is_unplugged m (device_of m f) else is_callable (phase_of m f)

-- an object's file is being torn down and no call on it is in flight
abbrev pub may_sweep : State → ℕ → Bool
may_sweep m f = is_tearing (phase_of m f) && is_quiet m f

abbrev pub is_object : ℕ → Option Object → Bool
is_object o None = false
is_object o (Some x) = has_id o x

-- users first, newest first, one at a time
abbrev pub may_kill_in : State → ℕ → ℕ → Bool
may_kill_in m o f = may_sweep m f && (not (has_doomed m f) && is_object o (newest_free m f))

abbrev pub may_kill_object : State → ℕ → Option Object → Bool
may_kill_object m o None = false
may_kill_object m o (Some x) = may_kill_in m o x.file

abbrev pub may_kill : State → ℕ → Bool
may_kill m o = may_kill_object m o (object_with m o)

abbrev pub may_go_object : State → Option Object → Bool
may_go_object m None = false
may_go_object m (Some x) = is_doomed x.phase && may_sweep m x.file

abbrev pub may_go : State → ℕ → Bool
may_go m o = may_go_object m (object_with m o)

-- all objects of the file are husks
abbrev pub may_close : State → ℕ → Bool
may_close m f = is_closing (phase_of m f) && (is_quiet m f && not (has_standing m f))

-- the same where the driver tears it down
abbrev pub may_dissociate : State → ℕ → Bool
may_dissociate m f = is_removing (phase_of m f) && (is_quiet m f && not (has_standing m f))
