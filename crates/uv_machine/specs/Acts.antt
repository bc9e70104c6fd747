-- Acts: what requests do with objects that stay, and what refuses them.
-- A modify is answered by the table of `uv_num`. The tests of a bind are those of `sw/rxe`, rxe_check_bind_mw.
use Rattle.std.specs.Prelude.{ℕ, Bool, true, false, not, ◌&&◌, ◌||◌, ◌==◌, ◌+◌, nat_le, Option, None, Some, Result, Ok, Err, if◌then◌else◌}
use Rattle.uv_num.specs.declared.errno.Errno.{Errno}
use Rattle.uv_num.specs.declared.errno.Errno.TheVariants.{Io, Again, Inval}
use Rattle.uv_num.specs.declared.access.TheConstants.{ACCESS_LOCAL_WRITE, ACCESS_REMOTE_WRITE, ACCESS_MW_BIND}
use Rattle.uv_num.specs.declared.attrs.QpAttrs.{QpAttrs}
use Rattle.uv_num.specs.declared.qp.QpState.{QpState}
use Rattle.uv_num.specs.declared.qp.QpState.TheVariants.{Reset}
use Rattle.uv_num.specs.declared.request.Act.{Act}
use Rattle.uv_num.specs.declared.request.Act.TheVariants.{Modify, Query, Bind, Unbind, Async}
use Rattle.uv_num.specs.Access.{has_right}
use Rattle.uv_num.specs.Modify.{modify_of}
use Rattle.uv_machine.specs.declared.entry.Answer.{Answer}
use Rattle.uv_machine.specs.declared.entry.Answer.TheVariants as answer
use Rattle.uv_machine.specs.declared.file.FilePhase.{FilePhase}
use Rattle.uv_machine.specs.declared.object.Object.{Object}
use Rattle.uv_machine.specs.declared.call.InFlight.{InFlight}
use Rattle.uv_machine.specs.declared.state.State.{State}
use Rattle.uv_machine.specs.Objects.{object_service, region_length, region_access, domain_of}
use Rattle.uv_machine.specs.Plans.{acted_on, looked_at}
use Rattle.uv_machine.specs.States.{object_with, phase_of, is_dissociated, has_event}

-- Modify: by the table, for the service that the pair was made with, from the state that was found.

abbrev pub service_of_found : Option Object → ℕ
service_of_found None = 0
service_of_found (Some x) = object_service x

-- the refusal in an answer of the table
abbrev pub refused_move : Result QpState Errno → Option Errno
refused_move (Ok to) = None
refused_move (Err e) = Some e

abbrev pub modify_refusal : Option Object → QpState → ℕ → QpAttrs → Option Errno
modify_refusal x from to attrs = refused_move (modify_of (service_of_found x) from to attrs)

-- Bind: window and region are of one domain, the region allows binding, what the window allows to write the owner may write,
-- and the range is within the region and has bytes.

abbrev pub has_same_domain : Object → Object → Bool
has_same_domain window region = domain_of window == domain_of region

abbrev pub lets_bind : Object → ℕ → Bool
lets_bind region access =
    has_right ACCESS_MW_BIND (region_access region)
    && (not (has_right ACCESS_REMOTE_WRITE access) || has_right ACCESS_LOCAL_WRITE (region_access region))

abbrev pub has_range : Object → ℕ → ℕ → Bool
has_range region offset length = not (length == 0) && nat_le (offset + length) (region_length region)

abbrev pub may_bind : Object → Object → ℕ → ℕ → ℕ → Bool
may_bind window region offset length access = has_same_domain window region && (lets_bind region access && has_range region offset length)

abbrev pub inval_unless : Bool → Option Errno
inval_unless true = None
inval_unless false = Some Inval

-- a call that binds looks at a window and a region
abbrev pub bind_refusal : Option Object → Option Object → ℕ → ℕ → ℕ → Option Errno
bind_refusal None region offset length access = Some Inval
bind_refusal (Some window) None offset length access = Some Inval
bind_refusal (Some window) (Some region) offset length access = inval_unless (may_bind window region offset length access)

-- Unbind: nothing is given.

abbrev pub gives_nothing : ℕ → ℕ → ℕ → Bool
gives_nothing offset length access = (offset == 0) && ((length == 0) && (access == 0))

-- Async: the oldest event is taken. Where there is none the device is gone, or there may be one later.

abbrev pub event_refusal : Bool → FilePhase → Option Errno
event_refusal true p = None
event_refusal false p = if is_dissociated p then Some Io else Some Again

-- the state that was found; an act that looks at none passes it over
abbrev pub found_or : Option QpState → QpState
found_or None = Reset
found_or (Some state) = state

-- the refusal of an act
abbrev pub act_refusal : State → InFlight → Option QpState → Act → Option Errno
act_refusal m call found (Modify to attrs) = modify_refusal (object_with m (acted_on call)) (found_or found) to attrs
act_refusal m call found Query = None
act_refusal m call found (Bind offset length access) = bind_refusal (object_with m (acted_on call)) (object_with m (looked_at 1 call)) offset length access
act_refusal m call found (Unbind offset length access) = inval_unless (gives_nothing offset length access)
act_refusal m call found Async = event_refusal (has_event m call.file) (phase_of m call.file)

-- the state that was found goes with the acts that look at one
abbrev pub found_by : Act → Option QpState → Option QpState
found_by (Modify to attrs) found = Some (found_or found)
found_by Query found = Some (found_or found)
found_by (Bind offset length access) found = None
found_by (Unbind offset length access) found = None
found_by Async found = None

abbrev pub index_of_found : Option Object → ℕ
index_of_found None = 0
index_of_found (Some x) = x.index

-- what an act that isn't refused answers
abbrev pub act_answer : State → InFlight → Option QpState → Act → Answer
act_answer m call found (Modify to attrs) = answer.Ok
act_answer m call found Query = answer.State (found_or found) (index_of_found (object_with m (acted_on call)))
act_answer m call found (Bind offset length access) = answer.Ok
act_answer m call found (Unbind offset length access) = answer.Ok
act_answer m call found Async = answer.Event
