-- Which rule refuses a call, a request or command bytes. The tests are those of `Refusals`, `Check` and `Commands`, in the same
-- order; where one of them looks at several numbers, each has a rule of its own. The laws at the end tie the rules to the
-- refusals. A key is this project's own; a source is the place whose rule it is.
use Rattle.std.specs.Prelude.{◌≡◌, ℕ, Bool, not, ◌==◌, ◌&&◌, ◌||◌, if◌then◌else◌, List, [], ◌∷◌, codes, Option, Some, None, option_map}
use Rattle.std.specs.List.{list_any}
use Rattle.std.specs.Option.{option_or}
use Rattle.std.specs.Result.{result_err}
use Rattle.uv_num.specs.declared.access.TheConstants.{ACCESS_LOCAL_WRITE, REGION_ACCESS}
use Rattle.uv_num.specs.declared.errno.Errno.{Errno}
use Rattle.uv_num.specs.declared.errno.Errno.TheVariants.{Inval, ProtoNoSupport}
use Rattle.uv_num.specs.declared.limits.TheConstants.{CQ_DEPTH, REGION_BYTES}
use Rattle.uv_num.specs.declared.request.Request.{Request}
use Rattle.uv_num.specs.declared.request.Request.TheVariants.{AllocPd, DeallocPd, CreateChannel, DestroyChannel, CreateCq, DestroyCq, CreateQp, DestroyQp, ModifyQp, QueryQp, CreateSrq, DestroySrq, CreateAh, DestroyAh, RegMr, DeregMr, AllocMw, DeallocMw, BindMw, GetAsync}
use Rattle.uv_num.specs.Access.{has_only, has_right, lets_others_write, is_window_access}
use Rattle.uv_num.specs.Ranges.{is_within, is_state, is_service, is_device, is_queue_depth, attrs_in_range}
use Rattle.uv_attr.specs.declared.call.Attr.{Attr}
use Rattle.uv_attr.specs.declared.call.Call.{Call}
use Rattle.uv_attr.specs.declared.rule.BytesRule.{BytesRule}
use Rattle.uv_attr.specs.Reading.{call_in}
use Rattle.uv_attr.specs.RuleNames.{bytes_rule, bytes_errno, bytes_key, bytes_source}
use Rattle.uv_schema.specs.declared.ids.TheConstants.{VALUE_BYTES}
use Rattle.uv_schema.specs.declared.method.Method.{Method}
use Rattle.uv_schema.specs.declared.method.Wanted.{Wanted}
use Rattle.uv_schema.specs.declared.rule.CallRule.{CallRule}
use Rattle.uv_schema.specs.declared.rule.CallRule.TheVariants.{MethodUnknown, AttrUnknown, AttrHandle, AttrLength, AttrMissing, RangeHandle, RangeCq, RangeService, RangeSends, RangeReceives, RangeState, RangeModify, RangeSrq, RangeDevice, RangeLength, RangeRights, RangeWrite, RangeWindow}
use Rattle.uv_schema.specs.declared.rule.CommandRule.{CommandRule}
use Rattle.uv_schema.specs.declared.rule.CommandRule.TheVariants as command
use Rattle.uv_schema.specs.Check.{checked}
use Rattle.uv_schema.specs.Commands.{command_of}
use Rattle.uv_schema.specs.Methods.{method_of, wanted_of, id_of, is_handle}
use Rattle.uv_schema.specs.Reading.{request_of}
use Rattle.uv_schema.specs.Refusals.{has_wanted, has_missing, has_wide}
use Rattle.uv_schema.specs.Values.{request_in}

-- The tables.

-- the errno that a call or a request is refused with
abbrev pub call_errno : CallRule → Errno
call_errno MethodUnknown = ProtoNoSupport
call_errno AttrUnknown = ProtoNoSupport
call_errno AttrHandle = Inval
call_errno AttrLength = Inval
call_errno AttrMissing = Inval
call_errno RangeHandle = Inval
call_errno RangeCq = Inval
call_errno RangeService = Inval
call_errno RangeSends = Inval
call_errno RangeReceives = Inval
call_errno RangeState = Inval
call_errno RangeModify = Inval
call_errno RangeSrq = Inval
call_errno RangeDevice = Inval
call_errno RangeLength = Inval
call_errno RangeRights = Inval
call_errno RangeWrite = Inval
call_errno RangeWindow = Inval

-- the key that tells a rule from every other
abbrev pub call_key : CallRule → List ℕ
call_key MethodUnknown = codes "method-unknown"
call_key AttrUnknown = codes "attr-unknown"
call_key AttrHandle = codes "attr-handle"
call_key AttrLength = codes "attr-length"
call_key AttrMissing = codes "attr-missing"
call_key RangeHandle = codes "range-handle"
call_key RangeCq = codes "range-cq"
call_key RangeService = codes "range-service"
call_key RangeSends = codes "range-sends"
call_key RangeReceives = codes "range-receives"
call_key RangeState = codes "range-state"
call_key RangeModify = codes "range-modify"
call_key RangeSrq = codes "range-srq"
call_key RangeDevice = codes "range-device"
call_key RangeLength = codes "range-length"
call_key RangeRights = codes "range-rights"
call_key RangeWrite = codes "range-write"
call_key RangeWindow = codes "range-window"

-- files and functions of Linux whose rule it is, or `own`
abbrev pub call_source : CallRule → List ℕ
call_source MethodUnknown = codes "uverbs_ioctl.c, ib_uverbs_cmd_verbs"
call_source AttrUnknown = codes "uverbs_ioctl.c, uverbs_set_attr"
call_source AttrHandle = codes "own"
call_source AttrLength = codes "uverbs_ioctl.c, uverbs_process_attr"
call_source AttrMissing = codes "uverbs_ioctl.c, ib_uverbs_run_method"
call_source RangeHandle = codes "own"
call_source RangeCq = codes "sw/rxe/rxe_cq.c, rxe_cq_chk_attr"
call_source RangeService = codes "own"
call_source RangeSends = codes "sw/rxe/rxe_qp.c, rxe_qp_chk_cap"
call_source RangeReceives = codes "sw/rxe/rxe_qp.c, rxe_qp_chk_cap"
call_source RangeState = codes "own"
call_source RangeModify = codes "sw/rxe/rxe_qp.c, rxe_qp_chk_attr"
call_source RangeSrq = codes "sw/rxe/rxe_srq.c, rxe_srq_chk_init"
call_source RangeDevice = codes "own"
call_source RangeLength = codes "umem.c, ib_umem_get"
call_source RangeRights = codes "rdma/ib_verbs.h, ib_check_mr_access"
call_source RangeWrite = codes "rdma/ib_verbs.h, ib_check_mr_access"
call_source RangeWindow = codes "own"

abbrev pub command_errno : CommandRule → Errno
command_errno (command.Bytes r) = bytes_errno r
command_errno (command.Call r) = call_errno r

abbrev pub command_key : CommandRule → List ℕ
command_key (command.Bytes r) = bytes_key r
command_key (command.Call r) = call_key r

abbrev pub command_source : CommandRule → List ℕ
command_source (command.Bytes r) = bytes_source r
command_source (command.Call r) = call_source r

-- Requests: the first of the numbers that is out of its range.

-- the rule of a test that isn't met
abbrev pub unmet : Bool → CallRule → Option CallRule
unmet met r = if met then None else Some r

-- a region's length, the rights that there are, and writes by its owner where the other side may write
abbrev pub region_rule : ℕ → ℕ → Option CallRule
region_rule length access =
    option_or (unmet (is_within 1 REGION_BYTES length) RangeLength)
    (option_or (unmet (has_only REGION_ACCESS access) RangeRights) (unmet (has_right ACCESS_LOCAL_WRITE access || not (lets_others_write access)) RangeWrite))

abbrev pub request_rule : Request → Option CallRule
request_rule AllocPd = None
request_rule (DeallocPd pd) = None
request_rule CreateChannel = None
request_rule (DestroyChannel channel) = None
request_rule (CreateCq depth channel) = unmet (is_within 1 CQ_DEPTH depth) RangeCq
request_rule (DestroyCq cq) = None
request_rule (CreateQp pd send_cq recv_cq srq service send_depth recv_depth) =
    option_or (unmet (is_service service) RangeService) (option_or (unmet (is_queue_depth send_depth) RangeSends) (unmet (is_queue_depth recv_depth) RangeReceives))
request_rule (DestroyQp qp) = None
request_rule (ModifyQp qp to attrs) = option_or (unmet (is_state to) RangeState) (unmet (attrs_in_range attrs) RangeModify)
request_rule (QueryQp qp) = None
request_rule (CreateSrq pd depth) = unmet (is_queue_depth depth) RangeSrq
request_rule (DestroySrq srq) = None
request_rule (CreateAh pd device) = unmet (is_device device) RangeDevice
request_rule (DestroyAh ah) = None
request_rule (RegMr pd length access) = region_rule length access
request_rule (DeregMr mr) = None
request_rule (AllocMw pd) = None
request_rule (DeallocMw mw) = None
request_rule (BindMw mw mr offset length access) = unmet (is_window_access access) RangeWindow
request_rule GetAsync = None

-- Calls: the first attribute that is refused, then what is missing, then the ranges.

-- whether the attribute of this number is a handle
abbrev pub takes_handle : List Wanted → ℕ → Bool
takes_handle wanted id = list_any (λ w. is_handle w && (id_of w == id)) wanted

abbrev pub length_rule : List Wanted → ℕ → CallRule
length_rule wanted id = if takes_handle wanted id then AttrHandle else AttrLength

abbrev pub attr_rule : List Wanted → Attr → Option CallRule
attr_rule wanted a =
    if has_wanted wanted a.id
    then (if a.len == VALUE_BYTES then None else Some (length_rule wanted a.id))
    else (if a.mandatory then Some AttrUnknown else None)

abbrev pub attrs_rule : List Wanted → List Attr → Option CallRule
attrs_rule wanted [] = None
attrs_rule wanted (a ∷ attrs) = option_or (attr_rule wanted a) (attrs_rule wanted attrs)

abbrev pub method_rule : Method → List Attr → Option CallRule
method_rule method attrs =
    option_or (attrs_rule (wanted_of method) attrs)
    (if has_missing method attrs then Some AttrMissing
    else (if has_wide method attrs then Some RangeHandle
    else request_rule (request_in method attrs)))

abbrev pub call_rule_of : Option Method → List Attr → Option CallRule
call_rule_of None attrs = Some MethodUnknown
call_rule_of (Some method) attrs = method_rule method attrs

abbrev pub call_rule : Call → Option CallRule
call_rule call = call_rule_of (method_of call.object call.method) call.attrs

-- Command bytes: first as bytes, and then as a call.

abbrev pub command_rule_of : Option BytesRule → Option CallRule → Option CommandRule
command_rule_of (Some r) of_call = Some (command.Bytes r)
command_rule_of None None = None
command_rule_of None (Some r) = Some (command.Call r)

abbrev pub command_rule : List ℕ → Option CommandRule
command_rule bytes = command_rule_of (bytes_rule bytes) (call_rule (call_in bytes))

-- The laws: there is a rule exactly where there is a refusal, and its errno is that of the refusal.

abbrev pub RequestHasRule : Type 0
RequestHasRule = (request : Request) → option_map call_errno (request_rule request) ≡ result_err (checked request)

abbrev pub CallHasRule : Type 0
CallHasRule = (call : Call) → option_map call_errno (call_rule call) ≡ result_err (request_of call)

abbrev pub CommandHasRule : Type 0
CommandHasRule = (bytes : List ℕ) → option_map command_errno (command_rule bytes) ≡ result_err (command_of bytes)
