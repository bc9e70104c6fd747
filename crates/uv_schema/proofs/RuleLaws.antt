-- There is a rule exactly where there is a refusal, and its errno is that of the refusal.
use Rattle.std.proofs.Common.{◌≡◌, ℕ, Bool, true, false, List, [], ◌∷◌, Option, Some, None, Ok, Err, refl, sym, ap, ◌∙◌}
use Rattle.std.specs.Prelude.{◌==◌, ◌&&◌, ◌||◌, not, Result, option_map, if◌then◌else◌}
use Rattle.std.specs.Option.{option_or}
use Rattle.std.specs.Result.{result_err}
use Rattle.std.proofs.lemmas.Option.{none-some, same_Some}
use Rattle.uv_num.specs.declared.access.TheConstants.{ACCESS_LOCAL_WRITE, REGION_ACCESS}
use Rattle.uv_num.specs.declared.errno.Errno.{Errno}
use Rattle.uv_num.specs.declared.errno.Errno.TheVariants.{Inval, ProtoNoSupport}
use Rattle.uv_num.specs.declared.limits.TheConstants.{CQ_DEPTH, REGION_BYTES}
use Rattle.uv_num.specs.declared.request.Request.{Request}
use Rattle.uv_num.specs.declared.request.Request.TheVariants.{AllocPd, DeallocPd, CreateChannel, DestroyChannel, CreateCq, DestroyCq, CreateQp, DestroyQp, ModifyQp, QueryQp, CreateSrq, DestroySrq, CreateAh, DestroyAh, RegMr, DeregMr, AllocMw, DeallocMw, BindMw, GetAsync}
use Rattle.uv_num.specs.Access.{has_only, has_right, lets_others_write, is_window_access}
use Rattle.uv_num.specs.Ranges.{is_within, is_state, is_service, is_device, is_queue_depth, attrs_in_range, is_in_range}
use Rattle.uv_attr.specs.declared.call.Attr.{Attr}
use Rattle.uv_attr.specs.declared.call.Call.{Call}
use Rattle.uv_attr.specs.declared.fault.CallFault.{CallFault}
use Rattle.uv_attr.specs.declared.rule.BytesRule.{BytesRule}
use Rattle.uv_attr.specs.declared.rule.BytesRule.TheVariants.{Header, Length, Count, Reserved, Attrs, Flags, Data, Twice}
use Rattle.uv_attr.specs.Reading.{call_in}
use Rattle.uv_attr.specs.Refusal.{bytes_refusal}
use Rattle.uv_attr.specs.RuleNames.{bytes_rule, bytes_errno, bytes_fault, BytesHaveRule}
use Rattle.uv_schema.specs.declared.ids.TheConstants.{VALUE_BYTES}
use Rattle.uv_schema.specs.declared.method.Method.{Method}
use Rattle.uv_schema.specs.declared.method.Wanted.{Wanted}
use Rattle.uv_schema.specs.declared.rule.CallRule.{CallRule}
use Rattle.uv_schema.specs.declared.rule.CallRule.TheVariants.{AttrUnknown, AttrHandle, AttrLength, AttrMissing, RangeHandle, RangeCq, RangeService, RangeSends, RangeReceives, RangeState, RangeModify, RangeSrq, RangeDevice, RangeLength, RangeRights, RangeWrite, RangeWindow}
use Rattle.uv_schema.specs.Commands.{fault_errno, answer_to}
use Rattle.uv_schema.specs.Methods.{method_of, wanted_of}
use Rattle.uv_schema.specs.Reading.{request_of, unless, asked_for}
use Rattle.uv_schema.specs.Refusals.{has_wanted, attr_refusal, attrs_refusal, has_missing, has_wide, method_refusal}
use Rattle.uv_schema.specs.RuleNames.{call_errno, command_errno, unmet, request_rule, takes_handle, attr_rule, attrs_rule, method_rule, call_rule_of, call_rule, command_rule_of, RequestHasRule, CallHasRule, CommandHasRule}
use Rattle.uv_schema.specs.Values.{request_in}

-- Requests.

-- EINVAL where a test isn't met
abbrev inval_unmet : Bool → Option Errno
inval_unmet met = if met then None else Some Inval

last_test : (a : Bool) (r : CallRule) → call_errno r ≡ Inval → option_map call_errno (unmet a r) ≡ inval_unmet a
last_test true r e = refl
last_test false r e = ap Some e

first_test : (a b : Bool) (r : CallRule) (later : Option CallRule) → call_errno r ≡ Inval → option_map call_errno later ≡ inval_unmet b
    → option_map call_errno (option_or (unmet a r) later) ≡ inval_unmet (a && b)
first_test true b r later e h = h
first_test false b r later e h = ap Some e

pair_tests : (service sends receives : Bool)
    → option_map call_errno (option_or (unmet service RangeService) (option_or (unmet sends RangeSends) (unmet receives RangeReceives)))
    ≡ inval_unmet (service && sends && receives)
pair_tests true true true = refl
pair_tests true true false = refl
pair_tests true false receives = refl
pair_tests false sends receives = refl

in_range_has : (request : Request) → option_map call_errno (request_rule request) ≡ inval_unmet (is_in_range request)
in_range_has AllocPd = refl
in_range_has (DeallocPd pd) = refl
in_range_has CreateChannel = refl
in_range_has (DestroyChannel channel) = refl
in_range_has (CreateCq depth channel) = last_test (is_within 1 CQ_DEPTH depth) RangeCq refl
in_range_has (DestroyCq cq) = refl
in_range_has (CreateQp pd send_cq recv_cq srq service send_depth recv_depth) =
    pair_tests (is_service service) (is_queue_depth send_depth) (is_queue_depth recv_depth)
in_range_has (DestroyQp qp) = refl
in_range_has (ModifyQp qp to attrs) = first_test (is_state to) (attrs_in_range attrs) RangeState _ refl (last_test (attrs_in_range attrs) RangeModify refl)
in_range_has (QueryQp qp) = refl
in_range_has (CreateSrq pd depth) = last_test (is_queue_depth depth) RangeSrq refl
in_range_has (DestroySrq srq) = refl
in_range_has (CreateAh pd device) = last_test (is_device device) RangeDevice refl
in_range_has (DestroyAh ah) = refl
in_range_has (RegMr pd length access) =
    let owner_writes : Bool = has_right ACCESS_LOCAL_WRITE access || not (lets_others_write access) in
    first_test
    (is_within 1 REGION_BYTES length)
    (has_only REGION_ACCESS access && owner_writes)
    RangeLength
    _
    refl
    (first_test (has_only REGION_ACCESS access) owner_writes RangeRights _ refl (last_test owner_writes RangeWrite refl))
in_range_has (DeregMr mr) = refl
in_range_has (AllocMw pd) = refl
in_range_has (DeallocMw mw) = refl
in_range_has (BindMw mw mr offset length access) = last_test (is_window_access access) RangeWindow refl
in_range_has GetAsync = refl

checked_so : (b : Bool) → inval_unmet b ≡ result_err (if b then Ok (tt {0}) else Err Inval)
checked_so true = refl
checked_so false = refl

pub request_has : RequestHasRule
request_has request = in_range_has request ∙ checked_so (is_in_range request)

-- Calls.

attr_by : (known eight handle mandatory : Bool)
    → option_map call_errno (if known then (if eight then None else Some (if handle then AttrHandle else AttrLength)) else (if mandatory then Some AttrUnknown else None))
    ≡ (if known then (if eight then None else Some Inval) else (if mandatory then Some ProtoNoSupport else None))
attr_by true true handle mandatory = refl
attr_by true false true mandatory = refl
attr_by true false false mandatory = refl
attr_by false eight handle true = refl
attr_by false eight handle false = refl

-- the errno of the first of two is the first of their errnos
errno_of_first : (p q : Option CallRule) → option_map call_errno (option_or p q) ≡ option_or (option_map call_errno p) (option_map call_errno q)
errno_of_first None q = refl
errno_of_first (Some r) q = refl

attr_has : (wanted : List Wanted) (a : Attr) → option_map call_errno (attr_rule wanted a) ≡ attr_refusal wanted a
attr_has wanted a = attr_by (has_wanted wanted a.id) (a.len == VALUE_BYTES) (takes_handle wanted a.id) a.mandatory

attrs_have : (wanted : List Wanted) (attrs : List Attr) → option_map call_errno (attrs_rule wanted attrs) ≡ attrs_refusal wanted attrs
attrs_have wanted [] = refl
attrs_have wanted (a ∷ attrs) =
    errno_of_first (attr_rule wanted a) (attrs_rule wanted attrs)
    ∙ ap (λ p. option_or p (option_map call_errno (attrs_rule wanted attrs))) (attr_has wanted a)
    ∙ ap (λ q. option_or (attr_refusal wanted a) q) (attrs_have wanted attrs)

later_has : (missing wide : Bool) (request : Request)
    → option_map call_errno (if missing then Some AttrMissing else (if wide then Some RangeHandle else request_rule request))
    ≡ (if missing then Some Inval else (if wide then Some Inval else inval_unmet (is_in_range request)))
later_has true wide request = refl
later_has false true request = refl
later_has false false request = in_range_has request

method_has : (method : Method) (attrs : List Attr) → option_map call_errno (method_rule method attrs) ≡ method_refusal method attrs
method_has method attrs =
    let later : Option CallRule = if has_missing method attrs then Some AttrMissing else (if has_wide method attrs then Some RangeHandle else request_rule (request_in method attrs)) in
    errno_of_first (attrs_rule (wanted_of method) attrs) later
    ∙ ap (λ p. option_or p (option_map call_errno later)) (attrs_have (wanted_of method) attrs)
    ∙ ap (λ q. option_or (attrs_refusal (wanted_of method) attrs) q) (later_has (has_missing method attrs) (has_wide method attrs) (request_in method attrs))

unless_tells : (refusal : Option Errno) (request : Request) → refusal ≡ result_err (unless refusal request)
unless_tells None request = refl
unless_tells (Some e) request = refl

call_by : (method : Option Method) (attrs : List Attr) → option_map call_errno (call_rule_of method attrs) ≡ result_err (asked_for method attrs)
call_by None attrs = refl
call_by (Some method) attrs = method_has method attrs ∙ unless_tells (method_refusal method attrs) (request_in method attrs)

pub call_has : CallHasRule
call_has call = call_by (method_of call.object call.method) call.attrs

-- Command bytes.

errno_so : (r : BytesRule) → bytes_errno r ≡ fault_errno (bytes_fault r)
errno_so Header = refl
errno_so Length = refl
errno_so Count = refl
errno_so Reserved = refl
errno_so Attrs = refl
errno_so Flags = refl
errno_so Data = refl
errno_so Twice = refl

command_by :
    (of_bytes : Option BytesRule) (refused : Option CallFault) (of_call : Option CallRule) (call : Call)
    → option_map bytes_fault of_bytes ≡ refused → option_map call_errno of_call ≡ result_err (request_of call)
    → option_map command_errno (command_rule_of of_bytes of_call) ≡ result_err (answer_to refused call)
command_by None None None call h k = k
command_by None None (Some r) call h k = k
command_by None (Some fault) of_call call h k = absurd (none-some fault h)
command_by (Some r) None of_call call h k = absurd (none-some (bytes_fault r) (sym h))
command_by (Some r) (Some fault) of_call call h k = ap Some (errno_so r ∙ ap fault_errno (same_Some _ _ h))

pub command_has : BytesHaveRule → CommandHasRule
command_has have bytes = command_by (bytes_rule bytes) (bytes_refusal bytes) (call_rule (call_in bytes)) (call_in bytes) (have bytes) (call_has (call_in bytes))
