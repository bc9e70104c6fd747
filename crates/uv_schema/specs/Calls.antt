-- The call that a request makes, and what is read from it.
use Rattle.std.specs.Prelude.{◌≡◌, ℕ, ◌+◌, ◌^◌, ◌<◌, true, false, List, [], ◌∷◌, Option, Some, None, Result, Ok, Err, if◌then◌else◌}
use Rattle.std.specs.List.{AllByRecursion}
use Rattle.uv_num.specs.declared.attrs.QpAttrs.{QpAttrs}
use Rattle.uv_num.specs.declared.errno.Errno.{Errno}
use Rattle.uv_num.specs.declared.errno.Errno.TheVariants.{Inval}
use Rattle.uv_num.specs.declared.request.Request.{Request}
use Rattle.uv_num.specs.declared.request.Request.TheVariants.{AllocPd, DeallocPd, CreateChannel, DestroyChannel, CreateCq, DestroyCq, CreateQp, DestroyQp, ModifyQp, QueryQp, CreateSrq, DestroySrq, CreateAh, DestroyAh, RegMr, DeregMr, AllocMw, DeallocMw, BindMw, GetAsync}
use Rattle.uv_num.specs.Ranges.{is_in_range}
use Rattle.uv_attr.specs.declared.call.Attr.{Attr}
use Rattle.uv_attr.specs.declared.call.Call.{Call}
use Rattle.uv_schema.specs.declared.ids.TheConstants.{VALUE_BYTES}
use Rattle.uv_schema.specs.declared.method.Method.{Method}
use Rattle.uv_schema.specs.declared.method.Method.TheVariants as method
use Rattle.uv_schema.specs.Methods.{Row, row_of}
use Rattle.uv_schema.specs.Reading.{request_of}

-- the method of a request
abbrev pub method_for : Request → Method
method_for AllocPd = method.AllocPd
method_for (DeallocPd pd) = method.DeallocPd
method_for CreateChannel = method.CreateChannel
method_for (DestroyChannel channel) = method.DestroyChannel
method_for (CreateCq depth channel) = method.CreateCq
method_for (DestroyCq cq) = method.DestroyCq
method_for (CreateQp pd send_cq recv_cq srq service send_depth recv_depth) = method.CreateQp
method_for (DestroyQp qp) = method.DestroyQp
method_for (ModifyQp qp to attrs) = method.ModifyQp
method_for (QueryQp qp) = method.QueryQp
method_for (CreateSrq pd depth) = method.CreateSrq
method_for (DestroySrq srq) = method.DestroySrq
method_for (CreateAh pd device) = method.CreateAh
method_for (DestroyAh ah) = method.DestroyAh
method_for (RegMr pd length access) = method.RegMr
method_for (DeregMr mr) = method.DeregMr
method_for (AllocMw pd) = method.AllocMw
method_for (DeallocMw mw) = method.DeallocMw
method_for (BindMw mw mr offset length access) = method.BindMw
method_for GetAsync = method.GetAsync

-- the values of a modify's attributes, from attribute 3 on
abbrev pub modified_by : QpAttrs → List (Option ℕ)
modified_by attrs =
    attrs.access ∷ attrs.pkey ∷ attrs.port ∷ attrs.qkey ∷ attrs.dev ∷ attrs.mtu ∷ attrs.timeout ∷ attrs.retry ∷ attrs.rnr
    ∷ attrs.rqpsn ∷ attrs.mra ∷ attrs.rnrtimer ∷ attrs.sqpsn ∷ attrs.mdra ∷ attrs.dqpn ∷ []

-- the values of a request's attributes, from attribute 1 on
abbrev pub values_of : Request → List (Option ℕ)
values_of AllocPd = []
values_of (DeallocPd pd) = Some pd ∷ []
values_of CreateChannel = []
values_of (DestroyChannel channel) = Some channel ∷ []
values_of (CreateCq depth channel) = Some depth ∷ channel ∷ []
values_of (DestroyCq cq) = Some cq ∷ []
values_of (CreateQp pd send_cq recv_cq srq service send_depth recv_depth) =
    Some pd ∷ Some send_cq ∷ Some recv_cq ∷ srq ∷ Some service ∷ Some send_depth ∷ Some recv_depth ∷ []
values_of (DestroyQp qp) = Some qp ∷ []
values_of (ModifyQp qp to attrs) = Some qp ∷ Some to ∷ modified_by attrs
values_of (QueryQp qp) = Some qp ∷ []
values_of (CreateSrq pd depth) = Some pd ∷ Some depth ∷ []
values_of (DestroySrq srq) = Some srq ∷ []
values_of (CreateAh pd device) = Some pd ∷ Some device ∷ []
values_of (DestroyAh ah) = Some ah ∷ []
values_of (RegMr pd length access) = Some pd ∷ Some length ∷ Some access ∷ []
values_of (DeregMr mr) = Some mr ∷ []
values_of (AllocMw pd) = Some pd ∷ []
values_of (DeallocMw mw) = Some mw ∷ []
values_of (BindMw mw mr offset length access) = Some mw ∷ mr ∷ Some offset ∷ Some length ∷ Some access ∷ []
values_of GetAsync = []

-- a mandatory attribute with a value
abbrev pub attr_for : ℕ → ℕ → Attr
attr_for id value = record { id = id; len = VALUE_BYTES; mandatory = true; output = false; value = value }

-- an attribute for each value that is given, the first of them with this number
abbrev pub attrs_for : ℕ → List (Option ℕ) → List Attr
attrs_for id [] = []
attrs_for id (None ∷ values) = attrs_for (id + 1) values
attrs_for id (Some value ∷ values) = attr_for id value ∷ attrs_for (id + 1) values

abbrev pub call_by : Row → List (Option ℕ) → Call
call_by row values = record { object = row.object; method = row.number; driver = 0; attrs = attrs_for 1 values }

-- the call that a request makes
abbrev pub call_for : Request → Call
call_for request = call_by (row_of (method_for request)) (values_of request)

abbrev pub optional : Option ℕ → List ℕ
optional None = []
optional (Some n) = n ∷ []

-- the handles of a request
abbrev pub handles_of : Request → List ℕ
handles_of AllocPd = []
handles_of (DeallocPd pd) = pd ∷ []
handles_of CreateChannel = []
handles_of (DestroyChannel channel) = channel ∷ []
handles_of (CreateCq depth channel) = optional channel
handles_of (DestroyCq cq) = cq ∷ []
handles_of (CreateQp pd send_cq recv_cq srq service send_depth recv_depth) = pd ∷ send_cq ∷ recv_cq ∷ optional srq
handles_of (DestroyQp qp) = qp ∷ []
handles_of (ModifyQp qp to attrs) = qp ∷ []
handles_of (QueryQp qp) = qp ∷ []
handles_of (CreateSrq pd depth) = pd ∷ []
handles_of (DestroySrq srq) = srq ∷ []
handles_of (CreateAh pd device) = pd ∷ []
handles_of (DestroyAh ah) = ah ∷ []
handles_of (RegMr pd length access) = pd ∷ []
handles_of (DeregMr mr) = mr ∷ []
handles_of (AllocMw pd) = pd ∷ []
handles_of (DeallocMw mw) = mw ∷ []
handles_of (BindMw mw mr offset length access) = mw ∷ optional mr
handles_of GetAsync = []

-- each handle is one that its field holds
abbrev pub HandlesFit : Request → Type 0
HandlesFit request = AllByRecursion (λ handle. handle < 2 ^ 32) (handles_of request)

-- a request whose numbers are in their ranges is taken, another is refused
abbrev pub accepted : Request → Result Request Errno
accepted request = if is_in_range request then Ok request else Err Inval

-- the call that a request makes is read as that request
abbrev pub ReadsBack : Request → Type 0
ReadsBack request = request_of (call_for request) ≡ accepted request
