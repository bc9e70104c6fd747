-- The ranges of the numbers in requests: a row for each request, and a row for each attribute of a modify. A handle
-- has 32 bits by its type, and each of these is in its range.
use Rattle.std.specs.Prelude.{ℕ, Bool, true, ◌&&◌, nat_le, nat_lt, is_some}
use Rattle.std.specs.List.{list_all, list_any}
use Rattle.std.specs.Option.{option_map_or}
use Rattle.uv_num.specs.declared.attrs.QpAttr.{QpAttr}
use Rattle.uv_num.specs.declared.attrs.QpAttr.TheVariants.{Access, Pkey, Port, Qkey, Dev, Mtu, Timeout, Retry, Rnr, Rqpsn, Mra, RnrTimer, Sqpsn, Mdra, Dqpn}
use Rattle.uv_num.specs.declared.attrs.QpAttrs.{QpAttrs}
use Rattle.uv_num.specs.declared.attrs.TheConstants.{QP_ATTRS}
use Rattle.uv_num.specs.declared.limits.TheConstants.{CQ_DEPTH, DEVICES, MOST_READS, MOST_RETRIES, MOST_TIME, MTUS, PKEYS, PORTS, PSNS, QKEYS, QP_NUMBERS, QUEUE_DEPTH, REGION_BYTES}
use Rattle.uv_num.specs.declared.request.Request.{Request}
use Rattle.uv_num.specs.declared.request.Request.TheVariants.{AllocPd, DeallocPd, CreateChannel, DestroyChannel, CreateCq, DestroyCq, CreateQp, DestroyQp, ModifyQp, QueryQp, CreateSrq, DestroySrq, CreateAh, DestroyAh, RegMr, DeregMr, AllocMw, DeallocMw, BindMw, GetAsync}
use Rattle.uv_num.specs.Access.{is_qp_access, is_region_access, is_window_access}
use Rattle.uv_num.specs.Attrs.{attr_value}
use Rattle.uv_num.specs.Ids.{is_number}
use Rattle.uv_num.specs.Qp.{qp_state_of, service_of}

-- whether a number lies between two others, both included
abbrev pub is_within : ℕ → ℕ → ℕ → Bool
is_within low high n = nat_le low n && nat_le n high

-- whether a number is that of a state
abbrev pub is_state : ℕ → Bool
is_state n = is_some (qp_state_of n)

-- whether a number is that of a service
abbrev pub is_service : ℕ → Bool
is_service n = is_some (service_of n)

-- whether a number is that of a device
abbrev pub is_device : ℕ → Bool
is_device n = nat_lt n DEVICES

-- whether a number is a path MTU in bytes
abbrev pub is_mtu : ℕ → Bool
is_mtu n = list_any (is_number n) MTUS

-- whether a work queue may be so deep
abbrev pub is_queue_depth : ℕ → Bool
is_queue_depth n = is_within 1 QUEUE_DEPTH n

-- the range of each attribute
abbrev pub attr_in_range : QpAttr → ℕ → Bool
attr_in_range Access n = is_qp_access n
attr_in_range Pkey n = nat_lt n PKEYS
attr_in_range Port n = is_within 1 PORTS n
attr_in_range Qkey n = nat_lt n QKEYS
attr_in_range Dev n = is_device n
attr_in_range Mtu n = is_mtu n
attr_in_range Timeout n = nat_le n MOST_TIME
attr_in_range Retry n = nat_le n MOST_RETRIES
attr_in_range Rnr n = nat_le n MOST_RETRIES
attr_in_range Rqpsn n = nat_lt n PSNS
attr_in_range Mra n = is_within 1 MOST_READS n
attr_in_range RnrTimer n = nat_le n MOST_TIME
attr_in_range Sqpsn n = nat_lt n PSNS
attr_in_range Mdra n = is_within 1 MOST_READS n
attr_in_range Dqpn n = nat_lt n QP_NUMBERS

-- whether an attribute is in its range, where it is given
abbrev pub given_in_range : QpAttrs → QpAttr → Bool
given_in_range attrs name = option_map_or (attr_in_range name) (attr_value attrs name) true

-- whether each attribute that is given is in its range
abbrev pub attrs_in_range : QpAttrs → Bool
attrs_in_range attrs = list_all (given_in_range attrs) QP_ATTRS

-- the ranges of each request
abbrev pub is_in_range : Request → Bool
is_in_range AllocPd = true
is_in_range (DeallocPd pd) = true
is_in_range CreateChannel = true
is_in_range (DestroyChannel channel) = true
is_in_range (CreateCq depth channel) = is_within 1 CQ_DEPTH depth
is_in_range (DestroyCq cq) = true
is_in_range (CreateQp pd send_cq recv_cq srq service send_depth recv_depth) =
    is_service service && is_queue_depth send_depth && is_queue_depth recv_depth
is_in_range (DestroyQp qp) = true
is_in_range (ModifyQp qp to attrs) = is_state to && attrs_in_range attrs
is_in_range (QueryQp qp) = true
is_in_range (CreateSrq pd depth) = is_queue_depth depth
is_in_range (DestroySrq srq) = true
is_in_range (CreateAh pd device) = is_device device
is_in_range (DestroyAh ah) = true
is_in_range (RegMr pd length access) = is_within 1 REGION_BYTES length && is_region_access access
is_in_range (DeregMr mr) = true
is_in_range (AllocMw pd) = true
is_in_range (DeallocMw mw) = true
is_in_range (BindMw mw mr offset length access) = is_window_access access
is_in_range GetAsync = true
