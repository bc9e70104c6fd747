-- What a request says of the object that it makes.
use Rattle.std.specs.Prelude.{ℕ}
use Rattle.uv_num.specs.declared.request.Request.{Request}
use Rattle.uv_num.specs.declared.request.Request.TheVariants.{AllocPd, DeallocPd, CreateChannel, DestroyChannel, CreateCq, DestroyCq, CreateQp, DestroyQp, ModifyQp, QueryQp, CreateSrq, DestroySrq, CreateAh, DestroyAh, RegMr, DeregMr, AllocMw, DeallocMw, BindMw, GetAsync}

-- the service number of a queue pair
abbrev pub service_in : Request → ℕ
service_in AllocPd = 0
service_in (DeallocPd pd) = 0
service_in CreateChannel = 0
service_in (DestroyChannel channel) = 0
service_in (CreateCq depth channel) = 0
service_in (DestroyCq cq) = 0
service_in (CreateQp pd send_cq recv_cq srq service send_depth recv_depth) = service
service_in (DestroyQp qp) = 0
service_in (ModifyQp qp to attrs) = 0
service_in (QueryQp qp) = 0
service_in (CreateSrq pd depth) = 0
service_in (DestroySrq srq) = 0
service_in (CreateAh pd device) = 0
service_in (DestroyAh ah) = 0
service_in (RegMr pd length access) = 0
service_in (DeregMr mr) = 0
service_in (AllocMw pd) = 0
service_in (DeallocMw mw) = 0
service_in (BindMw mw mr offset length access) = 0
service_in GetAsync = 0

-- the length of a region, in bytes
abbrev pub length_in : Request → ℕ
length_in AllocPd = 0
length_in (DeallocPd pd) = 0
length_in CreateChannel = 0
length_in (DestroyChannel channel) = 0
length_in (CreateCq depth channel) = 0
length_in (DestroyCq cq) = 0
length_in (CreateQp pd send_cq recv_cq srq service send_depth recv_depth) = 0
length_in (DestroyQp qp) = 0
length_in (ModifyQp qp to attrs) = 0
length_in (QueryQp qp) = 0
length_in (CreateSrq pd depth) = 0
length_in (DestroySrq srq) = 0
length_in (CreateAh pd device) = 0
length_in (DestroyAh ah) = 0
length_in (RegMr pd length access) = length
length_in (DeregMr mr) = 0
length_in (AllocMw pd) = 0
length_in (DeallocMw mw) = 0
length_in (BindMw mw mr offset length access) = 0
length_in GetAsync = 0

-- the rights of a region
abbrev pub access_in : Request → ℕ
access_in AllocPd = 0
access_in (DeallocPd pd) = 0
access_in CreateChannel = 0
access_in (DestroyChannel channel) = 0
access_in (CreateCq depth channel) = 0
access_in (DestroyCq cq) = 0
access_in (CreateQp pd send_cq recv_cq srq service send_depth recv_depth) = 0
access_in (DestroyQp qp) = 0
access_in (ModifyQp qp to attrs) = 0
access_in (QueryQp qp) = 0
access_in (CreateSrq pd depth) = 0
access_in (DestroySrq srq) = 0
access_in (CreateAh pd device) = 0
access_in (DestroyAh ah) = 0
access_in (RegMr pd length access) = access
access_in (DeregMr mr) = 0
access_in (AllocMw pd) = 0
access_in (DeallocMw mw) = 0
access_in (BindMw mw mr offset length access) = 0
access_in GetAsync = 0
