-- What each request does to the object graph: a row for each request.
use Rattle.std.specs.Prelude.{ℕ, Option, None, Some}
use Rattle.uv_num.specs.declared.kind.Kind.{Kind}
use Rattle.uv_num.specs.declared.kind.Kind.TheVariants.{Pd, Channel, Cq, Qp, Srq, Ah, Mr, Mw}
use Rattle.uv_num.specs.declared.request.Act.{Act}
use Rattle.uv_num.specs.declared.request.Act.TheVariants.{Modify, Query, Bind, Unbind, Async}
use Rattle.uv_num.specs.declared.request.Request.{Request}
use Rattle.uv_num.specs.declared.request.Request.TheVariants.{AllocPd, DeallocPd, CreateChannel, DestroyChannel, CreateCq, DestroyCq, CreateQp, DestroyQp, ModifyQp, QueryQp, CreateSrq, DestroySrq, CreateAh, DestroyAh, RegMr, DeregMr, AllocMw, DeallocMw, BindMw, GetAsync}
use Rattle.uv_num.specs.declared.request.Role.{Role}
use Rattle.uv_num.specs.declared.request.Role.TheVariants.{Creates, Destroys, Acts}

-- the destroy of the object of this kind and handle
abbrev pub destroys : Kind → ℕ → Role
destroys kind handle = Destroys (record { kind = kind; handle = handle })

-- a window is bound to the region that is named, else it is unbound
abbrev pub binds : Option ℕ → ℕ → ℕ → ℕ → Act
binds None offset length access = Unbind offset length access
binds (Some mr) offset length access = Bind offset length access

-- what a request does to the object graph
abbrev pub role_of : Request → Role
role_of AllocPd = Creates Pd
role_of (DeallocPd pd) = destroys Pd pd
role_of CreateChannel = Creates Channel
role_of (DestroyChannel channel) = destroys Channel channel
role_of (CreateCq depth channel) = Creates Cq
role_of (DestroyCq cq) = destroys Cq cq
role_of (CreateQp pd send_cq recv_cq srq service send_depth recv_depth) = Creates Qp
role_of (DestroyQp qp) = destroys Qp qp
role_of (ModifyQp qp to attrs) = Acts (Modify to attrs)
role_of (QueryQp qp) = Acts Query
role_of (CreateSrq pd depth) = Creates Srq
role_of (DestroySrq srq) = destroys Srq srq
role_of (CreateAh pd device) = Creates Ah
role_of (DestroyAh ah) = destroys Ah ah
role_of (RegMr pd length access) = Creates Mr
role_of (DeregMr mr) = destroys Mr mr
role_of (AllocMw pd) = Creates Mw
role_of (DeallocMw mw) = destroys Mw mw
role_of (BindMw mw mr offset length access) = Acts (binds mr offset length access)
role_of GetAsync = Acts Async
