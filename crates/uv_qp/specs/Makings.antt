-- A queue pair as it is made and named.
use Rattle.std.specs.Prelude.{ℕ, Bool, Option, None, is_some, []}
use Rattle.std.specs.Option.{option_map}
use Rattle.uv_num.specs.declared.qp.QpState.TheVariants.{Reset}
use Rattle.uv_num.specs.declared.qp.Service.{Service}
use Rattle.uv_num.specs.declared.request.Request.{Request}
use Rattle.uv_num.specs.declared.request.Request.TheVariants.{AllocPd, DeallocPd, CreateChannel, DestroyChannel, CreateCq, DestroyCq, CreateQp, DestroyQp, ModifyQp, QueryQp, CreateSrq, DestroySrq, CreateAh, DestroyAh, RegMr, DeregMr, AllocMw, DeallocMw, BindMw, GetAsync}
use Rattle.uv_num.specs.Attrs.{no_attrs}
use Rattle.uv_num.specs.Qp.{service_of}
use Rattle.uv_qp.specs.declared.state.Names.{Names}
use Rattle.uv_qp.specs.Moves.{starting, expecting}
use Rattle.uv_qp.specs.Pairs.{Paired}

-- a queue pair in RESET, to which nothing was posted
abbrev pub unused : Names → Bool → ℕ → ℕ → Service → Paired
unused names srq send_depth recv_depth service = record {
  names = names;
  service = service;
  srq = srq;
  state = Reset;
  kept = no_attrs;
  requester = starting 0;
  responder = expecting 0;
  held = None;
  sends = record { works = []; depth = send_depth };
  receives = record { works = []; depth = recv_depth };
  sent = [];
  received = [];
}

-- the queue pair that a request asks for, if it asks for one
abbrev pub pair_made_by : Names → Request → Option Paired
pair_made_by names AllocPd = None
pair_made_by names (DeallocPd pd) = None
pair_made_by names CreateChannel = None
pair_made_by names (DestroyChannel channel) = None
pair_made_by names (CreateCq depth channel) = None
pair_made_by names (DestroyCq cq) = None
pair_made_by names (CreateQp pd send_cq recv_cq srq service send_depth recv_depth) = option_map (unused names (is_some srq) send_depth recv_depth) (service_of service)
pair_made_by names (DestroyQp qp) = None
pair_made_by names (ModifyQp qp to attrs) = None
pair_made_by names (QueryQp qp) = None
pair_made_by names (CreateSrq pd depth) = None
pair_made_by names (DestroySrq srq) = None
pair_made_by names (CreateAh pd device) = None
pair_made_by names (DestroyAh ah) = None
pair_made_by names (RegMr pd length access) = None
pair_made_by names (DeregMr mr) = None
pair_made_by names (AllocMw pd) = None
pair_made_by names (DeallocMw mw) = None
pair_made_by names (BindMw mw mr offset length access) = None
pair_made_by names GetAsync = None

-- the queue pair under other names
abbrev pub pair_named : Paired → Names → Paired
pair_named p names = record p { names = names }
