-- What the create of a request makes before it enters: contents that nobody has used and that have no names yet.
use Rattle.std.specs.Prelude.{ℕ, Option, None, Some, ◌%◌, [], option_map}
use Rattle.uv_num.specs.declared.limits.TheConstants.{NONE}
use Rattle.uv_num.specs.declared.request.Request.{Request}
use Rattle.uv_num.specs.declared.request.Request.TheVariants.{AllocPd, DeallocPd, CreateChannel, DestroyChannel, CreateCq, DestroyCq, CreateQp, DestroyQp, ModifyQp, QueryQp, CreateSrq, DestroySrq, CreateAh, DestroyAh, RegMr, DeregMr, AllocMw, DeallocMw, BindMw, GetAsync}
use Rattle.uv_cq.specs.Rings.{fresh_ring}
use Rattle.uv_qp.specs.declared.state.Names.{Names}
use Rattle.uv_qp.specs.Ledgers.{empty_ledger}
use Rattle.uv_qp.specs.Makings.{pair_made_by}
use Rattle.uv_qp.specs.Pairs.{Paired}
use Rattle.uv_region.specs.Acting.{fresh}
use Rattle.uv_world.specs.declared.content.Content.{Content}
use Rattle.uv_world.specs.declared.content.Content.TheVariants as content

-- what a pair is known by before it is named
abbrev pub unnamed : Names
unnamed = record { object = NONE; domain = NONE; index = 0; device = 0 }

-- a pair that is linked with nothing
abbrev pub pair_content : Paired → Content
pair_content pair = content.Qp (record { qp = pair; send = None; receive = None; shared = None })

abbrev pub region_content : ℕ → ℕ → Content
region_content length access = content.Mr (fresh NONE NONE length (record { 0 = access % 256 }))

abbrev pub window_content : Content
window_content = content.Mw (record { object = NONE; domain = NONE; bound = None })

abbrev pub ring_content : ℕ → Content
ring_content depth = content.Cq (record { ring = fresh_ring depth; channel = None })

abbrev pub shared_content : ℕ → Content
shared_content depth = content.Srq (record { object = NONE; domain = NONE; works = record { works = []; depth = depth }; posted = empty_ledger })

abbrev pub address_content : ℕ → Content
address_content device = content.Ah (record { object = NONE; domain = NONE; device = device })

-- a domain holds nothing
abbrev pub content_for : Request → Option Content
content_for AllocPd = None
content_for (DeallocPd pd) = None
content_for CreateChannel = Some (content.Channel [])
content_for (DestroyChannel channel) = None
content_for (CreateCq depth channel) = Some (ring_content depth)
content_for (DestroyCq cq) = None
content_for (CreateQp pd send_cq recv_cq srq service send_depth recv_depth) = option_map pair_content (pair_made_by unnamed (CreateQp pd send_cq recv_cq srq service send_depth recv_depth))
content_for (DestroyQp qp) = None
content_for (ModifyQp qp to attrs) = None
content_for (QueryQp qp) = None
content_for (CreateSrq pd depth) = Some (shared_content depth)
content_for (DestroySrq srq) = None
content_for (CreateAh pd device) = Some (address_content device)
content_for (DestroyAh ah) = None
content_for (RegMr pd length access) = Some (region_content length access)
content_for (DeregMr mr) = None
content_for (AllocMw pd) = Some window_content
content_for (DeallocMw mw) = None
content_for (BindMw mw mr offset length access) = None
content_for GetAsync = None
