-- The requests that a line can make today, and what such a line asks for.
use Rattle.std.specs.Prelude.{ℕ, Option, Some, None}
use Rattle.std.specs.Option.{option_map}
use Rattle.uv_num.specs.declared.kind.Kind.{Kind}
use Rattle.uv_num.specs.declared.kind.Kind.TheVariants as kind
use Rattle.uv_num.specs.declared.request.Request.{Request}
use Rattle.uv_num.specs.declared.request.Request.TheVariants.{AllocPd, DeallocPd, CreateChannel, DestroyChannel, CreateCq, DestroyCq, CreateQp, DestroyQp, ModifyQp, QueryQp, CreateSrq, DestroySrq, CreateAh, DestroyAh, RegMr, DeregMr, AllocMw, DeallocMw, BindMw, GetAsync}
use Rattle.uv_script.specs.declared.form.Handle.TheVariants.{Number}
use Rattle.uv_script.specs.declared.form.Verb.{Verb}
use Rattle.uv_script.specs.declared.form.Verb.TheVariants as verb

-- the destroy of an object of a kind by its number
abbrev pub destroy : Kind → ℕ → Option Verb
destroy k object = Some (verb.Destroy k (Number object))

-- what a line asks for that makes this request, its handles by their numbers
abbrev pub verb_for : Request → Option Verb
verb_for AllocPd = Some verb.AllocPd
verb_for (DeallocPd pd) = destroy kind.Pd pd
verb_for CreateChannel = Some verb.CreateChannel
verb_for (DestroyChannel channel) = destroy kind.Channel channel
verb_for (CreateCq depth channel) = Some (verb.CreateCq depth (option_map Number channel))
verb_for (DestroyCq cq) = destroy kind.Cq cq
verb_for (CreateQp pd send_cq recv_cq srq service send_depth recv_depth) =
    Some (verb.CreateQp (Number pd) (Number send_cq) (Number recv_cq) (option_map Number srq) service send_depth recv_depth)
verb_for (DestroyQp qp) = destroy kind.Qp qp
verb_for (ModifyQp qp to attrs) = None
verb_for (QueryQp qp) = None
verb_for (CreateSrq pd depth) = Some (verb.CreateSrq (Number pd) depth)
verb_for (DestroySrq srq) = destroy kind.Srq srq
verb_for (CreateAh pd device) = Some (verb.CreateAh (Number pd) device)
verb_for (DestroyAh ah) = destroy kind.Ah ah
verb_for (RegMr pd length access) = Some (verb.RegMr (Number pd) length access)
verb_for (DeregMr mr) = destroy kind.Mr mr
verb_for (AllocMw pd) = Some (verb.AllocMw (Number pd))
verb_for (DeallocMw mw) = destroy kind.Mw mw
verb_for (BindMw mw mr offset length access) = Some (verb.BindMw (Number mw) (option_map Number mr) offset length access)
verb_for GetAsync = Some verb.GetAsync
