-- What a request looks at: the handles that it names beside the one that it destroys, in the order of its arguments.
use Rattle.std.specs.Prelude.{ℕ, List, [], ◌∷◌, Option, None, Some}
use Rattle.uv_num.specs.declared.kind.Kind.{Kind}
use Rattle.uv_num.specs.declared.kind.Kind.TheVariants.{Pd, Channel, Cq, Qp, Srq, Mr, Mw}
use Rattle.uv_num.specs.declared.asks.Asks.{Asks}
use Rattle.uv_num.specs.declared.asks.Asks.TheVariants.{Empty, One, Two, Three, Four}
use Rattle.uv_num.specs.declared.request.Ask.{Ask}
use Rattle.uv_num.specs.declared.request.Request.{Request}
use Rattle.uv_num.specs.declared.request.Request.TheVariants.{AllocPd, DeallocPd, CreateChannel, DestroyChannel, CreateCq, DestroyCq, CreateQp, DestroyQp, ModifyQp, QueryQp, CreateSrq, DestroySrq, CreateAh, DestroyAh, RegMr, DeregMr, AllocMw, DeallocMw, BindMw, GetAsync}

-- the asks, in order
abbrev pub asks_of : Asks → List Ask
asks_of Empty = []
asks_of (One a) = a ∷ []
asks_of (Two a b) = a ∷ b ∷ []
asks_of (Three a b c) = a ∷ b ∷ c ∷ []
asks_of (Four a b c d) = a ∷ b ∷ c ∷ d ∷ []

-- a handle whose object has to be of this kind
abbrev pub asked : Kind → ℕ → Ask
asked kind handle = record { kind = kind; handle = handle }

-- a handle that may be left out
abbrev pub asked_if : Kind → Option ℕ → List Ask
asked_if kind None = []
asked_if kind (Some handle) = asked kind handle ∷ []

-- what a request looks at
abbrev pub looks_of : Request → List Ask
looks_of AllocPd = []
looks_of (DeallocPd pd) = []
looks_of CreateChannel = []
looks_of (DestroyChannel channel) = []
looks_of (CreateCq depth channel) = asked_if Channel channel
looks_of (DestroyCq cq) = []
looks_of (CreateQp pd send_cq recv_cq srq service send_depth recv_depth) = asked Pd pd ∷ asked Cq send_cq ∷ asked Cq recv_cq ∷ asked_if Srq srq
looks_of (DestroyQp qp) = []
looks_of (ModifyQp qp to attrs) = asked Qp qp ∷ []
looks_of (QueryQp qp) = asked Qp qp ∷ []
looks_of (CreateSrq pd depth) = asked Pd pd ∷ []
looks_of (DestroySrq srq) = []
looks_of (CreateAh pd device) = asked Pd pd ∷ []
looks_of (DestroyAh ah) = []
looks_of (RegMr pd length access) = asked Pd pd ∷ []
looks_of (DeregMr mr) = []
looks_of (AllocMw pd) = asked Pd pd ∷ []
looks_of (DeallocMw mw) = []
looks_of (BindMw mw mr offset length access) = asked Mw mw ∷ asked_if Mr mr
looks_of GetAsync = []
