use Rattle.std.proofs.Common.{◌≡◌, ◌∙◌, Some, ap}
use Rattle.uv_world.specs.Taking.{ready_at}
use Rattle.uv_world.proofs.Acted.{back_whole}
use Rattle.uv_world.proofs.Readied.{readied}
use Rattle.uv_world.proofs.laws.taken_comes_back.Goals as goal

pub returns : goal.returns
returns c h at device r keys found different =
    let here : ready_at h r.at device ≡ Some r = ap (λ n. ready_at h n device) (readied h at device r found).cell ∙ found in
    back_whole h device r keys different (readied h r.at device r here)
