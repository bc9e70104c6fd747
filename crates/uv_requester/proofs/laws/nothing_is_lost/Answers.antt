use Rattle.std.proofs.Common.{◌≡◌, ℕ, subst}
use Rattle.std.specs.List.{range_with_len, flat_map}
use Rattle.std.proofs.Common.{take, drop, ◌*◌}
use Rattle.uv_requester.specs.Segments.{op_requests, op_share}
use Rattle.uv_requester.proofs.Shares.{nothing_lost}
use Rattle.uv_requester.proofs.laws.nothing_is_lost.Goals as goal

pub returns : goal.returns
returns c = λ w mtu bytes some sends whole.
    let P : ℕ → Type 0 = λ n. flat_map (λ at. take (op_share mtu w.op n at) (drop (at * mtu) bytes)) (range_with_len 0 (op_requests mtu w.op n)) ≡ bytes in
    subst P whole (nothing_lost w.op mtu bytes some sends)
