use Rattle.std.proofs.Common.{◌<◌, ℕ, Some, map, subst, sym, ap, ◌∙◌, arith}
use Rattle.std.proofs.lemmas.List.FromFn.{get_or-map-range_with_len, length-map-range_with_len}
use Rattle.std.proofs.lemmas.Option.{slice_get-get_or}
use Rattle.std.specs.List.{range_with_len}
use Rattle.uv_packet.specs.Packets.{Content}
use Rattle.uv_requester.specs.Segments.{segment, segment_of, share_of, work_requests}
use Rattle.uv_requester.proofs.laws.segment_stands.Goals as goal

pub returns : goal.returns
returns c = λ w k bytes at less.
    let n : ℕ = work_requests k.mtu w in
    let d : Content = segment w k at (share_of k.mtu w bytes at) in
    let P : ℕ → Type 0 = λ m. at < m in
    slice_get-get_or (map (segment_of w k bytes) (range_with_len 0 n)) at d (subst P (sym (length-map-range_with_len (segment_of w k bytes) 0 n)) less)
    ∙ ap (λ x. Some x) (get_or-map-range_with_len (segment_of w k bytes) 0 n at at d less (omega arith))
