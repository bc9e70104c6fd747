-- The frames of at most one packet.
use Rattle.std.proofs.Common.{◌≡◌, ◌≤◌, ◌∷◌, ◌++◌, [], ℕ, List, Option, Some, None, length, slice_get, map, refl, arith}
use Rattle.uv_link.specs.declared.frame.Frame.{Frame}
use Rattle.uv_link.specs.Frames.{PlainFrame, plain_frame}
use Rattle.uv_packet.specs.declared.packet.Packet.{Packet}
use Rattle.uv_packet.specs.Packets.{Content, bytes_of, content_of}
use Rattle.uv_engine.specs.Acting.{all_framed, framed}

-- those of a list of one
pub framed_one : (from to : ℕ) (packets : List Packet) (p : Packet) → length packets ≤ 1 → slice_get packets 0 ≡ Some p
    → framed from to (content_of p) ∷ [] ≡ all_framed from to (map content_of packets)
framed_one from to [] p few h = cc
framed_one from to (q ∷ []) p few h = cc
framed_one from to (q ∷ r ∷ rest) p few h = absurd (omega (arith, few))

-- and of none
pub framed_none : (from to : ℕ) (packets : List Packet) → slice_get packets 0 ≡ None → [] ≡ all_framed from to (map content_of packets)
framed_none from to [] h = refl
framed_none from to (q ∷ rest) h = cc

-- that of one packet, in the room that was taken
pub one_framed : (from to : ℕ) (f : Frame) (c : Content) (frames : List Frame) → frames ≡ [] ++ f ∷ [] → f.from ≡ from → f.to ≡ to → f.bytes.bytes ≡ bytes_of c
    → map plain_frame frames ≡ framed from to c ∷ []
one_framed from to f c frames e h k b = cc
