use Rattle.std.proofs.Common.{List, ℕ, ◌++◌, ap, ◌∙◌}
use Rattle.uv_packet.specs.Packets.{content_of, bytes_of}
use Rattle.uv_packet.proofs.Again.{written_bytes_are_packet}
use Rattle.uv_packet.proofs.encoding.encode_into.Goals as goal

pub returns-clause-packet : goal.returns-clause-packet
returns-clause-packet c =
    let p = content_of c.args.packet.now in
    written_bytes_are_packet c.put_packet.new.out.bytes p (c.put_packet.ensures.bytes ∙ ap (λ (v : List ℕ). v ++ bytes_of p) c.requires.empty) c.requires.packet c.put_packet.ensures.fits
