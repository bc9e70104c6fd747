use Rattle.std.proofs.Common.{None, Some}
use Rattle.std.specs.Option.{option_copied}
use Rattle.uv_packet.specs.Packets.{content_of}
use Rattle.uv_world.proofs.Asking.{wants_different}
use Rattle.uv_world.proofs.acting.wants_of.Goals as goal

pub returns-in-Turn-clause-different : goal.returns-in-Turn-clause-different
returns-in-Turn-clause-different c = wants_different c.wants_apart.ensures c.wants.result c.args.qp.now None (option_copied c.args.srq) c.wants.ensures.keys

pub returns-in-Packet-clause-different : goal.returns-in-Packet-clause-different
returns-in-Packet-clause-different c =
    wants_different c.wants_apart.ensures c.wants-in-Packet.result c.args.qp.now (Some (content_of c.in-Packet.packet)) (option_copied c.args.srq) c.wants-in-Packet.ensures.keys
