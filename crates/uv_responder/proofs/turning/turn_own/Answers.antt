use Rattle.std.proofs.Common.{None, refl}
use Rattle.uv_packet.specs.Packets.{content_of}
use Rattle.uv_responder.specs.Turns.{part_in, readied, receive_for}
use Rattle.uv_responder.proofs.Carried.{may_carry, carried, may_turn, none_after, readied_by, settle_after, write_after}
use Rattle.uv_packet.specs.Opcodes.{opcode_of}
use Rattle.uv_responder.proofs.GoingOut.{goes_out}
use Rattle.uv_responder.proofs.Settled.{stands}
use Rattle.uv_responder.proofs.Lasting.{lasts, stays}
use Rattle.uv_responder.proofs.turning.turn_own.Goals as goal

pub take_own-requires : goal.take_own-requires
take_own-requires c =
    let made = readied_by (content_of c.args.packet.now) c.args.qp.now c.args.regions.now c.ready.new.regions None c.in-Ok.prepared _ c.next_receive-next.ensures c.is_short.ensures c.in-Ok.ensures.ok c.in-Ok.ensures.ok_regions in
    (may_turn c.allowed_may_write_all.ensures (content_of c.args.packet.now) c.args.qp.now c.args.regions.now c.ready.new.regions None c.in-Ok.prepared c.keeps.ensures.paired c.requires.let_in c.requires.value.psn made).take

pub finish-requires-clause-may_act : goal.finish-requires-clause-may_act
finish-requires-clause-may_act c =
    let made = readied_by (content_of c.args.packet.now) c.args.qp.now c.args.regions.now c.ready.new.regions None c.in-Ok.prepared _ c.next_receive-next.ensures c.is_short.ensures c.in-Ok.ensures.ok c.in-Ok.ensures.ok_regions in
    let may = may_turn c.allowed_may_write_all.ensures (content_of c.args.packet.now) c.args.qp.now c.args.regions.now c.ready.new.regions None c.in-Ok.prepared c.keeps.ensures.paired c.requires.let_in c.requires.value.psn made in
    write_after _ c.args.qp.now c.take_own.new.qp None c.ready.new.regions c.in-Ok.prepared c.take_own.ensures may.write

pub finish-requires-clause-may_settle : goal.finish-requires-clause-may_settle
finish-requires-clause-may_settle c =
    let made = readied_by (content_of c.args.packet.now) c.args.qp.now c.args.regions.now c.ready.new.regions None c.in-Ok.prepared _ c.next_receive-next.ensures c.is_short.ensures c.in-Ok.ensures.ok c.in-Ok.ensures.ok_regions in
    let may = may_turn c.allowed_may_write_all.ensures (content_of c.args.packet.now) c.args.qp.now c.args.regions.now c.ready.new.regions None c.in-Ok.prepared c.keeps.ensures.paired c.requires.let_in c.requires.value.psn made in
    settle_after c.args.qp.now c.take_own.new.qp None c.in-Ok.prepared c.take_own.ensures may.settle

pub returns-in-Ok-clause-turned : goal.returns-in-Ok-clause-turned
returns-in-Ok-clause-turned c =
    let made = readied_by (content_of c.args.packet.now) c.args.qp.now c.args.regions.now c.ready.new.regions None c.in-Ok.prepared _ c.next_receive-next.ensures c.is_short.ensures c.in-Ok.ensures.ok c.in-Ok.ensures.ok_regions in
    let may = may_turn c.allowed_may_write_all.ensures (content_of c.args.packet.now) c.args.qp.now c.args.regions.now c.ready.new.regions None c.in-Ok.prepared c.keeps.ensures.paired c.requires.let_in c.requires.value.psn made in
    carried c.finish.result (readied (content_of c.args.packet.now) c.args.qp.now c.args.regions.now (receive_for c.args.qp.now None)) (content_of c.args.packet.now) c.args.qp.now c.take_own.new.qp c.finish.new.qp
    c.args.regions.now c.ready.new.regions c.finish.new.regions None None c.in-Ok.prepared made.prepared may tt c.take_own.ensures made.room (none_after c.in-Ok.prepared.plan.takes) c.finish.ensures

pub returns-in-Ok-clause-goes_on : goal.returns-in-Ok-clause-goes_on
returns-in-Ok-clause-goes_on c =
    let made = readied_by (content_of c.args.packet.now) c.args.qp.now c.args.regions.now c.ready.new.regions None c.in-Ok.prepared _ c.next_receive-next.ensures c.is_short.ensures c.in-Ok.ensures.ok c.in-Ok.ensures.ok_regions in
    let may = may_turn c.allowed_may_write_all.ensures (content_of c.args.packet.now) c.args.qp.now c.args.regions.now c.ready.new.regions None c.in-Ok.prepared c.keeps.ensures.paired c.requires.let_in c.requires.value.psn made in
    lasts c.turns_go_on.ensures c.turns_go_on_in_turn.ensures c.lent_regions_go_on.ensures c.finish.result c.args.qp.now c.take_own.new.qp c.finish.new.qp c.args.regions.now c.ready.new.regions c.finish.new.regions None c.in-Ok.prepared (readied (content_of c.args.packet.now) c.args.qp.now c.args.regions.now (receive_for c.args.qp.now None)).found may tt c.take_own.ensures made.room c.finish.ensures

pub returns-in-Err-clause-goes_on : goal.returns-in-Err-clause-goes_on
returns-in-Err-clause-goes_on c =
    stays c.turns_go_on.ensures c.lent_regions_go_on.ensures c.args.qp.now c.args.qp.now c.args.regions.now c.ready.new.regions refl c.in-Err.ensures.err

pub returns-in-Ok-clause-packets : goal.returns-in-Ok-clause-packets
returns-in-Ok-clause-packets c =
    let made = readied_by (content_of c.args.packet.now) c.args.qp.now c.args.regions.now c.ready.new.regions None c.in-Ok.prepared _ c.next_receive-next.ensures c.is_short.ensures c.in-Ok.ensures.ok c.in-Ok.ensures.ok_regions in
    let h = may_carry c.allowed_may_write_all.ensures (part_in (opcode_of (content_of c.args.packet.now).opcode)) (content_of c.args.packet.now) c.args.qp.now c.args.regions.now None (stands c.args.qp.now (content_of c.args.packet.now) c.keeps.ensures.paired c.requires.let_in) made.short c.requires.value.psn in
    goes_out c.finish.result (readied (content_of c.args.packet.now) c.args.qp.now c.args.regions.now (receive_for c.args.qp.now None)) (content_of c.args.packet.now) c.args.qp.now c.take_own.new.qp c.finish.new.qp c.args.regions.now c.ready.new.regions c.finish.new.regions None c.in-Ok.prepared made.prepared h c.peer.result c.peer.ensures.peer c.peer.ensures.range c.finish.ensures
