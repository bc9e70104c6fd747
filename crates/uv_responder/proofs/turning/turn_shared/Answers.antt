use Rattle.std.proofs.Common.{Some, ap, refl}
use Rattle.uv_packet.specs.Packets.{content_of}
use Rattle.uv_responder.specs.Turns.{part_in, readied, receive_for}
use Rattle.uv_responder.proofs.Carried.{may_carry, carried, has_no_own, may_turn, readied_by, settle_after, unmade, write_after}
use Rattle.uv_packet.specs.Opcodes.{opcode_of}
use Rattle.uv_responder.proofs.GoingOut.{goes_out}
use Rattle.uv_responder.proofs.Settled.{stands}
use Rattle.uv_responder.proofs.Lasting.{lasts, stays}
use Rattle.uv_responder.proofs.turning.turn_shared.Goals as goal

pub take_shared-requires-clause-may : goal.take_shared-requires-clause-may
take_shared-requires-clause-may c =
    let made = readied_by (content_of c.args.packet.now) c.args.qp.now c.args.regions.now c.ready.new.regions (Some c.args.queue.now) c.in-Ok.prepared _ c.shared_receive-next.ensures c.is_short.ensures c.in-Ok.ensures.ok c.in-Ok.ensures.ok_regions in
    (may_turn c.allowed_may_write_all.ensures (content_of c.args.packet.now) c.args.qp.now c.args.regions.now c.ready.new.regions (Some c.args.queue.now) c.in-Ok.prepared c.keeps.ensures.paired c.requires.let_in c.requires.value.psn made).take

pub finish-requires-clause-may_act : goal.finish-requires-clause-may_act
finish-requires-clause-may_act c =
    let made = readied_by (content_of c.args.packet.now) c.args.qp.now c.args.regions.now c.ready.new.regions (Some c.args.queue.now) c.in-Ok.prepared _ c.shared_receive-next.ensures c.is_short.ensures c.in-Ok.ensures.ok c.in-Ok.ensures.ok_regions in
    let may = may_turn c.allowed_may_write_all.ensures (content_of c.args.packet.now) c.args.qp.now c.args.regions.now c.ready.new.regions (Some c.args.queue.now) c.in-Ok.prepared c.keeps.ensures.paired c.requires.let_in c.requires.value.psn made in
    write_after _ c.args.qp.now c.take_shared.new.qp (Some c.args.queue.now) c.ready.new.regions c.in-Ok.prepared c.in-Ok-take_shared.ensures.ok may.write

pub finish-requires-clause-may_settle : goal.finish-requires-clause-may_settle
finish-requires-clause-may_settle c =
    let made = readied_by (content_of c.args.packet.now) c.args.qp.now c.args.regions.now c.ready.new.regions (Some c.args.queue.now) c.in-Ok.prepared _ c.shared_receive-next.ensures c.is_short.ensures c.in-Ok.ensures.ok c.in-Ok.ensures.ok_regions in
    let may = may_turn c.allowed_may_write_all.ensures (content_of c.args.packet.now) c.args.qp.now c.args.regions.now c.ready.new.regions (Some c.args.queue.now) c.in-Ok.prepared c.keeps.ensures.paired c.requires.let_in c.requires.value.psn made in
    settle_after c.args.qp.now c.take_shared.new.qp (Some c.args.queue.now) c.in-Ok.prepared c.in-Ok-take_shared.ensures.ok may.settle

pub returns-in-Ok-take_shared-clause-turned : goal.returns-in-Ok-take_shared-clause-turned
returns-in-Ok-take_shared-clause-turned c =
    let made = readied_by (content_of c.args.packet.now) c.args.qp.now c.args.regions.now c.ready.new.regions (Some c.args.queue.now) c.in-Ok.prepared _ c.shared_receive-next.ensures c.is_short.ensures c.in-Ok.ensures.ok c.in-Ok.ensures.ok_regions in
    let may = may_turn c.allowed_may_write_all.ensures (content_of c.args.packet.now) c.args.qp.now c.args.regions.now c.ready.new.regions (Some c.args.queue.now) c.in-Ok.prepared c.keeps.ensures.paired c.requires.let_in c.requires.value.psn made in
    carried c.finish.result (readied (content_of c.args.packet.now) c.args.qp.now c.args.regions.now (receive_for c.args.qp.now (Some c.args.queue.now))) (content_of c.args.packet.now) c.args.qp.now c.take_shared.new.qp c.finish.new.qp
    c.args.regions.now c.ready.new.regions c.finish.new.regions (Some c.args.queue.now) (Some c.take_shared.new.queue) c.in-Ok.prepared made.prepared may (has_no_own c.args.qp.now c.args.queue.now c.keeps.ensures.paired c.requires.shared) c.in-Ok-take_shared.ensures.ok made.room c.in-Ok-take_shared.ensures.ok_queue c.finish.ensures

pub returns-in-Err-take_shared-clause-turned : goal.returns-in-Err-take_shared-clause-turned
returns-in-Err-take_shared-clause-turned c =
    let made = readied_by (content_of c.args.packet.now) c.args.qp.now c.args.regions.now c.ready.new.regions (Some c.args.queue.now) c.in-Ok.prepared _ c.shared_receive-next.ensures c.is_short.ensures c.in-Ok.ensures.ok c.in-Ok.ensures.ok_regions in
    unmade c.room_is_not_known.ensures c.args.qp.now c.take_shared.new.qp c.args.regions.now c.ready.new.regions (Some c.args.queue.now) (Some c.take_shared.new.queue) (readied (content_of c.args.packet.now) c.args.qp.now c.args.regions.now (receive_for c.args.qp.now (Some c.args.queue.now))).found c.in-Err-take_shared.ensures.err made.room (ap Some c.in-Err-take_shared.ensures.err_queue)

pub returns-in-Ok-take_shared-clause-goes_on : goal.returns-in-Ok-take_shared-clause-goes_on
returns-in-Ok-take_shared-clause-goes_on c =
    let made = readied_by (content_of c.args.packet.now) c.args.qp.now c.args.regions.now c.ready.new.regions (Some c.args.queue.now) c.in-Ok.prepared _ c.shared_receive-next.ensures c.is_short.ensures c.in-Ok.ensures.ok c.in-Ok.ensures.ok_regions in
    let may = may_turn c.allowed_may_write_all.ensures (content_of c.args.packet.now) c.args.qp.now c.args.regions.now c.ready.new.regions (Some c.args.queue.now) c.in-Ok.prepared c.keeps.ensures.paired c.requires.let_in c.requires.value.psn made in
    lasts c.turns_go_on.ensures c.turns_go_on_in_turn.ensures c.lent_regions_go_on.ensures c.finish.result c.args.qp.now c.take_shared.new.qp c.finish.new.qp c.args.regions.now c.ready.new.regions c.finish.new.regions (Some c.args.queue.now) c.in-Ok.prepared (readied (content_of c.args.packet.now) c.args.qp.now c.args.regions.now (receive_for c.args.qp.now (Some c.args.queue.now))).found may (has_no_own c.args.qp.now c.args.queue.now c.keeps.ensures.paired c.requires.shared) c.in-Ok-take_shared.ensures.ok made.room c.finish.ensures

pub returns-in-Err-clause-goes_on : goal.returns-in-Err-clause-goes_on
returns-in-Err-clause-goes_on c =
    stays c.turns_go_on.ensures c.lent_regions_go_on.ensures c.args.qp.now c.args.qp.now c.args.regions.now c.ready.new.regions refl c.in-Err.ensures.err

pub returns-in-Err-take_shared-clause-goes_on : goal.returns-in-Err-take_shared-clause-goes_on
returns-in-Err-take_shared-clause-goes_on c =
    let made = readied_by (content_of c.args.packet.now) c.args.qp.now c.args.regions.now c.ready.new.regions (Some c.args.queue.now) c.in-Ok.prepared _ c.shared_receive-next.ensures c.is_short.ensures c.in-Ok.ensures.ok c.in-Ok.ensures.ok_regions in
    let none = unmade c.room_is_not_known.ensures c.args.qp.now c.take_shared.new.qp c.args.regions.now c.ready.new.regions (Some c.args.queue.now) (Some c.take_shared.new.queue) (readied (content_of c.args.packet.now) c.args.qp.now c.args.regions.now (receive_for c.args.qp.now (Some c.args.queue.now))).found c.in-Err-take_shared.ensures.err made.room (ap Some c.in-Err-take_shared.ensures.err_queue) in
    stays c.turns_go_on.ensures c.lent_regions_go_on.ensures c.args.qp.now c.take_shared.new.qp c.args.regions.now c.ready.new.regions none.pair_is none.regions_stay

pub returns-in-Ok-take_shared-clause-packets : goal.returns-in-Ok-take_shared-clause-packets
returns-in-Ok-take_shared-clause-packets c =
    let made = readied_by (content_of c.args.packet.now) c.args.qp.now c.args.regions.now c.ready.new.regions (Some c.args.queue.now) c.in-Ok.prepared _ c.shared_receive-next.ensures c.is_short.ensures c.in-Ok.ensures.ok c.in-Ok.ensures.ok_regions in
    let h = may_carry c.allowed_may_write_all.ensures (part_in (opcode_of (content_of c.args.packet.now).opcode)) (content_of c.args.packet.now) c.args.qp.now c.args.regions.now (Some c.args.queue.now) (stands c.args.qp.now (content_of c.args.packet.now) c.keeps.ensures.paired c.requires.let_in) made.short c.requires.value.psn in
    goes_out c.finish.result (readied (content_of c.args.packet.now) c.args.qp.now c.args.regions.now (receive_for c.args.qp.now (Some c.args.queue.now))) (content_of c.args.packet.now) c.args.qp.now c.take_shared.new.qp c.finish.new.qp c.args.regions.now c.ready.new.regions c.finish.new.regions (Some c.args.queue.now) c.in-Ok.prepared made.prepared h c.peer.result c.peer.ensures.peer c.peer.ensures.range c.finish.ensures
