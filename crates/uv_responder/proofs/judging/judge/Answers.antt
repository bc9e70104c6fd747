use Rattle.std.proofs.Common.{◌≡◌, Option, None, Some, ap, ◌∙◌}
use Rattle.std.specs.Option.{option_copied}
use Rattle.uv_packet.specs.Packets.{content_of}
use Rattle.uv_responder.specs.Rules.{judged_by, packet_rule}
use Rattle.uv_responder.proofs.Ruling.{packet_has}
use Rattle.uv_responder.proofs.judging.judge.Goals as goal

pub returns-in-None : goal.returns-in-None
returns-in-None c =
    let told : None ≡ packet_rule c.args.part (content_of c.args.packet.now) c.args.qp.now c.args.regions.now (option_copied c.args.next) =
    (let r = c.packet_rule.ensures in let is = c.in-None.is in cc) in
    ap judged_by told ∙ packet_has c.args.part (content_of c.args.packet.now) c.args.qp.now c.args.regions.now (option_copied c.args.next)

pub returns-in-Some : goal.returns-in-Some
returns-in-Some c =
    let told : Some c.in-Some.rule ≡ packet_rule c.args.part (content_of c.args.packet.now) c.args.qp.now c.args.regions.now (option_copied c.args.next) =
    (let r = c.packet_rule.ensures in let is = c.in-Some.is in cc) in
    c.judgement.ensures ∙ ap judged_by told
    ∙ packet_has c.args.part (content_of c.args.packet.now) c.args.qp.now c.args.regions.now (option_copied c.args.next)
