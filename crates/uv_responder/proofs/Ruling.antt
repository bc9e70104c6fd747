-- A request meets the row of the rule that it doesn't meet first.
use Rattle.std.proofs.Common.{◌≡◌, ◌&&◌, ◌==◌, ℕ, Bool, true, false, not, Option, None, Some, refl, length}
use Rattle.std.specs.Prelude.{IfSome, if◌then◌else◌, is_none, is_some}
use Rattle.uv_packet.specs.declared.syndrome.TheConstants.{ACK, NAK_SEQUENCE}
use Rattle.uv_packet.specs.Packets.{Content}
use Rattle.uv_qp.specs.Pairs.{Paired, access_of, mtu_of}
use Rattle.uv_region.specs.Lent.{Lent}
use Rattle.uv_wr.specs.Works.{Receiving}
use Rattle.uv_responder.specs.declared.judging.Judgement.{Judgement}
use Rattle.uv_responder.specs.declared.judging.Judgement.TheVariants as judgement
use Rattle.uv_responder.specs.declared.part.Part.{Part}
use Rattle.uv_responder.specs.declared.rule.PacketRule.{PacketRule}
use Rattle.uv_responder.specs.declared.rule.PacketRule.TheVariants.{Duplicate, Reread, Stale, Ahead, Busy, Invalidate, Place, Payload, Length, Granted, Receive, Range, Room, Parts}
use Rattle.uv_responder.specs.Answers.{psn_before, telling_if}
use Rattle.uv_responder.specs.Judging.{came_before, can_reread, has_length, is_granted, is_in_place, is_sized, judged_expected, judged_valid, psn_distance, reaches, takes_receive}
use Rattle.uv_responder.specs.Parts.{asks_invalidate, asks_read}
use Rattle.uv_responder.specs.Rules.{judgement_by, judged_by, rule_before, rule_expected, rule_valid, PacketHasRule, RuleTellsSyndrome}

judged_or : (b : Bool) (r : PacketRule) (o : Option PacketRule) (j k : Judgement) → judgement_by r ≡ j → judged_by o ≡ k → judged_by (if b then Some r else o) ≡ (if b then j else k)
judged_or true r o j k g h = g
judged_or false r o j k g h = h

before_by : (a b : Bool) → judgement_by (if a then Duplicate else (if b then Reread else Stale)) ≡ (if a then judgement.Duplicate else (if b then judgement.Reread else judgement.Stale))
before_by true b = refl
before_by false true = refl
before_by false false = refl

valid_has : (part : Part) (c : Content) (p : Paired) (lent : Lent) (next : Option Receiving) → judged_by (rule_valid part c p lent next) ≡ judged_valid part c p lent next
valid_has part c p lent next =
    judged_or (takes_receive part && is_none next) Receive _ _ _ refl
    (judged_or (not (reaches part part.asks c p lent)) Range _ _ _ refl
    (judged_or _ Room _ _ _ refl (judged_or _ Parts None _ judgement.Accepted refl refl)))

expected_has : (part : Part) (c : Content) (p : Paired) (lent : Lent) (next : Option Receiving) → judged_by (rule_expected part c p lent next) ≡ judged_expected part c p lent next
expected_has part c p lent next =
    judged_or (is_some p.responder.reading) Busy _ _ _ refl
    (judged_or (asks_invalidate part.asks) Invalidate _ _ _ refl
    (judged_or (not (is_in_place part p.responder.message)) Place _ _ _ refl
    (judged_or (not (is_sized part (mtu_of p) (length c.payload))) Payload _ _ _ refl
    (judged_or (not (has_length part part.asks c p)) Length _ _ _ refl
    (judged_or (not (is_granted part.asks (access_of p))) Granted _ _ _ refl
    (valid_has part c p lent next))))))

pub packet_has : PacketHasRule
packet_has part c p lent next =
    judged_or (came_before (psn_distance p.responder.expected c.psn)) (rule_before part c p lent) _ _ _
    (before_by (not (asks_read part.asks)) (can_reread c p lent))
    (judged_or (not (psn_distance p.responder.expected c.psn == 0)) Ahead _ _ _ refl (expected_has part c p lent next))

told_if : (b : Bool) (syndrome psn : ℕ) → IfSome (telling_if b syndrome psn) (λ t. Some syndrome ≡ Some t.syndrome)
told_if true syndrome psn = refl
told_if false syndrome psn = tt

pub rule_tells : RuleTellsSyndrome
rule_tells Duplicate part c p = told_if c.ack ACK (psn_before p.responder.expected)
rule_tells Reread part c p = tt
rule_tells Stale part c p = tt
rule_tells Ahead part c p = told_if (not p.responder.told) NAK_SEQUENCE p.responder.expected
rule_tells Busy part c p = tt
rule_tells Invalidate part c p = refl
rule_tells Place part c p = refl
rule_tells Payload part c p = refl
rule_tells Length part c p = refl
rule_tells Granted part c p = refl
rule_tells Receive part c p = refl
rule_tells Range part c p = refl
rule_tells Room part c p = refl
rule_tells Parts part c p = refl
