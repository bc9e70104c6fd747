-- What is answered is a packet that may go out.
use Rattle.std.proofs.Common.{◌≡◌, ℕ, ◌<◌, ◌≤◌, List, [], ◌∷◌, Option, None, Some, length, map, refl, sym, ◌∙◌, ap, subst, arith}
use Rattle.std.proofs.lemmas.List.{length-map}
use Rattle.std.specs.Prelude.{IfSome, slice_get}
use Rattle.uv_num.specs.declared.limits.TheConstants.{PSNS, QP_NUMBERS}
use Rattle.uv_num.specs.Each.{Each}
use Rattle.uv_packet.specs.declared.packet.Packet.{Packet}
use Rattle.uv_packet.specs.Opcodes.{opcode_of}
use Rattle.uv_packet.specs.Packets.{Content, content_of, IsPacketValue}
use Rattle.uv_qp.specs.declared.turns.TurnDone.{TurnDone}
use Rattle.uv_qp.specs.declared.turns.TurnDone.TheVariants.{Turned, Idle, NoMemory}
use Rattle.uv_qp.specs.Pairs.{Paired, peer_of}
use Rattle.uv_region.specs.Lent.{Lent}
use Rattle.uv_responder.specs.declared.answering.Told.{Told}
use Rattle.uv_responder.specs.declared.turning.Prepared.{Prepared}
use Rattle.uv_responder.specs.Answers.{acknowledge, answer_packets}
use Rattle.uv_responder.specs.Turns.{Readied, Shared, AnswersGoOut, Finishes, GoOut, IsPrepared, carried_out}
use Rattle.uv_responder.proofs.Carried.{MayCarry}

ack_value : (dest msn : ℕ) (t : Told) → dest < QP_NUMBERS → msn < PSNS → t.psn < PSNS → IsPacketValue (acknowledge dest msn t)
unfolding opcode_of
ack_value dest msn t d m p = record {
  headed = record { reth = refl; aeth = refl; deth = refl; imm = refl; ieth = refl; payload = λ e. refl };
  dest = d;
  psn = p;
  msn = m;
  source = tt;
  payload = omega arith;
}

answer_values : (dest msn : ℕ) (o : Option Told) → dest < QP_NUMBERS → msn < PSNS → IfSome o (λ t. t.psn < PSNS) → Each IsPacketValue (answer_packets dest msn o)
answer_values dest msn None d m p = tt
answer_values dest msn (Some t) d m p = (ack_value dest msn t d m p, tt)

answer_count : (dest msn : ℕ) (o : Option Told) → length (answer_packets dest msn o) ≤ 1
answer_count dest msn None = omega arith
answer_count dest msn (Some t) = omega arith

first_value : (packets : List Packet) (cs : List Content) → map content_of packets ≡ cs → Each IsPacketValue cs → (p : Packet) → slice_get packets 0 ≡ Some p → IsPacketValue (content_of p)
first_value [] cs is h p first = cc
first_value (x ∷ xs) [] is h p first = cc
first_value (x ∷ xs) (c ∷ cs) is h p first =
    let same : x ≡ p = cc in
    let one : content_of x ≡ c = cc in
    subst (λ (q : Packet). IsPacketValue (content_of q)) same (subst IsPacketValue (sym one) h.0)

few_by : (packets : List Packet) (cs : List Content) → map content_of packets ≡ cs → length cs ≤ 1 → length packets ≤ 1
few_by packets cs is h =
    let e : length packets ≡ length cs = sym (length-map packets content_of) ∙ ap length is in
    omega (arith, h, e)

pub goes_out : (done : TurnDone) (r : Readied) (c : Content) (p p' p'' : Paired) (lent lent' lent'' : Lent) (shared : Shared) (made : Prepared) → IsPrepared r c p made → MayCarry r c p lent shared → (n : ℕ) → n ≡ peer_of p → n < QP_NUMBERS
    → Finishes (carried_out made p' lent') done p'' lent'' → AnswersGoOut done
goes_out Idle r c p p' p'' lent lent' lent'' shared made m may n peer within h = absurd h
goes_out NoMemory r c p p' p'' lent lent' lent'' shared made m may n peer within h = absurd h
goes_out (Turned word to packets completions) r c p p' p'' lent lent' lent'' shared made m may n peer within h =
    let cs : List Content = answer_packets (peer_of p) r.plan.responder.msn r.plan.told in
    let is : map content_of packets ≡ cs = h.packets_are ∙ m.packets_are in
    record {
      few = few_by packets cs is (answer_count (peer_of p) r.plan.responder.msn r.plan.told);
      value = first_value packets cs is (answer_values (peer_of p) r.plan.responder.msn r.plan.told (subst (λ k. k < QP_NUMBERS) peer within) may.settle.ranges.msn may.told);
    }
