-- A queue pair that goes on from another in turn.
use Rattle.std.proofs.Common.{◌≡◌, ◌++◌, ◌∙◌, List, Bool, ap, sym, append_assoc}
use Rattle.std.proofs.lemmas.List.Elements.{filter-append}
use Rattle.std.specs.Prelude.{filter}
use Rattle.uv_num.proofs.Prefixes.{IsPrefix_trans}
use Rattle.uv_wr.specs.declared.completion.Completion.{Completion}
use Rattle.uv_qp.specs.GoingOn.{PairGoesOn, TurnGoesOn, is_of_receive, is_of_send}
use Rattle.uv_qp.specs.Pairs.{Paired}

pub PairGoesOn_trans : (p q r : Paired) → PairGoesOn p q → PairGoesOn q r → PairGoesOn p r
PairGoesOn_trans p q r h k = record {
  names = k.names ∙ h.names;
  service = k.service ∙ h.service;
  srq = k.srq ∙ h.srq;
  send_depth = k.send_depth ∙ h.send_depth;
  receive_depth = k.receive_depth ∙ h.receive_depth;
  sends_posted = IsPrefix_trans _ _ _ h.sends_posted k.sends_posted;
  receives_posted = IsPrefix_trans _ _ _ h.receives_posted k.receives_posted;
  sent = IsPrefix_trans _ _ _ h.sent k.sent;
  received = IsPrefix_trans _ _ _ h.received k.received;
}

-- what two lists gained is what passes of all that was told
gained : (test : Completion → Bool) (xs ys zs first more : List Completion) → ys ≡ xs ++ filter test first → zs ≡ ys ++ filter test more → zs ≡ xs ++ filter test (first ++ more)
gained test xs ys zs first more h k =
    k ∙ ap (λ v. v ++ filter test more) h ∙ append_assoc xs (filter test first) (filter test more) ∙ ap (λ v. xs ++ v) (sym (filter-append test first more))

pub TurnGoesOn_trans : (p q r : Paired) (first more : List Completion) → TurnGoesOn p first q → TurnGoesOn q more r → TurnGoesOn p (first ++ more) r
TurnGoesOn_trans p q r first more h k = record {
  pair = PairGoesOn_trans p q r h.pair k.pair;
  sent = gained is_of_send p.sent q.sent r.sent first more h.sent k.sent;
  received = gained is_of_receive p.received q.received r.received first more h.received k.received;
  posted = k.posted ∙ h.posted;
}
