use Rattle.std.proofs.Common.{◌≡◌, ◌+◌, ◌++◌, ◌∷◌, [], ℕ, List, suc, is_some, option_map, sym, ap, ◌∙◌, arith, append_assoc}
use Rattle.uv_qp.specs.Pairs.{Paired, next_send}
use Rattle.uv_qp.specs.Writers.{send_completed, send_completion}
use Rattle.uv_wr.specs.declared.completion.Completion.{Completion}
use Rattle.uv_wr.specs.declared.completion.Status.TheVariants.{Success}
use Rattle.uv_completer.specs.Replies.{succeeded, successes}
use Rattle.uv_completer.proofs.Succeeding.{has_next, successes_next}
use Rattle.uv_completer.proofs.completing.succeed.Goals as goal

pub complete_send-requires-clause-next : goal.complete_send-requires-clause-next
complete_send-requires-clause-next c =
    ap (λ (q : Paired). is_some (next_send q)) c.loop.invariant.pair
    ∙ has_next c.args.qp.now c.loop.counter (omega (arith, c.loop-test.true, c.requires.some))

pub loop-preserved : goal.loop-preserved
loop-preserved c =
    let p : Paired = c.args.qp.now in
    let n : ℕ = c.loop.counter in
    let one : Completion = c.complete_send.result in
    let more : n + 1 ≡ suc n = omega arith in
    let completion = c.complete_send.ensures.completion ∙ ap (λ (q : Paired). option_map (send_completion q.names Success) (next_send q)) c.loop.invariant.pair in
    record {
      pair = c.complete_send.ensures.pair ∙ ap (λ (q : Paired). send_completed q Success) c.loop.invariant.pair ∙ ap (succeeded p) (sym more);
      told =
          c.put.ensures.items ∙ ap (λ (cs : List Completion). cs ++ one ∷ []) c.loop.invariant.told
          ∙ append_assoc c.args.told.now.items (successes p n) (one ∷ [])
          ∙ ap (λ (cs : List Completion). c.args.told.now.items ++ cs) (sym (successes_next p n one completion));
      room = omega (arith, c.put.ensures.room, c.loop.invariant.room);
    }
