use Rattle.std.proofs.Common.{◌≡◌, true, ap, sym, ◌∙◌}
use Rattle.std.proofs.lemmas.Option.{same_Some}
use Rattle.uv_num.specs.Request.{role_of}
use Rattle.uv_graph.specs.Conditions.{is_destroy}
use Rattle.uv_graph.proofs.Stepped.{word_is}
use Rattle.uv_destroy.proofs.Planning.{never}
use Rattle.uv_destroy.proofs.destroying.take_step.Goals as goal

-- a call that destroys makes no word of a create or an act
pub unreachable-requires : goal.unreachable-requires
unreachable-requires g c =
    let step = c.requires.step in
    let same = same_Some c.requires.ready.call step.next.call (sym c.requires.ready.is ∙ step.next.is) in
    let destroys : is_destroy (role_of step.next.call.request) ≡ true = ap (λ k. is_destroy (role_of k.request)) (sym same) ∙ c.requires.ready.does_it in
    never step.next.call destroys c.args.done.word (word_is c.args.graph.now c.args.client c.args.done step) c.in-Reserve.is
