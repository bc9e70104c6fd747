use Rattle.std.proofs.Common.{subst, arith}
use Rattle.uv_machine.specs.Files.{AreOver}
use Rattle.uv_machine.specs.Histories.{state_of}
use Rattle.uv_graph.specs.Kept.{Kept}
use Rattle.uv_core.proofs.Ending.{over_all}
use Rattle.uv_core.proofs.tests.are.are_over.Goals as goal

pub returns : goal.returns
returns c = λ yes. (
    let P : Kept → Type 0 = λ k. AreOver (state_of k.history) in
    let end = c.loop-file-test.false in
    subst P c.core.view_is (over_all c.core.inside.graph.history c.is_legal.ensures (λ f low. c.loop-file.invariant f (omega (arith, low, end)))))
