use Rattle.std.proofs.Common.{ℕ, subst}
use Rattle.uv_machine.specs.Laws.{IsSwept}
use Rattle.uv_machine.proofs.Sweeping.{may_close-swept, may_dissociate-swept}
use Rattle.uv_teardown.proofs.Turned.{torn_within}
use Rattle.uv_teardown.proofs.sweeps.end.Goals as goal

pub dissociated-requires : goal.dissociated-requires
dissociated-requires g c =
    let h = c.args.graph.now.history in
    let f = c.args.file in
    let by_driver = subst (λ (by : ℕ). IsSwept h f by) c.if-tearer-eq-DRIVER.true c.requires.swept in
    record { allowed = (torn_within h f c.args.tearer c.requires.swept, may_dissociate-swept h f by_driver c.requires.nothing) }

pub closed-requires : goal.closed-requires
closed-requires g c =
    let h = c.args.graph.now.history in
    let f = c.args.file in
    let swept = c.requires.swept in
    record { allowed = (torn_within h f c.args.tearer swept, may_close-swept h f c.args.tearer swept c.if-tearer-eq-DRIVER.false c.requires.nothing) }
