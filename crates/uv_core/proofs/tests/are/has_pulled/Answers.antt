use Rattle.std.proofs.Common.{subst, sym, ◌∙◌}
use Rattle.uv_num.specs.declared.limits.TheConstants.{DRIVER}
use Rattle.uv_graph.specs.Conditions.{Pulls}
use Rattle.uv_graph.specs.Kept.{Kept}
use Rattle.uv_graph.specs.Owns.{own_of}
use Rattle.uv_teardown.proofs.Pulling.{unplugged_pulls}
use Rattle.uv_core.proofs.tests.are.has_pulled.Goals as goal

pub returns-then-device-lt-DEVICES : goal.returns-then-device-lt-DEVICES
returns-then-device-lt-DEVICES c = λ gone. (
    let P : Kept → Type 0 = λ k. Pulls (own_of k DRIVER) c.args.device in
    subst P c.core.view_is (unplugged_pulls c.core.inside.graph c.args.device c.if-device-lt-DEVICES.true (sym c.is_unplugged.ensures ∙ gone)))
