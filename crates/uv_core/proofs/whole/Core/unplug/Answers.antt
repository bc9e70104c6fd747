use Rattle.uv_num.specs.declared.limits.TheConstants.{DRIVER}
use Rattle.uv_core.proofs.Leaving.{seen_as}
use Rattle.uv_core.proofs.Sided.{unplug_leaves}
use Rattle.uv_core.proofs.whole.Core.unplug.Goals as goal

pub returns-clause-made : goal.returns-clause-made
returns-clause-made g c =
    let s = c.stands.ensures in
    (seen_as DRIVER c.self.inside.graph c.args.self.now c.unplug.new.graph c.self.view_is (unplug_leaves c.self.inside.graph c.unplug.new.graph s.legal s.outs s.apart s.named c.unplug.ensures.legal c.args.device c.unplug.result c.unplug.ensures.gives)).made

pub returns-clause-seat : goal.returns-clause-seat
returns-clause-seat g c =
    let s = c.stands.ensures in
    (seen_as DRIVER c.self.inside.graph c.args.self.now c.unplug.new.graph c.self.view_is (unplug_leaves c.self.inside.graph c.unplug.new.graph s.legal s.outs s.apart s.named c.unplug.ensures.legal c.args.device c.unplug.result c.unplug.ensures.gives)).seat

pub returns-clause-others : goal.returns-clause-others
returns-clause-others g c =
    let s = c.stands.ensures in
    (seen_as DRIVER c.self.inside.graph c.args.self.now c.unplug.new.graph c.self.view_is (unplug_leaves c.self.inside.graph c.unplug.new.graph s.legal s.outs s.apart s.named c.unplug.ensures.legal c.args.device c.unplug.result c.unplug.ensures.gives)).others
