use Rattle.uv_core.proofs.Leaving.{seen_as}
use Rattle.uv_core.proofs.Sided.{open_leaves}
use Rattle.uv_core.proofs.whole.Core.open.Goals as goal

pub returns-clause-made : goal.returns-clause-made
returns-clause-made g c =
    let s = c.stands.ensures in
    (seen_as c.args.client c.self.inside.graph c.args.self.now c.open.new.graph c.self.view_is (open_leaves c.self.inside.graph c.open.new.graph s.legal s.outs s.apart s.named c.open.ensures.legal c.args.client c.args.file c.args.device c.open.result c.open.ensures.gives)).made

pub returns-clause-seat : goal.returns-clause-seat
returns-clause-seat g c =
    let s = c.stands.ensures in
    (seen_as c.args.client c.self.inside.graph c.args.self.now c.open.new.graph c.self.view_is (open_leaves c.self.inside.graph c.open.new.graph s.legal s.outs s.apart s.named c.open.ensures.legal c.args.client c.args.file c.args.device c.open.result c.open.ensures.gives)).seat

pub returns-clause-others : goal.returns-clause-others
returns-clause-others g c =
    let s = c.stands.ensures in
    (seen_as c.args.client c.self.inside.graph c.args.self.now c.open.new.graph c.self.view_is (open_leaves c.self.inside.graph c.open.new.graph s.legal s.outs s.apart s.named c.open.ensures.legal c.args.client c.args.file c.args.device c.open.result c.open.ensures.gives)).others
