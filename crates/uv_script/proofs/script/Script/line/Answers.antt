use Rattle.uv_script.proofs.InRange.{in_range-at}
use Rattle.uv_script.proofs.script.Script.line.Goals as goal

pub returns-clause-ranges : goal.returns-clause-ranges
returns-clause-ranges c =
    in_range-at c.self.inside.lines c.as_slice.result.now c.args.self.now c.args.place _ c.as_slice.ensures c.self.view_is c.requires c.self.invariant.ranges
