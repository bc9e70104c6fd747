use Rattle.std.proofs.Common.{◌≡◌, length}
use Rattle.uv_attr.specs.Command.{repeats, attr_ids}
use Rattle.uv_attr.proofs.encoding.repeats_id.Given as goal

abbrev pub invariant-loop-rest : goal.invariant-loop-rest
invariant-loop-rest l = repeats (attr_ids l.rest) ≡ repeats (attr_ids l.attrs)

abbrev pub decreases-loop-rest : goal.decreases-loop-rest
decreases-loop-rest l = length l.rest
