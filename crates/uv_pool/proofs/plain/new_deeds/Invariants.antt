use Rattle.uv_pool.specs.Plain.{plain_facts}
use Rattle.uv_pool.proofs.Filling.{AreNew}
use Rattle.uv_pool.proofs.plain.new_deeds.Given as goal

abbrev pub invariant-loop-index : goal.invariant-loop-index
invariant-loop-index l = AreNew plain_facts l.kind l.index l.deeds
