use Rattle.uv_pool.specs.Plain.{plain_facts}
use Rattle.uv_pool.proofs.Filling.{ArePools}
use Rattle.uv_pool.proofs.plain.pools_of.Given as goal

abbrev pub invariant-loop-place : goal.invariant-loop-place
invariant-loop-place l = ArePools plain_facts l.place l.pools
