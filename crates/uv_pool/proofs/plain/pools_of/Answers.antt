use Rattle.std.proofs.Common.{arith}
use Rattle.uv_pool.specs.Plain.{plain_facts}
use Rattle.uv_pool.proofs.Filling.{pools_more, all_pools}
use Rattle.uv_pool.proofs.plain.pools_of.Goals as goal

pub loop-place-preserved : goal.loop-place-preserved
loop-place-preserved c =
    pools_more plain_facts c.loop-place.place c.loop-place.pools _ c.in_ok-full_pool.field-0 _ c.loop-place.invariant c.kind_at.ensures c.in_ok-full_pool.ensures.new c.in_ok-push.ensures.ok

pub returns : goal.returns
returns c = all_pools plain_facts c.loop-place.place _ (omega (arith, c.loop-place-test.false, c.loop-place.auto.place-end)) c.loop-place.invariant
