use Rattle.std.proofs.Common.{arith}
use Rattle.uv_pool.specs.Plain.{plain_facts}
use Rattle.uv_pool.proofs.Filling.{new_more, new_cells, new_pool}
use Rattle.uv_pool.proofs.plain.new_deeds.Goals as goal

pub loop-index-preserved : goal.loop-index-preserved
loop-index-preserved c =
    new_more plain_facts c.args.kind c.loop-index.index c.loop-index.deeds _ c.new_deed.result c.loop-index.invariant
    (record { of_cell = record { same_kind = c.new_deed.ensures.kind; same_index = c.new_deed.ensures.index }; new = c.new_deed.ensures.new }) c.in_ok-push.ensures.ok

pub returns-clause-cells : goal.returns-clause-cells
returns-clause-cells c =
    new_cells plain_facts c.args.kind c.loop-index.index _ (omega (arith, c.loop-index-test.false, c.loop-index.auto.index-end)) c.loop-index.invariant

pub returns-clause-new : goal.returns-clause-new
returns-clause-new c =
    new_pool plain_facts c.args.kind c.loop-index.index _ (omega (arith, c.loop-index-test.false, c.loop-index.auto.index-end)) c.loop-index.invariant
