use Rattle.uv_pool.specs.Plain.{plain_facts}
use Rattle.uv_pool.proofs.Filling.{pool_of}
use Rattle.uv_pool.proofs.plain.full_pool.Goals as goal

pub returns-clause-new : goal.returns-clause-new
returns-clause-new c =
    pool_of plain_facts c.args.kind c.in_ok-new_deeds.field-0 c.in_ok-pool.pool c.in_ok-new_deeds.ensures.cells c.in_ok-pool.ensures.kind c.in_ok-new_deeds.ensures.new c.in_ok-pool.ensures.deeds
