use Rattle.uv_pool.specs.Plain.{plain_facts}
use Rattle.uv_world.proofs.Burying.{buried_is}
use Rattle.uv_world.proofs.deeds.bury_deed.Goals as goal

pub returns : goal.returns
returns c = λ out lives told planted. buried_is (plain_facts c.args.deed) _ out lives told c.bury.ensures planted
