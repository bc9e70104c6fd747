use Rattle.std.proofs.Common.{◌∙◌, ap}
use Rattle.uv_engine.specs.Wanting.{keys_wanted}
use Rattle.uv_world.specs.Asking.{pair_task_of}
use Rattle.uv_world.specs.Holdings.{held_of}
use Rattle.uv_world.specs.Taking.{keys_for}
use Rattle.uv_world.proofs.Acted.{acted_from, works_taken}
use Rattle.uv_world.proofs.contents.Contents.act_at.Goals as goal

pub act-did-requires-clause-shared : goal.act-did-requires-clause-shared
act-did-requires-clause-shared c = works_taken (held_of c.args.self.now) c.args.x c.take_for-lent.result.0 c.take_for-lent.result.1 c.requires.places c.take_for-lent.ensures.taken

pub returns-clause-gives : goal.returns-clause-gives
returns-clause-gives c device r found places =
    (acted_from c.args.self.now c.take_for-lent.new.self c.args.x device r (pair_task_of c.args.asked.now) c.take_for-lent.result.0 c.act-did.new.lent c.lend.result c.take_for-lent.result.1 (keys_wanted c.wants_of-wants.result) c.act-did.result
    c.lend.new.regions c.give_for.new.self c.take_for-lent.ensures.contents found places c.take_for-lent.ensures.taken
    (c.wants_of-wants.ensures.keys ∙ ap (keys_for (pair_task_of c.args.asked.now) c.take_for-lent.result.0.qp) c.as_ref.ensures.value) c.wants_of-wants.ensures.different c.lend.ensures.lent c.lend.ensures.regions
    c.act-did.ensures.gives c.act-did.ensures.goes_on c.give_for.ensures).gives

pub returns-clause-cells : goal.returns-clause-cells
returns-clause-cells c =
    (acted_from c.args.self.now c.take_for-lent.new.self c.args.x c.requires.places.device c.requires.places.ready (pair_task_of c.args.asked.now) c.take_for-lent.result.0 c.act-did.new.lent c.lend.result c.take_for-lent.result.1 (keys_wanted c.wants_of-wants.result) c.act-did.result
    c.lend.new.regions c.give_for.new.self c.take_for-lent.ensures.contents c.requires.places.found c.requires.places.places c.take_for-lent.ensures.taken
    (c.wants_of-wants.ensures.keys ∙ ap (keys_for (pair_task_of c.args.asked.now) c.take_for-lent.result.0.qp) c.as_ref.ensures.value) c.wants_of-wants.ensures.different c.lend.ensures.lent c.lend.ensures.regions
    c.act-did.ensures.gives c.act-did.ensures.goes_on c.give_for.ensures).cells

pub returns-clause-housed : goal.returns-clause-housed
returns-clause-housed c =
    (acted_from c.args.self.now c.take_for-lent.new.self c.args.x c.requires.places.device c.requires.places.ready (pair_task_of c.args.asked.now) c.take_for-lent.result.0 c.act-did.new.lent c.lend.result c.take_for-lent.result.1 (keys_wanted c.wants_of-wants.result) c.act-did.result
    c.lend.new.regions c.give_for.new.self c.take_for-lent.ensures.contents c.requires.places.found c.requires.places.places c.take_for-lent.ensures.taken
    (c.wants_of-wants.ensures.keys ∙ ap (keys_for (pair_task_of c.args.asked.now) c.take_for-lent.result.0.qp) c.as_ref.ensures.value) c.wants_of-wants.ensures.different c.lend.ensures.lent c.lend.ensures.regions
    c.act-did.ensures.gives c.act-did.ensures.goes_on c.give_for.ensures).housed c.requires.housed
