use Rattle.std.proofs.Common.{◌∙◌, None, sym}
use Rattle.uv_world.specs.Asking.{pair_task_of}
use Rattle.uv_world.specs.Holdings.{held_of}
use Rattle.uv_world.proofs.Asking.{answered, are_places, ready_gives}
use Rattle.uv_world.proofs.contents.Contents.turn_at.Goals as goal

pub act_at-did-requires-clause-places : goal.act_at-did-requires-clause-places
act_at-did-requires-clause-places c = are_places (held_of c.args.self.now) c.args.at None c.in-Some.x (sym c.in-Some.is ∙ c.places.ensures)

pub returns-clause-gives : goal.returns-clause-gives
returns-clause-gives c =
    let h = held_of c.args.self.now in
    let new = held_of c.act_at-did.new.self in
    ready_gives h c.args.work c.args.at None (pair_task_of c.args.asked) c.in-Some.x c.answer.result new (sym c.in-Some.is ∙ c.places.ensures)
    (λ r found places. answered h c.args.work r (pair_task_of c.args.asked) c.act_at-did.result c.answer.result new (c.act_at-did.ensures.gives None r found places) c.answer.ensures)
