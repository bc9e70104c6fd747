use Rattle.std.proofs.Common.{rules}
use Rattle.std.proofs.lemmas.List.Sorted.{answers_always}
use Rattle.uv_machine.specs.declared.object.Object.{Object}
use Rattle.uv_store.proofs.Placing.{placed, unplaced}
use Rattle.uv_store.proofs.places.place_of.Goals as goal

pub returns-in-Ok : goal.returns-in-Ok
returns-in-Ok c =
    let facts = c.in-Ok.ensures in
    placed _ _ c.requires _ facts.bound (facts.position (λ (x : Object). x.id) (answers_always _ _ _ (λ f a r g called. search rules)))

pub returns-in-Err : goal.returns-in-Err
returns-in-Err c =
    let facts = c.in-Err.ensures in
    unplaced _ _ c.requires _ (facts.position (λ (x : Object). x.id) (answers_always _ _ _ (λ f a r g called. search rules)))
