use Rattle.std.proofs.Common.{◌∙◌, sym}
use Rattle.uv_store.proofs.Placing.{placed_found}
use Rattle.uv_store.proofs.places.with_id.Goals as goal

pub returns-in-Some : goal.returns-in-Some
returns-in-Some c =
    let p = c.in-Some.ensures in
    c.object_at.ensures ∙ (p.at ∙ sym (placed_found _ _ c.requires _ p))
