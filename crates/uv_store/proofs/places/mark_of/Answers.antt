use Rattle.std.proofs.Common.{◌∙◌, ap, sym}
use Rattle.std.specs.Prelude.{option_map, slice_get}
use Rattle.std.proofs.lemmas.Option.{slice_get-map}
use Rattle.uv_machine.specs.declared.object.Object.{Object}
use Rattle.uv_store.proofs.Placing.{placed_found}
use Rattle.uv_store.proofs.places.mark_of.Goals as goal

pub returns-in-None : goal.returns-in-None
returns-in-None c = λ g e. ap (option_map (λ (x : Object). g x.id)) (sym c.in-None.ensures)

pub returns-in-Some : goal.returns-in-Some
returns-in-Some c = λ g e.
    let p = c.in-Some.ensures in
    c.mark_in.ensures
    ∙ (ap (λ v. slice_get v c.in-Some.place) e
    ∙ (slice_get-map (λ (x : Object). g x.id) c.args.objects.now c.in-Some.place
    ∙ (ap (option_map (λ (x : Object). g x.id)) p.at ∙ ap (option_map (λ (x : Object). g x.id)) (sym (placed_found _ _ c.requires _ p)))))
