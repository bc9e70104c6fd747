use Rattle.std.proofs.Common.{◌∙◌, ap, sym}
use Rattle.uv_num.specs.Place.{at_place}
use Rattle.uv_store.specs.Marks.{mark_changed}
use Rattle.uv_store.proofs.Placing.{turned_mark, no_mark}
use Rattle.uv_store.proofs.places.turn_mark.Goals as goal

pub returns-in-None : goal.returns-in-None
returns-in-None c = λ g e. e ∙ sym (no_mark c.args.objects.now g (mark_changed c.args.change (g c.args.id)) c.args.id c.in-None.ensures)

pub returns-in-Some : goal.returns-in-Some
returns-in-Some c = λ g e.
    c.set_mark.ensures
    ∙ (ap (λ v. at_place v c.in-Some.place (mark_changed c.args.change)) e
    ∙ turned_mark c.args.objects.now g (mark_changed c.args.change) c.args.id c.in-Some.place c.requires c.in-Some.ensures)
