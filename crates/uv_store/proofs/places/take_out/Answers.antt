use Rattle.std.proofs.Common.{◌∙◌, ap, sym}
use Rattle.std.specs.List.{remove}
use Rattle.uv_store.specs.Marks.{marks_by}
use Rattle.uv_store.proofs.Placing.{none_taken, taken_object, taken_mark}
use Rattle.uv_store.proofs.places.take_out.Goals as goal

pub returns-in-None-clause-objects : goal.returns-in-None-clause-objects
returns-in-None-clause-objects c = sym (none_taken _ _ c.in-None.ensures)

pub returns-in-None-clause-marks : goal.returns-in-None-clause-marks
returns-in-None-clause-marks c = λ g e. e ∙ ap (marks_by g) (sym (none_taken _ _ c.in-None.ensures))

pub returns-in-Some-clause-objects : goal.returns-in-Some-clause-objects
returns-in-Some-clause-objects c = c.drop_object.ensures ∙ taken_object _ _ _ c.requires.rises c.in-Some.ensures

pub returns-in-Some-clause-marks : goal.returns-in-Some-clause-marks
returns-in-Some-clause-marks c = λ g e.
    c.drop_mark.ensures ∙ (ap (λ v. remove v c.in-Some.place) e ∙ taken_mark _ g _ _ c.requires.rises c.in-Some.ensures)
