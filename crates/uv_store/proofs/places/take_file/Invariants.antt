use Rattle.std.proofs.Common.{◌≡◌, ℕ}
use Rattle.uv_machine.specs.Effects.{not_in_file}
use Rattle.uv_store.specs.declared.mark.Mark.{Mark}
use Rattle.uv_store.specs.Marks.{marks_by}
use Rattle.uv_store.proofs.Filtering.{left_of, stay_of}
use Rattle.uv_store.proofs.places.take_file.Given as goal

-- the marks of the objects that were looked at and stay, and of all that weren't looked at
abbrev pub invariant-loop-x : goal.invariant-loop-x
invariant-loop-x l =
    (l.place ≡ stay_of (not_in_file l.file) l.x-index l.objects)
    × ((g : ℕ → Mark) → l.initial.marks ≡ marks_by g l.objects → l.marks ≡ marks_by g (left_of (not_in_file l.file) l.x-index l.objects))
