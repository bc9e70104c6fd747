use Rattle.std.proofs.Common.{◌≡◌, ◌∙◌, suc, ◌+◌, length, refl, ap, sym, arith}
use Rattle.std.specs.Prelude.{not, if◌then◌else◌}
use Rattle.std.specs.List.{remove}
use Rattle.std.proofs.lemmas.Bool.{eq-eqb, ne_eqb}
use Rattle.std.proofs.lemmas.List.{length-map}
use Rattle.uv_machine.specs.declared.object.Object.{Object}
use Rattle.uv_machine.specs.Effects.{not_in_file}
use Rattle.uv_store.specs.Marks.{marks_by}
use Rattle.uv_store.proofs.Beside.{lt_true}
use Rattle.uv_store.proofs.Filtering.{left_of, stay_of, stay_le, next_is, left_all, left_stays, left_goes}
use Rattle.uv_store.proofs.Placing.{map_removed}
use Rattle.uv_store.proofs.places.take_file.Goals as goal
use Rattle.uv_store.proofs.places.take_file.Goals.{then-x-file, else-x-file}

pub loop-x-init : goal.loop-x-init
loop-x-init c = (refl, λ g e. e)

pub loop-x-preserved : goal.loop-x-preserved
loop-x-preserved c = elim c.if-x-file.branch [
  | then-x-file w ↦ (let p = not_in_file c.args.file in let xs = c.args.objects.now in let n = c.loop-x.x-index in let gone = left_goes p n xs _ c.loop-x-test.true (ap (λ b. not b) (eq-eqb _ _ w.if-x-file.true)) in (
    w.place-is ∙ (c.loop-x.invariant.0 ∙ (sym gone.1 ∙ ap (λ k. stay_of p k xs) (next_is n))),
    λ g e. (
        let is = c.loop-x.invariant.1 g e in
        let long : length c.loop-x.marks ≡ length (left_of p n xs) = ap length is ∙ length-map (left_of p n xs) (λ (x : Object). g x.id) in
        w.marks-is
        ∙ (w.drop_mark_in.ensures (omega (arith, c.loop-x.invariant.0, gone.2, long))
        ∙ (ap (λ v. remove v c.loop-x.place) is
        ∙ (ap (λ k. remove (marks_by g (left_of p n xs)) k) c.loop-x.invariant.0
        ∙ (sym (map_removed (λ (x : Object). g x.id) (left_of p n xs) (stay_of p n xs)) ∙ (ap (marks_by g) (sym gone.0) ∙ ap (λ k. marks_by g (left_of p k xs)) (next_is n))))))),
  ))
  | else-x-file w ↦ (let p = not_in_file c.args.file in let xs = c.args.objects.now in let n = c.loop-x.x-index in let stays = left_stays p n xs _ c.loop-x-test.true (ap (λ b. not b) (ne_eqb _ _ w.if-x-file.false)) in (
    w.place-is
        ∙ (w.next_below-place.ensures
        ∙ (ap (λ b. if b then c.loop-x.place + 1 else c.loop-x.place) (lt_true c.loop-x.place (length xs) (omega (arith, c.loop-x.invariant.0, stay_le p n xs, c.loop-x-test.true)))
        ∙ (sym (next_is c.loop-x.place) ∙ (ap suc c.loop-x.invariant.0 ∙ (sym stays.1 ∙ ap (λ k. stay_of p k xs) (next_is n)))))),
    λ g e. w.marks-is ∙ (c.loop-x.invariant.1 g e ∙ (ap (marks_by g) (sym stays.0) ∙ ap (λ k. marks_by g (left_of p k xs)) (next_is n))),
  ))
]

pub returns : goal.returns
returns c = λ g e.
    let p = not_in_file c.args.file in
    let all : c.loop-x.x-index ≡ length c.args.objects.now = omega (arith, c.loop-x.auto.x-index-end, c.loop-x-test.false) in
    c.loop-x.invariant.1 g e ∙ ap (marks_by g) (ap (λ n. left_of p n c.args.objects.now) all ∙ left_all p c.args.objects.now)
