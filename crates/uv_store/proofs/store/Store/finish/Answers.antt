use Rattle.std.proofs.Common.{◌≡◌, ◌∙◌, List, Option, Some, None, refl, sym, subst}
use Rattle.std.specs.Prelude.{option_map}
use Rattle.std.proofs.lemmas.Option.{none-some}
use Rattle.uv_num.specs.Ids.{ids_of}
use Rattle.uv_num.specs.Place.{at_place}
use Rattle.uv_machine.specs.declared.call.InFlight.{InFlight}
use Rattle.uv_machine.specs.declared.entry.Word.TheVariants.{Finish}
use Rattle.uv_machine.specs.declared.object.Object.{Object}
use Rattle.uv_machine.specs.declared.pool.Pool.{Pool}
use Rattle.uv_machine.specs.declared.state.State.{State}
use Rattle.uv_machine.specs.Plans.{without_lock}
use Rattle.uv_machine.specs.States.{object_with}
use Rattle.uv_store.specs.Going.{Goes}
use Rattle.uv_store.specs.Marks.{mark_on, marks_at}
use Rattle.uv_store.specs.Stored.{IsStored}
use Rattle.uv_store.specs.Turning.{buried_with}
use Rattle.uv_store.specs.declared.mark.MarkChange.TheVariants.{LosesUser}
use Rattle.uv_store.proofs.Finishing.{is_there, published_before, stored_finished}
use Rattle.uv_store.proofs.Legal.{rises}
use Rattle.uv_store.proofs.store.Store.finish.Goals as goal

pub remove-requires : goal.remove-requires
remove-requires c =
    let m = c.self.inside.state in
    let P : State → Type 0 = λ v. Goes v c.args.client c.args.step Finish in
    let Q : State → Type 0 = λ v. object_with v c.args.step.object ≡ Some c.in-Some.x in
    published_before m c.self.invariant.legal c.args.client c.args.step (subst P (sym c.self.view_is) c.requires) c.in-Some.x (subst Q (sym c.self.view_is) (sym c.in-Some.ensures)) c.self.inside.tables c.self.invariant.tabled

pub turn_marks-requires : goal.turn_marks-requires
turn_marks-requires c = rises _ c.self.invariant.legal

pub take_out-requires-clause-rises : goal.take_out-requires-clause-rises
take_out-requires-clause-rises c = rises _ c.self.invariant.legal

pub invariant_of-self : goal.invariant_of-self
invariant_of-self c =
    let m = c.self.inside.state in
    let s = c.self.invariant in
    let k = c.self.inside in
    let d = c.args.step in
    let x = c.in-Some.x in
    let P : State → Type 0 = λ v. Goes v c.args.client d Finish in
    let Q : State → Type 0 = λ v. object_with v d.object ≡ Some x in
    let less = c.uncount_if_doomed.new.counts in
    let fewer = c.uncount_if_doomed-in-Some.new.counts in
    let g = marks_at LosesUser (ids_of x.uses) (mark_on m) in
    let A : List (Option InFlight) → Type 0 = λ v. IsStored (record m { objects = c.take_out.new.objects; calls = v; pools = c.bury_if_doomed.new.pools }) c.take_out.new.marks c.remove.new.tables less fewer in
    let B : List Pool → Type 0 = λ v. IsStored (record m { objects = c.take_out.new.objects; calls = at_place m.calls c.args.client (option_map without_lock); pools = v }) c.take_out.new.marks c.remove.new.tables less fewer in
    let C : List Object → Type 0 = λ v. IsStored (record m { objects = v; calls = at_place m.calls c.args.client (option_map without_lock); pools = buried_with x m.pools }) c.take_out.new.marks c.remove.new.tables less fewer in
    subst A (sym c.change_at.ensures)
    (subst B (sym c.bury_if_doomed.ensures)
    (subst C (sym c.take_out.ensures.objects)
    (stored_finished m s.legal c.args.client d (subst P (sym c.self.view_is) c.requires) x (subst Q (sym c.self.view_is) (sym c.in-Some.ensures)) k.marks c.take_out.new.marks k.tables c.remove.new.tables k.doomed less k.standing fewer s
    (c.take_out.ensures.marks g (c.turn_marks.ensures (mark_on m) s.marked))
    c.remove.ensures c.uncount_if_doomed.ensures.counts c.uncount_if_doomed.ensures.size c.uncount_if_doomed-in-Some.ensures.counts c.uncount_if_doomed-in-Some.ensures.size)))

pub returns-in_default : goal.returns-in_default
returns-in_default c =
    let m = c.self.inside.state in
    let d = c.args.step in
    let P : State → Type 0 = λ v. Goes v c.args.client d Finish in
    let Q : State → Type 0 = λ v. None ≡ object_with v d.object in
    absurd (none-some _ (subst Q (sym c.self.view_is) c.in_default.ensures ∙ is_there m c.self.invariant.legal c.args.client d (subst P (sym c.self.view_is) c.requires) _ refl))
