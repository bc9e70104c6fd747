use Rattle.std.proofs.Common.{◌≡◌, ◌∙◌, List, Option, Some, map, ap, sym, subst}
use Rattle.std.specs.Prelude.{option_map}
use Rattle.uv_num.specs.declared.ids.Ids.{Ids}
use Rattle.uv_num.specs.Ids.{ids_of}
use Rattle.uv_num.specs.Place.{at_place}
use Rattle.uv_machine.specs.declared.call.InFlight.{InFlight}
use Rattle.uv_machine.specs.declared.entry.Entry.{Entry}
use Rattle.uv_machine.specs.declared.entry.Word.TheVariants.{Act}
use Rattle.uv_machine.specs.declared.object.Change.TheVariants.{ToBound}
use Rattle.uv_machine.specs.declared.object.Object.{Object}
use Rattle.uv_machine.specs.declared.state.State.{State}
use Rattle.uv_machine.specs.Objects.{on_object}
use Rattle.uv_machine.specs.Plans.{acted_on, with_outcome}
use Rattle.uv_machine.specs.States.{object_with}
use Rattle.uv_machine.specs.Histories.{after}
use Rattle.uv_store.specs.Going.{Binds, Goes, IsStill, entry_by}
use Rattle.uv_store.specs.Marks.{mark_on, marks_at, marks_by}
use Rattle.uv_store.specs.Stored.{IsLegalState, IsStored}
use Rattle.uv_store.specs.declared.mark.MarkChange.TheVariants.{GainsUser, LosesUser}
use Rattle.uv_store.proofs.Binding.{bind_gives, still_bind, stored_bind}
use Rattle.uv_store.proofs.Legal.{rises}
use Rattle.uv_store.proofs.store.Store.bind.Goals as goal

pub pass-requires-clause-still : goal.pass-requires-clause-still
pass-requires-clause-still c =
    let m = c.args.self.now in
    let L : State → Type 0 = λ v. IsLegalState v in
    let Q : Entry → Type 0 = λ e. IsStill m (after m e) in
    subst Q (sym c.entry_by.ensures)
    (still_bind m (subst L c.self.view_is c.self.invariant.legal) c.args.client c.args.step c.args.call c.args.binding c.requires.goes c.requires.binds (ap (object_with m) (sym c.acted_on-window.ensures) ∙ sym c.in-None.ensures))

pub turn_marks-requires : goal.turn_marks-requires
turn_marks-requires c = rises _ c.self.invariant.legal

pub turn_marks-requires-in-Some : goal.turn_marks-requires-in-Some
turn_marks-requires-in-Some c = rises _ c.self.invariant.legal

pub turn_object-requires : goal.turn_object-requires
turn_object-requires c = rises _ c.self.invariant.legal

pub invariant_of-self : goal.invariant_of-self
invariant_of-self c =
    let m = c.self.inside.state in
    let s = c.self.invariant in
    let k = c.self.inside in
    let d = c.args.step in
    let call = c.args.call in
    let b = c.args.binding in
    let x = c.in-Some.x in
    let marks = c.turn_marks-in-Some.new.marks in
    let less = marks_at LosesUser (ids_of x.uses) (mark_on m) in
    let P : State → Type 0 = λ v. Goes v c.args.client d Act in
    let B : State → Type 0 = λ v. Binds v c.args.client call b in
    let Q : State → Type 0 = λ v. object_with v (acted_on call) ≡ Some x in
    let U : Ids → Type 0 = λ u. marks ≡ marks_by (marks_at GainsUser (ids_of u) less) m.objects in
    let R : List (Option InFlight) → Type 0 = λ v. IsStored (record m { objects = c.turn_object.new.objects; calls = v }) marks k.tables k.doomed k.standing in
    let S : List Object → Type 0 = λ v. IsStored (record m { objects = v; calls = at_place m.calls c.args.client (option_map (with_outcome d.answer)) }) marks k.tables k.doomed k.standing in
    let is = ap (object_with c.args.self.now) (sym c.acted_on-window.ensures) ∙ sym c.in-Some.ensures in
    subst R (sym c.change_at.ensures)
    (subst S (sym (c.turn_object.ensures ∙ ap (λ i. map (on_object i (ToBound b)) m.objects) c.acted_on-window.ensures))
    (stored_bind m s.legal c.args.client d call b (subst P (sym c.self.view_is) c.requires.goes) (subst B (sym c.self.view_is) c.requires.binds) x (subst Q (sym c.self.view_is) is) k.marks marks k.tables k.doomed k.standing s
    (subst U c.bound_uses.ensures (c.turn_marks-in-Some.ensures less (c.turn_marks.ensures (mark_on m) s.marked)))))

pub returns-in-Some : goal.returns-in-Some
returns-in-Some c =
    let m = c.self.inside.state in
    let d = c.args.step in
    let call = c.args.call in
    let b = c.args.binding in
    let e = entry_by c.args.client d in
    let P : State → Type 0 = λ v. Goes v c.args.client d Act in
    let B : State → Type 0 = λ v. Binds v c.args.client call b in
    let V : State → Type 0 = λ v. record m { objects = c.turn_object.new.objects; calls = c.change_at.new.items } ≡ after v e in
    let R : List (Option InFlight) → Type 0 = λ v. record m { objects = c.turn_object.new.objects; calls = v } ≡ after m e in
    let S : List Object → Type 0 = λ v. record m { objects = v; calls = at_place m.calls c.args.client (option_map (with_outcome d.answer)) } ≡ after m e in
    subst V c.self.view_is
    (subst R (sym c.change_at.ensures)
    (subst S (sym (c.turn_object.ensures ∙ ap (λ i. map (on_object i (ToBound b)) m.objects) c.acted_on-window.ensures))
    (sym (bind_gives m c.self.invariant.legal c.args.client d call b (subst P (sym c.self.view_is) c.requires.goes) (subst B (sym c.self.view_is) c.requires.binds)))))
