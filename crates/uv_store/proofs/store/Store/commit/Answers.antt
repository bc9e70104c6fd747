use Rattle.std.proofs.Common.{◌≡◌, ◌∙◌, List, Option, ap, sym, subst}
use Rattle.std.specs.Prelude.{option_map}
use Rattle.uv_num.specs.Place.{at_place}
use Rattle.uv_machine.specs.declared.entry.Word.TheVariants.{Commit}
use Rattle.uv_machine.specs.declared.call.InFlight.{InFlight}
use Rattle.uv_machine.specs.declared.object.Object.{Object}
use Rattle.uv_machine.specs.declared.state.State.{State}
use Rattle.uv_machine.specs.Plans.{without_lock}
use Rattle.uv_machine.specs.States.{object_with}
use Rattle.uv_machine.specs.Histories.{after}
use Rattle.uv_store.specs.Going.{Goes, entry_by}
use Rattle.uv_store.specs.Marks.{mark_on}
use Rattle.uv_store.specs.Stored.{IsStored}
use Rattle.uv_store.specs.Tables.{IsSetAside, published_with}
use Rattle.uv_store.proofs.Committing.{commit_gives, is_there, set_aside, stored_commit}
use Rattle.uv_store.proofs.Legal.{rises}
use Rattle.uv_store.proofs.store.Store.commit.Goals as goal

pub publish_object-requires : goal.publish_object-requires
publish_object-requires c =
    let m = c.self.inside.state in
    let l = c.self.invariant.legal in
    let P : State → Type 0 = λ v. Goes v c.args.client c.args.step Commit in
    let G : State → Type 0 = λ v. object_with v c.args.step.object ≡ c.object_with-object.result in
    let goes = subst P (sym c.self.view_is) c.requires in
    let is = is_there m l c.args.client c.args.step goes c.object_with-object.result (subst G (sym c.self.view_is) (sym c.object_with-object.ensures)) in
    let T : Option Object → Type 0 = λ v. IsSetAside c.self.inside.tables v in
    subst T (sym is) (set_aside m l c.args.client c.args.step goes c.self.inside.tables c.self.invariant.tabled)

pub turn_mark-requires : goal.turn_mark-requires
turn_mark-requires c = rises _ c.self.invariant.legal

pub turn_object-requires : goal.turn_object-requires
turn_object-requires c = rises _ c.self.invariant.legal

pub invariant_of-self : goal.invariant_of-self
invariant_of-self c =
    let m = c.self.inside.state in
    let s = c.self.invariant in
    let k = c.self.inside in
    let P : State → Type 0 = λ v. Goes v c.args.client c.args.step Commit in
    let G : State → Type 0 = λ v. object_with v c.args.step.object ≡ c.object_with-object.result in
    let goes = subst P (sym c.self.view_is) c.requires in
    let is = is_there m s.legal c.args.client c.args.step goes c.object_with-object.result (subst G (sym c.self.view_is) (sym c.object_with-object.ensures)) in
    let R : List (Option InFlight) → Type 0 = λ v. IsStored (record m { objects = c.turn_object.new.objects; calls = v }) c.turn_mark.new.marks c.publish_object.new.tables k.doomed k.standing in
    let S : List Object → Type 0 = λ v. IsStored (record m { objects = v; calls = at_place m.calls c.args.client (option_map without_lock) }) c.turn_mark.new.marks c.publish_object.new.tables k.doomed k.standing in
    subst R (sym c.change_at.ensures)
    (subst S (sym c.turn_object.ensures)
    (stored_commit m s.legal c.args.client c.args.step goes k.marks c.turn_mark.new.marks k.tables c.publish_object.new.tables k.doomed k.standing s (c.turn_mark.ensures (mark_on m) s.marked) (c.publish_object.ensures ∙ ap (λ v. published_with v k.tables) is)))

pub returns : goal.returns
returns c =
    let m = c.self.inside.state in
    let e = entry_by c.args.client c.args.step in
    let P : State → Type 0 = λ v. Goes v c.args.client c.args.step Commit in
    let Q : State → Type 0 = λ v. record m { objects = c.turn_object.new.objects; calls = c.change_at.new.items } ≡ after v e in
    let R : List (Option InFlight) → Type 0 = λ v. record m { objects = c.turn_object.new.objects; calls = v } ≡ after m e in
    let S : List Object → Type 0 = λ v. record m { objects = v; calls = at_place m.calls c.args.client (option_map without_lock) } ≡ after m e in
    subst Q c.self.view_is
    (subst R (sym c.change_at.ensures)
    (subst S (sym c.turn_object.ensures)
    (sym (commit_gives m c.self.invariant.legal c.args.client c.args.step (subst P (sym c.self.view_is) c.requires)))))
