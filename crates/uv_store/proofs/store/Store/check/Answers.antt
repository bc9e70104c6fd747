use Rattle.std.proofs.Common.{◌≡◌, ◌∙◌, List, Option, ap, sym, subst}
use Rattle.std.specs.Prelude.{option_map}
use Rattle.uv_num.specs.Place.{at_place}
use Rattle.uv_machine.specs.declared.entry.Word.TheVariants.{Check}
use Rattle.uv_machine.specs.declared.call.InFlight.{InFlight}
use Rattle.uv_machine.specs.declared.object.Object.{Object}
use Rattle.uv_machine.specs.declared.state.State.{State}
use Rattle.uv_machine.specs.Plans.{moved_on}
use Rattle.uv_machine.specs.States.{object_with}
use Rattle.uv_machine.specs.Histories.{after}
use Rattle.uv_store.specs.Counts.{counted_if_live}
use Rattle.uv_store.specs.Going.{Goes, entry_by}
use Rattle.uv_store.specs.Stored.{IsStored}
use Rattle.uv_store.proofs.Checking.{check_gives, stored_check}
use Rattle.uv_store.proofs.Legal.{rises}
use Rattle.uv_store.proofs.store.Store.check.Goals as goal

pub turn_object-requires : goal.turn_object-requires
turn_object-requires c = rises _ c.self.invariant.legal

pub invariant_of-self : goal.invariant_of-self
invariant_of-self c =
    let m = c.self.inside.state in
    let s = c.self.invariant in
    let k = c.self.inside in
    let n = c.count_if_live.new.counts in
    let P : State → Type 0 = λ v. Goes v c.args.client c.args.step Check in
    let G : State → Type 0 = λ v. n ≡ counted_if_live (object_with v c.args.step.object) k.doomed in
    let R : List (Option InFlight) → Type 0 = λ v. IsStored (record m { objects = c.turn_object.new.objects; calls = v }) k.marks k.tables n k.standing in
    let S : List Object → Type 0 = λ v. IsStored (record m { objects = v; calls = at_place m.calls c.args.client (option_map moved_on) }) k.marks k.tables n k.standing in
    subst R (sym c.change_at.ensures)
    (subst S (sym c.turn_object.ensures)
    (stored_check m s.legal c.args.client c.args.step (subst P (sym c.self.view_is) c.requires) k.marks k.tables k.doomed n k.standing s c.count_if_live.ensures.size
    (subst G (sym c.self.view_is) (c.count_if_live.ensures.counts ∙ ap (λ x. counted_if_live x k.doomed) c.object_with-object.ensures))))

pub returns : goal.returns
returns c =
    let m = c.self.inside.state in
    let e = entry_by c.args.client c.args.step in
    let P : State → Type 0 = λ v. Goes v c.args.client c.args.step Check in
    let Q : State → Type 0 = λ v. record m { objects = c.turn_object.new.objects; calls = c.change_at.new.items } ≡ after v e in
    let R : List (Option InFlight) → Type 0 = λ v. record m { objects = c.turn_object.new.objects; calls = v } ≡ after m e in
    let S : List Object → Type 0 = λ v. record m { objects = v; calls = at_place m.calls c.args.client (option_map moved_on) } ≡ after m e in
    subst Q c.self.view_is
    (subst R (sym c.change_at.ensures)
    (subst S (sym c.turn_object.ensures)
    (sym (check_gives m c.self.invariant.legal c.args.client c.args.step (subst P (sym c.self.view_is) c.requires)))))
