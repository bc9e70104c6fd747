use Rattle.std.proofs.Common.{◌∙◌, ap, sym, subst}
use Rattle.uv_machine.specs.declared.entry.Word.TheVariants.{Make}
use Rattle.uv_machine.specs.declared.state.State.{State}
use Rattle.uv_machine.specs.Histories.{after}
use Rattle.uv_store.specs.Going.{Goes}
use Rattle.uv_store.specs.Marks.{mark_on}
use Rattle.uv_store.specs.Stored.{IsStored}
use Rattle.uv_store.proofs.Legal.{rises}
use Rattle.uv_store.proofs.Making.{stored_make}
use Rattle.uv_store.proofs.store.Store.make.Goals as goal

pub turn_marks-requires : goal.turn_marks-requires
turn_marks-requires c = rises _ c.self.invariant.legal

pub invariant_of-self : goal.invariant_of-self
invariant_of-self c =
    let m = c.self.inside.state in
    let s = c.self.invariant in
    let k = c.self.inside in
    let P : State → Type 0 = λ v. Goes v c.args.client c.args.step Make in
    let R : State → Type 0 = λ v. IsStored v c.put_mark.new.marks k.tables k.doomed c.recount.new.counts in
    subst R (sym (c.apply.ensures ∙ ap (after m) c.entry_by.ensures))
    (stored_make m s.legal c.args.client c.args.step (subst P (sym c.self.view_is) c.requires) c.in-Some.call (sym c.call_of.ensures ∙ c.in-Some.is) k.marks c.turn_marks.new.marks c.put_mark.new.marks k.tables k.doomed k.standing c.recount.new.counts s (c.turn_marks.ensures (mark_on m) s.marked) c.put_mark.ensures c.recount.ensures.counts c.recount.ensures.size)
