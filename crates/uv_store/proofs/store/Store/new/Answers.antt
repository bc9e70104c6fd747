use Rattle.std.proofs.Common.{List, [], replicate, sym, subst}
use Rattle.uv_num.specs.declared.limits.TheConstants.{FILES}
use Rattle.uv_machine.specs.declared.state.State.{State}
use Rattle.uv_handles.specs.declared.slot.Slot.{Slot}
use Rattle.uv_handles.specs.Table.{empty_table}
use Rattle.uv_store.specs.declared.mark.Mark.{Mark}
use Rattle.uv_store.specs.Stored.{IsStored}
use Rattle.uv_store.proofs.Beginning.{stored_start}
use Rattle.uv_store.proofs.store.Store.new.Goals as goal

pub invariant_of-result : goal.invariant_of-result
invariant_of-result c =
    let none = replicate FILES 0 in
    let P : State → Type 0 = λ v. IsStored v [] (replicate FILES empty_table) none none in
    let Q : List Mark → Type 0 = λ v. IsStored c.in_ok-new.field-0 v (replicate FILES empty_table) none none in
    let R : List (List Slot) → Type 0 = λ v. IsStored c.in_ok-new.field-0 c.in_ok-new-2.field-0 v none none in
    subst R (sym c.in_ok-empty_tables.ensures) (subst Q (sym c.in_ok-new-2.ensures) (subst P (sym c.in_ok-new.ensures) stored_start))
