use Rattle.std.proofs.Common.{◌≡◌, ◌∙◌, List, Option, sym, subst}
use Rattle.uv_machine.specs.declared.entry.Word.TheVariants.{Reserve}
use Rattle.uv_machine.specs.declared.call.InFlight.{InFlight}
use Rattle.uv_machine.specs.declared.state.State.{State}
use Rattle.uv_machine.specs.Histories.{after}
use Rattle.uv_store.specs.Going.{Goes, entry_by}
use Rattle.uv_store.specs.Stored.{IsStored}
use Rattle.uv_store.proofs.Reserving.{stored_set}
use Rattle.uv_store.proofs.store.Store.reserve.Goals as goal

pub invariant_of-self : goal.invariant_of-self
invariant_of-self c =
    let m = c.self.inside.state in
    let s = c.self.invariant in
    let t = c.reserve-number in
    let P : State → Type 0 = λ v. Goes v c.args.client c.args.step Reserve in
    let R : List (Option InFlight) → Type 0 = λ v. IsStored (record m { calls = v }) c.self.inside.marks c.reserve-number.new.tables c.self.inside.doomed c.self.inside.standing in
    subst R (sym c.change_at.ensures)
    (stored_set m s.legal c.args.client c.args.step (subst P (sym c.self.view_is) c.requires) c.in-Some.call (sym c.call_of.ensures ∙ c.in-Some.is) t.result c.self.inside.marks c.self.inside.tables t.new.tables _ _ s t.ensures.size t.ensures.number t.ensures.tables).1

pub returns-in-Some : goal.returns-in-Some
returns-in-Some c =
    let m = c.self.inside.state in
    let s = c.self.invariant in
    let t = c.reserve-number in
    let P : State → Type 0 = λ v. Goes v c.args.client c.args.step Reserve in
    let Q : State → Type 0 = λ v. record m { calls = c.change_at.new.items } ≡ after v (entry_by c.args.client c.args.step) in
    let R : List (Option InFlight) → Type 0 = λ v. record m { calls = v } ≡ after m (entry_by c.args.client c.args.step) in
    subst Q c.self.view_is
    (subst R (sym c.change_at.ensures)
    (sym (stored_set m s.legal c.args.client c.args.step (subst P (sym c.self.view_is) c.requires) c.in-Some.call (sym c.call_of.ensures ∙ c.in-Some.is) t.result c.self.inside.marks c.self.inside.tables t.new.tables _ _ s t.ensures.size t.ensures.number t.ensures.tables).0))
