use Rattle.std.proofs.Common.{◌≡◌, Some, true, ◌||◌, slice_get, subst, ap, sym, ◌∙◌}
use Rattle.uv_wr.specs.Statuses.{is_failure}
use Rattle.uv_qp.specs.Ledgers.{Ledgered, all_succeeded, with_completed}
use Rattle.uv_qp.proofs.Ledgering.{ledger-complete, completed_view}
use Rattle.uv_qp.proofs.ledger.Ledger.complete.Goals as goal

pub invariant_of-self : goal.invariant_of-self
invariant_of-self c =
    let P : Ledgered → Type 0 = λ l. slice_get l.owed 0 ≡ Some c.args.completion.id in
    let Q : Ledgered → Type 0 = λ l. (is_failure c.args.completion.status || all_succeeded l.completed) ≡ true in
    ledger-complete _ _ _ c.args.completion _ _ c.self.invariant (subst P (sym c.self.view_is) c.requires.owed) (subst Q (sym c.self.view_is) c.requires.order) c.put.ensures.items c.put.ensures.room

pub returns : goal.returns
returns c = completed_view _ _ _ c.args.completion c.put.ensures.items ∙ ap (λ l. with_completed l c.args.completion) c.self.view_is
