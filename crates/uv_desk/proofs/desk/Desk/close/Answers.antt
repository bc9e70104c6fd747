use Rattle.std.proofs.Common.{ap, sym, subst, ◌∙◌}
use Rattle.uv_desk.specs.Seats.{AreAllFrom}
use Rattle.uv_desk.specs.Gathering.{Gathered}
use Rattle.uv_desk.proofs.Drawing.{all_behind}
use Rattle.uv_desk.proofs.Joined.{first_counts, closes, closes_at}
use Rattle.uv_desk.proofs.desk.Desk.close.Goals as goal

pub gather-requires-clause-desk : goal.gather-requires-clause-desk
gather-requires-clause-desk g c =
    let r = all_behind _ _ _ _ c.requires.all c.draw.ensures in
    (c.self.invariant, ap (λ p. p.desk) c.chair.view_is ∙ (r.0 ∙ sym c.self.view_is))

pub gather-requires-clause-first : goal.gather-requires-clause-first
gather-requires-clause-first g c =
    let i = c.chair.invariant in let is = c.chair.view_is in
    (i.0, ap (λ p. p.number) is ∙ c.draw.ensures.number_is, ap (λ p. p.count) is ∙ first_counts _ _ _ _ c.requires c.draw.ensures)

pub gather-requires-clause-seats : goal.gather-requires-clause-seats
gather-requires-clause-seats g c = subst (λ t. AreAllFrom t 1 c.draw.new.seats.items) (sym c.self.view_is) (all_behind _ _ _ _ c.requires.all c.draw.ensures).1

pub close_with-closed-requires : goal.close_with-closed-requires
close_with-closed-requires g c =
    let r = all_behind _ _ _ _ c.requires.all c.draw.ensures in
    c.gather.ensures.same.0 ∙ (ap (λ p. p.desk) c.chair.view_is ∙ (r.0 ∙ sym c.self.view_is))

pub unreachable-requires : goal.unreachable-requires
unreachable-requires g c =
    let e = closes g.M.Machine.history g.M.Machine.own g.M.Machine.names c.self.inside.table.shared.key.value _ _ c.chair.inside.chair c.draw.result _ _ _ c.args.self c.args.seats.items c.draw.new.seats.items _ c.chair.view_is c.chair.invariant c.requires c.draw.ensures
    (subst (λ t. Gathered t c.chair.inside.chair.me c.draw.new.seats.items c.gather.new.first.me) c.self.view_is c.gather.ensures.all) c.close_with-closed.ensures.values.2 c.take-slot.ensures.value in
    absurd (cc (e.1, c.in-None.is))

pub returns : goal.returns
returns g c =
    closes_at g.M.Machine.history g.M.Machine.own g.M.Machine.names c.self.inside.table.shared.key.value c.args.seats.items _ c.in-Some.machine
    (closes g.M.Machine.history g.M.Machine.own g.M.Machine.names c.self.inside.table.shared.key.value _ _ c.chair.inside.chair c.draw.result _ _ _ c.args.self c.args.seats.items c.draw.new.seats.items _ c.chair.view_is c.chair.invariant c.requires c.draw.ensures
    (subst (λ t. Gathered t c.chair.inside.chair.me c.draw.new.seats.items c.gather.new.first.me) c.self.view_is c.gather.ensures.all) c.close_with-closed.ensures.values.2 c.take-slot.ensures.value)
    c.in-Some.is
