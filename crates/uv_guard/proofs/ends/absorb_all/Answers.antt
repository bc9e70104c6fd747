use Rattle.std.proofs.Common.{◌∙◌, ◌++◌, [], ◌∷◌, ap, sym, subst, append_assoc}
use Rattle.std.specs.Prelude.{option_to_list}
use Rattle.uv_num.specs.Each.{Each}
use Rattle.uv_guard.specs.Cells.{tables}
use Rattle.uv_guard.specs.Seated.{all_joined, IsOutside}
use Rattle.uv_guard.proofs.Many.{each_last, all_last}
use Rattle.uv_guard.proofs.ends.absorb_all.Goals as goal

pub absorb_one-requires-clause-seat : goal.absorb_one-requires-clause-seat
absorb_one-requires-clause-seat g c =
    let i = c.loop-seat.invariant in let split = c.pop.ensures.items ∙ ap (λ x. c.pop.new.self.items ++ option_to_list x) c.in-Some.is in
    (each_last (IsOutside (tables c.args.cells.now.items)) c.pop.new.self.items c.in-Some.seat (subst (Each (IsOutside (tables c.args.cells.now.items))) split i.2)).1

pub loop-seat-preserved : goal.loop-seat-preserved
loop-seat-preserved g c =
    let i = c.loop-seat.invariant in let split = c.pop.ensures.items ∙ ap (λ x. c.pop.new.self.items ++ option_to_list x) c.in-Some.is in let a = c.absorb_one.ensures in (
      ap (λ ds. all_joined ds c.pop.new.self.items) a.deeds ∙ (all_last c.loop-seat.deeds.items c.pop.new.self.items c.in-Some.seat ∙ (ap (all_joined c.loop-seat.deeds.items) (sym split) ∙ i.0)),
      a.cells,
      (each_last (IsOutside (tables c.args.cells.now.items)) c.pop.new.self.items c.in-Some.seat (subst (Each (IsOutside (tables c.args.cells.now.items))) split i.2)).0,
      (c.in-Some.seat ∷ i.3.0, i.3.1 ∙ (ap (λ l. l ++ i.3.0) split ∙ append_assoc c.pop.new.self.items (c.in-Some.seat ∷ []) i.3.0), (a.wide, i.3.2)),
    )
