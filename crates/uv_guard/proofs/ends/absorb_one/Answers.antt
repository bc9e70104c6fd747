use Rattle.std.proofs.Common.{◌∙◌, ◌≡◌, ◌++◌, ap, sym, subst, arith, map}
use Rattle.std.specs.Prelude.{option_to_list, None}
use Rattle.uv_num.specs.Each.{Each}
use Rattle.uv_guard.specs.Seated.{kept_by, joined_with}
use Rattle.uv_guard.proofs.Many.{each_last, joined_none}
use Rattle.uv_guard.proofs.Leaving.{no_items, starts, in_cells, in_deeds, one_cell, next_joined, next_cells, next_over}
use Rattle.uv_guard.proofs.ByCell.{wide}
use Rattle.uv_guard.proofs.ends.absorb_one.Goals as goal

pub loop-place-init : goal.loop-place-init
loop-place-init g c =
    let e = c.into_places-places.ensures in
    let s = starts c.args.seat.number c.into_places-places.result.items c.args.seat _ c.args.deeds.now.items e.0 e.1 c.requires.seat.0 c.requires.seat.1 in
    (s.0, c.requires.deeds, s.1, s.2)

pub index-cell-requires : goal.index-cell-requires
index-cell-requires g c =
    let i = c.loop-place.invariant in let split = c.pop.ensures.items ∙ ap (λ x. c.pop.new.self.items ++ option_to_list x) c.in-Some.is in let len = c.len-i.ensures ∙ c.pop.new.self.ok.0 in
    let lt = in_cells c.args.cells.now.items c.loop-place.deeds.items c.loop-place.places.items c.pop.new.self.items c.in-Some.place c.len-i.result split len i.1 i.3.0 i.3.1 in let o = c.args.cells.now.ok.0 in omega arith

pub index_mut-requires : goal.index_mut-requires
index_mut-requires g c =
    let i = c.loop-place.invariant in let split = c.pop.ensures.items ∙ ap (λ x. c.pop.new.self.items ++ option_to_list x) c.in-Some.is in let len = c.len-i.ensures ∙ c.pop.new.self.ok.0 in
    let lt = in_deeds c.args.cells.now.items c.loop-place.deeds.items c.loop-place.places.items c.pop.new.self.items c.in-Some.place c.len-i.result split len i.1 i.3.0 i.3.1 in let o = c.loop-place.deeds.ok.0 in omega arith

pub absorb-requires-clause-cell : goal.absorb-requires-clause-cell
absorb-requires-clause-cell g c =
    let i = c.loop-place.invariant in let split = c.pop.ensures.items ∙ ap (λ x. c.pop.new.self.items ++ option_to_list x) c.in-Some.is in let len = c.len-i.ensures ∙ c.pop.new.self.ok.0 in
    one_cell c.args.cells.now.items c.loop-place.deeds.items c.loop-place.places.items c.pop.new.self.items c.in-Some.place c.len-i.result split len i.1 i.3.0 i.3.1 c.index_mut.result.now c.index-cell.result.now c.index_mut.ensures.value c.index-cell.ensures

pub absorb-requires-clause-out : goal.absorb-requires-clause-out
absorb-requires-clause-out g c =
    let i = c.loop-place.invariant in let split = c.pop.ensures.items ∙ ap (λ x. c.pop.new.self.items ++ option_to_list x) c.in-Some.is in let len = c.len-i.ensures ∙ c.pop.new.self.ok.0 in
    (each_last (λ p. p.held ≡ None) c.pop.new.self.items c.in-Some.place (subst (Each (λ p. p.held ≡ None)) split i.2)).1

pub loop-place-preserved : goal.loop-place-preserved
loop-place-preserved g c =
    let i = c.loop-place.invariant in let split = c.pop.ensures.items ∙ ap (λ x. c.pop.new.self.items ++ option_to_list x) c.in-Some.is in let len = c.len-i.ensures ∙ c.pop.new.self.ok.0 in (
      next_joined c.args.cells.now.items c.loop-place.deeds.items c.loop-place.places.items c.pop.new.self.items c.in-Some.place c.len-i.result split len i.1 i.3.0 i.3.1 c.index_mut.result.now c.absorb.new.self c.index_mut.ensures.value c.absorb.ensures ∙ i.0,
      next_cells c.args.cells.now.items c.loop-place.deeds.items c.loop-place.places.items c.pop.new.self.items c.in-Some.place c.len-i.result split len i.1 i.3.0 i.3.1 c.index_mut.result.now c.absorb.new.self c.index_mut.ensures.value c.absorb.ensures,
      (each_last (λ p. p.held ≡ None) c.pop.new.self.items c.in-Some.place (subst (Each (λ p. p.held ≡ None)) split i.2)).0,
      (_, next_over c.args.cells.now.items c.loop-place.deeds.items c.loop-place.places.items c.pop.new.self.items c.in-Some.place c.len-i.result split len i.1 i.3.0 i.3.1),
    )

pub returns-clause-wide : goal.returns-clause-wide
returns-clause-wide g c = wide c.args.seat.number c.into_places-places.result.items c.args.seat c.into_places-places.ensures.0

pub returns-clause-deeds : goal.returns-clause-deeds
returns-clause-deeds g c =
    let i = c.loop-place.invariant in
    let none = no_items c.loop-place.places.items (let o = c.loop-place.places.ok.0 in let z = c.in_default.ensures.cases.0 in omega arith) in
    sym (joined_none c.loop-place.deeds.items) ∙ (ap (λ ps. joined_with c.loop-place.deeds.items (map kept_by ps)) (sym none) ∙ i.0)
