use Rattle.std.proofs.Common.{rules, ◌≡◌, length, arith}
use Rattle.uv_desk.proofs.Drawing.{all_but, none_left}
use Rattle.uv_desk.proofs.Joined.{gathers, gathered_one, gathered_all}
use Rattle.uv_desk.proofs.closing.gather.Goals as goal

pub loop-seats-init : goal.loop-seats-init
loop-seats-init g c = (search rules, gathers _ _ _ c.requires.seats c.requires.first)

pub absorb-requires-clause-desk : goal.absorb-requires-clause-desk
absorb-requires-clause-desk g c =
    let i = c.loop-seats.invariant.1 in let last : c.len-last.result ≡ length c.loop-seats.seats.items = search rules in
    (search rules, search rules, (all_but _ 1 _ _ _ _ i.all c.draw-seat.ensures (omega arith)).0)

pub loop-seats-preserved : goal.loop-seats-preserved
loop-seats-preserved g c =
    let last : c.len-last.result ≡ length c.loop-seats.seats.items = search rules in
    (search rules, gathered_one _ _ _ _ _ _ _ _ _ c.loop-seats.invariant.1 c.draw-seat.ensures last c.absorb.ensures.kept)

pub returns : goal.returns
returns g c =
    let none : length c.loop-seats.seats.items ≡ 0 = search rules in
    record { same = search rules; all = gathered_all _ _ _ _ _ c.loop-seats.invariant.1 (none_left _ none) }
