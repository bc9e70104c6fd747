use Rattle.std.proofs.Common.{◌≡◌, ◌-◌, ◌∙◌, ap, arith, drop, length, refl}
use Rattle.uv_world.specs.Lending.{Lending, return_all}
use Rattle.uv_world.proofs.Lends.{given-back, lending}
use Rattle.uv_world.proofs.lending.give_back.Goals as goal

pub loop-turn-preserved : goal.loop-turn-preserved
loop-turn-preserved c =
    given-back c.args.windows.now (lending c.args.regions.now c.args.lent.now) c.loop-turn.regions c.return_one.new.regions c.loop-turn.lent c.return_one.new.lent c.args.keys.now c.loop-turn.turn
    (length c.args.keys.now - 1 - c.loop-turn.turn) c.loop-turn-test.true refl c.loop-turn.invariant c.return_one.ensures.regions c.return_one.ensures.lent

pub returns-clause-regions : goal.returns-clause-regions
returns-clause-regions c =
    let end : length c.args.keys.now - c.loop-turn.turn ≡ 0 = omega (arith, c.loop-turn-test.false) in
    let before : Lending = lending c.args.regions.now c.args.lent.now in
    ap (λ (l : Lending). l.regions) c.loop-turn.invariant ∙ ap (λ n. (return_all c.args.windows.now before (drop n c.args.keys.now)).regions) end
