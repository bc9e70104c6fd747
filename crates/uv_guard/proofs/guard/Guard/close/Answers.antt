use Rattle.std.proofs.Common.{sym, subst}
use Rattle.uv_num.specs.Each.{Each}
use Rattle.uv_guard.specs.Closed.{IsAtRest}
use Rattle.uv_guard.specs.Seated.{Deeded}
use Rattle.uv_guard.proofs.Many.{all_each}
use Rattle.uv_guard.proofs.ByCell.{by_cell}
use Rattle.uv_guard.proofs.guard.Guard.close.Goals as goal

pub returns : goal.returns
returns g c = by_cell g.T.Celled.goes_on c.args.self c.args.deeds c.into_vec-deeds.result.items c.absorb_all.new.deeds.items c.args.seats c.into_vec.result.items c.into_vec-deeds.ensures c.into_vec.ensures c.absorb_all.ensures.deeds c.requires.deeds c.requires.seats c.absorb_all.ensures.wide c.end_all.ensures

pub end_all-requires-clause-rest : goal.end_all-requires-clause-rest
end_all-requires-clause-rest g c =
    subst (Each (λ (d : Deeded g.row.T.Denot). IsAtRest d.stage)) (sym c.absorb_all.ensures.deeds)
    (all_each (λ (d : Deeded g.row.T.Denot). IsAtRest d.stage) (λ d k rest. rest) c.into_vec-deeds.result.items c.into_vec.result.items
    (subst (Each (λ (d : Deeded g.row.T.Denot). IsAtRest d.stage)) (sym c.into_vec-deeds.ensures) c.requires.rest))
