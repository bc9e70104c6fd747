use Rattle.std.proofs.Common.{rules, ap, ◌∙◌}
use Rattle.uv_guard.specs.declared.life.Stage.TheVariants.{Doomed}
use Rattle.uv_guard.proofs.Deeds.{dooms}
use Rattle.uv_guard.proofs.cell.Cell.doom.Goals as goal

pub fetch_or-requires : goal.fetch_or-requires
fetch_or-requires g c = let i = c.requires.planted in (search rules, search rules, dooms g.T.Celled.goes_on _ _ _ i.0 i.1.0 i.1.1)

pub returns-clause-doomed : goal.returns-clause-doomed
returns-clause-doomed g c = λ p st. c.fetch_or.ensures.2 p st ∙ ap (λ s. (record c.args.deed.now.me.0 { stage = Doomed p }, s)) c.requires.planted.1.4
