use Rattle.sweeps.proofs.Moves.{let_in}
use Rattle.sweeps.proofs.making.go.Goals as goal

pub modify-requires : goal.modify-requires
modify-requires c = let_in c.from.result c.args.attrs c.in_ok-check.field-0 c.in_ok-check.ensures
