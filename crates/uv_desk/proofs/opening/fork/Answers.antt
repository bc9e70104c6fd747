use Rattle.std.proofs.Common.{rules, sym, ◌∙◌, arith}
use Rattle.uv_desk.proofs.Joining.{forks}
use Rattle.uv_desk.proofs.opening.fork.Goals as goal

pub split_seat-chair-requires : goal.split_seat-chair-requires
split_seat-chair-requires g c =
    let o = c.requires.made in
    (search rules, search rules, forks g.M.Machine.history g.M.Machine.own g.M.Machine.names _ c.log_laws.ensures _ _ _ o.0.0 o.1 o.5 (let n = o.3 in let r = c.requires.room in omega arith) (o.2 ∙ sym o.3) o.4)
