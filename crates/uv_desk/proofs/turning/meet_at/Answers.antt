use Rattle.std.proofs.Common.{rules, ap, ◌∙◌}
use Rattle.uv_desk.proofs.Telling.{tells, told, learns}
use Rattle.uv_desk.proofs.turning.meet_at.Goals as goal

pub split_seat-guest-requires : goal.split_seat-guest-requires
split_seat-guest-requires g c = (search rules, search rules, tells g.M.Machine.history g.M.Machine.own g.M.Machine.names _ _ _)

pub join_seat-requires : goal.join_seat-requires
join_seat-requires g c =
    let e = c.split_seat-guest.ensures.4 in
    (search rules, search rules, search rules, search rules, told g.M.Machine.history g.M.Machine.own g.M.Machine.names _ _ _ _ _ c.requires.numbered (ap (λ m. m.0.numbered) e))

pub load-requires : goal.load-requires
load-requires g c = (search rules, search rules, learns g.M.Machine.history g.M.Machine.own g.M.Machine.names _ c.log_laws.ensures _ _ _ (ap (λ m. m.0.numbered) c.join_seat.ensures.2 ∙ c.requires.numbered))
