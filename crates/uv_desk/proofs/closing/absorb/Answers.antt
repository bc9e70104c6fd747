use Rattle.std.proofs.Common.{rules, ap, sym, ◌∙◌, ◌≡◌, ◌+◌}
use Rattle.uv_desk.specs.Views.{with_kept}
use Rattle.uv_desk.specs.Seats.{kept_by}
use Rattle.uv_desk.proofs.Joining.{joins}
use Rattle.uv_desk.proofs.closing.absorb.Goals as goal

pub join_seat-requires : goal.join_seat-requires
join_seat-requires g c =
    let f = c.requires.first in let i = c.seat.invariant in
    let n : c.seat.inside.chair.me.0.number ≡ c.args.seat.number = ap (λ p. p.number) c.seat.view_is in (
      search rules,
      ap (λ p. p.desk) c.seat.view_is ∙ c.requires.desk.2,
      i.0.3,
      search rules,
      joins g.M.Machine.history g.M.Machine.own g.M.Machine.names _ _ _ _ _ f.0.0 i.0.0 i.0.2 i.0.1 f.1 (ap (λ k. k + 1) n ∙ sym f.2),
    )

pub returns : goal.returns
returns g c =
    record { same = search rules; kept = c.join_seat.ensures.2 ∙ ap (λ p. (with_kept c.args.first.now.me.0 (kept_by p) p.number, c.args.first.now.me.1)) c.seat.view_is }
