use Rattle.std.proofs.Common.{◌∙◌, ◌≡◌, ◌+◌, suc, ap, arith}
use Rattle.uv_guard.specs.Cells.{tables}
use Rattle.uv_guard.specs.Seated.{fresh_deeds}
use Rattle.uv_guard.proofs.Many.{seats_one}
use Rattle.uv_guard.proofs.makes.seat_all.Goals as goal

pub loop-n-preserved : goal.loop-n-preserved
loop-n-preserved g c =
    let i = c.loop-n.invariant in let lt = c.loop-n-test.true in let p = c.push_reserved.ensures in let s = c.seat_at-seat.ensures in let ts = tables c.args.cells.now.items in
    let next : suc c.loop-n.n ≡ c.loop-n.n + 1 = omega arith in (
      omega arith,
      s.deeds ∙ ap (λ k. fresh_deeds k ts) next,
      seats_one ts c.loop-n.n c.loop-n.seats.items c.push_reserved.new.self.items c.seat_at-seat.result i.2 s.seat p.items,
      (let a = p.len in let b = i.3 in omega arith),
      (let a = p.capacity in let b = i.4 in omega arith),
    )
