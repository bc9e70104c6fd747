use Rattle.std.proofs.Common.{rules, ap, ◌∙◌, subst, [], ◌∷◌, ◌++◌, ◌+◌, ◌-◌, ◌≡◌, suc, arith}
use Rattle.uv_desk.specs.Seats.{fresh, freshes, IsOpen}
use Rattle.uv_desk.proofs.Joined.{freshes_more}
use Rattle.uv_desk.proofs.opening.fork_all.Goals as goal

pub loop-k-preserved : goal.loop-k-preserved
loop-k-preserved g c =
    let i = c.loop-k.invariant in let o = c.fork-seat.ensures in let p = c.push_reserved.ensures in let n = i.5.0 in
    let t = c.args.board.now.table_id in let m = c.args.board.now.key.value in
    let h = g.M.Machine.history m in let w = g.M.Machine.own m in let lt = c.loop-k-test.true in let e = i.5.1 in
    let k_is : c.loop-k.k ≡ 1 + n = omega arith in (
      (search rules, search rules),
      o.made,
      omega arith,
      (let a = p.len in let b = i.3 in omega arith),
      (let a = p.capacity in let b = i.4 in omega arith),
      (suc n, omega arith, p.items ∙ (ap (λ l. l ++ c.fork-seat.result ∷ []) i.5.2 ∙ (ap (λ s. freshes t 1 n h w ++ s ∷ []) (o.seat ∙ ap (λ k. fresh t k 0 h w) k_is) ∙ freshes_more t 1 n h w))),
    )

pub returns : goal.returns
returns g c =
    let i = c.loop-k.invariant in let m = c.args.board.now.key.value in let le = c.loop-k-test.false in let le' = i.2 in let e = i.5.1 in
    let k_is : c.loop-k.k ≡ c.args.count = omega arith in
    let n_is : i.5.0 ≡ c.args.count - 1 = omega arith in
    record {
      same = search rules;
      made = subst (λ k. IsOpen g.M.Machine.history g.M.Machine.own m k c.loop-k.first.me) k_is i.1;
      seats = (i.5.2 ∙ ap (λ n. freshes c.args.board.now.table_id 1 n (g.M.Machine.history m) (g.M.Machine.own m)) n_is, (let a = i.3 in let b = i.4 in omega arith));
    }
