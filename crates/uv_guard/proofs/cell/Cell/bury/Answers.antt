use Rattle.std.proofs.Common.{rules, ap, sym, ◌∙◌, ◌≡◌, ◌≤◌, ◌*◌, arith}
use Rattle.uv_guard.specs.Steps.{generation_after}
use Rattle.uv_guard.proofs.Bits.{bury_top}
use Rattle.uv_guard.proofs.Deeds.{buries}
use Rattle.uv_guard.proofs.cell.Cell.bury.Goals as goal

pub swap-requires : goal.swap-requires
swap-requires g c =
    let i = c.requires.clear in let n = c.next_generation-next.ensures in let f = c.from.ensures in
    let is : c.from.result ≡ generation_after c.args.deed.now.me.0.generation = f ∙ (n.next ∙ ap generation_after (sym i.4)) in (
      search rules,
      search rules,
      buries g.T.Celled.goes_on _ _ _ _ i.0 i.1 i.2 i.3 i.6 (bury_top c.from.result (let s : c.next_generation-next.result ≤ 1073741823 = n.small in omega arith) ∙ ap (λ z. 4 * z) is),
    )
