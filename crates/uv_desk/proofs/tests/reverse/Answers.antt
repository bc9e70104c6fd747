use Rattle.std.proofs.Common.{rules, ◌≡◌, ap, ◌∙◌, length, reverse}
use Rattle.uv_desk.proofs.Raced.{reversed_all}
use Rattle.uv_desk.proofs.tests.reverse.Goals as goal

pub returns : goal.returns
returns c =
    let before = c.args.seats.now.items in
    let n : c.args.seats.now.len ≡ length before = search rules in
    let e : c.reverse.new.self ≡ reverse before = c.reverse.ensures.after ∙ ap reverse c.as_mut_slice-all.ensures.value in
    reversed_all c.any_order_is_all.ensures _ before c.reverse.new.self _ c.requires e n
