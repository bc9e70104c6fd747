use Rattle.std.proofs.Common.{rules, ◌≡◌, sym, subst}
use Rattle.uv_desk.specs.Counting.{added_by}
use Rattle.uv_desk.specs.Seats.{IsAll, all_fresh}
use Rattle.uv_desk.proofs.Raced.{new_can_add}
use Rattle.uv_desk.proofs.tests.opened.Goals as goal

pub returns : goal.returns
returns g c =
    let e : c.expect.result.1.items ≡ all_fresh c.expect.result.0 c.args.seats c.new.result (added_by c.new.result) = search rules in
    record {
      all = subst (IsAll c.expect.result.0) (sym e) (c.new_are_all.ensures c.expect.result.0 c.args.seats c.new.result (added_by c.new.result) c.requires.0);
      add = new_can_add c.expect.result.0 c.args.seats c.new.result (added_by c.new.result) c.expect.result.1.items e;
    }
