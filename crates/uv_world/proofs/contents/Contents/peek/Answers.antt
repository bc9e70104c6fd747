use Rattle.std.proofs.Common.{◌≡◌, ◌∙◌, ap, arith, List}
use Rattle.uv_world.specs.Poking.{peek_of}
use Rattle.uv_world.specs.declared.cells.Cell.{Cell}
use Rattle.uv_region.specs.Registered.{Registered}
use Rattle.uv_world.specs.Holdings.{held_of}
use Rattle.uv_world.specs.Owing.{full_cells}
use Rattle.uv_world.proofs.Named.{acted_is, under_count}
use Rattle.uv_world.proofs.contents.Contents.peek.Goals as goal

pub returns-clause-held : goal.returns-clause-held
returns-clause-held c =
    ap (λ (cells : List (Cell Registered)). record (held_of c.args.self.now) { regions = cells }) c.peek.ensures.regions
    ∙ acted_is (held_of c.args.self.now) c.args.mr (peek_of c.args.offset c.args.length) c.peek.result

pub returns-clause-housed : goal.returns-clause-housed
returns-clause-housed c =
    let count : full_cells c.peek.new.regions ≡ full_cells c.args.self.now.regions = ap full_cells c.peek.ensures.regions ∙ under_count c.args.self.now.regions _ _ in
    record {
      journal_room = omega (arith, count, c.requires.housed.journal_room);
      list_room = c.requires.housed.list_room;
      pairs = c.requires.housed.pairs;
      unused = c.requires.housed.unused;
      journals = c.requires.housed.journals;
      queues = c.requires.housed.queues;
    }
