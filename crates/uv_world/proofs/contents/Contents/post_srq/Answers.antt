use Rattle.std.proofs.Common.{◌≡◌, ◌∙◌, ap, arith, List}
use Rattle.uv_world.specs.declared.cells.Cell.{Cell}
use Rattle.uv_world.specs.declared.content.Shared.{Shared}
use Rattle.uv_world.specs.Holdings.{held_of}
use Rattle.uv_world.specs.Owing.{full_cells}
use Rattle.uv_world.proofs.Named.{srq_posted_is, under_count}
use Rattle.uv_world.proofs.contents.Contents.post_srq.Goals as goal

pub returns-clause-held : goal.returns-clause-held
returns-clause-held c =
    ap (λ (cells : List (Cell Shared)). record (held_of c.args.self.now) { shared = cells }) c.post_srq.ensures.shared
    ∙ srq_posted_is (held_of c.args.self.now) c.args.srq c.args.work c.post_srq.result

pub returns-clause-housed : goal.returns-clause-housed
returns-clause-housed c =
    let count : full_cells c.post_srq.new.shared ≡ full_cells c.args.self.now.shared = ap full_cells c.post_srq.ensures.shared ∙ under_count c.args.self.now.shared _ _ in
    record {
      journal_room = c.requires.housed.journal_room;
      list_room = omega (arith, count, c.requires.housed.list_room);
      pairs = c.requires.housed.pairs;
      unused = c.requires.housed.unused;
      journals = c.requires.housed.journals;
      queues = c.requires.housed.queues;
    }
