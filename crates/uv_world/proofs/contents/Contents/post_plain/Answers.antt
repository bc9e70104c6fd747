use Rattle.std.proofs.Common.{◌≡◌, ◌∙◌, ap, arith, length, List, None}
use Rattle.uv_num.proofs.PlaceLaws.{length-at_place}
use Rattle.uv_world.specs.declared.cells.Cell.{Cell}
use Rattle.uv_world.specs.declared.content.Connected.{Connected}
use Rattle.uv_world.specs.Holdings.{held_of}
use Rattle.uv_world.specs.Owing.{full_cells}
use Rattle.uv_world.proofs.Named.{send_posted_is, under_count}
use Rattle.uv_world.proofs.contents.Contents.post_plain.Goals as goal

pub returns-clause-held : goal.returns-clause-held
returns-clause-held c =
    ap (λ (cells : List (Cell Connected)). record (held_of c.args.self.now) { pairs = cells }) c.post_send.ensures.pairs
    ∙ send_posted_is (held_of c.args.self.now) c.args.qp None c.args.work c.post_send.result

pub returns-clause-housed : goal.returns-clause-housed
returns-clause-housed c =
    let count : full_cells c.post_send.new.pairs ≡ full_cells c.args.self.now.pairs = ap full_cells c.post_send.ensures.pairs ∙ under_count c.args.self.now.pairs _ _ in
    record {
      journal_room = c.requires.housed.journal_room;
      list_room = omega (arith, count, c.requires.housed.list_room);
      pairs = ap length c.post_send.ensures.pairs ∙ (length-at_place c.args.self.now.pairs _ _ ∙ c.requires.housed.pairs);
      unused = c.requires.housed.unused;
      journals = c.requires.housed.journals;
      queues = c.requires.housed.queues;
    }
