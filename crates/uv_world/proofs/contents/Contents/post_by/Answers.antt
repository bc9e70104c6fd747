use Rattle.std.proofs.Common.{◌≡◌, ◌∙◌, ap, arith, length, List, Option, Some, sym}
use Rattle.uv_num.proofs.PlaceLaws.{length-at_place}
use Rattle.uv_wr.specs.Works.{Sending}
use Rattle.uv_world.specs.declared.cells.Cell.{Cell}
use Rattle.uv_world.specs.declared.content.Addressed.{Addressed}
use Rattle.uv_world.specs.declared.content.Connected.{Connected}
use Rattle.uv_world.specs.Holdings.{held_of}
use Rattle.uv_world.specs.Named.{cells_under, value_named}
use Rattle.uv_world.specs.Owing.{full_cells}
use Rattle.uv_world.specs.Sending.{send_tried, sending_by}
use Rattle.uv_world.proofs.Named.{send_posted_is, under_count}
use Rattle.uv_world.proofs.contents.Contents.post_by.Goals as goal

pub returns-in-Some-clause-held : goal.returns-in-Some-clause-held
returns-in-Some-clause-held c =
    let old = c.args.self.now in
    let found : value_named old.addresses c.args.ah ≡ Some c.in-Some.handle = sym c.handle_named.ensures ∙ c.in-Some.is in
    let work = c.to_handle-work.ensures ∙ ap (λ (a : Option Addressed). sending_by a c.args.work) (sym found) in
    ap (λ (cells : List (Cell Connected)). record (held_of old) { pairs = cells })
    (c.post_send.ensures.pairs ∙ ap (λ (w : Sending). cells_under old.pairs c.args.qp (send_tried w c.post_send.result)) work)
    ∙ send_posted_is (held_of old) c.args.qp (Some c.args.ah) c.args.work c.post_send.result

pub returns-in-Some-clause-housed : goal.returns-in-Some-clause-housed
returns-in-Some-clause-housed c =
    let count : full_cells c.post_send.new.pairs ≡ full_cells c.args.self.now.pairs = ap full_cells c.post_send.ensures.pairs ∙ under_count c.args.self.now.pairs _ _ in
    record {
      journal_room = c.requires.housed.journal_room;
      list_room = omega (arith, count, c.requires.housed.list_room);
      pairs = ap length c.post_send.ensures.pairs ∙ (length-at_place c.args.self.now.pairs _ _ ∙ c.requires.housed.pairs);
      unused = c.requires.housed.unused;
      journals = c.requires.housed.journals;
      queues = c.requires.housed.queues;
    }
