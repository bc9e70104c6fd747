use Rattle.std.proofs.Common.{◌∙◌, ℕ, List, ap}
use Rattle.uv_world.specs.declared.cells.Cell.{Cell}
use Rattle.uv_world.specs.declared.content.Belled.{Belled}
use Rattle.uv_world.specs.Celled.{value_if}
use Rattle.uv_world.specs.Holdings.{held_of}
use Rattle.uv_world.specs.Setting.{queue_if}
use Rattle.uv_world.proofs.Readied.{send_live, taken_there}
use Rattle.uv_world.proofs.contents.Contents.take_for.Goals as goal

pub take_queue-send-requires : goal.take_queue-send-requires
take_queue-send-requires c = record { live = send_live (held_of c.args.self.now) c.args.x c.requires.ready }

pub returns-clause-taken : goal.returns-clause-taken
returns-clause-taken c =
    taken_there (held_of c.args.self.now) c.args.x c.take_pair-qp.result.0 c.take_pair-qp.result.1 c.take_queue-send.result c.take_queue_if-receive.result c.take_if-send_channel.result c.take_if-receive_channel.result
    c.take_shared-srq.result.0 c.take_shared-srq.result.1 c.new.result c.take_pair-qp.ensures.taken c.take_queue-send.ensures.taken
    (c.take_queue_if-receive.ensures.taken ∙ ap (λ (rings : List (Cell Belled)). queue_if rings c.args.x.receive) c.take_queue-send.ensures.rest) c.take_if-send_channel.ensures.taken
    (c.take_if-receive_channel.ensures.taken ∙ ap (λ (channels : List (Cell (List ℕ))). value_if channels c.args.x.receive_channel) c.take_if-send_channel.ensures.rest)
    c.take_shared-srq.ensures.works c.take_shared-srq.ensures.left c.new.ensures
