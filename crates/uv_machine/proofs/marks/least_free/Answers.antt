use Rattle.std.specs.List.{list_any}
use Rattle.uv_machine.specs.Objects.{has_handle}
use Rattle.uv_machine.specs.Plans.{reserves}
use Rattle.std.proofs.Common.{◌∙◌}
use Rattle.uv_machine.proofs.Marked.{least_from-marked}
use Rattle.uv_machine.proofs.marks.least_free.Goals as goal

pub returns : goal.returns
returns c =
    c.least_unmarked.ensures
    ∙ least_from-marked (λ n. list_any (has_handle c.args.file n) c.args.objects.now) (λ n. list_any (reserves c.args.file n) c.args.calls.now) _ _ _ c.blank-table.ensures c.mark_handles.ensures c.mark_numbers.ensures
