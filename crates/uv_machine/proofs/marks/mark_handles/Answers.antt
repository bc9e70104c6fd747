use Rattle.uv_machine.specs.Objects.{has_handle}
use Rattle.uv_machine.proofs.Marked.{Marks-start, Marks-next, Marks-all}
use Rattle.uv_machine.proofs.marks.mark_handles.Goals as goal

pub loop-x-init : goal.loop-x-init
loop-x-init c = Marks-start (has_handle c.args.file) c.args.objects.now _

pub loop-x-preserved : goal.loop-x-preserved
loop-x-preserved c =
    Marks-next (has_handle c.args.file) c.args.objects.now _ _ _ _ _ c.loop-x-test.true c.loop-x.invariant c.mark_handle.ensures

pub returns : goal.returns
returns c = Marks-all (has_handle c.args.file) c.args.objects.now _ _ _ c.loop-x-test.false c.loop-x.invariant
