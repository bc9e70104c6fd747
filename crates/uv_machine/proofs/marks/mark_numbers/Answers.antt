use Rattle.uv_machine.specs.Plans.{reserves}
use Rattle.uv_machine.proofs.Marked.{Marks-start, Marks-next, Marks-all}
use Rattle.uv_machine.proofs.marks.mark_numbers.Goals as goal

pub loop-slot-init : goal.loop-slot-init
loop-slot-init c = Marks-start (reserves c.args.file) c.args.calls.now _

pub loop-slot-preserved : goal.loop-slot-preserved
loop-slot-preserved c =
    Marks-next (reserves c.args.file) c.args.calls.now _ _ _ _ _ c.loop-slot-test.true c.loop-slot.invariant c.mark_slot.ensures

pub returns : goal.returns
returns c = Marks-all (reserves c.args.file) c.args.calls.now _ _ _ c.loop-slot-test.false c.loop-slot.invariant
