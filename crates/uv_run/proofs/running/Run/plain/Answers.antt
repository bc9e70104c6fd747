use Rattle.std.proofs.Common.{refl, subst, sym}
use Rattle.std.specs.Prelude.{Result}
use Rattle.uv_num.specs.declared.errno.Errno.{Errno}
use Rattle.uv_run.specs.declared.flight.Task.{Task}
use Rattle.uv_run.specs.Asking.{asking_of, task_of}
use Rattle.uv_run.specs.Lines.{RunsTask}
use Rattle.uv_run.specs.Ranges.{IsInDeed}
use Rattle.uv_run.specs.Runs.{stand_of}
use Rattle.uv_run.proofs.Reaches.{deed_reaches}
use Rattle.uv_run.proofs.RunSounds.{on_ok, then_goes}
use Rattle.uv_run.proofs.running.Run.plain.Goals as goal

pub run_task-requires-clause-range : goal.run_task-requires-clause-range
run_task-requires-clause-range c =
    let P : Result Task Errno → Type 0 = λ v. IsInDeed c.args.actor v in
    subst P (sym c.task_of-task.ensures) (deed_reaches c.args.actor c.run_out.new.self.replies c.args.deed c.requires.range)

pub returns-clause-plays : goal.returns-clause-plays
returns-clause-plays c =
    let P : Result Task Errno → Type 0 = λ v. RunsTask (stand_of c.run_out.new.self) c.args.line c.args.actor v (stand_of c.run_task.new.self) in
    on_ok c.run_task.result _ _
    (λ runs. record {
      asked = asking_of c.args.line c.args.actor (task_of c.run_out.new.self.replies c.args.deed);
      plays = record { ready = stand_of c.run_out.new.self; runs = c.in_ok-run_out.ensures.runs; goes = (subst P c.task_of-task.ensures runs, refl) };
    }) c.run_task.ensures.runs

pub returns-clause-sound : goal.returns-clause-sound
returns-clause-sound c =
    on_ok c.run_task.result _ _ (λ goes. then_goes c.args.self.now.flights c.run_out.new.self.flights c.run_task.new.self.flights c.in_ok-run_out.ensures.sound goes) c.run_task.ensures.sound
