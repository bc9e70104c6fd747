use Rattle.uv_run.proofs.RunSounds.{goes_then, on_ok}
use Rattle.uv_run.proofs.running.Run.run_line.Goals as goal

pub returns-clause-sound : goal.returns-clause-sound
returns-clause-sound c =
    on_ok c.run_out.result _ _ (λ stays. goes_then c.args.self.now.flights c.begin_line.new.self.flights c.run_out.new.self.flights c.in_ok-begin_line.ensures.sound stays) c.run_out.ensures.sound
