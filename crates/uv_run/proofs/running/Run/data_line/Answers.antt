use Rattle.std.proofs.Common.{[], refl}
use Rattle.uv_run.specs.Runs.{stand_of}
use Rattle.uv_run.proofs.RunSounds.{on_ok, stays_then}
use Rattle.uv_run.proofs.running.Run.data_line.Goals as goal

pub returns-clause-plays : goal.returns-clause-plays
returns-clause-plays c =
    on_ok c.call_data.result _ _ (λ shown. record { asked = []; plays = (record { ready = stand_of c.run_out.new.self; runs = c.in_ok-run_out.ensures.runs; goes = shown }, refl) }) c.call_data.ensures.shown

pub returns-clause-sound : goal.returns-clause-sound
returns-clause-sound c =
    on_ok c.call_data.result _ _ (λ stays. stays_then c.args.self.now.flights c.run_out.new.self.flights c.call_data.new.self.flights c.in_ok-run_out.ensures.sound stays) c.call_data.ensures.sound
