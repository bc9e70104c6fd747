use Rattle.uv_run.proofs.RunSounds.{began_from, goes_then, on_ok}
use Rattle.uv_run.proofs.running.Run.begin_line.Goals as goal

pub returns-clause-sound : goal.returns-clause-sound
returns-clause-sound c =
    let goes = began_from c.args.actor c.args.task c.args.self.now.flights c.set_begun.new.self.flights c.begin-heard.new.self c.tell.new.self.flights c.requires.range c.set_begun.ensures.flights c.begin-heard.ensures.began c.in_ok-tell.ensures.flights in
    on_ok c.go_on.result _ _ (λ stays. goes_then c.args.self.now.flights c.tell.new.self.flights c.go_on.new.self.flights goes stays) c.go_on.ensures.sound
