use Rattle.uv_run.proofs.RunSounds.{began_from, on_ok}
use Rattle.uv_run.proofs.running.Run.begin_only.Goals as goal

pub returns-clause-sound : goal.returns-clause-sound
returns-clause-sound c =
    on_ok c.tell.result _ _ (λ same. began_from c.args.actor c.args.task c.args.self.now.flights c.set_begun.new.self.flights c.begin-heard.new.self c.tell.new.self.flights c.requires.range c.set_begun.ensures.flights c.begin-heard.ensures.began same) c.tell.ensures.flights
