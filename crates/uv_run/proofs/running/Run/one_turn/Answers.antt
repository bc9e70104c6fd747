use Rattle.std.proofs.Common.{Option, ℕ, subst}
use Rattle.uv_run.specs.Progress.{LowersOn}
use Rattle.uv_run.specs.Sound.{site_of}
use Rattle.uv_run.proofs.RunSounds.{on_ok}
use Rattle.uv_run.proofs.Turning.{turn_lowers}
use Rattle.uv_run.proofs.running.Run.one_turn.Goals as goal

pub returns-clause-less : goal.returns-clause-less
returns-clause-less c =
    let P : Option ℕ → Type 0 = λ v. LowersOn (site_of c.after_event.new.self.flights) (site_of c.go_on.new.self.flights) c.args.actor v in
    on_ok c.go_on.result _ _
    (λ lowers. turn_lowers c.args.self.now.flights c.requires.sound c.tears_once.ensures c.args.actor c.requires.busy c.in_ok-event.event (site_of c.after_event.new.self.flights) (site_of c.go_on.new.self.flights) c.in_ok-event.ensures.progress
    (subst P c.awaited.ensures lowers)) c.go_on.ensures.lowers
