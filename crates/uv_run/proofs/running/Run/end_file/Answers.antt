use Rattle.std.proofs.Common.{◌≡◌, ap, true, ◌∙◌}
use Rattle.uv_machine.specs.Histories.{state_of}
use Rattle.uv_machine.specs.States.{phase_of}
use Rattle.uv_run.specs.declared.flights.Flights.{Flights}
use Rattle.uv_run.specs.Site.{Turned, state_at}
use Rattle.uv_run.specs.Sound.{is_ending, site_of}
use Rattle.uv_run.proofs.Overs.{closes_ending}
use Rattle.uv_run.proofs.RunSounds.{on_ok}
use Rattle.uv_run.proofs.running.Run.end_file.Goals as goal

pub returns-clause-ended : goal.returns-clause-ended
returns-clause-ended c =
    let f = c.args.file in
    let closed : is_ending (phase_of (state_of c.begin_close-heard.new.self.world.core.history) f) ≡ true =
    ap (λ (t : Turned). is_ending (phase_of (state_at t.site) f)) c.begin_close-heard.ensures.closes ∙ closes_ending (site_of c.args.self.now.flights) f c.requires.callable
    in
    let told : is_ending (phase_of (state_of c.tell.new.self.flights.world.core.history) f) ≡ true = ap (λ (w : Flights). is_ending (phase_of (state_of w.world.core.history) f)) c.in_ok-tell.ensures.flights ∙ closed in
    on_ok c.run_out.result _ _ (λ stays. stays.ends f (c.in_ok-go_on.ensures.sound.ends f told)) c.run_out.ensures.sound
