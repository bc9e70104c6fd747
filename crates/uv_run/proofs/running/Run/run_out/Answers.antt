use Rattle.std.proofs.Common.{ap, refl, suc, ◌∙◌}
use Rattle.uv_run.specs.Turns.{one_turn, turns_of}
use Rattle.uv_run.proofs.RunSounds.{stays_sound, stays_then}
use Rattle.uv_run.proofs.running.Run.run_out.Goals as goal

pub loop-telling-init : goal.loop-telling-init
unfolding turns_of
loop-telling-init c = (record { count = 0; made = refl }, stays_sound c.args.self.now.flights c.requires.sound)

pub loop-telling-preserved : goal.loop-telling-preserved
unfolding turns_of
loop-telling-preserved c =
    let inv = c.loop-telling.invariant in
    let e = c.in_ok-one_turn.ensures in (
      record { count = suc inv.0.count; made = e.stand ∙ ap (λ s. one_turn c.args.telling s c.args.actor) inv.0.made },
      stays_then c.args.self.now.flights c.loop-telling.self.flights c.one_turn.new.self.flights inv.1 e.sound,
    )
