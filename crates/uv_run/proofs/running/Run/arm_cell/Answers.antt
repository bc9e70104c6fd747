use Rattle.std.proofs.Common.{ap, ◌∙◌}
use Rattle.uv_world.specs.Completing.{arm_answer, held_armed}
use Rattle.uv_world.specs.Named.{value_named}
use Rattle.uv_run.specs.DataPath.{arm_text}
use Rattle.uv_run.specs.Runs.{stand_of}
use Rattle.uv_run.specs.Sound.{site_of}
use Rattle.uv_run.specs.Stand.{Stand}
use Rattle.uv_run.proofs.DataPath.{holding_is, one_told, stays_same}
use Rattle.uv_run.proofs.RunSounds.{on_ok}
use Rattle.uv_run.proofs.running.Run.arm_cell.Goals as goal

pub returns-clause-shown : goal.returns-clause-shown
returns-clause-shown c =
    let s = stand_of c.args.self.now in
    let f = c.arm-tried.new.self in
    let h = held_armed s.site.held c.args.cq c.args.solicited in
    on_ok c.say.result _ _
    (λ told. one_told s (let t : Stand = record s { site = site_of f } in t) (stand_of c.say.new.self) c.args.line h c.arm_text.result (arm_text (arm_answer (value_named s.site.held.rings c.args.cq))) (holding_is s (site_of f) h c.arm-tried.ensures.site)
    (c.arm_text.ensures ∙ ap arm_text c.arm-tried.ensures.answer) told) c.say.ensures.said

pub returns-clause-sound : goal.returns-clause-sound
returns-clause-sound c = on_ok c.say.result _ _ (λ same. stays_same c.args.self.now.flights c.arm-tried.new.self c.say.new.self.flights c.arm-tried.ensures.sound same) c.say.ensures.flights
