use Rattle.std.proofs.Common.{ap, ◌∙◌}
use Rattle.uv_world.specs.Completing.{event_answer, held_event_taken}
use Rattle.uv_world.specs.Named.{value_named}
use Rattle.uv_run.specs.DataPath.{taken_event_text}
use Rattle.uv_run.specs.Runs.{stand_of}
use Rattle.uv_run.specs.Sound.{site_of}
use Rattle.uv_run.specs.Stand.{Stand}
use Rattle.uv_run.proofs.DataPath.{holding_is, one_told, stays_same}
use Rattle.uv_run.proofs.RunSounds.{on_ok}
use Rattle.uv_run.proofs.running.Run.event_cell.Goals as goal

pub returns-clause-shown : goal.returns-clause-shown
returns-clause-shown c =
    let s = stand_of c.args.self.now in
    let f = c.take_event-tried.new.self in
    let h = held_event_taken s.site.held c.args.channel in
    on_ok c.say.result _ _
    (λ told. one_told s (let t : Stand = record s { site = site_of f } in t) (stand_of c.say.new.self) c.args.line h c.taken_event_text.result (taken_event_text (event_answer (value_named s.site.held.channels c.args.channel))) (holding_is s (site_of f) h c.take_event-tried.ensures.site)
    (c.taken_event_text.ensures ∙ ap taken_event_text c.take_event-tried.ensures.answer) told) c.say.ensures.said

pub returns-clause-sound : goal.returns-clause-sound
returns-clause-sound c = on_ok c.say.result _ _ (λ same. stays_same c.args.self.now.flights c.take_event-tried.new.self c.say.new.self.flights c.take_event-tried.ensures.sound same) c.say.ensures.flights
