use Rattle.std.proofs.Common.{refl}
use Rattle.uv_machine.specs.declared.entry.Entry.TheVariants.{Enter}
use Rattle.uv_world.specs.Seating.{stage_of}
use Rattle.uv_world.specs.Stages.{stage_then}
use Rattle.uv_run.specs.Site.{with_entry}
use Rattle.uv_run.specs.Sound.{site_of}
use Rattle.uv_run.proofs.Beginnings.{enter_began, has_spare, idle_rests}
use Rattle.uv_run.proofs.Sites.{site_same, turned_same}
use Rattle.uv_run.proofs.flights.Flights.enter.Goals as goal

pub enter-answer-requires-clause-rest : goal.enter-answer-requires-clause-rest
enter-answer-requires-clause-rest c = idle_rests c.args.self.now c.args.actor c.requires.sound c.requires.free

pub enter-answer-requires-clause-spare : goal.enter-answer-requires-clause-spare
enter-answer-requires-clause-spare c = has_spare c.args.self.now c.args.actor c.requires.client c.requires.room

pub returns-clause-enters : goal.returns-clause-enters
returns-clause-enters c =
    let old = c.args.self.now in
    let now = c.enter-answer.new.self in
    let e = Enter c.args.actor c.args.file c.args.request c.enter-answer.result in
    record {
      answer = c.enter-answer.result;
      may = c.enter-answer.ensures.may;
      turned =
          turned_same (site_of (record old { world = now })) (with_entry (site_of old) e) _ _
          (site_same (stage_of now) (stage_then (stage_of old.world) e) old.teardowns old.teardowns old.killed old.killed c.enter-answer.ensures.stage refl refl) c.entered.ensures;
    }

pub returns-clause-began : goal.returns-clause-began
returns-clause-began c =
    enter_began c.args.actor c.args.file c.args.request c.enter-answer.result c.args.self.now c.enter-answer.new.self c.requires.sound c.requires.free c.enter-answer.ensures.stage c.enter-answer.ensures.spares c.enter-answer.ensures.others
    c.enter-answer.ensures.doomed c.enter-answer.ensures.world
