use Rattle.std.proofs.Common.{refl}
use Rattle.uv_machine.specs.declared.entry.Entry.TheVariants.{Open}
use Rattle.uv_world.specs.Seating.{stage_of}
use Rattle.uv_world.specs.Stages.{stage_then}
use Rattle.uv_run.specs.Site.{with_entry}
use Rattle.uv_run.specs.Sound.{site_of}
use Rattle.uv_run.proofs.Beginnings.{has_spare, idle_rests, open_began}
use Rattle.uv_run.proofs.Sites.{site_same, turned_same}
use Rattle.uv_run.proofs.flights.Flights.open.Goals as goal

pub open-answer-requires-clause-rest : goal.open-answer-requires-clause-rest
open-answer-requires-clause-rest c = idle_rests c.args.self.now c.args.actor c.requires.sound c.requires.free

pub open-answer-requires-clause-spare : goal.open-answer-requires-clause-spare
open-answer-requires-clause-spare c = has_spare c.args.self.now c.args.actor c.requires.client c.requires.room

pub returns-clause-opens : goal.returns-clause-opens
returns-clause-opens c =
    let old = c.args.self.now in
    let now = c.open-answer.new.self in
    let e = Open c.args.actor c.args.file c.args.device c.open-answer.result in
    record {
      answer = c.open-answer.result;
      may = c.open-answer.ensures.may;
      turned =
          turned_same (site_of (record old { world = now })) (with_entry (site_of old) e) _ _
          (site_same (stage_of now) (stage_then (stage_of old.world) e) old.teardowns old.teardowns old.killed old.killed c.open-answer.ensures.stage refl refl) c.ends_with.ensures;
    }

pub returns-clause-began : goal.returns-clause-began
returns-clause-began c =
    open_began c.args.actor c.args.file c.args.device c.open-answer.result c.args.self.now c.open-answer.new.self c.requires.sound c.requires.free c.open-answer.ensures.may c.open-answer.ensures.stage c.open-answer.ensures.spares c.open-answer.ensures.others
    c.open-answer.ensures.doomed c.open-answer.ensures.world
