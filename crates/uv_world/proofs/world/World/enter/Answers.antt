use Rattle.std.proofs.Common.{◌∙◌, ap}
use Rattle.uv_machine.specs.declared.entry.Answer.TheVariants as answer
use Rattle.uv_machine.specs.declared.entry.Entry.TheVariants.{Enter}
use Rattle.uv_world.specs.Holdings.{Held}
use Rattle.uv_world.specs.Stages.{Stage, stage_then}
use Rattle.uv_world.proofs.Rested.{may_refuse, noted_spared, seated_rested}
use Rattle.uv_world.proofs.Starting.{stage_same}
use Rattle.uv_world.specs.Seating.{stage_of}
use Rattle.uv_world.proofs.Staying.{fits_after, prepared_fits}
use Rattle.uv_world.proofs.world.World.enter.Goals as goal

pub enter_with-requires-clause-world : goal.enter_with-requires-clause-world
enter_with-requires-clause-world c = record { seated = c.requires.world.seated; housed = c.prepare.ensures.housed; fits = prepared_fits c.args.self.now c.prepare.new.self c.prepare.ensures.held c.requires.world.fits }

pub returns-in-Ok-clause-stage : goal.returns-in-Ok-clause-stage
returns-in-Ok-clause-stage c =
    let h = c.args.self.now.core.history in
    c.enter_with.ensures.stage ∙ ap (λ (v : Held). (let s : Stage = record { history = h; held = v } in stage_then s (Enter c.args.client c.args.file c.args.request c.enter_with.result))) c.prepare.ensures.held

pub returns-in-Err-clause-may : goal.returns-in-Err-clause-may
returns-in-Err-clause-may c = may_refuse _ c.refuse.result c.refuse.ensures.errno

pub returns-in-Err-clause-stage : goal.returns-in-Err-clause-stage
returns-in-Err-clause-stage c = stage_same _ _ _ _ c.refuse.ensures.notes.history c.prepare.ensures.held

pub returns-in-Err-clause-spares : goal.returns-in-Err-clause-spares
returns-in-Err-clause-spares c = (noted_spared _ _ c.args.client _ c.refuse.ensures.notes c.refuse.ensures.spare).spares

pub returns-in-Err-clause-world : goal.returns-in-Err-clause-world
returns-in-Err-clause-world c =
    let old = c.args.self.now in
    record {
      seated = seated_rested c.args.client old.core c.refuse.new.self old.retired old.doomed c.requires.world.seated c.requires.rest c.refuse.ensures.legal c.refuse.ensures.others c.refuse.ensures.notes.outs c.refuse.ensures.notes.kills c.refuse.ensures.leads;
      housed = c.prepare.ensures.housed;
      fits =
          fits_after c.fitting_goes_on.ensures (stage_of old) (stage_of (record old { core = c.refuse.new.self; contents = c.prepare.new.self })) (Enter c.args.client c.args.file c.args.request (answer.Refused c.refuse.result))
          (stage_same _ _ _ _ c.refuse.ensures.notes.history c.prepare.ensures.held) c.refuse.ensures.legal tt c.requires.world.fits;
    }
