use Rattle.std.proofs.Common.{◌∙◌, ap, refl}
use Rattle.uv_machine.specs.declared.entry.Answer.TheVariants as answer
use Rattle.uv_world.specs.Holdings.{held_of}
use Rattle.uv_world.specs.Moving.{held_with_pending}
use Rattle.uv_world.proofs.Rested.{may_ok, noted_all, noted_is, seated_entered, seated_rested, spares_same}
use Rattle.uv_world.proofs.Starting.{stage_same}
use Rattle.uv_world.specs.Seating.{stage_of}
use Rattle.uv_world.proofs.Staying.{fits_after}
use Rattle.uv_machine.specs.declared.entry.Entry.TheVariants.{Enter}
use Rattle.uv_world.proofs.world.World.enter_with.Goals as goal

pub returns-in-Ok-clause-may : goal.returns-in-Ok-clause-may
returns-in-Ok-clause-may c = may_ok _ c.in-Ok.ensures.gives.may

pub returns-in-Ok-clause-stage : goal.returns-in-Ok-clause-stage
returns-in-Ok-clause-stage c =
    stage_same _ _ _ _ c.in-Ok.ensures.gives.notes.history (c.bring.ensures.held ∙ ap (held_with_pending (held_of c.args.self.now.contents) c.args.client) c.requires.made)

pub returns-in-Ok-clause-spares : goal.returns-in-Ok-clause-spares
returns-in-Ok-clause-spares c = spares_same c.args.self.now.core c.enter.new.self c.in-Ok.ensures.gives.notes.spares

pub returns-in-Ok-clause-world : goal.returns-in-Ok-clause-world
returns-in-Ok-clause-world c =
    let old = c.args.self.now in
    record {
      seated = seated_entered c.args.client c.args.file c.args.request old.core c.enter.new.self old.retired old.doomed c.requires.world.seated c.requires.rest c.enter.ensures.legal c.enter.ensures.others c.in-Ok.ensures.gives.notes c.requires.client c.requires.range;
      housed = c.bring.ensures.housed;
      fits =
          fits_after c.fitting_goes_on.ensures (stage_of old) (stage_of (record old { core = c.enter.new.self; contents = c.bring.new.self })) (Enter c.args.client c.args.file c.args.request answer.Ok)
          (stage_same _ _ _ _ c.in-Ok.ensures.gives.notes.history (c.bring.ensures.held ∙ ap (held_with_pending (held_of old.contents) c.args.client) c.requires.made)) c.enter.ensures.legal tt c.requires.world.fits;
    }

pub returns-in-Err-clause-may : goal.returns-in-Err-clause-may
returns-in-Err-clause-may c = (noted_is _ _ _ _ _ _ c.requires.spare c.in-Err.ensures.gives).may

pub returns-in-Err-clause-stage : goal.returns-in-Err-clause-stage
returns-in-Err-clause-stage c = stage_same _ _ _ _ (noted_all _ _ _ _ (noted_is _ _ _ _ _ _ c.requires.spare c.in-Err.ensures.gives).notes).history refl

pub returns-in-Err-clause-spares : goal.returns-in-Err-clause-spares
returns-in-Err-clause-spares c = (noted_all _ _ _ _ (noted_is _ _ _ _ _ _ c.requires.spare c.in-Err.ensures.gives).notes).spares

pub returns-in-Err-clause-world : goal.returns-in-Err-clause-world
returns-in-Err-clause-world c =
    let old = c.args.self.now in
    let n = noted_all _ _ _ _ (noted_is _ _ _ _ _ _ c.requires.spare c.in-Err.ensures.gives).notes in
    record {
      seated = seated_rested c.args.client old.core c.enter.new.self old.retired old.doomed c.requires.world.seated c.requires.rest c.enter.ensures.legal c.enter.ensures.others n.outs n.kills c.in-Err.ensures.leads;
      housed = c.requires.world.housed;
      fits =
          fits_after c.fitting_goes_on.ensures (stage_of old) (stage_of (record old { core = c.enter.new.self })) (Enter c.args.client c.args.file c.args.request (answer.Refused c.in-Err.errno))
          (stage_same _ _ _ _ n.history refl) c.enter.ensures.legal tt c.requires.world.fits;
    }
