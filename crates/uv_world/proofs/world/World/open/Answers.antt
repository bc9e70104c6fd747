use Rattle.std.proofs.Common.{◌∙◌, refl}
use Rattle.uv_machine.specs.declared.entry.Entry.TheVariants.{Open}
use Rattle.uv_machine.specs.declared.entry.Answer.TheVariants as answer
use Rattle.uv_world.proofs.Rested.{may_ok, noted_all, noted_is, seated_noted, seated_rested, spares_same}
use Rattle.uv_world.proofs.Seating.{call_same}
use Rattle.uv_world.proofs.Starting.{stage_same}
use Rattle.uv_world.specs.Seating.{stage_of}
use Rattle.uv_world.proofs.Staying.{fits_after}
use Rattle.uv_world.proofs.world.World.open.Goals as goal

pub returns-in-Ok-clause-may : goal.returns-in-Ok-clause-may
returns-in-Ok-clause-may c = may_ok _ c.in-Ok.ensures.gives.may

pub returns-in-Ok-clause-stage : goal.returns-in-Ok-clause-stage
returns-in-Ok-clause-stage c = stage_same _ _ _ _ c.in-Ok.ensures.gives.notes.history refl

pub returns-in-Ok-clause-spares : goal.returns-in-Ok-clause-spares
returns-in-Ok-clause-spares c = spares_same c.args.self.now.core c.open.new.self c.in-Ok.ensures.gives.notes.spares

pub returns-in-Ok-clause-world : goal.returns-in-Ok-clause-world
returns-in-Ok-clause-world c =
    let old = c.args.self.now in
    record {
      seated = seated_noted c.args.client old.core c.open.new.self (Open c.args.client c.args.file c.args.device answer.Ok) old.retired old.doomed c.requires.world.seated c.requires.rest c.open.ensures.legal c.open.ensures.others c.in-Ok.ensures.gives.notes refl;
      housed = c.requires.world.housed;
      fits = fits_after c.fitting_goes_on.ensures (stage_of old) (stage_of (record old { core = c.open.new.self })) (Open c.args.client c.args.file c.args.device answer.Ok) (stage_same _ _ _ _ c.in-Ok.ensures.gives.notes.history refl) c.open.ensures.legal tt c.requires.world.fits;
    }

pub returns-in-Err-clause-may : goal.returns-in-Err-clause-may
returns-in-Err-clause-may c = (noted_is _ _ _ _ _ _ c.requires.spare c.in-Err.ensures.gives).may

pub returns-in-Err-clause-stage : goal.returns-in-Err-clause-stage
returns-in-Err-clause-stage c = stage_same _ _ _ _ (noted_all _ _ _ _ (noted_is _ _ _ _ _ _ c.requires.spare c.in-Err.ensures.gives).notes).history refl

pub returns-in-Err-clause-spares : goal.returns-in-Err-clause-spares
returns-in-Err-clause-spares c = (noted_all _ _ _ _ (noted_is _ _ _ _ _ _ c.requires.spare c.in-Err.ensures.gives).notes).spares

pub returns-in-Err-clause-world : goal.returns-in-Err-clause-world
returns-in-Err-clause-world c =
    let old = c.args.self.now in
    let e = Open c.args.client c.args.file c.args.device (answer.Refused c.in-Err.errno) in
    let n = noted_all _ _ _ e (noted_is _ _ _ _ _ _ c.requires.spare c.in-Err.ensures.gives).notes in
    record {
      seated = seated_rested c.args.client old.core c.open.new.self old.retired old.doomed c.requires.world.seated c.requires.rest c.open.ensures.legal c.open.ensures.others n.outs n.kills
          (call_same old.core.history c.open.new.self.history e c.args.client n.history refl ∙ c.requires.rest.call);
      housed = c.requires.world.housed;
      fits = fits_after c.fitting_goes_on.ensures (stage_of old) (stage_of (record old { core = c.open.new.self })) e (stage_same _ _ _ _ n.history refl) c.open.ensures.legal tt c.requires.world.fits;
    }
