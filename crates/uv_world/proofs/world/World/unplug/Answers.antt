use Rattle.uv_world.proofs.Torn.{unplug_answer, unplug_seated, unplug_spares, unplug_stage}
use Rattle.uv_world.specs.Seating.{stage_of}
use Rattle.uv_world.proofs.Staying.{fits_unplugged}
use Rattle.uv_world.proofs.world.World.unplug.Goals as goal

pub returns-clause-answer : goal.returns-clause-answer
returns-clause-answer c = unplug_answer c.args.self.now.core c.unplug.new.self c.args.device c.unplug.result c.unplug.ensures.gives

pub returns-clause-stage : goal.returns-clause-stage
returns-clause-stage c = unplug_stage c.args.self.now c.unplug.new.self c.args.device c.unplug.result c.unplug.ensures.gives

pub returns-clause-spares : goal.returns-clause-spares
returns-clause-spares c = unplug_spares c.args.self.now.core c.unplug.new.self c.args.device c.unplug.result c.unplug.ensures.gives

pub returns-clause-world : goal.returns-clause-world
returns-clause-world c =
    let old = c.args.self.now in
    record {
      seated = unplug_seated old.core c.unplug.new.self old.retired old.doomed c.args.device c.unplug.result c.unplug.ensures.gives c.requires.world.seated c.requires.rest c.unplug.ensures.legal c.unplug.ensures.others;
      housed = c.requires.world.housed;
      fits =
          fits_unplugged c.fitting_goes_on.ensures (stage_of old) (stage_of (record old { core = c.unplug.new.self })) c.args.device c.unplug.result
          (unplug_stage old c.unplug.new.self c.args.device c.unplug.result c.unplug.ensures.gives) c.unplug.ensures.legal c.requires.world.fits;
    }
