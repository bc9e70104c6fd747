use Rattle.uv_world.proofs.Torn.{tear_seated, tear_spares, tear_stage}
use Rattle.uv_world.specs.Seating.{stage_of}
use Rattle.uv_world.proofs.Staying.{fits_torn}
use Rattle.uv_world.proofs.world.World.close.Goals as goal

pub returns-clause-stage : goal.returns-clause-stage
returns-clause-stage c = tear_stage c.args.self.now c.close.new.self c.args.file c.args.tearer c.close.result c.close.ensures.gives

pub returns-clause-spares : goal.returns-clause-spares
returns-clause-spares c = tear_spares c.args.self.now.core c.close.new.self c.args.file c.args.tearer c.close.result c.close.ensures.gives

pub returns-clause-world : goal.returns-clause-world
returns-clause-world c =
    let old = c.args.self.now in
    record {
      seated = tear_seated old.core c.close.new.self old.retired old.doomed c.args.file c.args.tearer c.close.result c.close.ensures.gives c.requires.world.seated c.requires.rest c.close.ensures.legal c.close.ensures.others;
      housed = c.requires.world.housed;
      fits =
          fits_torn c.fitting_goes_on.ensures (stage_of old) (stage_of (record old { core = c.close.new.self })) c.args.file c.args.tearer c.close.result
          (tear_stage old c.close.new.self c.args.file c.args.tearer c.close.result c.close.ensures.gives) c.close.ensures.legal c.requires.world.fits;
    }
