use Rattle.uv_num.specs.declared.limits.TheConstants.{DRIVER}
use Rattle.uv_world.proofs.Torn.{tear_seated, tear_spares, tear_stage}
use Rattle.uv_world.specs.Seating.{stage_of}
use Rattle.uv_world.proofs.Staying.{fits_torn}
use Rattle.uv_world.proofs.world.World.tear.Goals as goal

pub returns-clause-stage : goal.returns-clause-stage
returns-clause-stage c = tear_stage c.args.self.now c.tear.new.self c.args.file DRIVER c.tear.result c.tear.ensures.gives

pub returns-clause-spares : goal.returns-clause-spares
returns-clause-spares c = tear_spares c.args.self.now.core c.tear.new.self c.args.file DRIVER c.tear.result c.tear.ensures.gives

pub returns-clause-world : goal.returns-clause-world
returns-clause-world c =
    let old = c.args.self.now in
    record {
      seated = tear_seated old.core c.tear.new.self old.retired old.doomed c.args.file DRIVER c.tear.result c.tear.ensures.gives c.requires.world.seated c.requires.rest c.tear.ensures.legal c.tear.ensures.others;
      housed = c.requires.world.housed;
      fits =
          fits_torn c.fitting_goes_on.ensures (stage_of old) (stage_of (record old { core = c.tear.new.self })) c.args.file DRIVER c.tear.result
          (tear_stage old c.tear.new.self c.args.file DRIVER c.tear.result c.tear.ensures.gives) c.tear.ensures.legal c.requires.world.fits;
    }
