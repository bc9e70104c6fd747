use Rattle.uv_world.proofs.Starting.{stage_same, start_seated}
use Rattle.std.proofs.Common.{sym, subst}
use Rattle.uv_world.specs.Fitting.{StageFits}
use Rattle.uv_world.proofs.FirstFit.{first_fits}
use Rattle.uv_world.proofs.world.World.new.Goals as goal

pub returns-clause-stage : goal.returns-clause-stage
returns-clause-stage c = stage_same _ _ _ _ c.in_ok-new.ensures.history c.in_ok-new-2.ensures.held

pub returns-clause-world : goal.returns-clause-world
returns-clause-world c = record {
  seated = start_seated _ _ _ c.in_ok-new.ensures c.in_ok-empty_slots.ensures c.in_ok-empty_slots-2.ensures;
  housed = c.in_ok-new-2.ensures.housed;
  fits = subst StageFits (sym (stage_same _ _ _ _ c.in_ok-new.ensures.history c.in_ok-new-2.ensures.held)) first_fits;
}
