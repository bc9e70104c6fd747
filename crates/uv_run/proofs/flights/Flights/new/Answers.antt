use Rattle.std.proofs.Common.{refl}
use Rattle.uv_world.specs.Seating.{stage_of}
use Rattle.uv_run.proofs.Starts.{start_is, start_sound}
use Rattle.uv_run.proofs.flights.Flights.new.Goals as goal

pub returns-clause-site : goal.returns-clause-site
returns-clause-site c = start_is (stage_of c.in_ok-new.field-0) c.in_ok-new.ensures.stage

pub returns-clause-sound : goal.returns-clause-sound
returns-clause-sound c = start_sound _ c.in_ok-new.ensures.world c.in_ok-new.ensures.stage refl refl
