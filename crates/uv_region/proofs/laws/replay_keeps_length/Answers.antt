use Rattle.uv_region.proofs.Journaling.{length-replay_of}
use Rattle.uv_region.proofs.laws.replay_keeps_length.Goals as goal

pub returns : goal.returns
returns c = length-replay_of
