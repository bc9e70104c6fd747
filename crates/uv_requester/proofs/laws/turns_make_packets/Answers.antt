use Rattle.uv_requester.proofs.Sendable.{turn_good}
use Rattle.uv_requester.proofs.laws.turns_make_packets.Goals as goal

pub returns : goal.returns
returns c = turn_good c.pieces_are_few.ensures c.told_is_in_range.ensures
