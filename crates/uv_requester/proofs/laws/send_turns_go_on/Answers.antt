use Rattle.uv_requester.proofs.Going.{turn_goes_on, turn_lent}
use Rattle.uv_requester.proofs.laws.send_turns_go_on.Goals as goal

pub returns : goal.returns
returns c = λ p lent. record {
  pair = turn_goes_on c.turns_go_on.ensures c.turns_go_on_in_turn.ensures p lent;
  regions = turn_lent c.lent_regions_go_on.ensures p lent;
}
