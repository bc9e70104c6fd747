use Rattle.uv_completer.specs.Upshots.{upshot_of}
use Rattle.uv_completer.proofs.Going.{lent_on, made_on}
use Rattle.uv_completer.proofs.laws.replies_go_on.Goals as goal

pub returns : goal.returns
returns c = λ content p lent. record {
  pair = made_on c.turns_go_on.ensures c.turns_go_on_in_turn.ensures (upshot_of content p) content.payload p lent;
  regions = lent_on c.lent_regions_go_on.ensures (upshot_of content p) content.payload p lent;
}
