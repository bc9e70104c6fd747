use Rattle.uv_region.proofs.Going.{known_on, lent_in_turn, lent_itself, read_on_lent, rooms_on_all, written_on_lent}
use Rattle.uv_region.proofs.laws.lent_regions_go_on.Goals as goal

pub returns : goal.returns
returns c = λ qp domain. record {
  itself = lent_itself qp domain;
  in_turn = lent_in_turn qp domain;
  known = known_on qp domain;
  rooms = rooms_on_all qp domain;
  reads = read_on_lent qp domain;
  writes = written_on_lent qp domain;
}
