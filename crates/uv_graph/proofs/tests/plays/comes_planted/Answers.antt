use Rattle.std.proofs.Common.{◌∙◌, sym}
use Rattle.uv_graph.proofs.tests.plays.comes_planted.Goals as goal

pub returns-then-is_committing : goal.returns-then-is_committing
returns-then-is_committing c = λ told. record {
  call = c.in-Some.call;
  is = sym c.call_of.ensures ∙ c.in-Some.is;
  word = c.is_committing.ensures c.if-is_committing.true;
  out = c.in-Some-out_of.out;
  out_is = sym c.out_of.ensures ∙ c.in-Some-out_of.is;
  deed = c.is_planted_for.ensures.any _ told;
}
