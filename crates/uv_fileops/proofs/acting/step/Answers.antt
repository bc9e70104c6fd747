use Rattle.std.proofs.Common.{ap, sym, ◌∙◌}
use Rattle.std.proofs.lemmas.Option.{same_Some}
use Rattle.uv_graph.specs.Conditions.{awaits}
use Rattle.uv_fileops.proofs.Touched.{awaits_word}
use Rattle.uv_fileops.proofs.acting.step.Goals as goal

pub touch-requires-clause-at : goal.touch-requires-clause-at
touch-requires-clause-at g c =
    record {
      client = c.requires.client;
      is = sym c.call_of.ensures ∙ c.in-Some.is;
      word = awaits_word c.in-Some.call (sym c.awaits.ensures ∙ c.if-awaits.true);
      none = c.requires.none;
    }

pub go_on-requires : goal.go_on-requires
go_on-requires g c =
    let same = same_Some c.requires.call c.in-Some.call (sym c.requires.is ∙ sym c.call_of.ensures ∙ c.in-Some.is) in
    record { ready = c.requires; alone = ap awaits same ∙ sym c.awaits.ensures ∙ c.if-awaits.false }
