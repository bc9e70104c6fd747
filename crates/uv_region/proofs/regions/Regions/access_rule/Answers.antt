use Rattle.std.proofs.Common.{ap, sym, ◌∙◌}
use Rattle.std.proofs.lemmas.Cmp.{nat_cmp_total}
use Rattle.std.specs.FinMap as map
use Rattle.uv_region.specs.Lent.{Lent, entries_of, reached_at}
use Rattle.uv_region.specs.Rules.{access_rule, reached_rule}
use Rattle.uv_region.proofs.Lending.{reached_here}
use Rattle.uv_region.proofs.regions.Regions.access_rule.Goals as goal

pub returns-in-Some : goal.returns-in-Some
returns-in-Some c =
    c.place_rule.ensures
    ∙ ap (λ y. reached_rule (reached_at y) c.args.kind c.args.piece c.args.domain) (sym c.index-self-at.is)
    ∙ ap (λ o. reached_rule o c.args.kind c.args.piece c.args.domain) (reached_here c.self.inside.places c.in-Some.at c.args.piece.key _ c.in-Some.ensures c.index-self-at.is c.self.invariant)
    ∙ ap (λ (m : Lent). access_rule m c.args.kind c.args.piece c.args.domain) c.self.view_is

pub returns-in-None : goal.returns-in-None
returns-in-None c =
    sym (ap (λ (m : Lent). access_rule m c.args.kind c.args.piece c.args.domain) (sym c.self.view_is)
    ∙ ap (λ o. reached_rule o c.args.kind c.args.piece c.args.domain) (map.get-from_entries nat_cmp_total (entries_of c.self.inside.places) c.args.piece.key ∙ c.in-None.ensures))
