use Rattle.std.proofs.Common.{ap, sym, ◌∙◌}
use Rattle.std.proofs.lemmas.Cmp.{nat_cmp_total}
use Rattle.std.specs.FinMap as map
use Rattle.uv_region.specs.Lent.{Lent, entries_of}
use Rattle.uv_region.proofs.Lending.{taken_at, nothing_taken}
use Rattle.uv_region.proofs.regions.Regions.take.Goals as goal

pub invariant_of-self : goal.invariant_of-self
invariant_of-self c =
    (taken_at c.self.inside.places c.take_at.new.places c.in-Some.at c.args.key c.take_at.result c.in-Some.ensures c.take_at.ensures.taken c.take_at.ensures.rest c.self.invariant).lent

pub returns-in-Some-clause-taken : goal.returns-in-Some-clause-taken
returns-in-Some-clause-taken c =
    (taken_at c.self.inside.places c.take_at.new.places c.in-Some.at c.args.key c.take_at.result c.in-Some.ensures c.take_at.ensures.taken c.take_at.ensures.rest c.self.invariant).given
    ∙ ap (λ (m : Lent). map.get m c.args.key) c.self.view_is

pub returns-in-Some-clause-rest : goal.returns-in-Some-clause-rest
returns-in-Some-clause-rest c =
    (taken_at c.self.inside.places c.take_at.new.places c.in-Some.at c.args.key c.take_at.result c.in-Some.ensures c.take_at.ensures.taken c.take_at.ensures.rest c.self.invariant).rest
    ∙ ap (λ (m : Lent). map.remove m c.args.key) c.self.view_is

pub returns-in-None-clause-taken : goal.returns-in-None-clause-taken
returns-in-None-clause-taken c =
    sym (ap (λ (m : Lent). map.get m c.args.key) (sym c.self.view_is) ∙ (map.get-from_entries nat_cmp_total (entries_of c.self.inside.places) c.args.key ∙ c.in-None.ensures))

pub returns-in-None-clause-rest : goal.returns-in-None-clause-rest
returns-in-None-clause-rest c =
    sym c.self.view_is ∙ (nothing_taken (entries_of c.self.inside.places) c.args.key c.in-None.ensures ∙ ap (λ (m : Lent). map.remove m c.args.key) c.self.view_is)
