use Rattle.std.proofs.Common.{◌≡◌, ◌<◌, Some, ap, sym, subst, ◌∙◌}
use Rattle.std.specs.FinMap as map
use Rattle.uv_num.specs.declared.limits.TheConstants.{LENT_REGIONS}
use Rattle.uv_region.specs.Lent.{Lent, with_acted, acting}
use Rattle.uv_region.proofs.Lending.{has_room, removed_apart, insert-remove}
use Rattle.uv_region.proofs.regions.Regions.act.Goals as goal

pub put-requires-clause-room : goal.put-requires-clause-room
put-requires-clause-room c =
    let P : Lent → Type 0 = λ m. map.len m < LENT_REGIONS in
    let Q : Lent → Type 0 = λ m. map.get m c.args.piece.key ≡ Some c.requires.ready.reached in
    let R : Lent → Type 0 = λ m. map.len (map.remove m c.args.piece.key) < LENT_REGIONS in
    subst P (sym c.take.ensures.rest) (subst R c.self.view_is (has_room c.self.inside.places c.args.piece.key c.requires.ready.reached c.self.invariant (subst Q (sym c.self.view_is) c.requires.ready.there)))

pub put-requires-clause-apart : goal.put-requires-clause-apart
put-requires-clause-apart c = ap (λ (m : Lent). map.get m c.args.piece.key) c.take.ensures.rest ∙ removed_apart c.args.self.now c.args.piece.key

pub returns-clause-lent : goal.returns-clause-lent
returns-clause-lent c =
    c.put.ensures
    ∙ ap (λ (m : Lent). map.insert m c.args.piece.key (c.act_on.new.region, c.in-Some.window)) c.take.ensures.rest
    ∙ insert-remove c.args.self.now c.args.piece.key (c.act_on.new.region, c.in-Some.window)
    ∙ ap (λ r. map.insert c.args.self.now c.args.piece.key (r, c.in-Some.window)) c.act_on.ensures.region
    ∙ ap (with_acted c.args.self.now c.args.piece.key (acting c.args.kind c.args.piece c.args.bytes.bytes c.args.qp c.args.domain)) c.in-Some.ensures.taken
