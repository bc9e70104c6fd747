use Rattle.std.proofs.Common.{◌∙◌, ap, subst, sym, refl, Some}
use Rattle.uv_num.specs.Kind.{kind_place}
use Rattle.uv_num.specs.Place.{at_place}
use Rattle.uv_graph.specs.Conditions.{ComesPlanted}
use Rattle.uv_graph.specs.Kept.{Kept}
use Rattle.uv_graph.specs.Seats.{seat_place}
use Rattle.uv_graph.specs.Slots.{put_slot}
use Rattle.uv_graph.specs.Owns.{own_of}
use Rattle.uv_graph.proofs.Planting.{planted_tied, slot_out}
use Rattle.uv_graph.proofs.Whole.{whole_still, back_out}
use Rattle.std.specs.Prelude.{slice_get}
use Rattle.uv_graph.proofs.graph.Graph.planted.Goals as goal

pub invariant_of-self : goal.invariant_of-self
invariant_of-self g c =
    let d = c.args.deed in
    let tell = g.D.Deed.facts in
    let P : Kept → Type 0 = λ k. ComesPlanted (own_of k c.args.client) (tell d) in
    let k : Kept = record { history = c.self.inside.log.history; spares = c.self.inside.spares; outs = c.self.inside.outs; kills = c.self.inside.kills } in
    let k' : Kept = record { history = c.self.inside.log.history; spares = c.self.inside.spares; outs = c.set_out.new.outs; kills = c.self.inside.kills } in
    let comes = subst P (sym c.self.view_is) c.requires in
    whole_still tell c.self.inside.log c.self.inside.log k k' c.self.inside.pools c.self.inside.pools c.self.inside.held c.put.new.held c.self.inside.uses c.self.invariant refl
    (back_out k k' c.args.client (Some comes.out) c.set_out.ensures (slot_out (slice_get c.self.inside.outs c.args.client) comes.out comes.out_is) refl)
    (planted_tied tell c.self.inside.log k c.self.inside.pools c.self.inside.held c.self.invariant.tied c.args.client d c.self.invariant.known comes c.put.new.held k'
    (c.put.ensures ∙ ap (λ v. at_place c.self.inside.held v (put_slot (Some d))) (c.seat_place-place.ensures ∙ ap (λ v. seat_place (kind_place v) c.index.result) c.kind.ensures ∙ ap (seat_place (kind_place (g.D.Deed.facts d).kind)) c.index.ensures.index))
    c.set_out.ensures refl refl refl)
