use Rattle.std.proofs.Common.{◌∙◌, None, Some, ap, subst, sym, refl, arith}
use Rattle.std.specs.Prelude.{slice_get}
use Rattle.uv_num.specs.Kind.{kind_place}
use Rattle.uv_num.specs.Place.{at_place}
use Rattle.uv_pool.specs.Homes.{brought}
use Rattle.uv_machine.specs.declared.entry.Entry.TheVariants as entry
use Rattle.uv_machine.specs.Histories.{Allowed, state_of}
use Rattle.uv_graph.specs.Hands.{ComesBuried}
use Rattle.uv_graph.specs.Kept.{Kept, kill_of}
use Rattle.uv_graph.specs.Seats.{seat_place}
use Rattle.uv_graph.specs.Slots.{put_slot}
use Rattle.uv_graph.specs.Lives.{lives_out}
use Rattle.uv_graph.proofs.Planting.{slot_out}
use Rattle.uv_graph.proofs.Whole.{whole_kill, no_out}
use Rattle.uv_graph.proofs.Finishing.{gone_out, gone_tied}
use Rattle.uv_graph.proofs.graph.Graph.gone.Goals as goal

pub bring_home-requires : goal.bring_home-requires
bring_home-requires g c pool is =
    let d = c.args.deed in
    let tell = g.D.Deed.facts in
    let A : Kept → Type 0 = λ k. Allowed (state_of k.history) (entry.Gone c.args.object c.args.kept) in
    let allowed = subst A (sym c.self.view_is) c.requires.allowed in
    let B : Kept → Type 0 = λ k. ComesBuried (kill_of k c.args.by) (lives_out k.history (kill_of k c.args.by)) c.args.object (tell d) in
    let comes = subst B (sym c.self.view_is) c.requires.buried in
    let k : Kept = record { history = c.self.inside.log.history; spares = c.self.inside.spares; outs = c.self.inside.outs; kills = c.self.inside.kills } in
    let place = c.place-place.ensures.place ∙ ap kind_place c.kind.ensures in
    gone_out tell c.self.inside.log k c.self.inside.pools c.self.inside.held c.self.invariant.tied d c.args.object c.args.kept c.args.by allowed comes pool (ap (λ v. slice_get c.self.inside.pools v) (sym place) ∙ is)

pub invariant_of-self : goal.invariant_of-self
invariant_of-self g c =
    let d = c.args.deed in
    let tell = g.D.Deed.facts in
    let A : Kept → Type 0 = λ k. Allowed (state_of k.history) (entry.Gone c.args.object c.args.kept) in
    let allowed = subst A (sym c.self.view_is) c.requires.allowed in
    let B : Kept → Type 0 = λ k. ComesBuried (kill_of k c.args.by) (lives_out k.history (kill_of k c.args.by)) c.args.object (tell d) in
    let comes = subst B (sym c.self.view_is) c.requires.buried in
    let k : Kept = record { history = c.self.inside.log.history; spares = c.self.inside.spares; outs = c.self.inside.outs; kills = c.self.inside.kills } in
    let place = c.place-place.ensures.place ∙ ap kind_place c.kind.ensures in
    whole_kill tell c.self.inside.log c.note.new.self k _ c.self.inside.pools c.bring_home.new.pools c.self.inside.held c.put.new.held c.self.inside.uses c.self.invariant (entry.Gone c.args.object c.args.kept) allowed tt c.note.ensures.history
    (gone_tied tell c.self.inside.log c.note.new.self k _ c.self.inside.pools c.bring_home.new.pools c.self.inside.held c.put.new.held c.self.invariant.tied d c.args.object c.args.kept (c.bring_home.ensures ∙ ap (λ v. at_place c.self.inside.pools v (brought (g.D.Deed.facts d).index d)) place) (c.put.ensures ∙ ap (λ v. at_place c.self.inside.held v (put_slot None)) (c.seat_place.ensures ∙ ap (λ v. seat_place (kind_place v) c.index.result) c.kind-2.ensures ∙ ap (seat_place (kind_place (g.D.Deed.facts d).kind)) c.index.ensures.index)) c.note.ensures.legal refl (omega (arith, c.self.invariant.tied.covered, c.note.ensures.spare)) c.args.by allowed comes c.note.ensures.history c.set_out.ensures refl)
    refl c.args.by None (Some comes.out) c.set_out.ensures (slot_out (slice_get c.self.inside.kills c.args.by) comes.out comes.is) refl (no_out c.note.new.self.history)
