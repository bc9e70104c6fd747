use Rattle.std.proofs.Common.{◌≡◌, ◌∙◌, true, None, ap, subst, sym, refl, Some, arith}
use Rattle.uv_num.specs.Place.{at_place}
use Rattle.uv_machine.specs.declared.entry.Entry.TheVariants as entry
use Rattle.uv_machine.specs.declared.entry.Word.TheVariants as word
use Rattle.uv_machine.specs.declared.entry.Answer.TheVariants as answer
use Rattle.uv_machine.specs.States.{object_with}
use Rattle.uv_machine.specs.Histories.{Allowed, state_of}
use Rattle.uv_graph.specs.Hands.{HandsPlanted, is_live_object, out_in}
use Rattle.uv_graph.specs.Kept.{Kept, out_of, put_out}
use Rattle.uv_graph.specs.Slots.{put_slot}
use Rattle.uv_graph.proofs.Taking.{held_slot, deed_for, check_tied, live_object, actor_place, in_hand}
use Rattle.uv_graph.specs.Seats.{slot_of}
use Rattle.std.specs.Prelude.{slice_get, unwrap_or}
use Rattle.uv_machine.specs.Objects.{no_ids}
use Rattle.uv_graph.specs.Deeds.{out_for}
use Rattle.uv_graph.specs.Lives.{uses_in}
use Rattle.uv_graph.proofs.Holders.{live_stands}
use Rattle.uv_graph.proofs.Planting.{standing_at}
use Rattle.uv_graph.proofs.Whole.{stored_is, told_in, whole_out}
use Rattle.uv_graph.proofs.graph.Graph.check.Goals as goal

pub unreachable-requires-in-None-take : goal.unreachable-requires-in-None-take
unreachable-requires-in-None-take g c =
    let tell = g.D.Deed.facts in
    let there : object_with (state_of c.self.inside.log.history) c.args.object ≡ Some c.in-Some.x = sym (c.object_with-found.ensures ∙ ap (λ s. object_with s c.args.object) c.state.ensures) ∙ c.in-Some.is in
    let A : Kept → Type 0 = λ k. Allowed (state_of k.history) (entry.Step c.args.client word.Check c.args.object None answer.Ok) in
    let allowed = subst A (sym c.self.view_is) c.requires.allowed in
    let L : Kept → Type 0 = λ k. is_live_object (object_with (state_of k.history) c.args.object) ≡ true in
    let live = live_object _ c.in-Some.x there (subst L (sym c.self.view_is) c.requires.live) in
    let N : Kept → Type 0 = λ k. out_of k c.args.client ≡ None in
    let none = subst N (sym c.self.view_is) c.requires.none in
    held_slot tell c.self.inside.log _ c.self.inside.pools c.self.inside.held c.self.invariant.tied c.in-Some.x c.args.object there live None (sym c.in-None-take.is ∙ c.take.ensures.deed ∙ ap (λ v. slot_of (slice_get c.self.inside.held v)) c.seat_place-place.ensures)

pub invariant_of-self : goal.invariant_of-self
invariant_of-self g c =
    let tell = g.D.Deed.facts in
    let there : object_with (state_of c.self.inside.log.history) c.args.object ≡ Some c.in-Some.x = sym (c.object_with-found.ensures ∙ ap (λ s. object_with s c.args.object) c.state.ensures) ∙ c.in-Some.is in
    let A : Kept → Type 0 = λ k. Allowed (state_of k.history) (entry.Step c.args.client word.Check c.args.object None answer.Ok) in
    let allowed = subst A (sym c.self.view_is) c.requires.allowed in
    let L : Kept → Type 0 = λ k. is_live_object (object_with (state_of k.history) c.args.object) ≡ true in
    let live = live_object _ c.in-Some.x there (subst L (sym c.self.view_is) c.requires.live) in
    let N : Kept → Type 0 = λ k. out_of k c.args.client ≡ None in
    let none = subst N (sym c.self.view_is) c.requires.none in
    let low = (standing_at c.self.inside.log.history c.args.object c.in-Some.x c.self.invariant.tied.legal there (live_stands c.in-Some.x.phase live)).low in
    let used : c.uses_at-uses.result ≡ uses_in c.self.inside.log.history c.in-Some.x =
    c.uses_at-uses.ensures ∙ ap (λ v. unwrap_or (slice_get c.self.inside.uses v) no_ids) c.seat_place-place.ensures ∙ stored_is c.self.inside.log.history c.self.inside.uses c.in-Some.x low c.self.invariant.stored in
    let now : c.set_out.new.outs ≡ at_place c.self.inside.outs c.args.client (put_out (Some (out_in c.self.inside.log.history c.in-Some.x))) =
    c.set_out.ensures ∙ ap (λ v. at_place c.self.inside.outs c.args.client (put_out (Some v))) (c.out_for.ensures ∙ ap (λ u. out_for u c.in-Some.x) used) in
    let slot = actor_place c.args.client c.self.inside.outs allowed.0 c.self.invariant.tied.outs_size in
    let k : Kept = record { history = c.self.inside.log.history; spares = c.self.inside.spares; outs = c.self.inside.outs; kills = c.self.inside.kills } in
    let k' : Kept = record { history = c.note.new.self.history; spares = c.self.inside.spares; outs = c.set_out.new.outs; kills = c.self.inside.kills } in
    whole_out tell c.self.inside.log c.note.new.self k k' c.self.inside.pools c.self.inside.pools c.self.inside.held c.take.new.held c.self.inside.uses c.self.invariant (entry.Step c.args.client word.Check c.args.object None answer.Ok) allowed tt c.note.ensures.history
    (check_tied tell c.self.inside.log c.note.new.self k k' c.self.inside.pools c.self.inside.held c.take.new.held c.self.invariant.tied c.in-Some.x (uses_in c.self.inside.log.history c.in-Some.x) c.args.object there live (c.take.ensures.held ∙ ap (λ v. at_place c.self.inside.held v (put_slot None)) c.seat_place-place.ensures) c.note.ensures.legal refl (omega (arith, c.self.invariant.tied.covered, c.note.ensures.spare)) c.args.client allowed none c.note.ensures.history now refl)
    refl c.args.client (Some (out_in c.self.inside.log.history c.in-Some.x)) slot.item now slot.is refl
    (told_in c.self.inside.log.history c.note.new.self.history (entry.Step c.args.client word.Check c.args.object None answer.Ok) c.note.ensures.history refl c.in-Some.x)

pub returns-clause-hands : goal.returns-clause-hands
returns-clause-hands g c =
    let tell = g.D.Deed.facts in
    let there : object_with (state_of c.self.inside.log.history) c.args.object ≡ Some c.in-Some.x = sym (c.object_with-found.ensures ∙ ap (λ s. object_with s c.args.object) c.state.ensures) ∙ c.in-Some.is in
    let A : Kept → Type 0 = λ k. Allowed (state_of k.history) (entry.Step c.args.client word.Check c.args.object None answer.Ok) in
    let allowed = subst A (sym c.self.view_is) c.requires.allowed in
    let L : Kept → Type 0 = λ k. is_live_object (object_with (state_of k.history) c.args.object) ≡ true in
    let live = live_object _ c.in-Some.x there (subst L (sym c.self.view_is) c.requires.live) in
    let N : Kept → Type 0 = λ k. out_of k c.args.client ≡ None in
    let none = subst N (sym c.self.view_is) c.requires.none in
    let low = (standing_at c.self.inside.log.history c.args.object c.in-Some.x c.self.invariant.tied.legal there (live_stands c.in-Some.x.phase live)).low in
    let used : c.uses_at-uses.result ≡ uses_in c.self.inside.log.history c.in-Some.x =
    c.uses_at-uses.ensures ∙ ap (λ v. unwrap_or (slice_get c.self.inside.uses v) no_ids) c.seat_place-place.ensures ∙ stored_is c.self.inside.log.history c.self.inside.uses c.in-Some.x low c.self.invariant.stored in
    let now : c.set_out.new.outs ≡ at_place c.self.inside.outs c.args.client (put_out (Some (out_in c.self.inside.log.history c.in-Some.x))) =
    c.set_out.ensures ∙ ap (λ v. at_place c.self.inside.outs c.args.client (put_out (Some v))) (c.out_for.ensures ∙ ap (λ u. out_for u c.in-Some.x) used) in
    let k' : Kept = record { history = c.note.new.self.history; spares = c.self.inside.spares; outs = c.set_out.new.outs; kills = c.self.inside.kills } in
    let held = held_slot tell c.self.inside.log _ c.self.inside.pools c.self.inside.held c.self.invariant.tied c.in-Some.x c.args.object there live (Some c.in-Some-take.deed) (sym c.in-Some-take.is ∙ c.take.ensures.deed ∙ ap (λ v. slot_of (slice_get c.self.inside.held v)) c.seat_place-place.ensures) in
    let R : Kept → Type 0 = λ k. HandsPlanted k k' (entry.Step c.args.client word.Check c.args.object None answer.Ok) c.args.client c.args.object (tell c.in-Some-take.deed) in
    subst R c.self.view_is
    (record {
      item = c.in-Some.x;
      there = there;
      live = live;
      notes = record { history = c.note.ensures.history; spares = refl; outs = now; kills = refl };
      in_hand = in_hand c.self.inside.outs c.set_out.new.outs c.args.client (out_in c.self.inside.log.history c.in-Some.x) allowed.0 c.self.invariant.tied.outs_size now;
      deed = deed_for tell c.self.inside.log _ c.self.inside.pools c.self.inside.held c.self.invariant.tied c.in-Some.x c.args.object there live (entry.Step c.args.client word.Check c.args.object None answer.Ok) allowed tt c.note.new.self c.note.ensures.history c.in-Some-take.deed held;
    })
