use Rattle.std.proofs.Common.{◌≡◌, ◌∙◌, None, ap, subst, sym, refl, Some, arith, inl, inr, ⊎_elim}
use Rattle.std.proofs.lemmas.Option.{none-some, same_Some}
use Rattle.std.specs.Prelude.{slice_get}
use Rattle.uv_num.specs.Place.{at_place}
use Rattle.uv_machine.specs.declared.entry.Entry.TheVariants as entry
use Rattle.uv_machine.specs.declared.entry.Word.TheVariants as word
use Rattle.uv_machine.specs.declared.entry.Answer.TheVariants as answer
use Rattle.uv_machine.specs.States.{object_with}
use Rattle.uv_machine.specs.Histories.{Allowed, state_of}
use Rattle.uv_graph.specs.Hands.{HandsNew}
use Rattle.uv_graph.specs.Kept.{Kept, out_of, put_out}
use Rattle.uv_graph.specs.Slots.{next_deed, after_draw, put_uses}
use Rattle.uv_graph.proofs.Making.{made_there, made_is, drawn_some, drawn_for, make_tied, low_x, lives_x, lives_beside}
use Rattle.uv_graph.proofs.Knowing.{IsTold, named_out, stored_made, told_made}
use Rattle.uv_graph.proofs.Taking.{actor_place, in_hand}
use Rattle.uv_graph.proofs.Whole.{whole_by}
use Rattle.uv_graph.specs.declared.out.Out.{Out}
use Rattle.uv_graph.specs.Deeds.{out_for}
use Rattle.uv_graph.proofs.graph.Graph.make.Goals as goal

pub unreachable-requires : goal.unreachable-requires
unreachable-requires g c =
    let tell = g.D.Deed.facts in
    let A : Kept → Type 0 = λ k. Allowed (state_of k.history) (entry.Step c.args.client word.Make c.args.object None answer.Ok) in
    let allowed = subst A (sym c.self.view_is) c.requires.allowed in
    let N : Kept → Type 0 = λ k. out_of k c.args.client ≡ None in
    let none = subst N (sym c.self.view_is) c.requires.none in
    let k : Kept = record { history = c.self.inside.log.history; spares = c.self.inside.spares; outs = c.self.inside.outs; kills = c.self.inside.kills } in
    let there = made_there tell c.self.inside.log c.note.new.self k k c.self.inside.pools c.self.inside.pools c.self.inside.held c.self.invariant.tied c.args.client c.args.object allowed none c.note.ensures.history in
    none-some _ (sym (sym there ∙ sym (c.object_with-made.ensures ∙ ap (λ s. object_with s c.args.object) c.state.ensures) ∙ c.in-None.is))

pub unreachable-requires-in-None-draw : goal.unreachable-requires-in-None-draw
unreachable-requires-in-None-draw g c =
    let tell = g.D.Deed.facts in
    let A : Kept → Type 0 = λ k. Allowed (state_of k.history) (entry.Step c.args.client word.Make c.args.object None answer.Ok) in
    let allowed = subst A (sym c.self.view_is) c.requires.allowed in
    let N : Kept → Type 0 = λ k. out_of k c.args.client ≡ None in
    let none = subst N (sym c.self.view_is) c.requires.none in
    let k : Kept = record { history = c.self.inside.log.history; spares = c.self.inside.spares; outs = c.self.inside.outs; kills = c.self.inside.kills } in
    let k' : Kept = record { history = c.note.new.self.history; spares = c.self.inside.spares; outs = c.set_out.new.outs; kills = c.self.inside.kills } in
    let found : object_with (state_of c.note.new.self.history) c.args.object ≡ Some c.in-Some.x = sym (c.object_with-made.ensures ∙ ap (λ s. object_with s c.args.object) c.state.ensures) ∙ c.in-Some.is in
    let it = made_is tell c.self.inside.log c.note.new.self k k' c.self.inside.pools c.draw.new.pools c.self.inside.held c.self.invariant.tied c.args.client c.args.object allowed none c.note.ensures.history c.in-Some.x found in
    drawn_some tell c.self.inside.log c.note.new.self k k' c.self.inside.pools c.draw.new.pools c.self.inside.held c.self.invariant.tied c.args.client c.args.object allowed none c.note.ensures.history c.in-Some.x found it (sym (c.draw.ensures.deed ∙ ap (λ v. next_deed g.D.Deed.facts (slice_get c.self.inside.pools v)) c.place.ensures.place) ∙ c.in-None-draw.is)

pub invariant_of-self : goal.invariant_of-self
invariant_of-self g c =
    let tell = g.D.Deed.facts in
    let A : Kept → Type 0 = λ k. Allowed (state_of k.history) (entry.Step c.args.client word.Make c.args.object None answer.Ok) in
    let allowed = subst A (sym c.self.view_is) c.requires.allowed in
    let N : Kept → Type 0 = λ k. out_of k c.args.client ≡ None in
    let none = subst N (sym c.self.view_is) c.requires.none in
    let k : Kept = record { history = c.self.inside.log.history; spares = c.self.inside.spares; outs = c.self.inside.outs; kills = c.self.inside.kills } in
    let k' : Kept = record { history = c.note.new.self.history; spares = c.self.inside.spares; outs = c.set_out.new.outs; kills = c.self.inside.kills } in
    let found : object_with (state_of c.note.new.self.history) c.args.object ≡ Some c.in-Some.x = sym (c.object_with-made.ensures ∙ ap (λ s. object_with s c.args.object) c.state.ensures) ∙ c.in-Some.is in
    let it = made_is tell c.self.inside.log c.note.new.self k k' c.self.inside.pools c.draw.new.pools c.self.inside.held c.self.invariant.tied c.args.client c.args.object allowed none c.note.ensures.history c.in-Some.x found in
    let slot = actor_place c.args.client c.self.inside.outs allowed.0 c.self.invariant.tied.outs_size in
    let e = entry.Step c.args.client word.Make c.args.object None answer.Ok in
    let outs = c.set_out.ensures ∙ ap (λ v. at_place c.self.inside.outs c.args.client (put_out (Some v))) c.out_for.ensures in
    let low = low_x tell c.self.inside.log c.note.new.self k k' c.self.inside.pools c.draw.new.pools c.self.inside.held c.self.invariant.tied c.args.client c.args.object allowed none c.note.ensures.history c.in-Some.x found it in
    let begins = lives_x tell c.self.inside.log c.note.new.self k k' c.self.inside.pools c.draw.new.pools c.self.inside.held c.self.invariant.tied c.args.client c.args.object allowed none c.note.ensures.history c.in-Some.x found it in
    let others = lives_beside tell c.self.inside.log c.note.new.self k k' c.self.inside.pools c.draw.new.pools c.self.inside.held c.self.invariant.tied c.args.client c.args.object allowed none c.note.ensures.history c.in-Some.x found it in
    let puts = c.set_uses.ensures ∙ ap (λ v. at_place c.self.inside.uses v (put_uses c.in-Some.x.uses)) c.seat_place.ensures in
    let I : Out → Type 0 = λ v. IsTold v c.note.new.self.history in
    let told = told_made c.self.inside.log.history c.note.new.self.history c.self.inside.uses c.set_uses.new.uses c.in-Some.x low begins others puts c.self.invariant.stored in
    whole_by tell c.self.inside.log c.note.new.self k k' c.self.inside.pools c.draw.new.pools c.self.inside.held c.self.inside.held c.self.inside.uses c.self.invariant e allowed tt c.note.ensures.history
    (make_tied tell c.self.inside.log c.note.new.self k k' c.self.inside.pools c.draw.new.pools c.self.inside.held c.self.invariant.tied c.args.client c.args.object allowed none c.note.ensures.history c.in-Some.x found it (c.draw.ensures.pools ∙ ap (λ v. at_place c.self.inside.pools v (after_draw g.D.Deed.facts)) c.place.ensures.place) (c.set_out.ensures ∙ ap (λ v. at_place c.self.inside.outs c.args.client (put_out (Some v))) c.out_for.ensures) refl c.note.ensures.legal refl (omega (arith, c.self.invariant.tied.covered, c.note.ensures.spare)))
    c.set_uses.new.uses
    (stored_made c.self.inside.log.history c.note.new.self.history c.self.inside.uses c.set_uses.new.uses c.in-Some.x low begins others puts c.self.invariant.stored)
    (λ a out n. ⊎_elim (λ was. inl was) (λ is. inr (subst I (same_Some (out_for c.in-Some.x.uses c.in-Some.x) out is) told)) (named_out k k' c.args.client (Some (out_for c.in-Some.x.uses c.in-Some.x)) slot.item outs slot.is refl a out n))

pub returns-clause-hands : goal.returns-clause-hands
returns-clause-hands g c =
    let tell = g.D.Deed.facts in
    let A : Kept → Type 0 = λ k. Allowed (state_of k.history) (entry.Step c.args.client word.Make c.args.object None answer.Ok) in
    let allowed = subst A (sym c.self.view_is) c.requires.allowed in
    let N : Kept → Type 0 = λ k. out_of k c.args.client ≡ None in
    let none = subst N (sym c.self.view_is) c.requires.none in
    let k : Kept = record { history = c.self.inside.log.history; spares = c.self.inside.spares; outs = c.self.inside.outs; kills = c.self.inside.kills } in
    let k' : Kept = record { history = c.note.new.self.history; spares = c.self.inside.spares; outs = c.set_out.new.outs; kills = c.self.inside.kills } in
    let found : object_with (state_of c.note.new.self.history) c.args.object ≡ Some c.in-Some.x = sym (c.object_with-made.ensures ∙ ap (λ s. object_with s c.args.object) c.state.ensures) ∙ c.in-Some.is in
    let it = made_is tell c.self.inside.log c.note.new.self k k' c.self.inside.pools c.draw.new.pools c.self.inside.held c.self.invariant.tied c.args.client c.args.object allowed none c.note.ensures.history c.in-Some.x found in
    let R : Kept → Type 0 = λ v. HandsNew v k' (entry.Step c.args.client word.Make c.args.object None answer.Ok) c.args.client c.args.object (tell c.in-Some-draw.deed) in
    subst R c.self.view_is
    (record {
      item = c.in-Some.x;
      there = found;
      made = it.phase;
      call = it.call;
      is = it.is;
      identity = it.known;
      notes = record { history = c.note.ensures.history; spares = refl; outs = (c.set_out.ensures ∙ ap (λ v. at_place c.self.inside.outs c.args.client (put_out (Some v))) c.out_for.ensures); kills = refl };
      in_hand = in_hand c.self.inside.outs c.set_out.new.outs c.args.client (out_for c.in-Some.x.uses c.in-Some.x) allowed.0 c.self.invariant.tied.outs_size (c.set_out.ensures ∙ ap (λ v. at_place c.self.inside.outs c.args.client (put_out (Some v))) c.out_for.ensures);
      deed = drawn_for tell c.self.inside.log c.note.new.self k k' c.self.inside.pools c.draw.new.pools c.self.inside.held c.self.invariant.tied c.args.client c.args.object allowed none c.note.ensures.history c.in-Some.x found it c.in-Some-draw.deed (sym c.in-Some-draw.is ∙ c.draw.ensures.deed ∙ ap (λ v. next_deed g.D.Deed.facts (slice_get c.self.inside.pools v)) c.place.ensures.place);
    })
