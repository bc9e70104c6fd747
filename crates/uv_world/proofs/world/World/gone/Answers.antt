use Rattle.std.proofs.Common.{◌∙◌, ◌++◌, ◌∷◌, [], ap, refl, sym, subst}
use Rattle.uv_machine.specs.declared.entry.Entry.TheVariants as entry
use Rattle.uv_machine.specs.declared.moves.Move.{Move}
use Rattle.uv_machine.specs.Histories.{state_of}
use Rattle.uv_machine.specs.Moves.{entry_move}
use Rattle.uv_machine.specs.States.{call_of, object_with}
use Rattle.uv_graph.specs.Owns.{own_of}
use Rattle.uv_world.specs.Celled.{value_of_slot}
use Rattle.uv_world.specs.Holdings.{held_of}
use Rattle.uv_world.specs.Moving.{actions_in, held_in_slot, held_moved}
use Rattle.uv_machine.specs.declared.moves.Slot.TheVariants.{OfTeardown}
use Rattle.uv_world.specs.Seating.{stage_of}
use Rattle.uv_world.specs.Owing.{MoveFits}
use Rattle.uv_world.proofs.Ranged.{gone_fits}
use Rattle.uv_world.proofs.Seating.{call_same, slot_emptied}
use Rattle.uv_world.proofs.Starting.{stage_same}
use Rattle.uv_world.proofs.Staying.{fits_after}
use Rattle.uv_world.proofs.Torn.{doomed_by, doomed_idle, gone_object, releasing_is, seated_gone}
use Rattle.uv_world.proofs.world.World.gone.Goals as goal

pub gone-requires : goal.gone-requires
gone-requires c =
    let old = c.args.self.now in
    let o = own_of old.core c.args.tearer in
    releasing_is o c.args.file _ (doomed_by o (value_of_slot old.doomed c.args.tearer) _ (c.requires.world.seated.seats c.args.tearer).doomed_is (sym c.pick.ensures.taken ∙ c.in-Some.is)) c.requires.tears

pub carry-requires-clause-fits : goal.carry-requires-clause-fits
carry-requires-clause-fits c =
    let m = state_of c.args.self.now.core.history in
    subst MoveFits (sym c.entry_move-step.ensures) (gone_fits (object_with m c.in-Some.field-0.object))

pub returns-clause-stage : goal.returns-clause-stage
returns-clause-stage c =
    let old = c.args.self.now in
    let o = own_of old.core c.args.tearer in
    let r = c.gone.ensures.releases in
    let by = doomed_by o (value_of_slot old.doomed c.args.tearer) _ (c.requires.world.seated.seats c.args.tearer).doomed_is (sym c.pick.ensures.taken ∙ c.in-Some.is) in
    let object = gone_object old.core c.gone.new.self c.args.tearer c.kept-kept.result _ by r in
    stage_same _ _ _ _
    (r.notes.history ∙ (ap (λ v. old.core.history ++ entry.Gone v c.kept-kept.result ∷ []) (sym object) ∙ ap (λ v. old.core.history ++ entry.Gone c.in-Some.field-0.object v ∷ []) c.kept-kept.ensures))
    (c.carry.ensures.held ∙ (ap (λ (v : Move). held_moved (held_of old.contents) v) c.entry_move-step.ensures ∙ ap (λ v. held_moved (held_of old.contents) (entry_move (state_of old.core.history) (entry.Gone c.in-Some.field-0.object v))) c.kept-kept.ensures))

pub returns-clause-spares : goal.returns-clause-spares
returns-clause-spares c = c.gone.ensures.releases.notes.spares

pub returns-clause-none : goal.returns-clause-none
returns-clause-none c = ap (λ v. value_of_slot v c.args.tearer) c.pick.ensures.rest ∙ slot_emptied c.args.self.now.doomed c.args.tearer

pub returns-clause-world : goal.returns-clause-world
returns-clause-world c =
    let old = c.args.self.now in
    let a = c.args.tearer in
    let o = own_of old.core a in
    let r = c.gone.ensures.releases in
    let by = doomed_by o (value_of_slot old.doomed a) _ (c.requires.world.seated.seats a).doomed_is (sym c.pick.ensures.taken ∙ c.in-Some.is) in
    let object = gone_object old.core c.gone.new.self a c.kept-kept.result _ by r in
    let idle = doomed_idle a (call_of (state_of old.core.history) a) (value_of_slot old.doomed a) (c.requires.world.seated.seats a).call c.requires.doomed in
    record {
      seated =
          seated_gone a old.core c.gone.new.self old.retired old.doomed c.pick.new.slots c.requires.world.seated c.gone.ensures.legal c.gone.ensures.others r.notes.outs idle
          (call_same old.core.history c.gone.new.self.history (entry.Gone r.out.identity.id c.kept-kept.result) a r.notes.history refl ∙ idle) c.gone.ensures.leads.none c.pick.ensures.rest;
      housed = c.carry.ensures.housed;
      fits =
          fits_after c.fitting_goes_on.ensures (stage_of old) (stage_of (record old { core = c.gone.new.self; contents = c.carry.new.self })) (entry.Gone c.in-Some.field-0.object (actions_in (held_in_slot (held_of old.contents) (OfTeardown c.args.file))))
          (stage_same _ _ _ _
          (r.notes.history ∙ (ap (λ v. old.core.history ++ entry.Gone v c.kept-kept.result ∷ []) (sym object) ∙ ap (λ v. old.core.history ++ entry.Gone c.in-Some.field-0.object v ∷ []) c.kept-kept.ensures))
          (c.carry.ensures.held ∙ (ap (λ (v : Move). held_moved (held_of old.contents) v) c.entry_move-step.ensures ∙ ap (λ v. held_moved (held_of old.contents) (entry_move (state_of old.core.history) (entry.Gone c.in-Some.field-0.object v))) c.kept-kept.ensures))) c.gone.ensures.legal tt c.requires.world.fits;
    }
