use Rattle.std.proofs.Common.{◌∙◌, ap, arith, refl, sym, subst}
use Rattle.uv_machine.specs.declared.entry.Entry.TheVariants as entry
use Rattle.uv_machine.specs.Histories.{IsLegal, state_of}
use Rattle.uv_machine.specs.States.{newest_free}
use Rattle.uv_graph.specs.Kept.{Kept}
use Rattle.uv_graph.specs.Owns.{own_of}
use Rattle.uv_world.specs.Celled.{value_of_slot}
use Rattle.uv_world.specs.declared.tearing.Turn.TheVariants as turn
use Rattle.uv_world.specs.Fitting.{StageFits}
use Rattle.uv_world.specs.Holdings.{held_of}
use Rattle.uv_world.specs.Owing.{MoveFits}
use Rattle.uv_world.specs.Seating.{AreSeated, stage_of}
use Rattle.uv_world.specs.Tearing.{object_doomed}
use Rattle.uv_world.proofs.Seating.{call_same, none_killed}
use Rattle.uv_world.proofs.Staying.{fits_swept}
use Rattle.uv_world.proofs.Torn.{ahead_fits, done_turned, kill_object, kill_turned, killed_id, killed_lies, seated_done, seated_killed, turn_kept, waits_turned}
use Rattle.uv_world.proofs.world.World.sweep.Goals as goal

pub sweep-requires : goal.sweep-requires
sweep-requires c =
    let old = c.args.self.now in
    record { tearing = c.requires.tears; none = none_killed (own_of old.core c.args.tearer) (value_of_slot old.doomed c.args.tearer) c.requires.rest.doomed_none (c.requires.world.seated.seats c.args.tearer).doomed_is }

pub doom-requires-clause-fits : goal.doom-requires-clause-fits
doom-requires-clause-fits c =
    let m = state_of c.args.self.now.core.history in
    subst MoveFits (sym c.kill_ahead-step.ensures) (ahead_fits m (newest_free m c.args.file))

pub returns-in-Kill-clause-stage : goal.returns-in-Kill-clause-stage
returns-in-Kill-clause-stage c =
    let old = c.args.self.now in
    let g = c.in-Kill.ensures.gives in
    kill_turned (stage_of old) c.args.tearer c.args.file c.in-Kill.object c.in-Kill.kind c.in-Kill.handle g.hands.item _ _ c.kill_ahead-step.result g.quiet g.newest
    (killed_id old.core c.sweep.new.self c.args.tearer c.in-Kill.object _ _ g.hands) g.of_kind g.handle_is
    (ap (λ (k : Kept). k.history) c.doom.ensures.core ∙ g.hands.notes.history) c.doom.ensures.held c.kill_ahead-step.ensures

pub returns-in-Kill-clause-spares : goal.returns-in-Kill-clause-spares
returns-in-Kill-clause-spares c = ap (λ (k : Kept). k.spares) c.doom.ensures.core ∙ c.in-Kill.ensures.gives.hands.notes.spares

pub returns-in-Kill-clause-others : goal.returns-in-Kill-clause-others
returns-in-Kill-clause-others c = λ b ne. ap (λ (k : Kept). own_of k b) c.doom.ensures.core ∙ c.sweep.ensures.others b ne

pub returns-in-Kill-clause-world : goal.returns-in-Kill-clause-world
returns-in-Kill-clause-world c =
    let old = c.args.self.now in
    let a = c.args.tearer in
    let g = c.in-Kill.ensures.gives in
    let k = c.sweep.new.self in
    let P : Kept → Type 0 = λ v. AreSeated v c.doom.new.self.retired c.doom.new.self.doomed in
    let Q : _ → Type 0 = λ v. AreSeated k v c.doom.new.self.doomed in
    let L : Kept → Type 0 = λ v. IsLegal v.history in
    record {
      seated =
          subst P (sym c.doom.ensures.core) (subst Q (sym c.doom.ensures.retired)
          (seated_killed a c.args.file c.in-Kill.object old.core k old.retired old.doomed c.doom.new.self.doomed c.in-Kill.deed c.requires.world.seated c.requires.rest c.requires.actor c.sweep.ensures.legal c.sweep.ensures.others g.hands.notes.outs
          (call_same old.core.history k.history (entry.Kill c.in-Kill.object) a g.hands.notes.history refl ∙ c.requires.rest.call) c.in-Kill.ensures.leads
          (kill_object old.core k a c.in-Kill.object _ _ _ g.hands c.in-Kill.ensures.leads.out_is) c.doom.ensures.doomed));
      housed = c.doom.ensures.housed;
      fits =
          fits_swept c.fitting_goes_on.ensures (stage_of old) (stage_of c.doom.new.self) a c.args.file _
          (kill_turned (stage_of old) a c.args.file c.in-Kill.object c.in-Kill.kind c.in-Kill.handle g.hands.item _ _ c.kill_ahead-step.result g.quiet g.newest (killed_id old.core k a c.in-Kill.object _ _ g.hands) g.of_kind g.handle_is
          (ap (λ (v : Kept). v.history) c.doom.ensures.core ∙ g.hands.notes.history) c.doom.ensures.held c.kill_ahead-step.ensures)
          (subst L (sym c.doom.ensures.core) c.sweep.ensures.legal) c.requires.world.fits;
    }

pub returns-in-Kill-clause-leads : goal.returns-in-Kill-clause-leads
returns-in-Kill-clause-leads c = ap (λ (k : Kept). (own_of k c.args.tearer).tear) c.doom.ensures.core ∙ c.in-Kill.ensures.leads.tearing

pub returns-in-Done-clause-leads : goal.returns-in-Done-clause-leads
returns-in-Done-clause-leads c = c.in-Done.ensures.leads

pub returns-in-NotYet-clause-leads : goal.returns-in-NotYet-clause-leads
returns-in-NotYet-clause-leads c = c.in-NotYet.ensures.leads.tearing

pub returns-in-Kill-clause-doomed : goal.returns-in-Kill-clause-doomed
returns-in-Kill-clause-doomed c =
    let old = c.args.self.now in
    killed_lies c.args.tearer c.in-Kill.object old.doomed c.doom.new.self.doomed c.in-Kill.deed (omega (arith, c.requires.world.seated.doomed_size, c.requires.actor.1)) c.doom.ensures.doomed

pub returns-in-Done-clause-doomed : goal.returns-in-Done-clause-doomed
returns-in-Done-clause-doomed c = ap object_doomed c.requires.rest.doomed_none

pub returns-in-NotYet-clause-doomed : goal.returns-in-NotYet-clause-doomed
returns-in-NotYet-clause-doomed c = ap object_doomed c.requires.rest.doomed_none

pub returns-in-Done-clause-stage : goal.returns-in-Done-clause-stage
returns-in-Done-clause-stage c =
    let g = c.in-Done.ensures.gives in
    done_turned (stage_of c.args.self.now) c.args.tearer c.args.file c.sweep.new.self.history g.quiet g.nothing g.notes.history

pub returns-in-Done-clause-spares : goal.returns-in-Done-clause-spares
returns-in-Done-clause-spares c = c.in-Done.ensures.gives.notes.spares

pub returns-in-Done-clause-world : goal.returns-in-Done-clause-world
returns-in-Done-clause-world c =
    let old = c.args.self.now in
    let g = c.in-Done.ensures.gives in
    record {
      seated = seated_done c.args.tearer c.args.file old.core c.sweep.new.self old.retired old.doomed c.requires.world.seated c.requires.rest c.sweep.ensures.legal c.sweep.ensures.others c.in-Done.ensures.gives.notes;
      housed = c.requires.world.housed;
      fits =
          fits_swept c.fitting_goes_on.ensures (stage_of old) (stage_of (record old { core = c.sweep.new.self })) c.args.tearer c.args.file turn.Done
          (done_turned (stage_of old) c.args.tearer c.args.file c.sweep.new.self.history g.quiet g.nothing g.notes.history) c.sweep.ensures.legal c.requires.world.fits;
    }

pub returns-in-NotYet-clause-stage : goal.returns-in-NotYet-clause-stage
returns-in-NotYet-clause-stage c =
    let old = c.args.self.now in
    let g = c.in-NotYet.ensures.gives in
    turn_kept old c.sweep.new.self c.in-NotYet.calls g.same ∙ waits_turned (stage_of old) c.args.tearer c.args.file c.in-NotYet.calls g.some g.calls

pub returns-in-NotYet-clause-spares : goal.returns-in-NotYet-clause-spares
returns-in-NotYet-clause-spares c = ap (λ (k : Kept). k.spares) c.in-NotYet.ensures.gives.same

pub returns-in-NotYet-clause-world : goal.returns-in-NotYet-clause-world
returns-in-NotYet-clause-world c =
    let old = c.args.self.now in
    let P : Kept → Type 0 = λ k. AreSeated k old.retired old.doomed in
    let F : Kept → Type 0 = λ k. StageFits (record { history = k.history; held = held_of old.contents }) in
    record {
      seated = subst P (sym c.in-NotYet.ensures.gives.same) c.requires.world.seated;
      housed = c.requires.world.housed;
      fits = subst F (sym c.in-NotYet.ensures.gives.same) c.requires.world.fits;
    }
