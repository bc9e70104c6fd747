use Rattle.std.proofs.Common.{◌≡◌, ◌∙◌, ap, inl, inr, refl, subst, sym}
use Rattle.uv_machine.specs.declared.entry.Entry.TheVariants.{Kill}
use Rattle.uv_graph.specs.Owns.{own_of}
use Rattle.uv_graph.specs.Turns.{last_entry}
use Rattle.uv_world.specs.declared.world.World.{World}
use Rattle.uv_world.specs.Seating.{IsWorld, stage_of}
use Rattle.uv_world.specs.Tearing.{object_doomed, object_killed}
use Rattle.uv_run.specs.declared.flights.Flights.{Flights}
use Rattle.uv_run.specs.declared.heard.Heard.{Heard}
use Rattle.uv_run.specs.Progress.{IsStuck}
use Rattle.uv_run.specs.Sound.{site_of}
use Rattle.uv_run.proofs.Lowering.{entry_lowers}
use Rattle.uv_run.proofs.Sites.{still_site}
use Rattle.uv_run.proofs.Sounds.{doomed_none, more_of, moved_then, object_kept}
use Rattle.uv_run.proofs.Sweeps.{done_turned, kept_fewer, kill_of, kill_turned, not_turned, swept_at, swept_out}
use Rattle.uv_run.proofs.TearSounds.{actor_is, done_moved, kill_moved, last_free, still_moved}
use Rattle.uv_run.proofs.TearTurns.{swept_done, swept_kill, swept_not}
use Rattle.uv_run.proofs.flights.Flights.sweep_on.Goals as goal

pub sweep-requires-clause-actor : goal.sweep-requires-clause-actor
sweep-requires-clause-actor c = actor_is c.args.actor c.args.self.now c.args.teardown c.requires.sound c.requires.teardown

pub sweep-requires-clause-rest : goal.sweep-requires-clause-rest
sweep-requires-clause-rest c = record { call = c.requires.call; doomed_none = doomed_none c.args.self.now c.args.actor c.requires.sound c.requires.none }

pub end-requires-clause-none : goal.end-requires-clause-none
end-requires-clause-none c = swept_out c.args.actor c.args.file (own_of c.sweep.new.self.core c.args.actor) c.sweep.result c.sweep.ensures.leads c.in-Done.is

pub end-requires-clause-sound : goal.end-requires-clause-sound
end-requires-clause-sound c =
    let old = c.args.self.now in
    let d = swept_done (stage_of old.world) (stage_of c.sweep.new.self) c.args.actor c.args.file (swept_at (stage_of old.world) (stage_of c.sweep.new.self) c.args.actor c.args.file c.sweep.result _ c.sweep.ensures.stage c.in-Done.is) in
    (done_moved c.args.actor c.args.file old c.sweep.new.self c.args.teardown c.requires.sound c.requires.teardown c.sweep.ensures.world d.stage c.sweep.ensures.spares c.sweep.ensures.others
    (c.sweep.ensures.doomed ∙ (ap object_killed c.in-Done.is ∙ sym (ap object_kept c.requires.none)))
    (swept_out c.args.actor c.args.file (own_of c.sweep.new.self.core c.args.actor) c.sweep.result c.sweep.ensures.leads c.in-Done.is)).sound

pub returns-in-Done-clause-turned : goal.returns-in-Done-clause-turned
returns-in-Done-clause-turned c =
    let old = c.args.self.now in
    let d = swept_done (stage_of old.world) (stage_of c.sweep.new.self) c.args.actor c.args.file (swept_at (stage_of old.world) (stage_of c.sweep.new.self) c.args.actor c.args.file c.sweep.result _ c.sweep.ensures.stage c.in-Done.is) in
    c.end.ensures.turned ∙ done_turned old c.sweep.new.self c.args.actor c.args.file c.args.teardown c.requires.sound c.requires.teardown d

pub returns-in-Done-clause-moved : goal.returns-in-Done-clause-moved
returns-in-Done-clause-moved c =
    let old = c.args.self.now in
    let d = swept_done (stage_of old.world) (stage_of c.sweep.new.self) c.args.actor c.args.file (swept_at (stage_of old.world) (stage_of c.sweep.new.self) c.args.actor c.args.file c.sweep.result _ c.sweep.ensures.stage c.in-Done.is) in
    moved_then c.args.actor old (record old { world = c.sweep.new.self }) c.end.new.self
    (done_moved c.args.actor c.args.file old c.sweep.new.self c.args.teardown c.requires.sound c.requires.teardown c.sweep.ensures.world d.stage c.sweep.ensures.spares c.sweep.ensures.others
    (c.sweep.ensures.doomed ∙ (ap object_killed c.in-Done.is ∙ sym (ap object_kept c.requires.none)))
    (swept_out c.args.actor c.args.file (own_of c.sweep.new.self.core c.args.actor) c.sweep.result c.sweep.ensures.leads c.in-Done.is)) c.end.ensures.moved

pub returns-in-Done-clause-progress : goal.returns-in-Done-clause-progress
returns-in-Done-clause-progress c =
    let old = c.args.self.now in
    let new = c.end.new.self in
    let d = swept_done (stage_of old.world) (stage_of c.sweep.new.self) c.args.actor c.args.file (swept_at (stage_of old.world) (stage_of c.sweep.new.self) c.args.actor c.args.file c.sweep.result _ c.sweep.ensures.stage c.in-Done.is) in
    let P : World → Type 0 = λ v. IsWorld v in
    let world = subst P (sym c.end.ensures.world) c.sweep.ensures.world in
    inl (entry_lowers old new (last_entry c.args.actor c.args.file) world.seated.legal (more_of old.world new.world (last_entry c.args.actor c.args.file) (ap stage_of c.end.ensures.world ∙ d.stage)) (last_free c.args.actor c.args.file) c.end.ensures.fewer)

pub returns-in-Killed-clause-turned : goal.returns-in-Killed-clause-turned
returns-in-Killed-clause-turned c =
    let old = c.args.self.now in
    let k = swept_kill (stage_of old.world) (stage_of c.sweep.new.self) c.args.actor c.args.file c.in-Killed.object c.in-Killed.kind c.in-Killed.handle
    (swept_at (stage_of old.world) (stage_of c.sweep.new.self) c.args.actor c.args.file c.sweep.result _ c.sweep.ensures.stage c.in-Killed.is)
    in
    kill_turned old c.sweep.new.self c.kill.new.self c.args.actor c.args.file c.args.teardown c.in-Killed.object c.in-Killed.kind c.in-Killed.handle _ k c.kill.ensures.kept c.kill.ensures.heard

pub returns-in-Killed-clause-progress : goal.returns-in-Killed-clause-progress
returns-in-Killed-clause-progress c =
    let old = c.args.self.now in
    let k = swept_kill (stage_of old.world) (stage_of c.sweep.new.self) c.args.actor c.args.file c.in-Killed.object c.in-Killed.kind c.in-Killed.handle
    (swept_at (stage_of old.world) (stage_of c.sweep.new.self) c.args.actor c.args.file c.sweep.result _ c.sweep.ensures.stage c.in-Killed.is)
    in
    let new = c.kill.new.self in
    let same : new.world ≡ c.sweep.new.self = ap (λ (w : Flights). w.world) c.kill.ensures.kept in
    let world : IsWorld new.world = subst IsWorld (sym same) c.sweep.ensures.world in
    inl (entry_lowers old new (Kill k.item.id) world.seated.legal (more_of old.world new.world (Kill k.item.id) (ap stage_of same ∙ k.stage)) refl (kept_fewer old new (ap (λ (w : Flights). w.teardowns) c.kill.ensures.kept)))

pub returns-in-Killed-clause-moved : goal.returns-in-Killed-clause-moved
returns-in-Killed-clause-moved c =
    let old = c.args.self.now in
    let k = swept_kill (stage_of old.world) (stage_of c.sweep.new.self) c.args.actor c.args.file c.in-Killed.object c.in-Killed.kind c.in-Killed.handle
    (swept_at (stage_of old.world) (stage_of c.sweep.new.self) c.args.actor c.args.file c.sweep.result _ c.sweep.ensures.stage c.in-Killed.is)
    in
    kill_moved c.args.actor k.item.id old c.sweep.new.self c.kill.new.self c.args.teardown (kill_of c.in-Killed.object c.args.file c.in-Killed.kind c.in-Killed.handle) c.requires.sound c.requires.teardown c.sweep.ensures.world k.stage c.sweep.ensures.spares
    c.sweep.ensures.others (c.sweep.ensures.doomed ∙ ap object_killed c.in-Killed.is) c.kill.ensures.kept

pub returns-in-NotYet-clause-turned : goal.returns-in-NotYet-clause-turned
returns-in-NotYet-clause-turned c =
    let old = c.args.self.now in
    let n = swept_not (stage_of old.world) (stage_of c.sweep.new.self) c.args.actor c.args.file c.in-NotYet.calls (swept_at (stage_of old.world) (stage_of c.sweep.new.self) c.args.actor c.args.file c.sweep.result _ c.sweep.ensures.stage c.in-NotYet.is) in
    not_turned old c.sweep.new.self c.args.actor c.args.file c.in-NotYet.calls c.args.teardown _ n c.goes_on.ensures

pub returns-in-NotYet-clause-progress : goal.returns-in-NotYet-clause-progress
returns-in-NotYet-clause-progress c =
    let old = c.args.self.now in
    let n = swept_not (stage_of old.world) (stage_of c.sweep.new.self) c.args.actor c.args.file c.in-NotYet.calls (swept_at (stage_of old.world) (stage_of c.sweep.new.self) c.args.actor c.args.file c.sweep.result _ c.sweep.ensures.stage c.in-NotYet.is) in
    let P : Heard → Type 0 = λ v. IsStuck (site_of old) c.args.actor v.event in
    inr (still_site old c.sweep.new.self n.stage, subst P (sym c.goes_on.ensures) record { call = c.requires.call; tears = c.requires.tears; calls = n.some })

pub returns-in-NotYet-clause-moved : goal.returns-in-NotYet-clause-moved
returns-in-NotYet-clause-moved c =
    let old = c.args.self.now in
    let n = swept_not (stage_of old.world) (stage_of c.sweep.new.self) c.args.actor c.args.file c.in-NotYet.calls (swept_at (stage_of old.world) (stage_of c.sweep.new.self) c.args.actor c.args.file c.sweep.result _ c.sweep.ensures.stage c.in-NotYet.is) in
    still_moved c.args.actor old c.sweep.new.self c.requires.sound c.sweep.ensures.world n.stage c.sweep.ensures.spares c.sweep.ensures.others
    (c.sweep.ensures.doomed ∙ (ap object_killed c.in-NotYet.is ∙ sym (ap object_doomed (doomed_none old c.args.actor c.requires.sound c.requires.none))))
