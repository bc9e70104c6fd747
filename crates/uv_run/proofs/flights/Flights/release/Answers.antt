use Rattle.std.proofs.Common.{◌∙◌, ℕ, ap, arith, inl, refl}
use Rattle.uv_num.specs.Place.{at_place}
use Rattle.uv_machine.specs.declared.entry.Entry.TheVariants.{Gone}
use Rattle.uv_graph.specs.Slots.{put_slot}
use Rattle.uv_world.specs.Celled.{value_of_slot}
use Rattle.uv_world.specs.Seating.{stage_of}
use Rattle.uv_world.specs.Stages.{stage_then}
use Rattle.uv_run.specs.Site.{kept_of_file, with_entry, with_killed}
use Rattle.uv_run.specs.Sound.{site_of}
use Rattle.uv_run.proofs.Lowering.{entry_lowers}
use Rattle.uv_run.proofs.Sites.{site_same, turned_same}
use Rattle.uv_run.proofs.Sounds.{doomed_is, more_of, object_kept, some_doomed, same_object}
use Rattle.uv_run.proofs.TearSounds.{actor_is, release_moved}
use Rattle.uv_run.proofs.flights.Flights.release.Goals as goal

pub gone-object-requires-clause-actor : goal.gone-object-requires-clause-actor
gone-object-requires-clause-actor c = actor_is c.args.actor c.args.self.now c.args._teardown c.requires.sound c.requires.teardown

pub gone-object-requires-clause-doomed : goal.gone-object-requires-clause-doomed
gone-object-requires-clause-doomed c = some_doomed (value_of_slot c.args.self.now.world.doomed c.args.actor) c.args.x.object (doomed_is c.args.self.now c.args.actor c.requires.sound ∙ ap object_kept c.requires.killed)

pub returns-clause-turned : goal.returns-clause-turned
returns-clause-turned c =
    let old = c.args.self.now in
    let x = c.args.x in
    let kept = kept_of_file (site_of old) c.args.file in
    let same = same_object (value_of_slot old.world.doomed c.args.actor) c.gone-object.result x.object c.gone-object.ensures.object (doomed_is old c.args.actor c.requires.sound ∙ ap object_kept c.requires.killed) in
    turned_same (site_of (record old { world = c.gone-object.new.self; killed = c.change_at.new.items })) (with_killed (with_entry (site_of old) (Gone x.object kept)) c.args.actor _) _ _
    (site_same (stage_of c.gone-object.new.self) (stage_then (stage_of old.world) (Gone x.object kept)) old.teardowns old.teardowns c.change_at.new.items (at_place old.killed c.args.actor (put_slot _))
    (c.gone-object.ensures.stage ∙ ap (λ (v : ℕ). stage_then (stage_of old.world) (Gone v kept)) same) refl c.change_at.ensures)
    c.goes_on.ensures

pub returns-clause-progress : goal.returns-clause-progress
returns-clause-progress c =
    let old = c.args.self.now in
    let e = Gone c.gone-object.result (kept_of_file (site_of old) c.args.file) in
    inl (entry_lowers old (record old { world = c.gone-object.new.self; killed = c.change_at.new.items }) e c.gone-object.ensures.world.seated.legal (more_of old.world c.gone-object.new.self e c.gone-object.ensures.stage) refl (omega arith))

pub returns-clause-moved : goal.returns-clause-moved
returns-clause-moved c =
    let old = c.args.self.now in
    let g = c.gone-object.ensures in
    release_moved c.args.actor c.gone-object.result (kept_of_file (site_of old) c.args.file) old c.gone-object.new.self c.change_at.new.items c.args._teardown c.requires.sound c.requires.teardown g.world g.stage g.spares g.others g.none c.change_at.ensures
