use Rattle.std.proofs.Common.{◌∙◌, ap, arith, inl, inr, refl, subst, sym}
use Rattle.uv_machine.specs.declared.entry.Entry.TheVariants.{Tear}
use Rattle.uv_machine.specs.Histories.{state_of}
use Rattle.uv_machine.specs.States.{phase_of}
use Rattle.uv_world.specs.Celled.{value_of_slot}
use Rattle.uv_world.specs.Seating.{stage_of}
use Rattle.uv_world.specs.Tearing.{object_doomed, stage_torn}
use Rattle.uv_run.specs.declared.flight.Teardown.TheVariants.{Closing}
use Rattle.uv_run.specs.declared.heard.Heard.{Heard}
use Rattle.uv_run.specs.Progress.{IsStuck}
use Rattle.uv_run.specs.Sound.{site_of}
use Rattle.uv_run.proofs.Beginnings.{at_rest}
use Rattle.uv_run.proofs.Lowering.{entry_lowers}
use Rattle.uv_run.proofs.Removing.{waited_other}
use Rattle.uv_run.proofs.Sites.{ended_turned, still_site, still_turned, torn_turned}
use Rattle.uv_run.proofs.Sounds.{more_of, moved_then}
use Rattle.uv_run.proofs.TearSounds.{ended_by, ended_lowers, ended_moved, history_same, still_moved, suits_some, tear_moved, tears_none}
use Rattle.uv_run.proofs.TearTurns.{close_began, close_refused, close_waited, close_waits, tear_only}
use Rattle.uv_run.proofs.flights.Flights.close.Goals as goal

pub close-requires-clause-actor : goal.close-requires-clause-actor
close-requires-clause-actor c = (suits_some c.args.self.now c.args.actor (Closing c.args.file) c.requires.sound c.requires.teardown).0

pub close-requires-clause-not_driver : goal.close-requires-clause-not_driver
close-requires-clause-not_driver c = (suits_some c.args.self.now c.args.actor (Closing c.args.file) c.requires.sound c.requires.teardown).1

pub close-requires-clause-file : goal.close-requires-clause-file
close-requires-clause-file c = (suits_some c.args.self.now c.args.actor (Closing c.args.file) c.requires.sound c.requires.teardown).2

pub close-requires-clause-rest : goal.close-requires-clause-rest
close-requires-clause-rest c = at_rest c.args.self.now.world c.args.actor c.requires.sound.world c.requires.call c.requires.none

pub returns-in-Began-clause-turned : goal.returns-in-Began-clause-turned
returns-in-Began-clause-turned c =
    let old = c.args.self.now in
    torn_turned c.args.actor c.args.file c.args.actor old c.close.new.self _ (c.close.ensures.stage ∙ ap (stage_torn (stage_of old.world) c.args.file c.args.actor) c.in-Began.is) c.goes_on.ensures
    ∙ sym (close_began (site_of old) c.args.actor c.args.file (phase_of (state_of old.world.core.history) c.args.file) (sym c.close.ensures.answer ∙ c.in-Began.is))

pub returns-in-Began-clause-progress : goal.returns-in-Began-clause-progress
returns-in-Began-clause-progress c =
    let old = c.args.self.now in
    let e = Tear c.args.file c.args.actor in
    inl (entry_lowers old (record old { world = c.close.new.self }) e c.close.ensures.world.seated.legal (more_of old.world c.close.new.self e (c.close.ensures.stage ∙ ap (stage_torn (stage_of old.world) c.args.file c.args.actor) c.in-Began.is)) refl (omega arith))

pub returns-in-Began-clause-moved : goal.returns-in-Began-clause-moved
returns-in-Began-clause-moved c =
    let old = c.args.self.now in
    tear_moved c.args.actor c.args.file c.args.actor old c.close.new.self (Closing c.args.file) c.requires.sound c.requires.teardown c.close.ensures.world
    (c.close.ensures.stage ∙ ap (stage_torn (stage_of old.world) c.args.file c.args.actor) c.in-Began.is) c.close.ensures.spares c.close.ensures.others c.close.ensures.doomed
    (tear_only (state_of old.world.core.history) c.args.actor c.args.file c.requires.none)

pub returns-in-NotYet-clause-turned : goal.returns-in-NotYet-clause-turned
returns-in-NotYet-clause-turned c =
    let old = c.args.self.now in
    still_turned old c.close.new.self _ _ (c.close.ensures.stage ∙ ap (stage_torn (stage_of old.world) c.args.file c.args.actor) c.in-NotYet.is) c.goes_on-in-NotYet.ensures
    ∙ sym (close_waits (site_of old) c.args.actor c.args.file c.in-NotYet.by (phase_of (state_of old.world.core.history) c.args.file) (sym c.close.ensures.answer ∙ c.in-NotYet.is))

pub returns-in-NotYet-clause-progress : goal.returns-in-NotYet-clause-progress
returns-in-NotYet-clause-progress c =
    let old = c.args.self.now in
    let P : Heard → Type 0 = λ v. IsStuck (site_of old) c.args.actor v.event in
    let torn = close_waited c.in-NotYet.by (phase_of (state_of old.world.core.history) c.args.file) (sym c.close.ensures.answer ∙ c.in-NotYet.is) in
    inr (
      still_site old c.close.new.self (c.close.ensures.stage ∙ ap (stage_torn (stage_of old.world) c.args.file c.args.actor) c.in-NotYet.is),
      subst P (sym c.goes_on-in-NotYet.ensures) record { call = c.requires.call; none = c.requires.none; torn = torn; other = waited_other (state_of old.world.core.history) c.args.actor c.args.file c.in-NotYet.by c.requires.none torn },
    )

pub returns-in-NotYet-clause-moved : goal.returns-in-NotYet-clause-moved
returns-in-NotYet-clause-moved c =
    let old = c.args.self.now in
    still_moved c.args.actor old c.close.new.self c.requires.sound c.close.ensures.world (c.close.ensures.stage ∙ ap (stage_torn (stage_of old.world) c.args.file c.args.actor) c.in-NotYet.is) c.close.ensures.spares c.close.ensures.others
    (ap (λ v. object_doomed (value_of_slot v c.args.actor)) c.close.ensures.doomed)

pub returns-in-Refused-clause-turned : goal.returns-in-Refused-clause-turned
returns-in-Refused-clause-turned c =
    let old = c.args.self.now in
    ended_turned c.args.actor old c.close.new.self c.end_teardown.new.self _ _ (c.close.ensures.stage ∙ ap (stage_torn (stage_of old.world) c.args.file c.args.actor) c.in-Refused.is) c.end_teardown.ensures c.ends_with.ensures
    ∙ sym (close_refused (site_of old) c.args.actor c.args.file _ (phase_of (state_of old.world.core.history) c.args.file) (sym c.close.ensures.answer ∙ c.in-Refused.is))

pub returns-in-Refused-clause-progress : goal.returns-in-Refused-clause-progress
returns-in-Refused-clause-progress c =
    let old = c.args.self.now in
    let mid = record old { world = c.close.new.self } in
    inl (ended_lowers c.args.actor old mid c.end_teardown.new.self (Closing c.args.file) (history_same old.world c.close.new.self (c.close.ensures.stage ∙ ap (stage_torn (stage_of old.world) c.args.file c.args.actor) c.in-Refused.is)) refl
    (ended_by c.args.actor mid c.end_teardown.new.self c.end_teardown.ensures) c.requires.teardown)

pub returns-in-Refused-clause-moved : goal.returns-in-Refused-clause-moved
returns-in-Refused-clause-moved c =
    let old = c.args.self.now in
    let mid = record old { world = c.close.new.self } in
    let stage = c.close.ensures.stage ∙ ap (stage_torn (stage_of old.world) c.args.file c.args.actor) c.in-Refused.is in
    let still = still_moved c.args.actor old c.close.new.self c.requires.sound c.close.ensures.world stage c.close.ensures.spares c.close.ensures.others (ap (λ v. object_doomed (value_of_slot v c.args.actor)) c.close.ensures.doomed) in
    moved_then c.args.actor old mid c.end_teardown.new.self still
    (ended_moved c.args.actor mid c.end_teardown.new.self still.sound (ended_by c.args.actor mid c.end_teardown.new.self c.end_teardown.ensures) (tears_none c.args.actor old.world c.close.new.self stage c.requires.none))
