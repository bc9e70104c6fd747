use Rattle.std.proofs.Common.{◌≡◌, ◌∙◌, ℕ, ap, arith, inl, inr, refl, subst, sym}
use Rattle.uv_num.specs.declared.limits.TheConstants.{DRIVER, FILES}
use Rattle.uv_machine.specs.declared.entry.Entry.TheVariants.{Tear}
use Rattle.uv_machine.specs.Histories.{state_of}
use Rattle.uv_graph.specs.Conditions.{Pulls}
use Rattle.uv_graph.specs.Owns.{TearsNone, own_of}
use Rattle.uv_core.specs.Beside.{OthersKeep}
use Rattle.uv_world.specs.Celled.{value_of_slot}
use Rattle.uv_world.specs.Seating.{IsAtRest, stage_of}
use Rattle.uv_world.specs.Tearing.{object_doomed, stage_torn}
use Rattle.uv_run.specs.declared.flight.Teardown.TheVariants.{Unplugging}
use Rattle.uv_run.specs.declared.heard.Heard.{Heard}
use Rattle.uv_run.specs.Progress.{IsStuck}
use Rattle.uv_run.specs.Site.{Turned, removal_turn, tear_turn}
use Rattle.uv_run.specs.Sound.{site_of}
use Rattle.uv_run.proofs.Beginnings.{at_rest}
use Rattle.uv_run.proofs.Lowering.{entry_lowers}
use Rattle.uv_run.proofs.Removing.{ahead_is, not_refused, torn_open, waited_other, waited_tears}
use Rattle.uv_run.proofs.Sites.{still_site, still_turned, torn_turned}
use Rattle.uv_run.proofs.Sounds.{more_of}
use Rattle.uv_run.proofs.TearSounds.{still_moved, suits_some, tear_moved}
use Rattle.uv_run.proofs.flights.Flights.remove_from.Goals as goal

pub tear-requires-clause-device : goal.tear-requires-clause-device
tear-requires-clause-device c = (suits_some c.args.self.now c.args.actor (Unplugging c.args.device) c.requires.sound c.requires.teardown).1

pub tear-requires-clause-file : goal.tear-requires-clause-file
tear-requires-clause-file c = (ahead_is FILES (state_of c.args.self.now.world.core.history) c.args.device c.args.file c.requires.ahead).0

pub tear-requires-clause-pulled : goal.tear-requires-clause-pulled
tear-requires-clause-pulled c =
    let suits = suits_some c.args.self.now c.args.actor (Unplugging c.args.device) c.requires.sound c.requires.teardown in
    let P : ℕ → Type 0 = λ v. Pulls (own_of c.args.self.now.world.core v) c.args.device in
    subst P suits.0 suits.2

pub tear-requires-clause-none : goal.tear-requires-clause-none
tear-requires-clause-none c =
    let suits = suits_some c.args.self.now c.args.actor (Unplugging c.args.device) c.requires.sound c.requires.teardown in
    let P : ℕ → Type 0 = λ v. TearsNone (own_of c.args.self.now.world.core v) in
    subst P suits.0 c.requires.none

pub tear-requires-clause-rest : goal.tear-requires-clause-rest
tear-requires-clause-rest c =
    let old = c.args.self.now in
    let suits = suits_some old c.args.actor (Unplugging c.args.device) c.requires.sound c.requires.teardown in
    let P : ℕ → Type 0 = λ v. IsAtRest old.world.core old.world.doomed v in
    subst P suits.0 (at_rest old.world c.args.actor c.requires.sound.world c.requires.call c.requires.none)

pub unreachable-requires : goal.unreachable-requires
unreachable-requires c = not_refused (state_of c.args.self.now.world.core.history) c.args.device c.args.file _ c.requires.ahead (sym c.tear.ensures.answer ∙ c.in-Refused.is)

pub returns-in-Began-clause-turned : goal.returns-in-Began-clause-turned
returns-in-Began-clause-turned c =
    let old = c.args.self.now in
    let suits = suits_some old c.args.actor (Unplugging c.args.device) c.requires.sound c.requires.teardown in
    let P : ℕ → Type 0 = λ v. (let t : Turned = record { site = site_of (record old { world = c.tear.new.self }); heard = c.goes_on.result } in t) ≡ tear_turn (site_of old) v c.args.file in
    subst P (sym suits.0) (torn_turned c.args.actor c.args.file DRIVER old c.tear.new.self c.goes_on.result (c.tear.ensures.stage ∙ ap (stage_torn (stage_of old.world) c.args.file DRIVER) c.in-Began.is) c.goes_on.ensures)
    ∙ sym (ap (removal_turn (site_of old) c.args.actor c.args.file) (torn_open (state_of old.world.core.history) c.args.device c.args.file (sym c.tear.ensures.answer ∙ c.in-Began.is)))

pub returns-in-Began-clause-progress : goal.returns-in-Began-clause-progress
returns-in-Began-clause-progress c =
    let old = c.args.self.now in
    let e = Tear c.args.file DRIVER in
    inl (entry_lowers old (record old { world = c.tear.new.self }) e c.tear.ensures.world.seated.legal (more_of old.world c.tear.new.self e (c.tear.ensures.stage ∙ ap (stage_torn (stage_of old.world) c.args.file DRIVER) c.in-Began.is)) refl (omega arith))

pub returns-in-Began-clause-moved : goal.returns-in-Began-clause-moved
returns-in-Began-clause-moved c =
    let old = c.args.self.now in
    let P : ℕ → Type 0 = λ v. OthersKeep v old.world.core c.tear.new.self.core in
    let suits = suits_some old c.args.actor (Unplugging c.args.device) c.requires.sound c.requires.teardown in
    tear_moved c.args.actor c.args.file DRIVER old c.tear.new.self (Unplugging c.args.device) c.requires.sound c.requires.teardown c.tear.ensures.world
    (c.tear.ensures.stage ∙ ap (stage_torn (stage_of old.world) c.args.file DRIVER) c.in-Began.is) c.tear.ensures.spares (subst P (sym suits.0) c.tear.ensures.others) c.tear.ensures.doomed tt

pub returns-in-NotYet-clause-turned : goal.returns-in-NotYet-clause-turned
returns-in-NotYet-clause-turned c =
    let old = c.args.self.now in
    still_turned old c.tear.new.self _ _ (c.tear.ensures.stage ∙ ap (stage_torn (stage_of old.world) c.args.file DRIVER) c.in-NotYet.is) c.goes_on-in-NotYet.ensures
    ∙ sym (ap (removal_turn (site_of old) c.args.actor c.args.file) (waited_tears (state_of old.world.core.history) c.args.device c.args.file c.in-NotYet.by (sym c.tear.ensures.answer ∙ c.in-NotYet.is)))

pub returns-in-NotYet-clause-progress : goal.returns-in-NotYet-clause-progress
returns-in-NotYet-clause-progress c =
    let old = c.args.self.now in
    let P : Heard → Type 0 = λ v. IsStuck (site_of old) c.args.actor v.event in
    let torn = waited_tears (state_of old.world.core.history) c.args.device c.args.file c.in-NotYet.by (sym c.tear.ensures.answer ∙ c.in-NotYet.is) in
    inr (
      still_site old c.tear.new.self (c.tear.ensures.stage ∙ ap (stage_torn (stage_of old.world) c.args.file DRIVER) c.in-NotYet.is),
      subst P (sym c.goes_on-in-NotYet.ensures) record { call = c.requires.call; none = c.requires.none; torn = torn; other = waited_other (state_of old.world.core.history) c.args.actor c.args.file c.in-NotYet.by c.requires.none torn },
    )

pub returns-in-NotYet-clause-moved : goal.returns-in-NotYet-clause-moved
returns-in-NotYet-clause-moved c =
    let old = c.args.self.now in
    let P : ℕ → Type 0 = λ v. OthersKeep v old.world.core c.tear.new.self.core in
    let suits = suits_some old c.args.actor (Unplugging c.args.device) c.requires.sound c.requires.teardown in
    still_moved c.args.actor old c.tear.new.self c.requires.sound c.tear.ensures.world (c.tear.ensures.stage ∙ ap (stage_torn (stage_of old.world) c.args.file DRIVER) c.in-NotYet.is) c.tear.ensures.spares
    (subst P (sym suits.0) c.tear.ensures.others) (ap (λ v. object_doomed (value_of_slot v c.args.actor)) c.tear.ensures.doomed)
