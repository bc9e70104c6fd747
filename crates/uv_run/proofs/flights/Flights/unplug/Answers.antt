use Rattle.std.proofs.Common.{◌∙◌, ℕ, ap, subst, sym}
use Rattle.uv_core.specs.Beside.{OthersKeep}
use Rattle.uv_world.specs.Celled.{value_of_slot}
use Rattle.uv_world.specs.Seating.{IsAtRest, stage_of}
use Rattle.uv_world.specs.Tearing.{object_doomed, stage_unplugged}
use Rattle.uv_run.proofs.Beginnings.{idle_rests, pull_again, pull_first, unplug_again, unplug_first, unplug_moved}
use Rattle.uv_run.proofs.TearSounds.{still_moved}
use Rattle.uv_run.proofs.flights.Flights.unplug.Goals as goal

pub unplug-requires-clause-rest : goal.unplug-requires-clause-rest
unplug-requires-clause-rest c =
    let old = c.args.self.now in
    let P : ℕ → Type 0 = λ v. IsAtRest old.world.core old.world.doomed v in
    subst P c.requires.driver (idle_rests old c.args.actor c.requires.sound c.requires.free)

pub returns-in-Ok-clause-unplugs : goal.returns-in-Ok-clause-unplugs
returns-in-Ok-clause-unplugs c =
    let old = c.args.self.now in
    unplug_first c.args.actor c.args.device old c.unplug.new.self c.change_at.new.items _ (pull_first _ _ (sym c.unplug.ensures.answer ∙ c.in-Ok.is))
    (c.unplug.ensures.stage ∙ ap (stage_unplugged (stage_of old.world) c.args.device) c.in-Ok.is) c.change_at.ensures c.goes_on.ensures

pub returns-in-Ok-clause-moved : goal.returns-in-Ok-clause-moved
returns-in-Ok-clause-moved c =
    let old = c.args.self.now in
    let P : ℕ → Type 0 = λ v. OthersKeep v old.world.core c.unplug.new.self.core in
    unplug_moved c.args.actor c.args.device old c.unplug.new.self c.change_at.new.items c.requires.sound c.requires.driver c.requires.device (pull_first _ _ (sym c.unplug.ensures.answer ∙ c.in-Ok.is)) c.unplug.ensures.world
    (c.unplug.ensures.stage ∙ ap (stage_unplugged (stage_of old.world) c.args.device) c.in-Ok.is) c.unplug.ensures.spares (subst P (sym c.requires.driver) c.unplug.ensures.others) c.unplug.ensures.doomed c.change_at.ensures

pub returns-in-Err-clause-unplugs : goal.returns-in-Err-clause-unplugs
returns-in-Err-clause-unplugs c =
    let old = c.args.self.now in
    let was = pull_again _ _ (sym c.unplug.ensures.answer ∙ c.in-Err.is) in
    unplug_again c.args.actor c.args.device c.in-Err.errno old c.unplug.new.self _ was.0 was.1 (c.unplug.ensures.stage ∙ ap (stage_unplugged (stage_of old.world) c.args.device) c.in-Err.is) c.ends_with.ensures

pub returns-in-Err-clause-moved : goal.returns-in-Err-clause-moved
returns-in-Err-clause-moved c =
    let old = c.args.self.now in
    let P : ℕ → Type 0 = λ v. OthersKeep v old.world.core c.unplug.new.self.core in
    still_moved c.args.actor old c.unplug.new.self c.requires.sound c.unplug.ensures.world (c.unplug.ensures.stage ∙ ap (stage_unplugged (stage_of old.world) c.args.device) c.in-Err.is) c.unplug.ensures.spares
    (subst P (sym c.requires.driver) c.unplug.ensures.others) (ap (λ v. object_doomed (value_of_slot v c.args.actor)) c.unplug.ensures.doomed)
