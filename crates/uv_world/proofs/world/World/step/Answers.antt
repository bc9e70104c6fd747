use Rattle.std.proofs.Common.{◌∙◌, ap, sym, subst}
use Rattle.uv_machine.specs.Histories.{state_of}
use Rattle.uv_machine.specs.Moves.{entry_move}
use Rattle.uv_world.specs.Owing.{IsHoused, MoveFits}
use Rattle.uv_world.proofs.Ranged.{step_fits}
use Rattle.uv_world.proofs.Stepped.{range_is, stage_stepped}
use Rattle.uv_graph.specs.Turns.{step_entry}
use Rattle.uv_world.specs.Seating.{stage_of}
use Rattle.uv_world.proofs.Staying.{fits_after}
use Rattle.uv_world.proofs.world.World.step.Goals as goal

pub carry-requires-clause-housed : goal.carry-requires-clause-housed
carry-requires-clause-housed c = subst IsHoused (sym c.make_step.ensures.contents) c.requires.world.housed

pub carry-requires-clause-fits : goal.carry-requires-clause-fits
carry-requires-clause-fits c =
    let m = state_of c.args.self.now.core.history in
    let d = c.next_step-done.result in
    let range = range_is c.args.actor c.args.self.now.core c.args.call _ _ (c.requires.world.seated.seats c.args.actor) c.requires.call in
    subst MoveFits (sym (c.entry_move-step.ensures ∙ ap (entry_move m) c.step_entry.ensures)) (step_fits m c.args.actor c.args.call d.word d.object d.answer c.requires.call range)

pub returns-clause-stage : goal.returns-clause-stage
returns-clause-stage c =
    let m = state_of c.args.self.now.core.history in
    stage_stepped c.args.actor c.args.self.now c.make_step.new.self c.next_step-done.result c.entry_move-step.result c.carry.new.self c.make_step.ensures c.next_step-done.ensures
    (c.entry_move-step.ensures ∙ ap (entry_move m) c.step_entry.ensures) c.carry.ensures.held

pub returns-clause-world : goal.returns-clause-world
returns-clause-world c =
    let old = c.args.self.now in
    let m = state_of old.core.history in
    let a = c.args.actor in
    let stage =
    stage_stepped a old c.make_step.new.self c.next_step-done.result c.entry_move-step.result c.carry.new.self c.make_step.ensures c.next_step-done.ensures
    (c.entry_move-step.ensures ∙ ap (entry_move m) c.step_entry.ensures) c.carry.ensures.held
    in
    record {
      seated = c.make_step.ensures.seated;
      housed = c.carry.ensures.housed;
      fits =
          fits_after c.fitting_goes_on.ensures (stage_of old) (stage_of (record c.make_step.new.self { contents = c.carry.new.self })) (step_entry a c.next_step-done.result) stage c.make_step.ensures.seated.legal
          (λ call is. range_is a old.core call _ _ (c.requires.world.seated.seats a) is) c.requires.world.fits;
    }
