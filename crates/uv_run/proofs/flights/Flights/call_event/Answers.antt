use Rattle.std.proofs.Common.{◌∙◌, Option, ap, arith, refl, sym}
use Rattle.uv_machine.specs.declared.call.InFlight.{InFlight}
use Rattle.uv_machine.specs.Histories.{state_of}
use Rattle.uv_machine.specs.States.{call_of}
use Rattle.uv_graph.specs.Turns.{step_entry}
use Rattle.uv_world.specs.Seating.{stage_of}
use Rattle.uv_world.specs.Stages.{stage_then}
use Rattle.uv_run.specs.Site.{kind_in_call, step_heard, with_entry}
use Rattle.uv_run.specs.Sound.{site_of}
use Rattle.uv_run.proofs.CallSounds.{step_moved}
use Rattle.uv_run.proofs.Lowering.{entry_lowers}
use Rattle.uv_run.proofs.Sites.{site_same, turned_same}
use Rattle.uv_run.proofs.Sounds.{more_of}
use Rattle.uv_run.proofs.flights.Flights.call_event.Goals as goal

pub returns-clause-step : goal.returns-clause-step
returns-clause-step c =
    let old = c.args.self.now in
    let now = c.step.new.self in
    let e = step_entry c.args.actor c.step.result in
    record {
      done = c.step.result;
      next = c.step.ensures.next;
      turned =
          turned_same (site_of (record old { world = now })) (with_entry (site_of old) e) _ (step_heard (kind_in_call (call_of (state_of old.world.core.history) c.args.actor)) c.step.result)
          (site_same (stage_of now) (stage_then (stage_of old.world) e) old.teardowns old.teardowns old.killed old.killed c.step.ensures.stage refl refl)
          (c.step_heard.ensures ∙ (ap (λ v. step_heard v c.step.result) c.kind_in_call-made.ensures ∙ ap (λ (v : Option InFlight). step_heard (kind_in_call v) c.step.result) (sym c.requires.call)));
    }

pub returns-clause-less : goal.returns-clause-less
returns-clause-less c =
    let old = c.args.self.now in
    let e = step_entry c.args.actor c.step.result in
    entry_lowers old (record old { world = c.step.new.self }) e c.step.ensures.world.seated.legal (more_of old.world c.step.new.self e c.step.ensures.stage) refl (omega arith)

pub returns-clause-moved : goal.returns-clause-moved
returns-clause-moved c =
    step_moved c.args.self.now c.step.new.self c.args.actor c.args.call c.step.result c.requires.sound c.requires.call c.step.ensures.stage c.step.ensures.spares c.step.ensures.others c.step.ensures.doomed c.step.ensures.world
