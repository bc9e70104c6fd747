use Rattle.std.proofs.Common.{◌≡◌, Option, Some, refl, subst}
use Rattle.uv_num.specs.declared.qp.QpState.{QpState}
use Rattle.uv_machine.specs.Histories.{state_of}
use Rattle.uv_machine.specs.Steps.{next_of}
use Rattle.uv_graph.specs.Owns.{own_of}
use Rattle.uv_world.specs.Celled.{value_of_slot}
use Rattle.uv_world.specs.Seating.{stage_of}
use Rattle.uv_world.proofs.Seating.{holds_none, slot_unless}
use Rattle.uv_world.proofs.Stepped.{act_keeps, makes_next, next_act, out_kept, touching_is}
use Rattle.uv_world.proofs.world.World.touch.Goals as goal

pub act-answer-requires : goal.act-answer-requires
act-answer-requires c =
    let old = c.args.self.now in
    touching_is (stage_of old) (own_of old.core c.args.actor) c.args.call c.found-found.result c.requires.acts c.requires.call c.found-found.ensures

pub returns : goal.returns
returns c =
    let old = c.args.self.now in
    let a = c.args.actor in
    let new = record old { core = c.act-answer.new.self } in
    let g = c.act-answer.ensures.acts in
    let h = c.requires.acts in
    let F : Option QpState → Type 0 = λ f. next_of (state_of old.core.history) a f 0 ≡ Some g.done in
    let empty = slot_unless (own_of old.core a) (value_of_slot old.retired a) h.none (c.requires.seated.seats a).retired_is in
    makes_next a old new c.args.call g.done c.requires.seated c.requires.call
    (next_act (stage_of old) a c.args.call g.done c.requires.call (subst F c.found-found.ensures g.next) (act_keeps (state_of old.core.history) a c.found-found.result h.call g.done h.is h.awaits_it g.next))
    c.act-answer.ensures.legal g.notes.history g.notes.kills g.notes.spares c.act-answer.ensures.others refl refl refl (λ b ne. refl)
    (holds_none (own_of new.core a) (value_of_slot old.retired a) empty (out_kept old.core new.core a g.notes.outs h.none))
