use Rattle.std.proofs.Common.{◌≡◌, ◌∙◌, ◌<◌, true, None, ap, arith, length, refl, sym, subst}
use Rattle.uv_num.proofs.PlaceLaws.{length-at_place}
use Rattle.uv_machine.specs.declared.entry.Word.{Word}
use Rattle.uv_machine.specs.Histories.{state_of}
use Rattle.uv_machine.specs.States.{call_of, object_with}
use Rattle.uv_graph.specs.Kept.{Kept}
use Rattle.uv_graph.specs.Owns.{own_of}
use Rattle.uv_graph.specs.Turns.{goes_plain}
use Rattle.uv_world.specs.Celled.{value_of_slot}
use Rattle.uv_world.specs.Seating.{AreSeated, MakesNext, stage_of}
use Rattle.uv_world.proofs.Nexting.{keeps_none, plain_keeps, refused_keeps}
use Rattle.uv_world.proofs.Seating.{client_is, holds_none, none_is, none_retired, slot_beside, slot_filled}
use Rattle.uv_world.proofs.Stepped.{holds_buried, makes_next, next_alone, out_kept}
use Rattle.uv_world.proofs.world.World.go.Goals as goal

pub returns-in-Went : goal.returns-in-Went
returns-in-Went c =
    let old = c.args.self.now in
    let a = c.args.actor in
    let new = record old { core = c.step.new.self } in
    let g = c.in-Went.ensures.gives in
    let x = object_with (state_of old.core.history) g.done.object in
    let P : Word → Type 0 = λ w. goes_plain x w ≡ true in
    let empty = none_is (value_of_slot old.retired a) c.requires.none in
    let out = none_retired (own_of old.core a) (value_of_slot old.retired a) empty (c.requires.seated.seats a).retired_is in
    makes_next a old new c.args.call g.done c.requires.seated c.requires.call (next_alone (stage_of old) old.core a g.done refl g.next (plain_keeps x g.done.word (subst P (sym g.word) g.plain)))
    c.step.ensures.legal g.notes.history g.notes.kills g.notes.spares c.step.ensures.others refl refl refl (λ b ne. refl) (holds_none (own_of new.core a) (value_of_slot old.retired a) empty (out_kept old.core new.core a g.notes.outs out))

pub returns-in-Refused : goal.returns-in-Refused
returns-in-Refused c =
    let old = c.args.self.now in
    let a = c.args.actor in
    let new = record old { core = c.step.new.self } in
    let g = c.in-Refused.ensures.gives in
    let empty = none_is (value_of_slot old.retired a) c.requires.none in
    let out = none_retired (own_of old.core a) (value_of_slot old.retired a) empty (c.requires.seated.seats a).retired_is in
    makes_next a old new c.args.call g.done c.requires.seated c.requires.call (next_alone (stage_of old) old.core a g.done refl g.next (refused_keeps (state_of old.core.history) a None g.done _ g.next.next g.refused))
    c.step.ensures.legal g.notes.history g.notes.kills g.notes.spares c.step.ensures.others refl refl refl (λ b ne. refl) (holds_none (own_of new.core a) (value_of_slot old.retired a) empty (out_kept old.core new.core a g.notes.outs out))

pub returns-in-Ended : goal.returns-in-Ended
returns-in-Ended c =
    let old = c.args.self.now in
    let a = c.args.actor in
    let new = record old { core = c.step.new.self } in
    let g = c.in-Ended.ensures.gives in
    let x = object_with (state_of old.core.history) g.done.object in
    let P : Word → Type 0 = λ w. keeps_none x w ≡ true in
    let empty = none_is (value_of_slot old.retired a) c.requires.none in
    let out = none_retired (own_of old.core a) (value_of_slot old.retired a) empty (c.requires.seated.seats a).retired_is in
    makes_next a old new c.args.call g.done c.requires.seated c.requires.call (next_alone (stage_of old) old.core a g.done refl g.next (subst P (sym g.word) refl))
    c.step.ensures.legal g.notes.history g.notes.kills g.notes.spares c.step.ensures.others refl refl refl (λ b ne. refl) (holds_none (own_of new.core a) (value_of_slot old.retired a) empty (out_kept old.core new.core a g.notes.outs out))

pub returns-in-Plant : goal.returns-in-Plant
returns-in-Plant c =
    let old = c.args.self.now in
    let a = c.args.actor in
    let new = c.give_back.new.self in
    let g = c.in-Plant.ensures.gives in
    let p = c.give_back.ensures in
    let x = object_with (state_of old.core.history) g.done.object in
    let P : Word → Type 0 = λ w. keeps_none x w ≡ true in
    let empty = none_is (value_of_slot old.retired a) c.requires.none in
    makes_next a old new c.args.call g.done c.requires.seated c.requires.call (next_alone (stage_of old) old.core a g.done refl g.next (subst P (sym g.word) refl))
    p.legal (p.same.history ∙ g.hands.notes.history) (p.same.kills ∙ g.hands.notes.kills) (p.same.spares ∙ g.hands.notes.spares) (λ b ne. p.others b ne ∙ c.step.ensures.others b ne)
    p.contents p.doomed (ap length p.retired) (λ b ne. ap (λ v. value_of_slot v b) p.retired)
    (holds_none (own_of new.core a) (value_of_slot new.retired a) (ap (λ v. value_of_slot v a) p.retired ∙ empty) p.ready.none)

pub touch-requires-clause-call : goal.touch-requires-clause-call
touch-requires-clause-call c = ap (λ (k : Kept). call_of (state_of k.history) c.args.actor) c.in-Touch.ensures.gives.same ∙ c.requires.call

pub touch-requires-clause-seated : goal.touch-requires-clause-seated
touch-requires-clause-seated c =
    let old = c.args.self.now in
    let P : Kept → Type 0 = λ k. AreSeated k old.retired old.doomed in
    subst P (sym c.in-Touch.ensures.gives.same) c.requires.seated

pub returns-in-Touch : goal.returns-in-Touch
returns-in-Touch c =
    let old = c.args.self.now in
    let P : Kept → Type 0 = λ k. MakesNext c.args.actor (record old { core = k }) c.touch.new.self in
    subst P c.in-Touch.ensures.gives.same c.touch.ensures

pub returns-in-Retire : goal.returns-in-Retire
returns-in-Retire c =
    let old = c.args.self.now in
    let a = c.args.actor in
    let new = record old { core = c.step.new.self; retired = c.lay.new.slots } in
    let g = c.in-Retire.ensures.gives in
    let x = object_with (state_of old.core.history) g.done.object in
    let P : Word → Type 0 = λ w. keeps_none x w ≡ true in
    let client = client_is a old.core c.args.call _ _ (c.requires.seated.seats a) c.requires.call in
    let low : a < length old.retired = omega (arith, client.1, c.requires.seated.retired_size) in
    makes_next a old new c.args.call g.done c.requires.seated c.requires.call (next_alone (stage_of old) old.core a g.done refl g.next (subst P (sym g.word) refl))
    c.step.ensures.legal g.hands.notes.history g.hands.notes.kills g.hands.notes.spares c.step.ensures.others refl refl
    (ap length c.lay.ensures ∙ length-at_place old.retired a _)
    (λ b ne. ap (λ v. value_of_slot v b) c.lay.ensures ∙ slot_beside old.retired a b _ ne)
    (holds_buried (own_of new.core a) c.in-Retire.deed c.bury_deed.result (value_of_slot new.retired a) c.in-Retire.ensures.leads c.bury_deed.ensures (ap (λ v. value_of_slot v a) c.lay.ensures ∙ slot_filled old.retired a _ low))
