use Rattle.std.proofs.Common.{◌≡◌, ◌∙◌, ℕ, None, Some, ap, length, refl, sym, subst}
use Rattle.uv_num.proofs.PlaceLaws.{length-at_place}
use Rattle.uv_machine.specs.Histories.{state_of}
use Rattle.uv_machine.specs.Steps.{next_of}
use Rattle.uv_graph.specs.Owns.{own_of}
use Rattle.uv_world.specs.Celled.{value_of_slot}
use Rattle.uv_world.specs.Seating.{stage_of}
use Rattle.uv_world.proofs.Seating.{finishing_is, holds_none, slot_beside, slot_emptied}
use Rattle.uv_world.proofs.Stepped.{finishing_word, makes_next, next_finish}
use Rattle.uv_world.proofs.world.World.finish.Goals as goal

pub finish-requires : goal.finish-requires
finish-requires c =
    let old = c.args.self.now in
    finishing_is (own_of old.core c.args.actor) (value_of_slot old.retired c.args.actor) c.in-Some.deed (sym c.pick.ensures.taken ∙ c.in-Some.is) (c.requires.seated.seats c.args.actor).retired_is

pub returns : goal.returns
returns c =
    let old = c.args.self.now in
    let a = c.args.actor in
    let new = record old { core = c.finish.new.self; retired = c.pick.new.slots } in
    let f = c.finish.ensures.finishes in
    let fin = finishing_is (own_of old.core a) (value_of_slot old.retired a) c.in-Some.deed (sym c.pick.ensures.taken ∙ c.in-Some.is) (c.requires.seated.seats a).retired_is in
    let N : ℕ → Type 0 = λ n. next_of (state_of old.core.history) a None n ≡ Some f.done in
    let next = next_finish (stage_of old) a c.args._call f.done c.requires.call (finishing_word (own_of old.core a) _ c.args._call fin c.requires.call) (subst N c.kept-kept.ensures f.next) in
    makes_next a old new c.args._call f.done c.requires.seated c.requires.call next c.finish.ensures.legal f.notes.history f.notes.kills f.notes.spares c.finish.ensures.others refl refl
    (ap length c.pick.ensures.rest ∙ length-at_place old.retired a _)
    (λ b ne. ap (λ v. value_of_slot v b) c.pick.ensures.rest ∙ slot_beside old.retired a b None ne)
    (holds_none (own_of new.core a) (value_of_slot new.retired a) (ap (λ v. value_of_slot v a) c.pick.ensures.rest ∙ slot_emptied old.retired a) c.finish.ensures.leads.none)
