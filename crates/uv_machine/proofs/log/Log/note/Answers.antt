use Rattle.std.proofs.Common.{◌≤◌, ◌+◌, ◌-◌, subst, sym}
use Rattle.uv_machine.specs.Histories.{Allowed, state_of}
use Rattle.uv_machine.specs.Accounts.{owed, costs}
use Rattle.uv_machine.specs.Logged.{Logged}
use Rattle.uv_machine.proofs.Logging.{kept_more, room_kept, room_there}
use Rattle.uv_machine.proofs.log.Log.note.Goals as goal

pub put-requires : goal.put-requires
put-requires c =
    let P : Logged → Type 0 = λ k. Allowed (state_of k.history) c.args.entry in
    let R : Logged → Type 0 = λ k. costs c.args.entry ≤ k.spare in
    room_there c.self.inside.state c.self.inside.history.items c.self.inside.history.room c.args.entry c.self.invariant (subst P (sym c.self.view_is) c.requires.allowed) (subst R (sym c.self.view_is) c.requires.room)

pub invariant_of-self : goal.invariant_of-self
invariant_of-self c =
    let P : Logged → Type 0 = λ k. Allowed (state_of k.history) c.args.entry in
    let R : Logged → Type 0 = λ k. costs c.args.entry ≤ k.spare in
    kept_more c.self.inside.state c.apply.new.self c.self.inside.history.items _ c.self.inside.history.room c.put.new.self.room c.args.entry c.self.invariant (subst P (sym c.self.view_is) c.requires.allowed) (subst R (sym c.self.view_is) c.requires.room) c.apply.ensures c.put.ensures.items c.put.ensures.room

pub returns-clause-spare : goal.returns-clause-spare
returns-clause-spare c =
    let P : Logged → Type 0 = λ k. Allowed (state_of k.history) c.args.entry in
    let R : Logged → Type 0 = λ k. costs c.args.entry ≤ k.spare in
    let S : Logged → Type 0 = λ k. k.spare ≤ (c.put.new.self.room - owed c.apply.new.self) + costs c.args.entry in
    subst S c.self.view_is (room_kept c.self.inside.state c.apply.new.self c.self.inside.history.items c.self.inside.history.room c.put.new.self.room c.args.entry c.self.invariant (subst P (sym c.self.view_is) c.requires.allowed) (subst R (sym c.self.view_is) c.requires.room) c.apply.ensures c.put.ensures.room)

pub returns-clause-legal : goal.returns-clause-legal
returns-clause-legal c = (invariant_of-self c).legal
