use Rattle.std.proofs.Common.{sym, subst}
use Rattle.uv_world.specs.Owing.{IsUnused}
use Rattle.uv_world.proofs.Slots.{unused_in_slot}
use Rattle.uv_world.proofs.contents.Contents.plant.Goals as goal

pub set-requires-clause-unused : goal.set-requires-clause-unused
set-requires-clause-unused c = subst IsUnused (sym c.in-Some.ensures.taken) (unused_in_slot c.args.self.now.pending c.args.actor c.requires.unused)
