use Rattle.uv_world.proofs.world.World.doom.Goals as goal

pub returns-clause-doomed : goal.returns-clause-doomed
returns-clause-doomed c = record { now = c.bury_deed-deed.result; goes = c.bury_deed-deed.ensures; lies = c.lay.ensures }
