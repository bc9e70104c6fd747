use Rattle.std.proofs.Common.{◌∙◌, sym}
use Rattle.uv_graph.specs.Owns.{own_of}
use Rattle.uv_world.proofs.Stepped.{comes_planted}
use Rattle.uv_world.proofs.world.World.give_back.Goals as goal

pub planted-requires : goal.planted-requires
planted-requires c =
    let old = c.args.self.now in
    comes_planted (own_of old.core c.args.actor) c.args.deed c.plant_deed.result c.args.object c.args.kind c.in-Some.call c.requires (sym c.call_of.ensures ∙ c.in-Some.is) c.plant_deed.ensures
