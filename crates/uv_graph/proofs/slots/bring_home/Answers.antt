use Rattle.uv_graph.proofs.slots.bring_home.Goals as goal

pub home-requires : goal.home-requires
home-requires g c = c.requires _ c.item_mut.ensures.value
