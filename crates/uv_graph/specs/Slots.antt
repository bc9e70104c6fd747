-- What is written to the places where deeds stand.
use Rattle.std.specs.Prelude.{Option, None, Some}
use Rattle.uv_num.specs.declared.ids.Ids.{Ids}
use Rattle.uv_pool.specs.Deeds.{DeedFacts}
use Rattle.uv_pool.specs.Homes.{Homes, home_place, deed_at_if, drawn_if}

-- the deed that a pool gives next, if there is a pool
abbrev pub next_deed : {D : Type 0} → (D → DeedFacts) → Option (Homes D) → Option D
next_deed facts None = None
next_deed facts (Some pool) = deed_at_if pool (home_place facts pool)

-- a pool that gave its next deed
abbrev pub after_draw : {D : Type 0} → (D → DeedFacts) → Homes D → Homes D
after_draw facts pool = drawn_if (home_place facts pool) pool

-- a slot that holds this
abbrev pub put_slot : {D : Type 0} → Option D → Option D → Option D
put_slot now before = now

-- a place that says this
abbrev pub put_uses : Ids → Ids → Ids
put_uses now before = now
