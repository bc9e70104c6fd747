-- The graph as the layers above see it.
use Rattle.std.specs.Prelude.{ℕ, ◌-◌, List, Option, None, Some, slice_get, unwrap_or}
use Rattle.uv_machine.specs.declared.entry.Entry.{Entry}
use Rattle.uv_graph.specs.declared.out.Out.{Out}

-- the history; by actor, the refused entries for which room is set aside, the deed that a call has out, and the deed that a
-- teardown has out
pub record Kept : Type 0 where
  pub history : List Entry
  pub spares : List ℕ
  pub outs : List (Option Out)
  pub kills : List (Option Out)

abbrev pub the_out : Option (Option Out) → Option Out
the_out None = None
the_out (Some slot) = slot

-- the deed that an actor's call has out: from its Make until it is planted, and from the Check of a live object until its Finish
abbrev pub out_of : Kept → ℕ → Option Out
out_of k c = the_out (slice_get k.outs c)

-- the deed that an actor's teardown has out, from a Kill to its Gone
abbrev pub kill_of : Kept → ℕ → Option Out
kill_of k c = the_out (slice_get k.kills c)

-- the refused entries of a client for which room is set aside
abbrev pub spare_of : Kept → ℕ → ℕ
spare_of k c = unwrap_or (slice_get k.spares c) 0

-- a slot that holds this
abbrev pub put_out : Option Out → Option Out → Option Out
put_out now before = now

-- one less set aside
abbrev pub one_less : ℕ → ℕ
one_less n = n - 1
