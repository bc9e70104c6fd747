-- A graph in which nothing has happened.
use Rattle.std.specs.Prelude.{ℕ, ◌≡◌, ◌≤◌, ◌<◌, List, [], length, Option, None, Some, slice_get}
use Rattle.uv_num.specs.declared.limits.TheConstants.{CLIENTS, SCRIPT_LINES}
use Rattle.uv_num.specs.declared.ids.Ids.{Ids}
use Rattle.uv_machine.specs.Objects.{no_ids}
use Rattle.uv_graph.specs.Kept.{Kept, out_of, kill_of, spare_of}
use Rattle.uv_graph.specs.Seats.{slot_of}

-- no history, nothing out, and as many spare entries for each client as a script has lines
pub record IsFresh (k : Kept) : Type 0 where
  pub history : k.history ≡ []
  pub outs : (c : ℕ) → out_of k c ≡ None
  pub kills : (c : ℕ) → kill_of k c ≡ None
  pub spares : (c : ℕ) → 1 ≤ c → c ≤ CLIENTS → spare_of k c ≡ SCRIPT_LINES

-- each place says that nothing was used
abbrev pub UsesNone : List Ids → Type 0
UsesNone uses = (i : ℕ) → i < length uses → slice_get uses i ≡ Some no_ids

-- no slot has a deed
abbrev pub HoldsNone : {D : Type 0} → List (Option D) → Type 0
HoldsNone held = (i : ℕ) → slot_of (slice_get held i) ≡ None
