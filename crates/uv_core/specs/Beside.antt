-- What each call of the core adds to the history, and what it leaves to the actors that didn't make it.
use Rattle.std.specs.Prelude.{ℕ, ◌≡◌, ◌≢◌, ◌≤◌, ◌++◌, List, Some, length}
use Rattle.uv_num.specs.Each.{Each}
use Rattle.uv_machine.specs.declared.entry.Entry.{Entry}
use Rattle.uv_graph.specs.Kept.{Kept}
use Rattle.uv_graph.specs.Owns.{own_of, names}

-- the history goes on by these entries, one at most
pub record Adds (old new : Kept) : Type 0 where
  pub made : List Entry
  pub few : length made ≤ 1
  pub more : new.history ≡ old.history ++ made

-- what was added names this actor or nobody
abbrev pub SeatNames : ℕ → Kept → Kept → Type 0
SeatNames a old new = (made : List Entry) → new.history ≡ old.history ++ made → Each (λ (e : Entry). (b : ℕ) → names e ≡ Some b → b ≡ a) made

-- every other actor's own part is as it was
abbrev pub OthersKeep : ℕ → Kept → Kept → Type 0
OthersKeep a old new = (b : ℕ) → b ≢ a → own_of new b ≡ own_of old b
