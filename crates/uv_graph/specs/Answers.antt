-- What one answer of a call says to who knows only the history and its own part.
use Rattle.std.specs.Prelude.{ℕ, ◌≡◌, ◌++◌, List}
use Rattle.uv_machine.specs.declared.entry.Entry.{Entry}
use Rattle.uv_machine.specs.Histories.{IsLegal}
use Rattle.uv_graph.specs.declared.out.Own.{Own}
use Rattle.uv_graph.specs.Kept.{Kept}
use Rattle.uv_graph.specs.Owns.{own_of}

-- After this history an actor with this own part makes a call whose clause is `gives`: the call made these entries, and this is
-- then the actor's own part.
pub record Answers (gives : Kept → Kept → Type 0) (h : List Entry) (actor : ℕ) (before : Own) (made : List Entry) (now : Own) : Type 0 where
  pub old : Kept
  pub new : Kept
  pub was : old.history ≡ h
  pub is : new.history ≡ h ++ made
  pub own_was : own_of old actor ≡ before
  pub own_is : own_of new actor ≡ now
  pub legal : IsLegal new.history
  pub clause : gives old new
