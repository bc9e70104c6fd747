-- The state beside its stored history.
use Rattle.std.specs.Prelude.{ℕ, ◌≡◌, ◌≤◌, List}
use Rattle.uv_machine.specs.declared.entry.Entry.{Entry}
use Rattle.uv_machine.specs.declared.state.State.{State}
use Rattle.uv_machine.specs.Histories.{IsLegal, state_of}
use Rattle.uv_machine.specs.Accounts.{owed}

-- the history, and how many entries it can take without memory beyond those that its state still owes
pub record Logged : Type 0 where
  pub history : List Entry
  pub spare : ℕ

-- the state is that after the history, which is legal and has room for all that is owed
pub record IsLogged (state : State) (history : List Entry) (room : ℕ) : Type 0 where
  pub replays : state ≡ state_of history
  pub legal : IsLegal history
  pub covered : owed state ≤ room
