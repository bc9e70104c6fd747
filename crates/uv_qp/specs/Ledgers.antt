-- What was posted to a queue and how each work ended.
use Rattle.std.specs.Prelude.{◌≡◌, ◌≤◌, ◌+◌, ◌++◌, ℕ, Bool, true, not, if◌then◌else◌, List, [], ◌∷◌, map, length, drop}
use Rattle.std.specs.List.{list_all}
use Rattle.uv_num.specs.Prefix.{IsPrefix}
use Rattle.uv_queue.specs.Order.{with_newest, without_oldest}
use Rattle.uv_wr.specs.declared.completion.Completion.{Completion}
use Rattle.uv_wr.specs.Statuses.{is_failure}

-- how the works ended that have, and the ids of those that haven't, each the oldest first
pub record Ledgered : Type 0 where
  pub completed : List Completion
  pub owed : List ℕ

abbrev pub completion_id : Completion → ℕ
completion_id c = c.id

abbrev pub has_failed : Completion → Bool
has_failed c = is_failure c.status

abbrev pub has_succeeded : Completion → Bool
has_succeeded c = not (is_failure c.status)

abbrev pub all_succeeded : List Completion → Bool
all_succeeded completed = list_all has_succeeded completed

-- after one that failed there is none that succeeded
abbrev pub in_order : List Completion → Bool
in_order [] = true
in_order (c ∷ cs) = if is_failure c.status then list_all has_failed cs else in_order cs

-- the ids of all works that were posted: those that ended, and then those that wait
abbrev pub posted_of : List Completion → List ℕ → List ℕ
posted_of completed owed = map completion_id completed ++ owed

-- the works that ended are the first of those that were posted, and after one that failed none succeeded
pub record IsOrdered (posted : List ℕ) (completed : List Completion) : Type 0 where
  pub prefix : IsPrefix (map completion_id completed) posted
  pub order : in_order completed ≡ true

-- nothing was posted
abbrev pub empty_ledger : Ledgered
empty_ledger = record { completed = []; owed = [] }

-- one more work was posted
abbrev pub with_posted : Ledgered → ℕ → Ledgered
with_posted l id = record l { owed = with_newest l.owed id }

-- the oldest work that waits has ended
abbrev pub with_completed : Ledgered → Completion → Ledgered
with_completed l c = record { completed = with_newest l.completed c; owed = without_oldest l.owed }

-- what is true of a ledger of these ids and completions: each work that was posted has room for its completion
pub record IsLedger (posted : List ℕ) (completed : List Completion) (room : ℕ) : Type 0 where
  pub first : posted ≡ posted_of completed (drop (length completed) posted)
  pub order : in_order completed ≡ true
  pub covered : length posted ≤ length completed + room
