-- The rule of a desk: what is true of its table between any two steps.
use Rattle.std.specs.Prelude.{◌≡◌, ◌≢◌, ℕ, suc, zero, ◌+◌, ◌%◌, ◌<◌, ◌≤◌, true, List, length, Option, Some, None, slice_index}
use mathlib.Core.Option.{some}
use lib.ListN.{get_elem?}
use Rattle.atomic_table.specs.Table.{State}
use Rattle.uv_num.specs.Each.{Each}
use Rattle.uv_num.specs.Prefix.{IsPrefix}
use Rattle.uv_order.specs.declared.signed.Signed.{Signed}
use Rattle.uv_order.specs.declared.signed.TheConstants.{SEATS}
use Rattle.uv_order.specs.Signed.{entries, AreBelow}
use Rattle.uv_order.specs.Seen.{Quiet}
use Rattle.uv_order.specs.Names.{AreNamed}
use Rattle.uv_desk.specs.declared.view.View.{View}
use Rattle.uv_desk.specs.declared.view.Kept.{Kept}

-- the words count modulo this
abbrev pub turn : ℕ
turn = 18446744073709551616

abbrev pub counts_if : Option ℕ → ℕ
counts_if None = 0
counts_if (Some _) = 1

-- how many of the first n seats have a ticket
abbrev pub waiting : (ℕ → Option ℕ) → ℕ → ℕ
waiting ticket zero = 0
waiting ticket (suc n) = counts_if (ticket n) + waiting ticket n

module _ {E O : Type 0} where
  -- what a joined seat had seen is quiet, its own part is the machine's, and the latest that made a turn saw it all
  abbrev pub IsKept : (ℕ → O) → List (Signed E) → ℕ → Kept E O → Type 0
  IsKept own log latest k = Quiet k.number log k.seen × (k.own ≡ Some (own k.number)) × (k.number ≡ latest → k.seen ≡ log)

  abbrev pub AreKept : (ℕ → O) → List (Signed E) → ℕ → List (Kept E O) → Type 0
  AreKept own log latest joined = Each (IsKept own log latest) joined

  -- none of the joined seats has that number
  abbrev pub IsApart : ℕ → List (Kept E O) → Type 0
  IsApart n joined = Each (λ (k : Kept E O). k.number ≢ n) joined

module _ {M E O : Type 0} (history : M → List E) (own : M → ℕ → O) (names : E → Option ℕ) (start : M) where
  -- what the seat j of the table knows
  pub record Knows (machine : M) (log : List (Signed E)) (served : ℕ) (ticket : ℕ → Option ℕ) (chair : ℕ → ℕ) (holder : Option ℕ) (latest given whole : ℕ) (joined : List (Kept E O)) (j : ℕ) (v : View M E O) : Type 0 where
    pub seen_is : IsPrefix v.seen log
    pub told_is : IsPrefix v.told log
    pub mine_is : v.numbered ≡ true → Quiet v.number log v.seen
    pub below : v.numbered ≡ true → v.number < whole
    pub chair_is : v.numbered ≡ true → chair v.number ≡ j
    pub ticket_is : v.numbered ≡ true → ticket v.number ≡ v.ticket
    pub own_is : v.numbered ≡ true → v.own ≡ Some (own machine v.number)
    pub idle : v.numbered ≡ true → v.held ≡ None → holder ≢ Some v.number
    pub holds : (m : M) → v.held ≡ Some m → (m ≡ machine) × (v.numbered ≡ true) × (holder ≡ Some v.number) × (v.ticket ≡ Some served) × (v.seen ≡ log)
    pub last_is : v.numbered ≡ true → v.number ≡ latest → v.seen ≡ log
    pub start_is : (m : M) → v.start ≡ Some m → (m ≡ start) × (v.numbered ≡ true) × (v.number ≡ 0)
    pub next_is : v.numbered ≡ true → v.number ≡ 0 → v.next ≡ given
    pub whole_is : v.numbered ≡ true → v.number ≡ 0 → v.whole ≡ whole
    pub joined_is : v.numbered ≡ true → v.number ≡ 0 → v.joined ≡ joined
    pub apart : v.numbered ≡ true → IsApart v.number joined

  pub record Ordered (s : State (Option M) (View M E O)) : Type 0 where
    pub machine : M
    pub log : List (Signed E)
    -- how many tickets were drawn, and how many were served
    pub drawn : ℕ
    pub served : ℕ
    -- by a seat's number: its ticket, and its place in the table
    pub ticket : ℕ → Option ℕ
    pub chair : ℕ → ℕ
    -- the seat that has the machine
    pub holder : Option ℕ
    -- the seat that had it last
    pub latest : ℕ
    -- how many seats were made
    pub given : ℕ
    -- the seats from here on are joined
    pub whole : ℕ
    pub joined : List (Kept E O)
    pub log_is : entries log ≡ history machine
    pub named : AreNamed names log
    pub authors : AreBelow given log
    pub fits : AreKept (own machine) log latest joined
    pub two_words : length s.words ≡ 2
    pub one_slot : length s.homes ≡ 1
    pub drawn_is : slice_index s.words 0 ≡ drawn % turn
    pub served_is : slice_index s.words 1 ≡ served % turn
    -- so there are at most 32 tickets at once, and equal words are equal numbers, however far both have come
    pub counted : drawn ≡ served + waiting ticket given
    pub within : (n k : ℕ) → ticket n ≡ Some k → (served ≤ k) × (k < drawn)
    pub apart : (n n' k : ℕ) → ticket n ≡ Some k → ticket n' ≡ Some k → n ≡ n'
    pub held_by : (n : ℕ) → holder ≡ Some n → ticket n ≡ Some served
    pub at_home : holder ≡ None → get_elem? s.homes 0 ≡ some (some (Some machine))
    pub few : (whole ≤ given) × (given ≤ SEATS)
    pub free : (n : ℕ) → whole ≤ n → ticket n ≡ None
    pub last_given : latest < given
    pub others : (n : ℕ) → given ≤ n → own machine n ≡ own start n
    pub each_seat : (j : ℕ) (v : View M E O) → get_elem? s.views j ≡ some v → Knows machine log served ticket chair holder latest given whole joined j v
