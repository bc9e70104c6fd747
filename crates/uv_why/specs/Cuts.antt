-- The entries that a history has for a line: those from its mark on, up to the next mark.
use Rattle.std.specs.Prelude.{ℕ, ◌+◌, ◌-◌, List, drop, slice_get, take, unwrap_or}
use Rattle.uv_machine.specs.declared.entry.Entry.{Entry}

-- how long the history was as the line at a place began; one place after the last line, as that had ended
abbrev pub mark_of : List ℕ → ℕ → ℕ
mark_of marks place = unwrap_or (slice_get marks place) 0

abbrev pub entries_of_line : List Entry → List ℕ → ℕ → List Entry
entries_of_line history marks place = take (mark_of marks (place + 1) - mark_of marks place) (drop (mark_of marks place) history)

-- what came after the last of so many lines
abbrev pub entries_after : List Entry → List ℕ → ℕ → List Entry
entries_after history marks lines = drop (mark_of marks lines) history
