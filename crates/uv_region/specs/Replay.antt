-- The bytes of a region after a list of actions.
use Rattle.std.specs.Prelude.{◌≡◌, ◌+◌, ℕ, true, List, [], ◌∷◌, ◌++◌, length, take, drop, replicate, if◌then◌else◌}
use Rattle.uv_region.specs.Actions.{PlainAction, is_read}

-- the bytes at an action's place
abbrev pub standing : PlainAction → List ℕ → List ℕ
standing a bytes = take a.length (drop a.offset bytes)

-- the bytes with a piece in the place of those from one on
abbrev pub overwritten : ℕ → List ℕ → List ℕ → List ℕ
overwritten at piece bytes = take at bytes ++ piece ++ drop (at + length piece) bytes

-- the bytes after an action
abbrev pub effect : PlainAction → List ℕ → List ℕ
effect a bytes = if is_read a.kind then bytes else overwritten a.offset a.bytes bytes

-- the bytes after a list of actions
abbrev pub replay_from : List ℕ → List PlainAction → List ℕ
replay_from bytes [] = bytes
replay_from bytes (a ∷ rest) = replay_from (effect a bytes) rest

-- the bytes after a list of actions on a region of this length, which begins with zeros
abbrev pub replay_of : ℕ → List PlainAction → List ℕ
replay_of size actions = replay_from (replicate size 0) actions

-- a read holds the bytes at its place
abbrev pub HoldsRead : List ℕ → PlainAction → Type 0
HoldsRead bytes a = is_read a.kind ≡ true → a.bytes ≡ standing a bytes

-- each read holds the bytes at its place at its turn
abbrev pub ReadsHold : List ℕ → List PlainAction → Type 0
ReadsHold bytes [] = Unit {0}
ReadsHold bytes (a ∷ rest) = HoldsRead bytes a × ReadsHold (effect a bytes) rest
