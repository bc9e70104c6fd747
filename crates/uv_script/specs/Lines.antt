-- Bytes as lines, and a line as its text.
use Rattle.std.specs.Prelude.{◌≡◌, ℕ, ◌-◌, Bool, ◌==◌, ◌&&◌, ◌||◌, nat_le, List, [], ◌∷◌, length, take, slice_index, if◌then◌else◌}
use Rattle.std.specs.List.{concat, list_all}

-- a byte in front of the first of some lines
abbrev pub in_front : ℕ → List (List ℕ) → List (List ℕ)
in_front b [] = (b ∷ []) ∷ []
in_front b (text ∷ texts) = (b ∷ text) ∷ texts

-- the lines of bytes, each with its line feed; a last line that has none stands without
abbrev pub lines_of : List ℕ → List (List ℕ)
lines_of [] = []
lines_of (b ∷ bs) = if b == 10 then (b ∷ []) ∷ lines_of bs else in_front b (lines_of bs)

-- bytes without one carriage return at their end
abbrev pub before_return : List ℕ → List ℕ
before_return text = if slice_index text (length text - 1) == 13 then take (length text - 1) text else text

-- a line without its line feed, and without one carriage return in front of that
abbrev pub text_of : List ℕ → List ℕ
text_of line = if slice_index line (length line - 1) == 10 then before_return (take (length line - 1) line) else line

-- a tab, or a byte from the blank to the tilde
abbrev pub is_plain : ℕ → Bool
is_plain b = b == 9 || (nat_le 32 b && nat_le b 126)

-- the bytes that a line's text may have, in comments too
abbrev pub is_plain_text : List ℕ → Bool
is_plain_text text = list_all is_plain text

-- the lines of bytes, joined, are the bytes
abbrev pub LinesJoin : Type 0
LinesJoin = (bytes : List ℕ) → concat (lines_of bytes) ≡ bytes
