-- A text as its words.
use Rattle.std.specs.Prelude.{ℕ, Bool, true, false, ◌==◌, ◌||◌, List, [], ◌∷◌, filter, Option, Some, None, if◌then◌else◌}
use Rattle.std.specs.Borrow.{Bor}
use Rattle.std.specs.Option.{option_map}
use Rattle.uv_script.specs.Lines.{in_front}

-- a blank or a tab
abbrev pub is_blank : ℕ → Bool
is_blank b = b == 32 || b == 9

-- what stands in front of, between and behind blanks
abbrev pub pieces_of : List ℕ → List (List ℕ)
pieces_of [] = [] ∷ []
pieces_of (b ∷ bs) = if is_blank b then [] ∷ pieces_of bs else in_front b (pieces_of bs)

abbrev pub has_bytes : List ℕ → Bool
has_bytes [] = false
has_bytes (b ∷ bs) = true

-- the words of a text: the pieces that have bytes
abbrev pub words_of : List ℕ → List (List ℕ)
words_of text = filter has_bytes (pieces_of text)

-- the word of exactly one
abbrev pub only_of : List (List ℕ) → Option (List ℕ)
only_of [] = None
only_of (word ∷ []) = Some word
only_of (word ∷ next ∷ words) = None

-- What is read in front of words, and the words after it.

-- the first word, as this reads it
abbrev pub first_as : {A : Type 0} → (List ℕ → Option A) → List (List ℕ) → Option (A × List (List ℕ))
first_as read [] = None
first_as read (word ∷ words) = option_map (λ value. (value, words)) (read word)

-- what is read of the words after
abbrev pub then_take : {A B : Type 0} → Option (A × List (List ℕ)) → (A → List (List ℕ) → Option B) → Option B
then_take None next = None
then_take (Some taken) next = next taken.0 taken.1

-- the same, as the code has it
abbrev pub words_left : {A : Type 0} → Option (A × Bor (List ℕ)) → Option (A × List (List ℕ))
words_left taken = option_map (λ t. (t.0, words_of t.1.now)) taken
