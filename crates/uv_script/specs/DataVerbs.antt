-- The table of the data path's verbs: the word of each.
use Rattle.std.specs.Prelude.{ℕ, Bool, ◌==◌, nat_eq, List, codes, Option, None, find, if◌then◌else◌}
use Rattle.std.specs.Cmp.Lexicographic.{pointwise}
use Rattle.uv_num.specs.declared.limits.TheConstants.{DRIVER}
use Rattle.uv_script.specs.Words.{first_as}
use Rattle.uv_script.specs.declared.data_verbs.DataWord.{DataWord}
use Rattle.uv_script.specs.declared.data_verbs.DataWord.TheVariants.{Poll, Arm, Event}
use Rattle.uv_script.specs.declared.data_verbs.TheConstants.{DATA_VERBS}

abbrev pub data_text : DataWord → List ℕ
data_text Poll = codes "poll"
data_text Arm = codes "arm"
data_text Event = codes "event"

abbrev pub is_data_spelled : List ℕ → DataWord → Bool
is_data_spelled word verb = pointwise nat_eq (data_text verb) word

-- the verb of the data path that a word is, if it is one of them
abbrev pub data_word : List ℕ → Option DataWord
data_word word = find (is_data_spelled word) DATA_VERBS

-- the verb of the data path that stands after an actor, which is a client, and the words after it
abbrev pub data_verb : ℕ → List (List ℕ) → Option (DataWord × List (List ℕ))
data_verb actor words = if actor == DRIVER then None else first_as data_word words
