-- Calls of the data path: the operands of each, and nothing after them. Each object is a name of its kind.
use Rattle.std.specs.Prelude.{ℕ, Bool, true, false, ◌&&◌, nat_eq, nat_le, List, [], ◌∷◌, codes, Option, Some, None, if◌then◌else◌, option_and_then}
use Rattle.std.specs.Cmp.Lexicographic.{pointwise}
use Rattle.uv_num.specs.declared.kind.Kind.TheVariants.{Channel, Cq}
use Rattle.uv_script.specs.Before.{Before, is_dead}
use Rattle.uv_script.specs.Handles.{object_word}
use Rattle.uv_script.specs.Names.{Look}
use Rattle.uv_script.specs.Numbers.{number_of}
use Rattle.uv_script.specs.Words.{first_as, then_take}
use Rattle.uv_script.specs.declared.data_calls.TheConstants.{POLLED}
use Rattle.uv_script.specs.declared.data_verbs.DataWord.{DataWord}
use Rattle.uv_script.specs.declared.data_verbs.DataWord.TheVariants as verb
use Rattle.uv_script.specs.declared.form.DataCall.{DataCall}
use Rattle.uv_script.specs.declared.form.DataCall.TheVariants.{Poll, Arm, Event}

-- how many completions a poll takes at most
abbrev pub as_count : ℕ → Option ℕ
as_count n = if nat_le 1 n && nat_le n POLLED then Some n else None

abbrev pub count_word : List ℕ → Option ℕ
count_word word = option_and_then as_count (number_of word)

-- `all` for the next completion, and `sol` for the next solicited one alone
abbrev pub solicited_word : List ℕ → Option Bool
solicited_word word =
    if pointwise nat_eq word (codes "all") then Some false
    else (if pointwise nat_eq word (codes "sol") then Some true else None)

-- A call with its operands, and the words after them.

abbrev pub DataAsks : Type 0
DataAsks = Option (DataCall × List (List ℕ))

-- K NUM
abbrev pub poll_operands : Look → List (List ℕ) → DataAsks
poll_operands look words =
    then_take (first_as (object_word look Cq) words) (λ cq rest1.
    then_take (first_as count_word rest1) (λ count rest2.
    Some (Poll cq count, rest2)))

-- K and `all` or `sol`
abbrev pub arm_operands : Look → List (List ℕ) → DataAsks
arm_operands look words =
    then_take (first_as (object_word look Cq) words) (λ cq rest1.
    then_take (first_as solicited_word rest1) (λ solicited rest2.
    Some (Arm cq solicited, rest2)))

-- a channel
abbrev pub event_operands : Look → List (List ℕ) → DataAsks
event_operands look words = then_take (first_as (object_word look Channel) words) (λ channel rest1. Some (Event channel, rest1))

abbrev pub data_operands : Look → DataWord → List (List ℕ) → DataAsks
data_operands look verb.Poll words = poll_operands look words
data_operands look verb.Arm words = arm_operands look words
data_operands look verb.Event words = event_operands look words

-- nothing stands after a call's operands
abbrev pub ended : DataCall → List (List ℕ) → Option DataCall
ended call [] = Some call
ended call (word ∷ words) = None

abbrev pub data_call : Look → DataWord → List (List ℕ) → Option DataCall
data_call look verb words = then_take (data_operands look verb words) ended

-- a client that died makes no call
abbrev pub data_call_of : Before → ℕ → DataWord → List (List ℕ) → Option DataCall
data_call_of before client verb words = if is_dead before client then None else data_call before.look verb words
