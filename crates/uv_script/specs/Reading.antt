-- What a line says.
use Rattle.std.specs.Prelude.{ℕ, ◌==◌, Bool, nat_lt, not, List, [], ◌∷◌, slice_index, Option, Some, None, if◌then◌else◌, option_and_then}
use Rattle.uv_num.specs.declared.limits.TheConstants.{SCRIPT_LINES}
use Rattle.uv_script.specs.Before.{Before, is_dead}
use Rattle.uv_script.specs.DataCalls.{data_call_of}
use Rattle.uv_script.specs.DataVerbs.{data_verb}
use Rattle.uv_script.specs.Deeds.{Stated, deed_of}
use Rattle.uv_script.specs.Heads.{head_word}
use Rattle.uv_script.specs.Lines.{text_of, is_plain_text}
use Rattle.uv_script.specs.Names.{Naming}
use Rattle.uv_script.specs.Places.{client_word}
use Rattle.uv_script.specs.Words.{words_of, only_of}
use Rattle.uv_script.specs.declared.data_verbs.DataWord.{DataWord}
use Rattle.uv_script.specs.declared.form.DataCall.{DataCall}
use Rattle.uv_script.specs.declared.form.Form.{Form}
use Rattle.uv_script.specs.declared.form.Form.TheVariants.{Plain, Minus, Plus, Die, Data}
use Rattle.uv_script.specs.declared.heads.Head.{Head}
use Rattle.uv_script.specs.declared.heads.Head.TheVariants as head

-- what a line is: outside the language, nothing, or a form, which may declare a name
pub data Reading : Type 0 where
  Outside : Reading
  Nothing : Reading
  Says : Form → Option Naming → Reading

-- `A ..`: to its end
abbrev pub says_plain : ℕ → Option Stated → Reading
says_plain actor None = Outside
says_plain actor (Some stated) = Says (Plain actor stated.deed) stated.naming

-- `C ..`: a call of the data path
abbrev pub says_data : ℕ → Option DataCall → Reading
says_data client None = Outside
says_data client (Some call) = Says (Data client call) None

-- after an actor a deed, or after a client a verb of the data path
abbrev pub plain_reading : Before → ℕ → List (List ℕ) → Option (DataWord × List (List ℕ)) → Reading
plain_reading before actor words None = says_plain actor (deed_of before actor words)
plain_reading before actor words (Some taken) = says_data actor (data_call_of before actor taken.0 taken.1)

-- `A- ..`: only begun
abbrev pub says_minus : ℕ → Option Stated → Reading
says_minus actor None = Outside
says_minus actor (Some stated) = Says (Minus actor stated.deed) stated.naming

-- a form of an actor, unless it died
abbrev pub living : Before → ℕ → Form → Reading
living before actor form = if is_dead before actor then Outside else Says form None

-- `A+`, alone
abbrev pub says_plus : Before → ℕ → List (List ℕ) → Reading
says_plus before actor [] = living before actor (Plus actor)
says_plus before actor (word ∷ words) = Outside

-- `die C`, once
abbrev pub says_die : Before → Option ℕ → Reading
says_die before None = Outside
says_die before (Some client) = living before client (Die client)

-- what stands after each head
abbrev pub head_reading : Before → Head → List (List ℕ) → Reading
head_reading before (head.Plain actor) words = plain_reading before actor words (data_verb actor words)
head_reading before (head.Minus actor) words = says_minus actor (deed_of before actor words)
head_reading before (head.Plus actor) words = says_plus before actor words
head_reading before head.Die words = says_die before (option_and_then client_word (only_of words))

abbrev pub given_head : Before → List (List ℕ) → Option Head → Reading
given_head before words None = Outside
given_head before words (Some head) = head_reading before head words

-- no words, or a head and what stands after it
abbrev pub words_reading : Before → List (List ℕ) → Reading
words_reading before [] = Nothing
words_reading before (word ∷ words) = given_head before words (head_word word)

-- a text whose first byte is `#`
abbrev pub is_remark : List ℕ → Bool
is_remark text = slice_index text 0 == 35

-- what a line is, without its end
abbrev pub text_reading : Before → List ℕ → Reading
text_reading before text =
    if not (is_plain_text text) then Outside else (if is_remark text then Nothing else words_reading before (words_of text))

-- what a line is, with its end; one over the limit is outside the language
abbrev pub reading_of : Before → List ℕ → Reading
reading_of before line = if nat_lt SCRIPT_LINES before.number then Outside else text_reading before (text_of line)
