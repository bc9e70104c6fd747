-- What is wrong with a line that is outside the language: the word at which the reading stops, and why. The readings are those of
-- `Reading`, `Deeds` and `Operands`, in the same order. The law at the end ties the two: something is wrong exactly where a line
-- is outside the language.
use Rattle.std.specs.Prelude.{◌≡◌, ℕ, Bool, true, not, ◌==◌, ◌&&◌, ◌||◌, nat_eq, nat_lt, List, [], ◌∷◌, drop, codes, Option, Some, None, is_some, is_none, option_map, Result, Ok, Err, if◌then◌else◌}
use Rattle.std.specs.Char.{is_ascii_digit}
use Rattle.std.specs.Cmp.Lexicographic.{pointwise}
use Rattle.std.specs.List.{list_all, starts_with}
use Rattle.std.specs.Option.{option_or}
use Rattle.std.specs.Result.{result_err}
use Rattle.uv_num.specs.declared.errno.Errno.{Errno}
use Rattle.uv_num.specs.declared.kind.Kind.{Kind}
use Rattle.uv_num.specs.declared.kind.Kind.TheVariants as kind
use Rattle.uv_num.specs.declared.limits.TheConstants.{DRIVER, SCRIPT_LINES}
use Rattle.uv_num.specs.declared.request.Request.{Request}
use Rattle.uv_schema.specs.Commands.{command_of}
use Rattle.uv_script.specs.Before.{Before, at_start, is_dead}
use Rattle.uv_script.specs.Built.{verb_for}
use Rattle.uv_script.specs.Bytes.{spelled_bytes}
use Rattle.uv_script.specs.DataCalls.{count_word, solicited_word}
use Rattle.uv_script.specs.DataVerbs.{data_verb}
use Rattle.uv_script.specs.Handles.{handle_word, may_handle_word, object_word}
use Rattle.uv_script.specs.Heads.{head_word}
use Rattle.uv_script.specs.Lines.{lines_of, text_of, is_plain_text}
use Rattle.uv_script.specs.Names.{is_name, Look}
use Rattle.uv_script.specs.Numbers.{number_of, has_bare_front}
use Rattle.uv_script.specs.Operands.{service_word}
use Rattle.uv_script.specs.Places.{client_word, file_word, device_word}
use Rattle.uv_script.specs.Reading.{is_remark, reading_of}
use Rattle.uv_script.specs.Script.{is_outside, after_line, script_of}
use Rattle.uv_script.specs.Verbs.{verb_word, kind_made}
use Rattle.uv_script.specs.Words.{words_of}
use Rattle.uv_script.specs.declared.data_verbs.DataWord.{DataWord}
use Rattle.uv_script.specs.declared.data_verbs.DataWord.TheVariants as dataverb
use Rattle.uv_script.specs.declared.form.Mode.{Mode}
use Rattle.uv_script.specs.declared.heads.Head.{Head}
use Rattle.uv_script.specs.declared.heads.Head.TheVariants as head
use Rattle.uv_script.specs.declared.verbs.VerbWord.{VerbWord}
use Rattle.uv_script.specs.declared.verbs.VerbWord.TheVariants as verb
use Rattle.uv_script.specs.declared.wrong.Operand.{Operand}
use Rattle.uv_script.specs.declared.wrong.Operand.TheVariants as operand
use Rattle.uv_script.specs.declared.wrong.Wrong.{Wrong}
use Rattle.uv_script.specs.declared.wrong.Wrong.TheVariants as wrong

-- the word that is wrong, which has no bytes where one is missing or no word is to blame
pub record Amiss : Type 0 where
  pub word : List ℕ
  pub wrong : Wrong

abbrev pub amiss_at : List ℕ → Wrong → Option Amiss
amiss_at word w = Some (record { word = word; wrong = w })

-- Why a word isn't what stands at its place.

abbrev pub digits_wrong : List ℕ → Wrong
digits_wrong [] = wrong.NotA operand.Number
digits_wrong (d ∷ ds) =
    if not (list_all is_ascii_digit (d ∷ ds)) then wrong.NotA operand.Number
    else (if has_bare_front (d ∷ ds) then wrong.TooGreat else wrong.LeadingZero)

abbrev pub number_wrong : List ℕ → Wrong
number_wrong word = if starts_with nat_eq word (codes "0x") then wrong.NotA operand.Number else digits_wrong word

-- after a `#`
abbrev pub numbered_wrong : List ℕ → Wrong
numbered_wrong digits = if is_none (number_of digits) then number_wrong digits else wrong.HandleTooGreat

abbrev pub named_wrong : List ℕ → Wrong
named_wrong word = if is_name word then wrong.Undeclared else wrong.NotA operand.Handle

abbrev pub handle_wrong : List ℕ → Wrong
handle_wrong word = if starts_with nat_eq word (codes "#") then numbered_wrong (drop 1 word) else named_wrong word

-- a name that is declared is one of another kind
abbrev pub object_wrong : Look → Kind → List ℕ → Wrong
object_wrong look k word = if is_name word && is_none (look word) then wrong.Undeclared else wrong.NotA (operand.Object k)

abbrev pub count_wrong : List ℕ → Wrong
count_wrong word = if is_none (number_of word) then number_wrong word else wrong.NotA operand.Count

abbrev pub word_wrong : Look → Operand → List ℕ → Wrong
word_wrong look operand.File word = wrong.NotA operand.File
word_wrong look operand.Device word = wrong.NotA operand.Device
word_wrong look operand.Handle word = handle_wrong word
word_wrong look operand.MayHandle word = handle_wrong word
word_wrong look operand.Number word = number_wrong word
word_wrong look operand.Service word = wrong.NotA operand.Service
word_wrong look operand.Bytes word = wrong.NotA operand.Bytes
word_wrong look (operand.Object k) word = object_wrong look k word
word_wrong look operand.Count word = count_wrong word
word_wrong look operand.Solicited word = wrong.NotA operand.Solicited

-- The operands of each verb, by their places.

abbrev pub create_takes : Kind → List Operand
create_takes kind.Pd = []
create_takes kind.Channel = []
create_takes kind.Cq = operand.Number ∷ operand.MayHandle ∷ []
create_takes kind.Qp = operand.Handle ∷ operand.Handle ∷ operand.Handle ∷ operand.MayHandle ∷ operand.Service ∷ operand.Number ∷ operand.Number ∷ []
create_takes kind.Srq = operand.Handle ∷ operand.Number ∷ []
create_takes kind.Ah = operand.Handle ∷ operand.Device ∷ []
create_takes kind.Mr = operand.Handle ∷ operand.Number ∷ operand.Number ∷ []
create_takes kind.Mw = operand.Handle ∷ []

abbrev pub verb_takes : VerbWord → List Operand
verb_takes verb.Open = operand.Device ∷ []
verb_takes verb.Close = []
verb_takes verb.Raw = operand.Bytes ∷ []
verb_takes (verb.Create k) = create_takes k
verb_takes (verb.Destroy k) = operand.Handle ∷ []
verb_takes verb.BindMw = operand.Handle ∷ operand.MayHandle ∷ operand.Number ∷ operand.Number ∷ operand.Number ∷ []
verb_takes verb.GetAsync = []

-- the same of the data path's calls
abbrev pub data_takes : DataWord → List Operand
data_takes dataverb.Poll = operand.Object kind.Cq ∷ operand.Count ∷ []
data_takes dataverb.Arm = operand.Object kind.Cq ∷ operand.Solicited ∷ []
data_takes dataverb.Event = operand.Object kind.Channel ∷ []

abbrev pub is_operand : Look → Operand → List ℕ → Bool
is_operand look operand.File word = is_some (file_word word)
is_operand look operand.Device word = is_some (device_word word)
is_operand look operand.Handle word = is_some (handle_word look word)
is_operand look operand.MayHandle word = is_some (may_handle_word look word)
is_operand look operand.Number word = is_some (number_of word)
is_operand look operand.Service word = is_some (service_word word)
is_operand look operand.Bytes word = is_some (spelled_bytes word)
is_operand look (operand.Object k) word = is_some (object_word look k word)
is_operand look operand.Count word = is_some (count_word word)
is_operand look operand.Solicited word = is_some (solicited_word word)

-- the words after these operands, or what is wrong with the first that isn't one
abbrev pub operands_left : Look → List Operand → List (List ℕ) → Result (List (List ℕ)) Amiss
operands_left look [] words = Ok words
operands_left look (o ∷ os) [] = Err (record { word = []; wrong = wrong.Missing o })
operands_left look (o ∷ os) (word ∷ words) =
    if is_operand look o word then operands_left look os words else Err (record { word = word; wrong = word_wrong look o word })

-- what is wrong with operands, or with what stands after them
abbrev pub then_amiss : Result (List (List ℕ)) Amiss → (List (List ℕ) → Option Amiss) → Option Amiss
then_amiss (Err a) next = Some a
then_amiss (Ok rest) next = next rest

-- What stands after the operands: nothing, or after those of a create `as` and one name.

abbrev pub name_amiss : Look → List (List ℕ) → Option Amiss
name_amiss look [] = amiss_at [] wrong.NoName
name_amiss look (name ∷ []) =
    if not (is_name name) then amiss_at name wrong.BadName else (if is_none (look name) then None else amiss_at name wrong.Twice)
name_amiss look (name ∷ next ∷ words) = amiss_at next wrong.More

abbrev pub after_amiss : Look → Option Kind → List (List ℕ) → Option Amiss
after_amiss look made [] = None
after_amiss look None (word ∷ words) = amiss_at word wrong.More
after_amiss look (Some k) (word ∷ words) = if pointwise nat_eq word (codes "as") then name_amiss look words else amiss_at word wrong.More

-- Command bytes: a request whose line isn't built.

abbrev pub is_built : Result Request Errno → Bool
is_built (Err errno) = true
is_built (Ok request) = is_some (verb_for request)

abbrev pub bytes_are_built : Option (List ℕ) → Bool
bytes_are_built None = true
bytes_are_built (Some bytes) = is_built (command_of bytes)

abbrev pub raw_amiss : List (List ℕ) → Option Amiss
raw_amiss [] = None
raw_amiss (word ∷ words) = if bytes_are_built (spelled_bytes word) then None else amiss_at word wrong.NotBuilt

abbrev pub built_amiss : VerbWord → List (List ℕ) → Option Amiss
built_amiss verb.Open words = None
built_amiss verb.Close words = None
built_amiss verb.Raw words = raw_amiss words
built_amiss (verb.Create k) words = None
built_amiss (verb.Destroy k) words = None
built_amiss verb.BindMw words = None
built_amiss verb.GetAsync words = None

-- Verbs.

abbrev pub verb_amiss : Look → VerbWord → List (List ℕ) → Option Amiss
verb_amiss look v words =
    then_amiss (operands_left look (verb_takes v) words) (λ rest. option_or (built_amiss v words) (after_amiss look (kind_made v) rest))

-- the verbs of lines that aren't built yet
abbrev pub is_later_verb : List ℕ → Bool
is_later_verb word = pointwise nat_eq word (codes "modify_qp") || pointwise nat_eq word (codes "query_qp")

abbrev pub unknown_verb : List ℕ → Option Amiss
unknown_verb word = amiss_at word (if is_later_verb word then wrong.NotBuilt else wrong.Verb)

abbrev pub verb_found : Look → List ℕ → List (List ℕ) → Option VerbWord → Option Amiss
verb_found look word words None = unknown_verb word
verb_found look word words (Some v) = verb_amiss look v words

abbrev pub verbs_amiss : Look → List (List ℕ) → Option Amiss
verbs_amiss look [] = amiss_at [] wrong.NoVerb
verbs_amiss look (word ∷ words) = verb_found look word words (verb_word word)

-- Clients and the driver.

-- the words of lines that aren't built yet, in the place of a file
abbrev pub is_later_deed : List ℕ → Bool
is_later_deed word =
    pointwise nat_eq word (codes "post_send") || pointwise nat_eq word (codes "post_recv") || pointwise nat_eq word (codes "post_srq") || pointwise nat_eq word (codes "poke") || pointwise nat_eq word (codes "peek")

abbrev pub client_amiss : Look → List (List ℕ) → Option Amiss
client_amiss look [] = amiss_at [] (wrong.Missing operand.File)
client_amiss look (word ∷ words) =
    if is_some (file_word word) then verbs_amiss look words
    else amiss_at word (if is_later_deed word then wrong.NotBuilt else wrong.NotA operand.File)

abbrev pub driver_amiss : Look → List (List ℕ) → Option Amiss
driver_amiss look [] = amiss_at [] wrong.Unplug
driver_amiss look (word ∷ words) =
    if pointwise nat_eq word (codes "unplug")
    then then_amiss (operands_left look (operand.Device ∷ []) words) (after_amiss look None)
    else amiss_at word wrong.Unplug

abbrev pub deed_amiss : Before → List ℕ → ℕ → List (List ℕ) → Option Amiss
deed_amiss before word actor words =
    if is_dead before actor then amiss_at word wrong.Dead
    else (if actor == DRIVER then driver_amiss before.look words else client_amiss before.look words)

-- Calls of the data path.

abbrev pub data_amiss : Look → DataWord → List (List ℕ) → Option Amiss
data_amiss look v words = then_amiss (operands_left look (data_takes v) words) (after_amiss look None)

abbrev pub data_call_amiss : Before → List ℕ → ℕ → DataWord → List (List ℕ) → Option Amiss
data_call_amiss before word client v words = if is_dead before client then amiss_at word wrong.Dead else data_amiss before.look v words

-- Heads.

abbrev pub plain_amiss : Before → List ℕ → ℕ → List (List ℕ) → Option (DataWord × List (List ℕ)) → Option Amiss
plain_amiss before word actor words None = deed_amiss before word actor words
plain_amiss before word actor words (Some taken) = data_call_amiss before word actor taken.0 taken.1

abbrev pub living_amiss : Before → List ℕ → ℕ → Option Amiss
living_amiss before word actor = if is_dead before actor then amiss_at word wrong.Dead else None

abbrev pub plus_amiss : Before → List ℕ → ℕ → List (List ℕ) → Option Amiss
plus_amiss before word actor [] = living_amiss before word actor
plus_amiss before word actor (next ∷ words) = amiss_at next wrong.More

abbrev pub client_dies : Before → List ℕ → Option ℕ → Option Amiss
client_dies before word None = amiss_at word wrong.Client
client_dies before word (Some client) = living_amiss before word client

abbrev pub die_amiss : Before → List (List ℕ) → Option Amiss
die_amiss before [] = amiss_at [] wrong.Client
die_amiss before (word ∷ []) = client_dies before word (client_word word)
die_amiss before (word ∷ next ∷ words) = amiss_at next wrong.More

abbrev pub head_amiss : Before → List ℕ → Head → List (List ℕ) → Option Amiss
head_amiss before word (head.Plain actor) words = plain_amiss before word actor words (data_verb actor words)
head_amiss before word (head.Minus actor) words = deed_amiss before word actor words
head_amiss before word (head.Plus actor) words = plus_amiss before word actor words
head_amiss before word head.Die words = die_amiss before words

-- the heads of lines that aren't built yet
abbrev pub is_later_head : List ℕ → Bool
is_later_head word =
    pointwise nat_eq word (codes "settle") || pointwise nat_eq word (codes "tick") || pointwise nat_eq word (codes "turn") || pointwise nat_eq word (codes "net")
    || pointwise nat_eq word (codes "drop") || pointwise nat_eq word (codes "dup") || pointwise nat_eq word (codes "inject") || pointwise nat_eq word (codes "---")

abbrev pub unknown_head : List ℕ → Option Amiss
unknown_head word = amiss_at word (if is_later_head word then wrong.NotBuilt else wrong.Head)

abbrev pub head_found : Before → List ℕ → List (List ℕ) → Option Head → Option Amiss
head_found before word words None = unknown_head word
head_found before word words (Some h) = head_amiss before word h words

abbrev pub words_amiss : Before → List (List ℕ) → Option Amiss
words_amiss before [] = None
words_amiss before (word ∷ words) = head_found before word words (head_word word)

-- Lines.

abbrev pub text_amiss : Before → List ℕ → Option Amiss
text_amiss before text =
    if not (is_plain_text text) then amiss_at [] wrong.Byte else (if is_remark text then None else words_amiss before (words_of text))

-- what is wrong with a line, with its end
abbrev pub line_amiss : Before → List ℕ → Option Amiss
line_amiss before line = if nat_lt SCRIPT_LINES before.number then amiss_at [] wrong.Lines else text_amiss before (text_of line)

-- Scripts: the first line with which something is wrong.

pub record AmissLine : Type 0 where
  pub number : ℕ
  pub amiss : Amiss

-- a line in front of what is wrong with the lines after it
abbrev pub amiss_then : ℕ → Option Amiss → Option AmissLine → Option AmissLine
amiss_then number None more = more
amiss_then number (Some a) more = Some (record { number = number; amiss = a })

abbrev pub amiss_from : Before → List (List ℕ) → Option AmissLine
amiss_from before [] = None
amiss_from before (text ∷ texts) = amiss_then before.number (line_amiss before text) (amiss_from (after_line before (reading_of before text)) texts)

abbrev pub amiss_of : List ℕ → Option AmissLine
amiss_of bytes = amiss_from at_start (lines_of bytes)

-- The laws.

-- something is wrong with a line exactly where it is outside the language
abbrev pub LineIsAmiss : Type 0
LineIsAmiss = (before : Before) (line : List ℕ) → is_some (line_amiss before line) ≡ is_outside (reading_of before line)

-- the line with which something is wrong is the first that is outside the language, where there is one
abbrev pub ScriptIsAmiss : Type 0
ScriptIsAmiss = (mode : Mode) (bytes : List ℕ) → option_map (λ (a : AmissLine). a.number) (amiss_of bytes) ≡ result_err (script_of mode bytes)
