-- What a line says is in its ranges.
use Rattle.std.proofs.Common.{◌≡◌, ℕ, zero, suc, ◌<◌, ◌==◌, List, [], ◌∷◌, ◌++◌, length, get_or, refl, sym, ap, subst, arith, Bool, true, false, cond, not, ◌&&◌, nat_lt, nat_le, Option, Some, None, option_and_then, Result, Ok, Err}
use Rattle.std.proofs.lemmas.Bool.{ltb-true, leb-true, eqb-true, eqb-false, and_parts}
use Rattle.std.proofs.lemmas.List.Elements.{All-append}
use Rattle.std.specs.List.{All}
use Rattle.uv_num.specs.declared.errno.Errno.{Errno}
use Rattle.uv_num.specs.declared.kind.Kind.{Kind}
use Rattle.uv_num.specs.declared.kind.Kind.TheVariants.{Channel, Cq}
use Rattle.uv_num.specs.declared.request.Request.{Request}
use Rattle.uv_schema.specs.Commands.{command_of}
use Rattle.uv_script.specs.Before.{Before, is_dead}
use Rattle.uv_script.specs.Built.{verb_for}
use Rattle.uv_script.specs.Bytes.{spelled_bytes}
use Rattle.uv_script.specs.DataCalls.{as_count, count_word, solicited_word, data_operands, ended, data_call, data_call_of}
use Rattle.uv_script.specs.DataVerbs.{data_word, data_verb}
use Rattle.uv_script.specs.Deeds.{calls, opens, command_deed, gives_command, gives_bytes, verb_deed, naming_after, Stated, stated, client_deed, unplug_word, driver_deed, deed_of}
use Rattle.uv_script.specs.Handles.{object_word}
use Rattle.uv_script.specs.Heads.{head_word, actor_head, last_byte, without_last}
use Rattle.uv_script.specs.Lines.{text_of, is_plain_text}
use Rattle.uv_script.specs.Names.{Look}
use Rattle.uv_script.specs.Numbers.{number_of}
use Rattle.uv_script.specs.Operands.{Asks, create_operands, destroy_operands, bind_operands}
use Rattle.uv_script.specs.Places.{numbered, as_client, as_file, as_device, client_word, actor_word, file_word, device_word}
use Rattle.uv_script.specs.Ranges.{IsClient, IsActor, IsCaller, MayDo, IsPollCount, HasCallRanges, HasRanges, IsInRange}
use Rattle.uv_script.specs.Reading.{Reading, Outside, Nothing, Says, says_plain, says_data, plain_reading, says_minus, living, says_plus, says_die, head_reading, given_head, words_reading, is_remark, text_reading, reading_of}
use Rattle.uv_script.specs.Script.{lines_at}
use Rattle.uv_script.specs.Verbs.{verb_word, kind_made}
use Rattle.uv_script.specs.Words.{words_of, only_of, first_as}
use Rattle.uv_script.specs.declared.data_verbs.DataWord.{DataWord}
use Rattle.uv_script.specs.declared.data_verbs.DataWord.TheVariants as dataverb
use Rattle.uv_script.specs.declared.form.DataCall.{DataCall}
use Rattle.uv_script.specs.declared.form.Deed.{Deed}
use Rattle.uv_script.specs.declared.form.Deed.TheVariants as deed
use Rattle.uv_script.specs.declared.form.Form.{Form}
use Rattle.uv_script.specs.declared.form.Form.TheVariants.{Plus, Die}
use Rattle.uv_script.specs.declared.form.Line.{Line}
use Rattle.uv_script.specs.declared.heads.Head.{Head}
use Rattle.uv_script.specs.declared.heads.Head.TheVariants as head
use Rattle.uv_script.specs.declared.verbs.VerbWord.{VerbWord}
use Rattle.uv_script.specs.declared.verbs.VerbWord.TheVariants as verb
use Rattle.uv_script.proofs.Taken.{OfSome, any-of, choice-of, and_then-of, map-of, map-any, OfTaken, first_as-of, then_take-of, then_take-any}

-- Places.

as_client-range : (n : ℕ) → OfSome IsClient (as_client n)
as_client-range n =
    choice-of IsClient (nat_le 1 n && nat_le n 8) (Some n) None (λ yes.
    let both : (nat_le 1 n ≡ true) × (nat_le n 8 ≡ true) = and_parts (nat_le 1 n) (nat_le n 8) yes in
    record { first = leb-true 1 n both.0; last = leb-true n 8 both.1 }) (λ no. tt)

as_file-range : (n : ℕ) → OfSome (λ f. f < 16) (as_file n)
as_file-range n = choice-of (λ f. f < 16) (nat_lt n 16) (Some n) None (λ yes. ltb-true n 16 yes) (λ no. tt)

as_device-range : (n : ℕ) → OfSome (λ d. d < 2) (as_device n)
as_device-range n = choice-of (λ d. d < 2) (nat_lt n 2) (Some n) None (λ yes. ltb-true n 2 yes) (λ no. tt)

client_word-range : (word : List ℕ) → OfSome IsClient (client_word word)
client_word-range word = and_then-of IsClient as_client (numbered 99 word) as_client-range

file_word-range : (word : List ℕ) → OfSome (λ f. f < 16) (file_word word)
file_word-range word = and_then-of (λ f. f < 16) as_file (numbered 102 word) as_file-range

device_word-range : (word : List ℕ) → OfSome (λ d. d < 2) (device_word word)
device_word-range word = and_then-of (λ d. d < 2) as_device (numbered 100 word) as_device-range

client-actor : (o : Option ℕ) → OfSome IsClient o → OfSome IsActor o
client-actor None holds = tt
client-actor (Some a) holds = record { first = holds.first; last = omega (arith, holds.last) }

actor_word-range : (word : List ℕ) → OfSome IsActor (actor_word word)
actor_word-range word =
    choice-of IsActor _ (Some 9) (client_word word) (λ yes. record { first = omega arith; last = omega arith }) (λ no. client-actor (client_word word) (client_word-range word))

-- Heads.

abbrev pub IsHeadInRange : Head → Type 0
IsHeadInRange (head.Plain actor) = IsActor actor
IsHeadInRange (head.Minus actor) = IsActor actor
IsHeadInRange (head.Plus actor) = IsActor actor
IsHeadInRange head.Die = Unit {0}

actor_head-range : (word : List ℕ) → OfSome IsHeadInRange (actor_head word)
actor_head-range word =
    choice-of IsHeadInRange (last_byte word == 45) _ _ (λ yes. map-of IsActor IsHeadInRange head.Minus (actor_word (without_last word)) (actor_word-range (without_last word)) (λ a holds. holds)) (λ no.
    choice-of IsHeadInRange (last_byte word == 43) _ _ (λ yes. map-of IsActor IsHeadInRange head.Plus (actor_word (without_last word)) (actor_word-range (without_last word)) (λ a holds. holds)) (λ no2.
    map-of IsActor IsHeadInRange head.Plain (actor_word word) (actor_word-range word) (λ a holds. holds)))

head_word-range : (word : List ℕ) → OfSome IsHeadInRange (head_word word)
head_word-range word = choice-of IsHeadInRange _ (Some head.Die) (actor_head word) (λ yes. tt) (λ no. actor_head-range word)

-- Deeds.

calls-range : (client file : ℕ) (asks : Asks) → IsCaller client file → OfTaken (MayDo client) (calls file asks)
calls-range client file asks caller = map-any (λ t. MayDo client t.0) _ asks (λ t. caller)

opens-range : (client file : ℕ) (words : List (List ℕ)) → IsCaller client file → OfTaken (MayDo client) (opens file words)
opens-range client file words caller =
    then_take-of (λ d. d < 2) (λ t. MayDo client t.0) (first_as device_word words) _ (first_as-of (λ d. d < 2) device_word words device_word-range) (λ device rest below. (caller, below))

command_deed-range : (client file : ℕ) (command : Result Request Errno) → IsCaller client file → OfSome (MayDo client) (command_deed file command)
command_deed-range client file (Err errno) caller = caller.client
command_deed-range client file (Ok request) caller = map-any (MayDo client) (deed.Call file) (verb_for request) (λ v. caller)

gives-range : (client file : ℕ) (bytes : List ℕ) (rest : List (List ℕ)) → IsCaller client file → OfTaken (MayDo client) (gives_command file bytes rest)
gives-range client file bytes rest caller =
    map-of (MayDo client) (λ t. MayDo client t.0) (λ d. (d, rest)) (command_deed file (command_of bytes)) (command_deed-range client file (command_of bytes) caller) (λ d holds. holds)

gives_bytes-range : (client file : ℕ) (words : List (List ℕ)) → IsCaller client file → OfTaken (MayDo client) (gives_bytes file words)
gives_bytes-range client file words caller =
    then_take-any (λ t. MayDo client t.0) (first_as spelled_bytes words) (gives_command file) (λ bytes rest. gives-range client file bytes rest caller)

verb_deed-range : (look : Look) (client file : ℕ) (v : VerbWord) (words : List (List ℕ)) → IsCaller client file → OfTaken (MayDo client) (verb_deed look file v words)
verb_deed-range look client file verb.Open words caller = opens-range client file words caller
verb_deed-range look client file verb.Close words caller = caller
verb_deed-range look client file verb.Raw words caller = gives_bytes-range client file words caller
verb_deed-range look client file (verb.Create kind) words caller = calls-range client file (create_operands look kind words) caller
verb_deed-range look client file (verb.Destroy kind) words caller = calls-range client file (destroy_operands look kind words) caller
verb_deed-range look client file verb.BindMw words caller = calls-range client file (bind_operands look words) caller
verb_deed-range look client file verb.GetAsync words caller = caller

-- the deed of a line is one that the actor may do
abbrev pub IsStatedInRange : ℕ → Option Stated → Type 0
IsStatedInRange actor told = OfSome (λ s. MayDo actor s.deed) told

stated-range : (look : Look) (made : Option Kind) (actor : ℕ) (does : Deed) (rest : List (List ℕ)) → MayDo actor does → IsStatedInRange actor (stated look made does rest)
stated-range look made actor does rest may = map-any (λ s. MayDo actor s.deed) _ (naming_after look made rest) (λ naming. may)

client_deed-range : (look : Look) (client : ℕ) (words : List (List ℕ)) → IsClient client → IsStatedInRange client (client_deed look words)
client_deed-range look client words some =
    then_take-of (λ f. f < 16) (λ s. MayDo client s.deed) (first_as file_word words) _ (first_as-of (λ f. f < 16) file_word words file_word-range) (λ file rest1 below.
    then_take-any (λ s. MayDo client s.deed) (first_as verb_word rest1) _ (λ v rest2.
    then_take-of (MayDo client) (λ s. MayDo client s.deed) (verb_deed look file v rest2) _ (verb_deed-range look client file v rest2 (record { client = some; below = below })) (λ does rest3 may.
    stated-range look (kind_made v) client does rest3 may)))

driver_deed-range : (look : Look) (words : List (List ℕ)) → IsStatedInRange 9 (driver_deed look words)
driver_deed-range look words =
    then_take-any (λ s. MayDo 9 s.deed) (first_as unplug_word words) _ (λ unplug rest1.
    then_take-of (λ d. d < 2) (λ s. MayDo 9 s.deed) (first_as device_word rest1) _ (first_as-of (λ d. d < 2) device_word rest1 device_word-range) (λ device rest2 below.
    stated-range look None 9 (deed.Unplug device) rest2 (refl, below)))

-- an actor that isn't the driver is a client
is-client : (actor : ℕ) → IsActor actor → (actor ≡ 9 → ⊥) → IsClient actor
is-client actor some other = record { first = some.first; last = omega (arith, some.last, other) }

by-driver : (look : Look) (actor : ℕ) (words : List (List ℕ)) → actor ≡ 9 → IsStatedInRange actor (driver_deed look words)
by-driver look actor words is = let P : ℕ → Type 0 = λ a. IsStatedInRange a (driver_deed look words) in subst P (sym is) (driver_deed-range look words)

deed_of-range : (before : Before) (actor : ℕ) (words : List (List ℕ)) → IsActor actor → IsStatedInRange actor (deed_of before actor words)
deed_of-range before actor words some =
    choice-of (λ s. MayDo actor s.deed) (is_dead before actor) None _ (λ dead. tt) (λ alive.
    choice-of (λ s. MayDo actor s.deed) (actor == 9) (driver_deed before.look words) (client_deed before.look words)
    (λ yes. by-driver before.look actor words (eqb-true actor 9 yes))
    (λ no. client_deed-range before.look actor words (is-client actor some (eqb-false actor 9 no))))

-- Calls of the data path.

as_count-range : (n : ℕ) → OfSome IsPollCount (as_count n)
as_count-range n =
    choice-of IsPollCount (nat_le 1 n && nat_le n 64) (Some n) None (λ yes.
    let both : (nat_le 1 n ≡ true) × (nat_le n 64 ≡ true) = and_parts (nat_le 1 n) (nat_le n 64) yes in
    record { first = leb-true 1 n both.0; last = leb-true n 64 both.1 }) (λ no. tt)

count_word-range : (word : List ℕ) → OfSome IsPollCount (count_word word)
count_word-range word = and_then-of IsPollCount as_count (number_of word) as_count-range

data_operands-range : (look : Look) (v : DataWord) (words : List (List ℕ)) → OfTaken HasCallRanges (data_operands look v words)
data_operands-range look dataverb.Poll words =
    then_take-any (λ t. HasCallRanges t.0) (first_as (object_word look Cq) words) _ (λ cq rest1.
    then_take-of IsPollCount (λ t. HasCallRanges t.0) (first_as count_word rest1) _ (first_as-of IsPollCount count_word rest1 count_word-range) (λ count rest2 some. some))
data_operands-range look dataverb.Arm words =
    then_take-any (λ t. HasCallRanges t.0) (first_as (object_word look Cq) words) _ (λ cq rest1.
    then_take-any (λ t. HasCallRanges t.0) (first_as solicited_word rest1) _ (λ solicited rest2. tt))
data_operands-range look dataverb.Event words = then_take-any (λ t. HasCallRanges t.0) (first_as (object_word look Channel) words) _ (λ channel rest1. tt)

ended-range : (call : DataCall) (rest : List (List ℕ)) → HasCallRanges call → OfSome HasCallRanges (ended call rest)
ended-range call [] ranges = ranges
ended-range call (word ∷ words) ranges = tt

data_call_of-range : (before : Before) (client : ℕ) (v : DataWord) (words : List (List ℕ)) → OfSome HasCallRanges (data_call_of before client v words)
data_call_of-range before client v words =
    choice-of HasCallRanges (is_dead before client) None (data_call before.look v words) (λ dead. tt) (λ alive.
    then_take-of HasCallRanges HasCallRanges (data_operands before.look v words) ended (data_operands-range before.look v words) ended-range)

-- a verb of the data path stands after a client
data_verb-client : (actor : ℕ) (words : List (List ℕ)) → IsActor actor → OfSome (λ t. IsClient actor) (data_verb actor words)
data_verb-client actor words some =
    choice-of (λ t. IsClient actor) (actor == 9) None (first_as data_word words) (λ yes. tt) (λ no.
    first_as-of (λ v. IsClient actor) data_word words (λ word. any-of (λ v. IsClient actor) (data_word word) (λ v. is-client actor some (eqb-false actor 9 no))))

-- Readings.

-- what is said is in its ranges
abbrev pub IsReadInRange : Reading → Type 0
IsReadInRange Outside = Unit {0}
IsReadInRange Nothing = Unit {0}
IsReadInRange (Says form naming) = HasRanges form

choice-range : (b : Bool) (x y : Reading) → IsReadInRange x → IsReadInRange y → IsReadInRange (cond b x y)
choice-range true x y in_x in_y = in_x
choice-range false x y in_x in_y = in_y

says_plain-range : (actor : ℕ) (told : Option Stated) → IsStatedInRange actor told → IsReadInRange (says_plain actor told)
says_plain-range actor None may = tt
says_plain-range actor (Some told) may = may

says_data-range : (client : ℕ) (call : Option DataCall) → IsClient client → OfSome HasCallRanges call → IsReadInRange (says_data client call)
says_data-range client None some ranges = tt
says_data-range client (Some call) some ranges = (some, ranges)

plain_reading-range : (before : Before) (actor : ℕ) (words : List (List ℕ)) (taken : Option (DataWord × List (List ℕ))) → IsActor actor → OfSome (λ t. IsClient actor) taken → IsReadInRange (plain_reading before actor words taken)
plain_reading-range before actor words None some client = says_plain-range actor (deed_of before actor words) (deed_of-range before actor words some)
plain_reading-range before actor words (Some t) some client = says_data-range actor (data_call_of before actor t.0 t.1) client (data_call_of-range before actor t.0 t.1)

says_minus-range : (actor : ℕ) (told : Option Stated) → IsStatedInRange actor told → IsReadInRange (says_minus actor told)
says_minus-range actor None may = tt
says_minus-range actor (Some told) may = may

living-range : (before : Before) (actor : ℕ) (form : Form) → HasRanges form → IsReadInRange (living before actor form)
living-range before actor form ranges = choice-range (is_dead before actor) Outside (Says form None) tt ranges

says_plus-range : (before : Before) (actor : ℕ) (words : List (List ℕ)) → IsActor actor → IsReadInRange (says_plus before actor words)
says_plus-range before actor [] some = living-range before actor (Plus actor) some
says_plus-range before actor (word ∷ words) some = tt

says_die-range : (before : Before) (client : Option ℕ) → OfSome IsClient client → IsReadInRange (says_die before client)
says_die-range before None some = tt
says_die-range before (Some client) some = living-range before client (Die client) some

head_reading-range : (before : Before) (h : Head) (words : List (List ℕ)) → IsHeadInRange h → IsReadInRange (head_reading before h words)
head_reading-range before (head.Plain actor) words some = plain_reading-range before actor words (data_verb actor words) some (data_verb-client actor words some)
head_reading-range before (head.Minus actor) words some = says_minus-range actor (deed_of before actor words) (deed_of-range before actor words some)
head_reading-range before (head.Plus actor) words some = says_plus-range before actor words some
head_reading-range before head.Die words some =
    says_die-range before (option_and_then client_word (only_of words)) (and_then-of IsClient client_word (only_of words) client_word-range)

given_head-range : (before : Before) (words : List (List ℕ)) (h : Option Head) → OfSome IsHeadInRange h → IsReadInRange (given_head before words h)
given_head-range before words None some = tt
given_head-range before words (Some h) some = head_reading-range before h words some

words_reading-range : (before : Before) (words : List (List ℕ)) → IsReadInRange (words_reading before words)
words_reading-range before [] = tt
words_reading-range before (word ∷ words) = given_head-range before words (head_word word) (head_word-range word)

text_reading-range : (before : Before) (text : List ℕ) → IsReadInRange (text_reading before text)
text_reading-range before text =
    choice-range (not (is_plain_text text)) Outside _ tt
    (choice-range (is_remark text) Nothing (words_reading before (words_of text)) tt (words_reading-range before (words_of text)))

reading_of-range : (before : Before) (line : List ℕ) → IsReadInRange (reading_of before line)
reading_of-range before line = choice-range (nat_lt 20000 before.number) Outside (text_reading before (text_of line)) tt (text_reading-range before (text_of line))

-- Lines.

one-range : (line : Line) → IsInRange line → (k : ℕ) (d : Line) → k < length (line ∷ []) → IsInRange (get_or (line ∷ []) k d)
one-range line range zero d below = range
one-range line range (suc k) d below = absurd (omega arith)

none-range : (k : ℕ) (d : Line) → k < length {A = Line} [] → IsInRange (get_or [] k d)
none-range k d below = absurd (omega arith)

lines_at-range : (number : ℕ) (reading : Reading) → IsReadInRange reading → All IsInRange (lines_at number reading)
lines_at-range number Outside range = none-range
lines_at-range number Nothing range = none-range
lines_at-range number (Says form naming) range = one-range (record { number = number; form = form }) range

-- no lines are in range
pub no-lines : (lines : List Line) → lines ≡ [] → All IsInRange lines
no-lines lines none = let P : List Line → Type 0 = All IsInRange in subst P (sym none) none-range

-- with what a line adds the lines stay in their ranges
pub more-lines : (before : Before) (line : List ℕ) (reading : Reading) (lines next : List Line) → All IsInRange lines → reading ≡ reading_of before line → next ≡ lines ++ lines_at before.number reading → All IsInRange next
more-lines before line reading lines next ranges is put =
    let P : Reading → Type 0 = IsReadInRange in
    let Q : List Line → Type 0 = All IsInRange in
    subst Q (sym put) (All-append IsInRange lines (lines_at before.number reading) ranges (lines_at-range before.number reading (subst P (sym is) (reading_of-range before line))))

-- the line at a place is in its ranges
pub in_range-at : (lines shown whole : List Line) (place : ℕ) (d : Line) → shown ≡ lines → lines ≡ whole → place < length whole → All IsInRange lines → IsInRange (get_or shown place d)
in_range-at lines shown whole place d is view below ranges =
    let P : List Line → Type 0 = λ v. IsInRange (get_or v place d) in
    let within : place < length lines = omega (arith, ap length view, below) in
    subst P (sym is) (ranges place d within)
