-- Something is wrong with a line exactly where it is outside the language.
use Rattle.std.proofs.Common.{◌≡◌, ℕ, ◌==◌, Bool, true, false, List, [], ◌∷◌, Option, Some, None, Ok, Err, refl, sym, ap, subst, ◌∙◌}
use Rattle.std.specs.Prelude.{not, ◌&&◌, nat_eq, nat_lt, codes, Result, is_some, is_none, option_map, option_and_then, if◌then◌else◌}
use Rattle.std.specs.Cmp.Lexicographic.{pointwise}
use Rattle.std.specs.Option.{option_or}
use Rattle.std.specs.Result.{result_err}
use Rattle.uv_num.specs.declared.errno.Errno.{Errno}
use Rattle.uv_num.specs.declared.kind.Kind.{Kind}
use Rattle.uv_num.specs.declared.kind.Kind.TheVariants as kind
use Rattle.uv_num.specs.declared.limits.TheConstants.{DRIVER, SCRIPT_LINES}
use Rattle.uv_num.specs.declared.request.Request.{Request}
use Rattle.uv_schema.specs.Commands.{command_of}
use Rattle.uv_script.specs.Amiss.{Amiss, AmissLine, amiss_at, word_wrong, create_takes, verb_takes, data_takes, is_operand, operands_left, then_amiss, name_amiss, after_amiss, is_built, bytes_are_built, verb_amiss, verb_found, verbs_amiss, is_later_deed, client_amiss, driver_amiss, deed_amiss, data_amiss, data_call_amiss, plain_amiss, living_amiss, plus_amiss, client_dies, die_amiss, head_amiss, head_found, words_amiss, text_amiss, line_amiss, amiss_then, amiss_from, LineIsAmiss, ScriptIsAmiss}
use Rattle.uv_script.specs.Before.{Before, at_start, is_dead}
use Rattle.uv_script.specs.Built.{verb_for}
use Rattle.uv_script.specs.Bytes.{spelled_bytes}
use Rattle.uv_script.specs.DataCalls.{count_word, solicited_word, DataAsks, data_operands, ended, data_call, data_call_of}
use Rattle.uv_script.specs.DataVerbs.{data_verb}
use Rattle.uv_script.specs.Deeds.{Does, command_deed, gives_command, verb_deed, new_name, naming_after, Stated, stated, client_deed, driver_deed, deed_of}
use Rattle.uv_script.specs.Handles.{handle_word, may_handle_word, object_word}
use Rattle.uv_script.specs.Heads.{head_word}
use Rattle.uv_script.specs.Lines.{lines_of, text_of, is_plain_text}
use Rattle.uv_script.specs.Names.{is_name, Look, Naming}
use Rattle.uv_script.specs.Numbers.{number_of}
use Rattle.uv_script.specs.Operands.{service_word, create_operands, bind_operands}
use Rattle.uv_script.specs.Places.{client_word, file_word, device_word}
use Rattle.uv_script.specs.Reading.{Reading, Outside, Nothing, Says, says_plain, says_data, plain_reading, says_minus, living, says_plus, says_die, head_reading, given_head, words_reading, is_remark, text_reading, reading_of}
use Rattle.uv_script.specs.Script.{is_outside, lines_at, after_line, in_front_of, script_from}
use Rattle.uv_script.specs.Verbs.{verb_word, kind_made}
use Rattle.uv_script.specs.Words.{words_of, only_of, first_as, then_take}
use Rattle.uv_script.specs.declared.data_verbs.DataWord.{DataWord}
use Rattle.uv_script.specs.declared.data_verbs.DataWord.TheVariants as dataverb
use Rattle.uv_script.specs.declared.form.DataCall.{DataCall}
use Rattle.uv_script.specs.declared.form.Deed.{Deed}
use Rattle.uv_script.specs.declared.form.Deed.TheVariants as deed
use Rattle.uv_script.specs.declared.form.Form.{Form}
use Rattle.uv_script.specs.declared.form.Line.{Line}
use Rattle.uv_script.specs.declared.form.Mode.{Mode}
use Rattle.uv_script.specs.declared.form.Mode.TheVariants.{Steps}
use Rattle.uv_script.specs.declared.heads.Head.{Head}
use Rattle.uv_script.specs.declared.heads.Head.TheVariants as head
use Rattle.uv_script.specs.declared.verbs.VerbWord.{VerbWord}
use Rattle.uv_script.specs.declared.verbs.VerbWord.TheVariants as verb
use Rattle.uv_script.specs.declared.wrong.Operand.{Operand}
use Rattle.uv_script.specs.declared.wrong.Operand.TheVariants as operand
use Rattle.uv_script.specs.declared.wrong.Wrong.{Wrong}
use Rattle.uv_script.specs.declared.wrong.Wrong.TheVariants as wrong

-- Operands: what is taken from the front leaves the same words, or both stop.

abbrev Fits : {B : Type 0} → Option (B × List (List ℕ)) → Result (List (List ℕ)) Amiss → Type 0
Fits None (Err a) = Unit {0}
Fits None (Ok rest) = ⊥
Fits (Some t) (Err a) = ⊥
Fits (Some t) (Ok rest) = t.1 ≡ rest

module _ {A B : Type 0} (look : Look) (os : List Operand) (next : A → List (List ℕ) → Option (B × List (List ℕ))) (each : (a : A) (rest : List (List ℕ)) → Fits (next a rest) (operands_left look os rest)) where
  word-fits : (o : Operand) (word : List ℕ) (words : List (List ℕ)) (r : Option A)
      → Fits (then_take (option_map (λ value. (value, words)) r) next) (if is_some r then operands_left look os words else Err (record { word = word; wrong = word_wrong look o word }))
  word-fits o word words None = tt
  word-fits o word words (Some a) = each a words

  taken-fits : (o : Operand) (read : List ℕ → Option A) → ((word : List ℕ) → is_operand look o word ≡ is_some (read word)) → (words : List (List ℕ))
      → Fits (then_take (first_as read words) next) (operands_left look (o ∷ os) words)
  taken-fits o read same [] = tt
  taken-fits o read same (word ∷ words) =
      subst
      (λ (b : Bool). Fits (then_take (option_map (λ value. (value, words)) (read word)) next) (if b then operands_left look os words else Err (record { word = word; wrong = word_wrong look o word })))
      (sym (same word))
      (word-fits o word words (read word))

create-fits : (look : Look) (k : Kind) (words : List (List ℕ)) → Fits (create_operands look k words) (operands_left look (create_takes k) words)
create-fits look kind.Pd words = refl
create-fits look kind.Channel words = refl
create-fits look kind.Cq words =
    taken-fits look (operand.MayHandle ∷ []) _ (λ depth rest1.
    taken-fits look [] _ (λ channel rest2. refl) operand.MayHandle (may_handle_word look) (λ word. refl) rest1) operand.Number number_of (λ word. refl) words
create-fits look kind.Qp words =
    taken-fits look (operand.Handle ∷ operand.Handle ∷ operand.MayHandle ∷ operand.Service ∷ operand.Number ∷ operand.Number ∷ []) _ (λ pd rest1.
    taken-fits look (operand.Handle ∷ operand.MayHandle ∷ operand.Service ∷ operand.Number ∷ operand.Number ∷ []) _ (λ send_cq rest2.
    taken-fits look (operand.MayHandle ∷ operand.Service ∷ operand.Number ∷ operand.Number ∷ []) _ (λ recv_cq rest3.
    taken-fits look (operand.Service ∷ operand.Number ∷ operand.Number ∷ []) _ (λ srq rest4.
    taken-fits look (operand.Number ∷ operand.Number ∷ []) _ (λ service rest5.
    taken-fits look (operand.Number ∷ []) _ (λ send_depth rest6.
    taken-fits look [] _ (λ recv_depth rest7. refl) operand.Number number_of (λ word. refl) rest6) operand.Number number_of (λ word. refl) rest5) operand.Service service_word (λ word. refl) rest4) operand.MayHandle (may_handle_word look) (λ word. refl) rest3) operand.Handle (handle_word look) (λ word. refl) rest2) operand.Handle (handle_word look) (λ word. refl) rest1) operand.Handle (handle_word look) (λ word. refl) words
create-fits look kind.Srq words =
    taken-fits look (operand.Number ∷ []) _ (λ pd rest1.
    taken-fits look [] _ (λ depth rest2. refl) operand.Number number_of (λ word. refl) rest1) operand.Handle (handle_word look) (λ word. refl) words
create-fits look kind.Ah words =
    taken-fits look (operand.Device ∷ []) _ (λ pd rest1.
    taken-fits look [] _ (λ device rest2. refl) operand.Device device_word (λ word. refl) rest1) operand.Handle (handle_word look) (λ word. refl) words
create-fits look kind.Mr words =
    taken-fits look (operand.Number ∷ operand.Number ∷ []) _ (λ pd rest1.
    taken-fits look (operand.Number ∷ []) _ (λ length rest2.
    taken-fits look [] _ (λ access rest3. refl) operand.Number number_of (λ word. refl) rest2) operand.Number number_of (λ word. refl) rest1) operand.Handle (handle_word look) (λ word. refl) words
create-fits look kind.Mw words = taken-fits look [] _ (λ pd rest1. refl) operand.Handle (handle_word look) (λ word. refl) words

bind-fits : (look : Look) (words : List (List ℕ)) → Fits (bind_operands look words) (operands_left look (verb_takes verb.BindMw) words)
bind-fits look words =
    taken-fits look (operand.MayHandle ∷ operand.Number ∷ operand.Number ∷ operand.Number ∷ []) _ (λ mw rest1.
    taken-fits look (operand.Number ∷ operand.Number ∷ operand.Number ∷ []) _ (λ mr rest2.
    taken-fits look (operand.Number ∷ operand.Number ∷ []) _ (λ offset rest3.
    taken-fits look (operand.Number ∷ []) _ (λ length rest4.
    taken-fits look [] _ (λ access rest5. refl) operand.Number number_of (λ word. refl) rest4) operand.Number number_of (λ word. refl) rest3) operand.Number number_of (λ word. refl) rest2) operand.MayHandle (may_handle_word look) (λ word. refl) rest1) operand.Handle (handle_word look) (λ word. refl) words

-- a call's deed takes what its operands take
calls-fit : {V : Type 0} (f : V → Deed) (asks : Option (V × List (List ℕ))) (left : Result (List (List ℕ)) Amiss) → Fits asks left → Fits (option_map (λ t. (f t.0, t.1)) asks) left
calls-fit f None (Err a) fits = tt
calls-fit f None (Ok rest) fits = fits
calls-fit f (Some t) (Err a) fits = fits
calls-fit f (Some t) (Ok rest) fits = fits

-- What stands after the operands.

name_so : (named : Bool) (free : Bool) (x y : Amiss) (n : Option Naming)
    → is_some (if not named then Some x else (if free then None else Some y)) ≡ is_none (if named && free then Some n else None)
name_so true true x y n = refl
name_so true false x y n = refl
name_so false free x y n = refl

name-amiss : (look : Look) (k : Kind) (words : List (List ℕ)) → is_some (name_amiss look words) ≡ is_none (new_name look k (only_of words))
name-amiss look k [] = refl
name-amiss look k (name ∷ []) =
    name_so
    (is_name name)
    (is_none (look name))
    (record { word = name; wrong = wrong.BadName })
    (record { word = name; wrong = wrong.Twice })
    (Some (record { name = name; kind = k }))
name-amiss look k (name ∷ next ∷ words) = refl

as_so : (b : Bool) (x : Amiss) (o : Option Amiss) (n : Option (Option Naming)) → is_some o ≡ is_none n → is_some (if b then o else Some x) ≡ is_none (if b then n else None)
as_so true x o n same = same
as_so false x o n same = refl

after-amiss : (look : Look) (made : Option Kind) (words : List (List ℕ)) → is_some (after_amiss look made words) ≡ is_none (naming_after look made words)
after-amiss look None [] = refl
after-amiss look (Some k) [] = refl
after-amiss look None (word ∷ words) = refl
after-amiss look (Some k) (word ∷ words) =
    as_so (pointwise nat_eq word (codes "as")) (record { word = word; wrong = wrong.More }) (name_amiss look words) (new_name look k (only_of words)) (name-amiss look k words)

none-map : {A B : Type 0} (f : A → B) (o : Option A) → is_none o ≡ is_none (option_map f o)
none-map f None = refl
none-map f (Some a) = refl

stated-amiss : (look : Look) (made : Option Kind) (does : Deed) (rest : List (List ℕ)) → is_some (after_amiss look made rest) ≡ is_none (stated look made does rest)
stated-amiss look made does rest = after-amiss look made rest ∙ none-map _ (naming_after look made rest)

-- Verbs.

abbrev IsAmissAs : Option Amiss → Option Stated → Type 0
IsAmissAs told read = is_some told ≡ is_none read

deed-amiss : (look : Look) (made : Option Kind) (does : Does) (left : Result (List (List ℕ)) Amiss) → Fits does left
    → IsAmissAs (then_amiss left (after_amiss look made)) (then_take does (stated look made))
deed-amiss look made None (Err a) fits = refl
deed-amiss look made None (Ok rest) fits = absurd fits
deed-amiss look made (Some t) (Err a) fits = absurd fits
deed-amiss look made (Some t) (Ok rest) fits = ap (λ (v : List (List ℕ)). is_some (after_amiss look made v)) (sym fits) ∙ stated-amiss look made t.0 t.1

-- command bytes
some-map : {A B : Type 0} (f : A → B) (o : Option A) → is_some (option_map f o) ≡ is_some o
some-map f None = refl
some-map f (Some a) = refl

built-so : (file : ℕ) (command : Result Request Errno) → is_built command ≡ is_some (command_deed file command)
built-so file (Err errno) = refl
built-so file (Ok request) = sym (some-map (deed.Call file) (verb_for request))

command-amiss : (look : Look) (word : List ℕ) (rest : List (List ℕ)) (d : Option Deed) (b : Bool) → b ≡ is_some d
    → IsAmissAs (option_or (if b then None else amiss_at word wrong.NotBuilt) (after_amiss look None rest)) (then_take (option_map (λ v. (v, rest)) d) (stated look None))
command-amiss look word rest None b same = subst (λ (v : Bool). IsAmissAs (option_or (if v then None else amiss_at word wrong.NotBuilt) (after_amiss look None rest)) None) (sym same) refl
command-amiss look word rest (Some d) b same =
    subst
    (λ (v : Bool). IsAmissAs (option_or (if v then None else amiss_at word wrong.NotBuilt) (after_amiss look None rest)) (stated look None d rest))
    (sym same)
    (stated-amiss look None d rest)

raw-so : (look : Look) (file : ℕ) (word : List ℕ) (words : List (List ℕ)) (bytes : Option (List ℕ))
    → IsAmissAs
    (then_amiss (if is_some bytes then Ok words else Err (record { word = word; wrong = wrong.NotA operand.Bytes })) (λ rest. option_or (if bytes_are_built bytes then None else amiss_at word wrong.NotBuilt) (after_amiss look None rest)))
    (then_take (then_take (option_map (λ value. (value, words)) bytes) (gives_command file)) (stated look None))
raw-so look file word words None = refl
raw-so look file word words (Some bytes) =
    command-amiss look word words (command_deed file (command_of bytes)) (is_built (command_of bytes)) (built-so file (command_of bytes))

raw-amiss : (look : Look) (file : ℕ) (words : List (List ℕ)) → IsAmissAs (verb_amiss look verb.Raw words) (then_take (verb_deed look file verb.Raw words) (stated look None))
raw-amiss look file [] = refl
raw-amiss look file (word ∷ words) = raw-so look file word words (spelled_bytes word)

verb-amiss : (look : Look) (file : ℕ) (v : VerbWord) (words : List (List ℕ)) → IsAmissAs (verb_amiss look v words) (then_take (verb_deed look file v words) (stated look (kind_made v)))
verb-amiss look file verb.Open words =
    deed-amiss look None _ _ (taken-fits look [] (λ device rest. Some (deed.Open file device, rest)) (λ device rest. refl) operand.Device device_word (λ word. refl) words)
verb-amiss look file verb.Close words = stated-amiss look None (deed.Close file) words
verb-amiss look file verb.Raw words = raw-amiss look file words
verb-amiss look file (verb.Create k) words = deed-amiss look (Some k) _ _ (calls-fit (deed.Call file) _ _ (create-fits look k words))
verb-amiss look file (verb.Destroy k) words =
    deed-amiss look None _ _ (calls-fit (deed.Call file) _ _ (taken-fits look [] _ (λ object rest. refl) operand.Handle (handle_word look) (λ word. refl) words))
verb-amiss look file verb.BindMw words = deed-amiss look None _ _ (calls-fit (deed.Call file) _ _ (bind-fits look words))
verb-amiss look file verb.GetAsync words = stated-amiss look None _ words

-- Clients and the driver.

module _ (look : Look) where
  abbrev after_verb : ℕ → VerbWord → List (List ℕ) → Option Stated
  after_verb file v rest = then_take (verb_deed look file v rest) (stated look (kind_made v))

  verb-so : (file : ℕ) (word : List ℕ) (words : List (List ℕ)) (r : Option VerbWord) → IsAmissAs (verb_found look word words r) (then_take (option_map (λ value. (value, words)) r) (after_verb file))
  verb-so file word words None = refl
  verb-so file word words (Some v) = verb-amiss look file v words

  verbs-amiss : (file : ℕ) (words : List (List ℕ)) → IsAmissAs (verbs_amiss look words) (then_take (first_as verb_word words) (after_verb file))
  verbs-amiss file [] = refl
  verbs-amiss file (word ∷ words) = verb-so file word words (verb_word word)

  file-so : (w : Wrong) (word : List ℕ) (words : List (List ℕ)) (r : Option ℕ)
      → IsAmissAs (if is_some r then verbs_amiss look words else amiss_at word w) (then_take (option_map (λ value. (value, words)) r) (λ file rest. then_take (first_as verb_word rest) (after_verb file)))
  file-so w word words None = refl
  file-so w word words (Some file) = verbs-amiss file words

  client-amiss : (words : List (List ℕ)) → IsAmissAs (client_amiss look words) (client_deed look words)
  client-amiss [] = refl
  client-amiss (word ∷ words) = file-so (if is_later_deed word then wrong.NotBuilt else wrong.NotA operand.File) word words (file_word word)

  device-so : (word : List ℕ) (words : List (List ℕ)) (r : Option ℕ)
      → IsAmissAs
      (then_amiss (if is_some r then Ok words else Err (record { word = word; wrong = wrong.NotA operand.Device })) (after_amiss look None))
      (then_take (option_map (λ value. (value, words)) r) (λ device rest. stated look None (deed.Unplug device) rest))
  device-so word words None = refl
  device-so word words (Some device) = stated-amiss look None (deed.Unplug device) words

  device-amiss : (words : List (List ℕ))
      → IsAmissAs (then_amiss (operands_left look (operand.Device ∷ []) words) (after_amiss look None)) (then_take (first_as device_word words) (λ device rest. stated look None (deed.Unplug device) rest))
  device-amiss [] = refl
  device-amiss (word ∷ words) = device-so word words (device_word word)

  unplug-so : (b : Bool) (word : List ℕ) (words : List (List ℕ))
      → IsAmissAs
      (if b then then_amiss (operands_left look (operand.Device ∷ []) words) (after_amiss look None) else amiss_at word wrong.Unplug)
      (then_take (option_map (λ value. (value, words)) (if b then Some (tt {0}) else None)) (λ unplug rest1. then_take (first_as device_word rest1) (λ device rest2. stated look None (deed.Unplug device) rest2)))
  unplug-so true word words = device-amiss words
  unplug-so false word words = refl

  driver-amiss : (words : List (List ℕ)) → IsAmissAs (driver_amiss look words) (driver_deed look words)
  driver-amiss [] = refl
  driver-amiss (word ∷ words) = unplug-so (pointwise nat_eq word (codes "unplug")) word words

actor-so : (dead driver : Bool) (x : Amiss) (p q : Option Amiss) (p' q' : Option Stated) → IsAmissAs p p' → IsAmissAs q q'
    → IsAmissAs (if dead then Some x else (if driver then p else q)) (if dead then None else (if driver then p' else q'))
actor-so true driver x p q p' q' f g = refl
actor-so false true x p q p' q' f g = f
actor-so false false x p q p' q' f g = g

deed-of-amiss : (before : Before) (word : List ℕ) (actor : ℕ) (words : List (List ℕ)) → IsAmissAs (deed_amiss before word actor words) (deed_of before actor words)
deed-of-amiss before word actor words =
    actor-so
    (is_dead before actor)
    (actor == DRIVER)
    (record { word = word; wrong = wrong.Dead })
    (driver_amiss before.look words)
    (client_amiss before.look words)
    (driver_deed before.look words)
    (client_deed before.look words)
    (driver-amiss before.look words)
    (client-amiss before.look words)

-- Calls of the data path.

data-fits : (look : Look) (v : DataWord) (words : List (List ℕ)) → Fits (data_operands look v words) (operands_left look (data_takes v) words)
data-fits look dataverb.Poll words =
    taken-fits look (operand.Count ∷ []) _ (λ cq rest1.
    taken-fits look [] _ (λ count rest2. refl) operand.Count count_word (λ word. refl) rest1) (operand.Object kind.Cq) (object_word look kind.Cq) (λ word. refl) words
data-fits look dataverb.Arm words =
    taken-fits look (operand.Solicited ∷ []) _ (λ cq rest1.
    taken-fits look [] _ (λ solicited rest2. refl) operand.Solicited solicited_word (λ word. refl) rest1) (operand.Object kind.Cq) (object_word look kind.Cq) (λ word. refl) words
data-fits look dataverb.Event words = taken-fits look [] _ (λ channel rest1. refl) (operand.Object kind.Channel) (object_word look kind.Channel) (λ word. refl) words

ended-amiss : (look : Look) (call : DataCall) (rest : List (List ℕ)) → is_some (after_amiss look None rest) ≡ is_none (ended call rest)
ended-amiss look call [] = refl
ended-amiss look call (word ∷ words) = refl

asks-amiss : (look : Look) (asks : DataAsks) (left : Result (List (List ℕ)) Amiss) → Fits asks left → is_some (then_amiss left (after_amiss look None)) ≡ is_none (then_take asks ended)
asks-amiss look None (Err a) fits = refl
asks-amiss look None (Ok rest) fits = absurd fits
asks-amiss look (Some t) (Err a) fits = absurd fits
asks-amiss look (Some t) (Ok rest) fits = ap (λ (v : List (List ℕ)). is_some (after_amiss look None v)) (sym fits) ∙ ended-amiss look t.0 t.1

data-amiss : (look : Look) (v : DataWord) (words : List (List ℕ)) → is_some (data_amiss look v words) ≡ is_none (data_call look v words)
data-amiss look v words = asks-amiss look (data_operands look v words) (operands_left look (data_takes v) words) (data-fits look v words)

client-so : (dead : Bool) (x : Amiss) (p : Option Amiss) (q : Option DataCall) → is_some p ≡ is_none q → is_some (if dead then Some x else p) ≡ is_none (if dead then None else q)
client-so true x p q same = refl
client-so false x p q same = same

says-data-so : (client : ℕ) (call : Option DataCall) → is_none call ≡ is_outside (says_data client call)
says-data-so client None = refl
says-data-so client (Some call) = refl

data-call-amiss : (before : Before) (word : List ℕ) (client : ℕ) (v : DataWord) (words : List (List ℕ)) → is_some (data_call_amiss before word client v words) ≡ is_none (data_call_of before client v words)
data-call-amiss before word client v words =
    client-so (is_dead before client) (record { word = word; wrong = wrong.Dead }) (data_amiss before.look v words) (data_call before.look v words) (data-amiss before.look v words)

-- Heads.

plain-so : (actor : ℕ) (read : Option Stated) → is_none read ≡ is_outside (says_plain actor read)
plain-so actor None = refl
plain-so actor (Some s) = refl

plain-amiss : (before : Before) (word : List ℕ) (actor : ℕ) (words : List (List ℕ)) (taken : Option (DataWord × List (List ℕ)))
    → is_some (plain_amiss before word actor words taken) ≡ is_outside (plain_reading before actor words taken)
plain-amiss before word actor words None = deed-of-amiss before word actor words ∙ plain-so actor (deed_of before actor words)
plain-amiss before word actor words (Some t) = data-call-amiss before word actor t.0 t.1 ∙ says-data-so actor (data_call_of before actor t.0 t.1)

minus-so : (actor : ℕ) (read : Option Stated) → is_none read ≡ is_outside (says_minus actor read)
minus-so actor None = refl
minus-so actor (Some s) = refl

dead-so : (dead : Bool) (x : Amiss) (form : Form) → is_some (if dead then Some x else None) ≡ is_outside (if dead then Outside else Says form None)
dead-so true x form = refl
dead-so false x form = refl

living-amiss : (before : Before) (word : List ℕ) (actor : ℕ) (form : Form) → is_some (living_amiss before word actor) ≡ is_outside (living before actor form)
living-amiss before word actor form = dead-so (is_dead before actor) (record { word = word; wrong = wrong.Dead }) form

plus-amiss : (before : Before) (word : List ℕ) (actor : ℕ) (words : List (List ℕ)) → is_some (plus_amiss before word actor words) ≡ is_outside (says_plus before actor words)
plus-amiss before word actor [] = living-amiss before word actor _
plus-amiss before word actor (next ∷ words) = refl

dies-so : (before : Before) (word : List ℕ) (client : Option ℕ) → is_some (client_dies before word client) ≡ is_outside (says_die before client)
dies-so before word None = refl
dies-so before word (Some client) = living-amiss before word client _

die-amiss : (before : Before) (words : List (List ℕ)) → is_some (die_amiss before words) ≡ is_outside (says_die before (option_and_then client_word (only_of words)))
die-amiss before [] = refl
die-amiss before (word ∷ []) = dies-so before word (client_word word)
die-amiss before (word ∷ next ∷ words) = refl

head-amiss : (before : Before) (word : List ℕ) (h : Head) (words : List (List ℕ)) → is_some (head_amiss before word h words) ≡ is_outside (head_reading before h words)
head-amiss before word (head.Plain actor) words = plain-amiss before word actor words (data_verb actor words)
head-amiss before word (head.Minus actor) words = deed-of-amiss before word actor words ∙ minus-so actor (deed_of before actor words)
head-amiss before word (head.Plus actor) words = plus-amiss before word actor words
head-amiss before word head.Die words = die-amiss before words

found-amiss : (before : Before) (word : List ℕ) (words : List (List ℕ)) (h : Option Head) → is_some (head_found before word words h) ≡ is_outside (given_head before words h)
found-amiss before word words None = refl
found-amiss before word words (Some h) = head-amiss before word h words

words-amiss : (before : Before) (words : List (List ℕ)) → is_some (words_amiss before words) ≡ is_outside (words_reading before words)
words-amiss before [] = refl
words-amiss before (word ∷ words) = found-amiss before word words (head_word word)

-- Lines.

text-so : (plain remark : Bool) (x : Amiss) (o : Option Amiss) (read : Reading) → is_some o ≡ is_outside read
    → is_some (if not plain then Some x else (if remark then None else o)) ≡ is_outside (if not plain then Outside else (if remark then Nothing else read))
text-so false remark x o read same = refl
text-so true true x o read same = refl
text-so true false x o read same = same

text-amiss : (before : Before) (text : List ℕ) → is_some (text_amiss before text) ≡ is_outside (text_reading before text)
text-amiss before text =
    text-so
    (is_plain_text text)
    (is_remark text)
    (record { word = []; wrong = wrong.Byte })
    (words_amiss before (words_of text))
    (words_reading before (words_of text))
    (words-amiss before (words_of text))

over-so : (over : Bool) (x : Amiss) (o : Option Amiss) (read : Reading) → is_some o ≡ is_outside read → is_some (if over then Some x else o) ≡ is_outside (if over then Outside else read)
over-so true x o read same = refl
over-so false x o read same = same

pub line-amiss : LineIsAmiss
line-amiss before line =
    over-so
    (nat_lt SCRIPT_LINES before.number)
    (record { word = []; wrong = wrong.Lines })
    (text_amiss before (text_of line))
    (text_reading before (text_of line))
    (text-amiss before (text_of line))

-- Scripts.

in_front-err : (lines : List Line) (script : Result (List Line) ℕ) → result_err script ≡ result_err (in_front_of lines script)
in_front-err lines (Ok more) = refl
in_front-err lines (Err number) = refl

abbrev number_in : AmissLine → ℕ
number_in a = a.number

line-so : (number : ℕ) (lines : List Line) (a : Option Amiss) (b : Bool) (more : Option AmissLine) (script : Result (List Line) ℕ) → is_some a ≡ b → option_map number_in more ≡ result_err script
    → option_map number_in (amiss_then number a more) ≡ result_err (if b then Err number else in_front_of lines script)
line-so number lines None b more script same h =
    subst (λ (v : Bool). option_map number_in more ≡ result_err (if v then Err number else in_front_of lines script)) same (h ∙ in_front-err lines script)
line-so number lines (Some a) b more script same h =
    subst (λ (v : Bool). Some number ≡ result_err (if v then Err number else in_front_of lines script)) same refl

from-amiss : (mode : Mode) (before : Before) (texts : List (List ℕ)) → option_map number_in (amiss_from before texts) ≡ result_err (script_from mode before texts)
from-amiss Steps before [] = refl
from-amiss mode before (text ∷ texts) =
    line-so
    before.number
    (lines_at before.number (reading_of before text))
    (line_amiss before text)
    (is_outside (reading_of before text))
    (amiss_from (after_line before (reading_of before text)) texts)
    (script_from mode (after_line before (reading_of before text)) texts)
    (line-amiss before text)
    (from-amiss mode (after_line before (reading_of before text)) texts)

pub script-amiss : ScriptIsAmiss
script-amiss mode bytes = from-amiss mode at_start (lines_of bytes)
