-- No line of a client comes after its death.
use Rattle.std.proofs.Common.{◌≡◌, ℕ, List, [], ◌∷◌, ◌++◌, refl, sym, ◌∙◌, ap, subst, Bool, true, false, cond, not, nat_lt, nat_eq, Option, Some, None, option_and_then, Ok}
use Rattle.std.proofs.lemmas.Bool.{or_parts}
use Rattle.std.proofs.lemmas.List.Folds.{list_any-append}
use Rattle.std.specs.List.{list_any, AllByRecursion}
use Rattle.uv_script.specs.Before.{Before, is_dead, at_start}
use Rattle.uv_script.specs.Deaths.{actor_of, IsOfOthers, AreOfLiving, TheDeadAreSilent}
use Rattle.uv_script.specs.DataCalls.{data_call_of}
use Rattle.uv_script.specs.DataVerbs.{data_verb}
use Rattle.uv_script.specs.Deeds.{Stated, deed_of}
use Rattle.uv_script.specs.Heads.{head_word}
use Rattle.uv_script.specs.Lines.{lines_of, text_of, is_plain_text}
use Rattle.uv_script.specs.Places.{client_word}
use Rattle.uv_script.specs.Reading.{Reading, Outside, Nothing, Says, says_plain, says_data, plain_reading, says_minus, living, says_plus, says_die, head_reading, given_head, words_reading, is_remark, text_reading, reading_of}
use Rattle.uv_script.specs.Script.{dying, lines_at, after_line, script_from}
use Rattle.uv_script.specs.Words.{words_of, only_of}
use Rattle.uv_script.specs.declared.data_verbs.DataWord.{DataWord}
use Rattle.uv_script.specs.declared.form.DataCall.{DataCall}
use Rattle.uv_script.specs.declared.form.Form.{Form}
use Rattle.uv_script.specs.declared.form.Form.TheVariants.{Plus, Die}
use Rattle.uv_script.specs.declared.form.Line.{Line}
use Rattle.uv_script.specs.declared.form.Mode.{Mode}
use Rattle.uv_script.specs.declared.form.Mode.TheVariants.{Steps}
use Rattle.uv_script.specs.declared.heads.Head.{Head}
use Rattle.uv_script.specs.declared.heads.Head.TheVariants as head
use Rattle.uv_script.proofs.Fronts.{Fronts, fronts-line}

-- A line is of an actor that didn't die.

abbrev pub IsAlive : Before → Reading → Type 0
IsAlive before Outside = Unit {0}
IsAlive before Nothing = Unit {0}
IsAlive before (Says form naming) = is_dead before (actor_of form) ≡ false

choice-alive : (before : Before) (b : Bool) (x y : Reading) → (b ≡ true → IsAlive before x) → (b ≡ false → IsAlive before y) → IsAlive before (cond b x y)
choice-alive before true x y first second = first refl
choice-alive before false x y first second = second refl

-- what an actor that died does is none
alive-stated : {A : Type 0} (dead : Bool) (rest : Option A) (told : A) → cond dead None rest ≡ Some told → dead ≡ false
alive-stated true rest told is = cc
alive-stated false rest told is = refl

plain-alive : (before : Before) (actor : ℕ) (told : Option Stated) → ((s : Stated) → told ≡ Some s → is_dead before actor ≡ false) → IsAlive before (says_plain actor told)
plain-alive before actor None alive = tt
plain-alive before actor (Some s) alive = alive s refl

data-alive : (before : Before) (client : ℕ) (call : Option DataCall) → ((c : DataCall) → call ≡ Some c → is_dead before client ≡ false) → IsAlive before (says_data client call)
data-alive before client None alive = tt
data-alive before client (Some c) alive = alive c refl

found-alive : (before : Before) (actor : ℕ) (words : List (List ℕ)) (taken : Option (DataWord × List (List ℕ))) → IsAlive before (plain_reading before actor words taken)
found-alive before actor words None = plain-alive before actor (deed_of before actor words) (λ s is. alive-stated (is_dead before actor) _ s is)
found-alive before actor words (Some t) = data-alive before actor (data_call_of before actor t.0 t.1) (λ c is. alive-stated (is_dead before actor) _ c is)

minus-alive : (before : Before) (actor : ℕ) (told : Option Stated) → ((s : Stated) → told ≡ Some s → is_dead before actor ≡ false) → IsAlive before (says_minus actor told)
minus-alive before actor None alive = tt
minus-alive before actor (Some s) alive = alive s refl

living-alive : (before : Before) (actor : ℕ) (form : Form) → actor_of form ≡ actor → IsAlive before (living before actor form)
living-alive before actor form is =
    choice-alive before (is_dead before actor) Outside (Says form None) (λ dead. tt) (λ alive. ap (is_dead before) is ∙ alive)

plus-alive : (before : Before) (actor : ℕ) (words : List (List ℕ)) → IsAlive before (says_plus before actor words)
plus-alive before actor [] = living-alive before actor (Plus actor) refl
plus-alive before actor (word ∷ words) = tt

die-alive : (before : Before) (client : Option ℕ) → IsAlive before (says_die before client)
die-alive before None = tt
die-alive before (Some client) = living-alive before client (Die client) refl

head-alive : (before : Before) (h : Head) (words : List (List ℕ)) → IsAlive before (head_reading before h words)
head-alive before (head.Plain actor) words = found-alive before actor words (data_verb actor words)
head-alive before (head.Minus actor) words = minus-alive before actor (deed_of before actor words) (λ s is. alive-stated (is_dead before actor) _ s is)
head-alive before (head.Plus actor) words = plus-alive before actor words
head-alive before head.Die words = die-alive before (option_and_then client_word (only_of words))

given-alive : (before : Before) (words : List (List ℕ)) (h : Option Head) → IsAlive before (given_head before words h)
given-alive before words None = tt
given-alive before words (Some h) = head-alive before h words

words-alive : (before : Before) (words : List (List ℕ)) → IsAlive before (words_reading before words)
words-alive before [] = tt
words-alive before (word ∷ words) = given-alive before words (head_word word)

text-alive : (before : Before) (text : List ℕ) → IsAlive before (text_reading before text)
text-alive before text =
    choice-alive before (not (is_plain_text text)) Outside _ (λ plain. tt) (λ odd.
    choice-alive before (is_remark text) Nothing (words_reading before (words_of text)) (λ remark. tt) (λ words. words-alive before (words_of text)))

reading-alive : (before : Before) (line : List ℕ) → IsAlive before (reading_of before line)
reading-alive before line =
    choice-alive before (nat_lt 20000 before.number) Outside (text_reading before (text_of line)) (λ over. tt) (λ under. text-alive before (text_of line))

-- The lines of a script.

-- who isn't among more dead isn't among some of them
fewer : (dead more : List ℕ) (line : Line) → IsOfOthers (dead ++ more) line → IsOfOthers dead line × IsOfOthers more line
fewer dead more line others =
    or_parts (list_any (nat_eq (actor_of line.form)) dead) (list_any (nat_eq (actor_of line.form)) more) (sym (list_any-append (nat_eq (actor_of line.form)) dead more) ∙ others)

all-fewer : (dead more : List ℕ) (lines : List Line) → AllByRecursion (IsOfOthers (dead ++ more)) lines → AllByRecursion (IsOfOthers dead) lines × AllByRecursion (IsOfOthers more) lines
all-fewer dead more [] all = (tt, tt)
all-fewer dead more (line ∷ lines) all =
    let one : IsOfOthers dead line × IsOfOthers more line = fewer dead more line all.0 in
    let rest : AllByRecursion (IsOfOthers dead) lines × AllByRecursion (IsOfOthers more) lines = all-fewer dead more lines all.1 in
    ((one.0, rest.0), (one.1, rest.1))

-- what is so of the lines from one on
pub record IsSilent (before : Before) (lines : List Line) : Type 0 where
  pub others : AllByRecursion (IsOfOthers before.dead) lines
  pub silent : AreOfLiving lines

silent-more : (before : Before) (reading : Reading) (lines rest : List Line) → IsAlive before reading → lines ≡ lines_at before.number reading ++ rest → IsSilent (after_line before reading) rest → IsSilent before lines
silent-more before Outside lines rest alive is s = let P : List Line → Type 0 = IsSilent before in subst P (sym is) s
silent-more before Nothing lines rest alive is s = let P : List Line → Type 0 = IsSilent before in subst P (sym is) (record { others = s.others; silent = s.silent })
silent-more before (Says form naming) lines rest alive is s =
    let P : List Line → Type 0 = IsSilent before in
    let parts : AllByRecursion (IsOfOthers before.dead) rest × AllByRecursion (IsOfOthers (dying form)) rest = all-fewer before.dead (dying form) rest s.others in
    subst P (sym is) (record { others = (alive, parts.0); silent = (parts.1, s.silent) })

silent-from : (mode : Mode) (before : Before) (texts : List (List ℕ)) (lines : List Line) → script_from mode before texts ≡ Ok lines → IsSilent before lines
silent-from Steps before [] [] is = record { others = tt; silent = tt }
silent-from Steps before [] (line ∷ lines) is = cc
silent-from Steps before (text ∷ texts) lines is =
    let reading : Reading = reading_of before text in
    let f : Fronts (lines_at before.number reading) lines (script_from Steps (after_line before reading) texts) = fronts-line before.number reading lines (script_from Steps (after_line before reading) texts) is in
    silent-more before reading lines f.rest (reading-alive before text) f.whole (silent-from Steps (after_line before reading) texts f.rest f.is)

pub the-dead-are-silent : TheDeadAreSilent
the-dead-are-silent mode bytes lines is = (silent-from mode at_start (lines_of bytes) lines is).silent
