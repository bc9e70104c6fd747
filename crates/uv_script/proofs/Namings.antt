-- Each name stands for what a line above makes.
use Rattle.std.proofs.Common.{◌≡◌, ℕ, zero, suc, ◌==◌, List, [], ◌∷◌, ◌++◌, drop, refl, sym, ◌∙◌, ap, subst, Bool, true, false, cond, not, nat_lt, nat_le, Option, Some, None, option_and_then, option_map, option_to_list, Result, Ok, Err}
use Rattle.std.proofs.lemmas.Bool.{eqb-true}
use Rattle.std.proofs.lemmas.List.Elements.{Contains-append_left, Contains-push}
use Rattle.std.specs.List.{AllByRecursion}
use Rattle.std.specs.Str.{bytes_eq}
use Rattle.uv_num.specs.Kind.{kind_place}
use Rattle.uv_num.specs.declared.errno.Errno.{Errno}
use Rattle.uv_num.specs.declared.kind.Kind.{Kind}
use Rattle.uv_num.specs.declared.kind.Kind.TheVariants as kind
use Rattle.uv_num.specs.declared.request.Request.{Request}
use Rattle.uv_num.specs.declared.request.Request.TheVariants as request
use Rattle.uv_schema.specs.Commands.{command_of}
use Rattle.uv_script.specs.Above.{objects_in, verb_kind, objects_by, deed_kind, objects_of, form_kind, Named, named_in, named_by, IsMade, RefersTo, IsMadeAs, NamesStand, NamesStandForLinesAbove}
use Rattle.uv_script.specs.Before.{Before, is_dead, at_start}
use Rattle.uv_script.specs.Built.{verb_for}
use Rattle.uv_script.specs.Bytes.{spelled_bytes}
use Rattle.uv_script.specs.DataCalls.{count_word, solicited_word, data_operands, ended, data_call, data_call_of}
use Rattle.uv_script.specs.DataVerbs.{data_verb}
use Rattle.uv_script.specs.Deeds.{calls, opens, command_deed, gives_command, gives_bytes, verb_deed, is_undeclared, new_name, as_name, naming_after, Stated, stated, client_deed, unplug_word, driver_deed, deed_of}
use Rattle.uv_script.specs.Handles.{as_handle, named_handle, handle_word, may_handle_word, makes_kind, line_of, object_word}
use Rattle.uv_script.specs.Heads.{head_word}
use Rattle.uv_script.specs.Lines.{lines_of, text_of, is_plain_text}
use Rattle.uv_script.specs.Names.{Look, Naming, with_naming}
use Rattle.uv_script.specs.Numbers.{number_of}
use Rattle.uv_script.specs.Operands.{Asks, service_word, cq_operands, srq_operands, qp_operands, ah_operands, mr_operands, mw_operands, bind_operands, create_operands, destroy_operands}
use Rattle.uv_script.specs.Places.{client_word, file_word, device_word}
use Rattle.uv_script.specs.Reading.{Reading, Outside, Nothing, Says, says_plain, says_data, plain_reading, says_minus, says_plus, says_die, head_reading, given_head, words_reading, is_remark, reading_of}
use Rattle.uv_script.specs.Script.{lines_at, after_line, script_from}
use Rattle.uv_script.specs.Verbs.{verb_word, kind_made}
use Rattle.uv_script.specs.Words.{words_of, only_of, first_as, then_take}
use Rattle.uv_script.specs.declared.data_verbs.DataWord.{DataWord}
use Rattle.uv_script.specs.declared.data_verbs.DataWord.TheVariants as dataverb
use Rattle.uv_script.specs.declared.form.DataCall.{DataCall}
use Rattle.uv_script.specs.declared.form.Deed.{Deed}
use Rattle.uv_script.specs.declared.form.Deed.TheVariants as deed
use Rattle.uv_script.specs.declared.form.Form.{Form}
use Rattle.uv_script.specs.declared.form.Form.TheVariants.{Plus, Die}
use Rattle.uv_script.specs.declared.form.Handle.{Handle}
use Rattle.uv_script.specs.declared.form.Handle.TheVariants.{Number, Name}
use Rattle.uv_script.specs.declared.form.Line.{Line}
use Rattle.uv_script.specs.declared.form.Mode.{Mode}
use Rattle.uv_script.specs.declared.form.Mode.TheVariants.{Steps}
use Rattle.uv_script.specs.declared.form.Verb.{Verb}
use Rattle.uv_script.specs.declared.heads.Head.{Head}
use Rattle.uv_script.specs.declared.heads.Head.TheVariants as head
use Rattle.uv_script.specs.declared.names.Known.{Known}
use Rattle.uv_script.specs.declared.verbs.VerbWord.{VerbWord}
use Rattle.uv_script.specs.declared.verbs.VerbWord.TheVariants as verb
use Rattle.uv_script.proofs.Fronts.{Fronts, fronts-line}
use Rattle.uv_script.proofs.Taken.{OfSome, choice-of, and_then-of, map-of, OfTaken, first_as-of, then_take-of, then_take-any}

-- Handles come from numbers, or from names that are known.

pub record IsFound (look : Look) (number : ℕ) : Type 0 where
  pub name : List ℕ
  pub known : Known
  pub found : look name ≡ Some known
  pub line : known.line ≡ number

abbrev pub IsOfLook : Look → Handle → Type 0
IsOfLook look (Number n) = Unit {0}
IsOfLook look (Name number) = IsFound look number

as_handle-of : (look : Look) (n : ℕ) → OfSome (IsOfLook look) (as_handle n)
as_handle-of look n = choice-of (IsOfLook look) (nat_le n 4294967295) (Some (Number n)) None (λ yes. tt) (λ no. tt)

named-of : (look : Look) (word : List ℕ) (o : Option Known) → look word ≡ o → OfSome (IsOfLook look) (option_map named_handle o)
named-of look word None is = tt
named-of look word (Some known) is = record { name = word; known = known; found = is; line = refl }

handle_word-of : (look : Look) (word : List ℕ) → OfSome (IsOfLook look) (handle_word look word)
handle_word-of look word =
    choice-of (IsOfLook look) _ (option_and_then as_handle (number_of (drop 1 word))) (option_map named_handle (look word))
    (λ yes. and_then-of (IsOfLook look) as_handle (number_of (drop 1 word)) (as_handle-of look))
    (λ no. named-of look word (look word) refl)

may_handle_word-of : (look : Look) (word : List ℕ) → OfSome (OfSome (IsOfLook look)) (may_handle_word look word)
may_handle_word-of look word =
    choice-of (OfSome (IsOfLook look)) _ (Some None) (option_map Some (handle_word look word)) (λ yes. tt)
    (λ no. map-of (IsOfLook look) (OfSome (IsOfLook look)) Some (handle_word look word) (handle_word-of look word) (λ h so. so))

take-handle : {B : Type 0} (look : Look) (Q : B → Type 0) (words : List (List ℕ)) (next : Handle → List (List ℕ) → Option B) → ((h : Handle) (rest : List (List ℕ)) → IsOfLook look h → OfSome Q (next h rest)) → OfSome Q (then_take (first_as (handle_word look) words) next)
take-handle look Q words next each =
    then_take-of (IsOfLook look) Q (first_as (handle_word look) words) next (first_as-of (IsOfLook look) (handle_word look) words (handle_word-of look)) each

take-may : {B : Type 0} (look : Look) (Q : B → Type 0) (words : List (List ℕ)) (next : Option Handle → List (List ℕ) → Option B) → ((h : Option Handle) (rest : List (List ℕ)) → OfSome (IsOfLook look) h → OfSome Q (next h rest)) → OfSome Q (then_take (first_as (may_handle_word look) words) next)
take-may look Q words next each =
    then_take-of (OfSome (IsOfLook look)) Q (first_as (may_handle_word look) words) next (first_as-of (OfSome (IsOfLook look)) (may_handle_word look) words (may_handle_word-of look)) each

-- What calls ask for.

abbrev pub AreOfLook : Look → List Handle → Type 0
AreOfLook look handles = AllByRecursion (IsOfLook look) handles

listed-of : (look : Look) (h : Option Handle) → OfSome (IsOfLook look) h → AreOfLook look (option_to_list h)
listed-of look None so = tt
listed-of look (Some h) so = (so, tt)

-- a verb's handles are known, and it makes an object of this kind
pub record IsCreate (look : Look) (k : Kind) (v : Verb) : Type 0 where
  pub handles : AreOfLook look (objects_in v)
  pub makes : verb_kind v ≡ Some k

abbrev pub IsOther : Look → Verb → Type 0
IsOther look v = AreOfLook look (objects_in v)

cq-of : (look : Look) (words : List (List ℕ)) → OfTaken (IsCreate look kind.Cq) (cq_operands look words)
cq-of look words =
    then_take-any (λ t. IsCreate look kind.Cq t.0) (first_as number_of words) _ (λ depth rest1.
    take-may look (λ t. IsCreate look kind.Cq t.0) rest1 _ (λ channel rest2 so. record { handles = listed-of look channel so; makes = refl }))

srq-of : (look : Look) (words : List (List ℕ)) → OfTaken (IsCreate look kind.Srq) (srq_operands look words)
srq-of look words =
    take-handle look (λ t. IsCreate look kind.Srq t.0) words _ (λ pd rest1 so.
    then_take-any (λ t. IsCreate look kind.Srq t.0) (first_as number_of rest1) _ (λ depth rest2. record { handles = (so, tt); makes = refl }))

qp-of : (look : Look) (words : List (List ℕ)) → OfTaken (IsCreate look kind.Qp) (qp_operands look words)
qp-of look words =
    take-handle look (λ t. IsCreate look kind.Qp t.0) words _ (λ pd rest1 so1.
    take-handle look (λ t. IsCreate look kind.Qp t.0) rest1 _ (λ send_cq rest2 so2.
    take-handle look (λ t. IsCreate look kind.Qp t.0) rest2 _ (λ recv_cq rest3 so3.
    take-may look (λ t. IsCreate look kind.Qp t.0) rest3 _ (λ srq rest4 so4.
    then_take-any (λ t. IsCreate look kind.Qp t.0) (first_as service_word rest4) _ (λ service rest5.
    then_take-any (λ t. IsCreate look kind.Qp t.0) (first_as number_of rest5) _ (λ send_depth rest6.
    then_take-any (λ t. IsCreate look kind.Qp t.0) (first_as number_of rest6) _ (λ recv_depth rest7.
    record { handles = (so1, (so2, (so3, listed-of look srq so4))); makes = refl })))))))

ah-of : (look : Look) (words : List (List ℕ)) → OfTaken (IsCreate look kind.Ah) (ah_operands look words)
ah-of look words =
    take-handle look (λ t. IsCreate look kind.Ah t.0) words _ (λ pd rest1 so.
    then_take-any (λ t. IsCreate look kind.Ah t.0) (first_as device_word rest1) _ (λ device rest2. record { handles = (so, tt); makes = refl }))

mr-of : (look : Look) (words : List (List ℕ)) → OfTaken (IsCreate look kind.Mr) (mr_operands look words)
mr-of look words =
    take-handle look (λ t. IsCreate look kind.Mr t.0) words _ (λ pd rest1 so.
    then_take-any (λ t. IsCreate look kind.Mr t.0) (first_as number_of rest1) _ (λ length rest2.
    then_take-any (λ t. IsCreate look kind.Mr t.0) (first_as number_of rest2) _ (λ access rest3. record { handles = (so, tt); makes = refl })))

mw-of : (look : Look) (words : List (List ℕ)) → OfTaken (IsCreate look kind.Mw) (mw_operands look words)
mw-of look words = take-handle look (λ t. IsCreate look kind.Mw t.0) words _ (λ pd rest1 so. record { handles = (so, tt); makes = refl })

bind-of : (look : Look) (words : List (List ℕ)) → OfTaken (IsOther look) (bind_operands look words)
bind-of look words =
    take-handle look (λ t. IsOther look t.0) words _ (λ mw rest1 so1.
    take-may look (λ t. IsOther look t.0) rest1 _ (λ mr rest2 so2.
    then_take-any (λ t. IsOther look t.0) (first_as number_of rest2) _ (λ offset rest3.
    then_take-any (λ t. IsOther look t.0) (first_as number_of rest3) _ (λ length rest4.
    then_take-any (λ t. IsOther look t.0) (first_as number_of rest4) _ (λ access rest5. (so1, listed-of look mr so2))))))

destroy-of : (look : Look) (k : Kind) (words : List (List ℕ)) → OfTaken (IsOther look) (destroy_operands look k words)
destroy-of look k words = take-handle look (λ t. IsOther look t.0) words _ (λ object rest1 so. (so, tt))

create-of : (look : Look) (k : Kind) (words : List (List ℕ)) → OfTaken (IsCreate look k) (create_operands look k words)
create-of look kind.Pd words = record { handles = tt; makes = refl }
create-of look kind.Channel words = record { handles = tt; makes = refl }
create-of look kind.Cq words = cq-of look words
create-of look kind.Qp words = qp-of look words
create-of look kind.Srq words = srq-of look words
create-of look kind.Ah words = ah-of look words
create-of look kind.Mr words = mr-of look words
create-of look kind.Mw words = mw-of look words

-- a request's handles are numbers
numbers-of : (look : Look) (h : Option ℕ) → AreOfLook look (option_to_list (option_map Number h))
numbers-of look None = tt
numbers-of look (Some h) = (tt, tt)

verb_for-of : (look : Look) (r : Request) → OfSome (IsOther look) (verb_for r)
verb_for-of look request.AllocPd = tt
verb_for-of look (request.DeallocPd pd) = (tt, tt)
verb_for-of look request.CreateChannel = tt
verb_for-of look (request.DestroyChannel channel) = (tt, tt)
verb_for-of look (request.CreateCq depth channel) = numbers-of look channel
verb_for-of look (request.DestroyCq cq) = (tt, tt)
verb_for-of look (request.CreateQp pd send_cq recv_cq srq service send_depth recv_depth) = (tt, (tt, (tt, numbers-of look srq)))
verb_for-of look (request.DestroyQp qp) = (tt, tt)
verb_for-of look (request.ModifyQp qp to attrs) = tt
verb_for-of look (request.QueryQp qp) = tt
verb_for-of look (request.CreateSrq pd depth) = (tt, tt)
verb_for-of look (request.DestroySrq srq) = (tt, tt)
verb_for-of look (request.CreateAh pd device) = (tt, tt)
verb_for-of look (request.DestroyAh ah) = (tt, tt)
verb_for-of look (request.RegMr pd length access) = (tt, tt)
verb_for-of look (request.DeregMr mr) = (tt, tt)
verb_for-of look (request.AllocMw pd) = (tt, tt)
verb_for-of look (request.DeallocMw mw) = (tt, tt)
verb_for-of look (request.BindMw mw mr offset length access) = (tt, numbers-of look mr)
verb_for-of look request.GetAsync = tt

-- Deeds.

-- a deed's handles are known, and it makes what its verb makes
pub record IsDeed (look : Look) (made : Option Kind) (does : Deed) : Type 0 where
  pub handles : AreOfLook look (objects_by does)
  pub makes : (k : Kind) → made ≡ Some k → deed_kind does ≡ Some k

none-made : (k : Kind) (found : Option Kind) → None ≡ Some k → found ≡ Some k
none-made k found never = cc

same-made : (j k : Kind) (found : Option Kind) → found ≡ Some j → Some j ≡ Some k → found ≡ Some k
same-made j k found is same = is ∙ same

creates-deed : (look : Look) (file : ℕ) (j : Kind) (asks : Asks) → OfTaken (IsCreate look j) asks → OfTaken (IsDeed look (Some j)) (calls file asks)
creates-deed look file j asks so =
    map-of (λ t. IsCreate look j t.0) (λ t. IsDeed look (Some j) t.0) _ asks so (λ t is. record { handles = is.handles; makes = λ k same. same-made j k (verb_kind t.0) is.makes same })

others-deed : (look : Look) (file : ℕ) (asks : Asks) → OfTaken (IsOther look) asks → OfTaken (IsDeed look None) (calls file asks)
others-deed look file asks so =
    map-of (λ t. IsOther look t.0) (λ t. IsDeed look None t.0) _ asks so (λ t is. record { handles = is; makes = λ k never. none-made k (verb_kind t.0) never })

command-deed : (look : Look) (file : ℕ) (command : Result Request Errno) → OfSome (IsDeed look None) (command_deed file command)
command-deed look file (Err errno) = record { handles = tt; makes = λ k never. none-made k None never }
command-deed look file (Ok r) =
    map-of (IsOther look) (IsDeed look None) (deed.Call file) (verb_for r) (verb_for-of look r) (λ v is. record { handles = is; makes = λ k never. none-made k (verb_kind v) never })

gives-deed : (look : Look) (file : ℕ) (words : List (List ℕ)) → OfTaken (IsDeed look None) (gives_bytes file words)
gives-deed look file words =
    then_take-any (λ t. IsDeed look None t.0) (first_as spelled_bytes words) (gives_command file) (λ bytes rest.
    map-of (IsDeed look None) (λ t. IsDeed look None t.0) (λ d. (d, rest)) (command_deed file (command_of bytes)) (command-deed look file (command_of bytes)) (λ d is. is))

opens-deed : (look : Look) (file : ℕ) (words : List (List ℕ)) → OfTaken (IsDeed look None) (opens file words)
opens-deed look file words =
    then_take-any (λ t. IsDeed look None t.0) (first_as device_word words) _ (λ device rest. record { handles = tt; makes = λ k never. none-made k None never })

verb-deed : (look : Look) (file : ℕ) (v : VerbWord) (words : List (List ℕ)) → OfTaken (IsDeed look (kind_made v)) (verb_deed look file v words)
verb-deed look file verb.Open words = opens-deed look file words
verb-deed look file verb.Close words = record { handles = tt; makes = λ k never. none-made k None never }
verb-deed look file verb.Raw words = gives-deed look file words
verb-deed look file (verb.Create k) words = creates-deed look file k (create_operands look k words) (create-of look k words)
verb-deed look file (verb.Destroy k) words = others-deed look file (destroy_operands look k words) (destroy-of look k words)
verb-deed look file verb.BindMw words = others-deed look file (bind_operands look words) (bind-of look words)
verb-deed look file verb.GetAsync words = record { handles = tt; makes = λ k never. none-made k None never }

-- a name that is declared is of the kind that is made
abbrev pub IsNaming : Option Kind → Option Naming → Type 0
IsNaming made naming = (n : Naming) → naming ≡ Some n → made ≡ Some n.kind

same-kind : (x n : Naming) → Some x ≡ Some n → Some x.kind ≡ Some n.kind
same-kind x n is = ap (option_map (λ (y : Naming). y.kind)) is

new-naming : (look : Look) (k : Kind) (name : Option (List ℕ)) → OfSome (IsNaming (Some k)) (new_name look k name)
new-naming look k None = tt
new-naming look k (Some name) =
    choice-of (IsNaming (Some k)) (is_undeclared look name) (Some (Some (record { name = name; kind = k }))) None (λ yes n is. same-kind (record { name = name; kind = k }) n is) (λ no. tt)

as-naming : (look : Look) (made : Option Kind) (word : List ℕ) (words : List (List ℕ)) → OfSome (IsNaming made) (as_name look made word words)
as-naming look None word words = tt
as-naming look (Some k) word words = choice-of (IsNaming (Some k)) _ (new_name look k (only_of words)) None (λ yes. new-naming look k (only_of words)) (λ no. tt)

no-naming : (made : Option Kind) → IsNaming made None
no-naming made n is = cc

naming-after : (look : Look) (made : Option Kind) (words : List (List ℕ)) → OfSome (IsNaming made) (naming_after look made words)
naming-after look made [] = no-naming made
naming-after look made (word ∷ words) = as-naming look made word words

-- a deed's handles are known, and a name that its line declares is of the kind that it makes
pub record IsTold (look : Look) (does : Deed) (naming : Option Naming) : Type 0 where
  pub handles : AreOfLook look (objects_by does)
  pub names : IsNaming (deed_kind does) naming

told-of : (look : Look) (made : Option Kind) (does : Deed) (words : List (List ℕ)) → IsDeed look made does → OfSome (λ s. IsTold look s.deed s.naming) (stated look made does words)
told-of look made does words is =
    map-of (IsNaming made) (λ s. IsTold look s.deed s.naming) _ (naming_after look made words) (naming-after look made words) (λ naming names. record { handles = is.handles; names = λ n same. is.makes n.kind (names n same) })

client-told : (look : Look) (words : List (List ℕ)) → OfSome (λ s. IsTold look s.deed s.naming) (client_deed look words)
client-told look words =
    then_take-any (λ s. IsTold look s.deed s.naming) (first_as file_word words) _ (λ file rest1.
    then_take-any (λ s. IsTold look s.deed s.naming) (first_as verb_word rest1) _ (λ v rest2.
    then_take-of (IsDeed look (kind_made v)) (λ s. IsTold look s.deed s.naming) (verb_deed look file v rest2) _ (verb-deed look file v rest2) (λ does rest3 is.
    told-of look (kind_made v) does rest3 is)))

driver-told : (look : Look) (words : List (List ℕ)) → OfSome (λ s. IsTold look s.deed s.naming) (driver_deed look words)
driver-told look words =
    then_take-any (λ s. IsTold look s.deed s.naming) (first_as unplug_word words) _ (λ unplug rest1.
    then_take-any (λ s. IsTold look s.deed s.naming) (first_as device_word rest1) _ (λ device rest2.
    told-of look None (deed.Unplug device) rest2 (record { handles = tt; makes = λ k never. none-made k None never })))

deed-told : (before : Before) (actor : ℕ) (words : List (List ℕ)) → OfSome (λ s. IsTold before.look s.deed s.naming) (deed_of before actor words)
deed-told before actor words =
    choice-of (λ s. IsTold before.look s.deed s.naming) (is_dead before actor) None _ (λ dead. tt) (λ alive.
    choice-of (λ s. IsTold before.look s.deed s.naming) (actor == 9) (driver_deed before.look words) (client_deed before.look words)
    (λ yes. driver-told before.look words) (λ no. client-told before.look words))

-- Calls of the data path.

-- the kind at a place of a table by kinds
kind_at : ℕ → Kind
kind_at zero = kind.Pd
kind_at (suc zero) = kind.Channel
kind_at (suc (suc zero)) = kind.Cq
kind_at (suc (suc (suc zero))) = kind.Qp
kind_at (suc (suc (suc (suc zero)))) = kind.Srq
kind_at (suc (suc (suc (suc (suc zero))))) = kind.Ah
kind_at (suc (suc (suc (suc (suc (suc zero)))))) = kind.Mr
kind_at (suc (suc (suc (suc (suc (suc (suc n))))))) = kind.Mw

kind_at-place : (k : Kind) → kind_at (kind_place k) ≡ k
unfolding kind_at
kind_at-place kind.Pd = refl
kind_at-place kind.Channel = refl
kind_at-place kind.Cq = refl
kind_at-place kind.Qp = refl
kind_at-place kind.Srq = refl
kind_at-place kind.Ah = refl
kind_at-place kind.Mr = refl
kind_at-place kind.Mw = refl

makes_kind-same : (k : Kind) (known : Known) → makes_kind k known ≡ true → known.kind ≡ k
makes_kind-same k known is = sym (kind_at-place known.kind) ∙ ap kind_at (eqb-true (kind_place known.kind) (kind_place k) is) ∙ kind_at-place k

-- a name that is known has this line and kind
pub record IsKnownAs (look : Look) (named : Named) : Type 0 where
  pub name : List ℕ
  pub known : Known
  pub found : look name ≡ Some known
  pub line : known.line ≡ named.line
  pub kind : known.kind ≡ named.kind

abbrev pub AreKnown : Look → List Named → Type 0
AreKnown look named = AllByRecursion (IsKnownAs look) named

abbrev pub IsObject : Look → Kind → ℕ → Type 0
IsObject look k line = IsKnownAs look (record { line = line; kind = k })

looked-object : (look : Look) (k : Kind) (word : List ℕ) (o : Option Known) → look word ≡ o → OfSome (IsObject look k) (option_and_then (line_of k) o)
looked-object look k word None is = tt
looked-object look k word (Some known) is =
    choice-of (IsObject look k) (makes_kind k known) (Some known.line) None
    (λ same. record { name = word; known = known; found = is; line = refl; kind = makes_kind-same k known same }) (λ other. tt)

object_word-of : (look : Look) (k : Kind) (word : List ℕ) → OfSome (IsObject look k) (object_word look k word)
object_word-of look k word = looked-object look k word (look word) refl

take-object : {B : Type 0} (look : Look) (k : Kind) (Q : B → Type 0) (words : List (List ℕ)) (next : ℕ → List (List ℕ) → Option B) → ((line : ℕ) (rest : List (List ℕ)) → IsObject look k line → OfSome Q (next line rest)) → OfSome Q (then_take (first_as (object_word look k) words) next)
take-object look k Q words next each =
    then_take-of (IsObject look k) Q (first_as (object_word look k) words) next (first_as-of (IsObject look k) (object_word look k) words (object_word-of look k)) each

abbrev pub NamesKnown : Look → DataCall → Type 0
NamesKnown look call = AreKnown look (named_in call)

data_operands-of : (look : Look) (v : DataWord) (words : List (List ℕ)) → OfTaken (NamesKnown look) (data_operands look v words)
data_operands-of look dataverb.Poll words =
    take-object look kind.Cq (λ t. NamesKnown look t.0) words _ (λ cq rest1 so.
    then_take-any (λ t. NamesKnown look t.0) (first_as count_word rest1) _ (λ count rest2. (so, tt)))
data_operands-of look dataverb.Arm words =
    take-object look kind.Cq (λ t. NamesKnown look t.0) words _ (λ cq rest1 so.
    then_take-any (λ t. NamesKnown look t.0) (first_as solicited_word rest1) _ (λ solicited rest2. (so, tt)))
data_operands-of look dataverb.Event words = take-object look kind.Channel (λ t. NamesKnown look t.0) words _ (λ channel rest1 so. (so, tt))

ended-of : (look : Look) (call : DataCall) (rest : List (List ℕ)) → NamesKnown look call → OfSome (NamesKnown look) (ended call rest)
ended-of look call [] so = so
ended-of look call (word ∷ words) so = tt

data_call_of-of : (before : Before) (client : ℕ) (v : DataWord) (words : List (List ℕ)) → OfSome (NamesKnown before.look) (data_call_of before client v words)
data_call_of-of before client v words =
    choice-of (NamesKnown before.look) (is_dead before client) None (data_call before.look v words) (λ dead. tt) (λ alive.
    then_take-of (NamesKnown before.look) (NamesKnown before.look) (data_operands before.look v words) ended (data_operands-of before.look v words) (ended-of before.look))

-- Readings.

abbrev pub IsRead : Look → Reading → Type 0
IsRead look Outside = Unit {0}
IsRead look Nothing = Unit {0}
IsRead look (Says form naming) = AreOfLook look (objects_of form) × AreKnown look (named_by form) × IsNaming (form_kind form) naming

choice-read : (look : Look) (b : Bool) (x y : Reading) → IsRead look x → IsRead look y → IsRead look (cond b x y)
choice-read look true x y first second = first
choice-read look false x y first second = second

plain-read : (look : Look) (actor : ℕ) (told : Option Stated) → OfSome (λ s. IsTold look s.deed s.naming) told → IsRead look (says_plain actor told)
plain-read look actor None so = tt
plain-read look actor (Some s) so = (so.handles, tt, so.names)

data-read : (look : Look) (client : ℕ) (call : Option DataCall) → OfSome (NamesKnown look) call → IsRead look (says_data client call)
data-read look client None so = tt
data-read look client (Some call) so = (tt, so, no-naming None)

found-read : (before : Before) (actor : ℕ) (words : List (List ℕ)) (taken : Option (DataWord × List (List ℕ))) → IsRead before.look (plain_reading before actor words taken)
found-read before actor words None = plain-read before.look actor (deed_of before actor words) (deed-told before actor words)
found-read before actor words (Some t) = data-read before.look actor (data_call_of before actor t.0 t.1) (data_call_of-of before actor t.0 t.1)

minus-read : (look : Look) (actor : ℕ) (told : Option Stated) → OfSome (λ s. IsTold look s.deed s.naming) told → IsRead look (says_minus actor told)
minus-read look actor None so = tt
minus-read look actor (Some s) so = (so.handles, tt, so.names)

plus-read : (before : Before) (actor : ℕ) (words : List (List ℕ)) → IsRead before.look (says_plus before actor words)
plus-read before actor [] = choice-read before.look (is_dead before actor) Outside (Says (Plus actor) None) tt (tt, tt, no-naming None)
plus-read before actor (word ∷ words) = tt

die-read : (before : Before) (client : Option ℕ) → IsRead before.look (says_die before client)
die-read before None = tt
die-read before (Some client) = choice-read before.look (is_dead before client) Outside (Says (Die client) None) tt (tt, tt, no-naming None)

head-read : (before : Before) (h : Head) (words : List (List ℕ)) → IsRead before.look (head_reading before h words)
head-read before (head.Plain actor) words = found-read before actor words (data_verb actor words)
head-read before (head.Minus actor) words = minus-read before.look actor (deed_of before actor words) (deed-told before actor words)
head-read before (head.Plus actor) words = plus-read before actor words
head-read before head.Die words = die-read before (option_and_then client_word (only_of words))

given-read : (before : Before) (words : List (List ℕ)) (h : Option Head) → IsRead before.look (given_head before words h)
given-read before words None = tt
given-read before words (Some h) = head-read before h words

words-read : (before : Before) (words : List (List ℕ)) → IsRead before.look (words_reading before words)
words-read before [] = tt
words-read before (word ∷ words) = given-read before words (head_word word)

reading-read : (before : Before) (line : List ℕ) → IsRead before.look (reading_of before line)
reading-read before line =
    choice-read before.look (nat_lt 20000 before.number) Outside _ tt
    (choice-read before.look (not (is_plain_text (text_of line))) Outside _ tt
    (choice-read before.look (is_remark (text_of line)) Nothing (words_reading before (words_of (text_of line))) tt (words-read before (words_of (text_of line)))))

-- The lines of a script.

-- what is known of a name is the number of a line above, and the kind of what it makes
abbrev pub Knows : List Line → Look → Type 0
Knows above look = (name : List ℕ) (known : Known) → look name ≡ Some known → IsMade above known.line known.kind

made-below : (above : List Line) (line : Line) (number : ℕ) (k : Kind) → IsMade above number k → IsMade (above ++ line ∷ []) number k
made-below above line number k is =
    record { line = is.line; stands = Contains-append_left above (line ∷ []) is.line is.stands; numbered = is.numbered; makes = is.makes }

found-now : (b : Bool) (new known : Known) (old : Option Known) (P : Known → Type 0) → cond b (Some new) old ≡ Some known → P new → (old ≡ Some known → P known) → P known
found-now true new known old P is first second = let same : new ≡ known = cc in subst P same first
found-now false new known old P is first second = second is

knows-more : (above : List Line) (number : ℕ) (form : Form) (naming : Option Naming) (look : Look) → IsNaming (form_kind form) naming → Knows above look → Knows (above ++ record { number = number; form = form } ∷ []) (with_naming number naming look)
knows-more above number form None look names knows = λ name known is. made-below above (record { number = number; form = form }) known.line known.kind (knows name known is)
knows-more above number form (Some naming) look names knows =
    let line : Line = record { number = number; form = form } in
    let P : Known → Type 0 = λ known. IsMade (above ++ line ∷ []) known.line known.kind in
    λ name known is.
    found-now (bytes_eq naming.name name) (record { line = number; kind = naming.kind }) known (look name) P is
    (record { line = line; stands = Contains-push above line; numbered = refl; makes = names naming refl })
    (λ old. made-below above line known.line known.kind (knows name known old))

handle-stands : (above : List Line) (look : Look) (h : Handle) → Knows above look → IsOfLook look h → RefersTo above h
handle-stands above look (Number n) knows so = tt
handle-stands above look (Name number) knows so =
    let P : ℕ → Type 0 = λ n. IsMade above n so.known.kind in
    (so.known.kind, subst P so.line (knows so.name so.known so.found))

handles-stand : (above : List Line) (look : Look) (handles : List Handle) → Knows above look → AreOfLook look handles → AllByRecursion (RefersTo above) handles
handles-stand above look [] knows so = tt
handles-stand above look (h ∷ handles) knows so = (handle-stands above look h knows so.0, handles-stand above look handles knows so.1)

named-stands : (above : List Line) (look : Look) (named : Named) → Knows above look → IsKnownAs look named → IsMadeAs above named
named-stands above look named knows so =
    let P : ℕ → Type 0 = λ n. IsMade above n named.kind in
    let Q : Kind → Type 0 = λ k. IsMade above so.known.line k in
    subst P so.line (subst Q so.kind (knows so.name so.known so.found))

named-stand : (above : List Line) (look : Look) (named : List Named) → Knows above look → AreKnown look named → AllByRecursion (IsMadeAs above) named
named-stand above look [] knows so = tt
named-stand above look (one ∷ named) knows so = (named-stands above look one knows so.0, named-stand above look named knows so.1)

names-more : (before : Before) (reading : Reading) (above lines rest : List Line) → IsRead before.look reading → Knows above before.look → lines ≡ lines_at before.number reading ++ rest → ((more : List Line) → Knows more (after_line before reading).look → NamesStand more rest) → NamesStand above lines
names-more before Outside above lines rest so knows is next = let P : List Line → Type 0 = NamesStand above in subst P (sym is) (next above knows)
names-more before Nothing above lines rest so knows is next = let P : List Line → Type 0 = NamesStand above in subst P (sym is) (next above knows)
names-more before (Says form naming) above lines rest so knows is next =
    let P : List Line → Type 0 = NamesStand above in
    subst P (sym is)
    (handles-stand above before.look (objects_of form) knows so.0, named-stand above before.look (named_by form) knows so.1, next (above ++ record { number = before.number; form = form } ∷ []) (knows-more above before.number form naming before.look so.2 knows))

names-from : (mode : Mode) (before : Before) (texts : List (List ℕ)) (above lines : List Line) → Knows above before.look → script_from mode before texts ≡ Ok lines → NamesStand above lines
names-from Steps before [] above [] knows is = tt
names-from Steps before [] above (line ∷ lines) knows is = cc
names-from Steps before (text ∷ texts) above lines knows is =
    let reading : Reading = reading_of before text in
    let f : Fronts (lines_at before.number reading) lines (script_from Steps (after_line before reading) texts) = fronts-line before.number reading lines (script_from Steps (after_line before reading) texts) is in
    names-more before reading above lines f.rest (reading-read before text) knows f.whole (λ more known. names-from Steps (after_line before reading) texts more f.rest known f.is)

none-known : Knows [] at_start.look
none-known name known is = cc

pub names-stand : NamesStandForLinesAbove
names-stand mode bytes lines is = names-from mode at_start (lines_of bytes) [] lines none-known is
