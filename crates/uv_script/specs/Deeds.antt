-- What the words after an actor have it do.
use Rattle.std.specs.Prelude.{ℕ, Bool, ◌==◌, ◌&&◌, nat_eq, List, [], ◌∷◌, codes, Option, Some, None, is_none, Result, Ok, Err, if◌then◌else◌}
use Rattle.std.specs.Option.{option_map}
use Rattle.std.specs.Cmp.Lexicographic.{pointwise}
use Rattle.uv_num.specs.declared.errno.Errno.{Errno}
use Rattle.uv_num.specs.declared.kind.Kind.{Kind}
use Rattle.uv_num.specs.declared.limits.TheConstants.{DRIVER}
use Rattle.uv_num.specs.declared.request.Request.{Request}
use Rattle.uv_schema.specs.Commands.{command_of}
use Rattle.uv_script.specs.Before.{Before, is_dead}
use Rattle.uv_script.specs.Built.{verb_for}
use Rattle.uv_script.specs.Bytes.{spelled_bytes}
use Rattle.uv_script.specs.Names.{is_name, Look, Naming}
use Rattle.uv_script.specs.Operands.{Asks, create_operands, destroy_operands, bind_operands}
use Rattle.uv_script.specs.Places.{file_word, device_word}
use Rattle.uv_script.specs.Verbs.{verb_word, kind_made}
use Rattle.uv_script.specs.Words.{first_as, then_take, only_of}
use Rattle.uv_script.specs.declared.form.Deed.{Deed}
use Rattle.uv_script.specs.declared.form.Deed.TheVariants as deed
use Rattle.uv_script.specs.declared.form.Verb.TheVariants as asked
use Rattle.uv_script.specs.declared.verbs.VerbWord.{VerbWord}
use Rattle.uv_script.specs.declared.verbs.VerbWord.TheVariants.{Open, Close, Raw, Create, Destroy, BindMw, GetAsync}

-- The deed of a verb with its operands, and the words after them.

abbrev pub Does : Type 0
Does = Option (Deed × List (List ℕ))

abbrev pub calls : ℕ → Asks → Does
calls file asks = option_map (λ t. (deed.Call file t.0, t.1)) asks

-- D
abbrev pub opens : ℕ → List (List ℕ) → Does
opens file words = then_take (first_as device_word words) (λ device rest. Some (deed.Open file device, rest))

-- a command that is refused says its errno, and one that asks for a request says that request, if its line is built
abbrev pub command_deed : ℕ → Result Request Errno → Option Deed
command_deed file (Err errno) = Some (deed.Refused errno)
command_deed file (Ok request) = option_map (deed.Call file) (verb_for request)

abbrev pub gives_command : ℕ → List ℕ → List (List ℕ) → Does
gives_command file bytes rest = option_map (λ d. (d, rest)) (command_deed file (command_of bytes))

-- HEX
abbrev pub gives_bytes : ℕ → List (List ℕ) → Does
gives_bytes file words = then_take (first_as spelled_bytes words) (gives_command file)

abbrev pub verb_deed : Look → ℕ → VerbWord → List (List ℕ) → Does
verb_deed look file Open words = opens file words
verb_deed look file Close words = Some (deed.Close file, words)
verb_deed look file Raw words = gives_bytes file words
verb_deed look file (Create kind) words = calls file (create_operands look kind words)
verb_deed look file (Destroy kind) words = calls file (destroy_operands look kind words)
verb_deed look file BindMw words = calls file (bind_operands look words)
verb_deed look file GetAsync words = calls file (Some (asked.GetAsync, words))

-- What stands after the operands.

-- a name that can be declared
abbrev pub is_undeclared : Look → List ℕ → Bool
is_undeclared look name = is_name name && is_none (look name)

abbrev pub new_name : Look → Kind → Option (List ℕ) → Option (Option Naming)
new_name look kind None = None
new_name look kind (Some name) = if is_undeclared look name then Some (Some (record { name = name; kind = kind })) else None

-- `as` and a name, after a create
abbrev pub as_name : Look → Option Kind → List ℕ → List (List ℕ) → Option (Option Naming)
as_name look None word words = None
as_name look (Some kind) word words = if pointwise nat_eq word (codes "as") then new_name look kind (only_of words) else None

-- nothing, or a name
abbrev pub naming_after : Look → Option Kind → List (List ℕ) → Option (Option Naming)
naming_after look made [] = Some None
naming_after look made (word ∷ words) = as_name look made word words

-- The deed of a line, and the name that the line declares.

pub record Stated : Type 0 where
  pub deed : Deed
  pub naming : Option Naming

abbrev pub stated : Look → Option Kind → Deed → List (List ℕ) → Option Stated
stated look made does rest = option_map (λ naming. record { deed = does; naming = naming }) (naming_after look made rest)

-- a file, a verb, what the verb takes, and maybe a name
abbrev pub client_deed : Look → List (List ℕ) → Option Stated
client_deed look words =
    then_take (first_as file_word words) (λ file rest1.
    then_take (first_as verb_word rest1) (λ verb rest2.
    then_take (verb_deed look file verb rest2) (λ does rest3.
    stated look (kind_made verb) does rest3)))

-- `unplug`
abbrev pub unplug_word : List ℕ → Option (Unit {0})
unplug_word word = if pointwise nat_eq word (codes "unplug") then Some tt else None

-- `unplug D`
abbrev pub driver_deed : Look → List (List ℕ) → Option Stated
driver_deed look words =
    then_take (first_as unplug_word words) (λ unplug rest1.
    then_take (first_as device_word rest1) (λ device rest2.
    stated look None (deed.Unplug device) rest2))

-- an actor that died does nothing
abbrev pub deed_of : Before → ℕ → List (List ℕ) → Option Stated
deed_of before actor words =
    if is_dead before actor then None
    else (if actor == DRIVER then driver_deed before.look words else client_deed before.look words)
