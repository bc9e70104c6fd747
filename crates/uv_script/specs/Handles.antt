-- The words for objects.
use Rattle.std.specs.Prelude.{ℕ, Bool, ◌==◌, nat_eq, nat_le, List, drop, codes, Option, Some, None, if◌then◌else◌, option_and_then}
use Rattle.std.specs.Option.{option_map}
use Rattle.std.specs.List.{starts_with}
use Rattle.std.specs.Cmp.Lexicographic.{pointwise}
use Rattle.uv_num.specs.Kind.{kind_place}
use Rattle.uv_num.specs.declared.kind.Kind.{Kind}
use Rattle.uv_num.specs.declared.limits.TheConstants.{MOST_HANDLE}
use Rattle.uv_script.specs.Numbers.{number_of}
use Rattle.uv_script.specs.Names.{Look}
use Rattle.uv_script.specs.declared.names.Known.{Known}
use Rattle.uv_script.specs.declared.form.Handle.{Handle}
use Rattle.uv_script.specs.declared.form.Handle.TheVariants.{Number, Name}

abbrev pub as_handle : ℕ → Option Handle
as_handle n = if nat_le n MOST_HANDLE then Some (Number n) else None

-- the handle that a name stands for, whatever it is of
abbrev pub named_handle : Known → Handle
named_handle known = Name known.line

-- `#` and a number below 2^32, or a name that is declared, of any kind
abbrev pub handle_word : Look → List ℕ → Option Handle
handle_word look word =
    if starts_with nat_eq word (codes "#")
    then option_and_then as_handle (number_of (drop 1 word))
    else option_map named_handle (look word)

-- the same, or `-` for none
abbrev pub may_handle_word : Look → List ℕ → Option (Option Handle)
may_handle_word look word = if pointwise nat_eq word (codes "-") then Some None else option_map Some (handle_word look word)

-- The words for objects of a kind: names alone.

abbrev pub makes_kind : Kind → Known → Bool
makes_kind kind known = kind_place known.kind == kind_place kind

abbrev pub line_of : Kind → Known → Option ℕ
line_of kind known = if makes_kind kind known then Some known.line else None

-- the line that declares a name, where the name is of this kind
abbrev pub object_word : Look → Kind → List ℕ → Option ℕ
object_word look kind word = option_and_then (line_of kind) (look word)
