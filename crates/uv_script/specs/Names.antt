-- Names, and what is known of each.
use Rattle.std.specs.Prelude.{ℕ, Bool, ◌==◌, ◌&&◌, ◌||◌, nat_le, List, length, slice_index, Option, Some, None, if◌then◌else◌}
use Rattle.std.specs.List.{list_all}
use Rattle.std.specs.Str.{bytes_eq}
use Rattle.uv_num.specs.declared.kind.Kind.{Kind}
use Rattle.uv_num.specs.declared.limits.TheConstants.{NAME_CHARACTERS}
use Rattle.uv_script.specs.declared.names.Known.{Known}

abbrev pub is_small_letter : ℕ → Bool
is_small_letter b = nat_le 97 b && nat_le b 122

abbrev pub is_name_byte : ℕ → Bool
is_name_byte b = is_small_letter b || (nat_le 48 b && nat_le b 57) || b == 95

abbrev pub are_name_bytes : List ℕ → Bool
are_name_bytes word = list_all is_name_byte word

-- a small letter, and then small letters, digits or `_`, as many as a name may have
abbrev pub is_name : List ℕ → Bool
is_name word = is_small_letter (slice_index word 0) && nat_le (length word) NAME_CHARACTERS && are_name_bytes word

-- what is known of a name, if it is declared
abbrev pub Look : Type 0
Look = List ℕ → Option Known

-- no name is declared
abbrev pub no_names : Look
no_names name = None

-- one name more
abbrev pub with_name : List ℕ → Known → Look → Look
with_name name known look other = if bytes_eq name other then Some known else look other

-- a name that a line declares, and the kind of what the line creates
pub record Naming : Type 0 where
  pub name : List ℕ
  pub kind : Kind

-- with what a line of this number declares
abbrev pub with_naming : ℕ → Option Naming → Look → Look
with_naming number None look = look
with_naming number (Some naming) look = with_name naming.name (record { line = number; kind = naming.kind }) look
