-- What a status says of the source and the sink.
use Rattle.std.specs.Prelude.{ℕ, ◌≡◌, ◌⊎◌, List, Option, Ok, Err, codes}
use Rattle.uv_io.specs.Whole.{ReadsWhole}
use Rattle.uv_num.specs.declared.limits.TheConstants.{SCRIPT_BYTES}
use Rattle.uv_script.specs.declared.form.Line.{Line}
use Rattle.uv_script.specs.declared.form.Mode.TheVariants.{Steps}
use Rattle.uv_script.specs.Script.{script_of}

-- what is written of wrong words
abbrev pub why_usage_line : List ℕ
why_usage_line = codes "usage: verbswhy [--lanes | --rules | --rule KEY]\n"

-- all was told, or a fault of the sink cut it short, or memory ran out
abbrev pub IsToldOrFault : ℕ → Type 0
IsToldOrFault status = (status ≡ 0) ⊎ ((status ≡ 4) ⊎ (status ≡ 5))

-- these bytes are a script
pub record IsScript (bytes : List ℕ) : Type 0 where
  pub lines : List Line
  pub script : script_of Steps bytes ≡ Ok lines

-- these bytes have a first line outside the language
pub record IsNoScript (bytes : List ℕ) : Type 0 where
  pub line : ℕ
  pub script : script_of Steps bytes ≡ Err line

-- all that was left was read, and it is a script
pub record ReadsScript (old new : Option (List ℕ)) : Type 0 where
  pub bytes : List ℕ
  pub whole : ReadsWhole old new bytes SCRIPT_BYTES
  pub script : IsScript bytes

-- all that was left was read, and it has a first line outside the language
pub record ReadsNoScript (old new : Option (List ℕ)) : Type 0 where
  pub bytes : List ℕ
  pub whole : ReadsWhole old new bytes SCRIPT_BYTES
  pub script : IsNoScript bytes
