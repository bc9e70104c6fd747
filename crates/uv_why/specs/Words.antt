-- What the words ask for that a program is started with.
use Rattle.std.specs.Prelude.{ℕ, ◌≡◌, ◌⊎◌, List, [], ◌∷◌, Option, None, Some, Vec, codes, string_bytes}
use Rattle.std.specs.declared.alloc.Global.{Global}
use Rattle.std.specs.declared.string.String.{String}
use Rattle.uv_why.specs.declared.rules.Decided.{Decided}
use Rattle.uv_why.specs.declared.words.Wanted.{Wanted}
use Rattle.uv_why.specs.declared.words.Wanted.TheVariants.{Script, Rules, Rule}
use Rattle.uv_why.specs.Keys.{decided_key}

abbrev pub IsLanes : List ℕ → Type 0
IsLanes word = word ≡ codes "--lanes"

abbrev pub IsWord : List ℕ → Type 0
IsWord word = IsLanes word ⊎ (word ≡ codes "--rules")

-- a rule has this key
pub record IsKey (key : List ℕ) : Type 0 where
  pub rule : Decided
  pub has : decided_key rule ≡ key

-- the words are one of the forms
abbrev pub AreForm : List (String Global) → Type 0
AreForm [] = Unit {0}
AreForm (word ∷ []) = IsWord (string_bytes word)
AreForm (word ∷ key ∷ []) = (string_bytes word ≡ codes "--rule") × IsKey (string_bytes key)
AreForm (word ∷ key ∷ more ∷ words) = ⊥

-- the words are one of the forms that read a script
abbrev pub AskForScript : List (String Global) → Type 0
AskForScript [] = Unit {0}
AskForScript (word ∷ []) = IsLanes (string_bytes word)
AskForScript (word ∷ more ∷ words) = ⊥

abbrev pub IsScriptAsked : Option Wanted → Type 0
IsScriptAsked None = ⊥
IsScriptAsked (Some (Script telling)) = Unit {0}
IsScriptAsked (Some Rules) = ⊥
IsScriptAsked (Some (Rule rule)) = ⊥

-- the same of words that couldn't be had, which are none of the forms
abbrev pub AreGivenForm : Option (Vec (String Global) Global) → Type 0
AreGivenForm None = ⊥
AreGivenForm (Some words) = AreForm words.items

abbrev pub AsksScript : Option (Vec (String Global) Global) → Type 0
AsksScript None = ⊥
AsksScript (Some words) = AskForScript words.items
