-- No line of a client comes after its death.
use Rattle.std.specs.Prelude.{◌≡◌, ℕ, false, nat_eq, List, [], ◌∷◌, Ok}
use Rattle.std.specs.List.{list_any, AllByRecursion}
use Rattle.uv_script.specs.Script.{dying, script_of}
use Rattle.uv_script.specs.declared.form.Form.{Form}
use Rattle.uv_script.specs.declared.form.Form.TheVariants.{Plain, Minus, Plus, Die, Data}
use Rattle.uv_script.specs.declared.form.Line.{Line}
use Rattle.uv_script.specs.declared.form.Mode.{Mode}

-- whose line it is: the actor's, or the client's that dies
abbrev pub actor_of : Form → ℕ
actor_of (Plain actor deed) = actor
actor_of (Minus actor deed) = actor
actor_of (Plus actor) = actor
actor_of (Die client) = client
actor_of (Data client call) = client

-- a line is of none of these
abbrev pub IsOfOthers : List ℕ → Line → Type 0
IsOfOthers dead line = list_any (nat_eq (actor_of line.form)) dead ≡ false

-- after a line that lets a client die no line is of that client
abbrev pub AreOfLiving : List Line → Type 0
AreOfLiving [] = Unit {0}
AreOfLiving (line ∷ lines) = AllByRecursion (IsOfOthers (dying line.form)) lines × AreOfLiving lines

abbrev pub TheDeadAreSilent : Type 0
TheDeadAreSilent = (mode : Mode) (bytes : List ℕ) (lines : List Line) → script_of mode bytes ≡ Ok lines → AreOfLiving lines
