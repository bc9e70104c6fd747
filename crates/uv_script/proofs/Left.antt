-- What is left of a script while it is read.
use Rattle.std.proofs.Common.{◌≡◌, ℕ, ◌+◌, List, [], ◌∷◌, ◌++◌, length, refl, sym, ◌∙◌, ap, append_assoc, append-nil, length-append, ◌≤◌, nat_lt, arith, Bool, true, false, cond, Result, Ok, Err}
use Rattle.std.proofs.lemmas.Bool.{ltb-false}
use Rattle.std.specs.Result.{OnOk, is_err}
use Rattle.uv_script.specs.Before.{Before, at_start}
use Rattle.uv_script.specs.Lines.{lines_of}
use Rattle.uv_script.specs.Reading.{Reading, Outside, Nothing, Says, reading_of}
use Rattle.uv_script.specs.Script.{is_outside, lines_at, after_line, in_front_of, line_then, script_from, script_of}
use Rattle.uv_script.specs.declared.form.Line.{Line}
use Rattle.uv_script.specs.declared.form.Mode.{Mode}
use Rattle.uv_script.specs.declared.form.Mode.TheVariants.{Steps}

-- after these lines, the rest makes the script of all bytes
pub record IsLeft (mode : Mode) (before : Before) (lines : List Line) (rest bytes : List ℕ) : Type 0 where
  pub script : in_front_of lines (script_from mode before (lines_of rest)) ≡ script_of mode bytes

in_front_of-none : (script : Result (List Line) ℕ) → in_front_of [] script ≡ script
in_front_of-none (Ok lines) = refl
in_front_of-none (Err number) = refl

in_front_of-append : (front lines : List Line) (script : Result (List Line) ℕ) → in_front_of front (in_front_of lines script) ≡ in_front_of (front ++ lines) script
in_front_of-append front lines (Ok more) = ap Ok (sym (append_assoc front lines more))
in_front_of-append front lines (Err number) = refl

-- a line that isn't outside stands in front of the others
line_then-inside : (number : ℕ) (reading : Reading) (more : Result (List Line) ℕ) → is_outside reading ≡ false → line_then number reading more ≡ in_front_of (lines_at number reading) more
line_then-inside number reading more inside = rw inside refl

-- a line that is outside is the fault
line_then-outside : (number : ℕ) (reading : Reading) (more : Result (List Line) ℕ) → is_outside reading ≡ true → line_then number reading more ≡ Err number
line_then-outside number reading more outside = rw outside refl

-- where a call is no error, what it ensures on success holds
pub on-ok : {P T E : Type 0} (r : Result T E) → OnOk r P → is_err r ≡ false → P
on-ok (Ok v) holds none = holds
on-ok (Err e) holds none = cc

-- a line adds one line at most
length-lines_at : (number : ℕ) (reading : Reading) → length (lines_at number reading) ≤ 1
length-lines_at number Outside = omega arith
length-lines_at number Nothing = omega arith
length-lines_at number (Says form naming) = omega arith

pub length-put : (number : ℕ) (lines next : List Line) (reading : Reading) → next ≡ lines ++ lines_at number reading → length next ≤ length lines + 1
length-put number lines next reading put =
    omega (arith, ap length put, length-append lines (lines_at number reading), length-lines_at number reading)

-- a line that isn't outside has the next one after it
number-after_line : (before : Before) (reading : Reading) → is_outside reading ≡ false → (after_line before reading).number ≡ before.number + 1
number-after_line before Outside inside = cc
number-after_line before Nothing inside = refl
number-after_line before (Says form naming) inside = refl

pub number-next : (before after : Before) (reading : Reading) → is_outside reading ≡ false → after ≡ after_line before reading → after.number ≡ before.number + 1
number-next before after reading inside next = ap (λ (b : Before). b.number) next ∙ number-after_line before reading inside

inside-under : (over : Bool) (reading : Reading) → is_outside (cond over Outside reading) ≡ false → over ≡ false
inside-under true reading inside = cc
inside-under false reading inside = refl

-- a line that isn't outside is under the limit
pub number-inside : (before : Before) (text : List ℕ) (found : Reading) → found ≡ reading_of before text → is_outside found ≡ false → before.number ≤ 20000
number-inside before text found is inside =
    ltb-false 20000 before.number (inside-under (nat_lt 20000 before.number) _ (ap is_outside (sym is) ∙ inside))

pub IsLeft-start : (mode : Mode) (before : Before) (lines : List Line) (bytes : List ℕ) → lines ≡ [] → before ≡ at_start → IsLeft mode before lines bytes bytes
IsLeft-start mode before lines bytes none start =
    record {
      script =
          ap (λ (ls : List Line). in_front_of ls (script_from mode before (lines_of bytes))) none
          ∙ (in_front_of-none (script_from mode before (lines_of bytes)) ∙ ap (λ (b : Before). script_from mode b (lines_of bytes)) start);
    }

-- what is left begins with a line
first-left : (mode : Mode) (before : Before) (rest text more : List ℕ) (reading : Reading) → lines_of rest ≡ text ∷ lines_of more → reading ≡ reading_of before text → script_from mode before (lines_of rest) ≡ line_then before.number reading (script_from mode (after_line before reading) (lines_of more))
first-left mode before rest text more reading split is =
    ap (script_from mode before) split
    ∙ ap (λ (v : Reading). line_then before.number v (script_from mode (after_line before v) (lines_of more))) (sym is)

-- a line more that isn't outside
pub IsLeft-line : (mode : Mode) (before after : Before) (lines next : List Line) (rest text more bytes : List ℕ) (reading : Reading) → IsLeft mode before lines rest bytes → lines_of rest ≡ text ∷ lines_of more → reading ≡ reading_of before text → is_outside reading ≡ false → next ≡ lines ++ lines_at before.number reading → after ≡ after_line before reading → IsLeft mode after next more bytes
IsLeft-line mode before after lines next rest text more bytes reading left split is inside put goes =
    let rest_of : Result (List Line) ℕ = script_from mode (after_line before reading) (lines_of more) in
    let first : script_from mode before (lines_of rest) ≡ in_front_of (lines_at before.number reading) rest_of = first-left mode before rest text more reading split is ∙ line_then-inside before.number reading rest_of inside in
    record {
      script =
          ap (λ (b : Before). in_front_of next (script_from mode b (lines_of more))) goes
          ∙ (ap (λ (ls : List Line). in_front_of ls rest_of) put ∙ (sym (in_front_of-append lines (lines_at before.number reading) rest_of) ∙ (ap (in_front_of lines) (sym first) ∙ left.script)));
    }

-- a line that is outside is the script's fault
pub IsLeft-outside : (mode : Mode) (before : Before) (lines : List Line) (rest text more bytes : List ℕ) (reading : Reading) → IsLeft mode before lines rest bytes → lines_of rest ≡ text ∷ lines_of more → reading ≡ reading_of before text → is_outside reading ≡ true → script_of mode bytes ≡ Err before.number
IsLeft-outside mode before lines rest text more bytes reading left split is outside =
    let rest_of : Result (List Line) ℕ = script_from mode (after_line before reading) (lines_of more) in
    sym left.script ∙ ap (in_front_of lines) (first-left mode before rest text more reading split is ∙ line_then-outside before.number reading rest_of outside)

-- nothing left
pub IsLeft-end : (mode : Mode) (before : Before) (lines : List Line) (rest bytes : List ℕ) → IsLeft mode before lines rest bytes → length rest ≡ 0 → script_of mode bytes ≡ Ok lines
IsLeft-end Steps before lines [] bytes left none = sym left.script ∙ ap Ok (append-nil lines)
IsLeft-end Steps before lines (b ∷ bs) bytes left none = absurd (omega arith)
