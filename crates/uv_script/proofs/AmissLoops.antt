-- What is wrong with operands, and with lines, as loops go over them.
use Rattle.std.proofs.Common.{◌≡◌, ℕ, ◌+◌, ◌<◌, ◌≤◌, nat_lt, Bool, true, false, List, [], ◌∷◌, length, get_or, drop, Option, Some, None, Err, refl, sym, ap, ◌∙◌}
use Rattle.std.specs.Prelude.{Result, if◌then◌else◌}
use Rattle.std.proofs.lemmas.Bool.{ltb-false}
use Rattle.std.proofs.lemmas.List.{drop_more}
use Rattle.std.proofs.lemmas.Option.{none-some}
use Rattle.uv_script.specs.Amiss.{Amiss, AmissLine, operands_left, text_amiss, line_amiss, amiss_then, amiss_from}
use Rattle.uv_script.specs.Before.{Before}
use Rattle.uv_script.specs.Lines.{lines_of, text_of}
use Rattle.uv_script.specs.Names.{Look}
use Rattle.uv_script.specs.Reading.{Reading, reading_of}
use Rattle.uv_script.specs.Script.{after_line}
use Rattle.uv_script.specs.declared.wrong.Operand.{Operand}
use Rattle.uv_script.specs.declared.wrong.Wrong.TheVariants as wrong

-- an operand is missing where no word is left
pub left-missing : (look : Look) (os : List Operand) (i : ℕ) (d : Operand) (words : List (List ℕ)) (total : Result (List (List ℕ)) Amiss) → i < length os → words ≡ [] → operands_left look (drop i os) words ≡ total
    → Err (record { word = []; wrong = wrong.Missing (get_or os i d) }) ≡ total
left-missing look os i d words total lt none so_far =
    sym (ap (λ (v : List Operand). operands_left look v words) (drop_more os i d lt) ∙ ap (λ (w : List (List ℕ)). operands_left look (get_or os i d ∷ drop (i + 1) os) w) none) ∙ so_far

-- what is left begins with a line
first-left : (before : Before) (rest text more : List ℕ) → lines_of rest ≡ text ∷ lines_of more
    → amiss_from before (lines_of rest) ≡ amiss_then before.number (line_amiss before text) (amiss_from (after_line before (reading_of before text)) (lines_of more))
first-left before rest text more split = ap (amiss_from before) split

-- nothing is wrong with it
pub amiss-later : (before after : Before) (rest text more : List ℕ) (reading : Reading) (total : Option AmissLine) → lines_of rest ≡ text ∷ lines_of more → line_amiss before text ≡ None → reading ≡ reading_of before text
    → after ≡ after_line before reading → amiss_from before (lines_of rest) ≡ total → amiss_from after (lines_of more) ≡ total
amiss-later before after rest text more reading total split none is goes so_far =
    let later : Option AmissLine = amiss_from (after_line before (reading_of before text)) (lines_of more) in
    ap (λ (b : Before). amiss_from b (lines_of more)) (goes ∙ ap (after_line before) is)
    ∙ sym (first-left before rest text more split ∙ ap (λ (v : Option Amiss). amiss_then before.number v later) none)
    ∙ so_far

none-under : (over : Bool) (x : Amiss) (o : Option Amiss) → (if over then Some x else o) ≡ None → over ≡ false
none-under true x o none = absurd (none-some x (sym none))
none-under false x o none = refl

-- a line with which nothing is wrong is under the limit
pub number-under : (before : Before) (line : List ℕ) → line_amiss before line ≡ None → before.number ≤ 20000
number-under before line none =
    ltb-false 20000 before.number (none-under (nat_lt 20000 before.number) (record { word = []; wrong = wrong.Lines }) (text_amiss before (text_of line)) none)
