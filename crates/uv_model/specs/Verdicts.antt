-- What the judge says of a history.
use Rattle.std.specs.Prelude.{◌≡◌, ◌⊎◌, List}
use Rattle.uv_machine.specs.declared.entry.Entry.{Entry}
use Rattle.uv_machine.specs.Histories.{IsLegal, IsFirstBad}
use Rattle.uv_model.specs.declared.judging.Verdict.{Verdict}
use Rattle.uv_model.specs.declared.judging.Verdict.TheVariants.{Legal, Bad, NoMemory}

-- what each verdict says is so
abbrev pub IsVerdict : List Entry → Verdict → Type 0
IsVerdict h Legal = IsLegal h
IsVerdict h (Bad place) = IsFirstBad h place
IsVerdict h NoMemory = Unit {0}

-- the verdict is this one, unless memory ran out
abbrev pub IsUnlessNoMemory : Verdict → Verdict → Type 0
IsUnlessNoMemory right verdict = (verdict ≡ right) ⊎ (verdict ≡ NoMemory)
