use Rattle.std.proofs.Common.{◌≡◌, drop}
use Rattle.uv_script.specs.Words.{words_of}
use Rattle.uv_script.proofs.words.behind_blanks.Given as goal

abbrev pub invariant-loop-at : goal.invariant-loop-at
invariant-loop-at l = words_of (drop l.at l.text) ≡ words_of l.text
