-- What is wrong with lines, as the program has it.
use Rattle.std.specs.Prelude.{ℕ, List, Option, Result, Ok, Err, option_map}
use Rattle.std.specs.Borrow.{Bor}
use Rattle.uv_script.specs.Amiss.{Amiss, AmissLine}
use Rattle.uv_script.specs.Words.{words_of}
use Rattle.uv_script.specs.declared.wrong.Amiss.{Amiss as KeptAmiss}
use Rattle.uv_script.specs.declared.wrong.AmissLine.{AmissLine as KeptAmissLine}

abbrev pub amiss_kept : KeptAmiss → Amiss
amiss_kept a = record { word = a.word.now; wrong = a.wrong }

abbrev pub amiss_seen : Option KeptAmiss → Option Amiss
amiss_seen told = option_map amiss_kept told

abbrev pub amiss_line_kept : KeptAmissLine → AmissLine
amiss_line_kept a = record { number = a.number; amiss = amiss_kept a.amiss }

abbrev pub amiss_line_seen : Option KeptAmissLine → Option AmissLine
amiss_line_seen told = option_map amiss_line_kept told

-- the words that are left after operands, or what is wrong with one
abbrev pub left_seen : Result (Bor (List ℕ)) KeptAmiss → Result (List (List ℕ)) Amiss
left_seen (Ok rest) = Ok (words_of rest.now)
left_seen (Err a) = Err (amiss_kept a)
