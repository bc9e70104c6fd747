use Rattle.std.proofs.Common.{◌≡◌, ◌++◌, drop, flat_map, string_bytes}
use Rattle.uv_report.specs.Report.{gone_line}
use Rattle.uv_report.proofs.report.put_gone.Given as goal

-- the text so far and the lines of what is left are the text at first and all lines
abbrev pub invariant-loop-x : goal.invariant-loop-x
invariant-loop-x l =
    string_bytes l.text ++ flat_map gone_line (drop l.x-index l.gone) ≡ string_bytes l.initial.text ++ flat_map gone_line l.gone
