use Rattle.std.proofs.Common.{◌≡◌, ◌++◌, drop, flat_map, string_bytes}
use Rattle.uv_report.specs.Report.{said_line}
use Rattle.uv_report.proofs.report.put_replies.Given as goal

-- the text so far and the lines of what is left are the text at first and all lines
abbrev pub invariant-loop-said : goal.invariant-loop-said
invariant-loop-said l =
    string_bytes l.text ++ flat_map said_line (drop l.said-index l.replies) ≡ string_bytes l.initial.text ++ flat_map said_line l.replies
