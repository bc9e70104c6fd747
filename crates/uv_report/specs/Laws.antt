-- The laws of reports.
use Rattle.std.specs.Prelude.{◌≡◌, ◌∷◌, ◌++◌, length, map}
use Rattle.uv_script.specs.Lines.{lines_of}
use Rattle.uv_model.specs.Gone.{gone_of}
use Rattle.uv_report.specs.declared.record.Record.{Record}
use Rattle.uv_report.specs.Report.{said_line, left_line, gone_line, report_of}

-- the lines of a report are one for each text in its order, one for how many objects were left, and one for each object
-- that went at the end, and no other
abbrev pub ReportIsItsLines : Type 0
ReportIsItsLines =
    (told : Record) → lines_of (report_of told) ≡ map said_line told.replies ++ left_line (length told.left) ∷ map gone_line (gone_of told.history)
