use Rattle.uv_report.proofs.Feeds.{lines_of-report}
use Rattle.uv_report.proofs.laws.report_is_its_lines.Goals as goal

pub returns : goal.returns
returns c = lines_of-report
