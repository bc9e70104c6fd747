-- The answer of a check.
use Rattle.std.specs.Prelude.{Result, Ok, Err, if◌then◌else◌}
use Rattle.uv_num.specs.Ranges.{is_in_range}
use Rattle.uv_num.specs.declared.errno.Errno.{Errno}
use Rattle.uv_num.specs.declared.errno.Errno.TheVariants.{Inval}
use Rattle.uv_num.specs.declared.request.Request.{Request}

-- Ok where each number of the request is in its range, and else Inval
abbrev pub checked : Request → Result (Unit {0}) Errno
checked request = if is_in_range request then Ok tt else Err Inval
