-- What is known of a move that a command's check let through.
use Rattle.std.proofs.Common.{◌≡◌, ℕ, true, false, Bool, Result, Ok, Err, refl}
use Rattle.std.specs.Prelude.{◌&&◌, if◌then◌else◌}
use Rattle.uv_num.specs.Ranges.{is_state, attrs_in_range}
use Rattle.uv_num.specs.declared.attrs.QpAttrs.{QpAttrs}
use Rattle.uv_num.specs.declared.errno.Errno.{Errno}
use Rattle.uv_num.specs.declared.errno.Errno.TheVariants.{Inval}
use Rattle.uv_num.specs.declared.request.Request.TheVariants.{ModifyQp}
use Rattle.uv_schema.specs.Check.{checked}

abbrev unless_inval : Bool → Result (Unit {0}) Errno
unless_inval b = if b then Ok tt else Err Inval

-- what is let in passes both tests
passes : (state attrs : Bool) (u : Unit {0}) → Ok u ≡ unless_inval (state && attrs) → attrs ≡ true
passes true true u is = refl
passes true false u is = cc
passes false attrs u is = cc

pub let_in : (to : ℕ) (attrs : QpAttrs) (u : Unit {0}) → Ok u ≡ checked (ModifyQp 0 to attrs) → attrs_in_range attrs ≡ true
let_in to attrs u is = passes (is_state to) (attrs_in_range attrs) u is
