-- The sorts of calls.
use Rattle.std.specs.Prelude.{Bool, true}
use Rattle.uv_num.specs.declared.request.Role.{Role}

-- every call may be stepped, whatever its request does
abbrev pub is_any : Role → Bool
is_any role = true
