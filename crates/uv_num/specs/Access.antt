-- Access rights.
use Rattle.std.specs.Prelude.{ℕ, Bool, ◌==◌, ◌&&◌, ◌||◌, bit_and, not}
use Rattle.uv_num.specs.declared.access.TheConstants.{ACCESS_LOCAL_WRITE, ACCESS_REMOTE_WRITE, ACCESS_REMOTE_ATOMIC, QP_ACCESS, REGION_ACCESS, WINDOW_ACCESS}

-- whether an access has this right
abbrev pub has_right : ℕ → ℕ → Bool
has_right right access = bit_and access right == right

-- whether an access has no rights but these
abbrev pub has_only : ℕ → ℕ → Bool
has_only rights access = bit_and access rights == access

-- whether the other side may change the bytes
abbrev pub lets_others_write : ℕ → Bool
lets_others_write access = has_right ACCESS_REMOTE_WRITE access || has_right ACCESS_REMOTE_ATOMIC access

-- what a region can have: where the other side may change the bytes, so may the owner
abbrev pub is_region_access : ℕ → Bool
is_region_access access =
    has_only REGION_ACCESS access && (has_right ACCESS_LOCAL_WRITE access || not (lets_others_write access))

-- what a window can have
abbrev pub is_window_access : ℕ → Bool
is_window_access access = has_only WINDOW_ACCESS access

-- what a queue pair can have
abbrev pub is_qp_access : ℕ → Bool
is_qp_access access = has_only QP_ACCESS access
