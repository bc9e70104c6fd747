-- The numbers of the states and services of a queue pair, as Linux has them.
use Rattle.std.specs.Prelude.{ℕ, Bool, Option, [], ◌∷◌, ◌==◌, find}
use Rattle.uv_num.specs.declared.qp.QpState.{QpState}
use Rattle.uv_num.specs.declared.qp.QpState.TheVariants.{Reset, Init, Rtr, Rts, Err}
use Rattle.uv_num.specs.declared.qp.Service.{Service}
use Rattle.uv_num.specs.declared.qp.Service.TheVariants.{Rc, Ud}

-- the number of a state
abbrev pub qp_state_number : QpState → ℕ
qp_state_number Reset = 0
qp_state_number Init = 1
qp_state_number Rtr = 2
qp_state_number Rts = 3
qp_state_number Err = 6

-- whether a state has this number
abbrev pub has_state_number : ℕ → QpState → Bool
has_state_number n state = qp_state_number state == n

-- the state that has a number, if one has
abbrev pub qp_state_of : ℕ → Option QpState
qp_state_of n = find (has_state_number n) (Reset ∷ Init ∷ Rtr ∷ Rts ∷ Err ∷ [])

-- the number of a service
abbrev pub service_number : Service → ℕ
service_number Rc = 2
service_number Ud = 4

-- whether a service has this number
abbrev pub has_service_number : ℕ → Service → Bool
has_service_number n service = service_number service == n

-- the service that has a number, if one has
abbrev pub service_of : ℕ → Option Service
service_of n = find (has_service_number n) (Rc ∷ Ud ∷ [])
