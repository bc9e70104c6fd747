-- The table of a queue pair's moves: which attributes a move has to be given, and which it may be given.
use Rattle.std.specs.Prelude.{ℕ, Bool, List, [], ◌∷◌, Option, Some, None, Result, Ok, Err, ◌==◌, ◌&&◌, ◌||◌, not, if◌then◌else◌}
use Rattle.std.specs.List.{list_all, list_any}
use Rattle.uv_num.specs.declared.attrs.QpAttr.{QpAttr}
use Rattle.uv_num.specs.declared.attrs.QpAttr.TheVariants.{Access, Pkey, Port, Qkey, Dev, Mtu, Timeout, Retry, Rnr, Rqpsn, Mra, RnrTimer, Sqpsn, Mdra, Dqpn}
use Rattle.uv_num.specs.declared.attrs.QpAttrs.{QpAttrs}
use Rattle.uv_num.specs.declared.attrs.TheConstants.{QP_ATTRS}
use Rattle.uv_num.specs.declared.errno.Errno.{Errno}
use Rattle.uv_num.specs.declared.errno.Errno.TheVariants.{Inval}
use Rattle.uv_num.specs.declared.qp.QpState.{QpState}
use Rattle.uv_num.specs.declared.qp.QpState.TheVariants.{Reset, Init, Rtr, Rts}
use Rattle.uv_num.specs.declared.qp.QpState.TheVariants as state
use Rattle.uv_num.specs.declared.qp.Service.TheVariants.{Rc}
use Rattle.uv_num.specs.declared.transport.Move.{Move}
use Rattle.uv_num.specs.declared.transport.Move.TheVariants.{ResetToInit, InitToRtr, RtrToRts, AnyToReset, AnyToErr}
use Rattle.uv_num.specs.Attrs.{attr_place, is_given}
use Rattle.uv_num.specs.Qp.{qp_state_of, service_number}

-- the row of two states; every pair that isn't named has none
abbrev pub move_of : QpState → QpState → Option Move
move_of Reset Init = Some ResetToInit
move_of Init Rtr = Some InitToRtr
move_of Rtr Rts = Some RtrToRts
move_of from Reset = Some AnyToReset
move_of Reset state.Err = None
move_of from state.Err = Some AnyToErr
move_of from to = None

-- what a reliable connection has to give
abbrev pub rc_required : Move → List QpAttr
rc_required ResetToInit = Pkey ∷ Port ∷ Access ∷ []
rc_required InitToRtr = Dev ∷ Mtu ∷ Dqpn ∷ Rqpsn ∷ Mdra ∷ RnrTimer ∷ []
rc_required RtrToRts = Sqpsn ∷ Timeout ∷ Retry ∷ Rnr ∷ Mra ∷ []
rc_required AnyToReset = []
rc_required AnyToErr = []

-- what it may give beside that
abbrev pub rc_optional : Move → List QpAttr
rc_optional ResetToInit = []
rc_optional InitToRtr = Access ∷ Pkey ∷ []
rc_optional RtrToRts = Access ∷ RnrTimer ∷ []
rc_optional AnyToReset = []
rc_optional AnyToErr = []

-- what a datagram service has to give
abbrev pub ud_required : Move → List QpAttr
ud_required ResetToInit = Pkey ∷ Port ∷ Qkey ∷ []
ud_required InitToRtr = []
ud_required RtrToRts = Sqpsn ∷ []
ud_required AnyToReset = []
ud_required AnyToErr = []

-- what it may give beside that
abbrev pub ud_optional : Move → List QpAttr
ud_optional ResetToInit = []
ud_optional InitToRtr = Pkey ∷ Qkey ∷ []
ud_optional RtrToRts = Qkey ∷ []
ud_optional AnyToReset = []
ud_optional AnyToErr = []

-- whether an attribute is this one
abbrev pub is_attr : QpAttr → QpAttr → Bool
is_attr wanted name = attr_place name == attr_place wanted

-- whether an attribute stands in a list
abbrev pub is_listed : List QpAttr → QpAttr → Bool
is_listed names name = list_any (is_attr name) names

-- whether an attribute isn't given, or stands in one of two lists
abbrev pub is_allowed : QpAttrs → List QpAttr → List QpAttr → QpAttr → Bool
is_allowed attrs required optional name = not (is_given attrs name) || (is_listed required name || is_listed optional name)

-- whether each required attribute is given, and each one that is given is required or optional
abbrev pub meets_row : QpAttrs → List QpAttr → List QpAttr → Bool
meets_row attrs required optional = list_all (is_given attrs) required && list_all (is_allowed attrs required optional) QP_ATTRS

-- whether the attributes are those of a move: the columns of the reliable connection count for its number, and those of the
-- datagram service for every other number
abbrev pub fits_move : ℕ → Move → QpAttrs → Bool
fits_move service row attrs =
    if service == service_number Rc
    then meets_row attrs (rc_required row) (rc_optional row)
    else meets_row attrs (ud_required row) (ud_optional row)

-- the new state by a row, if there is one
abbrev pub moved : ℕ → Option Move → QpState → QpAttrs → Result QpState Errno
moved service None to attrs = Err Inval
moved service (Some row) to attrs = if fits_move service row attrs then Ok to else Err Inval

-- the new state of a queue pair that is in one state and is told to go to another, if that is one
abbrev pub modify_to : ℕ → QpState → Option QpState → QpAttrs → Result QpState Errno
modify_to service from None attrs = Err Inval
modify_to service from (Some to) attrs = moved service (move_of from to) to attrs

-- the new state of a queue pair of a service, which is in a state and is told the number of another
abbrev pub modify_of : ℕ → QpState → ℕ → QpAttrs → Result QpState Errno
modify_of service from to attrs = modify_to service from (qp_state_of to) attrs
