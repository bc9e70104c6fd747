-- A move that the table lets pass has a row.
use Rattle.std.proofs.Common.{◌≡◌, ℕ, Bool, true, false, Option, None, Some, Result, Ok, Err, refl, subst}
use Rattle.std.specs.Prelude.{is_some, if◌then◌else◌}
use Rattle.uv_num.specs.declared.attrs.QpAttrs.{QpAttrs}
use Rattle.uv_num.specs.declared.errno.Errno.{Errno}
use Rattle.uv_num.specs.declared.errno.Errno.TheVariants.{Inval}
use Rattle.uv_num.specs.declared.qp.QpState.{QpState}
use Rattle.uv_num.specs.Modify.{fits_move, modify_of, modify_to, move_of, moved}
use Rattle.uv_num.specs.Qp.{qp_state_of}
use Rattle.uv_qp.specs.Moves.{has_row}

abbrev either : Bool → QpState → Result QpState Errno
either b to = if b then Ok to else Err Inval

state_is : (b : Bool) (to new : QpState) → either b to ≡ Ok new → to ≡ new
state_is true to new h = cc
state_is false to new h = cc

row_given : (service : ℕ) (from : QpState) (to : Option QpState) (new : QpState) (attrs : QpAttrs) → modify_to service from to attrs ≡ Ok new → has_row from new ≡ true
row_given service from None new attrs h = cc
row_given service from (Some to) new attrs h =
    let (some, same) = (elim (move_of from to) as (λ r. moved service r to attrs ≡ Ok new → (is_some r ≡ true) × (to ≡ new)) [
      | None ↦ λ e. cc
      | Some row ↦ λ e. (refl, state_is (fits_move service row attrs) to new e)
    ]) h in
    let P : QpState → Type 0 = λ s. has_row from s ≡ true in
    subst P same some

pub has_row_of_ok : (service : ℕ) (from : QpState) (to : ℕ) (new : QpState) (attrs : QpAttrs) → modify_of service from to attrs ≡ Ok new → has_row from new ≡ true
has_row_of_ok service from to new attrs h = row_given service from (qp_state_of to) new attrs h
