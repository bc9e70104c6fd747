use Rattle.std.proofs.Common.{ℕ, ◌<◌, arith, sym, subst}
use Rattle.uv_num.specs.declared.limits.TheConstants.{QP_NUMBERS}
use Rattle.uv_packet.specs.Fields.{field}
use Rattle.uv_packet.proofs.Cutting.{field_below}
use Rattle.uv_packet.proofs.refusing.dest_at.Goals as goal

pub returns-clause-most : goal.returns-clause-most
returns-clause-most c =
    let below : field 3 5 c.args.bytes.now < QP_NUMBERS = field_below 3 5 c.args.bytes.now (λ i. omega (arith, c.type_inv.bytes i)) in
    subst (λ (n : ℕ). n < QP_NUMBERS) (sym c.u24_at.ensures) below
