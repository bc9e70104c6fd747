-- A pair that a request asks for is unused.
use Rattle.std.proofs.Common.{◌≡◌, refl, sym, subst, ℕ, Bool, Option, None, Some}
use Rattle.std.specs.Prelude.{option_map}
use Rattle.uv_num.specs.declared.qp.Service.{Service}
use Rattle.uv_qp.specs.declared.state.Names.{Names}
use Rattle.uv_qp.specs.Makings.{unused}
use Rattle.uv_world.specs.declared.content.Content.{Content}
use Rattle.uv_world.specs.Making.{pair_content}
use Rattle.uv_world.specs.Owing.{IsUnused}

pub unused_content : (names : Names) (srq : Bool) (sends receives : ℕ) (service : Option Service) (c : Content) → Some c ≡ option_map pair_content (option_map (unused names srq sends receives) service) → IsUnused (Some c)
unused_content names srq sends receives None c e = absurd cc
unused_content names srq sends receives (Some s) c e =
    subst IsUnused (sym e) (record { reset = refl; sends = refl; receives = refl })
