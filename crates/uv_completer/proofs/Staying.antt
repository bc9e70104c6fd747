-- Regions that are as they were.
use Rattle.std.proofs.Common.{◌≡◌, ap}
use Rattle.uv_region.specs.Lent.{Lent, known, StaysKnown}

pub stays_so : (lent after : Lent) → after ≡ lent → StaysKnown lent after
stays_so lent after is = record { same = λ k. ap (λ (m : Lent). known m k) is }
