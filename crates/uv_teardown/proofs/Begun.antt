-- Where a teardown may begin.
use Rattle.std.proofs.Common.{◌≡◌, ◌≢◌, ℕ, Bool, true, false, refl, ap, ◌∙◌, if◌then◌else◌}
use Rattle.std.specs.Prelude.{◌&&◌, ◌==◌}
use Rattle.std.proofs.lemmas.Bool.{eqb-true, ne_eqb}
use Rattle.uv_num.specs.declared.errno.Errno.TheVariants.{BadF}
use Rattle.uv_num.specs.declared.limits.TheConstants.{DRIVER}
use Rattle.uv_machine.specs.declared.file.FilePhase.{FilePhase}
use Rattle.uv_machine.specs.declared.file.FilePhase.TheVariants as file
use Rattle.uv_machine.specs.declared.state.State.{State}
use Rattle.uv_machine.specs.States.{phase_of, device_of, is_unplugged, is_open, is_callable}
use Rattle.uv_machine.specs.Outside.{may_tear}
use Rattle.uv_graph.specs.declared.told.Torn.{Torn}
use Rattle.uv_graph.specs.declared.told.Torn.TheVariants as torn
use Rattle.uv_graph.specs.Turns.{close_of, tear_in, tear_of}

-- Closes.

none_began : (own : Bool) → (if own then torn.NotYet DRIVER else torn.Refused BadF) ≡ torn.Began → ⊥
none_began true e = cc
none_began false e = cc

close_begins : (p : FilePhase) → close_of p ≡ torn.Began → is_callable p ≡ true
close_begins file.Fresh e = absurd cc
close_begins file.Open e = refl
close_begins (file.Tearing by) e = absurd (none_began (by == DRIVER) e)
close_begins file.Dissociated e = refl
close_begins file.Closed e = absurd cc

-- where a close begins, the machine allows it to any actor but the driver
pub close_may : (m : State) (f by : ℕ) → by ≢ DRIVER → close_of (phase_of m f) ≡ torn.Began → may_tear m f by ≡ true
close_may m f by ne e =
    let p = phase_of m f in
    ap (λ b. if b then is_open p && is_unplugged m (device_of m f) else is_callable p) (ne_eqb by DRIVER ne) ∙ close_begins p e

-- Tears.

tear_begins : (p : FilePhase) → tear_in p ≡ torn.Began → is_open p ≡ true
tear_begins file.Fresh e = absurd cc
tear_begins file.Open e = refl
tear_begins (file.Tearing by) e = absurd cc
tear_begins file.Dissociated e = absurd cc
tear_begins file.Closed e = absurd cc

of_device : (same : Bool) (t : Torn) → (if same then t else torn.Refused BadF) ≡ torn.Began → (same ≡ true) × (t ≡ torn.Began)
of_device true t e = (refl, e)
of_device false t e = absurd cc

-- where the driver's tear begins, the machine allows it
pub tear_may : (m : State) (d f : ℕ) → is_unplugged m d ≡ true → tear_of m d f ≡ torn.Began → may_tear m f DRIVER ≡ true
tear_may m d f unplugged e =
    let p = of_device (device_of m f == d) (tear_in (phase_of m f)) e in
    ap (λ b. b && is_unplugged m (device_of m f)) (tear_begins (phase_of m f) p.1) ∙ ap (is_unplugged m) (eqb-true (device_of m f) d p.0) ∙ unplugged
