-- What entries do to the phases of other files: nothing.
use Rattle.std.specs.Prelude.{ℕ, false, ◌≡◌, Option, None, Some, refl}
use Rattle.std.proofs.Common.{ap}
use Rattle.std.proofs.lemmas.Bool.{eqb-false}
use Rattle.uv_num.specs.declared.errno.Errno.{Errno}
use Rattle.uv_machine.specs.declared.entry.Entry.{Entry}
use Rattle.uv_machine.specs.declared.entry.Entry.TheVariants.{Open, Enter, Step, Unplug, Tear, Kill, Gone, Dissociated, Closed}
use Rattle.uv_machine.specs.declared.file.File.{File}
use Rattle.uv_machine.specs.declared.state.State.{State}
use Rattle.uv_machine.specs.States.{phase_in, phase_of}
use Rattle.uv_machine.specs.Effects.{refusal_in, unless_answered, with_file}
use Rattle.uv_machine.specs.Histories.{after}
use Rattle.uv_machine.specs.Laws.{moves}
use Rattle.uv_machine.proofs.Members.{slice_get-at_place_elsewhere}
use Rattle.uv_machine.proofs.Phases.{phase_of-after}

-- a change of one file leaves another's phase
phase_of-with_file : (m : State) (f g : ℕ) (change : File → File) → (f ≡ g → ⊥) → phase_of (with_file m f change) g ≡ phase_of m g
phase_of-with_file m f g change apart = ap phase_in (slice_get-at_place_elsewhere m.files f g change apart)

phase_of-unless : (m m' : State) (r : Option Errno) (g : ℕ) → phase_of m' g ≡ phase_of m g → phase_of (unless_answered m r m') g ≡ phase_of m g
phase_of-unless m m' None g e = e
phase_of-unless m m' (Some errno) g e = refl

pub phase_of-apart : (m : State) (e : Entry) (g : ℕ) → moves g e ≡ false → phase_of (after m e) g ≡ phase_of m g
phase_of-apart m (Open c f d a) g other = phase_of-unless m _ (refusal_in a) g (phase_of-with_file m f g _ (eqb-false f g other))
phase_of-apart m (Enter c f request a) g other = phase_of-after m (Enter c f request a) g refl
phase_of-apart m (Step c w o found a) g other = phase_of-after m (Step c w o found a) g refl
phase_of-apart m (Unplug d) g other = phase_of-after m (Unplug d) g refl
phase_of-apart m (Tear f by) g other = phase_of-with_file m f g _ (eqb-false f g other)
phase_of-apart m (Kill o) g other = phase_of-after m (Kill o) g refl
phase_of-apart m (Gone o kept) g other = phase_of-after m (Gone o kept) g refl
phase_of-apart m (Dissociated f) g other = phase_of-with_file m f g _ (eqb-false f g other)
phase_of-apart m (Closed f) g other = phase_of-with_file m f g _ (eqb-false f g other)
