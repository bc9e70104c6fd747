-- Files that are over stay so, whatever events come.
use Rattle.std.proofs.Common.{◌≡◌, ℕ, Bool, true, false, [], ◌∷◌, ◌++◌, Option, Some, None, slice_get, refl, ap, sym, ◌∙◌, subst, ⊎_elim}
use Rattle.std.specs.Prelude.{◌==◌, ◌&&◌, not, option_map, if◌then◌else◌}
use Rattle.std.proofs.lemmas.Bool.{eqb-true}
use Rattle.std.proofs.lemmas.Bool.Decides.{eqb_tells}
use Rattle.uv_num.proofs.PlaceLaws.{slice_get-at_place_same}
use Rattle.uv_num.specs.declared.limits.TheConstants.{DRIVER, ENDER}
use Rattle.uv_machine.specs.declared.entry.Entry.{Entry}
use Rattle.uv_machine.specs.declared.entry.Entry.TheVariants.{Tear, Dissociated, Closed}
use Rattle.uv_machine.specs.declared.file.File.{File}
use Rattle.uv_machine.specs.declared.file.FilePhase.{FilePhase}
use Rattle.uv_machine.specs.declared.file.FilePhase.TheVariants as file
use Rattle.uv_machine.specs.declared.state.State.{State}
use Rattle.uv_machine.specs.Effects.{in_phase}
use Rattle.uv_machine.specs.Histories.{Allowed, after, state_of}
use Rattle.uv_machine.specs.Laws.{moves_file}
use Rattle.uv_machine.specs.States.{device_of, is_callable, is_open, is_quiet, is_removing, is_unplugged, has_standing, phase_in, phase_of}
use Rattle.uv_graph.specs.Kept.{Kept}
use Rattle.uv_run.specs.declared.flight.Teardown.{Teardown}
use Rattle.uv_run.specs.declared.flight.Teardown.TheVariants.{Closing, Unplugging}
use Rattle.uv_run.specs.Site.{last_of}
use Rattle.uv_run.specs.Sound.{EndsStay, is_ending}
use Rattle.uv_run.proofs.MachineLaws.{files_stand_apart, phases_stand_apart, state_goes_on}

pub ends_entry : (old new : Kept) (e : Entry) → new.history ≡ old.history ++ e ∷ [] → EndsStay (state_of old.history) (after (state_of old.history) e) → EndsStay (state_of old.history) (state_of new.history)
ends_entry old new e more ends =
    let P : State → Type 0 = λ v. EndsStay (state_of old.history) v in
    subst P (sym (ap state_of more ∙ state_goes_on old.history e)) ends

-- an entry that moves no file
pub moved_none : (m : State) (e : Entry) (f : ℕ) → moves_file e ≡ false → is_ending (phase_of m f) ≡ true → is_ending (phase_of (after m e) f) ≡ true
moved_none m e f none is = ap is_ending (phases_stand_apart m e f none) ∙ is

-- a file that is over isn't torn
no_tear : (p : FilePhase) (driver gone : Bool) → is_ending p ≡ true → (if driver then is_open p && gone else is_callable p) ≡ true → ⊥
no_tear file.Fresh true gone is may = cc
no_tear file.Fresh false gone is may = cc
no_tear file.Open driver gone is may = cc
no_tear (file.Tearing by) true gone is may = cc
no_tear (file.Tearing by) false gone is may = cc
no_tear file.Dissociated driver gone is may = cc
no_tear file.Closed true gone is may = cc
no_tear file.Closed false gone is may = cc

pub ends_tear : (m : State) (f by : ℕ) → Allowed m (Tear f by) → (g : ℕ) → is_ending (phase_of m g) ≡ true → is_ending (phase_of (after m (Tear f by)) g) ≡ true
ends_tear m f by allowed g is =
    ⊎_elim
    (λ same. (let P : ℕ → Type 0 = λ v. is_ending (phase_of m v) ≡ true in
    absurd (no_tear (phase_of m f) (by == DRIVER) (is_unplugged m (device_of m f)) (subst P (sym same.1) is) allowed.2)))
    (λ apart. ap is_ending (files_stand_apart m (Tear f by) g apart.0) ∙ is)
    (eqb_tells f g)

no_end : (p : FilePhase) (quiet : Bool) → is_ending p ≡ true → (is_removing p && quiet) ≡ true → ⊥
no_end file.Fresh quiet is may = cc
no_end file.Open quiet is may = cc
no_end (file.Tearing by) quiet is may =
    let ender : by ≡ ENDER = eqb-true by ENDER is in
    let k : (ENDER == DRIVER && quiet) ≡ true = ap (λ (n : ℕ). n == DRIVER && quiet) (sym ender) ∙ may in
    cc
no_end file.Dissociated quiet is may = cc
no_end file.Closed quiet is may = cc

closed_is : (slot : Option File) → is_ending (phase_in (option_map (in_phase file.Closed) slot)) ≡ true
closed_is None = refl
closed_is (Some x) = refl

pub ends_last : (m : State) (f : ℕ) (t : Teardown) → Allowed m (last_of f t) → (g : ℕ) → is_ending (phase_of m g) ≡ true → is_ending (phase_of (after m (last_of f t)) g) ≡ true
ends_last m f (Closing h) allowed g is =
    ⊎_elim
    (λ same. (let P : ℕ → Type 0 = λ v. is_ending (phase_of (after m (Closed f)) v) ≡ true in
    subst P same.1 (ap (λ (v : Option File). is_ending (phase_in v)) (slice_get-at_place_same m.files f (in_phase file.Closed)) ∙ closed_is (slice_get m.files f))))
    (λ apart. ap is_ending (files_stand_apart m (Closed f) g apart.0) ∙ is)
    (eqb_tells f g)
ends_last m f (Unplugging d) allowed g is =
    ⊎_elim
    (λ same. (let P : ℕ → Type 0 = λ v. is_ending (phase_of m v) ≡ true in
    absurd (no_end (phase_of m f) (is_quiet m f && not (has_standing m f)) (subst P (sym same.1) is) allowed.1)))
    (λ apart. ap is_ending (files_stand_apart m (Dissociated f) g apart.0) ∙ is)
    (eqb_tells f g)
