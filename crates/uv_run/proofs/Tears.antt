-- The file that an actor tears down.
use Rattle.std.proofs.Common.{◌≡◌, ℕ, ◌<◌, ◌≤◌, Bool, true, false, Option, Some, None, length, get_or, slice_get, unwrap_or, refl, ap, sym, ◌∙◌, arith, ⊎_elim}
use Rattle.std.specs.List.{position_or_len}
use Rattle.std.proofs.lemmas.Bool.{cases_lt, eqb-true}
use Rattle.std.proofs.lemmas.Grind.{common_steps}
use Rattle.std.proofs.lemmas.List.Quantifiers.{position-Some}
use Rattle.std.proofs.lemmas.List.Sums.{fails_before_first}
use Rattle.std.proofs.lemmas.Option.{get_or_from_slice_get, slice_get_within, unwrap_or-slice_get}
use Rattle.uv_machine.specs.declared.file.File.{File}
use Rattle.uv_machine.specs.declared.file.FilePhase.{FilePhase}
use Rattle.uv_machine.specs.declared.file.FilePhase.TheVariants as file
use Rattle.uv_machine.specs.declared.state.State.{State}
use Rattle.uv_machine.specs.States.{fresh_file, phase_in, phase_of}
use Rattle.uv_graph.specs.Owns.{is_torn_by, tears_it}
use Rattle.uv_run.specs.Site.{torn_by}

tears_slot : (b : ℕ) (slot : Option File) → tears_it b (unwrap_or slot fresh_file) ≡ is_torn_by b (phase_in slot)
tears_slot b None = refl
tears_slot b (Some x) = refl

tears_at : (b : ℕ) (m : State) (i : ℕ) → tears_it b (get_or m.files i fresh_file) ≡ is_torn_by b (phase_of m i)
tears_at b m i = ap (tears_it b) (sym (unwrap_or-slice_get m.files i fresh_file)) ∙ tears_slot b (slice_get m.files i)

-- a file in this phase is torn by this actor
pub tearing_is : (b : ℕ) (p : FilePhase) → is_torn_by b p ≡ true → p ≡ file.Tearing b
tearing_is b file.Fresh e = absurd (cc)
tearing_is b file.Open e = absurd (cc)
tearing_is b (file.Tearing by) e = ap (λ (v : ℕ). file.Tearing v) (eqb-true by b e)
tearing_is b file.Dissociated e = absurd (cc)
tearing_is b file.Closed e = absurd (cc)

-- the file that is torn is torn by the actor
pub torn_some : (m : State) (b f : ℕ) → torn_by m b ≡ Some f → is_torn_by b (phase_of m f) ≡ true
torn_some m b f e = sym (tears_at b m f) ∙ (position-Some (tears_it b) m.files f fresh_file e).1

pub torn_within : (m : State) (b f : ℕ) → torn_by m b ≡ Some f → f < length m.files
torn_within m b f e = (position-Some (tears_it b) m.files f fresh_file e).0

torn_before : (m : State) (b f k : ℕ) → torn_by m b ≡ Some f → k < f → is_torn_by b (phase_of m k) ≡ false
torn_before m b f k e low = sym (tears_at b m k) ∙ (position-Some (tears_it b) m.files f fresh_file e).2 k low

none_before : (m : State) (b : ℕ) → torn_by m b ≡ None → length m.files ≤ position_or_len (tears_it b) m.files
none_before m b e = grind (arith, common_steps)

torn_at : (m : State) (b f : ℕ) (slot : Option File) → slice_get m.files f ≡ slot → torn_by m b ≡ None → is_torn_by b (phase_in slot) ≡ false
torn_at m b f None is e = refl
torn_at m b f (Some x) is e =
    let low : f < length m.files = slice_get_within m.files f x is in
    let all : length m.files ≤ position_or_len (tears_it b) m.files = none_before m b e in
    ap (tears_it b) (sym (get_or_from_slice_get m.files f x fresh_file is)) ∙ fails_before_first (tears_it b) m.files f fresh_file (omega (arith, low, all))

-- where none is torn, none is
pub torn_none : (m : State) (b : ℕ) → torn_by m b ≡ None → (f : ℕ) → is_torn_by b (phase_of m f) ≡ false
torn_none m b e f = torn_at m b f (slice_get m.files f) refl e

true_false : (v : Bool) → v ≡ true → v ≡ false → ⊥
true_false v t f = cc

-- what an actor tears stays where what it tears of each file does
torn_cases :
    (m m' : State) (b : ℕ) → ((f : ℕ) → is_torn_by b (phase_of m' f) ≡ is_torn_by b (phase_of m f)) → (t t' : Option ℕ) → torn_by m b ≡ t → torn_by m' b ≡ t' → t' ≡ t
torn_cases m m' b same None None e e' = refl
torn_cases m m' b same None (Some g) e e' = absurd (true_false (is_torn_by b (phase_of m g)) (sym (same g) ∙ torn_some m' b g e') (torn_none m b e g))
torn_cases m m' b same (Some f) None e e' = absurd (true_false (is_torn_by b (phase_of m f)) (torn_some m b f e) (sym (same f) ∙ torn_none m' b e' f))
torn_cases m m' b same (Some f) (Some g) e e' =
    let up : f < g → ⊥ = λ low. true_false (is_torn_by b (phase_of m f)) (torn_some m b f e) (sym (same f) ∙ torn_before m' b g f e' low) in
    let down : g < f → ⊥ = λ low. true_false (is_torn_by b (phase_of m g)) (sym (same g) ∙ torn_some m' b g e') (torn_before m b f g e low) in
    ap (λ (v : ℕ). Some v) (⊎_elim (λ low. absurd (up low)) (λ high. ⊎_elim (λ low. absurd (down low)) (λ more. omega (arith, high, more)) (cases_lt g f)) (cases_lt f g))

pub torn_stays : (m m' : State) (b : ℕ) → ((f : ℕ) → is_torn_by b (phase_of m' f) ≡ is_torn_by b (phase_of m f)) → torn_by m' b ≡ torn_by m b
torn_stays m m' b same = torn_cases m m' b same (torn_by m b) (torn_by m' b) refl refl
