-- An actor tears one file at most.
use Rattle.std.proofs.Common.{◌≡◌, ◌≢◌, ℕ, zero, suc, ◌+◌, Bool, true, false, List, [], ◌∷◌, Option, Some, None, cond, get_or, refl, ap, sym, ◌∙◌, ⊎_elim}
use Rattle.std.specs.Prelude.{not, ◌&&◌, slice_get, position, option_map, replicate}
use Rattle.std.specs.List.{position_from}
use Rattle.std.proofs.lemmas.Iterator.Adapters.{position_from-zero}
use Rattle.std.proofs.lemmas.List.Quantifiers.{position-Some}
use Rattle.std.proofs.lemmas.Option.{none-some, slice_get-get_or}
use Rattle.std.proofs.lemmas.Bool.{and_parts, eq-eqb, eqb-true, ne_eqb}
use Rattle.std.proofs.lemmas.Bool.Decides.{eqb_tells}
use Rattle.uv_num.specs.declared.errno.Errno.{Errno}
use Rattle.uv_num.specs.declared.limits.TheConstants.{DRIVER, FILES}
use Rattle.uv_machine.specs.declared.entry.Entry.{Entry}
use Rattle.uv_machine.specs.declared.entry.Entry.TheVariants.{Open, Enter, Step, Unplug, Tear, Kill, Gone, Dissociated, Closed}
use Rattle.uv_machine.specs.declared.entry.Answer.TheVariants as answer
use Rattle.uv_machine.specs.declared.file.File.{File}
use Rattle.uv_machine.specs.declared.file.FilePhase.{FilePhase}
use Rattle.uv_machine.specs.declared.file.FilePhase.TheVariants as file
use Rattle.uv_machine.specs.declared.state.State.{State}
use Rattle.uv_machine.specs.States.{phase_in, phase_of, is_quiet, is_removing, has_standing, start, fresh_file}
use Rattle.uv_machine.specs.Effects.{refusal_in, unless_answered, with_file, opened, in_phase, dissociated}
use Rattle.uv_machine.specs.Histories.{Allowed, after, state_of}
use Rattle.uv_machine.proofs.Files.{phase_of-here}
use Rattle.uv_machine.proofs.FilesApart.{phase_of-apart}
use Rattle.uv_machine.proofs.Filing.{same_by}
use Rattle.uv_graph.specs.Kept.{Kept}
use Rattle.uv_graph.specs.Notes.{HasNoneOut}
use Rattle.uv_graph.specs.Owns.{is_torn_by, tears_it}
use Rattle.uv_graph.specs.Seats.{TearsOnce}
use Rattle.uv_graph.proofs.Taking.{torn_is}

-- The first item that passes.

module _ {X : Type 0} (p : X → Bool) where
  not_first : (n : ℕ) (rest : Option ℕ) (b : Bool) → cond b (Some n) rest ≡ None → (b ≡ false) × (rest ≡ None)
  not_first n rest true e = absurd (none-some n (sym e))
  not_first n rest false e = (refl, e)

  fails_from : (n : ℕ) (xs : List X) → position_from p n xs ≡ None → (i : ℕ) (x : X) → slice_get xs i ≡ Some x → p x ≡ false
  fails_from n [] none i x is = absurd (none-some x is)
  fails_from n (y ∷ ys) none zero x is =
      let same : y ≡ x = (let P : Option X → X = λ s. elim s as (λ _. X) [ None ↦ y | Some v ↦ v ] in ap P is) in
      ap p (sym same) ∙ (not_first n (position_from p (n + 1) ys) (p y) none).0
  fails_from n (y ∷ ys) none (suc i) x is = fails_from (n + 1) ys (not_first n (position_from p (n + 1) ys) (p y) none).1 i x is

  none_from : (n : ℕ) (xs : List X) → ((i : ℕ) (x : X) → slice_get xs i ≡ Some x → p x ≡ false) → position_from p n xs ≡ None
  none_from n [] all = refl
  none_from n (y ∷ ys) all = ap (λ b. cond b (Some n) (position_from p (n + 1) ys)) (all zero y refl) ∙ none_from (n + 1) ys (λ i x is. all (suc i) x is)

-- Who tears.

not_torn : (p : FilePhase) (b : ℕ) → p ≡ file.Tearing b → is_torn_by b p ≡ false → ⊥
not_torn p b tearing none = let yes : is_torn_by b p ≡ true = ap (is_torn_by b) tearing ∙ eq-eqb b b refl in cc

opened_free : (b c d : ℕ) (slot : Option File) → is_torn_by b (phase_in (option_map (opened c d) slot)) ≡ false
opened_free b c d None = refl
opened_free b c d (Some x) = refl

left_free : (b : ℕ) (slot : Option File) → is_torn_by b (phase_in (option_map dissociated slot)) ≡ false
left_free b None = refl
left_free b (Some x) = refl

closed_free : (b : ℕ) (slot : Option File) → is_torn_by b (phase_in (option_map (in_phase file.Closed) slot)) ≡ false
closed_free b None = refl
closed_free b (Some x) = refl

tears_by : (b : ℕ) (slot : Option File) (x : File) → slot ≡ Some x → phase_in slot ≡ file.Tearing b → tears_it b x ≡ true
tears_by b slot x is tearing = ap (is_torn_by b) (sym (ap phase_in is) ∙ tearing) ∙ eq-eqb b b refl

torn_slot : (b : ℕ) (slot : Option File) → phase_in slot ≡ file.Tearing b → ((x : File) → slot ≡ Some x → tears_it b x ≡ false) → ⊥
torn_slot b None tearing fails = not_torn file.Fresh b tearing refl
torn_slot b (Some x) tearing fails = let no = fails x refl in let yes = tears_by b (Some x) x refl tearing in cc

-- who tears no file tears this one neither
pub none_tears : (m : State) (b f : ℕ) → position (tears_it b) m.files ≡ None → phase_of m f ≡ file.Tearing b → ⊥
none_tears m b f none tearing =
    torn_slot b (slice_get m.files f) tearing (fails_from (tears_it b) 0 m.files (sym (position_from-zero (tears_it b) m.files) ∙ none) f)

false_if : (b : Bool) → (b ≡ true → ⊥) → b ≡ false
false_if true h = absurd (h refl)
false_if false h = refl

-- and who tears not one of them tears none
pub tears_none : (m : State) (b : ℕ) → ((f : ℕ) → phase_of m f ≡ file.Tearing b → ⊥) → position (tears_it b) m.files ≡ None
tears_none m b none =
    position_from-zero (tears_it b) m.files
    ∙ none_from (tears_it b) 0 m.files (λ i x is. false_if (tears_it b x) (λ yes. none i (ap phase_in is ∙ torn_is b x.phase yes)))

abbrev no_file : File
no_file = record { phase = file.Fresh; device = 0; client = 0; event = false }

-- the file that an actor tears is torn by it
pub tears_this : (m : State) (b f : ℕ) → position (tears_it b) m.files ≡ Some f → phase_of m f ≡ file.Tearing b
tears_this m b f is =
    let p = position-Some (tears_it b) m.files f no_file is in
    ap phase_in (slice_get-get_or m.files f no_file p.0) ∙ torn_is b (get_or m.files f no_file).phase p.1

-- One file at most.

-- who begins to tear a file down tears none
abbrev pub IsFreeToTear : State → Entry → Type 0
IsFreeToTear m (Open c f d a) = Unit {0}
IsFreeToTear m (Enter c f request a) = Unit {0}
IsFreeToTear m (Step c w o found a) = Unit {0}
IsFreeToTear m (Unplug d) = Unit {0}
IsFreeToTear m (Tear f by) = position (tears_it by) m.files ≡ None
IsFreeToTear m (Kill o) = Unit {0}
IsFreeToTear m (Gone o kept) = Unit {0}
IsFreeToTear m (Dissociated f) = Unit {0}
IsFreeToTear m (Closed f) = Unit {0}

pub free_to_tear : (k : Kept) (e : Entry) → HasNoneOut k e → IsFreeToTear (state_of k.history) e
free_to_tear k (Open c f d a) none = tt
free_to_tear k (Enter c f request a) none = tt
free_to_tear k (Step c w o found a) none = tt
free_to_tear k (Unplug d) none = tt
free_to_tear k (Tear f by) none = none
free_to_tear k (Kill o) none = tt
free_to_tear k (Gone o kept) none = tt
free_to_tear k (Dissociated f) none = tt
free_to_tear k (Closed f) none = tt

once_same : (m m' : State) → TearsOnce m → ((g : ℕ) → phase_of m' g ≡ phase_of m g) → TearsOnce m'
once_same m m' once same b f g e e' = once b f g (sym (same f) ∙ e) (sym (same g) ∙ e')

-- where one file is torn no longer, or not yet
once_apart : (m m' : State) (f : ℕ) → TearsOnce m → ((g : ℕ) → f ≢ g → phase_of m' g ≡ phase_of m g) → ((b : ℕ) → phase_of m' f ≡ file.Tearing b → ⊥) → TearsOnce m'
once_apart m m' f once other none b x y e e' =
    let was : (z : ℕ) → phase_of m' z ≡ file.Tearing b → phase_of m z ≡ file.Tearing b =
    λ z h. ⊎_elim (λ same. absurd (none b (ap (phase_of m') same.1 ∙ h))) (λ ne. sym (other z ne.1) ∙ h) (eqb_tells f z) in
    once b x y (was x e) (was y e')

torn_by_it : (by b : ℕ) (slot : Option File) → phase_in (option_map (in_phase (file.Tearing by)) slot) ≡ file.Tearing b → by ≡ b
torn_by_it by b None e = absurd (not_torn file.Fresh b e refl)
torn_by_it by b (Some x) e = same_by by b e

once_torn : (m m' : State) (f by : ℕ) → TearsOnce m → position (tears_it by) m.files ≡ None → ((g : ℕ) → f ≢ g → phase_of m' g ≡ phase_of m g) → ((b : ℕ) → phase_of m' f ≡ file.Tearing b → by ≡ b) → TearsOnce m'
once_torn m m' f by once free other here b x y e e' =
    let alone : (z : ℕ) → f ≢ z → by ≡ b → phase_of m' z ≡ file.Tearing b → ⊥ =
    λ z ne same h. none_tears m by z free (sym (other z ne) ∙ h ∙ ap (λ (v : ℕ). file.Tearing v) (sym same)) in
    ⊎_elim
    (λ same. ⊎_elim
    (λ same'. sym same.1 ∙ same'.1)
    (λ ne. absurd (alone y ne.1 (here b (ap (phase_of m') same.1 ∙ e)) e'))
    (eqb_tells f y))
    (λ ne. ⊎_elim
    (λ same'. absurd (alone x ne.1 (here b (ap (phase_of m') same'.1 ∙ e')) e))
    (λ ne'. once b x y (sym (other x ne.1) ∙ e) (sym (other y ne'.1) ∙ e'))
    (eqb_tells f y))
    (eqb_tells f x)

once_unless : (m m' : State) (e : Option Errno) → TearsOnce m → TearsOnce m' → TearsOnce (unless_answered m e m')
once_unless m m' None o o' = o'
once_unless m m' (Some e) o o' = o

pub once_after : (m : State) (e : Entry) → IsFreeToTear m e → TearsOnce m → TearsOnce (after m e)
once_after m (Open c f d a) free once =
    once_unless m (with_file m f (opened c d)) (refusal_in a) once
    (once_apart m (with_file m f (opened c d)) f once (λ g ne. phase_of-apart m (Open c f d answer.Ok) g (ne_eqb f g ne))
    (λ b e. not_torn _ b (sym (phase_of-here m f (opened c d)) ∙ e) (opened_free b c d (slice_get m.files f))))
once_after m (Enter c f request a) free once = once_same m (after m (Enter c f request a)) once (λ g. phase_of-apart m (Enter c f request a) g refl)
once_after m (Step c w o found a) free once = once_same m (after m (Step c w o found a)) once (λ g. phase_of-apart m (Step c w o found a) g refl)
once_after m (Unplug d) free once = once
once_after m (Tear f by) free once =
    once_torn m (after m (Tear f by)) f by once free (λ g ne. phase_of-apart m (Tear f by) g (ne_eqb f g ne))
    (λ b e. torn_by_it by b (slice_get m.files f) (sym (phase_of-here m f (in_phase (file.Tearing by))) ∙ e))
once_after m (Kill o) free once = once
once_after m (Gone o kept) free once = once_same m (after m (Gone o kept)) once (λ g. phase_of-apart m (Gone o kept) g refl)
once_after m (Dissociated f) free once =
    once_apart m (after m (Dissociated f)) f once (λ g ne. phase_of-apart m (Dissociated f) g (ne_eqb f g ne))
    (λ b e. not_torn _ b (sym (phase_of-here m f dissociated) ∙ e) (left_free b (slice_get m.files f)))
once_after m (Closed f) free once =
    once_apart m (after m (Closed f)) f once (λ g ne. phase_of-apart m (Closed f) g (ne_eqb f g ne))
    (λ b e. not_torn _ b (sym (phase_of-here m f (in_phase file.Closed)) ∙ e) (closed_free b (slice_get m.files f)))

fresh_slot : (n f b : ℕ) → is_torn_by b (phase_in (slice_get (replicate n fresh_file) f)) ≡ false
fresh_slot zero f b = refl
fresh_slot (suc n) zero b = refl
fresh_slot (suc n) (suc f) b = fresh_slot n f b

start_untorn : (f b : ℕ) → is_torn_by b (phase_of start f) ≡ false
unfolding start
start_untorn f b = fresh_slot FILES f b

pub start_once : TearsOnce start
start_once b f g e e' = absurd (not_torn (phase_of start f) b e (start_untorn f b))

-- The end of a teardown.

ended : (m m' : State) (f b : ℕ) → TearsOnce m → phase_of m f ≡ file.Tearing b → ((g : ℕ) → f ≢ g → phase_of m' g ≡ phase_of m g) → (phase_of m' f ≡ file.Tearing b → ⊥) → position (tears_it b) m'.files ≡ None
ended m m' f b once tearing other none =
    tears_none m' b
    (λ g h. ⊎_elim (λ same. none (ap (phase_of m') same.1 ∙ h)) (λ ne. ne.1 (once b f g tearing (sym (other g ne.1) ∙ h))) (eqb_tells f g))

pub dissociated_ends : (m : State) (f b : ℕ) → TearsOnce m → phase_of m f ≡ file.Tearing b → position (tears_it b) (after m (Dissociated f)).files ≡ None
dissociated_ends m f b once tearing =
    ended m (after m (Dissociated f)) f b once tearing (λ g ne. phase_of-apart m (Dissociated f) g (ne_eqb f g ne))
    (λ e. not_torn _ b (sym (phase_of-here m f dissociated) ∙ e) (left_free b (slice_get m.files f)))

pub closed_ends : (m : State) (f b : ℕ) → TearsOnce m → phase_of m f ≡ file.Tearing b → position (tears_it b) (after m (Closed f)).files ≡ None
closed_ends m f b once tearing =
    ended m (after m (Closed f)) f b once tearing (λ g ne. phase_of-apart m (Closed f) g (ne_eqb f g ne))
    (λ e. not_torn _ b (sym (phase_of-here m f (in_phase file.Closed)) ∙ e) (closed_free b (slice_get m.files f)))

removing_is : (p : FilePhase) → is_removing p ≡ true → p ≡ file.Tearing DRIVER
removing_is file.Fresh e = absurd cc
removing_is file.Open e = absurd cc
removing_is (file.Tearing by) e = ap (λ (v : ℕ). file.Tearing v) (eqb-true by DRIVER e)
removing_is file.Dissociated e = absurd cc
removing_is file.Closed e = absurd cc

-- what is dissociated was torn by the driver
pub dissociated_tears : (m : State) (f : ℕ) → Allowed m (Dissociated f) → phase_of m f ≡ file.Tearing DRIVER
dissociated_tears m f allowed = removing_is (phase_of m f) (and_parts (is_removing (phase_of m f)) (is_quiet m f && not (has_standing m f)) allowed.1).0
