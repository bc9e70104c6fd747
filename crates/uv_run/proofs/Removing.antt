-- The files that the driver has to see to.
use Rattle.std.proofs.Common.{◌≡◌, ℕ, zero, suc, ◌+◌, ◌<◌, Bool, true, false, Option, Some, None, refl, ap, ◌∙◌, subst, arith}
use Rattle.std.specs.Prelude.{◌≢◌, ◌==◌, ◌&&◌, ◌||◌, if◌then◌else◌}
use Rattle.std.proofs.lemmas.Bool.{eq-eqb}
use Rattle.uv_num.specs.declared.errno.Errno.{Errno}
use Rattle.uv_num.specs.declared.errno.Errno.TheVariants.{BadF}
use Rattle.uv_machine.specs.declared.file.FilePhase.{FilePhase}
use Rattle.uv_machine.specs.declared.file.FilePhase.TheVariants as file
use Rattle.uv_machine.specs.declared.state.State.{State}
use Rattle.uv_machine.specs.States.{device_of, is_open, is_tearing, phase_of}
use Rattle.uv_graph.specs.declared.told.Torn.TheVariants as torn
use Rattle.uv_graph.specs.Owns.{is_torn_by}
use Rattle.uv_graph.specs.Turns.{tear_in, tear_of}
use Rattle.uv_run.specs.Site.{file_ahead, file_below, is_ahead, or_this, torn_by}
use Rattle.uv_run.proofs.Tears.{torn_none}

ahead_new : (n : ℕ) (m : State) (d f : ℕ) (v : Bool) → is_ahead m d n ≡ v → (if v then Some n else None) ≡ Some f → (f < n + 1) × (is_ahead m d f ≡ true)
ahead_new n m d f true is e =
    let same : n ≡ f = cc in
    let P : ℕ → Type 0 = λ v. is_ahead m d v ≡ true in
    (omega (arith, same), subst P same is)
ahead_new n m d f false is e = absurd (cc)

ahead_step : (n : ℕ) (m : State) (d f : ℕ) (x : Option ℕ) → file_below n m d ≡ x → (file_below n m d ≡ Some f → (f < n) × (is_ahead m d f ≡ true)) → or_this x n (is_ahead m d n) ≡ Some f → (f < n + 1) × (is_ahead m d f ≡ true)
ahead_step n m d f None is rest e = ahead_new n m d f (is_ahead m d n) refl e
ahead_step n m d f (Some g) is rest e = let r = rest (is ∙ e) in (omega (arith, r.0), r.1)

pub ahead_is : (n : ℕ) (m : State) (d f : ℕ) → file_below n m d ≡ Some f → (f < n) × (is_ahead m d f ≡ true)
unfolding file_below
ahead_is zero m d f e = absurd (cc)
ahead_is (suc n) m d f e =
    let r = ahead_step n m d f (file_below n m d) refl (ahead_is n m d f) e in
    (omega (arith, r.0), r.1)

none_refused : (v : Bool) (p : FilePhase) (x : Errno) → (v && (is_open p || is_tearing p)) ≡ true → (if v then tear_in p else torn.Refused BadF) ≡ torn.Refused x → ⊥
none_refused true file.Fresh x ahead e = absurd (cc)
none_refused true file.Open x ahead e = absurd (cc)
none_refused true (file.Tearing by) x ahead e = absurd (cc)
none_refused true file.Dissociated x ahead e = absurd (cc)
none_refused true file.Closed x ahead e = absurd (cc)
none_refused false p x ahead e = absurd (cc)

-- a file that is ahead is torn, or waits
pub not_refused : (m : State) (d f : ℕ) (x : Errno) → file_ahead m d ≡ Some f → tear_of m d f ≡ torn.Refused x → ⊥
not_refused m d f x ahead e = none_refused (device_of m f == d) (phase_of m f) x (ahead_is _ m d f ahead).1 e

torn_in : (v : Bool) (p : FilePhase) (n : ℕ) → (if v then tear_in p else torn.Refused BadF) ≡ torn.NotYet n → p ≡ file.Tearing n
torn_in true file.Fresh n e = absurd (cc)
torn_in true file.Open n e = absurd (cc)
torn_in true (file.Tearing by) n e = cc
torn_in true file.Dissociated n e = absurd (cc)
torn_in true file.Closed n e = absurd (cc)
torn_in false p n e = absurd (cc)

open_in : (v : Bool) (p : FilePhase) → (if v then tear_in p else torn.Refused BadF) ≡ torn.Began → p ≡ file.Open
open_in true file.Fresh e = absurd (cc)
open_in true file.Open e = refl
open_in true (file.Tearing by) e = absurd (cc)
open_in true file.Dissociated e = absurd (cc)
open_in true file.Closed e = absurd (cc)
open_in false p e = absurd (cc)

-- what is torn was open
pub torn_open : (m : State) (d f : ℕ) → tear_of m d f ≡ torn.Began → phase_of m f ≡ file.Open
torn_open m d f e = open_in (device_of m f == d) (phase_of m f) e

-- who is waited for tears the file
pub waited_tears : (m : State) (d f n : ℕ) → tear_of m d f ≡ torn.NotYet n → phase_of m f ≡ file.Tearing n
waited_tears m d f n e = torn_in (device_of m f == d) (phase_of m f) n e

-- and is another than who tears none
pub waited_other : (m : State) (a f n : ℕ) → torn_by m a ≡ None → phase_of m f ≡ file.Tearing n → n ≢ a
waited_other m a f n none is e =
    let yes : is_torn_by a (phase_of m f) ≡ true = ap (is_torn_by a) is ∙ eq-eqb n a e in
    let no : is_torn_by a (phase_of m f) ≡ false = torn_none m a none f in
    cc
