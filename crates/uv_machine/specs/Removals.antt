-- Removals of a file's objects by a teardown, counted: a file that is torn down, whose calls have ended, loses its objects by
-- a Kill and a Gone each, whatever else happens beside.
use Rattle.std.specs.Prelude.{ℕ, Bool, true, false, ◌≡◌, ◌+◌, ◌==◌, ◌++◌, List, [], ◌∷◌, Option, None, Some, count_by}
use Rattle.std.specs.List.{list_any}
use Rattle.uv_machine.specs.declared.entry.Entry.{Entry}
use Rattle.uv_machine.specs.declared.entry.Entry.TheVariants.{Open, Enter, Step, Unplug, Tear, Kill, Gone, Dissociated, Closed}
use Rattle.uv_machine.specs.declared.file.FilePhase.TheVariants as file
use Rattle.uv_machine.specs.declared.object.Object.{Object}
use Rattle.uv_machine.specs.declared.state.State.{State}
use Rattle.uv_machine.specs.Accounts.{one_if}
use Rattle.uv_machine.specs.Histories.{Allowed, after, IsLegal, state_of}
use Rattle.uv_machine.specs.Laws.{IsSwept, standing_count}
use Rattle.uv_machine.specs.Objects.{in_file, is_live_in}
use Rattle.uv_machine.specs.Outside.{may_sweep}
use Rattle.uv_machine.specs.States.{object_with, phase_of, is_quiet, newest_free}

-- The words.

-- the objects of a file that are live
abbrev pub live_count : State → ℕ → ℕ
live_count m f = count_by (is_live_in f) m.objects

abbrev pub is_of_file : ℕ → Option Object → Bool
is_of_file f None = false
is_of_file f (Some x) = in_file f x

-- the entry takes an object of the file out of use, in a teardown
abbrev pub kills_of : State → ℕ → Entry → Bool
kills_of m f (Open c k d a) = false
kills_of m f (Enter c k request a) = false
kills_of m f (Step c w o found a) = false
kills_of m f (Unplug d) = false
kills_of m f (Tear k by) = false
kills_of m f (Kill o) = is_of_file f (object_with m o)
kills_of m f (Gone o kept) = false
kills_of m f (Dissociated k) = false
kills_of m f (Closed k) = false

-- the entry releases an object of the file, in a teardown
abbrev pub goes_from : State → ℕ → Entry → Bool
goes_from m f (Open c k d a) = false
goes_from m f (Enter c k request a) = false
goes_from m f (Step c w o found a) = false
goes_from m f (Unplug d) = false
goes_from m f (Tear k by) = false
goes_from m f (Kill o) = false
goes_from m f (Gone o kept) = is_of_file f (object_with m o)
goes_from m f (Dissociated k) = false
goes_from m f (Closed k) = false

-- the entry ends the teardown of the file
abbrev pub ends_of : ℕ → Entry → Bool
ends_of f (Open c k d a) = false
ends_of f (Enter c k request a) = false
ends_of f (Step c w o found a) = false
ends_of f (Unplug d) = false
ends_of f (Tear k by) = false
ends_of f (Kill o) = false
ends_of f (Gone o kept) = false
ends_of f (Dissociated k) = k == f
ends_of f (Closed k) = k == f

-- so many entries of a list kill an object of the file, and so many release one
abbrev pub kills_through : State → ℕ → List Entry → ℕ
kills_through m f [] = 0
kills_through m f (e ∷ es) = one_if (kills_of m f e) + kills_through (after m e) f es

abbrev pub gone_through : State → ℕ → List Entry → ℕ
gone_through m f [] = 0
gone_through m f (e ∷ es) = one_if (goes_from m f e) + gone_through (after m e) f es

-- The laws.

-- a round of a sweep, a Kill and its Gone, leaves one object less standing
abbrev pub SweepTakesOne : Type 0
SweepTakesOne =
    (h : List Entry) (f by kept : ℕ) (x : Object) → IsSwept h f by → newest_free (state_of h) f ≡ Some x
    → standing_count (state_of ((h ++ Kill x.id ∷ []) ++ Gone x.id kept ∷ [])) f + 1 ≡ standing_count (state_of h) f

-- a file that is torn down and on which no call is in flight stays so until its teardown ends
abbrev pub TornStaysQuiet : Type 0
TornStaysQuiet =
    (m : State) (e : Entry) (f : ℕ) → Allowed m e → may_sweep m f ≡ true → ends_of f e ≡ false
    → (phase_of (after m e) f ≡ phase_of m f) × (is_quiet (after m e) f ≡ true)

-- its objects that stand get fewer by one exactly at a Gone of one of them, and those that are live at a Kill
abbrev pub ReleasesCount : Type 0
ReleasesCount =
    (h : List Entry) (e : Entry) (f : ℕ) → IsLegal h → Allowed (state_of h) e → may_sweep (state_of h) f ≡ true
    → standing_count (state_of (h ++ e ∷ [])) f + one_if (goes_from (state_of h) f e) ≡ standing_count (state_of h) f

abbrev pub KillsCount : Type 0
KillsCount =
    (h : List Entry) (e : Entry) (f : ℕ) → IsLegal h → Allowed (state_of h) e → may_sweep (state_of h) f ≡ true
    → live_count (state_of (h ++ e ∷ [])) f + one_if (kills_of (state_of h) f e) ≡ live_count (state_of h) f

-- a teardown of a file without calls, from its Tear to its end: as many Kills and as many Gones as objects stood
pub record IsTeardown (h : List Entry) (f by : ℕ) (es : List Entry) (last : Entry) : Type 0 where
  pub legal : IsLegal (h ++ Tear f by ∷ (es ++ last ∷ []))
  pub quiet : is_quiet (state_of h) f ≡ true
  pub goes_on : list_any (ends_of f) es ≡ false
  pub ends : ends_of f last ≡ true

abbrev pub TeardownCounts : Type 0
TeardownCounts =
    (h : List Entry) (f by : ℕ) (es : List Entry) (last : Entry) → IsTeardown h f by es last
    → (kills_through (state_of (h ++ Tear f by ∷ [])) f es ≡ standing_count (state_of h) f)
    × (gone_through (state_of (h ++ Tear f by ∷ [])) f es ≡ standing_count (state_of h) f)

-- a teardown that had to wait for calls is swept all the same once the last of them has ended
abbrev pub SweepWaits : Type 0
SweepWaits =
    (h : List Entry) (e : Entry) (f by : ℕ) → IsLegal h → Allowed (state_of h) e → phase_of (state_of h) f ≡ file.Tearing by
    → is_quiet (state_of h) f ≡ false → is_quiet (state_of (h ++ e ∷ [])) f ≡ true → IsSwept (h ++ e ∷ []) f by
