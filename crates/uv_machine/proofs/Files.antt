-- What changes of files leave of their phases and devices, and what turns leave.
use Rattle.std.proofs.Common.{◌≡◌, ◌≢◌, ℕ, true, false, List, Option, Some, None, length, refl, ap, sym, ◌∙◌, ⊎_elim}
use Rattle.std.specs.Prelude.{slice_get, option_map, if◌then◌else◌}
use Rattle.std.proofs.lemmas.Bool.Decides.{eqb_tells}
use Rattle.uv_num.specs.declared.request.Act as request
use Rattle.uv_num.specs.declared.request.Act.TheVariants.{Modify, Query, Bind, Unbind, Async}
use Rattle.uv_num.proofs.PlaceLaws.{slice_get-at_place_same, length-at_place}
use Rattle.uv_machine.specs.declared.entry.Answer.{Answer}
use Rattle.uv_machine.specs.declared.object.Object.{Object}
use Rattle.uv_machine.specs.declared.file.File.{File}
use Rattle.uv_machine.specs.declared.call.InFlight.{InFlight}
use Rattle.uv_machine.specs.declared.state.State.{State}
use Rattle.uv_machine.specs.Objects.{is_doomed}
use Rattle.uv_machine.specs.Plans.{own_object, with_outcome}
use Rattle.uv_machine.specs.States.{phase_in, phase_of, device_in, device_of, is_unplugged, object_with}
use Rattle.uv_machine.specs.Effects.{with_file, with_burial, with_call, event_taken, act, buried_if_doomed}
use Rattle.uv_machine.proofs.Members.{slice_get-at_place_elsewhere}
use Rattle.uv_machine.proofs.Turns.{Turn}
use Rattle.uv_machine.proofs.Turns.Turn.{Refuses, Reserves, Looks, Makes, Commits, Does, Locks, Checks, Finishes, Aborts, Frees, Leaves}

-- A change of one file.

module _ (m : State) (f : ℕ) (g : File → File) where
  pub phase_of-other : (k : ℕ) → f ≢ k → phase_of (with_file m f g) k ≡ phase_of m k
  phase_of-other k ne = ap phase_in (slice_get-at_place_elsewhere m.files f k g ne)

  pub device_of-other : (k : ℕ) → f ≢ k → device_of (with_file m f g) k ≡ device_of m k
  device_of-other k ne = ap device_in (slice_get-at_place_elsewhere m.files f k g ne)

  pub phase_of-here : phase_of (with_file m f g) f ≡ phase_in (option_map g (slice_get m.files f))
  phase_of-here = ap phase_in (slice_get-at_place_same m.files f g)

  pub device_of-here : device_of (with_file m f g) f ≡ device_in (option_map g (slice_get m.files f))
  device_of-here = ap device_in (slice_get-at_place_same m.files f g)

-- a change that keeps devices
pub device_in-kept : (g : File → File) → ((x : File) → (g x).device ≡ x.device) → (slot : Option File) → device_in (option_map g slot) ≡ device_in slot
device_in-kept g keeps None = refl
device_in-kept g keeps (Some x) = keeps x

pub device_of-kept : (m : State) (f : ℕ) (g : File → File) → ((x : File) → (g x).device ≡ x.device) → (k : ℕ) → device_of (with_file m f g) k ≡ device_of m k
device_of-kept m f g keeps k =
    ⊎_elim
    (λ e. (ap (device_of (with_file m f g)) (sym e.1) ∙ device_of-here m f g ∙ device_in-kept g keeps (slice_get m.files f) ∙ ap (device_of m) e.1))
    (λ e. device_of-other m f g k e.1)
    (eqb_tells f k)

phase_in-taken : (slot : Option File) → phase_in (option_map event_taken slot) ≡ phase_in slot
phase_in-taken None = refl
phase_in-taken (Some x) = refl

pub phase_of-taken : (m : State) (f k : ℕ) → phase_of (with_file m f event_taken) k ≡ phase_of m k
phase_of-taken m f k =
    ⊎_elim
    (λ e. (ap (phase_of (with_file m f event_taken)) (sym e.1) ∙ phase_of-here m f event_taken ∙ phase_in-taken (slice_get m.files f) ∙ ap (phase_of m) e.1))
    (λ e. phase_of-other m f event_taken k e.1)
    (eqb_tells f k)

-- Files and devices that are as they were, but for events.

pub record SameFiles (m m' : State) : Type 0 where
  pub count : length m'.files ≡ length m.files
  pub phases : (f : ℕ) → phase_of m' f ≡ phase_of m f
  pub devices : (f : ℕ) → device_of m' f ≡ device_of m f
  pub plugged : m'.plugged ≡ m.plugged

pub same_files_as : (m m' n : State) → m' ≡ n → n.files ≡ m.files → n.plugged ≡ m.plugged → SameFiles m m'
same_files_as m m' n e files plugged =
    let same : m'.files ≡ m.files = ap (λ (s : State). s.files) e ∙ files in
    record {
      count = ap (λ (v : List File). length v) same;
      phases = λ f. ap (λ v. phase_in (slice_get v f)) same;
      devices = λ f. ap (λ v. device_in (slice_get v f)) same;
      plugged = ap (λ (s : State). s.plugged) e ∙ plugged;
    }

same_files_taken : (m : State) (c f : ℕ) (g : InFlight → InFlight) → SameFiles m (with_call (with_file m f event_taken) c g)
same_files_taken m c f g = record {
  count = length-at_place m.files f event_taken;
  phases = phase_of-taken m f;
  devices = device_of-kept m f event_taken (λ x. refl);
  plugged = refl;
}

same_files_to : (m m' n : State) → m' ≡ n → SameFiles m n → SameFiles m m'
same_files_to m m' n e s = record {
  count = ap (λ (v : State). length v.files) e ∙ s.count;
  phases = λ f. ap (λ v. phase_of v f) e ∙ s.phases f;
  devices = λ f. ap (λ v. device_of v f) e ∙ s.devices f;
  plugged = ap (λ (v : State). v.plugged) e ∙ s.plugged;
}

same_files_act : (m : State) (c : ℕ) (call : InFlight) (a : Answer) (what : request.Act) → SameFiles m (act m c call a what)
same_files_act m c call a (Modify to attrs) = same_files_as m _ _ refl refl refl
same_files_act m c call a Query = same_files_as m _ _ refl refl refl
same_files_act m c call a (Bind offset length access) = same_files_as m _ _ refl refl refl
same_files_act m c call a (Unbind offset length access) = same_files_as m _ _ refl refl refl
same_files_act m c call a Async = same_files_taken m c call.file (with_outcome a)

pub buried_files : (m : State) (x : Option Object) → (buried_if_doomed m x).files ≡ m.files
buried_files m None = refl
buried_files m (Some x) = elim (is_doomed x.phase) as (λ b. (if b then with_burial m x else m).files ≡ m.files) [ true ↦ refl | false ↦ refl ]

pub buried_plugged : (m : State) (x : Option Object) → (buried_if_doomed m x).plugged ≡ m.plugged
buried_plugged m None = refl
buried_plugged m (Some x) = elim (is_doomed x.phase) as (λ b. (if b then with_burial m x else m).plugged ≡ m.plugged) [ true ↦ refl | false ↦ refl ]

pub buried_objects : (m : State) (x : Option Object) → (buried_if_doomed m x).objects ≡ m.objects
buried_objects m None = refl
buried_objects m (Some x) = elim (is_doomed x.phase) as (λ b. (if b then with_burial m x else m).objects ≡ m.objects) [ true ↦ refl | false ↦ refl ]

pub buried_made : (m : State) (x : Option Object) → (buried_if_doomed m x).made ≡ m.made
buried_made m None = refl
buried_made m (Some x) = elim (is_doomed x.phase) as (λ b. (if b then with_burial m x else m).made ≡ m.made) [ true ↦ refl | false ↦ refl ]

-- a turn leaves files and devices
pub same_files : (m : State) (c : ℕ) (call : InFlight) (a : Answer) (m' : State) → Turn m c call a m' → SameFiles m m'
same_files m c call a m' (Refuses k) = same_files_as m m' _ k.gives refl refl
same_files m c call a m' (Reserves k) = same_files_as m m' _ k.gives refl refl
same_files m c call a m' (Looks k) = same_files_as m m' _ k.gives refl refl
same_files m c call a m' (Makes k) = same_files_as m m' _ k.gives refl refl
same_files m c call a m' (Commits k) = same_files_as m m' _ k.gives refl refl
same_files m c call a m' (Does k) = same_files_to m m' _ k.gives (same_files_act m c call a k.what)
same_files m c call a m' (Locks k) = same_files_as m m' _ k.gives refl refl
same_files m c call a m' (Checks k) = same_files_as m m' _ k.gives refl refl
same_files m c call a m' (Finishes k) = same_files_as m m' _ k.gives (buried_files m (object_with m (own_object call))) (buried_plugged m (object_with m (own_object call)))
same_files m c call a m' (Aborts k) = same_files_as m m' _ k.gives refl refl
same_files m c call a m' (Frees k) = same_files_as m m' _ k.gives refl refl
same_files m c call a m' (Leaves k) = same_files_as m m' _ k.gives refl refl

pub is_unplugged-same : (m m' : State) → m'.plugged ≡ m.plugged → (d : ℕ) → is_unplugged m' d ≡ is_unplugged m d
is_unplugged-same m m' e d = ap (λ p. is_unplugged (record m { plugged = p }) d) e
