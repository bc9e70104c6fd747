-- What stays of a file once it was opened: its device and its client.
use Rattle.std.proofs.Common.{◌≡◌, ℕ, true, false, List, Option, Some, None, refl, ap, sym, ◌∙◌, ⊎_elim}
use Rattle.std.specs.Prelude.{slice_get, option_map}
use Rattle.std.proofs.lemmas.Bool.Decides.{eqb_tells}
use Rattle.uv_num.specs.declared.errno.Errno.{Errno}
use Rattle.uv_num.specs.declared.request.Act as request
use Rattle.uv_num.specs.declared.request.Act.TheVariants.{Modify, Query, Bind, Unbind, Async}
use Rattle.uv_num.specs.Place.{at_place}
use Rattle.uv_num.proofs.PlaceLaws.{slice_get-at_place_same}
use Rattle.uv_machine.specs.declared.entry.Answer.{Answer}
use Rattle.uv_machine.specs.declared.entry.Entry.{Entry}
use Rattle.uv_machine.specs.declared.entry.Entry.TheVariants.{Open, Enter, Step, Unplug, Tear, Kill, Gone, Dissociated, Closed}
use Rattle.uv_machine.specs.declared.file.File.{File}
use Rattle.uv_machine.specs.declared.file.FilePhase.{FilePhase}
use Rattle.uv_machine.specs.declared.file.FilePhase.TheVariants as file
use Rattle.uv_machine.specs.declared.object.Object.{Object}
use Rattle.uv_machine.specs.declared.call.InFlight.{InFlight}
use Rattle.uv_machine.specs.declared.state.State.{State}
use Rattle.uv_machine.specs.Effects.{refusal_in, with_file, in_phase, opened, dissociated, event_taken, act, gone_from, unless_answered}
use Rattle.uv_machine.specs.Files.{client_in, OpenedStays}
use Rattle.uv_machine.specs.Histories.{Allowed, after}
use Rattle.uv_machine.specs.Plans.{own_object}
use Rattle.uv_machine.specs.States.{device_in, object_with, phase_of, is_fresh}
use Rattle.uv_machine.proofs.Members.{slice_get-at_place_elsewhere}
use Rattle.uv_machine.proofs.Files.{buried_files}
use Rattle.uv_machine.proofs.Turns.{Turn, IsTurn-allowed}
use Rattle.uv_machine.proofs.Turns.Turn.{Refuses, Reserves, Looks, Makes, Commits, Does, Locks, Checks, Finishes, Aborts, Frees, Leaves}
use Rattle.uv_machine.proofs.Overs.{was_fresh}

-- a reading of a file that only an open changes
pub record Keeps (R : Option File → ℕ) : Type 0 where
  pub taken : (slot : Option File) → R (option_map event_taken slot) ≡ R slot
  pub moved : (p : FilePhase) (slot : Option File) → R (option_map (in_phase p) slot) ≡ R slot
  pub freed : (slot : Option File) → R (option_map dissociated slot) ≡ R slot

module _ (R : Option File → ℕ) (keeps : Keeps R) (m : State) (f : ℕ) where
  abbrev Reads : List File → Type 0
  Reads files = R (slice_get files f) ≡ R (slice_get m.files f)

  reads_at : (k : ℕ) (g : File → File) → ((slot : Option File) → R (option_map g slot) ≡ R slot) → Reads (at_place m.files k g)
  reads_at k g same =
      ⊎_elim
      (λ e. ap (λ i. R (slice_get (at_place m.files i g) f)) e.1 ∙ (ap R (slice_get-at_place_same m.files f g) ∙ same (slice_get m.files f)))
      (λ e. ap R (slice_get-at_place_elsewhere m.files k f g e.1))
      (eqb_tells k f)

  reads_as : (m' n : State) → m' ≡ n → Reads n.files → Reads m'.files
  reads_as m' n e h = ap (λ (s : State). R (slice_get s.files f)) e ∙ h

  reads_act : (c : ℕ) (call : InFlight) (a : Answer) (what : request.Act) → Reads (act m c call a what).files
  reads_act c call a (Modify to attrs) = refl
  reads_act c call a Query = refl
  reads_act c call a (Bind offset long access) = refl
  reads_act c call a (Unbind offset long access) = refl
  reads_act c call a Async = reads_at call.file event_taken keeps.taken

  reads_turn : (c : ℕ) (call : InFlight) (a : Answer) (m' : State) → Turn m c call a m' → Reads m'.files
  reads_turn c call a m' (Refuses t) = reads_as m' _ t.gives refl
  reads_turn c call a m' (Reserves t) = reads_as m' _ t.gives refl
  reads_turn c call a m' (Looks t) = reads_as m' _ t.gives refl
  reads_turn c call a m' (Makes t) = reads_as m' _ t.gives refl
  reads_turn c call a m' (Commits t) = reads_as m' _ t.gives refl
  reads_turn c call a m' (Does t) = reads_as m' _ t.gives (reads_act c call a t.what)
  reads_turn c call a m' (Locks t) = reads_as m' _ t.gives refl
  reads_turn c call a m' (Checks t) = reads_as m' _ t.gives refl
  reads_turn c call a m' (Finishes t) = reads_as m' _ t.gives (ap (λ v. R (slice_get v f)) (buried_files m (object_with m (own_object call))))
  reads_turn c call a m' (Aborts t) = reads_as m' _ t.gives refl
  reads_turn c call a m' (Frees t) = reads_as m' _ t.gives refl
  reads_turn c call a m' (Leaves t) = reads_as m' _ t.gives refl

  reads_unless : (m' : State) (r : Option Errno) → (r ≡ None → Reads m'.files) → Reads (unless_answered m r m').files
  reads_unless m' None h = h refl
  reads_unless m' (Some e) h = refl

  reads_gone : (o : ℕ) (slot : Option Object) → Reads (gone_from m o slot).files
  reads_gone o None = refl
  reads_gone o (Some x) = refl

  reads_after : (e : Entry) → Allowed m e → is_fresh (phase_of m f) ≡ false → Reads (after m e).files
  reads_after (Open c k d a) allowed used =
      reads_unless (with_file m k (opened c d)) (refusal_in a)
      (λ fine. (
      let fresh = was_fresh (is_fresh (phase_of m k)) _ a allowed.3 fine in
      ap R (slice_get-at_place_elsewhere m.files k f (opened c d) (λ same. (let one : is_fresh (phase_of m f) ≡ true = ap (λ i. is_fresh (phase_of m i)) (sym same) ∙ fresh in cc)))))
  reads_after (Enter c k request a) allowed used = reads_unless _ (refusal_in a) (λ fine. refl)
  reads_after (Step c w o found a) allowed used =
      let t = IsTurn-allowed m c w o found a allowed in
      reads_turn c t.call a (after m (Step c w o found a)) t.turn
  reads_after (Unplug d) allowed used = refl
  reads_after (Tear k by) allowed used = reads_at k (in_phase (file.Tearing by)) (keeps.moved (file.Tearing by))
  reads_after (Kill o) allowed used = refl
  reads_after (Gone o kept) allowed used = reads_gone o (object_with m o)
  reads_after (Dissociated k) allowed used = reads_at k dissociated keeps.freed
  reads_after (Closed k) allowed used = reads_at k (in_phase file.Closed) (keeps.moved file.Closed)

device_taken : (slot : Option File) → device_in (option_map event_taken slot) ≡ device_in slot
device_taken None = refl
device_taken (Some x) = refl

device_moved : (p : FilePhase) (slot : Option File) → device_in (option_map (in_phase p) slot) ≡ device_in slot
device_moved p None = refl
device_moved p (Some x) = refl

device_freed : (slot : Option File) → device_in (option_map dissociated slot) ≡ device_in slot
device_freed None = refl
device_freed (Some x) = refl

client_taken : (slot : Option File) → client_in (option_map event_taken slot) ≡ client_in slot
client_taken None = refl
client_taken (Some x) = refl

client_moved : (p : FilePhase) (slot : Option File) → client_in (option_map (in_phase p) slot) ≡ client_in slot
client_moved p None = refl
client_moved p (Some x) = refl

client_freed : (slot : Option File) → client_in (option_map dissociated slot) ≡ client_in slot
client_freed None = refl
client_freed (Some x) = refl

pub opened_stays : OpenedStays
opened_stays m e f allowed used = (
  reads_after device_in (record { taken = device_taken; moved = device_moved; freed = device_freed }) m f e allowed used,
  reads_after client_in (record { taken = client_taken; moved = client_moved; freed = client_freed }) m f e allowed used,
)
