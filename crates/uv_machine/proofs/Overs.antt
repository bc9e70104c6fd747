-- How the phases of files go on, and what is left where all files are over.
use Rattle.std.proofs.Common.{◌≡◌, ◌≢◌, ℕ, zero, suc, ◌<◌, Bool, true, false, List, [], ◌∷◌, ◌++◌, Option, Some, None, map, refl, ap, sym, ◌∙◌, subst, arith, ⊎_elim, ◌⊎◌, inl, inr}
use Rattle.std.specs.Prelude.{not, ◌&&◌, ◌==◌, nat_lt, filter, replicate, slice_get, option_map, if◌then◌else◌}
use Rattle.std.proofs.lemmas.Option.{none-some}
use Rattle.std.proofs.lemmas.Bool.{and_parts, eqb-true, eqb-false, eq-eqb, ne_eqb}
use Rattle.std.proofs.lemmas.Bool.Decides.{eqb_tells, nat_tests}
use Rattle.std.proofs.lemmas.List.{append_assoc, append-nil}
use Rattle.uv_num.specs.declared.errno.Errno.{Errno}
use Rattle.uv_num.specs.declared.errno.Errno.TheVariants.{Inval}
use Rattle.uv_num.specs.declared.limits.TheConstants.{ACTOR_PLACES, DRIVER, FILES}
use Rattle.uv_num.specs.declared.qp.QpState.{QpState}
use Rattle.uv_num.specs.declared.request.Act as request
use Rattle.uv_num.specs.declared.request.Act.TheVariants.{Modify, Query, Bind, Unbind, Async}
use Rattle.uv_num.specs.declared.request.Request.{Request}
use Rattle.uv_num.specs.Place.{at_place}
use Rattle.uv_machine.specs.declared.entry.Word.{Word}
use Rattle.uv_machine.specs.declared.entry.Answer.{Answer}
use Rattle.uv_machine.specs.declared.entry.Entry.{Entry}
use Rattle.uv_machine.specs.declared.entry.Entry.TheVariants.{Open, Enter, Step, Unplug, Tear, Kill, Gone, Dissociated, Closed}
use Rattle.uv_machine.specs.declared.file.File.{File}
use Rattle.uv_machine.specs.declared.file.FilePhase.{FilePhase}
use Rattle.uv_machine.specs.declared.file.FilePhase.TheVariants as file
use Rattle.uv_machine.specs.declared.object.Change.{Change}
use Rattle.uv_machine.specs.declared.object.Change.TheVariants.{ToLive, ToDoomed, ToHusk, ToBound}
use Rattle.uv_machine.specs.declared.object.Object.{Object}
use Rattle.uv_machine.specs.declared.call.InFlight.{InFlight}
use Rattle.uv_machine.specs.declared.state.State.{State}
use Rattle.uv_machine.specs.Accounts.{one_if}
use Rattle.uv_machine.specs.Effects.{refusal_in, with_file, in_phase, opened, dissociated, act, binding_of, not_with_id, not_in_file, gone_from, unless_answered, put_call}
use Rattle.uv_machine.specs.Filed.{is_over}
use Rattle.uv_machine.specs.Files.{goes_on_to, PhaseGoesOn, WasTorn, ClosedWasTorn, TearingWasTorn, OverIsIdle, OverIsEmpty, MadeIsReleased}
use Rattle.uv_machine.specs.Histories.{Allowed, after, IsLegalFrom, IsLegal, state_from, state_of}
use Rattle.uv_machine.specs.Laws.{is_of, moves}
use Rattle.uv_machine.specs.Objects.{in_file, on_object}
use Rattle.uv_machine.specs.Outside.{MayAnswer}
use Rattle.uv_machine.specs.Plans.{own_object, acted_on, entered}
use Rattle.uv_machine.specs.Reached.{IsIn, Reached}
use Rattle.uv_machine.specs.States.{call_of, object_with, phase_in, phase_of, device_of, is_unplugged, is_fresh, is_open, is_callable, is_removing, is_closing, is_quiet, has_standing, fresh_file, start}
use Rattle.uv_machine.proofs.Members.{IsIn-append-left, IsIn-append-right, IsIn-map, Passes-filter}
use Rattle.uv_machine.proofs.Files.{phase_of-here}
use Rattle.uv_machine.proofs.FilesApart.{phase_of-apart}
use Rattle.uv_machine.proofs.Turns.{Turn, object_made, IsTurn-allowed}
use Rattle.uv_machine.proofs.Turns.Turn.{Refuses, Reserves, Looks, Makes, Commits, Does, Locks, Checks, Finishes, Aborts, Frees, Leaves}
use Rattle.uv_machine.proofs.Apart.{call_of-after}
use Rattle.uv_machine.proofs.Calling.{quiet_none}
use Rattle.uv_machine.proofs.Changing.{on_object-file}
use Rattle.uv_machine.proofs.Graph.{in_room}
use Rattle.uv_machine.proofs.Holding.{finish_objects}
use Rattle.uv_machine.proofs.Silence.{step_keeps_request}
use Rattle.uv_machine.proofs.Reaching.{start_calls, new_or_old, was_callable, Reached-start, Reached-after}
use Rattle.uv_machine.proofs.Balanced.{stands_in}
use Rattle.uv_machine.proofs.Lifetimes.{lived_of}

-- What an entry makes of a file's phase.

fresh_is : (p : FilePhase) → is_fresh p ≡ true → p ≡ file.Fresh
fresh_is file.Fresh h = refl
fresh_is file.Open h = absurd cc
fresh_is (file.Tearing by) h = absurd cc
fresh_is file.Dissociated h = absurd cc
fresh_is file.Closed h = absurd cc

removing_is : (p : FilePhase) → is_removing p ≡ true → p ≡ file.Tearing DRIVER
removing_is file.Fresh h = absurd cc
removing_is file.Open h = absurd cc
removing_is (file.Tearing by) h = ap (λ (v : ℕ). file.Tearing v) (eqb-true by DRIVER h)
removing_is file.Dissociated h = absurd cc
removing_is file.Closed h = absurd cc

pub record IsClosingBy (p : FilePhase) : Type 0 where
  pub by : ℕ
  pub other : (by == DRIVER) ≡ false
  pub is : p ≡ file.Tearing by

not_so : (b : Bool) → not b ≡ true → b ≡ false
not_so true h = absurd cc
not_so false h = refl

closing_is : (p : FilePhase) → is_closing p ≡ true → IsClosingBy p
closing_is file.Fresh h = absurd cc
closing_is file.Open h = absurd cc
closing_is (file.Tearing by) h = record { by = by; other = not_so (by == DRIVER) h; is = refl }
closing_is file.Dissociated h = absurd cc
closing_is file.Closed h = absurd cc

pub was_fresh : (fresh : Bool) (rest : Option Errno) (a : Answer) → MayAnswer (if not fresh then Some Inval else rest) a → refusal_in a ≡ None → fresh ≡ true
was_fresh true rest a may fine = refl
was_fresh false rest a may fine = absurd (none-some Inval (sym fine ∙ ap refusal_in may))

-- who may tear a file in this phase
abbrev pub tear_test : ℕ → FilePhase → Bool → Bool
tear_test by p gone = if by == DRIVER then is_open p && gone else is_callable p

pub data Moved (m : State) (e : Entry) (f : ℕ) : Type 0 where
  Stays : phase_of (after m e) f ≡ phase_of m f → Moved m e f
  Opens : phase_of m f ≡ file.Fresh → phase_of (after m e) f ≡ file.Open → Moved m e f
  Tears : (by : ℕ) (gone : Bool) → e ≡ Tear f by → tear_test by (phase_of m f) gone ≡ true → phase_of (after m e) f ≡ file.Tearing by → Moved m e f
  LetsGo : phase_of m f ≡ file.Tearing DRIVER → phase_of (after m e) f ≡ file.Dissociated → Moved m e f
  Closes : (by : ℕ) → (by == DRIVER) ≡ false → e ≡ Closed f → phase_of m f ≡ file.Tearing by → phase_of (after m e) f ≡ file.Closed → Moved m e f

-- a file that was opened has a place
slot_moves : (slot : Option File) (g : File → File) (p : FilePhase) → ((x : File) → (g x).phase ≡ p) → is_fresh (phase_in slot) ≡ false → phase_in (option_map g slot) ≡ p
slot_moves None g p gives h = absurd cc
slot_moves (Some x) g p gives h = gives x

here : (m : State) (f : ℕ) (g : File → File) (p : FilePhase) → ((x : File) → (g x).phase ≡ p) → is_fresh (phase_of m f) ≡ false → phase_of (with_file m f g) f ≡ p
here m f g p gives h = phase_of-here m f g ∙ slot_moves (slice_get m.files f) g p gives h

opens_slot : (slot : Option File) (c d : ℕ) → is_fresh (phase_in slot) ≡ true → (phase_in (option_map (opened c d) slot) ≡ phase_in slot) ⊎ (phase_in (option_map (opened c d) slot) ≡ file.Open)
opens_slot None c d h = inl refl
opens_slot (Some x) c d h = inr refl

tears_opened : (p : FilePhase) (driver gone : Bool) → (if driver then is_open p && gone else is_callable p) ≡ true → is_fresh p ≡ false
tears_opened file.Fresh true gone h = absurd cc
tears_opened file.Fresh false gone h = absurd cc
tears_opened file.Open driver gone h = refl
tears_opened (file.Tearing by) driver gone h = refl
tears_opened file.Dissociated driver gone h = refl
tears_opened file.Closed driver gone h = refl

torn_fresh : (p : FilePhase) (by : ℕ) → p ≡ file.Tearing by → is_fresh p ≡ false
torn_fresh p by e = ap is_fresh e

module _ (m : State) (f : ℕ) where
  opens : (c d : ℕ) (a : Answer) (r : Option Errno) → refusal_in a ≡ r → Allowed m (Open c f d a) → Moved m (Open c f d a) f
  opens c d a (Some e) refused allowed = Moved.Stays (ap (λ r. phase_of (unless_answered m r (with_file m f (opened c d))) f) refused)
  opens c d a None refused allowed =
      let fresh = was_fresh (is_fresh (phase_of m f)) _ a allowed.3 refused in
      let now : phase_of (after m (Open c f d a)) f ≡ phase_in (option_map (opened c d) (slice_get m.files f)) = ap (λ r. phase_of (unless_answered m r (with_file m f (opened c d))) f) refused ∙ phase_of-here m f (opened c d) in
      ⊎_elim
      (λ stays. Moved.Stays (now ∙ stays))
      (λ opened_now. Moved.Opens (fresh_is (phase_of m f) fresh) (now ∙ opened_now))
      (opens_slot (slice_get m.files f) c d fresh)

  moves_here : (e : Entry) → moves f e ≡ true → Allowed m e → Moved m e f
  moves_here (Open c k d a) is allowed =
      let P : ℕ → Type 0 = λ i. Allowed m (Open c i d a) in
      let Q : ℕ → Type 0 = λ i. Moved m (Open c i d a) f in
      let same : k ≡ f = eqb-true k f is in
      subst Q (sym same) (opens c d a (refusal_in a) refl (subst P same allowed))
  moves_here (Enter c k request a) is allowed = absurd cc
  moves_here (Step c w o found a) is allowed = absurd cc
  moves_here (Unplug d) is allowed = absurd cc
  moves_here (Tear k by) is allowed =
      let P : ℕ → Type 0 = λ i. tear_test by (phase_of m i) (is_unplugged m (device_of m i)) ≡ true in
      let Q : ℕ → Type 0 = λ i. Moved m (Tear i by) f in
      let same : k ≡ f = eqb-true k f is in
      let test : tear_test by (phase_of m f) (is_unplugged m (device_of m f)) ≡ true = subst P same allowed.2 in
      subst Q (sym same)
      (Moved.Tears by (is_unplugged m (device_of m f)) refl test (here m f (in_phase (file.Tearing by)) (file.Tearing by) (λ x. refl) (tears_opened (phase_of m f) (by == DRIVER) (is_unplugged m (device_of m f)) test)))
  moves_here (Kill o) is allowed = absurd cc
  moves_here (Gone o kept) is allowed = absurd cc
  moves_here (Dissociated k) is allowed =
      let Q : ℕ → Type 0 = λ i. Moved m (Dissociated i) f in
      let same : k ≡ f = eqb-true k f is in
      let parts = and_parts (is_removing (phase_of m k)) (is_quiet m k && not (has_standing m k)) allowed.1 in
      let torn : phase_of m f ≡ file.Tearing DRIVER = ap (phase_of m) (sym same) ∙ removing_is (phase_of m k) parts.0 in
      subst Q (sym same) (Moved.LetsGo torn (here m f dissociated file.Dissociated (λ x. refl) (torn_fresh (phase_of m f) DRIVER torn)))
  moves_here (Closed k) is allowed =
      let Q : ℕ → Type 0 = λ i. Moved m (Closed i) f in
      let same : k ≡ f = eqb-true k f is in
      let parts = and_parts (is_closing (phase_of m k)) (is_quiet m k && not (has_standing m k)) allowed.1 in
      let by = closing_is (phase_of m k) parts.0 in
      let torn : phase_of m f ≡ file.Tearing by.by = ap (phase_of m) (sym same) ∙ by.is in
      subst Q (sym same) (Moved.Closes by.by by.other refl torn (here m f (in_phase file.Closed) file.Closed (λ x. refl) (torn_fresh (phase_of m f) by.by torn)))

  moved_by : (e : Entry) (b : Bool) → moves f e ≡ b → Allowed m e → Moved m e f
  moved_by e true is allowed = moves_here e is allowed
  moved_by e false is allowed = Moved.Stays (phase_of-apart m e f is)

pub moved : (m : State) (e : Entry) (f : ℕ) → Allowed m e → Moved m e f
moved m e f allowed = moved_by m f e (moves f e) refl allowed

-- Phases go on.

goes_same : (p : FilePhase) → goes_on_to p p ≡ true
goes_same file.Fresh = refl
goes_same file.Open = refl
goes_same (file.Tearing by) = eq-eqb by by refl
goes_same file.Dissociated = refl
goes_same file.Closed = refl

goes_torn : (p : FilePhase) (by : ℕ) (gone : Bool) (driver : Bool) → (by == DRIVER) ≡ driver → (if driver then is_open p && gone else is_callable p) ≡ true → goes_on_to p (file.Tearing by) ≡ true
goes_torn file.Fresh by gone true is h = absurd cc
goes_torn file.Fresh by gone false is h = absurd cc
goes_torn file.Open by gone driver is h = refl
goes_torn (file.Tearing other) by gone true is h = absurd cc
goes_torn (file.Tearing other) by gone false is h = absurd cc
goes_torn file.Dissociated by gone true is h = absurd cc
goes_torn file.Dissociated by gone false is h = ap not is
goes_torn file.Closed by gone true is h = absurd cc
goes_torn file.Closed by gone false is h = absurd cc

goes_by : (m : State) (e : Entry) (f : ℕ) → Moved m e f → goes_on_to (phase_of m f) (phase_of (after m e) f) ≡ true
goes_by m e f (Moved.Stays same) = ap (goes_on_to (phase_of m f)) same ∙ goes_same (phase_of m f)
goes_by m e f (Moved.Opens was now) = ap (goes_on_to (phase_of m f)) now ∙ ap (λ p. goes_on_to p file.Open) was
goes_by m e f (Moved.Tears by gone is test now) = ap (goes_on_to (phase_of m f)) now ∙ goes_torn (phase_of m f) by gone (by == DRIVER) refl test
goes_by m e f (Moved.LetsGo was now) = ap (goes_on_to (phase_of m f)) now ∙ (ap (λ p. goes_on_to p file.Dissociated) was ∙ eq-eqb DRIVER DRIVER refl)
goes_by m e f (Moved.Closes by other is was now) = ap (goes_on_to (phase_of m f)) now ∙ (ap (λ p. goes_on_to p file.Closed) was ∙ ap not other)

pub phase_goes_on : PhaseGoesOn
phase_goes_on m e f allowed = goes_by m e f (moved m e f allowed)

-- What was torn.

pub record Torn (h : List Entry) (m : State) : Type 0 where
  pub tearing : (f by : ℕ) → phase_of m f ≡ file.Tearing by → IsIn (Tear f by) h
  pub closed : (f : ℕ) → phase_of m f ≡ file.Closed → WasTorn h f

abbrev pub torn_number : FilePhase → ℕ
torn_number file.Fresh = 0
torn_number file.Open = 0
torn_number (file.Tearing by) = by
torn_number file.Dissociated = 0
torn_number file.Closed = 0

same_by : (by other : ℕ) → file.Tearing by ≡ file.Tearing other → by ≡ other
same_by by other e = ap torn_number e

was_torn_more : (h : List Entry) (e : Entry) (f : ℕ) → WasTorn h f → WasTorn (h ++ e ∷ []) f
was_torn_more h e f t = record { by = t.by; other = t.other; torn = IsIn-append-left (Tear f t.by) h (e ∷ []) t.torn }

torn_tearing : (h : List Entry) (m : State) (e : Entry) (f by : ℕ) → Torn h m → Moved m e f → phase_of (after m e) f ≡ file.Tearing by → IsIn (Tear f by) (h ++ e ∷ [])
torn_tearing h m e f by t (Moved.Stays same) is = IsIn-append-left (Tear f by) h (e ∷ []) (t.tearing f by (sym same ∙ is))
torn_tearing h m e f by t (Moved.Opens was now) is = absurd (let no : file.Open ≡ file.Tearing by = sym now ∙ is in cc)
torn_tearing h m e f by t (Moved.Tears other gone entry test now) is =
    let same : other ≡ by = same_by other by (sym now ∙ is) in
    let P : ℕ → Type 0 = λ i. IsIn (Tear f i) (h ++ e ∷ []) in
    subst P same (IsIn-append-right (Tear f other) h (e ∷ []) (inl (sym entry)))
torn_tearing h m e f by t (Moved.LetsGo was now) is = absurd (let no : file.Dissociated ≡ file.Tearing by = sym now ∙ is in cc)
torn_tearing h m e f by t (Moved.Closes other ne entry was now) is = absurd (let no : file.Closed ≡ file.Tearing by = sym now ∙ is in cc)

torn_closed : (h : List Entry) (m : State) (e : Entry) (f : ℕ) → Torn h m → Moved m e f → phase_of (after m e) f ≡ file.Closed → WasTorn (h ++ e ∷ []) f
torn_closed h m e f t (Moved.Stays same) is = was_torn_more h e f (t.closed f (sym same ∙ is))
torn_closed h m e f t (Moved.Opens was now) is = absurd (let no : file.Open ≡ file.Closed = sym now ∙ is in cc)
torn_closed h m e f t (Moved.Tears by gone entry test now) is = absurd (let no : file.Tearing by ≡ file.Closed = sym now ∙ is in cc)
torn_closed h m e f t (Moved.LetsGo was now) is = absurd (let no : file.Dissociated ≡ file.Closed = sym now ∙ is in cc)
torn_closed h m e f t (Moved.Closes by ne entry was now) is =
    record { by = by; other = eqb-false by DRIVER ne; torn = IsIn-append-left (Tear f by) h (e ∷ []) (t.tearing f by was) }

torn_after : (h : List Entry) (m : State) (e : Entry) → Allowed m e → Torn h m → Torn (h ++ e ∷ []) (after m e)
torn_after h m e allowed t = record {
  tearing = λ f by is. torn_tearing h m e f by t (moved m e f allowed) is;
  closed = λ f is. torn_closed h m e f t (moved m e f allowed) is;
}

torn_as : (h h' : List Entry) (m : State) → h ≡ h' → Torn h m → Torn h' m
torn_as h h' m e t = let P : List Entry → Type 0 = λ v. Torn v m in subst P e t

torn_from : (before : List Entry) (m : State) (h : List Entry) → IsLegalFrom m h → Torn before m → Torn (before ++ h) (state_from m h)
torn_from before m [] legal t = torn_as before (before ++ []) m (sym (append-nil before)) t
torn_from before m (e ∷ h) legal t =
    torn_as ((before ++ e ∷ []) ++ h) (before ++ e ∷ h) (state_from (after m e) h) (append_assoc before (e ∷ []) h)
    (torn_from (before ++ e ∷ []) (after m e) h legal.1 (torn_after before m e legal.0 t))

start_fresh : (n f : ℕ) → phase_in (slice_get (replicate n fresh_file) f) ≡ file.Fresh
start_fresh zero f = refl
start_fresh (suc n) zero = refl
start_fresh (suc n) (suc f) = start_fresh n f

torn_start : Torn [] start
unfolding start
torn_start = record {
  tearing = λ f by is. absurd (let no : file.Fresh ≡ file.Tearing by = sym (start_fresh FILES f) ∙ is in cc);
  closed = λ f is. absurd (let no : file.Fresh ≡ file.Closed = sym (start_fresh FILES f) ∙ is in cc);
}

pub tearing_was_torn : TearingWasTorn
tearing_was_torn h f by legal is = (torn_from [] start h legal torn_start).tearing f by is

pub closed_was_torn : ClosedWasTorn
closed_was_torn h f legal is = (torn_from [] start h legal torn_start).closed f is

-- Files that are in use, and stay so until they are closed.

abbrev pub closes : ℕ → Entry → Bool
closes f (Open c k d a) = false
closes f (Enter c k request a) = false
closes f (Step c w o found a) = false
closes f (Unplug d) = false
closes f (Tear k by) = false
closes f (Kill o) = false
closes f (Gone o kept) = false
closes f (Dissociated k) = false
closes f (Closed k) = k == f

in_use_by : (m : State) (e : Entry) (f : ℕ) → Moved m e f → closes f e ≡ false → is_over (phase_of m f) ≡ false → is_over (phase_of (after m e) f) ≡ false
in_use_by m e f (Moved.Stays same) goes h = ap is_over same ∙ h
in_use_by m e f (Moved.Opens was now) goes h = ap is_over now
in_use_by m e f (Moved.Tears by gone entry test now) goes h = ap is_over now
in_use_by m e f (Moved.LetsGo was now) goes h = ap is_over now
in_use_by m e f (Moved.Closes by ne entry was now) goes h = absurd (let yes : closes f e ≡ true = ap (closes f) entry ∙ eq-eqb f f refl in cc)

in_use_after : (m : State) (e : Entry) (f : ℕ) → Allowed m e → closes f e ≡ false → is_over (phase_of m f) ≡ false → is_over (phase_of (after m e) f) ≡ false
in_use_after m e f allowed goes h = in_use_by m e f (moved m e f allowed) goes h

callable_in_use : (p : FilePhase) → is_callable p ≡ true → is_over p ≡ false
callable_in_use file.Fresh h = absurd cc
callable_in_use file.Open h = refl
callable_in_use (file.Tearing by) h = absurd cc
callable_in_use file.Dissociated h = refl
callable_in_use file.Closed h = absurd cc

-- calls and objects are on files in use
pub record AllInUse (m : State) : Type 0 where
  pub calls : (b : ℕ) (k : InFlight) → call_of m b ≡ Some k → is_over (phase_of m k.file) ≡ false
  pub objects : (x : Object) → IsIn x m.objects → is_over (phase_of m x.file) ≡ false

-- the file of an object was that of one, or of the call that makes it
pub data FileCame (m : State) (f : ℕ) (y : Object) : Type 0 where
  Was : (x : Object) → IsIn x m.objects → y.file ≡ x.file → FileCame m f y
  Is : y.file ≡ f → FileCame m f y

module _ (m : State) (f : ℕ) where
  came_changed : (o : ℕ) (change : Change) (y : Object) → IsIn y (map (on_object o change) m.objects) → FileCame m f y
  came_changed o change y k =
      let from = IsIn-map (on_object o change) y m.objects k in
      FileCame.Was from.item from.within (ap (λ (v : Object). v.file) from.gives ∙ on_object-file o change from.item)

  came_left : (p : Object → Bool) (y : Object) → IsIn y (filter p m.objects) → FileCame m f y
  came_left p y k = FileCame.Was y (Passes-filter p y m.objects k).within refl

  came_same : (y : Object) → IsIn y m.objects → FileCame m f y
  came_same y k = FileCame.Was y k refl

came_act : (m : State) (c : ℕ) (call : InFlight) (a : Answer) (what : request.Act) (y : Object) → IsIn y (act m c call a what).objects → FileCame m call.file y
came_act m c call a (Modify to attrs) y k = came_same m call.file y k
came_act m c call a Query y k = came_same m call.file y k
came_act m c call a (Bind offset long access) y k = came_changed m call.file (acted_on call) (ToBound (Some (binding_of call offset long access))) y k
came_act m c call a (Unbind offset long access) y k = came_changed m call.file (acted_on call) (ToBound None) y k
came_act m c call a Async y k = came_same m call.file y k

module _ (m : State) (c : ℕ) (call : InFlight) (y : Object) where
  within_as : (m' n : State) → m' ≡ n → IsIn y m'.objects → IsIn y n.objects
  within_as m' n e k = let P : State → Type 0 = λ s. IsIn y s.objects in subst P e k

  came_turn : (a : Answer) (m' : State) → Turn m c call a m' → IsIn y m'.objects → FileCame m call.file y
  came_turn a m' (Refuses t) k = came_same m call.file y (within_as m' _ t.gives k)
  came_turn a m' (Reserves t) k = came_same m call.file y (within_as m' _ t.gives k)
  came_turn a m' (Looks t) k = came_same m call.file y (within_as m' _ t.gives k)
  came_turn a m' (Makes t) k =
      let z = object_made m call t.kind t.index in
      ⊎_elim
      (λ old. came_same m call.file y old)
      (λ new. FileCame.Is (ap (λ (v : Object). v.file) new))
      (in_room y z m.objects (within_as m' _ t.gives k))
  came_turn a m' (Commits t) k = came_changed m call.file (own_object call) ToLive y (within_as m' _ t.gives k)
  came_turn a m' (Does t) k = came_act m c call a t.what y (within_as m' _ t.gives k)
  came_turn a m' (Locks t) k = came_same m call.file y (within_as m' _ t.gives k)
  came_turn a m' (Checks t) k = came_changed m call.file (own_object call) ToDoomed y (within_as m' _ t.gives k)
  came_turn a m' (Finishes t) k =
      let P : List Object → Type 0 = λ v. IsIn y v in
      came_left m call.file (not_with_id (own_object call)) y (subst P (finish_objects m c (own_object call)) (within_as m' _ t.gives k))
  came_turn a m' (Aborts t) k = came_same m call.file y (within_as m' _ t.gives k)
  came_turn a m' (Frees t) k = came_same m call.file y (within_as m' _ t.gives k)
  came_turn a m' (Leaves t) k = came_same m call.file y (within_as m' _ t.gives k)

came_used : (m : State) (e : Entry) (f : ℕ) (y : Object) → Allowed m e → closes y.file e ≡ false → AllInUse m → is_over (phase_of m f) ≡ false → FileCame m f y → is_over (phase_of (after m e) y.file) ≡ false
came_used m e f y allowed goes all used (FileCame.Was x k same) = in_use_after m e y.file allowed goes (ap (λ i. is_over (phase_of m i)) same ∙ all.objects x k)
came_used m e f y allowed goes all used (FileCame.Is same) = in_use_after m e y.file allowed goes (ap (λ i. is_over (phase_of m i)) same ∙ used)

-- an object that was there before
was_used : (m : State) (e : Entry) (x y : Object) → Allowed m e → closes y.file e ≡ false → AllInUse m → IsIn x m.objects → y.file ≡ x.file → is_over (phase_of (after m e) y.file) ≡ false
was_used m e x y allowed goes all k same = in_use_after m e y.file allowed goes (ap (λ i. is_over (phase_of m i)) same ∙ all.objects x k)

others_used : (m : State) (e : Entry) (b : ℕ) (k : InFlight) → Allowed m e → is_of b e ≡ false → closes k.file e ≡ false → AllInUse m → call_of (after m e) b ≡ Some k → is_over (phase_of (after m e) k.file) ≡ false
others_used m e b k allowed other goes all is = in_use_after m e k.file allowed goes (all.calls b k (sym (call_of-after m e b other) ∙ is))

entered_used : (m : State) (c f : ℕ) (request : Request) (e : Option Errno) (k : InFlight) → Reached m → call_of m c ≡ None → (e ≡ None → is_callable (phase_of m f) ≡ true) → call_of (unless_answered m e (record m { calls = at_place m.calls c (put_call (entered f request)) })) c ≡ Some k → is_over (phase_of m k.file) ≡ false
entered_used m c f request (Some e) k r idle callable is = absurd (none-some k (sym idle ∙ is))
entered_used m c f request None k r idle callable is =
    ⊎_elim
    (λ new. ap (λ (v : InFlight). is_over (phase_of m v.file)) (sym new.1) ∙ callable_in_use (phase_of m f) (callable refl))
    (λ old. absurd (old.0 refl))
    (new_or_old m c f request r idle (callable refl) c k is)

unless_objects : (m m' : State) (r : Option Errno) → m'.objects ≡ m.objects → (unless_answered m r m').objects ≡ m.objects
unless_objects m m' None e = e
unless_objects m m' (Some r) e = refl

within_same : (y : Object) (xs ys : List Object) → xs ≡ ys → IsIn y xs → IsIn y ys
within_same y xs ys e k = let P : List Object → Type 0 = λ v. IsIn y v in subst P e k

stepped_used : (m : State) (c : ℕ) (w : Word) (o : ℕ) (found : Option QpState) (a : Answer) (k : InFlight) → Allowed m (Step c w o found a) → AllInUse m → call_of (after m (Step c w o found a)) c ≡ Some k → is_over (phase_of (after m (Step c w o found a)) k.file) ≡ false
stepped_used m c w o found a k allowed all is =
    let m' = after m (Step c w o found a) in
    let t = IsTurn-allowed m c w o found a allowed in
    let kept = step_keeps_request m c w o found a t.call k allowed t.is is in
    in_use_after m (Step c w o found a) k.file allowed refl (ap (λ i. is_over (phase_of m i)) kept.0 ∙ all.calls c t.call t.is)

-- an object that a change or a removal left
pub record OfBefore (m : State) (y : Object) : Type 0 where
  pub item : Object
  pub within : IsIn item m.objects
  pub same : y.file ≡ item.file

before_changed : (m : State) (o : ℕ) (change : Change) (y : Object) → IsIn y (map (on_object o change) m.objects) → OfBefore m y
before_changed m o change y k =
    let from = IsIn-map (on_object o change) y m.objects k in
    record { item = from.item; within = from.within; same = ap (λ (v : Object). v.file) from.gives ∙ on_object-file o change from.item }

before_gone : (m : State) (o : ℕ) (slot : Option Object) (y : Object) → IsIn y (gone_from m o slot).objects → OfBefore m y
before_gone m o None y k = record { item = y; within = k; same = refl }
before_gone m o (Some x) y k = before_changed m o ToHusk y k

before_used : (m : State) (e : Entry) (y : Object) → Allowed m e → closes y.file e ≡ false → AllInUse m → OfBefore m y → is_over (phase_of (after m e) y.file) ≡ false
before_used m e y allowed goes all b = was_used m e b.item y allowed goes all b.within b.same

not_closed_file : (k f : ℕ) → f ≢ k → (k == f) ≡ false
not_closed_file k f ne = ne_eqb k f (λ e. ne (sym e))

pub all_in_use_after : (m : State) (e : Entry) → Reached m → Allowed m e → AllInUse m → AllInUse (after m e)
all_in_use_after m (Open c f d a) r allowed all = record {
  calls = λ b k is. others_used m (Open c f d a) b k allowed refl refl all is;
  objects = λ y k. was_used m (Open c f d a) y y allowed refl all (within_same y _ m.objects (unless_objects m (with_file m f (opened c d)) (refusal_in a) refl) k) refl;
}
all_in_use_after m (Enter c f request a) r allowed all = record {
  calls = λ b k is.
      ⊎_elim
      (λ same. (
      let P : ℕ → Type 0 = λ i. call_of (after m (Enter c f request a)) i ≡ Some k in
      in_use_after m (Enter c f request a) k.file allowed refl (entered_used m c f request (refusal_in a) k r allowed.2 (λ fine. was_callable (is_callable (phase_of m f)) _ a allowed.3 fine) (subst P (sym same.1) is))))
      (λ other. others_used m (Enter c f request a) b k allowed other.0 refl all is)
      (eqb_tells c b);
  objects = λ y k. was_used m (Enter c f request a) y y allowed refl all (within_same y _ m.objects (unless_objects m (record m { calls = at_place m.calls c (put_call (entered f request)) }) (refusal_in a) refl) k) refl;
}
all_in_use_after m (Step c w o found a) r allowed all =
    let t = IsTurn-allowed m c w o found a allowed in
    record {
      calls = λ b k is.
          ⊎_elim
          (λ same. (let P : ℕ → Type 0 = λ i. call_of (after m (Step c w o found a)) i ≡ Some k in stepped_used m c w o found a k allowed all (subst P (sym same.1) is)))
          (λ other. others_used m (Step c w o found a) b k allowed other.0 refl all is)
          (eqb_tells c b);
      objects = λ y k. came_used m (Step c w o found a) t.call.file y allowed refl all (all.calls c t.call t.is) (came_turn m c t.call y a (after m (Step c w o found a)) t.turn k);
    }
all_in_use_after m (Unplug d) r allowed all = record {
  calls = λ b k is. others_used m (Unplug d) b k allowed refl refl all is;
  objects = λ y k. was_used m (Unplug d) y y allowed refl all k refl;
}
all_in_use_after m (Tear f by) r allowed all = record {
  calls = λ b k is. others_used m (Tear f by) b k allowed refl refl all is;
  objects = λ y k. was_used m (Tear f by) y y allowed refl all k refl;
}
all_in_use_after m (Kill o) r allowed all = record {
  calls = λ b k is. others_used m (Kill o) b k allowed refl refl all is;
  objects = λ y k. before_used m (Kill o) y allowed refl all (before_changed m o ToDoomed y k);
}
all_in_use_after m (Gone o kept) r allowed all = record {
  calls = λ b k is. others_used m (Gone o kept) b k allowed refl refl all is;
  objects = λ y k. before_used m (Gone o kept) y allowed refl all (before_gone m o (object_with m o) y k);
}
all_in_use_after m (Dissociated f) r allowed all = record {
  calls = λ b k is. others_used m (Dissociated f) b k allowed refl refl all is;
  objects = λ y k. was_used m (Dissociated f) y y allowed refl all k refl;
}
all_in_use_after m (Closed f) r allowed all =
    let parts = and_parts (is_closing (phase_of m f)) (is_quiet m f && not (has_standing m f)) allowed.1 in
    let quiet = (and_parts (is_quiet m f) (not (has_standing m f)) parts.1).0 in
    record {
      calls = λ b k is. others_used m (Closed f) b k allowed refl (not_closed_file f k.file (quiet_none m b f k quiet (sym (call_of-after m (Closed f) b refl) ∙ is))) all is;
      objects = λ y k. (
          let p = Passes-filter (not_in_file f) y m.objects k in
          was_used m (Closed f) y y allowed (not_closed_file f y.file (eqb-false y.file f (not_so (in_file f y) p.test))) all p.within refl);
    }

all_in_use_from : (m : State) (h : List Entry) → Reached m → IsLegalFrom m h → AllInUse m → AllInUse (state_from m h)
all_in_use_from m [] r legal all = all
all_in_use_from m (e ∷ h) r legal all = all_in_use_from (after m e) h (Reached-after m e legal.0 r) legal.1 (all_in_use_after m e r legal.0 all)

all_in_use_start : AllInUse start
unfolding start
all_in_use_start = record {
  calls = λ b k is. absurd (start_calls b ACTOR_PLACES k is);
  objects = λ x k. absurd k;
}

pub all_in_use : (h : List Entry) → IsLegal h → AllInUse (state_of h)
all_in_use h legal = all_in_use_from start h Reached-start legal all_in_use_start

-- Where all files are over.

no_call : (slot : Option InFlight) → ((k : InFlight) → slot ≡ Some k → ⊥) → slot ≡ None
no_call None none = refl
no_call (Some k) none = absurd (none k refl)

pub over_is_idle : OverIsIdle
over_is_idle h legal over b =
    no_call (call_of (state_of h) b)
    (λ k is. (let used = (all_in_use h legal).calls b k is in let yes = over k.file in cc))

no_items : (xs : List Object) → ((x : Object) → IsIn x xs → ⊥) → xs ≡ []
no_items [] none = refl
no_items (x ∷ xs) none = absurd (none x (inl refl))

pub over_is_empty : OverIsEmpty
over_is_empty h legal over =
    no_items (state_of h).objects (λ x k. (let used = (all_in_use h legal).objects x k in let yes = over x.file in cc))

low_is : (o top : ℕ) → o < top → nat_lt o top ≡ true
low_is o top low = grind (arith, nat_tests)

pub made_is_released : MadeIsReleased
made_is_released h o legal over low =
    let l = lived_of h o legal in
    let gone : one_if (stands_in (state_of h).objects o) ≡ 0 = ap (λ v. one_if (stands_in v o)) (over_is_empty h legal over) in
    omega (arith, l.balanced.sum, gone, ap one_if (low_is o (state_of h).made low))
