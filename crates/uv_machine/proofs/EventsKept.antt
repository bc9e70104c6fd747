-- One event for each dissociation.
use Rattle.std.proofs.Common.{◌≡◌, ℕ, zero, suc, ◌+◌, Bool, true, false, List, [], ◌∷◌, Option, Some, None, refl, ap, sym, ◌∙◌, subst, arith, ⊎_elim}
use Rattle.std.specs.Prelude.{◌++◌, ◌&&◌, ◌==◌, not, slice_get, option_map, replicate, count_by, if◌then◌else◌}
use Rattle.std.proofs.lemmas.Bool.{and_parts, eqb-true}
use Rattle.std.proofs.lemmas.Bool.Decides.{eqb_tells}
use Rattle.std.proofs.lemmas.Option.{none-some}
use Rattle.uv_num.specs.declared.errno.Errno.{Errno}
use Rattle.uv_num.specs.declared.errno.Errno.TheVariants.{Io, Again, Inval}
use Rattle.uv_num.specs.declared.limits.TheConstants.{FILES, DRIVER}
use Rattle.uv_num.specs.declared.qp.QpState.{QpState}
use Rattle.uv_num.specs.declared.request.Act as request
use Rattle.uv_num.specs.declared.request.Act.TheVariants.{Modify, Query, Bind, Unbind, Async}
use Rattle.uv_num.specs.Place.{at_place}
use Rattle.uv_num.proofs.PlaceLaws.{slice_get-at_place_same}
use Rattle.uv_machine.specs.declared.entry.Answer.{Answer}
use Rattle.uv_machine.specs.declared.entry.Answer.TheVariants as answer
use Rattle.uv_machine.specs.declared.entry.Entry.{Entry}
use Rattle.uv_machine.specs.declared.entry.Entry.TheVariants.{Open, Enter, Step, Unplug, Tear, Kill, Gone, Dissociated, Closed}
use Rattle.uv_machine.specs.declared.entry.Word.{Word}
use Rattle.uv_machine.specs.declared.entry.Word.TheVariants as word
use Rattle.uv_machine.specs.declared.file.File.{File}
use Rattle.uv_machine.specs.declared.file.FilePhase.{FilePhase}
use Rattle.uv_machine.specs.declared.file.FilePhase.TheVariants as file
use Rattle.uv_machine.specs.declared.object.Object.{Object}
use Rattle.uv_machine.specs.declared.call.InFlight.{InFlight}
use Rattle.uv_machine.specs.declared.state.State.{State}
use Rattle.uv_machine.specs.Acts.{event_refusal, act_refusal, act_answer}
use Rattle.uv_machine.specs.Plans.{next_word, own_object, closing, is_call_on}
use Rattle.uv_machine.specs.States.{object_with, phase_in, phase_of, event_in, has_event, device_of, is_unplugged, is_fresh, is_open, is_callable, is_dissociated, is_removing, is_quiet, has_standing, fresh_file, start}
use Rattle.uv_machine.specs.Effects.{refusal_in, act, with_file, opened, in_phase, event_taken, dissociated, gone_from, unless_answered}
use Rattle.uv_machine.specs.Outside.{MayAnswer}
use Rattle.uv_machine.specs.Histories as histories
use Rattle.uv_machine.specs.Histories.{Allowed, after, state_of, IsLegal}
use Rattle.uv_machine.specs.Accounts.{one_if}
use Rattle.uv_machine.specs.Events.{is_event, is_act_word, takes_event, taken_from, taken_in, dissociates, EventsCount}
use Rattle.uv_machine.proofs.Members as members
use Rattle.uv_machine.proofs.Members.{slice_get-at_place_elsewhere, count_by-cons}
use Rattle.uv_machine.proofs.Planned.{InPlan, IsClosing, next_word-planned, next_word-closing}
use Rattle.uv_machine.proofs.Turns.{Turn, Acted, IsTurn-allowed}
use Rattle.uv_machine.proofs.Turns.Turn.{Refuses, Reserves, Looks, Makes, Commits, Does, Locks, Checks, Finishes, Aborts, Frees, Leaves}
use Rattle.uv_machine.proofs.Files.{buried_files}
use Rattle.uv_machine.proofs.GoingOn.{state_from-snoc}
use Rattle.uv_machine.proofs.Historied.{by_history}

-- a file in this phase may have an event
abbrev pub may_hold : FilePhase → Bool
may_hold file.Fresh = false
may_hold file.Open = false
may_hold (file.Tearing by) = not (by == DRIVER)
may_hold file.Dissociated = true
may_hold file.Closed = true

-- so many events were taken of a file, and so often the driver was through with it
pub record Told (taken gone : ℕ) (s : Option File) : Type 0 where
  pub count : taken + one_if (event_in s) ≡ gone
  pub holds : event_in s ≡ true → may_hold (phase_in s) ≡ true

told_same : (n d : ℕ) (takes : Bool) (s t : Option File) → takes ≡ false → t ≡ s → Told n d s → Told (n + one_if takes) (d + 0) t
told_same n d takes s t none e k =
    let zero : one_if takes ≡ 0 = ap one_if none in
    let same : one_if (event_in t) ≡ one_if (event_in s) = ap (λ v. one_if (event_in v)) e in
    let c = k.count in
    record { count = omega (arith, zero, same, c); holds = λ h. ap (λ v. may_hold (phase_in v)) e ∙ k.holds (sym (ap event_in e) ∙ h) }

told_plain : (n d : ℕ) (s t : Option File) → t ≡ s → Told n d s → Told (n + 0) (d + 0) t
told_plain n d s t e k =
    let same : one_if (event_in t) ≡ one_if (event_in s) = ap (λ v. one_if (event_in v)) e in
    let c = k.count in
    record { count = omega (arith, same, c); holds = λ h. ap (λ v. may_hold (phase_in v)) e ∙ k.holds (sym (ap event_in e) ∙ h) }

no_event : (b : Bool) (p : FilePhase) → (b ≡ true → may_hold p ≡ true) → may_hold p ≡ false → b ≡ false
no_event true p holds none = absurd (let yes = holds refl in cc)
no_event false p holds none = refl

fresh_holds_none : (p : FilePhase) → is_fresh p ≡ true → may_hold p ≡ false
fresh_holds_none file.Fresh e = refl
fresh_holds_none file.Open e = absurd cc
fresh_holds_none (file.Tearing by) e = absurd cc
fresh_holds_none file.Dissociated e = absurd cc
fresh_holds_none file.Closed e = absurd cc

open_holds_none : (p : FilePhase) → is_open p ≡ true → may_hold p ≡ false
open_holds_none file.Fresh e = absurd cc
open_holds_none file.Open e = refl
open_holds_none (file.Tearing by) e = absurd cc
open_holds_none file.Dissociated e = absurd cc
open_holds_none file.Closed e = absurd cc

removing_holds_none : (p : FilePhase) → is_removing p ≡ true → may_hold p ≡ false
removing_holds_none file.Fresh e = absurd cc
removing_holds_none file.Open e = absurd cc
removing_holds_none (file.Tearing by) e = ap not e
removing_holds_none file.Dissociated e = absurd cc
removing_holds_none file.Closed e = absurd cc

-- A change of the file's record.

opened_told : (n d c v : ℕ) (s : Option File) → is_fresh (phase_in s) ≡ true → Told n d s → Told (n + 0) (d + 0) (option_map (opened c v) s)
opened_told n d c v None fresh k = told_plain n d None None refl k
opened_told n d c v (Some x) fresh k =
    let none : one_if x.event ≡ 0 = ap one_if (no_event x.event x.phase k.holds (fresh_holds_none x.phase fresh)) in
    let e = k.count in
    record { count = omega (arith, none, e); holds = λ h. absurd cc }

torn_by : (by : ℕ) (driver : Bool) (x : File) (unplugged : Bool) → (by == DRIVER) ≡ driver → (if driver then is_open x.phase && unplugged else is_callable x.phase) ≡ true → (x.event ≡ true → may_hold x.phase ≡ true) → x.event ≡ true → not (by == DRIVER) ≡ true
torn_by by true x unplugged e may holds event =
    let open_ = (and_parts (is_open x.phase) unplugged may).0 in
    let none = no_event x.event x.phase holds (open_holds_none x.phase open_) in
    absurd cc
torn_by by false x unplugged e may holds event = ap not e

torn_told : (n d by : ℕ) (unplugged : Bool) (s : Option File) → (if by == DRIVER then is_open (phase_in s) && unplugged else is_callable (phase_in s)) ≡ true → Told n d s → Told (n + 0) (d + 0) (option_map (in_phase (file.Tearing by)) s)
torn_told n d by unplugged None may k = told_plain n d None None refl k
torn_told n d by unplugged (Some x) may k =
    let e = k.count in
    record { count = omega (arith, e); holds = λ h. torn_by by (by == DRIVER) x unplugged refl may k.holds h }

left_told : (n d : ℕ) (s : Option File) → is_removing (phase_in s) ≡ true → Told n d s → Told (n + 0) (d + 1) (option_map dissociated s)
left_told n d None removing k = absurd cc
left_told n d (Some x) removing k =
    let none : one_if x.event ≡ 0 = ap one_if (no_event x.event x.phase k.holds (removing_holds_none x.phase removing)) in
    let e = k.count in
    record { count = omega (arith, none, e); holds = λ h. refl }

closed_told : (n d : ℕ) (s : Option File) → Told n d s → Told (n + 0) (d + 0) (option_map (in_phase file.Closed) s)
closed_told n d None k = told_plain n d None None refl k
closed_told n d (Some x) k = (let e = k.count in record { count = omega (arith, e); holds = λ h. refl })

taken_told : (n d : ℕ) (s : Option File) → event_in s ≡ true → Told n d s → Told (n + 1) (d + 0) (option_map event_taken s)
taken_told n d None event k = absurd cc
taken_told n d (Some x) event k =
    let one : one_if x.event ≡ 1 = ap one_if event in
    let e = k.count in
    record { count = omega (arith, one, e); holds = λ h. absurd cc }

-- a change of this file or of another
module _ (m : State) (g f : ℕ) (change : File → File) (n d : ℕ) (k : Told n d (slice_get m.files f)) where
  told_file : (g ≡ f → Told (n + 0) (d + 0) (option_map change (slice_get m.files g))) → Told (n + 0) (d + 0) (slice_get (at_place m.files g change) f)
  told_file here =
      ⊎_elim
      (λ same. (
      let P : Option File → Type 0 = λ v. Told (n + 0) (d + 0) v in
      subst P (sym (ap (slice_get (at_place m.files g change)) (sym same.1) ∙ slice_get-at_place_same m.files g change)) (here same.1)))
      (λ apart. told_plain n d (slice_get m.files f) (slice_get (at_place m.files g change) f) (slice_get-at_place_elsewhere m.files g f change apart.1) k)
      (eqb_tells g f)

  left_file : is_removing (phase_of m g) ≡ true → (gone : Bool) → (g == f) ≡ gone → Told (n + 0) (d + one_if gone) (slice_get (at_place m.files g dissociated) f)
  left_file removing true e =
      let same = eqb-true g f e in
      let P : Option File → Type 0 = λ v. Told (n + 0) (d + 1) v in
      subst P
      (sym (ap (slice_get (at_place m.files g dissociated)) (sym same) ∙ slice_get-at_place_same m.files g dissociated ∙ ap (λ v. option_map dissociated (slice_get m.files v)) same))
      (left_told n d (slice_get m.files f) (ap (λ v. is_removing (phase_of m v)) (sym same) ∙ removing) k)
  left_file removing false e =
      ⊎_elim
      (λ yes. absurd (let y = yes.0 in cc))
      (λ apart. told_plain n d (slice_get m.files f) (slice_get (at_place m.files g dissociated) f) (slice_get-at_place_elsewhere m.files g f dissociated apart.1) k)
      (eqb_tells g f)

-- Steps.

never_act : (w : Word) (b : Bool) → is_act_word w ≡ false → (is_act_word w && b) ≡ false
never_act w b e = ap (λ v. v && b) e

never_event : (w : Word) (a : Answer) (b : Bool) → is_event a ≡ false → (is_act_word w && (is_event a && b)) ≡ false
never_event w a b e = ap (λ v. is_act_word w && (v && b)) e ∙ and_none (is_act_word w)
  where
    and_none : (b : Bool) → (b && false) ≡ false
    and_none true = refl
    and_none false = refl

refused_event : (a : Answer) (e : Errno) → refusal_in a ≡ Some e → is_event a ≡ false
refused_event answer.Ok e h = absurd (none-some e h)
refused_event (answer.Made handle index generation) e h = absurd (none-some e h)
refused_event (answer.State state index) e h = absurd (none-some e h)
refused_event answer.Event e h = absurd (none-some e h)
refused_event (answer.Kept kept) e h = absurd (none-some e h)
refused_event (answer.Refused x) e h = refl

has_one_by : (event : Bool) (p : FilePhase) → event_refusal event p ≡ None → event ≡ true
has_one_by true p e = refl
has_one_by false p e = absurd (none_by (is_dissociated p) e)
  where
    none_by : (b : Bool) → (if b then Some Io else Some Again) ≡ None → ⊥
    none_by true e = none-some Io (sym e)
    none_by false e = none-some Again (sym e)

module _ (m : State) (c f n d : ℕ) (w : Word) (o : ℕ) (found : Option QpState) (a : Answer) (k : Told n d (slice_get m.files f)) where
  abbrev Behind : State → InFlight → Type 0
  Behind m' call = Told (n + one_if (is_act_word w && (is_event a && is_call_on f (Some call)))) (d + 0) (slice_get m'.files f)

  quiet_step : (m' v : State) (call : InFlight) → m' ≡ v → v.files ≡ m.files → (is_act_word w && (is_event a && is_call_on f (Some call))) ≡ false → Behind m' call
  quiet_step m' v call e files none = told_same n d _ (slice_get m.files f) (slice_get m'.files f) none (ap (λ (s : State). slice_get s.files f) e ∙ ap (λ x. slice_get x f) files) k

  planned : (call : InFlight) (v : Word) → next_word call ≡ w → InPlan call v → is_act_word v ≡ false → (is_act_word w && (is_event a && is_call_on f (Some call))) ≡ false
  planned call v is plan never = never_act w _ (ap is_act_word (sym is ∙ next_word-planned call v plan.fine plan.planned) ∙ never)

  closes : (call : InFlight) (v : Word) → next_word call ≡ w → IsClosing call → closing call ≡ v → is_act_word v ≡ false → (is_act_word w && (is_event a && is_call_on f (Some call))) ≡ false
  closes call v is ends e never = never_act w _ (ap is_act_word (sym is ∙ next_word-closing call ends ∙ e) ∙ never)

  async_step : (call : InFlight) (m' : State) → m' ≡ act m c call a Async → event_refusal (has_event m call.file) (phase_of m call.file) ≡ None → next_word call ≡ w → InPlan call word.Act → a ≡ answer.Event → Behind m' call
  async_step call m' gives fine is plan answers =
      let said : w ≡ word.Act = sym is ∙ next_word-planned call word.Act plan.fine plan.planned in
      let files : slice_get m'.files f ≡ slice_get (at_place m.files call.file event_taken) f = ap (λ (s : State). slice_get s.files f) gives in
      let takes : (is_act_word w && (is_event a && is_call_on f (Some call))) ≡ (call.file == f) = ap (λ v. is_act_word v && (is_event a && (call.file == f))) said ∙ ap (λ v. is_event v && (call.file == f)) answers in
      let P : Option File → Type 0 = λ v. Told (n + one_if (is_act_word w && (is_event a && is_call_on f (Some call)))) (d + 0) v in
      let Q : Bool → Type 0 = λ v. Told (n + one_if v) (d + 0) (slice_get (at_place m.files call.file event_taken) f) in
      subst P (sym files) (subst Q (sym takes)
      (⊎_elim
      (λ same. (
      let R : Option File → Type 0 = λ v. Told (n + 1) (d + 0) v in
      let S : Bool → Type 0 = λ v. Told (n + one_if v) (d + 0) (slice_get (at_place m.files call.file event_taken) f) in
      let event : event_in (slice_get m.files f) ≡ true = ap (has_event m) (sym same.1) ∙ has_one_by (has_event m call.file) (phase_of m call.file) fine in
      subst S (sym same.0)
      (subst R (sym (ap (slice_get (at_place m.files call.file event_taken)) (sym same.1) ∙ slice_get-at_place_same m.files call.file event_taken ∙ ap (λ v. option_map event_taken (slice_get m.files v)) same.1))
      (taken_told n d (slice_get m.files f) event k))))
      (λ apart. (
      let S : Bool → Type 0 = λ v. Told (n + one_if v) (d + 0) (slice_get (at_place m.files call.file event_taken) f) in
      subst S (sym apart.0) (told_plain n d (slice_get m.files f) (slice_get (at_place m.files call.file event_taken) f) (slice_get-at_place_elsewhere m.files call.file f event_taken apart.1) k)))
      (eqb_tells call.file f)))

  does_step : (call : InFlight) (m' : State) (t : Acted m c call a m') → next_word call ≡ w → (what : request.Act) → t.what ≡ what → Behind m' call
  does_step call m' t is (Modify to attrs) e = quiet_step m' _ call (t.gives ∙ ap (act m c call a) e) refl (never_event w a _ (ap is_event (t.answers ∙ ap (act_answer m call t.found) e)))
  does_step call m' t is Query e = quiet_step m' _ call (t.gives ∙ ap (act m c call a) e) refl (never_event w a _ (ap is_event (t.answers ∙ ap (act_answer m call t.found) e)))
  does_step call m' t is (Bind offset long access) e = quiet_step m' _ call (t.gives ∙ ap (act m c call a) e) refl (never_event w a _ (ap is_event (t.answers ∙ ap (act_answer m call t.found) e)))
  does_step call m' t is (Unbind offset long access) e = quiet_step m' _ call (t.gives ∙ ap (act m c call a) e) refl (never_event w a _ (ap is_event (t.answers ∙ ap (act_answer m call t.found) e)))
  does_step call m' t is Async e =
      async_step call m' (t.gives ∙ ap (act m c call a) e) (sym (ap (act_refusal m call t.found) e) ∙ t.fine) is t.plan (t.answers ∙ ap (act_answer m call t.found) e)

  told_turn : (call : InFlight) (m' : State) → next_word call ≡ w → Turn m c call a m' → Behind m' call
  told_turn call m' is (Refuses t) = quiet_step m' _ call t.gives refl (never_event w a _ (refused_event a t.errno t.tells))
  told_turn call m' is (Reserves t) = quiet_step m' _ call t.gives refl (planned call word.Reserve is t.plan refl)
  told_turn call m' is (Looks t) = quiet_step m' _ call t.gives refl (planned call word.Look is t.plan refl)
  told_turn call m' is (Makes t) = quiet_step m' _ call t.gives refl (planned call word.Make is t.plan refl)
  told_turn call m' is (Commits t) = quiet_step m' _ call t.gives refl (planned call word.Commit is t.plan refl)
  told_turn call m' is (Does t) = does_step call m' t is t.what refl
  told_turn call m' is (Locks t) = quiet_step m' _ call t.gives refl (planned call word.Lock is t.plan refl)
  told_turn call m' is (Checks t) = quiet_step m' _ call t.gives refl (planned call word.Check is t.plan refl)
  told_turn call m' is (Finishes t) = quiet_step m' _ call t.gives (buried_files m (object_with m (own_object call))) (planned call word.Finish is t.plan refl)
  told_turn call m' is (Aborts t) = quiet_step m' _ call t.gives refl (closes call word.Abort is t.ends t.word refl)
  told_turn call m' is (Frees t) = quiet_step m' _ call t.gives refl (closes call word.Free is t.ends t.word refl)
  told_turn call m' is (Leaves t) = quiet_step m' _ call t.gives refl (closes call word.Exit is t.ends t.word refl)

-- Entries.

told_unless : (m m' : State) (f n d : ℕ) (e : Option Errno) → Told n d (slice_get m.files f) → (e ≡ None → Told (n + 0) (d + 0) (slice_get m'.files f)) → Told (n + 0) (d + 0) (slice_get (unless_answered m e m').files f)
told_unless m m' f n d None k go = go refl
told_unless m m' f n d (Some e) k go = told_plain n d (slice_get m.files f) (slice_get m.files f) refl k

was_fresh : (fresh : Bool) (rest : Option Errno) (a : Answer) → MayAnswer (if not fresh then Some Inval else rest) a → refusal_in a ≡ None → fresh ≡ true
was_fresh true rest a h e = refl
was_fresh false rest a h e = absurd (none-some Inval (sym e ∙ ap refusal_in h))

told_gone : (m : State) (f n d o : ℕ) (slot : Option Object) → Told n d (slice_get m.files f) → Told (n + 0) (d + 0) (slice_get (gone_from m o slot).files f)
told_gone m f n d o None k = told_plain n d (slice_get m.files f) (slice_get m.files f) refl k
told_gone m f n d o (Some x) k = told_plain n d (slice_get m.files f) (slice_get m.files f) refl k

told_after : (m : State) (f n d : ℕ) (e : Entry) → Allowed m e → Told n d (slice_get m.files f) → Told (n + one_if (takes_event m f e)) (d + one_if (dissociates f e)) (slice_get (after m e).files f)
told_after m f n d (Open c g v a) allowed k =
    told_unless m (with_file m g (opened c v)) f n d (refusal_in a) k
    (λ fine. told_file m g f (opened c v) n d k
    (λ same. (
    let P : ℕ → Type 0 = λ x. Told n d (slice_get m.files x) in
    opened_told n d c v (slice_get m.files g) (was_fresh (is_fresh (phase_of m g)) _ a allowed.3 fine) (subst P (sym same) k))))
told_after m f n d (Enter c g request a) allowed k =
    told_unless m _ f n d (refusal_in a) k (λ fine. told_plain n d (slice_get m.files f) (slice_get m.files f) refl k)
told_after m f n d (Step c w o found a) allowed k =
    let t = IsTurn-allowed m c w o found a allowed in
    let P : Option InFlight → Type 0 = λ v. Told (n + one_if (is_act_word w && (is_event a && is_call_on f v))) (d + 0) (slice_get (after m (Step c w o found a)).files f) in
    subst P (sym t.is) (told_turn m c f n d w o found a k t.call (after m (Step c w o found a)) t.word t.turn)
told_after m f n d (Unplug v) allowed k = told_plain n d (slice_get m.files f) (slice_get m.files f) refl k
told_after m f n d (Tear g by) allowed k =
    told_file m g f (in_phase (file.Tearing by)) n d k
    (λ same. (
    let P : ℕ → Type 0 = λ x. Told n d (slice_get m.files x) in
    torn_told n d by (is_unplugged m (device_of m g)) (slice_get m.files g) allowed.2 (subst P (sym same) k)))
told_after m f n d (Kill o) allowed k = told_plain n d (slice_get m.files f) (slice_get m.files f) refl k
told_after m f n d (Gone o kept) allowed k = told_gone m f n d o (object_with m o) k
told_after m f n d (Dissociated g) allowed k =
    let parts = and_parts (is_removing (phase_of m g)) (is_quiet m g && not (has_standing m g)) allowed.1 in
    left_file m g f dissociated n d k parts.0 (g == f) refl
told_after m f n d (Closed g) allowed k =
    told_file m g f (in_phase file.Closed) n d k
    (λ same. (
    let P : ℕ → Type 0 = λ x. Told n d (slice_get m.files x) in
    closed_told n d (slice_get m.files g) (subst P (sym same) k)))

-- Histories.

taken_snoc : (m : State) (f : ℕ) (h : List Entry) (e : Entry) → taken_from m f (h ++ e ∷ []) ≡ taken_from m f h + one_if (takes_event (histories.state_from m h) f e)
taken_snoc m f [] e = omega arith
taken_snoc m f (x ∷ h) e = (let more = taken_snoc (after m x) f h e in omega (arith, more))

one_same : (b : Bool) → members.one_if b ≡ one_if b
one_same true = refl
one_same false = refl

gone_snoc : (f : ℕ) (h : List Entry) (e : Entry) → count_by (dissociates f) (h ++ e ∷ []) ≡ count_by (dissociates f) h + one_if (dissociates f e)
gone_snoc f [] e = (let one = count_by-cons (dissociates f) e [] in let same = one_same (dissociates f e) in omega (arith, one, same))
gone_snoc f (x ∷ h) e =
    let first = count_by-cons (dissociates f) x (h ++ e ∷ []) in
    let here = count_by-cons (dissociates f) x h in
    let more = gone_snoc f h e in
    omega (arith, first, here, more)

abbrev pub ToldAt : ℕ → List Entry → Type 0
ToldAt f h = Told (taken_in h f) (count_by (dissociates f) h) (slice_get (state_of h).files f)

fresh_told : (count f : ℕ) → Told 0 0 (slice_get (replicate count fresh_file) f)
fresh_told zero f = record { count = omega arith; holds = λ h. absurd cc }
fresh_told (suc count) zero = record { count = omega arith; holds = λ h. absurd cc }
fresh_told (suc count) (suc f) = fresh_told count f

told_start : (f : ℕ) → ToldAt f []
unfolding start
told_start f = fresh_told FILES f

told_step : (f : ℕ) (h : List Entry) (e : Entry) → IsLegal h → Allowed (state_of h) e → ToldAt f h → ToldAt f (h ++ e ∷ [])
told_step f h e legal allowed k =
    let next = told_after (state_of h) f (taken_in h f) (count_by (dissociates f) h) e allowed k in
    let P : State → Type 0 = λ s. Told (taken_in (h ++ e ∷ []) f) (count_by (dissociates f) (h ++ e ∷ [])) (slice_get s.files f) in
    let Q : ℕ → Type 0 = λ n. Told n (count_by (dissociates f) (h ++ e ∷ [])) (slice_get (after (state_of h) e).files f) in
    let R : ℕ → Type 0 = λ n. Told (taken_in h f + one_if (takes_event (state_of h) f e)) n (slice_get (after (state_of h) e).files f) in
    subst P (sym (state_from-snoc start h e)) (subst Q (sym (taken_snoc start f h e)) (subst R (sym (gone_snoc f h e)) next))

pub events_count : EventsCount
events_count h f legal = (by_history (ToldAt f) (told_start f) (told_step f) h legal).count
