-- Worlds stay worlds over the calls of teardowns.
use Rattle.std.proofs.Common.{◌≡◌, ◌∙◌, ℕ, ◌<◌, Bool, true, false, List, [], ◌∷◌, ◌++◌, Option, None, Some, Result, Ok, Err, length, refl, sym, ap, subst, arith}
use Rattle.std.specs.Prelude.{◌==◌, is_some, if◌then◌else◌}
use Rattle.std.proofs.lemmas.Bool.{eq-eqb, eqb-true, ne_eqb}
use Rattle.uv_num.specs.declared.errno.Errno.{Errno}
use Rattle.uv_num.specs.declared.kind.Kind.{Kind}
use Rattle.uv_num.specs.declared.limits.TheConstants.{DRIVER}
use Rattle.uv_num.proofs.PlaceLaws.{length-at_place}
use Rattle.uv_pool.specs.declared.plain.PlainDeed.{PlainDeed}
use Rattle.uv_pool.specs.Deeds.{DeedFacts}
use Rattle.uv_pool.specs.Plain.{plain_facts}
use Rattle.uv_machine.specs.declared.call.InFlight.{InFlight}
use Rattle.uv_machine.specs.declared.entry.Entry.{Entry}
use Rattle.uv_machine.specs.declared.entry.Entry.TheVariants as entry
use Rattle.uv_machine.specs.declared.moves.Move.{Move}
use Rattle.uv_machine.specs.declared.object.Object.{Object}
use Rattle.uv_machine.specs.declared.state.State.{State}
use Rattle.uv_machine.proofs.Members.{Passes-find}
use Rattle.uv_machine.specs.Histories.{IsActor, IsLegal, state_of}
use Rattle.uv_machine.specs.Laws.{is_of}
use Rattle.uv_machine.specs.Moves.{entry_move}
use Rattle.uv_machine.specs.Objects.{has_id}
use Rattle.uv_machine.specs.States.{call_of, is_unplugged, newest_free, object_with}
use Rattle.uv_graph.specs.declared.told.Torn.{Torn}
use Rattle.uv_graph.specs.declared.told.Torn.TheVariants as torn
use Rattle.uv_graph.specs.declared.out.Out.{Out}
use Rattle.uv_graph.specs.declared.out.Own.{Own}
use Rattle.uv_graph.specs.Calls.{calls_on}
use Rattle.uv_graph.specs.Conditions.{IsReleasing}
use Rattle.uv_graph.specs.Hands.{HandsKilled, out_in}
use Rattle.uv_graph.specs.Kept.{Kept, kill_of}
use Rattle.uv_graph.specs.Notes.{Notes}
use Rattle.uv_graph.specs.Owns.{own_of}
use Rattle.uv_graph.specs.Turns.{ReleasesBy, TearGives, UnplugGives, last_entry}
use Rattle.uv_core.specs.Beside.{OthersKeep}
use Rattle.uv_core.specs.Leads.{HasToRelease}
use Rattle.uv_world.specs.declared.tearing.Turn.{Turn}
use Rattle.uv_world.specs.declared.tearing.Turn.TheVariants as turn
use Rattle.uv_world.specs.declared.world.Doomed.{Doomed}
use Rattle.uv_world.specs.declared.world.World.{World}
use Rattle.uv_world.specs.Celled.{slots_set, value_of_slot}
use Rattle.uv_world.specs.Holdings.{Held, held_of}
use Rattle.uv_world.specs.Moving.{held_after, held_moved}
use Rattle.uv_world.specs.Owing.{MoveFits}
use Rattle.uv_world.specs.Seating.{AreSeated, CallIsSeated, HoldsDoomed, IsAtRest, IsDoomedBy, stage_of}
use Rattle.uv_world.specs.Stages.{Stage, stage_then}
use Rattle.uv_world.specs.Tearing.{LaysDoomed, StageTurn, kill_ahead, object_doomed, pull_of, stage_killed, stage_swept, stage_torn, stage_unplugged}
use Rattle.uv_world.proofs.Ranged.{kill_fits}
use Rattle.uv_world.proofs.Rested.{seat_idle, seated_noted}
use Rattle.uv_world.proofs.Seating.{none_held, seated_after, slot_beside, slot_filled, slot_emptied}
use Rattle.uv_world.proofs.Starting.{no_call_fits, stage_same}

kept_stage : (w : World) (k : Kept) → k ≡ w.core → (let s : Stage = record { history = k.history; held = held_of w.contents } in s) ≡ stage_of w
kept_stage w k same = ap (λ (v : Kept). (let s : Stage = record { history = v.history; held = held_of w.contents } in s)) same

kept_seated : (k k' : Kept) (r : List (Option PlainDeed)) (x : List (Option Doomed)) → k' ≡ k → AreSeated k r x → AreSeated k' r x
kept_seated k k' r x same seated =
    let P : Kept → Type 0 = λ v. AreSeated v r x in
    subst P (sym same) seated

-- An unplug.

pub unplug_answer : (k k' : Kept) (d : ℕ) (said : Result (Unit {0}) Errno) → UnplugGives k k' d said → said ≡ pull_of (is_unplugged (state_of k.history) d)
unplug_answer k k' d (Ok u) g = sym (ap pull_of g.plugged)
unplug_answer k k' d (Err e) g = ap (λ (v : Errno). (let r : Result (Unit {0}) Errno = Err v in r)) g.gone ∙ sym (ap pull_of g.unplugged)

pub unplug_stage : (w : World) (k : Kept) (d : ℕ) (said : Result (Unit {0}) Errno) → UnplugGives w.core k d said → (let s : Stage = record { history = k.history; held = held_of w.contents } in s) ≡ stage_unplugged (stage_of w) d said
unplug_stage w k d (Ok u) g = stage_same _ _ _ _ g.notes.history refl
unplug_stage w k d (Err e) g = kept_stage w k g.same

pub unplug_spares : (k k' : Kept) (d : ℕ) (said : Result (Unit {0}) Errno) → UnplugGives k k' d said → k'.spares ≡ k.spares
unplug_spares k k' d (Ok u) g = g.notes.spares
unplug_spares k k' d (Err e) g = ap (λ (v : Kept). v.spares) g.same

pub unplug_seated : (k k' : Kept) (r : List (Option PlainDeed)) (x : List (Option Doomed)) (d : ℕ) (said : Result (Unit {0}) Errno) → UnplugGives k k' d said → AreSeated k r x → IsAtRest k x DRIVER → IsLegal k'.history → OthersKeep DRIVER k k' → AreSeated k' r x
unplug_seated k k' r x d (Ok u) g seated rest legal others = seated_noted DRIVER k k' (entry.Unplug d) r x seated rest legal others g.notes refl
unplug_seated k k' r x d (Err e) g seated rest legal others = kept_seated k k' r x g.same seated

-- The beginning of a teardown.

pub tear_stage : (w : World) (k : Kept) (f by : ℕ) (said : Torn) → TearGives w.core k f by said → (let s : Stage = record { history = k.history; held = held_of w.contents } in s) ≡ stage_torn (stage_of w) f by said
tear_stage w k f by torn.Began g = stage_same _ _ _ _ g.history refl
tear_stage w k f by (torn.NotYet actor) g = kept_stage w k g
tear_stage w k f by (torn.Refused errno) g = kept_stage w k g

pub tear_spares : (k k' : Kept) (f by : ℕ) (said : Torn) → TearGives k k' f by said → k'.spares ≡ k.spares
tear_spares k k' f by torn.Began g = g.spares
tear_spares k k' f by (torn.NotYet actor) g = ap (λ (v : Kept). v.spares) g
tear_spares k k' f by (torn.Refused errno) g = ap (λ (v : Kept). v.spares) g

pub tear_seated : (k k' : Kept) (r : List (Option PlainDeed)) (x : List (Option Doomed)) (f by : ℕ) (said : Torn) → TearGives k k' f by said → AreSeated k r x → IsAtRest k x by → IsLegal k'.history → OthersKeep by k k' → AreSeated k' r x
tear_seated k k' r x f by torn.Began g seated rest legal others = seated_noted by k k' (entry.Tear f by) r x seated rest legal others g refl
tear_seated k k' r x f by (torn.NotYet actor) g seated rest legal others = kept_seated k k' r x g seated
tear_seated k k' r x f by (torn.Refused errno) g seated rest legal others = kept_seated k k' r x g seated

-- A sweep.

turn_same : (s s' : Stage) (x x' : Turn) → s ≡ s' → x ≡ x' → (let t : StageTurn = record { stage = s; turn = x } in t) ≡ record { stage = s'; turn = x' }
turn_same s s' x x' es ex = ap (λ (v : Stage). (let t : StageTurn = record { stage = v; turn = x } in t)) es ∙ ap (λ (v : Turn). (let t : StageTurn = record { stage = s'; turn = v } in t)) ex

-- a quiet file is swept
swept_quiet : (s : Stage) (by f : ℕ) (x : Option Object) → calls_on (state_of s.history) f ≡ 0 → newest_free (state_of s.history) f ≡ x → stage_killed s by f x ≡ stage_swept s by f
swept_quiet s by f x quiet free =
    ap (stage_killed s by f) (sym free)
    ∙ sym (ap (λ (v : Bool). if v then stage_killed s by f (newest_free (state_of s.history) f) else record { stage = s; turn = turn.NotYet (calls_on (state_of s.history) f) }) (eq-eqb (calls_on (state_of s.history) f) 0 quiet))

killed_same : (x : Object) (o : ℕ) (k : Kind) (n : ℕ) → x.id ≡ o → x.kind ≡ k → x.handle ≡ n → turn.Killed o k n ≡ turn.Killed x.id x.kind x.handle
killed_same x o k n eo ek en =
    sym (ap (λ (v : ℕ). turn.Killed v x.kind x.handle) eo ∙ (ap (λ (v : Kind). turn.Killed o v x.handle) ek ∙ ap (λ (v : ℕ). turn.Killed o k v) en))

pub kill_turned :
    (s : Stage) (by f o : ℕ) (k : Kind) (n : ℕ) (x : Object) (h : List Entry) (held : Held) (step : Move) → calls_on (state_of s.history) f ≡ 0 → newest_free (state_of s.history) f ≡ Some x → x.id ≡ o → x.kind ≡ k → x.handle ≡ n
    → h ≡ s.history ++ entry.Kill o ∷ [] → held ≡ held_moved s.held step → step ≡ kill_ahead (state_of s.history) (newest_free (state_of s.history) f)
    → (let t : StageTurn = record { stage = record { history = h; held = held }; turn = turn.Killed o k n } in t) ≡ stage_swept s by f
kill_turned s by f o k n x h held step quiet free eo ek en more moved ahead =
    turn_same _ (stage_then s (entry.Kill x.id)) (turn.Killed o k n) (turn.Killed x.id x.kind x.handle)
    (stage_same h (s.history ++ entry.Kill x.id ∷ []) held (held_moved s.held (entry_move (state_of s.history) (entry.Kill x.id)))
    (more ∙ ap (λ (v : ℕ). s.history ++ entry.Kill v ∷ []) (sym eo))
    (moved ∙ ap (held_moved s.held) (ahead ∙ ap (kill_ahead (state_of s.history)) free)))
    (killed_same x o k n eo ek en)
    ∙ swept_quiet s by f (Some x) quiet free

last_held : (h : Held) (m : State) (f : ℕ) (b : Bool) → h ≡ held_after h m (if b then entry.Dissociated f else entry.Closed f)
last_held h m f true = refl
last_held h m f false = refl

pub done_turned : (s : Stage) (by f : ℕ) (h : List Entry) → calls_on (state_of s.history) f ≡ 0 → newest_free (state_of s.history) f ≡ None → h ≡ s.history ++ last_entry by f ∷ [] → (let t : StageTurn = record { stage = record { history = h; held = s.held }; turn = turn.Done } in t) ≡ stage_swept s by f
done_turned s by f h quiet none more =
    turn_same _ (stage_then s (last_entry by f)) turn.Done turn.Done
    (stage_same h (s.history ++ last_entry by f ∷ []) s.held (held_after s.held (state_of s.history) (last_entry by f)) more (last_held s.held (state_of s.history) f (by == DRIVER))) refl
    ∙ swept_quiet s by f None quiet none

not_zero : (n : ℕ) → 0 < n → (n == 0) ≡ false
not_zero n low = ne_eqb n 0 (λ e. omega (arith, low, e))

pub waits_turned : (s : Stage) (by f n : ℕ) → 0 < n → calls_on (state_of s.history) f ≡ n → (let t : StageTurn = record { stage = s; turn = turn.NotYet n } in t) ≡ stage_swept s by f
waits_turned s by f n low calls =
    let some : (calls_on (state_of s.history) f == 0) ≡ false = ap (λ (v : ℕ). v == 0) calls ∙ not_zero n low in
    ap (λ (v : ℕ). (let t : StageTurn = record { stage = s; turn = turn.NotYet v } in t)) (sym calls)
    ∙ sym (ap (λ (v : Bool). if v then stage_killed s by f (newest_free (state_of s.history) f) else record { stage = s; turn = turn.NotYet (calls_on (state_of s.history) f) }) some)

pub turn_kept : (w : World) (k : Kept) (n : ℕ) → k ≡ w.core → (let t : StageTurn = record { stage = record { history = k.history; held = held_of w.contents }; turn = turn.NotYet n } in t) ≡ record { stage = stage_of w; turn = turn.NotYet n }
turn_kept w k n same = ap (λ (v : Kept). (let t : StageTurn = record { stage = record { history = v.history; held = held_of w.contents }; turn = turn.NotYet n } in t)) same

pub ahead_fits : (m : State) (x : Option Object) → MoveFits (kill_ahead m x)
ahead_fits m None = tt
ahead_fits m (Some x) = kill_fits (object_with m x.id)

found_id : (m : State) (o : ℕ) (x : Object) → object_with m o ≡ Some x → x.id ≡ o
found_id m o x e = eqb-true x.id o (Passes-find (has_id o) x m.objects e).test

-- the object that a kill's deed is out for
pub kill_object : (k k' : Kept) (by o : ℕ) (t : DeedFacts) (e : Entry) (out : Out) → HandsKilled k k' e by o t → kill_of k' by ≡ Some out → o ≡ out.identity.id
kill_object k k' by o t e out hands is =
    let same : out_in k.history hands.item ≡ out = (let j : Some (out_in k.history hands.item) ≡ Some out = sym hands.in_hand ∙ is in cc) in
    sym (found_id (state_of k.history) o hands.item hands.there) ∙ ap (λ (v : Out). v.identity.id) same

pub killed_id : (k k' : Kept) (by o : ℕ) (t : DeedFacts) (e : Entry) (hands : HandsKilled k k' e by o t) → hands.item.id ≡ o
killed_id k k' by o t e hands = found_id (state_of k.history) o hands.item hands.there

-- a killed object lies with its tearer until its release
pub seated_killed :
    (a f o : ℕ) (k k' : Kept) (r : List (Option PlainDeed)) (x x' : List (Option Doomed)) (deed : PlainDeed) → AreSeated k r x → IsAtRest k x a → IsActor a → IsLegal k'.history → OthersKeep a k k' → k'.outs ≡ k.outs
    → call_of (state_of k'.history) a ≡ None → (leads : HasToRelease (own_of k' a) f (plain_facts deed)) → o ≡ leads.out.identity.id → (lies : LaysDoomed deed o (λ now. x' ≡ slots_set x a (Some now))) → AreSeated k' r x'
seated_killed a f o k k' r x x' deed seated rest actor legal others outs none leads object lies =
    let fits = seated.seats a in
    let now : Doomed = record { object = o; deed = lies.now } in
    let low : a < length x = omega (arith, seated.doomed_size, actor.1) in
    let there : value_of_slot x' a ≡ Some now = ap (λ (v : List (Option Doomed)). value_of_slot v a) lies.lies ∙ slot_filled x a (Some now) low in
    let P : Option Doomed → Type 0 = λ v. HoldsDoomed (own_of k' a) v in
    let held : IsDoomedBy (own_of k' a) now = record {
      file = f;
      releasing = record { tearing = leads.tearing; out = leads.out; out_is = leads.out_is; deed = lies.goes leads.out (own_of k' a).kill_lives (own_of k' a).kill_lives leads.deed };
      object = object;
    } in
    seated_after a k k' r r x x' seated legal others refl (ap length lies.lies ∙ length-at_place x a _) (λ b ne. refl)
    (λ b ne. ap (λ (v : List (Option Doomed)). value_of_slot v b) lies.lies ∙ slot_beside x a b (Some now) ne)
    (seat_idle a k k' (value_of_slot r a) (value_of_slot x a) (value_of_slot x' a) fits rest.call outs (no_call_fits a (call_of (state_of k'.history) a) (value_of_slot x' a) none) (subst P (sym there) held))

-- and is known there
pub killed_lies : (a o : ℕ) (x x' : List (Option Doomed)) (deed : PlainDeed) → a < length x → (lies : LaysDoomed deed o (λ now. x' ≡ slots_set x a (Some now))) → object_doomed (value_of_slot x' a) ≡ Some o
killed_lies a o x x' deed low lies =
    ap (λ (v : List (Option Doomed)). object_doomed (value_of_slot v a)) lies.lies ∙ ap object_doomed (slot_filled x a (Some (record { object = o; deed = lies.now })) low)

last_other : (a f : ℕ) (b : Bool) → is_of a (if b then entry.Dissociated f else entry.Closed f) ≡ false
last_other a f true = refl
last_other a f false = refl

pub seated_done : (a f : ℕ) (k k' : Kept) (r : List (Option PlainDeed)) (x : List (Option Doomed)) → AreSeated k r x → IsAtRest k x a → IsLegal k'.history → OthersKeep a k k' → Notes k k' (last_entry a f) → AreSeated k' r x
seated_done a f k k' r x seated rest legal others notes = seated_noted a k k' (last_entry a f) r x seated rest legal others notes (last_other a f (a == DRIVER))

-- A release.

-- who has something to release makes no call
pub doomed_idle : (a : ℕ) (slot : Option InFlight) (x : Option Doomed) → CallIsSeated a slot x → is_some x ≡ true → slot ≡ None
doomed_idle a None x fits some = refl
doomed_idle a (Some call) x fits some = let e : is_some x ≡ false = ap (λ (v : Option Doomed). is_some v) fits.2 in absurd (cc)

pub doomed_by : (o : Own) (x : Option Doomed) (d : Doomed) → HoldsDoomed o x → x ≡ Some d → IsDoomedBy o d
doomed_by o x d holds is =
    let P : Option Doomed → Type 0 = λ v. HoldsDoomed o v in
    subst P is holds

pub releasing_is : (o : Own) (f : ℕ) (d : Doomed) → IsDoomedBy o d → o.tear ≡ Some f → IsReleasing o f (plain_facts d.deed)
releasing_is o f d by tears =
    let same : by.file ≡ f = (let k : Some by.file ≡ Some f = sym by.releasing.tearing ∙ tears in cc) in
    let P : ℕ → Type 0 = λ v. IsReleasing o v (plain_facts d.deed) in
    subst P same by.releasing

pub gone_object : (k k' : Kept) (a n : ℕ) (d : Doomed) → IsDoomedBy (own_of k a) d → (r : ReleasesBy k k' a n) → d.object ≡ r.out.identity.id
gone_object k k' a n d by r =
    let same : by.releasing.out ≡ r.out = (let j : Some by.releasing.out ≡ Some r.out = sym by.releasing.out_is ∙ r.was in cc) in
    by.object ∙ ap (λ (v : Out). v.identity.id) same

pub seated_gone :
    (a : ℕ) (k k' : Kept) (r : List (Option PlainDeed)) (x x' : List (Option Doomed)) → AreSeated k r x → IsLegal k'.history → OthersKeep a k k' → k'.outs ≡ k.outs → call_of (state_of k.history) a ≡ None → call_of (state_of k'.history) a ≡ None
    → kill_of k' a ≡ None → x' ≡ slots_set x a None → AreSeated k' r x'
seated_gone a k k' r x x' seated legal others outs was none gone set =
    let empty : value_of_slot x' a ≡ None = ap (λ (v : List (Option Doomed)). value_of_slot v a) set ∙ slot_emptied x a in
    seated_after a k k' r r x x' seated legal others refl (ap length set ∙ length-at_place x a _) (λ b ne. refl)
    (λ b ne. ap (λ (v : List (Option Doomed)). value_of_slot v b) set ∙ slot_beside x a b None ne)
    (seat_idle a k k' (value_of_slot r a) (value_of_slot x a) (value_of_slot x' a) (seated.seats a) was outs (no_call_fits a (call_of (state_of k'.history) a) (value_of_slot x' a) none) (none_held (own_of k' a) (value_of_slot x' a) empty gone))
