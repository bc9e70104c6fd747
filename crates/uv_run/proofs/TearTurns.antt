-- What the events of a teardown are heard as, and what they leave of the actor's part.
use Rattle.std.proofs.Common.{◌≡◌, ℕ, Bool, true, false, Option, Some, None, refl, ap, sym, ◌∙◌, ⊎_elim}
use Rattle.std.specs.Prelude.{◌==◌, ◌&&◌, if◌then◌else◌, reverse}
use Rattle.std.proofs.lemmas.Bool.{eqb-true, eq-eqb, ne_eqb}
use Rattle.std.proofs.lemmas.Bool.Decides.{eqb_tells}
use Rattle.uv_num.specs.declared.errno.Errno.{Errno}
use Rattle.uv_num.specs.declared.errno.Errno.TheVariants.{BadF}
use Rattle.uv_num.specs.declared.kind.Kind.{Kind}
use Rattle.uv_num.specs.declared.limits.TheConstants.{DRIVER}
use Rattle.uv_machine.specs.declared.entry.Entry.TheVariants.{Tear, Dissociated, Closed}
use Rattle.uv_machine.specs.declared.entry.Entry.TheVariants as entry
use Rattle.uv_machine.specs.declared.file.FilePhase.{FilePhase}
use Rattle.uv_machine.specs.declared.file.FilePhase.TheVariants as file
use Rattle.uv_machine.specs.declared.object.Object.{Object}
use Rattle.uv_machine.specs.declared.state.State.{State}
use Rattle.uv_machine.specs.Effects.{gone_from}
use Rattle.uv_machine.specs.Histories.{after, state_of}
use Rattle.uv_machine.specs.Objects.{in_file}
use Rattle.uv_machine.specs.States.{phase_of, newest_free, can_go}
use Rattle.uv_machine.proofs.Members.{Passes-find}
use Rattle.uv_graph.specs.declared.out.Own.{Own}
use Rattle.uv_graph.specs.declared.told.Torn.TheVariants as torn
use Rattle.uv_graph.specs.Calls.{calls_on}
use Rattle.uv_graph.specs.Owns.{is_torn_by}
use Rattle.uv_graph.specs.Turns.{close_of, last_entry}
use Rattle.uv_model.specs.declared.left.Left.{Left}
use Rattle.uv_model.specs.Standing.{left_of}
use Rattle.uv_world.specs.declared.tearing.Turn.{Turn}
use Rattle.uv_world.specs.declared.tearing.Turn.TheVariants as turn
use Rattle.uv_world.specs.Stages.{Stage, stage_then}
use Rattle.uv_world.specs.Tearing.{StageTurn, stage_killed, stage_swept}
use Rattle.uv_run.specs.declared.flight.Teardown.{Teardown}
use Rattle.uv_run.specs.declared.flight.Teardown.TheVariants.{Closing, Unplugging}
use Rattle.uv_run.specs.declared.heard.Event.TheVariants as event
use Rattle.uv_run.specs.Site.{Site, Turned, close_turn, goes_on, last_of, no_close, tear_turn, torn_by, torn_turn}
use Rattle.uv_run.specs.Sound.{TeardownFits, TearsOnly}
use Rattle.uv_run.proofs.MachineLaws.{files_stand_apart}
use Rattle.uv_run.proofs.Tears.{torn_some, torn_none}

-- A close.

close_by_driver : (s : Site) (a f by : ℕ) (v : Bool) → (if v then torn.NotYet DRIVER else torn.Refused BadF) ≡ torn.Began → ⊥
close_by_driver s a f by true e = absurd (cc)
close_by_driver s a f by false e = absurd (cc)

pub close_began : (s : Site) (a f : ℕ) (p : FilePhase) → close_of p ≡ torn.Began → close_turn s a f p ≡ tear_turn s a f
close_began s a f file.Fresh e = absurd (cc)
close_began s a f file.Open e = refl
close_began s a f (file.Tearing by) e = absurd (close_by_driver s a f by (by == DRIVER) e)
close_began s a f file.Dissociated e = refl
close_began s a f file.Closed e = absurd (cc)

waits_by : (s : Site) (a f by n : ℕ) (v : Bool) → (by == DRIVER) ≡ v → (if v then torn.NotYet DRIVER else torn.Refused BadF) ≡ torn.NotYet n → torn_turn s a f by ≡ record { site = s; heard = goes_on (event.TornBy f n) }
waits_by s a f by n true is e =
    let same : by ≡ n = eqb-true by DRIVER is ∙ (let k : DRIVER ≡ n = cc in k) in
    ap (λ (v : Bool). if v then record { site = s; heard = goes_on (event.TornBy f by) } else no_close s a) is
    ∙ ap (λ (v : ℕ). (let t : Turned = record { site = s; heard = goes_on (event.TornBy f v) } in t)) same
waits_by s a f by n false is e = absurd (cc)

pub close_waits : (s : Site) (a f n : ℕ) (p : FilePhase) → close_of p ≡ torn.NotYet n → close_turn s a f p ≡ record { site = s; heard = goes_on (event.TornBy f n) }
close_waits s a f n file.Fresh e = absurd (cc)
close_waits s a f n file.Open e = absurd (cc)
close_waits s a f n (file.Tearing by) e = waits_by s a f by n (by == DRIVER) refl e
close_waits s a f n file.Dissociated e = absurd (cc)
close_waits s a f n file.Closed e = absurd (cc)

refused_if : (s : Site) (a f by : ℕ) (x : Errno) (v : Bool) → (by == DRIVER) ≡ v → (if v then torn.NotYet DRIVER else torn.Refused BadF) ≡ torn.Refused x → torn_turn s a f by ≡ no_close s a
refused_if s a f by x true is e = absurd (cc)
refused_if s a f by x false is e = ap (λ (v : Bool). if v then record { site = s; heard = goes_on (event.TornBy f by) } else no_close s a) is

pub close_refused : (s : Site) (a f : ℕ) (e : Errno) (p : FilePhase) → close_of p ≡ torn.Refused e → close_turn s a f p ≡ no_close s a
close_refused s a f e file.Fresh is = refl
close_refused s a f e file.Open is = absurd (cc)
close_refused s a f e (file.Tearing by) is = refused_if s a f by e (by == DRIVER) refl is
close_refused s a f e file.Dissociated is = absurd (cc)
close_refused s a f e file.Closed is = refl

waited_if : (by n : ℕ) (v : Bool) → (by == DRIVER) ≡ v → (if v then torn.NotYet DRIVER else torn.Refused BadF) ≡ torn.NotYet n → by ≡ n
waited_if by n true is e = eqb-true by DRIVER is ∙ (let k : DRIVER ≡ n = cc in k)
waited_if by n false is e = absurd (cc)

-- who is waited for tears the file
pub close_waited : (n : ℕ) (p : FilePhase) → close_of p ≡ torn.NotYet n → p ≡ file.Tearing n
close_waited n file.Fresh e = absurd (cc)
close_waited n file.Open e = absurd (cc)
close_waited n (file.Tearing by) e = ap (λ (v : ℕ). file.Tearing v) (waited_if by n (by == DRIVER) refl e)
close_waited n file.Dissociated e = absurd (cc)
close_waited n file.Closed e = absurd (cc)

-- What an actor tears, after its tear of a file.

tear_cases : (m : State) (a f : ℕ) (t : Option ℕ) → torn_by m a ≡ None → torn_by (after m (Tear f a)) a ≡ t → TearsOnly t f
tear_cases m a f None none e = tt
tear_cases m a f (Some g) none e =
    ⊎_elim
    (λ same. sym same.1)
    (λ apart. absurd (let now : is_torn_by a (phase_of m g) ≡ true = ap (is_torn_by a) (sym (files_stand_apart m (Tear f a) g apart.0)) ∙ torn_some (after m (Tear f a)) a g e in
    let was : is_torn_by a (phase_of m g) ≡ false = torn_none m a none g in
    cc))
    (eqb_tells f g)

pub tear_only : (m : State) (a f : ℕ) → torn_by m a ≡ None → TearsOnly (torn_by (after m (Tear f a)) a) f
tear_only m a f none = tear_cases m a f (torn_by (after m (Tear f a)) a) none refl

-- Objects that are found.

first_true : (p q : Bool) → (p && q) ≡ true → p ≡ true
first_true true q e = refl
first_true false q e = absurd (cc)

pub free_file : (m : State) (f : ℕ) (x : Object) → newest_free m f ≡ Some x → x.file ≡ f
free_file m f x e = eqb-true x.file f (first_true (in_file f x) _ (Passes-find (can_go m f) x (reverse m.objects) e).test)

-- what is told of it
pub left_is : (x : Object) (f : ℕ) (k : Kind) (n : ℕ) → x.file ≡ f → x.kind ≡ k → x.handle ≡ n → left_of x ≡ record { file = f; kind = k; handle = n }
left_is x f k n ef ek en =
    ap (λ (v : ℕ). (let l : Left = record { file = v; kind = x.kind; handle = x.handle } in l)) ef
    ∙ ap (λ (v : Kind). (let l : Left = record { file = f; kind = v; handle = x.handle } in l)) ek
    ∙ ap (λ (v : ℕ). (let l : Left = record { file = f; kind = k; handle = v } in l)) en

-- The last entry of a teardown.

pub last_is : (o : Own) (f : ℕ) (t : Teardown) → TeardownFits o (Some t) → last_entry o.actor f ≡ last_of f t
last_is o f (Closing g) suits = ap (λ (v : Bool). if v then Dissociated f else Closed f) (ne_eqb o.actor DRIVER suits.1)
last_is o f (Unplugging d) suits = ap (λ (v : Bool). if v then Dissociated f else Closed f) (eq-eqb o.actor DRIVER suits.0)

-- No release pulls a device or gives one back.

pub plugged_gone : (m : State) (o : ℕ) (slot : Option Object) → (gone_from m o slot).plugged ≡ m.plugged
plugged_gone m o None = refl
plugged_gone m o (Some x) = refl

-- What a sweep of the world came to.

-- a quiet file lost its newest object that nothing uses
pub record SweptKill (s u : Stage) (f o : ℕ) (k : Kind) (n : ℕ) : Type 0 where
  pub item : Object
  pub quiet : (calls_on (state_of s.history) f == 0) ≡ true
  pub free : newest_free (state_of s.history) f ≡ Some item
  pub id : item.id ≡ o
  pub kind : item.kind ≡ k
  pub handle : item.handle ≡ n
  pub stage : u ≡ stage_then s (entry.Kill item.id)

-- a quiet file lost its last
pub record SweptDone (s u : Stage) (a f : ℕ) : Type 0 where
  pub quiet : (calls_on (state_of s.history) f == 0) ≡ true
  pub none : newest_free (state_of s.history) f ≡ None
  pub stage : u ≡ stage_then s (last_entry a f)

-- calls on the file are in flight
pub record SweptNot (s u : Stage) (f n : ℕ) : Type 0 where
  pub some : (calls_on (state_of s.history) f == 0) ≡ false
  pub calls : n ≡ calls_on (state_of s.history) f
  pub stage : u ≡ s

stage_in : (s u : Stage) (x y : Turn) → (let t : StageTurn = record { stage = u; turn = x } in t) ≡ record { stage = s; turn = y } → u ≡ s
stage_in s u x y e = ap (λ (t : StageTurn). t.stage) e

turn_in : (s u : Stage) (x y : Turn) → (let t : StageTurn = record { stage = u; turn = x } in t) ≡ record { stage = s; turn = y } → x ≡ y
turn_in s u x y e = ap (λ (t : StageTurn). t.turn) e

kill_at : (s u : Stage) (a f o : ℕ) (k : Kind) (n : ℕ) (x : Option Object) → (calls_on (state_of s.history) f == 0) ≡ true → newest_free (state_of s.history) f ≡ x → (let t : StageTurn = record { stage = u; turn = turn.Killed o k n } in t) ≡ stage_killed s a f x → SweptKill s u f o k n
kill_at s u a f o k n None quiet free e = let t = turn_in (stage_then s (last_entry a f)) u (turn.Killed o k n) turn.Done e in absurd (cc)
kill_at s u a f o k n (Some x) quiet free e =
    let t = turn_in (stage_then s (entry.Kill x.id)) u (turn.Killed o k n) (turn.Killed x.id x.kind x.handle) e in
    record { item = x; quiet = quiet; free = free; id = cc; kind = cc; handle = cc; stage = stage_in (stage_then s (entry.Kill x.id)) u (turn.Killed o k n) (turn.Killed x.id x.kind x.handle) e }

kill_if : (s u : Stage) (a f o : ℕ) (k : Kind) (n : ℕ) (v : Bool) → (calls_on (state_of s.history) f == 0) ≡ v
    → (let t : StageTurn = record { stage = u; turn = turn.Killed o k n } in t) ≡ (if v then stage_killed s a f (newest_free (state_of s.history) f) else record { stage = s; turn = turn.NotYet (calls_on (state_of s.history) f) }) → SweptKill s u f o k n
kill_if s u a f o k n true is e = kill_at s u a f o k n (newest_free (state_of s.history) f) is refl e
kill_if s u a f o k n false is e = let t = turn_in s u (turn.Killed o k n) (turn.NotYet (calls_on (state_of s.history) f)) e in absurd (cc)

pub swept_kill : (s u : Stage) (a f o : ℕ) (k : Kind) (n : ℕ) → (let t : StageTurn = record { stage = u; turn = turn.Killed o k n } in t) ≡ stage_swept s a f → SweptKill s u f o k n
swept_kill s u a f o k n e = kill_if s u a f o k n (calls_on (state_of s.history) f == 0) refl e

done_at : (s u : Stage) (a f : ℕ) (x : Option Object) → (calls_on (state_of s.history) f == 0) ≡ true → newest_free (state_of s.history) f ≡ x → (let t : StageTurn = record { stage = u; turn = turn.Done } in t) ≡ stage_killed s a f x → SweptDone s u a f
done_at s u a f None quiet free e = record { quiet = quiet; none = free; stage = stage_in (stage_then s (last_entry a f)) u turn.Done turn.Done e }
done_at s u a f (Some x) quiet free e = let t = turn_in (stage_then s (entry.Kill x.id)) u turn.Done (turn.Killed x.id x.kind x.handle) e in absurd (cc)

done_if : (s u : Stage) (a f : ℕ) (v : Bool) → (calls_on (state_of s.history) f == 0) ≡ v
    → (let t : StageTurn = record { stage = u; turn = turn.Done } in t) ≡ (if v then stage_killed s a f (newest_free (state_of s.history) f) else record { stage = s; turn = turn.NotYet (calls_on (state_of s.history) f) }) → SweptDone s u a f
done_if s u a f true is e = done_at s u a f (newest_free (state_of s.history) f) is refl e
done_if s u a f false is e = let t = turn_in s u turn.Done (turn.NotYet (calls_on (state_of s.history) f)) e in absurd (cc)

pub swept_done : (s u : Stage) (a f : ℕ) → (let t : StageTurn = record { stage = u; turn = turn.Done } in t) ≡ stage_swept s a f → SweptDone s u a f
swept_done s u a f e = done_if s u a f (calls_on (state_of s.history) f == 0) refl e

not_at : (s u : Stage) (a f n : ℕ) (x : Option Object) → (let t : StageTurn = record { stage = u; turn = turn.NotYet n } in t) ≡ stage_killed s a f x → ⊥
not_at s u a f n None e = let t = turn_in (stage_then s (last_entry a f)) u (turn.NotYet n) turn.Done e in cc
not_at s u a f n (Some x) e = let t = turn_in (stage_then s (entry.Kill x.id)) u (turn.NotYet n) (turn.Killed x.id x.kind x.handle) e in cc

not_if : (s u : Stage) (a f n : ℕ) (v : Bool) → (calls_on (state_of s.history) f == 0) ≡ v
    → (let t : StageTurn = record { stage = u; turn = turn.NotYet n } in t) ≡ (if v then stage_killed s a f (newest_free (state_of s.history) f) else record { stage = s; turn = turn.NotYet (calls_on (state_of s.history) f) }) → SweptNot s u f n
not_if s u a f n true is e = absurd (not_at s u a f n (newest_free (state_of s.history) f) e)
not_if s u a f n false is e =
    let t = turn_in s u (turn.NotYet n) (turn.NotYet (calls_on (state_of s.history) f)) e in
    record { some = is; calls = cc; stage = stage_in s u (turn.NotYet n) (turn.NotYet (calls_on (state_of s.history) f)) e }

pub swept_not : (s u : Stage) (a f n : ℕ) → (let t : StageTurn = record { stage = u; turn = turn.NotYet n } in t) ≡ stage_swept s a f → SweptNot s u f n
swept_not s u a f n e = not_if s u a f n (calls_on (state_of s.history) f == 0) refl e
