-- The events of a sweep as they are heard.
use Rattle.std.proofs.Common.{◌≡◌, ℕ, ◌≤◌, Bool, true, false, Option, Some, None, refl, ap, sym, ◌∙◌, subst, arith}
use Rattle.std.specs.Prelude.{◌==◌, sum_by, if◌then◌else◌}
use Rattle.uv_num.specs.Place.{at_place}
use Rattle.uv_num.specs.declared.kind.Kind.{Kind}
use Rattle.uv_machine.specs.declared.entry.Entry.TheVariants.{Kill}
use Rattle.uv_machine.specs.declared.object.Object.{Object}
use Rattle.uv_machine.specs.Histories.{state_of}
use Rattle.uv_machine.specs.States.{newest_free}
use Rattle.uv_graph.specs.declared.out.Own.{Own}
use Rattle.uv_graph.specs.Calls.{calls_on}
use Rattle.uv_graph.specs.Owns.{TearsNone, own_of}
use Rattle.uv_graph.specs.Slots.{put_slot}
use Rattle.uv_graph.specs.Turns.{last_entry}
use Rattle.uv_model.specs.declared.left.Left.{Left}
use Rattle.uv_model.specs.Standing.{left_of}
use Rattle.uv_world.specs.declared.world.World.{World}
use Rattle.uv_world.specs.Seating.{stage_of}
use Rattle.uv_world.specs.Stages.{Stage, stage_then}
use Rattle.uv_world.specs.declared.tearing.Turn.{Turn}
use Rattle.uv_world.specs.declared.tearing.Turn.TheVariants as turn
use Rattle.uv_world.specs.Tearing.{StageTurn, TurnLeads, stage_swept}
use Rattle.uv_run.specs.declared.flight.Killed.{Killed}
use Rattle.uv_run.specs.declared.flight.Teardown.{Teardown}
use Rattle.uv_run.specs.declared.heard.Event.TheVariants as event
use Rattle.uv_run.specs.declared.heard.Heard.{Heard}
use Rattle.uv_run.specs.declared.flights.Flights.{Flights}
use Rattle.uv_run.specs.Progress.{flying}
use Rattle.uv_run.specs.Site.{Site, Turned, ended_turn, goes_on, kill_of_object, kill_turn, last_of, state_at, teardown_of, swept_turn, with_entry, with_killed}
use Rattle.uv_run.specs.Sound.{IsSound, site_of}
use Rattle.uv_run.proofs.Sites.{site_same, still_turned, turned_same}
use Rattle.uv_run.proofs.TearSounds.{suits_some}
use Rattle.uv_run.proofs.TearTurns.{SweptDone, SweptKill, SweptNot, free_file, last_is, left_is}

-- what is kept of an object
kept_is : (x : Object) (f o : ℕ) (k : Kind) (n : ℕ) → x.id ≡ o → x.file ≡ f → x.kind ≡ k → x.handle ≡ n → record { object = o; left = record { file = f; kind = k; handle = n } } ≡ kill_of_object x
kept_is x f o k n ei ef ek en =
    sym (ap (λ (v : ℕ). (let t : Killed = record { object = v; left = left_of x } in t)) ei ∙ ap (λ (v : Left). (let t : Killed = record { object = o; left = v } in t)) (left_is x f k n ef ek en))

-- a quiet file is swept
pub swept_if : (s : Site) (a f : ℕ) (t : Teardown) (x : Option Object) → (calls_on (state_at s) f == 0) ≡ true → newest_free (state_at s) f ≡ x → kill_turn s a f t x ≡ swept_turn s a f t
swept_if s a f t x quiet free =
    ap (kill_turn s a f t) (sym free)
    ∙ sym (ap (λ (v : Bool). if v then kill_turn s a f t (newest_free (state_at s) f) else record { site = s; heard = goes_on (event.NotYet f (calls_on (state_at s) f)) }) quiet)

-- and another one waits
pub swept_waits : (s : Site) (a f : ℕ) (t : Teardown) → (calls_on (state_at s) f == 0) ≡ false → record { site = s; heard = goes_on (event.NotYet f (calls_on (state_at s) f)) } ≡ swept_turn s a f t
swept_waits s a f t some = sym (ap (λ (v : Bool). if v then kill_turn s a f t (newest_free (state_at s) f) else record { site = s; heard = goes_on (event.NotYet f (calls_on (state_at s) f)) }) some)

-- what is told of a killed object
abbrev pub kill_of : ℕ → ℕ → Kind → ℕ → Killed
kill_of o f k n = record { object = o; left = record { file = f; kind = k; handle = n } }

pub kill_turned :
    (old : Flights) (now : World) (new : Flights) (a f : ℕ) (t : Teardown) (o : ℕ) (k : Kind) (n : ℕ) (heard : Heard) → SweptKill (stage_of old.world) (stage_of now) f o k n
    → new ≡ record old { world = now; killed = at_place old.killed a (put_slot (Some (kill_of o f k n))) } → heard ≡ goes_on (event.Killed (record { file = f; kind = k; handle = n }))
    → (let r : Turned = record { site = site_of new; heard = heard } in r) ≡ swept_turn (site_of old) a f t
kill_turned old now new a f t o k n heard swept kept is =
    let x = swept.item in
    let file : x.file ≡ f = free_file (state_of old.world.core.history) f x swept.free in
    let what = kept_is x f o k n swept.id file swept.kind swept.handle in
    turned_same (site_of new) (with_killed (with_entry (site_of old) (Kill x.id)) a (Some (kill_of_object x))) heard (goes_on (event.Killed (left_of x)))
    (ap site_of kept
    ∙ site_same (stage_of now) (stage_then (stage_of old.world) (Kill x.id)) old.teardowns old.teardowns (at_place old.killed a (put_slot (Some (kill_of o f k n)))) (at_place old.killed a (put_slot (Some (kill_of_object x)))) swept.stage refl
    (ap (λ (v : Killed). at_place old.killed a (put_slot (Some v))) what))
    (is ∙ ap (λ (v : Left). goes_on (event.Killed v)) (sym (left_is x f k n file swept.kind swept.handle)))
    ∙ swept_if (site_of old) a f t (Some x) swept.quiet swept.free

-- the end of a teardown
pub done_turned :
    (old : Flights) (now : World) (a f : ℕ) (t : Teardown) → IsSound old → teardown_of (site_of old) a ≡ Some t → SweptDone (stage_of old.world) (stage_of now) a f → ended_turn (site_of (record old { world = now })) a f t ≡ swept_turn (site_of old) a f t
done_turned old now a f t sound is swept =
    let e : last_entry a f ≡ last_of f t = last_is (own_of old.world.core a) f t (suits_some old a t sound is) in
    ap (λ (s : Site). ended_turn s a f t)
    (site_same (stage_of now) (stage_then (stage_of old.world) (last_of f t)) old.teardowns old.teardowns old.killed old.killed (swept.stage ∙ ap (stage_then (stage_of old.world)) e) refl refl)
    ∙ swept_if (site_of old) a f t None swept.quiet swept.none

-- a wait for calls
pub not_turned :
    (old : Flights) (now : World) (a f n : ℕ) (t : Teardown) (heard : Heard) → SweptNot (stage_of old.world) (stage_of now) f n → heard ≡ goes_on (event.NotYet f n)
    → (let r : Turned = record { site = site_of (record old { world = now }); heard = heard } in r) ≡ swept_turn (site_of old) a f t
not_turned old now a f n t heard swept is =
    still_turned old now heard (goes_on (event.NotYet f (calls_on (state_of old.world.core.history) f))) swept.stage (is ∙ ap (λ (v : ℕ). goes_on (event.NotYet f v)) swept.calls)
    ∙ swept_waits (site_of old) a f t swept.some

-- a turn by its name
pub swept_at : (s u : Stage) (a f : ℕ) (x y : Turn) → (let t : StageTurn = record { stage = u; turn = x } in t) ≡ stage_swept s a f → x ≡ y → (let t : StageTurn = record { stage = u; turn = y } in t) ≡ stage_swept s a f
swept_at s u a f x y e same =
    let P : Turn → Type 0 = λ v. (let t : StageTurn = record { stage = u; turn = v } in t) ≡ stage_swept s a f in
    subst P same e

-- who has swept a file to its end tears nothing
pub swept_out : (a f : ℕ) (o : Own) (x : Turn) → TurnLeads o f x → x ≡ turn.Done → TearsNone o
swept_out a f o x leads is =
    let P : Turn → Type 0 = λ v. TurnLeads o f v in
    subst P is leads

pub kept_fewer : (old new : Flights) → new.teardowns ≡ old.teardowns → sum_by flying new.teardowns ≤ sum_by flying old.teardowns
kept_fewer old new same = let e : sum_by flying new.teardowns ≡ sum_by flying old.teardowns = ap (sum_by flying) same in omega (arith, e)
