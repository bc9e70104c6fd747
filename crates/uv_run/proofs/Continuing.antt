-- Each event, and each thing that begins, leaves the history as it was and puts what comes at its end.
use Rattle.std.proofs.Common.{◌≡◌, ℕ, ◌+◌, ◌≤◌, Bool, true, false, List, [], ◌∷◌, ◌++◌, Option, Some, None, length, refl, ap, sym, ◌∙◌, subst, arith, append-nil, append_assoc, length-append}
use Rattle.std.specs.Prelude.{◌==◌, if◌then◌else◌}
use Rattle.uv_num.specs.declared.limits.TheConstants.{DRIVER}
use Rattle.uv_machine.specs.declared.entry.CallStep.{CallStep}
use Rattle.uv_machine.specs.declared.entry.Entry.{Entry}
use Rattle.uv_machine.specs.declared.entry.Entry.TheVariants as entry
use Rattle.uv_machine.specs.declared.file.FilePhase.{FilePhase}
use Rattle.uv_machine.specs.declared.file.FilePhase.TheVariants as file
use Rattle.uv_machine.specs.declared.object.Object.{Object}
use Rattle.uv_machine.specs.States.{is_unplugged, newest_free, phase_of}
use Rattle.uv_machine.specs.Steps.{next_of}
use Rattle.uv_graph.specs.Calls.{calls_on}
use Rattle.uv_run.specs.declared.flight.Killed.{Killed}
use Rattle.uv_run.specs.declared.flight.Task.{Task}
use Rattle.uv_run.specs.declared.flight.Task.TheVariants as task
use Rattle.uv_run.specs.declared.flight.Teardown.{Teardown}
use Rattle.uv_run.specs.declared.flight.Teardown.TheVariants.{Closing, Unplugging}
use Rattle.uv_run.specs.declared.heard.Event.{Event}
use Rattle.uv_run.specs.Site.{Begins, Site, Turned, begin_turn, close_turn, closes, ended_turn, event_of, file_ahead, found_of, kept_at, kept_of_file, kill_turn, killed_of, last_of, removal_turn, removed, state_at, sweep_turn, swept_turn, teardown_of, teardown_turn, tears_turn, torn_by, torn_down, torn_turn, turn_by, unplug_turn, unplugs, with_entry, with_teardown}

pub record Continued (old new : List Entry) : Type 0 where
  pub more : List Entry
  pub is : new ≡ old ++ more

pub continued_same : (h : List Entry) → Continued h h
continued_same h = record { more = []; is = sym (append-nil h) }

pub continued_then : (a b c : List Entry) → Continued a b → Continued b c → Continued a c
continued_then a b c first next = record { more = first.more ++ next.more; is = next.is ∙ ap (λ v. v ++ next.more) first.is ∙ append_assoc a first.more next.more }

pub continued_length : (a b : List Entry) → Continued a b → length a ≤ length b
continued_length a b g = let e : length b ≡ length a + length g.more = ap length g.is ∙ length-append a g.more in omega (arith, e)

-- the turn of a site
abbrev pub Continues : Site → Turned → Type 0
Continues s t = Continued s.history t.site.history

continued_one : (s : Site) (e : Entry) → Continued s.history (with_entry s e).history
continued_one s e = record { more = e ∷ []; is = refl }

continues_if : (s : Site) (v : Bool) (t u : Turned) → Continues s t → Continues s u → Continues s (if v then t else u)
continues_if s true t u a b = a
continues_if s false t u a b = b

removed_continues : (s : Site) (a : ℕ) (e : Event) (ahead : Option ℕ) → Continues s (removed s a e ahead)
removed_continues s a e None = continued_same s.history
removed_continues s a e (Some f) = continued_same s.history

ended_continues : (s : Site) (a f : ℕ) (t : Teardown) → Continues s (ended_turn s a f t)
ended_continues s a f (Closing g) = continued_same s.history
ended_continues s a f (Unplugging d) = removed_continues s a _ (file_ahead (state_at s) d)

torn_down_continues : (s : Site) (a f : ℕ) (t : Teardown) → Continues s (torn_down s a f t)
torn_down_continues s a f t =
    let mid = with_entry s (last_of f t) in
    continued_then s.history mid.history (torn_down s a f t).site.history (continued_one s (last_of f t)) (ended_continues mid a f t)

kill_continues : (s : Site) (a f : ℕ) (t : Teardown) (x : Option Object) → Continues s (kill_turn s a f t x)
kill_continues s a f t None = torn_down_continues s a f t
kill_continues s a f t (Some x) = continued_one s (entry.Kill x.id)

swept_continues : (s : Site) (a f : ℕ) (t : Teardown) → Continues s (swept_turn s a f t)
swept_continues s a f t = continues_if s (calls_on (state_at s) f == 0) (kill_turn s a f t (newest_free (state_at s) f)) _ (kill_continues s a f t (newest_free (state_at s) f)) (continued_same s.history)

sweep_continues : (s : Site) (a f : ℕ) (t : Teardown) (x : Option Killed) → Continues s (sweep_turn s a f t x)
sweep_continues s a f t None = swept_continues s a f t
sweep_continues s a f t (Some x) = continued_one s (entry.Gone x.object (kept_of_file s f))

torn_continues : (s : Site) (a f by : ℕ) → Continues s (torn_turn s a f by)
torn_continues s a f by = continues_if s (by == DRIVER) _ _ (continued_same s.history) (continued_same s.history)

close_continues : (s : Site) (a f : ℕ) (phase : FilePhase) → Continues s (close_turn s a f phase)
close_continues s a f file.Fresh = continued_same s.history
close_continues s a f file.Open = continued_one s (entry.Tear f a)
close_continues s a f (file.Tearing by) = torn_continues s a f by
close_continues s a f file.Dissociated = continued_one s (entry.Tear f a)
close_continues s a f file.Closed = continued_same s.history

removal_continues : (s : Site) (a f : ℕ) (phase : FilePhase) → Continues s (removal_turn s a f phase)
removal_continues s a f file.Fresh = continued_same s.history
removal_continues s a f file.Open = continued_one s (entry.Tear f a)
removal_continues s a f (file.Tearing by) = continued_same s.history
removal_continues s a f file.Dissociated = continued_same s.history
removal_continues s a f file.Closed = continued_same s.history

unplug_continues : (s : Site) (a : ℕ) (ahead : Option ℕ) → Continues s (unplug_turn s a ahead)
unplug_continues s a None = continued_same s.history
unplug_continues s a (Some f) = removal_continues s a f (phase_of (state_at s) f)

begin_continues : (s : Site) (a : ℕ) (t : Teardown) → Continues s (begin_turn s a t)
begin_continues s a (Closing f) = close_continues s a f (phase_of (state_at s) f)
begin_continues s a (Unplugging d) = unplug_continues s a (file_ahead (state_at s) d)

tears_continues : (s : Site) (a : ℕ) (t : Teardown) (torn : Option ℕ) → Continues s (tears_turn s a t torn)
tears_continues s a t None = begin_continues s a t
tears_continues s a t (Some f) = sweep_continues s a f t (killed_of s a)

teardown_continues : (s : Site) (a : ℕ) (t : Option Teardown) → Continues s (teardown_turn s a t)
teardown_continues s a None = continued_same s.history
teardown_continues s a (Some t) = tears_continues s a t (torn_by (state_at s) a)

turn_continues : (s : Site) (a : ℕ) (d : Option CallStep) → Continues s (turn_by s a d)
turn_continues s a None = teardown_continues s a (teardown_of s a)
turn_continues s a (Some d) = record { more = _; is = refl }

pub event_continues : (s : Site) (a : ℕ) → Continues s (event_of s a)
unfolding event_of
event_continues s a = turn_continues s a (next_of (state_at s) a (found_of s a) (kept_at s a))

pub closes_continues : (s : Site) (a f : ℕ) → Continues s (closes s a f)
closes_continues s a f = close_continues (with_teardown s a (Some (Closing f))) a f (phase_of (state_at s) f)

unplugs_continues : (s : Site) (a d : ℕ) → Continues s (unplugs s a d)
unplugs_continues s a d = continues_if s (is_unplugged (state_at s) d) _ _ (continued_same s.history) (continued_one s (entry.Unplug d))

pub begins_continues : (s : Site) (a : ℕ) (x : Task) (t : Turned) → Begins s a x t → Continues s t
begins_continues s a (task.Opens f d) t begins = subst (Continues s) (sym begins.turned) (continued_one s (entry.Open a f d begins.answer))
begins_continues s a (task.Calls f request) t begins = subst (Continues s) (sym begins.turned) (continued_one s (entry.Enter a f request begins.answer))
begins_continues s a (task.Closes f) t same = subst (Continues s) (sym same) (closes_continues s a f)
begins_continues s a (task.Unplugs d) t same = subst (Continues s) (sym same) (unplugs_continues s a d)
