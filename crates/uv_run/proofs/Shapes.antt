-- What an event of a teardown leaves of the calls, and of the teardowns in flight.
use Rattle.std.proofs.Common.{◌≡◌, ℕ, Bool, true, false, List, [], ◌∷◌, ◌++◌, Option, Some, None, length, refl, ap, sym, ◌∙◌, inl, inr, append-nil}
use Rattle.std.specs.Prelude.{◌≢◌, ◌⊎◌, ◌==◌, if◌then◌else◌}
use Rattle.uv_num.specs.declared.limits.TheConstants.{DRIVER}
use Rattle.uv_num.proofs.PlaceLaws.{length-at_place}
use Rattle.uv_machine.specs.declared.entry.Answer.{Answer}
use Rattle.uv_machine.specs.declared.entry.Entry.{Entry}
use Rattle.uv_machine.specs.declared.entry.Entry.TheVariants as entry
use Rattle.uv_machine.specs.declared.file.FilePhase.{FilePhase}
use Rattle.uv_machine.specs.declared.file.FilePhase.TheVariants as file
use Rattle.uv_machine.specs.declared.object.Object.{Object}
use Rattle.uv_machine.specs.Calls.{Item, calls_of, calls_with}
use Rattle.uv_machine.specs.States.{newest_free, phase_of}
use Rattle.uv_machine.proofs.Clients.{calls_go_on}
use Rattle.uv_graph.specs.Calls.{calls_on}
use Rattle.uv_graph.specs.Slots.{put_slot}
use Rattle.uv_run.specs.declared.flight.Killed.{Killed}
use Rattle.uv_run.specs.declared.flight.Teardown.{Teardown}
use Rattle.uv_run.specs.declared.flight.Teardown.TheVariants.{Closing, Unplugging}
use Rattle.uv_run.specs.declared.heard.Event.{Event}
use Rattle.uv_run.specs.Site.{Site, Turned, begin_turn, close_turn, ended_turn, ends_with, file_ahead, goes_on, kept_of_file, kill_turn, killed_of, last_of, no_close, removal_turn, removed, state_at, sweep_turn, swept_turn, tear_turn, teardown_of, teardown_turn, tears_turn, torn_by, unplug_turn, with_entry, with_teardown}
use Rattle.uv_run.proofs.Sounds.{slot_none, slot_other}

-- the history has gone on without a call's beginning or end
pub record Base (s u : Site) : Type 0 where
  pub more : List Entry
  pub is : u.history ≡ s.history ++ more
  pub calls : (c : ℕ) → calls_of u.history c ≡ calls_of s.history c
  pub teardowns : u.teardowns ≡ s.teardowns

-- a teardown is over, with this answer
pub record Over (a : ℕ) (t : Turned) : Type 0 where
  pub answer : Answer
  pub ends : t.heard.ends ≡ Some (record { made = None; answer = answer })
  pub none : teardown_of t.site a ≡ None

pub record Tearing (s : Site) (a : ℕ) (t : Turned) : Type 0 where
  pub more : List Entry
  pub is : t.site.history ≡ s.history ++ more
  pub calls : (c : ℕ) → calls_of t.site.history c ≡ calls_of s.history c
  pub others : (b : ℕ) → b ≢ a → teardown_of t.site b ≡ teardown_of s b
  pub size : length t.site.teardowns ≡ length s.teardowns
  pub own : ((t.heard.ends ≡ None) × (teardown_of t.site a ≡ teardown_of s a)) ⊎ Over a t

base_same : (s : Site) → Base s s
base_same s = record { more = []; is = sym (append-nil s.history); calls = λ c. refl; teardowns = refl }

base_entry : (s : Site) (e : Entry) → ((c : ℕ) (items : List Item) → calls_with c items e ≡ items) → Base s (with_entry s e)
base_entry s e quiet = record { more = e ∷ []; is = refl; calls = λ c. calls_go_on s.history e c ∙ quiet c (calls_of s.history c); teardowns = refl }

tearing_stays : (s u : Site) (a : ℕ) (e : Event) → Base s u → Tearing s a (record { site = u; heard = goes_on e })
tearing_stays s u a e b = record {
  more = b.more;
  is = b.is;
  calls = b.calls;
  others = λ c ne. ap (λ v. teardown_of (record s { teardowns = v }) c) b.teardowns;
  size = ap length b.teardowns;
  own = inl (refl, ap (λ v. teardown_of (record s { teardowns = v }) a) b.teardowns);
}

tearing_over : (s u : Site) (a : ℕ) (e : Event) (x : Answer) → Base s u → Tearing s a (record { site = with_teardown u a None; heard = ends_with e x })
tearing_over s u a e x b = record {
  more = b.more;
  is = b.is;
  calls = b.calls;
  others = λ c ne. slot_other u.teardowns a c None ne ∙ ap (λ v. teardown_of (record s { teardowns = v }) c) b.teardowns;
  size = length-at_place u.teardowns a (put_slot None) ∙ ap length b.teardowns;
  own = inr (record { answer = x; ends = refl; none = slot_none u.teardowns a });
}

tearing_if : (s : Site) (a : ℕ) (v : Bool) (x y : Turned) → Tearing s a x → Tearing s a y → Tearing s a (if v then x else y)
tearing_if s a true x y p q = p
tearing_if s a false x y p q = q

removed_shape : (s u : Site) (a : ℕ) (e : Event) (x : Option ℕ) → Base s u → Tearing s a (removed u a e x)
removed_shape s u a e None b = tearing_over s u a e _ b
removed_shape s u a e (Some f) b = tearing_stays s u a e b

ended_shape : (s u : Site) (a f : ℕ) (t : Teardown) → Base s u → Tearing s a (ended_turn u a f t)
ended_shape s u a f (Closing g) b = tearing_over s u a _ _ b
ended_shape s u a f (Unplugging d) b = removed_shape s u a _ (file_ahead (state_at u) d) b

last_quiet : (f : ℕ) (t : Teardown) (c : ℕ) (items : List Item) → calls_with c items (last_of f t) ≡ items
last_quiet f (Closing g) c items = refl
last_quiet f (Unplugging d) c items = refl

kill_shape : (s : Site) (a f : ℕ) (t : Teardown) (x : Option Object) → Tearing s a (kill_turn s a f t x)
kill_shape s a f t None = ended_shape s (with_entry s (last_of f t)) a f t (base_entry s (last_of f t) (last_quiet f t))
kill_shape s a f t (Some x) =
    let b = base_entry s (entry.Kill x.id) (λ c items. refl) in
    tearing_stays s _ a _ (record { more = b.more; is = b.is; calls = b.calls; teardowns = refl })

swept_shape : (s : Site) (a f : ℕ) (t : Teardown) → Tearing s a (swept_turn s a f t)
swept_shape s a f t = tearing_if s a (calls_on (state_at s) f == 0) _ _ (kill_shape s a f t (newest_free (state_at s) f)) (tearing_stays s s a _ (base_same s))

sweep_shape : (s : Site) (a f : ℕ) (t : Teardown) (x : Option Killed) → Tearing s a (sweep_turn s a f t x)
sweep_shape s a f t None = swept_shape s a f t
sweep_shape s a f t (Some x) =
    let b = base_entry s (entry.Gone x.object (kept_of_file s f)) (λ c items. refl) in
    tearing_stays s _ a _ (record { more = b.more; is = b.is; calls = b.calls; teardowns = refl })

tear_shape : (s : Site) (a f : ℕ) → Tearing s a (tear_turn s a f)
tear_shape s a f = tearing_stays s (with_entry s (entry.Tear f a)) a _ (base_entry s (entry.Tear f a) (λ c items. refl))

no_close_shape : (s : Site) (a : ℕ) → Tearing s a (no_close s a)
no_close_shape s a = tearing_over s s a _ _ (base_same s)

pub close_shape : (s : Site) (a f : ℕ) (p : FilePhase) → Tearing s a (close_turn s a f p)
close_shape s a f file.Fresh = no_close_shape s a
close_shape s a f file.Open = tear_shape s a f
close_shape s a f (file.Tearing by) = tearing_if s a (by == DRIVER) _ _ (tearing_stays s s a _ (base_same s)) (no_close_shape s a)
close_shape s a f file.Dissociated = tear_shape s a f
close_shape s a f file.Closed = no_close_shape s a

removal_shape : (s : Site) (a f : ℕ) (p : FilePhase) → Tearing s a (removal_turn s a f p)
removal_shape s a f file.Fresh = tearing_stays s s a _ (base_same s)
removal_shape s a f file.Open = tear_shape s a f
removal_shape s a f (file.Tearing by) = tearing_stays s s a _ (base_same s)
removal_shape s a f file.Dissociated = tearing_stays s s a _ (base_same s)
removal_shape s a f file.Closed = tearing_stays s s a _ (base_same s)

unplug_shape : (s : Site) (a : ℕ) (x : Option ℕ) → Tearing s a (unplug_turn s a x)
unplug_shape s a None = tearing_over s s a _ _ (base_same s)
unplug_shape s a (Some f) = removal_shape s a f (phase_of (state_at s) f)

begin_shape : (s : Site) (a : ℕ) (t : Teardown) → Tearing s a (begin_turn s a t)
begin_shape s a (Closing f) = close_shape s a f (phase_of (state_at s) f)
begin_shape s a (Unplugging d) = unplug_shape s a (file_ahead (state_at s) d)

tears_shape : (s : Site) (a : ℕ) (t : Teardown) (x : Option ℕ) → Tearing s a (tears_turn s a t x)
tears_shape s a t None = begin_shape s a t
tears_shape s a t (Some f) = sweep_shape s a f t (killed_of s a)

pub silent_shape : (s : Site) (a : ℕ) → Tearing s a (teardown_turn s a None)
silent_shape s a = tearing_stays s s a _ (base_same s)

pub teardown_shape : (s : Site) (a : ℕ) (t : Option Teardown) → Tearing s a (teardown_turn s a t)
teardown_shape s a None = silent_shape s a
teardown_shape s a (Some t) = tears_shape s a t (torn_by (state_at s) a)
