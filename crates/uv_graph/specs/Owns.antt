-- Each actor's own part of the graph.
use Rattle.std.specs.Prelude.{ℕ, Bool, true, false, not, ◌==◌, ◌≡◌, ◌≢◌, ◌⊎◌, ◌++◌, List, [], ◌∷◌, Option, Some, None, map, position, replicate, if◌then◌else◌}
use Rattle.uv_num.specs.declared.limits.TheConstants.{DRIVER, DEVICES}
use Rattle.uv_machine.specs.declared.entry.Entry.{Entry}
use Rattle.uv_machine.specs.declared.entry.Entry.TheVariants.{Open, Enter, Step, Unplug, Tear, Kill, Gone, Dissociated, Closed}
use Rattle.uv_machine.specs.declared.file.File.{File}
use Rattle.uv_machine.specs.declared.file.FilePhase.{FilePhase}
use Rattle.uv_machine.specs.declared.file.FilePhase.TheVariants as file
use Rattle.uv_machine.specs.declared.object.Object.{Object}
use Rattle.uv_machine.specs.declared.state.State.{State}
use Rattle.uv_machine.specs.States.{call_of, object_with, phase_of}
use Rattle.uv_machine.specs.Histories.{Allowed, IsLegal, state_of}
use Rattle.uv_graph.specs.declared.out.Out.{Out}
use Rattle.uv_graph.specs.declared.out.Own.{Own}
use Rattle.uv_graph.specs.Kept.{Kept, out_of, kill_of, spare_of}
use Rattle.uv_graph.specs.Lives.{lives_out}
use Rattle.uv_graph.specs.Seats.{HasOut, HasKill}

-- a teardown by this actor
abbrev pub is_torn_by : ℕ → FilePhase → Bool
is_torn_by b file.Fresh = false
is_torn_by b file.Open = false
is_torn_by b (file.Tearing by) = by == b
is_torn_by b file.Dissociated = false
is_torn_by b file.Closed = false

abbrev pub tears_it : ℕ → File → Bool
tears_it b x = is_torn_by b x.phase

abbrev pub none_pulled : List Bool
none_pulled = replicate DEVICES false

-- the driver alone pulls devices
abbrev pub pulled_by : State → ℕ → List Bool
pulled_by m b = if b == DRIVER then map not m.plugged else none_pulled

-- an actor's own part
abbrev pub own_of : Kept → ℕ → Own
own_of k b =
    record {
      actor = b;
      call = call_of (state_of k.history) b;
      out = out_of k b;
      out_lives = lives_out k.history (out_of k b);
      tear = position (tears_it b) (state_of k.history).files;
      kill = kill_of k b;
      kill_lives = lives_out k.history (kill_of k b);
      spare = spare_of k b;
      pulled = pulled_by (state_of k.history) b;
    }

-- an actor is tearing no file down
abbrev pub TearsNone : Own → Type 0
TearsNone o = o.tear ≡ None

abbrev pub torn_by_object : State → ℕ → Option Object → Bool
torn_by_object m b None = false
torn_by_object m b (Some x) = is_torn_by b (phase_of m x.file)

-- the entry is this actor's: a release is its who tears the object's file down
abbrev pub is_entry_by : State → ℕ → Entry → Bool
is_entry_by m b (Open c f d a) = c == b
is_entry_by m b (Enter c f request a) = c == b
is_entry_by m b (Step c w o found a) = c == b
is_entry_by m b (Unplug d) = DRIVER == b
is_entry_by m b (Tear f by) = by == b
is_entry_by m b (Kill o) = torn_by_object m b (object_with m o)
is_entry_by m b (Gone o kept) = torn_by_object m b (object_with m o)
is_entry_by m b (Dissociated f) = is_torn_by b (phase_of m f)
is_entry_by m b (Closed f) = is_torn_by b (phase_of m f)

-- what other actors than this one have set aside or in their hands is as it was
pub record IsBeside (old new : Kept) (a : ℕ) : Type 0 where
  pub spares : (b : ℕ) → a ≢ b → spare_of new b ≡ spare_of old b
  pub outs : (b : ℕ) → a ≢ b → out_of new b ≡ out_of old b
  pub kills : (b : ℕ) → a ≢ b → kill_of new b ≡ kill_of old b

-- what is out is out: for an object that its call is about to commit or to finish, or that its teardown has doomed
pub record AreOut (k : Kept) : Type 0 where
  pub outs : (c : ℕ) (out : Out) → out_of k c ≡ Some out → HasOut (state_of k.history) c out
  pub kills : (b : ℕ) (out : Out) → kill_of k b ≡ Some out → HasKill (state_of k.history) b out

-- an entry of one actor leaves every other actor's own part as it was
abbrev pub OwnStandsApart : Type 0
OwnStandsApart =
    (old new : Kept) (e : Entry) (a b : ℕ) → IsLegal old.history → AreOut old → Allowed (state_of old.history) e → is_entry_by (state_of old.history) a e ≡ true → a ≢ b
    → new.history ≡ old.history ++ e ∷ [] → IsBeside old new a → own_of new b ≡ own_of old b

-- Whom an entry names.

-- the actor that an entry names; devices are the driver's to pull
abbrev pub names : Entry → Option ℕ
names (Open c f d a) = Some c
names (Enter c f request a) = Some c
names (Step c w o found a) = Some c
names (Unplug d) = Some DRIVER
names (Tear f by) = Some by
names (Kill o) = None
names (Gone o kept) = None
names (Dissociated f) = None
names (Closed f) = None

-- an entry of an actor names it, or nobody
abbrev pub NamesItsActor : Type 0
NamesItsActor = (m : State) (e : Entry) (a : ℕ) → is_entry_by m a e ≡ true → (names e ≡ Some a) ⊎ (names e ≡ None)
