-- What a writer notes, and what stays as it was.
use Rattle.std.specs.Prelude.{ℕ, ◌+◌, Bool, true, false, ◌≡◌, ◌++◌, [], ◌∷◌, Option, None, Some, IsSome}
use Rattle.uv_num.specs.declared.errno.Errno.{Errno}
use Rattle.uv_num.specs.Place.{at_place}
use Rattle.uv_machine.specs.declared.entry.Entry.{Entry}
use Rattle.uv_machine.specs.declared.entry.Entry.TheVariants.{Open, Enter, Step, Unplug, Tear, Kill, Gone, Dissociated, Closed}
use Rattle.uv_machine.specs.declared.entry.Word.{Word}
use Rattle.uv_machine.specs.declared.entry.Word.TheVariants.{Reserve, Look, Make, Commit, Act, Lock, Check, Finish, Abort, Free, Exit}
use Rattle.uv_machine.specs.declared.object.Object.{Object}
use Rattle.uv_machine.specs.declared.state.State.{State}
use Rattle.uv_machine.specs.Objects.{is_husk}
use Rattle.uv_machine.specs.States.{object_with}
use Rattle.uv_machine.specs.Effects.{refusal_in}
use Rattle.uv_graph.specs.declared.out.Out.{Out}
use Rattle.uv_graph.specs.Kept.{Kept, out_of, spare_of, put_out, one_less}
use Rattle.uv_graph.specs.Owns.{own_of, TearsNone}

-- one more entry, and nothing else
pub record Notes (old new : Kept) (e : Entry) : Type 0 where
  pub history : new.history ≡ old.history ++ e ∷ []
  pub spares : new.spares ≡ old.spares
  pub outs : new.outs ≡ old.outs
  pub kills : new.kills ≡ old.kills

-- one more entry, and the actor's call now has this out
pub record NotesOut (old new : Kept) (e : Entry) (actor : ℕ) (out : Option Out) : Type 0 where
  pub history : new.history ≡ old.history ++ e ∷ []
  pub spares : new.spares ≡ old.spares
  pub outs : new.outs ≡ at_place old.outs actor (put_out out)
  pub kills : new.kills ≡ old.kills

-- one more entry, and the actor's teardown now has this out
pub record NotesKill (old new : Kept) (e : Entry) (actor : ℕ) (out : Option Out) : Type 0 where
  pub history : new.history ≡ old.history ++ e ∷ []
  pub spares : new.spares ≡ old.spares
  pub outs : new.outs ≡ old.outs
  pub kills : new.kills ≡ at_place old.kills actor (put_out out)

-- one more entry, in room that was set aside for the client's refused ones
pub record NotesSpared (old new : Kept) (e : Entry) (client : ℕ) : Type 0 where
  pub history : new.history ≡ old.history ++ e ∷ []
  pub spares : new.spares ≡ at_place old.spares client one_less
  pub outs : new.outs ≡ old.outs
  pub kills : new.kills ≡ old.kills

-- no entry, and the actor's call has nothing out any more
pub record HasNoOut (old new : Kept) (actor : ℕ) : Type 0 where
  pub history : new.history ≡ old.history
  pub spares : new.spares ≡ old.spares
  pub outs : new.outs ≡ at_place old.outs actor (put_out None)
  pub kills : new.kills ≡ old.kills

-- Entries that leave the deeds where they are: all but an accepted Make, the Finish of an object that is no husk, and a Gone.

abbrev pub IsHuskIf : Option Object → Type 0
IsHuskIf None = Unit {0}
IsHuskIf (Some x) = is_husk x.phase ≡ true

abbrev pub WordLeaves : Word → Option Errno → Option Object → Type 0
WordLeaves Reserve e x = Unit {0}
WordLeaves Look e x = Unit {0}
WordLeaves Make e x = IsSome e
WordLeaves Commit e x = Unit {0}
WordLeaves Act e x = Unit {0}
WordLeaves Lock e x = Unit {0}
WordLeaves Check e x = Unit {0}
WordLeaves Finish e x = IsHuskIf x
WordLeaves Abort e x = Unit {0}
WordLeaves Free e x = Unit {0}
WordLeaves Exit e x = Unit {0}

abbrev pub Leaves : State → Entry → Type 0
Leaves m (Open c f d a) = Unit {0}
Leaves m (Enter c f request a) = Unit {0}
Leaves m (Step c w o found a) = WordLeaves w (refusal_in a) (object_with m o)
Leaves m (Unplug d) = Unit {0}
Leaves m (Tear f by) = Unit {0}
Leaves m (Kill o) = Unit {0}
Leaves m (Gone o kept) = ⊥
Leaves m (Dissociated f) = Unit {0}
Leaves m (Closed f) = Unit {0}

-- the call that makes the step has no deed out, and who begins to tear a file down is tearing none
abbrev pub HasNoneOut : Kept → Entry → Type 0
HasNoneOut k (Open c f d a) = Unit {0}
HasNoneOut k (Enter c f request a) = Unit {0}
HasNoneOut k (Step c w o found a) = out_of k c ≡ None
HasNoneOut k (Unplug d) = Unit {0}
HasNoneOut k (Tear f by) = TearsNone (own_of k by)
HasNoneOut k (Kill o) = Unit {0}
HasNoneOut k (Gone o kept) = Unit {0}
HasNoneOut k (Dissociated f) = Unit {0}
HasNoneOut k (Closed f) = Unit {0}

-- A refused entry: it is noted in new room or in what was set aside, or it isn't where there is neither.

pub data NotesOrSpares (old new : Kept) (e : Entry) (client : ℕ) : Type 0 where
  InNew : Notes old new e → NotesOrSpares old new e client
  InSpare : NotesSpared old new e client → spare_of old client ≡ spare_of new client + 1 → NotesOrSpares old new e client

pub record IsDry (old new : Kept) (client : ℕ) : Type 0 where
  pub same : new ≡ old
  pub none : spare_of old client ≡ 0

abbrev pub IsNotedOrDry : Bool → Kept → Kept → Entry → ℕ → Type 0
IsNotedOrDry true old new e client = NotesOrSpares old new e client
IsNotedOrDry false old new e client = IsDry old new client
