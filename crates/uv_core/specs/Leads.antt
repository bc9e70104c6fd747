-- What an actor may do after its call: what its own part then says of the conditions of its next one.
use Rattle.std.specs.Prelude.{ℕ, true, ◌≡◌, None, Some, Result, Ok, Err}
use Rattle.uv_num.specs.declared.errno.Errno.{Errno}
use Rattle.uv_num.specs.declared.kind.Kind.{Kind}
use Rattle.uv_pool.specs.Deeds.{DeedFacts}
use Rattle.uv_machine.specs.declared.call.InFlight.{InFlight}
use Rattle.uv_machine.specs.declared.entry.Word.TheVariants.{Commit, Finish}
use Rattle.uv_machine.specs.Plans.{next_word}
use Rattle.uv_graph.specs.declared.out.Out.{Out}
use Rattle.uv_graph.specs.declared.out.Own.{Own}
use Rattle.uv_graph.specs.declared.told.Progress.{Progress}
use Rattle.uv_graph.specs.declared.told.Progress.TheVariants as progress
use Rattle.uv_graph.specs.declared.told.Swept.{Swept}
use Rattle.uv_graph.specs.declared.told.Swept.TheVariants as swept
use Rattle.uv_graph.specs.declared.told.Torn.{Torn}
use Rattle.uv_graph.specs.declared.told.Torn.TheVariants as torn
use Rattle.uv_graph.specs.Conditions.{IsClient, IsFree, IsReady, IsSweeper, awaits}
use Rattle.uv_graph.specs.Deeds.{IsDeedForNew, IsDeedPlantedFor}
use Rattle.uv_graph.specs.Hands.{made_identity}
use Rattle.uv_graph.specs.Owns.{TearsNone}
use Rattle.uv_core.specs.Roles.{is_any}

-- a call that entered makes its first step; one that is refused leaves none in flight
abbrev pub EnterLeads : Own → Result (Unit {0}) Errno → Type 0
EnterLeads o (Ok u) = IsReady is_any o
EnterLeads o (Err e) = IsFree o

-- the call acts next on what a cell holds, and is to be told the state of that
pub record HasToAct (o : Own) : Type 0 where
  pub client : IsClient o.actor
  pub call : InFlight
  pub is : o.call ≡ Some call
  pub awaits_it : awaits call ≡ true
  pub none : o.out ≡ None

-- the deed that is out is to be planted for the call's new object, which is committed next: the object uses what the call
-- looked at
pub record HasToPlant (o : Own) (t : DeedFacts) (object : ℕ) (kind : Kind) : Type 0 where
  pub client : IsClient o.actor
  pub call : InFlight
  pub is : o.call ≡ Some call
  pub word : next_word call ≡ Commit
  pub out : Out
  pub out_is : o.out ≡ Some out
  pub identity : out.identity ≡ made_identity call object kind
  pub deed : IsDeedForNew t out o.out_lives

-- the deed that is out is to be buried, and its object is finished next
pub record HasToBury (o : Own) (t : DeedFacts) : Type 0 where
  pub client : IsClient o.actor
  pub call : InFlight
  pub is : o.call ≡ Some call
  pub word : next_word call ≡ Finish
  pub out : Out
  pub out_is : o.out ≡ Some out
  pub deed : IsDeedPlantedFor t out o.out_lives

abbrev pub StepLeads : {D : Type 0} → (D → DeedFacts) → Own → Progress D → Type 0
StepLeads tell o (progress.Went w) = IsReady is_any o
StepLeads tell o (progress.Refused w e) = IsReady is_any o
StepLeads tell o (progress.Plant deed object kind) = HasToPlant o (tell deed) object kind
StepLeads tell o (progress.Touch kind index generation) = HasToAct o
StepLeads tell o (progress.Retire deed object kind) = HasToBury o (tell deed)
StepLeads tell o (progress.Ended a) = IsFree o

-- who begins to tear a file down sweeps it
abbrev pub TearLeads : Own → ℕ → Torn → Type 0
TearLeads o f torn.Began = IsSweeper o f
TearLeads o f (torn.NotYet actor) = TearsNone o
TearLeads o f (torn.Refused e) = TearsNone o

-- a teardown goes on, with the deed that is out to be buried where it killed
pub record HasToRelease (o : Own) (f : ℕ) (t : DeedFacts) : Type 0 where
  pub tearing : o.tear ≡ Some f
  pub out : Out
  pub out_is : o.kill ≡ Some out
  pub deed : IsDeedPlantedFor t out o.kill_lives

abbrev pub SweepLeads : {D : Type 0} → (D → DeedFacts) → Own → ℕ → Swept D → Type 0
SweepLeads tell o f (swept.Kill deed object kind handle) = HasToRelease o f (tell deed)
SweepLeads tell o f swept.Done = TearsNone o
SweepLeads tell o f (swept.NotYet n) = IsSweeper o f
