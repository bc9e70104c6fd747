-- What calls of the core ask of their callers: each is said of the actor's own part alone, so that one who has that may call
-- whatever other actors have done since.
use Rattle.std.specs.Prelude.{ℕ, Bool, true, false, ◌≡◌, ◌≤◌, ◌<◌, Option, None, Some, is_some, slice_get}
use Rattle.uv_num.specs.declared.limits.TheConstants.{CLIENTS}
use Rattle.uv_num.specs.declared.qp.QpState.{QpState}
use Rattle.uv_num.specs.declared.request.Act as request
use Rattle.uv_num.specs.declared.request.Act.TheVariants.{Modify, Query, Bind, Unbind, Async}
use Rattle.uv_num.specs.declared.request.Role.{Role}
use Rattle.uv_num.specs.declared.request.Role.TheVariants.{Creates, Destroys, Acts}
use Rattle.uv_num.specs.Request.{role_of}
use Rattle.uv_machine.specs.declared.call.InFlight.{InFlight}
use Rattle.uv_machine.specs.declared.entry.Word.{Word}
use Rattle.uv_machine.specs.declared.entry.Word.TheVariants.{Reserve, Look, Make, Commit, Act, Lock, Check, Finish, Abort, Free, Exit}
use Rattle.uv_machine.specs.Plans.{next_word}
use Rattle.uv_pool.specs.Deeds.{DeedFacts}
use Rattle.uv_graph.specs.declared.out.Out.{Out}
use Rattle.uv_graph.specs.declared.out.Own.{Own}
use Rattle.uv_graph.specs.Deeds.{IsDeedPlantedFor, IsDeedBuried}

-- Who calls.

abbrev pub IsClient : ℕ → Type 0
IsClient c = (1 ≤ c) × (c ≤ CLIENTS)

abbrev pub is_create : Role → Bool
is_create (Creates kind) = true
is_create (Destroys asked) = false
is_create (Acts act) = false

abbrev pub is_destroy : Role → Bool
is_destroy (Creates kind) = false
is_destroy (Destroys asked) = true
is_destroy (Acts act) = false

abbrev pub is_act : Role → Bool
is_act (Creates kind) = false
is_act (Destroys asked) = false
is_act (Acts act) = true

-- Calls.

-- an actor has no call in flight
abbrev pub IsFree : Own → Type 0
IsFree o = o.call ≡ None

-- the history has room for a refused entry of the actor's
abbrev pub HasSpare : Own → Type 0
HasSpare o = 0 < o.spare

-- a client's call of this sort may make its next step: it is in flight, and its deed, if it has one, isn't out
pub record IsReady (does : Role → Bool) (o : Own) : Type 0 where
  pub client : IsClient o.actor
  pub call : InFlight
  pub is : o.call ≡ Some call
  pub does_it : does (role_of call.request) ≡ true
  pub none : o.out ≡ None

-- the deed that the call has out comes back, planted for the call's new object, which is about to be committed
pub record ComesPlanted (o : Own) (t : DeedFacts) : Type 0 where
  pub call : InFlight
  pub is : o.call ≡ Some call
  pub word : next_word call ≡ Commit
  pub out : Out
  pub out_is : o.out ≡ Some out
  pub deed : IsDeedPlantedFor t out o.out_lives

-- a client's call has a deed out and is about to finish its object, and the deed comes back buried
pub record IsFinishing (o : Own) (t : DeedFacts) : Type 0 where
  pub client : IsClient o.actor
  pub call : InFlight
  pub is : o.call ≡ Some call
  pub word : next_word call ≡ Finish
  pub out : Out
  pub out_is : o.out ≡ Some out
  pub deed : IsDeedBuried t out o.out_lives

-- Acts on what a cell holds.

-- the act is about what a cell holds, and its state is told from outside
abbrev pub touches : request.Act → Bool
touches (Modify to attrs) = true
touches Query = true
touches (Bind offset length access) = true
touches (Unbind offset length access) = true
touches Async = false

abbrev pub role_touches : Role → Bool
role_touches (Creates kind) = false
role_touches (Destroys asked) = false
role_touches (Acts act) = touches act

abbrev pub touches_at : Role → Word → Bool
touches_at role Reserve = false
touches_at role Look = false
touches_at role Make = false
touches_at role Commit = false
touches_at role Act = role_touches role
touches_at role Lock = false
touches_at role Check = false
touches_at role Finish = false
touches_at role Abort = false
touches_at role Free = false
touches_at role Exit = false

-- the call's next step is such an act
abbrev pub awaits : InFlight → Bool
awaits call = touches_at (role_of call.request) (next_word call)

-- the act looks at a state of a queue pair
abbrev pub act_finds : request.Act → Bool
act_finds (Modify to attrs) = true
act_finds Query = true
act_finds (Bind offset length access) = false
act_finds (Unbind offset length access) = false
act_finds Async = false

abbrev pub role_finds : Role → Bool
role_finds (Creates kind) = false
role_finds (Destroys asked) = false
role_finds (Acts act) = act_finds act

-- a client's call is about to act on a cell, whose state is told where the act looks at one
pub record IsTouching (o : Own) (found : Option QpState) : Type 0 where
  pub client : IsClient o.actor
  pub call : InFlight
  pub is : o.call ≡ Some call
  pub awaits_it : awaits call ≡ true
  pub finds : is_some found ≡ role_finds (role_of call.request)
  pub none : o.out ≡ None

-- Teardowns.

-- the driver has pulled the device
abbrev pub Pulls : Own → ℕ → Type 0
Pulls o d = slice_get o.pulled d ≡ Some true

-- an actor is tearing the file down and has no deed of it out
pub record IsSweeper (o : Own) (f : ℕ) : Type 0 where
  pub tearing : o.tear ≡ Some f
  pub none : o.kill ≡ None

-- the deed that the teardown of the file has out comes back buried
pub record IsReleasing (o : Own) (f : ℕ) (t : DeedFacts) : Type 0 where
  pub tearing : o.tear ≡ Some f
  pub out : Out
  pub out_is : o.kill ≡ Some out
  pub deed : IsDeedBuried t out o.kill_lives
