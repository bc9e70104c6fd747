-- Steps that are allowed, and entries that leave what is kept beside the state.
use Rattle.std.specs.Prelude.{ℕ, ◌≡◌, Option, None, Some}
use Rattle.std.specs.List.{list_any}
use Rattle.uv_num.specs.declared.request.Act as request
use Rattle.uv_num.specs.declared.request.Act.TheVariants.{Modify, Query, Bind, Unbind, Async}
use Rattle.uv_num.specs.declared.request.Role.TheVariants.{Acts}
use Rattle.uv_num.specs.Request.{role_of}
use Rattle.uv_machine.specs.declared.entry.Entry.{Entry}
use Rattle.uv_machine.specs.declared.entry.Entry.TheVariants.{Step}
use Rattle.uv_machine.specs.declared.entry.CallStep.{CallStep}
use Rattle.uv_machine.specs.declared.entry.Word.{Word}
use Rattle.uv_machine.specs.declared.call.InFlight.{InFlight}
use Rattle.uv_machine.specs.declared.object.Binding.{Binding}
use Rattle.uv_machine.specs.declared.state.State.{State}
use Rattle.uv_machine.specs.Effects.{binding_of, refusal_in}
use Rattle.uv_machine.specs.Histories.{Allowed}
use Rattle.uv_machine.specs.Plans.{reserves}
use Rattle.uv_machine.specs.States.{call_of}
use Rattle.uv_store.specs.Marks.{word_on}

-- the entry by which an actor makes a step
abbrev pub entry_by : ℕ → CallStep → Entry
entry_by c d = Step c d.word d.object d.found d.answer

-- an actor's call makes this step now, by this word, and meets no refusal
pub record Goes (m : State) (c : ℕ) (d : CallStep) (w : Word) : Type 0 where
  pub allowed : Allowed m (entry_by c d)
  pub word : d.word ≡ w
  pub fine : refusal_in d.answer ≡ None

-- how a call's act leaves the window bound that it is about, if it is about one
abbrev pub bound_by : InFlight → request.Act → Option (Option Binding)
bound_by call (Modify to attrs) = None
bound_by call Query = None
bound_by call (Bind offset length access) = Some (Some (binding_of call offset length access))
bound_by call (Unbind offset length access) = Some None
bound_by call Async = None

-- an actor's call leaves the window bound so that it is about
pub record Binds (m : State) (c : ℕ) (call : InFlight) (binding : Option Binding) : Type 0 where
  pub is : call_of m c ≡ Some call
  pub what : request.Act
  pub acts : role_of call.request ≡ Acts what
  pub bound : bound_by call what ≡ Some binding

-- what the call in a place of the table holds alone
abbrev pub own_in : Option InFlight → Option ℕ
own_in None = None
own_in (Some call) = call.locked

-- objects stay, and what calls hold and set aside
pub record IsStill (m m' : State) : Type 0 where
  pub objects : m'.objects ≡ m.objects
  pub words : (o : ℕ) → word_on m'.calls o ≡ word_on m.calls o
  pub numbers : (f n : ℕ) → list_any (reserves f n) m'.calls ≡ list_any (reserves f n) m.calls
