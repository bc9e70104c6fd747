-- What waits to be planted is told by the calls in flight alone.
use Rattle.std.specs.Prelude.{◌≡◌, Bool, true, false, Option, None, Some, map, if◌then◌else◌}
use Rattle.uv_machine.specs.declared.entry.Answer.{Answer}
use Rattle.uv_machine.specs.declared.entry.Answer.TheVariants as answer
use Rattle.uv_machine.specs.declared.entry.Entry.{Entry}
use Rattle.uv_machine.specs.declared.call.InFlight.{InFlight}
use Rattle.uv_machine.specs.Histories.{state_of}
use Rattle.uv_world.specs.declared.content.Content.{Content}
use Rattle.uv_world.specs.Making.{content_for}
use Rattle.uv_world.specs.Stages.{Stage, stage_then}

abbrev pub tells_of_made : Answer → Bool
tells_of_made answer.Ok = false
tells_of_made (answer.Made handle index generation) = true
tells_of_made (answer.State state index) = false
tells_of_made answer.Event = false
tells_of_made (answer.Kept kept) = false
tells_of_made (answer.Refused e) = false

-- until its Make a call waits with what its request's create makes
abbrev pub waiting_of : Option InFlight → Option Content
waiting_of None = None
waiting_of (Some call) = if tells_of_made call.outcome then None else content_for call.request

abbrev pub WaitsByCalls : Stage → Type 0
WaitsByCalls s = s.held.pending ≡ map waiting_of (state_of s.history).calls

-- so a Make plants the content of its own request
abbrev pub WaitingGoesOn : Type 0
WaitingGoesOn = (s : Stage) (e : Entry) → WaitsByCalls s → WaitsByCalls (stage_then s e)
