-- What a step of a call comes to.
use Rattle.std.specs.Prelude.{ℕ, ◌≡◌, Some}
use Rattle.uv_machine.specs.declared.entry.CallStep.{CallStep}
use Rattle.uv_machine.specs.Steps.{next_of}
use Rattle.uv_run.specs.Site.{Site, Turned, state_at, found_of, kept_at, call_turn}

-- an actor's call has made its next step
pub record MakesStep (s : Site) (a : ℕ) (t : Turned) : Type 0 where
  pub done : CallStep
  pub next : next_of (state_at s) a (found_of s a) (kept_at s a) ≡ Some done
  pub turned : t ≡ call_turn s a done
