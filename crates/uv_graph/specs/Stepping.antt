-- A client's call that is about to make a step.
use Rattle.std.specs.Prelude.{ℕ, Bool, true, ◌≡◌, ◌||◌, Option, None, Some, is_some, if◌then◌else◌}
use Rattle.uv_num.specs.declared.errno.Errno.{Errno}
use Rattle.uv_machine.specs.declared.call.InFlight.{InFlight}
use Rattle.uv_machine.specs.declared.entry.CallStep.{CallStep}
use Rattle.uv_machine.specs.declared.entry.Word.{Word}
use Rattle.uv_machine.specs.declared.object.Object.{Object}
use Rattle.uv_machine.specs.Objects.{is_live, is_husk}
use Rattle.uv_machine.specs.Plans.{next_word}
use Rattle.uv_machine.specs.States.{call_of, object_with}
use Rattle.uv_machine.specs.Effects.{refusal_in}
use Rattle.uv_machine.specs.Histories.{state_of}
use Rattle.uv_graph.specs.declared.told.Progress.{Progress}
use Rattle.uv_graph.specs.declared.told.Progress.TheVariants as progress
use Rattle.uv_graph.specs.Kept.{Kept, out_of}
use Rattle.uv_graph.specs.Conditions.{IsClient}
use Rattle.uv_graph.specs.Turns.{IsNextOf, goes_plain, is_exit}

-- a client's call is in flight, this is the word of its next step, and its deed, if it has one, isn't out
pub record IsAt (k : Kept) (c : ℕ) (call : InFlight) (w : Word) : Type 0 where
  pub client : IsClient c
  pub is : call_of (state_of k.history) c ≡ Some call
  pub word : next_word call ≡ w
  pub none : out_of k c ≡ None

-- the object is there, and live or a husk
abbrev pub Rests : Option Object → Type 0
Rests None = ⊥
Rests (Some x) = (is_live x.phase || is_husk x.phase) ≡ true

-- a client's call is about to make this step, which touches no cell, and its deed, if it has one, isn't out
pub record IsStep (k : Kept) (c : ℕ) (d : CallStep) : Type 0 where
  pub client : IsClient c
  pub next : IsNextOf k c d
  pub none : out_of k c ≡ None

-- the step ends its call, is refused, or goes by a word that leaves the deeds
abbrev pub hands_none : Kept → CallStep → Bool
hands_none k d = is_exit d.word || (is_some (refusal_in d.answer) || goes_plain (object_with (state_of k.history) d.object) d.word)

-- what such a step comes to
abbrev pub went : {D : Type 0} → Word → Option Errno → Progress D
went w None = progress.Went w
went w (Some e) = progress.Refused w e

abbrev pub progress_of : {D : Type 0} → CallStep → Progress D
progress_of d = if is_exit d.word then progress.Ended d.answer else went d.word (refusal_in d.answer)
