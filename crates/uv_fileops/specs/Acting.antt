-- A call that is about to act.
use Rattle.std.specs.Prelude.{ℕ, false, ◌≡◌}
use Rattle.uv_machine.specs.declared.call.InFlight.{InFlight}
use Rattle.uv_machine.specs.declared.entry.Word.TheVariants.{Act}
use Rattle.uv_graph.specs.Kept.{Kept}
use Rattle.uv_graph.specs.Owns.{own_of}
use Rattle.uv_graph.specs.Stepping.{IsAt}
use Rattle.uv_graph.specs.Conditions.{IsReady, awaits, is_act}

-- a client's call makes its act next
pub record IsAtAct (k : Kept) (c : ℕ) : Type 0 where
  pub call : InFlight
  pub at : IsAt k c call Act

-- a client's call that acts is about to make a step that touches no cell
pub record IsGoingOn (k : Kept) (c : ℕ) : Type 0 where
  pub ready : IsReady is_act (own_of k c)
  pub alone : awaits ready.call ≡ false
