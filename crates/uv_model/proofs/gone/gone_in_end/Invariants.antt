use Rattle.std.proofs.Common.{◌≡◌, drop}
use Rattle.uv_model.specs.Gone.{ending_from, ending_of}
use Rattle.uv_model.proofs.gone.gone_in_end.Given as goal

-- what was seen so far and the entries that are left show what all show
abbrev pub invariant-loop-entry : goal.invariant-loop-entry
invariant-loop-entry l =
    ending_from (record { state = l.state; begun = l.begun; gone = l.gone }) (drop l.entry-index l.entries) ≡ ending_of l.entries
