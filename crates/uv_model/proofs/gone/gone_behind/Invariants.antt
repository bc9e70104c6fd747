use Rattle.std.proofs.Common.{◌≡◌, ◌++◌, drop}
use Rattle.uv_machine.specs.Histories.{state_of}
use Rattle.uv_model.specs.Gone.{gone_until}
use Rattle.uv_model.proofs.gone.gone_behind.Given as goal

-- what went so far and what goes among the entries that are left is all that goes
abbrev pub invariant-loop-entry : goal.invariant-loop-entry
invariant-loop-entry l =
    l.gone ++ gone_until l.state l.file (drop l.entry-index l.behind) ≡ gone_until (state_of l.before) l.file l.behind
