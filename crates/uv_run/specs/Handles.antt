-- The answers that are kept beside the replies.
use Rattle.std.specs.Prelude.{ℕ, ◌≡◌, List}
use Rattle.std.specs.Ordering.{nat_cmp}
use Rattle.std.specs.BTreeMap.{BTreeMap, get}
use Rattle.uv_machine.specs.declared.entry.Answer.{Answer}
use Rattle.uv_run.specs.declared.reply.Reply.{Reply}
use Rattle.uv_run.specs.Stand.{answer_on}

-- the answers that are kept by their lines are those that the last replies to them tell
abbrev pub AreKept : BTreeMap ℕ Answer → List Reply → Type 0
AreKept answers replies = (line : ℕ) → get nat_cmp answers line ≡ answer_on replies line
