use Rattle.uv_machine.proofs.EventsKept.{events_count}
use Rattle.uv_machine.proofs.laws.events.events_count.Goals as goal

pub returns : goal.returns
returns c = events_count
