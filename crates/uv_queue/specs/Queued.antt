-- A queue of works as its callers see it.
use Rattle.std.specs.Prelude.{ℕ, List, []}
use Rattle.uv_queue.specs.Order.{with_newest, without_oldest}

-- the works, the oldest first, and how many there may be
pub record Queued (W : Type 0) : Type 0 where
  pub works : List W
  pub depth : ℕ

-- the queue with a work behind the others
abbrev pub with_pushed : {W : Type 0} → Queued W → W → Queued W
with_pushed q work = record q { works = with_newest q.works work }

-- the queue without its oldest work, if it has one
abbrev pub after_pop : {W : Type 0} → Queued W → Queued W
after_pop q = record q { works = without_oldest q.works }

-- the queue without works
abbrev pub emptied : {W : Type 0} → Queued W → Queued W
emptied q = record q { works = [] }
