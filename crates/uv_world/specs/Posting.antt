-- What posts answer, and what they leave. A cell that isn't live is met first, then the refusals, then the depth, and want of
-- memory last.
use Rattle.std.specs.Prelude.{ℕ, ◌≡◌, ◌&&◌, Bool, true, false, not, Option, None, Some}
use Rattle.uv_queue.specs.Queued.{with_pushed}
use Rattle.uv_wr.specs.declared.tried.Tried.{Tried}
use Rattle.uv_wr.specs.declared.tried.Tried.TheVariants.{Did, Inval, Full, Again, Dead, NoMemory}
use Rattle.uv_wr.specs.Works.{Receiving}
use Rattle.uv_qp.specs.Ledgers.{with_posted}
use Rattle.uv_qp.specs.Pairs.{Paired, takes_receives}
use Rattle.uv_qp.specs.Posts.{HasPlace, IsFull, may_receive, with_receive}
use Rattle.uv_world.specs.declared.content.Connected.{Connected}
use Rattle.uv_world.specs.declared.content.Shared.{Shared}
use Rattle.uv_world.specs.Holdings.{Held}
use Rattle.uv_world.specs.Named.{cells_under}

-- Shared receive queues, which refuse nothing but by their depth.

abbrev pub SharedAnswers : Receiving → Option Shared → Tried Receiving → Type 0
SharedAnswers w None answer = answer ≡ Dead 0 w
SharedAnswers w (Some q) Did = HasPlace q.works
SharedAnswers w (Some q) (Inval back by_state) = ⊥
SharedAnswers w (Some q) (Full back) = IsFull q.works × (back ≡ w)
SharedAnswers w (Some q) (Again word back) = ⊥
SharedAnswers w (Some q) (Dead word back) = ⊥
SharedAnswers w (Some q) (NoMemory back) = HasPlace q.works × (back ≡ w)

-- the work is the newest that waits, and is noted as posted
abbrev pub shared_with : Receiving → Shared → Shared
shared_with w q = record q { works = with_pushed q.works w; posted = with_posted q.posted w.id }

abbrev pub shared_tried : Receiving → Tried Receiving → Shared → Shared
shared_tried w Did q = shared_with w q
shared_tried w (Inval back by_state) q = q
shared_tried w (Full back) q = q
shared_tried w (Again word back) q = q
shared_tried w (Dead word back) q = q
shared_tried w (NoMemory back) q = q

-- nothing but a post that was made changes what is held
abbrev pub held_srq_posted : Held → ℕ × ℕ → Receiving → Tried Receiving → Held
held_srq_posted h srq w Did = record h { shared = cells_under h.shared srq (shared_with w) }
held_srq_posted h srq w (Inval back by_state) = h
held_srq_posted h srq w (Full back) = h
held_srq_posted h srq w (Again word back) = h
held_srq_posted h srq w (Dead word back) = h
held_srq_posted h srq w (NoMemory back) = h

-- Receives of a queue pair.

-- whether the state is all that refuses a receive
abbrev pub state_alone_refuses : Paired → Bool
state_alone_refuses p = not (takes_receives p.state) && not p.srq

abbrev pub ReceiveAnswers : Receiving → Option Connected → Tried Receiving → Type 0
ReceiveAnswers w None answer = answer ≡ Dead 0 w
ReceiveAnswers w (Some p) Did = (may_receive p.qp ≡ true) × HasPlace p.qp.receives
ReceiveAnswers w (Some p) (Inval back by_state) = (may_receive p.qp ≡ false) × (back ≡ w) × (by_state ≡ state_alone_refuses p.qp)
ReceiveAnswers w (Some p) (Full back) = (may_receive p.qp ≡ true) × IsFull p.qp.receives × (back ≡ w)
ReceiveAnswers w (Some p) (Again word back) = ⊥
ReceiveAnswers w (Some p) (Dead word back) = ⊥
ReceiveAnswers w (Some p) (NoMemory back) = (may_receive p.qp ≡ true) × HasPlace p.qp.receives × (back ≡ w)

abbrev pub pair_with_receive : Receiving → Connected → Connected
pair_with_receive w p = record p { qp = with_receive p.qp w }

abbrev pub receive_tried : Receiving → Tried Receiving → Connected → Connected
receive_tried w Did p = pair_with_receive w p
receive_tried w (Inval back by_state) p = p
receive_tried w (Full back) p = p
receive_tried w (Again word back) p = p
receive_tried w (Dead word back) p = p
receive_tried w (NoMemory back) p = p

abbrev pub held_receive_posted : Held → ℕ × ℕ → Receiving → Tried Receiving → Held
held_receive_posted h qp w Did = record h { pairs = cells_under h.pairs qp (pair_with_receive w) }
held_receive_posted h qp w (Inval back by_state) = h
held_receive_posted h qp w (Full back) = h
held_receive_posted h qp w (Again word back) = h
held_receive_posted h qp w (Dead word back) = h
held_receive_posted h qp w (NoMemory back) = h
