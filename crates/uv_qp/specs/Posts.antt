-- What comes of a post. The state and the service are looked at first, then the depth, and want of memory is met last.
use Rattle.std.specs.Prelude.{◌≡◌, ◌<◌, ◌&&◌, Bool, false, true, not, length}
use Rattle.uv_queue.specs.Queued.{Queued, with_pushed}
use Rattle.uv_wr.specs.Works.{Sending, Receiving}
use Rattle.uv_qp.specs.declared.qp.Posted.{Posted}
use Rattle.uv_qp.specs.declared.qp.Posted.TheVariants.{Did, Inval, Full, NoMemory}
use Rattle.uv_qp.specs.Pairs.{Paired, takes_receives, takes_sends}
use Rattle.uv_qp.specs.Services.{fits_service}

-- whether it takes this send
abbrev pub may_send : Paired → Sending → Bool
may_send p w = takes_sends p.state && fits_service p.service w.op

-- whether it takes receives: those of one with a shared receive queue are posted there
abbrev pub may_receive : Paired → Bool
may_receive p = takes_receives p.state && not p.srq

-- the work is the newest that waits
abbrev pub with_send : Paired → Sending → Paired
with_send p w = record p { sends = with_pushed p.sends w }

abbrev pub with_receive : Paired → Receiving → Paired
with_receive p w = record p { receives = with_pushed p.receives w }

-- a queue with as many works as it may have, and one with fewer
abbrev pub IsFull : {W : Type 0} → Queued W → Type 0
IsFull q = length q.works ≡ q.depth

abbrev pub HasPlace : {W : Type 0} → Queued W → Type 0
HasPlace q = length q.works < q.depth

-- a refused work comes back, and nothing has changed
pub record HandsBack {W : Type 0} (old new : Paired) (w back : W) : Type 0 where
  pub back_is : back ≡ w
  pub same : new ≡ old

-- what each answer to a post of a send says
abbrev pub PostsSend : Paired → Sending → Paired → Posted Sending → Type 0
PostsSend old w new (Inval back) = (may_send old w ≡ false) × HandsBack old new w back
PostsSend old w new (Full back) = (may_send old w ≡ true) × IsFull old.sends × HandsBack old new w back
PostsSend old w new (NoMemory back) = (may_send old w ≡ true) × HasPlace old.sends × HandsBack old new w back
PostsSend old w new Did = (may_send old w ≡ true) × HasPlace old.sends × (new ≡ with_send old w)

-- what each answer to a post of a receive says
abbrev pub PostsReceive : Paired → Receiving → Paired → Posted Receiving → Type 0
PostsReceive old w new (Inval back) = (may_receive old ≡ false) × HandsBack old new w back
PostsReceive old w new (Full back) = (may_receive old ≡ true) × IsFull old.receives × HandsBack old new w back
PostsReceive old w new (NoMemory back) = (may_receive old ≡ true) × HasPlace old.receives × HandsBack old new w back
PostsReceive old w new Did = (may_receive old ≡ true) × HasPlace old.receives × (new ≡ with_receive old w)
