-- What posts of sends answer, and what they leave. Cells that aren't live are met first, then the refusals, then the depth, and
-- want of memory last.
use Rattle.std.specs.Prelude.{ℕ, ◌≡◌, ◌==◌, ◌&&◌, Bool, true, false, not, nat_lt, Option, None, Some, if◌then◌else◌}
use Rattle.uv_num.specs.declared.limits.TheConstants.{DEVICES}
use Rattle.uv_wr.specs.declared.tried.Tried.{Tried}
use Rattle.uv_wr.specs.declared.tried.Tried.TheVariants.{Did, Inval, Full, Again, Dead, NoMemory}
use Rattle.uv_wr.specs.Works.{Sending, sending_to}
use Rattle.uv_qp.specs.Pairs.{Paired, takes_sends}
use Rattle.uv_qp.specs.Posts.{HasPlace, IsFull, may_send, with_send}
use Rattle.uv_qp.specs.Services.{fits_service}
use Rattle.uv_world.specs.declared.content.Addressed.{Addressed}
use Rattle.uv_world.specs.declared.content.Connected.{Connected}
use Rattle.uv_world.specs.Holdings.{Held}
use Rattle.uv_world.specs.Named.{cells_under, value_named}

-- whether an address handle, if one is given, is of this domain
abbrev pub is_of_domain : Option Addressed → ℕ → Bool
is_of_domain None domain = true
is_of_domain (Some a) domain = a.domain == domain

-- a datagram goes to the device that its address handle leads to; each handle leads to one of the machine
abbrev pub sending_by : Option Addressed → Sending → Sending
sending_by None w = w
sending_by (Some a) w = if nat_lt a.device DEVICES then sending_to a.device w else w

-- whether the pair takes the work: by its state, by its service, and by the domain of the handle
abbrev pub takes_send : Option Addressed → Sending → Paired → Bool
takes_send handle w p = is_of_domain handle p.names.domain && may_send p w

-- whether the state is all that refuses it
abbrev pub state_alone_refuses_send : Option Addressed → Sending → Paired → Bool
state_alone_refuses_send handle w p = is_of_domain handle p.names.domain && (not (takes_sends p.state) && fits_service p.service w.op)

-- what an answer says of the pair that was named, and of the work as it goes to its device: so it is handed back too
abbrev pub PairAnswers : Option Addressed → Sending → Option Connected → Tried Sending → Type 0
PairAnswers handle w None answer = answer ≡ Dead 0 w
PairAnswers handle w (Some p) Did = (takes_send handle w p.qp ≡ true) × HasPlace p.qp.sends
PairAnswers handle w (Some p) (Inval back by_state) = (takes_send handle w p.qp ≡ false) × (back ≡ w) × (by_state ≡ state_alone_refuses_send handle w p.qp)
PairAnswers handle w (Some p) (Full back) = (takes_send handle w p.qp ≡ true) × IsFull p.qp.sends × (back ≡ w)
PairAnswers handle w (Some p) (Again word back) = ⊥
PairAnswers handle w (Some p) (Dead word back) = ⊥
PairAnswers handle w (Some p) (NoMemory back) = (takes_send handle w p.qp ≡ true) × HasPlace p.qp.sends × (back ≡ w)

-- what it says where a handle was named
abbrev pub HandleAnswers : Held → ℕ × ℕ → Sending → Option Addressed → Tried Sending → Type 0
HandleAnswers h qp w None answer = answer ≡ Dead 0 w
HandleAnswers h qp w (Some a) answer = PairAnswers (Some a) (sending_by (Some a) w) (value_named h.pairs qp) answer

-- and what it says whether one was named or not
abbrev pub SendAnswers : Held → ℕ × ℕ → Option (ℕ × ℕ) → Sending → Tried Sending → Type 0
SendAnswers h qp None w answer = PairAnswers None w (value_named h.pairs qp) answer
SendAnswers h qp (Some ah) w answer = HandleAnswers h qp w (value_named h.addresses ah) answer

abbrev pub pair_with_send : Sending → Connected → Connected
pair_with_send w p = record p { qp = with_send p.qp w }

abbrev pub send_tried : Sending → Tried Sending → Connected → Connected
send_tried w Did p = pair_with_send w p
send_tried w (Inval back by_state) p = p
send_tried w (Full back) p = p
send_tried w (Again word back) p = p
send_tried w (Dead word back) p = p
send_tried w (NoMemory back) p = p

-- the handle that was named, if one was and its cell is live
abbrev pub handle_given : Held → Option (ℕ × ℕ) → Option Addressed
handle_given h None = None
handle_given h (Some ah) = value_named h.addresses ah

-- nothing but a post that was made changes what is held
abbrev pub held_send_posted : Held → ℕ × ℕ → Option (ℕ × ℕ) → Sending → Tried Sending → Held
held_send_posted h qp ah w Did = record h { pairs = cells_under h.pairs qp (pair_with_send (sending_by (handle_given h ah) w)) }
held_send_posted h qp ah w (Inval back by_state) = h
held_send_posted h qp ah w (Full back) = h
held_send_posted h qp ah w (Again word back) = h
held_send_posted h qp ah w (Dead word back) = h
held_send_posted h qp ah w (NoMemory back) = h
