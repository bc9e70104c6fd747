-- A plan may be carried out on the queue pair that was judged.
use Rattle.std.proofs.Common.{◌≡◌, ℕ, Bool, true, false, ◌||◌, ◌&&◌, Option, None, Some, refl, sym, ◌∙◌, ap, subst}
use Rattle.std.specs.Prelude.{is_some, ◌==◌}
use Rattle.uv_num.specs.declared.qp.QpState.{QpState}
use Rattle.uv_num.specs.declared.qp.QpState.TheVariants.{Reset, Init, Rtr, Rts, Err}
use Rattle.uv_packet.specs.Packets.{Content}
use Rattle.uv_packet.specs.declared.opcode.Opcode.{Opcode}
use Rattle.uv_packet.specs.Opcodes.{opcode_of}
use Rattle.uv_qp.specs.declared.gate.TheConstants.{DEFAULT_PKEY}
use Rattle.uv_qp.specs.declared.state.Responder.{Responder}
use Rattle.uv_qp.specs.declared.turns.TurnWord.{TurnWord}
use Rattle.uv_qp.specs.Gate.{is_opcode_of, is_response, lets_in, takes_opcode, takes_packet}
use Rattle.uv_qp.specs.Pairs.{Paired, IsPaired, IsResponding, has_begun, held_or, is_broken, is_send, next_receive}
use Rattle.uv_qp.specs.Writers.{broken, held_from_queue, held_from_shared, receive_ended, without_next}
use Rattle.uv_queue.specs.Order.{oldest}
use Rattle.uv_wr.specs.declared.completion.Status.{Status}
use Rattle.uv_wr.specs.Statuses.{is_failure}
use Rattle.uv_wr.specs.Works.{Receiving}
use Rattle.uv_responder.specs.declared.answering.Told.{Told}
use Rattle.uv_responder.specs.declared.planning.Ending.{Ending}
use Rattle.uv_responder.specs.declared.planning.Plan.{Plan}
use Rattle.uv_responder.specs.Turns.{Shared, MaySettle, MayTake, broken_if, oldest_for, receive_ended_by, receive_for, taken}

-- the state

begun_by : (s : QpState) (response : Bool) → takes_packet s response ≡ true → has_begun s ≡ true
begun_by Reset response h = cc
begun_by Init response h = cc
begun_by Rtr response h = refl
begun_by Rts response h = refl
begun_by Err response h = cc

unbroken_by : (s : QpState) (response : Bool) → takes_packet s response ≡ true → is_broken s ≡ false
unbroken_by Reset response h = cc
unbroken_by Init response h = cc
unbroken_by Rtr response h = refl
unbroken_by Rts response h = refl
unbroken_by Err response h = cc

and_right : (a b : Bool) → a && b ≡ true → b ≡ true
and_right true b h = h
and_right false b h = cc

begun_of : (p : Paired) (o : Option Opcode) → takes_opcode p o ≡ true → has_begun p.state ≡ true
begun_of p None h = cc
begun_of p (Some o) h = begun_by p.state (is_response o) (and_right (is_opcode_of p.service o) _ h)

unbroken_of : (p : Paired) (o : Option Opcode) → takes_opcode p o ≡ true → is_broken p.state ≡ false
unbroken_of p None h = cc
unbroken_of p (Some o) h = unbroken_by p.state (is_response o) (and_right (is_opcode_of p.service o) _ h)

-- what is true of a queue pair that let a packet in
pub record Stands (p : Paired) : Type 0 where
  pub begun : has_begun p.state ≡ true
  pub unbroken : is_broken p.state ≡ false
  pub holding : is_some p.held ≡ is_send p.responder.message
  pub ranges : IsResponding p.responder

pub stands : (p : Paired) (c : Content) → IsPaired p → lets_in p c ≡ true → Stands p
stands p c h k =
    let let_in : takes_opcode p (opcode_of c.opcode) ≡ true = and_right (c.pkey == DEFAULT_PKEY) _ k in
    record { begun = begun_of p _ let_in; unbroken = unbroken_of p _ let_in; holding = h.holding; ranges = h.responding }

-- a receive that was taken

queue_state : (p : Paired) (o : Option Receiving) → (held_from_queue p o).state ≡ p.state
queue_state p None = refl
queue_state p (Some w) = refl

shared_state : (p : Paired) (o : Option Receiving) → (held_from_shared p o).state ≡ p.state
shared_state p None = refl
shared_state p (Some w) = refl

taken_state : (takes : Bool) (p : Paired) (shared : Shared) → (taken takes p shared).state ≡ p.state
taken_state false p shared = refl
taken_state true p None = queue_state p (oldest p.receives.works)
taken_state true p (Some q) = shared_state p (oldest q.works)

queue_held : (p : Paired) (o : Option Receiving) → is_some o ≡ true → is_some (held_from_queue p o).held ≡ true
queue_held p None h = cc
queue_held p (Some w) h = refl

shared_held : (p : Paired) (o : Option Receiving) → is_some o ≡ true → is_some (held_from_shared p o).held ≡ true
shared_held p None h = cc
shared_held p (Some w) h = refl

taken_held : (takes : Bool) (p : Paired) (shared : Shared) → (takes ≡ true → is_some (oldest_for p shared) ≡ true) → is_some (taken takes p shared).held ≡ (takes || is_some p.held)
taken_held false p shared h = refl
taken_held true p None h = queue_held p (oldest p.receives.works) (h refl)
taken_held true p (Some q) h = shared_held p (oldest q.works) (h refl)

-- a receive that ended

kept_held : (b : Bool) (q : Paired) → is_some (broken_if b q).held ≡ is_some q.held
kept_held true q = refl
kept_held false q = refl

some_first : (h o : Option Receiving) → is_some h ≡ true → is_some (held_or h o) ≡ true
some_first None o e = cc
some_first (Some w) o e = refl

gone_held : (q : Paired) (h : Option Receiving) → q.held ≡ h → is_some (without_next q h).held ≡ false
gone_held q None e = ap is_some e
gone_held q (Some w) e = refl

gone_by : (q : Paired) (s : Status) (l : ℕ) (i : Option ℕ) (o : Option Receiving) → is_some o ≡ true → is_some (receive_ended q s l i o).held ≡ false
gone_by q s l i None h = cc
gone_by q s l i (Some w) h = gone_held q q.held refl

ended_held : (e : Ending) (b : Bool) (q : Paired) → is_some (next_receive q) ≡ true → is_some (receive_ended_by (Some e) (broken_if b q)).held ≡ false
ended_held e true q h = gone_by (broken q) e.status e.length e.imm (next_receive q) h
ended_held e false q h = gone_by q e.status e.length e.imm (next_receive q) h

-- the kinds of plans

abbrev plan : TurnWord → Option Told → Bool → Bool → Bool → Option Ending → Responder → Plan
plan word told takes writes breaks ends responder =
    record { word = word; told = told; takes = takes; writes = writes; breaks = breaks; ends = ends; responder = responder }

-- no receive ends
pub goes_settle : (word : TurnWord) (told : Option Told) (takes writes b : Bool) (r : Responder) (p : Paired) (shared : Shared)
    → Stands p → MayTake takes p shared → IsResponding r → (takes || is_some p.held) ≡ is_send r.message
    → MaySettle (plan word told takes writes b None r) (taken takes p shared)
goes_settle word told takes writes b r p shared h may ranges same = record {
  begun = ap has_begun (taken_state takes p shared) ∙ h.begun;
  unbroken = ap is_broken (taken_state takes p shared) ∙ h.unbroken;
  next = tt;
  status = tt;
  ranges = ranges;
  holding = kept_held b (taken takes p shared) ∙ (taken_held takes p shared may.next ∙ same);
}

-- a receive ends
pub ends_settle : (word : TurnWord) (told : Option Told) (takes writes b : Bool) (e : Ending) (r : Responder) (p : Paired) (shared : Shared)
    → Stands p → MayTake takes p shared → IsResponding r → is_some (next_receive (taken takes p shared)) ≡ true → is_failure e.status ≡ b → is_send r.message ≡ false
    → MaySettle (plan word told takes writes b (Some e) r) (taken takes p shared)
ends_settle word told takes writes b e r p shared h may ranges next fails gone = record {
  begun = ap has_begun (taken_state takes p shared) ∙ h.begun;
  unbroken = ap is_broken (taken_state takes p shared) ∙ h.unbroken;
  next = next;
  status = fails;
  ranges = ranges;
  holding = ended_held e b (taken takes p shared) next ∙ sym gone;
}

-- one that a message holds, or that was taken
pub next_held : (takes : Bool) (p : Paired) (shared : Shared) → MayTake takes p shared → (takes || is_some p.held) ≡ true → is_some (next_receive (taken takes p shared)) ≡ true
next_held takes p shared may h =
    some_first (taken takes p shared).held _ (taken_held takes p shared may.next ∙ h)

-- nothing is taken
pub takes_nothing : (p : Paired) (shared : Shared) → Stands p → MayTake false p shared
takes_nothing p shared h = record { begun = h.begun; free = λ e. cc; next = λ e. cc }

-- what is to be taken is the oldest of a queue
oldest_some : (p : Paired) (shared : Shared) (h : Option Receiving) → p.held ≡ h → is_some h ≡ false → is_some (receive_for p shared) ≡ true → is_some (oldest_for p shared) ≡ true
oldest_some p shared (Some w) e none some = cc
oldest_some p None None e none some =
    let P : Option Receiving → Type 0 = λ x. is_some (held_or x (oldest p.receives.works)) ≡ true in
    subst P e some
oldest_some p (Some q) None e none some =
    let P : Option Receiving → Type 0 = λ x. is_some (held_or x (oldest q.works)) ≡ true in
    subst P e some

pub takes_oldest : (takes : Bool) (p : Paired) (shared : Shared) → Stands p → (takes ≡ true → is_some p.held ≡ false) → (takes ≡ true → is_some (receive_for p shared) ≡ true) → MayTake takes p shared
takes_oldest takes p shared h free some = record {
  begun = h.begun;
  free = free;
  next = λ e. oldest_some p shared p.held refl (free e) (some e);
}
