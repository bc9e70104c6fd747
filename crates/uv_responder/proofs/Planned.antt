-- The plan of each row may be carried out.
use Rattle.std.proofs.Common.{◌≡◌, ℕ, ◌+◌, ◌-◌, ◌<◌, ◌≤◌, Bool, true, false, ◌||◌, ◌&&◌, Option, None, Some, length, nat_le, nat_lt, refl, sym, ◌∙◌, ap, arith}
use Rattle.std.specs.Prelude.{is_none, is_some, IfSome, ◌==◌}
use Rattle.uv_num.specs.declared.limits.TheConstants.{WORK_BYTES, PSNS}
use Rattle.uv_packet.specs.declared.syndrome.TheConstants.{NAK_INVALID}
use Rattle.uv_packet.specs.Packets.{Content}
use Rattle.uv_qp.specs.declared.state.Message.{Message}
use Rattle.uv_qp.specs.declared.state.Message.TheVariants as message
use Rattle.uv_qp.specs.declared.state.Responder.{Responder}
use Rattle.uv_qp.specs.declared.turns.TurnWord.{TurnWord}
use Rattle.uv_qp.specs.declared.turns.TurnWord.TheVariants as word
use Rattle.uv_qp.specs.Pairs.{Paired, IsMessage, IsResponding, is_send, mtu_of}
use Rattle.uv_region.specs.Lent.{Lent}
use Rattle.uv_wr.specs.declared.completion.Status.{Status}
use Rattle.uv_wr.specs.declared.completion.Status.TheVariants as status
use Rattle.uv_wr.specs.Statuses.{is_failure}
use Rattle.uv_wr.specs.Works.{Receiving}
use Rattle.uv_responder.specs.declared.answering.Told.{Told}
use Rattle.uv_responder.specs.declared.judging.Judgement.{Judgement}
use Rattle.uv_responder.specs.declared.judging.Judgement.TheVariants as judgement
use Rattle.uv_responder.specs.declared.part.Asks.{Asks}
use Rattle.uv_responder.specs.declared.part.Asks.TheVariants.{Sends, Writes, Reads, Invalidates}
use Rattle.uv_responder.specs.declared.part.Part.{Part}
use Rattle.uv_responder.specs.declared.planning.Plan.{Plan}
use Rattle.uv_responder.specs.Judging.{bytes_got, bytes_left, fits_receive, has_length, is_in_place, is_sized, judgement_of, reth_of, takes_receive}
use Rattle.uv_responder.specs.Parts.{asks_send}
use Rattle.uv_responder.specs.Passing.{Accepts, IsReadable, IsShort, Passes}
use Rattle.uv_responder.specs.Plans.{accepting, failing_receive, gone_on, message_begun, row_plan, write_goes_on}
use Rattle.uv_responder.specs.Turns.{MaySettle, MayTake, Shared, receive_for, taken}
use Rattle.uv_responder.proofs.Passed.{accepted, again_readable, failed_send, passed}
use Rattle.uv_responder.proofs.Settled.{Stands, ends_settle, goes_settle, next_held, takes_nothing, takes_oldest}

abbrev pub part_with : Asks → Bool → Bool → Bool → Part
part_with asks first last imm = record { asks = asks; first = first; last = last; imm = imm }

-- the place of a packet, and what the queue pair holds

-- whoever takes a receive finds none held
free_by : (asks : Asks) (first last imm : Bool) (m : Option Message) → is_in_place (part_with asks first last imm) m ≡ true → takes_receive (part_with asks first last imm) ≡ true → is_send m ≡ false
free_by asks first last imm None h t = refl
free_by asks first last imm (Some (message.Write key at got left)) h t = refl
free_by Sends true last imm (Some (message.Send got)) h t = cc
free_by Sends false last imm (Some (message.Send got)) h t = cc
free_by Writes true last imm (Some (message.Send got)) h t = cc
free_by Writes false last imm (Some (message.Send got)) h t = cc
free_by Reads true last imm (Some (message.Send got)) h t = cc
free_by Reads false last imm (Some (message.Send got)) h t = cc
free_by Invalidates true last imm (Some (message.Send got)) h t = cc
free_by Invalidates false last imm (Some (message.Send got)) h t = cc

-- a send has a receive, held or taken
send_has : (first last imm : Bool) (m : Option Message) → is_in_place (part_with Sends first last imm) m ≡ true → (takes_receive (part_with Sends first last imm) || is_send m) ≡ true
send_has true last imm m h = refl
send_has false last imm None h = cc
send_has false last imm (Some (message.Send got)) h = refl
send_has false last imm (Some (message.Write key at got left)) h = cc

-- all others hold none
others_hold : (asks : Asks) (first last imm : Bool) (m : Option Message) → asks_send asks ≡ false → is_in_place (part_with asks first last imm) m ≡ true → is_send m ≡ false
others_hold asks first last imm None a h = refl
others_hold asks first last imm (Some (message.Write key at got left)) a h = refl
others_hold Sends first last imm (Some (message.Send got)) a h = cc
others_hold Writes true last imm (Some (message.Send got)) a h = cc
others_hold Writes false last imm (Some (message.Send got)) a h = cc
others_hold Reads true last imm (Some (message.Send got)) a h = cc
others_hold Reads false last imm (Some (message.Send got)) a h = cc
others_hold Invalidates true last imm (Some (message.Send got)) a h = cc
others_hold Invalidates false last imm (Some (message.Send got)) a h = cc

some_by : (a : Bool) (next : Option Receiving) → (a && is_none next) ≡ false → a ≡ true → is_some next ≡ true
some_by true None h e = cc
some_by true (Some w) h e = refl
some_by false next h e = cc

passes_take : (part : Part) (c : Content) (p : Paired) (shared : Shared) → Stands p → Passes part c p (receive_for p shared) → MayTake (takes_receive part) p shared
passes_take part c p shared h k =
    takes_oldest (takes_receive part) p shared h
    (λ e. h.holding ∙ free_by part.asks part.first part.last part.imm p.responder.message k.place e)
    (some_by (takes_receive part) (receive_for p shared) k.ready)

-- where an accepted packet leaves the responder is in range

send_fits : (got size : ℕ) (next : Option Receiving) → IsShort next → fits_receive got size next ≡ true → got + size ≤ WORK_BYTES
send_fits got size None short h = cc
send_fits got size (Some w) short h = grind (arith, short, h)

write_fits : (m : Option Message) (size : ℕ) → IfSome m IsMessage → nat_lt size (bytes_left m) ≡ true → IfSome (write_goes_on m size) IsMessage
write_fits None size h k = tt
write_fits (Some (message.Send got)) size h k = tt
write_fits (Some (message.Write key at got left)) size h k = grind (arith, h, k)

begun_fits : (named mtu size : ℕ) → (nat_le named WORK_BYTES && nat_lt mtu named) ≡ true → (size == mtu) ≡ true → size + (named - size) ≤ WORK_BYTES
begun_fits named mtu size h k = grind (arith, h, k)

write_message : (first imm : Bool) (c : Content) (p : Paired) → Stands p → is_sized (part_with Writes first false imm) (mtu_of p) (length c.payload) ≡ true → has_length (part_with Writes first false imm) Writes c p ≡ true
    → IfSome (message_begun (part_with Writes first false imm) Writes c p.responder) IsMessage
write_message true imm c p h sized long = begun_fits (reth_of c).length (mtu_of p) (length c.payload) long sized
write_message false imm c p h sized long = write_fits p.responder.message (length c.payload) h.ranges.message long

-- a write that goes on is no send
write_is_none : (m : Option Message) (size : ℕ) → is_send (write_goes_on m size) ≡ false
write_is_none None size = refl
write_is_none (Some (message.Send got)) size = refl
write_is_none (Some (message.Write key at got left)) size = refl

write_no_send : (first imm : Bool) (c : Content) (r : Responder) → is_send (message_begun (part_with Writes first false imm) Writes c r) ≡ false
write_no_send true imm c r = refl
write_no_send false imm c r = write_is_none r.message (length c.payload)

and_left : (a b : Bool) → a && b ≡ true → a ≡ true
and_left true b h = refl
and_left false b h = cc

le_by : (a b : ℕ) → nat_le a b ≡ true → a ≤ b
le_by a b h = grind (arith, h)

never : true ≡ false → ⊥
never h = cc

accept_ranges : (asks : Asks) (first last imm : Bool) (c : Content) (p : Paired) (lent : Lent) (next : Option Receiving) → Stands p → IsShort next → c.psn < PSNS
    → Accepts (part_with asks first last imm) c p lent next → IsResponding (gone_on (part_with asks first last imm) c p)
accept_ranges Sends first true imm c p lent next h short psn k = record { expected = omega arith; msn = omega arith; message = tt; reading = h.ranges.reading }
accept_ranges Sends first false imm c p lent next h short psn k = record { expected = omega arith; msn = h.ranges.msn; message = send_fits (bytes_got p.responder.message) (length c.payload) next short (k.fits refl); reading = h.ranges.reading }
accept_ranges Writes first true imm c p lent next h short psn k = record { expected = omega arith; msn = omega arith; message = tt; reading = h.ranges.reading }
accept_ranges Writes first false imm c p lent next h short psn k = record { expected = omega arith; msn = h.ranges.msn; message = write_message first imm c p h k.passes.sized k.passes.long; reading = h.ranges.reading }
accept_ranges Reads first true imm c p lent next h short psn k = record { expected = omega arith; msn = omega arith; message = tt; reading = record { length = le_by _ _ k.passes.long; psn = psn; sent = omega arith } }
accept_ranges Reads first false imm c p lent next h short psn k = record { expected = omega arith; msn = h.ranges.msn; message = tt; reading = record { length = le_by _ _ k.passes.long; psn = psn; sent = omega arith } }
accept_ranges Invalidates first last imm c p lent next h short psn k = absurd (never k.passes.done)

-- the plan of a packet that is accepted

accept_settles : (asks : Asks) (first last imm : Bool) (c : Content) (p : Paired) (lent : Lent) (shared : Shared) → Stands p → IsShort (receive_for p shared) → c.psn < PSNS
    → Accepts (part_with asks first last imm) c p lent (receive_for p shared) → MaySettle (accepting (part_with asks first last imm) c p) (taken (takes_receive (part_with asks first last imm)) p shared)
accept_settles Sends first true imm c p lent shared h short psn k =
    let may : MayTake (takes_receive (part_with Sends first true imm)) p shared = passes_take (part_with Sends first true imm) c p shared h k.passes in
    let has = ap (λ b. takes_receive (part_with Sends first true imm) || b) h.holding ∙ send_has first true imm p.responder.message k.passes.place in
    ends_settle _ _ _ true false _ _ p shared h may (accept_ranges Sends first true imm c p lent (receive_for p shared) h short psn k) (next_held _ p shared may has) refl refl
accept_settles Sends first false imm c p lent shared h short psn k =
    let may : MayTake (takes_receive (part_with Sends first false imm)) p shared = passes_take (part_with Sends first false imm) c p shared h k.passes in
    let has = ap (λ b. takes_receive (part_with Sends first false imm) || b) h.holding ∙ send_has first false imm p.responder.message k.passes.place in
    goes_settle _ _ _ true false _ p shared h may (accept_ranges Sends first false imm c p lent (receive_for p shared) h short psn k) has
accept_settles Writes first true true c p lent shared h short psn k =
    let may : MayTake true p shared = passes_take (part_with Writes first true true) c p shared h k.passes in
    ends_settle _ _ true true false _ _ p shared h may (accept_ranges Writes first true true c p lent (receive_for p shared) h short psn k) (next_held true p shared may refl) refl refl
accept_settles Writes first true false c p lent shared h short psn k =
    goes_settle _ _ false true false _ p shared h (takes_nothing p shared h) (accept_ranges Writes first true false c p lent (receive_for p shared) h short psn k)
    (h.holding ∙ others_hold Writes first true false p.responder.message refl k.passes.place)
accept_settles Writes first false imm c p lent shared h short psn k =
    goes_settle _ _ false true false _ p shared h (takes_nothing p shared h) (accept_ranges Writes first false imm c p lent (receive_for p shared) h short psn k)
    (h.holding ∙ (others_hold Writes first false imm p.responder.message refl k.passes.place ∙ sym (write_no_send first imm c p.responder)))
accept_settles Reads first true imm c p lent shared h short psn k =
    goes_settle _ _ false true false _ p shared h (takes_nothing p shared h) (accept_ranges Reads first true imm c p lent (receive_for p shared) h short psn k)
    (h.holding ∙ others_hold Reads first true imm p.responder.message refl k.passes.place)
accept_settles Reads first false imm c p lent shared h short psn k =
    goes_settle _ _ false true false _ p shared h (takes_nothing p shared h) (accept_ranges Reads first false imm c p lent (receive_for p shared) h short psn k)
    (h.holding ∙ others_hold Reads first false imm p.responder.message refl k.passes.place)
accept_settles Invalidates first last imm c p lent shared h short psn k = absurd (never k.passes.done)

-- the plan of a send that fails at its receive

fail_settles : (word : TurnWord) (syndrome : ℕ) (status : Status) (asks : Asks) (first last imm : Bool) (c : Content) (p : Paired) (shared : Shared) → is_failure status ≡ true → Stands p
    → Passes (part_with asks first last imm) c p (receive_for p shared) → asks_send asks ≡ true
    → MaySettle (failing_receive word syndrome status (part_with asks first last imm) c p) (taken (takes_receive (part_with asks first last imm)) p shared)
fail_settles word syndrome status Sends first last imm c p shared fails h k a =
    let may : MayTake (takes_receive (part_with Sends first last imm)) p shared = passes_take (part_with Sends first last imm) c p shared h k in
    let has = ap (λ b. takes_receive (part_with Sends first last imm) || b) h.holding ∙ send_has first last imm p.responder.message k.place in
    ends_settle _ _ _ false true _ _ p shared h may (record { expected = h.ranges.expected; msn = h.ranges.msn; message = tt; reading = h.ranges.reading }) (next_held _ p shared may has) fails refl
fail_settles word syndrome status Writes first last imm c p shared fails h k a = cc
fail_settles word syndrome status Reads first last imm c p shared fails h k a = cc
fail_settles word syndrome status Invalidates first last imm c p shared fails h k a = cc

-- the others take nothing and end nothing
stay_settles : (word : TurnWord) (told : Option Told) (b : Bool) (r : Responder) (p : Paired) (shared : Shared) → Stands p → IsResponding r → is_send p.responder.message ≡ is_send r.message
    → MaySettle (record { word = word; told = told; takes = false; writes = false; breaks = b; ends = None; responder = r }) p
stay_settles word told b r p shared h ranges same = goes_settle word told false false b r p shared h (takes_nothing p shared h) ranges (h.holding ∙ same)

-- all of them

pub record MayPlan (plan : Plan) (p : Paired) (shared : Shared) : Type 0 where
  pub take : MayTake plan.takes p shared
  pub settle : MaySettle plan (taken plan.takes p shared)

pub may_plan : (v : Judgement) (part : Part) (c : Content) (p : Paired) (lent : Lent) (shared : Shared) → Stands p → IsShort (receive_for p shared) → c.psn < PSNS
    → judgement_of part c p lent (receive_for p shared) ≡ v → MayPlan (row_plan v part c p) p shared
may_plan judgement.Duplicate part c p lent shared h short psn e = record { take = takes_nothing p shared h; settle = stay_settles _ _ false _ p shared h h.ranges refl }
may_plan judgement.Reread part c p lent shared h short psn e = record {
  take = takes_nothing p shared h;
  settle = stay_settles _ _ false _ p shared h (record { expected = h.ranges.expected; msn = h.ranges.msn; message = h.ranges.message; reading = record { length = le_by _ _ (and_left _ _ (again_readable part c p lent (receive_for p shared) e)); psn = psn; sent = omega arith } }) refl;
}
may_plan judgement.Stale part c p lent shared h short psn e = record { take = takes_nothing p shared h; settle = stay_settles _ _ false _ p shared h h.ranges refl }
may_plan judgement.Ahead part c p lent shared h short psn e = record {
  take = takes_nothing p shared h;
  settle = stay_settles _ _ false _ p shared h (record { expected = h.ranges.expected; msn = h.ranges.msn; message = h.ranges.message; reading = h.ranges.reading }) refl;
}
may_plan judgement.Busy part c p lent shared h short psn e = record { take = takes_nothing p shared h; settle = stay_settles _ _ false _ p shared h h.ranges refl }
may_plan judgement.Invalid part c p lent shared h short psn e = record { take = takes_nothing p shared h; settle = stay_settles _ _ true _ p shared h h.ranges refl }
may_plan judgement.NotReady part c p lent shared h short psn e = record { take = takes_nothing p shared h; settle = stay_settles _ _ false _ p shared h h.ranges refl }
may_plan judgement.Denied part c p lent shared h short psn e = record { take = takes_nothing p shared h; settle = stay_settles _ _ true _ p shared h h.ranges refl }
may_plan judgement.TooLong part c p lent shared h short psn e =
    let (k, valid) = passed part c p lent (receive_for p shared) judgement.TooLong refl e in
    record { take = passes_take part c p shared h k; settle = fail_settles word.Invalid NAK_INVALID status.LocLenErr part.asks part.first part.last part.imm c p shared refl h k (failed_send part c p lent (receive_for p shared) judgement.TooLong refl valid) }
may_plan judgement.Unplaced part c p lent shared h short psn e =
    let (k, valid) = passed part c p lent (receive_for p shared) judgement.Unplaced refl e in
    record { take = passes_take part c p shared h k; settle = fail_settles word.Operation _ status.LocProtErr part.asks part.first part.last part.imm c p shared refl h k (failed_send part c p lent (receive_for p shared) judgement.Unplaced refl valid) }
may_plan judgement.Accepted part c p lent shared h short psn e =
    let k : Accepts part c p lent (receive_for p shared) = accepted part c p lent (receive_for p shared) e in
    record { take = passes_take part c p shared h k.passes; settle = accept_settles part.asks part.first part.last part.imm c p lent shared h short psn k }

-- a read that is accepted is no longer than a work
readable_by : (asks : Asks) (first last imm : Bool) (c : Content) (p : Paired) → has_length (part_with asks first last imm) asks c p ≡ true → IsReadable asks c
readable_by Sends first last imm c p h = tt
readable_by Writes first last imm c p h = tt
readable_by Reads first last imm c p h = le_by _ _ h
readable_by Invalidates first last imm c p h = tt

pub accepted_readable : (part : Part) (c : Content) (p : Paired) (lent : Lent) (next : Option Receiving) (v : Judgement) → v ≡ judgement_of part c p lent next → v ≡ judgement.Accepted → IsReadable part.asks c
accepted_readable part c p lent next v is e = readable_by part.asks part.first part.last part.imm c p (accepted part c p lent next (sym is ∙ e)).passes.long
