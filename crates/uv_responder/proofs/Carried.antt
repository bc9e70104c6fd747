-- A turn may carry out what it has readied, and makes what its definition says.
use Rattle.std.proofs.Common.{◌≡◌, ℕ, ◌<◌, Bool, true, false, ◌||◌, not, List, [], ◌∷◌, Option, None, Some, length, refl, sym, ◌∙◌, ap, subst, arith}
use Rattle.std.specs.Prelude.{is_none, is_some, unwrap_or, IfSome, ◌==◌, if◌then◌else◌}
use Rattle.uv_num.specs.declared.attrs.QpAttrs.{QpAttrs}
use Rattle.uv_num.specs.declared.limits.TheConstants.{PSNS}
use Rattle.uv_packet.specs.declared.syndrome.TheConstants.{ACK, NAK_SEQUENCE}
use Rattle.uv_packet.specs.Packets.{Content}
use Rattle.uv_packet.specs.Opcodes.{opcode_of}
use Rattle.uv_qp.specs.declared.turns.TurnDone.{TurnDone}
use Rattle.uv_qp.specs.declared.turns.TurnDone.TheVariants.{Turned, Idle, NoMemory}
use Rattle.uv_qp.specs.declared.turns.TurnWord.{TurnWord}
use Rattle.uv_qp.specs.declared.turns.TurnWord.TheVariants as word
use Rattle.uv_qp.specs.declared.state.Names.{Names}
use Rattle.uv_qp.specs.Pairs.{Paired, IsPaired, held_or, next_receive, peer_device_of, qkey_of}
use Rattle.uv_qp.specs.Gate.{lets_in}
use Rattle.uv_qp.specs.Writers.{held_from_queue, held_from_shared}
use Rattle.uv_queue.specs.Order.{oldest}
use Rattle.uv_queue.specs.Queued.{Queued}
use Rattle.uv_region.specs.declared.action.Access.TheVariants.{LocalWrite}
use Rattle.uv_region.specs.declared.action.Access.{Access}
use Rattle.uv_region.specs.declared.piece.Piece.{Piece}
use Rattle.uv_region.specs.Actions.{is_read}
use Rattle.uv_region.specs.Laws.{AllowedMayWriteAll, RoomIsNotKnown}
use Rattle.uv_region.specs.Lent.{Lent, StaysKnown, lent_with_room, lent_with_rooms}
use Rattle.uv_region.specs.Several.{PlainWrite, lent_allows_all, lent_written, with_rooms_for, writes_of, MayWriteAll}
use Rattle.uv_wr.specs.Statuses.{is_failure}
use Rattle.uv_wr.specs.Works.{Receiving}
use Rattle.uv_responder.specs.declared.datagram.Arrival.{Arrival}
use Rattle.uv_responder.specs.declared.datagram.Arrival.TheVariants.{Unwanted, Misplaced, Welcome}
use Rattle.uv_responder.specs.declared.judging.Judgement.{Judgement}
use Rattle.uv_responder.specs.declared.judging.Judgement.TheVariants as judgement
use Rattle.uv_responder.specs.declared.part.Asks.{Asks}
use Rattle.uv_responder.specs.declared.part.Asks.TheVariants.{Sends, Writes, Reads, Invalidates}
use Rattle.uv_responder.specs.declared.part.Part.{Part}
use Rattle.uv_responder.specs.declared.planning.Ending.{Ending}
use Rattle.uv_responder.specs.declared.planning.Plan.{Plan}
use Rattle.uv_responder.specs.declared.turning.Prepared.{Prepared}
use Rattle.uv_responder.specs.Answers.{answers_to, psn_before, telling_if}
use Rattle.uv_responder.specs.Datagrams.{arrival_of, datagram_plan, ending_datagram, has_qkey}
use Rattle.uv_responder.specs.Judging.{fits_receive, judgement_of, received_at}
use Rattle.uv_responder.specs.Passing.{IsShort}
use Rattle.uv_responder.specs.Plans.{kind_of_write, row_plan}
use Rattle.uv_responder.specs.Turns.{Readied, Shared, IsPrepared, IsUnmade, MaySettle, MayTake, Finishes, RequestGives, completion_for, completions_for, datagram_planned, carried_out, turned_by, part_in, readied, readied_for, receive_for, request_readied, settled, shared_after, taken}
use Rattle.uv_responder.proofs.Letting.{may_write}
use Rattle.uv_responder.proofs.Planned.{may_plan}
use Rattle.uv_responder.proofs.Settled.{Stands, stands, ends_settle, goes_settle, next_held, takes_nothing, takes_oldest}

-- all that is asked of what was readied
pub record MayCarry (r : Readied) (c : Content) (p : Paired) (lent : Lent) (shared : Shared) : Type 0 where
  pub kind : is_read r.kind ≡ false
  pub take : MayTake r.plan.takes p shared
  pub settle : MaySettle r.plan (taken r.plan.takes p shared)
  pub told : IfSome r.plan.told (λ t. t.psn < PSNS)
  pub write : MayWriteAll (with_rooms_for lent r.found) r.kind p.names.object p.names.domain (writes_of r.found c.payload)

-- a request of a connection

-- what is told is told of a PSN

tell_if : (b : Bool) (syndrome psn : ℕ) → psn < PSNS → IfSome (telling_if b syndrome psn) (λ t. t.psn < PSNS)
tell_if true syndrome psn h = h
tell_if false syndrome psn h = tt

told_within : (v : Judgement) (part : Part) (c : Content) (p : Paired) → Stands p → c.psn < PSNS → IfSome (row_plan v part c p).told (λ t. t.psn < PSNS)
told_within judgement.Duplicate part c p h psn = tell_if c.ack ACK (psn_before p.responder.expected) (omega arith)
told_within judgement.Reread part c p h psn = tt
told_within judgement.Stale part c p h psn = tt
told_within judgement.Ahead part c p h psn = tell_if (not p.responder.told) NAK_SEQUENCE p.responder.expected h.ranges.expected
told_within judgement.Busy part c p h psn = tt
told_within judgement.Invalid part c p h psn = psn
told_within judgement.NotReady part c p h psn = psn
told_within judgement.Denied part c p h psn = psn
told_within judgement.TooLong part c p h psn = psn
told_within judgement.Unplaced part c p h psn = psn
told_within judgement.Accepted part c p h psn = tell_if c.ack ACK c.psn psn

writes_kind : (asks : Asks) → is_read (kind_of_write asks) ≡ false
writes_kind Sends = refl
writes_kind Writes = refl
writes_kind Reads = refl
writes_kind Invalidates = refl

request_carries : AllowedMayWriteAll → (part : Part) (c : Content) (p : Paired) (lent : Lent) (shared : Shared) → Stands p → IsShort (receive_for p shared) → c.psn < PSNS
    → MayCarry (request_readied part c p lent (receive_for p shared)) c p lent shared
request_carries law part c p lent shared h short psn =
    let plan = may_plan (judgement_of part c p lent (receive_for p shared)) part c p lent shared h short psn refl in
    record {
      kind = writes_kind part.asks;
      take = plan.take;
      settle = plan.settle;
      told = told_within (judgement_of part c p lent (receive_for p shared)) part c p h psn;
      write = may_write law (judgement_of part c p lent (receive_for p shared)) part c p lent (receive_for p shared) refl;
    }

-- a datagram

-- the rows in which its receive was found
abbrev is_found : Arrival → Bool
is_found Unwanted = false
is_found Misplaced = true
is_found Welcome = true

not_found : (v : Arrival) → Unwanted ≡ v → is_found v ≡ true → ⊥
not_found Unwanted e h = cc
not_found Misplaced e h = cc
not_found Welcome e h = cc

found_by : (a b d e : Bool) (v : Arrival) → is_found v ≡ true → (if a then Unwanted else (if b then Unwanted else (if d then Unwanted else (if e then Misplaced else Welcome)))) ≡ v → b ≡ false
found_by true b d e v met h = absurd (not_found v h met)
found_by false true d e v met h = absurd (not_found v h met)
found_by false false d e v met h = refl

welcome_by : (a b d e : Bool) → (if a then Unwanted else (if b then Unwanted else (if d then Unwanted else (if e then Misplaced else Welcome)))) ≡ Welcome → e ≡ false
welcome_by true b d e h = cc
welcome_by false true d e h = cc
welcome_by false false true e h = cc
welcome_by false false false true h = cc
welcome_by false false false false h = refl

not_none : (o : Option Receiving) → is_none o ≡ false → is_some o ≡ true
not_none None h = cc
not_none (Some w) h = refl

none_free : (o : Option Receiving) → is_none o ≡ true → is_some o ≡ false
none_free None h = refl
none_free (Some w) h = cc

held_or_free : (o : Option Receiving) → (is_none o || is_some o) ≡ true
held_or_free None = refl
held_or_free (Some w) = refl

not_false : (b : Bool) → not b ≡ false → b ≡ true
not_false true h = refl
not_false false h = cc

found_some : (v : Arrival) (c : Content) (p : Paired) (lent : Lent) (next : Option Receiving) → is_found v ≡ true → arrival_of c p lent next ≡ v → is_some next ≡ true
found_some v c p lent next met h = not_none next (found_by (not (has_qkey c.deth (qkey_of p))) (is_none next) (not (fits_receive 0 (length c.payload) next)) (not (lent_allows_all lent LocalWrite p.names.domain (received_at next 0 (length c.payload)))) v met h)

takes_next : (p : Paired) (shared : Shared) → Stands p → is_some (receive_for p shared) ≡ true → MayTake (is_none p.held) p shared
takes_next p shared h some = takes_oldest (is_none p.held) p shared h (none_free p.held) (λ e. some)

ending_settles : (w : TurnWord) (b : Bool) (e : Ending) (p : Paired) (shared : Shared) → Stands p → is_some (receive_for p shared) ≡ true → is_failure e.status ≡ b
    → MaySettle (ending_datagram w b (Some e) p) (taken (is_none p.held) p shared)
ending_settles w b e p shared h some fails =
    let may : MayTake (is_none p.held) p shared = takes_next p shared h some in
    ends_settle _ _ (is_none p.held) (not b) b e (record p.responder { message = None }) p shared h may
    (record { expected = h.ranges.expected; msn = h.ranges.msn; message = tt; reading = h.ranges.reading })
    (next_held (is_none p.held) p shared may (held_or_free p.held)) fails refl

datagram_carries : AllowedMayWriteAll → (v : Arrival) (c : Content) (p : Paired) (lent : Lent) (shared : Shared) → Stands p → arrival_of c p lent (receive_for p shared) ≡ v
    → MayCarry (datagram_planned (datagram_plan v c p) c (receive_for p shared)) c p lent shared
datagram_carries law Unwanted c p lent shared h e = record {
  kind = refl;
  take = takes_nothing p shared h;
  settle = goes_settle _ _ false false false _ p shared h (takes_nothing p shared h) h.ranges h.holding;
  told = tt;
  write = tt;
}
datagram_carries law Misplaced c p lent shared h e =
    let some = found_some Misplaced c p lent (receive_for p shared) refl e in
    record {
      kind = refl;
      take = takes_next p shared h some;
      settle = ending_settles word.Operation true _ p shared h some refl;
      told = tt;
      write = tt;
    }
datagram_carries law Welcome c p lent shared h e =
    let some = found_some Welcome c p lent (receive_for p shared) refl e in
    record {
      kind = refl;
      take = takes_next p shared h some;
      settle = ending_settles word.Accepted false _ p shared h some refl;
      told = tt;
      write = law lent LocalWrite (received_at (receive_for p shared) 0 (length c.payload)) c.payload p.names.object p.names.domain (not_false (lent_allows_all lent LocalWrite p.names.domain (received_at (receive_for p shared) 0 (length c.payload))) (welcome_by (not (has_qkey c.deth (qkey_of p))) (is_none (receive_for p shared)) (not (fits_receive 0 (length c.payload) (receive_for p shared))) (not (lent_allows_all lent LocalWrite p.names.domain (received_at (receive_for p shared) 0 (length c.payload)))) e));
    }

-- both

pub may_carry : AllowedMayWriteAll → (o : Option Part) (c : Content) (p : Paired) (lent : Lent) (shared : Shared) → Stands p → IsShort (receive_for p shared) → c.psn < PSNS
    → MayCarry (readied_for o c p lent (receive_for p shared)) c p lent shared
may_carry law None c p lent shared h short psn = datagram_carries law (arrival_of c p lent (receive_for p shared)) c p lent shared h refl
may_carry law (Some part) c p lent shared h short psn = request_carries law part c p lent shared h short psn

-- what is asked of what was prepared
pub record MayFinish (made : Prepared) (p : Paired) (lent : Lent) (shared : Shared) : Type 0 where
  pub kind : is_read made.kind ≡ false
  pub take : MayTake made.plan.takes p shared
  pub settle : MaySettle made.plan (taken made.plan.takes p shared)
  pub write : MayWriteAll lent made.kind p.names.object p.names.domain made.writes

pub may_finish : (r : Readied) (c : Content) (p : Paired) (lent lent' : Lent) (shared : Shared) (made : Prepared) → IsPrepared r c p made → lent' ≡ with_rooms_for lent r.found → MayCarry r c p lent shared → MayFinish made p lent' shared
may_finish r c p lent lent' shared made m room h =
    let P : Plan → Type 0 = λ plan. MayTake plan.takes p shared in
    let Q : Plan → Type 0 = λ plan. MaySettle plan (taken plan.takes p shared) in
    let R : Access → Type 0 = λ k. MayWriteAll (with_rooms_for lent r.found) k p.names.object p.names.domain (writes_of r.found c.payload) in
    let S : List PlainWrite → Type 0 = λ ws. MayWriteAll (with_rooms_for lent r.found) made.kind p.names.object p.names.domain ws in
    let T : Lent → Type 0 = λ l. MayWriteAll l made.kind p.names.object p.names.domain made.writes in
    record {
      kind = ap is_read m.kind_is ∙ h.kind;
      take = subst P (sym m.plan_is) h.take;
      settle = subst Q (sym m.plan_is) h.settle;
      write = subst T (sym room) (subst S (sym m.writes_are) (subst R (sym m.kind_is) h.write));
    }

-- what was lent, after a receive was taken

queue_kept : (p : Paired) (o : Option Receiving) → (held_from_queue p o).kept ≡ p.kept
queue_kept p None = refl
queue_kept p (Some w) = refl

shared_kept : (p : Paired) (o : Option Receiving) → (held_from_shared p o).kept ≡ p.kept
shared_kept p None = refl
shared_kept p (Some w) = refl

taken_kept : (takes : Bool) (p : Paired) (shared : Shared) → (taken takes p shared).kept ≡ p.kept
taken_kept false p shared = refl
taken_kept true p None = queue_kept p (oldest p.receives.works)
taken_kept true p (Some q) = shared_kept p (oldest q.works)

queue_names : (p : Paired) (o : Option Receiving) → (held_from_queue p o).names ≡ p.names
queue_names p None = refl
queue_names p (Some w) = refl

shared_names : (p : Paired) (o : Option Receiving) → (held_from_shared p o).names ≡ p.names
shared_names p None = refl
shared_names p (Some w) = refl

pub taken_names : (takes : Bool) (p : Paired) (shared : Shared) → (taken takes p shared).names ≡ p.names
taken_names false p shared = refl
taken_names true p None = queue_names p (oldest p.receives.works)
taken_names true p (Some q) = shared_names p (oldest q.works)

-- the receive that ends is the one that was judged

-- a shared queue is in place of its own
abbrev pub HasNoOwn : Paired → Shared → Type 0
HasNoOwn p None = Unit {0}
HasNoOwn p (Some q) = p.receives.works ≡ []

no_own_by : (works : List Receiving) → (length works == 0) ≡ true → works ≡ []
no_own_by [] h = refl
no_own_by (w ∷ ws) h = grind (arith, h)

own_or_shared : (srq : Bool) (works : List Receiving) → srq ≡ true → (not srq || length works == 0) ≡ true → works ≡ []
own_or_shared true works e h = no_own_by works h
own_or_shared false works e h = cc

pub has_no_own : (p : Paired) (q : Queued Receiving) → IsPaired p → p.srq ≡ true → HasNoOwn p (Some q)
has_no_own p q h e = own_or_shared p.srq p.receives.works e h.shared

own_or : (h o s : Option Receiving) → o ≡ None → is_some (held_or h o) ≡ true → held_or h o ≡ held_or h s
own_or (Some w) o s none some = refl
own_or None None s none some = cc
own_or None (Some w) s none some = cc

queue_next : (p : Paired) (o h : Option Receiving) → is_some h ≡ false → is_some o ≡ true → next_receive (held_from_queue p o) ≡ held_or h o
queue_next p o (Some w) free some = cc
queue_next p None None free some = cc
queue_next p (Some w) None free some = refl

shared_next : (p : Paired) (o h : Option Receiving) → is_some h ≡ false → is_some o ≡ true → next_receive (held_from_shared p o) ≡ held_or h o
shared_next p o (Some w) free some = cc
shared_next p None None free some = cc
shared_next p (Some w) None free some = refl

next_same : (takes : Bool) (p : Paired) (shared : Shared) → HasNoOwn p shared → MayTake takes p shared → is_some (next_receive (taken takes p shared)) ≡ true → next_receive (taken takes p shared) ≡ receive_for p shared
next_same false p None own may some = refl
next_same false p (Some q) own may some = own_or p.held (oldest p.receives.works) (oldest q.works) (ap (λ ws. oldest ws) own) some
next_same true p None own may some = queue_next p (oldest p.receives.works) p.held (may.free refl) (may.next refl)
next_same true p (Some q) own may some = shared_next p (oldest q.works) p.held (may.free refl) (may.next refl)

completions_same : (ends : Option Ending) (takes : Bool) (p : Paired) (shared : Shared) → HasNoOwn p shared → MayTake takes p shared → IfSome ends (λ e. is_some (next_receive (taken takes p shared)) ≡ true)
    → completions_for (taken takes p shared).names ends (next_receive (taken takes p shared)) ≡ completions_for p.names ends (receive_for p shared)
completions_same None takes p shared own may some = refl
completions_same (Some e) takes p shared own may some =
    ap (λ n. completion_for n e (next_receive (taken takes p shared))) (taken_names takes p shared)
    ∙ ap (λ o. completion_for p.names e o) (next_same takes p shared own may some)

-- what is made is what the definition says

pub record IsReadied (c : Content) (p : Paired) (lent lent' : Lent) (shared : Shared) (made : Prepared) : Type 0 where
  pub short : IsShort (receive_for p shared)
  pub prepared : IsPrepared (readied c p lent (receive_for p shared)) c p made
  pub room : lent' ≡ with_rooms_for lent (readied c p lent (receive_for p shared)).found

pub readied_by : (c : Content) (p : Paired) (lent lent' : Lent) (shared : Shared) (made : Prepared) (next : Option Receiving) → next ≡ receive_for p shared → IsShort next
    → IsPrepared (readied c p lent next) c p made → lent' ≡ with_rooms_for lent (readied c p lent next).found → IsReadied c p lent lent' shared made
readied_by c p lent lent' shared made next e short prepared room =
    let P : Option Receiving → Type 0 = λ o. IsPrepared (readied c p lent o) c p made in
    let Q : Option Receiving → Type 0 = λ o. lent' ≡ with_rooms_for lent (readied c p lent o).found in
    record { short = subst IsShort e short; prepared = subst P e prepared; room = subst Q e room }

pub may_turn : AllowedMayWriteAll → (c : Content) (p : Paired) (lent lent' : Lent) (shared : Shared) (made : Prepared) → IsPaired p → lets_in p c ≡ true → c.psn < PSNS
    → IsReadied c p lent lent' shared made → MayFinish made p lent' shared
may_turn law c p lent lent' shared made paired let_in psn h =
    may_finish (readied c p lent (receive_for p shared)) c p lent lent' shared made h.prepared h.room
    (may_carry law (part_in (opcode_of c.opcode)) c p lent shared (stands p c paired let_in) h.short psn)

pub write_after : (takes : Bool) (p p' : Paired) (shared : Shared) (lent : Lent) (made : Prepared) → p' ≡ taken takes p shared → MayWriteAll lent made.kind p.names.object p.names.domain made.writes
    → MayWriteAll lent made.kind p'.names.object p'.names.domain made.writes
write_after takes p p' shared lent made e h =
    let P : Names → Type 0 = λ n. MayWriteAll lent made.kind n.object n.domain made.writes in
    subst P (sym (ap (λ (q : Paired). q.names) e ∙ taken_names takes p shared)) h

pub settle_after : (p p' : Paired) (shared : Shared) (made : Prepared) → p' ≡ taken made.plan.takes p shared → MaySettle made.plan (taken made.plan.takes p shared) → MaySettle made.plan p'
settle_after p p' shared made e h = subst (MaySettle made.plan) (sym e) h

pub carried : (done : TurnDone) (r : Readied) (c : Content) (p p' p'' : Paired) (lent lent' lent'' : Lent) (shared shared' : Shared) (made : Prepared) → IsPrepared r c p made → MayFinish made p lent' shared → HasNoOwn p shared
    → p' ≡ taken made.plan.takes p shared → lent' ≡ with_rooms_for lent r.found → shared' ≡ shared_after made.plan.takes shared
    → Finishes (carried_out made p' lent') done p'' lent'' → RequestGives (turned_by r c p lent shared) p lent shared done p'' lent'' shared'
carried Idle r c p p' p'' lent lent' lent'' shared shared' made m may own pair room queue h = absurd h
carried NoMemory r c p p' p'' lent lent' lent'' shared shared' made m may own pair room queue h = absurd h
carried (Turned word to packets completions) r c p p' p'' lent lent' lent'' shared shared' made m may own pair room queue h =
    let all : Lent = with_rooms_for lent r.found in
    record {
      word_is = h.word_is ∙ ap (λ (x : Plan). x.word) m.plan_is;
      to_is = h.to_is
          ∙ (ap (λ (q : Paired). answers_to (peer_device_of q) made.plan.told) pair
          ∙ (ap (λ (k : QpAttrs). answers_to (unwrap_or k.dev 0) made.plan.told) (taken_kept made.plan.takes p shared)
          ∙ ap (λ (x : Plan). answers_to (peer_device_of p) x.told) m.plan_is));
      packets_are = h.packets_are ∙ m.packets_are;
      completions_are = h.completions_are
          ∙ (ap (λ (q : Paired). completions_for q.names made.plan.ends (next_receive q)) pair
          ∙ (completions_same made.plan.ends made.plan.takes p shared own may.take may.settle.next
          ∙ ap (λ (x : Plan). completions_for p.names x.ends (receive_for p shared)) m.plan_is));
      pair_is = h.pair_is ∙ (ap (settled made.plan) pair ∙ ap (λ (x : Plan). settled x (taken x.takes p shared)) m.plan_is);
      regions_are = h.regions_are
          ∙ (ap (λ (n : Names). lent_written lent' made.kind n.object n.domain made.writes) (ap (λ (q : Paired). q.names) pair ∙ taken_names made.plan.takes p shared)
          ∙ (ap (λ (l : Lent). lent_written l made.kind p.names.object p.names.domain made.writes) room
          ∙ (ap (λ (k : Access). lent_written all k p.names.object p.names.domain made.writes) m.kind_is
          ∙ ap (λ (ws : List PlainWrite). lent_written all r.kind p.names.object p.names.domain ws) m.writes_are)));
      shared_is = queue ∙ ap (λ (x : Plan). shared_after x.takes shared) m.plan_is;
    }

-- memory ran out as a shared receive was to be taken

stays_again : (a b d : Lent) → StaysKnown a b → StaysKnown b d → StaysKnown a d
stays_again a b d h k = record { same = λ key. k.same key ∙ h.same key }

rooms_unknown : RoomIsNotKnown → (lent : Lent) (pieces : List Piece) (more : ℕ) → StaysKnown lent (lent_with_rooms lent pieces more)
rooms_unknown law lent [] more = record { same = λ key. refl }
rooms_unknown law lent (piece ∷ pieces) more =
    stays_again lent (lent_with_room lent piece.key more) _ (law lent piece.key more) (rooms_unknown law (lent_with_room lent piece.key more) pieces more)

pub unmade : RoomIsNotKnown → (p p' : Paired) (lent lent' : Lent) (shared shared' : Shared) (found : List Piece) → p' ≡ p → lent' ≡ with_rooms_for lent found → shared' ≡ shared → IsUnmade p lent shared p' lent' shared'
unmade law p p' lent lent' shared shared' found pair room queue =
    record { pair_is = pair; regions_stay = subst (StaysKnown lent) (sym room) (rooms_unknown law lent found (length found)); shared_is = queue }

-- no shared queue stays none
pub none_after : (takes : Bool) → None ≡ shared_after takes None
none_after true = refl
none_after false = refl
