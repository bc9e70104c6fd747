-- No response moves the oldest packet that waits for an answer back.
use Rattle.std.proofs.Common.{◌≡◌, ◌≤◌, ℕ, ◌+◌, ◌==◌, ◌&&◌, max, Bool, true, false, cond, not, nat_le, nat_lt, Option, None, Some, refl, arith, length}
use Rattle.uv_packet.specs.declared.syndrome.Syndrome.{Syndrome}
use Rattle.uv_packet.specs.declared.syndrome.Syndrome.TheVariants as syndrome
use Rattle.uv_packet.specs.Packets.{Content}
use Rattle.uv_qp.specs.declared.state.Requester.{Requester}
use Rattle.uv_qp.specs.declared.turns.TurnWord.TheVariants as word
use Rattle.uv_qp.specs.Pairs.{Paired, mtu_of, retries_of}
use Rattle.uv_wr.specs.declared.completion.Status.TheVariants as status
use Rattle.uv_completer.specs.declared.judging.Upshot.{Upshot}
use Rattle.uv_completer.specs.declared.judging.Upshot.TheVariants.{Ignored, Moves, Breaks, Fills}
use Rattle.uv_completer.specs.declared.meaning.Meaning.{Meaning}
use Rattle.uv_completer.specs.declared.meaning.Meaning.TheVariants.{Nothing, Tells, Returned}
use Rattle.uv_completer.specs.declared.reaches.WaitingRead.{WaitingRead}
use Rattle.uv_completer.specs.Laws.{GoesNotBack}
use Rattle.uv_completer.specs.Meanings.{meaning_of}
use Rattle.uv_completer.specs.Reaches.{is_unanswered, oldest_read, place_of, stopped_by}
use Rattle.uv_completer.specs.Upshots.{ended_before, filled_from, is_due, is_in_class, is_whole_response, may_wait, out_of_sequence_at, paused_by, returned_to, sent_again, una_at, unready_at, upshot_at, upshot_of, upshot_told}

una_by : (b : Bool) (r s : Requester) → r.una ≤ s.una → r.una ≤ (cond b r s).una
una_by true r s h = omega arith
una_by false r s h = h

una_onward : (r : Requester) (at : ℕ) → r.una ≤ at → r.una ≤ (una_at r at).una
una_onward r at h = una_by (at == r.una) r (record r { una = at; next = max r.next at; retried = 0; unready = 0 }) h

either : (b : Bool) (p : Paired) (u v : Upshot) → GoesNotBack p u → GoesNotBack p v → GoesNotBack p (cond b u v)
either true p u v h k = h
either false p u v h k = k

not_ready : (p : Paired) (at : ℕ) → p.requester.una ≤ at → GoesNotBack p (unready_at p at)
not_ready p at h =
    either (may_wait p (una_at p.requester at)) p (Moves word.Nak (ended_before p at) (paused_by p (una_at p.requester at))) (Breaks word.Nak (ended_before p at) (una_at p.requester at) status.RnrRetryExcErr)
    (una_onward p.requester at h) (una_onward p.requester at h)

lost : (p : Paired) (at : ℕ) → p.requester.una ≤ at → GoesNotBack p (out_of_sequence_at p at)
lost p at h =
    either (nat_lt (una_at p.requester at).retried (retries_of p)) p (Moves word.Nak (ended_before p at) (sent_again (una_at p.requester at))) (Breaks word.Nak (ended_before p at) (una_at p.requester at) status.RetryExcErr)
    (una_onward p.requester at h) (una_onward p.requester at h)

told : (p : Paired) (at : ℕ) (s : Syndrome) → p.requester.una ≤ at → GoesNotBack p (upshot_told p at s)
told p at syndrome.Acknowledged h = una_onward p.requester (max p.requester.una (stopped_by (oldest_read (mtu_of p) p.sends.works) (at + 1))) (omega arith)
told p at syndrome.NotReady h = not_ready p at h
told p at syndrome.Sequence h = lost p at h
told p at syndrome.Invalid h = una_onward p.requester at h
told p at syndrome.Access h = una_onward p.requester at h
told p at syndrome.Operation h = una_onward p.requester at h
told p at syndrome.Unknown h = tt

returns : (p : Paired) (at : ℕ) (first last : Bool) (size : ℕ) (o : Option WaitingRead) → p.requester.una ≤ at → GoesNotBack p (returned_to p at first last size o)
returns p at first last size None h = tt
returns p at first last size (Some read) h =
    let full : Upshot = Fills at read.older (filled_from (mtu_of p) at read) last in
    let whole : Bool = not (is_whole_response (mtu_of p) size read.size (filled_from (mtu_of p) at read)) in
    let in_class : Bool = not (is_in_class p.requester at first last read) in
    either (not (is_due p.requester at read)) p Ignored (cond in_class Ignored (cond whole Ignored full)) tt
    (either in_class p Ignored (cond whole Ignored full) tt (either whole p Ignored full tt h))

answered : (p : Paired) (at size : ℕ) (m : Meaning) → p.requester.una ≤ at → GoesNotBack p (upshot_at p at size m)
answered p at size Nothing h = tt
answered p at size (Tells s) h = told p at s h
answered p at size (Returned first last) h = returns p at first last size (oldest_read (mtu_of p) p.sends.works) h

answered_if : (b : Bool) (p : Paired) (at size : ℕ) (m : Meaning) → (b ≡ true → p.requester.una ≤ at) → GoesNotBack p (cond b (upshot_at p at size m) Ignored)
answered_if true p at size m h = answered p at size m (h refl)
answered_if false p at size m h = tt

within : (a b : ℕ) (c : Bool) → nat_le a b && c ≡ true → a ≤ b
within a b c h = grind (arith, h)

pub onward : (c : Content) (p : Paired) → GoesNotBack p (upshot_of c p)
onward c p =
    answered_if (is_unanswered p.requester (place_of p.requester c.psn)) p (place_of p.requester c.psn) (length c.payload) (meaning_of c)
    (within p.requester.una (place_of p.requester c.psn) (nat_lt (place_of p.requester c.psn) p.requester.high))
