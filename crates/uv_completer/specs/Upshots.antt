-- What a response comes to: the table of responses, row by row (`rxe_completer`, `check_psn` and `check_ack`, `rxe_comp.c`).
use Rattle.std.specs.Prelude.{ℕ, ◌+◌, ◌-◌, ◌*◌, ◌==◌, ◌&&◌, ◌||◌, min, max, nat_lt, Bool, true, false, not, if◌then◌else◌, Option, None, Some, length}
use Rattle.uv_num.specs.declared.limits.TheConstants.{MOST_RETRIES}
use Rattle.uv_packet.specs.declared.syndrome.Syndrome.{Syndrome}
use Rattle.uv_packet.specs.declared.syndrome.Syndrome.TheVariants as syndrome
use Rattle.uv_packet.specs.Packets.{Content}
use Rattle.uv_qp.specs.declared.state.Requester.{Requester}
use Rattle.uv_qp.specs.declared.turns.TurnWord.TheVariants as word
use Rattle.uv_qp.specs.Pairs.{Paired, mtu_of, retries_of, rnr_retries_of}
use Rattle.uv_wr.specs.declared.completion.Status.{Status}
use Rattle.uv_wr.specs.declared.completion.Status.TheVariants.{RemInvReqErr, RemAccessErr, RemOpErr, RetryExcErr, RnrRetryExcErr}
use Rattle.uv_completer.specs.declared.judging.Upshot.{Upshot}
use Rattle.uv_completer.specs.declared.judging.Upshot.TheVariants.{Ignored, Moves, Breaks, Fills}
use Rattle.uv_completer.specs.declared.meaning.Meaning.{Meaning}
use Rattle.uv_completer.specs.declared.meaning.Meaning.TheVariants.{Nothing, Tells, Returned}
use Rattle.uv_completer.specs.declared.reaches.WaitingRead.{WaitingRead}
use Rattle.uv_completer.specs.Meanings.{meaning_of}
use Rattle.uv_completer.specs.Reaches.{is_unanswered, oldest_read, place_of, stopped_by, works_before}

-- the requester whose oldest packet without an answer is that at a place. Where it moves, no resend is used; and sending goes
-- on from there, if it was not as far
abbrev pub una_at : Requester → ℕ → Requester
una_at r at = if at == r.una then r else record r { una = at; next = max r.next at; retried = 0; unready = 0 }

-- an acknowledge: works that end before this place succeed, up to the oldest read

abbrev pub acked_to : Paired → ℕ → Upshot
acked_to p stop = Moves word.Acked (works_before (mtu_of p) p.sends.works stop) (una_at p.requester (max p.requester.una stop))

abbrev pub acked : Paired → ℕ → Upshot
acked p to = acked_to p (stopped_by (oldest_read (mtu_of p) p.sends.works) to)

-- a NAK: works that end before its packet succeed

abbrev pub ended_before : Paired → ℕ → ℕ
ended_before p at = works_before (mtu_of p) p.sends.works at

-- no receive is there at the peer: it waits, and one of the resends for that is used, unless they have no end; where none was
-- left, the work at the packet ends
abbrev pub paused_by : Paired → Requester → Requester
paused_by p r = record r { paused = true; unready = if rnr_retries_of p == MOST_RETRIES then r.unready else r.unready + 1 }

abbrev pub may_wait : Paired → Requester → Bool
may_wait p r = (rnr_retries_of p == MOST_RETRIES) || nat_lt r.unready (rnr_retries_of p)

abbrev pub unready_at : Paired → ℕ → Upshot
unready_at p at =
    let r = una_at p.requester at in
    if may_wait p r then Moves word.Nak (ended_before p at) (paused_by p r) else Breaks word.Nak (ended_before p at) r RnrRetryExcErr

-- a packet before this one was lost: sending goes on from this one, and one of the resends is used; where none was left, the
-- work at the packet ends
abbrev pub sent_again : Requester → Requester
sent_again r = record r { next = r.una; retried = r.retried + 1 }

abbrev pub out_of_sequence_at : Paired → ℕ → Upshot
out_of_sequence_at p at =
    let r = una_at p.requester at in
    if nat_lt r.retried (retries_of p) then Moves word.Nak (ended_before p at) (sent_again r) else Breaks word.Nak (ended_before p at) r RetryExcErr

-- the peer refused the request: its work ends
abbrev pub refused_at : Paired → ℕ → Status → Upshot
refused_at p at status = Breaks word.Nak (ended_before p at) (una_at p.requester at) status

-- a response to a read

-- it is the next one of the oldest read
abbrev pub is_due : Requester → ℕ → WaitingRead → Bool
is_due r at read = (at == max r.una read.start) && nat_lt at (read.start + read.packets)

-- its opcode is that of its place: the first of those that the last request asked for, the last of the read, both, or neither
abbrev pub agrees : Bool → Bool → Bool
agrees true is = is
agrees false is = not is

abbrev pub is_in_class : Requester → ℕ → Bool → Bool → WaitingRead → Bool
is_in_class r at first last read = agrees first (at == r.asked) && agrees last (at + 1 == read.start + read.packets)

-- the place of its first byte in the read, and how many bytes it has: all that the path MTU lets, of those that are left
abbrev pub filled_from : ℕ → ℕ → WaitingRead → ℕ
filled_from mtu at read = (at - read.start) * mtu

abbrev pub is_whole_response : ℕ → ℕ → ℕ → ℕ → Bool
is_whole_response mtu size whole from = size == min mtu (whole - from)

abbrev pub returned_to : Paired → ℕ → Bool → Bool → ℕ → Option WaitingRead → Upshot
returned_to p at first last size None = Ignored
returned_to p at first last size (Some read) =
    if not (is_due p.requester at read) then Ignored
    else (if not (is_in_class p.requester at first last read) then Ignored
    else (if not (is_whole_response (mtu_of p) size read.size (filled_from (mtu_of p) at read)) then Ignored
    else Fills at read.older (filled_from (mtu_of p) at read) last))

abbrev pub returned : Paired → ℕ → Bool → Bool → ℕ → Upshot
returned p at first last size = returned_to p at first last size (oldest_read (mtu_of p) p.sends.works)

-- what a packet says of the request at a place

abbrev pub upshot_told : Paired → ℕ → Syndrome → Upshot
upshot_told p at syndrome.Acknowledged = acked p (at + 1)
upshot_told p at syndrome.NotReady = unready_at p at
upshot_told p at syndrome.Sequence = out_of_sequence_at p at
upshot_told p at syndrome.Invalid = refused_at p at RemInvReqErr
upshot_told p at syndrome.Access = refused_at p at RemAccessErr
upshot_told p at syndrome.Operation = refused_at p at RemOpErr
upshot_told p at syndrome.Unknown = Ignored

abbrev pub upshot_at : Paired → ℕ → ℕ → Meaning → Upshot
upshot_at p at size Nothing = Ignored
upshot_at p at size (Tells told) = upshot_told p at told
upshot_at p at size (Returned first last) = returned p at first last size

-- a response to a packet that waits for none means nothing
abbrev pub upshot_of : Content → Paired → Upshot
upshot_of c p =
    let at = place_of p.requester c.psn in
    if is_unanswered p.requester at then upshot_at p at (length c.payload) (meaning_of c) else Ignored
