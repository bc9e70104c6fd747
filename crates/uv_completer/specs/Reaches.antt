-- Which works a response speaks of. Places count packets from the first packet of the oldest work.
use Rattle.std.specs.Prelude.{ℕ, ◌+◌, ◌-◌, ◌%◌, ◌&&◌, min, nat_le, nat_lt, Bool, true, false, if◌then◌else◌, Option, None, Some, List, [], ◌∷◌}
use Rattle.uv_num.specs.declared.limits.TheConstants.{PSNS}
use Rattle.uv_qp.specs.declared.state.Requester.{Requester}
use Rattle.uv_qp.specs.PacketCounts.{work_packets}
use Rattle.uv_wr.specs.declared.work.Op.{Op}
use Rattle.uv_wr.specs.declared.work.Op.TheVariants.{Send, SendImm, Write, WriteImm, Read, Ud, UdImm}
use Rattle.uv_wr.specs.Works.{Sending, whole_length}
use Rattle.uv_completer.specs.declared.reaches.WaitingRead.{WaitingRead}

-- the place of a PSN
abbrev pub place_of : Requester → ℕ → ℕ
place_of r psn = (psn + (PSNS - r.base)) % PSNS

-- whether the packet at a place was sent and isn't acknowledged
abbrev pub is_unanswered : Requester → ℕ → Bool
is_unanswered r at = nat_le r.una at && nat_lt at r.high

-- how many of the oldest works end before a place
abbrev pub works_before : ℕ → List Sending → ℕ → ℕ
works_before mtu [] at = 0
works_before mtu (w ∷ ws) at = if nat_lt at (work_packets mtu w) then 0 else works_before mtu ws (at - work_packets mtu w) + 1

-- whether a work waits for bytes from its peer
abbrev pub asks_for_bytes : Op → Bool
asks_for_bytes Send = false
asks_for_bytes (SendImm imm) = false
asks_for_bytes (Write at key) = false
asks_for_bytes (WriteImm at key imm) = false
asks_for_bytes (Read at key) = true
asks_for_bytes (Ud device qp qkey) = false
asks_for_bytes (UdImm device qp qkey imm) = false

-- the oldest read of these works, which so many works are before, and so many packets. It isn't finished, since it would have
-- ended with its last response
abbrev pub oldest_read_from : ℕ → ℕ → ℕ → List Sending → Option WaitingRead
oldest_read_from older start mtu [] = None
oldest_read_from older start mtu (w ∷ ws) =
    if asks_for_bytes w.op
    then Some (record { older = older; start = start; packets = work_packets mtu w; size = whole_length w.parts })
    else oldest_read_from (older + 1) (start + work_packets mtu w) mtu ws

abbrev pub oldest_read : ℕ → List Sending → Option WaitingRead
oldest_read mtu works = oldest_read_from 0 0 mtu works

-- the place up to which an acknowledge may reach: the first packet of a read stops it
abbrev pub stopped_by : Option WaitingRead → ℕ → ℕ
stopped_by None to = to
stopped_by (Some r) to = min r.start to
