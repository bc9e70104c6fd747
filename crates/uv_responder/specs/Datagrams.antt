-- The rule of datagrams (`check_resource`, `rxe_resp_check_length` and `execute` of `rxe_resp.c`; Q_Key: `check_keys` of `rxe_recv.c`).
use Rattle.std.specs.Prelude.{ℕ, ◌==◌, Bool, true, false, not, is_none, if◌then◌else◌, Option, None, Some, List, [], length}
use Rattle.uv_packet.specs.declared.packet.Deth.{Deth}
use Rattle.uv_packet.specs.Packets.{Content}
use Rattle.uv_qp.specs.declared.turns.TurnWord.{TurnWord}
use Rattle.uv_qp.specs.declared.turns.TurnWord.TheVariants as word
use Rattle.uv_qp.specs.Pairs.{Paired, qkey_of}
use Rattle.uv_region.specs.declared.action.Access.TheVariants.{LocalWrite}
use Rattle.uv_region.specs.declared.piece.Piece.{Piece}
use Rattle.uv_region.specs.Lent.{Lent}
use Rattle.uv_region.specs.Several.{lent_allows_all}
use Rattle.uv_wr.specs.declared.completion.Status.TheVariants as status
use Rattle.uv_wr.specs.Works.{Receiving}
use Rattle.uv_responder.specs.declared.datagram.Arrival.{Arrival}
use Rattle.uv_responder.specs.declared.datagram.Arrival.TheVariants.{Unwanted, Misplaced, Welcome}
use Rattle.uv_responder.specs.declared.planning.Ending.{Ending}
use Rattle.uv_responder.specs.declared.planning.Plan.{Plan}
use Rattle.uv_responder.specs.Judging.{fits_receive, received_at}
use Rattle.uv_responder.specs.Plans.{saying, some_ending}

-- whether it has the Q_Key of the queue pair
abbrev pub has_qkey : Option Deth → ℕ → Bool
has_qkey None qkey = false
has_qkey (Some d) qkey = d.qkey == qkey

-- the first row that applies
abbrev pub arrival_of : Content → Paired → Lent → Option Receiving → Arrival
arrival_of c p lent next =
    if not (has_qkey c.deth (qkey_of p)) then Unwanted
    else (if is_none next then Unwanted
    else (if not (fits_receive 0 (length c.payload) next) then Unwanted
    else (if not (lent_allows_all lent LocalWrite p.names.domain (received_at next 0 (length c.payload))) then Misplaced
    else Welcome)))

-- its receive ends, which is taken, since a datagram leaves none that is held
abbrev pub ending_datagram : TurnWord → Bool → Option Ending → Paired → Plan
ending_datagram word breaks ends p = record (saying word None p) {
  takes = is_none p.held;
  writes = not breaks;
  breaks = breaks;
  ends = ends;
  responder = record p.responder { message = None };
}

-- what a row does
abbrev pub datagram_plan : Arrival → Content → Paired → Plan
datagram_plan Unwanted c p = saying word.Dropped None p
datagram_plan Misplaced c p = ending_datagram word.Operation true (some_ending status.LocProtErr 0 None) p
datagram_plan Welcome c p = ending_datagram word.Accepted false (some_ending status.Success (length c.payload) c.imm) p

-- where its bytes are written
abbrev pub datagram_pieces : Plan → Content → Option Receiving → List Piece
datagram_pieces plan c next = if plan.writes then received_at next 0 (length c.payload) else []
