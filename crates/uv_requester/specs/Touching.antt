-- What a send turn reads: where the bytes lie of the packet that it would make.
use Rattle.std.specs.Prelude.{ℕ, if◌then◌else◌, Option, None, Some, List, [], slice_get}
use Rattle.uv_num.specs.declared.qp.QpState.{QpState}
use Rattle.uv_num.specs.declared.qp.QpState.TheVariants.{Reset, Init, Rtr, Rts, Err}
use Rattle.uv_num.specs.declared.qp.Service.{Service}
use Rattle.uv_num.specs.declared.qp.Service.TheVariants as service
use Rattle.uv_qp.specs.declared.state.Reading.{Reading}
use Rattle.uv_qp.specs.Pairs.{Paired, mtu_of, next_send}
use Rattle.uv_region.specs.declared.piece.Piece.{Piece}
use Rattle.uv_wr.specs.Works.{Sending}
use Rattle.uv_requester.specs.Answers.{answered_read, response_pieces}
use Rattle.uv_requester.specs.Segments.{pieces_at}
use Rattle.uv_requester.specs.Sends.{is_too_long, next_request}

-- the next response of a read that is answered: it reads a region of the remote key

abbrev pub read_touches : Paired → Option Reading → List Piece
read_touches p None = []
read_touches p (Some r) = response_pieces (mtu_of p) r

abbrev pub response_touches : Paired → List Piece
response_touches p = read_touches p (answered_read p)

-- the next packet of a work, where no read is answered: it reads regions of the parts

abbrev pub work_touches : ℕ → ℕ → Option Sending → List Piece
work_touches mtu at None = []
work_touches mtu at (Some w) = pieces_at mtu w at

abbrev pub place_touches : Paired → Option (ℕ × ℕ) → List Piece
place_touches p None = []
place_touches p (Some l) = work_touches (mtu_of p) l.1 (slice_get p.sends.works l.0)

abbrev pub datagram_touches : ℕ → Option Sending → List Piece
datagram_touches mtu None = []
datagram_touches mtu (Some w) = if is_too_long w then [] else pieces_at mtu w 0

abbrev pub service_touches : Paired → Service → List Piece
service_touches p service.Rc = place_touches p (next_request p)
service_touches p service.Ud = datagram_touches (mtu_of p) (next_send p)

abbrev pub state_touches : Paired → QpState → List Piece
state_touches p Reset = []
state_touches p Init = []
state_touches p Rtr = []
state_touches p Rts = service_touches p p.service
state_touches p Err = []

abbrev pub send_touches_after : Paired → Option Reading → List Piece
send_touches_after p None = state_touches p p.state
send_touches_after p (Some r) = []

abbrev pub send_touches : Paired → List Piece
send_touches p = send_touches_after p (answered_read p)
