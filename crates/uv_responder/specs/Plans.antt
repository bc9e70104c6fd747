-- What each row of the table does.
use Rattle.std.specs.Prelude.{ℕ, ◌+◌, ◌-◌, ◌%◌, ◌==◌, ◌&&◌, true, false, not, if◌then◌else◌, Option, None, Some, List, [], ◌∷◌, length}
use Rattle.uv_num.specs.declared.limits.TheConstants.{PSNS}
use Rattle.uv_packet.specs.declared.syndrome.TheConstants.{ACK, RNR, NAK_SEQUENCE, NAK_INVALID, NAK_ACCESS, NAK_OPERATION}
use Rattle.uv_packet.specs.Packets.{Content}
use Rattle.uv_qp.specs.declared.state.Message.{Message}
use Rattle.uv_qp.specs.declared.state.Message.TheVariants as message
use Rattle.uv_qp.specs.declared.state.Reading.{Reading}
use Rattle.uv_qp.specs.declared.state.Responder.{Responder}
use Rattle.uv_qp.specs.declared.turns.TurnWord.{TurnWord}
use Rattle.uv_qp.specs.declared.turns.TurnWord.TheVariants as word
use Rattle.uv_qp.specs.PacketCounts.{packets_in}
use Rattle.uv_qp.specs.Pairs.{Paired, mtu_of, rnr_timer_of}
use Rattle.uv_region.specs.declared.action.Access.{Access}
use Rattle.uv_region.specs.declared.action.Access.TheVariants.{LocalWrite, RemoteWrite}
use Rattle.uv_region.specs.declared.piece.Piece.{Piece}
use Rattle.uv_wr.specs.declared.completion.Status.{Status}
use Rattle.uv_wr.specs.declared.completion.Status.TheVariants as status
use Rattle.uv_wr.specs.Works.{Receiving}
use Rattle.uv_responder.specs.declared.answering.Told.{Told}
use Rattle.uv_responder.specs.declared.judging.Judgement.{Judgement}
use Rattle.uv_responder.specs.declared.judging.Judgement.TheVariants as judgement
use Rattle.uv_responder.specs.declared.part.Asks.{Asks}
use Rattle.uv_responder.specs.declared.part.Asks.TheVariants.{Sends, Writes, Reads, Invalidates}
use Rattle.uv_responder.specs.declared.part.Part.{Part}
use Rattle.uv_responder.specs.declared.planning.Ending.{Ending}
use Rattle.uv_responder.specs.declared.planning.Plan.{Plan}
use Rattle.uv_responder.specs.Answers.{telling, telling_if, psn_before}
use Rattle.uv_responder.specs.Judging.{reth_of, bytes_got, next_range, received_at, takes_receive}

-- what an accepted packet does

-- how many bytes of a write have come
abbrev pub bytes_written : Option Message → ℕ
bytes_written None = 0
bytes_written (Some (message.Send got)) = 0
bytes_written (Some (message.Write key at got left)) = got

-- how many PSNs it takes: a read those of its response
abbrev pub psns_of : Asks → Content → Paired → ℕ
psns_of Sends c p = 1
psns_of Writes c p = 1
psns_of Reads c p = packets_in (mtu_of p) (reth_of c).length
psns_of Invalidates c p = 1

-- the write that goes on
abbrev pub write_goes_on : Option Message → ℕ → Option Message
write_goes_on None size = None
write_goes_on (Some (message.Send got)) size = None
write_goes_on (Some (message.Write key at got left)) size = Some (message.Write key at (got + size) (left - size))

-- the write that begins
abbrev pub write_begins : Content → Option Message
write_begins c = Some (message.Write (reth_of c).key (reth_of c).at (length c.payload) ((reth_of c).length - length c.payload))

-- the message that is in progress after a packet that isn't its last
abbrev pub message_begun : Part → Asks → Content → Responder → Option Message
message_begun part Sends c r = Some (message.Send (bytes_got r.message + length c.payload))
message_begun part Writes c r = if part.first then write_begins c else write_goes_on r.message (length c.payload)
message_begun part Reads c r = None
message_begun part Invalidates c r = None

-- the read that is to be answered
abbrev pub reading_from : Content → Reading
reading_from c = record { key = (reth_of c).key; at = (reth_of c).at; length = (reth_of c).length; psn = c.psn; sent = 0 }

abbrev pub reading_begun : Asks → Content → Responder → Option Reading
reading_begun Sends c r = r.reading
reading_begun Writes c r = r.reading
reading_begun Reads c r = Some (reading_from c)
reading_begun Invalidates c r = r.reading

-- where the responder stands then: the MSN grows with each message that ends
abbrev pub gone_on : Part → Content → Paired → Responder
gone_on part c p = record {
  expected = (p.responder.expected + psns_of part.asks c p) % PSNS;
  msn = if part.last then (p.responder.msn + 1) % PSNS else p.responder.msn;
  told = false;
  message = if part.last then None else message_begun part part.asks c p.responder;
  reading = reading_begun part.asks c p.responder;
}

-- how a receive ends, if one does: it tells the length of the message and its immediate
abbrev pub some_ending : Status → ℕ → Option ℕ → Option Ending
some_ending status length imm = Some (record { status = status; length = length; imm = imm })

abbrev pub ended_by : Part → Asks → Content → Responder → Option Ending
ended_by part Sends c r = if part.last then some_ending status.Success (bytes_got r.message + length c.payload) c.imm else None
ended_by part Writes c r = if part.last && part.imm then some_ending status.Success (bytes_written r.message + length c.payload) c.imm else None
ended_by part Reads c r = None
ended_by part Invalidates c r = None

-- the rows

-- nothing changes but what is told
abbrev pub saying : TurnWord → Option Told → Paired → Plan
saying word told p = record { word = word; told = told; takes = false; writes = false; breaks = false; ends = None; responder = p.responder }

-- the queue pair breaks
abbrev pub refusing : TurnWord → ℕ → Content → Paired → Plan
refusing word syndrome c p = record (saying word (telling syndrome c.psn) p) { breaks = true }

-- and the receive of the message ends, which is taken where none was
abbrev pub failing_receive : TurnWord → ℕ → Status → Part → Content → Paired → Plan
failing_receive word syndrome status part c p = record (refusing word syndrome c p) {
  takes = takes_receive part;
  ends = some_ending status 0 None;
  responder = record p.responder { message = None };
}

-- it is carried out
abbrev pub accepting : Part → Content → Paired → Plan
accepting part c p = record {
  word = word.Accepted;
  told = telling_if c.ack ACK c.psn;
  takes = takes_receive part;
  writes = true;
  breaks = false;
  ends = ended_by part part.asks c p.responder;
  responder = gone_on part c p;
}

-- a read is answered, in place of any other
abbrev pub rereading : Content → Paired → Plan
rereading c p = record (saying word.Duplicate None p) { responder = record p.responder { reading = Some (reading_from c) } }

-- what is missing is told once, until a packet is accepted
abbrev pub asking_once : Paired → Plan
asking_once p = record (saying word.Sequence (telling_if (not p.responder.told) NAK_SEQUENCE p.responder.expected) p) { responder = record p.responder { told = true } }

-- what a row does
abbrev pub row_plan : Judgement → Part → Content → Paired → Plan
row_plan judgement.Duplicate part c p = saying word.Duplicate (telling_if c.ack ACK (psn_before p.responder.expected)) p
row_plan judgement.Reread part c p = rereading c p
row_plan judgement.Stale part c p = saying word.Dropped None p
row_plan judgement.Ahead part c p = asking_once p
row_plan judgement.Busy part c p = saying word.Dropped None p
row_plan judgement.Invalid part c p = refusing word.Invalid NAK_INVALID c p
row_plan judgement.NotReady part c p = saying word.NotReady (telling (RNR + rnr_timer_of p) c.psn) p
row_plan judgement.Denied part c p = refusing word.Access NAK_ACCESS c p
row_plan judgement.TooLong part c p = failing_receive word.Invalid NAK_INVALID status.LocLenErr part c p
row_plan judgement.Unplaced part c p = failing_receive word.Operation NAK_OPERATION status.LocProtErr part c p
row_plan judgement.Accepted part c p = accepting part c p

-- where the bytes of an accepted packet go

abbrev pub kind_of_write : Asks → Access
kind_of_write Sends = LocalWrite
kind_of_write Writes = RemoteWrite
kind_of_write Reads = RemoteWrite
kind_of_write Invalidates = LocalWrite

-- a piece, if it has bytes
abbrev pub piece_with_bytes : Piece → List Piece
piece_with_bytes piece = if piece.length == 0 then [] else piece ∷ []

-- where those of a write go: at a first they are fewer than the range that is tested
abbrev pub written_range : Part → Content → Responder → Piece
written_range part c r =
    if part.first then record { key = (reth_of c).key; offset = (reth_of c).at; length = length c.payload }
    else next_range r.message (length c.payload)

abbrev pub pieces_for : Part → Asks → Content → Paired → Option Receiving → List Piece
pieces_for part Sends c p next = received_at next (bytes_got p.responder.message) (length c.payload)
pieces_for part Writes c p next = piece_with_bytes (written_range part c p.responder)
pieces_for part Reads c p next = []
pieces_for part Invalidates c p next = []

-- where bytes are written: nowhere unless the packet is accepted
abbrev pub pieces_written : Plan → Part → Content → Paired → Option Receiving → List Piece
pieces_written plan part c p next = if plan.writes then pieces_for part part.asks c p next else []
