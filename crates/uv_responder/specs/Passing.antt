-- What a packet has passed that came as far as a row.
use Rattle.std.specs.Prelude.{◌≡◌, ◌≤◌, ◌&&◌, true, false, is_none, Option, IfSome, length}
use Rattle.uv_num.specs.declared.limits.TheConstants.{WORK_BYTES}
use Rattle.uv_packet.specs.Packets.{Content}
use Rattle.uv_qp.specs.Pairs.{Paired, mtu_of}
use Rattle.uv_region.specs.declared.action.Access.TheVariants.{LocalWrite}
use Rattle.uv_region.specs.Lent.{Lent}
use Rattle.uv_region.specs.Several.{lent_allows_all}
use Rattle.uv_wr.specs.Works.{Receiving, whole_length}
use Rattle.uv_responder.specs.declared.part.Asks.{Asks}
use Rattle.uv_responder.specs.declared.part.Asks.TheVariants.{Sends, Writes, Reads, Invalidates}
use Rattle.uv_responder.specs.declared.part.Part.{Part}
use Rattle.uv_responder.specs.Judging.{bytes_got, fits_receive, has_length, is_in_place, is_sized, reaches, received_at, reth_of, takes_receive}
use Rattle.uv_responder.specs.Parts.{asks_invalidate, asks_send}

-- a read is no longer than a work
abbrev pub IsReadable : Asks → Content → Type 0
IsReadable Sends c = Unit {0}
IsReadable Writes c = Unit {0}
IsReadable Reads c = (reth_of c).length ≤ WORK_BYTES
IsReadable Invalidates c = Unit {0}

-- a receive is no longer than a work
abbrev pub IsShort : Option Receiving → Type 0
IsShort next = IfSome next (λ w. whole_length w.parts ≤ WORK_BYTES)

-- a packet whose receive is looked at
pub record Passes (part : Part) (c : Content) (p : Paired) (next : Option Receiving) : Type 0 where
  pub done : asks_invalidate part.asks ≡ false
  pub place : is_in_place part p.responder.message ≡ true
  pub sized : is_sized part (mtu_of p) (length c.payload) ≡ true
  pub long : has_length part part.asks c p ≡ true
  pub ready : (takes_receive part && is_none next) ≡ false

-- a packet that is carried out
pub record Accepts (part : Part) (c : Content) (p : Paired) (lent : Lent) (next : Option Receiving) : Type 0 where
  pub passes : Passes part c p next
  pub reaches : reaches part part.asks c p lent ≡ true
  pub fits : asks_send part.asks ≡ true → fits_receive (bytes_got p.responder.message) (length c.payload) next ≡ true
  pub placed : asks_send part.asks ≡ true → lent_allows_all lent LocalWrite p.names.domain (received_at next (bytes_got p.responder.message) (length c.payload)) ≡ true
