-- What an action leaves of all that was lent to it goes on from it: nothing is replaced.
use Rattle.std.specs.Prelude.{◌≡◌, ◌⊎◌, Bool, true, false, Option, None, Some, List, [], ◌∷◌, filter}
use Rattle.std.specs.List.{list_all}
use Rattle.uv_num.specs.Prefix.{IsPrefix}
use Rattle.uv_queue.specs.Queued.{after_pop}
use Rattle.uv_wr.specs.declared.completion.Completion.{Completion}
use Rattle.uv_cq.specs.Rings.{Ringed}
use Rattle.uv_cq.specs.Uses.{Use, after_uses}
use Rattle.uv_cq.specs.Uses.Use.{Pushes, Polls, Arms, Disarms}
use Rattle.uv_qp.specs.GoingOn.{TurnGoesOn, is_of_receive, is_of_send}
use Rattle.uv_region.specs.GoingOn.{LentGoesOn}
use Rattle.uv_responder.specs.Turns.{Shared}
use Rattle.uv_engine.specs.declared.lent.CqLent.{CqLent}
use Rattle.uv_engine.specs.declared.lent.Lent.{Lent}
use Rattle.uv_engine.specs.Ringing.{LentChannel}

-- a ring is only pushed to and disarmed

abbrev pub is_ringing : Use → Bool
is_ringing (Pushes completion solicited) = true
is_ringing Polls = false
is_ringing (Arms solicited) = false
is_ringing Disarms = true

-- the completions that uses push, in order
abbrev pub pushed_in : List Use → List Completion
pushed_in [] = []
pushed_in (Pushes completion solicited ∷ uses) = completion ∷ pushed_in uses
pushed_in (Polls ∷ uses) = pushed_in uses
pushed_in (Arms solicited ∷ uses) = pushed_in uses
pushed_in (Disarms ∷ uses) = pushed_in uses

-- these completions came into it
pub record RingGoesOn (told : List Completion) (old new : Ringed) : Type 0 where
  pub uses : List Use
  pub ring : new ≡ after_uses old uses
  pub only : list_all is_ringing uses ≡ true
  pub pushes : pushed_in uses ≡ told

pub record CqGoesOn (told : List Completion) (old new : CqLent) : Type 0 where
  pub cell : new.cell ≡ old.cell
  pub channel : new.channel ≡ old.channel
  pub ring : RingGoesOn told old.ring new.ring

abbrev pub ReceiveGoesOn : List Completion → Option CqLent → Option CqLent → Type 0
ReceiveGoesOn told None None = Unit {0}
ReceiveGoesOn told None (Some new) = ⊥
ReceiveGoesOn told (Some old) None = ⊥
ReceiveGoesOn told (Some old) (Some new) = CqGoesOn (filter is_of_receive told) old new

-- the completions that come into the ring of the sends: all, where the receives have none of their own
abbrev pub told_to_sends : Option CqLent → List Completion → List Completion
told_to_sends None told = told
told_to_sends (Some receive) told = filter is_of_send told

-- a channel only gets events
abbrev pub ChannelGoesOn : LentChannel → LentChannel → Type 0
ChannelGoesOn None None = Unit {0}
ChannelGoesOn None (Some new) = ⊥
ChannelGoesOn (Some old) None = ⊥
ChannelGoesOn (Some old) (Some new) = IsPrefix old new

-- the rings and channels, into which these completions came, each into its own ring
pub record RingsGoOn (told : List Completion) (old new : Lent) : Type 0 where
  pub send : CqGoesOn (told_to_sends old.receive told) old.send new.send
  pub receive : ReceiveGoesOn told old.receive new.receive
  pub send_channel : ChannelGoesOn old.send_channel new.send_channel
  pub receive_channel : ChannelGoesOn old.receive_channel new.receive_channel

-- a shared receive queue only loses its oldest work
abbrev pub SharedGoesOn : Shared → Shared → Type 0
SharedGoesOn None None = Unit {0}
SharedGoesOn None (Some new) = ⊥
SharedGoesOn (Some old) None = ⊥
SharedGoesOn (Some old) (Some new) = (new ≡ old) ⊎ (new ≡ after_pop old)

-- all that was lent: the lists of the queue pair gained the completions that came into its rings, and it alone acted on the
-- regions, for its own domain and through the windows that they are reached through
pub record ActionGoesOn (old new : Lent) : Type 0 where
  pub told : List Completion
  pub pair : TurnGoesOn old.qp told new.qp
  pub regions : LentGoesOn old.qp.names.object old.qp.names.domain old.regions new.regions
  pub shared : SharedGoesOn old.srq new.srq
  pub rings : RingsGoOn told old new
