-- Laws of an action: what whoever lends things to it can rely on.
use Rattle.std.specs.Prelude.{◌≡◌, ◌≤◌, ◌⊎◌, ℕ, Bool, true, false, Option, None, Some, List, [], ◌∷◌, length}
use Rattle.std.specs.List.{list_all}
use Rattle.uv_wr.specs.declared.completion.Completion.{Completion}
use Rattle.uv_cq.specs.Rings.{push_told, after_push, after_disarm}
use Rattle.uv_packet.specs.Packets.{Content}
use Rattle.uv_qp.specs.Pairs.{Paired}
use Rattle.uv_responder.specs.Turns.{Shared}
use Rattle.uv_engine.specs.declared.lent.CqLent.{CqLent}
use Rattle.uv_engine.specs.declared.lent.Lent.{Lent}
use Rattle.uv_engine.specs.GoingOn.{RingsGoOn}
use Rattle.uv_engine.specs.Ringing.{LentChannel, all_rung, channel_rung, cq_rung, has_event_room, with_event}
use Rattle.uv_engine.specs.Wanting.{is_among, is_region_key, keys_needed}

-- No two of the keys that an action wants lead to one region: each stands once, and there is one at most, or all are keys of regions.
-- A region in a cell has one key at a time.

abbrev pub StandOnce : List ℕ → Type 0
StandOnce [] = Unit {0}
StandOnce (key ∷ keys) = (is_among keys key ≡ false) × StandOnce keys

abbrev pub AreAlone : List ℕ → Type 0
AreAlone keys = (length keys ≤ 1) ⊎ (list_all is_region_key keys ≡ true)

pub record LeadApart (keys : List ℕ) : Type 0 where
  pub once : StandOnce keys
  pub alone : AreAlone keys

abbrev pub WantsApart : Type 0
WantsApart = (p : Paired) (packet : Option Content) (shared : Shared) → LeadApart (keys_needed p packet shared)

-- Nothing that is lent is replaced by ringing: a ring is only pushed to and disarmed, a channel only gets events, and all else is as it
-- was. Each completion comes into its own ring.

pub record RungGoesOn (told : List Completion) (old new : Lent) : Type 0 where
  pub qp : new.qp ≡ old.qp
  pub srq : new.srq ≡ old.srq
  pub regions : new.regions ≡ old.regions
  pub rings : RingsGoOn told old new

abbrev pub RingingGoesOn : Type 0
RingingGoesOn = (lent : Lent) (completions : List Completion) (solicited : Bool) → RungGoesOn completions lent (all_rung lent completions solicited)

-- A ring is disarmed exactly where its channel took the event; else it is armed as it was.

-- no event was told
pub record IsOnlyPushed (cq : CqLent) (channel : LentChannel) (completion : Completion) (solicited : Bool) : Type 0 where
  pub ring_is : (cq_rung cq channel completion solicited).ring ≡ after_push cq.ring completion
  pub events : channel_rung cq channel completion solicited ≡ channel

-- the ring was armed for it, and the channel had room and took the event
pub record IsDisarmed (cq : CqLent) (channel : LentChannel) (completion : Completion) (solicited : Bool) : Type 0 where
  pub due : (push_told cq.ring completion solicited).event ≡ true
  pub room : has_event_room channel ≡ true
  pub ring_is : (cq_rung cq channel completion solicited).ring ≡ after_disarm (after_push cq.ring completion)
  pub events : channel_rung cq channel completion solicited ≡ with_event channel cq.cell

abbrev pub DisarmsWhereTold : Type 0
DisarmsWhereTold =
    (cq : CqLent) (channel : LentChannel) (completion : Completion) (solicited : Bool)
    → IsOnlyPushed cq channel completion solicited ⊎ IsDisarmed cq channel completion solicited
