-- A queue pair goes on from another: it is the same one, and its lists only grew.
use Rattle.std.specs.Prelude.{◌≡◌, ◌++◌, Bool, true, false, not, List, filter}
use Rattle.uv_num.specs.Prefix.{IsPrefix}
use Rattle.uv_wr.specs.declared.completion.Completion.{Completion}
use Rattle.uv_wr.specs.declared.completion.What.{What}
use Rattle.uv_wr.specs.declared.completion.What.TheVariants.{Send, Write, Read, Ud, Recv}
use Rattle.uv_qp.specs.Pairs.{Paired, sends_posted, receives_posted}

-- all but a move to RESET does so
pub record PairGoesOn (old new : Paired) : Type 0 where
  pub names : new.names ≡ old.names
  pub service : new.service ≡ old.service
  pub srq : new.srq ≡ old.srq
  pub send_depth : new.sends.depth ≡ old.sends.depth
  pub receive_depth : new.receives.depth ≡ old.receives.depth
  pub sends_posted : IsPrefix (sends_posted old) (sends_posted new)
  pub receives_posted : IsPrefix (receives_posted old) (receives_posted new)
  pub sent : IsPrefix old.sent new.sent
  pub received : IsPrefix old.received new.received

-- what a turn does

-- whether a completion is of a receive
abbrev pub tells_receive : What → Bool
tells_receive Send = false
tells_receive Write = false
tells_receive Read = false
tells_receive Ud = false
tells_receive Recv = true

abbrev pub is_of_receive : Completion → Bool
is_of_receive c = tells_receive c.what

abbrev pub is_of_send : Completion → Bool
is_of_send c = not (tells_receive c.what)

-- the queue pair goes on, the lists of completions gained those that were told, each its own, and no send was posted
pub record TurnGoesOn (old : Paired) (told : List Completion) (new : Paired) : Type 0 where
  pub pair : PairGoesOn old new
  pub sent : new.sent ≡ old.sent ++ filter is_of_send told
  pub received : new.received ≡ old.received ++ filter is_of_receive told
  pub posted : sends_posted new ≡ sends_posted old
