-- What a turn tells, and how works end by it.
use Rattle.std.specs.Prelude.{◌≡◌, ℕ, zero, suc, Option, None, Some, List, [], ◌++◌, map, is_some, if◌then◌else◌}
use Rattle.std.specs.Option.{option_map, option_to_list}
use Rattle.uv_packet.specs.declared.packet.Packet.{Packet}
use Rattle.uv_packet.specs.Packets.{Content, content_of}
use Rattle.uv_qp.specs.declared.turns.TurnDone.{TurnDone}
use Rattle.uv_qp.specs.declared.turns.TurnDone.TheVariants.{Turned, Idle, NoMemory}
use Rattle.uv_qp.specs.declared.turns.TurnWord.{TurnWord}
use Rattle.uv_qp.specs.declared.turns.TurnWord.TheVariants as word
use Rattle.uv_qp.specs.GoingOn.{TurnGoesOn}
use Rattle.uv_qp.specs.Pairs.{Paired, next_receive, next_send}
use Rattle.uv_qp.specs.Writers.{broken, receive_completed, receive_completion, send_completed, send_completion}
use Rattle.uv_region.specs.Lent.{Lent, StaysKnown}
use Rattle.uv_wr.specs.declared.completion.Completion.{Completion}
use Rattle.uv_wr.specs.declared.completion.Status.{Status}
use Rattle.uv_wr.specs.declared.completion.Status.TheVariants.{WrFlushErr}

-- what a turn makes: its word, the device that its packets go to, these, the completions that it tells, and the queue pair
pub record Made : Type 0 where
  pub word : TurnWord
  pub to : ℕ
  pub packets : List Content
  pub completions : List Completion
  pub pair : Paired

-- what is told is what was made
pub record IsTold (m : Made) (told : TurnWord) (to : ℕ) (packets : List Packet) (completions : List Completion) (q : Paired) : Type 0 where
  pub word : told ≡ m.word
  pub device : to ≡ m.to
  pub sent : map content_of packets ≡ m.packets
  pub ended : completions ≡ m.completions
  pub pair : q ≡ m.pair

-- what each answer of a turn says, where this is made, or nothing is. Want of memory is met after it is clear that something is
abbrev pub MadeGives : Paired → Option Made → TurnDone → Paired → Type 0
MadeGives p None (Turned told to packets completions) q = ⊥
MadeGives p None Idle q = q ≡ p
MadeGives p None NoMemory q = ⊥
MadeGives p (Some m) (Turned told to packets completions) q = IsTold m told to packets completions q
MadeGives p (Some m) Idle q = ⊥
MadeGives p (Some m) NoMemory q = q ≡ p

-- what becomes of the regions that are lent to a turn, which makes them so: where memory runs out, nothing that counts
abbrev pub LentGives : Lent → Lent → TurnDone → Lent → Type 0
LentGives lent made (Turned told to packets completions) after = after ≡ made
LentGives lent made Idle after = after ≡ lent
LentGives lent made NoMemory after = StaysKnown lent after

-- the queue pair goes on, and its lists gain what is told
abbrev pub GoesOnByMade : Paired → Made → Type 0
GoesOnByMade p m = TurnGoesOn p m.completions m.pair

-- how sends end

-- the completion of the oldest send, if one waits
abbrev pub ends_next : Paired → Status → List Completion
ends_next p status = option_to_list (option_map (send_completion p.names status) (next_send p))

-- the oldest sends, so many, are flushed
abbrev pub sends_flushed : Paired → ℕ → Paired
sends_flushed p zero = p
sends_flushed p (suc n) = send_completed (sends_flushed p n) WrFlushErr

abbrev pub flush_completions : Paired → ℕ → List Completion
flush_completions p zero = []
flush_completions p (suc n) = flush_completions p n ++ ends_next (sends_flushed p n) WrFlushErr

-- the send at a place ends with a status that breaks the queue pair, and those that are older are flushed
abbrev pub failed_at : Paired → ℕ → Status → Made
failed_at p place status =
    let flushed = sends_flushed (broken p) place in
    record {
      word = word.Failed;
      to = 0;
      packets = [];
      completions = flush_completions (broken p) place ++ ends_next flushed status;
      pair = send_completed flushed status;
    }

-- how a broken queue pair is flushed: the oldest send at each turn, and where none waits, the next receive. A shared receive
-- queue is never flushed

abbrev pub send_flushed : Paired → Made
send_flushed p = record {
  word = word.Flushed;
  to = 0;
  packets = [];
  completions = ends_next p WrFlushErr;
  pair = send_completed p WrFlushErr;
}

abbrev pub receive_flushed : Paired → Made
receive_flushed p = record {
  word = word.Flushed;
  to = 0;
  packets = [];
  completions = option_to_list (option_map (receive_completion p.names WrFlushErr 0 None) (next_receive p));
  pair = receive_completed p WrFlushErr 0 None;
}

abbrev pub flush_made : Paired → Option Made
flush_made p =
    if is_some (next_send p) then Some (send_flushed p)
    else (if is_some (next_receive p) then Some (receive_flushed p) else None)
