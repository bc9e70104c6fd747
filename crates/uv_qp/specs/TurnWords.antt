-- The words for what a turn did, as reports print them.
use Rattle.std.specs.Prelude.{ℕ, List, codes}
use Rattle.uv_qp.specs.declared.turns.TurnWord.{TurnWord}
use Rattle.uv_qp.specs.declared.turns.TurnWord.TheVariants.{Answered, Failed, Flushed, Sent, Dead, Dropped, Duplicate, Sequence, Invalid, NotReady, Access, Operation, Accepted, Ignored, Acked, Nak, Response, Woken, Resent}

abbrev pub turn_word_name : TurnWord → List ℕ
turn_word_name Answered = codes "answered"
turn_word_name Failed = codes "failed"
turn_word_name Flushed = codes "flushed"
turn_word_name Sent = codes "sent"
turn_word_name Dead = codes "dead"
turn_word_name Dropped = codes "dropped"
turn_word_name Duplicate = codes "duplicate"
turn_word_name Sequence = codes "sequence"
turn_word_name Invalid = codes "invalid"
turn_word_name NotReady = codes "notready"
turn_word_name Access = codes "access"
turn_word_name Operation = codes "operation"
turn_word_name Accepted = codes "accepted"
turn_word_name Ignored = codes "ignored"
turn_word_name Acked = codes "acked"
turn_word_name Nak = codes "nak"
turn_word_name Response = codes "response"
turn_word_name Woken = codes "woken"
turn_word_name Resent = codes "resent"
