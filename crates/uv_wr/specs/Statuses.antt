-- The numbers and symbols of completion statuses, as Linux has them, and the words for what was completed.
use Rattle.std.specs.Prelude.{ℕ, Bool, true, false, Option, List, [], ◌∷◌, codes, ◌==◌, find}
use Rattle.uv_wr.specs.declared.completion.Status.{Status}
use Rattle.uv_wr.specs.declared.completion.Status.TheVariants.{Success, LocLenErr, LocProtErr, WrFlushErr, RemInvReqErr, RemAccessErr, RemOpErr, RetryExcErr, RnrRetryExcErr}
use Rattle.uv_wr.specs.declared.completion.What.{What}
use Rattle.uv_wr.specs.declared.completion.What.TheVariants.{Send, Write, Read, Ud, Recv}

-- the number of a status in `enum ib_wc_status`
abbrev pub status_number : Status → ℕ
status_number Success = 0
status_number LocLenErr = 1
status_number LocProtErr = 4
status_number WrFlushErr = 5
status_number RemInvReqErr = 9
status_number RemAccessErr = 10
status_number RemOpErr = 11
status_number RetryExcErr = 12
status_number RnrRetryExcErr = 13

-- the symbol of a status
abbrev pub status_name : Status → List ℕ
status_name Success = codes "SUCCESS"
status_name LocLenErr = codes "LOC_LEN_ERR"
status_name LocProtErr = codes "LOC_PROT_ERR"
status_name WrFlushErr = codes "WR_FLUSH_ERR"
status_name RemInvReqErr = codes "REM_INV_REQ_ERR"
status_name RemAccessErr = codes "REM_ACCESS_ERR"
status_name RemOpErr = codes "REM_OP_ERR"
status_name RetryExcErr = codes "RETRY_EXC_ERR"
status_name RnrRetryExcErr = codes "RNR_RETRY_EXC_ERR"

-- all statuses, by their numbers
abbrev pub statuses : List Status
statuses = Success ∷ LocLenErr ∷ LocProtErr ∷ WrFlushErr ∷ RemInvReqErr ∷ RemAccessErr ∷ RemOpErr ∷ RetryExcErr ∷ RnrRetryExcErr ∷ []

abbrev pub has_status_number : ℕ → Status → Bool
has_status_number n status = status_number status == n

-- the status that has a number, if one has
abbrev pub status_of : ℕ → Option Status
status_of n = find (has_status_number n) statuses

-- whether a status tells that the work failed
abbrev pub is_failure : Status → Bool
is_failure Success = false
is_failure LocLenErr = true
is_failure LocProtErr = true
is_failure WrFlushErr = true
is_failure RemInvReqErr = true
is_failure RemAccessErr = true
is_failure RemOpErr = true
is_failure RetryExcErr = true
is_failure RnrRetryExcErr = true

-- whether what was completed was a work of a receive queue, and not of a send queue
abbrev pub is_receive : What → Bool
is_receive Send = false
is_receive Write = false
is_receive Read = false
is_receive Ud = false
is_receive Recv = true

-- the word for what was completed
abbrev pub what_name : What → List ℕ
what_name Send = codes "SEND"
what_name Write = codes "WRITE"
what_name Read = codes "READ"
what_name Ud = codes "UD"
what_name Recv = codes "RECV"
