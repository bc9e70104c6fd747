-- The texts of reports, as bytes.
use Rattle.std.specs.Prelude.{ℕ, ◌-◌, Bool, true, false, replicate, List, [], ◌∷◌, ◌++◌, Option, None, Some, codes, flat_map, length}
use Rattle.std.specs.Fmt.{decimal, digits}
use Rattle.uv_num.specs.declared.errno.Errno.{Errno}
use Rattle.uv_num.specs.declared.qp.QpState.{QpState}
use Rattle.uv_num.specs.declared.qp.QpState.TheVariants as qp
use Rattle.uv_num.specs.Errno.{errno_name}
use Rattle.uv_num.specs.Kind.{kind_name}
use Rattle.uv_model.specs.declared.left.Left.{Left}
use Rattle.uv_model.specs.Gone.{gone_of}
use Rattle.uv_report.specs.declared.record.Said.{Said}
use Rattle.uv_report.specs.declared.record.Record.{Record}
use Rattle.uv_machine.specs.declared.entry.Word.{Word}
use Rattle.uv_machine.specs.declared.entry.Word.TheVariants as step
use Rattle.uv_wr.specs.declared.completion.Completion.{Completion}
use Rattle.uv_wr.specs.Statuses.{status_name, what_name}
use Rattle.uv_report.specs.declared.saying.Tearer.{Tearer}
use Rattle.uv_report.specs.declared.saying.Tearer.TheVariants.{Client, Driver}
use Rattle.uv_report.specs.declared.saying.Saying.{Saying}
use Rattle.uv_report.specs.declared.saying.Saying.TheVariants as saying

-- zeros in front of fewer digits than eight
abbrev pub eight_digits : List ℕ → List ℕ
eight_digits ds = replicate (8 - length ds) 48 ++ ds

-- a key or an immediate, in eight small hexadecimal digits
abbrev pub key_text : ℕ → List ℕ
key_text key = codes "0x" ++ eight_digits (digits 16 false key)

-- the state of a queue pair
abbrev pub state_name : QpState → List ℕ
state_name qp.Reset = codes "RESET"
state_name qp.Init = codes "INIT"
state_name qp.Rtr = codes "RTR"
state_name qp.Rts = codes "RTS"
state_name qp.Err = codes "ERR"

-- the word of a step
abbrev pub step_name : Word → List ℕ
step_name step.Reserve = codes "reserve"
step_name step.Look = codes "look"
step_name step.Make = codes "make"
step_name step.Commit = codes "commit"
step_name step.Act = codes "act"
step_name step.Lock = codes "lock"
step_name step.Check = codes "check"
step_name step.Finish = codes "finish"
step_name step.Abort = codes "abort"
step_name step.Free = codes "free"
step_name step.Exit = codes "exit"

-- behind a step that was refused: a blank and the errno
abbrev pub refusal_text : Option Errno → List ℕ
refusal_text None = []
refusal_text (Some errno) = codes " " ++ errno_name errno

-- who tears a file down
abbrev pub tearer_text : Tearer → List ℕ
tearer_text (Client client) = codes "c" ++ decimal client
tearer_text Driver = codes "drv"

-- a file, by its number
abbrev pub file_text : ℕ → List ℕ
file_text file = codes "f" ++ decimal file

-- an object: its file, its kind and its handle
abbrev pub object_text : Left → List ℕ
object_text x = file_text x.file ++ codes " " ++ kind_name x.kind ++ codes " " ++ decimal x.handle

-- after the answer of a poll: whether its completion queue has overrun
abbrev pub overrun_text : Bool → List ℕ
overrun_text true = codes " overrun"
overrun_text false = []

-- after a completion: its immediate, if it has one
abbrev pub immediate_text : Option ℕ → List ℕ
immediate_text None = []
immediate_text (Some imm) = codes " imm " ++ key_text imm

-- a work that was completed: its number, how it ended and what it was
abbrev pub work_text : Completion → List ℕ
work_text c = decimal c.id ++ codes " " ++ status_name c.status ++ codes " " ++ what_name c.what

-- a completion: its work, its length, and the number of its queue pair
abbrev pub completion_text : Completion → List ℕ
completion_text c = codes "wc " ++ work_text c ++ codes " " ++ decimal c.length ++ codes " qpn " ++ decimal c.qpn ++ immediate_text c.imm

-- what a line of a report tells
abbrev pub saying_text : Saying → List ℕ
saying_text saying.Ok = codes "ok"
saying_text (saying.Handle handle) = codes "ok " ++ decimal handle
saying_text (saying.Pair handle number) = codes "ok " ++ decimal handle ++ codes " qpn " ++ decimal number
saying_text (saying.Key handle key) = codes "ok " ++ decimal handle ++ codes " key " ++ key_text key
saying_text (saying.State state number) = codes "ok " ++ state_name state ++ codes " qpn " ++ decimal number
saying_text saying.DeviceFatal = codes "ok DEVICE_FATAL"
saying_text (saying.Refused errno) = errno_name errno
saying_text saying.Began = codes "began"
saying_text (saying.Step word refusal) = step_name word ++ refusal_text refusal
saying_text (saying.Tear file) = codes "tear " ++ file_text file
saying_text (saying.Kill x) = codes "kill " ++ object_text x
saying_text (saying.Gone x) = codes "gone " ++ object_text x
saying_text (saying.Dissociated file) = codes "dissociated " ++ file_text file
saying_text (saying.Closed file) = codes "closed " ++ file_text file
saying_text (saying.NotYet calls) = codes "notyet " ++ decimal calls
saying_text (saying.TornBy tearer) = codes "notyet " ++ tearer_text tearer
saying_text saying.Idle = codes "none"
saying_text (saying.Polled taken overrun) = codes "ok " ++ decimal taken ++ overrun_text overrun
saying_text (saying.Empty overrun) = codes "empty" ++ overrun_text overrun
saying_text (saying.Completed completion) = completion_text completion
saying_text (saying.EventOf cq) = codes "ok cq " ++ decimal cq
saying_text saying.Dead = codes "dead"

-- a text behind the number of its script line
abbrev pub said_line : Said → List ℕ
said_line said = decimal said.line ++ codes " " ++ saying_text said.text ++ 10 ∷ []

-- how many objects were left
abbrev pub left_line : ℕ → List ℕ
left_line left = codes "left " ++ decimal left ++ 10 ∷ []

-- an object that went when the files were closed behind the script
abbrev pub gone_line : Left → List ℕ
gone_line x = codes "end gone " ++ object_text x ++ 10 ∷ []

-- the report of a record: the texts in their order, how many objects were left, and those that went at the end
abbrev pub report_of : Record → List ℕ
report_of told = flat_map said_line told.replies ++ left_line (length told.left) ++ flat_map gone_line (gone_of told.history)
