-- The request that command bytes ask for, or the errno that they are refused with.
use Rattle.std.specs.Prelude.{ℕ, List, Option, Some, None, Result, Err}
use Rattle.uv_num.specs.declared.errno.Errno.{Errno}
use Rattle.uv_num.specs.declared.errno.Errno.TheVariants.{Inval, NoMem, ProtoNoSupport}
use Rattle.uv_num.specs.declared.request.Request.{Request}
use Rattle.uv_attr.specs.declared.call.Call.{Call}
use Rattle.uv_attr.specs.declared.fault.CallFault.{CallFault}
use Rattle.uv_attr.specs.declared.fault.CallFault.TheVariants as fault
use Rattle.uv_attr.specs.Reading.{call_in}
use Rattle.uv_attr.specs.Refusal.{bytes_refusal}
use Rattle.uv_schema.specs.Reading.{request_of}

-- the errno of each reason for which bytes are no call
abbrev pub fault_errno : CallFault → Errno
fault_errno fault.Inval = Inval
fault_errno fault.ProtoNoSupport = ProtoNoSupport
fault_errno fault.NoMemory = NoMem

-- bytes that are refused are answered by their fault, others by their call
abbrev pub answer_to : Option CallFault → Call → Result Request Errno
answer_to (Some refused) call = Err (fault_errno refused)
answer_to None call = request_of call

abbrev pub command_of : List ℕ → Result Request Errno
command_of bytes = answer_to (bytes_refusal bytes) (call_in bytes)
