use Rattle.std.proofs.Common.{◌≡◌, ℕ, List, Option, Some, None, Ok, Err, refl, ap, ◌∙◌}
use Rattle.std.specs.Prelude.{Result}
use Rattle.uv_num.specs.declared.errno.Errno.{Errno}
use Rattle.uv_num.specs.declared.request.Request.{Request}
use Rattle.uv_attr.specs.declared.call.Call.{Call}
use Rattle.uv_attr.specs.declared.fault.CallFault.{CallFault}
use Rattle.uv_attr.specs.Reading.{call_in}
use Rattle.uv_attr.specs.Refusal.{bytes_refusal}
use Rattle.uv_schema.specs.Commands.{answer_to}
use Rattle.uv_schema.specs.Reading.{request_of}
use Rattle.uv_schema.proofs.commands.command.Goals as goal

abbrev IsRefused : Call → CallFault → Type 0
IsRefused call fault = let read : Result Call CallFault = Ok call in read ≡ Err fault

-- bytes of which a call was read are not refused
answered : (bytes : List ℕ) (call : Call) (refused : Option CallFault) (answer : Result Request Errno)
    → ((fault : CallFault) → refused ≡ Some fault → IsRefused call fault) → call ≡ call_in bytes → answer ≡ request_of call
    → answer ≡ answer_to refused (call_in bytes)
answered bytes call None answer refusal read is = is ∙ ap request_of read
answered bytes call (Some fault) answer refusal read is = absurd (let no : IsRefused call fault = refusal fault refl in cc)

pub returns-in-Ok-clause-answer : goal.returns-in-Ok-clause-answer
returns-in-Ok-clause-answer c =
    answered c.args.bytes.now c.in-Ok.call (bytes_refusal c.args.bytes.now) c.request_of.result c.in-Ok.ensures.refused c.in-Ok.ensures.read c.request_of.ensures
