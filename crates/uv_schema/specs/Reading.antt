-- The request that a call asks for, or the errno that it is refused with.
use Rattle.std.specs.Prelude.{List, Option, Some, None, Result, Ok, Err}
use Rattle.uv_num.specs.declared.errno.Errno.{Errno}
use Rattle.uv_num.specs.declared.errno.Errno.TheVariants.{ProtoNoSupport}
use Rattle.uv_num.specs.declared.request.Request.{Request}
use Rattle.uv_attr.specs.declared.call.Attr.{Attr}
use Rattle.uv_attr.specs.declared.call.Call.{Call}
use Rattle.uv_schema.specs.declared.method.Method.{Method}
use Rattle.uv_schema.specs.Methods.{method_of}
use Rattle.uv_schema.specs.Refusals.{method_refusal}
use Rattle.uv_schema.specs.Values.{request_in}

-- the request, unless it is refused
abbrev pub unless : Option Errno → Request → Result Request Errno
unless None request = Ok request
unless (Some errno) request = Err errno

abbrev pub asked_for : Option Method → List Attr → Result Request Errno
asked_for None attrs = Err ProtoNoSupport
asked_for (Some method) attrs = unless (method_refusal method attrs) (request_in method attrs)

abbrev pub request_of : Call → Result Request Errno
request_of call = asked_for (method_of call.object call.method) call.attrs
