-- What lines ask of the site is in reach.
use Rattle.std.proofs.Common.{◌≡◌, ℕ, Bool, true, false, List, Ok, Err, refl, arith}
use Rattle.std.specs.Prelude.{if◌then◌else◌}
use Rattle.uv_num.specs.Ranges.{is_in_range}
use Rattle.uv_num.specs.declared.errno.Errno.TheVariants.{Inval}
use Rattle.uv_num.specs.declared.request.Request.{Request}
use Rattle.uv_script.specs.Ranges.{IsCaller, MayDo}
use Rattle.uv_script.specs.declared.form.Deed.{Deed}
use Rattle.uv_script.specs.declared.form.Deed.TheVariants as deed
use Rattle.uv_run.specs.declared.reply.Reply.{Reply}
use Rattle.uv_run.specs.Asking.{call_of_verb, request_by, task_of}
use Rattle.uv_run.specs.Ranges.{IsInDeed}

call_if : (a f : ℕ) (request : Request) (v : Bool) → is_in_range request ≡ v → IsCaller a f → IsInDeed a (call_of_verb f request (if v then Ok tt else Err Inval))
call_if a f request true is caller = ((caller.client.first, caller.client.last), caller.below, is)
call_if a f request false is caller = record { first = caller.client.first; last = omega (arith, caller.client.last) }

pub deed_reaches : (a : ℕ) (g : List Reply) (d : Deed) → MayDo a d → IsInDeed a (task_of g d)
deed_reaches a g (deed.Open f d) may = ((may.0.client.first, may.0.client.last), may.0.below, may.1)
deed_reaches a g (deed.Call f verb) may = call_if a f (request_by g verb) (is_in_range (request_by g verb)) refl may
deed_reaches a g (deed.Refused e) may = record { first = may.first; last = omega (arith, may.last) }
deed_reaches a g (deed.Close f) may = ((may.client.first, may.client.last), may.below)
deed_reaches a g (deed.Unplug d) may = may
