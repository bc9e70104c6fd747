-- What lines ask of the site.
use Rattle.std.specs.Prelude.{ℕ, List, [], ◌∷◌, Option, Result, Ok, Err, option_map}
use Rattle.uv_num.specs.declared.errno.Errno.{Errno}
use Rattle.uv_num.specs.declared.kind.Kind.{Kind}
use Rattle.uv_num.specs.declared.kind.Kind.TheVariants as kind
use Rattle.uv_num.specs.declared.request.Request.{Request}
use Rattle.uv_num.specs.declared.request.Request.TheVariants as request
use Rattle.uv_schema.specs.Check.{checked}
use Rattle.uv_script.specs.declared.form.Deed.{Deed}
use Rattle.uv_script.specs.declared.form.Deed.TheVariants as deed
use Rattle.uv_script.specs.declared.form.Handle.{Handle}
use Rattle.uv_script.specs.declared.form.Verb.{Verb}
use Rattle.uv_script.specs.declared.form.Verb.TheVariants as verb
use Rattle.uv_run.specs.declared.flight.Task.{Task}
use Rattle.uv_run.specs.declared.flight.Task.TheVariants as task
use Rattle.uv_run.specs.declared.reply.Reply.{Reply}
use Rattle.uv_run.specs.Stand.{handle_of}

-- what a line asked of the site
pub record Asking : Type 0 where
  pub line : ℕ
  pub actor : ℕ
  pub task : Task

abbrev pub handle_if : List Reply → Option Handle → Option ℕ
handle_if replies h = option_map (handle_of replies) h

abbrev pub destroy_request : Kind → ℕ → Request
destroy_request kind.Pd h = request.DeallocPd h
destroy_request kind.Channel h = request.DestroyChannel h
destroy_request kind.Cq h = request.DestroyCq h
destroy_request kind.Qp h = request.DestroyQp h
destroy_request kind.Srq h = request.DestroySrq h
destroy_request kind.Ah h = request.DestroyAh h
destroy_request kind.Mr h = request.DeregMr h
destroy_request kind.Mw h = request.DeallocMw h

-- the request of a call, after these replies
abbrev pub request_by : List Reply → Verb → Request
request_by g verb.AllocPd = request.AllocPd
request_by g verb.CreateChannel = request.CreateChannel
request_by g (verb.CreateCq depth channel) = request.CreateCq depth (handle_if g channel)
request_by g (verb.CreateSrq pd depth) = request.CreateSrq (handle_of g pd) depth
request_by g (verb.CreateQp pd send_cq recv_cq srq service send_depth recv_depth) =
    request.CreateQp (handle_of g pd) (handle_of g send_cq) (handle_of g recv_cq) (handle_if g srq) service send_depth recv_depth
request_by g (verb.CreateAh pd device) = request.CreateAh (handle_of g pd) device
request_by g (verb.RegMr pd length access) = request.RegMr (handle_of g pd) length access
request_by g (verb.AllocMw pd) = request.AllocMw (handle_of g pd)
request_by g (verb.Destroy kind object) = destroy_request kind (handle_of g object)
request_by g (verb.BindMw mw mr offset length access) = request.BindMw (handle_of g mw) (handle_if g mr) offset length access
request_by g verb.GetAsync = request.GetAsync

-- a request with a number out of its range is refused before it asks anything of the site
abbrev pub call_of_verb : ℕ → Request → Result (Unit {0}) Errno → Result Task Errno
call_of_verb f request (Ok u) = Ok (task.Calls f request)
call_of_verb f request (Err e) = Err e

-- what a line asks of the site, or its refusal before anything begins
abbrev pub task_of : List Reply → Deed → Result Task Errno
task_of g (deed.Open f d) = Ok (task.Opens f d)
task_of g (deed.Call f verb) = call_of_verb f (request_by g verb) (checked (request_by g verb))
task_of g (deed.Refused e) = Err e
task_of g (deed.Close f) = Ok (task.Closes f)
task_of g (deed.Unplug d) = Ok (task.Unplugs d)

abbrev pub asking_of : ℕ → ℕ → Result Task Errno → List Asking
asking_of n a (Ok t) = record { line = n; actor = a; task = t } ∷ []
asking_of n a (Err e) = []
