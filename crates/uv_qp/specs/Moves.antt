-- The moves of a queue pair from state to state, and what each makes of it.
use Rattle.std.specs.Prelude.{ℕ, Bool, false, None, is_some, Result, Ok, Err, [], unwrap_or}
use Rattle.uv_num.specs.declared.attrs.QpAttrs.{QpAttrs}
use Rattle.uv_num.specs.declared.errno.Errno.{Errno}
use Rattle.uv_num.specs.declared.qp.QpState.{QpState}
use Rattle.uv_num.specs.declared.qp.QpState.TheVariants as state
use Rattle.uv_num.specs.Attrs.{no_attrs}
use Rattle.uv_num.specs.Modify.{modify_of, move_of}
use Rattle.uv_num.specs.Qp.{qp_state_number, service_number}
use Rattle.uv_queue.specs.Queued.{emptied}
use Rattle.uv_qp.specs.declared.state.Requester.{Requester}
use Rattle.uv_qp.specs.declared.state.Responder.{Responder}
use Rattle.uv_qp.specs.KeptAttrs.{over}
use Rattle.uv_qp.specs.Pairs.{Paired}

-- a requester that has sent nothing, and numbers its packets from this PSN on
abbrev pub starting : ℕ → Requester
starting psn = record { base = psn; una = 0; next = 0; high = 0; asked = 0; paused = false; retried = 0; unready = 0 }

-- a responder to which nothing has come, and which expects this PSN
abbrev pub expecting : ℕ → Responder
expecting psn = record { expected = psn; msn = 0; told = false; message = None; reading = None }

-- the queue pair that begins anew: works go without completions, and all that it was told is forgotten
abbrev pub reset : Paired → Paired
reset p = record p {
  state = state.Reset;
  kept = no_attrs;
  requester = starting 0;
  responder = expecting 0;
  held = None;
  sends = emptied p.sends;
  receives = emptied p.receives;
  sent = [];
  received = [];
}

-- the queue pair in a new state
abbrev pub pair_moved_to : Paired → QpState → QpAttrs → Paired
pair_moved_to p state.Reset attrs = reset p
pair_moved_to p state.Init attrs = record p { state = state.Init; kept = over attrs p.kept }
pair_moved_to p state.Rtr attrs = record p { state = state.Rtr; kept = over attrs p.kept; responder = expecting (unwrap_or attrs.rqpsn 0) }
pair_moved_to p state.Rts attrs = record p { state = state.Rts; kept = over attrs p.kept; requester = starting (unwrap_or attrs.sqpsn 0) }
pair_moved_to p state.Err attrs = record p { state = state.Err }

-- what the table says of a move: the new state, or the errno
abbrev pub verdict_of : Paired → QpState → QpAttrs → Result QpState Errno
verdict_of p to attrs = modify_of (service_number p.service) p.state (qp_state_number to) attrs

-- the queue pair after that: a refused move changes nothing
abbrev pub pair_moved_by : Paired → Result QpState Errno → QpAttrs → Paired
pair_moved_by p (Err errno) attrs = p
pair_moved_by p (Ok to) attrs = pair_moved_to p to attrs

-- what the caller is told
abbrev pub move_answer : Result QpState Errno → Result (Unit {0}) Errno
move_answer (Err errno) = Err errno
move_answer (Ok to) = Ok tt

-- whether the table has a row for two states
abbrev pub has_row : QpState → QpState → Bool
has_row from to = is_some (move_of from to)
