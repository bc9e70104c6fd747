-- What entries do with contents is in range where the calls' requests are.
use Rattle.std.proofs.Common.{◌≡◌, ℕ, Bool, true, false, Option, None, Some, sym, subst}
use Rattle.std.specs.Prelude.{◌&&◌, if◌then◌else◌}
use Rattle.uv_num.specs.declared.attrs.QpAttrs.{QpAttrs}
use Rattle.uv_num.specs.declared.errno.Errno.{Errno}
use Rattle.uv_num.specs.declared.kind.Kind.{Kind}
use Rattle.uv_num.specs.declared.request.Act.{Act}
use Rattle.uv_num.specs.declared.request.Act.TheVariants.{Modify, Query, Bind, Unbind, Async}
use Rattle.uv_num.specs.declared.request.Role.{Role}
use Rattle.uv_num.specs.declared.request.Role.TheVariants.{Creates, Destroys, Acts}
use Rattle.uv_num.specs.declared.request.Request.{Request}
use Rattle.uv_num.specs.declared.request.Request.TheVariants.{AllocPd, DeallocPd, CreateChannel, DestroyChannel, CreateCq, DestroyCq, CreateQp, DestroyQp, ModifyQp, QueryQp, CreateSrq, DestroySrq, CreateAh, DestroyAh, RegMr, DeregMr, AllocMw, DeallocMw, BindMw, GetAsync}
use Rattle.uv_num.specs.Ranges.{attrs_in_range, is_in_range, is_state}
use Rattle.uv_num.specs.Request.{binds, role_of}
use Rattle.uv_machine.specs.declared.call.InFlight.{InFlight}
use Rattle.uv_machine.specs.declared.entry.Answer.{Answer}
use Rattle.uv_machine.specs.declared.entry.Word.{Word}
use Rattle.uv_machine.specs.declared.entry.Word.TheVariants.{Reserve, Look, Make, Commit, Act as Acting, Lock, Check, Finish, Abort, Free, Exit}
use Rattle.uv_machine.specs.declared.moves.Move.{Move}
use Rattle.uv_machine.specs.declared.moves.Move.TheVariants as move
use Rattle.uv_machine.specs.declared.moves.Slot.TheVariants.{OfCall, OfTeardown}
use Rattle.uv_machine.specs.declared.object.Object.{Object}
use Rattle.uv_machine.specs.declared.state.State.{State}
use Rattle.uv_machine.specs.Effects.{refusal_in}
use Rattle.uv_machine.specs.Moves.{act_move, bind_move, cell_seen, check_move, finish_move, gone_move, kill_move, make_move, modify_move, move_unless, plant_move, role_move, step_move, unbind_move, word_move}
use Rattle.uv_machine.specs.Objects.{is_doomed, is_live}
use Rattle.uv_machine.specs.States.{call_of, home_cell, object_with}
use Rattle.uv_world.specs.Owing.{MoveFits}

and_right : (a b : Bool) → (a && b) ≡ true → b ≡ true
and_right true b e = e
and_right false b e = absurd (cc)

-- a modify's attributes are in range
abbrev ActFits : Act → Type 0
ActFits (Modify to attrs) = attrs_in_range attrs ≡ true
ActFits Query = Unit {0}
ActFits (Bind offset length access) = Unit {0}
ActFits (Unbind offset length access) = Unit {0}
ActFits Async = Unit {0}

abbrev RoleFits : Role → Type 0
RoleFits (Creates kind) = Unit {0}
RoleFits (Destroys asked) = Unit {0}
RoleFits (Acts act) = ActFits act

binds_fits : (mr : Option ℕ) (offset length access : ℕ) → ActFits (binds mr offset length access)
binds_fits None offset length access = tt
binds_fits (Some mr) offset length access = tt

role_fits : (q : Request) → is_in_range q ≡ true → RoleFits (role_of q)
role_fits AllocPd e = tt
role_fits (DeallocPd pd) e = tt
role_fits CreateChannel e = tt
role_fits (DestroyChannel channel) e = tt
role_fits (CreateCq depth channel) e = tt
role_fits (DestroyCq cq) e = tt
role_fits (CreateQp pd send_cq recv_cq srq service send_depth recv_depth) e = tt
role_fits (DestroyQp qp) e = tt
role_fits (ModifyQp qp to attrs) e = and_right (is_state to) (attrs_in_range attrs) e
role_fits (QueryQp qp) e = tt
role_fits (CreateSrq pd depth) e = tt
role_fits (DestroySrq srq) e = tt
role_fits (CreateAh pd device) e = tt
role_fits (DestroyAh ah) e = tt
role_fits (RegMr pd length access) e = tt
role_fits (DeregMr mr) e = tt
role_fits (AllocMw pd) e = tt
role_fits (DeallocMw mw) e = tt
role_fits (BindMw mw mr offset length access) e = binds_fits mr offset length access
role_fits GetAsync e = tt

unless_fits : (r : Option Errno) (step : Move) → MoveFits step → MoveFits (move_unless r step)
unless_fits None step fits = fits
unless_fits (Some e) step fits = tt

if_fits : (b : Bool) (step : Move) → MoveFits step → MoveFits (if b then step else move.Stays)
if_fits true step fits = fits
if_fits false step fits = tt

plant_fits : (m : State) (c : ℕ) (call : InFlight) (o : ℕ) (k : Kind) (cell : Option ℕ) → MoveFits (plant_move m c call o k cell)
plant_fits m c call o k None = tt
plant_fits m c call o k (Some index) = tt

make_fits : (m : State) (c : ℕ) (call : InFlight) (o : ℕ) (r : Role) → MoveFits (make_move m c call o r)
make_fits m c call o (Creates k) = plant_fits m c call o k (home_cell m k)
make_fits m c call o (Destroys asked) = tt
make_fits m c call o (Acts act) = tt

modify_fits : (at : Option ℕ) (to : ℕ) (attrs : QpAttrs) → attrs_in_range attrs ≡ true → MoveFits (modify_move at to attrs)
modify_fits None to attrs e = tt
modify_fits (Some at) to attrs e = e

bind_fits : (window region : Option ℕ) (offset length access : ℕ) → MoveFits (bind_move window region offset length access)
bind_fits None region offset length access = tt
bind_fits (Some window) None offset length access = tt
bind_fits (Some window) (Some region) offset length access = tt

unbind_fits : (window : Option ℕ) → MoveFits (unbind_move window)
unbind_fits None = tt
unbind_fits (Some window) = tt

act_fits : (m : State) (call : InFlight) (act : Act) → ActFits act → MoveFits (act_move m call act)
act_fits m call (Modify to attrs) e = modify_fits (cell_seen m 0 call) to attrs e
act_fits m call Query e = tt
act_fits m call (Bind offset length access) e = bind_fits (cell_seen m 0 call) (cell_seen m 1 call) offset length access
act_fits m call (Unbind offset length access) e = unbind_fits (cell_seen m 0 call)
act_fits m call Async e = tt

acts_fits : (m : State) (call : InFlight) (r : Role) → RoleFits r → MoveFits (role_move m call r)
acts_fits m call (Creates k) e = tt
acts_fits m call (Destroys asked) e = tt
acts_fits m call (Acts act) e = act_fits m call act e

check_fits : (c : ℕ) (o : Option Object) → MoveFits (check_move c o)
check_fits c None = tt
check_fits c (Some x) = if_fits (is_live x.phase) (move.Takes (OfCall c) x.kind x.index) tt

finish_fits : (c : ℕ) (o : Option Object) → MoveFits (finish_move c o)
finish_fits c None = tt
finish_fits c (Some x) = if_fits (is_doomed x.phase) (move.Buries (OfCall c)) tt

pub kill_fits : (o : Option Object) → MoveFits (kill_move o)
kill_fits None = tt
kill_fits (Some x) = if_fits (is_live x.phase) (move.Takes (OfTeardown x.file) x.kind x.index) tt

pub gone_fits : (o : Option Object) → MoveFits (gone_move o)
gone_fits None = tt
gone_fits (Some x) = if_fits (is_doomed x.phase) (move.Buries (OfTeardown x.file)) tt

word_fits : (m : State) (c : ℕ) (call : InFlight) (w : Word) (o : ℕ) (a : Answer) → is_in_range call.request ≡ true → MoveFits (word_move m c call w o a)
word_fits m c call Reserve o a e = tt
word_fits m c call Look o a e = tt
word_fits m c call Make o a e = unless_fits (refusal_in a) (make_move m c call o (role_of call.request)) (make_fits m c call o (role_of call.request))
word_fits m c call Commit o a e = tt
word_fits m c call Acting o a e = unless_fits (refusal_in a) (role_move m call (role_of call.request)) (acts_fits m call (role_of call.request) (role_fits call.request e))
word_fits m c call Lock o a e = tt
word_fits m c call Check o a e = unless_fits (refusal_in a) (check_move c (object_with m o)) (check_fits c (object_with m o))
word_fits m c call Finish o a e = unless_fits (refusal_in a) (finish_move c (object_with m o)) (finish_fits c (object_with m o))
word_fits m c call Abort o a e = tt
word_fits m c call Free o a e = tt
word_fits m c call Exit o a e = tt

-- a step of a call whose request is in range
pub step_fits : (m : State) (c : ℕ) (call : InFlight) (w : Word) (o : ℕ) (a : Answer) → call_of m c ≡ Some call → is_in_range call.request ≡ true → MoveFits (step_move m c (call_of m c) w o a)
step_fits m c call w o a is e =
    let P : Option InFlight → Type 0 = λ v. MoveFits (step_move m c v w o a) in
    subst P (sym is) (word_fits m c call w o a e)
