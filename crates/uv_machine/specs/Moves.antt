-- What an entry does with contents: what an object holds besides its place in the graph. It is told by the entry and the
-- state before it alone, and says nothing of what contents are.
use Rattle.std.specs.Prelude.{ℕ, Option, None, Some, if◌then◌else◌, option_map, slice_get}
use Rattle.uv_num.specs.declared.attrs.QpAttrs.{QpAttrs}
use Rattle.uv_num.specs.declared.errno.Errno.{Errno}
use Rattle.uv_num.specs.declared.kind.Kind.{Kind}
use Rattle.uv_num.specs.declared.kind.Kind.TheVariants as kind
use Rattle.uv_num.specs.Kind.{kind_place}
use Rattle.uv_num.specs.declared.request.Act as request
use Rattle.uv_num.specs.declared.request.Act.TheVariants.{Modify, Query, Bind, Unbind, Async}
use Rattle.uv_num.specs.declared.request.Role.{Role}
use Rattle.uv_num.specs.declared.request.Role.TheVariants.{Creates, Destroys, Acts}
use Rattle.uv_num.specs.Request.{role_of}
use Rattle.uv_machine.specs.declared.entry.Entry.{Entry}
use Rattle.uv_machine.specs.declared.entry.Entry.TheVariants.{Open, Enter, Step, Unplug, Tear, Kill, Gone, Dissociated, Closed}
use Rattle.uv_machine.specs.declared.entry.Word.{Word}
use Rattle.uv_machine.specs.declared.entry.Word.TheVariants.{Reserve, Look, Make, Commit, Act, Lock, Check, Finish, Abort, Free, Exit}
use Rattle.uv_machine.specs.declared.entry.Answer.{Answer}
use Rattle.uv_machine.specs.declared.moves.Links.{Links}
use Rattle.uv_machine.specs.declared.moves.Spot.{Spot}
use Rattle.uv_machine.specs.declared.moves.Slot.{Slot}
use Rattle.uv_machine.specs.declared.moves.Slot.TheVariants.{OfCall, OfTeardown}
use Rattle.uv_machine.specs.declared.moves.Move.{Move}
use Rattle.uv_machine.specs.declared.moves.Move.TheVariants.{Stays, Plants, Drops, Takes, Buries, Modifies, Binds, Unbinds}
use Rattle.uv_machine.specs.declared.object.Object.{Object}
use Rattle.uv_machine.specs.declared.call.InFlight.{InFlight}
use Rattle.uv_machine.specs.declared.state.State.{State}
use Rattle.uv_machine.specs.Objects.{is_live, is_doomed}
use Rattle.uv_machine.specs.Plans.{looked_at}
use Rattle.uv_machine.specs.States.{call_of, object_with, home_cell, device_of}
use Rattle.uv_machine.specs.Effects.{refusal_in, generation_in}

-- Making.

abbrev pub cell_held : Object → ℕ
cell_held x = x.index

-- the cell of an object that the call looks at
abbrev pub cell_seen : State → ℕ → InFlight → Option ℕ
cell_seen m place call = option_map cell_held (object_with m (looked_at place call))

abbrev pub no_links : Links
no_links = record { send = None; receive = None; shared = None; channel = None }

abbrev pub ring_links : State → InFlight → Links
ring_links m call = record { send = None; receive = None; shared = None; channel = cell_seen m 0 call }

-- the domain comes first in a pair's request
abbrev pub pair_links : State → InFlight → Links
pair_links m call = record { send = cell_seen m 1 call; receive = cell_seen m 2 call; shared = cell_seen m 3 call; channel = None }

-- the cells that a new object of the kind hands something on to
abbrev pub links_made : State → InFlight → Kind → Links
links_made m call kind.Pd = no_links
links_made m call kind.Channel = no_links
links_made m call kind.Cq = ring_links m call
links_made m call kind.Qp = pair_links m call
links_made m call kind.Srq = no_links
links_made m call kind.Ah = no_links
links_made m call kind.Mr = no_links
links_made m call kind.Mw = no_links

-- where the object that a call makes is planted, and the names that it gets
abbrev pub spot_at : State → InFlight → ℕ → Kind → ℕ → Spot
spot_at m call o kind index =
    record {
      index = index;
      generation = generation_in index (slice_get m.pools (kind_place kind));
      object = o;
      domain = looked_at 0 call;
      device = device_of m call.file;
      links = links_made m call kind;
    }

abbrev pub plant_move : State → ℕ → InFlight → ℕ → Kind → Option ℕ → Move
plant_move m c call o kind None = Stays
plant_move m c call o kind (Some index) = Plants c (spot_at m call o kind index)

abbrev pub make_move : State → ℕ → InFlight → ℕ → Role → Move
make_move m c call o (Creates kind) = plant_move m c call o kind (home_cell m kind)
make_move m c call o (Destroys asked) = Stays
make_move m c call o (Acts act) = Stays

-- Releasing.

-- a live object is taken out of use; a husk holds nothing
abbrev pub take_found : Slot → Object → Move
take_found slot x = if is_live x.phase then Takes slot x.kind x.index else Stays

-- what was taken out of use is closed
abbrev pub bury_found : Slot → Object → Move
bury_found slot x = if is_doomed x.phase then Buries slot else Stays

-- a destroy's slot is its actor's
abbrev pub check_move : ℕ → Option Object → Move
check_move c None = Stays
check_move c (Some x) = take_found (OfCall c) x

abbrev pub finish_move : ℕ → Option Object → Move
finish_move c None = Stays
finish_move c (Some x) = bury_found (OfCall c) x

-- a teardown's slot is its file's, whoever tears it
abbrev pub kill_move : Option Object → Move
kill_move None = Stays
kill_move (Some x) = take_found (OfTeardown x.file) x

abbrev pub gone_move : Option Object → Move
gone_move None = Stays
gone_move (Some x) = bury_found (OfTeardown x.file) x

-- Acting.

abbrev pub modify_move : Option ℕ → ℕ → QpAttrs → Move
modify_move None to attrs = Stays
modify_move (Some index) to attrs = Modifies index to attrs

abbrev pub bind_move : Option ℕ → Option ℕ → ℕ → ℕ → ℕ → Move
bind_move None region offset length access = Stays
bind_move (Some window) None offset length access = Stays
bind_move (Some window) (Some region) offset length access = Binds window region offset length access

abbrev pub unbind_move : Option ℕ → Move
unbind_move None = Stays
unbind_move (Some window) = Unbinds window

abbrev pub act_move : State → InFlight → request.Act → Move
act_move m call (Modify to attrs) = modify_move (cell_seen m 0 call) to attrs
act_move m call Query = Stays
act_move m call (Bind offset length access) = bind_move (cell_seen m 0 call) (cell_seen m 1 call) offset length access
act_move m call (Unbind offset length access) = unbind_move (cell_seen m 0 call)
act_move m call Async = Stays

abbrev pub role_move : State → InFlight → Role → Move
role_move m call (Creates kind) = Stays
role_move m call (Destroys asked) = Stays
role_move m call (Acts act) = act_move m call act

-- An entry.

abbrev pub move_unless : Option Errno → Move → Move
move_unless None move = move
move_unless (Some e) move = Stays

-- an exit lets go of what a refused create has made
abbrev pub word_move : State → ℕ → InFlight → Word → ℕ → Answer → Move
word_move m c call Reserve o a = Stays
word_move m c call Look o a = Stays
word_move m c call Make o a = move_unless (refusal_in a) (make_move m c call o (role_of call.request))
word_move m c call Commit o a = Stays
word_move m c call Act o a = move_unless (refusal_in a) (role_move m call (role_of call.request))
word_move m c call Lock o a = Stays
word_move m c call Check o a = move_unless (refusal_in a) (check_move c (object_with m o))
word_move m c call Finish o a = move_unless (refusal_in a) (finish_move c (object_with m o))
word_move m c call Abort o a = Stays
word_move m c call Free o a = Stays
word_move m c call Exit o a = Drops c

abbrev pub step_move : State → ℕ → Option InFlight → Word → ℕ → Answer → Move
step_move m c None w o a = Stays
step_move m c (Some call) w o a = word_move m c call w o a

abbrev pub entry_move : State → Entry → Move
entry_move m (Open c f d a) = Stays
entry_move m (Enter c f request a) = Stays
entry_move m (Step c w o found a) = step_move m c (call_of m c) w o a
entry_move m (Unplug d) = Stays
entry_move m (Tear f by) = Stays
entry_move m (Kill o) = kill_move (object_with m o)
entry_move m (Gone o kept) = gone_move (object_with m o)
entry_move m (Dissociated f) = Stays
entry_move m (Closed f) = Stays
