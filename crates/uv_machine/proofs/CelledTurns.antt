-- Each allowed entry leaves objects their cells.
use Rattle.std.proofs.Common.{◌≡◌, ◌≢◌, ℕ, zero, suc, Bool, true, false, List, [], ◌∷◌, Option, Some, None, length, map, refl, ap, sym, ◌∙◌, subst}
use Rattle.std.specs.Prelude.{not, slice_get, filter, replicate, if◌then◌else◌}
use Rattle.std.proofs.lemmas.Option.{none-some, same_Some}
use Rattle.std.proofs.lemmas.Bool.{and_parts, eqb-true, eq-eqb}
use Rattle.std.proofs.lemmas.List.{length-replicate}
use Rattle.uv_num.specs.declared.errno.Errno.{Errno}
use Rattle.uv_num.specs.declared.limits.TheConstants.{CELLS, KINDS}
use Rattle.uv_num.specs.declared.request.Act as request
use Rattle.uv_num.specs.declared.request.Act.TheVariants.{Modify, Query, Bind, Unbind, Async}
use Rattle.uv_machine.specs.declared.entry.Entry.{Entry}
use Rattle.uv_machine.specs.declared.entry.Entry.TheVariants.{Open, Enter, Step, Unplug, Tear, Kill, Gone, Dissociated, Closed}
use Rattle.uv_machine.specs.declared.entry.Answer.{Answer}
use Rattle.uv_machine.specs.declared.object.Phase.{Phase}
use Rattle.uv_machine.specs.declared.object.Phase.TheVariants as phase
use Rattle.uv_machine.specs.declared.object.Object.{Object}
use Rattle.uv_machine.specs.declared.object.Change.{Change}
use Rattle.uv_machine.specs.declared.object.Change.TheVariants.{ToLive, ToDoomed, ToHusk, ToBound}
use Rattle.uv_machine.specs.declared.pool.Cell.{Cell}
use Rattle.uv_machine.specs.declared.pool.Pool.{Pool}
use Rattle.uv_machine.specs.declared.call.InFlight.{InFlight}
use Rattle.uv_machine.specs.declared.state.State.{State}
use Rattle.uv_machine.specs.Objects.{has_id, is_doomed, is_husk, doomed_from, live_from, with_change, on_object}
use Rattle.uv_machine.specs.Cells.{full_pool}
use Rattle.uv_machine.specs.Plans.{own_object, acted_on}
use Rattle.uv_machine.specs.States.{object_with, start}
use Rattle.uv_machine.specs.Effects.{refusal_in, act, binding_of, finish, with_burial, buried_if_doomed, not_with_id, not_in_file, gone_from, unless_answered}
use Rattle.uv_machine.specs.Outside.{may_sweep, may_go_object}
use Rattle.uv_machine.specs.Histories.{Allowed, after, state_from, IsLegalFrom}
use Rattle.uv_machine.specs.Reached.{IsIn, IsCelled}
use Rattle.uv_machine.specs.Laws.{LegalIsCelled}
use Rattle.uv_machine.proofs.Members.{IsIn-map, Passes-find, Passes-filter}
use Rattle.uv_machine.proofs.Turns.{Turn, object_made, IsTurn-allowed}
use Rattle.uv_machine.proofs.Turns.Turn.{Refuses, Reserves, Looks, Makes, Commits, Does, Locks, Checks, Finishes, Aborts, Frees, Leaves}
use Rattle.uv_machine.proofs.Changing.{on_object-id, on_object-kind}
use Rattle.uv_machine.proofs.Graph.{in_room}
use Rattle.uv_machine.proofs.Holding.{finish_objects}
use Rattle.uv_machine.proofs.Celled.{StandsAs, celled_as, celled_buried, celled_new}

-- What changes leave of an object.

pub changed_index : (b : Bool) (change : Change) (x : Object) → (if b then with_change change x else x).index ≡ x.index
changed_index true ToLive x = refl
changed_index true ToDoomed x = refl
changed_index true ToHusk x = refl
changed_index true (ToBound binding) x = refl
changed_index false change x = refl

changed_generation : (b : Bool) (change : Change) (x : Object) → (if b then with_change change x else x).generation ≡ x.generation
changed_generation true ToLive x = refl
changed_generation true ToDoomed x = refl
changed_generation true ToHusk x = refl
changed_generation true (ToBound binding) x = refl
changed_generation false change x = refl

live_standing : (p : Phase) → is_husk (live_from p) ≡ false → is_husk p ≡ false
live_standing phase.Made e = refl
live_standing phase.Live e = refl
live_standing phase.Doomed e = refl
live_standing phase.Husk e = absurd cc

doomed_standing : (p : Phase) → is_husk (doomed_from p) ≡ false → is_husk p ≡ false
doomed_standing phase.Made e = refl
doomed_standing phase.Live e = refl
doomed_standing phase.Doomed e = refl
doomed_standing phase.Husk e = absurd cc

changed_standing : (b : Bool) (change : Change) (x : Object) → is_husk (if b then with_change change x else x).phase ≡ false → is_husk x.phase ≡ false
changed_standing true ToLive x e = live_standing x.phase e
changed_standing true ToDoomed x e = doomed_standing x.phase e
changed_standing true ToHusk x e = absurd cc
changed_standing true (ToBound binding) x e = e
changed_standing false change x e = e

stands_map : (objects : List Object) (o : ℕ) (change : Change) (y : Object) → IsIn y (map (on_object o change) objects) → is_husk y.phase ≡ false → StandsAs objects y
stands_map objects o change y k e =
    let from = IsIn-map (on_object o change) y objects k in
    let x = from.item in
    record {
      item = x;
      within = from.within;
      standing = changed_standing (has_id o x) change x (sym (ap (λ (v : Object). is_husk v.phase) from.gives) ∙ e);
      id = ap (λ (v : Object). v.id) from.gives ∙ on_object-id o change x;
      kind = ap (λ (v : Object). v.kind) from.gives ∙ on_object-kind o change x;
      index = ap (λ (v : Object). v.index) from.gives ∙ changed_index (has_id o x) change x;
      generation = ap (λ (v : Object). v.generation) from.gives ∙ changed_generation (has_id o x) change x;
    }

stands_filter : (objects : List Object) (p : Object → Bool) (y : Object) → IsIn y (filter p objects) → is_husk y.phase ≡ false → StandsAs objects y
stands_filter objects p y k e = record { item = y; within = (Passes-filter p y objects k).within; standing = e; id = refl; kind = refl; index = refl; generation = refl }

pub doomed_stands : (p : Phase) → is_doomed p ≡ true → is_husk p ≡ false
doomed_stands phase.Made e = absurd cc
doomed_stands phase.Live e = absurd cc
doomed_stands phase.Doomed e = refl
doomed_stands phase.Husk e = absurd cc

-- Turns.

abbrev pub Celled : State → Type 0
Celled m = IsCelled m.pools m.objects

celled_map : (m : State) (o : ℕ) (change : Change) → Celled m → IsCelled m.pools (map (on_object o change) m.objects)
celled_map m o change c = celled_as m.pools m.objects (map (on_object o change) m.objects) (stands_map m.objects o change) c

celled_filter : (m : State) (p : Object → Bool) → Celled m → IsCelled m.pools (filter p m.objects)
celled_filter m p c = celled_as m.pools m.objects (filter p m.objects) (stands_filter m.objects p) c

apart_filter : (objects : List Object) (o : ℕ) (y : Object) → IsIn y (filter (not_with_id o) objects) → y.id ≢ o
apart_filter objects o y k e =
    let test = (Passes-filter (not_with_id o) y objects k).test in
    let here : not_with_id o y ≡ false = ap not (eq-eqb y.id o e) in
    cc

finish_by : (m : State) (o : ℕ) (x : Object) (doomed : Bool) → is_doomed x.phase ≡ doomed → IsIn x m.objects → x.id ≡ o → Celled m → IsCelled (if doomed then with_burial m x else m).pools (filter (not_with_id o) m.objects)
finish_by m o x true e k id c =
    celled_buried m.pools m.objects (filter (not_with_id o) m.objects) x k (doomed_stands x.phase e) (stands_filter m.objects (not_with_id o)) (λ y h e' same. apart_filter m.objects o y h (same ∙ id)) c
finish_by m o x false e k id c = celled_filter m (not_with_id o) c

finish_slot : (m : State) (o : ℕ) (slot : Option Object) → object_with m o ≡ slot → Celled m → IsCelled (buried_if_doomed m slot).pools (filter (not_with_id o) m.objects)
finish_slot m o None e c = celled_filter m (not_with_id o) c
finish_slot m o (Some x) e c =
    let p = Passes-find (has_id o) x m.objects e in
    finish_by m o x (is_doomed x.phase) refl p.within (eqb-true x.id o p.test) c

celled_finish : (m : State) (actor o : ℕ) → Celled m → Celled (finish m actor o)
celled_finish m actor o c =
    let P : List Object → Type 0 = λ v. IsCelled (finish m actor o).pools v in
    subst P (sym (finish_objects m actor o)) (finish_slot m o (object_with m o) refl c)

celled_state : (m' n : State) → m' ≡ n → Celled n → Celled m'
celled_state m' n e c = let P : State → Type 0 = λ s. Celled s in subst P (sym e) c

celled_act : (m : State) (actor : ℕ) (call : InFlight) (a : Answer) (what : request.Act) → Celled m → Celled (act m actor call a what)
celled_act m actor call a (Modify to attrs) c = c
celled_act m actor call a Query c = c
celled_act m actor call a (Bind offset long access) c = celled_map m (acted_on call) (ToBound (Some (binding_of call offset long access))) c
celled_act m actor call a (Unbind offset long access) c = celled_map m (acted_on call) (ToBound None) c
celled_act m actor call a Async c = c

celled_turn : (m : State) (actor : ℕ) (call : InFlight) (a : Answer) (m' : State) → Turn m actor call a m' → Celled m → Celled m'
celled_turn m actor call a m' (Refuses t) c = celled_state m' _ t.gives c
celled_turn m actor call a m' (Reserves t) c = celled_state m' _ t.gives c
celled_turn m actor call a m' (Looks t) c = celled_state m' _ t.gives c
celled_turn m actor call a m' (Makes t) c =
    let z = object_made m call t.kind t.index in
    celled_state m' _ t.gives (celled_new m.pools m.objects z t.home c _ (λ y k. in_room y z m.objects k) refl)
celled_turn m actor call a m' (Commits t) c = celled_state m' _ t.gives (celled_map m (own_object call) ToLive c)
celled_turn m actor call a m' (Does t) c = celled_state m' _ t.gives (celled_act m actor call a t.what c)
celled_turn m actor call a m' (Locks t) c = celled_state m' _ t.gives c
celled_turn m actor call a m' (Checks t) c = celled_state m' _ t.gives (celled_map m (own_object call) ToDoomed c)
celled_turn m actor call a m' (Finishes t) c = celled_state m' _ t.gives (celled_finish m actor (own_object call) c)
celled_turn m actor call a m' (Aborts t) c = celled_state m' _ t.gives c
celled_turn m actor call a m' (Frees t) c = celled_state m' _ t.gives c
celled_turn m actor call a m' (Leaves t) c = celled_state m' _ t.gives c

-- The other entries.

gone_apart : (objects : List Object) (o : ℕ) (y : Object) → IsIn y (map (on_object o ToHusk) objects) → is_husk y.phase ≡ false → y.id ≢ o
gone_apart objects o y k e same =
    let from = IsIn-map (on_object o ToHusk) y objects k in
    let x = from.item in
    let id : x.id ≡ o = sym (on_object-id o ToHusk x) ∙ sym (ap (λ (v : Object). v.id) from.gives) ∙ same in
    let husk : is_husk y.phase ≡ true = ap (λ (v : Object). is_husk v.phase) from.gives ∙ ap (λ b. is_husk (if b then with_change ToHusk x else x).phase) (eq-eqb x.id o id) in
    cc

celled_gone : (m : State) (o : ℕ) (slot : Option Object) → object_with m o ≡ slot → may_go_object m slot ≡ true → Celled m → Celled (gone_from m o slot)
celled_gone m o None e may c = absurd cc
celled_gone m o (Some x) e may c =
    let p = Passes-find (has_id o) x m.objects e in
    let id = eqb-true x.id o p.test in
    celled_buried m.pools m.objects (map (on_object o ToHusk) m.objects) x p.within (doomed_stands x.phase (and_parts (is_doomed x.phase) (may_sweep m x.file) may).0)
    (stands_map m.objects o ToHusk)
    (λ y k e' same. gone_apart m.objects o y k e' (same ∙ id))
    c

celled_unless : (m m' : State) (e : Option Errno) → Celled m → Celled m' → Celled (unless_answered m e m')
celled_unless m m' None c c' = c'
celled_unless m m' (Some e) c c' = c

celled_after : (m : State) (e : Entry) → Allowed m e → Celled m → Celled (after m e)
celled_after m (Open b f d a) allowed c = celled_unless m _ (refusal_in a) c c
celled_after m (Enter b f request a) allowed c = celled_unless m _ (refusal_in a) c c
celled_after m (Step b w o found a) allowed c =
    let t = IsTurn-allowed m b w o found a allowed in
    celled_turn m b t.call a (after m (Step b w o found a)) t.turn c
celled_after m (Unplug d) allowed c = c
celled_after m (Tear f by) allowed c = c
celled_after m (Kill o) allowed c = celled_map m o ToDoomed c
celled_after m (Gone o kept) allowed c = celled_gone m o (object_with m o) refl allowed c
celled_after m (Dissociated f) allowed c = c
celled_after m (Closed f) allowed c = celled_filter m (not_in_file f) c

celled_from : (m : State) (h : List Entry) → IsLegalFrom m h → Celled m → Celled (state_from m h)
celled_from m [] legal c = c
celled_from m (e ∷ h) legal c = celled_from (after m e) h legal.1 (celled_after m e legal.0 c)

-- At the start all cells are home.

full_sized : length full_pool.cells ≡ CELLS
unfolding full_pool
full_sized = length-replicate {A = Cell} CELLS (record { generation = 0; home = true })

start_sized : (k n : ℕ) (pool : Pool) → slice_get (replicate n full_pool) k ≡ Some pool → length pool.cells ≡ CELLS
start_sized k zero pool e = absurd (none-some pool e)
start_sized zero (suc n) pool e = ap (λ (v : Pool). length v.cells) (sym (same_Some full_pool pool e)) ∙ full_sized
start_sized (suc k) (suc n) pool e = start_sized k n pool e

celled_start : Celled start
unfolding start
celled_start = record {
  cells = λ k pool e. start_sized k KINDS pool e;
  has = λ x k e. absurd k;
  own = λ x y k h e e' kind index. absurd k;
}

-- each object that is no husk has a cell of its own
pub legal_celled : LegalIsCelled
legal_celled h legal = celled_from start h legal celled_start
