-- Entries, each with what it does to objects and to what they hold: cells fit the objects after it.
use Rattle.std.proofs.Common.{◌≡◌, ◌∙◌, ◌<◌, ℕ, Bool, true, false, List, [], ◌∷◌, ◌++◌, Option, None, Some, map, length, refl, sym, ap, subst, arith}
use Rattle.std.specs.Prelude.{◌≢◌, ◌==◌, ◌&&◌, ◌||◌, not, nat_lt, is_some, slice_get, option_map, if◌then◌else◌}
use Rattle.std.specs.List.{list_any}
use Rattle.std.proofs.lemmas.Bool.{eqb-true, eq-eqb}
use Rattle.std.proofs.lemmas.Option.{slice_get-get_or, slice_get_within}
use Rattle.uv_num.specs.declared.errno.Errno.{Errno}
use Rattle.uv_num.specs.declared.kind.Kind.{Kind}
use Rattle.uv_num.specs.declared.kind.Kind.TheVariants as kind
use Rattle.uv_num.specs.declared.limits.TheConstants.{CELLS, MOST_OBJECTS}
use Rattle.uv_num.specs.declared.qp.QpState.{QpState}
use Rattle.uv_num.specs.declared.qp.Service.{Service}
use Rattle.uv_num.specs.declared.request.Act as request
use Rattle.uv_num.specs.declared.request.Act.TheVariants.{Modify, Query, Bind, Unbind, Async}
use Rattle.uv_num.specs.declared.request.Request.{Request}
use Rattle.uv_num.specs.declared.request.Request.TheVariants.{AllocPd, DeallocPd, CreateChannel, DestroyChannel, CreateCq, DestroyCq, CreateQp, DestroyQp, ModifyQp, QueryQp, CreateSrq, DestroySrq, CreateAh, DestroyAh, RegMr, DeregMr, AllocMw, DeallocMw, BindMw, GetAsync}
use Rattle.uv_num.specs.declared.request.Role.{Role}
use Rattle.uv_num.specs.declared.request.Role.TheVariants.{Creates, Destroys, Acts}
use Rattle.uv_num.specs.Kind.{kind_place}
use Rattle.uv_num.specs.Qp.{service_of}
use Rattle.uv_num.specs.Ranges.{is_in_range, is_queue_depth}
use Rattle.uv_num.specs.Request.{role_of}
use Rattle.uv_num.specs.Place.{at_place}
use Rattle.uv_num.proofs.PlaceLaws.{length-at_place}
use Rattle.uv_machine.specs.declared.call.InFlight.{InFlight}
use Rattle.uv_machine.specs.declared.entry.Answer.{Answer}
use Rattle.uv_machine.specs.declared.entry.Entry.{Entry}
use Rattle.uv_machine.specs.declared.entry.Entry.TheVariants as entry
use Rattle.uv_machine.specs.declared.entry.Word.{Word}
use Rattle.uv_machine.specs.declared.entry.Word.TheVariants.{Reserve, Look, Make, Commit, Act, Lock, Check, Finish, Abort, Free, Exit}
use Rattle.uv_machine.specs.declared.moves.Move.{Move}
use Rattle.uv_machine.specs.declared.moves.Move.TheVariants as move
use Rattle.uv_machine.specs.declared.moves.Slot.{Slot}
use Rattle.uv_machine.specs.declared.moves.Slot.TheVariants.{OfCall, OfTeardown}
use Rattle.uv_machine.specs.declared.moves.Spot.{Spot}
use Rattle.uv_machine.specs.declared.object.Change.TheVariants.{ToDoomed}
use Rattle.uv_machine.specs.declared.object.Object.{Object}
use Rattle.uv_machine.specs.declared.state.State.{State}
use Rattle.uv_machine.specs.Effects.{act, act_by, after_step, binding_of, check, commit, finish, left, lock, generation_in, gone_from, make, make_at, new_object, not_in_file, not_with_id, opened, put_call, refusal_in, reserve, stepped, unless_answered, unless_refused, with_call, with_file}
use Rattle.uv_machine.specs.Histories.{Allowed, after}
use Rattle.uv_machine.specs.Made.{has_live_cell, is_live_cell}
use Rattle.uv_machine.specs.Moves.{check_move, finish_move, gone_move, kill_move, make_move, move_unless, plant_move, role_move, spot_at, step_move, word_move}
use Rattle.uv_machine.specs.Objects.{has_id, in_file, is_doomed, is_husk, is_kind, is_live, is_standing_in, on_object}
use Rattle.uv_machine.specs.Outside.{may_close, may_go_object, may_sweep}
use Rattle.uv_machine.specs.Plans.{acted_on, entered, with_look, without_look, without_number}
use Rattle.uv_machine.specs.Reached.{IsCelled, IsIn, IsRising}
use Rattle.uv_machine.specs.States.{call_of, has_standing, home_cell, is_closing, is_quiet, object_with, phase_of}
use Rattle.uv_machine.proofs.Holding.{finish_objects}
use Rattle.uv_machine.proofs.Members.{fails_any, fails_find}
use Rattle.uv_machine.proofs.Suiting.{is_kind-same}
use Rattle.uv_qp.specs.declared.state.Names.{Names}
use Rattle.uv_qp.specs.Makings.{unused}
use Rattle.uv_world.specs.declared.cells.Cell.{Cell}
use Rattle.uv_world.specs.declared.content.Content.{Content}
use Rattle.uv_world.specs.Celled.{cell_emptied, cell_planted, value_of_slot}
use Rattle.uv_world.specs.Fitting.{CellsFit, HasCells, StepInRange, has_content, holds_under, outlines}
use Rattle.uv_world.specs.Holdings.{Held}
use Rattle.uv_world.specs.Making.{content_for, pair_content, unnamed}
use Rattle.uv_world.specs.Moving.{held_after, held_brought, held_moved, held_planted, held_with_pending}
use Rattle.uv_world.proofs.Living.{and_first, and_last, any_bound, any_changed, any_committed, any_filter, any_gone, any_not_taken, any_one_more, any_taken, any_taken_elsewhere, dead_counts_not, dead_if_husk, elsewhere_counts_not, home_is_free, home_pool, is_alive, no_way, sits}
use Rattle.uv_world.proofs.Outlines.{brought_outlines, bury_outlines, content_kind, emptied_if, lives_beside, lives_emptied, lives_planted, outlines_pending, outlines_planted, outlines_taken, planted_if, role_outlines}

-- there are enough cells, and they fit
pub record Fits (h : Held) (m : State) : Type 0 where
  pub cells : HasCells h
  pub fit : CellsFit h m

-- the same objects count in the same cells
abbrev CountsSame : State → State → Type 0
CountsSame m m' = (k : Kind) (i g : ℕ) → has_content k ≡ true → is_live_cell m' k i g ≡ is_live_cell m k i g

same_objects : (m m' : State) → m'.objects ≡ m.objects → CountsSame m m'
same_objects m m' e k i g c = ap (λ v. list_any (has_live_cell k i g) v) e

-- no cell changes, and no count
kept : (h h' : Held) (m m' : State) → ((k : Kind) → outlines h' k ≡ outlines h k) → CountsSame m m' → Fits h m → Fits h' m'
kept h h' m m' held state f = record {
  cells = λ k c. ap length (held k) ∙ f.cells k c;
  fit = λ k i g c. ap (λ v. holds_under g (slice_get v i)) (held k) ∙ (f.fit k i g c ∙ sym (state k i g c));
}

-- Taking out.

length_emptied : (b : Bool) (at : ℕ) (cells : List (Cell (Unit {0}))) → length (emptied_if b at cells) ≡ length cells
length_emptied true at cells = length-at_place cells at cell_emptied
length_emptied false at cells = refl

sits_is : (k : Kind) (i : ℕ) (x : Object) (a b : Bool) → is_kind x.kind k ≡ a → (x.index == i) ≡ b → sits k i x ≡ (a && b)
sits_is k i x a b ea eb = ap (λ v. v && (x.index == i)) ea ∙ ap (λ v. a && v) eb

index_apart : (n i : ℕ) → (n == i) ≡ false → i ≢ n
index_apart n i e same = let yes : (n == i) ≡ true = eq-eqb n i (sym same) in cc

take_case :
    (h : Held) (m : State) (o : ℕ) (x : Object) (k : Kind) (i g : ℕ) (a b : Bool) → is_kind x.kind k ≡ a → (x.index == i) ≡ b → Fits h m → IsCelled m.pools m.objects → IsRising 0 m.objects m.made → object_with m o ≡ Some x → is_live x.phase ≡ true
    → has_content k ≡ true → holds_under g (slice_get (emptied_if a x.index (outlines h k)) i) ≡ list_any (has_live_cell k i g) (map (on_object o ToDoomed) m.objects)
take_case h m o x k i g true true ea eb f celled rising is live c =
    ap (λ n. holds_under g (slice_get (emptied_if true n (outlines h k)) i)) (eqb-true x.index i eb)
    ∙ (lives_emptied (outlines h k) i g
    ∙ sym (any_taken k i g o m.made m.objects x rising is live (sits_is k i x true true ea eb) celled.own))
take_case h m o x k i g true false ea eb f celled rising is live c =
    lives_beside (outlines h k) x.index i g cell_emptied (index_apart x.index i eb)
    ∙ (f.fit k i g c
    ∙ sym (any_taken_elsewhere k i g o m.made m.objects x rising is (sits_is k i x true false ea eb)))
take_case h m o x k i g false b ea eb f celled rising is live c =
    f.fit k i g c ∙ sym (any_taken_elsewhere k i g o m.made m.objects x rising is (sits_is k i x false b ea eb))

-- a live object is taken out of use, and anything else stays
doomed_by : (h : Held) (m m' : State) (slot : Slot) (o : ℕ) (x : Object) (b : Bool) → is_live x.phase ≡ b → Fits h m → IsCelled m.pools m.objects → IsRising 0 m.objects m.made → object_with m o ≡ Some x → m'.objects ≡ map (on_object o ToDoomed) m.objects
    → Fits (held_moved h (if b then move.Takes slot x.kind x.index else move.Stays)) m'
doomed_by h m m' slot o x true live f celled rising is objects = record {
  cells = λ k c. ap length (outlines_taken h slot x.kind x.index k) ∙ (length_emptied (is_kind x.kind k) x.index (outlines h k) ∙ f.cells k c);
  fit = λ k i g c.
      ap (λ v. holds_under g (slice_get v i)) (outlines_taken h slot x.kind x.index k)
      ∙ (take_case h m o x k i g (is_kind x.kind k) (x.index == i) refl refl f celled rising is live c
      ∙ sym (ap (λ v. list_any (has_live_cell k i g) v) objects));
}
doomed_by h m m' slot o x false live f celled rising is objects =
    kept h h m m' (λ k. refl) (λ k i g c. ap (λ v. list_any (has_live_cell k i g) v) objects ∙ any_not_taken k i g o m.made m.objects x rising is live) f

none_doomed : (h : Held) (m m' : State) (o : ℕ) → Fits h m → object_with m o ≡ None → m'.objects ≡ map (on_object o ToDoomed) m.objects → Fits h m'
none_doomed h m m' o f is objects =
    kept h h m m' (λ k. refl)
    (λ k i g c.
    ap (λ v. list_any (has_live_cell k i g) v) objects
    ∙ any_changed k i g o ToDoomed m.objects (λ x at id. absurd (let no = fails_find (has_id o) x m.objects is at in cc)))
    f

fit_check : (h : Held) (m m' : State) (a o : ℕ) (found : Option Object) → object_with m o ≡ found → Fits h m → IsCelled m.pools m.objects → IsRising 0 m.objects m.made → m'.objects ≡ map (on_object o ToDoomed) m.objects → Fits (held_moved h (check_move a found)) m'
fit_check h m m' a o None is f celled rising objects = none_doomed h m m' o f is objects
fit_check h m m' a o (Some x) is f celled rising objects = doomed_by h m m' (OfCall a) o x (is_live x.phase) refl f celled rising is objects

fit_kill : (h : Held) (m m' : State) (o : ℕ) (found : Option Object) → object_with m o ≡ found → Fits h m → IsCelled m.pools m.objects → IsRising 0 m.objects m.made → m'.objects ≡ map (on_object o ToDoomed) m.objects → Fits (held_moved h (kill_move found)) m'
fit_kill h m m' o None is f celled rising objects = none_doomed h m m' o f is objects
fit_kill h m m' o (Some x) is f celled rising objects = doomed_by h m m' (OfTeardown x.file) o x (is_live x.phase) refl f celled rising is objects

-- Planting.

-- what a create of this kind makes
abbrev pub MadeAs : Kind → Option Content → Type 0
MadeAs k None = has_content k ≡ false
MadeAs k (Some c) = content_kind c ≡ k

kind_by : (k k' : Kind) (c : Option Content) → Creates k ≡ Creates k' → MadeAs k c → MadeAs k' c
kind_by k k' c e made =
    let same : k ≡ k' = cc in
    let P : Kind → Type 0 = λ v. MadeAs v c in
    subst P same made

qp_made : (names : Names) (shares : Bool) (sends receives : ℕ) (s : Option Service) → is_some s ≡ true → MadeAs kind.Qp (option_map pair_content (option_map (unused names shares sends receives) s))
qp_made names shares sends receives None e = absurd cc
qp_made names shares sends receives (Some s) e = refl

pub content_made : (q : Request) (k : Kind) → is_in_range q ≡ true → role_of q ≡ Creates k → MadeAs k (content_for q)
content_made AllocPd k range e = kind_by kind.Pd k None e refl
content_made (DeallocPd pd) k range e = absurd cc
content_made CreateChannel k range e = kind_by kind.Channel k (content_for CreateChannel) e refl
content_made (DestroyChannel channel) k range e = absurd cc
content_made (CreateCq depth channel) k range e = kind_by kind.Cq k (content_for (CreateCq depth channel)) e refl
content_made (DestroyCq cq) k range e = absurd cc
content_made (CreateQp pd send_cq recv_cq srq service send_depth recv_depth) k range e =
    kind_by kind.Qp k (content_for (CreateQp pd send_cq recv_cq srq service send_depth recv_depth)) e (qp_made unnamed (is_some srq) send_depth recv_depth (service_of service) (and_first (is_some (service_of service)) (is_queue_depth send_depth) (and_first (is_some (service_of service) && is_queue_depth send_depth) (is_queue_depth recv_depth) range)))
content_made (DestroyQp qp) k range e = absurd cc
content_made (ModifyQp qp to attrs) k range e = absurd cc
content_made (QueryQp qp) k range e = absurd cc
content_made (CreateSrq pd depth) k range e = kind_by kind.Srq k (content_for (CreateSrq pd depth)) e refl
content_made (DestroySrq srq) k range e = absurd cc
content_made (CreateAh pd device) k range e = kind_by kind.Ah k (content_for (CreateAh pd device)) e refl
content_made (DestroyAh ah) k range e = absurd cc
content_made (RegMr pd long access) k range e = kind_by kind.Mr k (content_for (RegMr pd long access)) e refl
content_made (DeregMr mr) k range e = absurd cc
content_made (AllocMw pd) k range e = kind_by kind.Mw k (content_for (AllocMw pd)) e refl
content_made (DeallocMw mw) k range e = absurd cc
content_made (BindMw mw mr offset long access) k range e = absurd cc
content_made GetAsync k range e = absurd cc

length_planted : (b : Bool) (spot : Spot) (cells : List (Cell (Unit {0}))) → length (planted_if b spot cells) ≡ length cells
length_planted true spot cells = length-at_place cells spot.index (cell_planted spot.generation tt)
length_planted false spot cells = refl

and_true : (b : Bool) → (b && true) ≡ b
and_true true = refl
and_true false = refl

or_nothing : (b : Bool) → (b || false) ≡ b
or_nothing true = refl
or_nothing false = refl

-- the new object counts in its own cell alone, under its generation
new_counts : (k : Kind) (i g : ℕ) (x : Object) → is_kind x.kind k ≡ true → (x.index == i) ≡ true → is_alive x.phase ≡ true → has_live_cell k i g x ≡ (x.generation == g)
new_counts k i g x ek ei alive =
    ap (λ v. v && ((x.index == i) && ((x.generation == g) && is_alive x.phase))) ek
    ∙ (ap (λ v. v && ((x.generation == g) && is_alive x.phase)) ei
    ∙ (ap (λ v. (x.generation == g) && v) alive
    ∙ and_true (x.generation == g)))

one_elsewhere : (m m' : State) (x : Object) (k : Kind) (i g : ℕ) → sits k i x ≡ false → m'.objects ≡ m.objects ++ x ∷ [] → is_live_cell m' k i g ≡ is_live_cell m k i g
one_elsewhere m m' x k i g apart objects =
    ap (λ v. list_any (has_live_cell k i g) v) objects
    ∙ (any_one_more (has_live_cell k i g) m.objects x
    ∙ (ap (λ v. list_any (has_live_cell k i g) m.objects || v) (elsewhere_counts_not k i g x apart)
    ∙ or_nothing (list_any (has_live_cell k i g) m.objects)))

-- a kind that holds nothing is none of the others
none_kind : (j' j k : Kind) → j' ≡ j → has_content j ≡ false → has_content k ≡ true → is_kind j' k ≡ false
none_kind j' j k same none some =
    no_way (is_kind j' k)
    (λ e. (
    let one : j ≡ k = sym same ∙ is_kind-same j' k e in
    let yes : has_content j ≡ true = ap has_content one ∙ some in
    cc))

plant_case :
    (h : Held) (m m' : State) (x : Object) (spot : Spot) (j k : Kind) (i g : ℕ) (a b : Bool) → x.kind ≡ j → x.index ≡ spot.index → x.generation ≡ spot.generation → is_alive x.phase ≡ true → is_kind j k ≡ a → (spot.index == i) ≡ b
    → Fits h m → IsCelled m.pools m.objects → home_cell m j ≡ Some spot.index → spot.index < CELLS → m'.objects ≡ m.objects ++ x ∷ [] → has_content k ≡ true
    → holds_under g (slice_get (planted_if a spot (outlines h k)) i) ≡ is_live_cell m' k i g
plant_case h m m' x spot j k i g true true kind index generation alive ea eb f celled home low objects c =
    let at : spot.index ≡ i = eqb-true spot.index i eb in
    let there = slice_get-get_or (outlines h k) i (record { generation = 0; value = None }) (omega (arith, low, at, f.cells k c)) in
    let free : list_any (has_live_cell k i g) m.objects ≡ false = home_is_free m k i g celled (ap (home_cell m) (sym (is_kind-same j k ea)) ∙ (home ∙ ap Some at)) in
    ap (λ n. holds_under g (slice_get (at_place (outlines h k) n (cell_planted spot.generation tt)) i)) at
    ∙ (lives_planted (outlines h k) i spot.generation g _ there
    ∙ (ap (λ n. n == g) (sym generation)
    ∙ (sym (new_counts k i g x (ap (λ v. is_kind v k) kind ∙ ea) (ap (λ n. n == i) index ∙ eb) alive)
    ∙ (ap (λ v. v || has_live_cell k i g x) (sym free)
    ∙ (sym (any_one_more (has_live_cell k i g) m.objects x)
    ∙ ap (λ v. list_any (has_live_cell k i g) v) (sym objects))))))
plant_case h m m' x spot j k i g true false kind index generation alive ea eb f celled home low objects c =
    lives_beside (outlines h k) spot.index i g (cell_planted spot.generation tt) (index_apart spot.index i eb)
    ∙ (f.fit k i g c
    ∙ sym (one_elsewhere m m' x k i g (sits_is k i x true false (ap (λ v. is_kind v k) kind ∙ ea) (ap (λ n. n == i) index ∙ eb)) objects))
plant_case h m m' x spot j k i g false b kind index generation alive ea eb f celled home low objects c =
    f.fit k i g c ∙ sym (one_elsewhere m m' x k i g (sits_is k i x false b (ap (λ v. is_kind v k) kind ∙ ea) (ap (λ n. n == i) index ∙ eb)) objects)

-- a content of the object's kind is planted in its cell
fit_planted :
    (h : Held) (m m' : State) (x : Object) (spot : Spot) (j : Kind) (made : Option Content) → MadeAs j made → x.kind ≡ j → x.index ≡ spot.index → x.generation ≡ spot.generation → is_alive x.phase ≡ true
    → Fits h m → IsCelled m.pools m.objects → home_cell m j ≡ Some spot.index → spot.index < CELLS → m'.objects ≡ m.objects ++ x ∷ [] → Fits (held_planted h spot made) m'
fit_planted h m m' x spot j None made kind index generation alive f celled home low objects =
    kept h h m m' (λ k. refl)
    (λ k i g c. one_elsewhere m m' x k i g (sits_is k i x false (x.index == i) (none_kind x.kind j k kind made c) refl) objects)
    f
fit_planted h m m' x spot j (Some content) made kind index generation alive f celled home low objects = record {
  cells = λ k c. ap length (outlines_planted h spot content k) ∙ (length_planted (is_kind (content_kind content) k) spot (outlines h k) ∙ f.cells k c);
  fit = λ k i g c.
      ap (λ v. holds_under g (slice_get v i)) (outlines_planted h spot content k)
      ∙ plant_case h m m' x spot j k i g (is_kind (content_kind content) k) (spot.index == i) kind index generation alive (ap (λ v. is_kind v k) (sym made)) refl f celled home low objects c;
}

-- Tests.

not_false : (b : Bool) → not b ≡ false → b ≡ true
not_false true e = refl
not_false false e = absurd cc

not_true : (b : Bool) → not b ≡ true → b ≡ false
not_true true e = absurd cc
not_true false e = refl

no_standing : (here husk : Bool) → here ≡ true → (here && not husk) ≡ false → husk ≡ true
no_standing true true e h = refl
no_standing true false e h = absurd cc
no_standing false husk e h = absurd cc

-- Objects after a step.

unless_same : (m fine : State) (a : ℕ) (r : Option Errno) → CountsSame m fine → CountsSame m (unless_refused m a r fine)
unless_same m fine a None same = same
unless_same m fine a (Some e) same = λ k i g c. refl

act_same : (m : State) (a : ℕ) (call : InFlight) (said : Answer) (what : request.Act) → CountsSame m (act m a call said what)
act_same m a call said (Modify to attrs) = λ k i g c. refl
act_same m a call said Query = λ k i g c. refl
act_same m a call said (Bind offset long access) = λ k i g c. any_bound k i g (acted_on call) (Some (binding_of call offset long access)) m.objects
act_same m a call said (Unbind offset long access) = λ k i g c. any_bound k i g (acted_on call) None m.objects
act_same m a call said Async = λ k i g c. refl

role_same : (m : State) (a : ℕ) (call : InFlight) (said : Answer) (r : Role) → CountsSame m (act_by m a call said r)
role_same m a call said (Creates made) = λ k i g c. refl
role_same m a call said (Destroys asked) = λ k i g c. refl
role_same m a call said (Acts what) = act_same m a call said what

-- what a call finishes isn't alive
abbrev pub IsOver : State → ℕ → Type 0
IsOver m o = (x : Object) → IsIn x m.objects → has_id o x ≡ true → is_alive x.phase ≡ false

dropped_id : (o : ℕ) (x : Object) → not_with_id o x ≡ false → has_id o x ≡ true
dropped_id o x e = not_false (has_id o x) e

finish_same : (m : State) (a o : ℕ) → IsOver m o → CountsSame m (finish m a o)
finish_same m a o over k i g c =
    ap (λ v. list_any (has_live_cell k i g) v) (finish_objects m a o)
    ∙ any_filter (has_live_cell k i g) (not_with_id o) m.objects (λ x at e. dead_counts_not k i g x (over x at (dropped_id o x e)))

finish_outlines : (h : Held) (a : ℕ) (found : Option Object) (k : Kind) → outlines (held_moved h (finish_move a found)) k ≡ outlines h k
finish_outlines h a None k = refl
finish_outlines h a (Some x) k = bury_outlines h (OfCall a) x k

-- A make.

home_low : (m : State) (k : Kind) (i : ℕ) → IsCelled m.pools m.objects → home_cell m k ≡ Some i → i < CELLS
home_low m k i celled home =
    let h = home_pool m k i (slice_get m.pools (kind_place k)) refl home in
    let within : i < length h.0.cells = slice_get_within h.0.cells i h.2.cell h.2.at in
    omega (arith, within, celled.cells (kind_place k) h.0 h.1)

roomy : (b : Bool) (x : Object) (objects : List Object) → b ≡ true → (if b then objects ++ x ∷ [] else objects) ≡ objects ++ x ∷ []
roomy true x objects e = refl
roomy false x objects e = absurd cc

fit_make :
    (h : Held) (m : State) (a o : ℕ) (call : InFlight) (r : Role) (found : Option ℕ) (k : Kind) → Fits h m → IsCelled m.pools m.objects → nat_lt (length m.objects) MOST_OBJECTS ≡ true → MadeAs k (value_of_slot h.pending a) → home_cell m k ≡ found
    → Fits (held_moved h (plant_move m a call o k found)) (make_at m a call k found)
fit_make h m a o call r None k f celled room made home = f
fit_make h m a o call r (Some index) k f celled room made home =
    let gen = generation_in index (slice_get m.pools (kind_place k)) in
    let x = new_object m call k index gen in
    let before = kept h (held_with_pending h a None) m m (outlines_pending h a None) (λ k' i g c. refl) f in
    fit_planted (held_with_pending h a None) m (make_at m a call k (Some index)) x (spot_at m call o k index) k (value_of_slot h.pending a) made refl refl refl refl before celled home (home_low m k index celled home) (roomy (nat_lt (length m.objects) MOST_OBJECTS) x m.objects room)

fit_made : (h : Held) (m : State) (a o : ℕ) (call : InFlight) (r : Role) → ((k : Kind) → r ≡ Creates k → MadeAs k (value_of_slot h.pending a)) → Fits h m → IsCelled m.pools m.objects → nat_lt (length m.objects) MOST_OBJECTS ≡ true
    → Fits (held_moved h (make_move m a call o r)) (make m a call r)
fit_made h m a o call (Creates k) made f celled room = fit_make h m a o call (Creates k) (home_cell m k) k f celled room (made k refl) refl
fit_made h m a o call (Destroys asked) made f celled room = f
fit_made h m a o call (Acts what) made f celled room = f

-- A step.

fit_unless : (h : Held) (m : State) (a : ℕ) (r : Option Errno) (step : Move) (fine : State) → Fits h m → (r ≡ None → Fits (held_moved h step) fine) → Fits (held_moved h (move_unless r step)) (unless_refused m a r fine)
fit_unless h m a None step fine f so = so refl
fit_unless h m a (Some e) step fine f so = kept h h m (unless_refused m a (Some e) fine) (λ k. refl) (λ k i g c. refl) f

fit_stays : (h : Held) (m fine : State) (a : ℕ) (r : Option Errno) → CountsSame m fine → Fits h m → Fits h (unless_refused m a r fine)
fit_stays h m fine a r same f = kept h h m (unless_refused m a r fine) (λ k. refl) (unless_same m fine a r same) f

-- what a step needs: its content waits, there is room for a new object, and what it finishes isn't alive
pub record StepNeeds (h : Held) (m : State) (a o : ℕ) (call : InFlight) (w : Word) (said : Answer) : Type 0 where
  pub made : w ≡ Make → (k : Kind) → role_of call.request ≡ Creates k → MadeAs k (value_of_slot h.pending a)
  pub room : w ≡ Make → refusal_in said ≡ None → nat_lt (length m.objects) MOST_OBJECTS ≡ true
  pub over : w ≡ Finish → IsOver m o

fit_word :
    (h : Held) (m : State) (a o : ℕ) (call : InFlight) (w : Word) (said : Answer) → StepNeeds h m a o call w said → Fits h m → IsCelled m.pools m.objects → IsRising 0 m.objects m.made
    → Fits (held_moved h (word_move m a call w o said)) (stepped m a call w o said)
fit_word h m a o call Reserve said needs f celled rising = fit_stays h m (reserve m a call) a (refusal_in said) (λ k i g c. refl) f
fit_word h m a o call Look said needs f celled rising = fit_stays h m (with_call m a (with_look o)) a (refusal_in said) (λ k i g c. refl) f
fit_word h m a o call Make said needs f celled rising =
    fit_unless h m a (refusal_in said) (make_move m a call o (role_of call.request)) (make m a call (role_of call.request)) f
    (λ fine. fit_made h m a o call (role_of call.request) (needs.made refl) f celled (needs.room refl fine))
fit_word h m a o call Commit said needs f celled rising = fit_stays h m (commit m a o) a (refusal_in said) (λ k i g c. any_committed k i g o m.objects) f
fit_word h m a o call Act said needs f celled rising =
    fit_unless h m a (refusal_in said) (role_move m call (role_of call.request)) (act_by m a call said (role_of call.request)) f
    (λ fine. kept h (held_moved h (role_move m call (role_of call.request))) m (act_by m a call said (role_of call.request)) (role_outlines h m call (role_of call.request)) (role_same m a call said (role_of call.request)) f)
fit_word h m a o call Lock said needs f celled rising = fit_stays h m (lock m a o) a (refusal_in said) (λ k i g c. refl) f
fit_word h m a o call Check said needs f celled rising =
    fit_unless h m a (refusal_in said) (check_move a (object_with m o)) (check m a o) f
    (λ fine. fit_check h m (check m a o) a o (object_with m o) refl f celled rising refl)
fit_word h m a o call Finish said needs f celled rising =
    fit_unless h m a (refusal_in said) (finish_move a (object_with m o)) (finish m a o) f
    (λ fine. kept h (held_moved h (finish_move a (object_with m o))) m (finish m a o) (finish_outlines h a (object_with m o)) (finish_same m a o (needs.over refl)) f)
fit_word h m a o call Abort said needs f celled rising = fit_stays h m (with_call m a without_number) a (refusal_in said) (λ k i g c. refl) f
fit_word h m a o call Free said needs f celled rising = fit_stays h m (with_call m a without_look) a (refusal_in said) (λ k i g c. refl) f
fit_word h m a o call Exit said needs f celled rising = kept h (held_with_pending h a None) m (left m a) (outlines_pending h a None) (λ k i g c. refl) f

pub fit_slot :
    (h : Held) (m : State) (a o : ℕ) (slot : Option InFlight) (w : Word) (said : Answer) → ((call : InFlight) → slot ≡ Some call → StepNeeds h m a o call w said) → Fits h m → IsCelled m.pools m.objects → IsRising 0 m.objects m.made
    → Fits (held_moved h (step_move m a slot w o said)) (after_step m a slot w o said)
fit_slot h m a o None w said needs f celled rising = f
fit_slot h m a o (Some call) w said needs f celled rising = fit_word h m a o call w said (needs call refl) f celled rising

-- The other entries.

answered_same : (m fine : State) (r : Option Errno) → CountsSame m fine → CountsSame m (unless_answered m r fine)
answered_same m fine None same = same
answered_same m fine (Some e) same = λ k i g c. refl

fit_gone : (h : Held) (m : State) (o : ℕ) (found : Option Object) → object_with m o ≡ found → may_go_object m found ≡ true → Fits h m → IsRising 0 m.objects m.made → Fits (held_moved h (gone_move found)) (gone_from m o found)
fit_gone h m o None is may f rising = absurd cc
fit_gone h m o (Some x) is may f rising =
    kept h (held_moved h (gone_move (Some x))) m (gone_from m o (Some x)) (bury_outlines h (OfTeardown x.file) x)
    (λ k i g c. any_gone k i g o m.made m.objects x rising is (and_first (is_doomed x.phase) (may_sweep m x.file) may))
    f

closed_dead : (m : State) (f : ℕ) (x : Object) → may_close m f ≡ true → IsIn x m.objects → not_in_file f x ≡ false → is_alive x.phase ≡ false
closed_dead m f x may at e =
    let none : has_standing m f ≡ false = not_true (has_standing m f) (and_last (is_quiet m f) _ (and_last (is_closing (phase_of m f)) _ may)) in
    let gone = fails_any (is_standing_in f) x m.objects none at in
    let here : in_file f x ≡ true = not_false (in_file f x) e in
    let husk : is_husk x.phase ≡ true = no_standing (in_file f x) (is_husk x.phase) here gone in
    dead_if_husk x.phase husk

closed_same : (m : State) (f : ℕ) → may_close m f ≡ true → CountsSame m (after m (entry.Closed f))
closed_same m f may k i g c = any_filter (has_live_cell k i g) (not_in_file f) m.objects (λ x at e. dead_counts_not k i g x (closed_dead m f x may at e))

pub fit_entry :
    (h : Held) (m : State) (e : Entry) → Allowed m e → StepInRange m e
    → ((a o : ℕ) (w : Word) (found : Option QpState) (said : Answer) → Allowed m (entry.Step a w o found said) → StepInRange m (entry.Step a w o found said) → (call : InFlight) → call_of m a ≡ Some call → StepNeeds h m a o call w said)
    → Fits h m → IsCelled m.pools m.objects → IsRising 0 m.objects m.made → Fits (held_after h m e) (after m e)
fit_entry h m (entry.Open a f d said) allowed range needs fits celled rising = kept h h m (after m (entry.Open a f d said)) (λ k. refl) (answered_same m (with_file m f (opened a d)) (refusal_in said) (λ k i g c. refl)) fits
fit_entry h m (entry.Enter a f q said) allowed range needs fits celled rising =
    kept h (held_brought h (entry.Enter a f q said)) m (after m (entry.Enter a f q said)) (brought_outlines h (entry.Enter a f q said)) (answered_same m (record m { calls = at_place m.calls a (put_call (entered f q)) }) (refusal_in said) (λ k i g c. refl)) fits
fit_entry h m (entry.Step a w o found said) allowed range needs fits celled rising = fit_slot h m a o (call_of m a) w said (needs a o w found said allowed range) fits celled rising
fit_entry h m (entry.Unplug d) allowed range needs fits celled rising = kept h h m (after m (entry.Unplug d)) (λ k. refl) (λ k i g c. refl) fits
fit_entry h m (entry.Tear f by) allowed range needs fits celled rising = kept h h m (after m (entry.Tear f by)) (λ k. refl) (λ k i g c. refl) fits
fit_entry h m (entry.Kill o) allowed range needs fits celled rising = fit_kill h m (after m (entry.Kill o)) o (object_with m o) refl fits celled rising refl
fit_entry h m (entry.Gone o n) allowed range needs fits celled rising = fit_gone h m o (object_with m o) refl allowed fits rising
fit_entry h m (entry.Dissociated f) allowed range needs fits celled rising = kept h h m (after m (entry.Dissociated f)) (λ k. refl) (λ k i g c. refl) fits
fit_entry h m (entry.Closed f) allowed range needs fits celled rising = kept h h m (after m (entry.Closed f)) (λ k. refl) (closed_same m f allowed.1) fits
