-- The deed of each doomed object stays in an actor's hands.
use Rattle.std.proofs.Common.{◌≡◌, ℕ, Bool, true, false, List, Option, Some, None, map, refl, ap, sym, ◌∙◌, subst, ⊎_elim}
use Rattle.std.specs.Prelude.{filter, if◌then◌else◌}
use Rattle.std.proofs.lemmas.Option.{none-some, same_Some}
use Rattle.std.proofs.lemmas.Bool.{eqb-true}
use Rattle.uv_num.specs.declared.errno.Errno.{Errno}
use Rattle.uv_num.specs.declared.kind.Kind.{Kind}
use Rattle.uv_num.specs.declared.request.Act as request
use Rattle.uv_num.specs.declared.request.Act.TheVariants.{Modify, Query, Bind, Unbind, Async}
use Rattle.uv_num.specs.declared.request.Role.{Role}
use Rattle.uv_num.specs.declared.request.Role.TheVariants.{Creates, Destroys, Acts}
use Rattle.uv_num.specs.Kind.{kind_place}
use Rattle.uv_num.specs.Request.{role_of}
use Rattle.uv_machine.specs.declared.entry.Answer.{Answer}
use Rattle.uv_machine.specs.declared.entry.Entry.{Entry}
use Rattle.uv_machine.specs.declared.entry.Entry.TheVariants.{Open, Enter, Step, Unplug, Tear, Kill, Gone, Dissociated, Closed}
use Rattle.uv_machine.specs.declared.entry.Word.{Word}
use Rattle.uv_machine.specs.declared.entry.Word.TheVariants.{Reserve, Look, Make, Commit, Act, Lock, Check, Finish, Abort, Free, Exit}
use Rattle.uv_machine.specs.declared.object.Change.{Change}
use Rattle.uv_machine.specs.declared.object.Change.TheVariants.{ToLive, ToDoomed, ToHusk, ToBound}
use Rattle.uv_machine.specs.declared.object.Object.{Object}
use Rattle.uv_machine.specs.declared.object.Phase.{Phase}
use Rattle.uv_machine.specs.declared.object.Phase.TheVariants as phase
use Rattle.uv_machine.specs.declared.call.InFlight.{InFlight}
use Rattle.uv_machine.specs.declared.state.State.{State}
use Rattle.uv_machine.specs.Objects.{has_id, is_doomed, is_husk, live_from, doomed_from, with_change, on_object}
use Rattle.uv_machine.specs.Plans.{acted_on}
use Rattle.uv_machine.specs.States.{call_of, object_with, home_cell}
use Rattle.uv_machine.specs.Effects.{refusal_in, with_room_for, new_object, make_at, make, binding_of, act, act_by, commit, check, finish, not_with_id, not_in_file, gone_from, unless_answered, unless_refused, stepped, after_step}
use Rattle.uv_machine.specs.Histories.{after}
use Rattle.uv_machine.specs.Reached.{Reached}
use Rattle.uv_machine.proofs.Members.{IsIn-map, Passes-filter}
use Rattle.uv_machine.proofs.Graph.{in_room}
use Rattle.uv_machine.proofs.Holding.{finish_objects}
use Rattle.uv_graph.specs.Dooms.{DoomsNone, WordDoomsNone, IsHuskUnless}
use Rattle.uv_graph.specs.Kept.{Kept}
use Rattle.uv_graph.specs.Notes.{IsHuskIf}
use Rattle.uv_graph.specs.Seats.{IsAway, AreHandedOut}
use Rattle.uv_graph.proofs.Holders.{object_is}

abbrev pub Handed : Kept → Object → Type 0
Handed k x = is_doomed x.phase ≡ true → IsAway k (kind_place x.kind) x.index x.id

-- Objects that change.

live_from_doomed : (p : Phase) → is_doomed (live_from p) ≡ true → is_doomed p ≡ true
live_from_doomed phase.Made e = absurd cc
live_from_doomed phase.Live e = absurd cc
live_from_doomed phase.Doomed e = refl
live_from_doomed phase.Husk e = absurd cc

husk_apart : (p : Phase) → is_husk p ≡ true → is_doomed (doomed_from p) ≡ true → ⊥
husk_apart phase.Made e d = absurd cc
husk_apart phase.Live e d = absurd cc
husk_apart phase.Doomed e d = absurd cc
husk_apart phase.Husk e d = absurd cc

abbrev dooms : Change → Bool
dooms ToLive = false
dooms ToDoomed = true
dooms ToHusk = false
dooms (ToBound binding) = false

handed_changed : (k : Kept) (b : Bool) (change : Change) (x : Object) → dooms change ≡ false → Handed k x → Handed k (if b then with_change change x else x)
handed_changed k true ToLive x s h d = h (live_from_doomed x.phase d)
handed_changed k true ToDoomed x s h d = absurd cc
handed_changed k true ToHusk x s h d = absurd cc
handed_changed k true (ToBound binding) x s h d = h d
handed_changed k false change x s h d = h d

handed_map : (k : Kept) (objects : List Object) (o : ℕ) (change : Change) → dooms change ≡ false → AreHandedOut k objects → AreHandedOut k (map (on_object o change) objects)
handed_map k objects o change s all y i d =
    let from = IsIn-map (on_object o change) y objects i in
    let P : Object → Type 0 = λ v. Handed k v in
    subst P (sym from.gives) (handed_changed k (has_id o from.item) change from.item s (all from.item from.within)) d

husk_changed : (k : Kept) (b : Bool) (x : Object) → (b ≡ true → is_husk x.phase ≡ true) → Handed k x → Handed k (if b then with_change ToDoomed x else x)
husk_changed k true x husk h d = absurd (husk_apart x.phase (husk refl) d)
husk_changed k false x husk h d = h d

husk_is : (x : Object) (slot : Option Object) → slot ≡ Some x → IsHuskIf slot → is_husk x.phase ≡ true
husk_is x None e husk = absurd (none-some x e)
husk_is x (Some y) e husk = ap (λ (v : Object). is_husk v.phase) (sym (same_Some y x e)) ∙ husk

-- Steps.

module _ (k : Kept) (m : State) (r : Reached m) (all : AreHandedOut k m.objects) where
  -- the check of a husk
  handed_checked : (o : ℕ) → IsHuskIf (object_with m o) → AreHandedOut k (map (on_object o ToDoomed) m.objects)
  handed_checked o husk y i d =
      let from = IsIn-map (on_object o ToDoomed) y m.objects i in
      let P : Object → Type 0 = λ v. Handed k v in
      let at : has_id o from.item ≡ true → is_husk from.item.phase ≡ true =
      λ e. husk_is from.item (object_with m o) (ap (object_with m) (sym (eqb-true from.item.id o e)) ∙ object_is m from.item r from.within) husk in
      subst P (sym from.gives) (husk_changed k (has_id o from.item) from.item at (all from.item from.within)) d

  handed_filter : (q : Object → Bool) → AreHandedOut k (filter q m.objects)
  handed_filter q y i d = all y (Passes-filter q y m.objects i).within d

  handed_new : (z : Object) → is_doomed z.phase ≡ false → AreHandedOut k (with_room_for z m.objects)
  handed_new z none y i d =
      ⊎_elim (λ h. all y h d) (λ e. absurd (let same : is_doomed y.phase ≡ false = ap (λ (v : Object). is_doomed v.phase) e ∙ none in cc)) (in_room y z m.objects i)

  handed_refused : (c : ℕ) (m' : State) (e : Option Errno) → AreHandedOut k m'.objects → AreHandedOut k (unless_refused m c e m').objects
  handed_refused c m' None h = h
  handed_refused c m' (Some e) h = all

  handed_answered : (m' : State) (e : Option Errno) → AreHandedOut k m'.objects → AreHandedOut k (unless_answered m e m').objects
  handed_answered m' None h = h
  handed_answered m' (Some e) h = all

  handed_made : (c : ℕ) (call : InFlight) (kind : Kind) (slot : Option ℕ) → AreHandedOut k (make_at m c call kind slot).objects
  handed_made c call kind None = all
  handed_made c call kind (Some index) = handed_new (new_object m call kind index _) refl

  handed_make : (c : ℕ) (call : InFlight) (role : Role) → AreHandedOut k (make m c call role).objects
  handed_make c call (Creates kind) = handed_made c call kind (home_cell m kind)
  handed_make c call (Destroys asked) = all
  handed_make c call (Acts act) = all

  handed_act : (c : ℕ) (call : InFlight) (a : Answer) (what : request.Act) → AreHandedOut k (act m c call a what).objects
  handed_act c call a (Modify to attrs) = all
  handed_act c call a Query = all
  handed_act c call a (Bind offset long access) = handed_map k m.objects (acted_on call) (ToBound (Some (binding_of call offset long access))) refl all
  handed_act c call a (Unbind offset long access) = handed_map k m.objects (acted_on call) (ToBound None) refl all
  handed_act c call a Async = all

  handed_act_by : (c : ℕ) (call : InFlight) (a : Answer) (role : Role) → AreHandedOut k (act_by m c call a role).objects
  handed_act_by c call a (Creates kind) = all
  handed_act_by c call a (Destroys asked) = all
  handed_act_by c call a (Acts what) = handed_act c call a what

  handed_check : (c o : ℕ) (e : Option Errno) → IsHuskUnless e (object_with m o) → AreHandedOut k (unless_refused m c e (check m c o)).objects
  handed_check c o None husk = handed_checked o husk
  handed_check c o (Some e) husk = all

  handed_finish : (c o : ℕ) → AreHandedOut k (finish m c o).objects
  handed_finish c o = let P : List Object → Type 0 = λ v. AreHandedOut k v in subst P (sym (finish_objects m c o)) (handed_filter (not_with_id o))

  handed_stepped : (c : ℕ) (call : InFlight) (w : Word) (o : ℕ) (a : Answer) → WordDoomsNone w (refusal_in a) (object_with m o) → AreHandedOut k (stepped m c call w o a).objects
  handed_stepped c call Reserve o a none = handed_refused c _ (refusal_in a) all
  handed_stepped c call Look o a none = handed_refused c _ (refusal_in a) all
  handed_stepped c call Make o a none = handed_refused c _ (refusal_in a) (handed_make c call (role_of call.request))
  handed_stepped c call Commit o a none = handed_refused c (commit m c o) (refusal_in a) (handed_map k m.objects o ToLive refl all)
  handed_stepped c call Act o a none = handed_refused c _ (refusal_in a) (handed_act_by c call a (role_of call.request))
  handed_stepped c call Lock o a none = handed_refused c _ (refusal_in a) all
  handed_stepped c call Check o a none = handed_check c o (refusal_in a) none
  handed_stepped c call Finish o a none = handed_refused c (finish m c o) (refusal_in a) (handed_finish c o)
  handed_stepped c call Abort o a none = handed_refused c _ (refusal_in a) all
  handed_stepped c call Free o a none = handed_refused c _ (refusal_in a) all
  handed_stepped c call Exit o a none = all

  handed_step : (c : ℕ) (slot : Option InFlight) (w : Word) (o : ℕ) (a : Answer) → WordDoomsNone w (refusal_in a) (object_with m o) → AreHandedOut k (after_step m c slot w o a).objects
  handed_step c None w o a none = all
  handed_step c (Some call) w o a none = handed_stepped c call w o a none

  handed_gone : (o : ℕ) (slot : Option Object) → AreHandedOut k (gone_from m o slot).objects
  handed_gone o None = all
  handed_gone o (Some x) = handed_map k m.objects o ToHusk refl all

  -- an entry that takes no object out of use, where the same deeds are out
  pub handed_after : (e : Entry) → DoomsNone m e → AreHandedOut k (after m e).objects
  handed_after (Open c f d a) none = handed_answered _ (refusal_in a) all
  handed_after (Enter c f request a) none = handed_answered _ (refusal_in a) all
  handed_after (Step c w o found a) none = handed_step c (call_of m c) w o a none
  handed_after (Unplug d) none = all
  handed_after (Tear f by) none = all
  handed_after (Kill o) none = absurd none
  handed_after (Gone o kept) none = handed_gone o (object_with m o)
  handed_after (Dissociated f) none = all
  handed_after (Closed f) none = handed_filter (not_in_file f)
