-- What entries do to the objects that they don't name: nothing.
use Rattle.std.proofs.Common.{◌≡◌, ℕ, false, List, Option, Some, None, length, map, ap, sym, ◌∙◌, subst}
use Rattle.std.specs.Prelude.{not, ◌==◌, nat_lt, filter, if◌then◌else◌}
use Rattle.std.proofs.lemmas.Bool.{eqb-false, ne_eqb}
use Rattle.uv_num.specs.declared.errno.Errno.{Errno}
use Rattle.uv_num.specs.declared.limits.TheConstants.{MOST_OBJECTS}
use Rattle.uv_num.specs.declared.qp.QpState.{QpState}
use Rattle.uv_num.specs.declared.request.Act as request
use Rattle.uv_num.specs.declared.request.Act.TheVariants.{Modify, Query, Bind, Unbind, Async}
use Rattle.uv_machine.specs.declared.entry.Entry.TheVariants.{Open, Enter, Step, Unplug, Tear, Kill, Gone, Dissociated, Closed}
use Rattle.uv_machine.specs.declared.entry.Word.{Word}
use Rattle.uv_machine.specs.declared.entry.Word.TheVariants as word
use Rattle.uv_machine.specs.declared.entry.Answer.{Answer}
use Rattle.uv_machine.specs.declared.object.Object.{Object}
use Rattle.uv_machine.specs.declared.object.Change.{Change}
use Rattle.uv_machine.specs.declared.object.Change.TheVariants.{ToLive, ToDoomed, ToHusk, ToBound}
use Rattle.uv_machine.specs.declared.call.InFlight.{InFlight}
use Rattle.uv_machine.specs.declared.state.State.{State}
use Rattle.uv_machine.specs.Objects.{has_id, with_change, on_object}
use Rattle.uv_machine.specs.Plans.{next_word, own_object, acted_on}
use Rattle.uv_machine.specs.States.{object_with}
use Rattle.uv_machine.specs.Steps.{told, act_told}
use Rattle.uv_machine.specs.Effects.{refusal_in, act, binding_of, not_with_id, not_in_file, gone_from, unless_answered}
use Rattle.uv_machine.specs.Histories.{after}
use Rattle.uv_machine.specs.Reached.{IsIn}
use Rattle.uv_machine.specs.ObjectLaws.{ObjectsStandApart}
use Rattle.uv_machine.proofs.Members.{IsIn-into_map}
use Rattle.uv_machine.proofs.Planned.{InPlan, next_word-planned}
use Rattle.uv_machine.proofs.Turns.{Turn, object_made, IsTurn-allowed}
use Rattle.uv_machine.proofs.Turns.Turn.{Refuses, Reserves, Looks, Makes, Commits, Does, Locks, Checks, Finishes, Aborts, Frees, Leaves}
use Rattle.uv_machine.proofs.Holding.{finish_objects}
use Rattle.uv_machine.proofs.Owning.{into_filter, with_room_by}

apart_map : (objects : List Object) (x : Object) (o : ℕ) (change : Change) → IsIn x objects → (o == x.id) ≡ false → IsIn x (map (on_object o change) objects)
apart_map objects x o change k apart =
    let ne : has_id o x ≡ false = ne_eqb x.id o (λ e. eqb-false o x.id apart (sym e)) in
    let same : on_object o change x ≡ x = ap (λ b. if b then with_change change x else x) ne in
    let P : Object → Type 0 = λ v. IsIn v (map (on_object o change) objects) in
    subst P same (IsIn-into_map (on_object o change) x objects k)

apart_filter : (objects : List Object) (x : Object) (o : ℕ) → IsIn x objects → (o == x.id) ≡ false → IsIn x (filter (not_with_id o) objects)
apart_filter objects x o k apart =
    into_filter (not_with_id o) objects x k (ap not (ne_eqb x.id o (λ e. eqb-false o x.id apart (sym e))))

there_as : (x : Object) (m' n : State) → m' ≡ n → IsIn x n.objects → IsIn x m'.objects
there_as x m' n e k = let P : State → Type 0 = λ s. IsIn x s.objects in subst P (sym e) k

module _ (m : State) (x : Object) (k : IsIn x m.objects) (c : ℕ) (w : Word) (o : ℕ) (found : Option QpState) (a : Answer) (apart : (o == x.id) ≡ false) where
  -- the object that a step names
  named : (call : InFlight) (v : Word) → next_word call ≡ w → InPlan call v → (told m c call found w).object ≡ o → (told m c call found v).object ≡ o
  named call v is plan says =
      let said : w ≡ v = sym is ∙ next_word-planned call v plan.fine plan.planned in
      ap (λ u. (told m c call found u).object) (sym said) ∙ says

  not_this : (i : ℕ) → i ≡ o → (i == x.id) ≡ false
  not_this i e = ap (λ v. v == x.id) e ∙ apart

  there_act : (call : InFlight) (what : request.Act) → acted_on call ≡ o → IsIn x (act m c call a what).objects
  there_act call (Modify to attrs) e = k
  there_act call Query e = k
  there_act call (Bind offset long access) e = apart_map m.objects x (acted_on call) (ToBound (Some (binding_of call offset long access))) k (not_this (acted_on call) e)
  there_act call (Unbind offset long access) e = apart_map m.objects x (acted_on call) (ToBound None) k (not_this (acted_on call) e)
  there_act call Async e = k

  there_turn : (call : InFlight) (m' : State) → next_word call ≡ w → (told m c call found w).object ≡ o → Turn m c call a m' → IsIn x m'.objects
  there_turn call m' is says (Refuses t) = there_as x m' _ t.gives k
  there_turn call m' is says (Reserves t) = there_as x m' _ t.gives k
  there_turn call m' is says (Looks t) = there_as x m' _ t.gives k
  there_turn call m' is says (Makes t) = there_as x m' _ t.gives (with_room_by (nat_lt (length m.objects) MOST_OBJECTS) (object_made m call t.kind t.index) x m.objects k)
  there_turn call m' is says (Commits t) =
      there_as x m' _ t.gives (apart_map m.objects x (own_object call) ToLive k (not_this (own_object call) (named call word.Commit is t.plan says)))
  there_turn call m' is says (Does t) =
      there_as x m' _ t.gives
      (there_act call t.what (ap (λ v. (act_told m call found v).object) (sym t.acts) ∙ named call word.Act is t.plan says))
  there_turn call m' is says (Locks t) = there_as x m' _ t.gives k
  there_turn call m' is says (Checks t) =
      there_as x m' _ t.gives (apart_map m.objects x (own_object call) ToDoomed k (not_this (own_object call) (named call word.Check is t.plan says)))
  there_turn call m' is says (Finishes t) =
      let P : List Object → Type 0 = λ v. IsIn x v in
      there_as x m' _ t.gives
      (subst P (sym (finish_objects m c (own_object call))) (apart_filter m.objects x (own_object call) k (not_this (own_object call) (named call word.Finish is t.plan says))))
  there_turn call m' is says (Aborts t) = there_as x m' _ t.gives k
  there_turn call m' is says (Frees t) = there_as x m' _ t.gives k
  there_turn call m' is says (Leaves t) = there_as x m' _ t.gives k

there_unless : (m m' : State) (x : Object) (e : Option Errno) → IsIn x m.objects → IsIn x m'.objects → IsIn x (unless_answered m e m').objects
there_unless m m' x None k k' = k'
there_unless m m' x (Some e) k k' = k

there_gone : (m : State) (x : Object) (o : ℕ) (slot : Option Object) → IsIn x m.objects → (o == x.id) ≡ false → IsIn x (gone_from m o slot).objects
there_gone m x o None k apart = k
there_gone m x o (Some y) k apart = apart_map m.objects x o ToHusk k apart

pub objects_stand_apart : ObjectsStandApart
objects_stand_apart m (Open c f d a) x allowed k apart keeps = there_unless m _ x (refusal_in a) k k
objects_stand_apart m (Enter c f request a) x allowed k apart keeps = there_unless m _ x (refusal_in a) k k
objects_stand_apart m (Step c w o found a) x allowed k apart keeps =
    let t = IsTurn-allowed m c w o found a allowed in
    there_turn m x k c w o found a apart t.call (after m (Step c w o found a)) t.word t.object t.turn
objects_stand_apart m (Unplug d) x allowed k apart keeps = k
objects_stand_apart m (Tear f by) x allowed k apart keeps = k
objects_stand_apart m (Kill o) x allowed k apart keeps = apart_map m.objects x o ToDoomed k apart
objects_stand_apart m (Gone o kept) x allowed k apart keeps = there_gone m x o (object_with m o) k apart
objects_stand_apart m (Dissociated f) x allowed k apart keeps = k
objects_stand_apart m (Closed f) x allowed k apart keeps =
    into_filter (not_in_file f) m.objects x k (ap not (ne_eqb x.file f (λ e. eqb-false f x.file keeps (sym e))))
