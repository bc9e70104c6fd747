-- Each object that was made is released once, and none while it has users.
use Rattle.std.proofs.Common.{◌≡◌, ℕ, Bool, true, false, List, Option, Some, None, map, refl, ap, sym, ◌∙◌, subst, inl, inr, ◌⊎◌, ⊎_elim}
use Rattle.std.specs.Prelude.{not, ◌&&◌, ◌==◌, filter, reverse}
use Rattle.std.specs.List.{list_any}
use Rattle.std.proofs.lemmas.Bool.{and_parts, eqb-true}
use Rattle.uv_num.specs.declared.errno.Errno.{Errno}
use Rattle.uv_num.specs.declared.request.Act as request
use Rattle.uv_num.specs.declared.request.Act.TheVariants.{Modify, Query, Bind, Unbind, Async}
use Rattle.uv_num.specs.declared.request.Role.TheVariants.{Acts}
use Rattle.uv_num.specs.Ids.{ids_of}
use Rattle.uv_num.specs.Looks.{looks_of}
use Rattle.uv_num.specs.Request.{role_of}
use Rattle.uv_machine.specs.declared.entry.Entry.{Entry}
use Rattle.uv_machine.specs.declared.entry.Entry.TheVariants.{Open, Enter, Step, Unplug, Tear, Kill, Gone, Dissociated, Closed}
use Rattle.uv_machine.specs.declared.entry.Word.{Word}
use Rattle.uv_machine.specs.declared.entry.Word.TheVariants.{Reserve, Look, Make, Commit, Act, Lock, Check, Finish, Abort, Free, Exit}
use Rattle.uv_machine.specs.declared.entry.Answer.{Answer}
use Rattle.uv_machine.specs.declared.object.Phase.{Phase}
use Rattle.uv_machine.specs.declared.object.Phase.TheVariants as phase
use Rattle.uv_machine.specs.declared.object.Object.{Object}
use Rattle.uv_machine.specs.declared.object.Change.{Change}
use Rattle.uv_machine.specs.declared.object.Change.TheVariants.{ToLive, ToDoomed, ToHusk, ToBound}
use Rattle.uv_machine.specs.declared.call.InFlight.{InFlight}
use Rattle.uv_machine.specs.declared.state.State.{State}
use Rattle.uv_machine.specs.Objects.{has_id, in_file, is_live, is_doomed, uses_object, on_object}
use Rattle.uv_machine.specs.Plans.{own_object, acted_on, looks_at}
use Rattle.uv_machine.specs.States.{call_of, object_with, has_users, can_go, newest_free, has_doomed}
use Rattle.uv_machine.specs.Effects.{refusal_in, act, binding_of, not_with_id, not_in_file, gone_from, unless_answered}
use Rattle.uv_machine.specs.Outside.{may_sweep, is_object, may_kill_object, may_go_object}
use Rattle.uv_machine.specs.Histories.{Allowed, after}
use Rattle.uv_machine.specs.Lives.{is_doomed_object, finishes, releases}
use Rattle.uv_machine.specs.Reached.{IsIn, Reached}
use Rattle.uv_machine.proofs.Members.{IsIn-map, Passes-find, Passes-filter, fails_any, list_any-none}
use Rattle.uv_machine.proofs.Planned.{InPlan}
use Rattle.uv_machine.proofs.Turns.{Turn, object_made, IsTurn-allowed}
use Rattle.uv_machine.proofs.Turns.Turn.{Refuses, Reserves, Looks, Makes, Commits, Does, Locks, Checks, Finishes, Aborts, Frees, Leaves}
use Rattle.uv_machine.proofs.Calling.{false_unless}
use Rattle.uv_machine.proofs.Changing.{Gains, on_object-id, on_object-uses, live-doomed, doomed-doomed, husk-doomed, bound-doomed}
use Rattle.uv_machine.proofs.Graph.{in_room}
use Rattle.uv_machine.proofs.Suiting.{suits_some}
use Rattle.uv_machine.proofs.Holding.{finish_objects, suits_at, bind_at, acts_on_second}

-- Doomed objects have no users.

abbrev pub Unused : List Object → Type 0
Unused objects = (x y : Object) → IsIn x objects → IsIn y objects → is_doomed x.phase ≡ true → uses_object x.id y ≡ false

live_not_doomed : (p : Phase) → is_live p ≡ true → is_doomed p ≡ true → ⊥
live_not_doomed phase.Made h e = cc
live_not_doomed phase.Live h e = cc
live_not_doomed phase.Doomed h e = cc
live_not_doomed phase.Husk h e = cc

not_so : (b : Bool) → not b ≡ true → b ≡ false
not_so true h = absurd cc
not_so false h = refl

unused_map : (objects : List Object) (o : ℕ) (change : Change) → ((x y : Object) → IsIn x objects → IsIn y objects → is_doomed (on_object o change x).phase ≡ true → uses_object x.id y ≡ false) → ((x y : Object) → IsIn x objects → IsIn y objects → is_doomed (on_object o change x).phase ≡ true → y.id ≡ o → Gains change x.id → ⊥) → Unused (map (on_object o change) objects)
unused_map objects o change before gains x' y' k h doomed =
    let fx = IsIn-map (on_object o change) x' objects k in
    let fy = IsIn-map (on_object o change) y' objects h in
    let x = fx.item in
    let y = fy.item in
    let d : is_doomed (on_object o change x).phase ≡ true = sym (ap (λ (v : Object). is_doomed v.phase) fx.gives) ∙ doomed in
    let id : x'.id ≡ x.id = ap (λ (v : Object). v.id) fx.gives ∙ on_object-id o change x in
    let same : uses_object x'.id y' ≡ uses_object x.id (on_object o change y) = ap (λ i. uses_object i y') id ∙ ap (uses_object x.id) fy.gives in
    false_unless (uses_object x'.id y')
    (λ used. ⊎_elim
    (λ old. (let none = before x y fx.within fy.within d in cc))
    (λ new. gains x y fx.within fy.within d new.0 new.1)
    (on_object-uses o change y x.id (sym same ∙ used)))

unused_filter : (objects : List Object) (p : Object → Bool) → Unused objects → Unused (filter p objects)
unused_filter objects p unused x y k h doomed = unused x y (Passes-filter p x objects k).within (Passes-filter p y objects h).within doomed

unused_live : (objects : List Object) (o : ℕ) → Unused objects → Unused (map (on_object o ToLive) objects)
unused_live objects o unused =
    unused_map objects o ToLive (λ x y k h d. unused x y k h (live-doomed o x d)) (λ x y k h d e g. absurd g)

unused_doomed : (objects : List Object) (o : ℕ) → list_any (uses_object o) objects ≡ false → Unused objects → Unused (map (on_object o ToDoomed) objects)
unused_doomed objects o none unused =
    unused_map objects o ToDoomed
    (λ x y k h d. ⊎_elim (λ e. ap (λ i. uses_object i y) e ∙ fails_any (uses_object o) y objects none h) (λ old. unused x y k h old) (doomed-doomed o x d))
    (λ x y k h d e g. absurd g)

unused_husk : (objects : List Object) (o : ℕ) → Unused objects → Unused (map (on_object o ToHusk) objects)
unused_husk objects o unused =
    unused_map objects o ToHusk (λ x y k h d. unused x y k h (husk-doomed o x d).1) (λ x y k h d e g. absurd g)

unused_as : (m' n : State) → m' ≡ n → Unused n.objects → Unused m'.objects
unused_as m' n e h = let P : State → Type 0 = λ s. Unused s.objects in subst P (sym e) h

module _ (m : State) (r : Reached m) (unused : Unused m.objects) (c : ℕ) (call : InFlight) (is : call_of m c ≡ Some call) where
  unused_made : (t : InPlan call Make) (x y z : Object) → IsIn x m.objects ⊎ (x ≡ z) → IsIn y m.objects ⊎ (y ≡ z) → is_doomed z.phase ≡ false → z.uses ≡ call.looked → is_doomed x.phase ≡ true → uses_object x.id y ≡ false
  unused_made t x y z (inl k) (inl h) made uses doomed = unused x y k h doomed
  unused_made t x y z (inl k) (inr e) made uses doomed =
      false_unless (uses_object x.id y)
      (λ used. (
      let look : looks_at x.id call ≡ true = sym (ap (λ v. list_any (λ i. i == x.id) (ids_of v)) (ap (λ (v : Object). v.uses) e ∙ uses)) ∙ used in
      let s = suits_some m.objects call.file (ids_of call.looked) (looks_of call.request) x (suits_at m r c call is Make t refl) k look in
      live_not_doomed x.phase s.suits.live doomed))
  unused_made t x y z (inr e) h made uses doomed = absurd (let never : is_doomed x.phase ≡ false = ap (λ (v : Object). is_doomed v.phase) e ∙ made in cc)

  unused_act : (a : Answer) (what : request.Act) → InPlan call Act → role_of call.request ≡ Acts what → Unused (act m c call a what).objects
  unused_act a (Modify to attrs) plan role = unused
  unused_act a Query plan role = unused
  unused_act a (Bind offset long access) plan role =
      let b = bind_at m r c call is offset long access plan role in
      let binding = binding_of call offset long access in
      let second = acts_on_second m r c call is b.region _ b.looked refl in
      unused_map m.objects (acted_on call) (ToBound (Some binding))
      (λ x y k h d. unused x y k h (bound-doomed (acted_on call) x (Some binding) d))
      (λ x y k h d e g. live_not_doomed x.phase (b.regions x k (sym g ∙ second)).2 (bound-doomed (acted_on call) x (Some binding) d))
  unused_act a (Unbind offset long access) plan role =
      unused_map m.objects (acted_on call) (ToBound None)
      (λ x y k h d. unused x y k h (bound-doomed (acted_on call) x None d))
      (λ x y k h d e g. absurd g)
  unused_act a Async plan role = unused

  pub unused_turn : (a : Answer) (m' : State) → Turn m c call a m' → Unused m'.objects
  unused_turn a m' (Refuses t) = unused_as m' _ t.gives unused
  unused_turn a m' (Reserves t) = unused_as m' _ t.gives unused
  unused_turn a m' (Looks t) = unused_as m' _ t.gives unused
  unused_turn a m' (Makes t) =
      let z = object_made m call t.kind t.index in
      unused_as m' _ t.gives (λ x y k h doomed. unused_made t.plan x y z (in_room x z m.objects k) (in_room y z m.objects h) refl refl doomed)
  unused_turn a m' (Commits t) = unused_as m' _ t.gives (unused_live m.objects (own_object call) unused)
  unused_turn a m' (Does t) = unused_as m' _ t.gives (unused_act a t.what t.plan t.acts)
  unused_turn a m' (Locks t) = unused_as m' _ t.gives unused
  unused_turn a m' (Checks t) = unused_as m' _ t.gives (unused_doomed m.objects (own_object call) t.unused unused)
  unused_turn a m' (Finishes t) =
      unused_as m' _ t.gives (let P : List Object → Type 0 = λ v. Unused v in subst P (sym (finish_objects m c (own_object call))) (unused_filter m.objects (not_with_id (own_object call)) unused))
  unused_turn a m' (Aborts t) = unused_as m' _ t.gives unused
  unused_turn a m' (Frees t) = unused_as m' _ t.gives unused
  unused_turn a m' (Leaves t) = unused_as m' _ t.gives unused

-- what is killed has no users

free_unused : (m : State) (f o : ℕ) (slot : Option Object) → newest_free m f ≡ slot → is_object o slot ≡ true → has_users m o ≡ false
free_unused m f o None is e = absurd cc
free_unused m f o (Some x) is e =
    let p = Passes-find (can_go m f) x (reverse m.objects) is in
    let parts = and_parts (in_file f x) (is_live x.phase && not (has_users m x.id)) p.test in
    let rest = and_parts (is_live x.phase) (not (has_users m x.id)) parts.1 in
    let none : has_users m x.id ≡ false = not_so (has_users m x.id) rest.1 in
    ap (has_users m) (sym (eqb-true x.id o e)) ∙ none

pub killed_by : (m : State) (o : ℕ) (slot : Option Object) → may_kill_object m o slot ≡ true → has_users m o ≡ false
killed_by m o None e = absurd cc
killed_by m o (Some x) e =
    let swept = and_parts (may_sweep m x.file) (not (has_doomed m x.file) && is_object o (newest_free m x.file)) e in
    let newest = and_parts (not (has_doomed m x.file)) (is_object o (newest_free m x.file)) swept.1 in
    free_unused m x.file o (newest_free m x.file) refl newest.1

unused_gone : (m : State) (o : ℕ) (slot : Option Object) → Unused m.objects → Unused (gone_from m o slot).objects
unused_gone m o None unused = unused
unused_gone m o (Some x) unused = unused_husk m.objects o unused

unused_unless : (m m' : State) (e : Option Errno) → Unused m.objects → Unused m'.objects → Unused (unless_answered m e m').objects
unused_unless m m' None u u' = u'
unused_unless m m' (Some e) u u' = u

pub unused_after : (m : State) (e : Entry) → Reached m → Allowed m e → Unused m.objects → Unused (after m e).objects
unused_after m (Open c f d a) r allowed unused = unused_unless m _ (refusal_in a) unused unused
unused_after m (Enter c f request a) r allowed unused = unused_unless m _ (refusal_in a) unused unused
unused_after m (Step c w o found a) r allowed unused =
    let t = IsTurn-allowed m c w o found a allowed in
    unused_turn m r unused c t.call t.is a (after m (Step c w o found a)) t.turn
unused_after m (Unplug d) r allowed unused = unused
unused_after m (Tear f by) r allowed unused = unused
unused_after m (Kill o) r allowed unused = unused_doomed m.objects o (killed_by m o (object_with m o) allowed) unused
unused_after m (Gone o kept) r allowed unused = unused_gone m o (object_with m o) unused
unused_after m (Dissociated f) r allowed unused = unused
unused_after m (Closed f) r allowed unused = unused_filter m.objects (not_in_file f) unused

-- an object that is released has no users
doomed_unused : (m : State) (o : ℕ) (slot : Option Object) → Unused m.objects → object_with m o ≡ slot → is_doomed_object slot ≡ true → has_users m o ≡ false
doomed_unused m o None unused is e = absurd cc
doomed_unused m o (Some x) unused is e =
    let p = Passes-find (has_id o) x m.objects is in
    let id : x.id ≡ o = eqb-true x.id o p.test in
    list_any-none (uses_object o) m.objects (λ y k. ap (λ i. uses_object i y) (sym id) ∙ unused x y p.within k e)

finish_unused : (m : State) (o : ℕ) (w : Word) → Unused m.objects → finishes m o w ≡ true → has_users m o ≡ false
finish_unused m o Reserve unused e = absurd cc
finish_unused m o Look unused e = absurd cc
finish_unused m o Make unused e = absurd cc
finish_unused m o Commit unused e = absurd cc
finish_unused m o Act unused e = absurd cc
finish_unused m o Lock unused e = absurd cc
finish_unused m o Check unused e = absurd cc
finish_unused m o Finish unused e = doomed_unused m o (object_with m o) unused refl e
finish_unused m o Abort unused e = absurd cc
finish_unused m o Free unused e = absurd cc
finish_unused m o Exit unused e = absurd cc

gone_doomed : (m : State) (slot : Option Object) → may_go_object m slot ≡ true → is_doomed_object slot ≡ true
gone_doomed m None e = absurd cc
gone_doomed m (Some x) e = (and_parts (is_doomed x.phase) (may_sweep m x.file) e).0

pub released_unused : (m : State) (o : ℕ) (e : Entry) → Unused m.objects → Allowed m e → releases m o e ≡ true → has_users m o ≡ false
released_unused m o (Open c f d a) unused allowed is = absurd cc
released_unused m o (Enter c f request a) unused allowed is = absurd cc
released_unused m o (Step c w i found a) unused allowed is = finish_unused m o w unused (and_parts (i == o) (finishes m o w) is).1
released_unused m o (Unplug d) unused allowed is = absurd cc
released_unused m o (Tear f by) unused allowed is = absurd cc
released_unused m o (Kill i) unused allowed is = absurd cc
released_unused m o (Gone i kept) unused allowed is =
    let same : i ≡ o = eqb-true i o is in
    doomed_unused m o (object_with m o) unused refl (ap (λ v. is_doomed_object (object_with m v)) (sym same) ∙ gone_doomed m (object_with m i) allowed)
released_unused m o (Dissociated f) unused allowed is = absurd cc
released_unused m o (Closed f) unused allowed is = absurd cc
