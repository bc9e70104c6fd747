-- What goes on through an entry: the object that a deed is out for.
use Rattle.std.proofs.Common.{◌≡◌, ◌≢◌, ℕ, Bool, true, false, List, [], ◌∷◌, ◌++◌, Option, Some, None, length, map, refl, ap, sym, ◌∙◌, subst, inl, inr, ◌⊎◌}
use Rattle.std.specs.Prelude.{not, ◌&&◌, ◌==◌, nat_lt, filter, find, option_map, if◌then◌else◌}
use Rattle.std.specs.Cmp.Derive.{both_true}
use Rattle.std.proofs.lemmas.Option.{none-some, same_Some}
use Rattle.std.proofs.lemmas.Bool.{and_parts, or_left, eq-eqb, eqb-true, ne_eqb}
use Rattle.uv_num.specs.declared.errno.Errno.{Errno}
use Rattle.uv_num.specs.declared.errno.Errno.TheVariants.{Inval}
use Rattle.uv_num.specs.declared.limits.TheConstants.{MOST_OBJECTS, DRIVER}
use Rattle.uv_num.specs.declared.request.Act as request
use Rattle.uv_num.specs.declared.request.Act.TheVariants.{Modify, Query, Bind, Unbind, Async}
use Rattle.uv_num.specs.Place.{at_place}
use Rattle.uv_machine.specs.declared.entry.Entry.{Entry}
use Rattle.uv_machine.specs.declared.entry.Entry.TheVariants.{Open, Enter, Step, Unplug, Tear, Kill, Gone, Dissociated, Closed}
use Rattle.uv_machine.specs.declared.entry.Answer.{Answer}
use Rattle.uv_machine.specs.declared.entry.Answer.TheVariants as answer
use Rattle.uv_machine.specs.declared.file.FilePhase.{FilePhase}
use Rattle.uv_machine.specs.declared.file.FilePhase.TheVariants as file
use Rattle.uv_machine.specs.declared.object.Phase.{Phase}
use Rattle.uv_machine.specs.declared.object.Phase.TheVariants as phase
use Rattle.uv_machine.specs.declared.object.Object.{Object}
use Rattle.uv_machine.specs.declared.object.Change.{Change}
use Rattle.uv_machine.specs.declared.object.Change.TheVariants.{ToLive, ToDoomed, ToHusk, ToBound}
use Rattle.uv_machine.specs.declared.call.InFlight.{InFlight}
use Rattle.uv_machine.specs.declared.state.State.{State}
use Rattle.uv_machine.specs.Objects.{has_id, is_made, is_doomed, is_husk, is_doomed_in, with_change, on_object}
use Rattle.uv_machine.specs.Plans.{own_object, acted_on, holds, looks_at, entered}
use Rattle.uv_machine.specs.States.{call_of, object_with, is_quiet, is_tearing, is_fresh, is_open, is_callable, is_closing, is_removing, has_standing, has_doomed, newest_free, phase_of, is_unplugged, device_of}
use Rattle.uv_machine.specs.Effects.{refusal_in, with_room_for, act, binding_of, not_with_id, not_in_file, gone_from, put_call, unless_answered, with_file, opened}
use Rattle.uv_machine.specs.Outside.{MayAnswer, may_go_object, may_kill_object, is_object, may_sweep}
use Rattle.uv_machine.specs.Histories.{Allowed, after}
use Rattle.uv_machine.specs.Reached.{IsIn, Reached}
use Rattle.uv_machine.specs.Laws.{is_of}
use Rattle.uv_machine.proofs.Members.{Passes-find, fails_any}
use Rattle.uv_machine.proofs.Turns.{Turn, object_made, IsTurn-allowed}
use Rattle.uv_machine.proofs.Turns.Turn.{Refuses, Reserves, Looks, Makes, Commits, Does, Locks, Checks, Finishes, Aborts, Frees, Leaves}
use Rattle.uv_machine.proofs.OwnCall.{calls_turn}
use Rattle.uv_machine.proofs.Calling.{quiet_none, quiet_stays, quiet_turn}
use Rattle.uv_machine.proofs.Changing.{on_object-id}
use Rattle.uv_machine.proofs.Holding.{finish_objects}
use Rattle.uv_machine.proofs.Keeping.{locks_it, owns_at_check, owns_at_finish, owns_at_commit}
use Rattle.uv_machine.proofs.Reaching.{IsSweptObject, killed_swept, gone_by, was_callable}
use Rattle.uv_machine.proofs.Balanced.{not_standing}
use Rattle.uv_machine.proofs.Apart.{call_of-after}
use Rattle.uv_machine.proofs.FilesApart.{phase_of-apart}
use Rattle.uv_graph.specs.declared.out.Out.{Out}
use Rattle.uv_graph.specs.Seats.{HasOut, HasKill}
use Rattle.uv_graph.proofs.Finding.{find-map, find-kept, find-more}

-- Objects that go on.

-- the object of this id is as it was, but perhaps for what it uses
pub record GoesAs (objects : List Object) (o : ℕ) (x : Object) : Type 0 where
  pub item : Object
  pub there : find (has_id o) objects ≡ Some item
  pub id : item.id ≡ x.id
  pub kind : item.kind ≡ x.kind
  pub request : item.request ≡ x.request
  pub file : item.file ≡ x.file
  pub index : item.index ≡ x.index
  pub generation : item.generation ≡ x.generation
  pub phase : item.phase ≡ x.phase

module _ (objects : List Object) (o : ℕ) (x : Object) (is : find (has_id o) objects ≡ Some x) where
  goes_same : GoesAs objects o x
  goes_same = record { item = x; there = is; id = refl; kind = refl; request = refl; file = refl; index = refl; generation = refl; phase = refl }

  has_it : x.id ≡ o
  has_it = eqb-true x.id o (Passes-find (has_id o) x objects is).test

  mapped : (i : ℕ) (change : Change) → find (has_id o) (map (on_object i change) objects) ≡ Some (on_object i change x)
  mapped i change = find-map (has_id o) (on_object i change) objects (λ y k. ap (λ n. n == o) (on_object-id i change y)) ∙ ap (option_map (on_object i change)) is

  other_is : (b : Bool) (change : Change) → b ≡ false → (if b then with_change change x else x) ≡ x
  other_is true change e = absurd cc
  other_is false change e = refl

  -- a change of another object
  goes_other : (i : ℕ) (change : Change) → i ≢ o → GoesAs (map (on_object i change) objects) o x
  goes_other i change ne =
      let same : on_object i change x ≡ x = other_is (has_id i x) change (ne_eqb x.id i (λ e. ne (sym e ∙ has_it))) in
      record {
        item = x;
        there = mapped i change ∙ ap (λ (v : Object). Some v) same;
        id = refl;
        kind = refl;
        request = refl;
        file = refl;
        index = refl;
        generation = refl;
        phase = refl;
      }

  bound_by : (b : Bool) (i : ℕ) (binding : _) → find (has_id o) (map (on_object i (ToBound binding)) objects) ≡ Some (if b then with_change (ToBound binding) x else x) → GoesAs (map (on_object i (ToBound binding)) objects) o x
  bound_by true i binding e = record { item = with_change (ToBound binding) x; there = e; id = refl; kind = refl; request = refl; file = refl; index = refl; generation = refl; phase = refl }
  bound_by false i binding e = record { item = x; there = e; id = refl; kind = refl; request = refl; file = refl; index = refl; generation = refl; phase = refl }

  -- a bind of any
  goes_bound : (i : ℕ) (binding : _) → GoesAs (map (on_object i (ToBound binding)) objects) o x
  goes_bound i binding = bound_by (has_id i x) i binding (mapped i (ToBound binding))

  -- a part that keeps it
  goes_filter : (q : Object → Bool) → q x ≡ true → GoesAs (filter q objects) o x
  goes_filter q t = record { item = x; there = find-kept (has_id o) q x objects t is; id = refl; kind = refl; request = refl; file = refl; index = refl; generation = refl; phase = refl }

  room_by : (b : Bool) (z : Object) → find (has_id o) (if b then objects ++ z ∷ [] else objects) ≡ Some x
  room_by true z = find-more (has_id o) x z objects is
  room_by false z = is

  goes_room : (z : Object) → GoesAs (with_room_for z objects) o x
  goes_room z = record { item = x; there = room_by (nat_lt (length objects) MOST_OBJECTS) z; id = refl; kind = refl; request = refl; file = refl; index = refl; generation = refl; phase = refl }

goes_as : (m' n : State) (o : ℕ) (x : Object) → m' ≡ n → GoesAs n.objects o x → GoesAs m'.objects o x
goes_as m' n o x e g = let P : State → Type 0 = λ s. GoesAs s.objects o x in subst P (sym e) g

module _ (m : State) (r : Reached m) (c : ℕ) (call : InFlight) (own : call_of m c ≡ Some call) (o : ℕ) (x : Object) (is : object_with m o ≡ Some x) where
  goes_act : (a : Answer) (what : request.Act) → GoesAs (act m c call a what).objects o x
  goes_act a (Modify to attrs) = goes_same m.objects o x is
  goes_act a Query = goes_same m.objects o x is
  goes_act a (Bind offset long access) = goes_bound m.objects o x is (acted_on call) (Some (binding_of call offset long access))
  goes_act a (Unbind offset long access) = goes_bound m.objects o x is (acted_on call) None
  goes_act a Async = goes_same m.objects o x is

  apart_own : (call.locked ≡ Some o → ⊥) → call.locked ≡ Some (own_object call) → own_object call ≢ o
  apart_own free locked e = free (locked ∙ ap (λ (v : ℕ). Some v) e)

  -- what the call doesn't hold exclusively goes on through its step
  pub goes_turn : (a : Answer) (m' : State) → Turn m c call a m' → (call.locked ≡ Some o → ⊥) → GoesAs m'.objects o x
  goes_turn a m' (Refuses t) free = goes_as m' _ o x t.gives (goes_same m.objects o x is)
  goes_turn a m' (Reserves t) free = goes_as m' _ o x t.gives (goes_same m.objects o x is)
  goes_turn a m' (Looks t) free = goes_as m' _ o x t.gives (goes_same m.objects o x is)
  goes_turn a m' (Makes t) free = goes_as m' _ o x t.gives (goes_room m.objects o x is (object_made m call t.kind t.index))
  goes_turn a m' (Commits t) free = goes_as m' _ o x t.gives (goes_other m.objects o x is (own_object call) ToLive (apart_own free (owns_at_commit m r c call own t.plan)))
  goes_turn a m' (Does t) free = goes_as m' _ o x t.gives (goes_act a t.what)
  goes_turn a m' (Locks t) free = goes_as m' _ o x t.gives (goes_same m.objects o x is)
  goes_turn a m' (Checks t) free = goes_as m' _ o x t.gives (goes_other m.objects o x is (own_object call) ToDoomed (apart_own free (owns_at_check m r c call own t.plan)))
  goes_turn a m' (Finishes t) free =
      let i = own_object call in
      let P : List Object → Type 0 = λ v. GoesAs v o x in
      let ne = apart_own free (owns_at_finish m r c call own t.plan) in
      goes_as m' _ o x t.gives
      (subst P (sym (finish_objects m c i))
      (goes_filter m.objects o x is (not_with_id i) (ap not (ne_eqb x.id i (λ e. ne (sym e ∙ has_it m.objects o x is))))))
  goes_turn a m' (Aborts t) free = goes_as m' _ o x t.gives (goes_same m.objects o x is)
  goes_turn a m' (Frees t) free = goes_as m' _ o x t.gives (goes_same m.objects o x is)
  goes_turn a m' (Leaves t) free = goes_as m' _ o x t.gives (goes_same m.objects o x is)

  -- a release of another object
  goes_gone_by : (i : ℕ) (slot : Option Object) → i ≢ o → GoesAs (gone_from m i slot).objects o x
  goes_gone_by i None ne = goes_same m.objects o x is
  goes_gone_by i (Some y) ne = goes_other m.objects o x is i ToHusk ne

-- objects that a choice leaves
goes_unless : (m m' : State) (e : Option Errno) (o : ℕ) (x : Object) → GoesAs m.objects o x → GoesAs m'.objects o x → GoesAs (unless_answered m e m').objects o x
goes_unless m m' None o x g g' = g'
goes_unless m m' (Some e) o x g g' = g

fails_of : (b : Bool) → not b ≡ true → b ≡ false
fails_of true e = absurd cc
fails_of false e = refl

-- The deed of a call.

phase_as : (x y : Object) → y.phase ≡ x.phase → (is_made x.phase ≡ true) ⊎ (is_doomed x.phase ≡ true) → (is_made y.phase ≡ true) ⊎ (is_doomed y.phase ≡ true)
phase_as x y e (inl h) = inl (ap is_made e ∙ h)
phase_as x y e (inr h) = inr (ap is_doomed e ∙ h)

out_as : (m m' : State) (c : ℕ) (out : Out) (h : HasOut m c out) → call_of m' c ≡ call_of m c → GoesAs m'.objects out.identity.id h.item → HasOut m' c out
out_as m m' c out h calls g =
    record {
      call = h.call;
      is = calls ∙ h.is;
      locked = h.locked;
      word = h.word;
      item = g.item;
      there = g.there;
      same = record { id = g.id ∙ h.same.id; kind = g.kind ∙ h.same.kind; request = g.request ∙ h.same.request; index = g.index ∙ h.same.index; generation = g.generation ∙ h.same.generation };
      phase = phase_as h.item g.item g.phase h.phase;
    }

-- a call's own object is in the call's file
own_file : (m : State) (r : Reached m) (c : ℕ) (out : Out) (h : HasOut m c out) → h.item.file ≡ h.call.file
own_file m r c out h =
    let p = Passes-find (has_id out.identity.id) h.item m.objects h.there in
    (r.holds_well c h.call h.is).placed out.identity.id h.locked h.item p.within (eqb-true h.item.id out.identity.id p.test)

-- what is swept is no call's own
swept_apart : (m : State) (r : Reached m) (c : ℕ) (out : Out) (h : HasOut m c out) (i : ℕ) → IsSweptObject m i → i ≢ out.identity.id
swept_apart m r c out h i s e =
    let file = (r.holds_well c h.call h.is).placed out.identity.id h.locked s.item s.within (s.id ∙ e) in
    quiet_none m c s.item.file h.call (and_parts (is_tearing (phase_of m s.item.file)) (is_quiet m s.item.file) s.swept).1 h.is (sym file)

other_call : (m : State) (r : Reached m) (b c : ℕ) (k : InFlight) (out : Out) (h : HasOut m c out) → b ≢ c → call_of m b ≡ Some k → k.locked ≡ Some out.identity.id → ⊥
other_call m r b c k out h ne is locked =
    let none = r.alone c b h.call k out.identity.id h.is is (λ e. ne (sym e)) h.locked in
    let some : holds out.identity.id (Some k) ≡ true = or_left _ (looks_at out.identity.id k) (locks_it out.identity.id k.locked locked) in
    cc

out_gone : (m : State) (c : ℕ) (out : Out) (h : HasOut m c out) → Reached m → (i : ℕ) (slot : Option Object) → object_with m i ≡ slot → may_go_object m slot ≡ true → HasOut (gone_from m i slot) c out
out_gone m c out h r i None e may = absurd cc
out_gone m c out h r i (Some x) e may =
    out_as m (gone_from m i (Some x)) c out h refl
    (goes_other m.objects out.identity.id h.item h.there i ToHusk (swept_apart m r c out h i (gone_by m i x e may)))

not_same : (a b : ℕ) → (a == b) ≡ false → a ≢ b
not_same a b e h = let yes = eq-eqb a b h in absurd cc

-- an entry of another leaves the deed of a call what it is out for
pub HasOut-after : (m : State) (e : Entry) (c : ℕ) (out : Out) → Reached m → Allowed m e → is_of c e ≡ false → HasOut m c out → HasOut (after m e) c out
HasOut-after m (Open b f d a) c out r allowed apart h =
    out_as m _ c out h (call_of-after m (Open b f d a) c apart) (goes_unless m _ (refusal_in a) out.identity.id h.item (goes_same m.objects out.identity.id h.item h.there) (goes_same m.objects out.identity.id h.item h.there))
HasOut-after m (Enter b f request a) c out r allowed apart h =
    out_as m _ c out h (call_of-after m (Enter b f request a) c apart) (goes_unless m _ (refusal_in a) out.identity.id h.item (goes_same m.objects out.identity.id h.item h.there) (goes_same m.objects out.identity.id h.item h.there))
HasOut-after m (Step b w o found a) c out r allowed apart h =
    let t = IsTurn-allowed m b w o found a allowed in
    let ne = not_same b c apart in
    out_as m _ c out h (call_of-after m (Step b w o found a) c apart)
    (goes_turn m r b t.call t.is out.identity.id h.item h.there a (after m (Step b w o found a)) t.turn (other_call m r b c t.call out h ne t.is))
HasOut-after m (Unplug d) c out r allowed apart h = out_as m (after m (Unplug d)) c out h refl (goes_same m.objects out.identity.id h.item h.there)
HasOut-after m (Tear f by) c out r allowed apart h = out_as m (after m (Tear f by)) c out h refl (goes_same m.objects out.identity.id h.item h.there)
HasOut-after m (Kill i) c out r allowed apart h =
    out_as m (after m (Kill i)) c out h refl (goes_other m.objects out.identity.id h.item h.there i ToDoomed (swept_apart m r c out h i (killed_swept m i allowed)))
HasOut-after m (Gone i kept) c out r allowed apart h = out_gone m c out h r i (object_with m i) refl allowed
HasOut-after m (Dissociated f) c out r allowed apart h = out_as m (after m (Dissociated f)) c out h refl (goes_same m.objects out.identity.id h.item h.there)
HasOut-after m (Closed f) c out r allowed apart h =
    let parts = and_parts (is_closing (phase_of m f)) (is_quiet m f && not (has_standing m f)) allowed.1 in
    let quiet = (and_parts (is_quiet m f) (not (has_standing m f)) parts.1).0 in
    let ne : h.item.file ≢ f = λ e. quiet_none m c f h.call quiet h.is (sym (own_file m r c out h) ∙ e) in
    out_as m (after m (Closed f)) c out h refl (goes_filter m.objects out.identity.id h.item h.there (not_in_file f) (ap not (ne_eqb h.item.file f ne)))

-- The deed of a teardown.

kill_as : (m m' : State) (b : ℕ) (out : Out) (h : HasKill m b out) → phase_of m' h.item.file ≡ phase_of m h.item.file → is_quiet m' h.item.file ≡ true → GoesAs m'.objects out.identity.id h.item → HasKill m' b out
kill_as m m' b out h phase quiet g =
    record {
      item = g.item;
      there = g.there;
      same = record { id = g.id ∙ h.same.id; kind = g.kind ∙ h.same.kind; request = g.request ∙ h.same.request; index = g.index ∙ h.same.index; generation = g.generation ∙ h.same.generation };
      phase = ap is_doomed g.phase ∙ h.phase;
      torn = ap (phase_of m') g.file ∙ phase ∙ h.torn;
      quiet = ap (is_quiet m') g.file ∙ quiet;
    }

module _ (m : State) (r : Reached m) (b : ℕ) (out : Out) (h : HasKill m b out) where
  kill_same : GoesAs m.objects out.identity.id h.item
  kill_same = goes_same m.objects out.identity.id h.item h.there

  kill_in : IsIn h.item m.objects
  kill_in = (Passes-find (has_id out.identity.id) h.item m.objects h.there).within

  kill_id : h.item.id ≡ out.identity.id
  kill_id = has_it m.objects out.identity.id h.item h.there

  torn_apart : (f : ℕ) (p : FilePhase → Bool) → p (file.Tearing b) ≡ false → p (phase_of m f) ≡ true → f ≢ h.item.file
  torn_apart f p fails holds e =
      let is : p (phase_of m f) ≡ false = ap (λ k. p (phase_of m k)) e ∙ ap p h.torn ∙ fails in
      cc

  -- a call is on another file
  call_apart : (c : ℕ) (call : InFlight) → call_of m c ≡ Some call → call.locked ≡ Some out.identity.id → ⊥
  call_apart c call is locked =
      let file = (r.holds_well c call is).placed out.identity.id locked h.item kill_in kill_id in
      quiet_none m c h.item.file call h.quiet is (sym file)

  kill_unless : (m' : State) (e : Option Errno) → (e ≡ None → HasKill m' b out) → HasKill (unless_answered m e m') b out
  kill_unless m' None go = go refl
  kill_unless m' (Some e) go = h

  doomed_stands : (p : Phase) → is_doomed p ≡ true → is_husk p ≡ true → ⊥
  doomed_stands phase.Made e e' = absurd cc
  doomed_stands phase.Live e e' = absurd cc
  doomed_stands phase.Doomed e e' = absurd cc
  doomed_stands phase.Husk e e' = absurd cc

  no_false : (b : Bool) → not b ≡ true → b ≡ false
  no_false true e = absurd cc
  no_false false e = refl

  -- its file has an object that stands
  cleared_apart : (f : ℕ) → not (has_standing m f) ≡ true → f ≢ h.item.file
  cleared_apart f none e = doomed_stands h.item.phase h.phase (not_standing m f h.item (no_false (has_standing m f) none) kill_in (sym e))

  kill_opened : (c f d : ℕ) → is_fresh (phase_of m f) ≡ true → HasKill (after m (Open c f d answer.Ok)) b out
  kill_opened c f d fresh =
      let ne = torn_apart f is_fresh refl fresh in
      kill_as m (after m (Open c f d answer.Ok)) b out h (phase_of-apart m (Open c f d answer.Ok) h.item.file (ne_eqb f h.item.file ne)) h.quiet kill_same

  kill_entered : (c f : ℕ) (request : _) → is_callable (phase_of m f) ≡ true → HasKill (record m { calls = at_place m.calls c (put_call (entered f request)) }) b out
  kill_entered c f request callable =
      let ne = torn_apart f is_callable refl callable in
      let m' = record m { calls = at_place m.calls c (put_call (entered f request)) } in
      kill_as m m' b out h refl
      (quiet_stays m m' c h.item.file (put_call (entered f request)) refl (λ x e on. (let no = ne_eqb f h.item.file ne in absurd cc)) h.quiet) kill_same

  not_torn : (driver gone : Bool) (p : FilePhase) → (if driver then is_open p && gone else is_callable p) ≡ true → is_tearing p ≡ false
  not_torn true gone file.Fresh e = refl
  not_torn true gone file.Open e = refl
  not_torn true gone (file.Tearing by) e = absurd cc
  not_torn true gone file.Dissociated e = refl
  not_torn true gone file.Closed e = refl
  not_torn false gone file.Fresh e = refl
  not_torn false gone file.Open e = refl
  not_torn false gone (file.Tearing by) e = absurd cc
  not_torn false gone file.Dissociated e = refl
  not_torn false gone file.Closed e = refl

  kill_gone : (i : ℕ) (slot : Option Object) → i ≢ out.identity.id → HasKill (gone_from m i slot) b out
  kill_gone i None ne = h
  kill_gone i (Some x) ne = kill_as m (gone_from m i (Some x)) b out h refl h.quiet (goes_other m.objects out.identity.id h.item h.there i ToHusk ne)

no_kill_object : (m : State) (o : ℕ) (x : Object) → object_with m o ≡ Some x → may_kill_object m o (Some x) ≡ true → has_doomed m x.file ≡ false
no_kill_object m o x e may =
    let parts = and_parts (may_sweep m x.file) (not (has_doomed m x.file) && is_object o (newest_free m x.file)) may in
    let none = (and_parts (not (has_doomed m x.file)) (is_object o (newest_free m x.file)) parts.1).0 in
    fails_of (has_doomed m x.file) none

pub was_fresh : (fresh : Bool) (rest : Option Errno) (a : Answer) → MayAnswer (if not fresh then Some Inval else rest) a → refusal_in a ≡ None → fresh ≡ true
was_fresh true rest a may e = refl
was_fresh false rest a may e = absurd (none-some Inval (sym e ∙ ap refusal_in may))

-- a release is of this object
abbrev pub releases_it : ℕ → Entry → Bool
releases_it o (Open c f d a) = false
releases_it o (Enter c f request a) = false
releases_it o (Step c w i found a) = false
releases_it o (Unplug d) = false
releases_it o (Tear f by) = false
releases_it o (Kill i) = false
releases_it o (Gone i kept) = i == o
releases_it o (Dissociated f) = false
releases_it o (Closed f) = false

opened_kill : (m : State) (b : ℕ) (out : Out) (c f d : ℕ) (a : Answer) (e : Option Errno) → refusal_in a ≡ e → Reached m → HasKill m b out → (e ≡ None → is_fresh (phase_of m f) ≡ true) → HasKill (unless_answered m e (with_file m f (opened c d))) b out
opened_kill m b out c f d a None is r h fresh = kill_opened m r b out h c f d (fresh refl)
opened_kill m b out c f d a (Some e) is r h fresh = h

killed_kill : (m : State) (b : ℕ) (out : Out) (i : ℕ) (slot : Option Object) → Reached m → HasKill m b out → object_with m i ≡ slot → may_kill_object m i slot ≡ true → i ≢ out.identity.id
killed_kill m b out i None r h e may same = absurd cc
killed_kill m b out i (Some x) r h e may same =
    let one : x ≡ h.item = same_Some x h.item (sym e ∙ ap (object_with m) same ∙ h.there) in
    let p = Passes-find (has_id out.identity.id) h.item m.objects h.there in
    let none : has_doomed m h.item.file ≡ false = ap (λ (v : Object). has_doomed m v.file) (sym one) ∙ no_kill_object m i x e may in
    let test : is_doomed_in h.item.file h.item ≡ false = fails_any (is_doomed_in h.item.file) h.item m.objects none p.within in
    let some : is_doomed_in h.item.file h.item ≡ true = both_true (eq-eqb h.item.file h.item.file refl) h.phase in
    cc

-- an entry leaves the deed of a teardown what it is out for, but for the release of its object
pub HasKill-after : (m : State) (e : Entry) (b : ℕ) (out : Out) → Reached m → Allowed m e → releases_it out.identity.id e ≡ false → HasKill m b out → HasKill (after m e) b out
HasKill-after m (Open c f d a) b out r allowed apart h =
    opened_kill m b out c f d a (refusal_in a) refl r h (λ e. was_fresh (is_fresh (phase_of m f)) _ a allowed.3 e)
HasKill-after m (Enter c f request a) b out r allowed apart h =
    kill_unless m r b out h _ (refusal_in a) (λ e. kill_entered m r b out h c f request (was_callable (is_callable (phase_of m f)) _ a allowed.3 e))
HasKill-after m (Step c w o found a) b out r allowed apart h =
    let t = IsTurn-allowed m c w o found a allowed in
    let m' = after m (Step c w o found a) in
    kill_as m m' b out h (phase_of-apart m (Step c w o found a) h.item.file refl)
    (quiet_turn m m' c t.call h.item.file t.is (calls_turn m c t.call a m' t.turn) h.quiet)
    (goes_turn m r c t.call t.is out.identity.id h.item h.there a m' t.turn (call_apart m r b out h c t.call t.is))
HasKill-after m (Unplug d) b out r allowed apart h = kill_as m (after m (Unplug d)) b out h refl h.quiet (kill_same m r b out h)
HasKill-after m (Tear f by) b out r allowed apart h =
    let free = not_torn m r b out h (by == DRIVER) (is_unplugged m (device_of m f)) (phase_of m f) allowed.2 in
    let ne : f ≢ h.item.file = λ e. (let torn : is_tearing (phase_of m f) ≡ true = ap (λ k. is_tearing (phase_of m k)) e ∙ ap is_tearing h.torn in cc) in
    kill_as m (after m (Tear f by)) b out h (phase_of-apart m (Tear f by) h.item.file (ne_eqb f h.item.file ne)) h.quiet (kill_same m r b out h)
HasKill-after m (Kill i) b out r allowed apart h =
    kill_as m (after m (Kill i)) b out h refl h.quiet (goes_other m.objects out.identity.id h.item h.there i ToDoomed (killed_kill m b out i (object_with m i) r h refl allowed))
HasKill-after m (Gone i kept) b out r allowed apart h = kill_gone m r b out h i (object_with m i) (not_same i out.identity.id apart)
HasKill-after m (Dissociated f) b out r allowed apart h =
    let parts = and_parts (is_removing (phase_of m f)) (is_quiet m f && not (has_standing m f)) allowed.1 in
    let none = (and_parts (is_quiet m f) (not (has_standing m f)) parts.1).1 in
    let ne = cleared_apart m r b out h f none in
    kill_as m (after m (Dissociated f)) b out h (phase_of-apart m (Dissociated f) h.item.file (ne_eqb f h.item.file ne)) h.quiet (kill_same m r b out h)
HasKill-after m (Closed f) b out r allowed apart h =
    let parts = and_parts (is_closing (phase_of m f)) (is_quiet m f && not (has_standing m f)) allowed.1 in
    let none = (and_parts (is_quiet m f) (not (has_standing m f)) parts.1).1 in
    let ne = cleared_apart m r b out h f none in
    kill_as m (after m (Closed f)) b out h (phase_of-apart m (Closed f) h.item.file (ne_eqb f h.item.file ne)) h.quiet
    (goes_filter m.objects out.identity.id h.item h.there (not_in_file f) (ap not (ne_eqb h.item.file f (λ e. ne (sym e)))))
