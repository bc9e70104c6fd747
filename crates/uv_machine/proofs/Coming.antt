-- Where the objects come from that stand after an entry, and what an entry does to cells.
use Rattle.std.proofs.Common.{◌≡◌, ℕ, Bool, true, false, List, [], ◌∷◌, Option, Some, None, map, length, refl, ap, sym, ◌∙◌, subst, arith, inl, inr, ◌⊎◌}
use Rattle.std.specs.Prelude.{◌==◌, filter, if◌then◌else◌}
use Rattle.std.proofs.lemmas.Option.{none-some}
use Rattle.std.proofs.lemmas.Bool.{and_parts, eqb-true}
use Rattle.uv_num.specs.declared.errno.Errno.{Errno}
use Rattle.uv_num.specs.declared.errno.Errno.TheVariants.{Inval}
use Rattle.uv_num.specs.declared.kind.Kind.{Kind}
use Rattle.uv_num.specs.declared.kind.Kind.TheVariants.{Mr, Mw}
use Rattle.uv_num.specs.declared.limits.TheConstants.{NONE}
use Rattle.uv_num.specs.declared.qp.QpState.{QpState}
use Rattle.uv_num.specs.declared.request.Act as request
use Rattle.uv_num.specs.declared.request.Act.TheVariants.{Modify, Query, Bind, Unbind, Async}
use Rattle.uv_num.specs.declared.request.Role.TheVariants.{Creates, Acts}
use Rattle.uv_num.specs.Ids.{ids_of}
use Rattle.uv_num.specs.Looks.{looks_of, asked}
use Rattle.uv_num.specs.Request.{role_of}
use Rattle.uv_num.specs.declared.ids.Ids.{Ids}
use Rattle.uv_num.specs.declared.ids.Ids.TheVariants.{One}
use Rattle.uv_num.specs.declared.request.Ask.{Ask}
use Rattle.uv_machine.specs.declared.entry.Entry.{Entry}
use Rattle.uv_machine.specs.declared.entry.Entry.TheVariants.{Open, Enter, Step, Unplug, Tear, Kill, Gone, Dissociated, Closed}
use Rattle.uv_machine.specs.declared.entry.Word.TheVariants as word
use Rattle.uv_machine.specs.declared.entry.Answer.{Answer}
use Rattle.uv_machine.specs.declared.object.Binding.{Binding}
use Rattle.uv_machine.specs.declared.object.Object.{Object}
use Rattle.uv_machine.specs.declared.object.Change.{Change}
use Rattle.uv_machine.specs.declared.object.Change.TheVariants.{ToLive, ToDoomed, ToHusk, ToBound}
use Rattle.uv_machine.specs.declared.call.InFlight.{InFlight}
use Rattle.uv_machine.specs.declared.state.State.{State}
use Rattle.uv_machine.specs.Objects.{has_id, is_live, is_doomed, with_change, on_object}
use Rattle.uv_machine.specs.Plans.{own_object, acted_on, looked_at}
use Rattle.uv_machine.specs.States.{call_of, object_with, home_cell}
use Rattle.uv_machine.specs.Acts.{may_bind, bind_refusal, inval_unless, act_refusal}
use Rattle.uv_machine.specs.Effects.{refusal_in, act, binding_of, not_with_id, not_in_file, gone_from, unless_answered}
use Rattle.uv_machine.specs.Outside.{may_sweep, may_go_object}
use Rattle.uv_machine.specs.Histories.{Allowed, after}
use Rattle.uv_machine.specs.Reached.{IsIn, AllSuit, Reached, look_count}
use Rattle.uv_machine.proofs.Members.{IsIn-map, Passes-find, Passes-filter}
use Rattle.uv_machine.proofs.Planned.{InPlan, stands_in_plan}
use Rattle.uv_machine.proofs.Turns.{Turn, Made, object_made, IsTurn-allowed}
use Rattle.uv_machine.proofs.Turns.Turn.{Refuses, Reserves, Looks, Makes, Commits, Does, Locks, Checks, Finishes, Aborts, Frees, Leaves}
use Rattle.uv_machine.proofs.Graph.{in_room}
use Rattle.uv_machine.proofs.Holding.{finish_objects, bind_at, suits_at, acts_on_first, acts_on_second}
use Rattle.uv_machine.proofs.Suiting.{unbind_looks, one_id}
use Rattle.uv_machine.proofs.Keeping.{same_object}
use Rattle.uv_machine.proofs.Phased.{looks_in, act_has}

-- Objects.

-- the region of a bind that was allowed
pub record Lends (m : State) (x : Object) (b : Binding) : Type 0 where
  pub region : Object
  pub within : IsIn region m.objects
  pub id : region.id ≡ b.region
  pub kind : region.kind ≡ Mr
  pub same : region.file ≡ x.file
  pub live : is_live region.phase ≡ true
  pub may : may_bind x region b.offset b.length b.access ≡ true

-- a new object
pub record Begins (m : State) (z : Object) : Type 0 where
  pub actor : ℕ
  pub call : InFlight
  pub kind : Kind
  pub index : ℕ
  pub is : call_of m actor ≡ Some call
  pub plan : InPlan call word.Make
  pub creates : role_of call.request ≡ Creates kind
  pub home : home_cell m kind ≡ Some index
  pub fresh : (m.made == NONE) ≡ false
  pub gives : z ≡ object_made m call kind index

-- where an object comes from that stands after an entry
pub data Comes (m : State) (y : Object) : Type 0 where
  Stays : IsIn y m.objects → Comes m y
  ToLives : (x : Object) → IsIn x m.objects → y ≡ with_change ToLive x → Comes m y
  Dooms : (x : Object) → IsIn x m.objects → y ≡ with_change ToDoomed x → Comes m y
  Husks : (x : Object) → IsIn x m.objects → is_doomed x.phase ≡ true → y ≡ with_change ToHusk x → Comes m y
  Binds : (x : Object) (b : Binding) → IsIn x m.objects → x.kind ≡ Mw → is_live x.phase ≡ true → Lends m x b → y ≡ with_change (ToBound (Some b)) x → Comes m y
  Unbinds : (x : Object) → IsIn x m.objects → x.kind ≡ Mw → is_live x.phase ≡ true → y ≡ with_change (ToBound None) x → Comes m y
  IsNew : Begins m y → Comes m y

-- every object of a list comes from somewhere
abbrev pub AllCome : State → List Object → Type 0
AllCome m objects = (y : Object) → IsIn y objects → Comes m y

come_same : (m : State) → AllCome m m.objects
come_same m y k = Comes.Stays k

come_as : (m m' n : State) → m' ≡ n → AllCome m n.objects → AllCome m m'.objects
come_as m m' n e h = let P : State → Type 0 = λ s. AllCome m s.objects in subst P (sym e) h

come_filter : (m : State) (p : Object → Bool) → AllCome m (filter p m.objects)
come_filter m p y k = Comes.Stays (Passes-filter p y m.objects k).within

-- an object after a change of the one with an id
come_if : (m : State) (y x : Object) (change : Change) (here : Bool) → IsIn x m.objects → y ≡ (if here then with_change change x else x) → (here ≡ true → y ≡ with_change change x → Comes m y) → Comes m y
come_if m y x change true k e made = made refl e
come_if m y x change false k e made = Comes.Stays (let P : Object → Type 0 = λ v. IsIn v m.objects in subst P (sym e) k)

come_map : (m : State) (o : ℕ) (change : Change) → ((x y : Object) → IsIn x m.objects → x.id ≡ o → y ≡ with_change change x → Comes m y) → AllCome m (map (on_object o change) m.objects)
come_map m o change made y k =
    let from = IsIn-map (on_object o change) y m.objects k in
    let x = from.item in
    come_if m y x change (has_id o x) from.within from.gives (λ here e. made x y from.within (eqb-true x.id o here) e)

may_by : (may : Bool) → inval_unless may ≡ None → may ≡ true
may_by true e = refl
may_by false e = absurd (none-some Inval (sym e))

-- what a bind found that was allowed
pub record BindFound (m : State) (call : InFlight) (offset long access : ℕ) : Type 0 where
  pub window : Object
  pub region : Object
  pub window_is : object_with m (acted_on call) ≡ Some window
  pub region_is : object_with m (looked_at 1 call) ≡ Some region
  pub may : may_bind window region offset long access ≡ true

bind_found : (m : State) (call : InFlight) (offset long access : ℕ) (x y : Option Object) → object_with m (acted_on call) ≡ x → object_with m (looked_at 1 call) ≡ y → bind_refusal x y offset long access ≡ None → BindFound m call offset long access
bind_found m call offset long access None y is is' e = absurd (none-some Inval (sym e))
bind_found m call offset long access (Some x) None is is' e = absurd (none-some Inval (sym e))
bind_found m call offset long access (Some x) (Some y) is is' e =
    record { window = x; region = y; window_is = is; region_is = is'; may = may_by (may_bind x y offset long access) e }

module _ (m : State) (r : Reached m) (c : ℕ) (call : InFlight) (is : call_of m c ≡ Some call) where
  bound_come : (offset long access : ℕ) → InPlan call word.Act → role_of call.request ≡ Acts (Bind offset long access) → bind_refusal (object_with m (acted_on call)) (object_with m (looked_at 1 call)) offset long access ≡ None → (x y : Object) → IsIn x m.objects → x.id ≡ acted_on call → y ≡ with_change (ToBound (Some (binding_of call offset long access))) x → Comes m y
  bound_come offset long access plan role fine x y k id e =
      let b = bind_at m r c call is offset long access plan role in
      let first = acts_on_first m r c call is b.window _ b.looked refl in
      let second = acts_on_second m r c call is b.region _ b.looked refl in
      let f = bind_found m call offset long access (object_with m (acted_on call)) (object_with m (looked_at 1 call)) refl refl fine in
      let pw = Passes-find (has_id (acted_on call)) f.window m.objects f.window_is in
      let pr = Passes-find (has_id (looked_at 1 call)) f.region m.objects f.region_is in
      let one : x ≡ f.window = same_object m r x f.window k pw.within (id ∙ sym (eqb-true f.window.id (acted_on call) pw.test)) in
      let rid = eqb-true f.region.id (looked_at 1 call) pr.test in
      let w = b.windows x k (id ∙ first) in
      let g = b.regions f.region pr.within (rid ∙ second) in
      Comes.Binds x (binding_of call offset long access) k w.0 w.2
      (record {
        region = f.region;
        within = pr.within;
        id = rid;
        kind = g.0;
        same = g.1 ∙ sym w.1;
        live = g.2;
        may = ap (λ v. may_bind v f.region offset long access) one ∙ f.may;
      })
      e

  looked_at_act : InPlan call word.Act → look_count call ≡ looks_in call
  looked_at_act plan =
      let s = stands_in_plan call word.Act plan in
      let has = (act_has call s.act (r.phased c call is) plan.fine s.acts).looking (omega (arith, s.at)) in
      omega (arith, has.looks_are, s.at)

  unbound_come : (offset long access : ℕ) → InPlan call word.Act → role_of call.request ≡ Acts (Unbind offset long access) → (x y : Object) → IsIn x m.objects → x.id ≡ acted_on call → y ≡ with_change (ToBound None) x → Comes m y
  unbound_come offset long access plan role x y k id e =
      let b = unbind_looks call.request offset long access role in
      let one = one_id call.looked (looked_at_act plan ∙ ap (λ (v : List Ask). length v) b.looks) in
      let first = acts_on_first m r c call is one.0 (One one.0) one.1 refl in
      let P : Ids → Type 0 = λ v. AllSuit m.objects call.file (ids_of v) (looks_of call.request) in
      let Q : List Ask → Type 0 = λ v. AllSuit m.objects call.file (one.0 ∷ []) v in
      let all : AllSuit m.objects call.file (one.0 ∷ []) (asked Mw b.window ∷ []) = subst Q b.looks (subst P one.1 (suits_at m r c call is word.Act plan refl)) in
      let s = all.0 x k (id ∙ first) in
      Comes.Unbinds x k s.kind s.live e

  come_act : (a : Answer) (what : request.Act) (found : Option QpState) → InPlan call word.Act → role_of call.request ≡ Acts what → act_refusal m call found what ≡ None → AllCome m (act m c call a what).objects
  come_act a (Modify to attrs) found plan role fine = come_same m
  come_act a Query found plan role fine = come_same m
  come_act a (Bind offset long access) found plan role fine =
      come_map m (acted_on call) (ToBound (Some (binding_of call offset long access))) (λ x y k id e. bound_come offset long access plan role fine x y k id e)
  come_act a (Unbind offset long access) found plan role fine = come_map m (acted_on call) (ToBound None) (λ x y k id e. unbound_come offset long access plan role x y k id e)
  come_act a Async found plan role fine = come_same m

  begins : (a : Answer) (m' : State) (t : Made m c call m') → Begins m (object_made m call t.kind t.index)
  begins a m' t = record { actor = c; call = call; kind = t.kind; index = t.index; is = is; plan = t.plan; creates = t.creates; home = t.home; fresh = t.fresh; gives = refl }

  come_new : (z : Object) → Begins m z → (y : Object) → IsIn y m.objects ⊎ (y ≡ z) → Comes m y
  come_new z b y (inl k) = Comes.Stays k
  come_new z b y (inr e) = let P : Object → Type 0 = λ v. Comes m v in subst P (sym e) (Comes.IsNew b)

  come_turn : (a : Answer) (m' : State) → Turn m c call a m' → AllCome m m'.objects
  come_turn a m' (Refuses t) = come_as m m' _ t.gives (come_same m)
  come_turn a m' (Reserves t) = come_as m m' _ t.gives (come_same m)
  come_turn a m' (Looks t) = come_as m m' _ t.gives (come_same m)
  come_turn a m' (Makes t) =
      let z = object_made m call t.kind t.index in
      come_as m m' _ t.gives (λ y k. come_new z (begins a m' t) y (in_room y z m.objects k))
  come_turn a m' (Commits t) = come_as m m' _ t.gives (come_map m (own_object call) ToLive (λ x y k id e. Comes.ToLives x k e))
  come_turn a m' (Does t) = come_as m m' _ t.gives (come_act a t.what t.found t.plan t.acts t.fine)
  come_turn a m' (Locks t) = come_as m m' _ t.gives (come_same m)
  come_turn a m' (Checks t) = come_as m m' _ t.gives (come_map m (own_object call) ToDoomed (λ x y k id e. Comes.Dooms x k e))
  come_turn a m' (Finishes t) =
      let i = own_object call in
      let P : List Object → Type 0 = λ v. AllCome m v in
      come_as m m' _ t.gives (subst P (sym (finish_objects m c i)) (come_filter m (not_with_id i)))
  come_turn a m' (Aborts t) = come_as m m' _ t.gives (come_same m)
  come_turn a m' (Frees t) = come_as m m' _ t.gives (come_same m)
  come_turn a m' (Leaves t) = come_as m m' _ t.gives (come_same m)

come_unless : (m m' : State) (e : Option Errno) → AllCome m m'.objects → AllCome m (unless_answered m e m').objects
come_unless m m' None h = h
come_unless m m' (Some e) h = come_same m

come_gone : (m : State) (r : Reached m) (o : ℕ) (slot : Option Object) → object_with m o ≡ slot → may_go_object m slot ≡ true → AllCome m (gone_from m o slot).objects
come_gone m r o None e may = come_same m
come_gone m r o (Some x) e may =
    let p = Passes-find (has_id o) x m.objects e in
    let doomed = (and_parts (is_doomed x.phase) (may_sweep m x.file) may).0 in
    come_map m o ToHusk (λ z y k id g. Comes.Husks z k (ap (λ (v : Object). is_doomed v.phase) (same_object m r z x k p.within (id ∙ sym (eqb-true x.id o p.test))) ∙ doomed) g)

-- each object after an entry comes from somewhere
pub come_after : (m : State) (e : Entry) → Reached m → Allowed m e → AllCome m (after m e).objects
come_after m (Open c f d a) r allowed = come_unless m _ (refusal_in a) (come_same m)
come_after m (Enter c f request a) r allowed = come_unless m _ (refusal_in a) (come_same m)
come_after m (Step c w o found a) r allowed =
    let t = IsTurn-allowed m c w o found a allowed in
    come_turn m r c t.call t.is a (after m (Step c w o found a)) t.turn
come_after m (Unplug d) r allowed = come_same m
come_after m (Tear f by) r allowed = come_same m
come_after m (Kill o) r allowed = come_map m o ToDoomed (λ x y k id e. Comes.Dooms x k e)
come_after m (Gone o kept) r allowed = come_gone m r o (object_with m o) refl allowed
come_after m (Dissociated f) r allowed = come_same m
come_after m (Closed f) r allowed = come_filter m (not_in_file f)
