-- What a turn leaves of what calls hold.
use Rattle.uv_machine.specs.Accounts.{count_of}
use Rattle.std.proofs.Common.{◌≡◌, ◌≢◌, ℕ, zero, suc, ◌+◌, ◌<◌, ◌≤◌, Bool, true, false, List, [], ◌∷◌, Option, Some, None, length, map, refl, ap, sym, ◌∙◌, subst, arith, inl, inr, ◌⊎◌, ⊎_elim}
use Rattle.std.specs.Prelude.{not, ◌==◌, slice_get, unwrap_or, find, if◌then◌else◌}
use Rattle.std.proofs.lemmas.Option.{none-some, same_Some}
use Rattle.std.proofs.lemmas.Bool.{and_parts, or_parts, eqb-true, eq-eqb}
use Rattle.uv_num.specs.declared.errno.Errno.{Errno}
use Rattle.uv_num.specs.declared.errno.Errno.TheVariants.{Io, Busy, Inval}
use Rattle.uv_num.specs.declared.kind.Kind.{Kind}
use Rattle.uv_num.specs.declared.limits.TheConstants.{NONE}
use Rattle.uv_num.specs.declared.request.Act as request
use Rattle.uv_num.specs.declared.request.Act.TheVariants.{Modify, Query, Bind, Unbind, Async}
use Rattle.uv_num.specs.declared.request.Ask.{Ask}
use Rattle.uv_num.specs.declared.request.Role.{Role}
use Rattle.uv_num.specs.declared.request.Role.TheVariants.{Creates, Destroys, Acts}
use Rattle.uv_num.specs.Ids.{ids_of}
use Rattle.uv_num.specs.Looks.{looks_of}
use Rattle.uv_num.specs.Request.{role_of}
use Rattle.uv_machine.specs.declared.entry.Word.TheVariants.{Reserve, Look, Make, Commit, Act, Check, Finish}
use Rattle.uv_machine.specs.declared.entry.Answer.{Answer}
use Rattle.uv_machine.specs.declared.object.Object.{Object}
use Rattle.uv_machine.specs.declared.object.Change.{Change}
use Rattle.uv_machine.specs.declared.object.Change.TheVariants.{ToLive, ToDoomed, ToBound}
use Rattle.uv_machine.specs.declared.object.Phase.{Phase}
use Rattle.uv_machine.specs.declared.object.Phase.TheVariants as phase
use Rattle.uv_machine.specs.declared.call.InFlight.{InFlight}
use Rattle.uv_machine.specs.declared.state.State.{State}
use Rattle.uv_machine.specs.Objects.{is_kind, has_id, is_made, is_live, is_doomed, is_husk, in_file, has_handle, is_published_at, on_object}
use Rattle.uv_machine.specs.Plans.{next_word, own_object, acted_on, looks_at, locks, look_ask, is_the_number, with_refusal, with_number, with_look, with_made, with_outcome, with_lock, without_lock, without_number, without_look, moved_on}
use Rattle.uv_machine.specs.States.{call_of, published, is_excluded, is_unplugged, device_of, phase_of, is_quiet, is_tearing}
use Rattle.uv_machine.specs.Outside.{may_sweep}
use Rattle.uv_machine.specs.Steps.{look_told, look_found, look_try}
use Rattle.uv_machine.specs.Effects.{with_new, next_id, made_outcome, act, not_with_id, binding_of}
use Rattle.uv_machine.specs.Reached.{IsIn, is_early, Suits, AllSuit, HoldsWell, Reached, look_count}
use Rattle.uv_machine.proofs.Members.{IsIn-map, Passes-find, Passes-filter}
use Rattle.uv_machine.proofs.Planned.{InPlan, stands_in_plan, looks_few, next_place-in_plan}
use Rattle.uv_machine.proofs.Turns.{Turn, Made, Locked, object_made}
use Rattle.uv_machine.proofs.Turns.Turn.{Refuses, Reserves, Looks, Makes, Commits, Does, Locks, Checks, Finishes, Aborts, Frees, Leaves}
use Rattle.uv_machine.proofs.OwnCall.{CallsTurn, calls_turn, call_stands}
use Rattle.uv_machine.proofs.Phased.{looks_in, create_has, act_has, destroy_has}
use Rattle.uv_machine.proofs.Changing.{on_object-id, on_object-file, ids_of-ids_and, any_ids_and, any_ids_behind}
use Rattle.uv_machine.proofs.Graph.{within_rising, find_rising, in_room}
use Rattle.uv_machine.proofs.Suiting.{is_kind-same, Carries, carries_same, carries_change, carries_filter, carries_room, all_carry, all_snoc}
use Rattle.uv_machine.proofs.Holding.{finish_objects, finish_made, early_at, closing_late, IsEarlyAt, suits_at}
use Rattle.uv_machine.proofs.Calling.{CallBehind, call_behind, quiet_none, any_at}

-- Objects of a reached state.

module _ (m : State) (r : Reached m) where
  pub id_below : (x : Object) → IsIn x m.objects → x.id < m.made
  id_below x k = (within_rising 0 m.made x m.objects k r.graph.rising).1

  -- an id names one object
  pub same_object : (x y : Object) → IsIn x m.objects → IsIn y m.objects → x.id ≡ y.id → x ≡ y
  same_object x y k h e =
      same_Some x y (sym (find_rising 0 m.made x m.objects k r.graph.rising) ∙ ap (λ i. find (has_id i) m.objects) e ∙ find_rising 0 m.made y m.objects h r.graph.rising)

-- an object that is published under a number of a file
pub record IsPublished (m : State) (f : ℕ) (x : Object) : Type 0 where
  pub within : IsIn x m.objects
  pub same : x.file ≡ f
  pub seen : is_made x.phase ≡ false

not_parts : (b : Bool) → not b ≡ true → b ≡ false
not_parts true h = absurd cc
not_parts false h = refl

pub published_is : (m : State) (f n : ℕ) (x : Object) → published m f n ≡ Some x → IsPublished m f x
published_is m f n x e =
    let p = Passes-find (is_published_at f n) x m.objects e in
    let parts = and_parts (has_handle f n x) (not (is_made x.phase)) p.test in
    let place = and_parts (in_file f x) (x.handle == n) parts.0 in
    record { within = p.within; same = eqb-true x.file f place.0; seen = not_parts (is_made x.phase) parts.1 }

-- What a Look finds.

pub record IsFound (m : State) (call : InFlight) : Type 0 where
  pub ask : Ask
  pub asks : look_ask call ≡ Some ask
  pub item : Object
  pub is : IsPublished m call.file item
  pub kind : item.kind ≡ ask.kind
  pub plugged : is_unplugged m (device_of m call.file) ≡ false
  pub free : is_excluded m item.id ≡ false
  pub object : (look_told m call.file (look_ask call)).object ≡ item.id

slice_in : {X : Type 0} (xs : List X) (i : ℕ) → i < length xs → (x : X) × (slice_get xs i ≡ Some x)
slice_in [] i low = absurd (omega arith)
slice_in (x ∷ xs) zero low = (x, refl)
slice_in (x ∷ xs) (suc i) low = slice_in xs i (omega arith)

slice_low : (xs : List Ask) (i : ℕ) (x : Ask) → slice_get xs i ≡ Some x → i < length xs
slice_low [] i x e = absurd (none-some x e)
slice_low (y ∷ xs) zero x e = omega arith
slice_low (y ∷ xs) (suc i) x e = omega (arith, slice_low xs i x e)

try_by : (unplugged excluded : Bool) → (if unplugged then Some Io else (if excluded then Some Busy else None)) ≡ None → (unplugged ≡ false) × (excluded ≡ false)
try_by true excluded e = absurd (none-some _ (sym e))
try_by false true e = absurd (none-some _ (sym e))
try_by false false e = (refl, refl)

look_fine : (m : State) (f : ℕ) (ask : Ask) (x : Object) (same : Bool) → is_kind x.kind ask.kind ≡ same → (if not same then Some Inval else look_try m f x.id) ≡ None → (is_kind x.kind ask.kind ≡ true) × (is_unplugged m (device_of m f) ≡ false) × (is_excluded m x.id ≡ false)
look_fine m f ask x true is e = let t = try_by (is_unplugged m (device_of m f)) (is_excluded m x.id) e in (is, t.0, t.1)
look_fine m f ask x false is e = absurd (none-some _ (sym e))

found_by : (m : State) (call : InFlight) (ask : Ask) (x : Option Object) → look_ask call ≡ Some ask → published m call.file ask.handle ≡ x → (look_found m call.file ask x).refusal ≡ None → IsFound m call
found_by m call ask None asks is fine = absurd (none-some _ (sym fine))
found_by m call ask (Some x) asks is fine =
    let t = look_fine m call.file ask x (is_kind x.kind ask.kind) refl fine in
    record {
      ask = ask;
      asks = asks;
      item = x;
      is = published_is m call.file ask.handle x is;
      kind = is_kind-same x.kind ask.kind t.0;
      plugged = t.1;
      free = t.2;
      object = ap (λ v. (look_told m call.file v).object) asks ∙ ap (λ v. (look_found m call.file ask v).object) is;
    }

-- the phases
pub phase_cases : (p : Phase) → (is_made p ≡ true) ⊎ ((is_live p ≡ true) ⊎ ((is_doomed p ≡ true) ⊎ (is_husk p ≡ true)))
phase_cases phase.Made = inl refl
phase_cases phase.Live = inr (inl refl)
phase_cases phase.Doomed = inr (inr (inl refl))
phase_cases phase.Husk = inr (inr (inr refl))

locked_by : (l : Option ℕ) → count_of l ≡ 1 → l ≡ Some (unwrap_or l NONE)
locked_by None e = absurd cc
locked_by (Some o) e = refl

pub locks_it : (o : ℕ) (l : Option ℕ) → l ≡ Some o → is_the_number o l ≡ true
locks_it o l e = ap (is_the_number o) e ∙ eq-eqb o o refl

-- an object that a call holds exclusively is excluded
pub excluded_by : (m : State) (b : ℕ) (k : InFlight) (o : ℕ) → call_of m b ≡ Some k → k.locked ≡ Some o → is_excluded m o ≡ true
excluded_by m b k o is locked = any_at (locks o) m.calls b (Some k) (call_stands m b k is) (locks_it o k.locked locked)

module _ (m : State) (r : Reached m) (c : ℕ) (call : InFlight) (is : call_of m c ≡ Some call) where
  -- what is being swept has no calls
  pub not_swept : (f : ℕ) → call.file ≡ f → may_sweep m f ≡ true → ⊥
  not_swept f same swept = quiet_none m c f call (and_parts (is_tearing (phase_of m f)) (is_quiet m f) swept).1 is same

  pub looks_at_live : (f : IsFound m call) → is_live f.item.phase ≡ true
  looks_at_live f =
      let x = f.item in
      ⊎_elim
      (λ made. absurd (let no = f.is.seen in cc))
      (λ rest.
      ⊎_elim
      (λ live. live)
      (λ rest.
      ⊎_elim
      (λ doomed.
      ⊎_elim
      (λ held. absurd (let yes = excluded_by m held.actor held.call x.id held.is held.own in let no = f.free in cc))
      (λ swept. absurd (not_swept x.file (sym f.is.same) swept))
      (r.ending x f.is.within doomed))
      (λ husk.
      ⊎_elim
      (λ swept. absurd (not_swept x.file (sym f.is.same) swept))
      (λ left. absurd (let no : is_unplugged m (device_of m x.file) ≡ false = ap (λ k. is_unplugged m (device_of m k)) f.is.same ∙ f.plugged in let yes = left.gone in cc))
      (r.husks x f.is.within husk))
      rest)
      rest)
      (phase_cases x.phase)

  pub found_at : InPlan call Look → (look_told m call.file (look_ask call)).refusal ≡ None → IsFound m call
  found_at plan fine =
      let s = stands_in_plan call Look plan in
      let phased = r.phased c call is in
      let low : look_count call < looks_in call =
      ⊎_elim
      (λ k. (let has = (create_has call k.kind phased plan.fine k.creates).looking k.from (omega (arith, k.to)) in omega (arith, has.looks_are, k.from, k.to)))
      (λ k. (let has = (act_has call k.act phased plan.fine k.acts).looking (omega (arith, k.to)) in omega (arith, has.looks_are, k.to)))
      s in
      let next = slice_in (looks_of call.request) (look_count call) low in
      found_by m call next.0 (published m call.file next.0.handle) next.1 refl (ap (λ v. (look_told m call.file v).refusal) (sym next.1) ∙ fine)

  -- the lock of a call that is about to check or finish, or to commit
  pub owns_at_check : InPlan call Check → call.locked ≡ Some (own_object call)
  owns_at_check plan =
      let s = stands_in_plan call Check plan in
      let has = (destroy_has call s.asked (r.phased c call is) plan.fine s.destroys).locked (omega (arith, s.at)) (omega (arith, s.at)) in
      locked_by call.locked has.locks_are

  pub owns_at_finish : InPlan call Finish → call.locked ≡ Some (own_object call)
  owns_at_finish plan =
      let s = stands_in_plan call Finish plan in
      let has = (destroy_has call s.asked (r.phased c call is) plan.fine s.destroys).locked (omega (arith, s.at)) (omega (arith, s.at)) in
      locked_by call.locked has.locks_are

  pub owns_at_commit : InPlan call Commit → call.locked ≡ Some (own_object call)
  owns_at_commit plan =
      let s = stands_in_plan call Commit plan in
      let has = (create_has call s.kind (r.phased c call is) plan.fine s.creates).made s.at in
      locked_by call.locked has.locks_are

  -- What others look at goes on to suit them.

  carries_as : (m' n : State) (o : ℕ) → m' ≡ n → Carries m.objects n.objects o → Carries m.objects m'.objects o
  carries_as m' n o e k = let P : State → Type 0 = λ s. Carries m.objects s.objects o in subst P (sym e) k

  carries_act : (a : Answer) (what : request.Act) (o : ℕ) → Carries m.objects (act m c call a what).objects o
  carries_act a (Modify to attrs) o = carries_same m.objects o
  carries_act a Query o = carries_same m.objects o
  carries_act a (Bind offset long access) o = carries_change m.objects o (acted_on call) (ToBound (Some (binding_of call offset long access))) (λ _. tt)
  carries_act a (Unbind offset long access) o = carries_change m.objects o (acted_on call) (ToBound None) (λ _. tt)
  carries_act a Async o = carries_same m.objects o

  carries_turn : (a : Answer) (m' : State) → Turn m c call a m' → (o : ℕ) → o < m.made → (call.locked ≡ Some o → ⊥) → Carries m.objects m'.objects o
  carries_turn a m' (Refuses k) o low free = carries_as m' _ o k.gives (carries_same m.objects o)
  carries_turn a m' (Reserves k) o low free = carries_as m' _ o k.gives (carries_same m.objects o)
  carries_turn a m' (Looks k) o low free = carries_as m' _ o k.gives (carries_same m.objects o)
  carries_turn a m' (Makes k) o low free = carries_as m' _ o k.gives (carries_room m.objects o (object_made m call k.kind k.index) (λ e. (let same : o ≡ m.made = e in omega (arith, same))))
  carries_turn a m' (Commits k) o low free = carries_as m' _ o k.gives (carries_change m.objects o (own_object call) ToLive (λ _. tt))
  carries_turn a m' (Does k) o low free = carries_as m' _ o k.gives (carries_act a k.what o)
  carries_turn a m' (Locks k) o low free = carries_as m' _ o k.gives (carries_same m.objects o)
  carries_turn a m' (Checks k) o low free = carries_as m' _ o k.gives (carries_change m.objects o (own_object call) ToDoomed (λ e. free (owns_at_check k.plan ∙ ap (λ (n : ℕ). Some n) (sym e))))
  carries_turn a m' (Finishes k) o low free =
      carries_as m' _ o k.gives (let P : List Object → Type 0 = λ v. Carries m.objects v o in subst P (sym (finish_objects m c (own_object call))) (carries_filter m.objects o (not_with_id (own_object call))))
  carries_turn a m' (Aborts k) o low free = carries_as m' _ o k.gives (carries_same m.objects o)
  carries_turn a m' (Frees k) o low free = carries_as m' _ o k.gives (carries_same m.objects o)
  carries_turn a m' (Leaves k) o low free = carries_as m' _ o k.gives (carries_same m.objects o)

  -- Objects with an id that was given before were there before, in the same file.

  pub record CameFrom (y : Object) : Type 0 where
    pub item : Object
    pub within : IsIn item m.objects
    pub id : y.id ≡ item.id
    pub file : y.file ≡ item.file

  came_same : (y : Object) → IsIn y m.objects → CameFrom y
  came_same y k = record { item = y; within = k; id = refl; file = refl }

  came_changed : (o : ℕ) (change : Change) (y : Object) → IsIn y (map (on_object o change) m.objects) → CameFrom y
  came_changed o change y k =
      let from = IsIn-map (on_object o change) y m.objects k in
      record {
        item = from.item;
        within = from.within;
        id = ap (λ (v : Object). v.id) from.gives ∙ on_object-id o change from.item;
        file = ap (λ (v : Object). v.file) from.gives ∙ on_object-file o change from.item;
      }

  came_as : (m' n : State) (y : Object) → m' ≡ n → (IsIn y n.objects → CameFrom y) → IsIn y m'.objects → CameFrom y
  came_as m' n y e h k = h (let P : State → Type 0 = λ s. IsIn y s.objects in subst P e k)

  came_act : (a : Answer) (what : request.Act) (y : Object) → IsIn y (act m c call a what).objects → CameFrom y
  came_act a (Modify to attrs) y k = came_same y k
  came_act a Query y k = came_same y k
  came_act a (Bind offset long access) y k = came_changed (acted_on call) (ToBound (Some (binding_of call offset long access))) y k
  came_act a (Unbind offset long access) y k = came_changed (acted_on call) (ToBound None) y k
  came_act a Async y k = came_same y k

  pub came_turn : (a : Answer) (m' : State) → Turn m c call a m' → (y : Object) → IsIn y m'.objects → y.id < m.made → CameFrom y
  came_turn a m' (Refuses t) y k low = came_as m' _ y t.gives (came_same y) k
  came_turn a m' (Reserves t) y k low = came_as m' _ y t.gives (came_same y) k
  came_turn a m' (Looks t) y k low = came_as m' _ y t.gives (came_same y) k
  came_turn a m' (Makes t) y k low =
      came_as m' _ y t.gives
      (λ h. ⊎_elim (came_same y) (λ new. absurd (let same : y.id ≡ m.made = ap (λ (v : Object). v.id) new in omega arith)) (in_room y (object_made m call t.kind t.index) m.objects h))
      k
  came_turn a m' (Commits t) y k low = came_as m' _ y t.gives (came_changed (own_object call) ToLive y) k
  came_turn a m' (Does t) y k low = came_as m' _ y t.gives (came_act a t.what y) k
  came_turn a m' (Locks t) y k low = came_as m' _ y t.gives (came_same y) k
  came_turn a m' (Checks t) y k low = came_as m' _ y t.gives (came_changed (own_object call) ToDoomed y) k
  came_turn a m' (Finishes t) y k low =
      came_as m' _ y t.gives (λ h. came_same y (Passes-filter (not_with_id (own_object call)) y m.objects (let P : List Object → Type 0 = λ v. IsIn y v in subst P (finish_objects m c (own_object call)) h)).within) k
  came_turn a m' (Aborts t) y k low = came_as m' _ y t.gives (came_same y) k
  came_turn a m' (Frees t) y k low = came_as m' _ y t.gives (came_same y) k
  came_turn a m' (Leaves t) y k low = came_as m' _ y t.gives (came_same y) k

  -- what a call has locked stays in its file
  stays_placed : (a : Answer) (m' : State) → Turn m c call a m' → (k : InFlight) → HoldsWell m.made m.objects k → (o : ℕ) → k.locked ≡ Some o → (y : Object) → IsIn y m'.objects → y.id ≡ o → y.file ≡ k.file
  stays_placed a m' t k old o locked y h e =
      let low = old.locked o locked in
      let from = came_turn a m' t y h (omega arith) in
      from.file ∙ old.placed o locked from.item from.within (sym from.id ∙ e)

  made_by : (b : Bool) → m.made ≤ (if b then m.made else m.made + 1)
  made_by true = omega arith
  made_by false = omega arith

  made_as : (m' n : State) → m' ≡ n → m.made ≤ n.made → m.made ≤ m'.made
  made_as m' n e h = let P : State → Type 0 = λ s. m.made ≤ s.made in subst P (sym e) h

  made_act : (a : Answer) (what : request.Act) → m.made ≤ (act m c call a what).made
  made_act a (Modify to attrs) = omega arith
  made_act a Query = omega arith
  made_act a (Bind offset long access) = omega arith
  made_act a (Unbind offset long access) = omega arith
  made_act a Async = omega arith

  pub made_turn : (a : Answer) (m' : State) → Turn m c call a m' → m.made ≤ m'.made
  made_turn a m' (Refuses k) = made_as m' _ k.gives (omega arith)
  made_turn a m' (Reserves k) = made_as m' _ k.gives (omega arith)
  made_turn a m' (Looks k) = made_as m' _ k.gives (omega arith)
  made_turn a m' (Makes k) = made_as m' _ k.gives (made_by (m.made == NONE))
  made_turn a m' (Commits k) = made_as m' _ k.gives (omega arith)
  made_turn a m' (Does k) = made_as m' _ k.gives (made_act a k.what)
  made_turn a m' (Locks k) = made_as m' _ k.gives (omega arith)
  made_turn a m' (Checks k) = made_as m' _ k.gives (omega arith)
  made_turn a m' (Finishes k) = made_as m' _ k.gives (omega (arith, finish_made m c (own_object call)))
  made_turn a m' (Aborts k) = made_as m' _ k.gives (omega arith)
  made_turn a m' (Frees k) = made_as m' _ k.gives (omega arith)
  made_turn a m' (Leaves k) = made_as m' _ k.gives (omega arith)

  -- the calls of others
  others_hold : (a : Answer) (m' : State) → Turn m c call a m' → (b : ℕ) (k : InFlight) → c ≢ b → call_of m b ≡ Some k → HoldsWell m'.made m'.objects k
  others_hold a m' t b k ne is' =
      let old = r.holds_well b k is' in
      let more = made_turn a m' t in
      let apart : (o : ℕ) → looks_at o k ≡ true → call.locked ≡ Some o → ⊥ =
      λ o h locked. (
      let none = r.alone c b call k o is is' ne locked in
      let parts = or_parts (is_the_number o k.locked) (looks_at o k) none in
      let no = parts.1 in
      cc) in
      record {
        looked = λ o h. omega (arith, old.looked o h);
        locked = λ o h. omega (arith, old.locked o h);
        placed = stays_placed a m' t k old;
        suits = λ early. all_carry m.objects m'.objects k.file (ids_of k.looked) (looks_of k.request) (λ o h. carries_turn a m' t o (old.looked o h) (apart o h)) (old.suits early);
      }

  -- The actor's own call.

  own_well : HoldsWell m.made m.objects call
  own_well = r.holds_well c call is

  -- a call that has got no more, and that makes no early word any more
  late_holds : (m' : State) (k : InFlight) → m.made ≤ m'.made → ((o : ℕ) → looks_at o k ≡ true → looks_at o call ≡ true) → ((o : ℕ) → k.locked ≡ Some o → (o < m'.made) × ((y : Object) → IsIn y m'.objects → y.id ≡ o → y.file ≡ k.file)) → (is_early (next_word k) ≡ true → ⊥) → HoldsWell m'.made m'.objects k
  late_holds m' k more looked locked late = record {
    looked = λ o h. omega (arith, own_well.looked o (looked o h));
    locked = λ o h. (locked o h).0;
    placed = λ o h. (locked o h).1;
    suits = λ early. absurd (late early);
  }

  keeps_locked : (a : Answer) (m' : State) → Turn m c call a m' → (o : ℕ) → call.locked ≡ Some o → (o < m'.made) × ((y : Object) → IsIn y m'.objects → y.id ≡ o → y.file ≡ call.file)
  keeps_locked a m' t o h = (omega (arith, own_well.locked o h, made_turn a m' t), stays_placed a m' t call own_well o h)

  refused_late : (e : Errno) → is_early (next_word (with_refusal e call)) ≡ true → ⊥
  refused_late e early = closing_late (with_refusal e call) (λ none. absurd (none-some e (sym none))) early

  -- the words of a create after its Make, of a destroy, and of an act after it
  create_late : (k : InFlight) (kind : Kind) → role_of k.request ≡ Creates kind → looks_in k + 1 < k.place → is_early (next_word k) ≡ true → ⊥
  create_late k kind role far early =
      let P : Role → Type 0 = λ v. IsEarlyAt v (looks_in k) k.place in
      let near : k.place ≤ looks_in k + 1 = subst P role (early_at k early) in
      omega arith

  destroy_late : (k : InFlight) (asked : Ask) → role_of k.request ≡ Destroys asked → is_early (next_word k) ≡ true → ⊥
  destroy_late k asked role early = let P : Role → Type 0 = λ v. IsEarlyAt v (looks_in k) k.place in subst P role (early_at k early)

  act_late : (k : InFlight) (what : request.Act) → role_of k.request ≡ Acts what → looks_in k < k.place → is_early (next_word k) ≡ true → ⊥
  act_late k what role far early =
      let P : Role → Type 0 = λ v. IsEarlyAt v (looks_in k) k.place in
      let near : k.place ≤ looks_in k = subst P role (early_at k early) in
      omega arith

  looked_holds : (f : IsFound m call) → InPlan call Look → HoldsWell m.made m.objects (with_look f.item.id call)
  looked_holds f plan =
      let o = f.item.id in
      let low : length (ids_of call.looked) < 4 =
      (let some = slice_low (looks_of call.request) (look_count call) f.ask f.asks in omega (arith, some, looks_few call.request)) in
      let suits : (y : Object) → IsIn y m.objects → y.id ≡ o → Suits call.file f.ask y =
      λ y k e. (
      let same : f.item ≡ y = same_object m r f.item y f.is.within k (sym e) in
      let P : Object → Type 0 = λ v. Suits call.file f.ask v in
      subst P same (record { kind = f.kind; same = f.is.same; live = looks_at_live f })) in
      record {
        looked = λ u h. ⊎_elim (λ old. own_well.looked u old) (λ new. (let below = id_below m r f.item f.is.within in omega arith)) (any_ids_and u call.looked o h);
        locked = own_well.locked;
        placed = own_well.placed;
        suits = λ early.
            let P : List ℕ → Type 0 = λ v. AllSuit m.objects call.file v (looks_of call.request) in
            subst P (sym (ids_of-ids_and call.looked o low)) (all_snoc m.objects call.file (ids_of call.looked) (looks_of call.request) o f.ask (suits_at m r c call is Look plan refl) f.asks suits);
      }

  holds_as : (m' n : State) (k : InFlight) → m' ≡ n → HoldsWell n.made n.objects k → HoldsWell m'.made m'.objects k
  holds_as m' n k e h = let P : State → Type 0 = λ s. HoldsWell s.made s.objects k in subst P (sym e) h

  fresh_made : (m.made == NONE) ≡ false → m.made < next_id m.made
  fresh_made fresh = rw fresh (omega arith)

  pub made_below : (m' : State) (x : Object) → m' ≡ with_new m c x → (m.made == NONE) ≡ false → m.made < m'.made
  made_below m' x e fresh = let P : State → Type 0 = λ s. m.made < s.made in subst P (sym e) (fresh_made fresh)

  -- the new object is of its call's file
  pub made_placed : (a : Answer) (m' : State) → (t : Made m c call m') → (o : ℕ) → m.made ≡ o → (y : Object) → IsIn y m'.objects → y.id ≡ o → y.file ≡ call.file
  made_placed a m' t o same y h e =
      let P : State → Type 0 = λ s. IsIn y s.objects in
      ⊎_elim
      (λ old. absurd (let low = id_below m r y old in omega arith))
      (λ new. ap (λ (v : Object). v.file) new)
      (in_room y (object_made m call t.kind t.index) m.objects (subst P t.gives h))

  -- and so is one that is found by a number of the file
  lock_placed : (a : Answer) (m' : State) → (t : Locked m c call m') → IsPublished m call.file t.item → (o : ℕ) → t.item.id ≡ o → (y : Object) → IsIn y m'.objects → y.id ≡ o → y.file ≡ call.file
  lock_placed a m' t found o same y h e =
      let P : State → Type 0 = λ s. IsIn y s.objects in
      ap (λ (v : Object). v.file) (same_object m r y t.item (subst P t.gives h) found.within (e ∙ sym same)) ∙ found.same

  holds_own : (m' : State) (k k' : InFlight) → Some k' ≡ Some k → HoldsWell m'.made m'.objects k' → HoldsWell m'.made m'.objects k
  holds_own m' k k' e h = let P : InFlight → Type 0 = λ v. HoldsWell m'.made m'.objects v in subst P (same_Some k' k e) h

  own_holds : (a : Answer) (m' : State) (t : Turn m c call a m') (k : InFlight) → (calls_turn m c call a m' t).change (Some call) ≡ Some k → HoldsWell m'.made m'.objects k
  own_holds a m' (Refuses t) k e = holds_own m' k _ e (late_holds m' (with_refusal t.errno call) (made_turn a m' (Refuses t)) (λ o h. h) (keeps_locked a m' (Refuses t)) (refused_late t.errno))
  own_holds a m' (Reserves t) k e =
      holds_own m' k _ e (holds_as m' _ (with_number (Some t.number) call) t.gives (record { looked = own_well.looked; locked = own_well.locked; placed = own_well.placed; suits = λ early. suits_at m r c call is Reserve t.plan refl }))
  own_holds a m' (Looks t) k e =
      let f = found_at t.plan t.fine in
      let P : ℕ → Type 0 = λ o. HoldsWell m.made m.objects (with_look o call) in
      holds_own m' k _ e (holds_as m' _ (with_look (look_told m call.file (look_ask call)).object call) t.gives (subst P (sym f.object) (looked_holds f t.plan)))
  own_holds a m' (Makes t) k e =
      let s = stands_in_plan call Make t.plan in
      let next = next_place-in_plan call Make t.plan in
      let x = object_made m call t.kind t.index in
      let behind = with_made x.id (made_outcome x) call in
      holds_own m' k _ e
      (late_holds m' behind (made_turn a m' (Makes t)) (λ o h. h)
      (λ o h. (let same : m.made ≡ o = same_Some m.made o h in let low = made_below m' x t.gives t.fresh in (omega arith, made_placed a m' t o same)))
      (create_late behind s.kind s.creates (omega (arith, next, s.at))))
  own_holds a m' (Commits t) k e =
      let s = stands_in_plan call Commit t.plan in
      let next = next_place-in_plan call Commit t.plan in
      holds_own m' k _ e (late_holds m' (without_lock call) (made_turn a m' (Commits t)) (λ o h. h) (λ o h. absurd (none-some o h)) (create_late (without_lock call) s.kind s.creates (omega (arith, next, s.at))))
  own_holds a m' (Does t) k e =
      let s = stands_in_plan call Act t.plan in
      let next = next_place-in_plan call Act t.plan in
      holds_own m' k _ e (late_holds m' (with_outcome a call) (made_turn a m' (Does t)) (λ o h. h) (keeps_locked a m' (Does t)) (act_late (with_outcome a call) s.act s.acts (omega (arith, next, s.at))))
  own_holds a m' (Locks t) k e =
      let found = published_is m call.file t.asked.handle t.item t.published in
      let low = id_below m r t.item found.within in
      let more = made_turn a m' (Locks t) in
      holds_own m' k _ e (late_holds m' (with_lock t.item.id call) more (λ o h. h) (λ o h. (let same : t.item.id ≡ o = same_Some t.item.id o h in (omega arith, lock_placed a m' t found o same))) (destroy_late (with_lock t.item.id call) t.asked t.destroys))
  own_holds a m' (Checks t) k e =
      let s = stands_in_plan call Check t.plan in
      holds_own m' k _ e (late_holds m' (moved_on call) (made_turn a m' (Checks t)) (λ o h. h) (keeps_locked a m' (Checks t)) (destroy_late (moved_on call) s.asked s.destroys))
  own_holds a m' (Finishes t) k e =
      let s = stands_in_plan call Finish t.plan in
      holds_own m' k _ e (late_holds m' (without_lock call) (made_turn a m' (Finishes t)) (λ o h. h) (λ o h. absurd (none-some o h)) (destroy_late (without_lock call) s.asked s.destroys))
  own_holds a m' (Aborts t) k e =
      holds_own m' k _ e (late_holds m' (without_number call) (made_turn a m' (Aborts t)) (λ o h. h) (keeps_locked a m' (Aborts t)) (closing_late (without_number call) t.ends))
  own_holds a m' (Frees t) k e =
      holds_own m' k _ e (late_holds m' (without_look call) (made_turn a m' (Frees t)) (λ o h. any_ids_behind o call.looked h) (keeps_locked a m' (Frees t)) (closing_late (without_look call) t.ends))
  own_holds a m' (Leaves t) k e = absurd (none-some k e)

  pub holds_turn : (a : Answer) (m' : State) → Turn m c call a m' → (b : ℕ) (k : InFlight) → call_of m' b ≡ Some k → HoldsWell m'.made m'.objects k
  holds_turn a m' t b k is' = holds_behind (call_behind m m' c call kt.change is kt.calls b k is')
    where
      kt : CallsTurn m c call m'
      kt = calls_turn m c call a m' t

      holds_behind : CallBehind m c b (kt.change (Some call)) k → HoldsWell m'.made m'.objects k
      holds_behind (CallBehind.IsOwn same e) = own_holds a m' t k e
      holds_behind (CallBehind.IsOther ne e) = others_hold a m' t b k ne e
