-- In a state that a legal history leads to, each handle number of a file is one object's or set aside for one call at most.
-- So an accepted Make finds room in a list of as many objects as there are handles.
use Rattle.uv_machine.specs.Accounts.{count_of}
use Rattle.std.proofs.Common.{◌≡◌, ℕ, zero, suc, ◌+◌, ◌*◌, ◌/◌, ◌%◌, ◌<◌, ◌≤◌, Bool, true, false, List, [], ◌∷◌, ◌++◌, Option, Some, None, length, map, replicate, refl, ap, sym, ◌∙◌, subst, arith, inl, inr}
use Rattle.std.specs.Prelude.{◌&&◌, ◌==◌, nat_lt, slice_get, filter, option_map, unwrap_or, is_some, count_by, if◌then◌else◌}
use Rattle.std.specs.List.{AllByRecursion, list_any}
use Rattle.std.proofs.lemmas.Bool.{and_parts, and_from, or_parts, eqb-true, eq-eqb, ne_eqb, and_right}
use Rattle.std.proofs.lemmas.Option.{none-some, same_Some}
use Rattle.std.proofs.lemmas.Bool.Decides.{nat_tests}
use Rattle.std.proofs.lemmas.List.Sums.{sum_by_push}
use Rattle.uv_num.specs.declared.errno.Errno.{Errno}
use Rattle.uv_num.specs.declared.kind.Kind.{Kind}
use Rattle.uv_num.specs.declared.qp.QpState.{QpState}
use Rattle.uv_num.specs.declared.request.Act as request
use Rattle.uv_num.specs.declared.request.Act.TheVariants.{Modify, Query, Bind, Unbind, Async}
use Rattle.uv_num.specs.declared.request.Request.{Request}
use Rattle.uv_num.specs.declared.limits.TheConstants.{ACTOR_PLACES, FILES, HANDLES, MOST_OBJECTS, NONE}
use Rattle.uv_num.specs.Place.{at_place}
use Rattle.uv_machine.specs.declared.entry.Word.{Word}
use Rattle.uv_machine.specs.declared.entry.Word.TheVariants.{Reserve, Look, Make, Commit, Act, Lock, Check, Finish, Abort, Free, Exit}
use Rattle.uv_machine.specs.declared.entry.Answer.{Answer}
use Rattle.uv_machine.specs.declared.entry.Entry.{Entry}
use Rattle.uv_machine.specs.declared.entry.Entry.TheVariants.{Open, Enter, Step, Unplug, Tear, Kill, Gone, Dissociated, Closed}
use Rattle.uv_machine.specs.declared.object.Object.{Object}
use Rattle.uv_machine.specs.declared.object.Change.{Change}
use Rattle.uv_machine.specs.declared.object.Change.TheVariants.{ToLive, ToDoomed, ToHusk, ToBound}
use Rattle.uv_machine.specs.declared.call.InFlight.{InFlight}
use Rattle.uv_machine.specs.declared.state.State.{State}
use Rattle.uv_machine.specs.Objects.{has_id, in_file, has_handle, with_change, on_object}
use Rattle.uv_machine.specs.Plans.{own_object, acted_on, is_the_number, reserves, with_refusal, with_number, with_look, with_made, with_outcome, with_lock, without_lock, without_number, without_look, moved_on, entered}
use Rattle.uv_machine.specs.States.{call_of, object_with, is_taken, least_from, least_free, start}
use Rattle.uv_machine.specs.Effects.{refusal_in, made_outcome, binding_of, act, finish, with_room_for, not_with_id, put_call, no_call, gone_from, not_in_file, unless_answered}
use Rattle.uv_machine.specs.Histories.{Allowed, after, state_from, state_of, IsLegalFrom, IsLegal}
use Rattle.uv_machine.specs.Laws.{MakeHasRoom, HasRoom, LegalIsBounded}
use Rattle.uv_machine.specs.Reached.{IsIn, Reached}
use Rattle.uv_machine.proofs.Sums.{one, one_le, one_none, one_most, same_one, worth, sum_by-at_place_worth, sum_by-filter-le, sum_by-map-le, sum_by-item, each_item, each_at, each-at_place, each-map, each-filter, each-push, each-replicate, count_by-replicate-none, count_by-none, has_key, length_below, sum_by-le-each, each_weaken}
use Rattle.uv_machine.proofs.Members.{list_any-none}
use Rattle.uv_machine.proofs.Planned.{InPlan, in_plan, stands_in_plan, looks_few}
use Rattle.uv_machine.proofs.Turns.{Turn, object_made, IsTurn, IsTurn-allowed}
use Rattle.uv_machine.proofs.Turns.Turn.{Refuses, Reserves, Looks, Makes, Commits, Does, Locks, Checks, Finishes, Aborts, Frees, Leaves}
use Rattle.uv_machine.proofs.OwnCall.{call_stands}
use Rattle.uv_machine.proofs.Phased.{create_has}
use Rattle.uv_machine.proofs.Apart.{calls_buried}
use Rattle.uv_machine.proofs.Holding.{finish_objects}
use Rattle.uv_machine.proofs.Reaching.{Reached-start, Reached-after, Reached-state_of}

-- The invariant.

-- an object's file and handle are within their tables
abbrev pub HasPlace : Object → Type 0
HasPlace x = (x.file < FILES) × (x.handle < HANDLES)

abbrev pub IsHandle : Option ℕ → Type 0
IsHandle None = Unit {0}
IsHandle (Some n) = n < HANDLES

-- a call's file and number are within their tables
pub record CallFits (call : InFlight) : Type 0 where
  pub on : call.file < FILES
  pub number : IsHandle call.reserved

abbrev pub SlotFits : Option InFlight → Type 0
SlotFits None = Unit {0}
SlotFits (Some call) = CallFits call

pub record IsNumbered (objects : List Object) (calls : List (Option InFlight)) : Type 0 where
  pub once : (f n : ℕ) → count_by (has_handle f n) objects + count_by (reserves f n) calls ≤ 1
  pub places : AllByRecursion HasPlace objects
  pub slots : AllByRecursion SlotFits calls

abbrev pub Numbered : State → Type 0
Numbered m = IsNumbered m.objects m.calls

-- how many calls pass a test, once one has changed
calls_count : (p : Option InFlight → Bool) (calls : List (Option InFlight)) (c : ℕ) (g : Option InFlight → Option InFlight) (call : InFlight) → slice_get calls c ≡ Some (Some call) → count_by p (at_place calls c g) + one (p (Some call)) ≡ count_by p calls + one (p (g (Some call)))
calls_count p calls c g call stands =
    let here : worth (λ s. one (p s)) (slice_get calls c) ≡ one (p (Some call)) = ap (worth (λ s. one (p s))) stands in
    let there : worth (λ s. one (p s)) (option_map g (slice_get calls c)) ≡ one (p (g (Some call))) = ap (λ v. worth (λ s. one (p s)) (option_map g v)) stands in
    omega (arith, sum_by-at_place_worth (λ s. one (p s)) g calls c, here, there)

slot_is : (calls : List (Option InFlight)) (c : ℕ) (g : Option InFlight → Option InFlight) (call : InFlight) → slice_get calls c ≡ Some (Some call) → SlotFits (g (Some call)) → (x : Option InFlight) → slice_get calls c ≡ Some x → SlotFits (g x)
slot_is calls c g call stands fits x is =
    let same : Some call ≡ x = cc in
    let Q : Option InFlight → Type 0 = λ v. SlotFits (g v) in
    subst Q same fits

-- a call that sets no other number aside than before
pub numbered_call : (objects : List Object) (calls : List (Option InFlight)) (c : ℕ) (g : Option InFlight → Option InFlight) (call : InFlight) → IsNumbered objects calls → slice_get calls c ≡ Some (Some call) → ((f n : ℕ) → reserves f n (g (Some call)) ≡ true → reserves f n (Some call) ≡ true) → SlotFits (g (Some call)) → IsNumbered objects (at_place calls c g)
numbered_call objects calls c g call numbered stands keeps fits = record {
  once = λ f n. omega (arith, numbered.once f n, calls_count (reserves f n) calls c g call stands, one_le (reserves f n (g (Some call))) (reserves f n (Some call)) (keeps f n));
  places = numbered.places;
  slots = each-at_place SlotFits g calls c (slot_is calls c g call stands fits) numbered.slots;
}

-- fewer objects
pub numbered_objects : (objects fewer : List Object) (calls : List (Option InFlight)) → IsNumbered objects calls → ((f n : ℕ) → count_by (has_handle f n) fewer ≤ count_by (has_handle f n) objects) → AllByRecursion HasPlace fewer → IsNumbered fewer calls
numbered_objects objects fewer calls numbered less places = record {
  once = λ f n. omega (arith, numbered.once f n, less f n);
  places = places;
  slots = numbered.slots;
}

pub numbered_filter : (p : Object → Bool) (objects : List Object) (calls : List (Option InFlight)) → IsNumbered objects calls → IsNumbered (filter p objects) calls
numbered_filter p objects calls numbered =
    numbered_objects objects (filter p objects) calls numbered (λ f n. sum_by-filter-le (λ x. one (has_handle f n x)) p objects) (each-filter HasPlace p objects numbered.places)

changed_handle : (b : Bool) (change : Change) (f n : ℕ) (x : Object) → has_handle f n (if b then with_change change x else x) ≡ has_handle f n x
changed_handle true ToLive f n x = refl
changed_handle true ToDoomed f n x = refl
changed_handle true ToHusk f n x = refl
changed_handle true (ToBound binding) f n x = refl
changed_handle false change f n x = refl

changed_place : (b : Bool) (change : Change) (x : Object) → HasPlace x → HasPlace (if b then with_change change x else x)
changed_place true ToLive x has = has
changed_place true ToDoomed x has = has
changed_place true ToHusk x has = has
changed_place true (ToBound binding) x has = has
changed_place false change x has = has

pub numbered_change : (o : ℕ) (change : Change) (objects : List Object) (calls : List (Option InFlight)) → IsNumbered objects calls → IsNumbered (map (on_object o change) objects) calls
numbered_change o change objects calls numbered =
    numbered_objects objects (map (on_object o change) objects) calls numbered
    (λ f n. sum_by-map-le (λ x. one (has_handle f n x)) (on_object o change) objects (each_item _ (λ x. same_one (has_handle f n (on_object o change x)) (has_handle f n x) (changed_handle (has_id o x) change f n x)) objects))
    (each-map HasPlace (on_object o change) objects (λ x has. changed_place (has_id o x) change x has) numbered.places)

-- Turns.

-- a number is set aside for a call

free_here : (b : Bool) (taken : ℕ → Bool) (n more k : ℕ) → taken n ≡ b → (if b then least_from taken (n + 1) more else Some n) ≡ Some k → (least_from taken (n + 1) more ≡ Some k → (taken k ≡ false) × (k < n + 1 + more)) → (taken k ≡ false) × (k < n + suc more)
free_here true taken n more k is e later = let found = later e in (found.0, omega (arith, found.1))
free_here false taken n more k is e later =
    let same : n ≡ k = cc in
    (ap taken (sym same) ∙ is, omega (arith, same))

-- the least free number isn't taken, and is within its bound
pub least_from_free : (taken : ℕ → Bool) (n more k : ℕ) → least_from taken n more ≡ Some k → (taken k ≡ false) × (k < n + more)
unfolding least_from
least_from_free taken n zero k e = cc
least_from_free taken n (suc more) k e = free_here (taken n) taken n more k refl e (least_from_free taken (n + 1) more k)

reserve_some : (m : State) (c : ℕ) (call : InFlight) (k : ℕ) → Numbered m → slice_get m.calls c ≡ Some (Some call) → least_free m call.file ≡ Some k → (f n : ℕ) (b : Bool) → ((call.file == f) && (k == n)) ≡ b → count_by (has_handle f n) m.objects + count_by (reserves f n) (at_place m.calls c (option_map (with_number (Some k)))) ≤ 1
reserve_some m c call k numbered stands is f n true same =
    let parts = and_parts (call.file == f) (k == n) same in
    let at_file : call.file ≡ f = eqb-true call.file f parts.0 in
    let at_number : k ≡ n = eqb-true k n parts.1 in
    let free = least_from_free (is_taken m call.file) 0 HANDLES k is in
    let none = or_parts (list_any (has_handle call.file k) m.objects) (list_any (reserves call.file k) m.calls) free.0 in
    let objects : count_by (has_handle f n) m.objects ≡ 0 =
    ap (λ v. count_by (has_handle v n) m.objects) (sym at_file) ∙ (ap (λ v. count_by (has_handle call.file v) m.objects) (sym at_number) ∙ count_by-none (has_handle call.file k) m.objects none.0) in
    let calls : count_by (reserves f n) m.calls ≡ 0 =
    ap (λ v. count_by (reserves v n) m.calls) (sym at_file) ∙ (ap (λ v. count_by (reserves call.file v) m.calls) (sym at_number) ∙ count_by-none (reserves call.file k) m.calls none.1) in
    omega (arith, objects, calls, calls_count (reserves f n) m.calls c (option_map (with_number (Some k))) call stands, one_most ((call.file == f) && (k == n)))
reserve_some m c call k numbered stands is f n false other =
    omega (arith, numbered.once f n, calls_count (reserves f n) m.calls c (option_map (with_number (Some k))) call stands, one_none ((call.file == f) && (k == n)) other)

reserved_fits : (number : Option ℕ) (m : State) (f : ℕ) → least_free m f ≡ number → IsHandle number
reserved_fits None m f is = tt
reserved_fits (Some k) m f is = let free = least_from_free (is_taken m f) 0 HANDLES k is in omega (arith, free.1)

reserve_numbered : (m : State) (c : ℕ) (call : InFlight) (k : ℕ) → Numbered m → slice_get m.calls c ≡ Some (Some call) → CallFits call → least_free m call.file ≡ Some k → IsNumbered m.objects (at_place m.calls c (option_map (with_number (Some k))))
reserve_numbered m c call k numbered stands fits free =
    let g = with_number (Some k) in
    let new : CallFits (with_number (Some k) call) = record { on = fits.on; number = reserved_fits (Some k) m call.file free } in
    record {
      once = λ f n. reserve_some m c call k numbered stands free f n ((call.file == f) && (k == n)) refl;
      places = numbered.places;
      slots = each-at_place SlotFits (option_map g) m.calls c (slot_is m.calls c (option_map g) call stands new) numbered.slots;
    }

-- an object takes the number of its call

made_handle : (v : Option ℕ) (n : ℕ) → is_some v ≡ true → (unwrap_or v NONE == n) ≡ is_the_number n v
made_handle None n e = cc
made_handle (Some k) n e = refl

made_place : (v : Option ℕ) → is_some v ≡ true → IsHandle v → unwrap_or v NONE < HANDLES
made_place None e below = cc
made_place (Some k) e below = below

-- Room.

-- an object's handle and its file in one number
abbrev pub place_key : Object → ℕ
place_key x = x.file * HANDLES + x.handle

key_within : (x : Object) → HasPlace x → place_key x < MOST_OBJECTS
key_within x has = omega arith

key_parts : (f n g k : ℕ) → n < HANDLES → k < HANDLES → f * HANDLES + n ≡ g * HANDLES + k → (f ≡ g) × (n ≡ k)
key_parts f n g k low lower e = (omega arith, omega arith)

key_handle : (f n k : ℕ) → n < HANDLES → k ≡ f * HANDLES + n → (x : Object) → HasPlace x → one (has_key place_key k x) ≤ one (has_handle f n x)
key_handle f n k low is x has =
    one_le (has_key place_key k x) (has_handle f n x) (λ same.
    let parts = key_parts x.file x.handle f n has.1 low (eqb-true (place_key x) k same ∙ is) in
    and_from (in_file f x) (x.handle == n) (eq-eqb x.file f parts.0) (eq-eqb x.handle n parts.1))

key_count : (objects : List Object) (f n k : ℕ) → n < HANDLES → k ≡ f * HANDLES + n → AllByRecursion HasPlace objects → count_by (has_key place_key k) objects ≤ count_by (has_handle f n) objects
key_count objects f n k low is places =
    sum_by-le-each (λ x. one (has_key place_key k x)) (λ x. one (has_handle f n x)) objects (each_weaken HasPlace _ (key_handle f n k low is) objects places)

key_once : (objects : List Object) (calls : List (Option InFlight)) → IsNumbered objects calls → (k : ℕ) → count_by (has_key place_key k) objects ≤ 1
key_once objects calls numbered k =
    let counts = key_count objects (k / HANDLES) (k % HANDLES) k (omega arith) (omega arith) numbered.places in
    omega (arith, numbered.once (k / HANDLES) (k % HANDLES), counts)

-- while a call has a number set aside, there is room
room_beside : (m : State) (c : ℕ) (call : InFlight) (number : Option ℕ) → Numbered m → slice_get m.calls c ≡ Some (Some call) → call.file < FILES → call.reserved ≡ number → is_some number ≡ true → IsHandle number → length m.objects < MOST_OBJECTS
room_beside m c call None numbered stands on is some below = absurd cc
room_beside m c call (Some n) numbered stands on is some below =
    let f = call.file in
    let reserved : reserves f n (Some call) ≡ true = and_from (f == f) (is_the_number n call.reserved) (eq-eqb f f refl) (ap (is_the_number n) is ∙ eq-eqb n n refl) in
    let own = sum_by-item (λ s. one (reserves f n s)) m.calls c (Some call) stands in
    let value : one (reserves f n (Some call)) ≡ 1 = ap one reserved in
    let counts = key_count m.objects f n (f * HANDLES + n) below refl numbered.places in
    let none : count_by (has_key place_key (f * HANDLES + n)) m.objects ≡ 0 = omega (arith, numbered.once f n, own, value, counts) in
    length_below place_key MOST_OBJECTS (f * HANDLES + n) m.objects (each_weaken HasPlace _ key_within m.objects numbered.places) (key_once m.objects m.calls numbered) (omega arith) none

-- Turns go on.

lt_true : (a b : ℕ) → a < b → nat_lt a b ≡ true
lt_true a b h = grind (arith, nat_tests)

-- the number of a call that is about to make its object
made_number : (v : Option ℕ) → count_of v ≡ 1 → is_some v ≡ true
made_number None e = absurd cc
made_number (Some k) e = refl

pub has_number : (m : State) (c : ℕ) (call : InFlight) → Reached m → call_of m c ≡ Some call → InPlan call Make → is_some call.reserved ≡ true
has_number m c call r is plan =
    let s = stands_in_plan call Make plan in
    let has = (create_has call s.kind (r.phased c call is) plan.fine s.creates).looking (omega (arith, s.at)) (omega (arith, s.at)) in
    made_number call.reserved has.numbers_are

pub room_is : (x : Object) (objects : List Object) → length objects < MOST_OBJECTS → with_room_for x objects ≡ objects ++ x ∷ []
room_is x objects less =
    let yes : nat_lt (length objects) MOST_OBJECTS ≡ true = lt_true (length objects) MOST_OBJECTS less in
    ap (λ b. if b then objects ++ x ∷ [] else objects) yes

make_numbered : (m : State) (c : ℕ) (call : InFlight) (kind : Kind) (index : ℕ) → Numbered m → slice_get m.calls c ≡ Some (Some call) → CallFits call → is_some call.reserved ≡ true → IsNumbered (with_room_for (object_made m call kind index) m.objects) (at_place m.calls c (option_map (with_made m.made (made_outcome (object_made m call kind index)))))
make_numbered m c call kind index numbered stands fits ready =
    let x = object_made m call kind index in
    let g = with_made m.made (made_outcome x) in
    let new : CallFits (g call) = record { on = fits.on; number = tt } in
    let less = room_beside m c call call.reserved numbered stands fits.on refl ready fits.number in
    let P : List Object → Type 0 = λ v. IsNumbered v (at_place m.calls c (option_map g)) in
    subst P (sym (room_is x m.objects less)) (record {
      once = λ f n.
          let none = one_none ((call.file == f) && false) (and_right (call.file == f) false refl) in
          let moved = ap (λ v. one ((call.file == f) && v)) (made_handle call.reserved n ready) in
          omega (arith, numbered.once f n, calls_count (reserves f n) m.calls c (option_map g) call stands, none, moved, sum_by_push (λ y. one (has_handle f n y)) m.objects x);
      places = each-push HasPlace m.objects x numbered.places (fits.on, made_place call.reserved ready fits.number);
      slots = each-at_place SlotFits (option_map g) m.calls c (slot_is m.calls c (option_map g) call stands new) numbered.slots;
    })

numbered_as : (m' n : State) → m' ≡ n → Numbered n → Numbered m'
numbered_as m' n e h = let P : State → Type 0 = λ s. Numbered s in subst P (sym e) h

unnumbered : (call : InFlight) (f n : ℕ) → reserves f n (Some (without_number call)) ≡ true → reserves f n (Some call) ≡ true
unnumbered call f n is = let parts = and_parts (call.file == f) false is in absurd cc

ended : (call : InFlight) (f n : ℕ) → reserves f n (no_call (Some call)) ≡ true → reserves f n (Some call) ≡ true
ended call f n is = absurd cc

-- a turn that keeps the call's file and number
same_numbered : (objects : List Object) (calls : List (Option InFlight)) (c : ℕ) (g : InFlight → InFlight) (call : InFlight) → IsNumbered objects calls → slice_get calls c ≡ Some (Some call) → CallFits call → (g call).file ≡ call.file → (g call).reserved ≡ call.reserved → IsNumbered objects (at_place calls c (option_map g))
same_numbered objects calls c g call numbered stands fits file reserved =
    numbered_call objects calls c (option_map g) call numbered stands
    (λ f n is. (let same : reserves f n (Some (g call)) ≡ reserves f n (Some call) = ap (λ v. (v == f) && is_the_number n (g call).reserved) file ∙ ap (λ v. (call.file == f) && is_the_number n v) reserved in sym same ∙ is))
    (record { on = rw file fits.on; number = rw reserved fits.number })

act_numbered : (m : State) (c : ℕ) (call : InFlight) (a : Answer) (what : request.Act) → Numbered m → slice_get m.calls c ≡ Some (Some call) → CallFits call → Numbered (act m c call a what)
act_numbered m c call a (Modify to attrs) numbered stands fits = same_numbered m.objects m.calls c (with_outcome a) call numbered stands fits refl refl
act_numbered m c call a Query numbered stands fits = same_numbered m.objects m.calls c (with_outcome a) call numbered stands fits refl refl
act_numbered m c call a (Bind offset long access) numbered stands fits =
    let change = ToBound (Some (binding_of call offset long access)) in
    same_numbered (map (on_object (acted_on call) change) m.objects) m.calls c (with_outcome a) call (numbered_change (acted_on call) change m.objects m.calls numbered) stands fits refl refl
act_numbered m c call a (Unbind offset long access) numbered stands fits =
    same_numbered (map (on_object (acted_on call) (ToBound None)) m.objects) m.calls c (with_outcome a) call (numbered_change (acted_on call) (ToBound None) m.objects m.calls numbered) stands fits refl refl
act_numbered m c call a Async numbered stands fits = same_numbered m.objects m.calls c (with_outcome a) call numbered stands fits refl refl

finish_numbered : (m : State) (c o : ℕ) (call : InFlight) → Numbered m → slice_get m.calls c ≡ Some (Some call) → CallFits call → Numbered (finish m c o)
finish_numbered m c o call numbered stands fits =
    let P : List Object → Type 0 = λ v. IsNumbered v (finish m c o).calls in
    let Q : List (Option InFlight) → Type 0 = λ v. IsNumbered (filter (not_with_id o) m.objects) (at_place v c (option_map without_lock)) in
    subst P (sym (finish_objects m c o))
    (subst Q (sym (calls_buried m (object_with m o)))
    (same_numbered (filter (not_with_id o) m.objects) m.calls c without_lock call (numbered_filter (not_with_id o) m.objects m.calls numbered) stands fits refl refl))

numbered_by : (m : State) (c : ℕ) (call : InFlight) (a : Answer) (m' : State) → Reached m → call_of m c ≡ Some call → Numbered m → slice_get m.calls c ≡ Some (Some call) → CallFits call → Turn m c call a m' → Numbered m'
numbered_by m c call a m' r is numbered stands fits (Refuses t) = numbered_as m' _ t.gives (same_numbered m.objects m.calls c (with_refusal t.errno) call numbered stands fits refl refl)
numbered_by m c call a m' r is numbered stands fits (Reserves t) = numbered_as m' _ t.gives (reserve_numbered m c call t.number numbered stands fits t.free)
numbered_by m c call a m' r is numbered stands fits (Looks t) = numbered_as m' _ t.gives (same_numbered m.objects m.calls c (with_look _) call numbered stands fits refl refl)
numbered_by m c call a m' r is numbered stands fits (Makes t) = numbered_as m' _ t.gives (make_numbered m c call t.kind t.index numbered stands fits (has_number m c call r is t.plan))
numbered_by m c call a m' r is numbered stands fits (Commits t) =
    numbered_as m' _ t.gives (same_numbered (map (on_object (own_object call) ToLive) m.objects) m.calls c without_lock call (numbered_change (own_object call) ToLive m.objects m.calls numbered) stands fits refl refl)
numbered_by m c call a m' r is numbered stands fits (Does t) = numbered_as m' _ t.gives (act_numbered m c call a t.what numbered stands fits)
numbered_by m c call a m' r is numbered stands fits (Locks t) = numbered_as m' _ t.gives (same_numbered m.objects m.calls c (with_lock t.item.id) call numbered stands fits refl refl)
numbered_by m c call a m' r is numbered stands fits (Checks t) =
    numbered_as m' _ t.gives (same_numbered (map (on_object (own_object call) ToDoomed) m.objects) m.calls c moved_on call (numbered_change (own_object call) ToDoomed m.objects m.calls numbered) stands fits refl refl)
numbered_by m c call a m' r is numbered stands fits (Finishes t) = numbered_as m' _ t.gives (finish_numbered m c (own_object call) call numbered stands fits)
numbered_by m c call a m' r is numbered stands fits (Aborts t) =
    numbered_as m' _ t.gives (numbered_call m.objects m.calls c (option_map without_number) call numbered stands (unnumbered call) (record { on = fits.on; number = tt }))
numbered_by m c call a m' r is numbered stands fits (Frees t) = numbered_as m' _ t.gives (same_numbered m.objects m.calls c without_look call numbered stands fits refl refl)
numbered_by m c call a m' r is numbered stands fits (Leaves t) = numbered_as m' _ t.gives (numbered_call m.objects m.calls c no_call call numbered stands (ended call) tt)

turn_numbered : (m : State) (c : ℕ) (call : InFlight) (a : Answer) (m' : State) → Reached m → call_of m c ≡ Some call → Numbered m → Turn m c call a m' → Numbered m'
turn_numbered m c call a m' r is numbered t =
    let stands = call_stands m c call is in
    numbered_by m c call a m' r is numbered stands (each_at SlotFits m.calls c (Some call) stands numbered.slots) t

-- The other entries.

entered_fits : (f : ℕ) (request : Request) → f < FILES → CallFits (entered f request)
entered_fits f request within = record { on = within; number = tt }

-- a call that sets nothing aside stands where none stood before
numbered_put : (objects : List Object) (calls : List (Option InFlight)) (c f : ℕ) (request : Request) → IsNumbered objects calls → f < FILES → IsNumbered objects (at_place calls c (put_call (entered f request)))
numbered_put objects calls c f request numbered within =
    let call = entered f request in
    record {
      once = λ g n.
          let none : (slot : Option (Option InFlight)) → worth (λ s. one (reserves g n s)) (option_map (put_call call) slot) ≤ 0 = λ slot. elim slot as (λ v. worth (λ s. one (reserves g n s)) (option_map (put_call call) v) ≤ 0) [ None ↦ omega arith | Some inner ↦ (let zero_is = one_none ((f == g) && false) (and_right (f == g) false refl) in omega (arith, zero_is)) ] in
          omega (arith, numbered.once g n, sum_by-at_place_worth (λ s. one (reserves g n s)) (put_call call) calls c, none (slice_get calls c));
      places = numbered.places;
      slots = each-at_place SlotFits (put_call call) calls c (λ x is. entered_fits f request within) numbered.slots;
    }

unless_answered_numbered : (m n : State) (r : Option Errno) → Numbered m → Numbered n → Numbered (unless_answered m r n)
unless_answered_numbered m n None before later = later
unless_answered_numbered m n (Some e) before later = before

gone_numbered : (m : State) (o : ℕ) (slot : Option Object) → Numbered m → Numbered (gone_from m o slot)
gone_numbered m o None numbered = numbered
gone_numbered m o (Some x) numbered = numbered_change o ToHusk m.objects m.calls numbered

-- each allowed entry keeps numbers apart
pub numbered_after : (m : State) (e : Entry) → Reached m → Allowed m e → Numbered m → Numbered (after m e)
numbered_after m (Open c f d a) r allowed numbered = unless_answered_numbered m _ (refusal_in a) numbered numbered
numbered_after m (Enter c f request a) r allowed numbered = unless_answered_numbered m _ (refusal_in a) numbered (numbered_put m.objects m.calls c f request numbered allowed.1)
numbered_after m (Step c w o found a) r allowed numbered =
    let t = IsTurn-allowed m c w o found a allowed in
    turn_numbered m c t.call a (after m (Step c w o found a)) r t.is numbered t.turn
numbered_after m (Unplug d) r allowed numbered = numbered
numbered_after m (Tear f by) r allowed numbered = numbered
numbered_after m (Kill o) r allowed numbered = numbered_change o ToDoomed m.objects m.calls numbered
numbered_after m (Gone o kept) r allowed numbered = gone_numbered m o (object_with m o) numbered
numbered_after m (Dissociated f) r allowed numbered = numbered
numbered_after m (Closed f) r allowed numbered = numbered_filter (not_in_file f) m.objects m.calls numbered

pub numbered_empty : (places : ℕ) → IsNumbered [] (replicate places None)
numbered_empty places = record {
  once = λ f n. omega (arith, count_by-replicate-none (reserves f n) places None refl);
  places = tt;
  slots = each-replicate SlotFits places None tt;
}

pub numbered_start : Numbered start
unfolding start
numbered_start = numbered_empty ACTOR_PLACES

numbered_from : (m : State) (h : List Entry) → IsLegalFrom m h → Reached m → Numbered m → Numbered (state_from m h)
numbered_from m [] legal r numbered = numbered
numbered_from m (e ∷ es) legal r numbered = numbered_from (after m e) es legal.1 (Reached-after m e legal.0 r) (numbered_after m e r legal.0 numbered)

-- in a state that a legal history leads to, numbers stand apart
pub legal_numbered : (h : List Entry) → IsLegal h → Numbered (state_of h)
legal_numbered h legal = numbered_from start h legal Reached-start numbered_start

-- a call that is about to make its object finds room
pub room_at : (m : State) (c : ℕ) (call : InFlight) → Reached m → Numbered m → call_of m c ≡ Some call → InPlan call Make → length m.objects < MOST_OBJECTS
room_at m c call r numbered is plan =
    let stands = call_stands m c call is in
    let fits = each_at SlotFits m.calls c (Some call) stands numbered.slots in
    room_beside m c call call.reserved numbered stands fits.on refl (has_number m c call r is plan) fits.number

-- a step that makes an object is a Make
turn_room : (m : State) (c : ℕ) (w : Word) (o : ℕ) (found : Option QpState) (a : Answer) (m' : State) → Reached m → Numbered m → IsTurn m c w o found a m' → w ≡ Make → length m.objects < MOST_OBJECTS
turn_room m c w o found a m' r numbered t make = room_at m c t.call r numbered t.is (in_plan t.call Make (t.word ∙ make) refl)

has_room : (m : State) (e : Entry) → Reached m → Numbered m → Allowed m e → HasRoom m e
has_room m (Open c f d a) r numbered allowed makes = absurd cc
has_room m (Enter c f request a) r numbered allowed makes = absurd cc
has_room m (Step c Reserve o found a) r numbered allowed makes = absurd cc
has_room m (Step c Look o found a) r numbered allowed makes = absurd cc
has_room m (Step c Make o found a) r numbered allowed makes = turn_room m c Make o found a (after m (Step c Make o found a)) r numbered (IsTurn-allowed m c Make o found a allowed) refl
has_room m (Step c Commit o found a) r numbered allowed makes = absurd cc
has_room m (Step c Act o found a) r numbered allowed makes = absurd cc
has_room m (Step c Lock o found a) r numbered allowed makes = absurd cc
has_room m (Step c Check o found a) r numbered allowed makes = absurd cc
has_room m (Step c Finish o found a) r numbered allowed makes = absurd cc
has_room m (Step c Abort o found a) r numbered allowed makes = absurd cc
has_room m (Step c Free o found a) r numbered allowed makes = absurd cc
has_room m (Step c Exit o found a) r numbered allowed makes = absurd cc
has_room m (Unplug d) r numbered allowed makes = absurd cc
has_room m (Tear f by) r numbered allowed makes = absurd cc
has_room m (Kill o) r numbered allowed makes = absurd cc
has_room m (Gone o kept) r numbered allowed makes = absurd cc
has_room m (Dissociated f) r numbered allowed makes = absurd cc
has_room m (Closed f) r numbered allowed makes = absurd cc

pub makes_with_room : MakeHasRoom
makes_with_room h e legal allowed = has_room (state_of h) e (Reached-state_of h legal) (legal_numbered h legal) allowed

-- What there is at most.

below_at : (top : ℕ) (objects : List Object) (x : Object) → IsIn x objects → AllByRecursion (λ y. place_key y < top) objects → place_key x < top
below_at top [] x k all = absurd k
below_at top (y ∷ objects) x (inl e) all = let P : Object → Type 0 = λ v. place_key v < top in subst P (sym e) all.0
below_at top (y ∷ objects) x (inr k) all = below_at top objects x k all.1

-- no object has the key after the last
keyless : (top : ℕ) (objects : List Object) → AllByRecursion (λ x. place_key x < top) objects → count_by (has_key place_key top) objects ≡ 0
keyless top objects below = count_by-none (has_key place_key top) objects (list_any-none (has_key place_key top) objects (λ x k. ne_eqb (place_key x) top (λ e. (let low = below_at top objects x k below in omega arith))))

few_objects : (objects : List Object) (calls : List (Option InFlight)) → IsNumbered objects calls → length objects ≤ MOST_OBJECTS
few_objects objects calls numbered =
    let n = MOST_OBJECTS + 1 in
    let below = each_weaken HasPlace (λ x. place_key x < n) (λ x has. omega (arith, key_within x has)) objects numbered.places in
    let none : count_by (has_key place_key MOST_OBJECTS) objects ≡ 0 = keyless MOST_OBJECTS objects (each_weaken HasPlace _ key_within objects numbered.places) in
    omega (arith, length_below place_key n MOST_OBJECTS objects below (key_once objects calls numbered) (omega arith) none)

place_at : (objects : List Object) (x : Object) → IsIn x objects → AllByRecursion HasPlace objects → HasPlace x
place_at [] x k all = absurd k
place_at (y ∷ objects) x (inl e) all = let P : Object → Type 0 = λ v. HasPlace v in subst P (sym e) all.0
place_at (y ∷ objects) x (inr k) all = place_at objects x k all.1

handle_is : (number : Option ℕ) (n : ℕ) → number ≡ Some n → IsHandle number → n < HANDLES
handle_is None n e below = absurd (none-some n e)
handle_is (Some k) n e below = let P : ℕ → Type 0 = λ v. v < HANDLES in subst P (same_Some k n e) below

pub legal_bounded : LegalIsBounded
legal_bounded h legal =
    let m = state_of h in
    let r = Reached-state_of h legal in
    let numbered = legal_numbered h legal in
    record {
      objects = few_objects m.objects m.calls numbered;
      handles = λ x k. place_at m.objects x k numbered.places;
      numbers = λ b n k is number. (
          let fits = each_at SlotFits m.calls b (Some k) (call_stands m b k is) numbered.slots in
          (fits.on, handle_is k.reserved n number fits.number));
      looks = λ b k is. omega (arith, (r.phased b k is).looks, looks_few k.request);
      once = numbered.once;
    }
