-- What a removal left can be destroyed.
use Rattle.std.proofs.Common.{◌≡◌, ℕ, zero, suc, ◌+◌, ◌<◌, ◌≤◌, Bool, true, false, List, [], ◌∷◌, Option, Some, None, length, refl, ap, sym, ◌∙◌, subst, arith, inl, inr}
use Rattle.std.specs.Prelude.{◌&&◌, ◌||◌, ◌==◌, not, slice_get, option_map, find, cond, count_by, if◌then◌else◌}
use Rattle.std.specs.List.{list_any, enumerate_from}
use Rattle.std.specs.Cmp.Derive.{both_true}
use Rattle.std.proofs.lemmas.Bool.{and_parts, eq-eqb}
use Rattle.uv_num.specs.declared.errno.Errno.{Errno}
use Rattle.uv_num.specs.declared.errno.Errno.TheVariants.{Io, BadF, Busy, Inval}
use Rattle.uv_num.specs.declared.limits.TheConstants.{NONE}
use Rattle.uv_num.specs.declared.request.Ask.{Ask}
use Rattle.uv_num.specs.declared.request.Request.{Request}
use Rattle.uv_num.specs.Looks.{looks_of}
use Rattle.uv_num.specs.Place.{at_place}
use Rattle.uv_num.specs.Request.{role_of}
use Rattle.uv_num.proofs.PlaceLaws.{slice_get-at_place_same}
use Rattle.uv_machine.specs.declared.entry.Answer.{Answer}
use Rattle.uv_machine.specs.declared.entry.Answer.TheVariants as answer
use Rattle.uv_machine.specs.declared.entry.Entry.{Entry}
use Rattle.uv_machine.specs.declared.entry.Entry.TheVariants.{Enter, Step}
use Rattle.uv_machine.specs.declared.entry.Word.{Word}
use Rattle.uv_machine.specs.declared.entry.Word.TheVariants as word
use Rattle.uv_machine.specs.declared.object.Object.{Object}
use Rattle.uv_machine.specs.declared.object.Phase.{Phase}
use Rattle.uv_machine.specs.declared.object.Phase.TheVariants as phase
use Rattle.uv_machine.specs.declared.call.InFlight.{InFlight}
use Rattle.uv_machine.specs.declared.state.State.{State}
use Rattle.uv_machine.specs.Objects.{is_kind, is_made, is_live, is_husk, has_handle, is_published_at, uses_object}
use Rattle.uv_machine.specs.Plans.{plan_of, plan_for, next_word, holds, entered, with_lock, moved_on, without_lock}
use Rattle.uv_machine.specs.States.{the_call, call_of, object_with, published, phase_of, device_of, is_unplugged, is_callable, has_users, has_others, holds_beside}
use Rattle.uv_machine.specs.Steps.{told, lock_told, lock_found, check_told, kept_of, done_as, step_of, next_from}
use Rattle.uv_machine.specs.Effects.{put_call, lock, check, finish, after_step}
use Rattle.uv_machine.specs.Outside.{needs_device, enter_refusal, MayAnswer}
use Rattle.uv_machine.specs.Histories.{IsActor, Allowed, after, state_of, IsLegal, IsLegalFrom, kept_in}
use Rattle.uv_machine.specs.Reached.{IsIn, IsBounded}
use Rattle.uv_machine.specs.Events.{destroy_of, IsDestroyOf, HusksCanGo}
use Rattle.uv_machine.proofs.Members.{one_if, count_by-cons, list_any-none}
use Rattle.uv_machine.proofs.Planned.{next_word-planned, next_word-closing}
use Rattle.uv_machine.proofs.Apart.{calls_buried}
use Rattle.uv_machine.proofs.Calling.{any-at_place, false_unless}
use Rattle.uv_machine.proofs.OwnCall.{call_of-changed}
use Rattle.uv_machine.proofs.Keeping.{same_object}
use Rattle.uv_machine.proofs.Numbers.{legal_bounded}
use Rattle.uv_machine.proofs.Reaching.{Reached-state_of}
use Rattle.uv_machine.proofs.Standing.{legal_uses_stand}

-- The one object of a number.

counted_once : (q : Object → Bool) (xs : List Object) (x : Object) → IsIn x xs → q x ≡ true → 1 ≤ count_by q xs
counted_once q [] x k e = absurd k
counted_once q (y ∷ xs) x (inl h) e =
    let cons = count_by-cons q y xs in
    let one : one_if (q y) ≡ 1 = ap (λ v. one_if (q v)) (sym h) ∙ ap one_if e in
    omega (arith, cons, one)
counted_once q (y ∷ xs) x (inr k) e =
    let cons = count_by-cons q y xs in
    let more = counted_once q xs x k e in
    omega (arith, cons, more)

find_one : (p q : Object → Bool) → ((y : Object) → p y ≡ true → q y ≡ true) → (xs : List Object) (x : Object) → IsIn x xs → p x ≡ true → count_by q xs ≤ 1 → find p xs ≡ Some x
find_one p q imply [] x k e one = absurd k
find_one p q imply (y ∷ xs) x k e one =
    by_first (p y) refl k (λ h. (let cons = count_by-cons q y xs in find_one p q imply xs x h e (omega (arith, cons, one))))
  where
    by_first : (b : Bool) → p y ≡ b → IsIn x (y ∷ xs) → (IsIn x xs → find p xs ≡ Some x) → cond b (Some y) (find p xs) ≡ Some x
    by_first true here (inl same) rest = ap (λ (v : Object). Some v) (sym same)
    by_first true here (inr h) rest =
        let cons = count_by-cons q y xs in
        let first : one_if (q y) ≡ 1 = ap one_if (imply y here) in
        let more = counted_once q xs x h (imply x e) in
        absurd (omega (arith, cons, first, more, one))
    by_first false here (inl same) rest = absurd (let never : p x ≡ false = ap p same ∙ here in cc)
    by_first false here (inr h) rest = rest h

husk_seen : (p : Phase) → is_husk p ≡ true → not (is_made p) ≡ true
husk_seen phase.Made e = absurd cc
husk_seen phase.Live e = absurd cc
husk_seen phase.Doomed e = absurd cc
husk_seen phase.Husk e = refl

live_husk : (p : Phase) → is_live p ≡ true → is_husk p ≡ true → ⊥
live_husk phase.Made e h = cc
live_husk phase.Live e h = cc
live_husk phase.Doomed e h = cc
live_husk phase.Husk e h = cc

-- What holds an object beside an actor holds it.

and_none : (b : Bool) → (b && false) ≡ false
and_none true = refl
and_none false = refl

beside_holds : (c o n : ℕ) (calls : List (Option InFlight)) → list_any (holds o) calls ≡ false → list_any (holds_beside c o) (enumerate_from n calls) ≡ false
beside_holds c o n [] none = refl
beside_holds c o n (s ∷ calls) none = by_head (holds o s) refl none (λ rest. beside_holds c o (n + 1) calls rest)
  where
    by_head : (b : Bool) → holds o s ≡ b → (b || list_any (holds o) calls) ≡ false → (list_any (holds o) calls ≡ false → list_any (holds_beside c o) (enumerate_from (n + 1) calls) ≡ false) → ((not (n == c) && holds o s) || list_any (holds_beside c o) (enumerate_from (n + 1) calls)) ≡ false
    by_head true e h more = absurd cc
    by_head false e h more = ap (λ v. (not (n == c) && v) || list_any (holds_beside c o) (enumerate_from (n + 1) calls)) e ∙ ap (λ v. v || list_any (holds_beside c o) (enumerate_from (n + 1) calls)) (and_none (not (n == c))) ∙ more h

-- A step whose call and words are known.

step_is : (m : State) (c : ℕ) (k : InFlight) (w : Word) (o kept : ℕ) (a : Answer) → IsActor c → call_of m c ≡ Some k → next_word k ≡ w → told m c k None w ≡ record { object = o; refusal = None } → kept_in a ≡ kept → done_as m k None kept w (record { object = o; refusal = None }) ≡ record { word = w; object = o; found = None; answer = a } → Allowed m (Step c w o None a)
step_is m c k w o kept a actor is next says keeps done = (
  actor,
  ap (next_from m c None (kept_in a)) is
      ∙ ap (λ v. Some (step_of m c None v k)) keeps
      ∙ ap (λ v. Some (done_as m k None kept v (told m c k None v))) next
      ∙ ap (λ v. Some (done_as m k None kept w v)) says
      ∙ ap (λ v. Some v) done,
)

module _ (h : List Entry) (c : ℕ) (x : Object) (request : Request) (legal : IsLegal h) (actor : IsActor c) (idle : call_of (state_of h) c ≡ None) (there : IsIn x (state_of h).objects) (husk : is_husk x.phase ≡ true) (callable : is_callable (phase_of (state_of h) x.file) ≡ true) (free : list_any (holds x.id) (state_of h).calls ≡ false) (destroys : IsDestroyOf request x) where
  abbrev m0 : State
  m0 = state_of h

  abbrev asked_x : Ask
  asked_x = record { kind = x.kind; handle = x.handle }

  plan_is : plan_for request ≡ word.Lock ∷ word.Check ∷ word.Finish ∷ []
  plan_is = ap (λ r. plan_of r (length (looks_of request))) destroys

  bounded : IsBounded m0
  bounded = legal_bounded h legal

  -- Enter

  enter_fine : (blocked needs : Bool) → needs ≡ false → (if blocked && needs then Some Io else None) ≡ None
  enter_fine true true e = absurd cc
  enter_fine true false e = refl
  enter_fine false needs e = refl

  enter_may : MayAnswer (enter_refusal m0 x.file request) answer.Ok
  enter_may =
      let needs : needs_device (role_of request) ≡ false = ap needs_device destroys in
      let none : enter_refusal m0 x.file request ≡ None =
      ap (λ b. if not b then Some BadF else (if is_unplugged m0 (device_of m0 x.file) && needs_device (role_of request) then Some Io else None)) callable
      ∙ enter_fine (is_unplugged m0 (device_of m0 x.file)) (needs_device (role_of request)) needs in
      let P : Option Errno → Type 0 = λ e. MayAnswer e answer.Ok in
      subst P (sym none) (inl refl)

  enter_allowed : Allowed m0 (Enter c x.file request answer.Ok)
  enter_allowed = (actor, (bounded.handles x there).0, idle, enter_may)

  abbrev m1 : State
  m1 = after m0 (Enter c x.file request answer.Ok)

  abbrev k1 : InFlight
  k1 = entered x.file request

  call_1 : call_of m1 c ≡ Some k1
  call_1 =
      let places = (Reached-state_of h legal).calls in
      ap the_call (slice_get-at_place_same m0.calls c (put_call k1)) ∙ ap (λ s. the_call (option_map (put_call k1) s)) (in_table m0.calls c (let low = actor.1 in omega (arith, places, low))).1
    where
      in_table : (xs : List (Option InFlight)) (i : ℕ) → i < length xs → (s : Option InFlight) × (slice_get xs i ≡ Some s)
      in_table [] i low = absurd (omega (arith, low))
      in_table (y ∷ xs) zero low = (y, refl)
      in_table (y ∷ xs) (suc i) low = in_table xs i (omega (arith, low))

  -- Lock

  seen : published m1 x.file x.handle ≡ Some x
  seen =
      find_one (is_published_at x.file x.handle) (has_handle x.file x.handle) (λ y e. (and_parts (has_handle x.file x.handle y) (not (is_made y.phase)) e).0) m0.objects x there
      (both_true (both_true (eq-eqb x.file x.file refl) (eq-eqb x.handle x.handle refl)) (husk_seen x.phase husk))
      (let once = bounded.once x.file x.handle in omega (arith, once))

  free_1 : has_others m1 c x.id ≡ false
  free_1 =
      beside_holds c x.id 0 m1.calls
      (false_unless (list_any (holds x.id) m1.calls)
      (λ yes. (let old = any-at_place (holds x.id) (put_call k1) m0.calls c (λ s at held. absurd cc) yes in cc)))

  lock_says : told m1 c k1 None word.Lock ≡ record { object = x.id; refusal = None }
  lock_says =
      ap (lock_told m1 c x.file) destroys
      ∙ ap (lock_found m1 c asked_x) seen
      ∙ ap (λ b. record { object = x.id; refusal = if not b then Some Inval else (if has_others m1 c x.id then Some Busy else None) }) (eq-eqb_place)
      ∙ ap (λ b. record { object = x.id; refusal = if b then Some Busy else None }) free_1
    where
      eq-eqb_place : is_kind x.kind x.kind ≡ true
      eq-eqb_place = eq-eqb _ _ refl

  lock_next : next_word k1 ≡ word.Lock
  lock_next = next_word-planned k1 word.Lock refl (ap (λ v. slice_get v 0) plan_is)

  lock_allowed : Allowed m1 (Step c word.Lock x.id None answer.Ok)
  lock_allowed = step_is m1 c k1 word.Lock x.id 0 answer.Ok actor call_1 lock_next lock_says refl refl

  abbrev m2 : State
  m2 = after m1 (Step c word.Lock x.id None answer.Ok)

  abbrev k2 : InFlight
  k2 = with_lock x.id k1

  m2_is : m2 ≡ lock m1 c x.id
  m2_is = ap (λ s. after_step m1 c s word.Lock x.id answer.Ok) call_1

  call_2 : call_of m2 c ≡ Some k2
  call_2 = call_of-changed m1 m2 c (option_map (with_lock x.id)) k1 (ap (λ (s : State). s.calls) m2_is) call_1

  -- Check

  unused : has_users m0 x.id ≡ false
  unused =
      list_any-none (uses_object x.id) m0.objects
      (λ y k. false_unless (uses_object x.id y)
      (λ used. (
      let s = legal_uses_stand h legal y x.id k used in
      let one = same_object m0 (Reached-state_of h legal) s.item x s.within there s.id in
      live_husk x.phase (ap (λ (v : Object). is_live v.phase) (sym one) ∙ s.live) husk)))

  check_says : told m2 c k2 None word.Check ≡ record { object = x.id; refusal = None }
  check_says =
      ap (λ (s : State). check_told s x.id) m2_is ∙ ap (λ b. record { object = x.id; refusal = if b then Some Busy else None }) unused

  check_next : next_word k2 ≡ word.Check
  check_next = next_word-planned k2 word.Check refl (ap (λ v. slice_get v 1) plan_is)

  check_allowed : Allowed m2 (Step c word.Check x.id None answer.Ok)
  check_allowed = step_is m2 c k2 word.Check x.id 0 answer.Ok actor call_2 check_next check_says refl refl

  abbrev m3 : State
  m3 = after m2 (Step c word.Check x.id None answer.Ok)

  abbrev k3 : InFlight
  k3 = moved_on k2

  m3_is : m3 ≡ check m2 c x.id
  m3_is = ap (λ s. after_step m2 c s word.Check x.id answer.Ok) call_2

  call_3 : call_of m3 c ≡ Some k3
  call_3 = call_of-changed m2 m3 c (option_map moved_on) k2 (ap (λ (s : State). s.calls) m3_is) call_2

  -- Finish

  kept_by : (b : Bool) (kept : ℕ) → kept ≡ 0 → (if b then 0 else kept) ≡ 0
  kept_by true kept e = refl
  kept_by false kept e = e

  kept_none : (slot : Option Object) → kept_of slot 0 ≡ 0
  kept_none None = refl
  kept_none (Some y) = kept_by (is_husk y.phase) 0 refl

  finish_next : next_word k3 ≡ word.Finish
  finish_next = next_word-planned k3 word.Finish refl (ap (λ v. slice_get v 2) plan_is)

  finish_allowed : Allowed m3 (Step c word.Finish x.id None (answer.Kept 0))
  finish_allowed =
      step_is m3 c k3 word.Finish x.id 0 (answer.Kept 0) actor call_3 finish_next refl refl
      (ap (λ v. record { word = word.Finish; object = x.id; found = None; answer = answer.Kept v }) (kept_none (object_with m3 x.id)))

  abbrev m4 : State
  m4 = after m3 (Step c word.Finish x.id None (answer.Kept 0))

  abbrev k4 : InFlight
  k4 = without_lock k3

  m4_is : m4 ≡ finish m3 c x.id
  m4_is = ap (λ s. after_step m3 c s word.Finish x.id (answer.Kept 0)) call_3

  call_4 : call_of m4 c ≡ Some k4
  call_4 =
      call_of-changed m3 m4 c (option_map without_lock) k3
      (ap (λ (s : State). s.calls) m4_is ∙ ap (λ calls. at_place calls c (option_map without_lock)) (calls_buried m3 (object_with m3 x.id))) call_3

  -- Exit

  exit_next : next_word k4 ≡ word.Exit
  exit_next = next_word-closing k4 (λ fine. ap (λ v. slice_get v 3) plan_is)

  exit_allowed : Allowed m4 (Step c word.Exit NONE None answer.Ok)
  exit_allowed = step_is m4 c k4 word.Exit NONE 0 answer.Ok actor call_4 exit_next refl refl refl

  husk_goes : IsLegalFrom (state_of h) (destroy_of c x request)
  husk_goes = (enter_allowed, (lock_allowed, (check_allowed, (finish_allowed, (exit_allowed, tt)))))

pub husks_can_go : HusksCanGo
husks_can_go h c x request legal actor idle there husk callable free destroys = husk_goes h c x request legal actor idle there husk callable free destroys
