-- Lifetimes over whole histories.
use Rattle.std.proofs.Common.{◌≡◌, ◌≢◌, ℕ, ◌+◌, ◌<◌, ◌≤◌, Bool, true, false, List, [], ◌∷◌, Option, Some, None, map, refl, ap, sym, ◌∙◌, subst, arith, ⊎_elim}
use Rattle.std.specs.Prelude.{not, ◌||◌, ◌&&◌, ◌==◌, nat_lt, filter, find, is_none}
use Rattle.std.proofs.lemmas.Option.{none-some}
use Rattle.std.proofs.lemmas.Bool.{and_parts, eqb-true}
use Rattle.std.proofs.lemmas.Bool.Decides.{nat_tests}
use Rattle.uv_num.specs.declared.errno.Errno.{Errno}
use Rattle.uv_num.specs.declared.qp.QpState.{QpState}
use Rattle.uv_num.specs.declared.request.Request.{Request}
use Rattle.uv_num.specs.Place.{at_place}
use Rattle.uv_machine.specs.declared.entry.Entry.{Entry}
use Rattle.uv_machine.specs.declared.entry.Entry.TheVariants.{Open, Enter, Step, Unplug, Tear, Kill, Gone, Dissociated, Closed}
use Rattle.uv_machine.specs.declared.entry.Word.{Word}
use Rattle.uv_machine.specs.declared.entry.Word.TheVariants.{Reserve, Look, Make, Commit, Act, Lock, Check, Finish, Abort, Free, Exit}
use Rattle.uv_machine.specs.declared.entry.Answer.{Answer}
use Rattle.uv_machine.specs.declared.object.Object.{Object}
use Rattle.uv_machine.specs.declared.object.Change.{Change}
use Rattle.uv_machine.specs.declared.object.Change.TheVariants.{ToDoomed, ToHusk}
use Rattle.uv_machine.specs.declared.call.InFlight.{InFlight}
use Rattle.uv_machine.specs.declared.state.State.{State}
use Rattle.uv_machine.specs.Objects.{has_id, on_object}
use Rattle.uv_machine.specs.Plans.{next_word, is_call_on, entered}
use Rattle.uv_machine.specs.States.{call_of, object_with, has_standing, is_quiet, is_removing, is_closing, is_callable, phase_of, start}
use Rattle.uv_machine.specs.Steps.{told}
use Rattle.uv_machine.specs.Effects.{refusal_in, put_call, not_in_file, gone_from, unless_answered}
use Rattle.uv_machine.specs.Histories.{Allowed, after, state_from, state_of, IsLegalFrom, IsLegal}
use Rattle.uv_machine.specs.Accounts.{is_make, one_if}
use Rattle.uv_machine.specs.Lives.{releases, releases_from, releases_in, makes_for, makes_from}
use Rattle.uv_machine.specs.Reached.{IsIn, Reached}
use Rattle.uv_machine.specs.Laws.{ReleasedAtMostOnce, UsersFirst, ReleasedOnce}
use Rattle.uv_machine.proofs.Members.{IsIn-map, Passes-find, Passes-filter}
use Rattle.uv_machine.proofs.Planned.{next_word-planned, next_word-closing}
use Rattle.uv_machine.proofs.Turns.{Turn, Made, IsTurn-allowed}
use Rattle.uv_machine.proofs.Turns.Turn.{Refuses, Reserves, Looks, Makes, Commits, Does, Locks, Checks, Finishes, Aborts, Frees, Leaves}
use Rattle.uv_machine.proofs.Changing.{on_object-id, on_object-file}
use Rattle.uv_machine.proofs.Keeping.{came_turn, made_turn, made_placed, made_below}
use Rattle.uv_machine.proofs.Reaching.{Reached-start, Reached-after, call_of-alike, new_or_old, was_callable}
use Rattle.uv_machine.proofs.Numbers.{Numbered, numbered_start, numbered_after}
use Rattle.uv_machine.proofs.Lives.{Finishing, Finishing-turn, GoesOn, goes_map}
use Rattle.uv_machine.proofs.Releases.{Unused, unused_after, released_unused}
use Rattle.uv_machine.proofs.Balanced.{Balanced, balanced_after, stands_slot, not_standing, not_so}

-- Destroys that finish, after the entries that no call makes.

finishing_goes : (m m' : State) → m'.calls ≡ m.calls → ((o : ℕ) → GoesOn m m'.objects o) → Finishing m → Finishing m'
finishing_goes m m' calls goes f b k is word y h locked =
    goes y.id (λ x h' same. f b k (sym (call_of-alike m m' calls b) ∙ is) word x h' (locked ∙ ap (λ (n : ℕ). Some n) (sym same))) y h refl

finishing_entered : (m : State) (c f : ℕ) (request : Request) → Reached m → call_of m c ≡ None → is_callable (phase_of m f) ≡ true → Finishing m → Finishing (record m { calls = at_place m.calls c (put_call (entered f request)) })
finishing_entered m c f request r idle callable fin b k is word y h locked =
    ⊎_elim
    (λ new. absurd (none-some y.id (ap (λ (v : InFlight). v.locked) new.1 ∙ locked)))
    (λ old. fin b k old.1 word y h locked)
    (new_or_old m c f request r idle callable b k is)

finishing_unless : (m m' : State) (e : Option Errno) → Finishing m → (e ≡ None → Finishing m') → Finishing (unless_answered m e m')
finishing_unless m m' None f f' = f' refl
finishing_unless m m' (Some e) f f' = f

finishing_gone : (m : State) (i : ℕ) (slot : Option Object) → Finishing m → Finishing (gone_from m i slot)
finishing_gone m i None f = f
finishing_gone m i (Some x) f = finishing_goes m (gone_from m i (Some x)) refl (λ o. goes_map m o i ToHusk) f

goes_filter : (m : State) (p : Object → Bool) (o : ℕ) → GoesOn m (filter p m.objects) o
goes_filter m p o before y k e = before y (Passes-filter p y m.objects k).within e

finishing_after : (m : State) (e : Entry) → Reached m → Allowed m e → Finishing m → Finishing (after m e)
finishing_after m (Open c f d a) r allowed fin = finishing_unless m _ (refusal_in a) fin (λ e. fin)
finishing_after m (Enter c f request a) r allowed fin =
    finishing_unless m _ (refusal_in a) fin (λ e. finishing_entered m c f request r allowed.2 (was_callable (is_callable (phase_of m f)) _ a allowed.3 e) fin)
finishing_after m (Step c w o found a) r allowed fin =
    let t = IsTurn-allowed m c w o found a allowed in
    Finishing-turn m r fin c t.call t.is a (after m (Step c w o found a)) t.turn
finishing_after m (Unplug d) r allowed fin = fin
finishing_after m (Tear f by) r allowed fin = fin
finishing_after m (Kill i) r allowed fin = finishing_goes m (after m (Kill i)) refl (λ o. goes_map m o i ToDoomed) fin
finishing_after m (Gone i kept) r allowed fin = finishing_gone m i (object_with m i) fin
finishing_after m (Dissociated f) r allowed fin = fin
finishing_after m (Closed f) r allowed fin = finishing_goes m (after m (Closed f)) refl (goes_filter m (not_in_file f)) fin

-- What is true of an object through a history.

pub record Lived (m : State) (o n : ℕ) : Type 0 where
  pub reached : Reached m
  pub numbered : Numbered m
  pub finishing : Finishing m
  pub unused : Unused m.objects
  pub balanced : Balanced m o n

none_below : (o : ℕ) → nat_lt o 0 ≡ false
none_below o = grind (arith, nat_tests)

lived_start : (o : ℕ) → Lived start o 0
unfolding start
lived_start o = record {
  reached = Reached-start;
  numbered = numbered_start;
  finishing = λ b k is word x h locked. absurd h;
  unused = λ x y k h doomed. absurd k;
  balanced = record { sum = sym (ap one_if (none_below o)) };
}

lived_after : (m : State) (e : Entry) (o n : ℕ) → Allowed m e → Lived m o n → Lived (after m e) o (n + one_if (releases m o e))
lived_after m e o n allowed l = record {
  reached = Reached-after m e allowed l.reached;
  numbered = numbered_after m e l.reached allowed l.numbered;
  finishing = finishing_after m e l.reached allowed l.finishing;
  unused = unused_after m e l.reached allowed l.unused;
  balanced = balanced_after m e o n l.reached l.numbered l.finishing allowed l.balanced;
}

lived_as : (m : State) (o n n' : ℕ) → n ≡ n' → Lived m o n → Lived m o n'
lived_as m o n n' e h = let P : ℕ → Type 0 = λ k. Lived m o k in subst P e h

lived_from : (m : State) (h : List Entry) (o n : ℕ) → IsLegalFrom m h → Lived m o n → Lived (state_from m h) o (n + releases_from m o h)
lived_from m [] o n legal l = lived_as m o n (n + 0) (omega arith) l
lived_from m (e ∷ h) o n legal l =
    lived_as (state_from (after m e) h) o ((n + one_if (releases m o e)) + releases_from (after m e) o h) (n + (one_if (releases m o e) + releases_from (after m e) o h)) (omega arith)
    (lived_from (after m e) h o (n + one_if (releases m o e)) legal.1 (lived_after m e o n legal.0 l))

pub lived_of : (h : List Entry) (o : ℕ) → IsLegal h → Lived (state_of h) o (releases_in h o)
lived_of h o legal = lived_as (state_of h) o (0 + releases_in h o) (releases_in h o) (omega arith) (lived_from start h o 0 legal (lived_start o))

at_most_one : (b : Bool) → one_if b ≤ 1
at_most_one true = omega arith
at_most_one false = omega arith

-- an object is released once at most
pub released_at_most_once : ReleasedAtMostOnce
released_at_most_once h o legal =
    let l = lived_of h o legal in
    let few = at_most_one (nat_lt o (state_of h).made) in
    omega (arith, l.balanced.sum)

-- and not while it has users
pub users_first : UsersFirst
users_first h e o legal allowed is = released_unused (state_of h) o e (lived_of h o legal).unused allowed is

-- The file that an object was made for.

-- the object was made, and is of this file for as long as it is there
pub record IsOf (m : State) (f o : ℕ) : Type 0 where
  pub low : o < m.made
  pub same : (y : Object) → IsIn y m.objects → y.id ≡ o → y.file ≡ f

-- an object that was there before, with its file
pub record Came (m : State) (y : Object) : Type 0 where
  pub item : Object
  pub within : IsIn item m.objects
  pub id : y.id ≡ item.id
  pub file : y.file ≡ item.file

is_of_came : (m m' : State) (f o : ℕ) → m.made ≤ m'.made → ((y : Object) → IsIn y m'.objects → y.id < m.made → Came m y) → IsOf m f o → IsOf m' f o
is_of_came m m' f o more came is = record {
  low = omega (arith, is.low);
  same = λ y k e. (let from = came y k (omega (arith, is.low)) in from.file ∙ is.same from.item from.within (sym from.id ∙ e));
}

came_map : (m : State) (i : ℕ) (change : Change) (y : Object) → IsIn y (map (on_object i change) m.objects) → Came m y
came_map m i change y k =
    let from = IsIn-map (on_object i change) y m.objects k in
    record {
      item = from.item;
      within = from.within;
      id = ap (λ (v : Object). v.id) from.gives ∙ on_object-id i change from.item;
      file = ap (λ (v : Object). v.file) from.gives ∙ on_object-file i change from.item;
    }

came_step : (m : State) (r : Reached m) (c : ℕ) (call : InFlight) (is : call_of m c ≡ Some call) (a : Answer) (m' : State) → Turn m c call a m' → (y : Object) → IsIn y m'.objects → y.id < m.made → Came m y
came_step m r c call is a m' t y k low =
    let from = came_turn m r c call is a m' t y k low in
    record { item = from.item; within = from.within; id = from.id; file = from.file }

is_of_unless : (m m' : State) (e : Option Errno) (f o : ℕ) → IsOf m f o → IsOf m' f o → IsOf (unless_answered m e m') f o
is_of_unless m m' None f o is is' = is'
is_of_unless m m' (Some e) f o is is' = is

is_of_gone : (m : State) (i : ℕ) (slot : Option Object) (f o : ℕ) → IsOf m f o → IsOf (gone_from m i slot) f o
is_of_gone m i None f o is = is
is_of_gone m i (Some x) f o is = is_of_came m (gone_from m i (Some x)) f o (omega arith) (λ y k low. came_map m i ToHusk y k) is

is_of_after : (m : State) (e : Entry) (f o : ℕ) → Reached m → Allowed m e → IsOf m f o → IsOf (after m e) f o
is_of_after m (Open c k d a) f o r allowed is = is_of_unless m _ (refusal_in a) f o is (record { low = is.low; same = is.same })
is_of_after m (Enter c k request a) f o r allowed is = is_of_unless m _ (refusal_in a) f o is (record { low = is.low; same = is.same })
is_of_after m (Step c w i found a) f o r allowed is =
    let t = IsTurn-allowed m c w i found a allowed in
    let m' = after m (Step c w i found a) in
    is_of_came m m' f o (made_turn m r c t.call t.is a m' t.turn) (came_step m r c t.call t.is a m' t.turn) is
is_of_after m (Unplug d) f o r allowed is = record { low = is.low; same = is.same }
is_of_after m (Tear k by) f o r allowed is = record { low = is.low; same = is.same }
is_of_after m (Kill i) f o r allowed is = is_of_came m (after m (Kill i)) f o (omega arith) (λ y k low. came_map m i ToDoomed y k) is
is_of_after m (Gone i kept) f o r allowed is = is_of_gone m i (object_with m i) f o is
is_of_after m (Dissociated k) f o r allowed is = record { low = is.low; same = is.same }
is_of_after m (Closed k) f o r allowed is = record { low = is.low; same = λ y h e. is.same y (Passes-filter (not_in_file k) y m.objects h).within e }

-- The Make itself.

make_is : (w : Word) → is_make w ≡ true → w ≡ Make
make_is Reserve e = absurd cc
make_is Look e = absurd cc
make_is Make e = refl
make_is Commit e = absurd cc
make_is Act e = absurd cc
make_is Lock e = absurd cc
make_is Check e = absurd cc
make_is Finish e = absurd cc
make_is Abort e = absurd cc
make_is Free e = absurd cc
make_is Exit e = absurd cc

none_in : (e : Option Errno) → is_none e ≡ true → e ≡ None
none_in None h = refl
none_in (Some e) h = absurd cc

module _ (m : State) (r : Reached m) (c : ℕ) (call : InFlight) (is : call_of m c ≡ Some call) (f o : ℕ) (word : next_word call ≡ Make) where
  another : (v : Word) → next_word call ≡ v → v ≢ Make → ⊥
  another v is' ne = ne (sym is' ∙ word)

  made_of : (a : Answer) (m' : State) (i : ℕ) (found : Option QpState) → (told m c call found Make).object ≡ i → i ≡ o → call.file ≡ f → Made m c call m' → IsOf m' f o
  made_of a m' i found object same file t =
      let object_is : (told m c call found Make).object ≡ m.made = rw (t.creates, t.fresh, t.home) in
      let new : m.made ≡ o = sym object_is ∙ object ∙ same in
      let low = made_below m r c call is m' _ t.gives t.fresh in
      record { low = omega arith; same = λ y k e. made_placed m r c call is a m' t o new y k e ∙ file }

  made_is_of : (a : Answer) (m' : State) (i : ℕ) (found : Option QpState) → (told m c call found Make).object ≡ i → i ≡ o → call.file ≡ f → refusal_in a ≡ None → Turn m c call a m' → IsOf m' f o
  made_is_of a m' i found object same file fine (Refuses t) = absurd (none-some t.errno (sym fine ∙ t.tells))
  made_is_of a m' i found object same file fine (Reserves t) = absurd (another Reserve (next_word-planned call Reserve t.plan.fine t.plan.planned) (λ e. cc))
  made_is_of a m' i found object same file fine (Looks t) = absurd (another Look (next_word-planned call Look t.plan.fine t.plan.planned) (λ e. cc))
  made_is_of a m' i found object same file fine (Makes t) = made_of a m' i found object same file t
  made_is_of a m' i found object same file fine (Commits t) = absurd (another Commit (next_word-planned call Commit t.plan.fine t.plan.planned) (λ e. cc))
  made_is_of a m' i found object same file fine (Does t) = absurd (another Act (next_word-planned call Act t.plan.fine t.plan.planned) (λ e. cc))
  made_is_of a m' i found object same file fine (Locks t) = absurd (another Lock (next_word-planned call Lock t.plan.fine t.plan.planned) (λ e. cc))
  made_is_of a m' i found object same file fine (Checks t) = absurd (another Check (next_word-planned call Check t.plan.fine t.plan.planned) (λ e. cc))
  made_is_of a m' i found object same file fine (Finishes t) = absurd (another Finish (next_word-planned call Finish t.plan.fine t.plan.planned) (λ e. cc))
  made_is_of a m' i found object same file fine (Aborts t) = absurd (another Abort (next_word-closing call t.ends ∙ t.word) (λ e. cc))
  made_is_of a m' i found object same file fine (Frees t) = absurd (another Free (next_word-closing call t.ends ∙ t.word) (λ e. cc))
  made_is_of a m' i found object same file fine (Leaves t) = absurd (another Exit (next_word-closing call t.ends ∙ t.word) (λ e. cc))

makes_is_of : (m : State) (e : Entry) (f o : ℕ) → Reached m → Allowed m e → makes_for m f o e ≡ true → IsOf (after m e) f o
makes_is_of m (Open c k d a) f o r allowed is = absurd cc
makes_is_of m (Enter c k request a) f o r allowed is = absurd cc
makes_is_of m (Step c w i found a) f o r allowed is =
    let same = and_parts (i == o) (is_make w && (is_none (refusal_in a) && is_call_on f (call_of m c))) is in
    let make = and_parts (is_make w) (is_none (refusal_in a) && is_call_on f (call_of m c)) same.1 in
    let rest = and_parts (is_none (refusal_in a)) (is_call_on f (call_of m c)) make.1 in
    let t = IsTurn-allowed m c w i found a allowed in
    let word : w ≡ Make = make_is w make.0 in
    let object : (told m c t.call found Make).object ≡ i = ap (λ v. (told m c t.call found v).object) (sym word) ∙ t.object in
    let file : t.call.file ≡ f = eqb-true t.call.file f (sym (ap (is_call_on f) t.is) ∙ rest.1) in
    made_is_of m r c t.call t.is f o (t.word ∙ word) a (after m (Step c w i found a)) i found object (eqb-true i o same.0) file (none_in (refusal_in a) rest.0) t.turn
makes_is_of m (Unplug d) f o r allowed is = absurd cc
makes_is_of m (Tear k by) f o r allowed is = absurd cc
makes_is_of m (Kill i) f o r allowed is = absurd cc
makes_is_of m (Gone i kept) f o r allowed is = absurd cc
makes_is_of m (Dissociated k) f o r allowed is = absurd cc
makes_is_of m (Closed k) f o r allowed is = absurd cc

is_of_from : (m : State) (h : List Entry) (f o : ℕ) → Reached m → IsLegalFrom m h → IsOf m f o → IsOf (state_from m h) f o
is_of_from m [] f o r legal is = is
is_of_from m (e ∷ h) f o r legal is =
    is_of_from (after m e) h f o (Reached-after m e legal.0 r) legal.1 (is_of_after m e f o r legal.0 is)

made_from_here : (m : State) (e : Entry) (h : List Entry) (f o : ℕ) (b : Bool) → Reached m → IsLegalFrom m (e ∷ h) → makes_for m f o e ≡ b → (b || makes_from (after m e) f o h) ≡ true → (makes_from (after m e) f o h ≡ true → IsOf (state_from (after m e) h) f o) → IsOf (state_from (after m e) h) f o
made_from_here m e h f o true r legal is some later =
    is_of_from (after m e) h f o (Reached-after m e legal.0 r) legal.1 (makes_is_of m e f o r legal.0 is)
made_from_here m e h f o false r legal is some later = later some

made_from_is : (m : State) (h : List Entry) (f o : ℕ) → Reached m → IsLegalFrom m h → makes_from m f o h ≡ true → IsOf (state_from m h) f o
made_from_is m [] f o r legal is = absurd cc
made_from_is m (e ∷ h) f o r legal is =
    made_from_here m e h f o (makes_for m f o e) r legal refl is (λ later. made_from_is (after m e) h f o (Reached-after m e legal.0 r) legal.1 later)

-- When a teardown ends.

ended_dissociated : (m : State) (f : ℕ) → Allowed m (Dissociated f) → has_standing m f ≡ false
ended_dissociated m f allowed =
    let parts = and_parts (is_removing (phase_of m f)) (is_quiet m f && not (has_standing m f)) allowed.1 in
    not_so (has_standing m f) (and_parts (is_quiet m f) (not (has_standing m f)) parts.1).1

ended_closed : (m : State) (f : ℕ) → Allowed m (Closed f) → has_standing m f ≡ false
ended_closed m f allowed =
    let parts = and_parts (is_closing (phase_of m f)) (is_quiet m f && not (has_standing m f)) allowed.1 in
    not_so (has_standing m f) (and_parts (is_quiet m f) (not (has_standing m f)) parts.1).1

none_stands : (m : State) (f o : ℕ) (slot : Option Object) → has_standing m f ≡ false → IsOf m f o → find (has_id o) m.objects ≡ slot → stands_slot slot ≡ false
none_stands m f o None none is e = refl
none_stands m f o (Some x) none is e =
    let p = Passes-find (has_id o) x m.objects e in
    ap not (not_standing m f x none p.within (is.same x p.within (eqb-true x.id o p.test)))

low_is : (o top : ℕ) → o < top → nat_lt o top ≡ true
low_is o top low = grind (arith, nat_tests)

-- each object that its file ever had was released
pub released_once : ReleasedOnce
released_once h f o legal ends made =
    let m = state_of h in
    let is = made_from_is start h f o Reached-start legal made in
    let l = lived_of h o legal in
    let none : has_standing m f ≡ false = ⊎_elim (λ d. ended_dissociated m f d) (λ c. ended_closed m f c) ends in
    let gone = none_stands m f o (find (has_id o) m.objects) none is refl in
    omega (arith, l.balanced.sum, ap one_if gone, ap one_if (low_is o m.made is.low))
