-- Calls after a change of one actor's place: the others, files without calls, and what calls hold for others.
use Rattle.std.proofs.Common.{◌≡◌, ◌≢◌, ℕ, zero, suc, Bool, true, false, List, [], ◌∷◌, Option, Some, refl, ap, sym, ◌∙◌, ⊎_elim}
use Rattle.std.specs.Prelude.{not, ◌||◌, ◌==◌, slice_get}
use Rattle.std.specs.List.{list_any}
use Rattle.std.proofs.lemmas.Option.{none-some, same_Some}
use Rattle.std.proofs.lemmas.Bool.{or_left, or_right, eq-eqb}
use Rattle.std.proofs.lemmas.Bool.Decides.{eqb_tells}
use Rattle.uv_num.specs.Place.{at_place}
use Rattle.uv_num.proofs.PlaceLaws.{at_place-cons}
use Rattle.uv_machine.specs.declared.entry.Word.{Word}
use Rattle.uv_machine.specs.declared.object.Object.{Object}
use Rattle.uv_machine.specs.declared.call.InFlight.{InFlight}
use Rattle.uv_machine.specs.declared.state.State.{State}
use Rattle.uv_machine.specs.Plans.{next_word, is_call_on}
use Rattle.uv_machine.specs.States.{the_call, call_of, is_quiet}
use Rattle.uv_machine.specs.Reached.{IsHeldFor}
use Rattle.uv_machine.proofs.Members.{slice_get-at_place_elsewhere}
use Rattle.uv_machine.proofs.OwnCall.{OwnTurn, CallsTurn, call_stands, call_of-changed}

-- The other calls.

pub call_of-other : (m m' : State) (c : ℕ) (g : Option InFlight → Option InFlight) → m'.calls ≡ at_place m.calls c g → (b : ℕ) → c ≢ b → call_of m' b ≡ call_of m b
call_of-other m m' c g calls b ne = ap (λ v. the_call (slice_get v b)) calls ∙ ap the_call (slice_get-at_place_elsewhere m.calls c b g ne)

-- a call after the change is the actor's own, or was there before
pub data CallBehind (m : State) (c b : ℕ) (slot : Option InFlight) (k : InFlight) : Type 0 where
  IsOwn : c ≡ b → slot ≡ Some k → CallBehind m c b slot k
  IsOther : c ≢ b → call_of m b ≡ Some k → CallBehind m c b slot k

pub call_behind : (m m' : State) (c : ℕ) (call : InFlight) (g : Option InFlight → Option InFlight) → call_of m c ≡ Some call → m'.calls ≡ at_place m.calls c g → (b : ℕ) (k : InFlight) → call_of m' b ≡ Some k → CallBehind m c b (g (Some call)) k
call_behind m m' c call g is calls b k is' =
    ⊎_elim
    (λ e. CallBehind.IsOwn e.1 (sym (call_of-changed m m' c g call calls is) ∙ ap (call_of m') e.1 ∙ is'))
    (λ e. CallBehind.IsOther e.1 (sym (call_of-other m m' c g calls b e.1) ∙ is'))
    (eqb_tells c b)

-- Files without calls.

any_more : (b rest more : Bool) → (b || more) ≡ true → (more ≡ true → rest ≡ true) → (b || rest) ≡ true
any_more true rest more h later = refl
any_more false rest more h later = later h

any_first : (b b' rest : Bool) → (b' || rest) ≡ true → (b' ≡ true → b ≡ true) → (b || rest) ≡ true
any_first b true rest h first = or_left b rest (first refl)
any_first b false rest h first = or_right b rest h

-- a test that passes after a change of one item passed before, if it does so for that item
pub any-at_place : {X : Type 0} (p : X → Bool) (g : X → X) (xs : List X) (i : ℕ) → ((x : X) → slice_get xs i ≡ Some x → p (g x) ≡ true → p x ≡ true) → list_any p (at_place xs i g) ≡ true → list_any p xs ≡ true
any-at_place p g [] i first h = h
any-at_place p g (y ∷ ys) zero first h = any_first (p y) (p (g y)) (list_any p ys) h (first y refl)
any-at_place p g (y ∷ ys) (suc i) first h =
    let step : list_any p (at_place (y ∷ ys) (suc i) g) ≡ (p y || list_any p (at_place ys i g)) = ap (list_any p) (at_place-cons y ys i g) in
    any_more (p y) (list_any p ys) (list_any p (at_place ys i g)) (sym step ∙ h) (any-at_place p g ys i first)

not_true : (b : Bool) → not b ≡ true → b ≡ false
not_true true h = absurd cc
not_true false h = refl

pub false_unless : (b : Bool) → (b ≡ true → ⊥) → b ≡ false
false_unless true h = absurd (h refl)
false_unless false h = refl

pub quiet_stays : (m m' : State) (c f : ℕ) (g : Option InFlight → Option InFlight) → m'.calls ≡ at_place m.calls c g → ((x : Option InFlight) → slice_get m.calls c ≡ Some x → is_call_on f (g x) ≡ true → is_call_on f x ≡ true) → is_quiet m f ≡ true → is_quiet m' f ≡ true
quiet_stays m m' c f g calls first quiet =
    let none : list_any (is_call_on f) m.calls ≡ false = not_true (list_any (is_call_on f) m.calls) quiet in
    ap not (false_unless (list_any (is_call_on f) m'.calls) (λ some. (let before = any-at_place (is_call_on f) g m.calls c first (sym (ap (list_any (is_call_on f)) calls) ∙ some) in cc)))

-- a call of a quiet file isn't in flight
pub any_at : {X : Type 0} (p : X → Bool) (xs : List X) (i : ℕ) (x : X) → slice_get xs i ≡ Some x → p x ≡ true → list_any p xs ≡ true
any_at p [] i x e h = absurd (none-some x e)
any_at p (y ∷ ys) zero x e h = or_left (p y) (list_any p ys) (ap p (same_Some y x e) ∙ h)
any_at p (y ∷ ys) (suc i) x e h = or_right (p y) (list_any p ys) (any_at p ys i x e h)

pub quiet_none : (m : State) (c f : ℕ) (call : InFlight) → is_quiet m f ≡ true → call_of m c ≡ Some call → call.file ≢ f
quiet_none m c f call quiet is same =
    let on : is_call_on f (Some call) ≡ true = ap (λ v. v == f) same ∙ eq-eqb f f refl in
    let some = any_at (is_call_on f) m.calls c (Some call) (call_stands m c call is) on in
    let none : list_any (is_call_on f) m.calls ≡ false = not_true (list_any (is_call_on f) m.calls) quiet in
    absurd cc

own_on : (call : InFlight) (slot : Option InFlight) (f : ℕ) → OwnTurn call slot → is_call_on f slot ≡ true → is_call_on f (Some call) ≡ true
own_on call slot f (OwnTurn.OwnRefuses w e plan may is) h = sym (ap (is_call_on f) is) ∙ h
own_on call slot f (OwnTurn.OwnReserves n plan is) h = sym (ap (is_call_on f) is) ∙ h
own_on call slot f (OwnTurn.OwnLooks o plan is) h = sym (ap (is_call_on f) is) ∙ h
own_on call slot f (OwnTurn.OwnMakes o outcome plan is) h = sym (ap (is_call_on f) is) ∙ h
own_on call slot f (OwnTurn.OwnCommits plan is) h = sym (ap (is_call_on f) is) ∙ h
own_on call slot f (OwnTurn.OwnDoes outcome plan is) h = sym (ap (is_call_on f) is) ∙ h
own_on call slot f (OwnTurn.OwnLocks o plan is) h = sym (ap (is_call_on f) is) ∙ h
own_on call slot f (OwnTurn.OwnChecks plan is) h = sym (ap (is_call_on f) is) ∙ h
own_on call slot f (OwnTurn.OwnFinishes plan is) h = sym (ap (is_call_on f) is) ∙ h
own_on call slot f (OwnTurn.OwnAborts ends word is) h = sym (ap (is_call_on f) is) ∙ h
own_on call slot f (OwnTurn.OwnFrees ends word is) h = sym (ap (is_call_on f) is) ∙ h
own_on call slot f (OwnTurn.OwnLeaves ends word is) h = absurd (let no : is_call_on f slot ≡ false = ap (is_call_on f) is in cc)

-- a turn leaves quiet files quiet
pub quiet_turn : (m m' : State) (c : ℕ) (call : InFlight) (f : ℕ) → call_of m c ≡ Some call → CallsTurn m c call m' → is_quiet m f ≡ true → is_quiet m' f ≡ true
quiet_turn m m' c call f is k quiet =
    quiet_stays m m' c f k.change k.calls
    (λ x at on. (
    let same : Some call ≡ x = same_Some (Some call) x (sym (call_stands m c call is) ∙ at) in
    let here : is_call_on f (k.change (Some call)) ≡ true = ap (λ v. is_call_on f (k.change v)) same ∙ on in
    ap (is_call_on f) (sym same) ∙ own_on call (k.change (Some call)) f k.own here))
    quiet

-- What calls hold for a word.

-- the same calls
pub held_alike : (m m' : State) (w : Word) (x : Object) → m'.calls ≡ m.calls → IsHeldFor m w x → IsHeldFor m' w x
held_alike m m' w x same h = record {
  actor = h.actor;
  call = h.call;
  is = ap (λ calls. the_call (slice_get calls h.actor)) same ∙ h.is;
  word = h.word;
  own = h.own;
  same = h.same;
}

-- another object with the same id and file
pub held_as : (m : State) (w : Word) (x y : Object) → y.id ≡ x.id → y.file ≡ x.file → IsHeldFor m w x → IsHeldFor m w y
held_as m w x y id file h = record {
  actor = h.actor;
  call = h.call;
  is = h.is;
  word = h.word;
  own = h.own ∙ ap (λ (n : ℕ). Some n) (sym id);
  same = h.same ∙ sym file;
}

-- a change of a call that does not hold the object for this word
pub held_stays : (m m' : State) (c : ℕ) (g : Option InFlight → Option InFlight) → m'.calls ≡ at_place m.calls c g → (w : Word) (x : Object) → ((call : InFlight) → call_of m c ≡ Some call → next_word call ≡ w → call.locked ≡ Some x.id → ⊥) → IsHeldFor m w x → IsHeldFor m' w x
held_stays m m' c g calls w x apart h =
    ⊎_elim
    (λ e. absurd (apart h.call (ap (call_of m) e.1 ∙ h.is) h.word h.own))
    (λ e. record {
      actor = h.actor;
      call = h.call;
      is = call_of-other m m' c g calls h.actor e.1 ∙ h.is;
      word = h.word;
      own = h.own;
      same = h.same;
    })
    (eqb_tells c h.actor)

-- a call that makes another word holds nothing for this one
pub apart_by_word : (m : State) (c : ℕ) (call : InFlight) (v w : Word) (x : Object) → call_of m c ≡ Some call → next_word call ≡ v → v ≢ w → (k : InFlight) → call_of m c ≡ Some k → next_word k ≡ w → k.locked ≡ Some x.id → ⊥
apart_by_word m c call v w x is word ne k is' word' own = ne (sym word ∙ ap next_word (same_Some call k (sym is ∙ is')) ∙ word')

-- a call that holds another object
pub apart_by_object : (m : State) (c : ℕ) (call : InFlight) (o : ℕ) (w : Word) (x : Object) → call_of m c ≡ Some call → call.locked ≡ Some o → o ≢ x.id → (k : InFlight) → call_of m c ≡ Some k → next_word k ≡ w → k.locked ≡ Some x.id → ⊥
apart_by_object m c call o w x is locked ne k is' word' own = ne (same_Some o x.id (sym locked ∙ ap (λ (v : InFlight). v.locked) (same_Some call k (sym is ∙ is')) ∙ own))
