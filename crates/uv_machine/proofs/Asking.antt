-- Each call in flight entered, and each object was made by one that did.
use Rattle.std.proofs.Common.{◌≡◌, ℕ, zero, suc, false, List, [], ◌∷◌, Option, Some, None, refl, ap, sym, ◌∙◌, subst, inl, inr, ⊎_elim}
use Rattle.std.specs.Prelude.{◌++◌, slice_get}
use Rattle.std.proofs.lemmas.Option.{none-some, same_Some}
use Rattle.uv_num.specs.declared.errno.Errno.{Errno}
use Rattle.uv_num.specs.declared.errno.Errno.TheVariants.{NoMem}
use Rattle.uv_num.specs.declared.request.Request.{Request}
use Rattle.uv_num.specs.declared.request.Role.TheVariants.{Creates}
use Rattle.uv_num.specs.Request.{role_of}
use Rattle.uv_machine.specs.declared.entry.Entry.{Entry}
use Rattle.uv_machine.specs.declared.entry.Entry.TheVariants.{Open, Enter, Step, Unplug, Tear, Kill, Gone, Dissociated, Closed}
use Rattle.uv_machine.specs.declared.entry.Answer.{Answer}
use Rattle.uv_machine.specs.declared.entry.Answer.TheVariants as answer
use Rattle.uv_machine.specs.declared.object.Object.{Object}
use Rattle.uv_machine.specs.declared.call.InFlight.{InFlight}
use Rattle.uv_num.specs.declared.limits.TheConstants.{ACTOR_PLACES}
use Rattle.uv_machine.specs.declared.state.State.{State}
use Rattle.uv_machine.specs.States.{call_of, phase_of, is_callable, start}
use Rattle.uv_machine.specs.Effects.{refusal_in, unless_answered}
use Rattle.uv_machine.specs.Outside.{MayAnswer, enter_refusal}
use Rattle.uv_machine.specs.Histories.{Allowed, after, state_of, IsLegal}
use Rattle.uv_machine.specs.Laws.{is_of}
use Rattle.uv_machine.specs.Reached.{IsIn, Reached}
use Rattle.uv_machine.specs.Made.{new_by, listed, made_in}
use Rattle.uv_machine.specs.ObjectLaws.{IsMadeFor, MadeByRequest, StandsByRequest}
use Rattle.uv_machine.proofs.Members.{IsIn-append-cases, IsIn-append-left, IsIn-append-right}
use Rattle.uv_machine.proofs.Turns.{IsTurn-allowed}
use Rattle.uv_machine.proofs.Apart.{call_of-after}
use Rattle.uv_machine.proofs.Calling.{CallBehind, call_behind}
use Rattle.uv_machine.proofs.GoingOn.{state_from-snoc}
use Rattle.uv_machine.proofs.Numbers.{legal_numbered}
use Rattle.uv_machine.proofs.OwnCall.{OwnTurn, calls_turn}
use Rattle.uv_machine.proofs.Reaching.{Reached-state_of, new_or_old, start_calls, was_callable}
use Rattle.uv_machine.proofs.Historied.{by_history}
use Rattle.uv_machine.proofs.Dealing.{Adds, Deals, deals_after}
use Rattle.uv_machine.proofs.MadeKept.{made_goes_on, legal_known}

-- a step leaves its call's file and request
pub record KeepsRequest (call k : InFlight) : Type 0 where
  pub file : k.file ≡ call.file
  pub request : k.request ≡ call.request

keeps_by : (call k k' : InFlight) (slot : Option InFlight) → slot ≡ Some k' → slot ≡ Some k → KeepsRequest call k' → KeepsRequest call k
keeps_by call k k' slot is e s = let P : InFlight → Type 0 = λ v. KeepsRequest call v in subst P (same_Some k' k (sym is ∙ e)) s

pub keeps_request : (call : InFlight) (slot : Option InFlight) (k : InFlight) → OwnTurn call slot → slot ≡ Some k → KeepsRequest call k
keeps_request call slot k (OwnTurn.OwnRefuses w e plan may is) h = keeps_by call k _ slot is h (record { file = refl; request = refl })
keeps_request call slot k (OwnTurn.OwnReserves n plan is) h = keeps_by call k _ slot is h (record { file = refl; request = refl })
keeps_request call slot k (OwnTurn.OwnLooks o plan is) h = keeps_by call k _ slot is h (record { file = refl; request = refl })
keeps_request call slot k (OwnTurn.OwnMakes o outcome plan is) h = keeps_by call k _ slot is h (record { file = refl; request = refl })
keeps_request call slot k (OwnTurn.OwnCommits plan is) h = keeps_by call k _ slot is h (record { file = refl; request = refl })
keeps_request call slot k (OwnTurn.OwnDoes outcome plan is) h = keeps_by call k _ slot is h (record { file = refl; request = refl })
keeps_request call slot k (OwnTurn.OwnLocks o plan is) h = keeps_by call k _ slot is h (record { file = refl; request = refl })
keeps_request call slot k (OwnTurn.OwnChecks plan is) h = keeps_by call k _ slot is h (record { file = refl; request = refl })
keeps_request call slot k (OwnTurn.OwnFinishes plan is) h = keeps_by call k _ slot is h (record { file = refl; request = refl })
keeps_request call slot k (OwnTurn.OwnAborts ends word is) h = keeps_by call k _ slot is h (record { file = refl; request = refl })
keeps_request call slot k (OwnTurn.OwnFrees ends word is) h = keeps_by call k _ slot is h (record { file = refl; request = refl })
keeps_request call slot k (OwnTurn.OwnLeaves ends word is) h = absurd (none-some k (sym is ∙ h))

-- Calls in flight.

-- an accepted Enter of this actor asked for this on this file
abbrev pub Entered : List Entry → ℕ → InFlight → Type 0
Entered h b k = IsIn (Enter b k.file k.request answer.Ok) h

abbrev pub AllEntered : List Entry → State → Type 0
AllEntered h m = (b : ℕ) (k : InFlight) → call_of m b ≡ Some k → Entered h b k

accepted : (r : Option Errno) (a : Answer) → MayAnswer r a → refusal_in a ≡ None → a ≡ answer.Ok
accepted None a (inl e) none = e
accepted None a (inr e) none = absurd (none-some NoMem (sym none ∙ ap refusal_in e))
accepted (Some errno) a may none = absurd (none-some errno (sym none ∙ ap refusal_in may))

module _ (h : List Entry) (m : State) (r : Reached m) (all : AllEntered h m) where
  old_entered : (e : Entry) (b : ℕ) (k : InFlight) → call_of m b ≡ Some k → Entered (h ++ e ∷ []) b k
  old_entered e b k is = IsIn-append-left (Enter b k.file k.request answer.Ok) h (e ∷ []) (all b k is)

  apart_entered : (e : Entry) (b : ℕ) (k : InFlight) → is_of b e ≡ false → call_of (after m e) b ≡ Some k → Entered (h ++ e ∷ []) b k
  apart_entered e b k apart is = old_entered e b k (sym (call_of-after m e b apart) ∙ is)

  enters : (c f : ℕ) (request : Request) (a : Answer) → Allowed m (Enter c f request a) → (errno : Option Errno) → refusal_in a ≡ errno → (b : ℕ) (k : InFlight) → call_of (unless_answered m errno (record m { calls = (after m (Enter c f request answer.Ok)).calls })) b ≡ Some k → Entered (h ++ Enter c f request a ∷ []) b k
  enters c f request a allowed (Some e) refuses b k is = old_entered (Enter c f request a) b k is
  enters c f request a allowed None fine b k is =
      let callable = was_callable (is_callable (phase_of m f)) _ a allowed.3 fine in
      ⊎_elim
      (λ new. (
      let ok : a ≡ answer.Ok = accepted (enter_refusal m f request) a allowed.3 fine in
      let same : Enter b k.file k.request answer.Ok ≡ Enter c f request a =
      ap (λ (v : InFlight). Enter b v.file v.request answer.Ok) (sym new.1) ∙ ap (λ v. Enter v f request answer.Ok) (sym new.0) ∙ ap (λ v. Enter c f request v) (sym ok) in
      IsIn-append-right (Enter b k.file k.request answer.Ok) h (Enter c f request a ∷ []) (inl same)))
      (λ old. old_entered (Enter c f request a) b k old.1)
      (new_or_old m c f request r allowed.2 callable b k is)

  steps : (e : Entry) (c b : ℕ) (call k : InFlight) (slot : Option InFlight) → call_of m c ≡ Some call → OwnTurn call slot → CallBehind m c b slot k → Entered (h ++ e ∷ []) b k
  steps e c b call k slot is own (CallBehind.IsOwn same h') =
      let s = keeps_request call slot k own h' in
      let E : Enter c call.file call.request answer.Ok ≡ Enter b k.file k.request answer.Ok =
      ap (λ v. Enter v call.file call.request answer.Ok) same ∙ ap (λ v. Enter b v call.request answer.Ok) (sym s.file) ∙ ap (λ v. Enter b k.file v answer.Ok) (sym s.request) in
      let P : Entry → Type 0 = λ v. IsIn v (h ++ e ∷ []) in
      subst P E (old_entered e c call is)
  steps e c b call k slot is own (CallBehind.IsOther ne h') = old_entered e b k h'

  entered_after : (e : Entry) → Allowed m e → AllEntered (h ++ e ∷ []) (after m e)
  entered_after (Open c f d a) allowed b k is = apart_entered (Open c f d a) b k refl is
  entered_after (Enter c f request a) allowed b k is = enters c f request a allowed (refusal_in a) refl b k is
  entered_after (Step c w o found a) allowed b k is =
      let t = IsTurn-allowed m c w o found a allowed in
      let m' = after m (Step c w o found a) in
      let kt = calls_turn m c t.call a m' t.turn in
      steps (Step c w o found a) c b t.call k (kt.change (Some t.call)) t.is kt.own (call_behind m m' c t.call kt.change t.is kt.calls b k is)
  entered_after (Unplug d) allowed b k is = apart_entered (Unplug d) b k refl is
  entered_after (Tear f by) allowed b k is = apart_entered (Tear f by) b k refl is
  entered_after (Kill o) allowed b k is = apart_entered (Kill o) b k refl is
  entered_after (Gone o kept) allowed b k is = apart_entered (Gone o kept) b k refl is
  entered_after (Dissociated f) allowed b k is = apart_entered (Dissociated f) b k refl is
  entered_after (Closed f) allowed b k is = apart_entered (Closed f) b k refl is

abbrev pub EnteredAt : List Entry → Type 0
EnteredAt h = AllEntered h (state_of h)

entered_start : EnteredAt []
unfolding start
entered_start b k is = absurd (start_calls b ACTOR_PLACES k is)

entered_step : (h : List Entry) (e : Entry) → IsLegal h → Allowed (state_of h) e → EnteredAt h → EnteredAt (h ++ e ∷ [])
entered_step h e legal allowed all =
    let P : State → Type 0 = λ v. AllEntered (h ++ e ∷ []) v in
    subst P (sym (state_from-snoc start h e)) (entered_after h (state_of h) (Reached-state_of h legal) all e allowed)

-- a call in flight has entered
pub legal_entered : (h : List Entry) → IsLegal h → EnteredAt h
legal_entered h legal = by_history EnteredAt entered_start entered_step h legal

-- Objects.

abbrev pub AllMadeFor : List Entry → Type 0
AllMadeFor h = (x : Object) → IsIn x (made_in h) → IsMadeFor h x

made_more : (h : List Entry) (e : Entry) (x : Object) → IsMadeFor h x → IsMadeFor (h ++ e ∷ []) x
made_more h e x a = record { creates = a.creates; actor = a.actor; entered = IsIn-append-left (Enter a.actor x.file x.request answer.Ok) h (e ∷ []) a.entered }

new_for : (h : List Entry) (e : Entry) (z : Object) → IsLegal h → Adds (state_of h) z (after (state_of h) e) → IsMadeFor h z
new_for h e z legal adds =
    let b = adds.begins in
    let P : Object → Type 0 = λ v. IsMadeFor h v in
    subst P (sym b.gives) (record { creates = b.creates; actor = b.actor; entered = legal_entered h legal b.actor b.call b.is })

listed_for : (h : List Entry) (e : Entry) (new : Option Object) (x : Object) → IsLegal h → Deals (state_of h) new (after (state_of h) e) → IsIn x (listed new) → IsMadeFor h x
listed_for h e new x legal (Deals.MakesOne z is adds) k = one_listed (let P : Option Object → Type 0 = λ v. IsIn x (listed v) in subst P is k)
  where
    one_listed : IsIn x (z ∷ []) → IsMadeFor h x
    one_listed (inl same) = let P : Object → Type 0 = λ v. IsMadeFor h v in subst P (sym same) (new_for h e z legal adds)
    one_listed (inr none) = absurd none
listed_for h e new x legal (Deals.BuriesOne y none made returns) k = absurd (let P : Option Object → Type 0 = λ v. IsIn x (listed v) in subst P none k)
listed_for h e new x legal (Deals.DealsNone none made pools) k = absurd (let P : Option Object → Type 0 = λ v. IsIn x (listed v) in subst P none k)

made_for_step : (h : List Entry) (e : Entry) → IsLegal h → Allowed (state_of h) e → AllMadeFor h → AllMadeFor (h ++ e ∷ [])
made_for_step h e legal allowed all x k =
    let P : List Object → Type 0 = λ v. IsIn x v in
    ⊎_elim
    (λ old. made_more h e x (all x old))
    (λ new. made_more h e x (listed_for h e (new_by (state_of h) e) x legal (deals_after (state_of h) e (Reached-state_of h legal) (legal_numbered h legal) allowed) new))
    (IsIn-append-cases x (made_in h) (listed (new_by (state_of h) e)) (subst P (made_goes_on h e) k))

pub made_by_request : MadeByRequest
made_by_request h x legal k = by_history AllMadeFor (λ y none. absurd none) made_for_step h legal x k

pub at_in : (xs : List Object) (j : ℕ) (x : Object) → slice_get xs j ≡ Some x → IsIn x xs
at_in [] j x e = absurd (none-some x e)
at_in (y ∷ xs) zero x e = inl (sym (same_Some y x e))
at_in (y ∷ xs) (suc j) x e = inr (at_in xs j x e)

pub stands_by_request : StandsByRequest
stands_by_request h x legal k =
    let a = ((legal_known h legal).stands x k).made_so in
    let it = made_by_request h a.item legal (at_in (made_in h) x.id a.item a.there) in
    let s = a.same in
    record {
      creates = ap role_of s.request ∙ it.creates ∙ ap (λ v. Creates v) (sym s.kind);
      actor = it.actor;
      entered = (
          let P : Entry → Type 0 = λ v. IsIn v h in
          subst P (ap (λ v. Enter it.actor v a.item.request answer.Ok) (sym s.file) ∙ ap (λ v. Enter it.actor x.file v answer.Ok) (sym s.request)) it.entered);
    }
