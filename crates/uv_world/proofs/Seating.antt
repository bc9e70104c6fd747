-- Seats stay fit.
use Rattle.std.proofs.Common.{◌≡◌, ◌∙◌, ℕ, ◌<◌, false, List, [], ◌∷◌, ◌++◌, Option, Some, None, length, get_or, slice_get, refl, ap, sym, subst, ⊎_elim}
use Rattle.std.specs.Prelude.{◌≢◌, is_some, option_map}
use Rattle.std.proofs.lemmas.Bool.Decides.{eqb_tells}
use Rattle.std.proofs.lemmas.Option.{slice_get-get_or}
use Rattle.uv_num.specs.declared.qp.QpState.{QpState}
use Rattle.uv_num.specs.declared.request.Request.{Request}
use Rattle.uv_num.specs.Ranges.{is_in_range}
use Rattle.uv_num.proofs.PlaceLaws.{slice_get-at_place_same, slice_get-at_place_other}
use Rattle.uv_pool.specs.declared.plain.PlainDeed.{PlainDeed}
use Rattle.uv_pool.specs.Plain.{plain_facts}
use Rattle.uv_machine.specs.declared.call.InFlight.{InFlight}
use Rattle.uv_machine.specs.declared.entry.Answer.{Answer}
use Rattle.uv_machine.specs.declared.entry.CallStep.{CallStep}
use Rattle.uv_machine.specs.declared.entry.Entry.{Entry}
use Rattle.uv_machine.specs.declared.entry.Entry.TheVariants.{Step}
use Rattle.uv_machine.specs.declared.entry.Word.{Word}
use Rattle.uv_machine.specs.declared.state.State.{State}
use Rattle.uv_machine.specs.Histories.{Allowed, IsLegal, IsLegalFrom, after, state_from, state_of}
use Rattle.uv_machine.specs.Laws.{is_of}
use Rattle.uv_machine.specs.States.{call_of}
use Rattle.uv_machine.proofs.GoingOn.{state_from-snoc}
use Rattle.uv_machine.proofs.Apart.{call_of-after}
use Rattle.uv_machine.proofs.Silence.{step_keeps_request}
use Rattle.uv_machine.specs.States.{start}
use Rattle.uv_graph.specs.declared.out.Out.{Out}
use Rattle.uv_graph.specs.declared.out.Own.{Own}
use Rattle.uv_graph.specs.Conditions.{IsClient, IsFinishing}
use Rattle.uv_graph.specs.Kept.{Kept, kill_of, the_out}
use Rattle.uv_graph.specs.Owns.{own_of}
use Rattle.uv_graph.specs.Turns.{step_entry}
use Rattle.uv_core.specs.Beside.{OthersKeep}
use Rattle.uv_world.specs.declared.world.Doomed.{Doomed}
use Rattle.uv_world.specs.Celled.{slot_set, slot_value, slots_set, value_of_slot}
use Rattle.uv_world.specs.Seating.{AreSeated, CallIsSeated, HoldsDoomed, HoldsRetired, SeatFits}

-- Slots.

-- what lies in a slot stays where another one is written
pub slot_beside : {X : Type 0} (xs : List (Option X)) (a b : ℕ) (now : Option X) → b ≢ a → value_of_slot (slots_set xs a now) b ≡ value_of_slot xs b
slot_beside xs a b now ne = ap slot_value (slice_get-at_place_other xs a b (slot_set now) ne)

there_set : {X : Type 0} (slot : Option (Option X)) (x : Option X) (now : Option X) → slot ≡ Some x → slot_value (option_map (slot_set now) slot) ≡ now
there_set slot x now e = ap (λ v. slot_value (option_map (slot_set now) v)) e

none_set : {X : Type 0} (slot : Option (Option X)) → slot_value (option_map (slot_set None) slot) ≡ None
none_set None = refl
none_set (Some x) = refl

-- a slot that was emptied is empty
pub slot_emptied : {X : Type 0} (xs : List (Option X)) (a : ℕ) → value_of_slot (slots_set xs a None) a ≡ None
slot_emptied xs a = ap slot_value (slice_get-at_place_same xs a (slot_set None)) ∙ none_set (slice_get xs a)

-- a slot that is there holds what was put into it
pub slot_filled : {X : Type 0} (xs : List (Option X)) (a : ℕ) (now : Option X) → a < length xs → value_of_slot (slots_set xs a now) a ≡ now
slot_filled xs a now low = ap slot_value (slice_get-at_place_same xs a (slot_set now)) ∙ there_set (slice_get xs a) (get_or xs a None) now (slice_get-get_or xs a None low)

-- Histories.

allowed_from : (m : State) (h : List Entry) (e : Entry) → IsLegalFrom m (h ++ e ∷ []) → Allowed (state_from m h) e
allowed_from m [] e legal = legal.0
allowed_from m (x ∷ h) e legal = allowed_from (after m x) h e legal.1

-- the last entry of a legal history is allowed where it stands
pub last_allowed : (h g : List Entry) (e : Entry) → IsLegal g → g ≡ h ++ e ∷ [] → Allowed (state_of h) e
last_allowed h g e legal is = allowed_from start h e (subst IsLegal is legal)

-- the state after a history that is longer by an entry
pub state_more : (h g : List Entry) (e : Entry) → g ≡ h ++ e ∷ [] → state_of g ≡ after (state_of h) e
state_more h g e is = ap state_of is ∙ state_from-snoc start h e

-- an entry that is no enter and no step of an actor's leaves its call
pub call_same : (h g : List Entry) (e : Entry) (a : ℕ) → g ≡ h ++ e ∷ [] → is_of a e ≡ false → call_of (state_of g) a ≡ call_of (state_of h) a
call_same h g e a is other = ap (λ (m : State). call_of m a) (state_more h g e is) ∙ call_of-after (state_of h) e a other

-- All seats.

seat_moved : (o o' : Own) (r r' : Option PlainDeed) (x x' : Option Doomed) → o' ≡ o → r' ≡ r → x' ≡ x → SeatFits o r x → SeatFits o' r' x'
seat_moved o o' r r' x x' eo er ex fits =
    let P1 : Own → Type 0 = λ v. SeatFits v r x in
    let P2 : Option PlainDeed → Type 0 = λ v. SeatFits o' v x in
    let P3 : Option Doomed → Type 0 = λ v. SeatFits o' r' v in
    subst P3 (sym ex) (subst P2 (sym er) (subst P1 (sym eo) fits))

-- where one actor alone has done something, all seats fit if its own does
pub seated_after :
    (a : ℕ) (k k' : Kept) (r r' : List (Option PlainDeed)) (x x' : List (Option Doomed)) → AreSeated k r x → IsLegal k'.history → OthersKeep a k k' → length r' ≡ length r → length x' ≡ length x
    → ((b : ℕ) → b ≢ a → value_of_slot r' b ≡ value_of_slot r b) → ((b : ℕ) → b ≢ a → value_of_slot x' b ≡ value_of_slot x b)
    → SeatFits (own_of k' a) (value_of_slot r' a) (value_of_slot x' a) → AreSeated k' r' x'
seated_after a k k' r r' x x' seated legal others rs xs rb xb fits = record {
  legal = legal;
  retired_size = rs ∙ seated.retired_size;
  doomed_size = xs ∙ seated.doomed_size;
  seats = λ b.
      let P : ℕ → Type 0 = λ v. SeatFits (own_of k' v) (value_of_slot r' v) (value_of_slot x' v) in
      ⊎_elim
      (λ same. subst P (sym same.1) fits)
      (λ apart. seat_moved (own_of k b) (own_of k' b) (value_of_slot r b) (value_of_slot r' b) (value_of_slot x b) (value_of_slot x' b) (others b apart.1) (rb b apart.1) (xb b apart.1) (seated.seats b))
      (eqb_tells b a);
}

-- One seat.

call_left :
    (m : State) (a : ℕ) (w : Word) (o : ℕ) (found : Option QpState) (n : Answer) (call : InFlight) (x : Option Doomed) (slot : Option InFlight) → Allowed m (Step a w o found n) → call_of m a ≡ Some call
    → CallIsSeated a (Some call) x → call_of (after m (Step a w o found n)) a ≡ slot → CallIsSeated a slot x
call_left m a w o found n call x None allowed is fits now = tt
call_left m a w o found n call x (Some left) allowed is fits now =
    let same = step_keeps_request m a w o found n call left allowed is now in
    (fits.0, ap (λ (r : Request). is_in_range r) same.1 ∙ fits.1, fits.2)

pub call_is : (a : ℕ) (slot : Option InFlight) (call : InFlight) (x : Option Doomed) → CallIsSeated a slot x → slot ≡ Some call → CallIsSeated a (Some call) x
call_is a slot call x fits is =
    let P : Option InFlight → Type 0 = λ v. CallIsSeated a v x in
    subst P is fits

pub none_killed : (o : Own) (x : Option Doomed) → x ≡ None → HoldsDoomed o x → o.kill ≡ None
none_killed o None e holds = holds
none_killed o (Some x) e holds = absurd (cc)

pub none_held : (o : Own) (x : Option Doomed) → x ≡ None → o.kill ≡ None → HoldsDoomed o x
none_held o None e none = none
none_held o (Some x) e none = absurd (cc)

-- a step leaves its actor's call in its ranges, and its teardown without anything
pub seat_stepped :
    (a : ℕ) (k k' : Kept) (call : InFlight) (d : CallStep) (r r' : Option PlainDeed) (x : Option Doomed) → SeatFits (own_of k a) r x → call_of (state_of k.history) a ≡ Some call → IsLegal k'.history
    → k'.history ≡ k.history ++ step_entry a d ∷ [] → k'.kills ≡ k.kills → HoldsRetired (own_of k' a) r' → SeatFits (own_of k' a) r' x
seat_stepped a k k' call d r r' x fits is legal more kills held =
    let m = state_of k.history in
    let e : Entry = step_entry a d in
    let allowed : Allowed m e = last_allowed k.history k'.history e legal more in
    let now : state_of k'.history ≡ after m e = state_more k.history k'.history e more in
    let was : CallIsSeated a (Some call) x = call_is a (call_of m a) call x fits.call is in
    let Q : State → Type 0 = λ v. CallIsSeated a (call_of v a) x in
    let none : kill_of k a ≡ None = none_killed (own_of k a) x was.2 fits.doomed_is in
    record {
      call = subst Q (sym now) (call_left m a d.word d.object d.found d.answer call x (call_of (after m e) a) allowed is was refl);
      retired_is = held;
      doomed_is = none_held (own_of k' a) x was.2 (ap (λ (v : List (Option Out)). the_out (slice_get v a)) kills ∙ none);
    }

-- nothing is out where nothing lies with the actor
pub none_retired : (o : Own) (r : Option PlainDeed) → r ≡ None → HoldsRetired o r → o.out ≡ None
none_retired o None e holds = holds
none_retired o (Some deed) e holds = absurd (cc)

pub holds_none : (o : Own) (r : Option PlainDeed) → r ≡ None → o.out ≡ None → HoldsRetired o r
holds_none o None e none = none
holds_none o (Some deed) e none = absurd (cc)

pub none_is : {X : Type 0} (o : Option X) → is_some o ≡ false → o ≡ None
none_is None e = refl
none_is (Some x) e = absurd (cc)

-- the deed that lies with an actor may go back
pub finishing_is : (o : Own) (r : Option PlainDeed) (deed : PlainDeed) → r ≡ Some deed → HoldsRetired o r → IsFinishing o (plain_facts deed)
finishing_is o r deed e holds =
    let P : Option PlainDeed → Type 0 = λ v. HoldsRetired o v in
    subst P e holds

-- who makes a call is a client
pub client_is : (a : ℕ) (k : Kept) (call : InFlight) (r : Option PlainDeed) (x : Option Doomed) → SeatFits (own_of k a) r x → call_of (state_of k.history) a ≡ Some call → IsClient a
client_is a k call r x fits is = (call_is a (call_of (state_of k.history) a) call x fits.call is).0

-- without a call nothing lies with an actor for a finish
pub idle_retired : (o : Own) (r : Option PlainDeed) → o.call ≡ None → HoldsRetired o r → r ≡ None
idle_retired o None e holds = refl
idle_retired o (Some deed) e holds = let k : Some holds.call ≡ None = sym holds.is ∙ e in absurd (cc)

-- nothing lies with an actor that has nothing out
pub slot_unless : (o : Own) (r : Option PlainDeed) → o.out ≡ None → HoldsRetired o r → r ≡ None
slot_unless o None none holds = refl
slot_unless o (Some deed) none holds = let k : Some holds.out ≡ None = sym holds.out_is ∙ none in absurd (cc)
