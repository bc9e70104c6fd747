-- Worlds stay worlds where an actor without a call does something.
use Rattle.std.proofs.Common.{◌≡◌, ◌∙◌, ℕ, ◌≤◌, ◌+◌, true, false, List, [], ◌∷◌, ◌++◌, Option, None, Some, slice_get, unwrap_or, refl, sym, ap, subst, arith, inl, inr, ⊎_elim}
use Rattle.std.specs.Prelude.{◌⊎◌, option_map}
use Rattle.std.proofs.lemmas.Bool.Decides.{eqb_tells}
use Rattle.uv_num.specs.declared.errno.Errno.{Errno}
use Rattle.uv_num.specs.declared.request.Request.{Request}
use Rattle.uv_num.specs.Ranges.{is_in_range}
use Rattle.uv_num.proofs.PlaceLaws.{slice_get-at_place_same, slice_get-at_place_other}
use Rattle.uv_pool.specs.declared.plain.PlainDeed.{PlainDeed}
use Rattle.uv_machine.specs.declared.call.InFlight.{InFlight}
use Rattle.uv_machine.specs.declared.entry.Answer.TheVariants as answer
use Rattle.uv_machine.specs.declared.entry.Entry.{Entry}
use Rattle.uv_machine.specs.declared.entry.Entry.TheVariants.{Enter}
use Rattle.uv_machine.specs.declared.state.State.{State}
use Rattle.uv_machine.specs.Effects.{put_call}
use Rattle.uv_machine.specs.Histories.{IsLegal, after, state_of}
use Rattle.uv_machine.specs.Laws.{is_of}
use Rattle.uv_machine.specs.Outside.{MayAnswer}
use Rattle.uv_machine.specs.Plans.{entered}
use Rattle.uv_machine.specs.States.{call_of, the_call}
use Rattle.uv_graph.specs.declared.out.Out.{Out}
use Rattle.uv_graph.specs.Conditions.{HasSpare, IsClient}
use Rattle.uv_graph.specs.Kept.{Kept, kill_of, one_less, spare_of, the_out}
use Rattle.uv_graph.specs.Notes.{Notes, NotesOrSpares, NotesSpared}
use Rattle.uv_graph.specs.Notes.NotesOrSpares.{InNew, InSpare}
use Rattle.uv_graph.specs.Owns.{own_of}
use Rattle.uv_graph.specs.Turns.{IsLost, IsNotedAs, refusal_without}
use Rattle.uv_core.specs.Beside.{OthersKeep}
use Rattle.uv_world.specs.declared.world.Doomed.{Doomed}
use Rattle.uv_world.specs.Celled.{value_of_slot}
use Rattle.uv_world.specs.Seating.{AreSeated, CallIsSeated, HoldsDoomed, IsAtRest, SeatFits, TakesOneSpare}
use Rattle.uv_world.proofs.Seating.{call_same, holds_none, idle_retired, none_held, none_killed, none_retired, seated_after, state_more}
use Rattle.uv_world.proofs.Starting.{no_call_fits}
use Rattle.uv_world.proofs.Stepped.{out_kept}

-- Seats.

-- a seat whose actor has nothing to finish
pub seat_idle : (a : ℕ) (k k' : Kept) (r : Option PlainDeed) (x x' : Option Doomed) → SeatFits (own_of k a) r x → call_of (state_of k.history) a ≡ None → k'.outs ≡ k.outs → CallIsSeated a (call_of (state_of k'.history) a) x' → HoldsDoomed (own_of k' a) x' → SeatFits (own_of k' a) r x'
seat_idle a k k' r x x' fits idle outs call held =
    let empty = idle_retired (own_of k a) r idle fits.retired_is in
    record {
      call = call;
      retired_is = holds_none (own_of k' a) r empty (out_kept k k' a outs (none_retired (own_of k a) r empty fits.retired_is));
      doomed_is = held;
    }

kill_kept : (k k' : Kept) (a : ℕ) → k'.kills ≡ k.kills → kill_of k a ≡ None → kill_of k' a ≡ None
kill_kept k k' a same none = ap (λ (v : List (Option Out)). the_out (slice_get v a)) same ∙ none

-- an actor at rest has done something that leaves its deeds
seated_by :
    (a : ℕ) (k k' : Kept) (r : List (Option PlainDeed)) (x : List (Option Doomed)) → AreSeated k r x → IsAtRest k x a → IsLegal k'.history → OthersKeep a k k' → k'.outs ≡ k.outs → k'.kills ≡ k.kills
    → CallIsSeated a (call_of (state_of k'.history) a) (value_of_slot x a) → AreSeated k' r x
seated_by a k k' r x seated rest legal others outs kills call =
    let fits = seated.seats a in
    let none = kill_kept k k' a kills (none_killed (own_of k a) (value_of_slot x a) rest.doomed_none fits.doomed_is) in
    seated_after a k k' r r x x seated legal others refl refl (λ b ne. refl) (λ b ne. refl)
    (seat_idle a k k' (value_of_slot r a) (value_of_slot x a) (value_of_slot x a) fits rest.call outs call (none_held (own_of k' a) (value_of_slot x a) rest.doomed_none none))

-- and has no call afterwards
pub seated_rested :
    (a : ℕ) (k k' : Kept) (r : List (Option PlainDeed)) (x : List (Option Doomed)) → AreSeated k r x → IsAtRest k x a → IsLegal k'.history → OthersKeep a k k' → k'.outs ≡ k.outs → k'.kills ≡ k.kills
    → call_of (state_of k'.history) a ≡ None → AreSeated k' r x
seated_rested a k k' r x seated rest legal others outs kills none =
    seated_by a k k' r x seated rest legal others outs kills (no_call_fits a (call_of (state_of k'.history) a) (value_of_slot x a) none)

-- by an entry that is none of its calls'
pub seated_noted :
    (a : ℕ) (k k' : Kept) (e : Entry) (r : List (Option PlainDeed)) (x : List (Option Doomed)) → AreSeated k r x → IsAtRest k x a → IsLegal k'.history → OthersKeep a k k' → Notes k k' e → is_of a e ≡ false → AreSeated k' r x
seated_noted a k k' e r x seated rest legal others notes other =
    seated_rested a k k' r x seated rest legal others notes.outs notes.kills (call_same k.history k'.history e a notes.history other ∙ rest.call)

entered_slot : (a f : ℕ) (q : Request) (x : Option Doomed) (slot : Option (Option InFlight)) → IsClient a → is_in_range q ≡ true → x ≡ None → CallIsSeated a (the_call (option_map (put_call (entered f q)) slot)) x
entered_slot a f q x None client range none = tt
entered_slot a f q x (Some slot) client range none = (client, range, none)

entered_fits : (m : State) (a f : ℕ) (q : Request) (x : Option Doomed) → IsClient a → is_in_range q ≡ true → x ≡ None → CallIsSeated a (call_of (after m (Enter a f q answer.Ok)) a) x
entered_fits m a f q x client range none =
    let P : Option (Option InFlight) → Type 0 = λ v. CallIsSeated a (the_call v) x in
    subst P (sym (slice_get-at_place_same m.calls a (put_call (entered f q)))) (entered_slot a f q x (slice_get m.calls a) client range none)

-- a call has entered
pub seated_entered :
    (a f : ℕ) (q : Request) (k k' : Kept) (r : List (Option PlainDeed)) (x : List (Option Doomed)) → AreSeated k r x → IsAtRest k x a → IsLegal k'.history → OthersKeep a k k' → Notes k k' (Enter a f q answer.Ok) → IsClient a → is_in_range q ≡ true
    → AreSeated k' r x
seated_entered a f q k k' r x seated rest legal others notes client range =
    let Q : State → Type 0 = λ v. CallIsSeated a (call_of v a) (value_of_slot x a) in
    seated_by a k k' r x seated rest legal others notes.outs notes.kills
    (subst Q (sym (state_more k.history k'.history (Enter a f q answer.Ok) notes.history)) (entered_fits (state_of k.history) a f q (value_of_slot x a) client range rest.doomed_none))

-- Refusals.

pub noted_is : (k k' : Kept) (a : ℕ) (e : Entry) (r : Option Errno) (errno : Errno) → HasSpare (own_of k a) → IsNotedAs k k' a e r errno ⊎ IsLost k k' a errno → IsNotedAs k k' a e r errno
noted_is k k' a e r errno spare (inl noted) = noted
noted_is k k' a e r errno spare (inr lost) = absurd (omega (arith, spare, lost.dry.none))

-- what a refusal that was noted leaves
pub record Noted (k k' : Kept) (e : Entry) : Type 0 where
  pub history : k'.history ≡ k.history ++ e ∷ []
  pub outs : k'.outs ≡ k.outs
  pub kills : k'.kills ≡ k.kills
  pub spares : TakesOneSpare k k'

pub spares_same : (k k' : Kept) → k'.spares ≡ k.spares → TakesOneSpare k k'
spares_same k k' same = λ c. (let e : spare_of k' c ≡ spare_of k c = ap (λ (v : List ℕ). unwrap_or (slice_get v c) 0) same in omega (arith, e))

pub noted_spared : (k k' : Kept) (a : ℕ) (e : Entry) → NotesSpared k k' e a → spare_of k a ≡ spare_of k' a + 1 → Noted k k' e
noted_spared k k' a e notes one = record {
  history = notes.history;
  outs = notes.outs;
  kills = notes.kills;
  spares = λ c.
      let P : ℕ → Type 0 = λ v. spare_of k v ≤ spare_of k' v + 1 in
      ⊎_elim
      (λ same. subst P (sym same.1) (omega (arith, one)))
      (λ apart. (let e : spare_of k' c ≡ spare_of k c = ap (λ (v : List ℕ). unwrap_or (slice_get v c) 0) notes.spares ∙ ap (λ (v : Option ℕ). unwrap_or v 0) (slice_get-at_place_other k.spares a c one_less apart.1) in omega (arith, e)))
      (eqb_tells c a);
}

pub noted_all : (k k' : Kept) (a : ℕ) (e : Entry) → NotesOrSpares k k' e a → Noted k k' e
noted_all k k' a e (InNew notes) = record { history = notes.history; outs = notes.outs; kills = notes.kills; spares = spares_same k k' notes.spares }
noted_all k k' a e (InSpare notes one) = noted_spared k k' a e notes one

-- Answers.

pub may_ok : (r : Option Errno) → r ≡ None → MayAnswer r answer.Ok
may_ok None e = inl refl
may_ok (Some x) e = absurd (cc)

pub may_refuse : (r : Option Errno) (e : Errno) → e ≡ refusal_without r → MayAnswer r (answer.Refused e)
may_refuse None e is = inr (ap answer.Refused is)
may_refuse (Some x) e is = ap answer.Refused is
