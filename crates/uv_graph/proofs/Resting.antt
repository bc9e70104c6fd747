-- The object that a call holds exclusively as it is about to check or to finish it.
use Rattle.std.proofs.Common.{◌≡◌, ℕ, true, false, Option, Some, None, List, refl, sym, ap, ◌∙◌, ⊎_elim}
use Rattle.std.specs.Prelude.{◌||◌}
use Rattle.std.proofs.lemmas.Option.{none-some, same_Some}
use Rattle.uv_pool.specs.Homes.{Homes}
use Rattle.uv_machine.specs.declared.entry.Entry.{Entry}
use Rattle.uv_machine.specs.declared.entry.Word.{Word}
use Rattle.uv_machine.specs.declared.entry.Word.TheVariants.{Check, Finish}
use Rattle.uv_machine.specs.declared.object.Object.{Object}
use Rattle.uv_machine.specs.declared.object.Phase.{Phase}
use Rattle.uv_machine.specs.declared.object.Phase.TheVariants as phase
use Rattle.uv_machine.specs.declared.call.InFlight.{InFlight}
use Rattle.uv_machine.specs.declared.state.State.{State}
use Rattle.uv_machine.specs.Objects.{is_doomed, is_husk}
use Rattle.uv_machine.specs.Plans.{next_word, own_object, looks_at, holds}
use Rattle.uv_machine.specs.States.{call_of, object_with}
use Rattle.uv_machine.specs.Histories.{IsLegal, state_of}
use Rattle.uv_machine.specs.Reached.{IsIn, is_held_at}
use Rattle.uv_machine.proofs.Calling.{quiet_none}
use Rattle.uv_machine.proofs.Keeping.{owns_at_check, owns_at_finish, locks_it}
use Rattle.uv_machine.proofs.Owning.{legal_own_stands}
use Rattle.uv_machine.proofs.Planned.{in_plan}
use Rattle.uv_machine.proofs.Reaching.{Reached-state_of}
use Rattle.uv_graph.specs.declared.out.Out.{Out}
use Rattle.uv_pool.specs.Deeds.{DeedFacts}
use Rattle.uv_graph.specs.Kept.{Kept, out_of, kill_of}
use Rattle.uv_machine.specs.Logged.{Logged}
use Rattle.uv_graph.specs.Seats.{IsTied}
use Rattle.uv_graph.specs.Turns.{is_husk_object}
use Rattle.uv_graph.proofs.Holders.{object_is}

-- the object with this id stands there, in a phase that the word allows
pub record IsOwn (m : State) (w : Word) (o : ℕ) : Type 0 where
  pub item : Object
  pub within : IsIn item m.objects
  pub id : item.id ≡ o
  pub there : object_with m o ≡ Some item
  pub held : is_held_at w item.phase ≡ true

module _ (h : List Entry) (legal : IsLegal h) (c : ℕ) (call : InFlight) (is : call_of (state_of h) c ≡ Some call) where
  own_stands : (w : Word) → next_word call ≡ w → call.locked ≡ Some (own_object call) → IsOwn (state_of h) w (own_object call)
  own_stands w word own =
      let s = legal_own_stands h legal c (own_object call) call is own in
      record {
        item = s.item;
        within = s.within;
        id = s.id;
        there = ap (object_with (state_of h)) (sym s.id) ∙ object_is (state_of h) s.item (Reached-state_of h legal) s.within;
        held = ap (λ v. is_held_at v s.item.phase) (sym word) ∙ s.held;
      }

  pub checks_own : next_word call ≡ Check → IsOwn (state_of h) Check (own_object call)
  checks_own word = own_stands Check word (owns_at_check (state_of h) (Reached-state_of h legal) c call is (in_plan call Check word refl))

  pub finish_locks : next_word call ≡ Finish → call.locked ≡ Some (own_object call)
  finish_locks word = owns_at_finish (state_of h) (Reached-state_of h legal) c call is (in_plan call Finish word refl)

  pub finishes_own : next_word call ≡ Finish → IsOwn (state_of h) Finish (own_object call)
  finishes_own word = own_stands Finish word (finish_locks word)

husk_by : (p : Phase) → is_held_at Finish p ≡ true → (is_doomed p ≡ true → ⊥) → is_husk p ≡ true
husk_by phase.Made e h = absurd cc
husk_by phase.Live e h = absurd cc
husk_by phase.Doomed e h = absurd (h refl)
husk_by phase.Husk e h = refl

-- A call without a deed out that is about to finish: the deed of a doomed object is in an actor's hands, which would be a call that
-- holds the object beside this one, or a teardown of the file while this call is in flight.
module _ {D : Type 0} (tell : D → DeedFacts) (log : Logged) (k : Kept) (pools : List (Homes D)) (held : List (Option D)) (t : IsTied tell log k pools held)
    (c : ℕ) (call : InFlight) (is : call_of (state_of log.history) c ≡ Some call) (word : next_word call ≡ Finish) (none : out_of k c ≡ None) where
  not_in_call : (own : IsOwn (state_of log.history) Finish (own_object call)) (b : ℕ) (out : Out) → out_of k b ≡ Some out → out.identity.id ≡ own.item.id → ⊥
  not_in_call own b out e object =
      let m = state_of log.history in
      let r = Reached-state_of log.history t.legal in
      let o = own_object call in
      let h = t.outs b out e in
      let mine : h.call.locked ≡ Some o = h.locked ∙ ap (λ (v : ℕ). Some v) (object ∙ own.id) in
      let free : holds o (Some call) ≡ false = r.alone b c h.call call o h.is is (λ same. none-some out (sym none ∙ ap (out_of k) (sym same) ∙ e)) mine in
      let both : (true || looks_at o call) ≡ false = ap (λ v. v || looks_at o call) (sym (locks_it o call.locked (finish_locks log.history t.legal c call is word))) ∙ free in
      absurd cc

  not_in_teardown : (own : IsOwn (state_of log.history) Finish (own_object call)) (b : ℕ) (out : Out) → kill_of k b ≡ Some out → out.identity.id ≡ own.item.id → ⊥
  not_in_teardown own b out e object =
      let m = state_of log.history in
      let r = Reached-state_of log.history t.legal in
      let h = t.kills b out e in
      let one : h.item ≡ own.item = same_Some h.item own.item (sym h.there ∙ ap (object_with m) object ∙ object_is m own.item r own.within) in
      let file : own.item.file ≡ call.file = (r.holds_well c call is).placed (own_object call) (finish_locks log.history t.legal c call is word) own.item own.within own.id in
      quiet_none m c h.item.file call h.quiet is (sym (ap (λ (v : Object). v.file) one ∙ file))

  not_doomed : (own : IsOwn (state_of log.history) Finish (own_object call)) → is_doomed own.item.phase ≡ true → ⊥
  not_doomed own doomed =
      let w = t.handed own.item own.within doomed in
      ⊎_elim (λ e. not_in_call own w.actor w.out e w.object) (λ e. not_in_teardown own w.actor w.out e w.object) w.named

  pub finishes_husk : is_husk_object (object_with (state_of log.history) (own_object call)) ≡ true
  finishes_husk =
      let own = finishes_own log.history t.legal c call is word in
      ap is_husk_object own.there ∙ husk_by own.item.phase own.held (not_doomed own)
