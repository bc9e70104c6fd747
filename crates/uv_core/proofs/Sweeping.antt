-- What a turn of a teardown leaves of its actor's own part.
use Rattle.std.proofs.Common.{◌≡◌, ℕ, zero, suc, ◌+◌, ◌<◌, Bool, true, false, List, [], ◌∷◌, ◌++◌, Option, Some, None, cond, length, refl, ap, sym, ◌∙◌, subst, arith}
use Rattle.std.specs.Prelude.{position, slice_get}
use Rattle.std.specs.List.{position_from}
use Rattle.std.proofs.lemmas.Bool.{eq-eqb}
use Rattle.std.proofs.lemmas.Iterator.Adapters.{position_from-zero}
use Rattle.std.proofs.lemmas.Option.{none-some}
use Rattle.uv_num.specs.declared.limits.TheConstants.{FILES}
use Rattle.uv_num.specs.Place.{at_place}
use Rattle.uv_num.proofs.PlaceLaws.{at_place-cons}
use Rattle.uv_pool.specs.Deeds.{DeedFacts}
use Rattle.uv_machine.specs.declared.entry.Entry.{Entry}
use Rattle.uv_machine.specs.declared.entry.Entry.TheVariants as entry
use Rattle.uv_machine.specs.declared.file.FilePhase.TheVariants.{Tearing}
use Rattle.uv_machine.specs.declared.object.Object.{Object}
use Rattle.uv_machine.specs.declared.state.State.{State}
use Rattle.uv_machine.specs.Effects.{gone_from, in_phase}
use Rattle.uv_machine.specs.States.{object_with}
use Rattle.uv_machine.specs.Histories.{after, state_of, IsLegal}
use Rattle.uv_machine.proofs.Reaching.{Reached-state_of}
use Rattle.uv_graph.specs.declared.out.Out.{Out}
use Rattle.uv_graph.specs.declared.told.Swept.{Swept}
use Rattle.uv_graph.specs.declared.told.Swept.TheVariants as swept
use Rattle.uv_graph.specs.declared.told.Torn.{Torn}
use Rattle.uv_graph.specs.declared.told.Torn.TheVariants as torn
use Rattle.uv_graph.specs.Conditions.{IsSweeper, IsReleasing}
use Rattle.uv_graph.specs.Deeds.{IsDeedPlantedFor}
use Rattle.uv_graph.specs.Hands.{out_in}
use Rattle.uv_graph.specs.Kept.{Kept, kill_of, the_out}
use Rattle.uv_graph.specs.Lives.{lives_out}
use Rattle.uv_graph.specs.Owns.{own_of, tears_it, AreOut, TearsNone}
use Rattle.uv_graph.specs.Turns.{TearGives, SweepGives, ReleasesBy}
use Rattle.uv_graph.proofs.MachineLaws.{state_goes_on}
use Rattle.uv_graph.proofs.Tearing.{none_tears}
use Rattle.uv_core.specs.Leads.{TearLeads, SweepLeads}
use Rattle.uv_core.proofs.Leading.{none_here}

-- The first item that passes, once one is changed to.

module _ {X : Type 0} (p : X → Bool) (g : X → X) (passes : (x : X) → p (g x) ≡ true) where
  fails_first : (n : ℕ) (rest : Option ℕ) (b : Bool) → cond b (Some n) rest ≡ None → (b ≡ false) × (rest ≡ None)
  fails_first n rest true e = absurd (none-some n (sym e))
  fails_first n rest false e = (refl, e)

  first_changed : (n : ℕ) (xs : List X) (i : ℕ) → position_from p n xs ≡ None → i < length xs → position_from p n (at_place xs i g) ≡ Some (n + i)
  first_changed n [] i none low = absurd (omega (arith, low))
  first_changed n (x ∷ xs) zero none low =
      let place : n ≡ n + 0 = omega arith in
      ap (λ b. cond b (Some n) (position_from p (n + 1) xs)) (passes x) ∙ ap (λ (v : ℕ). Some v) place
  first_changed n (x ∷ xs) (suc i) none low =
      let parts = fails_first n (position_from p (n + 1) xs) (p x) none in
      let place : n + 1 + i ≡ n + suc i = omega arith in
      ap (position_from p n) (at_place-cons x xs i g) ∙ ap (λ b. cond b (Some n) (position_from p (n + 1) (at_place xs i g))) parts.0
      ∙ first_changed (n + 1) xs i parts.1 (omega (arith, low)) ∙ ap (λ (v : ℕ). Some v) place

  first_is : (xs : List X) (i : ℕ) → position p xs ≡ None → i < length xs → position p (at_place xs i g) ≡ Some i
  first_is xs i none low =
      let place : 0 + i ≡ i = omega arith in
      position_from-zero p (at_place xs i g) ∙ first_changed 0 xs i (sym (position_from-zero p xs) ∙ none) low ∙ ap (λ (v : ℕ). Some v) place

-- who tears no file has no deed of one out
kill_by : (k : Kept) (b : ℕ) (slot : Option Out) → AreOut k → TearsNone (own_of k b) → kill_of k b ≡ slot → slot ≡ None
kill_by k b None outs none is = refl
kill_by k b (Some out) outs none is =
    let has = outs.kills b out is in
    absurd (none_tears (state_of k.history) b has.item.file none has.torn)

files_gone : (m : State) (o : ℕ) (slot : Option Object) → (gone_from m o slot).files ≡ m.files
files_gone m o None = refl
files_gone m o (Some x) = refl

module _ (old new : Kept) (by f : ℕ) where
  tear_same : (e : Entry) → new.history ≡ old.history ++ e ∷ [] → (after (state_of old.history) e).files ≡ (state_of old.history).files → (own_of new by).tear ≡ (own_of old by).tear
  tear_same e more same =
      ap (λ (s : State). position (tears_it by) s.files) (ap state_of more ∙ state_goes_on old.history e) ∙ ap (position (tears_it by)) same

  pub tear_leads : (r : Torn) → f < FILES → IsLegal old.history → AreOut old → TearsNone (own_of old by) → TearGives old new f by r → TearLeads (own_of new by) f r
  tear_leads torn.Began low legal outs none g =
      let m = state_of old.history in
      let long = (Reached-state_of old.history legal).files in
      let now : state_of new.history ≡ after m (entry.Tear f by) = ap state_of g.history ∙ state_goes_on old.history (entry.Tear f by) in
      record {
        tearing = ap (λ (s : State). position (tears_it by) s.files) now ∙ first_is (tears_it by) (in_phase (Tearing by)) (λ x. eq-eqb by by refl) m.files f none (omega (arith, low, long));
        none = ap (λ v. the_out (slice_get v by)) g.kills ∙ kill_by old by (kill_of old by) outs none refl;
      }
  tear_leads (torn.NotYet actor) low legal outs none g = (let P : Kept → Type 0 = λ k. TearsNone (own_of k by) in subst P (sym g) none)
  tear_leads (torn.Refused e) low legal outs none g = (let P : Kept → Type 0 = λ k. TearsNone (own_of k by) in subst P (sym g) none)

  pub sweep_leads : {D : Type 0} (tell : D → DeedFacts) (r : Swept D) → IsSweeper (own_of old by) f → SweepGives tell old new by f r → SweepLeads tell (own_of new by) f r
  sweep_leads tell (swept.Kill deed object kind handle) s g =
      let x = g.hands.item in
      let out : Out = out_in old.history x in
      let Q : Option Out → Type 0 = λ v. IsDeedPlantedFor (tell deed) out (lives_out new.history v) in
      record {
        tearing = tear_same (entry.Kill object) g.hands.notes.history refl ∙ s.tearing;
        out = out;
        out_is = g.hands.in_hand;
        deed = subst Q (sym g.hands.in_hand) g.hands.deed;
      }
  sweep_leads tell swept.Done s g = g.torn
  sweep_leads tell (swept.NotYet n) s g = (let P : Kept → Type 0 = λ k. IsSweeper (own_of k by) f in subst P (sym g.same) s)

  pub gone_leads : (t : DeedFacts) (kept : ℕ) → IsReleasing (own_of old by) f t → ReleasesBy old new by kept → IsSweeper (own_of new by) f
  gone_leads t kept r g =
      let m = state_of old.history in
      let o = g.out.identity.id in
      record {
        tearing = tear_same (entry.Gone o kept) g.notes.history (files_gone m o (object_with m o)) ∙ r.tearing;
        none = none_here old.kills new.kills by g.notes.kills;
      }
