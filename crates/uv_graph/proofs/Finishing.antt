-- A buried deed comes home, from a call that finishes its object or from a teardown.
use Rattle.std.proofs.Common.{◌≡◌, ◌≢◌, ℕ, ◌≤◌, true, List, [], ◌∷◌, ◌++◌, Option, Some, None, length, refl, ap, sym, ◌∙◌, subst, inl, inr, ◌⊎◌, ⊎_elim}
use Rattle.std.specs.Prelude.{sum, slice_get}
use Rattle.std.proofs.lemmas.Option.{none-some, same_Some}
use Rattle.std.proofs.lemmas.Bool.{eqb-true, ne_eqb}
use Rattle.uv_num.specs.Kind.{kind_place}
use Rattle.uv_num.specs.Place.{at_place}
use Rattle.uv_num.proofs.PlaceLaws.{length-at_place}
use Rattle.uv_pool.specs.Homes.{Homes, brought, IsOutOf}
use Rattle.uv_machine.specs.declared.entry.Entry.{Entry}
use Rattle.uv_machine.specs.declared.entry.Entry.TheVariants.{Step, Gone}
use Rattle.uv_machine.specs.declared.entry.Word.TheVariants.{Finish}
use Rattle.uv_machine.specs.declared.entry.Answer.TheVariants as answer
use Rattle.uv_machine.specs.declared.object.Object.{Object}
use Rattle.uv_machine.specs.declared.object.Phase.{Phase}
use Rattle.uv_machine.specs.declared.object.Phase.TheVariants as phase
use Rattle.uv_machine.specs.Objects.{has_id, is_made, is_doomed}
use Rattle.uv_machine.specs.Plans.{next_word}
use Rattle.uv_machine.specs.States.{object_with, phase_of}
use Rattle.uv_machine.specs.Histories.{Allowed, after, state_of, IsLegal}
use Rattle.uv_machine.specs.Reached.{is_held_at}
use Rattle.uv_machine.proofs.Members.{Passes-find}
use Rattle.uv_machine.proofs.Owning.{legal_own_stands}
use Rattle.uv_machine.proofs.Turns.{IsTurn-allowed}
use Rattle.uv_machine.proofs.Reaching.{Reached-state_of}
use Rattle.uv_machine.proofs.CelledTurns.{legal_celled}
use Rattle.uv_machine.proofs.Filing.{same_by}
use Rattle.uv_graph.specs.declared.out.Out.{Out}
use Rattle.uv_pool.specs.Deeds.{DeedFacts}
use Rattle.uv_graph.specs.Deeds.{IsDeedBuried}
use Rattle.uv_graph.specs.Hands.{ComesBuried}
use Rattle.uv_graph.specs.Lives.{lives_out}
use Rattle.uv_graph.specs.Kept.{Kept, the_out, put_out, out_of, kill_of}
use Rattle.uv_machine.specs.Logged.{Logged}
use Rattle.uv_graph.specs.Seats.{seat_place, IsAway, HasOut, HasKill, IsTied}
use Rattle.uv_graph.specs.Slots.{put_slot}
use Rattle.uv_graph.proofs.Burying.{finish_buries, gone_buries, out_of_pool, buried_tied}
use Rattle.uv_graph.proofs.Going.{HasOut-after, HasKill-after}
use Rattle.uv_graph.proofs.Handing.{OutCase, out_case}
use Rattle.uv_graph.proofs.Handing.OutCase.{IsThis, IsThat}
use Rattle.uv_graph.proofs.Holders.{same_object}
use Rattle.uv_graph.proofs.Planting.{still, slot_out}
use Rattle.uv_graph.proofs.Taking.{still_kill}
use Rattle.uv_graph.proofs.Tying.{out_now, kill_now}

-- the deed that comes back tells the lives of the cell that is out
buried_now : (h : List Entry) (hand : Option Out) (o : ℕ) (t : DeedFacts) (comes : ComesBuried hand (lives_out h hand) o t) → IsDeedBuried t comes.out (lives_out h (Some comes.out))
buried_now h hand o t comes = let P : Option Out → Type 0 = λ v. IsDeedBuried t comes.out (lives_out h v) in subst P comes.is comes.deed

made_or_doomed : (p : Phase) → (is_made p ≡ true) ⊎ (is_doomed p ≡ true) → is_held_at Finish p ≡ true → is_doomed p ≡ true
made_or_doomed phase.Made h e = absurd cc
made_or_doomed phase.Live h e = absurd cc
made_or_doomed phase.Doomed h e = refl
made_or_doomed phase.Husk (inl h) e = absurd cc
made_or_doomed phase.Husk (inr h) e = absurd cc

-- what a call finishes that has a deed out is doomed
finish_doomed : (h : List Entry) (c : ℕ) (out : Out) (w : _) (a : _) → IsLegal h → Allowed (state_of h) (Step c Finish w None a) → (o : HasOut (state_of h) c out) → is_doomed o.item.phase ≡ true
finish_doomed h c out w a legal allowed o =
    let m = state_of h in
    let t = IsTurn-allowed m c Finish w None a allowed in
    let one : t.call ≡ o.call = same_Some t.call o.call (sym t.is ∙ o.is) in
    let word : next_word o.call ≡ Finish = ap next_word (sym one) ∙ t.word in
    let s = legal_own_stands h legal c out.identity.id o.call o.is o.locked in
    let p = Passes-find (has_id out.identity.id) o.item m.objects o.there in
    let same : s.item ≡ o.item = same_object m s.item o.item (Reached-state_of h legal) s.within p.within (s.id ∙ sym (eqb-true o.item.id out.identity.id p.test)) in
    let held : is_held_at Finish o.item.phase ≡ true = ap (λ (v : Object). is_held_at Finish v.phase) (sym same) ∙ ap (λ v. is_held_at v s.item.phase) (sym word) ∙ s.held in
    made_or_doomed o.item.phase o.phase held

module _ {D : Type 0} (tell : D → DeedFacts) (log log' : Logged) (k k' : Kept) (pools pools' : List (Homes D)) (held held' : List (Option D)) (t : IsTied tell log k pools held) (d : D) (o kept : ℕ)
    (brings : pools' ≡ at_place pools (kind_place (tell d).kind) (brought (tell d).index d)) (clears : held' ≡ at_place held (seat_place (kind_place (tell d).kind) (tell d).index) (put_slot None))
    (legal : IsLegal log'.history) (history : k'.history ≡ log'.history) (covered : sum k'.spares ≤ log'.spare) where
  module _ (c : ℕ) (allowed : Allowed (state_of log.history) (Step c Finish o None (answer.Kept kept))) (comes : ComesBuried (out_of k c) (lives_out log.history (out_of k c)) o (tell d)) where
    has_c : HasOut (state_of log.history) c comes.out
    has_c = t.outs c comes.out comes.is

    there_c : object_with (state_of log.history) o ≡ Some has_c.item
    there_c = ap (object_with (state_of log.history)) (sym comes.object) ∙ has_c.there

    doomed_c : is_doomed has_c.item.phase ≡ true
    doomed_c = finish_doomed log.history c comes.out o (answer.Kept kept) t.legal allowed has_c

    module _ (more : log'.history ≡ log.history ++ Step c Finish o None (answer.Kept kept) ∷ []) (outs : k'.outs ≡ at_place k.outs c (put_out None)) (kills : k'.kills ≡ k.kills) where
      case_c : (a : ℕ) → OutCase (out_of k a) (out_of k' a) c a None
      case_c a = out_case k.outs k'.outs c a None (Some comes.out) outs (slot_out (slice_get k.outs c) comes.out comes.is)

      away_c : (a b o' : ℕ) → (kind_place has_c.item.kind ≡ a → has_c.item.index ≡ b → ⊥) → IsAway k a b o' → IsAway k' a b o'
      away_c a b o' apart w = record {
        actor = w.actor;
        out = w.out;
        named = ⊎_elim
            (λ e. still k k' c w.actor w.out None e (case_c w.actor) (λ mine. (
            let one : comes.out ≡ w.out = same_Some comes.out w.out (sym comes.is ∙ ap (out_of k) mine ∙ e) in
            apart (ap kind_place has_c.same.kind ∙ ap (λ (v : Out). kind_place v.identity.kind) one ∙ w.kind) (has_c.same.index ∙ ap (λ (v : Out). v.index) one ∙ w.index))))
            (λ e. inr (ap (λ v. the_out (slice_get v w.actor)) kills ∙ e))
            w.named;
        kind = w.kind;
        index = w.index;
        object = w.object;
      }

      outs_c : (a : ℕ) (out : Out) → out_of k' a ≡ Some out → OutCase (out_of k a) (out_of k' a) c a None → HasOut (after (state_of log.history) (Step c Finish o None (answer.Kept kept))) a out
      outs_c a out is (IsThis mine now) = absurd (none-some out (sym now ∙ is))
      outs_c a out is (IsThat other now) = HasOut-after (state_of log.history) (Step c Finish o None (answer.Kept kept)) a out (Reached-state_of log.history t.legal) allowed (ne_eqb c a other) (t.outs a out (sym now ∙ is))

      pub finish_tied : IsTied tell log' k' pools' held'
      finish_tied =
          buried_tied tell log log' k k' pools pools' held held' t has_c.item o there_c doomed_c d comes.out has_c.same (buried_now log.history (out_of k c) o (tell d) comes) (Step c Finish o None (answer.Kept kept))
          (finish_buries (state_of log.history) (Reached-state_of log.history t.legal) (legal_celled log.history t.legal) o has_c.item there_c doomed_c c kept allowed) refl more brings clears
          away_c history legal covered (ap (λ v. length v) outs ∙ length-at_place k.outs c (put_out None)) (ap (λ v. length v) kills)
          (λ a out is. out_now log.history log'.history (Step c Finish o None (answer.Kept kept)) a out more (outs_c a out is (case_c a)))
          (λ b out is. kill_now log.history log'.history (Step c Finish o None (answer.Kept kept)) b out more
          (HasKill-after (state_of log.history) (Step c Finish o None (answer.Kept kept)) b out (Reached-state_of log.history t.legal) allowed refl (t.kills b out (sym (ap (λ v. the_out (slice_get v b)) kills) ∙ is))))

  module _ (by : ℕ) (allowed : Allowed (state_of log.history) (Gone o kept)) (comes : ComesBuried (kill_of k by) (lives_out log.history (kill_of k by)) o (tell d)) where
    has_b : HasKill (state_of log.history) by comes.out
    has_b = t.kills by comes.out comes.is

    there_b : object_with (state_of log.history) o ≡ Some has_b.item
    there_b = ap (object_with (state_of log.history)) (sym comes.object) ∙ has_b.there

    module _ (more : log'.history ≡ log.history ++ Gone o kept ∷ []) (kills : k'.kills ≡ at_place k.kills by (put_out None)) (outs : k'.outs ≡ k.outs) where
      case_b : (a : ℕ) → OutCase (kill_of k a) (kill_of k' a) by a None
      case_b a = out_case k.kills k'.kills by a None (Some comes.out) kills (slot_out (slice_get k.kills by) comes.out comes.is)

      away_b : (a b o' : ℕ) → (kind_place has_b.item.kind ≡ a → has_b.item.index ≡ b → ⊥) → IsAway k a b o' → IsAway k' a b o'
      away_b a b o' apart w = record {
        actor = w.actor;
        out = w.out;
        named = ⊎_elim
            (λ e. inl (ap (λ v. the_out (slice_get v w.actor)) outs ∙ e))
            (λ e. still_kill k k' by w.actor w.out None e (case_b w.actor) (λ mine. (
            let one : comes.out ≡ w.out = same_Some comes.out w.out (sym comes.is ∙ ap (kill_of k) mine ∙ e) in
            apart (ap kind_place has_b.same.kind ∙ ap (λ (v : Out). kind_place v.identity.kind) one ∙ w.kind) (has_b.same.index ∙ ap (λ (v : Out). v.index) one ∙ w.index))))
            w.named;
        kind = w.kind;
        index = w.index;
        object = w.object;
      }

      -- two actors don't tear one file
      other_object : (a : ℕ) (out : Out) → (by ≡ a → ⊥) → HasKill (state_of log.history) a out → o ≢ out.identity.id
      other_object a out other h e =
          let one : has_b.item ≡ h.item = same_Some has_b.item h.item (sym there_b ∙ ap (object_with (state_of log.history)) e ∙ h.there) in
          other (same_by by a (sym has_b.torn ∙ ap (λ (v : Object). phase_of (state_of log.history) v.file) one ∙ h.torn))

      kills_b : (a : ℕ) (out : Out) → kill_of k' a ≡ Some out → OutCase (kill_of k a) (kill_of k' a) by a None → HasKill (after (state_of log.history) (Gone o kept)) a out
      kills_b a out is (IsThis mine now) = absurd (none-some out (sym now ∙ is))
      kills_b a out is (IsThat other now) =
          let h = t.kills a out (sym now ∙ is) in
          HasKill-after (state_of log.history) (Gone o kept) a out (Reached-state_of log.history t.legal) allowed (ne_eqb o out.identity.id (other_object a out other h)) h

      pub gone_tied : IsTied tell log' k' pools' held'
      gone_tied =
          buried_tied tell log log' k k' pools pools' held held' t has_b.item o there_b has_b.phase d comes.out has_b.same (buried_now log.history (kill_of k by) o (tell d) comes) (Gone o kept)
          (gone_buries (state_of log.history) (Reached-state_of log.history t.legal) (legal_celled log.history t.legal) o has_b.item there_b has_b.phase kept) refl more brings clears
          away_b history legal covered (ap (λ v. length v) outs) (ap (λ v. length v) kills ∙ length-at_place k.kills by (put_out None))
          (λ a out is. out_now log.history log'.history (Gone o kept) a out more
          (HasOut-after (state_of log.history) (Gone o kept) a out (Reached-state_of log.history t.legal) allowed refl (t.outs a out (sym (ap (λ v. the_out (slice_get v a)) outs) ∙ is))))
          (λ b out is. kill_now log.history log'.history (Gone o kept) b out more (kills_b b out is (case_b b)))

-- the deed that comes back is of its pool, and out
module _ {D : Type 0} (tell : D → DeedFacts) (log : Logged) (k : Kept) (pools : List (Homes D)) (held : List (Option D)) (t : IsTied tell log k pools held) (d : D) (o kept : ℕ) where
  pub finish_out : (c : ℕ) → Allowed (state_of log.history) (Step c Finish o None (answer.Kept kept)) → ComesBuried (out_of k c) (lives_out log.history (out_of k c)) o (tell d)
      → (pool : Homes D) → slice_get pools (kind_place (tell d).kind) ≡ Some pool → IsOutOf tell pool d
  finish_out c allowed comes pool is =
      let h = t.outs c comes.out comes.is in
      let there : object_with (state_of log.history) o ≡ Some h.item = ap (object_with (state_of log.history)) (sym comes.object) ∙ h.there in
      out_of_pool tell log log k k pools pools held held t h.item o there (finish_doomed log.history c comes.out o (answer.Kept kept) t.legal allowed h) d comes.out h.same (buried_now log.history _ o (tell d) comes) pool is

  pub gone_out : (by : ℕ) → Allowed (state_of log.history) (Gone o kept) → ComesBuried (kill_of k by) (lives_out log.history (kill_of k by)) o (tell d)
      → (pool : Homes D) → slice_get pools (kind_place (tell d).kind) ≡ Some pool → IsOutOf tell pool d
  gone_out by allowed comes pool is =
      let h = t.kills by comes.out comes.is in
      let there : object_with (state_of log.history) o ≡ Some h.item = ap (object_with (state_of log.history)) (sym comes.object) ∙ h.there in
      out_of_pool tell log log k k pools pools held held t h.item o there h.phase d comes.out h.same (buried_now log.history _ o (tell d) comes) pool is
