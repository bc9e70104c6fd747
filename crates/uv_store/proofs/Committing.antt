-- An object committed by its create, in what is kept beside the state: its number is published, and no call holds it alone any more.
use Rattle.std.proofs.Common.{◌≡◌, ◌≢◌, ℕ, pos, negsuc, zero, suc, Bool, true, false, List, Option, Some, None, length, cond, refl, ap, sym, ◌∙◌, subst, arith}
use Rattle.std.specs.Prelude.{slice_get, find, not, ◌==◌, ◌||◌, ◌&&◌, nat_lt, option_map, if◌then◌else◌}
use Rattle.std.specs.List.{list_any}
use Rattle.std.proofs.lemmas.Bool.{eq-eqb, ne_eqb, eqb-true}
use Rattle.std.proofs.lemmas.Option.{same_Some}
use Rattle.uv_num.specs.Place.{at_place}
use Rattle.uv_num.proofs.PlaceLaws.{changed_elim, length-at_place, slice_get-at_place_same, slice_get-at_place_other}
use Rattle.uv_machine.specs.declared.entry.CallStep.{CallStep}
use Rattle.uv_machine.specs.declared.entry.Word.{Word}
use Rattle.uv_machine.specs.declared.entry.Word.TheVariants.{Commit}
use Rattle.uv_machine.specs.declared.call.InFlight.{InFlight}
use Rattle.uv_machine.specs.declared.object.Object.{Object}
use Rattle.uv_machine.specs.declared.object.Phase.{Phase}
use Rattle.uv_machine.specs.declared.object.Phase.TheVariants as phase
use Rattle.uv_machine.specs.declared.object.Change.TheVariants.{ToLive}
use Rattle.uv_machine.specs.declared.state.State.{State}
use Rattle.uv_machine.specs.Objects.{has_id, in_file, has_handle, is_published_at, is_made, is_live, is_doomed, is_husk, live_from, is_doomed_in, is_standing_in, with_change, on_object}
use Rattle.uv_machine.specs.Plans.{is_the_number, looks_at, reserves, locks, holds, own_object, without_lock}
use Rattle.uv_machine.specs.States.{the_call, object_with, published, is_taken}
use Rattle.uv_machine.specs.Steps.{told}
use Rattle.uv_machine.specs.Effects.{commit, unless_refused}
use Rattle.uv_machine.specs.Histories.{after}
use Rattle.uv_machine.specs.Reached.{IsIn, IsInPhaseFor}
use Rattle.uv_machine.proofs.Calling.{any_at, false_unless}
use Rattle.uv_machine.proofs.Graph.{find_rising}
use Rattle.uv_machine.proofs.Keeping.{same_object, owns_at_commit}
use Rattle.uv_machine.proofs.Members.{list_any-none, IsIn-into_map}
use Rattle.uv_machine.proofs.OwnCall.{call_stands}
use Rattle.uv_machine.proofs.Planned.{in_plan}
use Rattle.uv_machine.proofs.Turns.{IsTurn, IsTurn-allowed}
use Rattle.uv_handles.specs.declared.slot.Slot.{Slot}
use Rattle.uv_handles.specs.declared.slot.Slot.TheVariants.{Published, Reserved}
use Rattle.uv_handles.specs.Table.{is_free, is_reserved, is_reserved_in, published_at}
use Rattle.uv_handles.proofs.Changes.{taken_within}
use Rattle.uv_store.specs.declared.mark.Mark.{Mark}
use Rattle.uv_store.specs.declared.mark.MarkChange.TheVariants.{Unlocks}
use Rattle.uv_store.specs.Going.{Goes, entry_by}
use Rattle.uv_store.specs.Marks.{looks_by, reads_on, word_for, word_on, word_unlocked, uses_by, users_on, mark_on, marks_by, mark_changed, marks_at_one}
use Rattle.uv_store.specs.Stored.{IsLegalState, IsStored}
use Rattle.uv_store.specs.Tables.{table_at, slot_for, slot_on, AreTables}
use Rattle.uv_store.proofs.Beside.{any_sum, lt_true}
use Rattle.uv_store.proofs.Legal.{goes_on, reached, bounded, own_stands, looks_stand}
use Rattle.uv_store.proofs.Reading.{place_in, locks_holds, looks_tell}
use Rattle.uv_store.proofs.Slots.{slot_made, slot_out, slot_map_in, on_every}
use Rattle.uv_store.proofs.Still.{any_alike, sum_alike, marks_alike, mark_alike}
use Rattle.uv_store.proofs.Stored.{went}
use Rattle.uv_store.proofs.Tabled.{tables_set}
use Rattle.uv_store.proofs.Turned.{any_map, sum_map, marks_map}

live_made : (p : Phase) → is_made (live_from p) ≡ false
live_made phase.Made = refl
live_made phase.Live = refl
live_made phase.Doomed = refl
live_made phase.Husk = refl

live_doomed : (p : Phase) → is_doomed (live_from p) ≡ is_doomed p
live_doomed phase.Made = refl
live_doomed phase.Live = refl
live_doomed phase.Doomed = refl
live_doomed phase.Husk = refl

live_husk : (p : Phase) → is_husk (live_from p) ≡ is_husk p
live_husk phase.Made = refl
live_husk phase.Live = refl
live_husk phase.Doomed = refl
live_husk phase.Husk = refl

made_or_live : (p : Phase) → is_made p ≡ true → is_live p ≡ true → ⊥
made_or_live phase.Made e h = absurd cc
made_or_live phase.Live e h = absurd cc
made_or_live phase.Doomed e h = absurd cc
made_or_live phase.Husk e h = absurd cc

pub none_more : (n : ℕ) → nat_lt 0 n ≡ false → n ≡ 0
none_more zero e = refl
none_more (suc n) e = let yes = lt_true 0 (suc n) (omega arith) in cc

module _ (m : State) (l : IsLegalState m) (c : ℕ) (d : CallStep) (goes : Goes m c d Commit) where
  pub turn : IsTurn m c d.word d.object d.found d.answer (after m (entry_by c d))
  turn = IsTurn-allowed m c d.word d.object d.found d.answer goes.allowed

  abbrev maker : InFlight
  maker = turn.call

  abbrev o : ℕ
  o = d.object

  abbrev later : State
  later = commit m c d.object

  pub commit_gives : after m (entry_by c d) ≡ commit m c d.object
  commit_gives = went m c d Commit turn.call turn.is goes.word ∙ ap (λ r. unless_refused m c r (commit m c d.object)) goes.fine

  legal : IsLegalState later
  legal = let Q : State → Type 0 = λ v. IsLegalState v in subst Q commit_gives (goes_on m (entry_by c d) l goes.allowed)

  object : own_object maker ≡ o
  object = let P : Word → Type 0 = λ w. (told m c maker d.found w).object ≡ o in subst P goes.word turn.object

  own : maker.locked ≡ Some o
  own = owns_at_commit m (reached m l) c maker turn.is (in_plan maker Commit (turn.word ∙ goes.word) refl) ∙ ap (λ (n : ℕ). Some n) object

  pub stands : IsInPhaseFor Commit m.objects o
  stands = let P : Word → Type 0 = λ w. IsInPhaseFor w m.objects o in subst P (turn.word ∙ goes.word) (own_stands m l c o maker turn.is own)

  abbrev x : Object
  x = stands.item

  made : is_made x.phase ≡ true
  made = stands.held

  pub is_there : (v : Option Object) → object_with m d.object ≡ v → v ≡ Some stands.item
  is_there v e =
      let P : ℕ → Type 0 = λ n. find (has_id n) m.objects ≡ Some x in
      sym e ∙ subst P stands.id (find_rising 0 m.made x m.objects stands.within (reached m l).graph.rising)

  at : slice_get m.calls c ≡ Some (Some maker)
  at = call_stands m c maker turn.is

  abbrev g : Option InFlight → Option InFlight
  g = option_map without_lock

  -- No call holds the object after it.

  looks_not : looks_at o maker ≡ false
  looks_not = false_unless (looks_at o maker) (λ looked.
      let s = looks_stand m l c o maker turn.is looked in
      let same : x ≡ s.item = same_object m (reached m l) x s.item stands.within s.within (stands.id ∙ sym s.id) in
      let P : Object → Type 0 = λ v. is_live v.phase ≡ true in
      made_or_live x.phase made (subst P (sym same) s.live))

  alone : (j : ℕ) (s : Option InFlight) (b : Bool) → (j == c) ≡ b → slice_get later.calls j ≡ Some s → holds o s ≡ false
  alone j s true e h =
      let here : slice_get later.calls c ≡ Some s = ap (slice_get later.calls) (sym (eqb-true j c e)) ∙ h in
      let there : slice_get later.calls c ≡ Some (g (Some maker)) = slice_get-at_place_same m.calls c g ∙ ap (option_map g) at in
      let is : g (Some maker) ≡ s = same_Some _ _ (sym there ∙ here) in
      ap (holds o) (sym is) ∙ looks_not
  alone j None false e h = refl
  alone j (Some k) false e h =
      let apart : j ≢ c = λ same. (let yes = eq-eqb j c same in cc) in
      let there : slice_get m.calls j ≡ Some (Some k) = sym (slice_get-at_place_other m.calls c j g apart) ∙ h in
      (reached m l).alone c j maker k o turn.is (ap the_call there) (λ same. apart (sym same)) own

  unheld : (s : Option InFlight) → IsIn s later.calls → holds o s ≡ false
  unheld s k = let p = place_in s later.calls k in alone p.0 s (p.0 == c) refl p.1

  free_now : word_on later.calls o ≡ pos 0
  free_now =
      let unlocked : list_any (locks o) later.calls ≡ false = list_any-none (locks o) later.calls (λ s k. locks_holds o s (unheld s k)) in
      let unread : reads_on later.calls o ≡ 0 = none_more (reads_on later.calls o) (any_sum (looks_by o) (holds o) later.calls (λ s k. looks_tell o s (locks_holds o s (unheld s k))) ∙ list_any-none (holds o) later.calls (λ s k. unheld s k)) in
      ap (λ b. word_for b (reads_on later.calls o)) unlocked ∙ ap (λ n. pos n) unread

  locked_before : word_on m.calls o ≡ negsuc 0
  locked_before =
      ap (λ b. word_for b (reads_on m.calls o)) (any_at (locks o) m.calls c (Some maker) at (ap (is_the_number o) own ∙ eq-eqb o o refl))

  others_stay : (i : ℕ) → i ≢ o → word_on later.calls i ≡ word_on m.calls i
  others_stay i apart =
      let locks_same : list_any (locks i) later.calls ≡ list_any (locks i) m.calls = any_alike (locks i) g m.calls c (λ s e. (let P : Option InFlight → Type 0 = λ v. locks i (g v) ≡ locks i v in subst P (same_Some _ _ (sym at ∙ e)) (sym (ap (is_the_number i) own ∙ ne_eqb o i (λ same. apart (sym same)))))) in
      let reads_same : reads_on later.calls i ≡ reads_on m.calls i = sum_alike (looks_by i) g m.calls c (λ s e. elim s as (λ v. looks_by i (g v) ≡ looks_by i v) [ None ↦ refl | Some k ↦ refl ]) in
      ap (λ b. word_for b (reads_on later.calls i)) locks_same ∙ ap (λ n. word_for (list_any (locks i) m.calls) n) reads_same

  users_same : (i : ℕ) → users_on later.objects i ≡ users_on m.objects i
  users_same i = sum_map (uses_by i) (on_object o ToLive) m.objects (on_every o ToLive (uses_by i) (λ y. refl))

  mark_turned : (i : ℕ) → marks_at_one Unlocks o (mark_on m) i ≡ mark_on later i
  mark_turned =
      changed_elim (λ i k. k ≡ mark_on later i) (mark_on m) o (mark_changed Unlocks (mark_on m o))
      (mark_alike (mark_changed Unlocks (mark_on m o)) (mark_on later o) (ap word_unlocked locked_before ∙ sym free_now) (sym (users_same o)))
      (λ i apart. mark_alike (mark_on m i) (mark_on later i) (sym (others_stay i apart)) (sym (users_same i)))

  marked : (marks marks' : List Mark) → marks' ≡ marks_by (marks_at_one Unlocks o (mark_on m)) m.objects → marks' ≡ marks_by (mark_on later) later.objects
  marked marks marks' is =
      is
      ∙ (marks_alike (marks_at_one Unlocks o (mark_on m)) (mark_on later) m.objects mark_turned
      ∙ sym (marks_map (mark_on later) (on_object o ToLive) m.objects (on_every o ToLive (λ y. y.id) (λ y. refl))))

  -- The table of its file.

  was_set : slot_on m x.file x.handle ≡ Reserved
  was_set = slot_made m (bounded m l) x stands.within made

  now_out : slot_on later x.file x.handle ≡ Published x.id
  now_out =
      let y = with_change ToLive x in
      let is : on_object o ToLive x ≡ y = ap (λ b. if b then with_change ToLive x else x) (eq-eqb x.id o stands.id) in
      let P : Object → Type 0 = λ v. IsIn v later.objects in
      slot_out later (bounded later legal) y (subst P is (IsIn-into_map (on_object o ToLive) x m.objects stands.within)) (live_made x.phase)

  unseen : (k i : ℕ) → has_handle k i x ≡ false → (y : Object) → IsIn y m.objects → (b : Bool) → has_id o y ≡ b → is_published_at k i (if b then with_change ToLive y else y) ≡ is_published_at k i y
  unseen k i miss y w false e = refl
  unseen k i miss y w true e =
      let same : x ≡ y = same_object m (reached m l) x y stands.within w (stands.id ∙ sym (eqb-true y.id o e)) in
      let off : has_handle k i y ≡ false = ap (has_handle k i) (sym same) ∙ miss in
      ap (λ v. v && not (is_made (live_from y.phase))) off ∙ sym (ap (λ v. v && not (is_made y.phase)) off)

  off_handle : (k i : ℕ) → (k ≡ x.file → i ≡ x.handle → ⊥) → (b : Bool) → (x.file == k) ≡ b → has_handle k i x ≡ false
  off_handle k i apart true e = ap (λ v. v && (x.handle == i)) e ∙ ne_eqb x.handle i (λ same. apart (sym (eqb-true x.file k e)) (sym same))
  off_handle k i apart false e = ap (λ v. v && (x.handle == i)) e

  others : (k i : ℕ) → (k ≡ x.file → i ≡ x.handle → ⊥) → slot_on later k i ≡ slot_on m k i
  others k i apart =
      let miss = off_handle k i apart (x.file == k) refl in
      let kept : list_any (has_handle k i) later.objects ≡ list_any (has_handle k i) m.objects = any_map (has_handle k i) (on_object o ToLive) m.objects (on_every o ToLive (has_handle k i) (λ y. refl)) in
      let set : list_any (reserves k i) later.calls ≡ list_any (reserves k i) m.calls = any_alike (reserves k i) g m.calls c (λ s e. elim s as (λ v. reserves k i (g v) ≡ reserves k i v) [ None ↦ refl | Some j ↦ refl ]) in
      ap (λ b. slot_for (published later k i) (b || list_any (reserves k i) later.calls)) kept
      ∙ (ap (λ b. slot_for (published later k i) (list_any (has_handle k i) m.objects || b)) set
      ∙ slot_map_in (is_published_at k i) (on_object o ToLive) (is_taken m k i) m.objects (λ y w. unseen k i miss y w (has_id o y) refl) (on_every o ToLive (λ y. y.id) (λ y. refl)))

  pub set_aside : (tables : List (List Slot)) → AreTables tables m → is_reserved_in (table_at tables stands.item.file) stands.item.handle ≡ true
  set_aside tables are = ap is_reserved (are x.file x.handle ∙ was_set)

  pub stored_commit : (marks marks' : List Mark) (tables tables' : List (List Slot)) (doomed standing : List ℕ) → IsStored m marks tables doomed standing → marks' ≡ marks_by (marks_at_one Unlocks d.object (mark_on m)) m.objects → tables' ≡ at_place tables stands.item.file (published_at stands.item.handle stands.item.id) → IsStored (commit m c d.object) marks' tables' doomed standing
  stored_commit marks marks' tables tables' doomed standing s is gives =
      let file = ((bounded m l).handles x stands.within).0 in
      let low = taken_within (table_at tables x.file) x.handle (ap (λ v. not (is_free v)) (s.tabled x.file x.handle ∙ was_set)) in
      let P : List (List Slot) → Type 0 = λ v. AreTables v later in
      let one : (ℕ → Object → Bool) → ℕ → Object → ℕ = λ p f y. cond (p f y) 1 0 in
      record {
        legal = legal;
        marked = marked marks marks' is;
        files = ap length gives ∙ (length-at_place tables x.file (published_at x.handle x.id) ∙ s.files);
        tabled = subst P (sym gives) (tables_set tables m later x.file x.handle (Published x.id) (omega (arith, file, s.files)) low s.tabled (sym now_out) others);
        dooms = λ f. s.dooms f ∙ sym (sum_map (one is_doomed_in f) (on_object o ToLive) m.objects (on_every o ToLive (one is_doomed_in f) (λ y. ap (λ b. cond (in_file f y && b) 1 0) (live_doomed y.phase))));
        stands = λ f. s.stands f ∙ sym (sum_map (one is_standing_in f) (on_object o ToLive) m.objects (on_every o ToLive (one is_standing_in f) (λ y. ap (λ b. cond (in_file f y && not b) 1 0) (live_husk y.phase))));
      }
