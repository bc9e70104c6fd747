-- An object that its destroy finishes, in what is kept beside the state: it goes, with its number, its uses and its counts.
use Rattle.std.proofs.Common.{◌≡◌, ◌≢◌, ℕ, zero, suc, ◌+◌, Bool, true, false, List, [], ◌∷◌, Option, Some, None, inl, inr, length, cond, refl, ap, sym, ◌∙◌, subst, arith}
use Rattle.std.specs.Prelude.{slice_get, find, filter, not, is_some, ◌==◌, ◌||◌, ◌&&◌, sum_by, count_by, option_map, if◌then◌else◌}
use Rattle.std.specs.List.{list_any, remove}
use Rattle.std.proofs.lemmas.Bool.{eq-eqb, ne_eqb, eqb-true}
use Rattle.std.proofs.lemmas.List.Sums.{sum_by-cons}
use Rattle.std.proofs.lemmas.Option.{same_Some}
use Rattle.uv_num.specs.declared.limits.TheConstants.{FILES}
use Rattle.uv_num.specs.Ids.{ids_of}
use Rattle.uv_num.specs.Kind.{kind_place}
use Rattle.uv_num.specs.Place.{at_place}
use Rattle.uv_num.proofs.PlaceLaws.{length-at_place}
use Rattle.uv_machine.specs.declared.entry.CallStep.{CallStep}
use Rattle.uv_machine.specs.declared.entry.Word.{Word}
use Rattle.uv_machine.specs.declared.entry.Word.TheVariants.{Finish}
use Rattle.uv_machine.specs.declared.call.InFlight.{InFlight}
use Rattle.uv_machine.specs.declared.object.Object.{Object}
use Rattle.uv_machine.specs.declared.object.Phase.{Phase}
use Rattle.uv_machine.specs.declared.object.Phase.TheVariants as phase
use Rattle.uv_machine.specs.declared.state.State.{State}
use Rattle.uv_machine.specs.Cells.{buried_at}
use Rattle.uv_machine.specs.Objects.{has_id, has_handle, is_published_at, is_made, is_doomed, is_husk, is_doomed_in, is_standing_in}
use Rattle.uv_machine.specs.Plans.{is_the_number, reserves, locks, own_object, without_lock}
use Rattle.uv_machine.specs.States.{object_with, published, is_taken}
use Rattle.uv_machine.specs.Steps.{told}
use Rattle.uv_machine.specs.Effects.{finish, not_with_id, with_call, without_object, with_burial, buried_if_doomed, unless_refused}
use Rattle.uv_machine.specs.Histories.{after}
use Rattle.uv_machine.specs.Reached.{IsIn, IsInPhaseFor}
use Rattle.uv_machine.proofs.Graph.{find_rising}
use Rattle.uv_machine.proofs.Keeping.{same_object, owns_at_finish}
use Rattle.uv_machine.proofs.Members.{Passes-filter, fails_any, list_any-none}
use Rattle.uv_machine.proofs.OwnCall.{call_stands}
use Rattle.uv_machine.proofs.Planned.{in_plan}
use Rattle.uv_machine.proofs.Turns.{IsTurn, IsTurn-allowed}
use Rattle.uv_handles.specs.declared.slot.Slot.{Slot}
use Rattle.uv_handles.specs.declared.slot.Slot.TheVariants.{Free, Published}
use Rattle.uv_handles.specs.Table.{is_free, object_of, is_published_in, freed_at}
use Rattle.uv_handles.proofs.Changes.{taken_within}
use Rattle.uv_store.specs.declared.counts.CountChange.TheVariants.{OneLess}
use Rattle.uv_store.specs.Counts.{AreCounts, count_at, recounted, uncounted_if_doomed}
use Rattle.uv_store.specs.Going.{Goes, entry_by}
use Rattle.uv_store.specs.Marks.{looks_by, reads_on, word_for, word_on, uses_by, users_on, mark_on, marks_by, marks_at}
use Rattle.uv_store.specs.Stored.{IsLegalState, IsStored}
use Rattle.uv_store.specs.Tables.{table_at, slot_for, slot_on, AreTables}
use Rattle.uv_store.specs.Turning.{buried_with}
use Rattle.uv_store.specs.declared.mark.Mark.{Mark}
use Rattle.uv_store.specs.declared.mark.MarkChange.TheVariants.{LosesUser}
use Rattle.uv_store.proofs.Aborting.{no_count, not_found, or_no, and_no}
use Rattle.uv_store.proofs.Beside.{any_count}
use Rattle.uv_store.proofs.Kept.{any_kept, find_kept}
use Rattle.uv_store.proofs.Legal.{goes_on, reached, bounded, own_stands, rises}
use Rattle.uv_store.proofs.Placing.{taken_object}
use Rattle.uv_store.proofs.Reading.{place_in}
use Rattle.uv_store.proofs.Slots.{slot_out}
use Rattle.uv_store.proofs.Still.{any_alike, sum_alike, mark_alike, still_same, stored_beside}
use Rattle.uv_store.proofs.Stored.{went}
use Rattle.uv_store.proofs.Tabled.{tables_set}
use Rattle.uv_store.proofs.Turned.{one_less}
use Rattle.uv_store.proofs.Users.{loses_all, less_used}

doomed_only : (p : Phase) → is_doomed p ≡ true → (is_made p ≡ false) × (is_husk p ≡ false)
doomed_only phase.Made e = absurd cc
doomed_only phase.Live e = absurd cc
doomed_only phase.Doomed e = (refl, refl)
doomed_only phase.Husk e = absurd cc

husk_else : (p : Phase) → (is_doomed p || is_husk p) ≡ true → is_doomed p ≡ false → is_husk p ≡ true
husk_else phase.Made e h = absurd cc
husk_else phase.Live e h = absurd cc
husk_else phase.Doomed e h = absurd cc
husk_else phase.Husk e h = refl

and_false : (b : Bool) → (b && false) ≡ false
and_false true = refl
and_false false = refl

and_true : (b : Bool) → (b && true) ≡ b
and_true true = refl
and_true false = refl

held_out : (p : Phase) → (is_doomed p || is_husk p) ≡ true → is_made p ≡ false
held_out phase.Made e = cc
held_out phase.Live e = cc
held_out phase.Doomed e = refl
held_out phase.Husk e = refl

-- the sum of a list without one item
sum_removed : {X : Type 0} (w : X → ℕ) (xs : List X) (i : ℕ) (x : X) → slice_get xs i ≡ Some x → sum_by w (remove xs i) + w x ≡ sum_by w xs
sum_removed w [] i x e = cc
sum_removed w (y ∷ ys) zero x e = let same : w y ≡ w x = ap w (same_Some _ _ e) in omega (arith, sum_by-cons w y ys, same)
sum_removed w (y ∷ ys) (suc i) x e = omega (arith, sum_by-cons w y ys, sum_by-cons w y (remove ys i), sum_removed w ys i x e)

-- marks of objects that are in a list
pub marks_alike_in : (g h : ℕ → Mark) (xs : List Object) → ((x : Object) → IsIn x xs → g x.id ≡ h x.id) → marks_by g xs ≡ marks_by h xs
marks_alike_in g h [] same = refl
marks_alike_in g h (x ∷ xs) same = ap (λ k. k ∷ marks_by g xs) (same x (inl refl)) ∙ ap (λ ks. h x.id ∷ ks) (marks_alike_in g h xs (λ y k. same y (inr k)))

module _ (m : State) (l : IsLegalState m) (c : ℕ) (d : CallStep) (goes : Goes m c d Finish) where
  pub turn : IsTurn m c d.word d.object d.found d.answer (after m (entry_by c d))
  turn = IsTurn-allowed m c d.word d.object d.found d.answer goes.allowed

  abbrev ender : InFlight
  ender = turn.call

  abbrev o : ℕ
  o = d.object

  abbrev less : List Object
  less = filter (not_with_id o) m.objects

  pub finish_gives : after m (entry_by c d) ≡ finish m c d.object
  finish_gives = went m c d Finish turn.call turn.is goes.word ∙ ap (λ r. unless_refused m c r (finish m c d.object)) goes.fine

  object : own_object ender ≡ o
  object = let P : Word → Type 0 = λ w. (told m c ender d.found w).object ≡ o in subst P goes.word turn.object

  own : ender.locked ≡ Some o
  own = owns_at_finish m (reached m l) c ender turn.is (in_plan ender Finish (turn.word ∙ goes.word) refl) ∙ ap (λ (n : ℕ). Some n) object

  pub stands : IsInPhaseFor Finish m.objects d.object
  stands = let P : Word → Type 0 = λ w. IsInPhaseFor w m.objects o in subst P (turn.word ∙ goes.word) (own_stands m l c o ender turn.is own)

  abbrev pub x : Object
  x = stands.item

  pub is_there : (v : Option Object) → object_with m d.object ≡ v → v ≡ Some stands.item
  is_there v e =
      let P : ℕ → Type 0 = λ n. find (has_id n) m.objects ≡ Some x in
      sym e ∙ subst P stands.id (find_rising 0 m.made x m.objects stands.within (reached m l).graph.rising)

  at : slice_get m.calls c ≡ Some (Some ender)
  at = call_stands m c ender turn.is

  abbrev g : Option InFlight → Option InFlight
  g = option_map without_lock

  abbrev calls : List (Option InFlight)
  calls = at_place m.calls c g

  others_stay : (i : ℕ) → i ≢ o → word_on calls i ≡ word_on m.calls i
  others_stay i apart =
      let locks_same : list_any (locks i) calls ≡ list_any (locks i) m.calls = any_alike (locks i) g m.calls c (λ s e. (let P : Option InFlight → Type 0 = λ v. locks i (g v) ≡ locks i v in subst P (same_Some _ _ (sym at ∙ e)) (sym (ap (is_the_number i) own ∙ ne_eqb o i (λ same. apart (sym same)))))) in
      let reads_same : reads_on calls i ≡ reads_on m.calls i = sum_alike (looks_by i) g m.calls c (λ s e. elim s as (λ v. looks_by i (g v) ≡ looks_by i v) [ None ↦ refl | Some k ↦ refl ]) in
      ap (λ b. word_for b (reads_on calls i)) locks_same ∙ ap (λ n. word_for (list_any (locks i) m.calls) n) reads_same

  -- what is left weighs less by the object
  pub weighs : (w : Object → ℕ) → sum_by w (filter (not_with_id d.object) m.objects) + w stands.item ≡ sum_by w m.objects
  weighs w =
      let place = place_in x m.objects stands.within in
      let gone = ap (sum_by w) (taken_object m.objects o place.0 (rises m l) (record { item = x; at = place.1; id = stands.id })) in
      omega (arith, sum_removed w m.objects place.0 x place.1, gone)

  marks_now : (y : Object) → IsIn y less → marks_at LosesUser (ids_of x.uses) (mark_on m) y.id ≡ record { word = word_on calls y.id; users = users_on less y.id }
  marks_now y k =
      let p = Passes-filter (not_with_id o) y m.objects k in
      let apart : y.id ≢ o = λ same. (let here : has_id o y ≡ true = eq-eqb y.id o same in let off = p.test in cc) in
      loses_all (ids_of x.uses) (mark_on m) y.id
      ∙ mark_alike (less_used (mark_on m y.id) (uses_by y.id x)) (record { word = word_on calls y.id; users = users_on less y.id }) (sym (others_stay y.id apart)) (omega (arith, weighs (uses_by y.id)))

  -- before, a look found the object under its number
  pub was_out : slot_on m stands.item.file stands.item.handle ≡ Published stands.item.id
  was_out = slot_out m (bounded m l) x stands.within (held_out x.phase stands.held)

  pub marked : (marks' : List Mark) → marks' ≡ marks_by (marks_at LosesUser (ids_of stands.item.uses) (mark_on m)) (filter (not_with_id d.object) m.objects) → marks' ≡ marks_by (λ i. record { word = word_on (at_place m.calls c (option_map without_lock)) i; users = users_on (filter (not_with_id d.object) m.objects) i }) (filter (not_with_id d.object) m.objects)
  marked marks' e = e ∙ marks_alike_in (marks_at LosesUser (ids_of x.uses) (mark_on m)) (λ i. record { word = word_on calls i; users = users_on less i }) less marks_now

  -- The tables.

  abbrev pub bare : State
  bare = record m { objects = filter (not_with_id d.object) m.objects; calls = at_place m.calls c (option_map without_lock) }

  own_number : has_handle x.file x.handle x ≡ true
  own_number = ap (λ b. b && (x.handle == x.handle)) (eq-eqb x.file x.file refl) ∙ eq-eqb x.handle x.handle refl

  abbrev weigh : Object → ℕ
  weigh y = cond (has_handle x.file x.handle y) 1 0

  alone : (count_by (has_handle x.file x.handle) less ≡ 0) × (count_by (reserves x.file x.handle) m.calls ≡ 0)
  alone =
      let one : ◌≡◌ {A = ℕ} (weigh x) 1 = ap (λ b. cond b 1 0) own_number in
      let all = weighs weigh in
      let most = (bounded m l).once x.file x.handle in
      (omega (arith, all, one, most), omega (arith, all, one, most))

  unhandled : list_any (has_handle x.file x.handle) less ≡ false
  unhandled = no_count _ (list_any (has_handle x.file x.handle) less) (any_count (has_handle x.file x.handle) less) alone.0

  set_same : (k i : ℕ) → list_any (reserves k i) calls ≡ list_any (reserves k i) m.calls
  set_same k i = any_alike (reserves k i) g m.calls c (λ s e. elim s as (λ v. reserves k i (g v) ≡ reserves k i v) [ None ↦ refl | Some j ↦ refl ])

  unset : list_any (reserves x.file x.handle) calls ≡ false
  unset = set_same x.file x.handle ∙ no_count _ (list_any (reserves x.file x.handle) m.calls) (any_count (reserves x.file x.handle) m.calls) alone.1

  pub free_now : slot_on bare x.file x.handle ≡ Free
  free_now =
      let out : published bare x.file x.handle ≡ None = not_found (is_published_at x.file x.handle) less
      (list_any-none (is_published_at x.file x.handle) less (λ y k. and_no (has_handle x.file x.handle y) (not (is_made y.phase)) (fails_any (has_handle x.file x.handle) y less unhandled k))) in
      ap (λ p. slot_for p (is_taken bare x.file x.handle)) out ∙ ap (λ b. slot_for None b) (or_no _ _ unhandled unset)

  off_handle : (k i : ℕ) → (k ≡ x.file → i ≡ x.handle → ⊥) → (b : Bool) → (x.file == k) ≡ b → has_handle k i x ≡ false
  off_handle k i apart true e = ap (λ v. v && (x.handle == i)) e ∙ ne_eqb x.handle i (λ same. apart (sym (eqb-true x.file k e)) (sym same))
  off_handle k i apart false e = ap (λ v. v && (x.handle == i)) e

  dropped : (k i : ℕ) → has_handle k i x ≡ false → (y : Object) → IsIn y m.objects → not_with_id o y ≡ false → has_handle k i y ≡ false
  dropped k i miss y w e =
      let same : x ≡ y = same_object m (reached m l) x y stands.within w (stands.id ∙ sym (eqb-true y.id o (not_off (has_id o y) e))) in
      ap (has_handle k i) (sym same) ∙ miss
    where
      not_off : (b : Bool) → not b ≡ false → b ≡ true
      not_off true h = refl
      not_off false h = cc

  pub others : (k i : ℕ) → (k ≡ x.file → i ≡ x.handle → ⊥) → slot_on bare k i ≡ slot_on m k i
  others k i apart =
      let miss = off_handle k i apart (x.file == k) refl in
      ap (λ b. slot_for (published bare k i) (b || list_any (reserves k i) calls)) (any_kept (has_handle k i) (not_with_id o) m.objects (dropped k i miss))
      ∙ (ap (λ b. slot_for (published bare k i) (list_any (has_handle k i) m.objects || b)) (set_same k i)
      ∙ ap (λ p. slot_for p (is_taken m k i)) (find_kept (is_published_at k i) (not_with_id o) m.objects (λ y w e. and_no (has_handle k i y) (not (is_made y.phase)) (dropped k i miss y w e))))

  -- The counts.

  abbrev one_by : (ℕ → Object → Bool) → ℕ → Object → ℕ
  one_by p f y = cond (p f y) 1 0

  -- where the object was doomed it is counted, and where it was a husk it isn't
  counted : (p : ℕ → Object → Bool) → ((f : ℕ) → is_doomed x.phase ≡ true → p f x ≡ (x.file == f)) → ((f : ℕ) → is_doomed x.phase ≡ false → p f x ≡ false) → (counts : List ℕ) → AreCounts counts p m.objects → length counts ≡ FILES → (b : Bool) → is_doomed x.phase ≡ b → (f : ℕ) → count_at (if b then at_place counts x.file (recounted OneLess) else counts) f ≡ count_by (p f) less
  counted p seen unseen counts are wide true e f =
      let file = ((bounded m l).handles x stands.within).0 in
      let one : one_by p f x ≡ cond (x.file == f) 1 0 = ap (λ b. cond b 1 0) (seen f e) in
      one_less counts x.file f (omega (arith, file, wide)) ∙ omega (arith, are f, weighs (one_by p f), one)
  counted p seen unseen counts are wide false e f =
      let none : one_by p f x ≡ 0 = ap (λ b. cond b 1 0) (unseen f e) in
      are f ∙ omega (arith, weighs (one_by p f), none)

  counts_now : (p : ℕ → Object → Bool) → ((f : ℕ) → is_doomed x.phase ≡ true → p f x ≡ (x.file == f)) → ((f : ℕ) → is_doomed x.phase ≡ false → p f x ≡ false) → (counts counts' : List ℕ) → AreCounts counts p m.objects → length counts ≡ FILES → counts' ≡ uncounted_if_doomed x counts → AreCounts counts' p less
  counts_now p seen unseen counts counts' are wide e f = ap (λ v. count_at v f) e ∙ counted p seen unseen counts are wide (is_doomed x.phase) refl f

  doomed_one : (f : ℕ) → is_doomed x.phase ≡ true → is_doomed_in f x ≡ (x.file == f)
  doomed_one f e = ap (λ b. (x.file == f) && b) e ∙ and_true (x.file == f)

  doomed_none : (f : ℕ) → is_doomed x.phase ≡ false → is_doomed_in f x ≡ false
  doomed_none f e = ap (λ b. (x.file == f) && b) e ∙ and_false (x.file == f)

  standing_one : (f : ℕ) → is_doomed x.phase ≡ true → is_standing_in f x ≡ (x.file == f)
  standing_one f e = ap (λ b. (x.file == f) && not b) (doomed_only x.phase e).1 ∙ and_true (x.file == f)

  standing_none : (f : ℕ) → is_doomed x.phase ≡ false → is_standing_in f x ≡ false
  standing_none f e = ap (λ b. (x.file == f) && not b) (husk_else x.phase stands.held e) ∙ and_false (x.file == f)

  -- The whole.

  abbrev later : State
  later = record m { objects = filter (not_with_id d.object) m.objects; calls = at_place m.calls c (option_map without_lock); pools = buried_with stands.item m.pools }

  by_phase : (b : Bool) → with_call (without_object (if b then with_burial m x else m) o) c without_lock ≡ record m { objects = less; calls = calls; pools = if b then at_place m.pools (kind_place x.kind) (buried_at x.index) else m.pools }
  by_phase true = refl
  by_phase false = refl

  pub finish_is : after m (entry_by c d) ≡ record m { objects = filter (not_with_id d.object) m.objects; calls = at_place m.calls c (option_map without_lock); pools = buried_with stands.item m.pools }
  finish_is =
      finish_gives
      ∙ (ap (λ v. with_call (without_object (buried_if_doomed m v) o) c without_lock) (is_there (object_with m d.object) refl)
      ∙ by_phase (is_doomed x.phase))

  legal : IsLegalState later
  legal = let Q : State → Type 0 = λ v. IsLegalState v in subst Q finish_is (goes_on m (entry_by c d) l goes.allowed)

  pub was_published : (tables : List (List Slot)) → AreTables tables m → is_published_in (table_at tables stands.item.file) stands.item.handle ≡ true
  was_published tables are = ap (λ s. is_some (object_of s)) (are x.file x.handle ∙ was_out)

  pub stored_finish : (marks marks' : List Mark) (tables tables' : List (List Slot)) (dooms dooms' standing standing' : List ℕ) → IsStored m marks tables dooms standing → marks' ≡ marks_by (marks_at LosesUser (ids_of stands.item.uses) (mark_on m)) (filter (not_with_id d.object) m.objects) → tables' ≡ at_place tables stands.item.file (freed_at stands.item.handle) → dooms' ≡ uncounted_if_doomed stands.item dooms → length dooms ≡ FILES → standing' ≡ uncounted_if_doomed stands.item standing → length standing ≡ FILES → IsStored (record m { objects = filter (not_with_id d.object) m.objects; calls = at_place m.calls c (option_map without_lock); pools = buried_with stands.item m.pools }) marks' tables' dooms' standing'
  stored_finish marks marks' tables tables' dooms dooms' standing standing' s e gives h long t wide =
      let file = ((bounded m l).handles x stands.within).0 in
      let low = taken_within (table_at tables x.file) x.handle (ap (λ v. not (is_free v)) (s.tabled x.file x.handle ∙ was_out)) in
      let P : List (List Slot) → Type 0 = λ v. AreTables v bare in
      stored_beside bare later marks' tables' dooms' standing' (marked marks' e)
      (ap length gives ∙ (length-at_place tables x.file (freed_at x.handle) ∙ s.files))
      (subst P (sym gives) (tables_set tables m bare x.file x.handle Free (omega (arith, file, s.files)) low s.tabled (sym free_now) others))
      (counts_now is_doomed_in doomed_one doomed_none dooms dooms' s.dooms long h)
      (counts_now is_standing_in standing_one standing_none standing standing' s.stands wide t)
      (still_same bare later refl refl) legal

  -- The same of the object by its name.

  same_item : (y : Object) → object_with m d.object ≡ Some y → stands.item ≡ y
  same_item y is = sym (same_Some _ _ (is_there (Some y) is))

  pub published_before : (y : Object) → object_with m d.object ≡ Some y → (tables : List (List Slot)) → AreTables tables m → is_published_in (table_at tables y.file) y.handle ≡ true
  published_before y is tables are = let P : Object → Type 0 = λ v. is_published_in (table_at tables v.file) v.handle ≡ true in subst P (same_item y is) (was_published tables are)

  pub finished_is : (y : Object) → object_with m d.object ≡ Some y → after m (entry_by c d) ≡ record m { objects = filter (not_with_id d.object) m.objects; calls = at_place m.calls c (option_map without_lock); pools = buried_with y m.pools }
  finished_is y is = finish_is ∙ ap (λ (v : Object). record m { objects = filter (not_with_id d.object) m.objects; calls = at_place m.calls c (option_map without_lock); pools = buried_with v m.pools }) (same_item y is)

  pub stored_finished : (y : Object) → object_with m d.object ≡ Some y → (marks marks' : List Mark) (tables tables' : List (List Slot)) (dooms dooms' standing standing' : List ℕ) → IsStored m marks tables dooms standing → marks' ≡ marks_by (marks_at LosesUser (ids_of y.uses) (mark_on m)) (filter (not_with_id d.object) m.objects) → tables' ≡ at_place tables y.file (freed_at y.handle) → dooms' ≡ uncounted_if_doomed y dooms → length dooms ≡ FILES → standing' ≡ uncounted_if_doomed y standing → length standing ≡ FILES → IsStored (record m { objects = filter (not_with_id d.object) m.objects; calls = at_place m.calls c (option_map without_lock); pools = buried_with y m.pools }) marks' tables' dooms' standing'
  stored_finished y is marks marks' tables tables' dooms dooms' standing standing' s =
      let P : Object → Type 0 = λ v. marks' ≡ marks_by (marks_at LosesUser (ids_of v.uses) (mark_on m)) (filter (not_with_id d.object) m.objects) → tables' ≡ at_place tables v.file (freed_at v.handle) → dooms' ≡ uncounted_if_doomed v dooms → length dooms ≡ FILES → standing' ≡ uncounted_if_doomed v standing → length standing ≡ FILES → IsStored (record m { objects = filter (not_with_id d.object) m.objects; calls = at_place m.calls c (option_map without_lock); pools = buried_with v m.pools }) marks' tables' dooms' standing' in
      subst P (same_item y is) (λ e gives h long t wide. stored_finish marks marks' tables tables' dooms dooms' standing standing' s e gives h long t wide)
