-- An object made by its create, in what is kept beside the state: it has a mark of its own, which says that its call holds it
-- alone and that nothing uses it; what it uses gains a user; its number, which was the call's, stays set aside.
use Rattle.std.proofs.Common.{◌≡◌, ◌≢◌, ℕ, negsuc, ◌+◌, ◌-◌, ◌<◌, ◌≤◌, Bool, true, false, List, [], ◌∷◌, ◌++◌, Option, Some, None, inl, length, cond, refl, ap, sym, ◌∙◌, subst, arith}
use Rattle.std.specs.Prelude.{slice_get, find, is_none, ◌==◌, ◌||◌, ◌&&◌, count_by, option_map, unwrap_or, if◌then◌else◌}
use Rattle.std.specs.List.{list_any}
use Rattle.std.proofs.lemmas.Bool.{eq-eqb, ne_eqb, eqb-true}
use Rattle.std.proofs.lemmas.List.{map-append, length-map}
use Rattle.std.proofs.lemmas.List.Sums.{sum_by_push, count_by-le-length}
use Rattle.std.proofs.lemmas.Option.{none-some, same_Some}
use Rattle.uv_num.specs.declared.errno.Errno.TheVariants.{NoSpc}
use Rattle.uv_num.specs.declared.kind.Kind.{Kind}
use Rattle.uv_num.specs.declared.limits.TheConstants.{FILES, MOST_OBJECTS, NONE}
use Rattle.uv_num.specs.declared.request.Role.{Role}
use Rattle.uv_num.specs.declared.request.Role.TheVariants.{Creates}
use Rattle.uv_num.specs.Ids.{ids_of, is_number}
use Rattle.uv_num.specs.Place.{at_place}
use Rattle.uv_num.specs.Request.{role_of}
use Rattle.uv_num.proofs.PlaceLaws.{slice_get-at_place_same}
use Rattle.uv_machine.specs.declared.entry.CallStep.{CallStep}
use Rattle.uv_machine.specs.declared.entry.Entry.TheVariants.{Step}
use Rattle.uv_machine.specs.declared.entry.Word.{Word}
use Rattle.uv_machine.specs.declared.entry.Word.TheVariants.{Make}
use Rattle.uv_machine.specs.declared.call.InFlight.{InFlight}
use Rattle.uv_machine.specs.declared.object.Object.{Object}
use Rattle.uv_machine.specs.declared.state.State.{State}
use Rattle.uv_machine.specs.Accounts.{count_of}
use Rattle.uv_machine.specs.Laws.{makes_object}
use Rattle.uv_machine.specs.Objects.{has_handle, is_published_at, uses_object, is_doomed_in, is_standing_in}
use Rattle.uv_machine.specs.Plans.{is_the_number, looks_at, reserves, locks, with_made}
use Rattle.uv_machine.specs.States.{call_of, home_cell, published, is_taken}
use Rattle.uv_machine.specs.Steps.{told, step_answer, refused_told, cell_told, make_told}
use Rattle.uv_machine.specs.Effects.{refusal_in, make, make_at, with_new, with_room_for, made_outcome, unless_refused}
use Rattle.uv_machine.specs.Histories.{Allowed, after, kept_in}
use Rattle.uv_machine.specs.Reached.{IsIn, Has}
use Rattle.uv_machine.proofs.Calling.{any_at, false_unless}
use Rattle.uv_machine.proofs.Keeping.{id_below}
use Rattle.uv_machine.proofs.Members.{list_any-none, IsIn-append-right}
use Rattle.uv_machine.proofs.Numbers.{makes_with_room}
use Rattle.uv_machine.proofs.OwnCall.{call_stands}
use Rattle.uv_machine.proofs.Phased.{create_has}
use Rattle.uv_machine.proofs.Planned.{InPlan, in_plan, stands_in_plan}
use Rattle.uv_machine.proofs.Turns.{IsTurn, IsTurn-allowed, object_made}
use Rattle.uv_handles.specs.declared.slot.Slot.{Slot}
use Rattle.uv_handles.specs.declared.slot.Slot.TheVariants.{Reserved}
use Rattle.uv_store.specs.declared.counts.CountChange.TheVariants.{OneMore}
use Rattle.uv_store.specs.declared.mark.Mark.{Mark}
use Rattle.uv_store.specs.declared.mark.MarkChange.TheVariants.{GainsUser}
use Rattle.uv_store.specs.Counts.{count_at, recounted}
use Rattle.uv_store.specs.Going.{Goes, entry_by}
use Rattle.uv_store.specs.Marks.{looks_by, reads_on, word_for, word_on, uses_by, users_on, mark_on, marks_by, marks_at, with_mark}
use Rattle.uv_store.specs.Stored.{IsLegalState, IsStored}
use Rattle.uv_store.specs.Tables.{slot_for, slot_on, AreTables}
use Rattle.uv_store.proofs.Aborting.{was_reserved}
use Rattle.uv_store.proofs.Beside.{any_count, lt_true}
use Rattle.uv_store.proofs.Committing.{none_more}
use Rattle.uv_store.proofs.Finishing.{marks_alike_in}
use Rattle.uv_store.proofs.Legal.{goes_on, reached, bounded}
use Rattle.uv_store.proofs.Locking.{none_own}
use Rattle.uv_store.proofs.Reading.{users_tell}
use Rattle.uv_store.proofs.Slots.{slot_made}
use Rattle.uv_store.proofs.Still.{any_alike, sum_alike, mark_alike, still_same, stored_beside}
use Rattle.uv_store.proofs.Stored.{went, fine_told}
use Rattle.uv_store.proofs.Turned.{one_more}
use Rattle.uv_store.proofs.Users.{gains_all, more_used, users_few}
use Rattle.uv_store.proofs.Words.{ids_few}

-- One more item at the end, which a test doesn't pass.

find_past : {X : Type 0} (p : X → Bool) (xs : List X) (x : X) → p x ≡ false → find p (xs ++ x ∷ []) ≡ find p xs
find_past p [] x e = ap (λ b. cond b (Some x) None) e
find_past p (y ∷ ys) x e = ap (λ v. cond (p y) (Some y) v) (find_past p ys x e)

any_past : {X : Type 0} (p : X → Bool) (xs : List X) (x : X) → p x ≡ false → list_any p (xs ++ x ∷ []) ≡ list_any p xs
any_past p [] x e = ap (λ b. b || false) e
any_past p (y ∷ ys) x e = ap (λ v. p y || v) (any_past p ys x e)

and_false : (b : Bool) → (b && false) ≡ false
and_false true = refl
and_false false = refl

and_true : (b : Bool) → (b && true) ≡ b
and_true true = refl
and_true false = refl

-- What a Make finds that isn't refused.

cell_by : (m : State) (full : Bool) (i : Option ℕ) → (if full then refused_told NoSpc else cell_told m i).refusal ≡ None → (index : ℕ) × (i ≡ Some index)
cell_by m true i e = absurd (none-some _ (sym e))
cell_by m false None e = absurd (none-some _ (sym e))
cell_by m false (Some index) e = (index, refl)

number_by : (n : Option ℕ) → count_of n ≡ 1 → (k : ℕ) × (n ≡ Some k)
number_by None e = absurd (let none : 0 ≡ 1 = e in omega arith)
number_by (Some k) e = (k, refl)

-- the mark of an object that its call holds alone and that nothing uses
abbrev pub made_mark : Mark
made_mark = record { word = negsuc 0; users = 0 }

abbrev one_by : (ℕ → Object → Bool) → ℕ → Object → ℕ
one_by p f y = cond (p f y) 1 0

module _ (m : State) (l : IsLegalState m) (c : ℕ) (d : CallStep) (goes : Goes m c d Make) where
  turn : IsTurn m c d.word d.object d.found d.answer (after m (entry_by c d))
  turn = IsTurn-allowed m c d.word d.object d.found d.answer goes.allowed

  abbrev maker : InFlight
  maker = turn.call

  plan : InPlan maker Make
  plan = in_plan maker Make (turn.word ∙ goes.word) refl

  abbrev kind : Kind
  kind = (stands_in_plan maker Make plan).kind

  creates : role_of maker.request ≡ Creates kind
  creates = (stands_in_plan maker Make plan).creates

  fine : (make_told m (role_of maker.request)).refusal ≡ None
  fine =
      let P : Word → Type 0 = λ w. refusal_in (step_answer m maker d.found (kept_in d.answer) w (told m c maker d.found w).refusal) ≡ None in
      fine_told m maker d.found (kept_in d.answer) Make (told m c maker d.found Make).refusal (subst P goes.word (ap refusal_in turn.answer ∙ goes.fine))

  cell : (index : ℕ) × (home_cell m kind ≡ Some index)
  cell = let P : Role → Type 0 = λ r. (make_told m r).refusal ≡ None in cell_by m (m.made == NONE) (home_cell m kind) (subst P creates fine)

  abbrev x : Object
  x = object_made m maker kind cell.0

  abbrev later : State
  later = with_new m c x

  gives : after m (entry_by c d) ≡ later
  gives =
      went m c d Make maker turn.is goes.word
      ∙ (ap (λ r. unless_refused m c r (make m c maker (role_of maker.request))) goes.fine
      ∙ (ap (make m c maker) creates ∙ ap (make_at m c maker kind) cell.1))

  legal : IsLegalState later
  legal = let Q : State → Type 0 = λ v. IsLegalState v in subst Q gives (goes_on m (entry_by c d) l goes.allowed)

  makes : makes_object (entry_by c d) ≡ true
  makes =
      let P : Word → Type 0 = λ w. makes_object (Step c w d.object d.found d.answer) ≡ true in
      subst P (sym goes.word) (ap is_none goes.fine)

  room : length m.objects < MOST_OBJECTS
  room =
      let P : State → Type 0 = λ v. length v.objects < MOST_OBJECTS in
      let Q : State → Type 0 = λ v. Allowed v (entry_by c d) in
      subst P (sym l.is) (makes_with_room l.history (entry_by c d) l.legal (subst Q l.is goes.allowed) makes)

  abbrev grown : List Object
  grown = m.objects ++ x ∷ []

  grows : with_room_for x m.objects ≡ grown
  grows = ap (λ b. if b then m.objects ++ x ∷ [] else m.objects) (lt_true (length m.objects) MOST_OBJECTS room)

  abbrev g : Option InFlight → Option InFlight
  g = option_map (with_made x.id (made_outcome x))

  abbrev calls : List (Option InFlight)
  calls = at_place m.calls c g

  abbrev bare : State
  bare = record m { objects = grown; calls = calls }

  at : slice_get m.calls c ≡ Some (Some maker)
  at = call_stands m c maker turn.is

  has : Has maker 1 (maker.place - 1) 0
  has =
      let s = stands_in_plan maker Make plan in
      (create_has maker s.kind ((reached m l).phased c maker turn.is) plan.fine s.creates).looking (omega (arith, s.at)) (omega (arith, s.at))

  number : (n : ℕ) × (maker.reserved ≡ Some n)
  number = number_by maker.reserved has.numbers_are

  abbrev n : ℕ
  n = number.0

  -- The words.

  own_slot : (s : Option InFlight) → slice_get m.calls c ≡ Some s → Some maker ≡ s
  own_slot s e = same_Some _ _ (sym at ∙ e)

  words_stay : (i : ℕ) → i ≢ m.made → word_on calls i ≡ word_on m.calls i
  words_stay i apart =
      let locks_same : list_any (locks i) calls ≡ list_any (locks i) m.calls = any_alike (locks i) g m.calls c (λ s e. (let P : Option InFlight → Type 0 = λ v. locks i (g v) ≡ locks i v in subst P (own_slot s e) (ne_eqb m.made i (λ same. apart (sym same)) ∙ sym (none_own i maker.locked has.locks_are)))) in
      let reads_same : reads_on calls i ≡ reads_on m.calls i = sum_alike (looks_by i) g m.calls c (λ s e. elim s as (λ v. looks_by i (g v) ≡ looks_by i v) [ None ↦ refl | Some k ↦ refl ]) in
      ap (λ b. word_for b (reads_on calls i)) locks_same ∙ ap (λ k. word_for (list_any (locks i) m.calls) k) reads_same

  held_now : word_on calls m.made ≡ negsuc 0
  held_now =
      let there : slice_get calls c ≡ Some (g (Some maker)) = slice_get-at_place_same m.calls c g ∙ ap (option_map g) at in
      ap (λ b. word_for b (reads_on calls m.made)) (any_at (locks m.made) calls c (g (Some maker)) there (eq-eqb m.made m.made refl))

  -- The users.

  users_more : (i : ℕ) → users_on grown i ≡ users_on m.objects i + count_by (is_number i) (ids_of maker.looked)
  users_more i = sum_by_push (uses_by i) m.objects x

  -- nothing uses what is made only now
  unused_before : users_on m.objects m.made ≡ 0
  unused_before =
      none_more (users_on m.objects m.made) (users_tell m.objects m.made
      ∙ list_any-none (uses_object m.made) m.objects (λ y k. false_unless (uses_object m.made y) (λ used.
      let low = ((reached m l).graph.uses y k).below m.made used in
      omega arith)))

  looked_before : count_by (is_number m.made) (ids_of maker.looked) ≡ 0
  looked_before =
      none_more (count_by (is_number m.made) (ids_of maker.looked)) (any_count (is_number m.made) (ids_of maker.looked)
      ∙ false_unless (looks_at m.made maker) (λ looked.
      let low = ((reached m l).holds_well c maker turn.is).looked m.made looked in
      omega arith))

  -- The marks.

  few : (i : ℕ) → users_on m.objects i + length (ids_of maker.looked) ≤ 65536
  few i = omega (arith, users_few m.objects i, (bounded m l).objects, ids_few maker.looked)

  marks_now : (y : Object) → IsIn y m.objects → marks_at GainsUser (ids_of maker.looked) (mark_on m) y.id ≡ mark_on bare y.id
  marks_now y k =
      let low = id_below m (reached m l) y k in
      let apart : y.id ≢ m.made = λ same. omega arith in
      gains_all (ids_of maker.looked) (mark_on m) y.id (few y.id)
      ∙ mark_alike (more_used (mark_on m y.id) (count_by (is_number y.id) (ids_of maker.looked))) (mark_on bare y.id) (sym (words_stay y.id apart)) (sym (users_more y.id))

  mark_now : made_mark ≡ mark_on bare m.made
  mark_now = mark_alike made_mark (mark_on bare m.made) (sym held_now) (omega (arith, users_more m.made, unused_before, looked_before))

  marked : (marks marks' : List Mark) → marks ≡ marks_by (marks_at GainsUser (ids_of maker.looked) (mark_on m)) m.objects → marks' ≡ with_mark made_mark marks → marks' ≡ marks_by (mark_on bare) grown
  marked marks marks' e put =
      let G = marks_at GainsUser (ids_of maker.looked) (mark_on m) in
      let size : length marks ≡ length m.objects = ap length e ∙ length-map m.objects (λ (y : Object). G y.id) in
      let low : length marks < MOST_OBJECTS = omega (arith, size, room) in
      put
      ∙ (ap (λ b. if b then marks ++ made_mark ∷ [] else marks) (lt_true (length marks) MOST_OBJECTS low)
      ∙ (ap (λ v. v ++ made_mark ∷ []) (e ∙ marks_alike_in G (mark_on bare) m.objects marks_now)
      ∙ (ap (λ k. marks_by (mark_on bare) m.objects ++ k ∷ []) mark_now
      ∙ sym (map-append (λ (y : Object). mark_on bare y.id) m.objects (x ∷ [])))))

  -- The tables.

  x_number : x.handle ≡ n
  x_number = ap (λ v. unwrap_or v NONE) number.1

  as_grown : (k i : ℕ) → slot_on later k i ≡ slot_on bare k i
  as_grown k i = ap (λ v. slot_for (find (is_published_at k i) v) (list_any (has_handle k i) v || list_any (reserves k i) calls)) grows

  x_within : IsIn x later.objects
  x_within = let P : List Object → Type 0 = λ v. IsIn x v in subst P (sym grows) (IsIn-append-right x m.objects (x ∷ []) (inl refl))

  set_now : slot_on bare maker.file n ≡ Reserved
  set_now = let P : ℕ → Type 0 = λ v. slot_on bare maker.file v ≡ Reserved in subst P x_number (sym (as_grown x.file x.handle) ∙ slot_made later (bounded later legal) x x_within refl)

  off_handle : (k i : ℕ) → (k ≡ maker.file → i ≡ n → ⊥) → (b : Bool) → (maker.file == k) ≡ b → (has_handle k i x ≡ false) × (((maker.file == k) && is_the_number i maker.reserved) ≡ false)
  off_handle k i apart true e =
      let file : k ≡ maker.file = sym (eqb-true maker.file k e) in
      let other : (n == i) ≡ false = ne_eqb n i (λ same. apart file (sym same)) in
      let own : (x.handle == i) ≡ false = ap (λ v. v == i) x_number ∙ other in
      (ap (λ v. (maker.file == k) && v) own ∙ and_false (maker.file == k), ap (λ r. (maker.file == k) && is_the_number i r) number.1 ∙ (ap (λ v. (maker.file == k) && v) other ∙ and_false (maker.file == k)))
  off_handle k i apart false e = (ap (λ v. v && (x.handle == i)) e, ap (λ v. v && is_the_number i maker.reserved) e)

  others : (k i : ℕ) → (k ≡ maker.file → i ≡ n → ⊥) → slot_on bare k i ≡ slot_on m k i
  others k i apart =
      let off = off_handle k i apart (maker.file == k) refl in
      let set : list_any (reserves k i) calls ≡ list_any (reserves k i) m.calls = any_alike (reserves k i) g m.calls c (λ s e. (let P : Option InFlight → Type 0 = λ v. reserves k i (g v) ≡ reserves k i v in subst P (own_slot s e) (and_false (maker.file == k) ∙ sym off.1))) in
      ap (λ p. slot_for p (is_taken bare k i)) (find_past (is_published_at k i) m.objects x (and_false (has_handle k i x)))
      ∙ (ap (λ b. slot_for (published m k i) (b || list_any (reserves k i) calls)) (any_past (has_handle k i) m.objects x off.0)
      ∙ ap (λ b. slot_for (published m k i) (list_any (has_handle k i) m.objects || b)) set)

  stays : (k i : ℕ) (b h : Bool) → (maker.file == k) ≡ b → (n == i) ≡ h → slot_on m k i ≡ slot_on bare k i
  stays k i true true e f =
      let P : ℕ → Type 0 = λ v. slot_on m v i ≡ slot_on bare v i in
      let Q : ℕ → Type 0 = λ v. slot_on m maker.file v ≡ slot_on bare maker.file v in
      subst P (eqb-true maker.file k e) (subst Q (eqb-true n i f) (was_reserved m l c maker n turn.is number.1 ∙ sym set_now))
  stays k i true false e f = sym (others k i (λ file same. (let yes = eq-eqb n i (sym same) in cc)))
  stays k i false h e f = sym (others k i (λ same number. (let yes = eq-eqb maker.file k (sym same) in cc)))

  tabled : (tables : List (List Slot)) → AreTables tables m → AreTables tables bare
  tabled tables are k i = are k i ∙ stays k i (maker.file == k) (n == i) refl refl

  -- The counts.

  doomed_now : (f : ℕ) → count_by (is_doomed_in f) m.objects ≡ count_by (is_doomed_in f) grown
  doomed_now f =
      let new : one_by is_doomed_in f x ≡ 0 = ap (λ b. cond b 1 0) (and_false (maker.file == f)) in
      omega (arith, sum_by_push (one_by is_doomed_in f) m.objects x, new)

  standing_now : (f : ℕ) → count_by (is_standing_in f) m.objects + cond (maker.file == f) 1 0 ≡ count_by (is_standing_in f) grown
  standing_now f =
      let new : one_by is_standing_in f x ≡ cond (maker.file == f) 1 0 = ap (λ b. cond b 1 0) (and_true (maker.file == f)) in
      omega (arith, sum_by_push (one_by is_standing_in f) m.objects x, new)

  pub stored_make : (call : InFlight) → call_of m c ≡ Some call → (marks marks' marks'' : List Mark) (tables : List (List Slot)) (doomed standing standing' : List ℕ) → IsStored m marks tables doomed standing → marks' ≡ marks_by (marks_at GainsUser (ids_of call.looked) (mark_on m)) m.objects → marks'' ≡ with_mark made_mark marks' → standing' ≡ at_place standing call.file (recounted OneMore) → length standing ≡ FILES → IsStored (after m (entry_by c d)) marks'' tables doomed standing'
  stored_make call is marks marks' marks'' tables doomed standing standing' s e put t wide =
      let same : maker ≡ call = same_Some _ _ (sym turn.is ∙ is) in
      let P : InFlight → Type 0 = λ v. marks' ≡ marks_by (marks_at GainsUser (ids_of v.looked) (mark_on m)) m.objects in
      let Q : InFlight → Type 0 = λ v. standing' ≡ at_place standing v.file (recounted OneMore) in
      let R : State → Type 0 = λ v. IsStored v marks'' tables doomed standing' in
      let file = ((bounded m l).numbers c n maker turn.is number.1).0 in
      let low : count_at standing maker.file < 65536 = omega (arith, s.stands maker.file, count_by-le-length (is_standing_in maker.file) m.objects, room) in
      subst R (sym gives) (stored_beside bare later marks'' tables doomed standing' (marked marks' marks'' (subst P (sym same) e) put) s.files (tabled tables s.tabled)
      (λ f. s.dooms f ∙ doomed_now f)
      (λ f. ap (λ v. count_at v f) (subst Q (sym same) t) ∙ (one_more standing maker.file f (omega (arith, file, wide)) low ∙ (ap (λ k. k + cond (maker.file == f) 1 0) (s.stands f) ∙ standing_now f)))
      (still_same bare later grows refl) legal)
