-- Each object that was made stands, or was released once.
use Rattle.std.proofs.Common.{◌≡◌, ◌≢◌, ℕ, ◌+◌, Bool, true, false, List, [], ◌∷◌, ◌++◌, Option, Some, None, map, refl, ap, sym, ◌∙◌, subst, arith, inl, inr, ⊎_elim}
use Rattle.std.specs.Prelude.{not, ◌&&◌, ◌==◌, nat_lt, filter, find, option_map, if◌then◌else◌}
use Rattle.std.proofs.lemmas.Option.{none-some}
use Rattle.std.proofs.lemmas.Bool.{and_parts, eqb-true, eq-eqb, ne_eqb}
use Rattle.std.proofs.lemmas.Bool.Decides.{eqb_tells, nat_tests}
use Rattle.uv_num.specs.declared.errno.Errno.{Errno}
use Rattle.uv_num.specs.declared.kind.Kind.{Kind}
use Rattle.uv_num.specs.declared.limits.TheConstants.{NONE}
use Rattle.uv_num.specs.declared.qp.QpState.{QpState}
use Rattle.uv_num.specs.declared.request.Act as request
use Rattle.uv_num.specs.declared.request.Act.TheVariants.{Modify, Query, Bind, Unbind, Async}
use Rattle.uv_machine.specs.declared.entry.Entry.{Entry}
use Rattle.uv_machine.specs.declared.entry.Entry.TheVariants.{Open, Enter, Step, Unplug, Tear, Kill, Gone, Dissociated, Closed}
use Rattle.uv_machine.specs.declared.entry.Word.{Word}
use Rattle.uv_machine.specs.declared.entry.Word.TheVariants.{Reserve, Look, Make, Commit, Act, Lock, Check, Finish, Abort, Free, Exit}
use Rattle.uv_machine.specs.declared.entry.Answer.{Answer}
use Rattle.uv_machine.specs.declared.object.Phase.{Phase}
use Rattle.uv_machine.specs.declared.object.Phase.TheVariants as phase
use Rattle.uv_machine.specs.declared.object.Object.{Object}
use Rattle.uv_machine.specs.declared.object.Change.{Change}
use Rattle.uv_machine.specs.declared.object.Change.TheVariants.{ToLive, ToDoomed, ToHusk, ToBound}
use Rattle.uv_machine.specs.declared.call.InFlight.{InFlight}
use Rattle.uv_machine.specs.declared.state.State.{State}
use Rattle.uv_machine.specs.Objects.{has_id, in_file, is_doomed, is_husk, is_standing_in, doomed_from, live_from, with_change, on_object}
use Rattle.uv_machine.specs.Plans.{next_word, own_object, acted_on}
use Rattle.uv_machine.specs.States.{call_of, object_with, has_standing, is_quiet, is_closing, phase_of}
use Rattle.uv_machine.specs.Steps.{told}
use Rattle.uv_machine.specs.Effects.{refusal_in, with_new, next_id, act, binding_of, with_room_for, finish, not_with_id, not_in_file, gone_from, unless_answered}
use Rattle.uv_machine.specs.Outside.{may_sweep, may_go_object}
use Rattle.uv_machine.specs.Histories.{Allowed, after}
use Rattle.uv_machine.specs.Accounts.{one_if}
use Rattle.uv_machine.specs.Lives.{is_doomed_object, releases}
use Rattle.uv_machine.specs.Reached.{IsIn, Reached}
use Rattle.uv_machine.proofs.Members.{Passes-find, fails_find, fails_any}
use Rattle.uv_machine.proofs.Planned.{InPlan, next_word-planned, next_word-closing}
use Rattle.uv_machine.proofs.Turns.{Turn, object_made, IsTurn-allowed, may_refuse}
use Rattle.uv_machine.proofs.Turns.Turn.{Refuses, Reserves, Looks, Makes, Commits, Does, Locks, Checks, Finishes, Aborts, Frees, Leaves}
use Rattle.uv_machine.proofs.Changing.{on_object-id}
use Rattle.uv_machine.proofs.Holding.{finish_objects, finish_made}
use Rattle.uv_machine.proofs.Keeping.{id_below, same_object, owns_at_finish}
use Rattle.uv_machine.proofs.Numbers.{Numbered, room_is, room_at}
use Rattle.uv_machine.proofs.Lives.{is_ending, Finishing}

-- Objects by their ids.

find_changed_by : (o i : ℕ) (change : Change) (x : Object) (xs : List Object) (b : Bool) → has_id o x ≡ b → has_id o (on_object i change x) ≡ b → find (has_id o) (map (on_object i change) xs) ≡ option_map (on_object i change) (find (has_id o) xs) → find (has_id o) (on_object i change x ∷ map (on_object i change) xs) ≡ option_map (on_object i change) (find (has_id o) (x ∷ xs))
find_changed_by o i change x xs true e e' later = rw (e, e')
find_changed_by o i change x xs false e e' later = rw (e, e') later

-- a change keeps the ids
find_changed : (o i : ℕ) (change : Change) (xs : List Object) → find (has_id o) (map (on_object i change) xs) ≡ option_map (on_object i change) (find (has_id o) xs)
find_changed o i change [] = refl
find_changed o i change (x ∷ xs) =
    find_changed_by o i change x xs (has_id o x) refl (ap (λ n. n == o) (on_object-id i change x)) (find_changed o i change xs)

find_head : (o : ℕ) (x : Object) (xs ys : List Object) → find (has_id o) xs ≡ find (has_id o) ys → find (has_id o) (x ∷ xs) ≡ find (has_id o) (x ∷ ys)
find_head o x xs ys e = ap (λ v. if has_id o x then Some x else v) e

find_kept_by : (o : ℕ) (p : Object → Bool) (x : Object) (xs : List Object) (b k : Bool) → has_id o x ≡ b → p x ≡ k → (b ≡ true → k ≡ true) → find (has_id o) (filter p xs) ≡ find (has_id o) xs → find (has_id o) (filter p (x ∷ xs)) ≡ find (has_id o) (x ∷ xs)
find_kept_by o p x xs b true e q keeps later = rw q (find_head o x (filter p xs) xs later)
find_kept_by o p x xs true false e q keeps later = absurd (let yes = keeps refl in cc)
find_kept_by o p x xs false false e q keeps later = rw (q, e) later

-- a part that leaves the objects of this id
find_kept : (o : ℕ) (p : Object → Bool) (xs : List Object) → ((x : Object) → IsIn x xs → x.id ≡ o → p x ≡ true) → find (has_id o) (filter p xs) ≡ find (has_id o) xs
find_kept o p [] keeps = refl
find_kept o p (x ∷ xs) keeps =
    find_kept_by o p x xs (has_id o x) (p x) refl refl (λ e. keeps x (inl refl) (eqb-true x.id o e)) (find_kept o p xs (λ y k e. keeps y (inr k) e))

find_lost_by : (o : ℕ) (p : Object → Bool) (x : Object) (xs : List Object) (b k : Bool) → has_id o x ≡ b → p x ≡ k → (b ≡ true → k ≡ false) → find (has_id o) (filter p xs) ≡ None → find (has_id o) (filter p (x ∷ xs)) ≡ None
find_lost_by o p x xs true true e q loses later = absurd (let no = loses refl in cc)
find_lost_by o p x xs false true e q loses later = rw (q, e) later
find_lost_by o p x xs b false e q loses later = rw q later

-- a part that leaves them out
find_lost : (o : ℕ) (p : Object → Bool) (xs : List Object) → ((x : Object) → IsIn x xs → x.id ≡ o → p x ≡ false) → find (has_id o) (filter p xs) ≡ None
find_lost o p [] loses = refl
find_lost o p (x ∷ xs) loses =
    find_lost_by o p x xs (has_id o x) (p x) refl refl (λ e. loses x (inl refl) (eqb-true x.id o e)) (find_lost o p xs (λ y k e. loses y (inr k) e))

-- one more object of another id, and of this one
find_more : (o : ℕ) (z : Object) (xs : List Object) → o ≢ z.id → find (has_id o) (xs ++ z ∷ []) ≡ find (has_id o) xs
find_more o z [] ne = rw (ne_eqb z.id o (λ e. ne (sym e)))
find_more o z (x ∷ xs) ne = find_head o x (xs ++ z ∷ []) xs (find_more o z xs ne)

find_new_by : (o : ℕ) (x z : Object) (xs : List Object) (b : Bool) → has_id o x ≡ b → (if b then Some x else find (has_id o) xs) ≡ None → (find (has_id o) xs ≡ None → find (has_id o) (xs ++ z ∷ []) ≡ Some z) → find (has_id o) (x ∷ (xs ++ z ∷ [])) ≡ Some z
find_new_by o x z xs true e none later = absurd (none-some x (sym none))
find_new_by o x z xs false e none later = rw e (later none)

find_new : (o : ℕ) (z : Object) (xs : List Object) → z.id ≡ o → find (has_id o) xs ≡ None → find (has_id o) (xs ++ z ∷ []) ≡ Some z
find_new o z [] e none = rw (eq-eqb z.id o e)
find_new o z (x ∷ xs) e none = find_new_by o x z xs (has_id o x) refl none (λ rest. find_new o z xs e rest)

-- Whether an object stands.

abbrev pub stands_slot : Option Object → Bool
stands_slot None = false
stands_slot (Some x) = not (is_husk x.phase)

abbrev pub stands_in : List Object → ℕ → Bool
stands_in objects o = stands_slot (find (has_id o) objects)

live_husk : (p : Phase) → is_husk (live_from p) ≡ is_husk p
live_husk phase.Made = refl
live_husk phase.Live = refl
live_husk phase.Doomed = refl
live_husk phase.Husk = refl

doomed_husk : (p : Phase) → is_husk (doomed_from p) ≡ is_husk p
doomed_husk phase.Made = refl
doomed_husk phase.Live = refl
doomed_husk phase.Doomed = refl
doomed_husk phase.Husk = refl

-- a change that releases nothing
abbrev pub keeps_standing : Change → Bool
keeps_standing ToLive = true
keeps_standing ToDoomed = true
keeps_standing ToHusk = false
keeps_standing (ToBound binding) = true

pub changed_husk : (b : Bool) (change : Change) (x : Object) → keeps_standing change ≡ true → is_husk (if b then with_change change x else x).phase ≡ is_husk x.phase
changed_husk true ToLive x e = live_husk x.phase
changed_husk true ToDoomed x e = doomed_husk x.phase
changed_husk true ToHusk x e = absurd cc
changed_husk true (ToBound binding) x e = refl
changed_husk false change x e = refl

stands_changed : (i : ℕ) (change : Change) (slot : Option Object) → keeps_standing change ≡ true → stands_slot (option_map (on_object i change) slot) ≡ stands_slot slot
stands_changed i change None e = refl
stands_changed i change (Some x) e = ap not (changed_husk (has_id i x) change x e)

stands_map : (objects : List Object) (o i : ℕ) (change : Change) → keeps_standing change ≡ true → stands_in (map (on_object i change) objects) o ≡ stands_in objects o
stands_map objects o i change e = ap stands_slot (find_changed o i change objects) ∙ stands_changed i change (find (has_id o) objects) e

-- What was released and what stands are the objects that were made.

pub record Balanced (m : State) (o n : ℕ) : Type 0 where
  pub sum : n + one_if (stands_in m.objects o) ≡ one_if (nat_lt o m.made)

balanced_same : (m m' : State) (o n : ℕ) → Balanced m o n → stands_in m'.objects o ≡ stands_in m.objects o → m'.made ≡ m.made → Balanced m' o (n + 0)
balanced_same m m' o n b stands made = record { sum = omega (arith, b.sum, ap one_if stands, ap (λ k. one_if (nat_lt o k)) made) }

and_false : (b : Bool) → (b && false) ≡ false
and_false true = refl
and_false false = refl

other_word : (m : State) (o c i : ℕ) (w : Word) (found : Option QpState) (a : Answer) → w ≢ Finish → releases m o (Step c w i found a) ≡ false
other_word m o c i Reserve found a ne = and_false (i == o)
other_word m o c i Look found a ne = and_false (i == o)
other_word m o c i Make found a ne = and_false (i == o)
other_word m o c i Commit found a ne = and_false (i == o)
other_word m o c i Act found a ne = and_false (i == o)
other_word m o c i Lock found a ne = and_false (i == o)
other_word m o c i Check found a ne = and_false (i == o)
other_word m o c i Finish found a ne = absurd (ne refl)
other_word m o c i Abort found a ne = and_false (i == o)
other_word m o c i Free found a ne = and_false (i == o)
other_word m o c i Exit found a ne = and_false (i == o)

lt_more : (o made : ℕ) → o ≢ made → nat_lt o (made + 1) ≡ nat_lt o made
lt_more o made ne = grind (arith, nat_tests)

lt_itself : (o : ℕ) → nat_lt o o ≡ false
lt_itself o = grind (arith, nat_tests)

lt_next : (o : ℕ) → nat_lt o (o + 1) ≡ true
lt_next o = grind (arith, nat_tests)

module _ (m : State) (r : Reached m) (numbered : Numbered m) (f : Finishing m) (c : ℕ) (call : InFlight) (is : call_of m c ≡ Some call) (o n : ℕ) (b : Balanced m o n) where
  none_by : (slot : Option Object) → object_with m m.made ≡ slot → slot ≡ None
  none_by None e = refl
  none_by (Some x) e = absurd (let p = Passes-find (has_id m.made) x m.objects e in let low = id_below m r x p.within in let same = eqb-true x.id m.made p.test in omega arith)

  -- no object of the next id is there
  none_next : object_with m m.made ≡ None
  none_next = none_by (object_with m m.made) refl

  balanced_as : (m' k : State) (n' : ℕ) → m' ≡ k → Balanced k o n' → Balanced m' o n'
  balanced_as m' k n' e h = let P : State → Type 0 = λ s. Balanced s o n' in subst P (sym e) h

  balanced_made : (kind : Kind) (index : ℕ) → InPlan call Make → (m.made == NONE) ≡ false → Balanced (with_new m c (object_made m call kind index)) o (n + 0)
  balanced_made kind index plan fresh =
      let z = object_made m call kind index in
      let room = room_is z m.objects (room_at m c call r numbered is plan) in
      let next : next_id m.made ≡ m.made + 1 = rw fresh in
      ⊎_elim
      (λ e. (
      let same : o ≡ m.made = e.1 in
      let before : stands_in m.objects o ≡ false = ap (λ i. stands_in m.objects i) same ∙ ap stands_slot none_next in
      let behind : stands_in (with_room_for z m.objects) o ≡ true = ap (λ v. stands_in v o) room ∙ ap stands_slot (find_new o z m.objects (sym same) (ap (λ i. find (has_id i) m.objects) same ∙ none_next)) in
      let low : nat_lt o m.made ≡ false = ap (λ i. nat_lt i m.made) same ∙ lt_itself m.made in
      let high : nat_lt o (next_id m.made) ≡ true = ap (nat_lt o) next ∙ ap (λ i. nat_lt i (m.made + 1)) same ∙ lt_next m.made in
      record { sum = omega (arith, b.sum, ap one_if before, ap one_if behind, ap one_if low, ap one_if high) }))
      (λ e. (
      let behind : stands_in (with_room_for z m.objects) o ≡ stands_in m.objects o = ap (λ v. stands_in v o) room ∙ ap stands_slot (find_more o z m.objects e.1) in
      let high : nat_lt o (next_id m.made) ≡ nat_lt o m.made = ap (nat_lt o) next ∙ lt_more o m.made e.1 in
      record { sum = omega (arith, b.sum, ap one_if behind, ap one_if high) }))
      (eqb_tells o m.made)

  stands_act : (a : Answer) (what : request.Act) → stands_in (act m c call a what).objects o ≡ stands_in m.objects o
  stands_act a (Modify to attrs) = refl
  stands_act a Query = refl
  stands_act a (Bind offset long access) = stands_map m.objects o (acted_on call) (ToBound (Some (binding_of call offset long access))) refl
  stands_act a (Unbind offset long access) = stands_map m.objects o (acted_on call) (ToBound None) refl
  stands_act a Async = refl

  act_made : (a : Answer) (what : request.Act) → (act m c call a what).made ≡ m.made
  act_made a (Modify to attrs) = refl
  act_made a Query = refl
  act_made a (Bind offset long access) = refl
  act_made a (Unbind offset long access) = refl
  act_made a Async = refl

  -- a finish of another object
  stands_finished : (i : ℕ) → i ≢ o → stands_in (finish m c i).objects o ≡ stands_in m.objects o
  stands_finished i ne =
      ap (λ v. stands_in v o) (finish_objects m c i)
      ∙ ap stands_slot (find_kept o (not_with_id i) m.objects (λ x k e. ap not (ne_eqb x.id i (λ same. ne (sym same ∙ e)))))

  none_finished : (i : ℕ) → i ≡ o → stands_in (finish m c i).objects o ≡ false
  none_finished i same =
      ap (λ v. stands_in v o) (finish_objects m c i)
      ∙ ap stands_slot (find_lost o (not_with_id i) m.objects (λ x k e. ap not (eq-eqb x.id i (e ∙ sym same))))

  -- the finish of a call's own object, which is doomed or a husk
  ending_by : (p : Phase) → is_ending p ≡ true → one_if (is_doomed p) ≡ one_if (not (is_husk p))
  ending_by phase.Made e = absurd cc
  ending_by phase.Live e = absurd cc
  ending_by phase.Doomed e = refl
  ending_by phase.Husk e = refl

  ending_slot : (slot : Option Object) → object_with m o ≡ slot → InPlan call Finish → own_object call ≡ o → one_if (is_doomed_object slot) ≡ one_if (stands_slot slot)
  ending_slot None e plan own = refl
  ending_slot (Some x) e plan own =
      let p = Passes-find (has_id o) x m.objects e in
      let id : x.id ≡ o = eqb-true x.id o p.test in
      let owns = owns_at_finish m r c call is plan in
      ending_by x.phase (f c call is (next_word-planned call Finish plan.fine plan.planned) x p.within (owns ∙ ap (λ (v : ℕ). Some v) (own ∙ sym id)))

  finished_sum : (i : ℕ) (found : Option QpState) (a : Answer) → InPlan call Finish → own_object call ≡ i → Balanced (finish m c i) o (n + one_if (releases m o (Step c Finish i found a)))
  finished_sum i found a plan own =
      let made = finish_made m c i in
      ⊎_elim
      (λ e. (
      let here : one_if (releases m o (Step c Finish i found a)) ≡ one_if (is_doomed_object (object_with m o)) = ap (λ v. one_if (v && is_doomed_object (object_with m o))) e.0 in
      let ends = ending_slot (object_with m o) refl plan (own ∙ e.1) in
      let none = none_finished i e.1 in
      record { sum = omega (arith, b.sum, here, ends, ap one_if none, ap (λ k. one_if (nat_lt o k)) made) }))
      (λ e. (
      let other : one_if (releases m o (Step c Finish i found a)) ≡ 0 = ap (λ v. one_if (v && is_doomed_object (object_with m o))) e.0 in
      let stays = stands_finished i e.1 in
      record { sum = omega (arith, b.sum, other, ap one_if stays, ap (λ k. one_if (nat_lt o k)) made) }))
      (eqb_tells i o)

  -- a turn that is no finish
  other_sum : (m' : State) (w : Word) (i : ℕ) (found : Option QpState) (a : Answer) → w ≢ Finish → Balanced m' o (n + 0) → Balanced m' o (n + one_if (releases m o (Step c w i found a)))
  other_sum m' w i found a ne h = let P : ℕ → Type 0 = λ k. Balanced m' o (n + k) in subst P (sym (ap one_if (other_word m o c i w found a ne))) h

  word_apart : (w v : Word) → next_word call ≡ w → next_word call ≡ v → v ≢ Finish → w ≢ Finish
  word_apart w v one two ne e = ne (sym two ∙ one ∙ e)

  planned_word : (v : Word) → InPlan call v → next_word call ≡ v
  planned_word v plan = next_word-planned call v plan.fine plan.planned

  refused_apart : (v : Word) → may_refuse v ≡ true → v ≢ Finish
  refused_apart v may e = let same : may_refuse v ≡ false = ap may_refuse e in cc

  gives_objects : (m' k : State) → m' ≡ k → stands_in k.objects o ≡ stands_in m.objects o → stands_in m'.objects o ≡ stands_in m.objects o
  gives_objects m' k e h = ap (λ (s : State). stands_in s.objects o) e ∙ h

  gives_made : (m' k : State) → m' ≡ k → k.made ≡ m.made → m'.made ≡ m.made
  gives_made m' k e h = ap (λ (s : State). s.made) e ∙ h

  still : (m' k : State) → m' ≡ k → stands_in k.objects o ≡ stands_in m.objects o → k.made ≡ m.made → Balanced m' o (n + 0)
  still m' k e stands made = balanced_same m m' o n b (gives_objects m' k e stands) (gives_made m' k e made)

  pub balanced_turn : (m' : State) (w : Word) (i : ℕ) (found : Option QpState) (a : Answer) → next_word call ≡ w → (told m c call found w).object ≡ i → Turn m c call a m' → Balanced m' o (n + one_if (releases m o (Step c w i found a)))
  balanced_turn m' w i found a word object (Refuses t) = other_sum m' w i found a (word_apart w t.word word (planned_word t.word t.plan) (refused_apart t.word t.may)) (still m' _ t.gives refl refl)
  balanced_turn m' w i found a word object (Reserves t) = other_sum m' w i found a (word_apart w Reserve word (planned_word Reserve t.plan) (λ e. cc)) (still m' _ t.gives refl refl)
  balanced_turn m' w i found a word object (Looks t) = other_sum m' w i found a (word_apart w Look word (planned_word Look t.plan) (λ e. cc)) (still m' _ t.gives refl refl)
  balanced_turn m' w i found a word object (Makes t) = other_sum m' w i found a (word_apart w Make word (planned_word Make t.plan) (λ e. cc)) (balanced_as m' _ (n + 0) t.gives (balanced_made t.kind t.index t.plan t.fresh))
  balanced_turn m' w i found a word object (Commits t) = other_sum m' w i found a (word_apart w Commit word (planned_word Commit t.plan) (λ e. cc)) (still m' _ t.gives (stands_map m.objects o (own_object call) ToLive refl) refl)
  balanced_turn m' w i found a word object (Does t) = other_sum m' w i found a (word_apart w Act word (planned_word Act t.plan) (λ e. cc)) (still m' _ t.gives (stands_act a t.what) (act_made a t.what))
  balanced_turn m' w i found a word object (Locks t) = other_sum m' w i found a (word_apart w Lock word (planned_word Lock t.plan) (λ e. cc)) (still m' _ t.gives refl refl)
  balanced_turn m' w i found a word object (Checks t) = other_sum m' w i found a (word_apart w Check word (planned_word Check t.plan) (λ e. cc)) (still m' _ t.gives (stands_map m.objects o (own_object call) ToDoomed refl) refl)
  balanced_turn m' w i found a word object (Finishes t) =
      let finish_word : w ≡ Finish = sym word ∙ planned_word Finish t.plan in
      let own : own_object call ≡ i = ap (λ v. (told m c call found v).object) (sym finish_word) ∙ object in
      let P : Word → Type 0 = λ v. Balanced m' o (n + one_if (releases m o (Step c v i found a))) in
      let gives : m' ≡ finish m c i = t.gives ∙ ap (finish m c) own in
      subst P (sym finish_word) (balanced_as m' _ (n + one_if (releases m o (Step c Finish i found a))) gives (finished_sum i found a t.plan own))
  balanced_turn m' w i found a word object (Aborts t) = other_sum m' w i found a (word_apart w Abort word (next_word-closing call t.ends ∙ t.word) (λ e. cc)) (still m' _ t.gives refl refl)
  balanced_turn m' w i found a word object (Frees t) = other_sum m' w i found a (word_apart w Free word (next_word-closing call t.ends ∙ t.word) (λ e. cc)) (still m' _ t.gives refl refl)
  balanced_turn m' w i found a word object (Leaves t) = other_sum m' w i found a (word_apart w Exit word (next_word-closing call t.ends ∙ t.word) (λ e. cc)) (still m' _ t.gives refl refl)

-- The other entries.

doomed_stands : (p : Phase) → is_doomed p ≡ true → not (is_husk p) ≡ true
doomed_stands phase.Made h = absurd cc
doomed_stands phase.Live h = absurd cc
doomed_stands phase.Doomed h = refl
doomed_stands phase.Husk h = absurd cc

gone_here : (m : State) (o : ℕ) (x : Object) → object_with m o ≡ Some x → is_doomed x.phase ≡ true → stands_in m.objects o ≡ true
gone_here m o x e doomed = ap stands_slot e ∙ doomed_stands x.phase doomed

husk_here : (i : ℕ) (x : Object) (b : Bool) → b ≡ true → is_husk (if b then with_change ToHusk x else x).phase ≡ true
husk_here i x true e = refl
husk_here i x false e = absurd cc

husk_elsewhere : (i : ℕ) (x : Object) (b : Bool) → b ≡ false → (if b then with_change ToHusk x else x) ≡ x
husk_elsewhere i x true e = absurd cc
husk_elsewhere i x false e = refl

husk_slot : (i o : ℕ) (objects : List Object) (slot : Option Object) → find (has_id o) objects ≡ slot → i ≢ o → stands_slot (option_map (on_object i ToHusk) slot) ≡ stands_slot slot
husk_slot i o objects None e ne = refl
husk_slot i o objects (Some x) e ne =
    let p = Passes-find (has_id o) x objects e in
    let id : x.id ≡ o = eqb-true x.id o p.test in
    ap (λ (v : Object). not (is_husk v.phase)) (husk_elsewhere i x (has_id i x) (ne_eqb x.id i (λ same. ne (sym same ∙ id))))

gone_sum : (m : State) (o i kept n : ℕ) (slot : Option Object) → object_with m i ≡ slot → may_go_object m slot ≡ true → Balanced m o n → Balanced (gone_from m i slot) o (n + one_if (i == o))
gone_sum m o i kept n None e may b = absurd cc
gone_sum m o i kept n (Some x) e may b =
    let doomed = (and_parts (is_doomed x.phase) (may_sweep m x.file) may).0 in
    let p = Passes-find (has_id i) x m.objects e in
    let found = find_changed o i ToHusk m.objects in
    ⊎_elim
    (λ k. (
    let before : stands_in m.objects o ≡ true = ap (λ v. stands_in m.objects v) (sym k.1) ∙ gone_here m i x e doomed in
    let slot : find (has_id o) m.objects ≡ Some x = ap (λ v. find (has_id v) m.objects) (sym k.1) ∙ e in
    let husk : is_husk (on_object i ToHusk x).phase ≡ true = husk_here i x (has_id i x) p.test in
    let behind : stands_in (map (on_object i ToHusk) m.objects) o ≡ false = ap stands_slot (found ∙ ap (option_map (on_object i ToHusk)) slot) ∙ ap not husk in
    record { sum = omega (arith, b.sum, ap one_if k.0, ap one_if before, ap one_if behind) }))
    (λ k. (
    let behind : stands_in (map (on_object i ToHusk) m.objects) o ≡ stands_in m.objects o = ap stands_slot found ∙ husk_slot i o m.objects (find (has_id o) m.objects) refl k.1 in
    record { sum = omega (arith, b.sum, ap one_if k.0, ap one_if behind) }))
    (eqb_tells i o)

unless_sum : (m m' : State) (e : Option Errno) (o n : ℕ) → Balanced m o n → Balanced m' o n → Balanced (unless_answered m e m') o n
unless_sum m m' None o n b b' = b'
unless_sum m m' (Some e) o n b b' = b

husk_by : (a husk : Bool) → a ≡ true → (a && not husk) ≡ false → husk ≡ true
husk_by true true e fails = refl
husk_by true false e fails = absurd cc
husk_by false husk e fails = absurd cc

-- when a file is closed all its objects are husks
pub not_standing : (m : State) (f : ℕ) (x : Object) → has_standing m f ≡ false → IsIn x m.objects → x.file ≡ f → is_husk x.phase ≡ true
not_standing m f x none k e =
    let no : (in_file f x && not (is_husk x.phase)) ≡ false = fails_any (is_standing_in f) x m.objects none k in
    husk_by (in_file f x) (is_husk x.phase) (eq-eqb x.file f e) no

closed_by : (m : State) (r : Reached m) (f o : ℕ) (slot : Option Object) → object_with m o ≡ slot → has_standing m f ≡ false → stands_in (filter (not_in_file f) m.objects) o ≡ stands_slot slot
closed_by m r f o None e none =
    ap stands_slot (find_lost o (not_in_file f) m.objects (λ x k id. absurd (let gone = fails_find (has_id o) x m.objects e k in let here = eq-eqb x.id o id in cc)))
closed_by m r f o (Some x) e none =
    let p = Passes-find (has_id o) x m.objects e in
    let id : x.id ≡ o = eqb-true x.id o p.test in
    ⊎_elim
    (λ k. (
    let husk = not_standing m f x none p.within k.1 in
    ap stands_slot (find_lost o (not_in_file f) m.objects (λ y h same. ap not (ap (λ (v : Object). v.file == f) (same_object m r y x h p.within (same ∙ sym id)) ∙ k.0)))
    ∙ sym (ap not husk)))
    (λ k. ap stands_slot (find_kept o (not_in_file f) m.objects (λ y h same. ap not (ap (λ (v : Object). v.file == f) (same_object m r y x h p.within (same ∙ sym id)) ∙ k.0)) ∙ e))
    (eqb_tells x.file f)

pub not_so : (b : Bool) → not b ≡ true → b ≡ false
not_so true h = absurd cc
not_so false h = refl

pub balanced_after : (m : State) (e : Entry) (o n : ℕ) → Reached m → Numbered m → Finishing m → Allowed m e → Balanced m o n → Balanced (after m e) o (n + one_if (releases m o e))
balanced_after m (Open c f d a) o n r numbered fin allowed b = unless_sum m _ (refusal_in a) o (n + 0) (balanced_same m m o n b refl refl) (record { sum = omega (arith, b.sum) })
balanced_after m (Enter c f request a) o n r numbered fin allowed b = unless_sum m _ (refusal_in a) o (n + 0) (balanced_same m m o n b refl refl) (record { sum = omega (arith, b.sum) })
balanced_after m (Step c w i found a) o n r numbered fin allowed b =
    let t = IsTurn-allowed m c w i found a allowed in
    balanced_turn m r numbered fin c t.call t.is o n b (after m (Step c w i found a)) w i found a t.word t.object t.turn
balanced_after m (Unplug d) o n r numbered fin allowed b = record { sum = omega (arith, b.sum) }
balanced_after m (Tear f by) o n r numbered fin allowed b = record { sum = omega (arith, b.sum) }
balanced_after m (Kill i) o n r numbered fin allowed b = record { sum = omega (arith, b.sum, ap one_if (stands_map m.objects o i ToDoomed refl)) }
balanced_after m (Gone i kept) o n r numbered fin allowed b = gone_sum m o i kept n (object_with m i) refl allowed b
balanced_after m (Dissociated f) o n r numbered fin allowed b = record { sum = omega (arith, b.sum) }
balanced_after m (Closed f) o n r numbered fin allowed b =
    let parts = and_parts (is_closing (phase_of m f)) (is_quiet m f && not (has_standing m f)) allowed.1 in
    let none = not_so (has_standing m f) (and_parts (is_quiet m f) (not (has_standing m f)) parts.1).1 in
    record { sum = omega (arith, b.sum, ap one_if (closed_by m r f o (object_with m o) refl none)) }
