-- What is kept beside the state says of it what its readers say.
use Rattle.std.proofs.Common.{◌≡◌, ℕ, zero, suc, ◌+◌, ◌≤◌, Bool, true, false, List, [], ◌∷◌, Option, Some, None, inl, inr, length, refl, ap, sym, ◌∙◌, subst, arith, ⊎_elim}
use Rattle.std.specs.Prelude.{slice_get, find, not, ◌&&◌, ◌||◌, ◌==◌, nat_lt, option_map, if◌then◌else◌}
use Rattle.std.specs.List.{list_any}
use Rattle.std.proofs.lemmas.Bool.{ne_eqb, eqb-true, and_parts}
use Rattle.std.proofs.lemmas.Option.{none-some, same_Some, slice_get_cases}
use Rattle.uv_num.specs.declared.limits.TheConstants.{FILES, HANDLES}
use Rattle.uv_num.specs.Ids.{ids_of, is_number}
use Rattle.uv_machine.specs.declared.call.InFlight.{InFlight}
use Rattle.uv_machine.specs.declared.object.Object.{Object}
use Rattle.uv_machine.specs.declared.state.State.{State}
use Rattle.uv_machine.specs.Objects.{has_id, has_handle, is_published_at, uses_object, is_made}
use Rattle.uv_machine.specs.Plans.{is_the_number, reserves, locks, holds, looks_at}
use Rattle.uv_machine.specs.States.{the_call, call_of, object_with, published, has_users, is_excluded, has_others, is_taken, least_from, least_free}
use Rattle.uv_machine.specs.Reached.{IsIn}
use Rattle.uv_machine.proofs.Calling.{false_unless}
use Rattle.uv_machine.proofs.Graph.{find_rising}
use Rattle.uv_machine.proofs.Leasts.{least_from_free}
use Rattle.uv_machine.proofs.Members.{Passes-find, SomePasses-list_any, list_any-none, fails_any}
use Rattle.uv_machine.proofs.Sums.{worth}
use Rattle.uv_machine.proofs.Turning.{or_cases, number_is, holds_locked}
use Rattle.uv_handles.specs.declared.slot.Slot.{Slot}
use Rattle.uv_handles.specs.Table.{is_free, object_of, is_taken_in, published_in, least_free_in}
use Rattle.uv_handles.proofs.Leasts.{least_free_search}
use Rattle.uv_store.specs.declared.mark.Mark.{Mark}
use Rattle.uv_store.specs.Marks.{looks_by, reads_on, word_for, word_on, is_beside, uses_by, users_on, mark_on, stood_mark, beside_in, is_alone_word, alone_in, used_in}
use Rattle.uv_store.specs.Stored.{IsLegalState}
use Rattle.uv_store.specs.Tables.{table_in, table_at, least_at, HasAllNumbers, slot_for, AreTables}
use Rattle.uv_store.proofs.Beside.{any_count, any_sum, none_beside, some_beside, sum_beside}
use Rattle.uv_store.proofs.Legal.{reached, own_stands, looks_stand, uses_stand, bounded}

-- an item has a place
pub place_in : {X : Type 0} (x : X) (xs : List X) → IsIn x xs → (j : ℕ) × (slice_get xs j ≡ Some x)
place_in x [] k = absurd k
place_in x (y ∷ ys) (inl e) = (0, ap (λ v. Some v) (sym e))
place_in x (y ∷ ys) (inr k) = let more = place_in x ys k in (suc more.0, more.1)

-- the count of users
pub users_tell : (objects : List Object) (o : ℕ) → nat_lt 0 (users_on objects o) ≡ list_any (uses_object o) objects
users_tell objects o = any_sum (uses_by o) (uses_object o) objects (λ x k. any_count (is_number o) (ids_of x.uses))

or_false : (a b : Bool) → (a || b) ≡ false → a ≡ false
or_false true b e = cc
or_false false b e = refl

pub locks_holds : (o : ℕ) (slot : Option InFlight) → holds o slot ≡ false → locks o slot ≡ false
locks_holds o None e = refl
locks_holds o (Some call) e = or_false (is_the_number o call.locked) (looks_at o call) e

pub looks_tell : (o : ℕ) (slot : Option InFlight) → locks o slot ≡ false → nat_lt 0 (looks_by o slot) ≡ holds o slot
looks_tell o None e = refl
looks_tell o (Some call) e = any_count (is_number o) (ids_of call.looked) ∙ sym (ap (λ b. b || looks_at o call) e)

-- the looks of the call in a slot of the table
slot_looks : (o : ℕ) (slot : Option (Option InFlight)) → worth (looks_by o) slot ≡ looks_by o (the_call slot)
slot_looks o None = refl
slot_looks o (Some slot) = refl

-- a call that holds an object alone
pub record IsLocker (o : ℕ) (slot : Option InFlight) : Type 0 where
  pub call : InFlight
  pub is : slot ≡ Some call
  pub own : call.locked ≡ Some o

pub locker : (o : ℕ) (slot : Option InFlight) → locks o slot ≡ true → IsLocker o slot
locker o None e = absurd cc
locker o (Some call) e = record { call = call; is = refl; own = number_is o call.locked e }

module _ (m : State) (l : IsLegalState m) where
  -- what stands under an id that no object has
  stands_not : (o : ℕ) → find (has_id o) m.objects ≡ None → (x : Object) → IsIn x m.objects → x.id ≡ o → ⊥
  stands_not o none x k same =
      let P : ℕ → Type 0 = λ v. find (has_id v) m.objects ≡ Some x in
      let found : find (has_id o) m.objects ≡ Some x = subst P same (find_rising 0 m.made x m.objects k (reached m l).graph.rising) in
      cc

  pub unused : (o : ℕ) → find (has_id o) m.objects ≡ None → has_users m o ≡ false
  unused o none = list_any-none (uses_object o) m.objects (λ x k. false_unless (uses_object o x) (λ used.
      let s = uses_stand m l x o k used in
      stands_not o none s.item s.within s.id))

  holds_not : (o : ℕ) → find (has_id o) m.objects ≡ None → (j : ℕ) (slot : Option InFlight) → slice_get m.calls j ≡ Some slot → holds o slot ≡ false
  holds_not o none j None e = refl
  holds_not o none j (Some call) e = false_unless (holds o (Some call)) (λ held. ⊎_elim
      (λ locked. (let s = own_stands m l j o call (ap the_call e) (number_is o call.locked locked) in stands_not o none s.item s.within s.id))
      (λ looked. (let s = looks_stand m l j o call (ap the_call e) looked in stands_not o none s.item s.within s.id))
      (or_cases (is_the_number o call.locked) (looks_at o call) held))

  pub unlocked : (o : ℕ) → find (has_id o) m.objects ≡ None → is_excluded m o ≡ false
  unlocked o none = list_any-none (locks o) m.calls (λ slot k. (let p = place_in slot m.calls k in locks_holds o slot (holds_not o none p.0 slot p.1)))

  pub unheld : (c o : ℕ) → find (has_id o) m.objects ≡ None → has_others m c o ≡ false
  unheld c o none = none_beside c (holds o) 0 m.calls (λ j slot e apart. holds_not o none j slot e)

  -- where no call holds the object alone
  beside_looks : (c o : ℕ) → list_any (locks o) m.calls ≡ false → nat_lt (looks_by o (call_of m c)) (reads_on m.calls o) ≡ has_others m c o
  beside_looks c o none =
      ap (λ n. nat_lt n (reads_on m.calls o)) (sym (slot_looks o (slice_get m.calls c)))
      ∙ sym (sum_beside c (looks_by o) (holds o) 0 m.calls c (omega arith) (λ slot k. looks_tell o slot (fails_any (locks o) slot m.calls none k)))

  -- where a call does
  beside_lock : (c o : ℕ) → list_any (locks o) m.calls ≡ true → (b : Bool) → locks o (call_of m c) ≡ b → not b ≡ has_others m c o
  beside_lock c o some true e =
      let own = locker o (call_of m c) e in
      sym (none_beside c (holds o) 0 m.calls (λ j slot at apart. elim slot as (λ v. slice_get m.calls j ≡ Some v → holds o v ≡ false) [
        | None ↦ λ h. refl
        | Some call ↦ λ h. (reached m l).alone c j own.call call o own.is (ap the_call h) (λ same. apart (omega (arith, same))) own.own
      ] at))
  beside_lock c o some false e =
      let s = SomePasses-list_any (locks o) m.calls some in
      let p = place_in s.item m.calls s.passes.within in
      let own = locker o s.item s.passes.test in
      let is : call_of m p.0 ≡ s.item = ap the_call p.1 in
      let held : holds o s.item ≡ true = ap (holds o) own.is ∙ holds_locked o own.call own.own in
      sym (some_beside c (holds o) 0 m.calls p.0 s.item p.1 (λ same.
      let here : p.0 ≡ c = omega (arith, same) in
      let yes : locks o (call_of m c) ≡ true = ap (λ v. locks o (call_of m v)) (sym here) ∙ (ap (locks o) is ∙ s.passes.test) in
      cc) held)

  beside_word : (c o : ℕ) (b : Bool) → list_any (locks o) m.calls ≡ b → is_beside (word_for b (reads_on m.calls o)) (call_of m c) o ≡ has_others m c o
  beside_word c o true e = beside_lock c o e (locks o (call_of m c)) refl
  beside_word c o false e = beside_looks c o e

  -- what a word says of the calls of others
  pub others_tell : (c o : ℕ) → is_beside (word_on m.calls o) (call_of m c) o ≡ has_others m c o
  others_tell c o = beside_word c o (list_any (locks o) m.calls) refl

  -- the object that is published under a number is the one with its id
  pub published_with : (f n : ℕ) (x : Object) → published m f n ≡ Some x → object_with m x.id ≡ Some x
  published_with f n x e = find_rising 0 m.made x m.objects (Passes-find (is_published_at f n) x m.objects e).within (reached m l).graph.rising

-- What a slot says.

slot_object : (p : Option Object) (taken : Bool) → object_of (slot_for p taken) ≡ option_map (λ (x : Object). x.id) p
slot_object (Some x) taken = refl
slot_object None true = refl
slot_object None false = refl

pub slot_published : (tables : List (List Slot)) (m : State) (f n : ℕ) → AreTables tables m → published_in (table_at tables f) n ≡ option_map (λ (x : Object). x.id) (published m f n)
slot_published tables m f n are = ap object_of (are f n) ∙ slot_object (published m f n) (is_taken m f n)

or_true : (a b : Bool) → a ≡ true → (a || b) ≡ true
or_true true b e = refl
or_true false b e = cc

and_first : (a b : Bool) → (a && b) ≡ true → a ≡ true
and_first true b e = refl
and_first false b e = e

slot_taken : (p : Option Object) (taken : Bool) → ((x : Object) → p ≡ Some x → taken ≡ true) → not (is_free (slot_for p taken)) ≡ taken
slot_taken (Some x) taken h = sym (h x refl)
slot_taken None true h = refl
slot_taken None false h = refl

pub any_in : {X : Type 0} (p : X → Bool) (x : X) (xs : List X) → IsIn x xs → p x ≡ true → list_any p xs ≡ true
any_in p x [] k e = absurd k
any_in p x (y ∷ ys) (inl same) e = or_true (p y) (list_any p ys) (ap p (sym same) ∙ e)
any_in p x (y ∷ ys) (inr k) e = let rest = any_in p x ys k e in ap (λ b. p y || b) rest ∙ elim (p y) as (λ b. (b || true) ≡ true) [ true ↦ refl | false ↦ refl ]

published_taken : (m : State) (f n : ℕ) (x : Object) → published m f n ≡ Some x → is_taken m f n ≡ true
published_taken m f n x e =
    let p = Passes-find (is_published_at f n) x m.objects e in
    or_true (list_any (has_handle f n) m.objects) (list_any (reserves f n) m.calls)
    (any_in (has_handle f n) x m.objects p.within (and_first (has_handle f n x) (not (is_made x.phase)) p.test))

-- a number is taken where its slot isn't free
pub slot_tells : (tables : List (List Slot)) (m : State) (f n : ℕ) → AreTables tables m → is_taken_in (table_at tables f) n ≡ is_taken m f n
slot_tells tables m f n are =
    ap (λ s. not (is_free s)) (are f n) ∙ slot_taken (published m f n) (is_taken m f n) (λ x e. published_taken m f n x e)

least_none : (taken : ℕ → Bool) (n : ℕ) → least_from taken n zero ≡ None
unfolding least_from
least_none taken n = refl

least_next : (taken : ℕ → Bool) (n k : ℕ) → least_from taken n (suc k) ≡ (if taken n then least_from taken (n + 1) k else Some n)
unfolding least_from
least_next taken n k = refl

-- the least free number of a table is that of its file
pub least_tells : (tables : List (List Slot)) (m : State) (f : ℕ) (table : List Slot) → slice_get tables f ≡ Some table → AreTables tables m → length table ≡ HANDLES → least_free_in table ≡ least_free m f
least_tells tables m f table is are size =
    let at : table_at tables f ≡ table = ap table_in is in
    let P : List Slot → Type 0 = λ t. (i : ℕ) → is_taken_in t i ≡ is_taken m f i in
    let same = subst P at (λ i. slot_tells tables m f i are) in
    sym (least_free_search (is_taken m f) (least_from (is_taken m f)) (least_none (is_taken m f)) (least_next (is_taken m f)) table (λ i within. same i))
    ∙ ap (λ k. least_from (is_taken m f) 0 k) size

-- no number is taken of a file that isn't there
no_handle : (m : State) (l : IsLegalState m) (f n : ℕ) → FILES ≤ f → is_taken m f n ≡ false
no_handle m l f n past =
    let objects : list_any (has_handle f n) m.objects ≡ false = list_any-none (has_handle f n) m.objects (λ x k. (
    let low = ((bounded m l).handles x k).0 in
    ap (λ b. b && (x.handle == n)) (ne_eqb x.file f (λ same. omega (arith, low))))) in
    let calls : list_any (reserves f n) m.calls ≡ false = list_any-none (reserves f n) m.calls (λ slot k. none_set slot k) in
    ap (λ b. b || list_any (reserves f n) m.calls) objects ∙ calls
  where
    none_set : (slot : Option InFlight) → IsIn slot m.calls → reserves f n slot ≡ false
    none_set None k = refl
    none_set (Some call) k = false_unless (reserves f n (Some call)) (λ yes.
        let p = place_in (Some call) m.calls k in
        let parts = and_parts (call.file == f) (is_the_number n call.reserved) yes in
        let low = ((bounded m l).numbers p.0 n call (ap the_call p.1) (number_is n call.reserved parts.1)).0 in
        let same = eqb-true call.file f parts.0 in
        omega (arith, low))

pub least_reads : (tables : List (List Slot)) (m : State) (l : IsLegalState m) (f : ℕ) (t : Option (List Slot)) → slice_get tables f ≡ t → length tables ≡ FILES → AreTables tables m → HasAllNumbers t → least_at t ≡ least_free m f
least_reads tables m l f None is files are size =
    let past : FILES ≤ f = ⊎_elim
    (λ c. absurd (none-some _ (sym is ∙ c.2)))
    (λ c. omega (arith, c.0, files))
    (slice_get_cases tables f).1 in
    sym (least_from_free (is_taken m f) 0 HANDLES 255 refl (no_handle m l f 0 past))
least_reads tables m l f (Some table) is files are size = least_tells tables m f table is are size

-- What a mark says.

marks_found : (g : ℕ → Mark) (o : ℕ) (p : Option Object) → ((x : Object) → p ≡ Some x → x.id ≡ o) → option_map (λ (x : Object). g x.id) p ≡ option_map (λ (x : Object). g o) p
marks_found g o None h = refl
marks_found g o (Some x) h = ap (λ i. Some (g i)) (h x refl)

pub mark_found : (m : State) (o : ℕ) → option_map (λ (x : Object). mark_on m x.id) (object_with m o) ≡ stood_mark m o
mark_found m o = marks_found (mark_on m) o (object_with m o) (λ x e. eqb-true x.id o (Passes-find (has_id o) x m.objects e).test)

alone_word : (b : Bool) (n : ℕ) → is_alone_word (word_for b n) ≡ b
alone_word true n = refl
alone_word false n = refl

module _ (m : State) (l : IsLegalState m) where
  used_by : (o : ℕ) (p : Option Object) → object_with m o ≡ p → used_in (option_map (λ x. mark_on m o) p) ≡ has_users m o
  used_by o None e = sym (unused m l o e)
  used_by o (Some x) e = users_tell m.objects o

  pub used_reads : (o : ℕ) → used_in (stood_mark m o) ≡ has_users m o
  used_reads o = used_by o (object_with m o) refl

  alone_by : (o : ℕ) (p : Option Object) → object_with m o ≡ p → alone_in (option_map (λ x. mark_on m o) p) ≡ is_excluded m o
  alone_by o None e = sym (unlocked m l o e)
  alone_by o (Some x) e = alone_word (list_any (locks o) m.calls) (reads_on m.calls o)

  pub alone_reads : (o : ℕ) → alone_in (stood_mark m o) ≡ is_excluded m o
  alone_reads o = alone_by o (object_with m o) refl

  beside_by : (c o : ℕ) (p : Option Object) → object_with m o ≡ p → beside_in (option_map (λ x. mark_on m o) p) (call_of m c) o ≡ has_others m c o
  beside_by c o None e = sym (unheld m l c o e)
  beside_by c o (Some x) e = others_tell m l c o

  pub beside_reads : (c o : ℕ) → beside_in (stood_mark m o) (call_of m c) o ≡ has_others m c o
  beside_reads c o = beside_by c o (object_with m o) refl

-- What a table says.

found_none : (p : Option Object) → option_map (λ (x : Object). x.id) p ≡ None → p ≡ None
found_none None e = refl
found_none (Some x) e = absurd (none-some _ (sym e))

pub published_not : (tables : List (List Slot)) (m : State) (f n : ℕ) → AreTables tables m → published_in (table_at tables f) n ≡ None → published m f n ≡ None
published_not tables m f n are e = found_none (published m f n) (sym (slot_published tables m f n are) ∙ e)

found_some : (m : State) (l : IsLegalState m) (f n id : ℕ) (p : Option Object) → published m f n ≡ p → option_map (λ (x : Object). x.id) p ≡ Some id → object_with m id ≡ p
found_some m l f n id None e h = absurd (none-some _ h)
found_some m l f n id (Some x) e h =
    let P : ℕ → Type 0 = λ v. object_with m v ≡ Some x in
    subst P (same_Some _ _ h) (published_with m l f n x e)

pub published_is : (tables : List (List Slot)) (m : State) (l : IsLegalState m) (f n id : ℕ) → AreTables tables m → published_in (table_at tables f) n ≡ Some id → object_with m id ≡ published m f n
published_is tables m l f n id are e =
    found_some m l f n id (published m f n) refl (sym (slot_published tables m f n are) ∙ e)
