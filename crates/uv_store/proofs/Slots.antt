-- What stands at an object's number, and what a change of one object leaves at all others.
use Rattle.std.proofs.Common.{◌≡◌, ℕ, ◌≤◌, Bool, true, false, List, [], ◌∷◌, Option, Some, None, inl, inr, map, cond, refl, ap, sym, ◌∙◌, arith}
use Rattle.std.specs.Prelude.{find, not, ◌==◌, ◌||◌, ◌&&◌, count_by, if◌then◌else◌}
use Rattle.std.proofs.lemmas.Bool.{eq-eqb, and_parts}
use Rattle.uv_machine.specs.declared.object.Object.{Object}
use Rattle.uv_machine.specs.declared.object.Change.{Change}
use Rattle.uv_machine.specs.declared.state.State.{State}
use Rattle.uv_machine.specs.Objects.{has_id, has_handle, is_published_at, is_made, with_change, on_object}
use Rattle.uv_machine.specs.States.{published, is_taken}
use Rattle.uv_machine.specs.Reached.{IsIn, IsBounded}
use Rattle.uv_machine.proofs.Members.{Passes-find, fails_find, count_by-cons, one_if}
use Rattle.uv_handles.specs.declared.slot.Slot.TheVariants.{Reserved, Published}
use Rattle.uv_store.specs.Tables.{slot_for, slot_on}
use Rattle.uv_store.proofs.Reading.{any_in}

-- A test that one item passes.

counted : {X : Type 0} (p : X → Bool) (x : X) (xs : List X) → IsIn x xs → p x ≡ true → 1 ≤ count_by p xs
counted p x [] k e = absurd k
counted p x (y ∷ ys) (inl same) e = let one : one_if (p y) ≡ one_if true = ap one_if (ap p (sym same) ∙ e) in omega (arith, count_by-cons p y ys, one)
counted p x (y ∷ ys) (inr k) e = omega (arith, count_by-cons p y ys, counted p x ys k e)

pub only_one : {X : Type 0} (p : X → Bool) (x y : X) (xs : List X) → IsIn x xs → IsIn y xs → p x ≡ true → p y ≡ true → count_by p xs ≤ 1 → x ≡ y
only_one p x y [] k h e f few = absurd k
only_one p x y (z ∷ zs) (inl a) (inl b) e f few = a ∙ sym b
only_one p x y (z ∷ zs) (inl a) (inr h) e f few =
    let one : one_if (p z) ≡ one_if true = ap one_if (ap p (sym a) ∙ e) in
    absurd (omega (arith, count_by-cons p z zs, one, counted p y zs h f))
only_one p x y (z ∷ zs) (inr k) (inl b) e f few =
    let one : one_if (p z) ≡ one_if true = ap one_if (ap p (sym b) ∙ f) in
    absurd (omega (arith, count_by-cons p z zs, one, counted p x zs k e))
only_one p x y (z ∷ zs) (inr k) (inr h) e f few = only_one p x y zs k h e f (omega (arith, count_by-cons p z zs))

own_handle : (x : Object) → has_handle x.file x.handle x ≡ true
own_handle x = ap (λ b. b && (x.handle == x.handle)) (eq-eqb x.file x.file refl) ∙ eq-eqb x.handle x.handle refl

or_first : (a b : Bool) → a ≡ true → (a || b) ≡ true
or_first a b e = ap (λ v. v || b) e

-- The number of an object that isn't committed is set aside; under that of any other a look finds it.
module _ (m : State) (b : IsBounded m) (x : Object) (within : IsIn x m.objects) where
  taken : is_taken m x.file x.handle ≡ true
  taken = or_first _ _ (any_in (has_handle x.file x.handle) x m.objects within (own_handle x))

  found : (y : Object) → published m x.file x.handle ≡ Some y → (x ≡ y) × (is_made y.phase ≡ false)
  found y e =
      let p = Passes-find (is_published_at x.file x.handle) y m.objects e in
      let parts = and_parts (has_handle x.file x.handle y) (not (is_made y.phase)) p.test in
      let few = b.once x.file x.handle in
      (only_one (has_handle x.file x.handle) x y m.objects within p.within (own_handle x) parts.0 (omega (arith, few)), unmade (is_made y.phase) parts.1)
    where
      unmade : (v : Bool) → not v ≡ true → v ≡ false
      unmade true h = cc
      unmade false h = refl

  made_by : is_made x.phase ≡ true → (p : Option Object) → published m x.file x.handle ≡ p → slot_for p (is_taken m x.file x.handle) ≡ Reserved
  made_by made None e = ap (λ v. slot_for None v) taken
  made_by made (Some y) e =
      let f = found y e in
      let no : is_made x.phase ≡ false = ap (λ (v : Object). is_made v.phase) f.0 ∙ f.1 in
      cc

  pub slot_made : is_made x.phase ≡ true → slot_on m x.file x.handle ≡ Reserved
  slot_made made = made_by made (published m x.file x.handle) refl

  out_by : is_made x.phase ≡ false → (p : Option Object) → published m x.file x.handle ≡ p → slot_for p (is_taken m x.file x.handle) ≡ Published x.id
  out_by out None e =
      let no : is_published_at x.file x.handle x ≡ false = fails_find (is_published_at x.file x.handle) x m.objects e within in
      let yes : is_published_at x.file x.handle x ≡ true = ap (λ v. v && not (is_made x.phase)) (own_handle x) ∙ ap not out in
      cc
  out_by out (Some y) e = ap (λ (v : Object). Published v.id) (sym (found y e).0)

  pub slot_out : is_made x.phase ≡ false → slot_on m x.file x.handle ≡ Published x.id
  slot_out out = out_by out (published m x.file x.handle) refl

-- A map that leaves ids, and what a test says of the items of a list.

pub slot_map_in : (p : Object → Bool) (h : Object → Object) (set : Bool) (xs : List Object) → ((x : Object) → IsIn x xs → p (h x) ≡ p x) → ((x : Object) → (h x).id ≡ x.id) → slot_for (find p (map h xs)) set ≡ slot_for (find p xs) set
slot_map_in p h set [] same ids = refl
slot_map_in p h set (x ∷ xs) same ids =
    let rest = slot_map_in p h set xs (λ y k. same y (inr k)) ids in
    ap (λ b. slot_for (cond b (Some (h x)) (find p (map h xs))) set) (same x (inl refl))
    ∙ elim (p x) as (λ b. slot_for (cond b (Some (h x)) (find p (map h xs))) set ≡ slot_for (cond b (Some x) (find p xs)) set) [ true ↦ ap (λ i. Published i) (ids x) | false ↦ rest ]

-- what a change leaves of each object, where it leaves it of the one that it changes
pub on_every : {Y : Type 0} (o : ℕ) (change : Change) (f : Object → Y) → ((x : Object) → f (with_change change x) ≡ f x) → (x : Object) → f (on_object o change x) ≡ f x
on_every o change f same x = elim (has_id o x) as (λ b. f (if b then with_change change x else x) ≡ f x) [ true ↦ same x | false ↦ refl ]
