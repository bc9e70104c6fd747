-- What a handle table says of a number after a change, at the number that changed and at every other one.
use Rattle.std.proofs.Common.{ℕ, zero, suc, ◌≡◌, ◌≢◌, ◌<◌, true, false, not, List, [], ◌∷◌, length, None, Some, refl, ap, arith}
use Rattle.std.proofs.lemmas.List.{get_or-set_same, get_or-set_other, length-replicate}
use Rattle.std.specs.Prelude.{slice_set, replicate}
use Rattle.uv_num.specs.declared.limits.TheConstants.{HANDLES}
use Rattle.uv_handles.specs.declared.slot.Slot.{Slot}
use Rattle.uv_handles.specs.declared.slot.Slot.TheVariants.{Free, Reserved, Published}
use Rattle.uv_handles.specs.Table.{is_free, is_reserved, object_of, slot_in, is_taken_in, is_reserved_in, published_in, empty_table, reserved_at, published_at, freed_at}

-- What is true of one slot.

reserved_taken : (slot : Slot) → is_reserved slot ≡ true → not (is_free slot) ≡ true
reserved_taken Free reserved = cc
reserved_taken Reserved reserved = refl
reserved_taken (Published object) reserved = cc

reserved_unpublished : (slot : Slot) → is_reserved slot ≡ true → object_of slot ≡ None
reserved_unpublished Free reserved = cc
reserved_unpublished Reserved reserved = refl
reserved_unpublished (Published object) reserved = cc

published_taken : (slot : Slot) (object : ℕ) → object_of slot ≡ Some object → not (is_free slot) ≡ true
published_taken Free object published = cc
published_taken Reserved object published = cc
published_taken (Published other) object published = refl

reserved_where : (slot : Slot) → not (is_free slot) ≡ true → object_of slot ≡ None → is_reserved slot ≡ true
reserved_where Free taken unpublished = cc
reserved_where Reserved taken unpublished = refl
reserved_where (Published object) taken unpublished = cc

-- What is true of one number.

-- a number that is taken is one of the table's
pub taken_within : (table : List Slot) (n : ℕ) → is_taken_in table n ≡ true → n < length table
taken_within [] n taken = cc
taken_within (slot ∷ table) zero taken = omega arith
taken_within (slot ∷ table) (suc n) taken = omega (arith, taken_within table n taken)

-- a number that is set aside is taken
pub reserved_is_taken : (table : List Slot) (n : ℕ) → is_reserved_in table n ≡ true → is_taken_in table n ≡ true
reserved_is_taken table n reserved = reserved_taken (slot_in table n) reserved

-- no object is published under a number that is set aside
pub reserved_is_unpublished : (table : List Slot) (n : ℕ) → is_reserved_in table n ≡ true → published_in table n ≡ None
reserved_is_unpublished table n reserved = reserved_unpublished (slot_in table n) reserved

-- a number under which an object is published is taken
pub published_is_taken : (table : List Slot) (n object : ℕ) → published_in table n ≡ Some object → is_taken_in table n ≡ true
published_is_taken table n object published = published_taken (slot_in table n) object published

-- a number that is taken is set aside where no object is published under it
pub taken_is_reserved : (table : List Slot) (n : ℕ) → is_taken_in table n ≡ true → published_in table n ≡ None → is_reserved_in table n ≡ true
taken_is_reserved table n taken unpublished = reserved_where (slot_in table n) taken unpublished

-- One slot written.

-- what stands at the number
pub slot_in-set_same : (table : List Slot) (n : ℕ) (slot : Slot) → n < length table → slot_in (slice_set table n slot) n ≡ slot
slot_in-set_same table n slot within = get_or-set_same table n slot Free within

-- what stands at another number
pub slot_in-set_other : (table : List Slot) (n k : ℕ) (slot : Slot) → k ≢ n → slot_in (slice_set table n slot) k ≡ slot_in table k
slot_in-set_other table n k slot other = get_or-set_other table n k slot Free other

-- nothing stands at a number that was freed, also behind the table's end
slot_in-freed : (table : List Slot) (n : ℕ) → slot_in (slice_set table n Free) n ≡ Free
slot_in-freed [] n = refl
slot_in-freed (slot ∷ table) zero = refl
slot_in-freed (slot ∷ table) (suc n) = slot_in-freed table n

-- A number set aside, as `reserve` does with a free one.

module _ (table : List Slot) (n : ℕ) where
  pub is_taken_in-reserved_same : n < length table → is_taken_in (reserved_at n table) n ≡ true
  is_taken_in-reserved_same within = ap (λ s. not (is_free s)) (slot_in-set_same table n Reserved within)

  pub is_taken_in-reserved_other : (k : ℕ) → k ≢ n → is_taken_in (reserved_at n table) k ≡ is_taken_in table k
  is_taken_in-reserved_other k other = ap (λ s. not (is_free s)) (slot_in-set_other table n k Reserved other)

  pub is_reserved_in-reserved_same : n < length table → is_reserved_in (reserved_at n table) n ≡ true
  is_reserved_in-reserved_same within = ap is_reserved (slot_in-set_same table n Reserved within)

  pub published_in-reserved_same : n < length table → published_in (reserved_at n table) n ≡ None
  published_in-reserved_same within = ap object_of (slot_in-set_same table n Reserved within)

  pub published_in-reserved_other : (k : ℕ) → k ≢ n → published_in (reserved_at n table) k ≡ published_in table k
  published_in-reserved_other k other = ap object_of (slot_in-set_other table n k Reserved other)

-- An object published, as `publish` does under a number that is set aside.

module _ (table : List Slot) (n object : ℕ) where
  pub is_taken_in-published_same : is_taken_in table n ≡ true → is_taken_in (published_at n object table) n ≡ true
  is_taken_in-published_same taken =
      ap (λ s. not (is_free s)) (slot_in-set_same table n (Published object) (taken_within table n taken))

  pub is_taken_in-published_other : (k : ℕ) → k ≢ n → is_taken_in (published_at n object table) k ≡ is_taken_in table k
  is_taken_in-published_other k other = ap (λ s. not (is_free s)) (slot_in-set_other table n k (Published object) other)

  pub published_in-published_same : is_taken_in table n ≡ true → published_in (published_at n object table) n ≡ Some object
  published_in-published_same taken =
      ap object_of (slot_in-set_same table n (Published object) (taken_within table n taken))

  pub published_in-published_other : (k : ℕ) → k ≢ n → published_in (published_at n object table) k ≡ published_in table k
  published_in-published_other k other = ap object_of (slot_in-set_other table n k (Published object) other)

-- A number freed, as `abort` does with one that is set aside, and `remove` with one under which an object is published.

module _ (table : List Slot) (n : ℕ) where
  pub is_taken_in-freed_same : is_taken_in (freed_at n table) n ≡ false
  is_taken_in-freed_same = ap (λ s. not (is_free s)) (slot_in-freed table n)

  pub is_taken_in-freed_other : (k : ℕ) → k ≢ n → is_taken_in (freed_at n table) k ≡ is_taken_in table k
  is_taken_in-freed_other k other = ap (λ s. not (is_free s)) (slot_in-set_other table n k Free other)

  pub published_in-freed_same : published_in (freed_at n table) n ≡ None
  published_in-freed_same = ap object_of (slot_in-freed table n)

  pub published_in-freed_other : (k : ℕ) → k ≢ n → published_in (freed_at n table) k ≡ published_in table k
  published_in-freed_other k other = ap object_of (slot_in-set_other table n k Free other)

-- The table of a file on which nothing happened.

slot_in-frees : (k n : ℕ) → slot_in (replicate k Free) n ≡ Free
slot_in-frees zero n = refl
slot_in-frees (suc k) zero = refl
slot_in-frees (suc k) (suc n) = slot_in-frees k n

pub length-empty_table : length empty_table ≡ HANDLES
unfolding empty_table
length-empty_table = length-replicate HANDLES Free

pub is_taken_in-empty_table : (n : ℕ) → is_taken_in empty_table n ≡ false
unfolding empty_table
is_taken_in-empty_table n = ap (λ s. not (is_free s)) (slot_in-frees HANDLES n)

pub published_in-empty_table : (n : ℕ) → published_in empty_table n ≡ None
unfolding empty_table
published_in-empty_table n = ap object_of (slot_in-frees HANDLES n)
