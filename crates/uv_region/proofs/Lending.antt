-- Laws of regions by key: what a region put into an empty place, and one taken out of its place, leave of the others.
use Rattle.std.proofs.Common.{◌≡◌, ℕ, zero, suc, ◌+◌, ◌-◌, ◌<◌, ◌≤◌, Bool, true, false, cond, List, [], ◌∷◌, ◌++◌, length, take, get_or, refl, ap, sym, subst, ◌∙◌, arith, Option, Some, None, length-append, length-set}
use Rattle.std.proofs.lemmas.Bool.{eqb-true}
use Rattle.std.proofs.lemmas.Cmp.{nat_cmp_total, tied_itself}
use Rattle.std.proofs.lemmas.List.{take_more}
use Rattle.std.proofs.lemmas.Option.{slice_get-get_or, slice_get_within}
use Rattle.std.specs.Cmp.{unsigned_tied}
use Rattle.std.specs.FinMap as map
use Rattle.std.specs.FinMap.{find, nat_cmp-IsAntisymmetric}
use Rattle.std.specs.Ordering.{nat_cmp, eq_by_cmp, is_eq}
use Rattle.std.specs.Prelude.{slice_get, slice_set, is_none, is_some, option_map, ◌==◌}
use Rattle.uv_num.specs.declared.limits.TheConstants.{LENT_REGIONS}
use Rattle.uv_region.specs.declared.regions.Keyed.{Keyed}
use Rattle.uv_region.specs.Lent.{ReachedRegion, Lent, entries_of, AreApart, IsLent, has_key, reached_at}

-- whether two keys are one
abbrev tied : ℕ → ℕ → Bool
tied q k = eq_by_cmp nat_cmp q k

pub tied_same : (q k : ℕ) → tied q k ≡ true → q ≡ k
tied_same q k h = eqb-true q k (sym (unsigned_tied q k) ∙ h)

with_itself : (k : ℕ) → tied k k ≡ true
with_itself k = ap is_eq (tied_itself nat_cmp_total k)

-- the value of a key in entries
abbrev at_key : ℕ → List (ℕ × ReachedRegion) → Option ReachedRegion
at_key q es = find nat_cmp q es

-- a first entry whose key isn't asked for
not_first : (b : Bool) (v : ReachedRegion) (rest : Option ReachedRegion) → cond b (Some v) rest ≡ None → (b ≡ false) × (rest ≡ None)
not_first true v rest h = cc
not_first false v rest h = (refl, h)

-- two tests that don't both pass may be made in either order
swapped : (a b : Bool) (x y z : Option ReachedRegion) → (a ≡ true → b ≡ true → ⊥) → cond a x (cond b y z) ≡ cond b y (cond a x z)
swapped true true x y z apart = absurd (apart refl refl)
swapped true false x y z apart = refl
swapped false b x y z apart = refl

-- one key isn't two others
not_both : (q x k : ℕ) → tied k x ≡ false → tied q x ≡ true → tied q k ≡ true → ⊥
not_both q x k apart one other =
    let same : k ≡ x = sym (tied_same q k other) ∙ tied_same q x one in
    let P : ℕ → Type 0 = λ n. tied k n ≡ true in
    let both : tied k x ≡ true = subst P same (with_itself k) in
    cc

-- what is left where a test doesn't pass
neither : (b : Bool) (v rest : Option ReachedRegion) → b ≡ false → rest ≡ None → cond b v rest ≡ None
neither true v rest h none = cc
neither false v rest h none = none

passed : (b : Bool) (v rest : Option ReachedRegion) → b ≡ false → cond b v rest ≡ rest
passed true v rest h = cc
passed false v rest h = refl

-- nothing is there where a test passes
gone : (b : Bool) (v rest : Option ReachedRegion) → (b ≡ true → rest ≡ None) → rest ≡ cond b None (cond b v rest)
gone true v rest none = none refl
gone false v rest none = refl

unchanged : (b : Bool) (o : Option ReachedRegion) → (b ≡ true → o ≡ None) → cond b None o ≡ o
unchanged true o none = sym (none refl)
unchanged false o none = refl

both_none : (b : Bool) → cond {A = Option ReachedRegion} b None None ≡ None
both_none true = refl
both_none false = refl

-- a test that doesn't pass
fails : (b : Bool) → (b ≡ true → ⊥) → b ≡ false
fails true h = absurd (h refl)
fails false h = refl

-- two keys the other way round
not_back : (k x : ℕ) → tied k x ≡ false → tied x k ≡ false
not_back k x h = fails (tied x k) (λ back.
    let P : ℕ → Type 0 = λ n. tied k n ≡ true in
    let there : tied k x ≡ true = subst P (sym (tied_same x k back)) (with_itself k) in
    cc)

-- a key that stands behind isn't the first one
not_later : (k x : ℕ) (v : ReachedRegion) (es : List (ℕ × ReachedRegion)) → at_key x es ≡ None → at_key k es ≡ Some v → tied k x ≡ false
not_later k x v es none some = fails (tied k x) (λ h.
    let same : at_key k es ≡ at_key x es = ap (λ n. at_key n es) (tied_same k x h) in
    cc)

-- each key after one more region has an empty place
pub at_key-put : (places : List (Option Keyed)) (at : ℕ) (k : Keyed) → slice_get places at ≡ Some None → at_key k.key (entries_of places) ≡ None → (q : ℕ) → at_key q (entries_of (slice_set places at (Some k))) ≡ cond (tied q k.key) (Some (k.region, k.window)) (at_key q (entries_of places))
at_key-put [] at k empty fresh q = cc
at_key-put (None ∷ places) zero k empty fresh q = refl
at_key-put (Some x ∷ places) zero k empty fresh q = cc
at_key-put (None ∷ places) (suc at) k empty fresh q = at_key-put places at k empty fresh q
at_key-put (Some x ∷ places) (suc at) k empty fresh q =
    let (other, later) = not_first (tied k.key x.key) (x.region, x.window) (at_key k.key (entries_of places)) fresh in
    ap (cond (tied q x.key) (Some (x.region, x.window))) (at_key-put places at k empty later q)
    ∙ swapped (tied q x.key) (tied q k.key) (Some (x.region, x.window)) (Some (k.region, k.window)) (at_key q (entries_of places)) (λ one two. not_both q x.key k.key other one two)

-- keys stand once after one more, which stood nowhere
pub AreApart-put : (places : List (Option Keyed)) (at : ℕ) (k : Keyed) → slice_get places at ≡ Some None → at_key k.key (entries_of places) ≡ None → AreApart (entries_of places) → AreApart (entries_of (slice_set places at (Some k)))
AreApart-put [] at k empty fresh apart = cc
AreApart-put (None ∷ places) zero k empty fresh apart = (fresh, apart)
AreApart-put (Some x ∷ places) zero k empty fresh apart = cc
AreApart-put (None ∷ places) (suc at) k empty fresh apart = AreApart-put places at k empty fresh apart
AreApart-put (Some x ∷ places) (suc at) k empty fresh apart =
    let (other, later) = not_first (tied k.key x.key) (x.region, x.window) (at_key k.key (entries_of places)) fresh in
    (at_key-put places at k empty later x.key ∙ neither (tied x.key k.key) (Some (k.region, k.window)) (at_key x.key (entries_of places)) (not_back k.key x.key other) apart.0, AreApart-put places at k empty later apart.1)

-- the region of a key that stands somewhere
found_at : (places : List (Option Keyed)) (at : ℕ) (k : Keyed) → slice_get places at ≡ Some (Some k) → AreApart (entries_of places) → at_key k.key (entries_of places) ≡ Some (k.region, k.window)
found_at [] at k is apart = cc
found_at (None ∷ places) zero k is apart = cc
found_at (Some x ∷ places) zero k is apart =
    let same : x ≡ k = cc in
    let P : Keyed → Type 0 = λ y. cond (tied k.key y.key) (Some (y.region, y.window)) (at_key k.key (entries_of places)) ≡ Some (k.region, k.window) in
    subst P (sym same) (ap (λ b. cond b (Some (k.region, k.window)) (at_key k.key (entries_of places))) (with_itself k.key))
found_at (None ∷ places) (suc at) k is apart = found_at places at k is apart
found_at (Some x ∷ places) (suc at) k is apart =
    let later : at_key k.key (entries_of places) ≡ Some (k.region, k.window) = found_at places at k is apart.1 in
    passed (tied k.key x.key) (Some (x.region, x.window)) (at_key k.key (entries_of places)) (not_later k.key x.key (k.region, k.window) (entries_of places) apart.0 later) ∙ later

-- each key after a region was taken
pub at_key-take : (places : List (Option Keyed)) (at : ℕ) (k : Keyed) → slice_get places at ≡ Some (Some k) → AreApart (entries_of places) → (q : ℕ) → at_key q (entries_of (slice_set places at None)) ≡ cond (tied q k.key) None (at_key q (entries_of places))
at_key-take [] at k is apart q = cc
at_key-take (None ∷ places) zero k is apart q = cc
at_key-take (Some x ∷ places) zero k is apart q =
    let same : x ≡ k = cc in
    let P : Keyed → Type 0 = λ y. at_key q (entries_of places) ≡ cond (tied q k.key) None (cond (tied q y.key) (Some (y.region, y.window)) (at_key q (entries_of places))) in
    let Q : Keyed → Type 0 = λ y. at_key y.key (entries_of places) ≡ None in
    subst P (sym same) (gone (tied q k.key) (Some (k.region, k.window)) (at_key q (entries_of places)) (λ h. ap (λ n. at_key n (entries_of places)) (tied_same q k.key h) ∙ subst Q same apart.0))
at_key-take (None ∷ places) (suc at) k is apart q = at_key-take places at k is apart q
at_key-take (Some x ∷ places) (suc at) k is apart q =
    let later : at_key k.key (entries_of places) ≡ Some (k.region, k.window) = found_at places at k is apart.1 in
    ap (cond (tied q x.key) (Some (x.region, x.window))) (at_key-take places at k is apart.1 q)
    ∙ swapped (tied q x.key) (tied q k.key) (Some (x.region, x.window)) None (at_key q (entries_of places)) (λ one two. not_both q x.key k.key (not_later k.key x.key (k.region, k.window) (entries_of places) apart.0 later) one two)

pub AreApart-take : (places : List (Option Keyed)) (at : ℕ) (k : Keyed) → slice_get places at ≡ Some (Some k) → AreApart (entries_of places) → AreApart (entries_of (slice_set places at None))
AreApart-take [] at k is apart = cc
AreApart-take (None ∷ places) zero k is apart = cc
AreApart-take (Some x ∷ places) zero k is apart = apart.1
AreApart-take (None ∷ places) (suc at) k is apart = AreApart-take places at k is apart
AreApart-take (Some x ∷ places) (suc at) k is apart =
    (at_key-take places at k is apart.1 x.key ∙ ap (cond (tied x.key k.key) None) apart.0 ∙ both_none (tied x.key k.key), AreApart-take places at k is apart.1)

-- regions as the map of their entries

pub placed : (places : List (Option Keyed)) (at : ℕ) (k : Keyed) → slice_get places at ≡ Some None → map.get (map.from_entries {R = nat_cmp} (entries_of places)) k.key ≡ None → map.from_entries {R = nat_cmp} (entries_of (slice_set places at (Some k))) ≡ map.insert (map.from_entries (entries_of places)) k.key (k.region, k.window)
placed places at k empty fresh =
    let unknown : at_key k.key (entries_of places) ≡ None = sym (map.get-from_entries nat_cmp_total (entries_of places) k.key) ∙ fresh in
    map.same_map nat_cmp_total nat_cmp-IsAntisymmetric _ _ (λ q.
    map.get-from_entries nat_cmp_total (entries_of (slice_set places at (Some k))) q
    ∙ at_key-put places at k empty unknown q
    ∙ sym (map.get-insert nat_cmp_total (map.from_entries (entries_of places)) k.key (k.region, k.window) q ∙ ap (cond (tied q k.key) (Some (k.region, k.window))) (map.get-from_entries nat_cmp_total (entries_of places) q)))

pub taken : (places : List (Option Keyed)) (at : ℕ) (k : Keyed) → slice_get places at ≡ Some (Some k) → AreApart (entries_of places) → map.from_entries {R = nat_cmp} (entries_of (slice_set places at None)) ≡ map.remove (map.from_entries (entries_of places)) k.key
taken places at k is apart =
    map.same_map nat_cmp_total nat_cmp-IsAntisymmetric _ _ (λ q.
    map.get-from_entries nat_cmp_total (entries_of (slice_set places at None)) q
    ∙ at_key-take places at k is apart q
    ∙ sym (map.get-remove nat_cmp_total (map.from_entries (entries_of places)) k.key q ∙ ap (cond (tied q k.key) None) (map.get-from_entries nat_cmp_total (entries_of places) q)))

-- to take a key that has no region changes nothing
pub nothing_taken : (es : List (ℕ × ReachedRegion)) (key : ℕ) → at_key key es ≡ None → map.from_entries {R = nat_cmp} es ≡ map.remove (map.from_entries es) key
nothing_taken es key none =
    map.same_map nat_cmp_total nat_cmp-IsAntisymmetric _ _ (λ q.
    sym (map.get-remove nat_cmp_total (map.from_entries es) key q
    ∙ unchanged (tied q key) (map.get (map.from_entries es) q) (λ h. map.get-from_entries nat_cmp_total es q ∙ (ap (λ n. at_key n es) (tied_same q key h) ∙ none))))

-- as many keys as entries
pub len_of_entries : (es : List (ℕ × ReachedRegion)) → AreApart es → map.len (map.from_entries {R = nat_cmp} es) ≡ length es
len_of_entries [] apart = map.len-empty nat_cmp ReachedRegion
len_of_entries (e ∷ es) apart =
    map.len-insert nat_cmp_total (map.from_entries es) e.0 e.1
    ∙ ap (λ o. cond (is_some o) (map.len (map.from_entries {R = nat_cmp} es)) (map.len (map.from_entries {R = nat_cmp} es) + 1)) (map.get-from_entries nat_cmp_total es e.0 ∙ apart.0)
    ∙ omega (arith, len_of_entries es apart.1)

-- what stands where a key was found
found_key : (key : ℕ) (o : Option (Option Keyed)) → option_map (has_key key) o ≡ Some true → (k : Keyed) × (o ≡ Some (Some k)) × (k.key ≡ key)
found_key key None h = cc
found_key key (Some None) h = cc
found_key key (Some (Some k)) h = let is : (key == k.key) ≡ true = cc in (k, refl, sym (eqb-true key k.key is))

-- what a take leaves, and gives
pub record IsTaken (places now : List (Option Keyed)) (key : ℕ) (result : Option ReachedRegion) : Type 0 where
  pub given : result ≡ map.get (map.from_entries {R = nat_cmp} (entries_of places)) key
  pub rest : map.from_entries {R = nat_cmp} (entries_of now) ≡ map.remove (map.from_entries (entries_of places)) key
  pub lent : IsLent now

taken_keyed : (places now : List (Option Keyed)) (at key : ℕ) (result : Option ReachedRegion) (k : Keyed) → slice_get places at ≡ Some (Some k) → k.key ≡ key → option_map reached_at (slice_get places at) ≡ Some result → now ≡ slice_set places at None → IsLent places → IsTaken places now key result
taken_keyed places now at key result k is named told set lent =
    let P : List (Option Keyed) → Type 0 = λ v. AreApart (entries_of v) in
    let found : at_key k.key (entries_of places) ≡ Some (k.region, k.window) = found_at places at k is lent.apart in
    let same : option_map reached_at (slice_get places at) ≡ Some (Some (k.region, k.window)) = ap (option_map reached_at) is in
    let out : result ≡ Some (k.region, k.window) = cc in
    record {
      given = out ∙ sym (map.get-from_entries nat_cmp_total (entries_of places) key ∙ (ap (λ n. at_key n (entries_of places)) (sym named) ∙ found));
      rest = ap (λ v. map.from_entries {R = nat_cmp} (entries_of v)) set ∙ (taken places at k is lent.apart ∙ ap (map.remove (map.from_entries (entries_of places))) named);
      lent = record {
        apart = subst P (sym set) (AreApart-take places at k is lent.apart);
        count = ap length set ∙ (length-set places at None ∙ lent.count);
      };
    }

pub taken_at : (places now : List (Option Keyed)) (at key : ℕ) (result : Option ReachedRegion) → option_map (has_key key) (slice_get places at) ≡ Some true → option_map reached_at (slice_get places at) ≡ Some result → now ≡ slice_set places at None → IsLent places → IsTaken places now key result
taken_at places now at key result has told set lent =
    let (k, is, named) = found_key key (slice_get places at) has in
    taken_keyed places now at key result k is named told set lent

-- entries of one place more
entries_more : (xs : List (Option Keyed)) (y : Option Keyed) → entries_of (xs ++ y ∷ []) ≡ entries_of xs ++ entries_of (y ∷ [])
entries_more [] y = refl
entries_more (None ∷ xs) y = entries_more xs y
entries_more (Some x ∷ xs) y = ap (λ v. (x.key, (x.region, x.window)) ∷ v) (entries_more xs y)

one_entry : (y : Option Keyed) → is_none y ≡ false → length (entries_of (y ∷ [])) ≡ 1
one_entry None h = cc
one_entry (Some k) h = refl

-- one place more that isn't empty
pub fuller : (places : List (Option Keyed)) (at : ℕ) (y : Option Keyed) → at < length places → y ≡ get_or places at y → is_none y ≡ false → length (entries_of (take at places)) ≡ at → length (entries_of (take (at + 1) places)) ≡ at + 1
fuller places at y within is some full =
    let e : length (entries_of (take (at + 1) places)) ≡ length (entries_of (take at places) ++ entries_of (y ∷ [])) = ap (λ v. length (entries_of v)) (take_more places at y within ∙ ap (λ v. take at places ++ v ∷ []) (sym is)) ∙ ap length (entries_more (take at places) y) in
    e ∙ (length-append (entries_of (take at places)) (entries_of (y ∷ [])) ∙ (ap (λ n. n + length (entries_of (y ∷ []))) full ∙ ap (λ n. at + n) (one_entry y some)))

at_key-append : (key : ℕ) (es fs : List (ℕ × ReachedRegion)) → at_key key es ≡ None → at_key key (es ++ fs) ≡ at_key key fs
at_key-append key [] fs none = refl
at_key-append key (e ∷ es) fs none =
    let (other, later) = not_first (tied key e.0) e.1 (at_key key es) none in
    passed (tied key e.0) (Some e.1) (at_key key (es ++ fs)) other ∙ at_key-append key es fs later

not_this : (key : ℕ) (y : Option Keyed) → has_key key y ≡ false → at_key key (entries_of (y ∷ [])) ≡ None
not_this key None h = refl
not_this key (Some k) h = passed (tied key k.key) (Some (k.region, k.window)) None (unsigned_tied key k.key ∙ h)

-- one place more that hasn't the key
pub not_yet : (places : List (Option Keyed)) (at key : ℕ) (y : Option Keyed) → at < length places → y ≡ get_or places at y → has_key key y ≡ false → at_key key (entries_of (take at places)) ≡ None → at_key key (entries_of (take (at + 1) places)) ≡ None
not_yet places at key y within is other none =
    ap (λ v. at_key key (entries_of v)) (take_more places at y within ∙ ap (λ v. take at places ++ v ∷ []) (sym is))
    ∙ (ap (at_key key) (entries_more (take at places) y)
    ∙ (at_key-append key (entries_of (take at places)) (entries_of (y ∷ [])) none ∙ not_this key y other))

-- so after one more, which the map hasn't
pub put_lent : (places : List (Option Keyed)) (at : ℕ) (k : Keyed) → slice_get places at ≡ Some None → map.get (map.from_entries {R = nat_cmp} (entries_of places)) k.key ≡ None → IsLent places → IsLent (slice_set places at (Some k))
put_lent places at k empty fresh lent = record {
  apart = AreApart-put places at k empty (sym (map.get-from_entries nat_cmp_total (entries_of places) k.key) ∙ fresh) lent.apart;
  count = length-set places at (Some k) ∙ lent.count;
}

-- a place is empty where there are fewer keys than places
pub has_empty : (places : List (Option Keyed)) → IsLent places → map.len (map.from_entries {R = nat_cmp} (entries_of places)) < LENT_REGIONS → length (entries_of places) < length places
has_empty places lent few = omega (arith, len_of_entries (entries_of places) lent.apart, lent.count)

-- what stands where a key was found is what the map has for the key
pub reached_here : (places : List (Option Keyed)) (at key : ℕ) (y : Option Keyed) → option_map (has_key key) (slice_get places at) ≡ Some true → y ≡ get_or places at y → IsLent places → reached_at y ≡ map.get (map.from_entries {R = nat_cmp} (entries_of places)) key
reached_here places at key y has is lent =
    let (k, there, named) = found_key key (slice_get places at) has in
    let here : slice_get places at ≡ Some y = slice_get-get_or places at y (slice_get_within places at (Some k) there) ∙ ap (λ v. Some v) (sym is) in
    (taken_at places (slice_set places at None) at key (reached_at y) has (ap (option_map reached_at) here) refl lent).given

-- the map without a key, and with it again

pub removed_apart : (m : Lent) (k : ℕ) → map.get (map.remove m k) k ≡ None
removed_apart m k = map.get-remove nat_cmp_total m k k ∙ ap (λ b. cond b None (map.get m k)) (with_itself k)

inserted_twice : (b : Bool) (v o : Option ReachedRegion) → cond b v (cond b None o) ≡ cond b v o
inserted_twice true v o = refl
inserted_twice false v o = refl

pub insert-remove : (m : Lent) (k : ℕ) (v : ReachedRegion) → map.insert (map.remove m k) k v ≡ map.insert m k v
insert-remove m k v =
    map.same_map nat_cmp_total nat_cmp-IsAntisymmetric _ _ (λ q.
    map.get-insert nat_cmp_total (map.remove m k) k v q
    ∙ ap (cond (tied q k) (Some v)) (map.get-remove nat_cmp_total m k q)
    ∙ inserted_twice (tied q k) (Some v) (map.get m q)
    ∙ sym (map.get-insert nat_cmp_total m k v q))

no_more_entries : (places : List (Option Keyed)) → length (entries_of places) ≤ length places
no_more_entries [] = omega arith
no_more_entries (None ∷ places) = omega (arith, no_more_entries places)
no_more_entries (Some k ∷ places) = omega (arith, no_more_entries places)

-- there is a place for a key that was taken out
pub has_room : (places : List (Option Keyed)) (k : ℕ) (v : ReachedRegion) → IsLent places → map.get (map.from_entries {R = nat_cmp} (entries_of places)) k ≡ Some v → map.len (map.remove (map.from_entries {R = nat_cmp} (entries_of places)) k) < LENT_REGIONS
has_room places k v lent there =
    let m : Lent = map.from_entries {R = nat_cmp} (entries_of places) in
    let less : map.len (map.remove m k) ≡ map.len m - 1 = map.len-remove nat_cmp_total m k ∙ ap (λ o. cond (is_some o) (map.len m - 1) (map.len m)) there in
    omega (arith, less, len_of_entries (entries_of places) lent.apart, no_more_entries places, lent.count)

put_back : (b : Bool) (v o : Option ReachedRegion) → (b ≡ true → o ≡ v) → cond b v o ≡ o
put_back true v o same = sym (same refl)
put_back false v o same = refl

-- a region that is put back as it was changes nothing
pub insert-same : (m : Lent) (k : ℕ) (v : ReachedRegion) → map.get m k ≡ Some v → map.insert m k v ≡ m
insert-same m k v there =
    map.same_map nat_cmp_total nat_cmp-IsAntisymmetric _ _ (λ q.
    map.get-insert nat_cmp_total m k v q
    ∙ put_back (tied q k) (Some v) (map.get m q) (λ h. ap (map.get m) (tied_same q k h) ∙ there))

-- nor does it to take out a key that has none
pub remove-none : (m : Lent) (k : ℕ) → map.get m k ≡ None → map.remove m k ≡ m
remove-none m k none =
    map.same_map nat_cmp_total nat_cmp-IsAntisymmetric _ _ (λ q.
    map.get-remove nat_cmp_total m k q
    ∙ put_back (tied q k) None (map.get m q) (λ h. ap (map.get m) (tied_same q k h) ∙ none))

-- a region that was taken out of places goes back into them
pub goes_back : (places : List (Option Keyed)) (m rest : Lent) (k : ℕ) (v : ReachedRegion) → IsLent places → map.from_entries {R = nat_cmp} (entries_of places) ≡ m → Some v ≡ map.get m k → rest ≡ map.remove m k → (map.len rest < LENT_REGIONS) × (map.get rest k ≡ None)
goes_back places m rest k v lent view there is =
    let P : Lent → Type 0 = λ n. map.len n < LENT_REGIONS in
    let Q : Lent → Type 0 = λ n. map.len (map.remove n k) < LENT_REGIONS in
    (subst P (sym is) (subst Q view (has_room places k v lent (ap (λ (n : Lent). map.get n k) view ∙ sym there))), ap (λ (n : Lent). map.get n k) is ∙ removed_apart m k)

pub put_again : (m rest now : Lent) (k : ℕ) (v : ReachedRegion) → rest ≡ map.remove m k → now ≡ map.insert rest k v → now ≡ map.insert m k v
put_again m rest now k v is put = put ∙ ap (λ (n : Lent). map.insert n k v) is ∙ insert-remove m k v
