-- Objects after a change.
use Rattle.std.specs.Prelude.{ℕ, Bool, true, false, ◌||◌, ◌==◌, ◌≡◌, ◌≢◌, ◌<◌, ◌⊎◌, List, [], ◌∷◌, ◌++◌, Option, None, Some, length, refl, if◌then◌else◌}
use Rattle.std.specs.List.{list_any}
use Rattle.std.proofs.Common.{inl, inr, ⊎_elim, arith}
use Rattle.std.proofs.lemmas.Bool.{eqb-true, eqb-false, or_left, or_right}
use Rattle.uv_num.specs.declared.ids.Ids.{Ids}
use Rattle.uv_num.specs.declared.ids.Ids.TheVariants.{Empty, One, Two, Three, Four}
use Rattle.uv_num.specs.Ids.{ids_of, ids_and, ids_behind, first_alone, is_number}
use Rattle.uv_machine.specs.declared.object.Phase.{Phase}
use Rattle.uv_machine.specs.declared.object.Phase.TheVariants as phase
use Rattle.uv_machine.specs.declared.object.Binding.{Binding}
use Rattle.uv_machine.specs.declared.object.Object.{Object}
use Rattle.uv_machine.specs.declared.object.Change.{Change}
use Rattle.uv_machine.specs.declared.object.Change.TheVariants.{ToLive, ToDoomed, ToHusk, ToBound}
use Rattle.uv_machine.specs.Objects.{has_id, is_made, is_live, is_doomed, is_husk, uses_object, doomed_from, live_from, no_ids, bound_uses, with_change, on_object}

-- the object or what a change makes of it
abbrev pub changed_if : Bool → Change → Object → Object
changed_if b change x = if b then with_change change x else x

-- What every change keeps.

changed_if-id : (b : Bool) (change : Change) (x : Object) → (changed_if b change x).id ≡ x.id
changed_if-id true ToLive x = refl
changed_if-id true ToDoomed x = refl
changed_if-id true ToHusk x = refl
changed_if-id true (ToBound binding) x = refl
changed_if-id false change x = refl

changed_if-file : (b : Bool) (change : Change) (x : Object) → (changed_if b change x).file ≡ x.file
changed_if-file true ToLive x = refl
changed_if-file true ToDoomed x = refl
changed_if-file true ToHusk x = refl
changed_if-file true (ToBound binding) x = refl
changed_if-file false change x = refl

changed_if-kind : (b : Bool) (change : Change) (x : Object) → (changed_if b change x).kind ≡ x.kind
changed_if-kind true ToLive x = refl
changed_if-kind true ToDoomed x = refl
changed_if-kind true ToHusk x = refl
changed_if-kind true (ToBound binding) x = refl
changed_if-kind false change x = refl

or_last : (b : Bool) → (b || false) ≡ true → b ≡ true
or_last true h = refl
or_last false h = h

any_first : (b rest last more : Bool) → (b || more) ≡ true → (more ≡ true → (rest ≡ true) ⊎ (last ≡ true)) → ((b || rest) ≡ true) ⊎ (last ≡ true)
any_first true rest last more h later = inl refl
any_first false rest last more h later = later h

-- an item of a list with one more is one of the list, or that one
any_snoc : (p : ℕ → Bool) (xs : List ℕ) (n : ℕ) → list_any p (xs ++ n ∷ []) ≡ true → (list_any p xs ≡ true) ⊎ (p n ≡ true)
any_snoc p [] n h = inr (or_last (p n) h)
any_snoc p (x ∷ xs) n h = any_first (p x) (list_any p xs) (p n) (list_any p (xs ++ n ∷ [])) h (any_snoc p xs n)

-- one more id after the others
pub ids_of-ids_and : (looked : Ids) (n : ℕ) → length (ids_of looked) < 4 → ids_of (ids_and looked n) ≡ ids_of looked ++ n ∷ []
ids_of-ids_and Empty n low = refl
ids_of-ids_and (One a) n low = refl
ids_of-ids_and (Two a b) n low = refl
ids_of-ids_and (Three a b c) n low = refl
ids_of-ids_and (Four a b c d) n low = absurd (omega arith)

-- one more id
pub any_ids_and : (u : ℕ) (looked : Ids) (n : ℕ) → list_any (is_number u) (ids_of (ids_and looked n)) ≡ true → (list_any (is_number u) (ids_of looked) ≡ true) ⊎ (n ≡ u)
any_ids_and u Empty n h = ⊎_elim (λ k. inl k) (λ k. inr (eqb-true n u k)) (any_snoc (is_number u) [] n h)
any_ids_and u (One a) n h = ⊎_elim (λ k. inl k) (λ k. inr (eqb-true n u k)) (any_snoc (is_number u) (a ∷ []) n h)
any_ids_and u (Two a b) n h = ⊎_elim (λ k. inl k) (λ k. inr (eqb-true n u k)) (any_snoc (is_number u) (a ∷ b ∷ []) n h)
any_ids_and u (Three a b c) n h = ⊎_elim (λ k. inl k) (λ k. inr (eqb-true n u k)) (any_snoc (is_number u) (a ∷ b ∷ c ∷ []) n h)
any_ids_and u (Four a b c d) n h = inl h

-- the ids after the first, and the first alone
any_first_alone : (u : ℕ) (looked : Ids) → list_any (is_number u) (ids_of (first_alone looked)) ≡ true → list_any (is_number u) (ids_of looked) ≡ true
any_first_alone u Empty h = h
any_first_alone u (One a) h = h
any_first_alone u (Two a b) h = or_left (a == u) _ (or_last (a == u) h)
any_first_alone u (Three a b c) h = or_left (a == u) _ (or_last (a == u) h)
any_first_alone u (Four a b c d) h = or_left (a == u) _ (or_last (a == u) h)

pub any_ids_behind : (u : ℕ) (looked : Ids) → list_any (is_number u) (ids_of (ids_behind looked)) ≡ true → list_any (is_number u) (ids_of looked) ≡ true
any_ids_behind u Empty h = h
any_ids_behind u (One a) h = absurd cc
any_ids_behind u (Two a b) h = or_right (a == u) _ h
any_ids_behind u (Three a b c) h = or_right (a == u) _ h
any_ids_behind u (Four a b c d) h = or_right (a == u) _ h

-- what a window uses beside what it used: the region that it is bound to
abbrev pub IsRegion : Option Binding → ℕ → Type 0
IsRegion None u = ⊥
IsRegion (Some binding) u = binding.region ≡ u

bound_uses-uses : (binding : Option Binding) (uses : Ids) (u : ℕ) → list_any (is_number u) (ids_of (bound_uses binding uses)) ≡ true → (list_any (is_number u) (ids_of uses) ≡ true) ⊎ IsRegion binding u
bound_uses-uses None uses u h = inl (any_first_alone u uses h)
bound_uses-uses (Some binding) uses u h = ⊎_elim (λ k. inl (any_first_alone u uses k)) (λ k. inr k) (any_ids_and u (first_alone uses) binding.region h)

-- what a change makes an object use beside what it used
abbrev pub Gains : Change → ℕ → Type 0
Gains ToLive u = ⊥
Gains ToDoomed u = ⊥
Gains ToHusk u = ⊥
Gains (ToBound binding) u = IsRegion binding u

changed_if-uses : (b : Bool) (change : Change) (x : Object) (u : ℕ) → uses_object u (changed_if b change x) ≡ true → (uses_object u x ≡ true) ⊎ ((b ≡ true) × Gains change u)
changed_if-uses true ToLive x u h = inl h
changed_if-uses true ToDoomed x u h = inl h
changed_if-uses true ToHusk x u h = absurd cc
changed_if-uses true (ToBound binding) x u h = ⊎_elim (λ k. inl k) (λ k. inr (refl, k)) (bound_uses-uses binding x.uses u h)
changed_if-uses false change x u h = inl h

doomed_from-husk : (p : Phase) → is_husk (doomed_from p) ≡ true → is_husk p ≡ true
doomed_from-husk phase.Made h = h
doomed_from-husk phase.Live h = absurd (cc)
doomed_from-husk phase.Doomed h = h
doomed_from-husk phase.Husk h = h

live_from-husk : (p : Phase) → is_husk (live_from p) ≡ true → is_husk p ≡ true
live_from-husk phase.Made h = absurd (cc)
live_from-husk phase.Live h = absurd (cc)
live_from-husk phase.Doomed h = h
live_from-husk phase.Husk h = h

-- a change that leaves a husk without uses
abbrev pub IsForLive : Change → Object → Type 0
IsForLive ToLive x = Unit {0}
IsForLive ToDoomed x = Unit {0}
IsForLive ToHusk x = Unit {0}
IsForLive (ToBound binding) x = is_husk x.phase ≡ false

changed_if-husk : (b : Bool) (change : Change) (x : Object) → (b ≡ true → IsForLive change x) → (is_husk x.phase ≡ true → x.uses ≡ no_ids) → is_husk (changed_if b change x).phase ≡ true → (changed_if b change x).uses ≡ no_ids
changed_if-husk true ToLive x for k h = k (live_from-husk x.phase h)
changed_if-husk true ToDoomed x for k h = k (doomed_from-husk x.phase h)
changed_if-husk true ToHusk x for k h = refl
changed_if-husk true (ToBound binding) x for k h = absurd (let no = for refl in cc)
changed_if-husk false change x for k h = k h

-- What has been before, where it is so after a change.

doomed_from-made : (p : Phase) → is_made (doomed_from p) ≡ true → is_made p ≡ true
doomed_from-made phase.Made h = h
doomed_from-made phase.Live h = absurd (cc)
doomed_from-made phase.Doomed h = absurd (cc)
doomed_from-made phase.Husk h = absurd (cc)

live_from-made : (p : Phase) → is_made (live_from p) ≡ true → is_made p ≡ true
live_from-made phase.Made h = absurd (cc)
live_from-made phase.Live h = absurd (cc)
live_from-made phase.Doomed h = absurd (cc)
live_from-made phase.Husk h = absurd (cc)

-- an object that was committed isn't made any more
made_no_more : (p : Phase) → is_made (live_from p) ≡ true → ⊥
made_no_more phase.Made h = cc
made_no_more phase.Live h = cc
made_no_more phase.Doomed h = cc
made_no_more phase.Husk h = cc

live_from-doomed : (p : Phase) → is_doomed (live_from p) ≡ true → is_doomed p ≡ true
live_from-doomed phase.Made h = absurd (cc)
live_from-doomed phase.Live h = absurd (cc)
live_from-doomed phase.Doomed h = h
live_from-doomed phase.Husk h = absurd (cc)

changed_if-made : (b : Bool) (change : Change) (x : Object) → is_made (changed_if b change x).phase ≡ true → is_made x.phase ≡ true
changed_if-made true ToLive x h = live_from-made x.phase h
changed_if-made true ToDoomed x h = doomed_from-made x.phase h
changed_if-made true ToHusk x h = absurd (cc)
changed_if-made true (ToBound binding) x h = h
changed_if-made false change x h = h

live_if-made : (b : Bool) (x : Object) → is_made (changed_if b ToLive x).phase ≡ true → b ≡ false
live_if-made true x h = absurd (made_no_more x.phase h)
live_if-made false x h = refl

live_if-doomed : (b : Bool) (x : Object) → is_doomed (changed_if b ToLive x).phase ≡ true → is_doomed x.phase ≡ true
live_if-doomed true x h = live_from-doomed x.phase h
live_if-doomed false x h = h

husk_if-doomed : (b : Bool) (x : Object) → is_doomed (changed_if b ToHusk x).phase ≡ true → (b ≡ false) × (is_doomed x.phase ≡ true)
husk_if-doomed true x h = absurd (cc)
husk_if-doomed false x h = (refl, h)

doomed_if-doomed : (b : Bool) (x : Object) → is_doomed (changed_if b ToDoomed x).phase ≡ true → (b ≡ true) ⊎ (is_doomed x.phase ≡ true)
doomed_if-doomed true x h = inl refl
doomed_if-doomed false x h = inr h

-- changes that leave a live object live
abbrev pub KeepsLive : Change → Type 0
KeepsLive ToLive = Unit {0}
KeepsLive ToDoomed = ⊥
KeepsLive ToHusk = ⊥
KeepsLive (ToBound binding) = Unit {0}

live_from-live : (p : Phase) → is_live p ≡ true → is_live (live_from p) ≡ true
live_from-live phase.Made h = absurd cc
live_from-live phase.Live h = refl
live_from-live phase.Doomed h = absurd cc
live_from-live phase.Husk h = absurd cc

changed_if-live : (b : Bool) (change : Change) (x : Object) → is_live x.phase ≡ true → (b ≡ true → KeepsLive change) → is_live (changed_if b change x).phase ≡ true
changed_if-live true ToLive x live keeps = live_from-live x.phase live
changed_if-live true ToDoomed x live keeps = absurd (keeps refl)
changed_if-live true ToHusk x live keeps = absurd (keeps refl)
changed_if-live true (ToBound binding) x live keeps = live
changed_if-live false change x live keeps = live

changed_if-request : (b : Bool) (change : Change) (x : Object) → (changed_if b change x).request ≡ x.request
changed_if-request true ToLive x = refl
changed_if-request true ToDoomed x = refl
changed_if-request true ToHusk x = refl
changed_if-request true (ToBound binding) x = refl
changed_if-request false change x = refl

module _ (o : ℕ) (change : Change) (x : Object) where
  pub on_object-id : (on_object o change x).id ≡ x.id
  on_object-id = changed_if-id (has_id o x) change x

  pub on_object-file : (on_object o change x).file ≡ x.file
  on_object-file = changed_if-file (has_id o x) change x

  pub on_object-kind : (on_object o change x).kind ≡ x.kind
  on_object-kind = changed_if-kind (has_id o x) change x

  pub on_object-uses : (u : ℕ) → uses_object u (on_object o change x) ≡ true → (uses_object u x ≡ true) ⊎ ((x.id ≡ o) × Gains change u)
  on_object-uses u h = ⊎_elim (λ k. inl k) (λ k. inr (eqb-true x.id o k.0, k.1)) (changed_if-uses (has_id o x) change x u h)

  pub on_object-husk : (x.id ≡ o → IsForLive change x) → (is_husk x.phase ≡ true → x.uses ≡ no_ids) → is_husk (on_object o change x).phase ≡ true → (on_object o change x).uses ≡ no_ids
  on_object-husk for = changed_if-husk (has_id o x) change x (λ e. for (eqb-true x.id o e))

  -- a live object stays so, but where it is doomed or released
  pub on_object-live : is_live x.phase ≡ true → (x.id ≡ o → KeepsLive change) → is_live (on_object o change x).phase ≡ true
  on_object-live live keeps = changed_if-live (has_id o x) change x live (λ e. keeps (eqb-true x.id o e))

  pub on_object-request : (on_object o change x).request ≡ x.request
  on_object-request = changed_if-request (has_id o x) change x

  pub on_object-made : is_made (on_object o change x).phase ≡ true → is_made x.phase ≡ true
  on_object-made = changed_if-made (has_id o x) change x

bound_if-doomed : (b : Bool) (binding : Option Binding) (x : Object) → is_doomed (changed_if b (ToBound binding) x).phase ≡ true → is_doomed x.phase ≡ true
bound_if-doomed true binding x h = h
bound_if-doomed false binding x h = h

bound_if-husk : (b : Bool) (binding : Option Binding) (x : Object) → is_husk (changed_if b (ToBound binding) x).phase ≡ true → is_husk x.phase ≡ true
bound_if-husk true binding x h = h
bound_if-husk false binding x h = h

live_if-husk : (b : Bool) (x : Object) → is_husk (changed_if b ToLive x).phase ≡ true → is_husk x.phase ≡ true
live_if-husk true x h = live_from-husk x.phase h
live_if-husk false x h = h

doomed_if-husk : (b : Bool) (x : Object) → is_husk (changed_if b ToDoomed x).phase ≡ true → is_husk x.phase ≡ true
doomed_if-husk true x h = doomed_from-husk x.phase h
doomed_if-husk false x h = h

husk_if-husk : (b : Bool) (x : Object) → is_husk (changed_if b ToHusk x).phase ≡ true → (b ≡ true) ⊎ (is_husk x.phase ≡ true)
husk_if-husk true x h = inl refl
husk_if-husk false x h = inr h

module _ (o : ℕ) (x : Object) where
  -- what is not committed after a commit is another object
  pub live-made : is_made (on_object o ToLive x).phase ≡ true → x.id ≢ o
  live-made h = eqb-false x.id o (live_if-made (has_id o x) x h)

  pub live-doomed : is_doomed (on_object o ToLive x).phase ≡ true → is_doomed x.phase ≡ true
  live-doomed = live_if-doomed (has_id o x) x

  pub husk-doomed : is_doomed (on_object o ToHusk x).phase ≡ true → (x.id ≢ o) × (is_doomed x.phase ≡ true)
  husk-doomed h = let k = husk_if-doomed (has_id o x) x h in (eqb-false x.id o k.0, k.1)

  pub doomed-doomed : is_doomed (on_object o ToDoomed x).phase ≡ true → (x.id ≡ o) ⊎ (is_doomed x.phase ≡ true)
  doomed-doomed h = ⊎_elim (λ e. inl (eqb-true x.id o e)) (λ k. inr k) (doomed_if-doomed (has_id o x) x h)

  pub bound-doomed : (binding : Option Binding) → is_doomed (on_object o (ToBound binding) x).phase ≡ true → is_doomed x.phase ≡ true
  bound-doomed binding h = bound_if-doomed (has_id o x) binding x h

  pub bound-husk : (binding : Option Binding) → is_husk (on_object o (ToBound binding) x).phase ≡ true → is_husk x.phase ≡ true
  bound-husk binding h = bound_if-husk (has_id o x) binding x h

  pub live-husk : is_husk (on_object o ToLive x).phase ≡ true → is_husk x.phase ≡ true
  live-husk h = live_if-husk (has_id o x) x h

  pub doomed-husk : is_husk (on_object o ToDoomed x).phase ≡ true → is_husk x.phase ≡ true
  doomed-husk h = doomed_if-husk (has_id o x) x h

  pub husk-husk : is_husk (on_object o ToHusk x).phase ≡ true → (x.id ≡ o) ⊎ (is_husk x.phase ≡ true)
  husk-husk h = ⊎_elim (λ e. inl (eqb-true x.id o e)) (λ k. inr k) (husk_if-husk (has_id o x) x h)
