-- The objects by themselves: what changes, removals and a new object keep of them.
use Rattle.std.specs.Prelude.{ℕ, Bool, true, false, ◌≡◌, ◌≢◌, ◌≤◌, ◌<◌, ◌+◌, ◌⊎◌, nat_lt, List, [], ◌∷◌, ◌++◌, Some, cond, length, map, filter, find, if◌then◌else◌}
use Rattle.std.specs.List.{list_any}
use Rattle.std.proofs.Common.{ap, sym, subst, ◌∙◌, inl, inr, ⊎_elim, arith}
use Rattle.std.proofs.lemmas.Bool.{eq-eqb, ne_eqb}
use Rattle.uv_num.specs.declared.ids.Ids.{Ids}
use Rattle.uv_num.specs.Ids.{ids_of, is_number}
use Rattle.uv_machine.specs.declared.object.Object.{Object}
use Rattle.uv_num.specs.declared.limits.TheConstants.{MOST_OBJECTS}
use Rattle.uv_machine.specs.declared.object.Change.{Change}
use Rattle.uv_machine.specs.declared.object.Change.TheVariants.{ToLive, ToDoomed, ToHusk}
use Rattle.uv_machine.specs.Effects.{with_room_for}
use Rattle.uv_machine.specs.Objects.{is_husk, has_id, uses_object, no_ids, on_object}
use Rattle.uv_machine.specs.Reached.{IsIn, IsRising, IsAbove, UsesWell, IsGraph}
use Rattle.uv_machine.proofs.Members.{IsIn-append-cases, IsIn-map, Passes-filter}
use Rattle.uv_machine.proofs.Changing.{Gains, IsForLive, on_object-id, on_object-file, on_object-kind, on_object-uses, on_object-husk}

-- Ids.

IsRising-lower : (low low' top : ℕ) (xs : List Object) → low' ≤ low → IsRising low xs top → IsRising low' xs top
IsRising-lower low low' top [] le h = omega arith
IsRising-lower low low' top (x ∷ xs) le h = (omega (arith, h.0), h.1)

IsRising-bounds : (low top : ℕ) (xs : List Object) → IsRising low xs top → low ≤ top
IsRising-bounds low top [] h = h
IsRising-bounds low top (x ∷ xs) h = omega (arith, h.0, IsRising-bounds (x.id + 1) top xs h.1)

IsRising-map : (f : Object → Object) → ((x : Object) → (f x).id ≡ x.id) → (low top : ℕ) (xs : List Object) → IsRising low xs top → IsRising low (map f xs) top
IsRising-map f same low top [] h = h
IsRising-map f same low top (x ∷ xs) h = rw (same x) (h.0, IsRising-map f same (x.id + 1) top xs h.1)

IsRising-filter_step : (p : Object → Bool) (low top : ℕ) (x : Object) (xs : List Object) (b : Bool) → low ≤ x.id → IsRising (x.id + 1) (filter p xs) top → IsRising low (cond b (x ∷ filter p xs) (filter p xs)) top
IsRising-filter_step p low top x xs true le h = (le, h)
IsRising-filter_step p low top x xs false le h = IsRising-lower (x.id + 1) low top (filter p xs) (omega arith) h

IsRising-filter : (p : Object → Bool) (low top : ℕ) (xs : List Object) → IsRising low xs top → IsRising low (filter p xs) top
IsRising-filter p low top [] h = h
IsRising-filter p low top (x ∷ xs) h = IsRising-filter_step p low top x xs (p x) h.0 (IsRising-filter p (x.id + 1) top xs h.1)

IsRising-append : (low top : ℕ) (xs : List Object) (x : Object) → x.id ≡ top → IsRising low xs top → IsRising low (xs ++ x ∷ []) (top + 1)
IsRising-append low top [] x e h = (omega arith, omega arith)
IsRising-append low top (y ∷ xs) x e h = (h.0, IsRising-append (y.id + 1) top xs x e h.1)

pub within_rising : (low top : ℕ) (x : Object) (xs : List Object) → IsIn x xs → IsRising low xs top → (low ≤ x.id) × (x.id < top)
within_rising low top x [] k h = absurd k
within_rising low top x (y ∷ ys) (inl e) h =
    let same : x.id ≡ y.id = ap (λ (z : Object). z.id) e in
    let bounds = IsRising-bounds (y.id + 1) top ys h.1 in
    (omega (arith, h.0), omega arith)
within_rising low top x (y ∷ ys) (inr k) h = let more = within_rising (y.id + 1) top x ys k h.1 in (omega (arith, h.0, more.0), more.1)

-- the object of an id is the only one
pub find_rising : (low top : ℕ) (x : Object) (xs : List Object) → IsIn x xs → IsRising low xs top → find (has_id x.id) xs ≡ Some x
find_rising low top x [] k h = absurd k
find_rising low top x (y ∷ ys) (inl e) h = rw (eq-eqb y.id x.id (ap (λ (z : Object). z.id) (sym e))) (ap Some (sym e))
find_rising low top x (y ∷ ys) (inr k) h =
    let more = within_rising (y.id + 1) top x ys k h.1 in
    let apart : y.id ≢ x.id = omega (arith, more.0) in
    rw (ne_eqb y.id x.id apart) (find_rising (y.id + 1) top x ys k h.1)

-- Uses.

pub uses_nothing : (x : Object) (u : ℕ) → x.uses ≡ no_ids → uses_object u x ≡ true → ⊥
uses_nothing x u e h = let none : uses_object u x ≡ false = ap (λ (i : Ids). list_any (is_number u) (ids_of i)) e in cc

-- what a change makes the objects of this id use stands below them
pub record GainsWell (made o : ℕ) (change : Change) (objects : List Object) : Type 0 where
  pub live : (x : Object) → IsIn x objects → x.id ≡ o → IsForLive change x
  pub below : (u : ℕ) → Gains change u → u < made
  pub above : (x y : Object) → IsIn x objects → IsIn y objects → x.id ≡ o → Gains change y.id → IsAbove x y

-- the graph of the objects after a change
module _ (made o : ℕ) (change : Change) (objects : List Object) (g : IsGraph made objects) (gains : GainsWell made o change objects) where
  above_before : (x z : Object) → IsIn x objects → IsIn z objects → (uses_object z.id x ≡ true) ⊎ ((x.id ≡ o) × Gains change z.id) → IsAbove x z
  above_before x z k h (inl used) = (g.uses x k).above z h used
  above_before x z k h (inr new) = gains.above x z k h new.0 new.1

  UsesWell-map : (x : Object) → IsIn x objects → UsesWell made (map (on_object o change) objects) (on_object o change x)
  UsesWell-map x k =
      let old = g.uses x k in
      record {
        husk = on_object-husk o change x (gains.live x k) old.husk;
        below = λ u h. ⊎_elim (λ used. old.below u used) (λ new. gains.below u new.1) (on_object-uses o change x u h);
        above = λ y h used.
            let from = IsIn-map (on_object o change) y objects h in
            let z = from.item in
            let id : y.id ≡ z.id = ap (λ (v : Object). v.id) from.gives ∙ on_object-id o change z in
            let file : y.file ≡ z.file = ap (λ (v : Object). v.file) from.gives ∙ on_object-file o change z in
            let kind : y.kind ≡ z.kind = ap (λ (v : Object). v.kind) from.gives ∙ on_object-kind o change z in
            let above = above_before x z k from.within (on_object-uses o change x z.id (rw id at used)) in
            record {
              rank = rw (kind, on_object-kind o change x) above.rank;
              same = rw (file, on_object-file o change x) above.same;
            };
      }

  pub IsGraph-map : IsGraph made (map (on_object o change) objects)
  IsGraph-map = record {
    rising = IsRising-map (on_object o change) (on_object-id o change) 0 made objects g.rising;
    uses = λ y h. let from = IsIn-map (on_object o change) y objects h in subst (λ (v : Object). UsesWell made (map (on_object o change) objects) v) (sym from.gives) (UsesWell-map from.item from.within);
  }

-- changes that make nothing use more
pub gains_live : (made o : ℕ) (objects : List Object) → GainsWell made o ToLive objects
gains_live made o objects = record { live = λ x k e. tt; below = λ u h. absurd h; above = λ x y k h e g. absurd g }

pub gains_doomed : (made o : ℕ) (objects : List Object) → GainsWell made o ToDoomed objects
gains_doomed made o objects = record { live = λ x k e. tt; below = λ u h. absurd h; above = λ x y k h e g. absurd g }

pub gains_husk : (made o : ℕ) (objects : List Object) → GainsWell made o ToHusk objects
gains_husk made o objects = record { live = λ x k e. tt; below = λ u h. absurd h; above = λ x y k h e g. absurd g }

pub IsGraph-filter : (made : ℕ) (p : Object → Bool) (objects : List Object) → IsGraph made objects → IsGraph made (filter p objects)
IsGraph-filter made p objects g = record {
  rising = IsRising-filter p 0 made objects g.rising;
  uses = λ x h.
      let old = g.uses x (Passes-filter p x objects h).within in
      record {
        husk = old.husk;
        below = old.below;
        above = λ y k used. old.above y (Passes-filter p y objects k).within used;
      };
}

only_one : (x z : Object) → IsIn x (z ∷ []) → x ≡ z
only_one x z (inl e) = e
only_one x z (inr h) = absurd h

-- more ids than objects
UsesWell-more : (made : ℕ) (objects : List Object) (x : Object) → UsesWell made objects x → UsesWell (made + 1) objects x
UsesWell-more made objects x old = record { husk = old.husk; below = λ u used. omega (arith, old.below u used); above = old.above }

IsRising-more : (low top : ℕ) (xs : List Object) → IsRising low xs top → IsRising low xs (top + 1)
IsRising-more low top [] h = omega arith
IsRising-more low top (x ∷ xs) h = (h.0, IsRising-more (x.id + 1) top xs h.1)

IsGraph-more : (made : ℕ) (objects : List Object) → IsGraph made objects → IsGraph (made + 1) objects
IsGraph-more made objects g = record { rising = IsRising-more 0 made objects g.rising; uses = λ x h. UsesWell-more made objects x (g.uses x h) }

-- what a new object uses stands below it
pub record UsesBelow (made : ℕ) (objects : List Object) (z : Object) : Type 0 where
  pub husk : is_husk z.phase ≡ true → z.uses ≡ no_ids
  pub below : (u : ℕ) → uses_object u z ≡ true → u < made
  pub above : (y : Object) → IsIn y objects → uses_object y.id z ≡ true → IsAbove z y

module _ (made : ℕ) (objects : List Object) (g : IsGraph made objects) (z : Object) (next : z.id ≡ made) (new : UsesBelow made objects z) where
  -- no object that was made before uses the new one
  above_new : (x : Object) → ((u : ℕ) → uses_object u x ≡ true → u < made) → ((y : Object) → IsIn y objects → uses_object y.id x ≡ true → IsAbove x y) → (y : Object) → IsIn y objects ⊎ IsIn y (z ∷ []) → uses_object y.id x ≡ true → IsAbove x y
  above_new x below above y (inl h) used = above y h used
  above_new x below above y (inr (inl e)) used = absurd (let id : y.id ≡ made = ap (λ (v : Object). v.id) e ∙ next in omega (arith, below y.id used))
  above_new x below above y (inr (inr h)) used = absurd h

  UsesWell-new : UsesWell (made + 1) (objects ++ z ∷ []) z
  UsesWell-new = record {
    husk = new.husk;
    below = λ u used. omega (arith, new.below u used);
    above = λ y h. above_new z new.below new.above y (IsIn-append-cases y objects (z ∷ []) h);
  }

  UsesWell-old : (x : Object) → UsesWell made objects x → UsesWell (made + 1) (objects ++ z ∷ []) x
  UsesWell-old x old = record {
    husk = old.husk;
    below = λ u used. omega (arith, old.below u used);
    above = λ y h. above_new x old.below old.above y (IsIn-append-cases y objects (z ∷ []) h);
  }

  UsesWell-either : (x : Object) → IsIn x objects ⊎ IsIn x (z ∷ []) → UsesWell (made + 1) (objects ++ z ∷ []) x
  UsesWell-either x (inl h) = UsesWell-old x (g.uses x h)
  UsesWell-either x (inr (inl e)) = subst (λ (v : Object). UsesWell (made + 1) (objects ++ z ∷ []) v) (sym e) UsesWell-new
  UsesWell-either x (inr (inr h)) = absurd h

  IsGraph-append : IsGraph (made + 1) (objects ++ z ∷ [])
  IsGraph-append = record {
    rising = IsRising-append 0 made objects z next g.rising;
    uses = λ x h. UsesWell-either x (IsIn-append-cases x objects (z ∷ []) h);
  }

  graph_by : (room : Bool) → IsGraph (made + 1) (if room then objects ++ z ∷ [] else objects)
  graph_by true = IsGraph-append
  graph_by false = IsGraph-more made objects g

  pub IsGraph-new : IsGraph (made + 1) (with_room_for z objects)
  IsGraph-new = graph_by (nat_lt (length objects) MOST_OBJECTS)

-- an object of a list that may have grown by one
in_room_by : (x z : Object) (objects : List Object) (room : Bool) → IsIn x (if room then objects ++ z ∷ [] else objects) → IsIn x objects ⊎ (x ≡ z)
in_room_by x z objects true h = ⊎_elim (λ k. inl k) (λ k. inr (only_one x z k)) (IsIn-append-cases x objects (z ∷ []) h)
in_room_by x z objects false h = inl h

pub in_room : (x z : Object) (objects : List Object) → IsIn x (with_room_for z objects) → IsIn x objects ⊎ (x ≡ z)
in_room x z objects h = in_room_by x z objects (nat_lt (length objects) MOST_OBJECTS) h
