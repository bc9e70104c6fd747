-- How the seats are joined to the first, one by one.
use Rattle.std.specs.Prelude.{◌≡◌, ◌⊎◌, ℕ, ◌<◌, slice_index_or, List, [], ◌∷◌, ◌++◌, length, map, Option}
use Rattle.atomic_table.specs.Table.{Me}
use Rattle.atomic_table.specs.Seated.{TableId}
use Rattle.uv_desk.specs.declared.view.View.{View}
use Rattle.uv_desk.specs.declared.view.Kept.{Kept}
use Rattle.uv_desk.specs.Seats.{Placed, OneOf, AreSeats, kept_by}

-- it is an item of the list
abbrev pub IsAmong : {X : Type 0} → X → List X → Type 0
IsAmong {X} x xs = OneOf (λ (y : X). y ≡ x) xs

-- the list has the items of these two, and no others
pub record Parts {X : Type 0} (all one other : List X) : Type 0 where
  pub each : (x : X) → IsAmong x all → IsAmong x one ⊎ IsAmong x other
  pub ones : (x : X) → IsAmong x one → IsAmong x all
  pub others : (x : X) → IsAmong x other → IsAmong x all

-- at that place of the list stands the seat of that number
abbrev pub IsPlaceOf : {E O : Type 0} → ℕ → List (Placed E O) → ℕ → Type 0
IsPlaceOf {E} {O} number seats at = (at < length seats) × ((other : Placed E O) → (slice_index_or seats at other).number ≡ number)

-- the seat of that number was taken out of the list
pub record Drawn {E O : Type 0} (number : ℕ) (seats : List (Placed E O)) (seat : Placed E O) (left : List (Placed E O)) : Type 0 where
  pub front : List (Placed E O)
  pub back : List (Placed E O)
  pub stood : seats ≡ front ++ seat ∷ back
  pub left_is : left ≡ front ++ back
  pub number_is : seat.number ≡ number

module _ {M E O : Type 0} where
  -- the first seat, with these joined to it, for the numbers from `whole` on
  abbrev pub joined_to : Me (Option M) (View M E O) → ℕ → List (Kept E O) → Me (Option M) (View M E O)
  joined_to me whole ks = (record me.0 { whole = whole; joined = ks ++ me.0.joined }, me.1)

  -- the first seat, with all these joined to it, in the order of their numbers
  pub record Gathered (desk : TableId) (me : Me (Option M) (View M E O)) (seats : List (Placed E O)) (me' : Me (Option M) (View M E O)) : Type 0 where
    pub sorted : List (Placed E O)
    pub parts : Parts seats [] sorted
    pub in_order : AreSeats desk 1 sorted
    pub as_many : length sorted ≡ length seats
    pub joined_is : me' ≡ joined_to me 1 (map kept_by sorted)
