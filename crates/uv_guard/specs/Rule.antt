-- The rule of a cell: what is true of it between any two steps.
-- Word 0 is the life: a bit for each seat that refers to the cell, then LIVE (bit 32) and DYING (bit 33), then the generation.
-- Word 1 is the turn: it grows by one with each taking and with each giving back, so it is odd while a seat has the value.
use Rattle.std.specs.Prelude.{◌≡◌, ◌≢◌, ℕ, ◌+◌, ◌*◌, ◌/◌, ◌%◌, ◌<◌, ◌≤◌, List, ◌++◌, length, map, slice_index, Option, Some, None}
use Rattle.std.specs.Int.{bit_at}
use mathlib.Core.Option.{some}
use mathlib.Core.Option as maybe
use lib.ListN.{get_elem?}
use Rattle.atomic_table.specs.Table.{State}
use Rattle.uv_num.specs.Prefix.{IsPrefix}
use Rattle.uv_order.specs.declared.signed.Signed.{Signed}
use Rattle.uv_order.specs.declared.signed.TheConstants.{SEATS}
use Rattle.uv_order.specs.declared.taken.Taken.{Taken}
use Rattle.uv_guard.specs.declared.life.Stage.{Stage}
use Rattle.uv_guard.specs.declared.life.Stage.TheVariants.{Home, Filling, Planted, Doomed, Clear, Spent}
use Rattle.uv_guard.specs.declared.life.Planting.{Planting}
use Rattle.uv_guard.specs.declared.life.Life.{Life}
use Rattle.uv_guard.specs.declared.view.Held.{Held}
use Rattle.uv_guard.specs.declared.view.Kept.{Kept}
use Rattle.uv_guard.specs.declared.view.View.{View}
use Rattle.uv_guard.specs.declared.view.Role.TheVariants.{Taker, Owner}
use Rattle.uv_order.specs.Signed.{those, AreOfSeats}
use Rattle.uv_order.specs.Takings.{run}
use Rattle.uv_guard.specs.Lives.{flags, IsStanding, over, begun, standing, planting, Runs, AreLived, AreNumbered, AreEnded, Grows, AreKept, IsApart}

-- all that is true of a cell and isn't in its words
pub record Truth (T : Type 0) : Type 0 where
  pub gen : ℕ
  pub stage : Stage T
  -- what stands in the cell, or was taken out of it as it was entered
  pub value : Option T
  -- the generation that a seat refers to, by the seat's number
  pub refs : ℕ → Option ℕ
  -- the seat that has the turn
  pub holder : Option ℕ
  -- the place of a seat's view, and of the deed's
  pub chair : ℕ → ℕ
  pub deed : ℕ
  -- how many seats were made
  pub given : ℕ
  -- all takings, in order
  pub log : List (Signed (Taken T))
  pub plants : List (Planting T)
  pub lives : List (Life T)
  -- what the seats knew that were joined
  pub kept : List (Kept T)

-- the turn word, before it wraps
abbrev pub turns : Option ℕ → ℕ → ℕ
turns None n = 2 * n
turns (Some _) n = 2 * n + 1

module _ {T : Type 0} where
  -- what lies in the slot, where no seat has it
  abbrev pub Lies : List (maybe.Option (Option T)) → Option T → Stage T → Type 0
  Lies homes x Home = get_elem? homes 0 ≡ some (some None)
  Lies homes x Filling = Unit {0}
  Lies homes x (Planted p) = get_elem? homes 0 ≡ some (some x)
  Lies homes x (Doomed p) = get_elem? homes 0 ≡ some (some x)
  Lies homes x (Clear p y) = Unit {0}
  Lies homes x Spent = Unit {0}

  -- all that was done with the cell
  pub record Account (goes_on : T → T → Type 0) (t : Truth T) : Type 0 where
    pub past : over t.stage t.gen ≡ length t.lives
    pub planted : t.plants ≡ map planting t.lives ++ standing t.stage t.gen
    pub numbered : AreNumbered 0 t.log
    pub authors : AreOfSeats t.given t.log
    pub lived : AreLived (begun t.stage t.gen) t.log
    pub grows : Grows goes_on t.log
    pub runs : Runs t.stage (run t.gen t.log) t.value
    pub ended : AreEnded 0 t.log t.lives

  -- what the deed knows
  pub record Owns (t : Truth T) (v : View T) : Type 0 where
    pub stage_is : v.stage ≡ t.stage
    pub generation_is : v.generation ≡ t.gen
    pub given_is : v.given ≡ t.given
    pub plants_is : v.plants ≡ t.plants
    pub lives_is : v.lives ≡ t.lives
    pub kept_is : v.kept ≡ t.kept

  -- what the view at place j knows
  pub record Knows (t : Truth T) (j : ℕ) (v : View T) : Type 0 where
    pub below : v.role ≡ Taker → v.number < t.given
    pub chair_is : v.role ≡ Taker → t.chair v.number ≡ j
    pub refers_is : v.role ≡ Taker → t.refs v.number ≡ v.refers
    pub idle : v.role ≡ Taker → v.entered ≡ None → t.holder ≢ Some v.number
    pub entered_is : (h : Held T) → v.entered ≡ Some h → (t.value ≡ Some h.value) × (v.role ≡ Taker) × (t.holder ≡ Some v.number) × (h.number ≡ length t.log) × (h.generation ≡ t.gen)
    pub took_is : v.role ≡ Taker → v.took ≡ those v.number t.log
    pub apart : v.role ≡ Taker → IsApart v.number t.kept
    pub told_plants : IsPrefix v.plants t.plants
    pub told_lives : IsPrefix v.lives t.lives
    pub deed_is : v.role ≡ Owner → j ≡ t.deed
    pub owns : v.role ≡ Owner → Owns t v

  pub record IsGuarded (goes_on : T → T → Type 0) (s : State (Option T) (View T)) : Type 0 where
    pub truth : Truth T
    pub account : Account goes_on truth
    pub fits : AreKept truth.log truth.plants truth.lives truth.kept
    pub two_words : length s.words ≡ 2
    pub one_slot : length s.homes ≡ 1
    pub few : truth.given ≤ SEATS
    pub top_is : slice_index s.words 0 / 4294967296 ≡ 4 * truth.gen + flags truth.stage
    pub turn_is : slice_index s.words 1 ≡ turns truth.holder (length truth.log) % 18446744073709551616
    pub odd : (n : ℕ) → truth.holder ≡ Some n → truth.refs n ≡ Some truth.gen
    pub refers : (n g : ℕ) → truth.refs n ≡ Some g → (g ≡ truth.gen) × (n < truth.given) × (bit_at (slice_index s.words 0) n ≡ 1) × IsStanding truth.stage
    pub lies : truth.holder ≡ None → Lies s.homes truth.value truth.stage
    pub each_seat : (j : ℕ) (v : View T) → get_elem? s.views j ≡ some v → Knows truth j v
