-- Objects and their cells.
use Rattle.std.proofs.Common.{◌≡◌, ◌≢◌, ℕ, ◌+◌, ◌<◌, true, false, List, Option, Some, None, length, refl, ap, sym, ◌∙◌, subst, arith, inl, inr, ◌⊎◌, ⊎_elim}
use Rattle.std.specs.Prelude.{slice_get, take, drop, position, option_map, get_or}
use Rattle.std.proofs.lemmas.Option.{none-some, same_Some, slice_get-get_or}
use Rattle.std.proofs.lemmas.List.{length-drop, length-take, get_or-drop, get_or-take}
use Rattle.std.proofs.lemmas.List.Quantifiers.{position-Some}
use Rattle.std.proofs.lemmas.Bool.Decides.{eqb_tells}
use Rattle.uv_num.specs.declared.kind.Kind.{Kind}
use Rattle.uv_num.specs.declared.limits.TheConstants.{CELLS}
use Rattle.uv_num.specs.Kind.{kind_place}
use Rattle.uv_num.specs.Place.{at_place}
use Rattle.uv_num.proofs.PlaceLaws.{slice_get-at_place_same, length-at_place}
use Rattle.uv_machine.specs.declared.object.Object.{Object}
use Rattle.uv_machine.specs.declared.pool.Cell.{Cell}
use Rattle.uv_machine.specs.declared.pool.Pool.{Pool}
use Rattle.uv_machine.specs.Objects.{is_husk}
use Rattle.uv_machine.specs.Cells.{is_home, first_of_two, home_index, sent_out, buried, drawn, buried_at, generation_from}
use Rattle.uv_machine.specs.States.{home_of_kind}
use Rattle.uv_machine.specs.Effects.{generation_in}
use Rattle.uv_machine.specs.Reached.{IsIn, cell_in, cell_of, HasCell, IsCelled}
use Rattle.uv_machine.proofs.Members.{slice_get-at_place_elsewhere}
use Rattle.uv_machine.proofs.Suiting.{is_kind-same}

-- What a choice finds is home.

pub record IsHomeAt (pool : Pool) (i : ℕ) : Type 0 where
  pub cell : Cell
  pub at : slice_get pool.cells i ≡ Some cell
  pub home : cell.home ≡ true

abbrev pub no_cell : Cell
no_cell = record { generation = 0; home = false }

home_behind : (pool : Pool) (i : ℕ) → position is_home (drop pool.next pool.cells) ≡ Some i → IsHomeAt pool (pool.next + i)
home_behind pool i e =
    let p = position-Some is_home (drop pool.next pool.cells) i no_cell e in
    let within : pool.next + i < length pool.cells = omega (arith, p.0, length-drop pool.next pool.cells) in
    let cell = get_or pool.cells (pool.next + i) no_cell in
    record { cell = cell; at = slice_get-get_or pool.cells (pool.next + i) no_cell within; home = sym (ap is_home (get_or-drop pool.next pool.cells i no_cell)) ∙ p.1 }

home_before : (pool : Pool) (i : ℕ) → position is_home (take pool.next pool.cells) ≡ Some i → IsHomeAt pool i
home_before pool i e =
    let p = position-Some is_home (take pool.next pool.cells) i no_cell e in
    let long = length-take pool.next pool.cells in
    let low : i < pool.next = omega (arith, p.0, long) in
    let within : i < length pool.cells = omega (arith, p.0, long) in
    record { cell = get_or pool.cells i no_cell; at = slice_get-get_or pool.cells i no_cell within; home = sym (ap is_home (get_or-take pool.next pool.cells i no_cell low)) ∙ p.1 }

home_of : (pool : Pool) (behind before : Option ℕ) (i : ℕ) → position is_home (drop pool.next pool.cells) ≡ behind → position is_home (take pool.next pool.cells) ≡ before → first_of_two (option_map (λ k. pool.next + k) behind) before ≡ Some i → IsHomeAt pool i
home_of pool (Some k) before i e e' is =
    let P : ℕ → Type 0 = λ n. IsHomeAt pool n in
    subst P (same_Some (pool.next + k) i is) (home_behind pool k e)
home_of pool None before i e e' is = home_before pool i (e' ∙ is)

pub home_is : (pool : Pool) (i : ℕ) → home_index pool ≡ Some i → IsHomeAt pool i
home_is pool i is = home_of pool (position is_home (drop pool.next pool.cells)) (position is_home (take pool.next pool.cells)) i refl refl is

-- A change of one pool.

-- a change of the cell at one index leaves the others
abbrev pub IsAt : ℕ → (Pool → Pool) → Type 0
IsAt i g = (pool : Pool) → ((j : ℕ) → i ≢ j → slice_get (g pool).cells j ≡ slice_get pool.cells j) × (length (g pool).cells ≡ length pool.cells)

drawn_at : (i : ℕ) → IsAt i (drawn i)
drawn_at i pool = (λ j ne. slice_get-at_place_elsewhere pool.cells i j sent_out ne, length-at_place pool.cells i sent_out)

buried_there : (i : ℕ) → IsAt i (buried_at i)
buried_there i pool = (λ j ne. slice_get-at_place_elsewhere pool.cells i j buried ne, length-at_place pool.cells i buried)

cell_beside : (s : Option Pool) (i j : ℕ) (g : Pool → Pool) → IsAt i g → i ≢ j → cell_in (option_map g s) j ≡ cell_in s j
cell_beside None i j g at ne = refl
cell_beside (Some pool) i j g at ne = (at pool).0 j ne

module _ (pools : List Pool) (kind : Kind) (i : ℕ) (g : Pool → Pool) (at : IsAt i g) where
  cell_in_pool : (y : Object) → kind ≡ y.kind → i ≢ y.index → cell_of (at_place pools (kind_place kind) g) y ≡ cell_of pools y
  cell_in_pool y same ne =
      let place : kind_place y.kind ≡ kind_place kind = ap kind_place (sym same) in
      ap (λ n. cell_in (slice_get (at_place pools (kind_place kind) g) n) y.index) place
      ∙ ap (λ s. cell_in s y.index) (slice_get-at_place_same pools (kind_place kind) g)
      ∙ cell_beside (slice_get pools (kind_place kind)) i y.index g at ne
      ∙ ap (λ n. cell_in (slice_get pools n) y.index) (sym place)

  -- an object with another cell keeps it
  cell_other : (y : Object) → (kind ≡ y.kind → i ≡ y.index → ⊥) → cell_of (at_place pools (kind_place kind) g) y ≡ cell_of pools y
  cell_other y apart =
      ⊎_elim
      (λ e. (let same = is_kind-same kind y.kind e.0 in cell_in_pool y same (apart same)))
      (λ e. ap (λ s. cell_in s y.index) (slice_get-at_place_elsewhere pools (kind_place kind) (kind_place y.kind) g e.1))
      (eqb_tells (kind_place kind) (kind_place y.kind))

  has_other : (y : Object) → (kind ≡ y.kind → i ≡ y.index → ⊥) → HasCell pools y → HasCell (at_place pools (kind_place kind) g) y
  has_other y apart h = record { cell = h.cell; is = cell_other y apart ∙ h.is; out = h.out; same = h.same }

  cells_of : (k : ℕ) (s : Option Pool) (pool : Pool) → slice_get pools k ≡ s → option_map g s ≡ Some pool → ((p : Pool) → slice_get pools k ≡ Some p → length p.cells ≡ CELLS) → length pool.cells ≡ CELLS
  cells_of k None pool is e all = absurd (none-some pool e)
  cells_of k (Some p) pool is e all = ap (λ (v : Pool). length v.cells) (sym (same_Some (g p) pool e)) ∙ (at p).1 ∙ all p is

  cells_at : ((k : ℕ) (pool : Pool) → slice_get pools k ≡ Some pool → length pool.cells ≡ CELLS) → (k : ℕ) (pool : Pool) → slice_get (at_place pools (kind_place kind) g) k ≡ Some pool → length pool.cells ≡ CELLS
  cells_at all k pool is =
      ⊎_elim
      (λ e. (
      let here : option_map g (slice_get pools (kind_place kind)) ≡ Some pool = sym (slice_get-at_place_same pools (kind_place kind) g) ∙ ap (slice_get (at_place pools (kind_place kind) g)) e.1 ∙ is in
      cells_of (kind_place kind) (slice_get pools (kind_place kind)) pool refl here (all (kind_place kind))))
      (λ e. all k pool (sym (slice_get-at_place_elsewhere pools (kind_place kind) k g e.1) ∙ is))
      (eqb_tells (kind_place kind) k)

-- Objects that stand as they stood.

pub record StandsAs (objects : List Object) (y : Object) : Type 0 where
  pub item : Object
  pub within : IsIn item objects
  pub standing : is_husk item.phase ≡ false
  pub id : y.id ≡ item.id
  pub kind : y.kind ≡ item.kind
  pub index : y.index ≡ item.index
  pub generation : y.generation ≡ item.generation

has_as : (pools : List Pool) (x y : Object) → y.kind ≡ x.kind → y.index ≡ x.index → y.generation ≡ x.generation → HasCell pools x → HasCell pools y
has_as pools x y kind index generation h = record {
  cell = h.cell;
  is = ap (λ k. cell_in (slice_get pools (kind_place k)) y.index) kind ∙ ap (cell_in (slice_get pools (kind_place x.kind))) index ∙ h.is;
  out = h.out;
  same = generation ∙ h.same;
}

pub celled_as : (pools : List Pool) (objects objects' : List Object) → ((y : Object) → IsIn y objects' → is_husk y.phase ≡ false → StandsAs objects y) → IsCelled pools objects → IsCelled pools objects'
celled_as pools objects objects' stands c = record {
  cells = c.cells;
  has = λ y k e. (let s = stands y k e in has_as pools s.item y s.kind s.index s.generation (c.has s.item s.within s.standing));
  own = λ y z k h e e' kind index. (
      let s = stands y k e in
      let t = stands z h e' in
      s.id ∙ c.own s.item t.item s.within t.within s.standing t.standing (sym s.kind ∙ kind ∙ t.kind) (sym s.index ∙ index ∙ t.index) ∙ sym t.id);
}

-- a burial, where the object that had the cell is gone
pub celled_buried : (pools : List Pool) (objects objects' : List Object) (x : Object) → IsIn x objects → is_husk x.phase ≡ false → ((y : Object) → IsIn y objects' → is_husk y.phase ≡ false → StandsAs objects y) → ((y : Object) → IsIn y objects' → is_husk y.phase ≡ false → y.id ≢ x.id) → IsCelled pools objects → IsCelled (at_place pools (kind_place x.kind) (buried_at x.index)) objects'
celled_buried pools objects objects' x k e stands others c =
    let before = celled_as pools objects objects' stands c in
    let at = buried_there x.index in
    record {
      cells = cells_at pools x.kind x.index (buried_at x.index) at c.cells;
      has = λ y h e'. (
          let s = stands y h e' in
          has_other pools x.kind x.index (buried_at x.index) at y
          (λ kind index. others y h e' (s.id ∙ sym (c.own x s.item k s.within e s.standing (kind ∙ s.kind) (index ∙ s.index))))
          (before.has y h e'));
      own = before.own;
    }

-- A new object.

pub record HomeOf (pools : List Pool) (kind : Kind) (i : ℕ) : Type 0 where
  pub pool : Pool
  pub is : slice_get pools (kind_place kind) ≡ Some pool
  pub home : IsHomeAt pool i

home_by : (pools : List Pool) (kind : Kind) (i : ℕ) (s : Option Pool) → slice_get pools (kind_place kind) ≡ s → home_of_kind s ≡ Some i → HomeOf pools kind i
home_by pools kind i None is e = absurd (none-some i e)
home_by pools kind i (Some pool) is e = record { pool = pool; is = is; home = home_is pool i e }

drawn_has : (pools : List Pool) (z : Object) (h : HomeOf pools z.kind z.index) → z.generation ≡ generation_in z.index (slice_get pools (kind_place z.kind)) → HasCell (at_place pools (kind_place z.kind) (drawn z.index)) z
drawn_has pools z h generation =
    let place = kind_place z.kind in
    record {
      cell = sent_out h.home.cell;
      is = ap (λ s. cell_in s z.index) (slice_get-at_place_same pools place (drawn z.index) ∙ ap (option_map (drawn z.index)) h.is)
          ∙ slice_get-at_place_same h.pool.cells z.index sent_out
          ∙ ap (option_map sent_out) h.home.at;
      out = refl;
      same = generation ∙ ap (generation_in z.index) h.is ∙ ap generation_from h.home.at;
    }

home_apart : (pools : List Pool) (z y : Object) → HomeOf pools z.kind z.index → HasCell pools y → z.kind ≡ y.kind → z.index ≡ y.index → ⊥
home_apart pools z y h has kind index =
    let there : slice_get h.pool.cells z.index ≡ Some has.cell =
    sym (ap (λ s. cell_in s z.index) h.is) ∙ ap (λ k. cell_in (slice_get pools (kind_place k)) z.index) kind ∙ ap (cell_in (slice_get pools (kind_place y.kind))) index ∙ has.is in
    let same : h.home.cell ≡ has.cell = same_Some h.home.cell has.cell (sym h.home.at ∙ there) in
    let home = h.home.home in
    let out : h.home.cell.home ≡ false = ap (λ (v : Cell). v.home) same ∙ has.out in
    cc

module _ (pools : List Pool) (objects : List Object) (z : Object) (home : home_of_kind (slice_get pools (kind_place z.kind)) ≡ Some z.index) (c : IsCelled pools objects) where
  new_home : HomeOf pools z.kind z.index
  new_home = home_by pools z.kind z.index (slice_get pools (kind_place z.kind)) refl home

  new_apart : (y : Object) → IsIn y objects → is_husk y.phase ≡ false → z.kind ≡ y.kind → z.index ≡ y.index → ⊥
  new_apart y k e kind index = home_apart pools z y new_home (c.has y k e) kind index

  new_has : z.generation ≡ generation_in z.index (slice_get pools (kind_place z.kind)) → (y : Object) → IsIn y objects ⊎ (y ≡ z) → is_husk y.phase ≡ false → HasCell (at_place pools (kind_place z.kind) (drawn z.index)) y
  new_has generation y (inl k) e = has_other pools z.kind z.index (drawn z.index) (drawn_at z.index) y (new_apart y k e) (c.has y k e)
  new_has generation y (inr same) e =
      let P : Object → Type 0 = λ v. HasCell (at_place pools (kind_place z.kind) (drawn z.index)) v in
      subst P (sym same) (drawn_has pools z new_home generation)

  new_own : (x y : Object) → IsIn x objects ⊎ (x ≡ z) → IsIn y objects ⊎ (y ≡ z) → is_husk x.phase ≡ false → is_husk y.phase ≡ false → x.kind ≡ y.kind → x.index ≡ y.index → x.id ≡ y.id
  new_own x y (inl k) (inl h) e e' kind index = c.own x y k h e e' kind index
  new_own x y (inl k) (inr same) e e' kind index =
      absurd (new_apart x k e (sym (ap (λ (v : Object). v.kind) same) ∙ sym kind) (sym (ap (λ (v : Object). v.index) same) ∙ sym index))
  new_own x y (inr same) (inl h) e e' kind index =
      absurd (new_apart y h e' (sym (ap (λ (v : Object). v.kind) same) ∙ kind) (sym (ap (λ (v : Object). v.index) same) ∙ index))
  new_own x y (inr same) (inr same') e e' kind index = ap (λ (v : Object). v.id) same ∙ sym (ap (λ (v : Object). v.id) same')

  pub celled_new : (objects' : List Object) → ((y : Object) → IsIn y objects' → IsIn y objects ⊎ (y ≡ z)) → z.generation ≡ generation_in z.index (slice_get pools (kind_place z.kind)) → IsCelled (at_place pools (kind_place z.kind) (drawn z.index)) objects'
  celled_new objects' cases generation = record {
    cells = cells_at pools z.kind z.index (drawn z.index) (drawn_at z.index) c.cells;
    has = λ y k e. new_has generation y (cases y k) e;
    own = λ x y k h e e' kind index. new_own x y (cases x k) (cases y h) e e' kind index;
  }
