-- The lives of a cell have the generations 0, 1, 2 ..
use Rattle.std.proofs.Common.{◌≡◌, ◌≢◌, ℕ, zero, suc, ◌+◌, ◌<◌, ◌≤◌, Bool, true, false, List, [], ◌∷◌, Option, Some, None, length, refl, ap, sym, ◌∙◌, subst, arith, inl, inr, ⊎_elim}
use Rattle.std.specs.Prelude.{◌++◌, ◌==◌, nat_le, slice_get, option_map, filter, cond, replicate, if◌then◌else◌}
use Rattle.std.specs.Cmp.Derive.{both_true}
use Rattle.std.proofs.lemmas.Bool.{and_parts, eqb-true, eq-eqb}
use Rattle.std.proofs.lemmas.Bool.Decides.{eqb_tells, nat_tests}
use Rattle.std.proofs.lemmas.List.{append-nil, length-append}
use Rattle.std.proofs.lemmas.List.Elements.{filter-append}
use Rattle.std.proofs.lemmas.Option.{none-some, same_Some}
use Rattle.uv_num.specs.declared.limits.TheConstants.{CELLS, KINDS, MOST_GENERATION}
use Rattle.uv_num.specs.Kind.{kind_place}
use Rattle.uv_num.specs.Place.{at_place}
use Rattle.uv_num.proofs.PlaceLaws.{slice_get-at_place_same}
use Rattle.uv_machine.specs.declared.entry.Entry.{Entry}
use Rattle.uv_machine.specs.declared.object.Object.{Object}
use Rattle.uv_machine.specs.declared.object.Phase.{Phase}
use Rattle.uv_machine.specs.declared.object.Phase.TheVariants as phase
use Rattle.uv_machine.specs.declared.pool.Cell.{Cell}
use Rattle.uv_machine.specs.declared.pool.Pool.{Pool}
use Rattle.uv_machine.specs.declared.state.State.{State}
use Rattle.uv_machine.specs.Objects.{is_doomed, is_husk}
use Rattle.uv_machine.specs.Cells.{sent_out, buried, drawn, buried_at, generation_from, full_pool}
use Rattle.uv_machine.specs.States.{home_of_kind, start}
use Rattle.uv_machine.specs.Effects.{generation_in}
use Rattle.uv_machine.specs.Histories.{Allowed, after, state_of, IsLegal}
use Rattle.uv_machine.specs.Reached.{IsIn, cell_in, HasCell, IsCelled}
use Rattle.uv_machine.specs.Made.{new_by, listed, made_in, is_at, lives_at}
use Rattle.uv_machine.specs.ObjectLaws.{LivesCount, CellIsOne, LastLife}
use Rattle.uv_machine.proofs.Members.{slice_get-at_place_elsewhere}
use Rattle.uv_machine.proofs.Celled.{home_is}
use Rattle.uv_machine.proofs.CelledTurns.{legal_celled}
use Rattle.uv_machine.proofs.GoingOn.{state_from-snoc}
use Rattle.uv_machine.proofs.Numbers.{legal_numbered}
use Rattle.uv_machine.proofs.Owning.{into_filter}
use Rattle.uv_machine.proofs.Reaching.{Reached-state_of}
use Rattle.uv_machine.proofs.Historied.{by_history}
use Rattle.uv_machine.proofs.Dealing.{Adds, Returns, Deals, deals_after}
use Rattle.uv_machine.proofs.MadeKept.{made_goes_on, at_grown}

-- A change of one cell.

-- a change of pools that changes the cell at one index
abbrev pub ChangesCell : ℕ → (Pool → Pool) → (Cell → Cell) → Type 0
ChangesCell i g f = (pool : Pool) → (g pool).cells ≡ at_place pool.cells i f

cell_in_changed : (s : Option Pool) (i : ℕ) (g : Pool → Pool) (f : Cell → Cell) → ChangesCell i g f → cell_in (option_map g s) i ≡ option_map f (cell_in s i)
cell_in_changed None i g f changes = refl
cell_in_changed (Some pool) i g f changes = ap (λ v. slice_get v i) (changes pool) ∙ slice_get-at_place_same pool.cells i f

cell_in_beside : (s : Option Pool) (i j : ℕ) (g : Pool → Pool) (f : Cell → Cell) → ChangesCell i g f → i ≢ j → cell_in (option_map g s) j ≡ cell_in s j
cell_in_beside None i j g f changes ne = refl
cell_in_beside (Some pool) i j g f changes ne = ap (λ v. slice_get v j) (changes pool) ∙ slice_get-at_place_elsewhere pool.cells i j f ne

module _ (pools : List Pool) (p i : ℕ) (g : Pool → Pool) (f : Cell → Cell) (changes : ChangesCell i g f) where
  pub cell_here : (k j : ℕ) → p ≡ k → i ≡ j → cell_in (slice_get (at_place pools p g) k) j ≡ option_map f (cell_in (slice_get pools k) j)
  cell_here k j ek ej =
      ap (λ v. cell_in (slice_get (at_place pools p g) v) j) (sym ek)
      ∙ ap (λ s. cell_in s j) (slice_get-at_place_same pools p g)
      ∙ ap (cell_in (option_map g (slice_get pools p))) (sym ej)
      ∙ cell_in_changed (slice_get pools p) i g f changes
      ∙ ap (λ v. option_map f (cell_in (slice_get pools p) v)) ej
      ∙ ap (λ v. option_map f (cell_in (slice_get pools v) j)) ek

  cell_same_pool : (k j : ℕ) → p ≡ k → i ≢ j → cell_in (slice_get (at_place pools p g) k) j ≡ cell_in (slice_get pools k) j
  cell_same_pool k j ek ne =
      ap (λ v. cell_in (slice_get (at_place pools p g) v) j) (sym ek)
      ∙ ap (λ s. cell_in s j) (slice_get-at_place_same pools p g)
      ∙ cell_in_beside (slice_get pools p) i j g f changes ne
      ∙ ap (λ v. cell_in (slice_get pools v) j) ek

  cell_else : (k j : ℕ) → p ≢ k → cell_in (slice_get (at_place pools p g) k) j ≡ cell_in (slice_get pools k) j
  cell_else k j ne = ap (λ s. cell_in s j) (slice_get-at_place_elsewhere pools p k g ne)

  -- this cell or another
  pub cell_by : (k j : ℕ) (P : Option Cell → Type 0) → (p ≡ k → i ≡ j → P (option_map f (cell_in (slice_get pools k) j))) → ((p ≡ k → i ≡ j → ⊥) → P (cell_in (slice_get pools k) j)) → P (cell_in (slice_get (at_place pools p g) k) j)
  cell_by k j P here other =
      ⊎_elim
      (λ ek. ⊎_elim
      (λ ej. subst P (sym (cell_here k j ek.1 ej.1)) (here ek.1 ej.1))
      (λ nj. subst P (sym (cell_same_pool k j ek.1 nj.1)) (other (λ a b. nj.1 b)))
      (eqb_tells i j))
      (λ nk. subst P (sym (cell_else k j nk.1)) (other (λ a b. nk.1 a)))
      (eqb_tells p k)

-- Lives.

-- an object more that has a cell out
abbrev pub out_count : Bool → ℕ
out_count true = 0
out_count false = 1

pub record Counted (made : List Object) (pools : List Pool) : Type 0 where
  pub count : (k i : ℕ) (cell : Cell) → cell_in (slice_get pools k) i ≡ Some cell → length (filter (is_at k i) made) ≡ cell.generation + out_count cell.home
  pub order : (k i j : ℕ) (x : Object) → slice_get (filter (is_at k i) made) j ≡ Some x → x.generation ≡ j
  pub low : (k i : ℕ) (cell : Cell) → cell_in (slice_get pools k) i ≡ Some cell → cell.generation ≤ MOST_GENERATION

pub at_here : (z : Object) (k i : ℕ) → kind_place z.kind ≡ k → z.index ≡ i → is_at k i z ≡ true
at_here z k i ek ei = both_true (eq-eqb (kind_place z.kind) k ek) (eq-eqb z.index i ei)

at_other : (z : Object) (k i : ℕ) (b : Bool) → is_at k i z ≡ b → (kind_place z.kind ≡ k → z.index ≡ i → ⊥) → b ≡ false
at_other z k i true e apart =
    let parts = and_parts (kind_place z.kind == k) (z.index == i) e in
    absurd (apart (eqb-true (kind_place z.kind) k parts.0) (eqb-true z.index i parts.1))
at_other z k i false e apart = refl

filter_with : (k i : ℕ) (made : List Object) (z : Object) → is_at k i z ≡ true → filter (is_at k i) (made ++ z ∷ []) ≡ filter (is_at k i) made ++ z ∷ []
filter_with k i made z e = filter-append (is_at k i) made (z ∷ []) ∙ ap (λ b. filter (is_at k i) made ++ cond b (z ∷ []) []) e

filter_without : (k i : ℕ) (made : List Object) (z : Object) → is_at k i z ≡ false → filter (is_at k i) (made ++ z ∷ []) ≡ filter (is_at k i) made
filter_without k i made z e = filter-append (is_at k i) made (z ∷ []) ∙ ap (λ b. filter (is_at k i) made ++ cond b (z ∷ []) []) e ∙ append-nil (filter (is_at k i) made)

-- the cell that a new object gets
pub record WasHome (pools : List Pool) (z : Object) : Type 0 where
  pub cell : Cell
  pub is : cell_in (slice_get pools (kind_place z.kind)) z.index ≡ Some cell
  pub home : cell.home ≡ true
  pub generation : z.generation ≡ cell.generation

was_home_by : (pools : List Pool) (z : Object) (s : Option Pool) → slice_get pools (kind_place z.kind) ≡ s → home_of_kind s ≡ Some z.index → z.generation ≡ generation_in z.index s → WasHome pools z
was_home_by pools z None is e g = absurd (none-some z.index e)
was_home_by pools z (Some pool) is e g =
    let h = home_is pool z.index e in
    record { cell = h.cell; is = ap (λ s. cell_in s z.index) is ∙ h.at; home = h.home; generation = g ∙ ap generation_from h.at }

pub was_home : (m m' : State) (z : Object) → Adds m z m' → WasHome m.pools z
was_home m m' z adds = was_home_by m.pools z (slice_get m.pools (kind_place z.kind)) refl adds.home adds.generation

-- a cell after a change of it
came_from : (f : Cell → Cell) (s : Option Cell) (cell : Cell) → option_map f s ≡ Some cell → (c : Cell) × (s ≡ Some c) × (cell ≡ f c)
came_from f None cell e = absurd (none-some cell e)
came_from f (Some c) cell e = (c, refl, sym (same_Some (f c) cell e))

module _ (made : List Object) (m m' : State) (z : Object) (counted : Counted made m.pools) (adds : Adds m z m') where
  home_z : WasHome m.pools z
  home_z = was_home m m' z adds

  lives_before : (k i : ℕ) → kind_place z.kind ≡ k → z.index ≡ i → length (filter (is_at k i) made) ≡ z.generation
  lives_before k i ek ei =
      let h = home_z in
      let there : cell_in (slice_get m.pools k) i ≡ Some h.cell = ap (λ v. cell_in (slice_get m.pools v) i) (sym ek) ∙ ap (cell_in (slice_get m.pools (kind_place z.kind))) (sym ei) ∙ h.is in
      let n = counted.count k i h.cell there ∙ ap (λ b. h.cell.generation + out_count b) h.home in
      let g = h.generation in
      omega (arith, n, g)

  lives_here : (k i : ℕ) → kind_place z.kind ≡ k → z.index ≡ i → length (filter (is_at k i) (made ++ z ∷ [])) ≡ z.generation + 1
  lives_here k i ek ei =
      let long = ap (λ (v : List Object). length v) (filter_with k i made z (at_here z k i ek ei)) ∙ length-append (filter (is_at k i) made) (z ∷ []) in
      let before = lives_before k i ek ei in
      omega (arith, long, before)

  abbrev pub CountsAt : ℕ → ℕ → Option Cell → Type 0
  CountsAt k i s = (cell : Cell) → s ≡ Some cell → (length (filter (is_at k i) (made ++ z ∷ [])) ≡ cell.generation + out_count cell.home) × (cell.generation ≤ MOST_GENERATION)

  counts_new : (k i : ℕ) → CountsAt k i (cell_in (slice_get (at_place m.pools (kind_place z.kind) (drawn z.index)) k) i)
  counts_new k i =
      cell_by m.pools (kind_place z.kind) z.index (drawn z.index) sent_out (λ pool. refl) k i (CountsAt k i)
      (λ ek ei cell e. (
      let h = home_z in
      let there : cell_in (slice_get m.pools k) i ≡ Some h.cell = ap (λ v. cell_in (slice_get m.pools v) i) (sym ek) ∙ ap (cell_in (slice_get m.pools (kind_place z.kind))) (sym ei) ∙ h.is in
      let from = came_from sent_out (cell_in (slice_get m.pools k) i) cell e in
      let one : from.0 ≡ h.cell = same_Some from.0 h.cell (sym from.1 ∙ there) in
      let gen : cell.generation ≡ z.generation = ap (λ (v : Cell). v.generation) from.2 ∙ ap (λ (v : Cell). v.generation) one ∙ sym h.generation in
      let out : out_count cell.home ≡ 1 = ap (λ (v : Cell). out_count v.home) from.2 in
      let long = lives_here k i ek ei in
      let low = counted.low k i h.cell there in
      let g = h.generation in
      (omega (arith, long, gen, out), omega (arith, gen, g, low))))
      (λ apart cell e. (
      let none = at_other z k i (is_at k i z) refl apart in
      (ap (λ (v : List Object). length v) (filter_without k i made z none) ∙ counted.count k i cell e, counted.low k i cell e)))

  order_new : (k i j : ℕ) (x : Object) (here : Bool) → is_at k i z ≡ here → slice_get (filter (is_at k i) (made ++ z ∷ [])) j ≡ Some x → x.generation ≡ j
  order_new k i j x true e h =
      let parts = and_parts (kind_place z.kind == k) (z.index == i) e in
      ⊎_elim
      (λ old. counted.order k i j x old)
      (λ new. ap (λ (v : Object). v.generation) new.1 ∙ sym (lives_before k i (eqb-true (kind_place z.kind) k parts.0) (eqb-true z.index i parts.1)) ∙ sym new.0)
      (at_grown (filter (is_at k i) made) z x j (ap (λ v. slice_get v j) (sym (filter_with k i made z e)) ∙ h))
  order_new k i j x false e h = counted.order k i j x (ap (λ v. slice_get v j) (sym (filter_without k i made z e)) ∙ h)

  counted_new : Counted (made ++ z ∷ []) m'.pools
  counted_new =
      let P : List Pool → Type 0 = λ v. Counted (made ++ z ∷ []) v in
      subst P (sym adds.pools) (record {
        count = λ k i cell e. (counts_new k i cell e).0;
        order = λ k i j x e. order_new k i j x (is_at k i z) refl e;
        low = λ k i cell e. (counts_new k i cell e).1;
      })

-- A burial.

doomed_no_husk : (p : Phase) → is_doomed p ≡ true → is_husk p ≡ false
doomed_no_husk phase.Made e = absurd cc
doomed_no_husk phase.Live e = absurd cc
doomed_no_husk phase.Doomed e = refl
doomed_no_husk phase.Husk e = absurd cc

-- a cell that was out, after its burial: home with the next generation, or as it was where that was the last
pub buried_by : (c : Cell) (last : Bool) → nat_le MOST_GENERATION c.generation ≡ last → c.home ≡ false → c.generation ≤ MOST_GENERATION → ((buried c).generation + out_count (buried c).home ≡ c.generation + out_count c.home) × ((buried c).generation ≤ MOST_GENERATION) × ((buried c).home ≡ false → (buried c).generation ≡ MOST_GENERATION)
buried_by c true e out low =
    let same : buried c ≡ c = ap (λ b. if b then c else record { generation = c.generation + 1; home = true }) e in
    let high : MOST_GENERATION ≤ c.generation = grind (arith, nat_tests) in
    let gen : (buried c).generation ≡ c.generation = ap (λ (v : Cell). v.generation) same in
    (ap (λ (v : Cell). v.generation + out_count v.home) same, omega (arith, gen, low), λ h. omega (arith, gen, high, low))
buried_by c false e out low =
    let next : buried c ≡ record { generation = c.generation + 1; home = true } = ap (λ b. if b then c else record { generation = c.generation + 1; home = true }) e in
    let small : c.generation < MOST_GENERATION = grind (arith, nat_tests) in
    let gen : (buried c).generation ≡ c.generation + 1 = ap (λ (v : Cell). v.generation) next in
    let home : (buried c).home ≡ true = ap (λ (v : Cell). v.home) next in
    let count : out_count (buried c).home ≡ 0 = ap out_count home in
    let before : out_count c.home ≡ 1 = ap out_count out in
    (omega (arith, gen, count, before), omega (arith, gen, small), λ h. absurd cc)

module _ (made : List Object) (m m' : State) (x : Object) (counted : Counted made m.pools) (celled : IsCelled m.pools m.objects) (returns : Returns m x m') where
  doomed_has : HasCell m.pools x
  doomed_has = celled.has x returns.within (doomed_no_husk x.phase returns.doomed)

  abbrev pub BuriedAt : ℕ → ℕ → Option Cell → Type 0
  BuriedAt k i s = (cell : Cell) → s ≡ Some cell → (length (filter (is_at k i) made) ≡ cell.generation + out_count cell.home) × (cell.generation ≤ MOST_GENERATION)

  counts_buried : (k i : ℕ) → BuriedAt k i (cell_in (slice_get (at_place m.pools (kind_place x.kind) (buried_at x.index)) k) i)
  counts_buried k i =
      cell_by m.pools (kind_place x.kind) x.index (buried_at x.index) buried (λ pool. refl) k i (BuriedAt k i)
      (λ ek ei cell e. (
      let h = doomed_has in
      let there : cell_in (slice_get m.pools k) i ≡ Some h.cell = ap (λ v. cell_in (slice_get m.pools v) i) (sym ek) ∙ ap (cell_in (slice_get m.pools (kind_place x.kind))) (sym ei) ∙ h.is in
      let from = came_from buried (cell_in (slice_get m.pools k) i) cell e in
      let one : from.0 ≡ h.cell = same_Some from.0 h.cell (sym from.1 ∙ there) in
      let now : cell ≡ buried h.cell = from.2 ∙ ap buried one in
      let b = buried_by h.cell (nat_le MOST_GENERATION h.cell.generation) refl h.out (counted.low k i h.cell there) in
      let P : Cell → Type 0 = λ v. (length (filter (is_at k i) made) ≡ v.generation + out_count v.home) × (v.generation ≤ MOST_GENERATION) in
      subst P (sym now) (counted.count k i h.cell there ∙ sym b.0, b.1)))
      (λ apart cell e. (counted.count k i cell e, counted.low k i cell e))

  counted_buried : Counted made m'.pools
  counted_buried =
      let P : List Pool → Type 0 = λ v. Counted made v in
      subst P (sym returns.pools) (record {
        count = λ k i cell e. (counts_buried k i cell e).0;
        order = counted.order;
        low = λ k i cell e. (counts_buried k i cell e).1;
      })

-- Every legal history.

counted_deals : (made : List Object) (m m' : State) (new : Option Object) → IsCelled m.pools m.objects → Deals m new m' → Counted made m.pools → Counted (made ++ listed new) m'.pools
counted_deals made m m' new celled (Deals.MakesOne z is adds) counted =
    let P : Option Object → Type 0 = λ v. Counted (made ++ listed v) m'.pools in
    subst P (sym is) (counted_new made m m' z counted adds)
counted_deals made m m' new celled (Deals.BuriesOne x none same returns) counted =
    let P : Option Object → Type 0 = λ v. Counted (made ++ listed v) m'.pools in
    let Q : List Object → Type 0 = λ v. Counted v m'.pools in
    subst P (sym none) (subst Q (sym (append-nil made)) (counted_buried made m m' x counted celled returns))
counted_deals made m m' new celled (Deals.DealsNone none same pools) counted =
    let P : Option Object → Type 0 = λ v. Counted (made ++ listed v) m'.pools in
    let Q : List Object → Type 0 = λ v. Counted v m'.pools in
    let R : List Pool → Type 0 = λ v. Counted made v in
    subst P (sym none) (subst Q (sym (append-nil made)) (subst R (sym pools) counted))

abbrev pub CountedAt : List Entry → Type 0
CountedAt h = Counted (made_in h) (state_of h).pools

full_cell : (i n : ℕ) (cell : Cell) → slice_get (replicate n (record { generation = 0; home = true })) i ≡ Some cell → (cell.generation ≡ 0) × (cell.home ≡ true)
full_cell i zero cell e = absurd (none-some cell e)
full_cell zero (suc n) cell e = (ap (λ (v : Cell). v.generation) (sym (same_Some (record { generation = 0; home = true }) cell e)), ap (λ (v : Cell). v.home) (sym (same_Some (record { generation = 0; home = true }) cell e)))
full_cell (suc i) (suc n) cell e = full_cell i n cell e

full_at : (i : ℕ) (cell : Cell) → slice_get full_pool.cells i ≡ Some cell → (cell.generation ≡ 0) × (cell.home ≡ true)
unfolding full_pool
full_at i cell e = full_cell i CELLS cell e

pub start_cell : (k n i : ℕ) (cell : Cell) → cell_in (slice_get (replicate n full_pool) k) i ≡ Some cell → (cell.generation ≡ 0) × (cell.home ≡ true)
start_cell k zero i cell e = absurd (none-some cell e)
start_cell zero (suc n) i cell e = full_at i cell e
start_cell (suc k) (suc n) i cell e = start_cell k n i cell e

counted_start : CountedAt []
unfolding start
counted_start = record {
  count = λ k i cell e. (
      let c = start_cell k KINDS i cell e in
      let gen = c.0 in
      let out : out_count cell.home ≡ 0 = ap out_count c.1 in
      omega (arith, gen, out));
  order = λ k i j x e. absurd (none-some x e);
  low = λ k i cell e. (let c = start_cell k KINDS i cell e in let gen = c.0 in omega (arith, gen));
}

counted_step : (h : List Entry) (e : Entry) → IsLegal h → Allowed (state_of h) e → CountedAt h → CountedAt (h ++ e ∷ [])
counted_step h e legal allowed counted =
    let m = state_of h in
    let next = counted_deals (made_in h) m (after m e) (new_by m e) (legal_celled h legal) (deals_after m e (Reached-state_of h legal) (legal_numbered h legal) allowed) counted in
    let P : List Object → Type 0 = λ v. Counted v (after m e).pools in
    let Q : State → Type 0 = λ v. Counted (made_in (h ++ e ∷ [])) v.pools in
    subst Q (sym (state_from-snoc start h e)) (subst P (sym (made_goes_on h e)) next)

pub legal_counted : (h : List Entry) → IsLegal h → CountedAt h
legal_counted h legal = by_history CountedAt counted_start counted_step h legal

-- the lives of a cell have the generations 0, 1, 2 ..
pub lives_count : LivesCount
lives_count h k i j x legal e = (legal_counted h legal).order k i j x e

-- Kind, index and generation name one object.

place_of : (xs : List Object) (x : Object) → IsIn x xs → (j : ℕ) × (slice_get xs j ≡ Some x)
place_of [] x k = absurd k
place_of (y ∷ xs) x (inl e) = (0, ap (λ (v : Object). Some v) (sym e))
place_of (y ∷ xs) x (inr k) = let more = place_of xs x k in (suc more.0, more.1)

into_lives : (xs : List Object) (k i : ℕ) (x : Object) → IsIn x xs → is_at k i x ≡ true → IsIn x (filter (is_at k i) xs)
into_lives xs k i x h e = into_filter (is_at k i) xs x h e

pub cell_is_one : CellIsOne
cell_is_one h x y legal hx hy kind index generation =
    let k = kind_place x.kind in
    let i = x.index in
    let px = place_of (lives_at h k i) x (into_lives (made_in h) k i x hx (at_here x k i refl refl)) in
    let py = place_of (lives_at h k i) y (into_lives (made_in h) k i y hy (at_here y k i (ap kind_place (sym kind)) (sym index))) in
    let gx : x.generation ≡ px.0 = lives_count h k i px.0 x legal px.1 in
    let gy : y.generation ≡ py.0 = lives_count h k i py.0 y legal py.1 in
    let one : px.0 ≡ py.0 = sym gx ∙ generation ∙ gy in
    same_Some x y (sym px.1 ∙ ap (slice_get (lives_at h k i)) one ∙ py.1)

pub last_life : LastLife
last_life h x legal k standing =
    let c = (legal_celled h legal).has x k standing in
    let n = (legal_counted h legal).count (kind_place x.kind) x.index c.cell c.is in
    let out : out_count c.cell.home ≡ 1 = ap out_count c.out in
    let same = c.same in
    omega (arith, n, out, same)
