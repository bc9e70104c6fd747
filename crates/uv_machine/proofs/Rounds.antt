-- Cells go round: a cell isn't given twice before each other that was home at the first time.
use Rattle.std.proofs.Common.{◌≡◌, ◌≢◌, ℕ, ◌+◌, ◌-◌, ◌<◌, ◌≤◌, ◌%◌, Bool, true, false, List, [], ◌∷◌, Option, Some, None, length, refl, ap, sym, ◌∙◌, subst, arith, inl, inr, ◌⊎◌, ⊎_elim}
use Rattle.std.specs.Prelude.{◌++◌, ◌&&◌, ◌||◌, ◌==◌, nat_le, nat_lt, slice_get, option_map, take, drop, position, get_or, cond, if◌then◌else◌}
use Rattle.std.specs.List.{position_or_len}
use Rattle.std.proofs.Math.Nat.{mod-eq_of_lt, mod_self}
use Rattle.std.proofs.lemmas.Bool.{eqb-true, eq-eqb, or_left, or_right, and_parts}
use Rattle.std.proofs.lemmas.Bool.Decides.{eqb_tells, nat_tests}
use Rattle.std.proofs.lemmas.List.{length-drop, length-take, get_or-drop, get_or-take}
use Rattle.std.proofs.lemmas.List.Quantifiers.{position-Some}
use Rattle.std.proofs.lemmas.List.Sums.{fails_before_first}
use Rattle.std.proofs.lemmas.Option.{none-some, same_Some, slice_get_within, get_or_from_slice_get}
use Rattle.uv_num.specs.declared.limits.TheConstants.{CELLS, MOST_GENERATION}
use Rattle.uv_num.specs.Kind.{kind_place}
use Rattle.uv_num.specs.Place.{at_place}
use Rattle.uv_num.proofs.PlaceLaws.{slice_get-at_place_same, length-at_place}
use Rattle.uv_machine.specs.declared.entry.Entry.{Entry}
use Rattle.uv_machine.specs.declared.object.Object.{Object}
use Rattle.uv_machine.specs.declared.pool.Cell.{Cell}
use Rattle.uv_machine.specs.declared.pool.Pool.{Pool}
use Rattle.uv_machine.specs.declared.state.State.{State}
use Rattle.uv_machine.specs.Cells.{is_home, first_of_two, home_index, sent_out, buried, drawn, buried_at}
use Rattle.uv_machine.specs.States.{home_of_kind, start}
use Rattle.uv_machine.specs.Histories.{Allowed, after, state_of, state_from, IsLegal, IsLegalFrom}
use Rattle.uv_machine.specs.Reached.{cell_in}
use Rattle.uv_machine.specs.Made.{new_by, is_at, is_at_some, gives, gives_from}
use Rattle.uv_machine.specs.ObjectLaws.{CellsGoRound}
use Rattle.uv_machine.proofs.Members.{slice_get-at_place_elsewhere}
use Rattle.uv_machine.proofs.Celled.{home_is, no_cell}
use Rattle.uv_machine.proofs.CelledTurns.{legal_celled}
use Rattle.uv_machine.proofs.GoingOn.{state_from-snoc, IsLegalFrom-snoc}
use Rattle.uv_machine.proofs.Numbers.{legal_numbered}
use Rattle.uv_machine.proofs.Reaching.{Reached-state_of}
use Rattle.uv_machine.proofs.Historied.{legal_parts, state_from-append}
use Rattle.uv_machine.proofs.Dealing.{Adds, Deals, deals_after}

-- Which cell a choice takes.

abbrev pub home_at : Pool → ℕ → Bool
home_at pool k = is_home (get_or pool.cells k no_cell)

-- the first cell that is home at or after the place where the choice begins, else the first before it
pub data Takes (pool : Pool) (i : ℕ) : Type 0 where
  TakesOn : pool.next ≤ i → ((k : ℕ) → pool.next ≤ k → k < i → home_at pool k ≡ false) → Takes pool i
  TakesBefore : i < pool.next → ((k : ℕ) → pool.next ≤ k → k < length pool.cells → home_at pool k ≡ false) → ((k : ℕ) → k < i → home_at pool k ≡ false) → Takes pool i

long_by : (n long : ℕ) (low : Bool) → nat_lt n long ≡ low → cond low (Some n) None ≡ None → long ≤ n
long_by n long true e h = absurd (none-some n (sym h))
long_by n long false e h = grind (arith, nat_tests)

none_home : (cells : List Cell) → position is_home cells ≡ None → (k : ℕ) → k < length cells → is_home (get_or cells k no_cell) ≡ false
none_home cells e k low =
    let long : length cells ≤ position_or_len is_home cells = long_by (position_or_len is_home cells) (length cells) (nat_lt (position_or_len is_home cells) (length cells)) refl e in
    fails_before_first is_home cells k no_cell (omega (arith, low, long))

takes_by : (pool : Pool) (behind before : Option ℕ) (i : ℕ) → position is_home (drop pool.next pool.cells) ≡ behind → position is_home (take pool.next pool.cells) ≡ before → first_of_two (option_map (λ k. pool.next + k) behind) before ≡ Some i → Takes pool i
takes_by pool (Some p) before i e e' is =
    let at : pool.next + p ≡ i = same_Some (pool.next + p) i is in
    let first = (position-Some is_home (drop pool.next pool.cells) p no_cell e).2 in
    TakesOn (omega (arith, at))
    (λ k from to. (
    let q = k - pool.next in
    let sum : pool.next + q ≡ k = omega (arith, from) in
    ap (home_at pool) (sym sum) ∙ sym (ap is_home (get_or-drop pool.next pool.cells q no_cell)) ∙ first q (omega (arith, from, to, at))))
takes_by pool None before i e e' is =
    let p = position-Some is_home (take pool.next pool.cells) i no_cell (e' ∙ is) in
    let long = length-take pool.next pool.cells in
    let low : i < pool.next = (let q = p.0 in omega (arith, q, long)) in
    TakesBefore low
    (λ k from to. (
    let q = k - pool.next in
    let sum : pool.next + q ≡ k = omega (arith, from) in
    let rest = length-drop pool.next pool.cells in
    ap (home_at pool) (sym sum) ∙ sym (ap is_home (get_or-drop pool.next pool.cells q no_cell)) ∙ none_home (drop pool.next pool.cells) e q (omega (arith, from, to, rest))))
    (λ k to. sym (ap is_home (get_or-take pool.next pool.cells k no_cell (omega (arith, to, low)))) ∙ p.2 k to)

pub takes : (pool : Pool) (i : ℕ) → home_index pool ≡ Some i → Takes pool i
takes pool i is = takes_by pool (position is_home (drop pool.next pool.cells)) (position is_home (take pool.next pool.cells)) i refl refl is

-- Going round from a place, one comes to j sooner than to i.

pub data Sooner (n j i : ℕ) : Type 0 where
  BothOn : n ≤ j → j < i → Sooner n j i
  Between : n ≤ j → i < n → Sooner n j i
  BothBefore : j < i → i < n → Sooner n j i

-- the place after a cell
next_of_cell : (i : ℕ) → i < CELLS → (((i + 1) % CELLS ≡ i + 1) × (i + 1 < CELLS)) ⊎ (((i + 1) % CELLS ≡ 0) × (i + 1 ≡ CELLS))
next_of_cell i low = next_by i low (nat_lt (i + 1) CELLS) refl
  where
    next_by : (i : ℕ) → i < CELLS → (b : Bool) → nat_lt (i + 1) CELLS ≡ b → (((i + 1) % CELLS ≡ i + 1) × (i + 1 < CELLS)) ⊎ (((i + 1) % CELLS ≡ 0) × (i + 1 ≡ CELLS))
    next_by i low true e = (let small : i + 1 < CELLS = grind (arith, nat_tests) in inl (mod-eq_of_lt small, small))
    next_by i low false e = (let high : CELLS ≤ i + 1 = grind (arith, nat_tests) in let same : i + 1 ≡ CELLS = omega (arith, high, low) in inr (ap (λ v. v % CELLS) same ∙ mod_self CELLS, same))

sooner_at : (n n' j i : ℕ) → n' ≡ n → Sooner n j i → Sooner n' j i
sooner_at n n' j i e s = let P : ℕ → Type 0 = λ v. Sooner v j i in subst P (sym e) s

-- after the cell i each other comes sooner
first_sooner : (i j : ℕ) → i < CELLS → j < CELLS → i ≢ j → Sooner ((i + 1) % CELLS) j i
first_sooner i j low low' ne =
    ⊎_elim
    (λ s. (let n = s.0 in ⊎_elim
    (λ less. Sooner.BothBefore less (omega (arith, n)))
    (λ more. Sooner.Between (omega (arith, n, more)) (omega (arith, n)))
    (apart_by i j ne)))
    (λ s. (let n = s.0 in let top = s.1 in ⊎_elim
    (λ less. Sooner.BothOn (omega (arith, n)) less)
    (λ more. absurd (omega (arith, more, top, low')))
    (apart_by i j ne)))
    (next_of_cell i low)
  where
    order_by : (i j : ℕ) → i ≢ j → (b : Bool) → nat_lt j i ≡ b → (j < i) ⊎ (i < j)
    order_by i j ne true e = inl (grind (arith, nat_tests))
    order_by i j ne false e = inr (let high : i ≤ j = grind (arith, nat_tests) in omega (arith, high, ne))

    apart_by : (i j : ℕ) → i ≢ j → (j < i) ⊎ (i < j)
    apart_by i j ne = order_by i j ne (nat_lt j i) refl

-- A cell that is home, and comes sooner than another.

pub record Waits (s : Option Pool) (i j : ℕ) : Type 0 where
  pub pool : Pool
  pub is : s ≡ Some pool
  pub long : length pool.cells ≡ CELLS
  pub cell : Cell
  pub at : slice_get pool.cells j ≡ Some cell
  pub home : cell.home ≡ true
  pub sooner : Sooner pool.next j i

order_of : (a b : ℕ) → a ≢ b → (a < b) ⊎ (b < a)
order_of a b ne = order_by a b ne (nat_lt a b) refl
  where
    order_by : (a b : ℕ) → a ≢ b → (less : Bool) → nat_lt a b ≡ less → (a < b) ⊎ (b < a)
    order_by a b ne true e = inl (grind (arith, nat_tests))
    order_by a b ne false e = inr (let high : b ≤ a = grind (arith, nat_tests) in omega (arith, high, ne))

clash : (b : Bool) → b ≡ true → b ≡ false → ⊥
clash true e h = cc
clash false e h = cc

-- the other cell isn't taken
not_taken : (pool : Pool) (x i j : ℕ) → Takes pool x → Sooner pool.next j i → home_at pool j ≡ true → j < length pool.cells → x ≢ i
not_taken pool x i j (TakesOn from none) (BothOn a b) home low e = clash (home_at pool j) home (none j a (omega (arith, b, e)))
not_taken pool x i j (TakesOn from none) (Between a b) home low e = omega (arith, from, b, e)
not_taken pool x i j (TakesOn from none) (BothBefore a b) home low e = omega (arith, from, b, e)
not_taken pool x i j (TakesBefore less on before) (BothOn a b) home low e = clash (home_at pool j) home (on j a low)
not_taken pool x i j (TakesBefore less on before) (Between a b) home low e = clash (home_at pool j) home (on j a low)
not_taken pool x i j (TakesBefore less on before) (BothBefore a b) home low e = clash (home_at pool j) home (before j (omega (arith, a, e)))

-- and while this one isn't taken it comes sooner still
sooner_drawn : (pool : Pool) (x i j n : ℕ) → Takes pool x → Sooner pool.next j i → home_at pool j ≡ true → j < length pool.cells → x ≢ j → j < CELLS → ((n ≡ x + 1) × (x + 1 < CELLS)) ⊎ ((n ≡ 0) × (x + 1 ≡ CELLS)) → Sooner n j i
sooner_drawn pool x i j n (TakesOn from none) (BothOn a b) home low ne top next =
    ⊎_elim
    (λ more. ⊎_elim (λ s. (let e = s.0 in BothOn (omega (arith, e, more)) b)) (λ s. (let e = s.0 in BothOn (omega (arith, e)) b)) next)
    (λ less. absurd (clash (home_at pool j) home (none j a less)))
    (order_of x j ne)
sooner_drawn pool x i j n (TakesOn from none) (Between a b) home low ne top next =
    ⊎_elim
    (λ more. ⊎_elim (λ s. (let e = s.0 in Between (omega (arith, e, more)) (omega (arith, e, from, b)))) (λ s. (let e = s.1 in absurd (omega (arith, e, more, top)))) next)
    (λ less. absurd (clash (home_at pool j) home (none j a less)))
    (order_of x j ne)
sooner_drawn pool x i j n (TakesOn from none) (BothBefore a b) home low ne top next =
    ⊎_elim (λ s. (let e = s.0 in BothBefore a (omega (arith, e, from, b)))) (λ s. (let e = s.0 in BothOn (omega (arith, e)) a)) next
sooner_drawn pool x i j n (TakesBefore less on before) (BothOn a b) home low ne top next = absurd (clash (home_at pool j) home (on j a low))
sooner_drawn pool x i j n (TakesBefore less on before) (Between a b) home low ne top next = absurd (clash (home_at pool j) home (on j a low))
sooner_drawn pool x i j n (TakesBefore less on before) (BothBefore a b) home low ne top next =
    ⊎_elim
    (λ more. ⊎_elim (λ s. (let e = s.0 in BothOn (omega (arith, e, more)) a)) (λ s. (let e = s.0 in BothOn (omega (arith, e)) a)) next)
    (λ lower. absurd (clash (home_at pool j) home (before j lower)))
    (order_of x j ne)

home_here : (pool : Pool) (j : ℕ) (cell : Cell) → slice_get pool.cells j ≡ Some cell → cell.home ≡ true → home_at pool j ≡ true
home_here pool j cell at home = ap is_home (get_or_from_slice_get pool.cells j cell no_cell at) ∙ home

low_in : (pool : Pool) (j : ℕ) (cell : Cell) → slice_get pool.cells j ≡ Some cell → j < length pool.cells
low_in pool j cell at = slice_get_within pool.cells j cell at

buried_home : (c : Cell) (last : Bool) → nat_le MOST_GENERATION c.generation ≡ last → c.home ≡ true → (buried c).home ≡ true
buried_home c true e home = ap (λ b. (if b then c else record { generation = c.generation + 1; home = true }).home) e ∙ home
buried_home c false e home = ap (λ b. (if b then c else record { generation = c.generation + 1; home = true }).home) e

module _ (pool : Pool) (i j x : ℕ) (cell : Cell) (long : length pool.cells ≡ CELLS) (at : slice_get pool.cells j ≡ Some cell) (home : cell.home ≡ true) (sooner : Sooner pool.next j i) where
  waits_drawn : home_index pool ≡ Some x → x ≢ j → Waits (Some (drawn x pool)) i j
  waits_drawn is ne =
      let low = low_in pool j cell at in
      let there = home_is pool x is in
      let inside = low_in pool x there.cell there.at in
      record {
        pool = drawn x pool;
        is = refl;
        long = length-at_place pool.cells x sent_out ∙ long;
        cell = cell;
        at = slice_get-at_place_elsewhere pool.cells x j sent_out ne ∙ at;
        home = home;
        sooner = sooner_drawn pool x i j ((x + 1) % CELLS) (takes pool x is) sooner (home_here pool j cell at home) low ne (omega (arith, low, long)) (next_of_cell x (omega (arith, inside, long)));
      }

  waits_buried : Waits (Some (buried_at x pool)) i j
  waits_buried =
      ⊎_elim
      (λ e. record {
        pool = buried_at x pool;
        is = refl;
        long = length-at_place pool.cells x buried ∙ long;
        cell = buried cell;
        at = ap (slice_get (at_place pool.cells x buried)) (sym e.1) ∙ slice_get-at_place_same pool.cells x buried ∙ ap (λ v. option_map buried (slice_get pool.cells v)) e.1 ∙ ap (option_map buried) at;
        home = buried_home cell (nat_le MOST_GENERATION cell.generation) refl home;
        sooner = sooner;
      })
      (λ e. record {
        pool = buried_at x pool;
        is = refl;
        long = length-at_place pool.cells x buried ∙ long;
        cell = cell;
        at = slice_get-at_place_elsewhere pool.cells x j buried e.1 ∙ at;
        home = home;
        sooner = sooner;
      })
      (eqb_tells x j)

waits_as : (s t : Option Pool) (i j : ℕ) → s ≡ t → Waits t i j → Waits s i j
waits_as s t i j e w = let P : Option Pool → Type 0 = λ v. Waits v i j in subst P (sym e) w

module _ (m m' : State) (k i j : ℕ) (w : Waits (slice_get m.pools k) i j) where
  chosen : (z : Object) → Adds m z m' → kind_place z.kind ≡ k → home_index w.pool ≡ Some z.index
  chosen z adds e = ap home_of_kind (sym w.is) ∙ ap (λ v. home_of_kind (slice_get m.pools v)) (sym e) ∙ adds.home

  changed_pool : (g : Pool → Pool) (p : ℕ) → p ≡ k → m'.pools ≡ at_place m.pools p g → slice_get m'.pools k ≡ Some (g w.pool)
  changed_pool g p e pools =
      ap (λ v. slice_get v k) pools
      ∙ ap (slice_get (at_place m.pools p g)) (sym e)
      ∙ slice_get-at_place_same m.pools p g
      ∙ ap (λ v. option_map g (slice_get m.pools v)) e
      ∙ ap (option_map g) w.is

  other_pool : (g : Pool → Pool) (p : ℕ) → p ≢ k → m'.pools ≡ at_place m.pools p g → slice_get m'.pools k ≡ slice_get m.pools k
  other_pool g p ne pools = ap (λ v. slice_get v k) pools ∙ slice_get-at_place_elsewhere m.pools p k g ne

  -- the other cell isn't given
  not_given : (new : Option Object) → Deals m new m' → is_at_some k i new ≡ true → ⊥
  not_given new (Deals.MakesOne z is adds) given =
      let at : is_at k i z ≡ true = sym (ap (is_at_some k i) is) ∙ given in
      let parts = and_parts (kind_place z.kind == k) (z.index == i) at in
      let choice = chosen z adds (eqb-true (kind_place z.kind) k parts.0) in
      not_taken w.pool z.index i j (takes w.pool z.index choice) w.sooner (home_here w.pool j w.cell w.at w.home) (low_in w.pool j w.cell w.at) (eqb-true z.index i parts.1)
  not_given new (Deals.BuriesOne x none same returns) given = (let never : is_at_some k i new ≡ false = ap (is_at_some k i) none in cc)
  not_given new (Deals.DealsNone none same pools) given = (let never : is_at_some k i new ≡ false = ap (is_at_some k i) none in cc)

  waits_on : (new : Option Object) → Deals m new m' → is_at_some k j new ≡ false → Waits (slice_get m'.pools k) i j
  waits_on new (Deals.MakesOne z is adds) apart =
      ⊎_elim
      (λ e. (
      let at : is_at k j z ≡ false = sym (ap (is_at_some k j) is) ∙ apart in
      let ne : z.index ≢ j = λ h. (let yes : is_at k j z ≡ true = ap (λ b. b && (z.index == j)) e.0 ∙ eq-eqb z.index j h in cc) in
      waits_as (slice_get m'.pools k) (Some (drawn z.index w.pool)) i j (changed_pool (drawn z.index) (kind_place z.kind) e.1 adds.pools)
      (waits_drawn w.pool i j z.index w.cell w.long w.at w.home w.sooner (chosen z adds e.1) ne)))
      (λ e. waits_as (slice_get m'.pools k) (slice_get m.pools k) i j (other_pool (drawn z.index) (kind_place z.kind) e.1 adds.pools) w)
      (eqb_tells (kind_place z.kind) k)
  waits_on new (Deals.BuriesOne x none same returns) apart =
      ⊎_elim
      (λ e. waits_as (slice_get m'.pools k) (Some (buried_at x.index w.pool)) i j (changed_pool (buried_at x.index) (kind_place x.kind) e.1 returns.pools)
      (waits_buried w.pool i j x.index w.cell w.long w.at w.home w.sooner))
      (λ e. waits_as (slice_get m'.pools k) (slice_get m.pools k) i j (other_pool (buried_at x.index) (kind_place x.kind) e.1 returns.pools) w)
      (eqb_tells (kind_place x.kind) k)
  waits_on new (Deals.DealsNone none same pools) apart = waits_as (slice_get m'.pools k) (slice_get m.pools k) i j (ap (λ v. slice_get v k) pools) w

-- Histories.

deals_at : (h : List Entry) (e : Entry) → IsLegal h → Allowed (state_of h) e → Deals (state_of h) (new_by (state_of h) e) (after (state_of h) e)
deals_at h e legal allowed = deals_after (state_of h) e (Reached-state_of h legal) (legal_numbered h legal) allowed

given_between : (k i j : ℕ) (h es : List Entry) (last : Entry) → IsLegal h → IsLegalFrom (state_of h) (es ++ last ∷ []) → Waits (slice_get (state_of h).pools k) i j → gives (state_from (state_of h) es) k i last ≡ true → gives_from (state_of h) k j es ≡ true
given_between k i j h [] last legal more w given = absurd (not_given (state_of h) (after (state_of h) last) k i j w (new_by (state_of h) last) (deals_at h last legal more.0) given)
given_between k i j h (e ∷ es) last legal more w given =
    let state : state_of (h ++ e ∷ []) ≡ after (state_of h) e = state_from-snoc start h e in
    let A : State → Type 0 = λ s. IsLegalFrom s (es ++ last ∷ []) in
    let B : State → Type 0 = λ s. Waits (slice_get s.pools k) i j in
    let C : State → Type 0 = λ s. gives (state_from s es) k i last ≡ true in
    let D : State → Type 0 = λ s. gives_from s k j es ≡ true in
    by_entry (gives (state_of h) k j e) (gives_from (after (state_of h) e) k j es) (gives (state_of h) k j e) refl
    (λ e'. (
    let w' = waits_on (state_of h) (after (state_of h) e) k i j w (new_by (state_of h) e) (deals_at h e legal more.0) e' in
    subst D state (given_between k i j (h ++ e ∷ []) es last (IsLegalFrom-snoc start h e legal more.0) (subst A (sym state) more.1) (subst B (sym state) w') (subst C (sym state) given))))
  where
    by_entry : (b rest here : Bool) → b ≡ here → (b ≡ false → rest ≡ true) → (b || rest) ≡ true
    by_entry b rest true e' later = or_left b rest e'
    by_entry b rest false e' later = or_right b rest (later e')

-- after its gift the cell waits for each other that is home
first_waits : (m m' : State) (k i j : ℕ) (cell : Cell) (new : Option Object) → Deals m new m' → is_at_some k i new ≡ true → i ≢ j → cell_in (slice_get m'.pools k) j ≡ Some cell → cell.home ≡ true → ((pool : Pool) → slice_get m'.pools k ≡ Some pool → length pool.cells ≡ CELLS) → Waits (slice_get m'.pools k) i j
first_waits m m' k i j cell new (Deals.MakesOne z is adds) given ne at home long =
    let here : is_at k i z ≡ true = sym (ap (is_at_some k i) is) ∙ given in
    let parts = and_parts (kind_place z.kind == k) (z.index == i) here in
    let place = eqb-true (kind_place z.kind) k parts.0 in
    let index = eqb-true z.index i parts.1 in
    let pools : slice_get m'.pools k ≡ option_map (drawn z.index) (slice_get m.pools (kind_place z.kind)) =
    ap (λ v. slice_get v k) adds.pools ∙ ap (slice_get (at_place m.pools (kind_place z.kind) (drawn z.index))) (sym place) ∙ slice_get-at_place_same m.pools (kind_place z.kind) (drawn z.index) in
    by_slot (slice_get m.pools (kind_place z.kind)) z.index index adds.home pools
  where
    by_slot : (s : Option Pool) (x : ℕ) → x ≡ i → home_of_kind s ≡ Some x → slice_get m'.pools k ≡ option_map (drawn x) s → Waits (slice_get m'.pools k) i j
    by_slot None x e h pools = absurd (none-some x h)
    by_slot (Some pool) x e h pools =
        let there : slice_get (drawn x pool).cells j ≡ Some cell = sym (ap (λ s. cell_in s j) pools) ∙ at in
        let size = long (drawn x pool) pools in
        let low = slice_get_within (drawn x pool).cells j cell there in
        let choice = home_is pool x h in
        let inside = slice_get_within pool.cells x choice.cell choice.at in
        let same = length-at_place pool.cells x sent_out in
        record {
          pool = drawn x pool;
          is = pools;
          long = size;
          cell = cell;
          at = there;
          home = home;
          sooner = sooner_at ((i + 1) % CELLS) ((x + 1) % CELLS) j i (ap (λ v. (v + 1) % CELLS) e) (first_sooner i j (omega (arith, inside, same, size, e)) (omega (arith, low, size)) ne);
        }
first_waits m m' k i j cell new (Deals.BuriesOne x none same returns) given ne at home long = absurd (let never : is_at_some k i new ≡ false = ap (is_at_some k i) none in cc)
first_waits m m' k i j cell new (Deals.DealsNone none same pools) given ne at home long = absurd (let never : is_at_some k i new ≡ false = ap (is_at_some k i) none in cc)

pub cells_go_round : CellsGoRound
cells_go_round h es first last k i j cell legal given again ne at home =
    let h' = h ++ first ∷ [] in
    let state : state_of h' ≡ after (state_of h) first = state_from-snoc start h first in
    let whole = legal_parts start (h' ++ es) (last ∷ []) legal in
    let begin = legal_parts start h' es whole.0 in
    let before = legal_parts start h (first ∷ []) begin.0 in
    let A : State → Type 0 = λ s. Waits (slice_get s.pools k) i j in
    let B : State → Type 0 = λ s. cell_in (slice_get s.pools k) j ≡ Some cell in
    let C : State → Type 0 = λ s. (pool : Pool) → slice_get s.pools k ≡ Some pool → length pool.cells ≡ CELLS in
    let w = first_waits (state_of h) (after (state_of h) first) k i j cell (new_by (state_of h) first) (deals_at h first before.0 before.1.0) given ne (subst B state at) home (subst C state (λ pool e. (legal_celled h' begin.0).cells k pool e)) in
    let rest : IsLegalFrom (state_of h') (es ++ last ∷ []) = legal_join (state_of h') es last begin.1 (let P : State → Type 0 = λ s. Allowed s last in subst P (state_from-append start h' es) whole.1.0) in
    let D : State → Type 0 = λ s. gives s k i last ≡ true in
    given_between k i j h' es last begin.0 rest (subst A (sym state) w) (subst D (state_from-append start h' es) again)
  where
    legal_join : (m : State) (es : List Entry) (last : Entry) → IsLegalFrom m es → Allowed (state_from m es) last → IsLegalFrom m (es ++ last ∷ [])
    legal_join m es last legal allowed = IsLegalFrom-snoc m es last legal allowed
