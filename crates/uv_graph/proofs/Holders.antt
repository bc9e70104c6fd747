-- Who holds a cell.
use Rattle.std.proofs.Common.{◌≡◌, ◌≢◌, ℕ, ◌+◌, ◌*◌, ◌<◌, Bool, true, false, List, Option, Some, None, length, refl, ap, sym, ◌∙◌, arith, inl, inr, ◌⊎◌}
use Rattle.std.specs.Prelude.{not, ◌==◌, find, option_map, slice_get}
use Rattle.std.specs.Cmp.Derive.{both_true}
use Rattle.std.proofs.lemmas.Option.{none-some, same_Some, slice_get_within}
use Rattle.std.proofs.lemmas.Bool.{and_parts, eq-eqb, eqb-true}
use Rattle.uv_num.specs.declared.identity.Identity.{Identity}
use Rattle.uv_num.specs.declared.kind.Kind.{Kind}
use Rattle.uv_num.specs.declared.kind.Kind.TheVariants.{Pd, Channel, Cq, Qp, Srq, Ah, Mr, Mw}
use Rattle.uv_num.specs.declared.limits.TheConstants.{CELLS, KINDS}
use Rattle.uv_num.specs.Kind.{kind_place}
use Rattle.uv_pool.specs.declared.deed.Life.{Life}
use Rattle.uv_machine.specs.declared.object.Object.{Object}
use Rattle.uv_machine.specs.declared.object.Phase.{Phase}
use Rattle.uv_machine.specs.declared.object.Phase.TheVariants as phase
use Rattle.uv_machine.specs.declared.pool.Cell.{Cell}
use Rattle.uv_machine.specs.declared.pool.Pool.{Pool}
use Rattle.uv_machine.specs.declared.state.State.{State}
use Rattle.uv_machine.specs.Objects.{has_id, is_made, is_live, is_doomed, is_husk}
use Rattle.uv_machine.specs.States.{object_with}
use Rattle.uv_machine.specs.Reached.{IsIn, IsCelled, Reached, cell_in}
use Rattle.uv_machine.proofs.Members.{Passes-find, fails_find}
use Rattle.uv_machine.proofs.Graph.{find_rising}
use Rattle.uv_machine.proofs.Suiting.{is_kind-same}
use Rattle.uv_machine.specs.Made.{is_at}
use Rattle.uv_graph.specs.Lives.{known_in}
use Rattle.uv_graph.specs.Seats.{stands_at, holder_of}

pub kind_same : (a b : Kind) → kind_place a ≡ kind_place b → a ≡ b
kind_same a b e = is_kind-same a b (eq-eqb (kind_place a) (kind_place b) e)

pub kind_within : (k : Kind) → kind_place k < KINDS
kind_within Pd = omega arith
kind_within Channel = omega arith
kind_within Cq = omega arith
kind_within Qp = omega arith
kind_within Srq = omega arith
kind_within Ah = omega arith
kind_within Mr = omega arith
kind_within Mw = omega arith

not_so : (b : Bool) → not b ≡ true → b ≡ false
not_so true e = absurd cc
not_so false e = refl

-- an object that stands in a cell
pub record StandsAt (n i : ℕ) (x : Object) : Type 0 where
  pub kind : kind_place x.kind ≡ n
  pub index : x.index ≡ i
  pub standing : is_husk x.phase ≡ false

pub stands_parts : (n i : ℕ) (x : Object) → stands_at n i x ≡ true → StandsAt n i x
stands_parts n i x e =
    let parts = and_parts (is_at n i x) (not (is_husk x.phase)) e in
    let at = and_parts (kind_place x.kind == n) (x.index == i) parts.0 in
    record { kind = eqb-true (kind_place x.kind) n at.0; index = eqb-true x.index i at.1; standing = not_so (is_husk x.phase) parts.1 }

pub stands_true : (x : Object) → is_husk x.phase ≡ false → stands_at (kind_place x.kind) x.index x ≡ true
stands_true x e =
    both_true (both_true (eq-eqb (kind_place x.kind) (kind_place x.kind) refl) (eq-eqb x.index x.index refl)) (ap not e)

-- the object of an id is one
pub same_object : (m : State) (x y : Object) → Reached m → IsIn x m.objects → IsIn y m.objects → x.id ≡ y.id → x ≡ y
same_object m x y r k h e =
    same_Some x y (sym (find_rising 0 m.made x m.objects k r.graph.rising) ∙ ap (λ n. find (has_id n) m.objects) e ∙ find_rising 0 m.made y m.objects h r.graph.rising)

pub object_is : (m : State) (x : Object) → Reached m → IsIn x m.objects → object_with m x.id ≡ Some x
object_is m x r k = find_rising 0 m.made x m.objects k r.graph.rising

module _ (m : State) (r : Reached m) (c : IsCelled m.pools m.objects) (x : Object) (k : IsIn x m.objects) (stands : is_husk x.phase ≡ false) where
  -- two that stand in one cell are one
  pub one_holder : (y : Object) → IsIn y m.objects → StandsAt (kind_place x.kind) x.index y → y ≡ x
  one_holder y h s = same_object m y x r h k (c.own y x h k s.standing stands (kind_same y.kind x.kind s.kind) s.index)

  holder_by : (slot : Option Object) → find (stands_at (kind_place x.kind) x.index) m.objects ≡ slot → slot ≡ Some x
  holder_by None e =
      let fails = fails_find (stands_at (kind_place x.kind) x.index) x m.objects e k in
      let holds = stands_true x stands in
      absurd cc
  holder_by (Some y) e =
      let p = Passes-find (stands_at (kind_place x.kind) x.index) y m.objects e in
      ap (λ (v : Object). Some v) (one_holder y p.within (stands_parts (kind_place x.kind) x.index y p.test))

  pub holder_found : find (stands_at (kind_place x.kind) x.index) m.objects ≡ Some x
  holder_found = holder_by (find (stands_at (kind_place x.kind) x.index) m.objects) refl

  -- an object holds its cell
  pub holder_is : (ls : List Life) → holder_of ls m.objects (kind_place x.kind) x.index ≡ Some (known_in ls x)
  holder_is ls = ap (option_map (known_in ls)) holder_found

in_pool : (s : Option Pool) (i : ℕ) (cell : Cell) → ((p : Pool) → s ≡ Some p → length p.cells ≡ CELLS) → cell_in s i ≡ Some cell → i < CELLS
in_pool None i cell size e = absurd (none-some cell e)
in_pool (Some p) i cell size e = let long = size p refl in let low = slice_get_within p.cells i cell e in omega (arith, long, low)

-- a cell that is there is one of them
pub cell_within : (m : State) (c : IsCelled m.pools m.objects) (n i : ℕ) (cell : Cell) → cell_in (slice_get m.pools n) i ≡ Some cell → i < CELLS
cell_within m c n i cell e = in_pool (slice_get m.pools n) i cell (λ p is. c.cells n p is) e

-- who holds a cell stands in it
pub record Holds (m : State) (ls : List Life) (n i : ℕ) (holder : Identity) : Type 0 where
  pub item : Object
  pub found : find (stands_at n i) m.objects ≡ Some item
  pub within : IsIn item m.objects
  pub stands : StandsAt n i item
  pub same : known_in ls item ≡ holder

holds_by : (m : State) (ls : List Life) (n i : ℕ) (holder : Identity) (slot : Option Object) → find (stands_at n i) m.objects ≡ slot → option_map (known_in ls) slot ≡ Some holder → Holds m ls n i holder
holds_by m ls n i holder None e h = absurd (none-some holder h)
holds_by m ls n i holder (Some x) e h =
    let p = Passes-find (stands_at n i) x m.objects e in
    record { item = x; found = e; within = p.within; stands = stands_parts n i x p.test; same = same_Some (known_in ls x) holder h }

pub holds_it : (m : State) (ls : List Life) (n i : ℕ) (holder : Identity) → holder_of ls m.objects n i ≡ Some holder → Holds m ls n i holder
holds_it m ls n i holder e = holds_by m ls n i holder (find (stands_at n i) m.objects) refl e

-- places over all kinds
pub place_apart : (n i k j : ℕ) → i < CELLS → j < CELLS → (k ≡ n → j ≡ i → ⊥) → k * CELLS + j ≢ n * CELLS + i
place_apart n i k j low low' apart e =
    let kinds : k ≡ n = omega (arith, low, low', e) in
    let cells : j ≡ i = omega (arith, kinds, e) in
    apart kinds cells

pub made_stands : (p : Phase) → is_made p ≡ true → is_husk p ≡ false
made_stands phase.Made e = refl
made_stands phase.Live e = refl
made_stands phase.Doomed e = refl
made_stands phase.Husk e = absurd cc

pub live_stands : (p : Phase) → is_live p ≡ true → is_husk p ≡ false
live_stands phase.Made e = refl
live_stands phase.Live e = refl
live_stands phase.Doomed e = refl
live_stands phase.Husk e = absurd cc

pub doomed_stands : (p : Phase) → is_doomed p ≡ true → is_husk p ≡ false
doomed_stands phase.Made e = refl
doomed_stands phase.Live e = refl
doomed_stands phase.Doomed e = refl
doomed_stands phase.Husk e = absurd cc

pub live_apart : (p : Phase) → is_live p ≡ true → (is_made p ≡ true) ⊎ (is_doomed p ≡ true) → ⊥
live_apart phase.Made e h = absurd cc
live_apart phase.Live e (inl h) = absurd cc
live_apart phase.Live e (inr h) = absurd cc
live_apart phase.Doomed e h = absurd cc
live_apart phase.Husk e h = absurd cc

pub made_apart : (p : Phase) → is_made p ≡ true → is_doomed p ≡ true → ⊥
made_apart phase.Made e d = absurd cc
made_apart phase.Live e d = absurd cc
made_apart phase.Doomed e d = absurd cc
made_apart phase.Husk e d = absurd cc
