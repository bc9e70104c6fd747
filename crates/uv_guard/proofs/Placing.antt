-- Seats and deeds between their calls.
use Rattle.std.proofs.Common.{◌≡◌, ◌≢◌, ℕ, suc, ◌+◌, List, [], Bool, true, false, cond, eq-eqb, ne_eqb, refl, ap, sym, subst, ◌∙◌, ⊎_elim, inl, inr, arith}
use Rattle.std.specs.Prelude.{Option, Some, None}
use Rattle.atomic_table.specs.Seated.{TableId}
use Rattle.atomic_table.specs.declared.shared.Seat.{Seat}
use Rattle.uv_guard.specs.declared.cell.Entering.{Entering}
use Rattle.uv_guard.specs.declared.cell.Entering.TheVariants.{Entered, Dead, Taken}
use Rattle.uv_guard.specs.declared.life.Stage.{Stage}
use Rattle.uv_guard.specs.declared.life.Stage.TheVariants.{Home, Doomed, Spent}
use Rattle.uv_guard.specs.declared.view.Found.{Found}
use Rattle.uv_guard.specs.declared.view.Held.{Held}
use Rattle.uv_guard.specs.declared.view.View.{View}
use Rattle.uv_guard.specs.Steps.{Sat, last, finding, told_by, buried_view}
use Rattle.uv_guard.specs.Calls.{IsOut, IsIn, ChairEnters, came_out}
use Rattle.uv_guard.specs.Seated.{PlacedSeat, placed, met_of, IsPlaced, IsDeed, is_spent}
use Rattle.uv_guard.specs.Entries.{PlaceEnters}

module _ {T : Type 0} where
  pub placed_found : (n : ℕ) (m m' : Sat T) (ws : List Found) → m' ≡ finding m ws → IsPlaced n m → IsPlaced n m'
  placed_found n m m' ws e p = subst (IsPlaced n) (sym e) (⊎_elim (λ (o : IsOut n m). inl o) (λ (i : (h : Held T) × IsIn n h m). inr i) p)

  pub placed_told : (n : ℕ) (m m' : Sat T) (d : View T) → m' ≡ (told_by m.0 d, m.1) → IsPlaced n m → IsPlaced n m'
  placed_told n m m' d e p = subst (IsPlaced n) (sym e) (⊎_elim (λ (o : IsOut n m). inl o) (λ (i : (h : Held T) × IsIn n h m). inr i) p)

  -- a seat that holds something is in the cell
  pub in_with : (n : ℕ) (m : Sat T) (h : Held T) → IsPlaced n m → m.0.entered ≡ Some h → IsIn n h m
  in_with n m h p e = ⊎_elim (λ (o : IsOut n m). absurd (cc (o.3, e)))
      (λ (i : (k : Held T) × IsIn n k m). (i.1.0, i.1.1, i.1.2, e, i.1.4)) p

  pub out_with : (n : ℕ) (m : Sat T) → IsPlaced n m → m.0.entered ≡ None → IsOut n m
  out_with n m p e = ⊎_elim (λ (o : IsOut n m). o) (λ (i : (k : Held T) × IsIn n k m). absurd (cc (i.1.3, e))) p

  pub placed_left : (n : ℕ) (m m' : Sat T) (h : Held T) (y : T) → IsPlaced n m → m.0.entered ≡ Some h → m' ≡ came_out m h y → IsPlaced n m'
  placed_left n m m' h y p is e = let i = in_with n m h p is in subst (IsPlaced n) (sym e) (inl (i.0, i.1, i.2, refl, refl, refl))

  pub placed_entered : (goes_on : T → T → Type 0) (n g : ℕ) (m m' : Sat T) (e : Entering T) → IsOut n m → ChairEnters goes_on g m e m' → IsPlaced n m'
  placed_entered goes_on n g m m' (Entered x) o c = subst (IsPlaced n) (sym c.3) (inr (record { number = c.2; generation = g; value = x }, (o.0, o.1, o.2, refl, refl)))
  placed_entered goes_on n g m m' (Dead w) o c = subst (IsPlaced n) (sym c.0) (inl o)
  placed_entered goes_on n g m m' (Taken w) o c = subst (IsPlaced n) (sym c.1) (inl o)

  -- the place of a seat, by its cell and what it knows
  abbrev placed_as : TableId → Sat T → PlacedSeat T
  placed_as t m = record { cell = t; number = m.0.number; found = m.0.found; held = m.0.entered; took = m.0.took; met = met_of m.0 }

  enters_at : (goes_on : T → T → Type 0) (g : ℕ) (c c' : Seat (Option T) (View T)) (e : Entering T) → c'.table_id ≡ c.table_id → ChairEnters goes_on g c.me e c'.me → PlaceEnters goes_on g (placed c) e (placed c')
  enters_at goes_on g c c' (Entered x) same h = (h.0, h.1, h.2, (λ i. placed_as (same i) (h.3 i)), h.4, h.5, h.6, h.7)
  enters_at goes_on g c c' (Dead w) same h = ((λ i. placed_as (same i) (h.0 i)), h.1)
  enters_at goes_on g c c' (Taken w) same h = (h.0, (λ i. placed_as (same i) (h.1 i)), h.2)

  -- what a try tells of a seat's view it tells of its place
  pub place_enters : (goes_on : T → T → Type 0) (g : ℕ) (c c' : Seat (Option T) (View T)) (p : PlacedSeat T) (e : Entering T) → placed c ≡ p → c'.table_id ≡ c.table_id → ChairEnters goes_on g c.me e c'.me → PlaceEnters goes_on g p e (placed c')
  place_enters goes_on g c c' p e is same h = subst (λ (z : PlacedSeat T). PlaceEnters goes_on g z e (placed c')) is (enters_at goes_on g c c' e same h)

  -- after the last generation the cell is spent
  pub spent_deed : (i g : ℕ) (spent : Bool) (m m' : Sat T) (p x : T) → IsDeed i g spent m → g ≡ last → m' ≡ (buried_view m.0 p x, []) → IsDeed i g true m'
  spent_deed i g spent m m' p x d is e =
      let is' : m.0.generation ≡ last = d.3 ∙ is in
      subst (IsDeed i g true) (sym e)
      (d.0, d.1, d.2, ap (λ b. cond b m.0.generation (suc m.0.generation)) (eq-eqb m.0.generation last is') ∙ d.3, ap (λ b. is_spent {T = T} (cond b Spent Home)) (eq-eqb m.0.generation last is'), refl)

  pub next_deed : (i g : ℕ) (spent : Bool) (m m' : Sat T) (p x : T) → IsDeed i g spent m → m.0.stage ≡ Doomed p → g ≢ last → m' ≡ (buried_view m.0 p x, []) → IsDeed i (g + 1) spent m'
  next_deed i g spent m m' p x d st ne e =
      let ne' : m.0.generation ≢ last = λ q. ne (sym d.3 ∙ q) in
      let whole : spent ≡ false = sym d.4 ∙ ap (λ (s : Stage T). is_spent s) st in
      let gen = d.3 in let le = d.1 in
      subst (IsDeed i (g + 1) spent) (sym e)
      (d.0, omega arith, d.2, ap (λ b. cond b m.0.generation (suc m.0.generation)) (ne_eqb m.0.generation last ne') ∙ (omega arith), ap (λ b. is_spent {T = T} (cond b Spent Home)) (ne_eqb m.0.generation last ne') ∙ sym whole, refl)
