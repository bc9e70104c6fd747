-- A try to enter, at one cell and at the guard.
use Rattle.std.proofs.Common.{◌≡◌, ℕ, List, [], ◌∷◌, ap, sym, subst, set, ◌∙◌}
use Rattle.std.specs.Prelude.{Some, slice_get}
use Rattle.uv_order.specs.declared.taken.Taken.{Taken as Taking}
use Rattle.uv_guard.specs.declared.cell.Entering.{Entering}
use Rattle.uv_guard.specs.declared.cell.Entering.TheVariants.{Entered, Dead, Taken}
use Rattle.uv_guard.specs.Lives.{IsAfter, IsOf}
use Rattle.uv_guard.specs.Words.{life_word, turn_word}
use Rattle.uv_guard.specs.Seated.{Met, PlacedSeat, Seated, seated, met_none}
use Rattle.uv_guard.specs.Entries.{PlaceEnters, Enters}
use Rattle.uv_guard.proofs.Lists.{get_map, index_or, put_found, put_held}

module _ {T : Type 0} (goes_on : T → T → Type 0) where
  enters : (n i g : ℕ) (ps : List (PlacedSeat T)) (p q : PlacedSeat T) (e : Entering T) → slice_get ps i ≡ Some p → PlaceEnters goes_on g p e q → Enters goes_on i g (seated n ps) e (seated n (set ps i q))
  enters n i g ps p q (Entered x) at c = (
    c.0,
    c.1,
    c.2,
    ap (λ z. seated n (set ps i z)) c.3 ∙ put_held n ps i p (life_word c.0 ∷ turn_word c.1 ∷ []) (Some record { number = c.2; generation = g; value = x }) at,
    c.4,
    c.5,
    subst (λ (l : List (Taking T)). IsAfter goes_on g l x) (sym (index_or (seated n ps).took i p.took [] (get_map (λ (z : PlacedSeat T). z.took) ps i p at))) c.6,
    subst (λ (m : Met T). IsOf goes_on g m.plants x) (sym (index_or (seated n ps).met i p.met met_none (get_map (λ (z : PlacedSeat T). z.met) ps i p at))) c.7,
  )
  enters n i g ps p q (Dead w) at c = (put_found n ps i p q (life_word w ∷ []) at c.0, c.1)
  enters n i g ps p q (Taken w) at c = (c.0, put_found n ps i p q c.0 at c.1, c.2)

  pub enters_as : (n i g : ℕ) (ps : List (PlacedSeat T)) (p q : PlacedSeat T) (e : Entering T) (s : Seated T) → seated n ps ≡ s → slice_get ps i ≡ Some p → PlaceEnters goes_on g p e q → Enters goes_on i g s e (seated n (set ps i q))
  enters_as n i g ps p q e s v at c = subst (λ (z : Seated T). Enters goes_on i g z e (seated n (set ps i q))) v (enters n i g ps p q e at c)
