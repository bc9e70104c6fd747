-- What the end tells, by cell.
use Rattle.std.proofs.Common.{◌≡◌, ℕ, zero, suc, ◌<◌, List, [], ◌∷◌, ◌++◌, length, map, arith, ap, refl, sym, ◌∙◌, subst}
use Rattle.std.specs.Prelude.{Some, slice_get, slice_index_or}
use Rattle.atomic_table.specs.Seated.{TableId}
use Rattle.uv_order.specs.declared.taken.Taken.{Taken}
use Rattle.uv_order.specs.Signed.{those}
use Rattle.uv_num.specs.Each.{Each}
use Rattle.uv_num.specs.Prefix.{IsPrefix}
use Rattle.uv_guard.specs.declared.view.Kept.{Kept}
use Rattle.uv_guard.specs.Seated.{Met, PlacedSeat, Seated, Deeded, met_none, seated, kept_at, kepts_of, kepts, add_kept, joined_with, all_joined, IsWide, IsOutside, cells_of}
use Rattle.uv_guard.specs.Closed.{IsBalanced, AreBalanced}
use Rattle.uv_guard.proofs.Logs.{each_front}
use Rattle.uv_guard.proofs.Lists.{each_at, map_length}

below : {X : Type 0} (xs : List X) (i : ℕ) (x : X) → slice_get xs i ≡ Some x → i < length xs
below [] i x e = absurd cc
below (y ∷ ys) zero x e = omega arith
below (y ∷ ys) (suc i) x e = let r = below ys i x e in omega arith

module _ {T : Type 0} where
  pub wide : (n : ℕ) (ps : List (PlacedSeat T)) (s : Seated T) → seated n ps ≡ s → IsWide s
  wide n ps s v =
      let guard = map_length (λ (p : PlacedSeat T). p.cell) ps in
      subst IsWide v (map_length (λ (p : PlacedSeat T). p.took) ps ∙ sym guard, map_length (λ (p : PlacedSeat T). p.met) ps ∙ sym guard)

  joined_at : (ds : List (Deeded T)) (ks : List (Kept T)) (i : ℕ) (d : Deeded T) (k : Kept T) → slice_get ds i ≡ Some d → slice_get ks i ≡ Some k → slice_get (joined_with ds ks) i ≡ Some (add_kept d k)
  joined_at [] ks i d k at at' = absurd cc
  joined_at (x ∷ xs) [] i d k at at' = absurd cc
  joined_at (x ∷ xs) (y ∷ ys) zero d k at at' = let e : x ≡ d = cc in let e' : y ≡ k = cc in λ j. Some (add_kept (e j) (e' j))
  joined_at (x ∷ xs) (y ∷ ys) (suc i) d k at at' = joined_at xs ys i d k at at'

  kept_of_at : (n : ℕ) (ls : List (List (Taken T))) (ms : List (Met T)) (i : ℕ) → i < length ls → i < length ms
      → slice_get (kepts_of n ls ms) i ≡ Some record { number = n; took = slice_index_or ls i []; plants = (slice_index_or ms i met_none).plants; lives = (slice_index_or ms i met_none).lives }
  kept_of_at n [] ms i lt lt' = absurd (omega arith)
  kept_of_at n (l ∷ ls) [] i lt lt' = absurd (omega arith)
  kept_of_at n (l ∷ ls) (m ∷ ms) zero lt lt' = refl
  kept_of_at n (l ∷ ls) (m ∷ ms) (suc i) lt lt' = kept_of_at n ls ms i (omega arith) (omega arith)

  -- what a cell's deed keeps of the seats that were joined
  all_at : (ds : List (Deeded T)) (ss : List (Seated T)) (i : ℕ) (d : Deeded T) → Each IsWide ss → Each (λ (s : Seated T). s.guard ≡ cells_of ds) ss → slice_get ds i ≡ Some d → slice_get (all_joined ds ss) i ≡ Some record d { kept = map (kept_at i) ss ++ d.kept }
  all_at ds [] i d w g at = at
  all_at ds (s ∷ ss) i d w g at =
      let lt = below ds i d at in let l = map_length (λ (x : Deeded T). x.cell) ds in let e = ap length g.0 in let took = w.0.0 in let met = w.0.1 in
      joined_at (all_joined ds ss) (kepts s) i record d { kept = map (kept_at i) ss ++ d.kept } (kept_at i s) (all_at ds ss i d w.1 g.1 at) (kept_of_at s.number s.took s.met i (omega arith) (omega arith))

  of_guard : (guard : List TableId) (ds : List (Deeded T)) (ss : List (Seated T)) → cells_of ds ≡ guard → Each (IsOutside guard) ss → Each (λ (s : Seated T). s.guard ≡ cells_of ds) ss
  of_guard guard ds [] e o = tt
  of_guard guard ds (s ∷ ss) e o = (o.0.0 ∙ sym e, of_guard guard ds ss e o.1)

  pub by_cell : (goes_on : T → T → Type 0) (guard : List TableId) (deeds ds joined : List (Deeded T)) (seats ss : List (Seated T)) → ds ≡ deeds → ss ≡ seats → joined ≡ all_joined ds ss → cells_of deeds ≡ guard → Each (IsOutside guard) seats → Each IsWide ss → Each (IsBalanced goes_on) joined
      → AreBalanced goes_on seats deeds
  by_cell goes_on guard deeds ds joined seats ss same same' e cells out w b = λ i d at.
      let all : Each (IsBalanced goes_on) (all_joined deeds seats) = subst (Each (IsBalanced goes_on)) (e ∙ λ j. all_joined (same j) (same' j)) b in
      let r = each_at (IsBalanced goes_on) (all_joined deeds seats) i record d { kept = map (kept_at i) seats ++ d.kept } all (all_at deeds seats i d (subst (Each IsWide) same' w) (of_guard guard deeds seats cells out) at) in
      record {
        log = r.log;
        own = each_front (λ (k : Kept T). (those k.number r.log ≡ k.took) × IsPrefix k.plants d.plants × IsPrefix k.lives d.lives) (map (kept_at i) seats) d.kept r.own;
        authors = r.authors;
        numbered = r.numbered;
        lived = r.lived;
        grows = r.grows;
        ended = r.ended;
        planted = r.planted;
      }
