-- Lists of seats and deeds, as they are made one by one and joined one by one.
use Rattle.std.proofs.Common.{◌≡◌, refl, ℕ, zero, suc, ◌+◌, ◌<◌, List, [], ◌∷◌, ◌++◌, length, map, set, get_or, take, replicate, arith, ap, sym, ◌∙◌, subst}
use Rattle.std.specs.Prelude.{Option, Some, None, slice_get}
use Rattle.atomic_table.specs.Seated.{TableId}
use Rattle.uv_num.specs.Each.{Each}
use Rattle.uv_guard.specs.declared.view.Held.{Held}
use Rattle.uv_guard.specs.declared.view.Kept.{Kept}
use Rattle.uv_guard.specs.Seated.{PlacedSeat, Seated, Deeded, seated, AreOwn, fresh_place, fresh_seat, fresh_seats, fresh_deed, fresh_deeds, indexed, met_none, kept_by, kepts, add_kept, joined_with, all_joined}
use Rattle.uv_guard.specs.declared.cell.Cell.{Cell}
use Rattle.uv_guard.specs.Cells.{tables}
use Rattle.uv_guard.proofs.Lists.{at_index, same_some, map_length}

module _ {X Y : Type 0} where
  -- the first k by f, the others by g
  abbrev pub half_map : ℕ → (X → Y) → (X → Y) → List X → List Y
  half_map zero f g xs = map g xs
  half_map (suc k) f g [] = []
  half_map (suc k) f g (x ∷ xs) = f x ∷ half_map k f g xs

  pub half_more : (k : ℕ) (f g : X → Y) (xs : List X) (x : X) → slice_get xs k ≡ Some x → set (half_map k f g xs) k (f x) ≡ half_map (suc k) f g xs
  half_more zero f g [] x e = absurd cc
  half_more zero f g (y ∷ ys) x e = let z : y ≡ x = cc in ap (λ u. f u ∷ map g ys) (sym z)
  half_more (suc k) f g [] x e = absurd cc
  half_more (suc k) f g (y ∷ ys) x e = ap (λ l. f y ∷ l) (half_more k f g ys x e)

  pub half_next : (k : ℕ) (f g : X → Y) (xs : List X) (x : X) → slice_get xs k ≡ Some x → slice_get (half_map k f g xs) k ≡ Some (g x)
  half_next zero f g [] x e = absurd cc
  half_next zero f g (y ∷ ys) x e = let z : y ≡ x = cc in ap (λ u. Some (g u)) z
  half_next (suc k) f g [] x e = absurd cc
  half_next (suc k) f g (y ∷ ys) x e = half_next k f g ys x e

  pub half_whole : (k : ℕ) (f g : X → Y) (xs : List X) → k ≡ length xs → half_map k f g xs ≡ map f xs
  half_whole zero f g [] e = refl
  half_whole zero f g (y ∷ ys) e = absurd (omega arith)
  half_whole (suc k) f g [] e = absurd (omega arith)
  half_whole (suc k) f g (y ∷ ys) e = ap (λ l. f y ∷ l) (half_whole k f g ys (omega arith))

  pub half_length : (k : ℕ) (f g : X → Y) (xs : List X) → length (half_map k f g xs) ≡ length xs
  half_length zero f g [] = refl
  half_length zero f g (y ∷ ys) = ap suc (half_length zero f g ys)
  half_length (suc k) f g [] = refl
  half_length (suc k) f g (y ∷ ys) = ap suc (half_length k f g ys)

  pub map_more : (f : X → Y) (xs : List X) (x : X) → map f (xs ++ x ∷ []) ≡ map f xs ++ f x ∷ []
  map_more f [] x = refl
  map_more f (y ∷ ys) x = ap (λ l. f y ∷ l) (map_more f ys x)

module _ {X : Type 0} where
  pub there : (xs : List X) (i : ℕ) → i < length xs → (x : X) × (slice_get xs i ≡ Some x)
  there [] i lt = absurd (omega arith)
  there (x ∷ xs) zero lt = (x, refl)
  there (x ∷ xs) (suc i) lt = there xs i (omega arith)

  pub take_more : (xs : List X) (i : ℕ) (x : X) → slice_get xs i ≡ Some x → take (suc i) xs ≡ take i xs ++ x ∷ []
  take_more [] i x e = absurd cc
  take_more (y ∷ ys) zero x e = let z : y ≡ x = cc in ap (λ u. u ∷ []) z
  take_more (y ∷ ys) (suc i) x e = ap (λ l. y ∷ l) (take_more ys i x e)

  pub take_whole : (xs : List X) (n : ℕ) → n ≡ length xs → take n xs ≡ xs
  take_whole [] zero e = refl
  take_whole [] (suc n) e = refl
  take_whole (y ∷ ys) zero e = absurd (omega arith)
  take_whole (y ∷ ys) (suc n) e = ap (λ l. y ∷ l) (take_whole ys n (omega arith))

  pub indexed_at : (k i : ℕ) (xs : List X) (x : X) → slice_get xs i ≡ Some x → slice_get (indexed k xs) i ≡ Some (k + i, x)
  indexed_at k i [] x e = absurd cc
  indexed_at k zero (y ∷ ys) x e = let z : y ≡ x = cc in let q : k ≡ k + 0 = omega arith in λ j. Some (q j, z j)
  indexed_at k (suc i) (y ∷ ys) x e = indexed_at (suc k) i ys x e ∙ ap (λ n. Some (n, x)) (let q : suc k + i ≡ k + suc i = omega arith in q)

  pub indexed_length : (k : ℕ) (xs : List X) → length (indexed k xs) ≡ length xs
  indexed_length k [] = refl
  indexed_length k (y ∷ ys) = ap suc (indexed_length (suc k) ys)

  pub indexed_more : (k : ℕ) (xs : List X) (x : X) → indexed k (xs ++ x ∷ []) ≡ indexed k xs ++ (k + length xs, x) ∷ []
  indexed_more k [] x = let q : k ≡ k + 0 = omega arith in ap (λ n. (n, x) ∷ []) q
  indexed_more k (y ∷ ys) x = ap (λ l. (k, y) ∷ l) (indexed_more (suc k) ys x ∙ ap (λ n. indexed (suc k) ys ++ (n, x) ∷ []) (let q : suc k + length ys ≡ k + suc (length ys) = omega arith in q))

  pub each_last : (P : X → Type 0) (xs : List X) (x : X) → Each P (xs ++ x ∷ []) → Each P xs × P x
  each_last P [] x e = (tt, e.0)
  each_last P (y ∷ ys) x e = let r = each_last P ys x e.1 in ((e.0, r.0), r.1)

map_replicate : {A B : Type 0} (f : A → B) (b : B) → ((x : A) → f x ≡ b) → (xs : List A) → map f xs ≡ replicate (length xs) b
map_replicate f b e [] = refl
map_replicate f b e (x ∷ xs) = λ i. e x i ∷ map_replicate f b e xs i

map_map : {A B C : Type 0} (f : B → C) (h : A → B) (xs : List A) → map f (map h xs) ≡ map (λ x. f (h x)) xs
map_map f h [] = refl
map_map f h (x ∷ xs) = ap (λ l. f (h x) ∷ l) (map_map f h xs)

map_self : {A : Type 0} (xs : List A) → map (λ x. x) xs ≡ xs
map_self [] = refl
map_self (x ∷ xs) = ap (λ l. x ∷ l) (map_self xs)

module _ {T : Type 0} where
  pub deeds_more : (seats : ℕ) (ts : List TableId) (t : TableId) → fresh_deeds {T = T} seats (ts ++ t ∷ []) ≡ fresh_deeds seats ts ++ fresh_deed seats (length ts, t) ∷ []
  deeds_more seats ts t = ap (λ (l : List (ℕ × TableId)). map (fresh_deed seats) l) (indexed_more 0 ts t)
      ∙ (map_more (fresh_deed seats) (indexed 0 ts) (0 + length ts, t) ∙ ap (λ n. fresh_deeds {T = T} seats ts ++ fresh_deed seats (n, t) ∷ []) (let q : 0 + length ts ≡ length ts = omega arith in q))

  pub seats_more : (ts : List TableId) (k n : ℕ) → fresh_seats {T = T} ts k (suc n) ≡ fresh_seats ts k n ++ fresh_seat ts (k + n) ∷ []
  seats_more ts k zero = let q : k ≡ k + 0 = omega arith in ap (λ z. fresh_seat ts z ∷ []) q
  seats_more ts k (suc n) = ap (λ l. fresh_seat ts k ∷ l) (seats_more ts (suc k) n ∙ ap (λ z. fresh_seats ts (suc k) n ++ fresh_seat ts z ∷ []) (let q : suc k + n ≡ k + suc n = omega arith in q))

  -- the places that were made are those of a new seat
  pub fresh_seated : (n : ℕ) (ts : List TableId) → seated n (map (fresh_place {T = T} n) ts) ≡ fresh_seat ts n
  fresh_seated n ts k = record {
    number = n;
    guard = (map_map (λ (p : PlacedSeat T). p.cell) (fresh_place n) ts ∙ map_self ts) k;
    found = (map_map (λ (p : PlacedSeat T). p.found) (fresh_place n) ts ∙ map_replicate (λ (t : TableId). []) [] (λ t. refl) ts) k;
    held = (map_map (λ (p : PlacedSeat T). p.held) (fresh_place n) ts ∙ map_replicate (λ (t : TableId). None) None (λ t. refl) ts) k;
    took = (map_map (λ (p : PlacedSeat T). p.took) (fresh_place n) ts ∙ map_replicate (λ (t : TableId). []) [] (λ t. refl) ts) k;
    met = (map_map (λ (p : PlacedSeat T). p.met) (fresh_place n) ts ∙ map_replicate (λ (t : TableId). met_none) met_none (λ t. refl) ts) k;
  }

  pub fresh_own : (n : ℕ) (ts : List TableId) (ps : List (PlacedSeat T)) → ps ≡ map (fresh_place n) ts → AreOwn n ps
  fresh_own n ts ps e = subst (AreOwn n) (sym e) (go ts)
    where
      go : (us : List TableId) → AreOwn n (map (fresh_place {T = T} n) us)
      go [] = tt
      go (u ∷ us) = (refl, go us)

  -- what a seat of these places knows
  pub kepts_are : (n : ℕ) (ps : List (PlacedSeat T)) → AreOwn n ps → kepts (seated n ps) ≡ map kept_by ps
  kepts_are n [] o = refl
  kepts_are n (p ∷ ps) o = λ k. record { number = sym o.0 k; took = p.took; plants = p.met.plants; lives = p.met.lives } ∷ kepts_are n ps o.1 k

  pub none_held : (n : ℕ) (ps : List (PlacedSeat T)) → Each (λ (h : Option (Held T)). h ≡ None) (seated n ps).held → Each (λ (p : PlacedSeat T). p.held ≡ None) ps
  none_held n [] e = tt
  none_held n (p ∷ ps) e = (e.0, none_held n ps e.1)

  pub joined_none : (ds : List (Deeded T)) → joined_with ds [] ≡ ds
  joined_none [] = refl
  joined_none (d ∷ ds) = refl

  -- the last place is joined first
  pub joined_last : (ds : List (Deeded T)) (ks : List (Kept T)) (k : Kept T) (d : Deeded T) → slice_get ds (length ks) ≡ Some d → joined_with (set ds (length ks) (add_kept d k)) ks ≡ joined_with ds (ks ++ k ∷ [])
  joined_last [] ks k d e = absurd cc
  joined_last (x ∷ xs) [] k d e = let z : x ≡ d = cc in ap (λ u. add_kept u k ∷ xs) (sym z) ∙ ap (λ l. add_kept x k ∷ l) (sym (joined_none xs))
  joined_last (x ∷ xs) (y ∷ ys) k d e = ap (λ l. add_kept x y ∷ l) (joined_last xs ys k d e)

  -- the last seat is joined first
  pub all_last : (ds : List (Deeded T)) (ss : List (Seated T)) (s : Seated T) → all_joined (joined_with ds (kepts s)) ss ≡ all_joined ds (ss ++ s ∷ [])
  all_last ds [] s = refl
  all_last ds (x ∷ xs) s = ap (λ l. joined_with l (kepts x)) (all_last ds xs s)

  -- a join changes no deed's cell or stage
  pub joined_keeps : {A : Type 0} (f : Deeded T → A) → ((d : Deeded T) (k : Kept T) → f (add_kept d k) ≡ f d) → (ds : List (Deeded T)) (ks : List (Kept T)) → map f (joined_with ds ks) ≡ map f ds
  joined_keeps f same [] ks = refl
  joined_keeps f same (d ∷ ds) [] = refl
  joined_keeps f same (d ∷ ds) (k ∷ ks) = λ i. same d k i ∷ joined_keeps f same ds ks i

  pub joined_each : (P : Deeded T → Type 0) → ((d : Deeded T) (k : Kept T) → P d → P (add_kept d k)) → (ds : List (Deeded T)) (ks : List (Kept T)) → Each P ds → Each P (joined_with ds ks)
  joined_each P keep [] ks e = tt
  joined_each P keep (d ∷ ds) [] e = e
  joined_each P keep (d ∷ ds) (k ∷ ks) e = (keep d k e.0, joined_each P keep ds ks e.1)

  pub all_each : (P : Deeded T → Type 0) → ((d : Deeded T) (k : Kept T) → P d → P (add_kept d k)) → (ds : List (Deeded T)) (ss : List (Seated T)) → Each P ds → Each P (all_joined ds ss)
  all_each P keep ds [] e = e
  all_each P keep ds (s ∷ ss) e = joined_each P keep (all_joined ds ss) (kepts s) (all_each P keep ds ss e)

  -- the next deed that makes a seat
  pub next_at : (n i : ℕ) (ts : List TableId) (deeds : List (Deeded T)) (d : Deeded T) (t : TableId) → slice_get ts i ≡ Some t → deeds ≡ half_map i (fresh_deed (suc n)) (fresh_deed n) (indexed 0 ts) → i < length ts → d ≡ get_or deeds i d → d ≡ fresh_deed n (0 + i, t)
  next_at n i ts deeds d t at e lt is =
      let len : length deeds ≡ length ts = ap length e ∙ (half_length i (fresh_deed (suc n)) (fresh_deed n) (indexed 0 ts) ∙ indexed_length 0 ts) in
      same_some d (fresh_deed n (0 + i, t)) (sym (at_index deeds i d (omega arith) is) ∙ (ap (λ (l : List (Deeded T)). slice_get l i) e ∙ half_next i (fresh_deed (suc n)) (fresh_deed n) (indexed 0 ts) (0 + i, t) (indexed_at 0 i ts t at)))

  pub deeds_forked : (n i : ℕ) (ts : List TableId) (deeds : List (Deeded T)) (d d' : Deeded T) (t : TableId) → slice_get ts i ≡ Some t → deeds ≡ half_map i (fresh_deed (suc n)) (fresh_deed n) (indexed 0 ts) → d ≡ fresh_deed n (0 + i, t) → d' ≡ record d { seats = suc d.seats }
      → set deeds i d' ≡ half_map (i + 1) (fresh_deed (suc n)) (fresh_deed n) (indexed 0 ts)
  deeds_forked n i ts deeds d d' t at e is e' =
      ap (λ (x : Deeded T). set deeds i x) (e' ∙ ap (λ (x : Deeded T). record x { seats = suc x.seats }) is)
      ∙ (ap (λ (l : List (Deeded T)). set l i (fresh_deed (suc n) (0 + i, t))) e
      ∙ (half_more i (fresh_deed (suc n)) (fresh_deed n) (indexed 0 ts) (0 + i, t) (indexed_at 0 i ts t at)
      ∙ ap (λ (k : ℕ). half_map k (fresh_deed {T = T} (suc n)) (fresh_deed n) (indexed 0 ts)) (let q : suc i ≡ i + 1 = omega arith in q)))

  pub places_more : (n i : ℕ) (ts : List TableId) (ps ps' : List (PlacedSeat T)) (p : PlacedSeat T) (t : TableId) → slice_get ts i ≡ Some t → ps ≡ map (fresh_place n) (take i ts) → p ≡ fresh_place n t → ps' ≡ ps ++ p ∷ [] → ps' ≡ map (fresh_place n) (take (i + 1) ts)
  places_more n i ts ps ps' p t at e is e' =
      e' ∙ ((λ k. e k ++ is k ∷ [])
      ∙ (sym (map_more (fresh_place n) (take i ts) t)
      ∙ (ap (λ (l : List TableId). map (fresh_place {T = T} n) l) (sym (take_more ts i t at))
      ∙ ap (λ (k : ℕ). map (fresh_place {T = T} n) (take k ts)) (let q : suc i ≡ i + 1 = omega arith in q))))

  pub open_more : {I : Type 0} (cells cells' : List (Cell T I)) (c : Cell T I) (deeds deeds' : List (Deeded T)) (d : Deeded T) (i : ℕ) (t : TableId) → length cells ≡ i → cells' ≡ cells ++ c ∷ [] → deeds ≡ fresh_deeds 0 (tables cells) → deeds' ≡ deeds ++ d ∷ [] → d ≡ fresh_deed 0 (i, t) → t ≡ c.table.shared.table_id
      → deeds' ≡ fresh_deeds 0 (tables cells')
  open_more {I = I} cells cells' c deeds deeds' d i t len e f f' is t_is =
      let id : Cell T I → TableId = λ (z : Cell T I). z.table.shared.table_id in
      let n : length (tables cells) ≡ i = map_length id cells ∙ len in
      f' ∙ ((λ k. f k ++ (is ∙ (λ j. fresh_deed 0 (sym n j, t_is j))) k ∷ [])
      ∙ (sym (deeds_more 0 (tables cells) (id c))
      ∙ (ap (λ (l : List TableId). fresh_deeds {T = T} 0 l) (sym (map_more id cells c)) ∙ ap (λ (l : List (Cell T I)). fresh_deeds {T = T} 0 (tables l)) (sym e))))

  pub seats_one : (ts : List TableId) (n : ℕ) (ss ss' : List (Seated T)) (s : Seated T) → ss ≡ fresh_seats ts 0 n → s ≡ fresh_seat ts n → ss' ≡ ss ++ s ∷ [] → ss' ≡ fresh_seats ts 0 (n + 1)
  seats_one ts n ss ss' s e is e' =
      let q : n ≡ 0 + n = omega arith in let q' : suc n ≡ n + 1 = omega arith in
      e' ∙ ((λ k. e k ++ (is ∙ ap (fresh_seat ts) q) k ∷ []) ∙ (sym (seats_more ts 0 n) ∙ ap (λ (k : ℕ). fresh_seats ts 0 k) q'))
