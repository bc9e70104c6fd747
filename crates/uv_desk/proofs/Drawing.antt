-- Items of lists, and a seat that is taken out of a list.
use Rattle.std.proofs.Common.{◌≡◌, ◌⊎◌, inl, inr, ⊎_elim, ℕ, zero, suc, ◌+◌, ◌<◌, List, [], ◌∷◌, ◌++◌, length, take, drop, refl, ap, sym, subst, ◌∙◌, arith}
use Rattle.std.specs.Prelude.{slice_index_or}
use Rattle.atomic_table.specs.Seated.{TableId}
use Rattle.uv_num.specs.Each.{Each}
use Rattle.uv_desk.specs.Seats.{Placed, OneOf, HasNumber, AreAllFrom}
use Rattle.uv_desk.specs.Gathering.{IsAmong, Parts, Drawn}

module _ {X : Type 0} where
  -- a list is what stands before one of its places, what stands there, and what stands behind
  pub split_at : (xs : List X) (i : ℕ) (x : X) → i < length xs → x ≡ slice_index_or xs i x → xs ≡ take i xs ++ x ∷ drop (i + 1) xs
  split_at [] i x lt e = absurd (omega arith)
  split_at (y ∷ ys) zero x lt e = ap (λ (z : X). z ∷ ys) (sym e)
  split_at (y ∷ ys) (suc i) x lt e =
      let next : suc (i + 1) ≡ suc i + 1 = omega arith in
      ap (λ (l : List X). y ∷ l) (split_at ys i x (omega arith) e) ∙ ap (λ (k : ℕ). y ∷ (take i ys ++ x ∷ drop k (y ∷ ys))) next

  pub in_front : (P : X → Type 0) (xs ys : List X) → OneOf P xs → OneOf P (xs ++ ys)
  in_front P [] ys o = absurd o
  in_front P (x ∷ xs) ys o = ⊎_elim (λ p. inl p) (λ p. inr (in_front P xs ys p)) o

  pub in_back : (P : X → Type 0) (xs ys : List X) → OneOf P ys → OneOf P (xs ++ ys)
  in_back P [] ys o = o
  in_back P (x ∷ xs) ys o = inr (in_back P xs ys o)

  pub in_two : (P : X → Type 0) (xs ys : List X) → OneOf P (xs ++ ys) → OneOf P xs ⊎ OneOf P ys
  in_two P [] ys o = inr o
  in_two P (x ∷ xs) ys o = ⊎_elim (λ p. inl (inl p)) (λ p. ⊎_elim (λ q. inl (inr q)) (λ q. inr q) (in_two P xs ys p)) o

  -- one of a list is the one that was taken out, or is left
  pub one_left : (P : X → Type 0) (front back : List X) (x : X) → OneOf P (front ++ x ∷ back) → P x ⊎ OneOf P (front ++ back)
  one_left P front back x o = ⊎_elim (λ p. inr (in_front P front back p)) (λ p. ⊎_elim (λ q. inl q) (λ q. inr (in_back P front back q)) p) (in_two P front (x ∷ back) o)

  pub one_stood : (P : X → Type 0) (front back : List X) (x : X) → P x ⊎ OneOf P (front ++ back) → OneOf P (front ++ x ∷ back)
  one_stood P front back x o = ⊎_elim (λ p. in_back P front (x ∷ back) (inl p)) (λ p. ⊎_elim (λ q. in_front P front (x ∷ back) q) (λ q. in_back P front (x ∷ back) (inr q)) (in_two P front back p)) o

  pub each_two : (P : X → Type 0) (xs ys : List X) → Each P xs → Each P ys → Each P (xs ++ ys)
  each_two P [] ys p q = q
  each_two P (x ∷ xs) ys p q = (p.0, each_two P xs ys p.1 q)

  pub each_front : (P : X → Type 0) (xs ys : List X) → Each P (xs ++ ys) → Each P xs
  each_front P [] ys p = tt
  each_front P (x ∷ xs) ys p = (p.0, each_front P xs ys p.1)

  pub each_back : (P : X → Type 0) (xs ys : List X) → Each P (xs ++ ys) → Each P ys
  each_back P [] ys p = p
  each_back P (x ∷ xs) ys p = each_back P xs ys p.1

  pub each_of_in : (P : X → Type 0) (xs : List X) → ((x : X) → IsAmong x xs → P x) → Each P xs
  each_of_in P [] f = tt
  each_of_in P (x ∷ xs) f = (f x (inl refl), each_of_in P xs (λ y i. f y (inr i)))

  pub in_of_each : (P : X → Type 0) (xs : List X) (x : X) → Each P xs → IsAmong x xs → P x
  in_of_each P [] x e i = absurd i
  in_of_each P (y ∷ ys) x e i = ⊎_elim (λ q. subst P q e.0) (λ q. in_of_each P ys x e.1 q) i

  -- one that is of the list, with its fact
  pub the_one : (P : X → Type 0) (xs : List X) → OneOf P xs → (x : X) × IsAmong x xs × P x
  the_one P [] o = absurd o
  the_one P (x ∷ xs) o = ⊎_elim (λ p. (x, inl refl, p)) (λ p. let r = the_one P xs p in (r.0, inr r.1, r.2)) o

  pub one_of_in : (P : X → Type 0) (xs : List X) (x : X) → IsAmong x xs → P x → OneOf P xs
  one_of_in P [] x i p = absurd i
  one_of_in P (y ∷ ys) x i p = ⊎_elim (λ q. inl (subst P (sym q) p)) (λ q. inr (one_of_in P ys x q p)) i

  pub parts_whole : (xs : List X) → Parts xs xs []
  parts_whole xs = record { each = λ x i. inl i; ones = λ x i. i; others = λ x i. absurd i }

  -- an item goes from one part to the other
  pub parts_move : (all front back other : List X) (x : X) → Parts all (front ++ x ∷ back) other → Parts all (front ++ back) (x ∷ other)
  parts_move all front back other x p = record {
    each = λ y i. ⊎_elim (λ q. ⊎_elim (λ z. inr (inl z)) (λ z. inl z) (one_left (λ (z : X). z ≡ y) front back x q)) (λ q. inr (inr q)) (p.each y i);
    ones = λ y i. p.ones y (one_stood (λ (z : X). z ≡ y) front back x (inr i));
    others = λ y i. ⊎_elim (λ q. p.ones y (one_stood (λ (z : X). z ≡ y) front back x (inl q))) (λ q. p.others y q) i;
  }

  pub none_left : (xs : List X) → length xs ≡ 0 → xs ≡ []
  none_left [] e = refl
  none_left (x ∷ xs) e = absurd (omega arith)

  pub length_left : (front back : List X) (x : X) → length (front ++ x ∷ back) ≡ length (front ++ back) + 1
  length_left [] back x = omega arith
  length_left (y ∷ front) back x = let r = length_left front back x in omega arith

module _ {E O : Type 0} where
  -- the seat of the greatest number is taken out
  pub all_but : (desk : TableId) (from : ℕ) (seats left : List (Placed E O)) (seat : Placed E O) (last : ℕ) → AreAllFrom desk from seats → Drawn last seats seat left → last + 1 ≡ from + length seats
      → (seat.desk ≡ desk) × AreAllFrom desk from left × (length seats ≡ length left + 1)
  all_but desk from seats left seat last a d e =
      let stood = subst (λ (l : List (Placed E O)). AreAllFrom desk from l) d.stood a in
      let rest : List (Placed E O) = d.front ++ d.back in
      let len : length seats ≡ length rest + 1 = ap length d.stood ∙ length_left d.front d.back seat in
      let at : Placed E O → Type 0 = λ s. s.desk ≡ desk in
      let back = each_back at d.front (seat ∷ d.back) stood.0 in
      let all : AreAllFrom desk from rest = (
        each_two at d.front d.back (each_front at d.front (seat ∷ d.back) stood.0) back.1,
        λ k lt. ⊎_elim (λ q. let n = d.number_is in absurd (omega arith)) (λ q. q) (one_left (λ (s : Placed E O). s.number ≡ from + k) d.front d.back seat (stood.1 k (let s = ap length d.stood in omega arith))),
      ) in
      (back.0, subst (λ (l : List (Placed E O)). AreAllFrom desk from l) (sym d.left_is) all, len ∙ ap (λ (l : List (Placed E O)). length l + 1) (sym d.left_is))

  -- the seat numbered 0 is taken out
  pub all_behind : (desk : TableId) (seats left : List (Placed E O)) (seat : Placed E O) → AreAllFrom desk 0 seats → Drawn 0 seats seat left → (seat.desk ≡ desk) × AreAllFrom desk 1 left × (length seats ≡ length left + 1)
  all_behind desk seats left seat a d =
      let stood = subst (λ (l : List (Placed E O)). AreAllFrom desk 0 l) d.stood a in
      let rest : List (Placed E O) = d.front ++ d.back in
      let len : length seats ≡ length rest + 1 = ap length d.stood ∙ length_left d.front d.back seat in
      let at : Placed E O → Type 0 = λ s. s.desk ≡ desk in
      let back = each_back at d.front (seat ∷ d.back) stood.0 in
      let all : AreAllFrom desk 1 rest = (
        each_two at d.front d.back (each_front at d.front (seat ∷ d.back) stood.0) back.1,
        λ k lt. ⊎_elim (λ q. let n = d.number_is in absurd (omega arith)) (λ q. q) (one_left (λ (s : Placed E O). s.number ≡ 1 + k) d.front d.back seat (subst (λ (n : ℕ). HasNumber n (d.front ++ seat ∷ d.back)) (let z : 0 + (1 + k) ≡ 1 + k = omega arith in z) (stood.1 (1 + k) (let s = ap length d.stood in omega arith)))),
      ) in
      (back.0, subst (λ (l : List (Placed E O)). AreAllFrom desk 1 l) (sym d.left_is) all, len ∙ ap (λ (l : List (Placed E O)). length l + 1) (sym d.left_is))
