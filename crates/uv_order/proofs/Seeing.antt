-- Beginnings of one log, and which of its entries a seat has not seen.
use Rattle.std.proofs.Common.{◌≡◌, ℕ, ◌+◌, ◌<◌, ◌≤◌, cond, sym, refl, ap, ◌∙◌, ne_eqb, arith, List, [], ◌∷◌, ◌++◌, append_assoc, append-nil as append_nil, length, Bool, true, false, nat_eq, nat_lt}
use Rattle.std.proofs.lemmas.Bool.Decides.{nat_tests}
use Rattle.uv_num.specs.Prefix.{IsPrefix}
use Rattle.uv_order.specs.declared.signed.Signed.{Signed}
use Rattle.uv_order.specs.Signed.{those, Silent}
use Rattle.uv_order.specs.Seen.{longer, Quiet}
use Rattle.uv_order.specs.Places.{where_is}
use Rattle.uv_order.specs.Laws.{SeeingLaws}
use Rattle.uv_order.proofs.Signing.{silent_two, silent_front, silent_back, silent_head}

cancel : {X : Type 0} (xs a b : List X) → xs ++ a ≡ xs ++ b → a ≡ b
cancel [] a b e = e
cancel (x ∷ xs) a b e = cancel xs a b (cc e)

-- what holds of the longer of two lists, by the two cases
longer_at : {E : Type 0} (P : List E → Type 0) (xs ys : List E) → (length ys ≤ length xs → P xs) → (length xs < length ys → P ys) → P (longer xs ys)
longer_at P xs ys a b = go (nat_lt (length xs) (length ys)) refl
  where
    go : (t : Bool) → nat_lt (length xs) (length ys) ≡ t → P (cond t ys xs)
    go true e = b (grind (arith, nat_tests))
    go false e = a (grind (arith, nat_tests))

-- of two beginnings of one list the shorter begins the longer
prefix_shorter : {E : Type 0} (xs ys zs : List E) → IsPrefix xs zs → IsPrefix ys zs → length xs ≤ length ys → IsPrefix xs ys
prefix_shorter [] ys zs p q le = record { rest = ys; goes_on = refl }
prefix_shorter (x ∷ xs) [] zs p q le = absurd (omega arith)
prefix_shorter (x ∷ xs) (y ∷ ys) [] p q le = absurd (cc (p.goes_on))
prefix_shorter (x ∷ xs) (y ∷ ys) (z ∷ zs) p q le =
    let heads : y ≡ x = cc (p.goes_on, q.goes_on) in
    let r = prefix_shorter xs ys zs (record { rest = p.rest; goes_on = cc (p.goes_on) }) (record { rest = q.rest; goes_on = cc (q.goes_on) }) (omega arith) in
    record { rest = r.rest; goes_on = cc (heads, r.goes_on) }

prefix_itself : {E : Type 0} (xs : List E) → IsPrefix xs xs
prefix_itself xs = record { rest = []; goes_on = sym (append_nil xs) }

-- both of two beginnings of a list begin the longer
longer_both : {E : Type 0} (xs ys zs : List E) → IsPrefix xs zs → IsPrefix ys zs → IsPrefix (longer xs ys) zs × IsPrefix xs (longer xs ys) × IsPrefix ys (longer xs ys)
longer_both xs ys zs p q = longer_at (λ l. IsPrefix l zs × IsPrefix xs l × IsPrefix ys l) xs ys (λ le. (p, prefix_itself xs, prefix_shorter ys xs zs q p le))
    (λ lt. (q, prefix_shorter xs ys zs p q (omega arith), prefix_itself ys))

module _ {E : Type 0} where
  pub quiet_whole : (n : ℕ) (log : List (Signed E)) → Quiet n log log
  quiet_whole n log = record { rest = []; goes_on = sym (append_nil log); silent = refl }

  pub quiet_grows : (n : ℕ) (log seen more : List (Signed E)) → Quiet n log seen → Silent n more → Quiet n (log ++ more) seen
  quiet_grows n log seen more q s = record {
    rest = q.rest ++ more;
    goes_on = ap (λ l. l ++ more) q.goes_on ∙ append_assoc seen q.rest more;
    silent = silent_two n q.rest more q.silent s;
  }

  -- of what lies between what n has seen and the log, n signed nothing
  quiet_between : (n : ℕ) (log xs ys : List (Signed E)) → Quiet n log xs → IsPrefix ys log → IsPrefix xs ys → Quiet n log ys × Quiet n ys xs
  quiet_between n log xs ys q s t =
      let e : xs ++ q.rest ≡ xs ++ (t.rest ++ s.rest) = sym q.goes_on ∙ (s.goes_on ∙ (ap (λ l. l ++ s.rest) t.goes_on ∙ append_assoc xs t.rest s.rest)) in
      let r : q.rest ≡ t.rest ++ s.rest = cancel xs q.rest (t.rest ++ s.rest) e in
      let z : Silent n (t.rest ++ s.rest) = ap (those n) (sym r) ∙ q.silent in
      (record { rest = s.rest; goes_on = s.goes_on; silent = silent_back n t.rest s.rest z }, record { rest = t.rest; goes_on = t.goes_on; silent = silent_front n t.rest s.rest z })

  pub quiet_longer : (n : ℕ) (log xs ys : List (Signed E)) → Quiet n log xs → IsPrefix ys log → Quiet n log (longer xs ys) × Quiet n (longer xs ys) xs × IsPrefix ys (longer xs ys) × IsPrefix (longer xs ys) log
  quiet_longer n log xs ys q s =
      let b = longer_both xs ys log (record { rest = q.rest; goes_on = q.goes_on }) s in
      let z = quiet_between n log xs (longer xs ys) q b.0 b.1 in
      (z.0, z.1, b.2, b.0)

  silent_where : (n k : ℕ) (ys : List (Signed E)) → Silent n ys → where_is n k ys ≡ []
  silent_where n k [] s = refl
  silent_where n k (y ∷ ys) s = let h = silent_head n y ys s in ap (λ t. cond t (k ∷ where_is n (k + 1) ys) (where_is n (k + 1) ys)) (ne_eqb y.by n h.0) ∙ silent_where n (k + 1) ys h.1

  where_front : (n k : ℕ) (xs ys : List (Signed E)) → Silent n ys → where_is n k (xs ++ ys) ≡ where_is n k xs
  where_front n k [] ys s = silent_where n k ys s
  where_front n k (x ∷ xs) ys s = ap (λ l. cond (nat_eq x.by n) (k ∷ l) l) (where_front n (k + 1) xs ys s)

  pub places_stay : (n k : ℕ) (log seen : List (Signed E)) → Quiet n log seen → where_is n k log ≡ where_is n k seen
  places_stay n k log seen q = ap (λ l. where_is n k l) q.goes_on ∙ where_front n k seen q.rest q.silent

pub seeing : (E : Type 0) → SeeingLaws E
seeing E = record {
  quiet_whole = quiet_whole;
  quiet_grows = quiet_grows;
  quiet_longer = quiet_longer;
  places_stay = places_stay;
}
