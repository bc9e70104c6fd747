-- Whom entries name, in a log whose entries are signed by whom they name.
use Rattle.std.proofs.Common.{◌≡◌, ◌≢◌, ℕ, cond, subst, sym, refl, ap, ◌∙◌, ne_eqb, List, [], ◌∷◌, ◌++◌, append-nil as append_nil, false}
use Rattle.std.proofs.lemmas.List.Elements.{filter-append}
use Rattle.std.specs.Prelude.{Option, Some, None}
use Rattle.uv_num.specs.Prefix.{IsPrefix}
use Rattle.uv_order.specs.declared.signed.Signed.{Signed}
use Rattle.uv_order.specs.Signed.{entries, sign, Silent}
use Rattle.uv_order.specs.Seen.{Quiet}
use Rattle.uv_order.specs.Names.{is_for, AreNamed, NameOnly, NameNobody, picks}
use Rattle.uv_order.specs.Laws.{NamingLaws}
use Rattle.uv_order.proofs.Signing.{entries_two, entries_sign, silent_head}

module _ {E : Type 0} (names : E → Option ℕ) where
  pub named_two : (xs ys : List (Signed E)) → AreNamed names xs → AreNamed names ys → AreNamed names (xs ++ ys)
  named_two [] ys p q = q
  named_two (x ∷ xs) ys p q = (p.0, named_two xs ys p.1 q)

  named_front : (xs ys : List (Signed E)) → AreNamed names (xs ++ ys) → AreNamed names xs
  named_front [] ys p = tt
  named_front (x ∷ xs) ys p = (p.0, named_front xs ys p.1)

  named_back : (xs ys : List (Signed E)) → AreNamed names (xs ++ ys) → AreNamed names ys
  named_back [] ys p = p
  named_back (x ∷ xs) ys p = named_back xs ys p.1

  pub named_sign : (n : ℕ) (xs : List E) → NameOnly names n xs → AreNamed names (sign n xs)
  named_sign n [] p = tt
  named_sign n (x ∷ xs) p = (λ k e. sym (p.0 k e), named_sign n xs p.1)

  pub named_nobody : (n : ℕ) (xs : List E) → NameNobody names xs → AreNamed names (sign n xs)
  named_nobody n [] p = tt
  named_nobody n (x ∷ xs) p = (λ k e. absurd (cc (p.0, e)), named_nobody n xs p.1)

  pub named_starts : (log seen : List (Signed E)) → IsPrefix seen log → AreNamed names log → AreNamed names seen
  named_starts log seen s p = named_front seen s.rest (subst (AreNamed names) s.goes_on p)

  picks_two : (n : ℕ) (xs ys : List E) → picks names n (xs ++ ys) ≡ picks names n xs ++ picks names n ys
  picks_two n xs ys = filter-append (λ (x : E). is_for n (names x)) xs ys

  not_for : (n : ℕ) (o : Option ℕ) (by : ℕ) → ((k : ℕ) → o ≡ Some k → by ≡ k) → by ≢ n → is_for n o ≡ false
  not_for n None by f ne = refl
  not_for n (Some k) by f ne = ne_eqb k n (λ e. ne (f k refl ∙ e))

  -- where nothing is by n, nothing names n
  silent_picks : (n : ℕ) (ys : List (Signed E)) → AreNamed names ys → Silent n ys → picks names n (entries ys) ≡ []
  silent_picks n [] a s = refl
  silent_picks n (y ∷ ys) a s =
      let h = silent_head n y ys s in
      ap (λ t. cond t (y.entry ∷ picks names n (entries ys)) (picks names n (entries ys))) (not_for n (names y.entry) y.by a.0 h.0) ∙ silent_picks n ys a.1 h.1

  pub picks_stay : (n : ℕ) (log seen : List (Signed E)) → AreNamed names log → Quiet n log seen → picks names n (entries log) ≡ picks names n (entries seen)
  picks_stay n log seen a q =
      ap (λ l. picks names n (entries l)) q.goes_on ∙ (ap (picks names n) (entries_two seen q.rest) ∙ (picks_two n (entries seen) (entries q.rest)
      ∙ (ap (λ l. picks names n (entries seen) ++ l) (silent_picks n q.rest (named_back seen q.rest (subst (AreNamed names) q.goes_on a)) q.silent) ∙ append_nil (picks names n (entries seen)))))

  pub picks_turn : (n : ℕ) (seen between after : List (Signed E)) (made : List E) → AreNamed names after → Silent n between → after ≡ (seen ++ between) ++ sign n made → picks names n (entries after) ≡ picks names n (entries seen) ++ picks names n made
  picks_turn n seen between after made a s e =
      let named : AreNamed names between = named_back seen between (named_front (seen ++ between) (sign n made) (subst (AreNamed names) e a)) in
      ap (λ l. picks names n (entries l)) e ∙ (ap (picks names n) (entries_two (seen ++ between) (sign n made)) ∙ (picks_two n (entries (seen ++ between)) (entries (sign n made))
      ∙ (λ i. (ap (picks names n) (entries_two seen between) ∙ (picks_two n (entries seen) (entries between) ∙ (ap (λ l. picks names n (entries seen) ++ l) (silent_picks n between named s) ∙ append_nil (picks names n (entries seen))))) i
      ++ picks names n (entries_sign n made i))))

pub naming : (E : Type 0) → NamingLaws E
naming E = record {
  named_two = named_two;
  named_sign = named_sign;
  named_nobody = named_nobody;
  named_starts = named_starts;
  picks_stay = picks_stay;
  picks_turn = picks_turn;
}
