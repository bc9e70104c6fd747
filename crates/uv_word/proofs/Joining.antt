-- What joins and leaves the holds that a word stands for.
use Rattle.std.proofs.Common.{ℕ, zero, suc, ◌+◌, ℤ, pos, negsuc, true, false, not, ◌==◌, List, [], ◌∷◌, ◌++◌, length, replicate, ◌≡◌, refl, ap, sym, ◌∙◌, subst, arith, ◌+ℤ◌, ◌<ℤ◌, length-append}
use Rattle.std.specs.List.{list_any}
use Rattle.std.proofs.lemmas.Int.{ints}
use Rattle.std.proofs.lemmas.List.{length-replicate}
use Rattle.uv_word.specs.Holds.{StandsFor, is_exclusive, Tries, Gives, Hold, Read, Exclusive}

-- holds of which none is exclusive are read holds
pub readers_only : (holds : List Hold) → list_any is_exclusive holds ≡ false → holds ≡ replicate (length holds) Read
readers_only [] e = refl
readers_only (Read ∷ holds) e = ap (λ xs. Read ∷ xs) (readers_only holds e)
readers_only (Exclusive ∷ holds) e = cc

-- so many holds of which none is exclusive
pub readers_counted : (n : ℕ) (holds : List Hold) → list_any is_exclusive holds ≡ false → length holds ≡ n → holds ≡ replicate n Read
readers_counted n holds e l =
    let P : ℕ → Type 0 = λ m. holds ≡ replicate m Read in
    subst P l (readers_only holds e)

-- among read holds none is exclusive
pub none_exclusive : (n : ℕ) → list_any is_exclusive (replicate n Read) ≡ false
none_exclusive zero = refl
none_exclusive (suc n) = none_exclusive n

pub none_in : (n : ℕ) (holds : List Hold) → holds ≡ replicate n Read → list_any is_exclusive holds ≡ false
none_in n holds e = ap (list_any is_exclusive) e ∙ none_exclusive n

-- read holds aren't one exclusive hold
no_both : (n : ℕ) (holds : List Hold) → holds ≡ replicate n Read → holds ≡ Exclusive ∷ [] → ⊥
no_both n holds e f =
    let none : list_any is_exclusive holds ≡ false = none_in n holds e in
    let some : list_any is_exclusive holds ≡ true = ap (list_any is_exclusive) f in
    cc

pub counted_in : (n : ℕ) (holds : List Hold) → holds ≡ replicate n Read → length holds ≡ n
counted_in n holds e = ap length e ∙ length-replicate n Read

-- a read hold at a place makes no other exclusive
pub none_beside : (before behind : List Hold) → list_any is_exclusive (before ++ Read ∷ behind) ≡ list_any is_exclusive (before ++ behind)
none_beside [] behind = refl
none_beside (Read ∷ before) behind = none_beside before behind
none_beside (Exclusive ∷ before) behind = refl

pub counted_beside : (h : Hold) (before behind : List Hold) → length (before ++ h ∷ behind) ≡ length (before ++ behind) + 1
counted_beside h before behind = grind (arith, length-append)

pub read_joins : (n : ℕ) (before behind : List Hold) → before ++ behind ≡ replicate n Read → before ++ Read ∷ behind ≡ replicate (n + 1) Read
read_joins n before behind e = readers_counted (n + 1) (before ++ Read ∷ behind) (none_beside before behind ∙ none_in n (before ++ behind) e) (counted_beside Read before behind ∙ ap (λ m. m + 1) (counted_in n (before ++ behind) e))

pub read_leaves : (n : ℕ) (before behind : List Hold) → before ++ Read ∷ behind ≡ replicate (n + 1) Read → before ++ behind ≡ replicate n Read
read_leaves n before behind e =
    let counted : length (before ++ behind) + 1 ≡ n + 1 = sym (counted_beside Read before behind) ∙ counted_in (n + 1) (before ++ Read ∷ behind) e in
    readers_counted n (before ++ behind) (sym (none_beside before behind) ∙ none_in (n + 1) (before ++ Read ∷ behind) e) (omega (arith, counted))

-- where none stands there is none before and none behind
pub nothing_around : (before behind : List Hold) → before ++ behind ≡ [] → before ++ Exclusive ∷ behind ≡ Exclusive ∷ []
nothing_around [] behind e = ap (λ xs. Exclusive ∷ xs) e
nothing_around (h ∷ before) behind e = cc

nothing_counted : (holds : List Hold) → length holds + 1 ≡ 1 → holds ≡ []
nothing_counted [] e = refl
nothing_counted (h ∷ holds) e = absurd (omega (arith, e))

pub alone_leaves : (before behind : List Hold) → before ++ Exclusive ∷ behind ≡ Exclusive ∷ [] → before ++ behind ≡ []
alone_leaves before behind e = nothing_counted (before ++ behind) (sym (counted_beside Exclusive before behind) ∙ ap length e)

pub read_taken : (old now : ℤ) → ¬ (old ≡ negsuc 0) → now ≡ old +ℤ pos 1 → Tries Read old now true
read_taken (pos n) now free e before behind s =
    let P : ℤ → Type 0 = λ v. StandsFor v (before ++ Read ∷ behind) in
    record {
      exactly = sym (ap not (none_in n (before ++ behind) s));
      stands = subst P (sym e) (read_joins n before behind s);
    }
read_taken (negsuc n) now free e before behind s = absurd (free (ap negsuc s.0))

pub exclusive_taken : (old : ℤ) → old ≡ pos 0 → Tries Exclusive old (negsuc 0) true
exclusive_taken old e before behind s =
    let P : ℤ → Type 0 = λ v. StandsFor v (before ++ behind) in
    let none : before ++ behind ≡ [] = subst P e s in
    record {
      exactly = sym (ap (λ xs. length xs == 0) none);
      stands = (refl, nothing_around before behind none);
    }

pub read_given : (old now : ℤ) → pos 0 <ℤ old → now +ℤ pos 1 ≡ old → Gives Read old now
read_given old (pos n) held e before behind s =
    let P : ℤ → Type 0 = λ v. StandsFor v (before ++ Read ∷ behind) in
    read_leaves n before behind (subst P (sym e) s)
read_given old (negsuc n) held e before behind s = absurd (omega (arith, ints, held, e))

pub exclusive_given : (old : ℤ) → old ≡ negsuc 0 → Gives Exclusive old (pos 0)
exclusive_given old e before behind s =
    let P : ℤ → Type 0 = λ v. StandsFor v (before ++ Exclusive ∷ behind) in
    alone_leaves before behind ((subst P e s).1)

-- holds have one word at most
pub one_word : (one other : ℤ) (holds : List Hold) → StandsFor one holds → StandsFor other holds → one ≡ other
one_word (pos m) (pos n) holds s t = ap pos (sym (counted_in m holds s) ∙ counted_in n holds t)
one_word (pos m) (negsuc n) holds s t = absurd (no_both m holds s t.1)
one_word (negsuc m) (pos n) holds s t = absurd (no_both n holds t s.1)
one_word (negsuc m) (negsuc n) holds s t = ap negsuc (s.0 ∙ sym t.0)
