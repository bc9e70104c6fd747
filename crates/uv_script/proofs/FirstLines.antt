-- The first line of bytes.
use Rattle.std.proofs.Common.{◌≡◌, ℕ, zero, suc, ◌<◌, List, [], ◌∷◌, length, get_or, take, drop, refl, arith}
use Rattle.std.proofs.Math.Seq.{take-length, drop-length}
use Rattle.std.proofs.lemmas.Bool.{ne_eqb, eq-eqb}
use Rattle.uv_script.specs.Lines.{lines_of}

-- a line feed behind bytes that are none ends the first line
pub lines_of-feed : (bs : List ℕ) (i : ℕ) → i < length bs → ((k : ℕ) → k < i → get_or bs k 0 ≡ 10 → ⊥) → get_or bs i 0 ≡ 10 → lines_of bs ≡ take (suc i) bs ∷ lines_of (drop (suc i) bs)
lines_of-feed [] i lt before at = absurd (omega arith)
lines_of-feed (b ∷ bs) zero lt before at = rw (eq-eqb b 10 at) refl
lines_of-feed (b ∷ bs) (suc i) lt before at =
    rw (ne_eqb b 10 (before 0 (omega arith)), lines_of-feed bs i (omega arith) (λ k below. before (suc k) (omega arith)) at) refl

-- bytes without a line feed are one line
lines_of-single : (bs : List ℕ) → 0 < length bs → ((k : ℕ) → k < length bs → get_or bs k 0 ≡ 10 → ⊥) → lines_of bs ≡ bs ∷ []
lines_of-single [] some none = absurd (omega arith)
lines_of-single (b ∷ []) some none = rw (ne_eqb b 10 (none 0 (omega arith))) refl
lines_of-single (b ∷ c ∷ bs) some none =
    rw (ne_eqb b 10 (none 0 (omega arith)), lines_of-single (c ∷ bs) (omega arith) (λ k below. none (suc k) (omega arith))) refl

-- as `take` and `drop` split them
pub lines_of-whole : (bs : List ℕ) → 0 < length bs → ((k : ℕ) → k < length bs → get_or bs k 0 ≡ 10 → ⊥) → lines_of bs ≡ take (length bs) bs ∷ lines_of (drop (length bs) bs)
lines_of-whole bs some none = rw (take-length bs, drop-length bs) (lines_of-single bs some none)
