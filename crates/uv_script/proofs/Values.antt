-- The values of digits.
use Rattle.std.proofs.Common.{◌≡◌, ℕ, suc, ◌+◌, ◌-◌, ◌*◌, ◌<◌, ◌≤◌, List, [], ◌∷◌, length, get_or, drop, None, refl, sym, ◌∙◌, ap, arith, drop-cons}
use Rattle.std.proofs.lemmas.Bool.{le-ltb}
use Rattle.uv_script.specs.Numbers.{decimal_from, decimal_value, hex_from, hex_value, hex_digit, below_limit}

-- decimal digits behind a value don't lower it
decimal_from-ge : (n : ℕ) (ds : List ℕ) → n ≤ decimal_from n ds
decimal_from-ge n [] = omega arith
decimal_from-ge n (d ∷ ds) = omega (arith, decimal_from-ge (10 * n + (d - 48)) ds)

-- hexadecimal digits behind a value don't lower it
hex_from-ge : (n : ℕ) (ds : List ℕ) → n ≤ hex_from n ds
hex_from-ge n [] = omega arith
hex_from-ge n (d ∷ ds) = omega (arith, hex_from-ge (16 * n + hex_digit d) ds)

-- a value that isn't below the limit is none
below_limit-over : (n : ℕ) → 18446744073709551616 ≤ n → below_limit n ≡ None
below_limit-over n over = rw (le-ltb n 18446744073709551616 over) refl

-- where the value of the first digits is over the limit already, the value of all is none
pub decimal_value-over : (v n i : ℕ) (ds : List ℕ) → i < length ds → decimal_from v (drop i ds) ≡ decimal_from 0 ds → n ≡ 10 * v + (get_or ds i 0 - 48) → 18446744073709551616 ≤ n → None ≡ decimal_value ds
decimal_value-over v n i ds within left next over =
    let e : decimal_from v (drop i ds) ≡ decimal_from (10 * v + (get_or ds i 0 - 48)) (drop (suc i) ds) = rw (drop-cons ds i 0) refl in
    let more : n ≤ decimal_from n (drop (suc i) ds) = decimal_from-ge n (drop (suc i) ds) in
    let same : decimal_from n (drop (suc i) ds) ≡ decimal_from 0 ds = ap (λ m. decimal_from m (drop (suc i) ds)) next ∙ (sym e ∙ left) in
    sym (below_limit-over (decimal_from 0 ds) (omega arith))

pub hex_value-over : (v n i : ℕ) (ds : List ℕ) → i < length ds → hex_from v (drop i ds) ≡ hex_from 0 ds → n ≡ 16 * v + hex_digit (get_or ds i 0) → 18446744073709551616 ≤ n → None ≡ hex_value ds
hex_value-over v n i ds within left next over =
    let e : hex_from v (drop i ds) ≡ hex_from (16 * v + hex_digit (get_or ds i 0)) (drop (suc i) ds) = rw (drop-cons ds i 0) refl in
    let more : n ≤ hex_from n (drop (suc i) ds) = hex_from-ge n (drop (suc i) ds) in
    let same : hex_from n (drop (suc i) ds) ≡ hex_from 0 ds = ap (λ m. hex_from m (drop (suc i) ds)) next ∙ (sym e ∙ left) in
    sym (below_limit-over (hex_from 0 ds) (omega arith))
