-- The bits of a life word.
use Rattle.std.proofs.Common.{◌≡◌, ℕ, ◌+◌, ◌*◌, ◌/◌, ◌%◌, ◌^◌, ◌<◌, ◌≤◌, sym, ap, ◌∙◌, arith, bit_or, bit_and}
use mathlib.Core.Logic.{dite}
use native.Mathlib.Decide.{dec_lt}
use Rattle.std.specs.Int.{bit_at, bit_not}
use Rattle.std.specs.Int.Bits.{or_zero_r}
use Rattle.std.proofs.lemmas.Nat.{or_shr, or_disjoint, shr-shr, shl-shr, and_le_l, shr_split}
use Rattle.std.proofs.lemmas.Nat.Bits.{bit_at_or, bit_at-pow_same, bit_at-lt, bit_at_clear_other, bit_at_above, bit_at_cat_low, bit_at-zero, same_from_bits, bit_at_lowest, and_pow}
use Rattle.std.proofs.Math.Pow.{pow-lt}
use Rattle.std.proofs.Math.Nat.{div-eq_of_lt, mod-eq_of_lt, one-mul}
use mir.Val.{bits}
use mir.Syntax.{w64}

-- a bit that is set stays so under `|`
pub or_keeps : (w k i : ℕ) → bit_at w i ≡ 1 → bit_at (bit_or w k) i ≡ 1
or_keeps w k i e = let o = bit_at_or w k i in let l = bit_at-lt (bit_or w k) i in let l' = bit_at-lt k i in omega arith

pub or_sets : (w n : ℕ) → bit_at (bit_or w (2 ^ n)) n ≡ 1
or_sets w n = let o = bit_at_or w (2 ^ n) n in let p = bit_at-pow_same n in let l = bit_at-lt w n in omega arith

pub or_low_top : (w k n : ℕ) → k ≡ 2 ^ n → n < 32 → bit_or w k / 4294967296 ≡ w / 4294967296
or_low_top w k n is lt =
    let small : 2 ^ n < 2 ^ 32 = pow-lt lt in
    let z : k / 2 ^ 32 ≡ 0 = ap (λ x. x / 2 ^ 32) is ∙ div-eq_of_lt small in
    or_shr w k 32 ∙ (ap (λ x. bit_or (w / 2 ^ 32) x) z ∙ or_zero_r (w / 2 ^ 32))

shifted : (n i : ℕ) → bit_at (n / 2 ^ 32) i ≡ bit_at n (32 + i)
shifted n i = ap (λ x. x % 2) (shr-shr n 32 i)

pub and_clear_top : (w n : ℕ) → w < 2 ^ 64 → n < 32 → bit_and w (bit_not w64 (1 * 2 ^ n % 2 ^ bits w64)) / 2 ^ 32 ≡ w / 2 ^ 32
and_clear_top w n fits lt = let m : ℕ = bit_not w64 (1 * 2 ^ n % 2 ^ bits w64) in
    same_from_bits (bit_and w m / 2 ^ 32) (w / 2 ^ 32) (λ i. dite (dec_lt (32 + i) 64)
    (λ below. shifted (bit_and w m) i ∙ (bit_at_clear_other w64 w n (omega arith) (32 + i) below (λ e. omega arith) ∙ sym (shifted w i)))
    (λ not. let le : 64 ≤ 32 + i = omega arith in
    shifted (bit_and w m) i ∙ (bit_at_above (bit_and w m) 64 (32 + i) (let l = and_le_l w m in let g : bit_and w m < 2 ^ 64 = omega arith in g) le ∙ (sym (bit_at_above w 64 (32 + i) fits le) ∙ sym (shifted w i)))))

pub low_none : (w n : ℕ) → w % 4294967296 ≡ 0 → n < 32 → bit_at w n ≡ 0
low_none w n z lt = let q : w / 2 ^ 32 * 2 ^ 32 + w % 2 ^ 32 ≡ w = shr_split w 32 in
    let e : w ≡ w / 2 ^ 32 * 2 ^ 32 + 0 = sym q ∙ ap (λ x. w / 2 ^ 32 * 2 ^ 32 + x) z in
    ap (λ x. bit_at x n) e ∙ (bit_at_cat_low (w / 2 ^ 32) 32 0 n lt ∙ bit_at-zero n)

pub or_live : (w g : ℕ) → w / 4294967296 ≡ 4 * g + 0 → bit_or w 4294967296 / 4294967296 ≡ 4 * g + 1
or_live w g e = let z : bit_at (4 * g) 0 ≡ 0 = bit_at_lowest (4 * g) ∙ (omega arith) in let a : bit_and (4 * g) 1 ≡ 0 = and_pow (4 * g) 0 ∙ ap (λ x. x * 1) z in
    or_shr w 4294967296 32 ∙ (ap (λ x. bit_or x 1) (e ∙ (omega arith)) ∙ or_disjoint (4 * g) 1 a)

pub or_dying : (w g : ℕ) → w / 4294967296 ≡ 4 * g + 1 → bit_or w 8589934592 / 4294967296 ≡ 4 * g + 3
or_dying w g e = let z : bit_at (4 * g + 1) 1 ≡ 0 = omega arith in let a : bit_and (4 * g + 1) 2 ≡ 0 = and_pow (4 * g + 1) 1 ∙ ap (λ x. x * 2) z in
    or_shr w 8589934592 32 ∙ (ap (λ x. bit_or x 2) e ∙ (or_disjoint (4 * g + 1) 2 a ∙ (omega arith)))

pub bit_is : (n : ℕ) → n < 32 → 1 * 2 ^ n % 2 ^ bits w64 ≡ 2 ^ n
bit_is n lt = let small : 2 ^ n < 2 ^ 32 = pow-lt lt in ap (λ x. x % 2 ^ 64) (one-mul (2 ^ n)) ∙ mod-eq_of_lt (omega arith)

pub bury_top : (n : ℕ) → n < 2 ^ 30 → n * 2 ^ 34 % 2 ^ 64 / 4294967296 ≡ 4 * n
bury_top n lt = let e : n * 2 ^ 34 % 2 ^ 64 ≡ 4 * n * 2 ^ 32 = mod-eq_of_lt (omega arith) ∙ (omega arith) in ap (λ x. x / 2 ^ 32) e ∙ shl-shr (4 * n) 32
