-- The least number that isn't taken, one number after another.
use Rattle.std.proofs.Common.{◌≡◌, ℕ, suc, ◌+◌, Bool, true, false, None, Some, refl}
use Rattle.uv_machine.specs.States.{least_from}

pub least_from_free : (taken : ℕ → Bool) (n k m : ℕ) → k ≡ suc m → taken n ≡ false → least_from taken n k ≡ Some n
unfolding least_from
least_from_free taken n k m e free = rw (e, free) refl

pub least_from_taken : (taken : ℕ → Bool) (n k m : ℕ) → k ≡ suc m → taken n ≡ true → least_from taken n k ≡ least_from taken (n + 1) m
unfolding least_from
least_from_taken taken n k m e is_taken = rw (e, is_taken) refl

pub least_from_none : (taken : ℕ → Bool) (n k : ℕ) → k ≡ 0 → least_from taken n k ≡ None
unfolding least_from
least_from_none taken n k e = rw e refl
