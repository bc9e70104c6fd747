-- What is so as a script ends.
use Rattle.std.specs.Prelude.{ℕ, ◌≡◌, ◌≤◌, false}
use Rattle.uv_run.specs.Site.{Site, is_busy}

-- the actors up to this one have nothing in flight
abbrev pub AreIdle : Site → ℕ → Type 0
AreIdle s n = (b : ℕ) → 1 ≤ b → b ≤ n → is_busy s b ≡ false
