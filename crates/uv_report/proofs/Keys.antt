-- Keys, as the library pads them.
use Rattle.std.specs.Prelude.{◌≡◌, ◌-◌, ◌^◌, false, List, [], ℕ, length}
use Rattle.std.proofs.Common.{append-nil, arith}
use Rattle.std.specs.Fmt.{padded_integral, format_spec, char_count}
use Rattle.uv_report.specs.Report.{eight_digits}

-- what `{:08x}` writes of the digits of a number
pub padded_eight : (ds : List ℕ) → padded_integral (format_spec 32 0 4 8 (2 ^ 64 - 1)) false [] ds ≡ eight_digits ds
unfolding padded_integral char_count
padded_eight ds =
    let zeros : 8 - length ds - 0 - 0 ≡ 8 - length ds = omega arith in
    rw (zeros, append-nil)
