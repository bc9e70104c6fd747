-- Counts by file.
use Rattle.std.specs.Prelude.{ℕ, Bool, ◌+◌, ◌-◌, nat_lt, ◌≡◌, List, Option, None, Some, slice_get, count_by, if◌then◌else◌}
use Rattle.uv_machine.specs.declared.object.Object.{Object}
use Rattle.uv_machine.specs.Objects.{is_live, is_doomed}
use Rattle.uv_num.specs.Place.{at_place}
use Rattle.uv_store.specs.declared.counts.CountChange.{CountChange}
use Rattle.uv_store.specs.declared.counts.CountChange.TheVariants.{OneMore, OneLess}

-- the count of a file, 0 where there is no such file
abbrev pub count_in : Option ℕ → ℕ
count_in None = 0
count_in (Some n) = n

abbrev pub count_at : List ℕ → ℕ → ℕ
count_at counts f = count_in (slice_get counts f)

-- each file's count is that of the objects which pass its test
abbrev pub AreCounts : List ℕ → (ℕ → Object → Bool) → List Object → Type 0
AreCounts counts p objects = (f : ℕ) → count_at counts f ≡ count_by (p f) objects

-- what becomes of a count
abbrev pub recounted : CountChange → ℕ → ℕ
recounted OneMore n = if nat_lt n 65536 then n + 1 else n
recounted OneLess n = n - 1

-- one more in the file of an object that is live
abbrev pub counted_if_live : Option Object → List ℕ → List ℕ
counted_if_live None counts = counts
counted_if_live (Some x) counts = if is_live x.phase then at_place counts x.file (recounted OneMore) else counts

-- one less in the file of an object that is doomed
abbrev pub uncounted_if_doomed : Object → List ℕ → List ℕ
uncounted_if_doomed x counts = if is_doomed x.phase then at_place counts x.file (recounted OneLess) else counts
