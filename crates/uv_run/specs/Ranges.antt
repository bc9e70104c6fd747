-- The ranges of what actors begin.
use Rattle.std.specs.Prelude.{ℕ, ◌≡◌, ◌≤◌, ◌<◌, true, Result, Ok, Err}
use Rattle.uv_num.specs.Ranges.{is_in_range}
use Rattle.uv_num.specs.declared.errno.Errno.{Errno}
use Rattle.uv_num.specs.declared.limits.TheConstants.{DEVICES, DRIVER, FILES}
use Rattle.uv_graph.specs.Conditions.{IsClient}
use Rattle.uv_run.specs.declared.flight.Task.{Task}
use Rattle.uv_run.specs.declared.flight.Task.TheVariants as task

-- files and devices are some; clients do all but the unplugs, which are the driver's; and the numbers of a call are in their
-- ranges
abbrev pub IsInReach : ℕ → Task → Type 0
IsInReach a (task.Opens f d) = IsClient a × (f < FILES) × (d < DEVICES)
IsInReach a (task.Calls f request) = IsClient a × (f < FILES) × (is_in_range request ≡ true)
IsInReach a (task.Closes f) = IsClient a × (f < FILES)
IsInReach a (task.Unplugs d) = (a ≡ DRIVER) × (d < DEVICES)

-- the clients and the driver
pub record IsFlier (a : ℕ) : Type 0 where
  pub first : 1 ≤ a
  pub last : a ≤ DRIVER

abbrev pub IsInDeed : ℕ → Result Task Errno → Type 0
IsInDeed a (Ok task) = IsInReach a task
IsInDeed a (Err e) = IsFlier a
