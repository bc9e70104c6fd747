use Rattle.std.proofs.Common.{◌≡◌, false}
use Rattle.std.specs.List.{range_with_len}
use Rattle.uv_run.specs.Chains.{Chain}
use Rattle.uv_run.specs.Lines.{ClosesOwn}
use Rattle.uv_run.specs.Runs.{StaysSound, stand_of}
use Rattle.uv_run.specs.Site.{is_busy}
use Rattle.uv_run.specs.Sound.{site_of}
use Rattle.uv_run.proofs.running.Run.close_all_own.Given as goal

abbrev pub invariant-loop-file : goal.invariant-loop-file
invariant-loop-file l = Chain (ClosesOwn l.line l.client) (stand_of l.initial.self) (range_with_len 0 l.file) (stand_of l.self) × StaysSound l.initial.self.flights l.self.flights × (is_busy (site_of l.self.flights) l.client ≡ false)
