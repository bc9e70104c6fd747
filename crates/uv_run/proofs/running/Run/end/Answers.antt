use Rattle.std.proofs.Common.{◌≡◌, ℕ, arith, subst}
use Rattle.std.specs.List.{range_with_len}
use Rattle.uv_num.specs.declared.limits.TheConstants.{ENDER, FILES}
use Rattle.uv_run.specs.Follows.{EndsAll, EndsFile}
use Rattle.uv_run.specs.Lines.{all_files}
use Rattle.uv_run.specs.Runs.{stand_of}
use Rattle.uv_run.proofs.ChainLaws.{Chain-below}
use Rattle.uv_machine.specs.Histories.{state_of}
use Rattle.uv_machine.specs.States.{phase_of}
use Rattle.uv_run.specs.Sound.{is_ending, site_of}
use Rattle.std.proofs.Common.{◌<◌, true}
use Rattle.uv_run.proofs.Overs.{all_idle, all_over, ending_more, idle_stays}
use Rattle.uv_run.proofs.RunSounds.{stays_then}
use Rattle.uv_run.proofs.running.Run.end.Goals as goal

pub loop-file-preserved : goal.loop-file-preserved
loop-file-preserved c =
    let inv = c.loop-file.invariant in
    let e = c.in_ok-end_open.ensures in (
      Chain-below EndsFile c.loop-file.file (stand_of c.args.self.now) (stand_of c.loop-file.self) (stand_of c.end_open.new.self) inv.0 e.ends,
      stays_then c.args.self.now.flights c.loop-file.self.flights c.end_open.new.self.flights inv.1 e.sound,
      idle_stays (site_of c.loop-file.self.flights) (site_of c.end_open.new.self.flights) ENDER inv.2 e.sound.idle,
      ending_more (state_of c.loop-file.self.flights.world.core.history) (state_of c.end_open.new.self.flights.world.core.history) c.loop-file.file inv.3 e.sound.ends e.ended,
    )

pub returns-clause-ends : goal.returns-clause-ends
unfolding all_files
returns-clause-ends c =
    let P : ℕ → Type 0 = λ n. EndsAll (stand_of c.args.self.now) (range_with_len 0 n) (stand_of c.loop-file.self) in
    subst P (let e : c.loop-file.file ≡ FILES = omega arith in e) c.loop-file.invariant.0

pub returns-clause-idle : goal.returns-clause-idle
returns-clause-idle c = let inv = c.loop-file.invariant in all_idle c.loop-file.self.flights inv.1.sound inv.2

pub returns-clause-over : goal.returns-clause-over
returns-clause-over c =
    let inv = c.loop-file.invariant in
    let P : ℕ → Type 0 = λ n. (g : ℕ) → g < n → is_ending (phase_of (state_of c.loop-file.self.flights.world.core.history) g) ≡ true in
    all_over c.loop-file.self.flights inv.1.sound inv.2 (subst P (let e : c.loop-file.file ≡ FILES = omega arith in e) inv.3)
