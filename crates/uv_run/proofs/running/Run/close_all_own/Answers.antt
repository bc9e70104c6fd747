use Rattle.std.proofs.Common.{◌≡◌, ℕ, arith, subst}
use Rattle.std.specs.List.{range_with_len}
use Rattle.uv_num.specs.declared.limits.TheConstants.{FILES}
use Rattle.uv_run.specs.Chains.{Chain}
use Rattle.uv_run.specs.Lines.{ClosesOwn, all_files}
use Rattle.uv_run.specs.Runs.{stand_of}
use Rattle.uv_run.proofs.ChainLaws.{Chain-below}
use Rattle.uv_run.proofs.RunSounds.{stays_then}
use Rattle.uv_run.proofs.running.Run.close_all_own.Goals as goal

pub loop-file-preserved : goal.loop-file-preserved
loop-file-preserved c =
    let inv = c.loop-file.invariant in
    let e = c.in_ok-close_own.ensures in (
      Chain-below (ClosesOwn c.args.line c.args.client) c.loop-file.file (stand_of c.args.self.now) (stand_of c.loop-file.self) (stand_of c.close_own.new.self) inv.0 e.closes,
      stays_then c.args.self.now.flights c.loop-file.self.flights c.close_own.new.self.flights inv.1 e.sound,
      e.free,
    )

pub returns-clause-closes : goal.returns-clause-closes
unfolding all_files
returns-clause-closes c =
    let P : ℕ → Type 0 = λ n. Chain (ClosesOwn c.args.line c.args.client) (stand_of c.args.self.now) (range_with_len 0 n) (stand_of c.loop-file.self) in
    subst P (let e : c.loop-file.file ≡ FILES = omega arith in e) c.loop-file.invariant.0
