use Rattle.std.proofs.Common.{◌≡◌, ◌-◌, ◌*◌, ◌≤◌, length}
use Rattle.uv_attr.specs.Command.{repeats}
use Rattle.uv_attr.specs.Reading.{raws}
use Rattle.uv_attr.specs.Refusal.{raw_ids}
use Rattle.uv_attr.proofs.refusing.repeats_raw.Given as goal

abbrev pub invariant-loop-done : goal.invariant-loop-done
invariant-loop-done l =
    (repeats (raw_ids (raws (l.count - l.done) l.rest)) ≡ repeats (raw_ids (raws l.count l.bytes)))
    × (16 * (l.count - l.done) ≤ length l.rest)
