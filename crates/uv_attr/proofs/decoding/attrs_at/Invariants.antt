use Rattle.std.proofs.Common.{◌≡◌, ◌-◌, ◌*◌, ◌≤◌, ◌++◌, map, length}
use Rattle.uv_attr.specs.Reading.{raws, attr_of}
use Rattle.uv_attr.proofs.decoding.attrs_at.Given as goal

abbrev pub invariant-loop : goal.invariant-loop
invariant-loop l =
    (l.attrs ++ map attr_of (raws (l.count - l.counter) l.rest) ≡ map attr_of (raws l.count l.bytes))
    × (16 * (l.count - l.counter) ≤ length l.rest)
