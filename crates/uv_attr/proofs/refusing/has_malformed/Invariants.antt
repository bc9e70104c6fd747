use Rattle.std.proofs.Common.{◌≡◌, ◌-◌, ◌*◌, ◌≤◌, length}
use Rattle.std.specs.List.{list_any}
use Rattle.uv_attr.specs.Reading.{raws}
use Rattle.uv_attr.specs.Refusal.{is_malformed}
use Rattle.uv_attr.proofs.refusing.has_malformed.Given as goal

abbrev pub invariant-loop : goal.invariant-loop
invariant-loop l =
    (list_any is_malformed (raws (l.count - l.counter) l.rest) ≡ list_any is_malformed (raws l.count l.bytes))
    × (16 * (l.count - l.counter) ≤ length l.rest)
