use Rattle.std.proofs.Common.{◌≡◌, ◌-◌, ◌*◌, ◌≤◌, length}
use Rattle.std.specs.Prelude.{◌==◌}
use Rattle.std.specs.List.{list_any}
use Rattle.uv_attr.specs.Reading.{raws}
use Rattle.uv_attr.specs.Refusal.{raw_ids}
use Rattle.uv_attr.proofs.refusing.stands_in.Given as goal

abbrev pub invariant-loop : goal.invariant-loop
invariant-loop l =
    (list_any (λ other. other == l.id) (raw_ids (raws (l.count - l.counter) l.rest)) ≡ list_any (λ other. other == l.id) (raw_ids (raws l.count l.bytes)))
    × (16 * (l.count - l.counter) ≤ length l.rest)
