-- What a step makes of its call, and of the cells of an object.
use Rattle.std.specs.Prelude.{List, if◌then◌else◌}
use Rattle.uv_num.specs.Kind.{kind_place}
use Rattle.uv_num.specs.Place.{at_place}
use Rattle.uv_machine.specs.declared.call.InFlight.{InFlight}
use Rattle.uv_machine.specs.declared.object.Object.{Object}
use Rattle.uv_machine.specs.declared.pool.Pool.{Pool}
use Rattle.uv_machine.specs.Cells.{buried_at}
use Rattle.uv_machine.specs.Objects.{is_doomed}
use Rattle.uv_machine.specs.Plans.{moved_on, with_number, with_outcome, without_lock}
use Rattle.uv_store.specs.declared.turns.CallTurn.{CallTurn}
use Rattle.uv_store.specs.declared.turns.CallTurn.TheVariants.{GoesOn, SetsAside, LetsGo, Tells}

abbrev pub call_turned : CallTurn → InFlight → InFlight
call_turned GoesOn = moved_on
call_turned (SetsAside number) = with_number number
call_turned LetsGo = without_lock
call_turned (Tells answer) = with_outcome answer

-- the cell of an object that is doomed is buried
abbrev pub buried_with : Object → List Pool → List Pool
buried_with x pools = if is_doomed x.phase then at_place pools (kind_place x.kind) (buried_at x.index) else pools
