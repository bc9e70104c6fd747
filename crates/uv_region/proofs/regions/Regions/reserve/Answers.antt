use Rattle.std.proofs.Common.{ap, sym, ◌∙◌}
use Rattle.std.specs.FinMap as map
use Rattle.uv_region.specs.Lent.{with_room}
use Rattle.uv_region.proofs.Lending.{goes_back, put_again, insert-same, remove-none}
use Rattle.uv_region.proofs.regions.Regions.reserve.Goals as goal

pub put-requires-clause-room : goal.put-requires-clause-room
put-requires-clause-room c = (goes_back c.self.inside.places c.args.self.now c.take.new.self c.args.key (c.in-Some.region, c.in-Some.window) c.self.invariant c.self.view_is c.in-Some.ensures.taken c.take.ensures.rest).0

pub put-requires-clause-apart : goal.put-requires-clause-apart
put-requires-clause-apart c = (goes_back c.self.inside.places c.args.self.now c.take.new.self c.args.key (c.in-Some.region, c.in-Some.window) c.self.invariant c.self.view_is c.in-Some.ensures.taken c.take.ensures.rest).1

pub put-requires-in-Err-clause-room : goal.put-requires-in-Err-clause-room
put-requires-in-Err-clause-room c = (goes_back c.self.inside.places c.args.self.now c.take.new.self c.args.key (c.in-Some.region, c.in-Some.window) c.self.invariant c.self.view_is c.in-Some.ensures.taken c.take.ensures.rest).0

pub put-requires-in-Err-clause-apart : goal.put-requires-in-Err-clause-apart
put-requires-in-Err-clause-apart c = (goes_back c.self.inside.places c.args.self.now c.take.new.self c.args.key (c.in-Some.region, c.in-Some.window) c.self.invariant c.self.view_is c.in-Some.ensures.taken c.take.ensures.rest).1

pub returns-in-Ok-clause-ok : goal.returns-in-Ok-clause-ok
returns-in-Ok-clause-ok c =
    put_again c.args.self.now c.take.new.self _ c.args.key (c.reserve.new.self, c.in-Some.window) c.take.ensures.rest c.put.ensures
    ∙ ap (λ r. map.insert c.args.self.now c.args.key (r, c.in-Some.window)) c.in-Ok.ensures.ok
    ∙ ap (with_room c.args.self.now c.args.key c.args.more) c.in-Some.ensures.taken

pub returns-in-Err-clause-err : goal.returns-in-Err-clause-err
returns-in-Err-clause-err c =
    put_again c.args.self.now c.take.new.self _ c.args.key (c.reserve.new.self, c.in-Some.window) c.take.ensures.rest c.put-in-Err.ensures
    ∙ ap (λ r. map.insert c.args.self.now c.args.key (r, c.in-Some.window)) c.in-Err.ensures.err
    ∙ insert-same c.args.self.now c.args.key (c.in-Some.region, c.in-Some.window) (sym c.in-Some.ensures.taken)

pub returns-in-None-clause-ok : goal.returns-in-None-clause-ok
returns-in-None-clause-ok c =
    c.take.ensures.rest
    ∙ remove-none c.args.self.now c.args.key (sym c.in-None.ensures.taken)
    ∙ ap (with_room c.args.self.now c.args.key c.args.more) c.in-None.ensures.taken
