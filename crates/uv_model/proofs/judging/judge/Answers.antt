use Rattle.uv_model.proofs.Bads.{bad_where_none, legal_where_some, bad_where_some}
use Rattle.uv_model.proofs.judging.judge.Goals as goal

pub returns-in-Ok-None-clause-bad : goal.returns-in-Ok-None-clause-bad
returns-in-Ok-None-clause-bad c =
    bad_where_none c.args.history.now c.as_slice.result.now c.in-Ok-None.field-0 c.as_slice.ensures c.in-Ok-None.ensures c.in-Ok-None.field-0-is

pub returns-in-Ok-Some-clause-legal : goal.returns-in-Ok-Some-clause-legal
returns-in-Ok-Some-clause-legal c =
    legal_where_some c.args.history.now c.as_slice.result.now c.in-Ok-Some.field-0 c.as_slice.ensures c.in-Ok-Some.ensures c.in-Ok-Some.place c.in-Ok-Some.field-0-is

pub returns-in-Ok-Some-clause-bad : goal.returns-in-Ok-Some-clause-bad
returns-in-Ok-Some-clause-bad c =
    bad_where_some c.args.history.now c.as_slice.result.now c.in-Ok-Some.field-0 c.as_slice.ensures c.in-Ok-Some.ensures c.in-Ok-Some.place c.in-Ok-Some.field-0-is
