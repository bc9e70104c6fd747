use Rattle.uv_num.proofs.Alike.{request_decides}
use Rattle.uv_num.proofs.request.Request.is_same.Goals as goal

pub returns : goal.returns
returns c = request_decides _ _ _ c.eq.ensures
