-- What `get` and `len` answer of a map of regions that was put together, for whoever calls `put`.
use Rattle.std.proofs.lemmas.Cmp.{nat_cmp_total}
use Rattle.std.specs.FinMap.{gets}

pub ruleset lent = (gets, nat_cmp_total)
