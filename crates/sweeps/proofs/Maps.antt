-- What `get` and `len` answer of a map without entries, for whoever puts the first region.
use Rattle.std.proofs.lemmas.Cmp.{nat_cmp_total}
use Rattle.std.specs.FinMap.{gets}

pub ruleset first_put = (gets, nat_cmp_total)
