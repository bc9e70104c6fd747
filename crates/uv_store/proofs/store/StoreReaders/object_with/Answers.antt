use Rattle.uv_store.proofs.Legal.{rises}
use Rattle.uv_store.proofs.store.StoreReaders.object_with.Goals as goal

pub with_id-requires : goal.with_id-requires
with_id-requires c = rises _ c.self.invariant.legal
