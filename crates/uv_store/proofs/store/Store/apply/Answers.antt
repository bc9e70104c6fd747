use Rattle.std.proofs.Common.{ap, ⊎_elim}
use Rattle.uv_store.proofs.Passing.{passes, still_entry}
use Rattle.uv_store.proofs.store.Store.apply.Goals as goal

pub pass-requires : goal.pass-requires
pass-requires c = record {
  allowed = c.requires;
  still = still_entry c.args.self.now c.args.entry c.requires (⊎_elim (λ k. ap passes k.4) (λ r. ⊎_elim (λ k. ap passes k.4) (λ r. ⊎_elim (λ k. ap passes k.1) (λ r. ⊎_elim (λ k. ap passes k.2) (λ k. ap passes k.1) r) r) r) c.in-Open.is);
}
