use Rattle.std.proofs.Common.{ap, sym, subst, ⊎_elim}
use Rattle.uv_machine.specs.declared.entry.Entry.{Entry}
use Rattle.uv_machine.specs.Histories.{Allowed, after}
use Rattle.uv_store.specs.Going.{IsStill}
use Rattle.uv_store.proofs.Passing.{ends, still_goes}
use Rattle.uv_store.proofs.store.Store.go_refused.Goals as goal

pub pass-requires : goal.pass-requires
pass-requires c =
    let m = c.args.self.now in
    let P : Entry → Type 0 = λ e. Allowed m e in
    let Q : Entry → Type 0 = λ e. IsStill m (after m e) in
    record {
      allowed = subst P (sym c.entry_by.ensures) c.requires.allowed;
      still = subst Q (sym c.entry_by.ensures) (still_goes m c.args.client c.args.step c.requires.refused (⊎_elim (λ k. ap ends k) (λ r. ⊎_elim (λ k. ap ends k) (λ r. ⊎_elim (λ k. ap ends k) (λ r. ⊎_elim (λ k. ap ends k) (λ r. ⊎_elim (λ k. ap ends k) (λ r. ⊎_elim (λ k. ap ends k) (λ r. ⊎_elim (λ k. ap ends k) (λ r. ⊎_elim (λ k. ap ends k) (λ r. ⊎_elim (λ k. ap ends k) (λ k. ap ends k) r) r) r) r) r) r) r) r) c.in-Reserve.is));
    }
