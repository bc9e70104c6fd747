-- What holds of a state that a legal history leads to.
use Rattle.std.proofs.Common.{◌∙◌, [], ◌∷◌, ◌++◌, ap, sym, subst}
use Rattle.uv_machine.specs.declared.entry.Entry.{Entry}
use Rattle.uv_machine.specs.declared.state.State.{State}
use Rattle.uv_machine.specs.States.{start}
use Rattle.uv_machine.specs.Histories.{Allowed, after}
use Rattle.uv_machine.specs.Reached.{Reached, OwnStands, LooksStand, UsesStand, IsBounded}
use Rattle.uv_machine.proofs.GoingOn.{state_from-snoc, IsLegalFrom-snoc}
use Rattle.uv_machine.proofs.Reaching.{Reached-state_of}
use Rattle.uv_machine.proofs.Owning.{legal_own_stands}
use Rattle.uv_machine.proofs.Standing.{legal_looks_stand, legal_uses_stand}
use Rattle.uv_machine.proofs.Numbers.{legal_bounded}
use Rattle.uv_store.specs.Stored.{Rises, IsLegalState}

-- an entry that is allowed leads to one such again
pub goes_on : (m : State) (e : Entry) → IsLegalState m → Allowed m e → IsLegalState (after m e)
goes_on m e l allowed =
    let P : State → Type 0 = λ v. Allowed v e in
    record {
      history = l.history ++ e ∷ [];
      legal = IsLegalFrom-snoc start l.history e l.legal (subst P l.is allowed);
      is = ap (λ v. after v e) l.is ∙ sym (state_from-snoc start l.history e);
    }

module _ (m : State) (l : IsLegalState m) where
  pub reached : Reached m
  reached = let P : State → Type 0 = λ v. Reached v in subst P (sym l.is) (Reached-state_of l.history l.legal)

  pub own_stands : OwnStands m
  own_stands = let P : State → Type 0 = λ v. OwnStands v in subst P (sym l.is) (legal_own_stands l.history l.legal)

  pub looks_stand : LooksStand m
  looks_stand = let P : State → Type 0 = λ v. LooksStand v in subst P (sym l.is) (legal_looks_stand l.history l.legal)

  pub uses_stand : UsesStand m
  uses_stand = let P : State → Type 0 = λ v. UsesStand v in subst P (sym l.is) (legal_uses_stand l.history l.legal)

  pub bounded : IsBounded m
  bounded = let P : State → Type 0 = λ v. IsBounded v in subst P (sym l.is) (legal_bounded l.history l.legal)

  pub rises : Rises m.objects
  rises = record { top = m.made; rising = reached.graph.rising }
