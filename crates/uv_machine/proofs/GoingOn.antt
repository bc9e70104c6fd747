-- Histories that go on by one more entry.
use Rattle.std.specs.Prelude.{◌≡◌, ◌++◌, List, [], ◌∷◌, refl}
use Rattle.uv_machine.specs.declared.entry.Entry.{Entry}
use Rattle.uv_machine.specs.declared.state.State.{State}
use Rattle.uv_machine.specs.Histories.{Allowed, after, state_from, IsLegalFrom}

pub state_from-snoc : (m : State) (h : List Entry) (e : Entry) → state_from m (h ++ e ∷ []) ≡ after (state_from m h) e
state_from-snoc m [] e = refl
state_from-snoc m (x ∷ h) e = state_from-snoc (after m x) h e

pub IsLegalFrom-snoc : (m : State) (h : List Entry) (e : Entry) → IsLegalFrom m h → Allowed (state_from m h) e → IsLegalFrom m (h ++ e ∷ [])
IsLegalFrom-snoc m [] e legal allowed = (allowed, tt)
IsLegalFrom-snoc m (x ∷ h) e legal allowed = (legal.0, IsLegalFrom-snoc (after m x) h e legal.1 allowed)
