-- What the call of an actor met that destroys an object: whether another call held the object at its Lock, or another object
-- used it at its Check.
use Rattle.std.specs.Prelude.{ℕ, Bool, false, ◌||◌, ◌==◌, List, [], ◌∷◌, if◌then◌else◌}
use Rattle.uv_machine.specs.declared.entry.Entry.{Entry}
use Rattle.uv_machine.specs.declared.entry.Entry.TheVariants.{Open, Enter, Step, Unplug, Tear, Kill, Gone, Dissociated, Closed}
use Rattle.uv_machine.specs.declared.entry.Word.{Word}
use Rattle.uv_machine.specs.declared.entry.Word.TheVariants.{Reserve, Look, Make, Commit, Act, Lock, Check, Finish, Abort, Free, Exit}
use Rattle.uv_machine.specs.declared.state.State.{State}
use Rattle.uv_machine.specs.States.{has_users, has_others, start}
use Rattle.uv_machine.specs.Histories.{after}

-- what stands against a step on this object
abbrev pub stands_against : State → ℕ → ℕ → Word → Bool
stands_against m c o Reserve = false
stands_against m c o Look = false
stands_against m c o Make = false
stands_against m c o Commit = false
stands_against m c o Act = false
stands_against m c o Lock = has_others m c o
stands_against m c o Check = has_users m o
stands_against m c o Finish = false
stands_against m c o Abort = false
stands_against m c o Free = false
stands_against m c o Exit = false

-- whether something stood against the actor's call, which begins with its Enter
abbrev pub stood_with : State → ℕ → Bool → Entry → Bool
stood_with m c stood (Open b f d a) = stood
stood_with m c stood (Enter b f request a) = if b == c then false else stood
stood_with m c stood (Step b w o found a) = if b == c then stood || stands_against m c o w else stood
stood_with m c stood (Unplug d) = stood
stood_with m c stood (Tear f by) = stood
stood_with m c stood (Kill o) = stood
stood_with m c stood (Gone o kept) = stood
stood_with m c stood (Dissociated f) = stood
stood_with m c stood (Closed f) = stood

abbrev pub stood_from : State → ℕ → Bool → List Entry → Bool
stood_from m c stood [] = stood
stood_from m c stood (e ∷ es) = stood_from (after m e) c (stood_with m c stood e) es

-- whether something stood against the actor's last call
abbrev pub has_stood : List Entry → ℕ → Bool
has_stood h c = stood_from start c false h
