-- The machine with its stored history, entry by entry.
use Rattle.std.proofs.Common.{◌≡◌, ℕ, ◌+◌, ◌-◌, ◌≤◌, ◌<◌, List, [], ◌∷◌, ◌++◌, refl, sym, ap, subst, ◌∙◌, arith}
use Rattle.uv_num.specs.declared.limits.TheConstants.{DEVICES}
use Rattle.uv_machine.specs.declared.entry.Entry.{Entry}
use Rattle.uv_machine.specs.declared.state.State.{State}
use Rattle.uv_machine.specs.States.{start}
use Rattle.uv_machine.specs.Cells.{full_pool}
use Rattle.uv_machine.specs.Histories.{Allowed, after, state_of}
use Rattle.uv_machine.specs.Accounts.{owed, costs}
use Rattle.uv_machine.specs.Logged.{IsLogged}
use Rattle.uv_machine.proofs.GoingOn.{state_from-snoc, IsLegalFrom-snoc}
use Rattle.uv_machine.proofs.Owing.{owed_after}

-- what an entry owes is covered, seen from the state beside the history
pub covers : (m n : State) (h : List Entry) (e : Entry) → m ≡ state_of h → Allowed (state_of h) e → n ≡ after m e → owed n + 1 ≤ owed m + costs e
covers m n h e replays allowed made =
    let P : State → Type 0 = λ s. owed (after s e) + 1 ≤ owed s + costs e in
    let Q : State → Type 0 = λ s. owed s + 1 ≤ owed m + costs e in
    subst Q (sym made) (subst P (sym replays) (owed_after (state_of h) e allowed))

-- one more entry keeps the parts together
pub kept_more : (m n : State) (h g : List Entry) (r s : ℕ) (e : Entry) → IsLogged m h r → Allowed (state_of h) e → costs e ≤ r - owed m → n ≡ after m e → g ≡ h ++ e ∷ [] → s + 1 ≡ r → IsLogged n g s
kept_more m n h g r s e kept allowed room made more less =
    let P : List Entry → Type 0 = λ v. IsLogged n v s in
    let covered : owed n + 1 ≤ owed m + costs e = covers m n h e kept.replays allowed made in
    let before : owed m ≤ r = kept.covered in
    subst P (sym more)
    record {
      replays = made ∙ ap (λ v. after v e) kept.replays ∙ sym (state_from-snoc start h e);
      legal = IsLegalFrom-snoc start h e kept.legal allowed;
      covered = omega (arith, covered, before, room, less);
    }

pub room_kept : (m n : State) (h : List Entry) (r s : ℕ) (e : Entry) → IsLogged m h r → Allowed (state_of h) e → costs e ≤ r - owed m → n ≡ after m e → s + 1 ≡ r → r - owed m ≤ (s - owed n) + costs e
room_kept m n h r s e kept allowed room made less =
    let covered : owed n + 1 ≤ owed m + costs e = covers m n h e kept.replays allowed made in
    let before : owed m ≤ r = kept.covered in
    omega (arith, covered, before, room, less)

-- there is room for an allowed entry that can be paid for
pub room_there : (m : State) (h : List Entry) (r : ℕ) (e : Entry) → IsLogged m h r → Allowed (state_of h) e → costs e ≤ r - owed m → 0 < r
room_there m h r e kept allowed room =
    let covered : owed (after m e) + 1 ≤ owed m + costs e = covers m (after m e) h e kept.replays allowed refl in
    let before : owed m ≤ r = kept.covered in
    omega (arith, covered, before, room)

owed_start : owed start ≡ DEVICES
unfolding start full_pool
owed_start = refl

-- at the start each device can be pulled, and nothing else is owed
pub kept_start : (m : State) (h : List Entry) (r : ℕ) → m ≡ start → h ≡ [] → r ≡ DEVICES → IsLogged m h r
kept_start m h r fresh none room =
    let P : List Entry → Type 0 = λ v. IsLogged m v r in
    let devices : owed m ≡ DEVICES = ap owed fresh ∙ owed_start in
    subst P (sym none) record { replays = fresh; legal = tt; covered = omega (arith, devices, room) }
