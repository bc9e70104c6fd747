-- What is ahead gets less.
use Rattle.std.proofs.Common.{◌≡◌, ℕ, ◌+◌, ◌<◌, ◌≤◌, List, [], ◌∷◌, ◌++◌, Option, Some, None, slice_get, refl, ap, subst, arith}
use Rattle.std.specs.Prelude.{sum_by}
use Rattle.uv_num.specs.Place.{at_place, changed_item}
use Rattle.uv_num.proofs.PlaceLaws.{sum_by-at_place}
use Rattle.uv_machine.specs.declared.entry.Entry.{Entry}
use Rattle.uv_machine.specs.Accounts.{costs, owed}
use Rattle.uv_machine.specs.Histories.{IsLegal, after, state_of}
use Rattle.uv_machine.proofs.Owing.{owed_after}
use Rattle.uv_graph.specs.Seats.{slot_of}
use Rattle.uv_graph.specs.Slots.{put_slot}
use Rattle.uv_run.specs.declared.flight.Teardown.{Teardown}
use Rattle.uv_run.specs.declared.flights.Flights.{Flights}
use Rattle.uv_run.specs.Progress.{ahead, flying}
use Rattle.uv_run.specs.Sound.{site_of}
use Rattle.uv_run.proofs.CallSounds.{last_allowed, state_more}

-- by an entry that costs nothing
pub entry_lowers :
    (old new : Flights) (e : Entry) → IsLegal new.world.core.history → new.world.core.history ≡ old.world.core.history ++ e ∷ [] → costs e ≡ 0 → sum_by flying new.teardowns ≤ sum_by flying old.teardowns
    → ahead (site_of new) < ahead (site_of old)
entry_lowers old new e legal more free fewer =
    let m = state_of old.world.core.history in
    let covers : owed (after m e) + 1 ≤ owed m + costs e = owed_after m e (last_allowed old.world.core.history new.world.core.history e legal more) in
    let now : owed (state_of new.world.core.history) ≡ owed (after m e) = ap owed (state_more old.world.core.history new.world.core.history e more) in
    omega (arith, covers, now, free, fewer)

there : (slot : Option (Option Teardown)) (t : Teardown) → slot_of slot ≡ Some t → slot ≡ Some (Some t)
there None t e = absurd (cc)
there (Some None) t e = absurd (cc)
there (Some (Some x)) t e = ap (λ (v : Option Teardown). Some v) e

-- by the end of a teardown
pub end_lowers : (ts : List (Option Teardown)) (a : ℕ) (t : Teardown) → slot_of (slice_get ts a) ≡ Some t → sum_by flying (at_place ts a (put_slot None)) < sum_by flying ts
end_lowers ts a t is =
    let e : sum_by flying (at_place ts a (put_slot None)) + 1 ≡ sum_by flying ts + 0 = sum_by-at_place flying ts a (put_slot None) (Some t) (there (slice_get ts a) t is) in
    omega (arith, e)

fewer_at : (ts : List (Option Teardown)) (a : ℕ) (slot : Option (Option Teardown)) → slice_get ts a ≡ slot → sum_by flying (changed_item ts a (put_slot None) slot) ≤ sum_by flying ts
fewer_at ts a None is = omega arith
fewer_at ts a (Some None) is =
    let e : sum_by flying (at_place ts a (put_slot None)) + 0 ≡ sum_by flying ts + 0 = sum_by-at_place flying ts a (put_slot None) None is in
    let P : Option (Option Teardown) → Type 0 = λ v. sum_by flying (changed_item ts a (put_slot None) v) ≤ sum_by flying ts in
    subst P is (omega (arith, e))
fewer_at ts a (Some (Some t)) is =
    let e : sum_by flying (at_place ts a (put_slot None)) + 1 ≡ sum_by flying ts + 0 = sum_by-at_place flying ts a (put_slot None) (Some t) is in
    let P : Option (Option Teardown) → Type 0 = λ v. sum_by flying (changed_item ts a (put_slot None) v) ≤ sum_by flying ts in
    subst P is (omega (arith, e))

-- a slot that is emptied adds none
pub fewer_none : (ts : List (Option Teardown)) (a : ℕ) → sum_by flying (at_place ts a (put_slot None)) ≤ sum_by flying ts
fewer_none ts a = fewer_at ts a (slice_get ts a) refl
