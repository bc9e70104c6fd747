-- What a call takes of the room that is set aside for refused entries.
use Rattle.std.proofs.Common.{◌≡◌, ◌≢◌, ℕ, ◌+◌, ◌≤◌, Bool, true, false, List, Option, Some, None, refl, ap, sym, subst, arith, inl, inr}
use Rattle.std.specs.Prelude.{Ok, Err, slice_get, unwrap_or, option_map, ◌==◌, cond}
use Rattle.std.proofs.lemmas.Bool.{eqb-true, eqb-false}
use Rattle.uv_num.specs.declared.limits.TheConstants.{DRIVER}
use Rattle.uv_num.specs.Place.{at_place}
use Rattle.uv_num.proofs.PlaceLaws.{slice_get-at_place_same, slice_get-at_place_other}
use Rattle.uv_machine.specs.declared.entry.Answer.TheVariants as answer
use Rattle.uv_machine.specs.declared.entry.Entry.{Entry}
use Rattle.uv_machine.specs.declared.entry.Entry.TheVariants as entry
use Rattle.uv_graph.specs.declared.told.Progress.TheVariants as progress
use Rattle.uv_graph.specs.declared.told.Swept.TheVariants as swept
use Rattle.uv_graph.specs.declared.told.Torn.{Torn}
use Rattle.uv_graph.specs.declared.told.Torn.TheVariants as torn
use Rattle.uv_graph.specs.Kept.{Kept, spare_of, one_less}
use Rattle.uv_graph.specs.Notes.{NotesOrSpares, NotesSpared}
use Rattle.uv_graph.specs.Turns.{TearGives}
use Rattle.uv_core.specs.Plays.{Call, CallGives, takes_spare}

same_spare : (old new : Kept) (b n : ℕ) → new.spares ≡ old.spares → spare_of old b ≤ spare_of new b + n
same_spare old new b n same = let e = ap (λ v. unwrap_or (slice_get v b) 0) same in omega (arith, e)

all_spare : (old new : Kept) (b n : ℕ) → new ≡ old → spare_of old b ≤ spare_of new b + n
all_spare old new b n same = same_spare old new b n (ap (λ (k : Kept). k.spares) same)

less_by : (slot : Option ℕ) → unwrap_or slot 0 ≤ unwrap_or (option_map one_less slot) 0 + 1
less_by None = omega arith
less_by (Some n) = omega arith

less_at : (xs : List ℕ) (c b : ℕ) (same : Bool) → (same ≡ true → c ≡ b) → (same ≡ false → c ≢ b) → unwrap_or (slice_get xs b) 0 ≤ unwrap_or (slice_get (at_place xs c one_less) b) 0 + cond same 1 0
less_at xs c b true is other =
    let P : ℕ → Type 0 = λ n. unwrap_or (slice_get xs n) 0 ≤ unwrap_or (slice_get (at_place xs c one_less) n) 0 + 1 in
    let here = ap (λ v. unwrap_or v 0) (slice_get-at_place_same xs c one_less) in
    let less = less_by (slice_get xs c) in
    subst P (is refl) (omega (arith, here, less))
less_at xs c b false is other =
    let there = ap (λ v. unwrap_or v 0) (slice_get-at_place_other xs c b one_less (λ e. other refl (sym e))) in
    omega (arith, there)

-- one entry is taken of what is set aside for this client
spare_less : (old new : Kept) (e : Entry) (c b : ℕ) → NotesSpared old new e c → spare_of old b ≤ spare_of new b + cond (c == b) 1 0
spare_less old new e c b n =
    let now = ap (λ v. unwrap_or (slice_get v b) 0) n.spares in
    let less = less_at old.spares c b (c == b) (eqb-true c b) (eqb-false c b) in
    omega (arith, now, less)

spare_or : (old new : Kept) (e : Entry) (c b : ℕ) → NotesOrSpares old new e c → spare_of old b ≤ spare_of new b + cond (c == b) 1 0
spare_or old new e c b (NotesOrSpares.InNew notes) = same_spare old new b (cond (c == b) 1 0) notes.spares
spare_or old new e c b (NotesOrSpares.InSpare notes less) = spare_less old new e c b notes

spare_tear : (old new : Kept) (f by b : ℕ) (r : Torn) → TearGives old new f by r → spare_of old b ≤ spare_of new b + 0
spare_tear old new f by b torn.Began g = same_spare old new b 0 g.spares
spare_tear old new f by b (torn.NotYet actor) g = all_spare old new b 0 g
spare_tear old new f by b (torn.Refused e) g = all_spare old new b 0 g

-- an open, an enter or a refusal of a client takes one at most, and no other call takes any
pub spare_one : (old new : Kept) (call : Call) (b : ℕ) → CallGives old new call → spare_of old b ≤ spare_of new b + cond (takes_spare b call) 1 0
spare_one old new (Call.Opens c f d (Ok u)) b g = same_spare old new b (cond (c == b) 1 0) g.notes.spares
spare_one old new (Call.Opens c f d (Err e)) b (inl g) = spare_or old new (entry.Open c f d (answer.Refused e)) c b g.notes
spare_one old new (Call.Opens c f d (Err e)) b (inr g) = all_spare old new b (cond (c == b) 1 0) g.dry.same
spare_one old new (Call.Enters c f request (Ok u)) b g = same_spare old new b (cond (c == b) 1 0) g.notes.spares
spare_one old new (Call.Enters c f request (Err e)) b (inl g) = spare_or old new (entry.Enter c f request (answer.Refused e)) c b g.notes
spare_one old new (Call.Enters c f request (Err e)) b (inr g) = all_spare old new b (cond (c == b) 1 0) g.dry.same
spare_one old new (Call.Refuses c f request e) b g = spare_less old new (entry.Enter c f request (answer.Refused e)) c b g.1
spare_one old new (Call.Steps c (progress.Went w)) b g = same_spare old new b 0 g.notes.spares
spare_one old new (Call.Steps c (progress.Refused w e)) b g = same_spare old new b 0 g.notes.spares
spare_one old new (Call.Steps c (progress.Plant deed object kind)) b g = same_spare old new b 0 g.hands.notes.spares
spare_one old new (Call.Steps c (progress.Touch kind index generation)) b g = all_spare old new b 0 g.same
spare_one old new (Call.Steps c (progress.Retire deed object kind)) b g = same_spare old new b 0 g.hands.notes.spares
spare_one old new (Call.Steps c (progress.Ended a)) b g = same_spare old new b 0 g.notes.spares
spare_one old new (Call.Plants c deed) b g = same_spare old new b 0 g.spares
spare_one old new (Call.Acts c found said) b g = same_spare old new b 0 g.notes.spares
spare_one old new (Call.Finishes c deed kept) b g = same_spare old new b 0 g.notes.spares
spare_one old new (Call.Unplugs d (Ok u)) b g = same_spare old new b 0 g.notes.spares
spare_one old new (Call.Unplugs d (Err e)) b g = all_spare old new b 0 g.same
spare_one old new (Call.Closes by f r) b g = spare_tear old new f by b r g.1
spare_one old new (Call.Tears d f r) b g = spare_tear old new f DRIVER b r g.1
spare_one old new (Call.Sweeps by f (swept.Kill deed object kind handle)) b g = same_spare old new b 0 g.hands.notes.spares
spare_one old new (Call.Sweeps by f swept.Done) b g = same_spare old new b 0 g.notes.spares
spare_one old new (Call.Sweeps by f (swept.NotYet n)) b g = all_spare old new b 0 g.same
spare_one old new (Call.Releases by f deed kept) b g = same_spare old new b 0 g.notes.spares
