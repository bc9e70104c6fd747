-- What stays true of a ring over many uses.
use Rattle.std.proofs.Common.{ℕ, ◌+◌, ◌≤◌, Bool, true, false, not, ◌||◌, Option, Some, List, [], ◌∷◌, ◌++◌, ◌≡◌, refl, ap, sym, subst, ◌∙◌, append_assoc, append-nil, arith, if◌then◌else◌}
use Rattle.std.proofs.Math.Bool.{or-false, or-true, or_assoc}
use Rattle.std.specs.List.{list_any}
use Rattle.std.specs.Prelude.{is_some}
use Rattle.std.specs.Option.{option_to_list}
use Rattle.uv_queue.specs.Order.{with_newest, oldest, without_oldest}
use Rattle.uv_wr.specs.declared.completion.Completion.{Completion}
use Rattle.uv_cq.specs.declared.ring.Arming.{Arming}
use Rattle.uv_cq.specs.declared.ring.Arming.TheVariants.{All}
use Rattle.uv_cq.specs.Rings.{Ringed, has_room, armed_again}
use Rattle.uv_cq.specs.Uses.{Use, UseInOrder, AreJoined, AreInOrder, IsMarked, StaysArmed, HasFewEndings, after_use, after_uses, told_by, told_in, kept_by, kept_by_uses, loses, loses_in, is_disarming, armings_in, endings_in}
use Rattle.uv_cq.specs.Uses.Use.{Pushes, Polls, Arms, Disarms}

oldest_first : (xs : List Completion) → option_to_list (oldest xs) ++ without_oldest xs ≡ xs ++ []
oldest_first [] = refl
oldest_first (x ∷ xs) = sym (append-nil (x ∷ xs))

-- a completion goes behind the others where there is room
put_in_order : (room : Bool) (r : Ringed) (c : Completion) → (if room then record r { completions = with_newest r.completions c } else record r { overrun = true }).completions ≡ r.completions ++ (if room then c ∷ [] else [])
put_in_order true r c = refl
put_in_order false r c = sym (append-nil r.completions)

pub one_in_order : (r : Ringed) (u : Use) → UseInOrder r u
one_in_order r (Pushes c solicited) = put_in_order (has_room r) r c
one_in_order r Polls = oldest_first r.completions
one_in_order r (Arms solicited) = sym (append-nil r.completions)
one_in_order r Disarms = sym (append-nil r.completions)

pub in_order : (r : Ringed) (uses : List Use) → AreInOrder r uses
in_order r [] = sym (append-nil r.completions)
in_order r (u ∷ uses) =
    append_assoc (told_by r u) (told_in (after_use r u) uses) (after_uses (after_use r u) uses).completions
    ∙ ap (λ v. told_by r u ++ v) (in_order (after_use r u) uses)
    ∙ sym (append_assoc (told_by r u) (after_use r u).completions (kept_by_uses (after_use r u) uses))
    ∙ ap (λ v. v ++ kept_by_uses (after_use r u) uses) (one_in_order r u)
    ∙ append_assoc r.completions (kept_by r u) (kept_by_uses (after_use r u) uses)

marked_at_put : (room : Bool) (r : Ringed) (c : Completion) → (if room then record r { completions = with_newest r.completions c } else record r { overrun = true }).overrun ≡ (r.overrun || not room)
marked_at_put true r c = sym (or-false r.overrun)
marked_at_put false r c = sym (or-true r.overrun)

one_marked : (r : Ringed) (u : Use) → (after_use r u).overrun ≡ (r.overrun || loses r u)
one_marked r (Pushes c solicited) = marked_at_put (has_room r) r c
one_marked r Polls = sym (or-false r.overrun)
one_marked r (Arms solicited) = sym (or-false r.overrun)
one_marked r Disarms = sym (or-false r.overrun)

pub marked : (r : Ringed) (uses : List Use) → IsMarked r uses
marked r [] = sym (or-false r.overrun)
marked r (u ∷ uses) =
    marked (after_use r u) uses
    ∙ ap (λ v. v || loses_in (after_use r u) uses) (one_marked r u)
    ∙ or_assoc r.overrun (loses r u) (loses_in (after_use r u) uses)

armed_at_put : (room : Bool) (r : Ringed) (c : Completion) → (if room then record r { completions = with_newest r.completions c } else record r { overrun = true }).armed ≡ r.armed
armed_at_put true r c = refl
armed_at_put false r c = refl

pub stays_armed : (r : Ringed) (uses : List Use) → r.armed ≡ Some All → list_any is_disarming uses ≡ false → StaysArmed r uses
stays_armed r [] e d = e
stays_armed r (Pushes c solicited ∷ uses) e d = stays_armed (after_use r (Pushes c solicited)) uses (armed_at_put (has_room r) r c ∙ e) d
stays_armed r (Polls ∷ uses) e d = stays_armed (after_use r Polls) uses e d
stays_armed r (Arms solicited ∷ uses) e d = stays_armed (after_use r (Arms solicited)) uses (ap (λ v. Some (armed_again v solicited)) e) d
stays_armed r (Disarms ∷ uses) e d = cc

joined_ring : (r : Ringed) (uses more : List Use) → after_uses r (uses ++ more) ≡ after_uses (after_uses r uses) more
joined_ring r [] more = refl
joined_ring r (u ∷ uses) more = joined_ring (after_use r u) uses more

joined_kept : (r : Ringed) (uses more : List Use) → kept_by_uses r (uses ++ more) ≡ kept_by_uses r uses ++ kept_by_uses (after_uses r uses) more
joined_kept r [] more = refl
joined_kept r (u ∷ uses) more =
    ap (λ v. kept_by r u ++ v) (joined_kept (after_use r u) uses more)
    ∙ sym (append_assoc (kept_by r u) (kept_by_uses (after_use r u) uses) (kept_by_uses (after_uses (after_use r u) uses) more))

joined_told : (r : Ringed) (uses more : List Use) → told_in r (uses ++ more) ≡ told_in r uses ++ told_in (after_uses r uses) more
joined_told r [] more = refl
joined_told r (u ∷ uses) more =
    ap (λ v. told_by r u ++ v) (joined_told (after_use r u) uses more)
    ∙ sym (append_assoc (told_by r u) (told_in (after_use r u) uses) (told_in (after_uses (after_use r u) uses) more))

pub joined : (r : Ringed) (uses more : List Use) → AreJoined r uses more
joined r uses more = record { ring = joined_ring r uses more; kept = joined_kept r uses more; told = joined_told r uses more }

-- an ending counts once where the ring was armed
one_ending : (b : Bool) (n : ℕ) → (if b then n + 1 else n) ≤ n + (if b then 1 else 0)
one_ending true n = omega arith
one_ending false n = omega arith

pub few_endings : (r : Ringed) (uses : List Use) → HasFewEndings r uses
few_endings r [] = omega arith
few_endings r (Pushes c solicited ∷ uses) =
    let later : Ringed = after_use r (Pushes c solicited) in
    let P : Option Arming → Type 0 = λ a. endings_in later uses ≤ armings_in uses + (if is_some a then 1 else 0) in
    subst P (armed_at_put (has_room r) r c) (few_endings later uses)
few_endings r (Polls ∷ uses) = few_endings (after_use r Polls) uses
few_endings r (Arms solicited ∷ uses) =
    let rest : endings_in (after_use r (Arms solicited)) uses ≤ armings_in uses + 1 = few_endings (after_use r (Arms solicited)) uses in
    omega (arith, rest)
few_endings r (Disarms ∷ uses) =
    let rest : endings_in (after_use r Disarms) uses ≤ armings_in uses + 0 = few_endings (after_use r Disarms) uses in
    omega (arith, rest, one_ending (is_some r.armed) (endings_in (after_use r Disarms) uses))
