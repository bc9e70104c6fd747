-- How far a lending has come.
use Rattle.std.proofs.Common.{◌≡◌, ◌≤◌, ◌<◌, ◌+◌, ◌-◌, ℕ, suc, Bool, true, false, cond, List, [], ◌∷◌, Option, None, Some, length, drop, get_or, refl, sym, ap, subst, ◌∙◌, arith, drop-cons}
use Rattle.std.proofs.lemmas.Cmp.{nat_cmp_total}
use Rattle.std.specs.Cmp.{unsigned_tied}
use Rattle.std.specs.FinMap as map
use Rattle.std.specs.Ordering.{nat_cmp}
use Rattle.std.specs.Prelude.{◌==◌, is_some}
use Rattle.uv_num.specs.Each.{Each}
use Rattle.uv_region.specs.Registered.{Registered}
use Rattle.uv_region.specs.Lent.{Lent, ReachedRegion}
use Rattle.uv_world.specs.declared.cells.Cell.{Cell}
use Rattle.uv_world.specs.declared.content.Windowed.{Windowed}
use Rattle.uv_world.specs.declared.lending.Reach.{Reach}
use Rattle.uv_world.specs.Celled.{value_of_cell}
use Rattle.uv_world.specs.Lending.{AreDifferent, Lending, lend_all, lend_one, lend_reached, lend_value, nothing_lent, reach_of, return_all, return_one}

abbrev pub lending : List (Cell Registered) → Lent → Lending
lending regions lent = record { regions = regions; lent = lent }

pub record IsLendingOn (windows : List (Cell Windowed)) (start : Lending) (regions : List (Cell Registered)) (lent : Lent) (keys : List ℕ) (at : ℕ) : Type 0 where
  pub goes : lend_all windows (lending regions lent) (drop at keys) ≡ lend_all windows start keys
  pub count : map.len lent ≤ at
  pub apart : Each (λ k. map.get lent k ≡ None) (drop at keys)
  pub different : AreDifferent (drop at keys)

pub each_by_two : {X : Type 0} (P Q R : X → Type 0) (xs : List X) → Each P xs → Each Q xs → ((x : X) → P x → Q x → R x) → Each R xs
each_by_two P Q R [] p q f = tt
each_by_two P Q R (x ∷ xs) p q f = (f x p.0 q.0, each_by_two P Q R xs p.1 q.1 f)

pub none_there : (keys : List ℕ) → Each (λ k. map.get (map.empty {X = ReachedRegion} {R = nat_cmp}) k ≡ None) keys
none_there [] = tt
none_there (k ∷ keys) = (map.get-empty nat_cmp k, none_there keys)

pub lending-init : (windows : List (Cell Windowed)) (regions : List (Cell Registered)) (lent : Lent) (keys : List ℕ) → lent ≡ map.empty → AreDifferent keys → IsLendingOn windows (nothing_lent regions) regions lent keys 0
lending-init windows regions lent keys e different =
    let P : Lent → Type 0 = λ m. IsLendingOn windows (nothing_lent regions) regions m keys 0 in
    subst P (sym e) record {
      goes = refl;
      count = omega (arith, map.len-empty nat_cmp ReachedRegion);
      apart = none_there keys;
      different = different;
    }

at_most_one : (b : Bool) (n : ℕ) → cond b n (n + 1) ≤ n + 1
at_most_one true n = omega arith
at_most_one false n = omega arith

count_value : (l : Lending) (key : ℕ) (reach : Reach) (o : Option Registered) → map.len (lend_value l key reach o).lent ≤ map.len l.lent + 1
count_value l key reach None = omega arith
count_value l key reach (Some r) = omega (arith, map.len-insert nat_cmp_total l.lent key (r, reach.window), at_most_one (is_some (map.get l.lent key)) (map.len l.lent))

count_reached : (l : Lending) (key : ℕ) (o : Option Reach) → map.len (lend_reached l key o).lent ≤ map.len l.lent + 1
count_reached l key None = omega arith
count_reached l key (Some reach) = count_value l key reach (value_of_cell l.regions reach.region)

apart_value : (l : Lending) (key k : ℕ) (reach : Reach) (o : Option Registered) → map.get l.lent k ≡ None → (k == key) ≡ false → map.get (lend_value l key reach o).lent k ≡ None
apart_value l key k reach None none other = none
apart_value l key k reach (Some r) none other =
    map.get-insert nat_cmp_total l.lent key (r, reach.window) k
    ∙ ap (λ b. cond b (Some (r, reach.window)) (map.get l.lent k)) (unsigned_tied k key ∙ other) ∙ none

pub apart_reached : (l : Lending) (key k : ℕ) (o : Option Reach) → map.get l.lent k ≡ None → (k == key) ≡ false → map.get (lend_reached l key o).lent k ≡ None
apart_reached l key k None none other = none
apart_reached l key k (Some reach) none other = apart_value l key k reach (value_of_cell l.regions reach.region) none other

-- one more key, with what is left of them
lending_more : (windows : List (Cell Windowed)) (start : Lending) (l : Lending) (key : ℕ) (rest keys : List ℕ) (at : ℕ)
    → lend_all windows l (key ∷ rest) ≡ lend_all windows start keys → map.len l.lent ≤ at → Each (λ k. map.get l.lent k ≡ None) rest → AreDifferent (key ∷ rest)
    → (lend_all windows (lend_one windows l key) rest ≡ lend_all windows start keys) × (map.len (lend_one windows l key).lent ≤ at + 1) × Each (λ k. map.get (lend_one windows l key).lent k ≡ None) rest × AreDifferent rest
lending_more windows start l key rest keys at goes count apart different =
    let reach : Option Reach = reach_of l.regions windows key in
    (goes, omega (arith, count, count_reached l key reach), each_by_two _ _ _ rest apart different.0 (λ k none other. apart_reached l key k reach none other), different.1)

pub lending-preserved : (windows : List (Cell Windowed)) (start : Lending) (regions now : List (Cell Registered)) (lent after : Lent) (keys : List ℕ) (at key : ℕ)
    → at < length keys → key ≡ get_or keys at 0 → IsLendingOn windows start regions lent keys at
    → now ≡ (lend_one windows (lending regions lent) key).regions → after ≡ (lend_one windows (lending regions lent) key).lent → IsLendingOn windows start now after keys (at + 1)
lending-preserved windows start regions now lent after keys at key less is on c d =
    let next : Lending = lend_one windows (lending regions lent) key in
    let more : suc at ≡ at + 1 = omega arith in
    let e : drop at keys ≡ key ∷ drop (at + 1) keys = drop-cons keys at 0 less ∙ ap (λ k. k ∷ drop (suc at) keys) (sym is) ∙ ap (λ n. key ∷ drop n keys) more in
    let G : List ℕ → Type 0 = λ v. lend_all windows (lending regions lent) v ≡ lend_all windows start keys in
    let A : List ℕ → Type 0 = λ v. Each (λ k. map.get lent k ≡ None) v in
    let D : List ℕ → Type 0 = λ v. AreDifferent v in
    let m : (lend_all windows next (drop (at + 1) keys) ≡ lend_all windows start keys) × (map.len next.lent ≤ at + 1) × Each (λ k. map.get next.lent k ≡ None) (drop (at + 1) keys) × AreDifferent (drop (at + 1) keys) =
    lending_more windows start (lending regions lent) key (drop (at + 1) keys) keys at (subst G e on.goes) on.count (subst A e on.apart).1 (subst D e on.different) in
    let P : List (Cell Registered) → Type 0 = λ v. IsLendingOn windows start v after keys (at + 1) in
    let Q : Lent → Type 0 = λ v. IsLendingOn windows start next.regions v keys (at + 1) in
    subst P (sym c) (subst Q (sym d) record { goes = m.0; count = m.1; apart = m.2; different = m.3 })

-- one more key has given back, the last that was lent first
pub given-back : (windows : List (Cell Windowed)) (before : Lending) (regions now : List (Cell Registered)) (lent after : Lent) (keys : List ℕ) (turn at : ℕ)
    → turn < length keys → at ≡ length keys - 1 - turn → lending regions lent ≡ return_all windows before (drop (length keys - turn) keys)
    → now ≡ (return_one windows (lending regions lent) (get_or keys at 0)).regions → after ≡ (return_one windows (lending regions lent) (get_or keys at 0)).lent
    → lending now after ≡ return_all windows before (drop (length keys - (turn + 1)) keys)
given-back windows before regions now lent after keys turn at less is on c d =
    let key : ℕ = get_or keys at 0 in
    let first : length keys - (turn + 1) ≡ at = omega (arith, less, is) in
    let within : at < length keys = omega (arith, less, is) in
    let more : suc at ≡ length keys - turn = omega (arith, less, is) in
    let e : drop (length keys - (turn + 1)) keys ≡ key ∷ drop (length keys - turn) keys =
    ap (λ n. drop n keys) first ∙ (drop-cons keys at 0 within ∙ ap (λ n. key ∷ drop n keys) more) in
    let one : lending now after ≡ return_one windows (lending regions lent) key =
    ap (λ v. lending v after) c ∙ ap (λ v. lending (return_one windows (lending regions lent) key).regions v) d in
    one ∙ (ap (λ v. return_one windows v key) on ∙ sym (ap (return_all windows before) e))
