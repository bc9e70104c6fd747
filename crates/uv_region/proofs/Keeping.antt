-- What is true of every region stays so by an action.
use Rattle.std.proofs.Common.{◌≡◌, ℕ, ◌+◌, ◌≤◌, Bool, true, false, List, [], ◌∷◌, ◌++◌, length, map, replicate, refl, ap, sym, subst, ◌∙◌, arith, rules}
use Rattle.std.proofs.lemmas.List.{map-append}
use Rattle.std.specs.Prelude.{if◌then◌else◌}
use Rattle.uv_num.specs.Stocked.{Stocked}
use Rattle.uv_num.proofs.EachLaws.{Each-push}
use Rattle.uv_region.specs.declared.action.Action.{Action}
use Rattle.uv_region.specs.declared.rights.Rights.{Rights}
use Rattle.uv_region.specs.Actions.{PlainAction, plain, is_read, IsWhole, CanBeMade}
use Rattle.uv_region.specs.Refusals.{Terms, IsAllowed, first_refusal}
use Rattle.uv_region.specs.Registered.{Registered, registered, terms_of}
use Rattle.uv_region.specs.Replay.{standing, effect, replay_of, HoldsRead, overwritten}
use Rattle.uv_region.specs.Journals.{AllowedFrom, IsKept}
use Rattle.uv_region.specs.Acting.{journalled, after_action}
use Rattle.uv_region.proofs.Replaying.{replay_from-snoc, ReadsHold-snoc, length-standing, length-overwritten}

-- an allowed action lies inside
pub allowed_inside : (t : Terms) (a : PlainAction) → IsAllowed t a → a.offset + a.length ≤ t.length
allowed_inside t a allowed = search rules

-- what the journal holds of an action is allowed where the action is
held_allowed : (reads : Bool) (t : Terms) (a : PlainAction) (x : List ℕ) → first_refusal t (if reads then record a { bytes = x } else a) ≡ first_refusal t a
held_allowed true t a x = refl
held_allowed false t a x = refl

-- one action more, which the terms at its place allow
pub AllowedFrom-push : (t : ℕ → Terms) (n : ℕ) (xs : List PlainAction) (y : PlainAction) → AllowedFrom t n xs → IsAllowed (t (n + length xs)) y → AllowedFrom t n (xs ++ y ∷ [])
AllowedFrom-push t n [] y each one =
    let same : n + 0 ≡ n = omega arith in
    let P : ℕ → Type 0 = λ k. IsAllowed (t k) y in
    (subst P same one, tt)
AllowedFrom-push t n (x ∷ xs) y each one =
    let same : n + length (x ∷ xs) ≡ n + 1 + length xs = omega arith in
    let P : ℕ → Type 0 = λ k. IsAllowed (t k) y in
    (each.0, AllowedFrom-push t (n + 1) xs y each.1 (subst P same one))

-- it does the same
held_effect : (reads : Bool) (a : PlainAction) (x bytes : List ℕ) → is_read a.kind ≡ reads → effect (if reads then record a { bytes = x } else a) bytes ≡ effect a bytes
held_effect true a x bytes is = rw is refl
held_effect false a x bytes is = refl

-- a read leaves the bytes as they are
pub read_leaves : (a : PlainAction) (bytes : List ℕ) → is_read a.kind ≡ true → bytes ≡ effect a bytes
read_leaves a bytes reads = rw reads refl

-- it is whole
held_whole : (reads : Bool) (a : PlainAction) (bytes : List ℕ) → is_read a.kind ≡ reads → CanBeMade a → a.offset + a.length ≤ length bytes → IsWhole (if reads then record a { bytes = standing a bytes } else a)
held_whole true a bytes is can inside = record { some = can.some; all = length-standing a bytes inside }
held_whole false a bytes is can inside = record { some = can.some; all = can.brings is }

-- it holds what it read
held_reads : (reads : Bool) (a : PlainAction) (bytes : List ℕ) → is_read a.kind ≡ reads → HoldsRead bytes (if reads then record a { bytes = standing a bytes } else a)
held_reads true a bytes is = λ h. refl
held_reads false a bytes is = λ h. cc

-- an action leaves the length
pub length_after : (reads : Bool) (a : PlainAction) (bytes : List ℕ) → is_read a.kind ≡ reads → CanBeMade a → a.offset + a.length ≤ length bytes → length (if reads then bytes else overwritten a.offset a.bytes bytes) ≡ length bytes
length_after true a bytes is can inside = refl
length_after false a bytes is can inside =
    let all : length a.bytes ≡ a.length = can.brings is in
    length-overwritten a.offset a.bytes bytes (omega arith)

-- what is true of every region stays so by an action that is allowed
pub kept_after : (r : Registered) (a : PlainAction) → IsKept r → IsAllowed (terms_of r) a → CanBeMade a → IsKept (after_action r a)
kept_after r a kept allowed can =
    let one : PlainAction = journalled a r.bytes in
    let reads : Bool = is_read a.kind in
    let inside : a.offset + a.length ≤ length r.bytes = subst (λ (n : ℕ). a.offset + a.length ≤ n) (sym kept.bytes) (allowed_inside (terms_of r) a allowed) in
    let turn : r.bytes ≡ replay_of r.length r.actions = kept.journal.replays in
    record {
      journal = record {
        same = refl;
        lawful = record {
          allowed = AllowedFrom-push (λ place. terms_of r) 0 r.actions one kept.journal.lawful.allowed (held_allowed reads (terms_of r) a (standing a r.bytes) ∙ allowed);
          whole = Each-push IsWhole r.actions one kept.journal.lawful.whole (held_whole reads a r.bytes refl can inside);
          reads = ReadsHold-snoc (replicate r.length 0) r.actions one kept.journal.lawful.reads (subst (λ (b : List ℕ). HoldsRead b one) turn (held_reads reads a r.bytes refl));
        };
        replays = sym (held_effect reads a (standing a r.bytes) r.bytes refl) ∙ (ap (effect one) turn ∙ sym (replay_from-snoc (replicate r.length 0) r.actions one));
      };
      bytes = length_after reads a r.bytes refl can inside ∙ kept.bytes;
      most = kept.most;
    }

-- it doesn't depend on the spare
kept_spare : (r : Registered) (n : ℕ) → IsKept r → IsKept (record r { spare = n })
kept_spare r n kept = record {
  journal = record { same = refl; lawful = kept.journal.lawful; replays = kept.journal.replays };
  bytes = kept.bytes;
  most = kept.most;
}

-- the same of a region's parts
pub kept_parts : (object domain size : ℕ) (rights : Rights) (bytes more : List ℕ) (actions next : Stocked Action) (a made : Action) → IsKept (registered object domain size rights bytes actions) → IsAllowed (terms_of (registered object domain size rights bytes actions)) (plain a) → CanBeMade (plain a) → more ≡ effect (plain a) bytes → plain made ≡ journalled (plain a) bytes → next.items ≡ actions.items ++ made ∷ [] → IsKept (registered object domain size rights more next)
kept_parts object domain size rights bytes more actions next a made kept allowed can done as-held put =
    let r : Registered = registered object domain size rights bytes actions in
    let all : map plain next.items ≡ r.actions ++ journalled (plain a) bytes ∷ [] = ap (map plain) put ∙ (map-append plain actions.items (made ∷ []) ∙ ap (λ x. r.actions ++ x ∷ []) as-held) in
    let same : registered object domain size rights more next ≡ record (after_action r (plain a)) { spare = next.room } = λ i. record { object = object; domain = domain; length = size; rights = rights; bytes = done i; actions = all i; spare = next.room } in
    subst IsKept (sym same) (kept_spare (after_action r (plain a)) next.room (kept_after r (plain a) kept allowed can))
