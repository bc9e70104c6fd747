-- The laws.
use Rattle.std.proofs.Common.{◌≡◌, ℕ, zero, suc, ◌+◌, ◌<◌, ◌≤◌, ◌⊎◌, ⊎_elim, inl, inr, zero-add, suc-add, append_assoc, Bool, true, false, not, List, [], ◌∷◌, ◌++◌, length, take, drop, replicate, refl, ap, sym, subst, ◌∙◌, arith, ◌↔◌, Option, Some, None}
use Rattle.std.proofs.lemmas.Bool.{leb-true, le-leb, eqb-true, eq-eqb}
use Rattle.std.proofs.lemmas.List.{length-replicate, length-take-le, take_at, drop_at}
use Rattle.std.specs.Prelude.{slice_get, ◌==◌, if◌then◌else◌}
use Rattle.uv_num.specs.Each.{Each}
use Rattle.uv_num.proofs.Prefixes.{IsPrefix_refl, IsPrefix_trans, IsPrefix-append}
use Rattle.uv_region.specs.declared.action.Why.{Why}
use Rattle.uv_region.specs.declared.action.Why.TheVariants as why
use Rattle.uv_region.specs.Actions.{PlainAction, is_read, IsWhole, CanBeMade}
use Rattle.uv_region.specs.Refusals.{Terms, IsAllowed, first_refusal, demand_of, is_inside, has_its_right, passes}
use Rattle.uv_region.specs.Registered.{Registered}
use Rattle.uv_region.specs.Replay.{standing, overwritten, effect, replay_from, replay_of}
use Rattle.uv_region.specs.Journals.{PlainJournal, journal_of, terms_at, AllowedFrom, IsJournal, GoesOn}
use Rattle.uv_region.specs.Laws.{PassesAll, RefusedFor}
use Rattle.uv_region.specs.Acting.{after_action, journalled}
use Rattle.uv_region.proofs.Keeping.{allowed_inside, length_after}

pub goes_on_refl : (j : PlainJournal) → GoesOn j j
goes_on_refl j = record { object = refl; domain = refl; length = refl; rights = refl; actions = IsPrefix_refl j.actions }

pub goes_on_trans : (i j k : PlainJournal) → GoesOn i j → GoesOn j k → GoesOn i k
goes_on_trans i j k p q = record {
  object = q.object ∙ p.object;
  domain = q.domain ∙ p.domain;
  length = q.length ∙ p.length;
  rights = q.rights ∙ p.rights;
  actions = IsPrefix_trans i.actions j.actions k.actions p.actions q.actions;
}

pub acted_on : (r : Registered) (a : PlainAction) → GoesOn (journal_of r) (journal_of (after_action r a))
acted_on r a = record { object = refl; domain = refl; length = refl; rights = refl; actions = IsPrefix-append r.actions (journalled a r.bytes ∷ []) }

bool_apart : true ≡ false → ⊥
bool_apart h = cc

-- four tests in turn
abbrev chain : Bool → Bool → Bool → Bool → Option Why
chain a b c d =
    if not a
    then Some why.Bounds
    else (if not b then Some why.Right else (if not c then Some why.Domain else (if not d then Some why.Window else None)))

all_pass : (a b c d : Bool) → chain a b c d ≡ None → (a ≡ true) × (b ≡ true) × (c ≡ true) × (d ≡ true)
all_pass false b c d h = cc
all_pass true false c d h = cc
all_pass true true false d h = cc
all_pass true true true false h = cc
all_pass true true true true h = (refl, refl, refl, refl)

none_refuses : (a b c d : Bool) → a ≡ true → b ≡ true → c ≡ true → d ≡ true → chain a b c d ≡ None
none_refuses false b c d p q r s = cc
none_refuses true false c d p q r s = cc
none_refuses true true false d p q r s = cc
none_refuses true true true false p q r s = cc
none_refuses true true true true p q r s = refl

to_all : (t : Terms) (a : PlainAction) → IsAllowed t a → PassesAll t a
to_all t a allowed =
    let (bounds, right, domain, window) = all_pass (is_inside t.length (demand_of a)) (has_its_right t.rights a.kind a.window) (t.domain == a.domain) (passes a.window (demand_of a)) allowed in
    record { bounds = leb-true (a.offset + a.length) t.length bounds; right = right; domain = eqb-true t.domain a.domain domain; window = window }

from_all : (t : Terms) (a : PlainAction) → PassesAll t a → IsAllowed t a
from_all t a all =
    none_refuses (is_inside t.length (demand_of a)) (has_its_right t.rights a.kind a.window) (t.domain == a.domain) (passes a.window (demand_of a))
    (le-leb (a.offset + a.length) t.length all.bounds) all.right (eq-eqb t.domain a.domain all.domain) all.window

pub passes_all : (t : Terms) (a : PlainAction) → IsAllowed t a ↔ PassesAll t a
passes_all t a = (to_all t a, from_all t a)

-- what a refusal says of each test
refused_by : (t : Terms) (a : PlainAction) (p q r s : Bool) → is_inside t.length (demand_of a) ≡ p → has_its_right t.rights a.kind a.window ≡ q → (t.domain == a.domain) ≡ r → passes a.window (demand_of a) ≡ s → RefusedFor t a (chain p q r s)
refused_by t a false q r s b h d w = λ inside. bool_apart (sym (le-leb (a.offset + a.length) t.length inside) ∙ b)
refused_by t a true false r s b h d w = (leb-true (a.offset + a.length) t.length b, h)
refused_by t a true true false s b h d w = (leb-true (a.offset + a.length) t.length b, h, λ same. bool_apart (sym (eq-eqb t.domain a.domain same) ∙ d))
refused_by t a true true true false b h d w = (leb-true (a.offset + a.length) t.length b, h, eqb-true t.domain a.domain d, w)
refused_by t a true true true true b h d w = record { bounds = leb-true (a.offset + a.length) t.length b; right = h; domain = eqb-true t.domain a.domain d; window = w }

pub refused_in_turn : (t : Terms) (a : PlainAction) → RefusedFor t a (first_refusal t a)
refused_in_turn t a =
    refused_by t a (is_inside t.length (demand_of a)) (has_its_right t.rights a.kind a.window) (t.domain == a.domain) (passes a.window (demand_of a)) refl refl refl refl

-- what stands behind a piece that was put over the first bytes
behind : (piece bytes : List ℕ) (n : ℕ) → length piece ≤ n → length piece ≤ length bytes → slice_get (piece ++ drop (length piece) bytes) n ≡ slice_get bytes n
behind [] bytes n past inside = refl
behind (p ∷ piece) [] n past inside = absurd (omega arith)
behind (p ∷ piece) (b ∷ bytes) zero past inside = absurd (omega arith)
behind (p ∷ piece) (b ∷ bytes) (suc n) past inside = behind piece bytes n (omega arith) (omega arith)

-- what stands elsewhere than a piece that was put at a place
elsewhere : (at : ℕ) (piece bytes : List ℕ) (n : ℕ) → at + length piece ≤ length bytes → (n < at) ⊎ (at + length piece ≤ n) → slice_get (overwritten at piece bytes) n ≡ slice_get bytes n
elsewhere zero piece bytes n inside out =
    let past : length piece ≤ n = omega arith in
    rw (zero-add (length piece)) (behind piece bytes n past (omega arith))
elsewhere (suc at) piece [] n inside out = absurd (omega arith)
elsewhere (suc at) piece (b ∷ bytes) zero inside out = refl
elsewhere (suc at) piece (b ∷ bytes) (suc n) inside out =
    let later : (n < at) ⊎ (at + length piece ≤ n) = ⊎_elim (λ h. inl (omega arith)) (λ h. inr (omega arith)) out in
    rw (suc-add at (length piece)) (elsewhere at piece bytes n (omega arith) later)

outside_by : (reads : Bool) (a : PlainAction) (bytes : List ℕ) (n : ℕ) → is_read a.kind ≡ reads → CanBeMade a → a.offset + a.length ≤ length bytes → (n < a.offset) ⊎ (a.offset + a.length ≤ n) → slice_get (if reads then bytes else overwritten a.offset a.bytes bytes) n ≡ slice_get bytes n
outside_by true a bytes n is can inside out = refl
outside_by false a bytes n is can inside out =
    let all : length a.bytes ≡ a.length = can.brings is in
    let P : ℕ → Type 0 = λ k. (n < a.offset) ⊎ (a.offset + k ≤ n) in
    elsewhere a.offset a.bytes bytes n (omega arith) (subst P (sym all) out)

pub outside_kept : (a : PlainAction) (bytes : List ℕ) (n : ℕ) → CanBeMade a → a.offset + a.length ≤ length bytes → (n < a.offset) ⊎ (a.offset + a.length ≤ n) → slice_get (effect a bytes) n ≡ slice_get bytes n
outside_kept a bytes n can inside out = outside_by (is_read a.kind) a bytes n refl can inside out

-- a piece stands where it was put
there : (at : ℕ) (piece bytes : List ℕ) → at + length piece ≤ length bytes → take (length piece) (drop at (overwritten at piece bytes)) ≡ piece
there at piece bytes inside =
    let rest : List ℕ = drop (at + length piece) bytes in
    let front : length (take at bytes) ≡ at = length-take-le at bytes (omega arith) in
    ap (λ v. take (length piece) (drop at v)) (append_assoc (take at bytes) piece rest)
    ∙ (ap (take (length piece)) (drop_at (take at bytes) (piece ++ rest) at front) ∙ take_at piece rest (length piece) refl)

written_by : (reads : Bool) (a : PlainAction) (bytes : List ℕ) → reads ≡ false → length a.bytes ≡ a.length → a.offset + a.length ≤ length bytes → take a.length (drop a.offset (if reads then bytes else overwritten a.offset a.bytes bytes)) ≡ a.bytes
written_by true a bytes writes all inside = cc
written_by false a bytes writes all inside =
    ap (λ n. take n (drop a.offset (overwritten a.offset a.bytes bytes))) (sym all) ∙ there a.offset a.bytes bytes (omega arith)

pub written_there : (a : PlainAction) (bytes : List ℕ) → is_read a.kind ≡ false → CanBeMade a → a.offset + a.length ≤ length bytes → standing a (effect a bytes) ≡ a.bytes
written_there a bytes writes can inside = written_by (is_read a.kind) a bytes writes (can.brings writes) inside

replay_length : (j : PlainJournal) (place : ℕ) (bytes : List ℕ) (actions : List PlainAction) → length bytes ≡ j.length → AllowedFrom (terms_at j) place actions → Each IsWhole actions → length (replay_from bytes actions) ≡ j.length
replay_length j place bytes [] all allowed whole = all
replay_length j place bytes (a ∷ rest) all allowed whole =
    let inside : a.offset + a.length ≤ length bytes = subst (λ (n : ℕ). a.offset + a.length ≤ n) (sym all) (allowed_inside (terms_at j place) a allowed.0) in
    let can : CanBeMade a = record { some = whole.0.some; brings = λ h. whole.0.all } in
    replay_length j (place + 1) (effect a bytes) rest (length_after (is_read a.kind) a bytes refl can inside ∙ all) allowed.1 whole.1

pub length-replay_of : (j : PlainJournal) → IsJournal j → length (replay_of j.length j.actions) ≡ j.length
length-replay_of j is = replay_length j 0 (replicate j.length 0) j.actions (length-replicate j.length 0) is.allowed is.whole
