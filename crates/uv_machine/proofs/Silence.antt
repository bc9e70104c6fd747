-- What steps leave of their own call, and entries of a call that they don't name.
use Rattle.std.proofs.Common.{◌≡◌, ℕ, Bool, true, false, List, [], ◌∷◌, ◌++◌, Some, refl, ap, sym, ◌∙◌, ⊎_elim}
use Rattle.std.specs.Prelude.{◌||◌, ◌==◌, if◌then◌else◌}
use Rattle.std.specs.List.{list_any}
use Rattle.std.proofs.lemmas.Option.{none-some, same_Some}
use Rattle.uv_machine.specs.declared.entry.Entry.{Entry}
use Rattle.uv_machine.specs.declared.entry.Entry.TheVariants.{Open, Enter, Step, Unplug, Tear, Kill, Gone, Dissociated, Closed}
use Rattle.uv_machine.specs.declared.call.InFlight.{InFlight}
use Rattle.uv_machine.specs.declared.state.State.{State}
use Rattle.uv_machine.specs.Calls.{Item, calls_with, calls_from, calls_of}
use Rattle.uv_machine.specs.Histories.{after, state_from, state_of}
use Rattle.uv_machine.specs.Laws.{is_of}
use Rattle.uv_machine.specs.States.{call_of, start}
use Rattle.uv_machine.specs.Words.{names_actor, StepKeepsRequest, CallSilent}
use Rattle.uv_machine.proofs.Turns.{IsTurn-allowed}
use Rattle.uv_machine.proofs.OwnCall.{calls_turn, call_of-changed}
use Rattle.uv_machine.proofs.Apart.{call_of-after}
use Rattle.uv_machine.proofs.Clients.{stays_or_leaves}

-- a step's own call
pub step_keeps_request : StepKeepsRequest
step_keeps_request m c w o found a call left allowed is is' =
    let m' = after m (Step c w o found a) in
    let t = IsTurn-allowed m c w o found a allowed in
    let k = calls_turn m c t.call a m' t.turn in
    let now : call_of m' c ≡ k.change (Some t.call) = call_of-changed m m' c k.change t.call k.calls t.is in
    let mine : t.call ≡ call = same_Some t.call call (sym t.is ∙ is) in
    ⊎_elim
    (λ stays. (
    let same : left ≡ stays.left = same_Some left stays.left (sym is' ∙ now ∙ stays.is) in (
      ap (λ (v : InFlight). v.file) same ∙ stays.file ∙ ap (λ (v : InFlight). v.file) mine,
      ap (λ (v : InFlight). v.request) same ∙ stays.request ∙ ap (λ (v : InFlight). v.request) mine,
    )))
    (λ leaves. absurd (none-some left (sym leaves.1 ∙ sym now ∙ is')))
    (stays_or_leaves t.call w (k.change (Some t.call)) t.word k.own)

-- Lists of entries that go on.

pub state_from-append : (m : State) (xs ys : List Entry) → state_from m (xs ++ ys) ≡ state_from (state_from m xs) ys
state_from-append m [] ys = refl
state_from-append m (x ∷ xs) ys = state_from-append (after m x) xs ys

calls_from-parts : (c : ℕ) (items : List Item) (xs ys : List Entry) → calls_from c items (xs ++ ys) ≡ calls_from c (calls_from c items xs) ys
calls_from-parts c items [] ys = refl
calls_from-parts c items (x ∷ xs) ys = calls_from-parts c (calls_with c items x) xs ys

pub or_none : (a b : Bool) → (a || b) ≡ false → (a ≡ false) × (b ≡ false)
or_none true b h = absurd cc
or_none false b h = (refl, h)

not_of : (e : Entry) (c : ℕ) → names_actor c e ≡ false → is_of c e ≡ false
not_of (Open b f d a) c other = refl
not_of (Enter b f request a) c other = other
not_of (Step b w o found a) c other = other
not_of (Unplug d) c other = refl
not_of (Tear f by) c other = refl
not_of (Kill o) c other = refl
not_of (Gone o kept) c other = refl
not_of (Dissociated f) c other = refl
not_of (Closed f) c other = refl

if_not : {X : Type 0} (b : Bool) (x y : X) → b ≡ false → (if b then x else y) ≡ y
if_not true x y h = absurd cc
if_not false x y h = refl

calls_silent : (e : Entry) (c : ℕ) (items : List Item) → names_actor c e ≡ false → calls_with c items e ≡ items
calls_silent (Open b f d a) c items other = if_not (b == c) _ items other
calls_silent (Enter b f request a) c items other = if_not (b == c) _ items other
calls_silent (Step b w o found a) c items other = if_not (b == c) _ items other
calls_silent (Unplug d) c items other = refl
calls_silent (Tear f by) c items other = refl
calls_silent (Kill o) c items other = refl
calls_silent (Gone o kept) c items other = refl
calls_silent (Dissociated f) c items other = refl
calls_silent (Closed f) c items other = refl

silent_from : (m : State) (es : List Entry) (c : ℕ) (items : List Item) → list_any (names_actor c) es ≡ false → (calls_from c items es ≡ items) × (call_of (state_from m es) c ≡ call_of m c)
silent_from m [] c items none = (refl, refl)
silent_from m (e ∷ es) c items none =
    let parts = or_none (names_actor c e) (list_any (names_actor c) es) none in
    let rest = silent_from (after m e) es c items parts.1 in
    (ap (λ v. calls_from c v es) (calls_silent e c items parts.0) ∙ rest.0, rest.1 ∙ call_of-after m e c (not_of e c parts.0))

pub call_silent : CallSilent
call_silent h es c none =
    let rest = silent_from (state_of h) es c (calls_of h c) none in (
      calls_from-parts c [] h es ∙ rest.0,
      ap (λ s. call_of s c) (state_from-append start h es) ∙ rest.1,
    )
