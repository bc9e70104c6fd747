-- What an object uses stands there.
use Rattle.std.proofs.Common.{◌≡◌, ℕ, zero, suc, Bool, true, false, List, [], ◌∷◌, Option, Some, None, refl, ap, sym, ◌∙◌}
use Rattle.std.specs.Prelude.{slice_get, ◌||◌, ◌==◌, if◌then◌else◌}
use Rattle.std.specs.List.{list_any}
use Rattle.std.proofs.lemmas.Bool.{eq-eqb}
use Rattle.std.proofs.lemmas.Option.{none-some, same_Some}
use Rattle.uv_num.specs.Ids.{ids_of, is_number}
use Rattle.uv_machine.specs.declared.entry.Entry.{Entry}
use Rattle.uv_machine.specs.declared.object.Object.{Object}
use Rattle.uv_machine.specs.Objects.{has_id, is_husk}
use Rattle.uv_machine.specs.States.{object_with}
use Rattle.uv_machine.specs.Histories.{IsLegal, state_of}
use Rattle.uv_machine.proofs.Members.{Passes-find}
use Rattle.uv_machine.proofs.Reaching.{Reached-state_of}
use Rattle.uv_machine.proofs.Standing.{legal_uses_stand}
use Rattle.uv_graph.proofs.Holders.{object_is}
use Rattle.uv_core.specs.Uses.{use_at, use_in}

or_later : (b : Bool) → (b || true) ≡ true
or_later true = refl
or_later false = refl

listed : (ids : List ℕ) (place id : ℕ) → slice_get ids place ≡ Some id → list_any (is_number id) ids ≡ true
listed [] place id is = absurd (none-some id is)
listed (o ∷ os) zero id is =
    let same : o ≡ id = same_Some o id is in
    ap (λ b. b || list_any (is_number id) os) (eq-eqb o id same)
listed (o ∷ os) (suc place) id is = ap (λ b. is_number id o || b) (listed os place id is) ∙ or_later (o == id)

-- a husk uses nothing, so that its uses say what it has at a place
uses_by : (h : List Entry) (o place : ℕ) (x : Object) (husk : Bool) → IsLegal h → object_with (state_of h) o ≡ Some x → is_husk x.phase ≡ husk → (if husk then None else slice_get (ids_of x.uses) place) ≡ slice_get (ids_of x.uses) place
uses_by h o place x true legal there is =
    let p = Passes-find (has_id o) x (state_of h).objects there in
    let well = (Reached-state_of h legal).graph.uses x p.within in
    ap (λ v. slice_get (ids_of v) place) (sym (well.husk is))
uses_by h o place x false legal there is = refl

pub uses_read : (h : List Entry) (o place : ℕ) (x : Object) → IsLegal h → object_with (state_of h) o ≡ Some x → use_at (state_of h) o place ≡ slice_get (ids_of x.uses) place
uses_read h o place x legal there = ap (λ s. use_in s place) there ∙ uses_by h o place x (is_husk x.phase) legal there refl

used_by : (h : List Entry) (o place id : ℕ) (slot : Option Object) → IsLegal h → object_with (state_of h) o ≡ slot → use_in slot place ≡ Some id → object_with (state_of h) id ≡ None → ⊥
used_by h o place id None legal there is none = none-some id is
used_by h o place id (Some x) legal there is none =
    let m = state_of h in
    let p = Passes-find (has_id o) x m.objects there in
    let at : slice_get (ids_of x.uses) place ≡ Some id = sym (uses_by h o place x (is_husk x.phase) legal there refl) ∙ is in
    let stands = legal_uses_stand h legal x id p.within (listed (ids_of x.uses) place id at) in
    none-some stands.item (sym none ∙ ap (object_with m) (sym stands.id) ∙ object_is m stands.item (Reached-state_of h legal) stands.within)

-- what stands at a place of an object's uses is an object
pub used_stands : (h : List Entry) (o place id : ℕ) → IsLegal h → use_at (state_of h) o place ≡ Some id → object_with (state_of h) id ≡ None → ⊥
used_stands h o place id legal is none = used_by h o place id (object_with (state_of h) o) legal refl is none
