-- Attributes one behind the other, as a loop goes over them.
use Rattle.std.proofs.Common.{◌≡◌, ℕ, suc, ◌+◌, ◌-◌, ◌*◌, ◌<◌, ◌≤◌, Bool, true, false, List, [], ◌∷◌, ◌++◌, length, map, drop, refl, sym, ap, ◌∙◌, append_assoc, length-drop, arith}
use Rattle.std.specs.Prelude.{◌||◌, ◌==◌}
use Rattle.std.specs.List.{list_any}
use Rattle.std.specs.Int.{w16}
use Rattle.std.proofs.lemmas.List.{append-nil}
use Rattle.uv_attr.specs.declared.call.Attr.{Attr}
use Rattle.uv_attr.specs.Fields.{field_at}
use Rattle.uv_attr.specs.Command.{repeats}
use Rattle.uv_attr.specs.Reading.{raw_of, raws, attr_of}
use Rattle.uv_attr.specs.Refusal.{is_malformed, raw_ids}

-- where some are left, the first of them and the others
pub raws-more : (n i : ℕ) (bytes others : List ℕ) → others ≡ drop 16 bytes → i < n → raws (n - i) bytes ≡ raw_of bytes ∷ raws (n - (i + 1)) others
unfolding raws
raws-more n i bytes others cut lt =
    let k : n - i ≡ suc (n - (i + 1)) = omega arith in
    rw (k, cut) refl

-- where none is left
pub raws-none : (n i : ℕ) (bytes : List ℕ) → n ≤ i → raws (n - i) bytes ≡ []
unfolding raws
raws-none n i bytes le =
    let k : n - i ≡ 0 = omega arith in
    rw k refl

-- the bytes of the others are left behind the first
pub room-more : (n i : ℕ) (bytes others : List ℕ) → others ≡ drop 16 bytes → i < n → 16 * (n - i) ≤ length bytes → 16 * (n - (i + 1)) ≤ length others
room-more n i bytes others cut lt room = omega (arith, ap length cut, length-drop 16 bytes)

pub malformed-more : (n i : ℕ) (bytes others : List ℕ) (b : Bool) → others ≡ drop 16 bytes → i < n → is_malformed (raw_of bytes) ≡ false → list_any is_malformed (raws (n - i) bytes) ≡ b → list_any is_malformed (raws (n - (i + 1)) others) ≡ b
malformed-more n i bytes others b cut lt well so_far =
    let later : Bool = list_any is_malformed (raws (n - (i + 1)) others) in
    sym (ap (list_any is_malformed) (raws-more n i bytes others cut lt) ∙ ap (λ v. v || later) well) ∙ so_far

pub stands-more : (n i id : ℕ) (bytes others : List ℕ) (b : Bool) → others ≡ drop 16 bytes → i < n → (field_at w16 0 bytes == id) ≡ false → list_any (λ other. other == id) (raw_ids (raws (n - i) bytes)) ≡ b → list_any (λ other. other == id) (raw_ids (raws (n - (i + 1)) others)) ≡ b
stands-more n i id bytes others b cut lt other so_far =
    let later : Bool = list_any (λ other. other == id) (raw_ids (raws (n - (i + 1)) others)) in
    sym (ap (λ rs. list_any (λ other. other == id) (raw_ids rs)) (raws-more n i bytes others cut lt) ∙ ap (λ v. v || later) other) ∙ so_far

-- an id stands twice among those that are left, if the first stands among the others or one of these stands twice
pub repeats-step : (n i id : ℕ) (bytes others : List ℕ) → others ≡ drop 16 bytes → i < n → id ≡ field_at w16 0 bytes
    → repeats (raw_ids (raws (n - i) bytes)) ≡ (list_any (λ other. other == id) (raw_ids (raws (n - (i + 1)) others)) || repeats (raw_ids (raws (n - (i + 1)) others)))
repeats-step n i id bytes others cut lt e =
    let ids : List ℕ = raw_ids (raws (n - (i + 1)) others) in
    ap (λ rs. repeats (raw_ids rs)) (raws-more n i bytes others cut lt) ∙ ap (λ k. list_any (λ other. other == k) ids || repeats ids) (sym e)

pub repeats-found : (n i id : ℕ) (bytes others : List ℕ) (b : Bool) → others ≡ drop 16 bytes → i < n → id ≡ field_at w16 0 bytes → list_any (λ other. other == id) (raw_ids (raws (n - (i + 1)) others)) ≡ true → repeats (raw_ids (raws (n - i) bytes)) ≡ b → true ≡ b
repeats-found n i id bytes others b cut lt e found so_far =
    sym (repeats-step n i id bytes others cut lt e ∙ ap (λ v. v || repeats (raw_ids (raws (n - (i + 1)) others))) found) ∙ so_far

pub repeats-more : (n i id : ℕ) (bytes others : List ℕ) (b : Bool) → others ≡ drop 16 bytes → i < n → id ≡ field_at w16 0 bytes → list_any (λ other. other == id) (raw_ids (raws (n - (i + 1)) others)) ≡ false → repeats (raw_ids (raws (n - i) bytes)) ≡ b → repeats (raw_ids (raws (n - (i + 1)) others)) ≡ b
repeats-more n i id bytes others b cut lt e other so_far =
    sym (repeats-step n i id bytes others cut lt e ∙ ap (λ v. v || repeats (raw_ids (raws (n - (i + 1)) others))) other) ∙ so_far

pub read-more : (n i : ℕ) (bytes others : List ℕ) (attrs now total : List Attr) (a : Attr) → others ≡ drop 16 bytes → i < n → a ≡ attr_of (raw_of bytes) → now ≡ attrs ++ a ∷ [] → attrs ++ map attr_of (raws (n - i) bytes) ≡ total → now ++ map attr_of (raws (n - (i + 1)) others) ≡ total
read-more n i bytes others attrs now total a cut lt e pushed so_far =
    let later : List Attr = map attr_of (raws (n - (i + 1)) others) in
    ap (λ v. v ++ later) pushed ∙ append_assoc attrs (a ∷ []) later ∙ ap (λ v. attrs ++ v ∷ later) e ∙ sym (ap (λ rs. attrs ++ map attr_of rs) (raws-more n i bytes others cut lt)) ∙ so_far

pub read-all : (n i : ℕ) (bytes : List ℕ) (attrs total : List Attr) → n ≤ i → attrs ++ map attr_of (raws (n - i) bytes) ≡ total → attrs ≡ total
read-all n i bytes attrs total le so_far =
    sym (ap (λ rs. attrs ++ map attr_of rs) (raws-none n i bytes le) ∙ append-nil attrs) ∙ so_far

pub malformed-found : (n i : ℕ) (bytes : List ℕ) (b : Bool) → i < n → is_malformed (raw_of bytes) ≡ true → list_any is_malformed (raws (n - i) bytes) ≡ b → true ≡ b
malformed-found n i bytes b lt ill so_far =
    sym (ap (list_any is_malformed) (raws-more n i bytes (drop 16 bytes) refl lt) ∙ ap (λ v. v || list_any is_malformed (raws (n - (i + 1)) (drop 16 bytes))) ill) ∙ so_far

pub stands-found : (n i id : ℕ) (bytes : List ℕ) (b : Bool) → i < n → (field_at w16 0 bytes == id) ≡ true → list_any (λ other. other == id) (raw_ids (raws (n - i) bytes)) ≡ b → true ≡ b
stands-found n i id bytes b lt same so_far =
    let later : Bool = list_any (λ other. other == id) (raw_ids (raws (n - (i + 1)) (drop 16 bytes))) in
    sym (ap (λ rs. list_any (λ other. other == id) (raw_ids rs)) (raws-more n i bytes (drop 16 bytes) refl lt) ∙ ap (λ v. v || later) same) ∙ so_far

pub stands-none : (n i id : ℕ) (bytes : List ℕ) (b : Bool) → n ≤ i → list_any (λ other. other == id) (raw_ids (raws (n - i) bytes)) ≡ b → false ≡ b
stands-none n i id bytes b le so_far = sym (ap (λ rs. list_any (λ other. other == id) (raw_ids rs)) (raws-none n i bytes le)) ∙ so_far

pub repeats-none : (n i : ℕ) (bytes : List ℕ) (b : Bool) → n ≤ i → repeats (raw_ids (raws (n - i) bytes)) ≡ b → false ≡ b
repeats-none n i bytes b le so_far = sym (ap (λ rs. repeats (raw_ids rs)) (raws-none n i bytes le)) ∙ so_far
