-- What objects use is what their requests look at, and what bindings give their regions give too.
use Rattle.std.proofs.Common.{◌≡◌, ◌≢◌, ℕ, ◌+◌, ◌≤◌, Bool, true, false, List, [], ◌∷◌, Option, Some, None, map, refl, ap, sym, ◌∙◌, subst, arith, inl, inr}
use Rattle.std.specs.Prelude.{◌++◌, ◌&&◌, ◌||◌, ◌==◌, not, nat_le, slice_get, unwrap_or}
use Rattle.std.proofs.lemmas.Bool.{and_parts, eqb-true, eq-eqb}
use Rattle.std.proofs.lemmas.Bool.Decides.{nat_tests}
use Rattle.std.proofs.lemmas.List.{append-nil}
use Rattle.std.proofs.lemmas.Option.{none-some, same_Some}
use Rattle.uv_num.specs.declared.access.TheConstants.{ACCESS_LOCAL_WRITE, ACCESS_REMOTE_WRITE, ACCESS_MW_BIND}
use Rattle.uv_num.specs.declared.kind.Kind.{Kind}
use Rattle.uv_num.specs.declared.kind.Kind.TheVariants.{Mr}
use Rattle.uv_num.specs.declared.limits.TheConstants.{NONE}
use Rattle.uv_num.specs.declared.request.Ask.{Ask}
use Rattle.uv_num.specs.Access.{has_right}
use Rattle.uv_num.specs.Ids.{ids_of}
use Rattle.uv_num.specs.Looks.{looks_of}
use Rattle.uv_machine.specs.declared.object.Binding.{Binding}
use Rattle.uv_machine.specs.declared.object.Object.{Object}
use Rattle.uv_machine.specs.declared.state.State.{State}
use Rattle.uv_machine.specs.Objects.{is_husk, uses_object, region_length, region_access, domain_of}
use Rattle.uv_machine.specs.Acts.{may_bind, lets_bind, has_range}
use Rattle.uv_machine.specs.Histories.{state_of}
use Rattle.uv_machine.specs.Reached.{IsIn, StandsLive, UsesStand}
use Rattle.uv_machine.specs.Made.{made_in}
use Rattle.uv_machine.specs.ObjectLaws.{bound_to, AllUsedAs, kind_in, kinds_of, region_kind, UsesWhatItAsked, UsesFit, UsesKeepCell, BoundGivesNoMore}
use Rattle.uv_machine.proofs.CelledTurns.{legal_celled}
use Rattle.uv_machine.proofs.Standing.{legal_uses_stand}
use Rattle.uv_machine.proofs.MadeKept.{AllMade, StandsWell, Known, legal_known, any_in, live_no_husk, may_as, domain_by, unbound, uses_domain}

module _ (made : List Object) (m : State) (known : Known made m) (stand : UsesStand m) where
  all_used : (f : ℕ) (os : List ℕ) (asks : List Ask) (rest : List ℕ) (kinds : List Kind) → ((o : ℕ) → IsIn o os → StandsLive m.objects f o) → AllMade made f os asks → AllUsedAs m.objects f rest kinds → AllUsedAs m.objects f (os ++ rest) (map kind_in asks ++ kinds)
  all_used f [] [] rest kinds stands all more = more
  all_used f [] (asked ∷ asks) rest kinds stands all more = absurd all
  all_used f (o ∷ os) [] rest kinds stands all more = absurd all
  all_used f (o ∷ os) (asked ∷ asks) rest kinds stands all more =
      let s = stands o (inl refl) in
      let a = (known.stands s.item s.within).made_so in
      let one : a.item ≡ all.0.item = same_Some a.item all.0.item (sym a.there ∙ ap (slice_get made) s.id ∙ all.0.there) in (
        record {
          item = s.item;
          within = s.within;
          id = s.id;
          is = a.same.kind ∙ ap (λ (v : Object). v.kind) one ∙ all.0.kind;
          same = s.same;
          live = s.live;
        },
        all_used f os asks rest kinds (λ p k. stands p (inr k)) all.1 more,
      )

  stands_live : (x : Object) → IsIn x m.objects → (o : ℕ) → IsIn o (ids_of x.uses) → StandsLive m.objects x.file o
  stands_live x k o h = stand x o k (any_in o (ids_of x.uses) h)

  -- the region, after the other uses
  region_used : (x : Object) (k : IsIn x m.objects) (binding : Option Binding) → x.binding ≡ binding → ((o : ℕ) → IsIn o (bound_to binding) → StandsLive m.objects x.file o) → AllUsedAs m.objects x.file (bound_to binding) (region_kind binding)
  region_used x k None e stands = tt
  region_used x k (Some b) e stands =
      let g = (known.stands x k).bound b e in
      let s = stands b.region (inl refl) in
      let a = (known.stands s.item s.within).made_so in
      let one : a.item ≡ g.item = same_Some a.item g.item (sym a.there ∙ ap (slice_get made) s.id ∙ g.there) in (
        record {
          item = s.item;
          within = s.within;
          id = s.id;
          is = a.same.kind ∙ ap (λ (v : Object). v.kind) one ∙ g.kind;
          same = s.same;
          live = s.live;
        },
        tt,
      )

  in_left : (xs ys : List ℕ) (o : ℕ) → IsIn o xs → IsIn o (xs ++ ys)
  in_left [] ys o k = absurd k
  in_left (x ∷ xs) ys o (inl e) = inl e
  in_left (x ∷ xs) ys o (inr k) = inr (in_left xs ys o k)

  in_right : (xs ys : List ℕ) (o : ℕ) → IsIn o ys → IsIn o (xs ++ ys)
  in_right [] ys o k = k
  in_right (x ∷ xs) ys o k = inr (in_right xs ys o k)

  places_fit : (x : Object) → IsIn x m.objects → is_husk x.phase ≡ false → AllUsedAs m.objects x.file (ids_of x.uses) (kinds_of x.request ++ region_kind x.binding)
  places_fit x k standing =
      let a = (known.stands x k).made_so in
      let w = known.well x.id a.item a.there in
      let uses = a.uses standing in
      let first : (o : ℕ) → IsIn o (ids_of a.item.uses) → StandsLive m.objects a.item.file o =
      λ o h. (
      let P : List ℕ → Type 0 = λ v. IsIn o v in
      let Q : ℕ → Type 0 = λ v. StandsLive m.objects v o in
      subst Q a.same.file (stands_live x k o (subst P (sym uses) (in_left (ids_of a.item.uses) (bound_to x.binding) o h)))) in
      let last : (o : ℕ) → IsIn o (bound_to x.binding) → StandsLive m.objects x.file o =
      λ o h. (let P : List ℕ → Type 0 = λ v. IsIn o v in stands_live x k o (subst P (sym uses) (in_right (ids_of a.item.uses) (bound_to x.binding) o h))) in
      let more : AllUsedAs m.objects a.item.file (bound_to x.binding) (region_kind x.binding) =
      (let Q : ℕ → Type 0 = λ v. AllUsedAs m.objects v (bound_to x.binding) (region_kind x.binding) in subst Q a.same.file (region_used x k x.binding refl last)) in
      let all = all_used a.item.file (ids_of a.item.uses) (looks_of a.item.request) (bound_to x.binding) (region_kind x.binding) first w.looks more in
      let A : ℕ → Type 0 = λ v. AllUsedAs m.objects v (ids_of a.item.uses ++ bound_to x.binding) (kinds_of a.item.request ++ region_kind x.binding) in
      let B : List ℕ → Type 0 = λ v. AllUsedAs m.objects x.file v (kinds_of a.item.request ++ region_kind x.binding) in
      let C : List Kind → Type 0 = λ v. AllUsedAs m.objects x.file (ids_of x.uses) (v ++ region_kind x.binding) in
      subst C (ap kinds_of (sym a.same.request)) (subst B (sym uses) (subst A (sym a.same.file) all))

  pub bound_uses_both : (x : Object) (b : Binding) → IsIn x m.objects → is_husk x.phase ≡ false → x.binding ≡ Some b → ids_of x.uses ≡ domain_of x ∷ b.region ∷ []
  bound_uses_both x b k standing e =
      let g = (known.stands x k).bound b e in
      let d = uses_domain made m known x k g.window standing in
      let now : ids_of x.uses ≡ d.domain ∷ b.region ∷ [] = d.now ∙ ap (λ v. d.domain ∷ bound_to v) e in
      let domain : domain_of x ≡ d.domain = ap (λ v. unwrap_or (slice_get v 0) NONE) now in
      now ∙ ap (λ v. v ∷ b.region ∷ []) (sym domain)

  fits : (x : Object) → IsIn x m.objects → is_husk x.phase ≡ false → UsesWhatItAsked m.objects x
  fits x k standing = record {
    places = places_fit x k standing;
    bound = λ b e. (((known.stands x k).bound b e).window, bound_uses_both x b k standing e);
  }

pub uses_fit : UsesFit
uses_fit h x legal k standing = fits (made_in h) (state_of h) (legal_known h legal) (legal_uses_stand h legal) x k standing

pub uses_keep_cell : UsesKeepCell
uses_keep_cell h x o legal k used =
    let s = legal_uses_stand h legal x o k used in
    record {
      item = s.item;
      within = s.within;
      id = s.id;
      live = s.live;
      cell = (legal_celled h legal).has s.item s.within (live_no_husk s.item.phase s.live);
      made_so = ((legal_known h legal).stands s.item s.within).made_so;
    }

-- What bindings give.

holds_if : (a b : Bool) → (not a || b) ≡ true → a ≡ true → b ≡ true
holds_if true b h e = h
holds_if false b h e = absurd cc

not_zero : (n : ℕ) → not (n == 0) ≡ true → n ≢ 0
not_zero n h e = (let yes : (n == 0) ≡ true = eq-eqb n 0 e in let never : not (n == 0) ≡ false = ap not yes in cc)

within_by : (a b : ℕ) → nat_le a b ≡ true → a ≤ b
within_by a b e = grind (arith, nat_tests)

husk_or : (x : Object) (made : List Object) (b : Binding) (husk : Bool) → is_husk x.phase ≡ husk → StandsWell made x → x.binding ≡ Some b → is_husk x.phase ≡ false
husk_or x made b true e s is = absurd (none-some b (sym (s.husk e) ∙ is))
husk_or x made b false e s is = e

pub bound_gives_no_more : BoundGivesNoMore
bound_gives_no_more h x b legal k is =
    let m = state_of h in
    let known = legal_known h legal in
    let stand = legal_uses_stand h legal in
    let standing = husk_or x (made_in h) b (is_husk x.phase) refl (known.stands x k) is in
    let g = (known.stands x k).bound b is in
    let uses = bound_uses_both (made_in h) m known stand x b k standing is in
    let used : uses_object b.region x ≡ true = any_in b.region (ids_of x.uses) (let P : List ℕ → Type 0 = λ v. IsIn b.region v in subst P (sym uses) (inr (inl refl))) in
    let s = stand x b.region k used in
    let y = s.item in
    let w = known.stands y s.within in
    let one : w.made_so.item ≡ g.item = same_Some w.made_so.item g.item (sym w.made_so.there ∙ ap (slice_get (made_in h)) s.id ∙ g.there) in
    let kind : y.kind ≡ Mr = w.made_so.same.kind ∙ ap (λ (v : Object). v.kind) one ∙ g.kind in
    let none = unbound (made_in h) m known y w kind in
    let same_uses : ids_of y.uses ≡ ids_of g.item.uses =
    w.made_so.uses (live_no_husk y.phase s.live) ∙ ap (λ v. ids_of w.made_so.item.uses ++ bound_to v) none ∙ append-nil (ids_of w.made_so.item.uses) ∙ ap (λ (v : Object). ids_of v.uses) one in
    let may : may_bind x y b.offset b.length b.access ≡ true = may_as x x y g.item b refl (domain_by y g.item same_uses) (w.made_so.same.request ∙ ap (λ (v : Object). v.request) one) ∙ g.may in
    let parts = and_parts (domain_of x == domain_of y) (lets_bind y b.access && has_range y b.offset b.length) may in
    let rest = and_parts (lets_bind y b.access) (has_range y b.offset b.length) parts.1 in
    let lets = and_parts (has_right ACCESS_MW_BIND (region_access y)) (not (has_right ACCESS_REMOTE_WRITE b.access) || has_right ACCESS_LOCAL_WRITE (region_access y)) rest.0 in
    let range = and_parts (not (b.length == 0)) (nat_le (b.offset + b.length) (region_length y)) rest.1 in
    record {
      region = y;
      within = s.within;
      id = s.id;
      kind = kind;
      live = s.live;
      domain = eqb-true (domain_of x) (domain_of y) parts.0;
      lends = lets.0;
      writes = holds_if (has_right ACCESS_REMOTE_WRITE b.access) (has_right ACCESS_LOCAL_WRITE (region_access y)) lets.1;
      some = not_zero b.length range.0;
      inside = within_by (b.offset + b.length) (region_length y) range.1;
    }
