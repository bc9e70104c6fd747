-- The objects ever made, and that those which stand are among them.
use Rattle.std.proofs.Common.{◌≡◌, ℕ, zero, suc, ◌+◌, true, false, List, [], ◌∷◌, Option, Some, None, length, refl, ap, sym, ◌∙◌, subst, arith, inl, inr, ◌⊎◌, ⊎_elim}
use Rattle.std.specs.Prelude.{◌++◌, ◌&&◌, ◌||◌, ◌==◌, not, nat_le, slice_get, unwrap_or}
use Rattle.std.specs.List.{list_any}
use Rattle.std.proofs.lemmas.Bool.{eq-eqb, or_left, or_right}
use Rattle.std.proofs.lemmas.List.{append_assoc, append-nil, length-append}
use Rattle.std.proofs.lemmas.Option.{none-some, same_Some}
use Rattle.uv_num.specs.declared.ids.Ids.{Ids}
use Rattle.uv_num.specs.declared.ids.Ids.TheVariants.{Empty, One, Two, Three, Four}
use Rattle.uv_num.specs.declared.kind.Kind.{Kind}
use Rattle.uv_num.specs.declared.kind.Kind.TheVariants.{Mr, Mw}
use Rattle.uv_num.specs.declared.limits.TheConstants.{NONE}
use Rattle.uv_num.specs.declared.request.Ask.{Ask}
use Rattle.uv_num.specs.declared.request.Request.{Request}
use Rattle.uv_num.specs.declared.request.Request.TheVariants.{AllocPd, DeallocPd, CreateChannel, DestroyChannel, CreateCq, DestroyCq, CreateQp, DestroyQp, ModifyQp, QueryQp, CreateSrq, DestroySrq, CreateAh, DestroyAh, RegMr, DeregMr, AllocMw, DeallocMw, BindMw, GetAsync}
use Rattle.uv_num.specs.declared.request.Role.TheVariants.{Creates}
use Rattle.uv_num.specs.Ids.{ids_of, ids_and, first_alone, is_number}
use Rattle.uv_num.specs.Looks.{looks_of}
use Rattle.uv_num.specs.Request.{role_of}
use Rattle.uv_num.proofs.Prefixes.{slice_get-append_left}
use Rattle.uv_machine.specs.declared.entry.Entry.{Entry}
use Rattle.uv_machine.specs.declared.entry.Word.TheVariants as word
use Rattle.uv_machine.specs.declared.object.Binding.{Binding}
use Rattle.uv_machine.specs.declared.object.Object.{Object}
use Rattle.uv_machine.specs.declared.object.Change.TheVariants.{ToLive, ToDoomed, ToHusk, ToBound}
use Rattle.uv_machine.specs.declared.object.Phase.{Phase}
use Rattle.uv_machine.specs.declared.object.Phase.TheVariants as phase
use Rattle.uv_machine.specs.declared.call.InFlight.{InFlight}
use Rattle.uv_machine.specs.declared.state.State.{State}
use Rattle.uv_machine.specs.Objects.{is_live, is_husk, live_from, doomed_from, with_change, domain_of}
use Rattle.uv_machine.specs.Acts.{may_bind, lets_bind, has_range}
use Rattle.uv_machine.specs.Requests.{access_in, length_in}
use Rattle.uv_num.specs.declared.access.TheConstants.{ACCESS_LOCAL_WRITE, ACCESS_REMOTE_WRITE, ACCESS_MW_BIND}
use Rattle.uv_num.specs.Access.{has_right}
use Rattle.uv_machine.specs.States.{start}
use Rattle.uv_machine.specs.Histories.{Allowed, after, state_from, state_of, IsLegal}
use Rattle.uv_machine.specs.Reached.{IsIn, AllSuit, StandsLive, LooksStand, Reached, look_count}
use Rattle.uv_machine.specs.Made.{new_by, listed, made_from, made_in}
use Rattle.uv_machine.specs.ObjectLaws.{MadeGoesOn, MadeInOrder, MadeCounts, IsSame, bound_to, IsAsMade, StandsAsMade, KeepsCell}
use Rattle.uv_machine.proofs.Members.{IsIn-append-cases}
use Rattle.uv_machine.proofs.Planned.{stands_in_plan}
use Rattle.uv_machine.proofs.Phased.{looks_in, create_has}
use Rattle.uv_machine.proofs.GoingOn.{state_from-snoc}
use Rattle.uv_machine.proofs.Holding.{suits_at}
use Rattle.uv_machine.proofs.Keeping.{id_below}
use Rattle.uv_machine.proofs.Numbers.{legal_numbered}
use Rattle.uv_machine.proofs.Reaching.{Reached-state_of, Reached-after}
use Rattle.uv_machine.proofs.Standing.{legal_looks_stand}
use Rattle.uv_machine.proofs.Historied.{by_history, legal_parts}
use Rattle.uv_machine.proofs.Coming.{Lends, Comes, AllCome, come_after}
use Rattle.uv_machine.proofs.Dealing.{Adds, Deals, deals_after}

made_from-snoc : (m : State) (h : List Entry) (e : Entry) → made_from m (h ++ e ∷ []) ≡ made_from m h ++ listed (new_by (state_from m h) e)
made_from-snoc m [] e = append-nil (listed (new_by m e))
made_from-snoc m (x ∷ h) e =
    ap (λ v. listed (new_by m x) ++ v) (made_from-snoc (after m x) h e) ∙ sym (append_assoc (listed (new_by m x)) (made_from (after m x) h) (listed (new_by (state_from (after m x) h) e)))

pub made_goes_on : MadeGoesOn
made_goes_on h e = made_from-snoc start h e

-- Lists that grow by one.

pub last_at : {X : Type 0} (xs : List X) (z : X) (j : ℕ) → j ≡ length xs → slice_get (xs ++ z ∷ []) j ≡ Some z
last_at [] z zero e = refl
last_at [] z (suc j) e = absurd (omega (arith, e))
last_at (x ∷ xs) z zero e = absurd (omega (arith, e))
last_at (x ∷ xs) z (suc j) e = last_at xs z j (omega (arith, e))

pub at_grown : {X : Type 0} (xs : List X) (z x : X) (j : ℕ) → slice_get (xs ++ z ∷ []) j ≡ Some x → (slice_get xs j ≡ Some x) ⊎ ((j ≡ length xs) × (x ≡ z))
at_grown [] z x zero e = inr (omega arith, sym (same_Some z x e))
at_grown [] z x (suc j) e = absurd (none-some x e)
at_grown (y ∷ xs) z x zero e = inl e
at_grown (y ∷ xs) z x (suc j) e = ⊎_elim (λ k. inl k) (λ k. inr (omega (arith, k.0), k.1)) (at_grown xs z x j e)

pub in_grown : {X : Type 0} (xs : List X) (z x : X) → IsIn x (xs ++ z ∷ []) → IsIn x xs ⊎ (x ≡ z)
in_grown xs z x k = ⊎_elim (λ h. inl h) (λ h. inr (only_one z x h)) (IsIn-append-cases x xs (z ∷ []) k)
  where
    only_one : {X : Type 0} (z x : X) → IsIn x (z ∷ []) → x ≡ z
    only_one z x (inl e) = e
    only_one z x (inr h) = absurd h

-- What was made.

-- an id is that of an object that was made, of the kind that was asked for, in this file
pub record IsOneMade (made : List Object) (f o : ℕ) (asked : Ask) : Type 0 where
  pub item : Object
  pub there : slice_get made o ≡ Some item
  pub kind : item.kind ≡ asked.kind
  pub same : item.file ≡ f

abbrev pub AllMade : List Object → ℕ → List ℕ → List Ask → Type 0
AllMade made f [] [] = Unit {0}
AllMade made f [] (asked ∷ asks) = ⊥
AllMade made f (o ∷ os) [] = ⊥
AllMade made f (o ∷ os) (asked ∷ asks) = IsOneMade made f o asked × AllMade made f os asks

pub record MadeWell (made : List Object) (z : Object) : Type 0 where
  pub creates : role_of z.request ≡ Creates z.kind
  pub looks : AllMade made z.file (ids_of z.uses) (looks_of z.request)

-- the region of a window that is bound
pub record RegionMade (made : List Object) (x : Object) (b : Binding) : Type 0 where
  pub window : x.kind ≡ Mw
  pub item : Object
  pub there : slice_get made b.region ≡ Some item
  pub kind : item.kind ≡ Mr
  pub same : item.file ≡ x.file
  pub may : may_bind x item b.offset b.length b.access ≡ true

pub record StandsWell (made : List Object) (x : Object) : Type 0 where
  pub made_so : IsAsMade made x
  pub bound : (b : Binding) → x.binding ≡ Some b → RegionMade made x b
  pub husk : is_husk x.phase ≡ true → x.binding ≡ None

pub record Known (made : List Object) (m : State) : Type 0 where
  pub count : length made ≡ m.made
  pub order : (j : ℕ) (z : Object) → slice_get made j ≡ Some z → z.id ≡ j
  pub well : (j : ℕ) (z : Object) → slice_get made j ≡ Some z → MadeWell made z
  pub stands : (x : Object) → IsIn x m.objects → StandsWell made x

-- More objects.

module _ (made : List Object) (z : Object) where
  all_more : (f : ℕ) (os : List ℕ) (asks : List Ask) → AllMade made f os asks → AllMade (made ++ z ∷ []) f os asks
  all_more f [] [] all = tt
  all_more f [] (asked ∷ asks) all = absurd all
  all_more f (o ∷ os) [] all = absurd all
  all_more f (o ∷ os) (asked ∷ asks) all = (one_more, all_more f os asks all.1)
    where
      one_more : IsOneMade (made ++ z ∷ []) f o asked
      one_more = record { item = all.0.item; there = slice_get-append_left made (z ∷ []) o all.0.item all.0.there; kind = all.0.kind; same = all.0.same }

  well_more : (x : Object) → MadeWell made x → MadeWell (made ++ z ∷ []) x
  well_more x w = record { creates = w.creates; looks = all_more x.file (ids_of x.uses) (looks_of x.request) w.looks }

  as_more : (x : Object) → IsAsMade made x → IsAsMade (made ++ z ∷ []) x
  as_more x a = record { item = a.item; there = slice_get-append_left made (z ∷ []) x.id a.item a.there; same = a.same; uses = a.uses }

  region_more : (x : Object) (b : Binding) → RegionMade made x b → RegionMade (made ++ z ∷ []) x b
  region_more x b g = record {
    window = g.window;
    item = g.item;
    there = slice_get-append_left made (z ∷ []) b.region g.item g.there;
    kind = g.kind;
    same = g.same;
    may = g.may;
  }

  stands_more : (x : Object) → StandsWell made x → StandsWell (made ++ z ∷ []) x
  stands_more x s = record { made_so = as_more x s.made_so; bound = λ b e. region_more x b (s.bound b e); husk = s.husk }

-- A new object.

pub any_in : (o : ℕ) (os : List ℕ) → IsIn o os → list_any (is_number o) os ≡ true
any_in o [] k = absurd k
any_in o (p ∷ os) (inl e) = or_left (p == o) (list_any (is_number o) os) (eq-eqb p o (sym e))
any_in o (p ∷ os) (inr k) = or_right (p == o) (list_any (is_number o) os) (any_in o os k)

module _ (made : List Object) (m : State) (known : Known made m) where
  -- what suits was made
  all_made : (f : ℕ) (os : List ℕ) (asks : List Ask) → ((o : ℕ) → IsIn o os → StandsLive m.objects f o) → AllSuit m.objects f os asks → length os ≡ length asks → AllMade made f os asks
  all_made f [] [] stands all long = tt
  all_made f [] (asked ∷ asks) stands all long = absurd (omega (arith, long))
  all_made f (o ∷ os) [] stands all long = absurd all
  all_made f (o ∷ os) (asked ∷ asks) stands all long =
      let s = stands o (inl refl) in
      let suits = all.0 s.item s.within s.id in
      let a = (known.stands s.item s.within).made_so in (
        record {
          item = a.item;
          there = ap (slice_get made) (sym s.id) ∙ a.there;
          kind = sym a.same.kind ∙ suits.kind;
          same = sym a.same.file ∙ suits.same;
        },
        all_made f os asks (λ p k. stands p (inr k)) all.1 (omega (arith, long)),
      )

  module _ (r : Reached m) (looks : LooksStand m) (z : Object) (m' : State) (adds : Adds m z m') where
    abbrev call_now : InFlight
    call_now = adds.begins.call

    looked_at_make : look_count adds.begins.call ≡ looks_in adds.begins.call
    looked_at_make =
        let b = adds.begins in
        let s = stands_in_plan b.call word.Make b.plan in
        let has = (create_has b.call s.kind (r.phased b.actor b.call b.is) b.plan.fine s.creates).looking (omega (arith, s.at)) (omega (arith, s.at)) in
        omega (arith, has.looks_are, s.at)

    well_new : MadeWell made z
    well_new =
        let b = adds.begins in
        let all = all_made b.call.file (ids_of b.call.looked) (looks_of b.call.request) (λ o k. looks b.actor o b.call b.is (any_in o (ids_of b.call.looked) k)) (suits_at m r b.actor b.call b.is word.Make b.plan refl) looked_at_make in
        let P : Object → Type 0 = λ v. MadeWell made v in
        subst P (sym b.gives) (record { creates = b.creates; looks = all })

    id_new : z.id ≡ length made
    id_new = ap (λ (v : Object). v.id) adds.begins.gives ∙ sym known.count

    plain_new : z.binding ≡ None
    plain_new = ap (λ (v : Object). v.binding) adds.begins.gives

    stands_new : StandsWell (made ++ z ∷ []) z
    stands_new = record {
      made_so = record {
        item = z;
        there = last_at made z z.id id_new;
        same = record { id = refl; kind = refl; file = refl; handle = refl; request = refl; index = refl; generation = refl };
        uses = λ e. sym (append-nil (ids_of z.uses)) ∙ ap (λ v. ids_of z.uses ++ bound_to v) (sym plain_new);
      };
      bound = λ b e. absurd (none-some b (sym plain_new ∙ e));
      husk = λ e. plain_new;
    }

    pub known_new : Known (made ++ z ∷ []) m'
    known_new = record {
      count = length-append made (z ∷ []) ∙ (let n = known.count in let k = adds.made in omega (arith, n, k));
      order = λ j x e. ⊎_elim (λ old. known.order j x old) (λ new. ap (λ (v : Object). v.id) new.1 ∙ id_new ∙ sym new.0) (at_grown made z x j e);
      well = λ j x e. ⊎_elim
          (λ old. well_more made z x (known.well j x old))
          (λ new. (let P : Object → Type 0 = λ v. MadeWell (made ++ z ∷ []) v in subst P (sym new.1) (well_more made z z well_new)))
          (at_grown made z x j e);
      stands = λ x k. ⊎_elim
          (λ old. stands_more made z x (known.stands x old))
          (λ new. (let P : Object → Type 0 = λ v. StandsWell (made ++ z ∷ []) v in subst P (sym new) stands_new))
          (in_grown m.objects z x (let P : List Object → Type 0 = λ v. IsIn x v in subst P adds.objects k));
    }

-- Objects that were there before.

live_standing : (p : Phase) → is_husk (live_from p) ≡ false → is_husk p ≡ false
live_standing phase.Made e = refl
live_standing phase.Live e = refl
live_standing phase.Doomed e = refl
live_standing phase.Husk e = absurd cc

doomed_standing : (p : Phase) → is_husk (doomed_from p) ≡ false → is_husk p ≡ false
doomed_standing phase.Made e = refl
doomed_standing phase.Live e = refl
doomed_standing phase.Doomed e = refl
doomed_standing phase.Husk e = absurd cc

live_husk : (p : Phase) → is_husk (live_from p) ≡ true → is_husk p ≡ true
live_husk phase.Made e = absurd cc
live_husk phase.Live e = absurd cc
live_husk phase.Doomed e = absurd cc
live_husk phase.Husk e = refl

doomed_husk : (p : Phase) → is_husk (doomed_from p) ≡ true → is_husk p ≡ true
doomed_husk phase.Made e = absurd cc
doomed_husk phase.Live e = absurd cc
doomed_husk phase.Doomed e = absurd cc
doomed_husk phase.Husk e = refl

pub live_no_husk : (p : Phase) → is_live p ≡ true → is_husk p ≡ false
live_no_husk phase.Made e = absurd cc
live_no_husk phase.Live e = refl
live_no_husk phase.Doomed e = absurd cc
live_no_husk phase.Husk e = absurd cc

-- a request that creates a window looks at one object
window_looks : (request : Request) → role_of request ≡ Creates Mw → length (looks_of request) ≡ 1
window_looks AllocPd e = absurd cc
window_looks (DeallocPd pd) e = absurd cc
window_looks CreateChannel e = absurd cc
window_looks (DestroyChannel channel) e = absurd cc
window_looks (CreateCq depth channel) e = absurd cc
window_looks (DestroyCq cq) e = absurd cc
window_looks (CreateQp pd send_cq recv_cq srq service send_depth recv_depth) e = absurd cc
window_looks (DestroyQp qp) e = absurd cc
window_looks (ModifyQp qp to attrs) e = absurd cc
window_looks (QueryQp qp) e = absurd cc
window_looks (CreateSrq pd depth) e = absurd cc
window_looks (DestroySrq srq) e = absurd cc
window_looks (CreateAh pd device) e = absurd cc
window_looks (DestroyAh ah) e = absurd cc
window_looks (RegMr pd long access) e = absurd cc
window_looks (DeregMr mr) e = absurd cc
window_looks (AllocMw pd) e = refl
window_looks (DeallocMw mw) e = absurd cc
window_looks (BindMw mw None offset long access) e = absurd cc
window_looks (BindMw mw (Some mr) offset long access) e = absurd cc
window_looks GetAsync e = absurd cc

pub made_long : (made : List Object) (f : ℕ) (os : List ℕ) (asks : List Ask) → AllMade made f os asks → length os ≡ length asks
made_long made f [] [] all = refl
made_long made f [] (asked ∷ asks) all = absurd all
made_long made f (o ∷ os) [] all = absurd all
made_long made f (o ∷ os) (asked ∷ asks) all = (let more = made_long made f os asks all.1 in omega (arith, more))

one_of : (os : List ℕ) → length os ≡ 1 → (o : ℕ) × (os ≡ o ∷ [])
one_of [] e = absurd (omega (arith, e))
one_of (o ∷ []) e = (o, refl)
one_of (o ∷ p ∷ os) e = absurd (omega (arith, e))

head_same : (a d : ℕ) (more rest : List ℕ) → a ∷ more ≡ d ∷ rest → a ≡ d
head_same a d more rest e = same_Some a d (ap (λ v. slice_get v 0) e)

first_is : (uses : Ids) (d : ℕ) (rest : List ℕ) → ids_of uses ≡ d ∷ rest → first_alone uses ≡ One d
first_is Empty d rest e = absurd (none-some d (ap (λ v. slice_get v 0) e))
first_is (One a) d rest e = ap (λ v. One v) (head_same a d _ rest e)
first_is (Two a b) d rest e = ap (λ v. One v) (head_same a d _ rest e)
first_is (Three a b c) d rest e = ap (λ v. One v) (head_same a d _ rest e)
first_is (Four a b c d') d rest e = ap (λ v. One v) (head_same a d _ rest e)

-- the uses of an object by its ids
pub domain_by : (x y : Object) → ids_of x.uses ≡ ids_of y.uses → domain_of x ≡ domain_of y
domain_by x y e = ap (λ v. unwrap_or (slice_get v 0) NONE) e

-- a bind's tests read the domains, and the region's request
pub may_as : (x x' y y' : Object) (b : Binding) → domain_of x ≡ domain_of x' → domain_of y ≡ domain_of y' → y.request ≡ y'.request → may_bind x y b.offset b.length b.access ≡ may_bind x' y' b.offset b.length b.access
may_as x x' y y' b dx dy q =
    ap (λ v. (v == domain_of y) && (lets_bind y b.access && has_range y b.offset b.length)) dx
    ∙ ap (λ v. (domain_of x' == v) && (lets_bind y b.access && has_range y b.offset b.length)) dy
    ∙ ap (λ v. (domain_of x' == domain_of y') && ((has_right ACCESS_MW_BIND (access_in v) && (not (has_right ACCESS_REMOTE_WRITE b.access) || has_right ACCESS_LOCAL_WRITE (access_in v))) && (not (b.length == 0) && nat_le (b.offset + b.length) (length_in v)))) q

-- a region isn't bound
unbound_by : (made : List Object) (y : Object) (binding : Option Binding) → y.binding ≡ binding → StandsWell made y → y.kind ≡ Mr → y.binding ≡ None
unbound_by made y None e s kind = e
unbound_by made y (Some b) e s kind = absurd (let g = s.bound b e in let both : Mw ≡ Mr = sym g.window ∙ kind in cc)

module _ (made : List Object) (m : State) (known : Known made m) where
  pub unbound : (y : Object) → StandsWell made y → y.kind ≡ Mr → y.binding ≡ None
  unbound y s kind = unbound_by made y y.binding refl s kind

  -- a window uses its domain, and where it is bound the region after it
  pub record UsesDomain (x item : Object) : Type 0 where
    pub domain : ℕ
    pub first : ids_of item.uses ≡ domain ∷ []
    pub now : ids_of x.uses ≡ domain ∷ bound_to x.binding

  pub uses_domain : (x : Object) → (k : IsIn x m.objects) → x.kind ≡ Mw → is_husk x.phase ≡ false → UsesDomain x (known.stands x k).made_so.item
  uses_domain x k window standing =
      let a = (known.stands x k).made_so in
      let w = known.well x.id a.item a.there in
      let role : role_of a.item.request ≡ Creates Mw = w.creates ∙ ap (λ (v : Kind). Creates v) (sym a.same.kind ∙ window) in
      let one = one_of (ids_of a.item.uses) (made_long made a.item.file (ids_of a.item.uses) (looks_of a.item.request) w.looks ∙ window_looks a.item.request role) in
      record { domain = one.0; first = one.1; now = a.uses standing ∙ ap (λ v. v ++ bound_to x.binding) one.1 }

  stands_as : (x y : Object) → x ≡ y → StandsWell made y → StandsWell made x
  stands_as x y e s = let P : Object → Type 0 = λ v. StandsWell made v in subst P (sym e) s

  live_stands : (x : Object) → StandsWell made x → StandsWell made (with_change ToLive x)
  live_stands x s =
      let a = s.made_so in
      record {
        made_so = record {
          item = a.item;
          there = a.there;
          same = record { id = a.same.id; kind = a.same.kind; file = a.same.file; handle = a.same.handle; request = a.same.request; index = a.same.index; generation = a.same.generation };
          uses = λ e. a.uses (live_standing x.phase e);
        };
        bound = λ b e. (let g = s.bound b e in record { window = g.window; item = g.item; there = g.there; kind = g.kind; same = g.same; may = g.may });
        husk = λ e. s.husk (live_husk x.phase e);
      }

  doomed_stands : (x : Object) → StandsWell made x → StandsWell made (with_change ToDoomed x)
  doomed_stands x s =
      let a = s.made_so in
      record {
        made_so = record {
          item = a.item;
          there = a.there;
          same = record { id = a.same.id; kind = a.same.kind; file = a.same.file; handle = a.same.handle; request = a.same.request; index = a.same.index; generation = a.same.generation };
          uses = λ e. a.uses (doomed_standing x.phase e);
        };
        bound = λ b e. (let g = s.bound b e in record { window = g.window; item = g.item; there = g.there; kind = g.kind; same = g.same; may = g.may });
        husk = λ e. s.husk (doomed_husk x.phase e);
      }

  husk_stands : (x : Object) → StandsWell made x → StandsWell made (with_change ToHusk x)
  husk_stands x s =
      let a = s.made_so in
      record {
        made_so = record {
          item = a.item;
          there = a.there;
          same = record { id = a.same.id; kind = a.same.kind; file = a.same.file; handle = a.same.handle; request = a.same.request; index = a.same.index; generation = a.same.generation };
          uses = λ e. absurd cc;
        };
        bound = λ b e. absurd (none-some b e);
        husk = λ e. refl;
      }

  -- the region that a bind gives a window
  lent : (x : Object) (b : Binding) (k : IsIn x m.objects) → x.kind ≡ Mw → is_live x.phase ≡ true → Lends m x b → RegionMade made (with_change (ToBound (Some b)) x) b
  lent x b k window live l =
      let d = uses_domain x k window (live_no_husk x.phase live) in
      let g = known.stands l.region l.within in
      let a = g.made_so in
      let none : l.region.binding ≡ None = unbound l.region g l.kind in
      let uses : ids_of l.region.uses ≡ ids_of a.item.uses =
      a.uses (live_no_husk l.region.phase l.live) ∙ ap (λ v. ids_of a.item.uses ++ bound_to v) none ∙ append-nil (ids_of a.item.uses) in
      let now : ids_of (with_change (ToBound (Some b)) x).uses ≡ d.domain ∷ b.region ∷ [] = ap (λ v. ids_of (ids_and v b.region)) (first_is x.uses d.domain (bound_to x.binding) d.now) in
      let domain : domain_of (with_change (ToBound (Some b)) x) ≡ domain_of x =
      ap (λ v. unwrap_or (slice_get v 0) NONE) now ∙ ap (λ v. unwrap_or (slice_get v 0) NONE) (sym d.now) in
      record {
        window = window;
        item = a.item;
        there = ap (slice_get made) (sym l.id) ∙ a.there;
        kind = sym a.same.kind ∙ l.kind;
        same = sym a.same.file ∙ l.same;
        may = may_as (with_change (ToBound (Some b)) x) x a.item l.region b domain (sym (domain_by l.region a.item uses)) (sym a.same.request) ∙ l.may;
      }

  bound_stands : (x : Object) (b : Binding) (k : IsIn x m.objects) → x.kind ≡ Mw → is_live x.phase ≡ true → Lends m x b → StandsWell made (with_change (ToBound (Some b)) x)
  bound_stands x b k window live l =
      let d = uses_domain x k window (live_no_husk x.phase live) in
      let a = (known.stands x k).made_so in
      record {
        made_so = record {
          item = a.item;
          there = a.there;
          same = record { id = a.same.id; kind = a.same.kind; file = a.same.file; handle = a.same.handle; request = a.same.request; index = a.same.index; generation = a.same.generation };
          uses = λ e. ap (λ v. ids_of (ids_and v b.region)) (first_is x.uses d.domain (bound_to x.binding) d.now) ∙ ap (λ v. v ++ b.region ∷ []) (sym d.first);
        };
        bound = λ b' e. (let P : Binding → Type 0 = λ v. RegionMade made (with_change (ToBound (Some b)) x) v in subst P (same_Some b b' e) (lent x b k window live l));
        husk = λ e. absurd (let never = live_no_husk x.phase live in cc);
      }

  unbound_stands : (x : Object) (k : IsIn x m.objects) → x.kind ≡ Mw → is_live x.phase ≡ true → StandsWell made (with_change (ToBound None) x)
  unbound_stands x k window live =
      let d = uses_domain x k window (live_no_husk x.phase live) in
      let a = (known.stands x k).made_so in
      record {
        made_so = record {
          item = a.item;
          there = a.there;
          same = record { id = a.same.id; kind = a.same.kind; file = a.same.file; handle = a.same.handle; request = a.same.request; index = a.same.index; generation = a.same.generation };
          uses = λ e. ap ids_of (first_is x.uses d.domain (bound_to x.binding) d.now) ∙ ap (λ v. v ++ []) (sym d.first);
        };
        bound = λ b e. absurd (none-some b e);
        husk = λ e. refl;
      }

  stands_on : (m' : State) → Reached m' → m'.made ≡ m.made → (y : Object) → IsIn y m'.objects → Comes m y → StandsWell made y
  stands_on m' r' same y h (Comes.Stays k) = known.stands y k
  stands_on m' r' same y h (Comes.ToLives x k e) = stands_as y (with_change ToLive x) e (live_stands x (known.stands x k))
  stands_on m' r' same y h (Comes.Dooms x k e) = stands_as y (with_change ToDoomed x) e (doomed_stands x (known.stands x k))
  stands_on m' r' same y h (Comes.Husks x k doomed e) = stands_as y (with_change ToHusk x) e (husk_stands x (known.stands x k))
  stands_on m' r' same y h (Comes.Binds x b k window live l e) = stands_as y (with_change (ToBound (Some b)) x) e (bound_stands x b k window live l)
  stands_on m' r' same y h (Comes.Unbinds x k window live e) = stands_as y (with_change (ToBound None) x) e (unbound_stands x k window live)
  stands_on m' r' same y h (Comes.IsNew b) =
      let id : y.id ≡ m.made = ap (λ (v : Object). v.id) b.gives in
      let low = id_below m' r' y h in
      absurd (omega (arith, id, low, same))

  known_old : (m' : State) → Reached m' → m'.made ≡ m.made → AllCome m m'.objects → Known made m'
  known_old m' r' same come = record {
    count = known.count ∙ sym same;
    order = known.order;
    well = known.well;
    stands = λ y h. stands_on m' r' same y h (come y h);
  }

-- Every legal history.

known_deals : (made : List Object) (m : State) (e : Entry) (new : Option Object) → Reached m → Reached (after m e) → LooksStand m → AllCome m (after m e).objects → Deals m new (after m e) → Known made m → Known (made ++ listed new) (after m e)
known_deals made m e new r r' looks come (Deals.MakesOne z is adds) known =
    let P : Option Object → Type 0 = λ v. Known (made ++ listed v) (after m e) in
    subst P (sym is) (known_new made m known r looks z (after m e) adds)
known_deals made m e new r r' looks come (Deals.BuriesOne x none same returns) known =
    let P : Option Object → Type 0 = λ v. Known (made ++ listed v) (after m e) in
    let Q : List Object → Type 0 = λ v. Known v (after m e) in
    subst P (sym none) (subst Q (sym (append-nil made)) (known_old made m known (after m e) r' same come))
known_deals made m e new r r' looks come (Deals.DealsNone none same pools) known =
    let P : Option Object → Type 0 = λ v. Known (made ++ listed v) (after m e) in
    let Q : List Object → Type 0 = λ v. Known v (after m e) in
    subst P (sym none) (subst Q (sym (append-nil made)) (known_old made m known (after m e) r' same come))

abbrev pub KnownAt : List Entry → Type 0
KnownAt h = Known (made_in h) (state_of h)

known_start : KnownAt []
unfolding start
known_start = record {
  count = refl;
  order = λ j z e. absurd (none-some z e);
  well = λ j z e. absurd (none-some z e);
  stands = λ x k. absurd k;
}

known_step : (h : List Entry) (e : Entry) → IsLegal h → Allowed (state_of h) e → KnownAt h → KnownAt (h ++ e ∷ [])
known_step h e legal allowed known =
    let m = state_of h in
    let r = Reached-state_of h legal in
    let next = known_deals (made_in h) m e (new_by m e) r (Reached-after m e allowed r) (legal_looks_stand h legal) (come_after m e r allowed) (deals_after m e r (legal_numbered h legal) allowed) known in
    let P : List Object → Type 0 = λ v. Known v (after m e) in
    let Q : State → Type 0 = λ v. Known (made_in (h ++ e ∷ [])) v in
    subst Q (sym (state_from-snoc start h e)) (subst P (sym (made_goes_on h e)) next)

pub legal_known : (h : List Entry) → IsLegal h → KnownAt h
legal_known h legal = by_history KnownAt known_start known_step h legal

pub made_in_order : MadeInOrder
made_in_order h j x legal e = (legal_known h legal).order j x e

pub made_counts : MadeCounts
made_counts h legal = (legal_known h legal).count

pub stands_as_made : StandsAsMade
stands_as_made h x legal k = ((legal_known h legal).stands x k).made_so

-- Objects at two times.

pub made_from-append : (m : State) (h more : List Entry) → made_from m (h ++ more) ≡ made_from m h ++ made_from (state_from m h) more
made_from-append m [] more = refl
made_from-append m (e ∷ h) more =
    ap (λ v. listed (new_by m e) ++ v) (made_from-append (after m e) h more)
    ∙ sym (append_assoc (listed (new_by m e)) (made_from (after m e) h) (made_from (state_from (after m e) h) more))

pub same_as : (x y z : Object) → IsSame x z → IsSame y z → IsSame x y
same_as x y z s t = record {
  id = s.id ∙ sym t.id;
  kind = s.kind ∙ sym t.kind;
  file = s.file ∙ sym t.file;
  handle = s.handle ∙ sym t.handle;
  request = s.request ∙ sym t.request;
  index = s.index ∙ sym t.index;
  generation = s.generation ∙ sym t.generation;
}

pub keeps_cell : KeepsCell
keeps_cell h more x y legal k k' id =
    let a = stands_as_made h x (legal_parts start h more legal).0 k in
    let b = stands_as_made (h ++ more) y legal k' in
    let here : slice_get (made_in (h ++ more)) x.id ≡ Some a.item =
    ap (λ v. slice_get v x.id) (made_from-append start h more) ∙ slice_get-append_left (made_in h) (made_from (state_of h) more) x.id a.item a.there in
    let one : a.item ≡ b.item = same_Some a.item b.item (sym here ∙ ap (slice_get (made_in (h ++ more))) id ∙ b.there) in
    let P : Object → Type 0 = λ v. IsSame y v in
    same_as x y a.item a.same (subst P (sym one) b.same)
