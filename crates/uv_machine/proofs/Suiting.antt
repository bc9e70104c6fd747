-- What requests ask for, and objects that suit it.
use Rattle.std.proofs.Common.{◌≡◌, ◌≢◌, ℕ, zero, suc, ◌<◌, Bool, true, false, List, [], ◌∷◌, ◌++◌, Some, None, length, refl, ap, sym, ◌∙◌, subst, arith, inl, inr, ⊎_elim, map}
use Rattle.std.specs.Prelude.{◌||◌, ◌==◌, nat_lt, filter, slice_get}
use Rattle.std.specs.List.{list_any, list_all}
use Rattle.std.proofs.lemmas.Option.{none-some, same_Some}
use Rattle.std.proofs.lemmas.Bool.{and_parts, eqb-true, eq-eqb}
use Rattle.std.proofs.lemmas.Bool.Decides.{nat_tests}
use Rattle.uv_num.specs.declared.ids.Ids.{Ids}
use Rattle.uv_num.specs.declared.ids.Ids.TheVariants.{Empty, One, Two, Three, Four}
use Rattle.uv_num.specs.declared.kind.Kind.{Kind}
use Rattle.uv_num.specs.declared.kind.Kind.TheVariants.{Pd, Channel, Cq, Qp, Srq, Ah, Mr, Mw}
use Rattle.uv_num.specs.declared.request.Act.TheVariants.{Bind, Unbind}
use Rattle.uv_num.specs.declared.request.Ask.{Ask}
use Rattle.uv_num.specs.declared.request.Request.{Request}
use Rattle.uv_num.specs.declared.request.Request.TheVariants.{AllocPd, DeallocPd, CreateChannel, DestroyChannel, CreateCq, DestroyCq, CreateQp, DestroyQp, ModifyQp, QueryQp, CreateSrq, DestroySrq, CreateAh, DestroyAh, RegMr, DeregMr, AllocMw, DeallocMw, BindMw, GetAsync}
use Rattle.uv_num.specs.declared.request.Role.{Role}
use Rattle.uv_num.specs.declared.request.Role.TheVariants.{Creates, Destroys, Acts}
use Rattle.uv_num.specs.Ids.{ids_of, is_number}
use Rattle.uv_num.specs.Kind.{kind_rank, kind_place}
use Rattle.uv_num.specs.Looks.{asked, looks_of}
use Rattle.uv_num.specs.Request.{role_of}
use Rattle.uv_machine.specs.declared.object.Object.{Object}
use Rattle.uv_machine.specs.declared.object.Change.{Change}
use Rattle.uv_machine.specs.Objects.{is_kind, on_object}
use Rattle.uv_machine.specs.Effects.{with_room_for}
use Rattle.uv_machine.specs.Reached.{IsIn, Suits, AllSuit}
use Rattle.uv_machine.proofs.Members.{IsIn-map, Passes-filter}
use Rattle.uv_machine.proofs.Changing.{KeepsLive, on_object-id, on_object-file, on_object-kind, on_object-live}
use Rattle.uv_machine.proofs.Graph.{in_room}

-- Kinds.

kind_at : ℕ → Kind
kind_at zero = Pd
kind_at (suc zero) = Channel
kind_at (suc (suc zero)) = Cq
kind_at (suc (suc (suc zero))) = Qp
kind_at (suc (suc (suc (suc zero)))) = Srq
kind_at (suc (suc (suc (suc (suc zero))))) = Ah
kind_at (suc (suc (suc (suc (suc (suc zero)))))) = Mr
kind_at (suc (suc (suc (suc (suc (suc (suc n))))))) = Mw

kind_at-place : (k : Kind) → kind_at (kind_place k) ≡ k
unfolding kind_at
kind_at-place Pd = refl
kind_at-place Channel = refl
kind_at-place Cq = refl
kind_at-place Qp = refl
kind_at-place Srq = refl
kind_at-place Ah = refl
kind_at-place Mr = refl
kind_at-place Mw = refl

pub is_kind-same : (a b : Kind) → is_kind a b ≡ true → a ≡ b
is_kind-same a b e = sym (kind_at-place a) ∙ ap kind_at (eqb-true (kind_place a) (kind_place b) e) ∙ kind_at-place b

-- Requests: what is looked at stands below what is made.

-- the rank of what a request makes; acts make nothing, and destroys look at nothing
abbrev pub role_rank : Role → ℕ
role_rank (Creates kind) = kind_rank kind
role_rank (Destroys asked) = 0
role_rank (Acts act) = 9

abbrev pub is_below : ℕ → Ask → Bool
is_below rank ask = nat_lt (kind_rank ask.kind) rank

looks_below : (request : Request) → list_all (is_below (role_rank (role_of request))) (looks_of request) ≡ true
looks_below AllocPd = refl
looks_below (DeallocPd pd) = refl
looks_below CreateChannel = refl
looks_below (DestroyChannel channel) = refl
looks_below (CreateCq depth None) = refl
looks_below (CreateCq depth (Some channel)) = refl
looks_below (DestroyCq cq) = refl
looks_below (CreateQp pd send_cq recv_cq None service send_depth recv_depth) = refl
looks_below (CreateQp pd send_cq recv_cq (Some srq) service send_depth recv_depth) = refl
looks_below (DestroyQp qp) = refl
looks_below (ModifyQp qp to attrs) = refl
looks_below (QueryQp qp) = refl
looks_below (CreateSrq pd depth) = refl
looks_below (DestroySrq srq) = refl
looks_below (CreateAh pd device) = refl
looks_below (DestroyAh ah) = refl
looks_below (RegMr pd length access) = refl
looks_below (DeregMr mr) = refl
looks_below (AllocMw pd) = refl
looks_below (DeallocMw mw) = refl
looks_below (BindMw mw None offset length access) = refl
looks_below (BindMw mw (Some mr) offset length access) = refl
looks_below GetAsync = refl

all_in : (p : Ask → Bool) (asks : List Ask) (a : Ask) → list_all p asks ≡ true → IsIn a asks → p a ≡ true
all_in p [] a all k = absurd k
all_in p (b ∷ asks) a all (inl e) = ap p e ∙ (and_parts (p b) (list_all p asks) all).0
all_in p (b ∷ asks) a all (inr k) = all_in p asks a (and_parts (p b) (list_all p asks) all).1 k

below_rank : (a b : ℕ) → nat_lt a b ≡ true → a < b
below_rank a b e = grind (arith, nat_tests)

pub looks_lower : (request : Request) (kind : Kind) (a : Ask) → role_of request ≡ Creates kind → IsIn a (looks_of request) → kind_rank a.kind < kind_rank kind
looks_lower request kind a role k =
    let test : is_below (role_rank (role_of request)) a ≡ true = all_in (is_below (role_rank (role_of request))) (looks_of request) a (looks_below request) k in
    let rank : role_rank (role_of request) ≡ kind_rank kind = ap role_rank role in
    below_rank (kind_rank a.kind) (kind_rank kind) (ap (λ n. nat_lt (kind_rank a.kind) n) (sym rank) ∙ test)

-- what a bind looks at
pub record BindLooks (request : Request) : Type 0 where
  pub window : ℕ
  pub region : ℕ
  pub looks : looks_of request ≡ asked Mw window ∷ asked Mr region ∷ []

pub bind_looks : (request : Request) (offset long access : ℕ) → role_of request ≡ Acts (Bind offset long access) → BindLooks request
bind_looks AllocPd offset long access e = absurd cc
bind_looks (DeallocPd pd) offset long access e = absurd cc
bind_looks CreateChannel offset long access e = absurd cc
bind_looks (DestroyChannel channel) offset long access e = absurd cc
bind_looks (CreateCq depth channel) offset long access e = absurd cc
bind_looks (DestroyCq cq) offset long access e = absurd cc
bind_looks (CreateQp pd send_cq recv_cq srq service send_depth recv_depth) offset long access e = absurd cc
bind_looks (DestroyQp qp) offset long access e = absurd cc
bind_looks (ModifyQp qp to attrs) offset long access e = absurd cc
bind_looks (QueryQp qp) offset long access e = absurd cc
bind_looks (CreateSrq pd depth) offset long access e = absurd cc
bind_looks (DestroySrq srq) offset long access e = absurd cc
bind_looks (CreateAh pd device) offset long access e = absurd cc
bind_looks (DestroyAh ah) offset long access e = absurd cc
bind_looks (RegMr pd len rights) offset long access e = absurd cc
bind_looks (DeregMr mr) offset long access e = absurd cc
bind_looks (AllocMw pd) offset long access e = absurd cc
bind_looks (DeallocMw mw) offset long access e = absurd cc
bind_looks (BindMw mw None from len rights) offset long access e = absurd cc
bind_looks (BindMw mw (Some mr) from len rights) offset long access e = record { window = mw; region = mr; looks = refl }
bind_looks GetAsync offset long access e = absurd cc

pub record UnbindLooks (request : Request) : Type 0 where
  pub window : ℕ
  pub looks : looks_of request ≡ asked Mw window ∷ []

pub unbind_looks : (request : Request) (offset long access : ℕ) → role_of request ≡ Acts (Unbind offset long access) → UnbindLooks request
unbind_looks AllocPd offset long access e = absurd cc
unbind_looks (DeallocPd pd) offset long access e = absurd cc
unbind_looks CreateChannel offset long access e = absurd cc
unbind_looks (DestroyChannel channel) offset long access e = absurd cc
unbind_looks (CreateCq depth channel) offset long access e = absurd cc
unbind_looks (DestroyCq cq) offset long access e = absurd cc
unbind_looks (CreateQp pd send_cq recv_cq srq service send_depth recv_depth) offset long access e = absurd cc
unbind_looks (DestroyQp qp) offset long access e = absurd cc
unbind_looks (ModifyQp qp to attrs) offset long access e = absurd cc
unbind_looks (QueryQp qp) offset long access e = absurd cc
unbind_looks (CreateSrq pd depth) offset long access e = absurd cc
unbind_looks (DestroySrq srq) offset long access e = absurd cc
unbind_looks (CreateAh pd device) offset long access e = absurd cc
unbind_looks (DestroyAh ah) offset long access e = absurd cc
unbind_looks (RegMr pd len rights) offset long access e = absurd cc
unbind_looks (DeregMr mr) offset long access e = absurd cc
unbind_looks (AllocMw pd) offset long access e = absurd cc
unbind_looks (DeallocMw mw) offset long access e = absurd cc
unbind_looks (BindMw mw None from len rights) offset long access e = record { window = mw; looks = refl }
unbind_looks (BindMw mw (Some mr) from len rights) offset long access e = absurd cc
unbind_looks GetAsync offset long access e = absurd cc

-- Objects that suit.

-- one of the objects that are looked at suits what it was asked for
pub record SuitsSome (f : ℕ) (asks : List Ask) (y : Object) : Type 0 where
  pub ask : Ask
  pub within : IsIn ask asks
  pub suits : Suits f ask y

suits_more : (f : ℕ) (a : Ask) (asks : List Ask) (y : Object) → SuitsSome f asks y → SuitsSome f (a ∷ asks) y
suits_more f a asks y s = record { ask = s.ask; within = inr s.within; suits = s.suits }

suits_by : (objects : List Object) (f : ℕ) (o : ℕ) (os : List ℕ) (a : Ask) (asks : List Ask) (y : Object) (b : Bool) → (o == y.id) ≡ b → (b || list_any (is_number y.id) os) ≡ true → ((z : Object) → IsIn z objects → z.id ≡ o → Suits f a z) → (list_any (is_number y.id) os ≡ true → SuitsSome f asks y) → IsIn y objects → SuitsSome f (a ∷ asks) y
suits_by objects f o os a asks y true e h suits later k = record { ask = a; within = inl refl; suits = suits y k (sym (eqb-true o y.id e)) }
suits_by objects f o os a asks y false e h suits later k = suits_more f a asks y (later h)

pub suits_some : (objects : List Object) (f : ℕ) (os : List ℕ) (asks : List Ask) (y : Object) → AllSuit objects f os asks → IsIn y objects → list_any (is_number y.id) os ≡ true → SuitsSome f asks y
suits_some objects f [] asks y all k h = absurd cc
suits_some objects f (o ∷ os) [] y all k h = absurd all
suits_some objects f (o ∷ os) (a ∷ asks) y all k h =
    suits_by objects f o os a asks y (o == y.id) refl h all.0 (λ more. suits_some objects f os asks y all.1 k more) k

-- what suits goes on to suit in another list of objects
abbrev pub Carries : List Object → List Object → ℕ → Type 0
Carries objects objects' o = (f : ℕ) (a : Ask) → ((y : Object) → IsIn y objects → y.id ≡ o → Suits f a y) → (y : Object) → IsIn y objects' → y.id ≡ o → Suits f a y

pub carries_same : (objects : List Object) (o : ℕ) → Carries objects objects o
carries_same objects o f a suits = suits

suits_changed : (o' : ℕ) (change : Change) (f : ℕ) (a : Ask) (z : Object) → (z.id ≡ o' → KeepsLive change) → Suits f a z → Suits f a (on_object o' change z)
suits_changed o' change f a z keeps s = record {
  kind = on_object-kind o' change z ∙ s.kind;
  same = on_object-file o' change z ∙ s.same;
  live = on_object-live o' change z s.live keeps;
}

pub carries_change : (objects : List Object) (o o' : ℕ) (change : Change) → (o ≡ o' → KeepsLive change) → Carries objects (map (on_object o' change) objects) o
carries_change objects o o' change keeps f a suits y k e =
    let from = IsIn-map (on_object o' change) y objects k in
    let z = from.item in
    let id : z.id ≡ o = sym (on_object-id o' change z) ∙ sym (ap (λ (v : Object). v.id) from.gives) ∙ e in
    let P : Object → Type 0 = λ v. Suits f a v in
    subst P (sym from.gives) (suits_changed o' change f a z (λ same. keeps (sym id ∙ same)) (suits z from.within id))

pub carries_filter : (objects : List Object) (o : ℕ) (p : Object → Bool) → Carries objects (filter p objects) o
carries_filter objects o p f a suits y k e = suits y (Passes-filter p y objects k).within e

pub carries_room : (objects : List Object) (o : ℕ) (z : Object) → o ≢ z.id → Carries objects (with_room_for z objects) o
carries_room objects o z ne f a suits y k e =
    ⊎_elim (λ old. suits y old e) (λ new. absurd (ne (sym e ∙ ap (λ (v : Object). v.id) new))) (in_room y z objects k)

or_here : (o : ℕ) (os : List ℕ) → list_any (is_number o) (o ∷ os) ≡ true
or_here o os = ap (λ b. b || list_any (is_number o) os) (eq-eqb o o refl)

or_there : (b : Bool) (rest : Bool) → rest ≡ true → (b || rest) ≡ true
or_there true rest h = refl
or_there false rest h = h

-- the same for one file
abbrev pub CarriesIn : List Object → List Object → ℕ → ℕ → Type 0
CarriesIn objects objects' f o = (a : Ask) → ((y : Object) → IsIn y objects → y.id ≡ o → Suits f a y) → (y : Object) → IsIn y objects' → y.id ≡ o → Suits f a y

pub all_carry_in : (objects objects' : List Object) (f : ℕ) (os : List ℕ) (asks : List Ask) → ((o : ℕ) → list_any (is_number o) os ≡ true → CarriesIn objects objects' f o) → AllSuit objects f os asks → AllSuit objects' f os asks
all_carry_in objects objects' f [] asks carries all = tt
all_carry_in objects objects' f (o ∷ os) [] carries all = absurd all
all_carry_in objects objects' f (o ∷ os) (a ∷ asks) carries all =
    (carries o (or_here o os) a all.0, all_carry_in objects objects' f os asks (λ u h. carries u (or_there (o == u) _ h)) all.1)

pub all_carry : (objects objects' : List Object) (f : ℕ) (os : List ℕ) (asks : List Ask) → ((o : ℕ) → list_any (is_number o) os ≡ true → Carries objects objects' o) → AllSuit objects f os asks → AllSuit objects' f os asks
all_carry objects objects' f os asks carries all = all_carry_in objects objects' f os asks (λ o h. carries o h f) all

-- one more that suits what is asked next
pub all_snoc : (objects : List Object) (f : ℕ) (os : List ℕ) (asks : List Ask) (o : ℕ) (a : Ask) → AllSuit objects f os asks → slice_get asks (length os) ≡ Some a → ((y : Object) → IsIn y objects → y.id ≡ o → Suits f a y) → AllSuit objects f (os ++ o ∷ []) asks
all_snoc objects f [] [] o a all next suits = absurd (none-some a next)
all_snoc objects f [] (b ∷ asks) o a all next suits =
    let P : Ask → Type 0 = λ v. (y : Object) → IsIn y objects → y.id ≡ o → Suits f v y in
    (subst P (sym (same_Some b a next)) suits, tt)
all_snoc objects f (u ∷ os) [] o a all next suits = absurd all
all_snoc objects f (u ∷ os) (b ∷ asks) o a all next suits = (all.0, all_snoc objects f os asks o a all.1 next suits)

-- Short lists of ids.

pub two_ids : (looked : Ids) → length (ids_of looked) ≡ 2 → (w : ℕ) × (r : ℕ) × (looked ≡ Two w r)
two_ids Empty e = absurd (omega arith)
two_ids (One a) e = absurd (omega arith)
two_ids (Two a b) e = (a, b, refl)
two_ids (Three a b c) e = absurd (omega arith)
two_ids (Four a b c d) e = absurd (omega arith)

pub one_id : (looked : Ids) → length (ids_of looked) ≡ 1 → (w : ℕ) × (looked ≡ One w)
one_id Empty e = absurd (omega arith)
one_id (One a) e = (a, refl)
one_id (Two a b) e = absurd (omega arith)
one_id (Three a b c) e = absurd (omega arith)
one_id (Four a b c d) e = absurd (omega arith)
