-- Whether an object that is made or live has a cell under a generation, after what entries make of the objects.
use Rattle.std.proofs.Common.{◌≡◌, ◌∙◌, ℕ, Bool, true, false, List, [], ◌∷◌, ◌++◌, Option, None, Some, map, refl, sym, ap, inl, inr}
use Rattle.std.specs.Prelude.{cond, ◌==◌, ◌&&◌, ◌||◌, filter, find, slice_get, if◌then◌else◌}
use Rattle.std.specs.List.{list_any}
use Rattle.std.proofs.lemmas.Bool.{eqb-true, eq-eqb}
use Rattle.uv_num.specs.declared.kind.Kind.{Kind}
use Rattle.uv_num.specs.Kind.{kind_place}
use Rattle.uv_machine.specs.declared.object.Binding.{Binding}
use Rattle.uv_machine.specs.declared.object.Change.{Change}
use Rattle.uv_machine.specs.declared.object.Change.TheVariants.{ToLive, ToDoomed, ToHusk, ToBound}
use Rattle.uv_machine.specs.declared.object.Object.{Object}
use Rattle.uv_machine.specs.declared.object.Phase.{Phase}
use Rattle.uv_machine.specs.declared.object.Phase.TheVariants as phase
use Rattle.uv_machine.specs.declared.pool.Cell.{Cell}
use Rattle.uv_machine.specs.declared.pool.Pool.{Pool}
use Rattle.uv_machine.specs.declared.state.State.{State}
use Rattle.uv_machine.specs.Made.{has_live_cell}
use Rattle.uv_machine.specs.Objects.{doomed_from, has_id, is_doomed, is_husk, is_kind, is_live, is_made, live_from, on_object, with_change}
use Rattle.uv_machine.specs.Reached.{IsCelled, IsIn, IsRising, cell_in, cell_of}
use Rattle.uv_machine.specs.States.{home_cell, home_of_kind}
use Rattle.uv_machine.proofs.Celled.{IsHomeAt, home_is}
use Rattle.uv_machine.proofs.Graph.{find_rising}
use Rattle.uv_machine.proofs.Members.{IsIn-map, Passes-find, list_any-none}
use Rattle.uv_machine.proofs.Suiting.{is_kind-same}

-- Lists.

or_false : (b : Bool) → (b || false) ≡ b
or_false true = refl
or_false false = refl

or_assoc : (a b c : Bool) → ((a || b) || c) ≡ (a || (b || c))
or_assoc true b c = refl
or_assoc false b c = refl

pub any_map : (p : Object → Bool) (f : Object → Object) (xs : List Object) → ((x : Object) → IsIn x xs → p (f x) ≡ p x) → list_any p (map f xs) ≡ list_any p xs
any_map p f [] h = refl
any_map p f (x ∷ xs) h = ap (λ b. b || list_any p (map f xs)) (h x (inl refl)) ∙ ap (λ b. p x || b) (any_map p f xs (λ y k. h y (inr k)))

any_kept : (p q : Object → Bool) (x : Object) (xs : List Object) (b : Bool) → q x ≡ b → (q x ≡ false → p x ≡ false) → list_any p (filter q xs) ≡ list_any p xs → list_any p (cond b (x ∷ filter q xs) (filter q xs)) ≡ (p x || list_any p xs)
any_kept p q x xs true e h same = ap (λ b. p x || b) same
any_kept p q x xs false e h same = same ∙ sym (ap (λ b. b || list_any p xs) (h e))

-- what a filter drops doesn't count
pub any_filter : (p q : Object → Bool) (xs : List Object) → ((x : Object) → IsIn x xs → q x ≡ false → p x ≡ false) → list_any p (filter q xs) ≡ list_any p xs
any_filter p q [] h = refl
any_filter p q (x ∷ xs) h = any_kept p q x xs (q x) refl (h x (inl refl)) (any_filter p q xs (λ y k. h y (inr k)))

pub any_one_more : (p : Object → Bool) (xs : List Object) (x : Object) → list_any p (xs ++ x ∷ []) ≡ (list_any p xs || p x)
any_one_more p [] x = or_false (p x)
any_one_more p (y ∷ xs) x = ap (λ b. p y || b) (any_one_more p xs x) ∙ sym (or_assoc (p y) (list_any p xs) (p x))

-- Tests.

pub and_last : (a b : Bool) → (a && b) ≡ true → b ≡ true
and_last true b e = e
and_last false b e = absurd cc

pub and_first : (a b : Bool) → (a && b) ≡ true → a ≡ true
and_first true b e = refl
and_first false b e = absurd cc

pub no_way : (b : Bool) → (b ≡ true → ⊥) → b ≡ false
no_way true h = absurd (h refl)
no_way false h = refl

pub both_false : (a b : Bool) → (a ≡ true → b ≡ true → ⊥) → (a && b) ≡ false
both_false true true h = absurd (h refl refl)
both_false true false h = refl
both_false false b h = refl

-- Phases.

abbrev pub is_alive : Phase → Bool
is_alive p = is_made p || is_live p

pub alive_committed : (p : Phase) → is_alive (live_from p) ≡ is_alive p
alive_committed phase.Made = refl
alive_committed phase.Live = refl
alive_committed phase.Doomed = refl
alive_committed phase.Husk = refl

alive_doomed : (p : Phase) → is_live p ≡ false → is_alive (doomed_from p) ≡ is_alive p
alive_doomed phase.Made e = refl
alive_doomed phase.Live e = absurd cc
alive_doomed phase.Doomed e = refl
alive_doomed phase.Husk e = refl

dead_doomed : (p : Phase) → is_live p ≡ true → is_alive (doomed_from p) ≡ false
dead_doomed phase.Made e = absurd cc
dead_doomed phase.Live e = refl
dead_doomed phase.Doomed e = absurd cc
dead_doomed phase.Husk e = absurd cc

pub alive_no_husk : (p : Phase) → is_alive p ≡ true → is_husk p ≡ false
alive_no_husk phase.Made e = refl
alive_no_husk phase.Live e = refl
alive_no_husk phase.Doomed e = absurd cc
alive_no_husk phase.Husk e = absurd cc

pub live_no_husk : (p : Phase) → is_live p ≡ true → is_husk p ≡ false
live_no_husk phase.Made e = absurd cc
live_no_husk phase.Live e = refl
live_no_husk phase.Doomed e = absurd cc
live_no_husk phase.Husk e = absurd cc

pub dead_if_doomed : (p : Phase) → is_doomed p ≡ true → is_alive p ≡ false
dead_if_doomed phase.Made e = absurd cc
dead_if_doomed phase.Live e = absurd cc
dead_if_doomed phase.Doomed e = refl
dead_if_doomed phase.Husk e = absurd cc

pub dead_if_husk : (p : Phase) → is_husk p ≡ true → is_alive p ≡ false
dead_if_husk phase.Made e = absurd cc
dead_if_husk phase.Live e = absurd cc
dead_if_husk phase.Doomed e = absurd cc
dead_if_husk phase.Husk e = refl

-- An object alone.

-- the object has, or had, this cell
abbrev pub sits : Kind → ℕ → Object → Bool
sits k i x = is_kind x.kind k && (x.index == i)

-- an object that counts is in the cell, and alive
pub record Counts (k : Kind) (i g : ℕ) (x : Object) : Type 0 where
  pub kind : is_kind x.kind k ≡ true
  pub index : (x.index == i) ≡ true
  pub alive : is_alive x.phase ≡ true

pub counts_so : (k : Kind) (i g : ℕ) (x : Object) → has_live_cell k i g x ≡ true → Counts k i g x
counts_so k i g x e =
    let rest = and_last (is_kind x.kind k) _ e in
    let more = and_last (x.index == i) _ rest in
    record { kind = and_first (is_kind x.kind k) _ e; index = and_first (x.index == i) _ rest; alive = and_last (x.generation == g) _ more }

pub dead_counts_not : (k : Kind) (i g : ℕ) (x : Object) → is_alive x.phase ≡ false → has_live_cell k i g x ≡ false
dead_counts_not k i g x dead = no_way (has_live_cell k i g x) (λ e. (let yes = (counts_so k i g x e).alive in cc))

pub elsewhere_counts_not : (k : Kind) (i g : ℕ) (x : Object) → sits k i x ≡ false → has_live_cell k i g x ≡ false
elsewhere_counts_not k i g x apart =
    no_way (has_live_cell k i g x)
    (λ e. (
    let c = counts_so k i g x e in
    let here : sits k i x ≡ true = ap (λ b. b && (x.index == i)) c.kind ∙ c.index in
    cc))

as_alive : (k : Kind) (i g : ℕ) (x : Object) (b : Bool) → b ≡ is_alive x.phase → (is_kind x.kind k && ((x.index == i) && ((x.generation == g) && b))) ≡ has_live_cell k i g x
as_alive k i g x b e = ap (λ v. is_kind x.kind k && ((x.index == i) && ((x.generation == g) && v))) e

change_counts : (k : Kind) (i g : ℕ) (change : Change) (x : Object) → is_alive (with_change change x).phase ≡ is_alive x.phase → has_live_cell k i g (with_change change x) ≡ has_live_cell k i g x
change_counts k i g ToLive x e = as_alive k i g x _ e
change_counts k i g ToDoomed x e = as_alive k i g x _ e
change_counts k i g ToHusk x e = as_alive k i g x _ e
change_counts k i g (ToBound binding) x e = as_alive k i g x _ e

change_sits : (k : Kind) (i : ℕ) (change : Change) (x : Object) → sits k i (with_change change x) ≡ sits k i x
change_sits k i ToLive x = refl
change_sits k i ToDoomed x = refl
change_sits k i ToHusk x = refl
change_sits k i (ToBound binding) x = refl

on_counts : (k : Kind) (i g : ℕ) (change : Change) (x : Object) (b : Bool) → (b ≡ true → has_live_cell k i g (with_change change x) ≡ has_live_cell k i g x) → has_live_cell k i g (if b then with_change change x else x) ≡ has_live_cell k i g x
on_counts k i g change x true h = h refl
on_counts k i g change x false h = refl

-- a change of the object with an id counts as before where that object counts as before
pub any_changed :
    (k : Kind) (i g o : ℕ) (change : Change) (xs : List Object) → ((x : Object) → IsIn x xs → has_id o x ≡ true → has_live_cell k i g (with_change change x) ≡ has_live_cell k i g x)
    → list_any (has_live_cell k i g) (map (on_object o change) xs) ≡ list_any (has_live_cell k i g) xs
any_changed k i g o change xs h = any_map (has_live_cell k i g) (on_object o change) xs (λ x at. on_counts k i g change x (has_id o x) (h x at))

-- a commit, a bind and an unbind
pub any_committed : (k : Kind) (i g o : ℕ) (xs : List Object) → list_any (has_live_cell k i g) (map (on_object o ToLive) xs) ≡ list_any (has_live_cell k i g) xs
any_committed k i g o xs = any_changed k i g o ToLive xs (λ x at id. change_counts k i g ToLive x (alive_committed x.phase))

pub any_bound : (k : Kind) (i g o : ℕ) (binding : Option Binding) (xs : List Object) → list_any (has_live_cell k i g) (map (on_object o (ToBound binding)) xs) ≡ list_any (has_live_cell k i g) xs
any_bound k i g o binding xs = any_changed k i g o (ToBound binding) xs (λ x at id. change_counts k i g (ToBound binding) x refl)

-- The object with an id.

found_one : (objects : List Object) (top o : ℕ) (x y : Object) → IsRising 0 objects top → find (has_id o) objects ≡ Some x → IsIn y objects → has_id o y ≡ true → y ≡ x
found_one objects top o x y rising is at id =
    let same : y.id ≡ o = eqb-true y.id o id in
    let found : find (has_id o) objects ≡ Some y = ap (λ n. find (has_id n) objects) (sym same) ∙ find_rising 0 top y objects at rising in
    let both : Some y ≡ Some x = sym found ∙ is in
    cc

-- a release: what goes was doomed
pub any_gone :
    (k : Kind) (i g o top : ℕ) (objects : List Object) (x : Object) → IsRising 0 objects top → find (has_id o) objects ≡ Some x → is_doomed x.phase ≡ true
    → list_any (has_live_cell k i g) (map (on_object o ToHusk) objects) ≡ list_any (has_live_cell k i g) objects
any_gone k i g o top objects x rising is doomed =
    any_changed k i g o ToHusk objects
    (λ y at id. (
    let same = found_one objects top o x y rising is at id in
    let dead : is_alive y.phase ≡ false = ap (λ (v : Object). is_alive v.phase) same ∙ dead_if_doomed x.phase doomed in
    change_counts k i g ToHusk y (sym dead)))

-- what is no live object stays as it is
pub any_not_taken :
    (k : Kind) (i g o top : ℕ) (objects : List Object) (x : Object) → IsRising 0 objects top → find (has_id o) objects ≡ Some x → is_live x.phase ≡ false
    → list_any (has_live_cell k i g) (map (on_object o ToDoomed) objects) ≡ list_any (has_live_cell k i g) objects
any_not_taken k i g o top objects x rising is live =
    any_changed k i g o ToDoomed objects
    (λ y at id. (
    let same = found_one objects top o x y rising is at id in
    let off : is_live y.phase ≡ false = ap (λ (v : Object). is_live v.phase) same ∙ live in
    change_counts k i g ToDoomed y (alive_doomed y.phase off)))

-- other cells than that of what is taken out of use
pub any_taken_elsewhere :
    (k : Kind) (i g o top : ℕ) (objects : List Object) (x : Object) → IsRising 0 objects top → find (has_id o) objects ≡ Some x → sits k i x ≡ false
    → list_any (has_live_cell k i g) (map (on_object o ToDoomed) objects) ≡ list_any (has_live_cell k i g) objects
any_taken_elsewhere k i g o top objects x rising is apart =
    any_changed k i g o ToDoomed objects
    (λ y at id. (
    let same = found_one objects top o x y rising is at id in
    let off : sits k i y ≡ false = ap (sits k i) same ∙ apart in
    elsewhere_counts_not k i g (with_change ToDoomed y) (change_sits k i ToDoomed y ∙ off) ∙ sym (elsewhere_counts_not k i g y off)))

taken_one : (k : Kind) (i g o top : ℕ) (objects : List Object) (x z : Object) (b : Bool) → IsRising 0 objects top → find (has_id o) objects ≡ Some x → is_live x.phase ≡ true → sits k i x ≡ true → IsIn z objects → has_id o z ≡ b
    → ((u v : Object) → IsIn u objects → IsIn v objects → is_husk u.phase ≡ false → is_husk v.phase ≡ false → u.kind ≡ v.kind → u.index ≡ v.index → u.id ≡ v.id)
    → has_live_cell k i g (if b then with_change ToDoomed z else z) ≡ false
taken_one k i g o top objects x z true rising is live here at id own =
    let same = found_one objects top o x z rising is at id in
    dead_counts_not k i g (with_change ToDoomed z) (ap (λ (v : Object). is_alive (doomed_from v.phase)) same ∙ dead_doomed x.phase live)
taken_one k i g o top objects x z false rising is live here at id own =
    no_way (has_live_cell k i g z)
    (λ e. (
    let c = counts_so k i g z e in
    let within = Passes-find (has_id o) x objects is in
    let kind : z.kind ≡ x.kind = is_kind-same z.kind k c.kind ∙ sym (is_kind-same x.kind k (and_first (is_kind x.kind k) _ here)) in
    let index : z.index ≡ x.index = eqb-true z.index i c.index ∙ sym (eqb-true x.index i (and_last (is_kind x.kind k) _ here)) in
    let one = own z x at within.within (alive_no_husk z.phase c.alive) (live_no_husk x.phase live) kind index in
    let yes : has_id o z ≡ true = eq-eqb z.id o (one ∙ eqb-true x.id o within.test) in
    cc))

-- nothing alive has the cell of what was taken out of use
pub any_taken :
    (k : Kind) (i g o top : ℕ) (objects : List Object) (x : Object) → IsRising 0 objects top → find (has_id o) objects ≡ Some x → is_live x.phase ≡ true → sits k i x ≡ true
    → ((u v : Object) → IsIn u objects → IsIn v objects → is_husk u.phase ≡ false → is_husk v.phase ≡ false → u.kind ≡ v.kind → u.index ≡ v.index → u.id ≡ v.id)
    → list_any (has_live_cell k i g) (map (on_object o ToDoomed) objects) ≡ false
any_taken k i g o top objects x rising is live here own =
    list_any-none (has_live_cell k i g) (map (on_object o ToDoomed) objects)
    (λ y at. (
    let from = IsIn-map (on_object o ToDoomed) y objects at in
    ap (has_live_cell k i g) from.gives ∙ taken_one k i g o top objects x from.item (has_id o from.item) rising is live here from.within refl own))

-- A cell that is home.

pub home_pool : (m : State) (k : Kind) (i : ℕ) (slot : Option Pool) → slice_get m.pools (kind_place k) ≡ slot → home_of_kind slot ≡ Some i → (pool : Pool) × (slice_get m.pools (kind_place k) ≡ Some pool) × IsHomeAt pool i
home_pool m k i None is home = absurd cc
home_pool m k i (Some pool) is home = (pool, is, home_is pool i home)

-- nothing alive has a cell that is home
pub home_is_free : (m : State) (k : Kind) (i g : ℕ) → IsCelled m.pools m.objects → home_cell m k ≡ Some i → list_any (has_live_cell k i g) m.objects ≡ false
home_is_free m k i g celled home =
    let h = home_pool m k i (slice_get m.pools (kind_place k)) refl home in
    let at = h.2 in
    list_any-none (has_live_cell k i g) m.objects
    (λ z within.
    no_way (has_live_cell k i g z)
    (λ e. (
    let c = counts_so k i g z e in
    let has = celled.has z within (alive_no_husk z.phase c.alive) in
    let kind : z.kind ≡ k = is_kind-same z.kind k c.kind in
    let index : z.index ≡ i = eqb-true z.index i c.index in
    let here : cell_of m.pools z ≡ Some at.cell =
    ap (λ (v : Kind). cell_in (slice_get m.pools (kind_place v)) z.index) kind
    ∙ (ap (λ n. cell_in (slice_get m.pools (kind_place k)) n) index
    ∙ (ap (λ v. cell_in v i) h.1 ∙ at.at)) in
    let one : Some has.cell ≡ Some at.cell = sym has.is ∙ here in
    let same : has.cell ≡ at.cell = cc in
    let out : at.cell.home ≡ false = ap (λ (v : Cell). v.home) (sym same) ∙ has.out in
    let in_home = at.home in
    cc)))
