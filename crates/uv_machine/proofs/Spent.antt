-- A cell that is out, and that no object has, has had its last life.
use Rattle.std.proofs.Common.{◌≡◌, ◌≢◌, ℕ, ◌≤◌, Bool, true, false, List, [], ◌∷◌, Option, Some, None, map, refl, ap, sym, ◌∙◌, subst, inl, ⊎_elim}
use Rattle.std.specs.Prelude.{◌++◌, ◌&&◌, ◌==◌, not, nat_le, nat_lt, slice_get, option_map, filter, length, if◌then◌else◌}
use Rattle.std.specs.List.{list_any}
use Rattle.std.proofs.lemmas.Bool.{and_parts, eqb-true, eq-eqb, ne_eqb}
use Rattle.std.proofs.lemmas.Bool.Decides.{eqb_tells}
use Rattle.std.proofs.lemmas.Option.{same_Some}
use Rattle.uv_num.specs.declared.errno.Errno.{Errno}
use Rattle.uv_num.specs.declared.limits.TheConstants.{KINDS, MOST_GENERATION, MOST_OBJECTS}
use Rattle.uv_num.specs.declared.request.Act as request
use Rattle.uv_num.specs.declared.request.Act.TheVariants.{Modify, Query, Bind, Unbind, Async}
use Rattle.uv_num.specs.Kind.{kind_place}
use Rattle.uv_num.specs.Place.{at_place}
use Rattle.uv_machine.specs.declared.entry.Entry.{Entry}
use Rattle.uv_machine.specs.declared.entry.Entry.TheVariants.{Open, Enter, Step, Unplug, Tear, Kill, Gone, Dissociated, Closed}
use Rattle.uv_machine.specs.declared.entry.Word.TheVariants as word
use Rattle.uv_machine.specs.declared.entry.Answer.{Answer}
use Rattle.uv_machine.specs.declared.object.Object.{Object}
use Rattle.uv_machine.specs.declared.object.Phase.{Phase}
use Rattle.uv_machine.specs.declared.object.Phase.TheVariants as phase
use Rattle.uv_machine.specs.declared.object.Change.{Change}
use Rattle.uv_machine.specs.declared.object.Change.TheVariants.{ToLive, ToDoomed, ToHusk, ToBound}
use Rattle.uv_machine.specs.declared.call.InFlight.{InFlight}
use Rattle.uv_machine.specs.declared.pool.Cell.{Cell}
use Rattle.uv_machine.specs.declared.pool.Pool.{Pool}
use Rattle.uv_machine.specs.declared.state.State.{State}
use Rattle.uv_machine.specs.Objects.{has_id, is_doomed, is_husk, with_change, on_object}
use Rattle.uv_machine.specs.Cells.{sent_out, buried, drawn, buried_at}
use Rattle.uv_machine.specs.Plans.{own_object, acted_on}
use Rattle.uv_machine.specs.States.{call_of, object_with, start}
use Rattle.uv_machine.specs.Effects.{refusal_in, act, binding_of, finish, with_burial, buried_if_doomed, not_with_id, not_in_file, gone_from, unless_answered}
use Rattle.uv_machine.specs.Histories.{Allowed, after, state_of, IsLegal}
use Rattle.uv_machine.specs.Reached.{IsIn, cell_in, IsCelled, Reached}
use Rattle.uv_machine.specs.Made.{new_by, is_at}
use Rattle.uv_machine.specs.ObjectLaws.{SpentIsLast}
use Rattle.uv_machine.proofs.Members.{IsIn-append-right, IsIn-into_map, Passes-find, SomePasses-list_any, fails_any, fails_find}
use Rattle.uv_machine.proofs.Planned.{InPlan, next_word-planned}
use Rattle.uv_machine.proofs.Turns.{Turn, object_made, IsTurn-allowed}
use Rattle.uv_machine.proofs.Turns.Turn.{Refuses, Reserves, Looks, Makes, Commits, Does, Locks, Checks, Finishes, Aborts, Frees, Leaves}
use Rattle.uv_machine.proofs.Holding.{finish_objects}
use Rattle.uv_machine.proofs.Keeping.{same_object, owns_at_finish}
use Rattle.uv_machine.proofs.Owning.{into_filter, with_room_by}
use Rattle.uv_machine.proofs.CelledTurns.{legal_celled, doomed_stands, changed_index}
use Rattle.uv_machine.proofs.Changing.{on_object-kind}
use Rattle.uv_machine.proofs.Balanced.{keeps_standing, changed_husk, not_standing}
use Rattle.uv_machine.proofs.Emptying.{closed_empty}
use Rattle.uv_machine.proofs.Numbers.{legal_numbered}
use Rattle.uv_machine.proofs.Lives.{is_ending, Finishing}
use Rattle.uv_machine.proofs.Lifetimes.{lived_of}
use Rattle.uv_machine.proofs.Reaching.{Reached-state_of}
use Rattle.uv_machine.proofs.GoingOn.{state_from-snoc}
use Rattle.uv_machine.proofs.Historied.{by_history}
use Rattle.uv_machine.proofs.Dealing.{Deals, deals_after}
use Rattle.uv_machine.proofs.Counting.{cell_here, cell_by, at_here, buried_by, start_cell, legal_counted}

-- What becomes of an object that is no husk: it keeps its cell, or the cell is buried.

pub data Fate (m m' : State) (y : Object) : Type 0 where
  Stays : (x : Object) → IsIn x m'.objects → is_husk x.phase ≡ false → x.kind ≡ y.kind → x.index ≡ y.index → Fate m m' y
  IsBuried : m'.pools ≡ at_place m.pools (kind_place y.kind) (buried_at y.index) → Fate m m' y

module _ (m : State) (y : Object) (k : IsIn y m.objects) (standing : is_husk y.phase ≡ false) where
  stays_as : (m' n : State) → m' ≡ n → IsIn y n.objects → Fate m m' y
  stays_as m' n e h = let P : State → Type 0 = λ s. IsIn y s.objects in Fate.Stays y (subst P (sym e) h) standing refl refl

  changed_here : (o : ℕ) (change : Change) → keeps_standing change ≡ true → is_husk (on_object o change y).phase ≡ false
  changed_here o change keeps = changed_husk (has_id o y) change y keeps ∙ standing

  stays_changed : (m' n : State) (o : ℕ) (change : Change) → keeps_standing change ≡ true → m' ≡ n → n.objects ≡ map (on_object o change) m.objects → Fate m m' y
  stays_changed m' n o change keeps e is =
      let P : List Object → Type 0 = λ v. IsIn (on_object o change y) v in
      Fate.Stays (on_object o change y) (subst P (sym (ap (λ (s : State). s.objects) e ∙ is)) (IsIn-into_map (on_object o change) y m.objects k))
      (changed_here o change keeps) (on_object-kind o change y) (changed_index (has_id o y) change y)

  stays_act : (m' : State) (c : ℕ) (call : InFlight) (a : Answer) (what : request.Act) → m' ≡ act m c call a what → Fate m m' y
  stays_act m' c call a (Modify to attrs) e = stays_as m' _ e k
  stays_act m' c call a Query e = stays_as m' _ e k
  stays_act m' c call a (Bind offset long access) e = stays_changed m' _ (acted_on call) (ToBound (Some (binding_of call offset long access))) refl e refl
  stays_act m' c call a (Unbind offset long access) e = stays_changed m' _ (acted_on call) (ToBound None) refl e refl
  stays_act m' c call a Async e = stays_as m' _ e k

  -- an object that goes or is kept by a filter
  stays_kept : (m' : State) (o : ℕ) → m'.objects ≡ filter (not_with_id o) m.objects → y.id ≢ o → Fate m m' y
  stays_kept m' o is ne =
      let P : List Object → Type 0 = λ v. IsIn y v in
      Fate.Stays y (subst P (sym is) (into_filter (not_with_id o) m.objects y k (ap not (ne_eqb y.id o ne)))) standing refl refl

  ending_doomed : (p : Phase) → is_ending p ≡ true → is_husk p ≡ false → is_doomed p ≡ true
  ending_doomed phase.Made e h = absurd cc
  ending_doomed phase.Live e h = absurd cc
  ending_doomed phase.Doomed e h = refl
  ending_doomed phase.Husk e h = absurd cc

  -- the slot of an object is its own
  slot_is : Reached m → (o : ℕ) (slot : Option Object) → y.id ≡ o → object_with m o ≡ slot → slot ≡ Some y
  slot_is r o None id e = absurd (let gone = fails_find (has_id o) y m.objects e k in let here = eq-eqb y.id o id in cc)
  slot_is r o (Some x) id e =
      let p = Passes-find (has_id o) x m.objects e in
      ap (λ (v : Object). Some v) (same_object m r x y p.within k (eqb-true x.id o p.test ∙ sym id))

  buries_own : (slot : Option Object) → slot ≡ Some y → is_doomed y.phase ≡ true → (buried_if_doomed m slot).pools ≡ at_place m.pools (kind_place y.kind) (buried_at y.index)
  buries_own slot is doomed = ap (λ s. (buried_if_doomed m s).pools) is ∙ ap (λ b. (if b then with_burial m y else m).pools) doomed

  fate_finish : Reached m → Finishing m → (c : ℕ) (call : InFlight) → call_of m c ≡ Some call → InPlan call word.Finish → (m' : State) → m' ≡ finish m c (own_object call) → Fate m m' y
  fate_finish r f c call is plan m' e =
      let o = own_object call in
      ⊎_elim
      (λ same. (
      let owns = owns_at_finish m r c call is plan in
      let ends = f c call is (next_word-planned call word.Finish plan.fine plan.planned) y k (owns ∙ ap (λ (v : ℕ). Some v) (sym same.1)) in
      Fate.IsBuried (ap (λ (s : State). s.pools) e ∙ buries_own (object_with m o) (slot_is r o (object_with m o) same.1 refl) (ending_doomed y.phase ends standing))))
      (λ apart. stays_kept m' o (ap (λ (s : State). s.objects) e ∙ finish_objects m c o) apart.1)
      (eqb_tells y.id o)

  fate_turn : Reached m → Finishing m → (c : ℕ) (call : InFlight) (a : Answer) (m' : State) → call_of m c ≡ Some call → Turn m c call a m' → Fate m m' y
  fate_turn r f c call a m' is (Refuses t) = stays_as m' _ t.gives k
  fate_turn r f c call a m' is (Reserves t) = stays_as m' _ t.gives k
  fate_turn r f c call a m' is (Looks t) = stays_as m' _ t.gives k
  fate_turn r f c call a m' is (Makes t) = stays_as m' _ t.gives (with_room_by (nat_lt (length m.objects) MOST_OBJECTS) (object_made m call t.kind t.index) y m.objects k)
  fate_turn r f c call a m' is (Commits t) = stays_changed m' _ (own_object call) ToLive refl t.gives refl
  fate_turn r f c call a m' is (Does t) = stays_act m' c call a t.what t.gives
  fate_turn r f c call a m' is (Locks t) = stays_as m' _ t.gives k
  fate_turn r f c call a m' is (Checks t) = stays_changed m' _ (own_object call) ToDoomed refl t.gives refl
  fate_turn r f c call a m' is (Finishes t) = fate_finish r f c call is t.plan m' t.gives
  fate_turn r f c call a m' is (Aborts t) = stays_as m' _ t.gives k
  fate_turn r f c call a m' is (Frees t) = stays_as m' _ t.gives k
  fate_turn r f c call a m' is (Leaves t) = stays_as m' _ t.gives k

  fate_unless : (m' : State) (e : Option Errno) → IsIn y m'.objects → Fate m (unless_answered m e m') y
  fate_unless m' None h = stays_as m' m' refl h
  fate_unless m' (Some e) h = stays_as m m refl k

  gone_here : (o : ℕ) (slot : Option Object) → slot ≡ Some y → Fate m (gone_from m o slot) y
  gone_here o slot is =
      let P : Option Object → Type 0 = λ s. Fate m (gone_from m o s) y in
      subst P (sym is) (Fate.IsBuried refl)

  gone_other : (o : ℕ) (slot : Option Object) → y.id ≢ o → Fate m (gone_from m o slot) y
  gone_other o None apart = stays_as m m refl k
  gone_other o (Some x) apart =
      let P : Object → Type 0 = λ v. IsIn v (map (on_object o ToHusk) m.objects) in
      let same : on_object o ToHusk y ≡ y = ap (λ b. if b then with_change ToHusk y else y) (ne_eqb y.id o apart) in
      stays_as (gone_from m o (Some x)) (gone_from m o (Some x)) refl (subst P same (IsIn-into_map (on_object o ToHusk) y m.objects k))

  fate_gone : Reached m → (o : ℕ) → Fate m (gone_from m o (object_with m o)) y
  fate_gone r o =
      ⊎_elim
      (λ same. gone_here o (object_with m o) (slot_is r o (object_with m o) same.1 refl))
      (λ apart. gone_other o (object_with m o) apart.1)
      (eqb_tells y.id o)

  fate_closed : (f : ℕ) → Allowed m (Closed f) → Fate m (after m (Closed f)) y
  fate_closed f allowed =
      ⊎_elim
      (λ same. absurd (let husk = not_standing m f y (closed_empty m f allowed) k same.1 in cc))
      (λ apart. stays_as (after m (Closed f)) (after m (Closed f)) refl (into_filter (not_in_file f) m.objects y k (ap not apart.0)))
      (eqb_tells y.file f)

  pub fate : Reached m → Finishing m → (e : Entry) → Allowed m e → Fate m (after m e) y
  fate r f (Open c g d a) allowed = fate_unless _ (refusal_in a) k
  fate r f (Enter c g request a) allowed = fate_unless _ (refusal_in a) k
  fate r f (Step c w o found a) allowed =
      let t = IsTurn-allowed m c w o found a allowed in
      fate_turn r f c t.call a (after m (Step c w o found a)) t.is t.turn
  fate r f (Unplug d) allowed = stays_as (after m (Unplug d)) (after m (Unplug d)) refl k
  fate r f (Tear g by) allowed = stays_as (after m (Tear g by)) (after m (Tear g by)) refl k
  fate r f (Kill o) allowed = stays_changed (after m (Kill o)) (after m (Kill o)) o ToDoomed refl refl refl
  fate r f (Gone o kept) allowed = fate_gone r o
  fate r f (Dissociated g) allowed = stays_as (after m (Dissociated g)) (after m (Dissociated g)) refl k
  fate r f (Closed g) allowed = fate_closed g allowed

-- Cells that no object has.

-- an object that has a cell
abbrev pub stands_at : ℕ → ℕ → Object → Bool
stands_at k i x = is_at k i x && not (is_husk x.phase)

abbrev pub NoneAt : List Object → ℕ → ℕ → Type 0
NoneAt objects k i = (x : Object) → IsIn x objects → is_husk x.phase ≡ false → is_at k i x ≡ false

abbrev pub SpentIn : State → Type 0
SpentIn m =
    (k i : ℕ) (cell : Cell) → cell_in (slice_get m.pools k) i ≡ Some cell → cell.home ≡ false → NoneAt m.objects k i → cell.generation ≡ MOST_GENERATION

not_at : (here husk : Bool) → (here && not husk) ≡ false → husk ≡ false → here ≡ false
not_at true true e h = absurd cc
not_at true false e h = absurd cc
not_at false husk e h = refl

standing_is : (husk : Bool) → not husk ≡ true → husk ≡ false
standing_is true e = absurd cc
standing_is false e = refl

none_at : (objects : List Object) (k i : ℕ) → list_any (stands_at k i) objects ≡ false → NoneAt objects k i
none_at objects k i e x h standing = not_at (is_at k i x) (is_husk x.phase) (fails_any (stands_at k i) x objects e h) standing

at_same : (x y : Object) (k i : ℕ) → x.kind ≡ y.kind → x.index ≡ y.index → is_at k i x ≡ is_at k i y
at_same x y k i kind index = ap (λ v. (kind_place v == k) && (x.index == i)) kind ∙ ap (λ v. (kind_place y.kind == k) && (v == i)) index

module _ (m : State) (counted : (k i : ℕ) (cell : Cell) → cell_in (slice_get m.pools k) i ≡ Some cell → cell.generation ≤ MOST_GENERATION) (celled : IsCelled m.pools m.objects) (m' : State) where
  -- a cell that an object had is buried
  spent_buried : (k i : ℕ) (cell : Cell) (y : Object) → cell_in (slice_get m'.pools k) i ≡ Some cell → cell.home ≡ false → IsIn y m.objects → is_husk y.phase ≡ false → is_at k i y ≡ true → m'.pools ≡ at_place m.pools (kind_place y.kind) (buried_at y.index) → cell.generation ≡ MOST_GENERATION
  spent_buried k i cell y e out h standing here pools =
      let parts = and_parts (kind_place y.kind == k) (y.index == i) here in
      let ek = eqb-true (kind_place y.kind) k parts.0 in
      let ei = eqb-true y.index i parts.1 in
      let has = celled.has y h standing in
      let there : cell_in (slice_get m.pools k) i ≡ Some has.cell = ap (λ v. cell_in (slice_get m.pools v) i) (sym ek) ∙ ap (cell_in (slice_get m.pools (kind_place y.kind))) (sym ei) ∙ has.is in
      let now : option_map buried (cell_in (slice_get m.pools k) i) ≡ Some cell =
      sym (cell_here m.pools (kind_place y.kind) y.index (buried_at y.index) buried (λ pool. refl) k i ek ei) ∙ ap (λ v. cell_in (slice_get v k) i) (sym pools) ∙ e in
      let same : buried has.cell ≡ cell = same_Some (buried has.cell) cell (sym (ap (option_map buried) there) ∙ now) in
      let b = buried_by has.cell (nat_le MOST_GENERATION has.cell.generation) refl has.out (counted k i has.cell there) in
      sym (ap (λ (v : Cell). v.generation) same) ∙ b.2 (ap (λ (v : Cell). v.home) same ∙ out)

  abbrev pub SpentAt : ℕ → ℕ → Option Cell → Type 0
  SpentAt k i s = (cell : Cell) → s ≡ Some cell → cell.home ≡ false → cell.generation ≡ MOST_GENERATION

  -- a cell that no object had: it was out before, or is given now
  spent_new : (new : Option Object) → Deals m new m' → (k i : ℕ) → SpentIn m → NoneAt m.objects k i → NoneAt m'.objects k i → SpentAt k i (cell_in (slice_get m'.pools k) i)
  spent_new new (Deals.MakesOne z is adds) k i before none none' =
      let P : List Pool → Type 0 = λ v. SpentAt k i (cell_in (slice_get v k) i) in
      subst P (sym adds.pools)
      (cell_by m.pools (kind_place z.kind) z.index (drawn z.index) sent_out (λ pool. refl) k i (SpentAt k i)
      (λ ek ei cell e out. absurd (
      let Q : List Object → Type 0 = λ v. IsIn z v in
      let away = none' z (subst Q (sym adds.objects) (IsIn-append-right z m.objects (z ∷ []) (inl refl))) (ap (λ (v : Object). is_husk v.phase) adds.begins.gives) in
      let here = at_here z k i ek ei in
      cc))
      (λ apart cell e out. before k i cell e out none))
  spent_new new (Deals.BuriesOne x none_new same returns) k i before none none' =
      let P : List Pool → Type 0 = λ v. SpentAt k i (cell_in (slice_get v k) i) in
      subst P (sym returns.pools)
      (cell_by m.pools (kind_place x.kind) x.index (buried_at x.index) buried (λ pool. refl) k i (SpentAt k i)
      (λ ek ei cell e out. absurd (
      let away = none x returns.within (doomed_stands x.phase returns.doomed) in
      let here = at_here x k i ek ei in
      cc))
      (λ apart cell e out. before k i cell e out none))
  spent_new new (Deals.DealsNone none_new same pools) k i before none none' =
      let P : List Pool → Type 0 = λ v. SpentAt k i (cell_in (slice_get v k) i) in
      subst P (sym pools) (λ cell e out. before k i cell e out none)

  spent_fate : (k i : ℕ) (cell : Cell) (y : Object) → Fate m m' y → cell_in (slice_get m'.pools k) i ≡ Some cell → cell.home ≡ false → IsIn y m.objects → is_husk y.phase ≡ false → is_at k i y ≡ true → NoneAt m'.objects k i → cell.generation ≡ MOST_GENERATION
  spent_fate k i cell y (Fate.Stays x h' standing' kind index) e out h standing here none' =
      absurd (let away = none' x h' standing' in let same = at_same x y k i kind index in cc)
  spent_fate k i cell y (Fate.IsBuried pools) e out h standing here none' = spent_buried k i cell y e out h standing here pools

  spent_cases : (new : Option Object) → Deals m new m' → ((y : Object) → IsIn y m.objects → is_husk y.phase ≡ false → Fate m m' y) → SpentIn m → (k i : ℕ) (cell : Cell) (some : Bool) → list_any (stands_at k i) m.objects ≡ some → cell_in (slice_get m'.pools k) i ≡ Some cell → cell.home ≡ false → NoneAt m'.objects k i → cell.generation ≡ MOST_GENERATION
  spent_cases new deals fates before k i cell true some e out none' =
      let one = SomePasses-list_any (stands_at k i) m.objects some in
      let y = one.item in
      let parts = and_parts (is_at k i y) (not (is_husk y.phase)) one.passes.test in
      let standing = standing_is (is_husk y.phase) parts.1 in
      spent_fate k i cell y (fates y one.passes.within standing) e out one.passes.within standing parts.0 none'
  spent_cases new deals fates before k i cell false some e out none' =
      spent_new new deals k i before (none_at m.objects k i some) none' cell e out

spent_after : (h : List Entry) (e : Entry) → IsLegal h → Allowed (state_of h) e → SpentIn (state_of h) → SpentIn (after (state_of h) e)
spent_after h e legal allowed before k i cell is out none' =
    let m = state_of h in
    let r = Reached-state_of h legal in
    let f = (lived_of h 0 legal).finishing in
    spent_cases m (legal_counted h legal).low (legal_celled h legal) (after m e) (new_by m e) (deals_after m e r (legal_numbered h legal) allowed)
    (λ y within standing. fate m y within standing r f e allowed) before k i cell (list_any (stands_at k i) m.objects) refl is out none'

abbrev pub SpentThere : List Entry → Type 0
SpentThere h = SpentIn (state_of h)

-- at the start each cell is home
spent_start : SpentThere []
unfolding start
spent_start k i cell e out none = absurd (let home = (start_cell k KINDS i cell e).1 in cc)

spent_step : (h : List Entry) (e : Entry) → IsLegal h → Allowed (state_of h) e → SpentThere h → SpentThere (h ++ e ∷ [])
spent_step h e legal allowed before =
    let P : State → Type 0 = λ v. SpentIn v in
    subst P (sym (state_from-snoc start h e)) (spent_after h e legal allowed before)

pub spent_is_last : SpentIsLast
spent_is_last h k i cell legal e out none = by_history SpentThere spent_start spent_step h legal k i cell e out none
