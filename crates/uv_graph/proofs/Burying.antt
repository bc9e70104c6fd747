-- A burial: an object is released, and its cell's deed comes home.
use Rattle.std.proofs.Common.{◌≡◌, ◌≢◌, ℕ, ◌+◌, ◌≤◌, Bool, true, false, List, [], ◌∷◌, ◌++◌, Option, Some, None, length, map, refl, ap, sym, ◌∙◌, subst, arith, ⊎_elim}
use Rattle.std.specs.Prelude.{not, nat_le, ◌&&◌, sum, slice_get, find, filter, option_map, if◌then◌else◌}
use Rattle.std.proofs.lemmas.List.{length-set}
use Rattle.std.proofs.lemmas.Option.{none-some, same_Some}
use Rattle.std.proofs.lemmas.Bool.{eq-eqb, eqb-true, ne_eqb}
use Rattle.std.proofs.lemmas.Bool.Decides.{eqb_tells}
use Rattle.uv_num.specs.declared.identity.Identity.{Identity}
use Rattle.uv_num.specs.declared.limits.TheConstants.{MOST_GENERATION}
use Rattle.uv_num.specs.Kind.{kind_place}
use Rattle.uv_num.specs.Place.{at_place}
use Rattle.uv_num.proofs.PlaceLaws.{length-at_place, slice_get-at_place_same, slice_get-at_place_other}
use Rattle.uv_pool.specs.declared.deed.Life.{Life}
use Rattle.uv_pool.specs.Homes.{Homes, deed_at, brought, is_out_at, IsOutOf}
use Rattle.uv_pool.proofs.Places.{cell_is_out, deed_at-brought_same, deed_at-brought_other}
use Rattle.uv_machine.specs.declared.entry.Entry.{Entry}
use Rattle.uv_machine.specs.declared.entry.Entry.TheVariants.{Step, Gone}
use Rattle.uv_machine.specs.declared.entry.Word.TheVariants.{Finish}
use Rattle.uv_machine.specs.declared.entry.Answer.TheVariants as answer
use Rattle.uv_machine.specs.declared.object.Object.{Object}
use Rattle.uv_machine.specs.declared.object.Change.TheVariants.{ToHusk}
use Rattle.uv_machine.specs.declared.pool.Cell.{Cell}
use Rattle.uv_machine.specs.declared.pool.Pool.{Pool}
use Rattle.uv_machine.specs.declared.state.State.{State}
use Rattle.uv_machine.specs.Objects.{has_id, is_doomed, with_change, on_object}
use Rattle.uv_machine.specs.Cells.{buried, buried_at}
use Rattle.uv_machine.specs.States.{object_with}
use Rattle.uv_machine.specs.Effects.{finish, buried_if_doomed, with_burial, with_object, not_with_id, gone_from, after_step}
use Rattle.uv_machine.specs.Histories.{Allowed, after, state_of, IsLegal}
use Rattle.uv_machine.specs.Reached.{IsIn, Reached, IsCelled, cell_in}
use Rattle.uv_machine.proofs.Members.{Passes-find, Passes-filter, IsIn-map}
use Rattle.uv_machine.proofs.Holding.{finish_objects}
use Rattle.uv_machine.proofs.Turns.{IsTurn-allowed}
use Rattle.uv_machine.specs.Made.{is_at, new_by}
use Rattle.uv_graph.specs.declared.out.Out.{Out}
use Rattle.uv_pool.specs.Deeds.{DeedFacts, TellsLives, BehindBy}
use Rattle.uv_graph.specs.Deeds.{IsDeedBuried}
use Rattle.uv_graph.specs.Kept.{Kept, out_of, kill_of}
use Rattle.uv_graph.specs.Lives.{known_in, life_in, lives_in, lives_out}
use Rattle.uv_machine.specs.Logged.{Logged}
use Rattle.uv_graph.specs.Seats.{stands_at, holder_of, seat_of, slot_of, deed_in, seat_place, IsPlaced, IsUnheld, IsAway, IsFor, IsPoolFor, HasOut, HasKill, IsTied}
use Rattle.uv_graph.specs.Slots.{put_slot}
use Rattle.uv_graph.proofs.Finding.{find-map, find-filter, find-none}
use Rattle.uv_graph.proofs.Handing.{slot_here, slot_other, tied_by}
use Rattle.uv_graph.proofs.Holders.{stands_parts, kind_same, kind_within, same_object, one_holder, doomed_stands, place_apart}
use Rattle.uv_graph.proofs.MachineLaws.{state_goes_on}
use Rattle.uv_graph.proofs.Planting.{has_at, Standing, standing_at, held_there, placed_parts}
use Rattle.uv_graph.proofs.Tying.{lives_go_on, seat_eq, append_none}

-- Cells.

cell_here : (s : Option Pool) (i : ℕ) (cell : Cell) → cell_in s i ≡ Some cell → cell_in (option_map (buried_at i) s) i ≡ Some (buried cell)
cell_here None i cell e = absurd (none-some cell e)
cell_here (Some p) i cell e = slice_get-at_place_same p.cells i buried ∙ ap (option_map buried) e

cell_else : (s : Option Pool) (i j : ℕ) → j ≢ i → cell_in (option_map (buried_at i) s) j ≡ cell_in s j
cell_else None i j ne = refl
cell_else (Some p) i j ne = slice_get-at_place_other p.cells i j buried ne

-- another object, which stood in another cell
pub record StoodApart (m : State) (x y : Object) : Type 0 where
  pub within : IsIn y m.objects
  pub apart : kind_place x.kind ≡ kind_place y.kind → x.index ≡ y.index → ⊥

-- What an entry does that releases an object.
pub record Buries (m m' : State) (x : Object) : Type 0 where
  pub pools : m'.pools ≡ at_place m.pools (kind_place x.kind) (buried_at x.index)
  pub here : (ls : List Life) → holder_of ls m'.objects (kind_place x.kind) x.index ≡ None
  pub other : (ls : List Life) (n i : ℕ) → (kind_place x.kind ≡ n → x.index ≡ i → ⊥) → holder_of ls m'.objects n i ≡ holder_of ls m.objects n i
  pub doomed : (y : Object) → IsIn y m'.objects → is_doomed y.phase ≡ true → StoodApart m x y

module _ (m : State) (r : Reached m) (c : IsCelled m.pools m.objects) (o : ℕ) (x : Object) (there : object_with m o ≡ Some x) (doomed : is_doomed x.phase ≡ true) where
  within_x : IsIn x m.objects
  within_x = (Passes-find (has_id o) x m.objects there).within

  id_x : x.id ≡ o
  id_x = eqb-true x.id o (Passes-find (has_id o) x m.objects there).test

  -- an object of this id is this one
  is_x : (y : Object) → IsIn y m.objects → y.id ≡ o → y ≡ x
  is_x y k e = same_object m y x r k within_x (e ∙ sym id_x)

  no_if : (b : Bool) → (b ≡ true → ⊥) → b ≡ false
  no_if true h = absurd (h refl)
  no_if false h = refl

  not_here : (n i : ℕ) → (kind_place x.kind ≡ n → x.index ≡ i → ⊥) → stands_at n i x ≡ false
  not_here n i apart = no_if (stands_at n i x) (λ h. (let s = stands_parts n i x h in apart s.kind s.index))

  kept_else : (n i : ℕ) → (kind_place x.kind ≡ n → x.index ≡ i → ⊥) → (y : Object) → IsIn y m.objects → stands_at n i y ≡ true → not_with_id o y ≡ true
  kept_else n i apart y k h =
      ap not (ne_eqb y.id o (λ e. (let same = ap (stands_at n i) (is_x y k e) in let fails = not_here n i apart in cc)))

  one_here : (y : Object) → IsIn y m.objects → stands_at (kind_place x.kind) x.index y ≡ true → y ≡ x
  one_here y k h = one_holder m r c x within_x (doomed_stands x.phase doomed) y k (stands_parts (kind_place x.kind) x.index y h)

  apart_from : (y : Object) → IsIn y m.objects → is_doomed y.phase ≡ true → (y.id ≡ o → ⊥) → kind_place x.kind ≡ kind_place y.kind → x.index ≡ y.index → ⊥
  apart_from y k d other kinds indices =
      let same = one_holder m r c x within_x (doomed_stands x.phase doomed) y k (record { kind = sym kinds; index = sym indices; standing = doomed_stands y.phase d }) in
      other (ap (λ (v : Object). v.id) same ∙ id_x)

  -- by removal
  filtered_apart : (y : Object) → IsIn y (filter (not_with_id o) m.objects) → is_doomed y.phase ≡ true → StoodApart m x y
  filtered_apart y k d =
      let p = Passes-filter (not_with_id o) y m.objects k in
      record { within = p.within; apart = apart_from y p.within d (λ e. (let gone : not_with_id o y ≡ false = ap not (eq-eqb y.id o e) in let kept = p.test in cc)) }

  filtered_none : (y : Object) → IsIn y (filter (not_with_id o) m.objects) → stands_at (kind_place x.kind) x.index y ≡ false
  filtered_none y k =
      let p = Passes-filter (not_with_id o) y m.objects k in
      no_if (stands_at (kind_place x.kind) x.index y)
      (λ h. (let same = one_here y p.within h in let gone : not_with_id o y ≡ false = ap not (eq-eqb y.id o (ap (λ (v : Object). v.id) same ∙ id_x)) in let kept = p.test in cc))

  pub removes : (m' : State) → m'.pools ≡ at_place m.pools (kind_place x.kind) (buried_at x.index) → m'.objects ≡ filter (not_with_id o) m.objects → Buries m m' x
  removes m' pools objects = record {
    pools = pools;
    here = λ ls. ap (λ v. holder_of ls v (kind_place x.kind) x.index) objects ∙ ap (option_map (known_in ls)) (find-none (stands_at (kind_place x.kind) x.index) (filter (not_with_id o) m.objects) filtered_none);
    other = λ ls n i apart. ap (λ v. holder_of ls v n i) objects ∙ ap (option_map (known_in ls)) (find-filter (stands_at n i) (not_with_id o) m.objects (kept_else n i apart));
    doomed = λ y k d. filtered_apart y (let P : List Object → Type 0 = λ v. IsIn y v in subst P objects k) d;
  }

  -- by a husk
  and_none : (b : Bool) → (b && false) ≡ false
  and_none true = refl
  and_none false = refl

  husk_fails : (n i : ℕ) (b : Bool) (y : Object) → b ≡ true → stands_at n i (if b then with_change ToHusk y else y) ≡ false
  husk_fails n i true y e = and_none (is_at n i y)
  husk_fails n i false y e = absurd cc

  unchanged : (n i : ℕ) (b : Bool) (y : Object) → b ≡ false → stands_at n i (if b then with_change ToHusk y else y) ≡ stands_at n i y
  unchanged n i true y e = absurd cc
  unchanged n i false y e = refl

  same_at : (n i : ℕ) → (kind_place x.kind ≡ n → x.index ≡ i → ⊥) → (y : Object) → IsIn y m.objects → (b : Bool) → has_id o y ≡ b → stands_at n i (on_object o ToHusk y) ≡ stands_at n i y
  same_at n i apart y k true e =
      let same = is_x y k (eqb-true y.id o e) in
      husk_fails n i (has_id o y) y e ∙ sym (ap (stands_at n i) same ∙ not_here n i apart)
  same_at n i apart y k false e = unchanged n i (has_id o y) y e

  mapped_none : (y : Object) → IsIn y m.objects → (b : Bool) → has_id o y ≡ b → stands_at (kind_place x.kind) x.index (on_object o ToHusk y) ≡ false
  mapped_none y k true e = husk_fails (kind_place x.kind) x.index (has_id o y) y e
  mapped_none y k false e =
      unchanged (kind_place x.kind) x.index (has_id o y) y e
      ∙ no_if (stands_at (kind_place x.kind) x.index y) (λ h. (let same = one_here y k h in let yes : has_id o y ≡ true = eq-eqb y.id o (ap (λ (v : Object). v.id) same ∙ id_x) in cc))

  none_mapped : (y : Object) → IsIn y (map (on_object o ToHusk) m.objects) → stands_at (kind_place x.kind) x.index y ≡ false
  none_mapped y k =
      let from = IsIn-map (on_object o ToHusk) y m.objects k in
      ap (stands_at (kind_place x.kind) x.index) from.gives ∙ mapped_none from.item from.within (has_id o from.item) refl

  same_known : (ls : List Life) (b : Bool) (y : Object) → known_in ls (if b then with_change ToHusk y else y) ≡ known_in ls y
  same_known ls true y = refl
  same_known ls false y = refl

  known_else : (ls : List Life) (n i : ℕ) (slot : Option Object) → find (stands_at n i) m.objects ≡ slot → (kind_place x.kind ≡ n → x.index ≡ i → ⊥) → option_map (known_in ls) (option_map (on_object o ToHusk) slot) ≡ option_map (known_in ls) slot
  known_else ls n i None e apart = refl
  known_else ls n i (Some y) e apart = ap (λ (v : Identity). Some v) (same_known ls (has_id o y) y)

  mapped_apart : (b : Bool) (z y : Object) → IsIn z m.objects → has_id o z ≡ b → y ≡ (if b then with_change ToHusk z else z) → is_doomed y.phase ≡ true → StoodApart m x y
  mapped_apart true z y k is gives d = absurd (let no : is_doomed y.phase ≡ false = ap (λ (v : Object). is_doomed v.phase) gives in cc)
  mapped_apart false z y k is gives d =
      let P : Object → Type 0 = λ v. StoodApart m x v in
      subst P (sym gives)
      (record { within = k; apart = apart_from z k (ap (λ (v : Object). is_doomed v.phase) (sym gives) ∙ d) (λ e. (let yes : has_id o z ≡ true = eq-eqb z.id o e in cc)) })

  husks_apart : (y : Object) → IsIn y (map (on_object o ToHusk) m.objects) → is_doomed y.phase ≡ true → StoodApart m x y
  husks_apart y k d = let from = IsIn-map (on_object o ToHusk) y m.objects k in mapped_apart (has_id o from.item) from.item y from.within refl from.gives d

  pub husks : (m' : State) → m'.pools ≡ at_place m.pools (kind_place x.kind) (buried_at x.index) → m'.objects ≡ map (on_object o ToHusk) m.objects → Buries m m' x
  husks m' pools objects = record {
    pools = pools;
    here = λ ls. ap (λ v. holder_of ls v (kind_place x.kind) x.index) objects ∙ ap (option_map (known_in ls)) (find-none (stands_at (kind_place x.kind) x.index) (map (on_object o ToHusk) m.objects) none_mapped);
    other = λ ls n i apart. ap (λ v. holder_of ls v n i) objects
        ∙ ap (option_map (known_in ls)) (find-map (stands_at n i) (on_object o ToHusk) m.objects (λ y k. same_at n i apart y k (has_id o y) refl))
        ∙ known_else ls n i (find (stands_at n i) m.objects) refl apart;
    doomed = λ y k d. husks_apart y (let P : List Object → Type 0 = λ v. IsIn y v in subst P objects k) d;
  }

  pub finish_buries : (actor kept : ℕ) → Allowed m (Step actor Finish o None (answer.Kept kept)) → Buries m (after m (Step actor Finish o None (answer.Kept kept))) x
  finish_buries actor kept allowed =
      let t = IsTurn-allowed m actor Finish o None (answer.Kept kept) allowed in
      let now : after m (Step actor Finish o None (answer.Kept kept)) ≡ finish m actor o = ap (λ slot. after_step m actor slot Finish o (answer.Kept kept)) t.is in
      let pools : (finish m actor o).pools ≡ at_place m.pools (kind_place x.kind) (buried_at x.index) =
      ap (λ slot. (buried_if_doomed m slot).pools) there ∙ ap (λ b. (if b then with_burial m x else m).pools) doomed in
      let P : State → Type 0 = λ s. Buries m s x in
      subst P (sym now) (removes (finish m actor o) pools (finish_objects m actor o))

  pub gone_buries : (kept : ℕ) → Buries m (after m (Gone o kept)) x
  gone_buries kept =
      let now : after m (Gone o kept) ≡ with_burial (with_object m o ToHusk) x = ap (gone_from m o) there in
      let P : State → Type 0 = λ s. Buries m s x in
      subst P (sym now) (husks (with_burial (with_object m o ToHusk) x) refl refl)

-- Deeds.

behind_cell : (b : Bool) (cell : Cell) (t : DeedFacts) → cell.home ≡ false → BehindBy b t cell.generation
    → (t.generation ≡ (if b then cell else record { generation = cell.generation + 1; home = true }).generation) × (t.spent ≡ not (if b then cell else record { generation = cell.generation + 1; home = true }).home)
behind_cell true cell t out h = (h.0, h.1 ∙ sym (ap not out))
behind_cell false cell t out h = h

brought_else : {D : Type 0} (s : Option (Homes D)) (i j : ℕ) (d : D) → j ≢ i → deed_in (option_map (brought i d) s) j ≡ deed_in s j
brought_else None i j d ne = refl
brought_else (Some pool) i j d ne = deed_at-brought_other pool i j d ne

pool_brought : {D : Type 0} (n i : ℕ) (d : D) (machine : Option Pool) (s : Option (Homes D)) (pool : Homes D) → option_map (brought i d) s ≡ Some pool
    → ((p : Homes D) → s ≡ Some p → IsPoolFor n machine p) → IsPoolFor n (option_map (buried_at i) machine) pool
pool_brought n i d machine None pool e all = absurd (none-some pool e)
pool_brought {D} n i d machine (Some p) pool e all =
    let was = all p refl in
    let P : Homes D → Type 0 = λ v. IsPoolFor n (option_map (buried_at i) machine) v in
    subst P (same_Some (brought i d p) pool e)
    (record { kind = was.kind; size = length-set p.deeds i (Some d) ∙ was.size; cells = buried_at i was.cells; is = ap (option_map (buried_at i)) was.is; next = was.next })

module _ {D : Type 0} (tell : D → DeedFacts) (log log' : Logged) (k k' : Kept) (pools pools' : List (Homes D)) (held held' : List (Option D)) (t : IsTied tell log k pools held)
    (x : Object) (o : ℕ) (there : object_with (state_of log.history) o ≡ Some x) (doomed : is_doomed x.phase ≡ true)
    (d : D) (out : Out) (for : IsFor out x) (deed : IsDeedBuried (tell d) out (lives_out log.history (Some out))) where
  stands_x : Standing log.history x
  stands_x = standing_at log.history o x t.legal there (doomed_stands x.phase doomed)

  kind_x : (tell d).kind ≡ x.kind
  kind_x = deed.kind ∙ sym for.kind

  index_x : (tell d).index ≡ x.index
  index_x = deed.index ∙ sym for.index

  none_before : (slot : Option D) → option_map tell slot ≡ None → slot ≡ None
  none_before None e = refl
  none_before (Some v) e = absurd (none-some (tell v) (sym e))

  -- a deed of the pool's kind, which is out
  pub out_of_pool : (pool : Homes D) → slice_get pools (kind_place (tell d).kind) ≡ Some pool → IsOutOf tell pool d
  out_of_pool pool is =
      let is_x : slice_get pools (kind_place x.kind) ≡ Some pool = ap (λ v. slice_get pools (kind_place v)) (sym kind_x) ∙ is in
      let was = t.pools_are (kind_place x.kind) pool is_x in
      let parts = placed_parts k _ _ (kind_place x.kind) x.index (seat_of log.history (kind_place x.kind) x.index) (known_in (lives_in log.history (kind_place x.kind) x.index) x) stands_x.holder (t.placed (kind_place x.kind) x.index (kind_within x.kind) stands_x.low) in
      let none : option_map tell (deed_at pool x.index) ≡ None = ap (λ s. option_map tell (deed_in s x.index)) (sym is_x) ∙ parts.0 in
      let empty : deed_at pool x.index ≡ None = none_before (deed_at pool x.index) none in
      record {
        same_kind = kind_x ∙ kind_same x.kind pool.kind (sym was.kind);
        out = ap (λ v. is_out_at pool v) index_x ∙ cell_is_out pool x.index stands_x.low empty;
      }

  module _ (e : Entry) (buries : Buries (state_of log.history) (after (state_of log.history) e) x) (none : new_by (state_of log.history) e ≡ None) (more : log'.history ≡ log.history ++ e ∷ [])
      (brings : pools' ≡ at_place pools (kind_place (tell d).kind) (brought (tell d).index d)) (clears : held' ≡ at_place held (seat_place (kind_place (tell d).kind) (tell d).index) (put_slot None)) where
    now_x : state_of log'.history ≡ after (state_of log.history) e
    now_x = ap state_of more ∙ state_goes_on log.history e

    pools_x : (state_of log'.history).pools ≡ at_place (state_of log.history).pools (kind_place x.kind) (buried_at x.index)
    pools_x = ap (λ (s : State). s.pools) now_x ∙ buries.pools

    lives_x : (a b : ℕ) → lives_in log'.history a b ≡ lives_in log.history a b
    lives_x a b = ap (λ v. lives_in v a b) more ∙ lives_go_on log.history e a b ∙ ap (λ y. lives_in log.history a b ++ life_in a b y) none ∙ append_none (lives_in log.history a b)

    cell_beside : (a b : ℕ) → (kind_place x.kind ≡ a → x.index ≡ b → ⊥) → cell_in (slice_get (state_of log'.history).pools a) b ≡ cell_in (slice_get (state_of log.history).pools a) b
    cell_beside a b apart =
        ap (λ v. cell_in (slice_get v a) b) pools_x
        ∙ ⊎_elim
        (λ h. (let P : ℕ → Type 0 = λ v. cell_in (slice_get (at_place (state_of log.history).pools (kind_place x.kind) (buried_at x.index)) v) b ≡ cell_in (slice_get (state_of log.history).pools v) b in
        subst P h.1 (ap (λ s. cell_in s b) (slice_get-at_place_same (state_of log.history).pools (kind_place x.kind) (buried_at x.index)) ∙ cell_else (slice_get (state_of log.history).pools (kind_place x.kind)) x.index b (λ same. apart h.1 (sym same)))))
        (λ h. ap (λ s. cell_in s b) (slice_get-at_place_other (state_of log.history).pools (kind_place x.kind) a (buried_at x.index) (λ same. h.1 (sym same))))
        (eqb_tells (kind_place x.kind) a)

    seat_beside : (a b : ℕ) → (kind_place x.kind ≡ a → x.index ≡ b → ⊥) → seat_of log'.history a b ≡ seat_of log.history a b
    seat_beside a b apart =
        seat_eq (state_of log.history) (state_of log'.history) log.history log'.history a b (cell_beside a b apart) (ap (λ ls. holder_of ls (state_of log'.history).objects a b) (lives_x a b) ∙ ap (λ (s : State). holder_of (lives_in log.history a b) s.objects a b) now_x ∙ buries.other (lives_in log.history a b) a b apart) (lives_x a b)

    brings_x : pools' ≡ at_place pools (kind_place x.kind) (brought x.index d)
    brings_x = brings ∙ ap (λ v. at_place pools (kind_place v) (brought (tell d).index d)) kind_x ∙ ap (λ v. at_place pools (kind_place x.kind) (brought v d)) index_x

    clears_x : held' ≡ at_place held (seat_place (kind_place x.kind) x.index) (put_slot None)
    clears_x = clears ∙ ap (λ v. at_place held (seat_place (kind_place v) (tell d).index) (put_slot None)) kind_x ∙ ap (λ v. at_place held (seat_place (kind_place x.kind) v) (put_slot None)) index_x

    pooled_beside : (a b : ℕ) → (kind_place x.kind ≡ a → x.index ≡ b → ⊥) → deed_in (slice_get pools' a) b ≡ deed_in (slice_get pools a) b
    pooled_beside a b apart =
        ap (λ v. deed_in (slice_get v a) b) brings_x
        ∙ ⊎_elim
        (λ h. (let P : ℕ → Type 0 = λ v. deed_in (slice_get (at_place pools (kind_place x.kind) (brought x.index d)) v) b ≡ deed_in (slice_get pools v) b in
        subst P h.1 (ap (λ s. deed_in s b) (slice_get-at_place_same pools (kind_place x.kind) (brought x.index d)) ∙ brought_else (slice_get pools (kind_place x.kind)) x.index b d (λ same. apart h.1 (sym same)))))
        (λ h. ap (λ s. deed_in s b) (slice_get-at_place_other pools (kind_place x.kind) a (brought x.index d) (λ same. h.1 (sym same))))
        (eqb_tells (kind_place x.kind) a)

    pools_are_x : (a : ℕ) (pool : Homes D) → slice_get pools' a ≡ Some pool → IsPoolFor a (slice_get (state_of log'.history).pools a) pool
    pools_are_x a pool is =
        let machine = ap (λ v. slice_get v a) pools_x in
        let there_is : slice_get (at_place pools (kind_place x.kind) (brought x.index d)) a ≡ Some pool = ap (λ v. slice_get v a) (sym brings_x) ∙ is in
        let Q : Option Pool → Type 0 = λ v. IsPoolFor a v pool in
        subst Q (sym machine)
        (⊎_elim
        (λ h. (
        let P : ℕ → Type 0 = λ v. slice_get (at_place pools (kind_place x.kind) (brought x.index d)) v ≡ Some pool → IsPoolFor v (slice_get (at_place (state_of log.history).pools (kind_place x.kind) (buried_at x.index)) v) pool in
        subst P h.1 (λ found. (
        let R : Option Pool → Type 0 = λ v. IsPoolFor (kind_place x.kind) v pool in
        subst R (sym (slice_get-at_place_same (state_of log.history).pools (kind_place x.kind) (buried_at x.index)))
        (pool_brought (kind_place x.kind) x.index d (slice_get (state_of log.history).pools (kind_place x.kind)) (slice_get pools (kind_place x.kind)) pool (sym (slice_get-at_place_same pools (kind_place x.kind) (brought x.index d)) ∙ found) (t.pools_are (kind_place x.kind))))) there_is))
        (λ h. (
        let R : Option Pool → Type 0 = λ v. IsPoolFor a v pool in
        subst R (sym (slice_get-at_place_other (state_of log.history).pools (kind_place x.kind) a (buried_at x.index) (λ same. h.1 (sym same))))
        (t.pools_are a pool (sym (slice_get-at_place_other pools (kind_place x.kind) a (brought x.index d) (λ same. h.1 (sym same))) ∙ there_is))))
        (eqb_tells (kind_place x.kind) a))

    deed_home : option_map tell (deed_in (slice_get pools' (kind_place x.kind)) x.index) ≡ Some (tell d)
    deed_home =
        let pool = has_at pools (kind_place x.kind) (let low = kind_within x.kind in omega (arith, low, t.kinds)) in
        let size = (t.pools_are (kind_place x.kind) pool.item pool.is).size in
        let low = stands_x.low in
        ap (λ v. option_map tell (deed_in (slice_get v (kind_place x.kind)) x.index)) brings_x
        ∙ ap (λ s. option_map tell (deed_in s x.index)) (slice_get-at_place_same pools (kind_place x.kind) (brought x.index d) ∙ ap (option_map (brought x.index d)) pool.is)
        ∙ ap (option_map tell) (deed_at-brought_same pool.item x.index d (omega (arith, low, size)))

    idle_x : IsUnheld (option_map tell (deed_in (slice_get pools' (kind_place x.kind)) x.index)) (kind_place x.kind) x.index (seat_of log'.history (kind_place x.kind) x.index)
    idle_x =
        let cell = stands_x.cell in
        let same : out.generation ≡ cell.generation = sym for.generation ∙ stands_x.same in
        let P : ℕ → Type 0 = λ v. BehindBy (nat_le MOST_GENERATION v) (tell d) v in
        let after_it = behind_cell (nat_le MOST_GENERATION cell.generation) cell (tell d) stands_x.out (subst P same deed.behind) in
        record {
          deed = tell d;
          there = deed_home;
          idle = record {
            cell = buried cell;
            at = record {
              is = ap (λ v. cell_in (slice_get v (kind_place x.kind)) x.index) pools_x ∙ ap (λ s. cell_in s x.index) (slice_get-at_place_same (state_of log.history).pools (kind_place x.kind) (buried_at x.index)) ∙ cell_here (slice_get (state_of log.history).pools (kind_place x.kind)) x.index cell stands_x.is;
              kind = ap kind_place kind_x;
              index = index_x;
              generation = after_it.0;
              lives = (
                  let Q : List Life → Type 0 = λ v. TellsLives (tell d).lives v in
                  let there_lives : lives_in log.history (kind_place out.identity.kind) out.index ≡ lives_in log'.history (kind_place x.kind) x.index =
                  ap (λ v. lives_in log.history (kind_place v) out.index) (sym for.kind) ∙ ap (lives_in log.history (kind_place x.kind)) (sym for.index) ∙ sym (lives_x (kind_place x.kind) x.index) in
                  subst Q there_lives deed.lives);
            };
            planted = deed.planted;
            spent = after_it.1;
          };
        }

    pub buried_tied : ((a b o' : ℕ) → (kind_place x.kind ≡ a → x.index ≡ b → ⊥) → IsAway k a b o' → IsAway k' a b o')
        → k'.history ≡ log'.history → IsLegal log'.history → sum k'.spares ≤ log'.spare → length k'.outs ≡ length k.outs → length k'.kills ≡ length k.kills
        → ((c : ℕ) (v : Out) → out_of k' c ≡ Some v → HasOut (state_of log'.history) c v)
        → ((b : ℕ) (v : Out) → kill_of k' b ≡ Some v → HasKill (state_of log'.history) b v)
        → IsTied tell log' k' pools' held'
    buried_tied away history legal covered outs_long kills_long outs kills =
        let a = kind_place x.kind in
        let b = x.index in
        let slot = held_there tell log k pools held t x stands_x.low in
        let gone : slot_of (slice_get held' (seat_place a b)) ≡ None = ap (λ v. slot_of (slice_get v (seat_place a b))) clears_x ∙ slot_here held (seat_place a b) None slot.item slot.is in
        let free : (seat_of log'.history a b).holder ≡ None = ap (λ (s : State). holder_of (lives_in log'.history a b) s.objects a b) now_x ∙ buries.here (lives_in log'.history a b) in
        let P : Option Identity → Type 0 = λ v. IsPlaced k' (option_map tell (deed_in (slice_get pools' a) b)) (option_map tell (slot_of (slice_get held' (seat_place a b)))) a b (seat_of log'.history a b) v in
        tied_by tell log log' k k' pools pools' held held' a b t
        (record {
          seats = seat_beside;
          pooled = pooled_beside;
          planted = λ i j low apart. ap (λ v. slot_of (slice_get v (seat_place i j))) clears_x ∙ slot_other held (seat_place a b) (seat_place i j) None (λ e'. place_apart a b i j stands_x.low low (λ y z. apart (sym y) (sym z)) e');
          away = away;
        })
        (subst P (sym free) (idle_x, ap (option_map tell) gone))
        history legal covered
        (ap (λ v. length v) clears_x ∙ length-at_place held (seat_place a b) (put_slot None)) (ap (λ v. length v) brings_x ∙ length-at_place pools a (brought b d)) outs_long kills_long
        pools_are_x outs kills
        (λ y i' d'. (let rest = buries.doomed y (let R : State → Type 0 = λ s. IsIn y s.objects in subst R now_x i') d' in away (kind_place y.kind) y.index y.id rest.apart (t.handed y rest.within d')))
