-- The beginning and the end of a graph.
use Rattle.std.proofs.Common.{◌≡◌, ℕ, zero, suc, ◌*◌, ◌≤◌, ◌<◌, true, List, [], ◌∷◌, ◌++◌, Option, Some, None, length, refl, ap, sym, ◌∙◌, subst, arith}
use Rattle.std.specs.Prelude.{sum, slice_get, replicate, find, option_map}
use Rattle.std.proofs.lemmas.Option.{none-some, slice_get_within}
use Rattle.uv_num.specs.declared.limits.TheConstants.{ACTOR_PLACES, CELLS, KINDS}
use Rattle.uv_pool.specs.Homes.{Homes, deed_at}
use Rattle.uv_machine.specs.declared.entry.Entry.{Entry}
use Rattle.uv_machine.specs.Cells.{full_pool}
use Rattle.uv_machine.specs.States.{start}
use Rattle.uv_machine.specs.Histories.{state_of, IsLegal}
use Rattle.uv_machine.specs.Reached.{cell_in}
use Rattle.uv_machine.specs.Files.{AreOver}
use Rattle.uv_graph.specs.Begins.{HoldsNone}
use Rattle.uv_pool.specs.Deeds.{DeedFacts}
use Rattle.uv_pool.specs.Filled.{AreNewPools}
use Rattle.uv_graph.specs.Hands.{IsHomeDeed, HasHomeDeed, AreHomePools}
use Rattle.uv_graph.specs.Kept.{Kept, the_out, out_of, kill_of}
use Rattle.uv_num.specs.declared.identity.Identity.{Identity}
use Rattle.uv_graph.specs.Lives.{known_in, lives_in}
use Rattle.uv_machine.specs.Logged.{Logged}
use Rattle.uv_graph.specs.Seats.{stands_at, seat_of, slot_of, deed_in, seat_place, IsPlaced, IsUnheld, IsPoolFor, AreHandedOut, IsTied}
use Rattle.uv_machine.specs.declared.object.Object.{Object}
use Rattle.uv_machine.proofs.Overs.{over_is_empty}
use Rattle.uv_graph.proofs.Making.{slot_tells}
use Rattle.uv_graph.proofs.Planting.{has_at}

none_behind : {D : Type 0} (held : List (Option D)) (i : ℕ) → slot_of (slice_get held i) ≡ None → slot_of (slice_get (held ++ None ∷ []) i) ≡ None
none_behind [] zero e = refl
none_behind [] (suc i) e = refl
none_behind (x ∷ held) zero e = e
none_behind (x ∷ held) (suc i) e = none_behind held i e

-- one more empty slot
pub none_more : {D : Type 0} (held more : List (Option D)) → HoldsNone held → more ≡ held ++ None ∷ [] → HoldsNone more
none_more held more h e i = ap (λ v. slot_of (slice_get v i)) e ∙ none_behind held i (h i)

get_replicate : {X : Type 0} (n i : ℕ) (x : X) → i < n → slice_get (replicate n x) i ≡ Some x
get_replicate zero i x low = absurd (omega (arith, low))
get_replicate (suc n) zero x low = refl
get_replicate (suc n) (suc i) x low = get_replicate n i x (omega (arith, low))

start_pool : (n : ℕ) → n < KINDS → slice_get start.pools n ≡ Some full_pool
unfolding start
start_pool n low = get_replicate KINDS n full_pool low

full_cell : (i : ℕ) → i < CELLS → slice_get full_pool.cells i ≡ Some (record { generation = 0; home = true })
unfolding full_pool
full_cell i low = get_replicate CELLS i (record { generation = 0; home = true }) low

full_next : full_pool.next ≡ 0
unfolding full_pool
full_next = refl

start_objects : start.objects ≡ []
unfolding start
start_objects = refl

module _ {D : Type 0} (tell : D → DeedFacts) (log : Logged) (k : Kept) (pools : List (Homes D)) (held : List (Option D)) (fresh : log.history ≡ []) (new : AreNewPools tell pools)
    (size : length held ≡ KINDS * CELLS) (none : HoldsNone held) (history : k.history ≡ log.history) (covered : sum k.spares ≤ log.spare)
    (outs_long : length k.outs ≡ ACTOR_PLACES) (kills_long : length k.kills ≡ ACTOR_PLACES) (outs : (c : ℕ) → out_of k c ≡ None) (kills : (c : ℕ) → kill_of k c ≡ None) where
  placed_new : (n i : ℕ) → n < KINDS → i < CELLS → (h : List Entry) → h ≡ [] → IsPlaced k (option_map tell (deed_in (slice_get pools n) i)) (option_map tell (slot_of (slice_get held (seat_place n i)))) n i (seat_of h n i) (seat_of h n i).holder
  placed_new n i low low' h e =
      let P : List Entry → Type 0 = λ v. IsPlaced k (option_map tell (deed_in (slice_get pools n) i)) (option_map tell (slot_of (slice_get held (seat_place n i)))) n i (seat_of v n i) (seat_of v n i).holder in
      let pool = has_at pools n (let count = new.count in omega (arith, low, count)) in
      let its = (new.each n pool.item pool.is).deeds i low' in
      let empty : (seat_of [] n i).holder ≡ None = ap (λ v. option_map (known_in (lives_in [] n i)) (find (stands_at n i) v)) start_objects in
      let Q : Option Identity → Type 0 = λ v. IsPlaced k (option_map tell (deed_in (slice_get pools n) i)) (option_map tell (slot_of (slice_get held (seat_place n i)))) n i (seat_of [] n i) v in
      let idle : IsUnheld (option_map tell (deed_in (slice_get pools n) i)) n i (seat_of [] n i) = record {
        deed = tell its.deed;
        there = ap (λ s. option_map tell (deed_in s i)) pool.is ∙ ap (option_map tell) its.there;
        idle = record {
          cell = record { generation = 0; home = true };
          at = record {
            is = ap (λ s. cell_in s i) (start_pool n low) ∙ full_cell i low';
            kind = its.new.kind;
            index = its.new.index;
            generation = its.new.generation;
            lives = its.new.lives;
          };
          planted = its.new.planted;
          spent = its.new.spent;
        };
      } in
      subst P (sym e) (subst Q (sym empty) (idle, ap (option_map tell) (none (seat_place n i))))

  pub tied_new : IsTied tell log k pools held
  tied_new = record {
    history = history;
    legal = (let P : List Entry → Type 0 = λ v. IsLegal v in subst P (sym fresh) tt);
    covered = covered;
    seats = size;
    kinds = new.count;
    outs_size = outs_long;
    kills_size = kills_long;
    pools_are = λ n pool is. (
        let low = slice_get_within pools n pool is in
        let count = new.count in
        let its = new.each n pool is in
        let P : List Entry → Type 0 = λ v. IsPoolFor n (slice_get (state_of v).pools n) pool in
        subst P (sym fresh) (record { kind = its.kind; size = its.size; cells = full_pool; is = start_pool n (omega (arith, low, count)); next = its.next ∙ sym full_next }));
    placed = λ n i low low'. placed_new n i low low' log.history fresh;
    outs = λ c out is. absurd (none-some out (sym (outs c) ∙ is));
    kills = λ b out is. absurd (none-some out (sym (kills b) ∙ is));
    handed = (
        let P : List Entry → Type 0 = λ v. AreHandedOut k (state_of v).objects in
        let Q : List Object → Type 0 = λ v. AreHandedOut k v in
        subst P (sym fresh) (subst Q (sym start_objects) (λ x i d. absurd i)));
  }

pub none_out : (n c : ℕ) → the_out (slice_get (replicate n None) c) ≡ None
none_out zero c = refl
none_out (suc n) zero = refl
none_out (suc n) (suc c) = none_out n c

module _ {D : Type 0} (tell : D → DeedFacts) (log : Logged) (k : Kept) (pools : List (Homes D)) (held : List (Option D)) (t : IsTied tell log k pools held) (over : AreOver (state_of log.history)) where
  idle_all : (n i : ℕ) → n < KINDS → i < CELLS → IsUnheld (option_map tell (deed_in (slice_get pools n) i)) n i (seat_of log.history n i)
  idle_all n i low low' =
      let free : (seat_of log.history n i).holder ≡ None = ap (λ v. option_map (known_in (lives_in log.history n i)) (find (stands_at n i) v)) (over_is_empty log.history t.legal over) in
      let P : Option Identity → Type 0 = λ v. IsPlaced k (option_map tell (deed_in (slice_get pools n) i)) (option_map tell (slot_of (slice_get held (seat_place n i)))) n i (seat_of log.history n i) v in
      (subst P free (t.placed n i low low')).0

  home_deed : (n i : ℕ) (pool : Homes D) → slice_get pools n ≡ Some pool → n < KINDS → i < CELLS → HasHomeDeed tell pool n i log.history
  home_deed n i pool is low low' =
      let idle = idle_all n i low low' in
      let slot = slot_tells tell (deed_at pool i) idle.deed (ap (λ s. option_map tell (deed_in s i)) (sym is) ∙ idle.there) in
      let P : DeedFacts → Type 0 = λ v. IsHomeDeed v n i log.history in
      record {
        deed = slot.deed;
        there = slot.is;
        home = subst P (sym slot.tells)
            (record {
              cell = idle.idle.cell;
              is = idle.idle.at.is;
              kind = idle.idle.at.kind;
              index = idle.idle.at.index;
              generation = idle.idle.at.generation;
              planted = idle.idle.planted;
              lives = idle.idle.at.lives;
            });
      }

  -- all deeds are home
  pub all_home : AreHomePools tell pools log.history
  all_home = record {
    count = t.kinds;
    each = λ n pool is. (
        let low = slice_get_within pools n pool is in
        let count = t.kinds in
        record { kind = (t.pools_are n pool is).kind; deeds = λ i low'. home_deed n i pool is (omega (arith, low, count)) low' });
  }
