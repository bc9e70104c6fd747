-- Deeds that go out and come back.
use Rattle.std.proofs.Common.{◌≡◌, ◌≢◌, ℕ, ◌≤◌, ◌<◌, List, Option, Some, None, length, refl, ap, sym, ◌∙◌, subst, ⊎_elim}
use Rattle.std.specs.Prelude.{sum, slice_get, option_map}
use Rattle.std.proofs.lemmas.Option.{none-some}
use Rattle.std.proofs.lemmas.Bool.Decides.{eqb_tells}
use Rattle.uv_num.specs.declared.identity.Identity.{Identity}
use Rattle.uv_num.specs.declared.limits.TheConstants.{CELLS, KINDS}
use Rattle.uv_num.specs.Place.{at_place}
use Rattle.uv_num.proofs.PlaceLaws.{slice_get-at_place_same, slice_get-at_place_other}
use Rattle.uv_pool.specs.Homes.{Homes}
use Rattle.uv_machine.specs.Histories.{state_of, IsLegal}
use Rattle.uv_graph.specs.declared.out.Out.{Out}
use Rattle.uv_pool.specs.Deeds.{DeedFacts}
use Rattle.uv_graph.specs.Kept.{Kept, the_out, put_out, out_of, kill_of}
use Rattle.uv_machine.specs.Logged.{Logged}
use Rattle.uv_graph.specs.Seats.{Seat, seat_of, slot_of, deed_in, seat_place, IsPlaced, IsHeldOrAway, IsAway, IsPoolFor, HasOut, HasKill, AreHandedOut, IsTied}
use Rattle.uv_graph.specs.Slots.{put_slot}

-- What is out, where one actor's changed.

pub data OutCase (k k' : Option Out) (a c : ℕ) (new : Option Out) : Type 0 where
  IsThis : a ≡ c → k' ≡ new → OutCase k k' a c new
  IsThat : (a ≡ c → ⊥) → k' ≡ k → OutCase k k' a c new

the_put : (new : Option Out) (slot : Option (Option Out)) (x : Option Out) → slot ≡ Some x → the_out (option_map (put_out new) slot) ≡ new
the_put new None x e = absurd (none-some x e)
the_put new (Some y) x e = refl

pub out_case : (outs outs' : List (Option Out)) (a c : ℕ) (new x : Option Out) → outs' ≡ at_place outs a (put_out new) → slice_get outs a ≡ Some x → OutCase (the_out (slice_get outs c)) (the_out (slice_get outs' c)) a c new
out_case outs outs' a c new x e there =
    ⊎_elim
    (λ h. IsThis h.1 (ap (λ v. the_out (slice_get v c)) e ∙ ap (λ n. the_out (slice_get (at_place outs a (put_out new)) n)) (sym h.1) ∙ ap the_out (slice_get-at_place_same outs a (put_out new)) ∙ the_put new (slice_get outs a) x there))
    (λ h. IsThat h.1 (ap (λ v. the_out (slice_get v c)) e ∙ ap the_out (slice_get-at_place_other outs a c (put_out new) (λ s. h.1 (sym s)))))
    (eqb_tells a c)

-- Slots, where one changed.

the_slot : {D : Type 0} (new : Option D) (slot : Option (Option D)) (x : Option D) → slot ≡ Some x → slot_of (option_map (put_slot new) slot) ≡ new
the_slot new None x e = absurd (none-some x e)
the_slot new (Some y) x e = refl

pub slot_here : {D : Type 0} (held : List (Option D)) (at : ℕ) (new x : Option D) → slice_get held at ≡ Some x → slot_of (slice_get (at_place held at (put_slot new)) at) ≡ new
slot_here held at new x there = ap slot_of (slice_get-at_place_same held at (put_slot new)) ∙ the_slot new (slice_get held at) x there

pub slot_other : {D : Type 0} (held : List (Option D)) (at k : ℕ) (new : Option D) → k ≢ at → slot_of (slice_get (at_place held at (put_slot new)) k) ≡ slot_of (slice_get held k)
slot_other held at k new ne = ap slot_of (slice_get-at_place_other held at k (put_slot new) ne)

-- One cell changed.

held_by : (k k' : Kept) (q : Option DeedFacts) (n i : ℕ) (s : Seat) (holder : Identity) → (IsAway k n i holder.id → IsAway k' n i holder.id) → IsHeldOrAway k q n i s holder → IsHeldOrAway k' q n i s holder
held_by k k' None n i s holder moves h = moves h
held_by k k' (Some t) n i s holder moves h = h

pub placed_by : (k k' : Kept) (p q : Option DeedFacts) (n i : ℕ) (s : Seat) (holder : Option Identity) → ((o : ℕ) → IsAway k n i o → IsAway k' n i o) → IsPlaced k p q n i s holder → IsPlaced k' p q n i s holder
placed_by k k' p q n i s None moves h = h
placed_by k k' p q n i s (Some holder) moves h = (h.0, held_by k k' q n i s holder (moves holder.id) h.1)

module _ {D : Type 0} (tell : D → DeedFacts) (log log' : Logged) (k k' : Kept) (pools pools' : List (Homes D)) (held held' : List (Option D)) (n i : ℕ) (t : IsTied tell log k pools held) where
  -- everything at cells other than this one is as it was
  pub record AllBeside : Type 0 where
    pub seats : (a b : ℕ) → (n ≡ a → i ≡ b → ⊥) → seat_of log'.history a b ≡ seat_of log.history a b
    pub pooled : (a b : ℕ) → (n ≡ a → i ≡ b → ⊥) → deed_in (slice_get pools' a) b ≡ deed_in (slice_get pools a) b
    pub planted : (a b : ℕ) → b < CELLS → (n ≡ a → i ≡ b → ⊥) → slot_of (slice_get held' (seat_place a b)) ≡ slot_of (slice_get held (seat_place a b))
    pub away : (a b o : ℕ) → (n ≡ a → i ≡ b → ⊥) → IsAway k a b o → IsAway k' a b o

  abbrev pub PlacedAt : Kept → List (Homes D) → List (Option D) → Logged → ℕ → ℕ → Type 0
  PlacedAt kept ps hs l a b = IsPlaced kept (option_map tell (deed_in (slice_get ps a) b)) (option_map tell (slot_of (slice_get hs (seat_place a b)))) a b (seat_of l.history a b) (seat_of l.history a b).holder

  placed_beside : AllBeside → (a b : ℕ) → a < KINDS → b < CELLS → (n ≡ a → i ≡ b → ⊥) → PlacedAt k' pools' held' log' a b
  placed_beside all a b low low' apart =
      let P : Option D → Type 0 = λ v. IsPlaced k' (option_map tell v) (option_map tell (slot_of (slice_get held' (seat_place a b)))) a b (seat_of log'.history a b) (seat_of log'.history a b).holder in
      let Q : Option D → Type 0 = λ v. IsPlaced k' (option_map tell (deed_in (slice_get pools a) b)) (option_map tell v) a b (seat_of log'.history a b) (seat_of log'.history a b).holder in
      let R : Seat → Type 0 = λ s. IsPlaced k' (option_map tell (deed_in (slice_get pools a) b)) (option_map tell (slot_of (slice_get held (seat_place a b)))) a b s s.holder in
      subst P (sym (all.pooled a b apart)) (subst Q (sym (all.planted a b low' apart)) (subst R (sym (all.seats a b apart)) (placed_by k k' _ _ a b _ _ (λ o. all.away a b o apart) (t.placed a b low low'))))

  placed_at : AllBeside → PlacedAt k' pools' held' log' n i → (a b : ℕ) → a < KINDS → b < CELLS → PlacedAt k' pools' held' log' a b
  placed_at all here a b low low' =
      ⊎_elim
      (λ e. ⊎_elim
      (λ e'. (let P : ℕ → Type 0 = λ v. PlacedAt k' pools' held' log' v b in let Q : ℕ → Type 0 = λ v. PlacedAt k' pools' held' log' n v in subst P e.1 (subst Q e'.1 here)))
      (λ e'. placed_beside all a b low low' (λ h h'. e'.1 h'))
      (eqb_tells i b))
      (λ e. placed_beside all a b low low' (λ h h'. e.1 h))
      (eqb_tells n a)

  pub tied_by : AllBeside → PlacedAt k' pools' held' log' n i
      → k'.history ≡ log'.history → IsLegal log'.history → sum k'.spares ≤ log'.spare
      → length held' ≡ length held → length pools' ≡ length pools → length k'.outs ≡ length k.outs → length k'.kills ≡ length k.kills
      → ((a : ℕ) (pool : Homes D) → slice_get pools' a ≡ Some pool → IsPoolFor a (slice_get (state_of log'.history).pools a) pool)
      → ((c : ℕ) (out : Out) → out_of k' c ≡ Some out → HasOut (state_of log'.history) c out)
      → ((b : ℕ) (out : Out) → kill_of k' b ≡ Some out → HasKill (state_of log'.history) b out)
      → AreHandedOut k' (state_of log'.history).objects
      → IsTied tell log' k' pools' held'
  tied_by all here history legal covered size count outs_long kills_long pools_are outs kills handed = record {
    history = history;
    legal = legal;
    covered = covered;
    seats = size ∙ t.seats;
    kinds = count ∙ t.kinds;
    outs_size = outs_long ∙ t.outs_size;
    kills_size = kills_long ∙ t.kills_size;
    pools_are = pools_are;
    placed = placed_at all here;
    outs = outs;
    kills = kills;
    handed = handed;
  }
