-- The deed of a new object comes back planted; a live object's goes out.
use Rattle.std.proofs.Common.{◌≡◌, ℕ, zero, suc, ◌*◌, ◌<◌, true, false, List, [], ◌∷◌, Option, Some, None, length, refl, ap, sym, ◌∙◌, subst, arith, inl, inr, ◌⊎◌, ⊎_elim}
use Rattle.std.specs.Prelude.{sum, slice_get, option_map}
use Rattle.std.proofs.lemmas.Option.{none-some, same_Some}
use Rattle.std.proofs.lemmas.Bool.{eqb-true}
use Rattle.uv_num.specs.declared.identity.Identity.{Identity}
use Rattle.uv_num.specs.declared.limits.TheConstants.{CELLS, KINDS}
use Rattle.uv_num.specs.Kind.{kind_place}
use Rattle.uv_num.specs.Place.{at_place}
use Rattle.uv_num.proofs.PlaceLaws.{length-at_place}
use Rattle.uv_pool.specs.Homes.{Homes}
use Rattle.uv_pool.specs.declared.deed.Life.{Life}
use Rattle.uv_machine.specs.Plans.{next_word}
use Rattle.uv_machine.specs.Reached.{is_held_at}
use Rattle.uv_machine.proofs.Owning.{legal_own_stands}
use Rattle.uv_machine.specs.declared.entry.Entry.{Entry}
use Rattle.uv_machine.specs.declared.object.Object.{Object}
use Rattle.uv_machine.specs.declared.pool.Cell.{Cell}
use Rattle.uv_machine.specs.Objects.{has_id, is_made, is_doomed, is_husk}
use Rattle.uv_machine.specs.States.{call_of, object_with}
use Rattle.uv_machine.specs.Histories.{state_of, IsLegal}
use Rattle.uv_machine.specs.Reached.{IsIn, Reached}
use Rattle.uv_machine.proofs.Members.{Passes-find}
use Rattle.uv_machine.proofs.Reaching.{Reached-state_of}
use Rattle.uv_machine.proofs.CelledTurns.{legal_celled}
use Rattle.uv_graph.specs.declared.out.Out.{Out}
use Rattle.uv_pool.specs.Deeds.{DeedFacts, TellsLives}
use Rattle.uv_graph.specs.Conditions.{ComesPlanted}
use Rattle.uv_graph.specs.Kept.{Kept, the_out, put_out, out_of, kill_of}
use Rattle.uv_graph.specs.Lives.{known_in, last_uses, lives_in, lives_out}
use Rattle.uv_machine.specs.Logged.{Logged}
use Rattle.uv_graph.specs.Owns.{own_of}
use Rattle.uv_graph.specs.Seats.{AreKnown, Seat, seat_of, slot_of, seat_place, IsPlaced, IsHeldOrAway, IsHeldDeed, IsAway, IsFor, HasOut, IsTied}
use Rattle.uv_graph.specs.Slots.{put_slot}
use Rattle.uv_graph.proofs.Handing.{OutCase, out_case, slot_here, slot_other, PlacedAt, tied_by}
use Rattle.uv_graph.proofs.Handing.OutCase.{IsThis, IsThat}
use Rattle.uv_graph.proofs.Holders.{same_object, kind_within, holder_is, one_holder, cell_within, place_apart, made_stands, doomed_stands, made_apart}

pub still : (k k' : Kept) (client actor : ℕ) (out : Out) (new : Option Out) → out_of k actor ≡ Some out → OutCase (out_of k actor) (out_of k' actor) client actor new → (client ≡ actor → ⊥) → (out_of k' actor ≡ Some out) ⊎ (kill_of k' actor ≡ Some out)
still k k' client actor out new e (IsThis mine now) apart = absurd (apart mine)
still k k' client actor out new e (IsThat other now) apart = inl (now ∙ e)

pub record HasAt {X : Type 0} (xs : List X) (i : ℕ) : Type 0 where
  pub item : X
  pub is : slice_get xs i ≡ Some item

pub has_at : {X : Type 0} (xs : List X) (i : ℕ) → i < length xs → HasAt xs i
has_at [] i low = absurd (omega (arith, low))
has_at (x ∷ xs) zero low = record { item = x; is = refl }
has_at (x ∷ xs) (suc i) low = let h = has_at xs i (omega (arith, low)) in record { item = h.item; is = h.is }

pub slot_out : (slot : Option (Option Out)) (out : Out) → the_out slot ≡ Some out → slot ≡ Some (Some out)
slot_out None out e = absurd (none-some out e)
slot_out (Some s) out e = ap (λ (v : Option Out). Some v) e

pub placed_parts : (k : Kept) (p q : Option DeedFacts) (n i : ℕ) (s : Seat) (holder : Identity) → s.holder ≡ Some holder → IsPlaced k p q n i s s.holder → (p ≡ None) × IsHeldOrAway k q n i s holder
placed_parts k p q n i s holder e h = let P : Option Identity → Type 0 = λ v. IsPlaced k p q n i s v in subst P e h

pub placed_some : (k : Kept) (p q : Option DeedFacts) (n i : ℕ) (s : Seat) (holder : Identity) → s.holder ≡ Some holder → p ≡ None → IsHeldOrAway k q n i s holder → IsPlaced k p q n i s s.holder
placed_some k p q n i s holder e none h = let P : Option Identity → Type 0 = λ v. IsPlaced k p q n i s v in subst P (sym e) (none, h)

-- two identities that agree in each part
identity_eq : (a b : Identity) → a.id ≡ b.id → a.kind ≡ b.kind → a.request ≡ b.request → a.uses ≡ b.uses → a ≡ b
identity_eq a b ids kinds requests uses =
    ap (λ v. record { id = v; kind = a.kind; request = a.request; uses = a.uses }) ids
    ∙ ap (λ v. record { id = b.id; kind = v; request = a.request; uses = a.uses }) kinds
    ∙ ap (λ v. record { id = b.id; kind = b.kind; request = v; uses = a.uses }) requests
    ∙ ap (λ v. record { id = b.id; kind = b.kind; request = b.request; uses = v }) uses

-- an object that stands, with what is known of its cell
pub record Standing (h : List Entry) (x : Object) : Type 0 where
  pub reached : Reached (state_of h)
  pub within : IsIn x (state_of h).objects
  pub holder : (seat_of h (kind_place x.kind) x.index).holder ≡ Some (known_in (lives_in h (kind_place x.kind) x.index) x)
  pub cell : Cell
  pub is : (seat_of h (kind_place x.kind) x.index).cell ≡ Some cell
  pub out : cell.home ≡ false
  pub same : x.generation ≡ cell.generation
  pub low : x.index < CELLS

pub standing_at : (h : List Entry) (o : ℕ) (x : Object) → IsLegal h → object_with (state_of h) o ≡ Some x → is_husk x.phase ≡ false → Standing h x
standing_at h o x legal there stands =
    let m = state_of h in
    let r = Reached-state_of h legal in
    let c = legal_celled h legal in
    let k = (Passes-find (has_id o) x m.objects there).within in
    let has = c.has x k stands in
    record {
      reached = r;
      within = k;
      holder = holder_is m r c x k stands (lives_in h (kind_place x.kind) x.index);
      cell = has.cell;
      is = has.is;
      out = has.out;
      same = has.same;
      low = cell_within m c (kind_place x.kind) x.index has.cell has.is;
    }

pub seat_low : (x : Object) → x.index < CELLS → seat_place (kind_place x.kind) x.index < KINDS * CELLS
seat_low x low = let kinds = kind_within x.kind in omega (arith, low, kinds)

module _ {D : Type 0} (tell : D → DeedFacts) (log : Logged) (k : Kept) (pools : List (Homes D)) (held : List (Option D)) (t : IsTied tell log k pools held) where
  pub held_there : (x : Object) → x.index < CELLS → HasAt held (seat_place (kind_place x.kind) x.index)
  held_there x low = has_at held (seat_place (kind_place x.kind) x.index) (let l = seat_low x low in omega (arith, l, t.seats))

  -- what a call has out is of its own object's cell
  pub out_cell : (c : ℕ) (out : Out) (x : Object) → out_of k c ≡ Some out → object_with (state_of log.history) out.identity.id ≡ Some x → IsFor out x
  out_cell c out x is there =
      let o = t.outs c out is in
      let P : Object → Type 0 = λ v. IsFor out v in
      subst P (same_Some o.item x (sym o.there ∙ there)) o.same

  -- what is out is known as what it is out for
  pub known_as : AreKnown k log.history → (a : ℕ) (out : Out) (x : Object) → (out_of k a ≡ Some out) ⊎ (kill_of k a ≡ Some out) → IsFor out x → known_in (lives_in log.history (kind_place x.kind) x.index) x ≡ out.identity
  known_as known a out x named same =
      let uses = known a out named in
      let cell : lives_in log.history (kind_place x.kind) x.index ≡ lives_in log.history (kind_place out.identity.kind) out.index =
      ap (λ v. lives_in log.history (kind_place v) x.index) same.kind ∙ ap (lives_in log.history (kind_place out.identity.kind)) same.index in
      identity_eq (known_in (lives_in log.history (kind_place x.kind) x.index) x) out.identity same.id same.kind same.request (ap last_uses cell ∙ sym uses)

  module _ (client : ℕ) (d : D) (known : AreKnown k log.history) (comes : ComesPlanted (own_of k client) (tell d)) (held' : List (Option D)) (k' : Kept)
      (puts : held' ≡ at_place held (seat_place (kind_place (tell d).kind) (tell d).index) (put_slot (Some d)))
      (outs : k'.outs ≡ at_place k.outs client (put_out None)) (history : k'.history ≡ k.history) (spares : k'.spares ≡ k.spares) (kills : k'.kills ≡ k.kills) where
    has_it : HasOut (state_of log.history) client comes.out
    has_it = t.outs client comes.out comes.out_is

    -- what is about to be committed is made
    made_it : is_made has_it.item.phase ≡ true
    made_it =
        let m = state_of log.history in
        let is : call_of m client ≡ Some comes.call = ap (λ h. call_of (state_of h) client) (sym t.history) ∙ comes.is in
        let one : comes.call ≡ has_it.call = same_Some comes.call has_it.call (sym is ∙ has_it.is) in
        let s = legal_own_stands log.history t.legal client comes.out.identity.id has_it.call has_it.is has_it.locked in
        let p = Passes-find (has_id comes.out.identity.id) has_it.item m.objects has_it.there in
        let same : s.item ≡ has_it.item = same_object m s.item has_it.item (Reached-state_of log.history t.legal) s.within p.within (s.id ∙ sym (eqb-true has_it.item.id comes.out.identity.id p.test)) in
        ap (λ (v : Object). is_made v.phase) (sym same) ∙ ap (λ w. is_held_at w s.item.phase) (sym (ap next_word (sym one) ∙ comes.word)) ∙ s.held

    stands : Standing log.history has_it.item
    stands = standing_at log.history comes.out.identity.id has_it.item t.legal has_it.there (made_stands has_it.item.phase made_it)

    place_is : seat_place (kind_place (tell d).kind) (tell d).index ≡ seat_place (kind_place has_it.item.kind) has_it.item.index
    place_is = ap (λ v. seat_place (kind_place v) (tell d).index) (comes.deed.kind ∙ sym has_it.same.kind) ∙ ap (seat_place (kind_place has_it.item.kind)) (comes.deed.index ∙ sym has_it.same.index)

    puts_now : held' ≡ at_place held (seat_place (kind_place has_it.item.kind) has_it.item.index) (put_slot (Some d))
    puts_now = puts ∙ ap (λ v. at_place held v (put_slot (Some d))) place_is

    there_slot : slice_get k.outs client ≡ Some (Some comes.out)
    there_slot = slot_out (slice_get k.outs client) comes.out comes.out_is

    away_still : (a b o : ℕ) → (kind_place has_it.item.kind ≡ a → has_it.item.index ≡ b → ⊥) → IsAway k a b o → IsAway k' a b o
    away_still a b o apart w = record {
      actor = w.actor;
      out = w.out;
      named = ⊎_elim
          (λ e. still k k' client w.actor w.out None e (out_case k.outs k'.outs client w.actor None (Some comes.out) outs there_slot) (λ mine. (
          let one : comes.out ≡ w.out = same_Some comes.out w.out (sym comes.out_is ∙ ap (out_of k) mine ∙ e) in
          apart (ap kind_place has_it.same.kind ∙ ap (λ (v : Out). kind_place v.identity.kind) one ∙ w.kind) (has_it.same.index ∙ ap (λ (v : Out). v.index) one ∙ w.index))))
          (λ e. inr (ap (λ v. the_out (slice_get v w.actor)) kills ∙ e))
          w.named;
      kind = w.kind;
      index = w.index;
      object = w.object;
    }

    -- the lives that the caller knows are those of the object's cell
    lives_here : lives_out k.history (out_of k client) ≡ lives_in log.history (kind_place has_it.item.kind) has_it.item.index
    lives_here =
        ap (lives_out k.history) comes.out_is
        ∙ ap (λ h. lives_in h (kind_place comes.out.identity.kind) comes.out.index) t.history
        ∙ ap (λ v. lives_in log.history (kind_place v) comes.out.index) (sym has_it.same.kind)
        ∙ ap (lives_in log.history (kind_place has_it.item.kind)) (sym has_it.same.index)

    deed_now : IsHeldDeed (tell d) (kind_place has_it.item.kind) has_it.item.index (seat_of log.history (kind_place has_it.item.kind) has_it.item.index) (known_in (lives_in log.history (kind_place has_it.item.kind) has_it.item.index) has_it.item)
    deed_now = record {
      cell = stands.cell;
      at = record {
        is = stands.is;
        kind = ap kind_place (comes.deed.kind ∙ sym has_it.same.kind);
        index = comes.deed.index ∙ sym has_it.same.index;
        generation = comes.deed.generation ∙ sym has_it.same.generation ∙ stands.same;
        lives = (let P : List Life → Type 0 = λ ls. TellsLives (tell d).lives ls in subst P lives_here comes.deed.lives);
      };
      planted = comes.deed.planted;
      spent = comes.deed.spent;
      identity = comes.deed.identity ∙ ap (λ (v : Identity). Some v) (sym (known_as known client comes.out has_it.item (inl comes.out_is) has_it.same));
    }

    slot_now : slot_of (slice_get held' (seat_place (kind_place has_it.item.kind) has_it.item.index)) ≡ Some d
    slot_now =
        let there = held_there has_it.item stands.low in
        ap (λ v. slot_of (slice_get v (seat_place (kind_place has_it.item.kind) has_it.item.index))) puts_now
        ∙ slot_here held (seat_place (kind_place has_it.item.kind) has_it.item.index) (Some d) there.item there.is

    here_now : PlacedAt tell log log k k' pools pools held held' (kind_place has_it.item.kind) has_it.item.index t k' pools held' log (kind_place has_it.item.kind) has_it.item.index
    here_now =
        let n = kind_place has_it.item.kind in
        let i = has_it.item.index in
        let before = placed_parts k _ _ n i (seat_of log.history n i) (known_in (lives_in log.history (kind_place has_it.item.kind) has_it.item.index) has_it.item) stands.holder (t.placed n i (kind_within has_it.item.kind) stands.low) in
        let P : Option D → Type 0 = λ v. IsHeldOrAway k' (option_map tell v) n i (seat_of log.history n i) (known_in (lives_in log.history (kind_place has_it.item.kind) has_it.item.index) has_it.item) in
        placed_some k' _ _ n i (seat_of log.history n i) (known_in (lives_in log.history (kind_place has_it.item.kind) has_it.item.index) has_it.item) stands.holder before.0 (subst P (sym slot_now) deed_now)

    outs_now : (c : ℕ) (out : Out) → out_of k' c ≡ Some out → OutCase (out_of k c) (out_of k' c) client c None → HasOut (state_of log.history) c out
    outs_now c out is (IsThis mine now) = absurd (none-some out (sym now ∙ is))
    outs_now c out is (IsThat other now) = t.outs c out (sym now ∙ is)

    -- a doomed object has another cell
    doomed_apart : (y : Object) → IsIn y (state_of log.history).objects → is_doomed y.phase ≡ true → kind_place has_it.item.kind ≡ kind_place y.kind → has_it.item.index ≡ y.index → ⊥
    doomed_apart y i d kinds indices =
        let m = state_of log.history in
        let same = one_holder m stands.reached (legal_celled log.history t.legal) has_it.item stands.within (made_stands has_it.item.phase made_it) y i (record { kind = sym kinds; index = sym indices; standing = doomed_stands y.phase d }) in
        made_apart y.phase (ap (λ (v : Object). is_made v.phase) same ∙ made_it) d

    -- the deed that came back stands among the planted ones
    pub planted_tied : IsTied tell log k' pools held'
    planted_tied =
        let n = kind_place has_it.item.kind in
        let i = has_it.item.index in
        let kept : sum k'.spares ≡ sum k.spares = ap sum spares in
        tied_by tell log log k k' pools pools held held' n i t
        (record {
          seats = λ a b apart. refl;
          pooled = λ a b apart. refl;
          planted = λ a b low apart. ap (λ v. slot_of (slice_get v (seat_place a b))) puts_now ∙ slot_other held (seat_place n i) (seat_place a b) (Some d) (λ e. place_apart n i a b stands.low low (λ x y. apart (sym x) (sym y)) e);
          away = away_still;
        })
        here_now
        (history ∙ t.history) t.legal (omega (arith, t.covered, kept))
        (ap (λ v. length v) puts_now ∙ length-at_place held (seat_place n i) (put_slot (Some d))) refl
        (ap (λ v. length v) outs ∙ length-at_place k.outs client (put_out None)) (ap (λ v. length v) kills)
        t.pools_are
        (λ c out is. outs_now c out is (out_case k.outs k'.outs client c None (Some comes.out) outs there_slot))
        (λ b out is. t.kills b out (sym (ap (λ v. the_out (slice_get v b)) kills) ∙ is))
        (λ y i' d'. away_still (kind_place y.kind) y.index y.id (doomed_apart y i' d') (t.handed y i' d'))
