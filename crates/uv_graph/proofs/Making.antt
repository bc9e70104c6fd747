-- A make: the deed of the new object's cell goes out.
use Rattle.std.proofs.Common.{◌≡◌, ◌≢◌, ℕ, suc, ◌+◌, ◌≤◌, ◌<◌, Bool, true, false, List, [], ◌∷◌, ◌++◌, Option, Some, None, length, map, get_or, refl, ap, sym, ◌∙◌, subst, arith, inl, inr, ⊎_elim}
use Rattle.std.specs.Prelude.{not, ◌==◌, sum, slice_get, find, option_map, position, take, drop, if◌then◌else◌}
use Rattle.std.specs.Option.{option_or}
use Rattle.std.specs.Cmp.Derive.{both_true}
use Rattle.std.proofs.lemmas.List.{length-set}
use Rattle.std.proofs.lemmas.Option.{none-some, same_Some, slice_get-get_or, slice_get_within}
use Rattle.std.proofs.lemmas.Bool.{and_parts, eq-eqb, eqb-true, ne_eqb}
use Rattle.std.proofs.lemmas.Bool.Decides.{eqb_tells}
use Rattle.uv_num.specs.declared.identity.Identity.{Identity}
use Rattle.uv_num.specs.declared.errno.Errno.{Errno}
use Rattle.uv_num.specs.declared.errno.Errno.TheVariants.{NoSpc}
use Rattle.uv_num.specs.declared.limits.TheConstants.{CELLS, NONE}
use Rattle.uv_num.specs.declared.request.Role.{Role}
use Rattle.uv_num.specs.Kind.{kind_place}
use Rattle.uv_num.specs.Place.{at_place}
use Rattle.uv_num.proofs.PlaceLaws.{length-at_place, slice_get-at_place_same, slice_get-at_place_other}
use Rattle.uv_pool.specs.declared.deed.Life.{Life}
use Rattle.uv_pool.specs.Homes as homes
use Rattle.uv_pool.specs.Homes.{Homes, deed_at, deed_at_if, home_place, drawn_if}
use Rattle.uv_pool.proofs.Choosing.{home_place_by}
use Rattle.uv_pool.proofs.Places.{deed_at-drawn_same, deed_at-drawn_other}
use Rattle.uv_machine.specs.declared.entry.Entry.{Entry}
use Rattle.uv_machine.specs.declared.entry.Entry.TheVariants.{Step}
use Rattle.uv_machine.specs.declared.entry.Word.TheVariants.{Make, Commit}
use Rattle.uv_machine.specs.declared.entry.Answer.TheVariants as answer
use Rattle.uv_machine.specs.declared.object.Object.{Object}
use Rattle.uv_machine.specs.declared.call.InFlight.{InFlight}
use Rattle.uv_machine.specs.declared.pool.Cell.{Cell}
use Rattle.uv_machine.specs.declared.pool.Pool.{Pool}
use Rattle.uv_machine.specs.declared.state.State.{State}
use Rattle.uv_machine.specs.Objects.{has_id, is_made, is_husk}
use Rattle.uv_machine.specs.Cells.{is_home, first_of_two, home_index, sent_out, drawn, generation_from}
use Rattle.uv_machine.specs.Plans.{plan_of, next_word, with_made}
use Rattle.uv_machine.specs.States.{call_of, object_with, home_cell, home_of_kind}
use Rattle.uv_machine.specs.Steps.{told, refused_told, cell_told, make_told, step_answer}
use Rattle.uv_machine.specs.Effects.{with_new, made_outcome, make, make_at, generation_in, after_step}
use Rattle.uv_machine.specs.Histories.{kept_in, Allowed, after, state_of, IsLegal}
use Rattle.uv_machine.specs.Reached.{IsIn, Reached, IsCelled, cell_in}
use Rattle.uv_machine.proofs.Members.{IsIn-append-cases}
use Rattle.uv_machine.proofs.Celled.{IsHomeAt, home_is}
use Rattle.uv_machine.proofs.CelledTurns.{legal_celled}
use Rattle.uv_machine.proofs.Graph.{within_rising}
use Rattle.uv_machine.proofs.Numbers.{Numbered, legal_numbered, room_is, room_at}
use Rattle.uv_machine.proofs.OwnCall.{call_of-changed}
use Rattle.uv_machine.proofs.Phased.{looks_in}
use Rattle.uv_machine.proofs.Planned.{in_plan, stands_in_plan, next_place-in_plan, next_word-planned}
use Rattle.uv_machine.proofs.Reaching.{Reached-state_of}
use Rattle.uv_machine.proofs.Turning.{commits_next}
use Rattle.uv_machine.proofs.Turns.{Made, object_made, IsTurn-allowed}
use Rattle.uv_machine.specs.Made.{is_at}
use Rattle.uv_graph.specs.declared.out.Out.{Out}
use Rattle.uv_pool.specs.Deeds.{DeedFacts, TellsLives, TellsBefore}
use Rattle.uv_graph.specs.Deeds.{IsDeedForNew, out_for}
use Rattle.uv_graph.specs.Hands.{made_identity}
use Rattle.uv_graph.specs.Kept.{Kept, the_out, put_out, out_of}
use Rattle.uv_graph.specs.Lives.{identity_of, known_in, lives_out, life_of, life_if, life_in, lives_in}
use Rattle.uv_machine.specs.Logged.{Logged}
use Rattle.uv_graph.specs.Seats.{stands_at, holder_of, seat_of, slot_of, deed_in, seat_place, IsPlaced, IsUnheld, IsHeldOrAway, IsAway, IsPoolFor, is_giving, HasOut, AreHandedOut, IsTied}
use Rattle.uv_graph.specs.Slots.{next_deed, after_draw}
use Rattle.uv_graph.proofs.Finding.{find-last, find-more_fails, find-none}
use Rattle.uv_graph.proofs.Going.{HasOut-after, HasKill-after}
use Rattle.uv_graph.proofs.Handing.{OutCase, out_case, tied_by}
use Rattle.uv_graph.proofs.Handing.OutCase.{IsThis, IsThat}
use Rattle.uv_graph.proofs.Holders.{stands_parts, stands_true, made_stands, made_apart, kind_same, kind_within, holds_it}
use Rattle.uv_graph.proofs.MachineLaws.{state_goes_on}
use Rattle.uv_graph.proofs.Planting.{HasAt, has_at, still, placed_some}
use Rattle.uv_graph.proofs.Taking.{actor_place}
use Rattle.uv_graph.proofs.Tying.{lives_go_on, seat_eq, append_none, out_now, kill_now}

-- What an accepted Make does.
pub record MakesIt (m m' : State) (c o : ℕ) (item : Object) : Type 0 where
  pub id : item.id ≡ o
  pub phase : is_made item.phase ≡ true
  pub pool : Pool
  pub pool_is : slice_get m.pools (kind_place item.kind) ≡ Some pool
  pub home : home_index pool ≡ Some item.index
  pub generation : item.generation ≡ generation_in item.index (slice_get m.pools (kind_place item.kind))
  pub pools : m'.pools ≡ at_place m.pools (kind_place item.kind) (drawn item.index)
  pub objects : m'.objects ≡ m.objects ++ item ∷ []
  pub there : object_with m' o ≡ Some item
  pub out : HasOut m' c (out_for item.uses item)
  pub call : InFlight
  pub is : call_of m c ≡ Some call
  pub known : identity_of item ≡ made_identity call o item.kind

pub record Makes (m m' : State) (c o : ℕ) : Type 0 where
  pub item : Object
  pub it : MakesIt m m' c o item

pool_by : (s : Option Pool) (i : ℕ) → home_of_kind s ≡ Some i → (pool : Pool) × (s ≡ Some pool) × (home_index pool ≡ Some i)
pool_by None i e = absurd (none-some i e)
pool_by (Some pool) i e = (pool, refl, e)

module _ (m : State) (r : Reached m) (numbered : Numbered m) (c o : ℕ) (allowed : Allowed m (Step c Make o None answer.Ok)) where
  makes_from : (t : Made m c (IsTurn-allowed m c Make o None answer.Ok allowed).call (after m (Step c Make o None answer.Ok))) → m.made ≡ o → Makes m (after m (Step c Make o None answer.Ok)) c o
  makes_from t same =
      let call = (IsTurn-allowed m c Make o None answer.Ok allowed).call in
      let is = (IsTurn-allowed m c Make o None answer.Ok allowed).is in
      let m' = after m (Step c Make o None answer.Ok) in
      let z = object_made m call t.kind t.index in
      let room = room_is z m.objects (room_at m c call r numbered is t.plan) in
      let objects : m'.objects ≡ m.objects ++ z ∷ [] = ap (λ (s : State). s.objects) t.gives ∙ room in
      let found = pool_by (slice_get m.pools (kind_place t.kind)) t.index t.home in
      let fresh : find (has_id o) m.objects ≡ None =
      find-none (has_id o) m.objects (λ y k. ne_eqb y.id o (λ e. (let low = (within_rising 0 m.made y m.objects k r.graph.rising).1 in absurd (omega (arith, low, e, same))))) in
      let there : object_with m' o ≡ Some z = ap (find (has_id o)) objects ∙ find-last (has_id o) z m.objects (eq-eqb m.made o same) fresh in
      let k = with_made m.made (made_outcome z) call in
      let s = stands_in_plan call Make t.plan in
      let next = next_place-in_plan call Make t.plan in
      let P : Role → Type 0 = λ v. slice_get (plan_of v (looks_in call)) k.place ≡ Some Commit in
      let word : next_word k ≡ Commit = next_word-planned k Commit t.plan.fine (subst P (sym s.creates) (commits_next s.kind (looks_in call) k.place (omega (arith, next, s.at)))) in
      let calls : m'.calls ≡ at_place m.calls c (option_map (with_made z.id (made_outcome z))) = ap (λ (v : State). v.calls) t.gives in
      record {
        item = z;
        it = record {
          id = same;
          phase = refl;
          pool = found.0;
          pool_is = found.1;
          home = found.2;
          generation = refl;
          pools = ap (λ (v : State). v.pools) t.gives;
          objects = objects;
          there = there;
          out = record {
            call = k;
            is = call_of-changed m m' c (option_map (with_made z.id (made_outcome z))) call calls is;
            locked = refl;
            word = ap is_giving word;
            item = z;
            there = ap (object_with m') same ∙ there;
            same = record { id = refl; kind = refl; request = refl; index = refl; generation = refl };
            phase = inl refl;
          };
          call = call;
          is = is;
          known = ap (λ v. made_identity call v t.kind) same;
        };
      }

fine_by : (m : State) (call : InFlight) (kept : ℕ) (r : Option Errno) → step_answer m call None kept Make r ≡ answer.Ok → r ≡ None
fine_by m call kept None e = refl
fine_by m call kept (Some x) e = absurd cc

made_in : (m : State) (o : ℕ) (full : Bool) (i : Option ℕ) → (if full then refused_told NoSpc else cell_told m i).refusal ≡ None → (if full then refused_told NoSpc else cell_told m i).object ≡ o → (index : ℕ) × (i ≡ Some index) × (full ≡ false) × (m.made ≡ o)
made_in m o true i e h = absurd (none-some NoSpc (sym e))
made_in m o false None e h = absurd (none-some NoSpc (sym e))
made_in m o false (Some index) e h = (index, refl, refl, h)

-- an accepted Make makes its object
pub makes_item : (m : State) (c o : ℕ) → Reached m → Numbered m → Allowed m (Step c Make o None answer.Ok) → Makes m (after m (Step c Make o None answer.Ok)) c o
makes_item m c o r numbered allowed =
    let t = IsTurn-allowed m c Make o None answer.Ok allowed in
    let plan = in_plan t.call Make t.word refl in
    let s = stands_in_plan t.call Make plan in
    let fine = fine_by m t.call (kept_in answer.Ok) (told m c t.call None Make).refusal t.answer in
    let P : Role → Type 0 = λ v. ((make_told m v).refusal ≡ None) × ((make_told m v).object ≡ o) in
    let both = subst P s.creates (fine, t.object) in
    let found = made_in m o (m.made == NONE) (home_cell m s.kind) both.0 both.1 in
    let gives : after m (Step c Make o None answer.Ok) ≡ with_new m c (object_made m t.call s.kind found.0) =
    ap (λ slot. after_step m c slot Make o answer.Ok) t.is ∙ ap (make m c t.call) s.creates ∙ ap (make_at m c t.call s.kind) found.1 in
    makes_from m r numbered c o allowed (record { plan = plan; kind = s.kind; creates = s.creates; index = found.0; home = found.1; fresh = found.2; gives = gives }) found.3

-- Seats.

drawn_cell : (s : Option Pool) (i j : ℕ) → j ≢ i → cell_in (option_map (drawn i) s) j ≡ cell_in s j
drawn_cell None i j ne = refl
drawn_cell (Some p) i j ne = slice_get-at_place_other p.cells i j sent_out ne

drawn_deed : {D : Type 0} (s : Option (Homes D)) (i j : ℕ) → j ≢ i → deed_in (option_map (homes.deed_drawn i) s) j ≡ deed_in s j
drawn_deed None i j ne = refl
drawn_deed (Some pool) i j ne = deed_at-drawn_other pool i j ne

-- Which deed is drawn.

pub map_same : {X Y : Type 0} (p : X → Bool) (q : Y → Bool) (xs : List X) (ys : List Y) (d : X) (e : Y) → length xs ≡ length ys → ((i : ℕ) → i < length xs → p (get_or xs i d) ≡ q (get_or ys i e)) → map p xs ≡ map q ys
map_same p q [] [] d e long same = refl
map_same p q [] (y ∷ ys) d e long same = absurd (omega (arith, long))
map_same p q (x ∷ xs) [] d e long same = absurd (omega (arith, long))
map_same p q (x ∷ xs) (y ∷ ys) d e long same =
    ap (λ b. b ∷ map p xs) (same 0 (omega arith)) ∙ ap (λ v. q y ∷ v) (map_same p q xs ys d e (omega (arith, long)) (λ i low. same (suc i) (omega (arith, low))))

either_first : (a b : Option ℕ) → first_of_two a b ≡ option_or a b
either_first None b = refl
either_first (Some n) b = refl

not_twice : (b : Bool) → b ≡ not (not b)
not_twice true = refl
not_twice false = refl

no_stand : (b : Bool) → (b ≡ true → ⊥) → b ≡ false
no_stand true h = absurd (h refl)
no_stand false h = refl

before_none : {D : Type 0} (tell : D → DeedFacts) (slot : Option D) → option_map tell slot ≡ None → slot ≡ None
before_none tell None e = refl
before_none tell (Some d) e = absurd (none-some (tell d) (sym e))

told_before : (told : Option (List Life)) (life : Life) (before now : List Life) → TellsLives told before → now ≡ before ++ life ∷ [] → TellsBefore told life now
told_before None life before now h e = tt
told_before (Some l) life before now h e = ap (λ v. v ++ life ∷ []) h ∙ sym e

-- the deed in a slot, by what it tells
pub record SlotTells {D : Type 0} (tell : D → DeedFacts) (slot : Option D) (t : DeedFacts) : Type 0 where
  pub deed : D
  pub is : slot ≡ Some deed
  pub tells : tell deed ≡ t

pub slot_tells : {D : Type 0} (tell : D → DeedFacts) (slot : Option D) (t : DeedFacts) → option_map tell slot ≡ Some t → SlotTells tell slot t
slot_tells tell None t e = absurd (none-some t e)
slot_tells tell (Some d) t e = record { deed = d; is = refl; tells = same_Some (tell d) t e }

module _ {D : Type 0} (tell : D → DeedFacts) (log log' : Logged) (k k' : Kept) (pools pools' : List (Homes D)) (held : List (Option D))
    (t : IsTied tell log k pools held) (c o : ℕ) (allowed : Allowed (state_of log.history) (Step c Make o None answer.Ok)) (none : out_of k c ≡ None)
    (more : log'.history ≡ log.history ++ Step c Make o None answer.Ok ∷ []) where
  abbrev e_now : Entry
  e_now = Step c Make o None answer.Ok

  now_m : state_of log'.history ≡ after (state_of log.history) e_now
  now_m = ap state_of more ∙ state_goes_on log.history e_now

  r_m : Reached (state_of log.history)
  r_m = Reached-state_of log.history t.legal

  c_m : IsCelled (state_of log.history).pools (state_of log.history).objects
  c_m = legal_celled log.history t.legal

  pub made_now : Makes (state_of log.history) (after (state_of log.history) e_now) c o
  made_now = makes_item (state_of log.history) c o r_m (legal_numbered log.history t.legal) allowed

  pub made_there : object_with (state_of log'.history) o ≡ Some made_now.item
  made_there = ap (λ s. object_with s o) now_m ∙ made_now.it.there

  -- the object that is found is the one that was made
  pub made_is : (x : Object) → object_with (state_of log'.history) o ≡ Some x → MakesIt (state_of log.history) (after (state_of log.history) e_now) c o x
  made_is x found = let P : Object → Type 0 = λ v. MakesIt (state_of log.history) (after (state_of log.history) e_now) c o v in subst P (same_Some made_now.item x (sym made_there ∙ found)) made_now.it

  module _ (x : Object) (found : object_with (state_of log'.history) o ≡ Some x) (it : MakesIt (state_of log.history) (after (state_of log.history) e_now) c o x) where
    home_x : IsHomeAt it.pool x.index
    home_x = home_is it.pool x.index it.home

    cell_x : cell_in (slice_get (state_of log.history).pools (kind_place x.kind)) x.index ≡ Some home_x.cell
    cell_x = ap (λ s. cell_in s x.index) it.pool_is ∙ home_x.at

    pub low_x : x.index < CELLS
    low_x = (let long = c_m.cells (kind_place x.kind) it.pool it.pool_is in let low = slice_get_within it.pool.cells x.index home_x.cell home_x.at in omega (arith, long, low))

    -- nobody held the cell
    none_held : (y : Object) → IsIn y (state_of log.history).objects → stands_at (kind_place x.kind) x.index y ≡ false
    none_held y h =
        no_stand (stands_at (kind_place x.kind) x.index y)
        (λ yes. (
        let s = stands_parts (kind_place x.kind) x.index y yes in
        let has = c_m.has y h s.standing in
        let there : Some home_x.cell ≡ Some has.cell = sym cell_x ∙ ap (λ v. cell_in (slice_get (state_of log.history).pools v) x.index) (sym s.kind) ∙ ap (cell_in (slice_get (state_of log.history).pools (kind_place y.kind))) (sym s.index) ∙ has.is in
        let same = same_Some home_x.cell has.cell there in
        let out : home_x.cell.home ≡ false = ap (λ (v : Cell). v.home) same ∙ has.out in
        let home = home_x.home in
        cc))

    free_before : (seat_of log.history (kind_place x.kind) x.index).holder ≡ None
    free_before = ap (option_map (known_in (lives_in log.history (kind_place x.kind) x.index))) (find-none (stands_at (kind_place x.kind) x.index) (state_of log.history).objects none_held)

    idle_before : IsUnheld (option_map tell (deed_in (slice_get pools (kind_place x.kind)) x.index)) (kind_place x.kind) x.index (seat_of log.history (kind_place x.kind) x.index) × (option_map tell (slot_of (slice_get held (seat_place (kind_place x.kind) x.index))) ≡ None)
    idle_before =
        let P : Option Identity → Type 0 = λ v. IsPlaced k (option_map tell (deed_in (slice_get pools (kind_place x.kind)) x.index)) (option_map tell (slot_of (slice_get held (seat_place (kind_place x.kind) x.index)))) (kind_place x.kind) x.index (seat_of log.history (kind_place x.kind) x.index) v in
        subst P free_before (t.placed (kind_place x.kind) x.index (kind_within x.kind) low_x)

    pool_x : HasAt pools (kind_place x.kind)
    pool_x = has_at pools (kind_place x.kind) (let low = kind_within x.kind in omega (arith, low, t.kinds))

    was_x : IsPoolFor (kind_place x.kind) (slice_get (state_of log.history).pools (kind_place x.kind)) pool_x.item
    was_x = t.pools_are (kind_place x.kind) pool_x.item pool_x.is

    cells_same : was_x.cells ≡ it.pool
    cells_same = same_Some was_x.cells it.pool (sym was_x.is ∙ it.pool_is)

    -- the deeds that may be drawn are those of the cells that are home
    home_as : (i : ℕ) → i < CELLS → (holder : Option Identity) → (seat_of log.history (kind_place x.kind) i).holder ≡ holder
        → IsPlaced k (option_map tell (deed_at pool_x.item i)) (option_map tell (slot_of (slice_get held (seat_place (kind_place x.kind) i)))) (kind_place x.kind) i (seat_of log.history (kind_place x.kind) i) holder
        → (cell : Cell) → slice_get it.pool.cells i ≡ Some cell → cell.home ≡ homes.is_drawable tell (deed_at pool_x.item i)
    home_as i low None e placed cell at =
        let idle = placed.0 in
        let slot = slot_tells tell (deed_at pool_x.item i) idle.deed idle.there in
        let same : cell ≡ idle.idle.cell = same_Some cell idle.idle.cell (sym at ∙ ap (λ s. cell_in s i) (sym it.pool_is) ∙ idle.idle.at.is) in
        ap (λ (v : Cell). v.home) same ∙ not_twice idle.idle.cell.home ∙ ap not (sym idle.idle.spent ∙ ap (λ (v : DeedFacts). v.spent) (sym slot.tells)) ∙ ap (homes.is_drawable tell) (sym slot.is)
    home_as i low (Some holder) e placed cell at =
        let h = holds_it (state_of log.history) (lives_in log.history (kind_place x.kind) i) (kind_place x.kind) i holder e in
        let has = c_m.has h.item h.within h.stands.standing in
        let there : Some cell ≡ Some has.cell = sym at ∙ ap (λ s. cell_in s i) (sym it.pool_is) ∙ ap (λ v. cell_in (slice_get (state_of log.history).pools v) i) (sym h.stands.kind) ∙ ap (cell_in (slice_get (state_of log.history).pools (kind_place h.item.kind))) (sym h.stands.index) ∙ has.is in
        ap (λ (v : Cell). v.home) (same_Some cell has.cell there) ∙ has.out ∙ sym (ap (homes.is_drawable tell) (before_none tell (deed_at pool_x.item i) placed.0))

    drawn_place : home_place tell pool_x.item ≡ Some x.index
    drawn_place =
        let long = c_m.cells (kind_place x.kind) it.pool it.pool_is in
        let size = was_x.size in
        let nothing : Cell = record { generation = 0; home = false } in
        let agree : map is_home it.pool.cells ≡ map (homes.is_drawable tell) pool_x.item.deeds =
        map_same is_home (homes.is_drawable tell) it.pool.cells pool_x.item.deeds nothing None (omega (arith, long, size))
        (λ i low. home_as i (omega (arith, long, low)) (seat_of log.history (kind_place x.kind) i).holder refl
        (let P : Option (Homes D) → Type 0 = λ s. IsPlaced k (option_map tell (deed_in s i)) (option_map tell (slot_of (slice_get held (seat_place (kind_place x.kind) i)))) (kind_place x.kind) i (seat_of log.history (kind_place x.kind) i) (seat_of log.history (kind_place x.kind) i).holder in
        subst P pool_x.is (t.placed (kind_place x.kind) i (kind_within x.kind) (omega (arith, long, low))))
        (get_or it.pool.cells i nothing) (slice_get-get_or it.pool.cells i nothing low)) in
        let next : pool_x.item.next ≡ it.pool.next = was_x.next ∙ ap (λ (v : Pool). v.next) cells_same in
        sym (home_place_by tell pool_x.item is_home it.pool.cells agree)
        ∙ ap (λ n. option_or (option_map (λ i. n + i) (position is_home (drop n it.pool.cells))) (position is_home (take n it.pool.cells))) next
        ∙ sym (either_first (option_map (λ i. it.pool.next + i) (position is_home (drop it.pool.next it.pool.cells))) (position is_home (take it.pool.next it.pool.cells)))
        ∙ it.home

    drawn_is : next_deed tell (slice_get pools (kind_place x.kind)) ≡ deed_in (slice_get pools (kind_place x.kind)) x.index
    drawn_is = ap (next_deed tell) pool_x.is ∙ ap (deed_at_if pool_x.item) drawn_place ∙ sym (ap (λ s. deed_in s x.index) pool_x.is)

    -- there is a deed to draw
    pub drawn_some : next_deed tell (slice_get pools (kind_place x.kind)) ≡ None → ⊥
    drawn_some empty =
        none-some idle_before.0.deed (sym (ap (option_map tell) (sym drawn_is ∙ empty)) ∙ idle_before.0.there)

    pub lives_x : lives_in log'.history (kind_place x.kind) x.index ≡ lives_in log.history (kind_place x.kind) x.index ++ life_of x ∷ []
    lives_x =
        ap (λ v. lives_in v (kind_place x.kind) x.index) more ∙ lives_go_on log.history e_now (kind_place x.kind) x.index
        ∙ ap (λ y. lives_in log.history (kind_place x.kind) x.index ++ life_in (kind_place x.kind) x.index y) it.there
        ∙ ap (λ b. lives_in log.history (kind_place x.kind) x.index ++ life_if b x) (both_true (eq-eqb (kind_place x.kind) (kind_place x.kind) refl) (eq-eqb x.index x.index refl))

    -- and it is the new object's
    pub drawn_for : (d : D) → Some d ≡ next_deed tell (slice_get pools (kind_place x.kind)) → IsDeedForNew (tell d) (out_for x.uses x) (lives_out log'.history (Some (out_for x.uses x)))
    drawn_for d is =
        let idle = idle_before.0 in
        let same : tell d ≡ idle.deed = same_Some (tell d) idle.deed (ap (option_map tell) (is ∙ drawn_is) ∙ idle.there) in
        let cells : idle.idle.cell ≡ home_x.cell = same_Some idle.idle.cell home_x.cell (sym idle.idle.at.is ∙ cell_x) in
        let P : DeedFacts → Type 0 = λ v. IsDeedForNew v (out_for x.uses x) (lives_out log'.history (Some (out_for x.uses x))) in
        subst P (sym same)
        (record {
          kind = kind_same idle.deed.kind x.kind idle.idle.at.kind;
          index = idle.idle.at.index;
          generation = idle.idle.at.generation ∙ ap (λ (v : Cell). v.generation) cells ∙ sym (it.generation ∙ ap (generation_in x.index) it.pool_is ∙ ap generation_from home_x.at);
          spent = idle.idle.spent ∙ ap (λ (v : Cell). not v.home) cells ∙ ap not home_x.home;
          planted = idle.idle.planted;
          lives = told_before idle.deed.lives (life_of x) (lives_in log.history (kind_place x.kind) x.index) (lives_in log'.history (kind_place x.kind) x.index) idle.idle.at.lives lives_x;
        })

    pub lives_beside : (a b : ℕ) → (kind_place x.kind ≡ a → x.index ≡ b → ⊥) → lives_in log'.history a b ≡ lives_in log.history a b
    lives_beside a b apart =
        let fails : is_at a b x ≡ false = no_stand (is_at a b x) (λ h. (let parts = and_parts (kind_place x.kind == a) (x.index == b) h in apart (eqb-true (kind_place x.kind) a parts.0) (eqb-true x.index b parts.1))) in
        ap (λ v. lives_in v a b) more ∙ lives_go_on log.history e_now a b
        ∙ ap (λ y. lives_in log.history a b ++ life_in a b y) it.there
        ∙ ap (λ v. lives_in log.history a b ++ life_if v x) fails
        ∙ append_none (lives_in log.history a b)

    pools_m : (state_of log'.history).pools ≡ at_place (state_of log.history).pools (kind_place x.kind) (drawn x.index)
    pools_m = ap (λ (s : State). s.pools) now_m ∙ it.pools

    objects_m : (state_of log'.history).objects ≡ (state_of log.history).objects ++ x ∷ []
    objects_m = ap (λ (s : State). s.objects) now_m ∙ it.objects

    cell_beside : (a b : ℕ) → (kind_place x.kind ≡ a → x.index ≡ b → ⊥) → cell_in (slice_get (state_of log'.history).pools a) b ≡ cell_in (slice_get (state_of log.history).pools a) b
    cell_beside a b apart =
        ap (λ v. cell_in (slice_get v a) b) pools_m
        ∙ ⊎_elim
        (λ h. (let P : ℕ → Type 0 = λ v. cell_in (slice_get (at_place (state_of log.history).pools (kind_place x.kind) (drawn x.index)) v) b ≡ cell_in (slice_get (state_of log.history).pools v) b in
        subst P h.1 (ap (λ s. cell_in s b) (slice_get-at_place_same (state_of log.history).pools (kind_place x.kind) (drawn x.index)) ∙ drawn_cell (slice_get (state_of log.history).pools (kind_place x.kind)) x.index b (λ same. apart h.1 (sym same)))))
        (λ h. ap (λ s. cell_in s b) (slice_get-at_place_other (state_of log.history).pools (kind_place x.kind) a (drawn x.index) (λ same. h.1 (sym same))))
        (eqb_tells (kind_place x.kind) a)

    holder_beside : (a b : ℕ) → (kind_place x.kind ≡ a → x.index ≡ b → ⊥) → (seat_of log'.history a b).holder ≡ (seat_of log.history a b).holder
    holder_beside a b apart =
        ap (λ ls. holder_of ls (state_of log'.history).objects a b) (lives_beside a b apart)
        ∙ ap (λ v. holder_of (lives_in log.history a b) v a b) objects_m
        ∙ ap (option_map (known_in (lives_in log.history a b))) (find-more_fails (stands_at a b) x (state_of log.history).objects (no_stand (stands_at a b x) (λ h. (let s = stands_parts a b x h in apart s.kind s.index))))

    made_stand : is_husk x.phase ≡ false
    made_stand = made_stands x.phase it.phase

    holder_now : (seat_of log'.history (kind_place x.kind) x.index).holder ≡ Some (known_in (lives_in log'.history (kind_place x.kind) x.index) x)
    holder_now =
        ap (λ v. holder_of (lives_in log'.history (kind_place x.kind) x.index) v (kind_place x.kind) x.index) objects_m
        ∙ ap (option_map (known_in (lives_in log'.history (kind_place x.kind) x.index))) (find-last (stands_at (kind_place x.kind) x.index) x (state_of log.history).objects (stands_true x made_stand) (find-none (stands_at (kind_place x.kind) x.index) (state_of log.history).objects none_held))

    module _ (draws : pools' ≡ at_place pools (kind_place x.kind) (after_draw tell)) (outs : k'.outs ≡ at_place k.outs c (put_out (Some (out_for x.uses x)))) (kills : k'.kills ≡ k.kills)
        (legal : IsLegal log'.history) (history : k'.history ≡ log'.history) (covered : sum k'.spares ≤ log'.spare) where
      slot_c : HasAt k.outs c
      slot_c = actor_place c k.outs allowed.0 t.outs_size

      case_c : (a : ℕ) → OutCase (out_of k a) (out_of k' a) c a (Some (out_for x.uses x))
      case_c a = out_case k.outs k'.outs c a (Some (out_for x.uses x)) slot_c.item outs slot_c.is

      moves_c : (a b o' : ℕ) → IsAway k a b o' → IsAway k' a b o'
      moves_c a b o' w = record {
        actor = w.actor;
        out = w.out;
        named = ⊎_elim (λ e. still k k' c w.actor w.out (Some (out_for x.uses x)) e (case_c w.actor) (λ mine. none-some w.out (sym none ∙ ap (out_of k) mine ∙ e))) (λ e. inr (ap (λ v. the_out (slice_get v w.actor)) kills ∙ e)) w.named;
        kind = w.kind;
        index = w.index;
        object = w.object;
      }

      put_c : OutCase (out_of k c) (out_of k' c) c c (Some (out_for x.uses x)) → out_of k' c ≡ Some (out_for x.uses x)
      put_c (IsThis mine now) = now
      put_c (IsThat other now) = absurd (other refl)

      away_c : IsAway k' (kind_place x.kind) x.index x.id
      away_c = record { actor = c; out = out_for x.uses x; named = inl (put_c (case_c c)); kind = refl; index = refl; object = refl }

      outs_c : (a : ℕ) (out : Out) → out_of k' a ≡ Some out → OutCase (out_of k a) (out_of k' a) c a (Some (out_for x.uses x)) → HasOut (after (state_of log.history) e_now) a out
      outs_c a out is (IsThis mine now) =
          let one : out_for x.uses x ≡ out = same_Some (out_for x.uses x) out (sym now ∙ is) in
          let P : ℕ → Type 0 = λ v. HasOut (after (state_of log.history) e_now) v out in
          let Q : Out → Type 0 = λ v. HasOut (after (state_of log.history) e_now) c v in
          subst P mine (subst Q one it.out)
      outs_c a out is (IsThat other now) = HasOut-after (state_of log.history) e_now a out r_m allowed (ne_eqb c a other) (t.outs a out (sym now ∙ is))

      -- the pool that gave its deed
      draws_now : pools' ≡ at_place pools (kind_place x.kind) (after_draw tell)
      draws_now = draws

      drawn_pool : slice_get pools' (kind_place x.kind) ≡ Some (homes.deed_drawn x.index pool_x.item)
      drawn_pool =
          ap (λ v. slice_get v (kind_place x.kind)) draws ∙ slice_get-at_place_same pools (kind_place x.kind) (after_draw tell) ∙ ap (option_map (after_draw tell)) pool_x.is
          ∙ ap (λ v. Some (drawn_if v pool_x.item)) drawn_place

      other_pool : (a : ℕ) → kind_place x.kind ≢ a → slice_get pools' a ≡ slice_get pools a
      other_pool a ne = ap (λ v. slice_get v a) draws ∙ slice_get-at_place_other pools (kind_place x.kind) a (after_draw tell) (λ e. ne (sym e))

      pooled_beside : (a b : ℕ) → (kind_place x.kind ≡ a → x.index ≡ b → ⊥) → deed_in (slice_get pools' a) b ≡ deed_in (slice_get pools a) b
      pooled_beside a b apart =
          ⊎_elim
          (λ h. (let P : ℕ → Type 0 = λ v. deed_in (slice_get pools' v) b ≡ deed_in (slice_get pools v) b in
          subst P h.1 (ap (λ s. deed_in s b) drawn_pool ∙ deed_at-drawn_other pool_x.item x.index b (λ same. apart h.1 (sym same)) ∙ sym (ap (λ s. deed_in s b) pool_x.is))))
          (λ h. ap (λ s. deed_in s b) (other_pool a h.1))
          (eqb_tells (kind_place x.kind) a)

      pools_are_m : (a : ℕ) (pool : Homes D) → slice_get pools' a ≡ Some pool → IsPoolFor a (slice_get (state_of log'.history).pools a) pool
      pools_are_m a pool is =
          let R : List Pool → Type 0 = λ v. IsPoolFor a (slice_get v a) pool in
          subst R (sym pools_m)
          (⊎_elim
          (λ h. (
          let P : ℕ → Type 0 = λ v. slice_get pools' v ≡ Some pool → IsPoolFor v (slice_get (at_place (state_of log.history).pools (kind_place x.kind) (drawn x.index)) v) pool in
          subst P h.1 (λ at. (
          let Q : Option Pool → Type 0 = λ v. IsPoolFor (kind_place x.kind) v pool in
          let S : Homes D → Type 0 = λ v. IsPoolFor (kind_place x.kind) (option_map (drawn x.index) (slice_get (state_of log.history).pools (kind_place x.kind))) v in
          subst Q (sym (slice_get-at_place_same (state_of log.history).pools (kind_place x.kind) (drawn x.index)))
          (subst S (same_Some (homes.deed_drawn x.index pool_x.item) pool (sym drawn_pool ∙ at))
          (record { kind = was_x.kind; size = length-set pool_x.item.deeds x.index None ∙ was_x.size; cells = drawn x.index was_x.cells; is = ap (option_map (drawn x.index)) was_x.is; next = refl })))) is))
          (λ h. (
          let Q : Option Pool → Type 0 = λ v. IsPoolFor a v pool in
          subst Q (sym (slice_get-at_place_other (state_of log.history).pools (kind_place x.kind) a (drawn x.index) (λ e. h.1 (sym e)))) (t.pools_are a pool (sym (other_pool a h.1) ∙ is))))
          (eqb_tells (kind_place x.kind) a))

      -- the new object isn't doomed
      handed_now : AreHandedOut k' (state_of log'.history).objects
      handed_now y i d =
          let P : List Object → Type 0 = λ v. IsIn y v in
          ⊎_elim
          (λ h. moves_c (kind_place y.kind) y.index y.id (t.handed y h d))
          (λ h. absurd (made_apart y.phase (ap (λ (v : Object). is_made v.phase) (⊎_elim (λ (same : y ≡ x). same) (λ none. absurd none) h) ∙ it.phase) d))
          (IsIn-append-cases y (state_of log.history).objects (x ∷ []) (subst P objects_m i))

      pub make_tied : IsTied tell log' k' pools' held
      make_tied =
          let a = kind_place x.kind in
          let b = x.index in
          let gone : slot_of (slice_get held (seat_place a b)) ≡ None = before_none tell (slot_of (slice_get held (seat_place a b))) idle_before.1 in
          let P : Option D → Type 0 = λ v. IsHeldOrAway k' (option_map tell v) a b (seat_of log'.history a b) (known_in (lives_in log'.history (kind_place x.kind) x.index) x) in
          let empty : option_map tell (deed_in (slice_get pools' a) b) ≡ None = ap (λ s. option_map tell (deed_in s b)) drawn_pool ∙ ap (option_map tell) (deed_at-drawn_same pool_x.item b) in
          tied_by tell log log' k k' pools pools' held held a b t
          (record {
            seats = λ i j apart. seat_eq (state_of log.history) (state_of log'.history) log.history log'.history i j (cell_beside i j apart) (holder_beside i j apart) (lives_beside i j apart);
            pooled = pooled_beside;
            planted = λ i j low apart. refl;
            away = λ i j o' apart w. moves_c i j o' w;
          })
          (placed_some k' _ _ a b (seat_of log'.history a b) (known_in (lives_in log'.history (kind_place x.kind) x.index) x) holder_now empty (subst P (sym gone) away_c))
          history legal covered refl (ap (λ v. length v) draws ∙ length-at_place pools a (after_draw tell)) (ap (λ v. length v) outs ∙ length-at_place k.outs c (put_out (Some (out_for x.uses x)))) (ap (λ v. length v) kills)
          pools_are_m
          (λ i out is. out_now log.history log'.history e_now i out more (outs_c i out is (case_c i)))
          (λ i out is. kill_now log.history log'.history e_now i out more (HasKill-after (state_of log.history) e_now i out r_m allowed refl (t.kills i out (sym (ap (λ v. the_out (slice_get v i)) kills) ∙ is))))
          handed_now
