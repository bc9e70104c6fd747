-- The deed of a live object goes out, to a call that checks it or to a teardown that kills it.
use Rattle.std.proofs.Common.{◌≡◌, ℕ, ◌≤◌, Bool, true, false, List, [], ◌∷◌, ◌++◌, Option, Some, None, length, map, refl, ap, sym, ◌∙◌, subst, arith, inl, inr, ◌⊎◌, ⊎_elim}
use Rattle.std.specs.Prelude.{not, ◌&&◌, ◌==◌, sum, slice_get, find, reverse, option_map, if◌then◌else◌}
use Rattle.std.proofs.lemmas.Option.{none-some, same_Some}
use Rattle.std.proofs.lemmas.Bool.{and_parts, eqb-true, ne_eqb}
use Rattle.uv_num.specs.declared.identity.Identity.{Identity}
use Rattle.uv_num.specs.declared.ids.Ids.{Ids}
use Rattle.uv_num.specs.declared.limits.TheConstants.{ACTOR_PLACES}
use Rattle.uv_num.specs.declared.request.Role.{Role}
use Rattle.uv_num.specs.Kind.{kind_place}
use Rattle.uv_num.specs.Place.{at_place}
use Rattle.uv_num.proofs.PlaceLaws.{length-at_place, slice_get-at_place_same}
use Rattle.uv_pool.specs.Homes.{Homes}
use Rattle.uv_machine.specs.declared.entry.Entry.{Entry}
use Rattle.uv_machine.specs.declared.entry.Entry.TheVariants.{Step, Kill}
use Rattle.uv_machine.specs.declared.entry.Word.TheVariants.{Check, Finish}
use Rattle.uv_machine.specs.declared.entry.Answer.TheVariants as answer
use Rattle.uv_machine.specs.declared.file.FilePhase.{FilePhase}
use Rattle.uv_machine.specs.declared.file.FilePhase.TheVariants as file
use Rattle.uv_machine.specs.declared.object.Phase.{Phase}
use Rattle.uv_machine.specs.declared.object.Phase.TheVariants as phase
use Rattle.uv_machine.specs.declared.object.Object.{Object}
use Rattle.uv_machine.specs.declared.object.Change.TheVariants.{ToDoomed}
use Rattle.uv_machine.specs.declared.pool.Cell.{Cell}
use Rattle.uv_machine.specs.declared.pool.Pool.{Pool}
use Rattle.uv_machine.specs.declared.state.State.{State}
use Rattle.uv_machine.specs.Objects.{has_id, in_file, is_live, is_doomed, doomed_from, with_change, on_object}
use Rattle.uv_machine.specs.Plans.{plan_of, next_word, moved_on}
use Rattle.uv_machine.specs.States.{object_with, phase_of, is_quiet, is_tearing, has_doomed, has_users, can_go, newest_free}
use Rattle.uv_machine.specs.Effects.{check, after_step}
use Rattle.uv_machine.specs.Outside.{may_sweep, is_object, may_kill_object}
use Rattle.uv_machine.specs.Histories.{IsActor, Allowed, after, state_of, IsLegal}
use Rattle.uv_machine.specs.Reached.{IsIn, Reached}
use Rattle.uv_machine.proofs.Members.{Passes-find, IsIn-map, IsIn-from_reverse}
use Rattle.uv_machine.proofs.Changing.{on_object-id}
use Rattle.uv_machine.proofs.Planned.{in_plan, stands_in_plan, next_place-in_plan, next_word-planned}
use Rattle.uv_machine.proofs.Phased.{looks_in}
use Rattle.uv_machine.proofs.OwnCall.{call_of-changed}
use Rattle.uv_machine.proofs.Keeping.{owns_at_check}
use Rattle.uv_machine.proofs.Turning.{finishes_next}
use Rattle.uv_machine.proofs.Turns.{IsTurn-allowed}
use Rattle.uv_machine.proofs.Reaching.{Reached-state_of}
use Rattle.uv_machine.specs.Filed.{TornWell}
use Rattle.uv_machine.proofs.Filing.{legal_torn}
use Rattle.uv_graph.specs.declared.out.Out.{Out}
use Rattle.uv_pool.specs.Deeds.{DeedFacts, TellsLives}
use Rattle.uv_graph.specs.Deeds.{IsDeedPlantedFor, out_for}
use Rattle.uv_graph.specs.Kept.{Kept, the_out, put_out, out_of, kill_of}
use Rattle.uv_graph.specs.Lives.{known_in, lives_in, lives_out}
use Rattle.uv_machine.specs.Logged.{Logged}
use Rattle.uv_graph.specs.Notes.{Leaves}
use Rattle.uv_graph.specs.Owns.{is_torn_by, torn_by_object}
use Rattle.uv_graph.specs.Seats.{Seat, seat_of, slot_of, deed_in, seat_place, IsHeldOrAway, IsHeldDeed, IsAway, IsFor, IsPoolFor, is_giving, HasOut, HasKill, AreHandedOut, IsTied}
use Rattle.uv_graph.specs.Slots.{put_slot}
use Rattle.uv_graph.proofs.Finding.{find-map}
use Rattle.uv_graph.specs.Hands.{is_live_object, out_in}
use Rattle.uv_graph.proofs.Going.{HasOut-after, HasKill-after}
use Rattle.uv_graph.proofs.Handing.{OutCase, out_case, slot_here, slot_other, tied_by}
use Rattle.uv_graph.proofs.Handing.OutCase.{IsThis, IsThat}
use Rattle.uv_graph.proofs.Holders.{kind_same, kind_within, object_is, place_apart, live_stands, live_apart}
use Rattle.uv_graph.proofs.MachineLaws.{state_goes_on}
use Rattle.uv_graph.proofs.Planting.{HasAt, has_at, Standing, standing_at, still, held_there, placed_parts, placed_some}
use Rattle.uv_graph.proofs.Seating.{seats_after}
use Rattle.uv_graph.proofs.Tying.{seat_stays, out_now, kill_now}

-- the planted deed at a place
abbrev pub HeldSlot : {D : Type 0} → (D → DeedFacts) → Option D → ℕ → ℕ → Seat → Identity → Type 0
HeldSlot tell None n i s holder = ⊥
HeldSlot tell (Some d) n i s holder = IsHeldDeed (tell d) n i s holder

module _ {D : Type 0} (tell : D → DeedFacts) (log : Logged) (k : Kept) (pools : List (Homes D)) (held : List (Option D)) (t : IsTied tell log k pools held)
    (x : Object) (o : ℕ) (there : object_with (state_of log.history) o ≡ Some x) (live : is_live x.phase ≡ true) where
  stands : Standing log.history x
  stands = standing_at log.history o x t.legal there (live_stands x.phase live)

  id_is : x.id ≡ o
  id_is = eqb-true x.id o (Passes-find (has_id o) x (state_of log.history).objects there).test

  -- a live object's deed is in no hands
  not_away : IsAway k (kind_place x.kind) x.index x.id → ⊥
  not_away w =
      let m = state_of log.history in
      let here : object_with m w.out.identity.id ≡ Some x = ap (object_with m) (w.object ∙ id_is) ∙ there in
      ⊎_elim
      (λ e. (let h = t.outs w.actor w.out e in let one : h.item ≡ x = same_Some h.item x (sym h.there ∙ here) in
      live_apart h.item.phase (ap (λ (v : Object). is_live v.phase) one ∙ live) h.phase))
      (λ e. (let h = t.kills w.actor w.out e in let one : h.item ≡ x = same_Some h.item x (sym h.there ∙ here) in
      live_apart h.item.phase (ap (λ (v : Object). is_live v.phase) one ∙ live) (inr h.phase)))
      w.named

  slot_by : (slot : Option D) → IsHeldOrAway k (option_map tell slot) (kind_place x.kind) x.index (seat_of log.history (kind_place x.kind) x.index) (known_in (lives_in log.history (kind_place x.kind) x.index) x) → HeldSlot tell slot (kind_place x.kind) x.index (seat_of log.history (kind_place x.kind) x.index) (known_in (lives_in log.history (kind_place x.kind) x.index) x)
  slot_by None h = not_away h
  slot_by (Some d) h = h

  parts : (option_map tell (deed_in (slice_get pools (kind_place x.kind)) x.index) ≡ None) × IsHeldOrAway k (option_map tell (slot_of (slice_get held (seat_place (kind_place x.kind) x.index)))) (kind_place x.kind) x.index (seat_of log.history (kind_place x.kind) x.index) (known_in (lives_in log.history (kind_place x.kind) x.index) x)
  parts = placed_parts k _ _ (kind_place x.kind) x.index (seat_of log.history (kind_place x.kind) x.index) (known_in (lives_in log.history (kind_place x.kind) x.index) x) stands.holder (t.placed (kind_place x.kind) x.index (kind_within x.kind) stands.low)

  -- it stands among the planted ones
  pub held_slot : (slot : Option D) → slot ≡ slot_of (slice_get held (seat_place (kind_place x.kind) x.index)) → HeldSlot tell slot (kind_place x.kind) x.index (seat_of log.history (kind_place x.kind) x.index) (known_in (lives_in log.history (kind_place x.kind) x.index) x)
  held_slot slot e =
      let P : Option D → Type 0 = λ v. HeldSlot tell v (kind_place x.kind) x.index (seat_of log.history (kind_place x.kind) x.index) (known_in (lives_in log.history (kind_place x.kind) x.index) x) in
      subst P (sym e) (slot_by (slot_of (slice_get held (seat_place (kind_place x.kind) x.index))) parts.1)

  module _ (e : Entry) (allowed : Allowed (state_of log.history) e) (leaves : Leaves (state_of log.history) e) (log' : Logged) (more : log'.history ≡ log.history ++ e ∷ []) where
    seat_now : (a b : ℕ) → seat_of log'.history a b ≡ seat_of log.history a b
    seat_now a b = ap (λ v. seat_of v a b) more ∙ seat_stays log.history e t.legal allowed leaves a b

    -- and is the deed that the object was planted by
    pub deed_for : (d : D) → IsHeldDeed (tell d) (kind_place x.kind) x.index (seat_of log.history (kind_place x.kind) x.index) (known_in (lives_in log.history (kind_place x.kind) x.index) x) → IsDeedPlantedFor (tell d) (out_in log.history x) (lives_out log'.history (Some (out_in log.history x)))
    deed_for d h =
        let cells : h.cell ≡ stands.cell = same_Some h.cell stands.cell (sym h.at.is ∙ stands.is) in
        record {
          kind = kind_same (tell d).kind x.kind h.at.kind;
          index = h.at.index;
          generation = h.at.generation ∙ ap (λ (v : Cell). v.generation) cells ∙ sym stands.same;
          spent = h.spent;
          planted = h.planted;
          identity = h.identity;
          lives = (let P : Seat → Type 0 = λ s. TellsLives (tell d).lives s.lives in subst P (sym (seat_now (kind_place x.kind) x.index)) h.at.lives);
        }

    -- the objects that are doomed then are it and those that were
    doomed_out : (k' : Kept) → ((a b o : ℕ) → IsAway k a b o → IsAway k' a b o) → IsAway k' (kind_place x.kind) x.index x.id
        → (b : Bool) (z y : Object) → IsIn z (state_of log.history).objects → has_id o z ≡ b → y ≡ (if b then with_change ToDoomed z else z) → is_doomed y.phase ≡ true → IsAway k' (kind_place y.kind) y.index y.id
    doomed_out k' moves away true z y i is gives d =
        let P : Object → Type 0 = λ v. IsAway k' (kind_place v.kind) v.index v.id in
        let same : x ≡ z = same_Some x z (sym there ∙ ap (object_with (state_of log.history)) (sym (eqb-true z.id o is)) ∙ object_is (state_of log.history) z (Reached-state_of log.history t.legal) i) in
        subst P (sym gives) (subst P same away)
    doomed_out k' moves away false z y i is gives d =
        let P : Object → Type 0 = λ v. IsAway k' (kind_place v.kind) v.index v.id in
        subst P (sym gives) (moves (kind_place z.kind) z.index z.id (t.handed z i (ap (λ (v : Object). is_doomed v.phase) (sym gives) ∙ d)))

    handed_now : (k' : Kept) → ((a b o : ℕ) → IsAway k a b o → IsAway k' a b o) → IsAway k' (kind_place x.kind) x.index x.id
        → (after (state_of log.history) e).objects ≡ map (on_object o ToDoomed) (state_of log.history).objects → AreHandedOut k' (state_of log'.history).objects
    handed_now k' moves away objects y i d =
        let now : (state_of log'.history).objects ≡ map (on_object o ToDoomed) (state_of log.history).objects = ap (λ (s : State). s.objects) (ap state_of more ∙ state_goes_on log.history e) ∙ objects in
        let P : List Object → Type 0 = λ v. IsIn y v in
        let from = IsIn-map (on_object o ToDoomed) y (state_of log.history).objects (subst P now i) in
        doomed_out k' moves away (has_id o from.item) from.item y from.within refl from.gives d

    pub taken_tied : (k' : Kept) (held' : List (Option D)) → held' ≡ at_place held (seat_place (kind_place x.kind) x.index) (put_slot None)
        → ((a b o : ℕ) → IsAway k a b o → IsAway k' a b o) → IsAway k' (kind_place x.kind) x.index x.id
        → k'.history ≡ log'.history → IsLegal log'.history → sum k'.spares ≤ log'.spare → length k'.outs ≡ length k.outs → length k'.kills ≡ length k.kills
        → ((c : ℕ) (out : Out) → out_of k' c ≡ Some out → HasOut (state_of log'.history) c out)
        → ((b : ℕ) (out : Out) → kill_of k' b ≡ Some out → HasKill (state_of log'.history) b out)
        → (after (state_of log.history) e).objects ≡ map (on_object o ToDoomed) (state_of log.history).objects
        → IsTied tell log' k' pools held'
    taken_tied k' held' takes moves away history legal covered outs_long kills_long outs kills objects =
        let m = state_of log.history in
        let a = kind_place x.kind in
        let b = x.index in
        let now : state_of log'.history ≡ after m e = ap state_of more ∙ state_goes_on log.history e in
        let same = seats_after m e (Reached-state_of log.history t.legal) allowed leaves in
        let slot = held_there tell log k pools held t x stands.low in
        let gone : slot_of (slice_get held' (seat_place a b)) ≡ None = ap (λ v. slot_of (slice_get v (seat_place a b))) takes ∙ slot_here held (seat_place a b) None slot.item slot.is in
        let P : Option D → Type 0 = λ v. IsHeldOrAway k' (option_map tell v) a b (seat_of log'.history a b) (known_in (lives_in log.history (kind_place x.kind) x.index) x) in
        let holder : (seat_of log'.history a b).holder ≡ Some (known_in (lives_in log.history (kind_place x.kind) x.index) x) = ap (λ (s : Seat). s.holder) (seat_now a b) ∙ stands.holder in
        tied_by tell log log' k k' pools pools held held' a b t
        (record {
          seats = λ i j apart. seat_now i j;
          pooled = λ i j apart. refl;
          planted = λ i j low apart. ap (λ v. slot_of (slice_get v (seat_place i j))) takes ∙ slot_other held (seat_place a b) (seat_place i j) None (λ e'. place_apart a b i j stands.low low (λ y z. apart (sym y) (sym z)) e');
          away = λ i j o' apart w. moves i j o' w;
        })
        (placed_some k' _ _ a b (seat_of log'.history a b) (known_in (lives_in log.history (kind_place x.kind) x.index) x) holder parts.0 (subst P (sym gone) away))
        history legal covered
        (ap (λ v. length v) takes ∙ length-at_place held (seat_place a b) (put_slot None)) refl outs_long kills_long
        (λ i pool is. (let Q : List Pool → Type 0 = λ v. IsPoolFor i (slice_get v i) pool in subst Q (sym (ap (λ (s : State). s.pools) now ∙ same.pools)) (t.pools_are i pool is)))
        outs kills (handed_now k' moves away objects)

-- The object that goes out.

doomed_for : (b : Bool) (u : Ids) (x : Object) → IsFor (out_for u x) (if b then with_change ToDoomed x else x)
doomed_for true u x = record { id = refl; kind = refl; request = refl; index = refl; generation = refl }
doomed_for false u x = record { id = refl; kind = refl; request = refl; index = refl; generation = refl }

doomed_file : (b : Bool) (x : Object) → (if b then with_change ToDoomed x else x).file ≡ x.file
doomed_file true x = refl
doomed_file false x = refl

live_doomed : (p : Phase) → is_live p ≡ true → is_doomed (doomed_from p) ≡ true
live_doomed phase.Made e = absurd cc
live_doomed phase.Live e = refl
live_doomed phase.Doomed e = absurd cc
live_doomed phase.Husk e = absurd cc

pub torn_is : (b : ℕ) (p : FilePhase) → is_torn_by b p ≡ true → p ≡ file.Tearing b
torn_is b file.Fresh e = absurd cc
torn_is b file.Open e = absurd cc
torn_is b (file.Tearing by) e = ap (λ (v : ℕ). file.Tearing v) (eqb-true by b e)
torn_is b file.Dissociated e = absurd cc
torn_is b file.Closed e = absurd cc

module _ (m : State) (o : ℕ) (x : Object) (u : Ids) (there : object_with m o ≡ Some x) (live : is_live x.phase ≡ true) where
  doomed_there : find (has_id o) (map (on_object o ToDoomed) m.objects) ≡ Some (on_object o ToDoomed x)
  doomed_there = find-map (has_id o) (on_object o ToDoomed) m.objects (λ y k. ap (λ n. n == o) (on_object-id o ToDoomed y)) ∙ ap (option_map (on_object o ToDoomed)) there

  doomed_now : is_doomed (on_object o ToDoomed x).phase ≡ true
  doomed_now = ap (λ b. is_doomed (if b then with_change ToDoomed x else x).phase) (Passes-find (has_id o) x m.objects there).test ∙ live_doomed x.phase live

  pub killed_out : (by : ℕ) → Allowed m (Kill o) → torn_by_object m by (object_with m o) ≡ true → HasKill (after m (Kill o)) by (out_for u x)
  killed_out by allowed torn =
      let may : may_kill_object m o (Some x) ≡ true = ap (may_kill_object m o) (sym there) ∙ allowed in
      let swept = (and_parts (may_sweep m x.file) (not (has_doomed m x.file) && is_object o (newest_free m x.file)) may).0 in
      let quiet = (and_parts (is_tearing (phase_of m x.file)) (is_quiet m x.file) swept).1 in
      let file = doomed_file (has_id o x) x in
      let by_it : is_torn_by by (phase_of m x.file) ≡ true = ap (torn_by_object m by) (sym there) ∙ torn in
      let id : x.id ≡ o = eqb-true x.id o (Passes-find (has_id o) x m.objects there).test in
      record {
        item = on_object o ToDoomed x;
        there = ap (λ n. find (has_id n) (map (on_object o ToDoomed) m.objects)) id ∙ doomed_there;
        same = doomed_for (has_id o x) u x;
        phase = doomed_now;
        torn = ap (phase_of m) file ∙ torn_is by (phase_of m x.file) by_it;
        quiet = ap (is_quiet m) file ∙ quiet;
      }

  -- what a check leaves of its call
  pub checked_out : (r : Reached m) (c : ℕ) → Allowed m (Step c Check o None answer.Ok) → HasOut (after m (Step c Check o None answer.Ok)) c (out_for u x)
  checked_out r c allowed =
      let t = IsTurn-allowed m c Check o None answer.Ok allowed in
      let plan = in_plan t.call Check t.word refl in
      let j = moved_on t.call in
      let s = stands_in_plan t.call Check plan in
      let next = next_place-in_plan t.call Check plan in
      let P : Role → Type 0 = λ v. slice_get (plan_of v (looks_in t.call)) j.place ≡ Some Finish in
      let word : next_word j ≡ Finish = next_word-planned j Finish plan.fine (subst P (sym s.destroys) (finishes_next s.asked (looks_in t.call) j.place (omega (arith, next, s.at)))) in
      let id : x.id ≡ o = eqb-true x.id o (Passes-find (has_id o) x m.objects there).test in
      let now : after m (Step c Check o None answer.Ok) ≡ check m c o = ap (λ slot. after_step m c slot Check o answer.Ok) t.is in
      let own : t.call.locked ≡ Some x.id = owns_at_check m r c t.call t.is plan ∙ ap (λ (v : ℕ). Some v) (t.object ∙ sym id) in
      let Q : State → Type 0 = λ v. HasOut v c (out_for u x) in
      subst Q (sym now)
      (record {
        call = j;
        is = call_of-changed m (check m c o) c (option_map moved_on) t.call refl t.is;
        locked = own;
        word = ap is_giving word;
        item = on_object o ToDoomed x;
        there = ap (λ n. find (has_id n) (map (on_object o ToDoomed) m.objects)) id ∙ doomed_there;
        same = doomed_for (has_id o x) u x;
        phase = inr doomed_now;
      })

-- The whole of each.

put_by : (k k' : Option Out) (a : ℕ) (new : Option Out) → OutCase k k' a a new → k' ≡ new
put_by k k' a new (IsThis mine now) = now
put_by k k' a new (IsThat other now) = absurd (other refl)

pub still_kill : (k k' : Kept) (by actor : ℕ) (out : Out) (new : Option Out) → kill_of k actor ≡ Some out → OutCase (kill_of k actor) (kill_of k' actor) by actor new → (by ≡ actor → ⊥) → (out_of k' actor ≡ Some out) ⊎ (kill_of k' actor ≡ Some out)
still_kill k k' by actor out new e (IsThis mine now) apart = absurd (apart mine)
still_kill k k' by actor out new e (IsThat other now) apart = inr (now ∙ e)

pub actor_place : (c : ℕ) (outs : List (Option Out)) → IsActor c → length outs ≡ ACTOR_PLACES → HasAt outs c
actor_place c outs actor long = has_at outs c (omega (arith, actor.1, long))

-- what an actor was given is what it has out
pub in_hand : (outs outs' : List (Option Out)) (c : ℕ) (out : Out) → IsActor c → length outs ≡ ACTOR_PLACES → outs' ≡ at_place outs c (put_out (Some out)) → the_out (slice_get outs' c) ≡ Some out
in_hand outs outs' c out actor long now =
    let slot = actor_place c outs actor long in
    ap (λ v. the_out (slice_get v c)) now ∙ ap the_out (slice_get-at_place_same outs c (put_out (Some out)) ∙ ap (option_map (put_out (Some out))) slot.is)

module _ {D : Type 0} (tell : D → DeedFacts) (log log' : Logged) (k k' : Kept) (pools : List (Homes D)) (held held' : List (Option D)) (t : IsTied tell log k pools held)
    (x : Object) (u : Ids) (o : ℕ) (there : object_with (state_of log.history) o ≡ Some x) (live : is_live x.phase ≡ true)
    (takes : held' ≡ at_place held (seat_place (kind_place x.kind) x.index) (put_slot None))
    (legal : IsLegal log'.history) (history : k'.history ≡ log'.history) (covered : sum k'.spares ≤ log'.spare) where
  id_here : x.id ≡ o
  id_here = eqb-true x.id o (Passes-find (has_id o) x (state_of log.history).objects there).test

  module _ (c : ℕ) (allowed : Allowed (state_of log.history) (Step c Check o None answer.Ok)) (none : out_of k c ≡ None)
      (more : log'.history ≡ log.history ++ Step c Check o None answer.Ok ∷ []) (outs : k'.outs ≡ at_place k.outs c (put_out (Some (out_for u x)))) (kills : k'.kills ≡ k.kills) where
    slot_c : HasAt k.outs c
    slot_c = actor_place c k.outs allowed.0 t.outs_size

    case_c : (a : ℕ) → OutCase (out_of k a) (out_of k' a) c a (Some (out_for u x))
    case_c a = out_case k.outs k'.outs c a (Some (out_for u x)) slot_c.item outs slot_c.is

    moves_c : (a b o' : ℕ) → IsAway k a b o' → IsAway k' a b o'
    moves_c a b o' w = record {
      actor = w.actor;
      out = w.out;
      named = ⊎_elim (λ e. still k k' c w.actor w.out (Some (out_for u x)) e (case_c w.actor) (λ mine. none-some w.out (sym none ∙ ap (out_of k) mine ∙ e))) (λ e. inr (ap (λ v. the_out (slice_get v w.actor)) kills ∙ e)) w.named;
      kind = w.kind;
      index = w.index;
      object = w.object;
    }

    away_c : IsAway k' (kind_place x.kind) x.index x.id
    away_c = record { actor = c; out = out_for u x; named = inl (put_by (out_of k c) (out_of k' c) c (Some (out_for u x)) (case_c c)); kind = refl; index = refl; object = refl }

    outs_c : (a : ℕ) (out : Out) → out_of k' a ≡ Some out → OutCase (out_of k a) (out_of k' a) c a (Some (out_for u x)) → HasOut (after (state_of log.history) (Step c Check o None answer.Ok)) a out
    outs_c a out is (IsThis mine now) =
        let one : out_for u x ≡ out = same_Some (out_for u x) out (sym now ∙ is) in
        let P : ℕ → Type 0 = λ v. HasOut (after (state_of log.history) (Step c Check o None answer.Ok)) v out in
        let Q : Out → Type 0 = λ v. HasOut (after (state_of log.history) (Step c Check o None answer.Ok)) c v in
        subst P mine (subst Q one (checked_out (state_of log.history) o x u there live (Reached-state_of log.history t.legal) c allowed))
    outs_c a out is (IsThat other now) =
        HasOut-after (state_of log.history) (Step c Check o None answer.Ok) a out (Reached-state_of log.history t.legal) allowed (ne_eqb c a other) (t.outs a out (sym now ∙ is))

    pub check_tied : IsTied tell log' k' pools held'
    check_tied =
        taken_tied tell log k pools held t x o there live (Step c Check o None answer.Ok) allowed tt log' more k' held' takes moves_c away_c history legal covered
        (ap (λ v. length v) outs ∙ length-at_place k.outs c (put_out (Some (out_for u x)))) (ap (λ v. length v) kills)
        (λ a out is. out_now log.history log'.history (Step c Check o None answer.Ok) a out more (outs_c a out is (case_c a)))
        (λ b out is. kill_now log.history log'.history (Step c Check o None answer.Ok) b out more
        (HasKill-after (state_of log.history) (Step c Check o None answer.Ok) b out (Reached-state_of log.history t.legal) allowed refl (t.kills b out (sym (ap (λ v. the_out (slice_get v b)) kills) ∙ is))))
        (ap (λ slot. (after_step (state_of log.history) c slot Check o answer.Ok).objects) (IsTurn-allowed (state_of log.history) c Check o None answer.Ok allowed).is)

  module _ (by : ℕ) (actor : IsActor by) (allowed : Allowed (state_of log.history) (Kill o)) (torn : torn_by_object (state_of log.history) by (object_with (state_of log.history) o) ≡ true) (none : kill_of k by ≡ None)
      (more : log'.history ≡ log.history ++ Kill o ∷ []) (kills : k'.kills ≡ at_place k.kills by (put_out (Some (out_for u x)))) (outs : k'.outs ≡ k.outs) where
    slot_b : HasAt k.kills by
    slot_b = actor_place by k.kills actor t.kills_size

    case_b : (a : ℕ) → OutCase (kill_of k a) (kill_of k' a) by a (Some (out_for u x))
    case_b a = out_case k.kills k'.kills by a (Some (out_for u x)) slot_b.item kills slot_b.is

    moves_b : (a b o' : ℕ) → IsAway k a b o' → IsAway k' a b o'
    moves_b a b o' w = record {
      actor = w.actor;
      out = w.out;
      named = ⊎_elim (λ e. inl (ap (λ v. the_out (slice_get v w.actor)) outs ∙ e)) (λ e. still_kill k k' by w.actor w.out (Some (out_for u x)) e (case_b w.actor) (λ mine. none-some w.out (sym none ∙ ap (kill_of k) mine ∙ e))) w.named;
      kind = w.kind;
      index = w.index;
      object = w.object;
    }

    away_b : IsAway k' (kind_place x.kind) x.index x.id
    away_b = record { actor = by; out = out_for u x; named = inr (put_by (kill_of k by) (kill_of k' by) by (Some (out_for u x)) (case_b by)); kind = refl; index = refl; object = refl }

    kills_b : (a : ℕ) (out : Out) → kill_of k' a ≡ Some out → OutCase (kill_of k a) (kill_of k' a) by a (Some (out_for u x)) → HasKill (after (state_of log.history) (Kill o)) a out
    kills_b a out is (IsThis mine now) =
        let one : out_for u x ≡ out = same_Some (out_for u x) out (sym now ∙ is) in
        let P : ℕ → Type 0 = λ v. HasKill (after (state_of log.history) (Kill o)) v out in
        let Q : Out → Type 0 = λ v. HasKill (after (state_of log.history) (Kill o)) by v in
        subst P mine (subst Q one (killed_out (state_of log.history) o x u there live by allowed torn))
    kills_b a out is (IsThat other now) =
        HasKill-after (state_of log.history) (Kill o) a out (Reached-state_of log.history t.legal) allowed refl (t.kills a out (sym now ∙ is))

    pub kill_tied : IsTied tell log' k' pools held'
    kill_tied =
        taken_tied tell log k pools held t x o there live (Kill o) allowed tt log' more k' held' takes moves_b away_b history legal covered
        (ap (λ v. length v) outs) (ap (λ v. length v) kills ∙ length-at_place k.kills by (put_out (Some (out_for u x))))
        (λ a out is. out_now log.history log'.history (Kill o) a out more
        (HasOut-after (state_of log.history) (Kill o) a out (Reached-state_of log.history t.legal) allowed refl (t.outs a out (sym (ap (λ v. the_out (slice_get v a)) outs) ∙ is))))
        (λ b out is. kill_now log.history log'.history (Kill o) b out more (kills_b b out is (case_b b)))
        refl

live_found : (m : State) (o : ℕ) (x : Object) → Reached m → object_with m o ≡ Some x → (slot : Option Object) → newest_free m x.file ≡ slot → is_object o slot ≡ true → is_live x.phase ≡ true
live_found m o x r there None e h = absurd cc
live_found m o x r there (Some y) e h =
    let p = Passes-find (can_go m x.file) y (reverse m.objects) e in
    let k = IsIn-from_reverse y m.objects p.within in
    let can = and_parts (in_file x.file y) (is_live y.phase && not (has_users m y.id)) p.test in
    let id : y.id ≡ o = eqb-true y.id o h in
    let one : x ≡ y = same_Some x y (sym there ∙ ap (object_with m) (sym id) ∙ object_is m y r k) in
    ap (λ (v : Object). is_live v.phase) one ∙ (and_parts (is_live y.phase) (not (has_users m y.id)) can.1).0

-- a live object, by its test
pub live_object : (slot : Option Object) (x : Object) → slot ≡ Some x → is_live_object slot ≡ true → is_live x.phase ≡ true
live_object slot x e live = ap is_live_object (sym e) ∙ live

-- what is killed is live
pub killed_live : (m : State) (o : ℕ) (x : Object) → Reached m → object_with m o ≡ Some x → Allowed m (Kill o) → is_live x.phase ≡ true
killed_live m o x r there allowed =
    let may : may_kill_object m o (Some x) ≡ true = ap (may_kill_object m o) (sym there) ∙ allowed in
    let first = (and_parts (may_sweep m x.file) (not (has_doomed m x.file) && is_object o (newest_free m x.file)) may).1 in
    let found = (and_parts (not (has_doomed m x.file)) (is_object o (newest_free m x.file)) first).1 in
    live_found m o x r there (newest_free m x.file) refl found

torn_some : (m : State) (by : ℕ) (slot : Option Object) → TornWell m → torn_by_object m by slot ≡ true → IsActor by
torn_some m by None t e = absurd cc
torn_some m by (Some x) t e = t x.file by (torn_is by (phase_of m x.file) e)

-- who tears a file down is an actor
pub torn_actor : (h : List Entry) (by o : ℕ) → IsLegal h → torn_by_object (state_of h) by (object_with (state_of h) o) ≡ true → IsActor by
torn_actor h by o legal torn = torn_some (state_of h) by (object_with (state_of h) o) (legal_torn h legal) torn
