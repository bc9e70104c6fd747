-- What was taken comes back, with what an action left of it.
use Rattle.std.proofs.Common.{◌≡◌, ◌+◌, ◌∙◌, ℕ, Bool, true, false, List, [], ◌∷◌, Option, None, Some, map, length, refl, sym, ap, subst, arith}
use Rattle.std.specs.FinMap as map
use Rattle.std.specs.Prelude.{◌==◌, is_some, option_map, sum_by, if◌then◌else◌}
use Rattle.std.proofs.lemmas.List.{length-map}
use Rattle.std.proofs.lemmas.List.Sums.{sum_by-cons}
use Rattle.uv_num.specs.declared.kind.Kind.{Kind}
use Rattle.uv_num.specs.declared.kind.Kind.TheVariants as kind
use Rattle.uv_queue.specs.Queued.{Queued}
use Rattle.uv_wr.specs.declared.completion.Completion.{Completion}
use Rattle.uv_wr.specs.Works.{Receiving}
use Rattle.uv_qp.specs.Pairs.{Paired}
use Rattle.uv_region.specs.GoingOn.{GoesOnAt, LentGoesOn}
use Rattle.uv_region.specs.Lent as region
use Rattle.uv_region.specs.Lent.{ReachedRegion}
use Rattle.uv_region.specs.Registered.{Registered}
use Rattle.uv_engine.specs.declared.acting.Did.{Did}
use Rattle.uv_engine.specs.declared.acting.Did.TheVariants as did
use Rattle.uv_engine.specs.declared.lent.CqLent.{CqLent}
use Rattle.uv_engine.specs.declared.lent.Lent.{Lent}
use Rattle.uv_engine.specs.Acting.{ActionGives, ActionMade, IsUntouched}
use Rattle.uv_engine.specs.GoingOn.{ActionGoesOn, ChannelGoesOn, CqGoesOn, ReceiveGoesOn, SharedGoesOn}
use Rattle.uv_engine.specs.Ringing.{LentChannel}
use Rattle.uv_world.specs.declared.cells.Cell.{Cell}
use Rattle.uv_world.specs.declared.content.Belled.{Belled}
use Rattle.uv_world.specs.declared.content.Connected.{Connected}
use Rattle.uv_world.specs.declared.content.Shared.{Shared}
use Rattle.uv_world.specs.declared.content.Windowed.{Windowed}
use Rattle.uv_world.specs.declared.contents.Contents.{Contents}
use Rattle.uv_world.specs.declared.taking.PairPlaces.{PairPlaces}
use Rattle.uv_world.specs.declared.taking.SetAside.{SetAside}
use Rattle.uv_world.specs.Acting.{DoneGives, StaysHeld, TaskGives, action_for}
use Rattle.uv_world.specs.Celled.{cells_changed, cells_filled, cells_emptied, cells_filled_if, value_if, value_of_cell}
use Rattle.uv_world.specs.Fitting.{outline, outlines, something}
use Rattle.uv_world.specs.Holdings.{Held, held_of}
use Rattle.uv_world.specs.Lending.{AreDifferent, SameKeys, lend_all, nothing_lent}
use Rattle.uv_world.specs.Named.{SameCells}
use Rattle.uv_world.specs.Owing.{IsHoused, counts_cell, counts_value, full_cells}
use Rattle.uv_world.specs.Returning.{cells_with, events_with, held_with_lent, pair_with, queue_with, regions_with, works_with}
use Rattle.uv_world.specs.Setting.{AreTaken, aside_of, belled_back, connected_back, contents_given, contents_without, queue_left, shared_back}
use Rattle.uv_world.specs.Taking.{AreReadyPlaces, PairTask, ReadyPair, keys_for, keys_lent, lent_to, own_channel, own_place, own_queue, places_of_pair, ready_at, shared_place, works_lent, works_of}
use Rattle.uv_world.proofs.Readied.{IsReadied, channel_apart, channel_live, own_apart, own_live, readied, shared_live, works_with_pair}
use Rattle.uv_world.proofs.Refilling.{GoesBack, IsAsHeld, back_if, back_two, changed_same, refilled, same_with, with_outlines}
use Rattle.uv_world.proofs.Returns.{known_back, lent_back_whole, outlines_back}

-- What each thing becomes.

queue_goes_back : (told : List Completion) (old new : CqLent) → CqGoesOn told old new → belled_back new ≡ queue_with new (belled_back old)
queue_goes_back told old new goes = ap (λ (channel : Option ℕ). (let q : Belled = record { ring = new.ring; channel = channel } in q)) goes.channel

send_back : (told : List Completion) (rings : List (Cell Belled)) (old new : CqLent) → value_of_cell rings old.cell ≡ Some (belled_back old) → CqGoesOn told old new → GoesBack queue_with (value_of_cell rings old.cell) (Some new) (Some (belled_back new))
send_back told rings old new stands goes =
    let P : Option Belled → Type 0 = λ o. GoesBack queue_with o (Some new) (Some (belled_back new)) in
    subst P (sym stands) (ap Some (queue_goes_back told old new goes))

receive_back_to : (told : List Completion) (old : CqLent) (new : Option CqLent) → ReceiveGoesOn told (Some old) new → GoesBack queue_with (Some (belled_back old)) new (option_map belled_back new)
receive_back_to told old None goes = absurd goes
receive_back_to told old (Some new) goes = ap Some (queue_goes_back _ old new goes)

receive_back : (told : List Completion) (rings : List (Cell Belled)) (old : CqLent) (b : Bool) (new : Option CqLent) → value_of_cell rings old.cell ≡ Some (belled_back old) → ReceiveGoesOn told (if b then None else Some old) new
    → GoesBack queue_with (value_if rings (if b then None else Some old.cell)) new (option_map belled_back new)
receive_back told rings old true new stands goes = tt
receive_back told rings old false new stands goes =
    let P : Option Belled → Type 0 = λ o. GoesBack queue_with o new (option_map belled_back new) in
    subst P (sym stands) (receive_back_to told old new goes)

channel_back : (old new : LentChannel) → ChannelGoesOn old new → GoesBack events_with old new new
channel_back None new goes = tt
channel_back (Some old) None goes = absurd goes
channel_back (Some old) (Some new) goes = refl

shared_goes_back : (old : Option Shared) (new : Option (Queued Receiving)) → SharedGoesOn (option_map works_of old) new → GoesBack works_with old new (shared_back new (option_map queue_left old))
shared_goes_back None new goes = tt
shared_goes_back (Some old) None goes = absurd goes
shared_goes_back (Some old) (Some new) goes = refl

-- All of it.

held_same :
    (h : Held) (regions regions' : List (Cell Registered)) (rings rings' : List (Cell Belled)) (channels channels' : List (Cell (List ℕ))) (shared shared' : List (Cell Shared)) (pairs pairs' : List (Cell Connected))
    → regions ≡ regions' → rings ≡ rings' → channels ≡ channels' → shared ≡ shared' → pairs ≡ pairs' → (
    let a : Held = record h { regions = regions; rings = rings; channels = channels; shared = shared; pairs = pairs } in
    let b : Held = record h { regions = regions'; rings = rings'; channels = channels'; shared = shared'; pairs = pairs' } in
    a ≡ b
    )
held_same h regions regions' rings rings' channels channels' shared shared' pairs pairs' a b c d e = cc

-- the contents after taking, lending and giving back
abbrev pub contents_back : Contents → ReadyPair → List ℕ → Lent → Contents
contents_back c r keys left =
    contents_given (record (contents_without c (places_of_pair r)) { regions = (lend_all c.windows (nothing_lent c.regions) keys).regions }) (places_of_pair r) left (aside_of (held_of c) r) keys

pub given_back : (c : Contents) (device : Option ℕ) (r : ReadyPair) (keys : List ℕ) (left : Lent) → IsReadied (held_of c) r.at device r → ActionGoesOn (lent_to (held_of c) r keys) left → held_of (contents_back c r keys left) ≡ held_with_lent (held_of c) r keys left
given_back c device r keys left known goes =
    let h = held_of c in
    held_same h _ _ _ _ _ _ _ _ _ _ refl
    (back_two h.rings (Some r.send.cell) (own_place r) queue_with (Some left.send) left.receive (Some (belled_back left.send)) (option_map belled_back left.receive) (own_apart r) (ap is_some known.send.stands) (own_live h r.at device r known)
    (send_back _ h.rings r.send left.send known.send.stands goes.rings.send) (receive_back goes.told h.rings r.receive (r.send.cell == r.receive.cell) left.receive known.receive.stands goes.rings.receive))
    (back_two h.channels r.send.channel (own_channel r) events_with left.send_channel left.receive_channel left.send_channel left.receive_channel (channel_apart r) known.send.told (channel_live h r.at device r known)
    (channel_back _ left.send_channel goes.rings.send_channel) (channel_back _ left.receive_channel goes.rings.receive_channel))
    (back_if h.shared (shared_place r.pair) works_with left.srq _ (shared_live h r.at device r known) (shared_goes_back (value_if h.shared (shared_place r.pair)) left.srq goes.shared))
    (refilled h.pairs r.at (pair_with left.qp) r.pair (connected_back left.qp (aside_of h r).links) known.stands refl)

-- The same cells hold something.

goes_on_keys : (qp domain : ℕ) (old new : Option ReachedRegion) → GoesOnAt qp domain old new → is_some new ≡ is_some old
goes_on_keys qp domain None None goes = refl
goes_on_keys qp domain None (Some new) goes = absurd goes
goes_on_keys qp domain (Some old) None goes = absurd goes
goes_on_keys qp domain (Some old) (Some new) goes = refl

region_outlines : (h : Held) (keys : List ℕ) (qp domain : ℕ) (lent : region.Lent) → AreDifferent keys → LentGoesOn qp domain (lend_all h.windows (nothing_lent h.regions) keys).lent lent → map outline (regions_with h keys lent) ≡ map outline h.regions
region_outlines h keys qp domain lent different goes =
    outlines_back h.windows h.regions keys lent different (λ k. goes_on_keys qp domain (map.get (lend_all h.windows (nothing_lent h.regions) keys).lent k) (map.get lent k) (goes.each k))

lent_outlines : (h : Held) (r : ReadyPair) (keys : List ℕ) (left : Lent) (k : Kind) → AreDifferent keys → ActionGoesOn (lent_to h r keys) left → outlines (held_with_lent h r keys left) k ≡ outlines h k
lent_outlines h r keys left kind.Pd different goes = refl
lent_outlines h r keys left kind.Channel different goes = with_outlines _ (own_channel r) events_with left.receive_channel ∙ with_outlines h.channels r.send.channel events_with left.send_channel
lent_outlines h r keys left kind.Cq different goes = with_outlines _ (own_place r) queue_with left.receive ∙ with_outlines h.rings (Some r.send.cell) queue_with (Some left.send)
lent_outlines h r keys left kind.Qp different goes = with_outlines h.pairs (Some r.at) pair_with (Some left.qp)
lent_outlines h r keys left kind.Srq different goes = with_outlines h.shared (shared_place r.pair) works_with left.srq
lent_outlines h r keys left kind.Ah different goes = refl
lent_outlines h r keys left kind.Mr different goes = region_outlines h keys _ _ left.regions different goes.regions
lent_outlines h r keys left kind.Mw different goes = refl

pub same_with_lent : (h : Held) (r : ReadyPair) (keys : List ℕ) (left : Lent) → AreDifferent keys → ActionGoesOn (lent_to h r keys) left → SameCells h (held_with_lent h r keys left)
same_with_lent h r keys left different goes = record { outlined = λ k. lent_outlines h r keys left k different goes; pending = refl }

-- What comes back as it was lent leaves all as it was, but for regions.

queue_as_held : (rings : List (Cell Belled)) (cq : CqLent) → value_of_cell rings cq.cell ≡ Some (belled_back cq) → IsAsHeld queue_with (value_of_cell rings cq.cell) (Some cq)
queue_as_held rings cq stands =
    let P : Option Belled → Type 0 = λ o. IsAsHeld queue_with o (Some cq) in
    subst P (sym stands) refl

own_as_held : (rings : List (Cell Belled)) (cq : CqLent) (b : Bool) → value_of_cell rings cq.cell ≡ Some (belled_back cq) → IsAsHeld queue_with (value_if rings (if b then None else Some cq.cell)) (if b then None else Some cq)
own_as_held rings cq true stands = tt
own_as_held rings cq false stands = queue_as_held rings cq stands

events_as_held : (o : LentChannel) → IsAsHeld events_with o o
events_as_held None = tt
events_as_held (Some events) = refl

works_as_held : (o : Option Shared) → IsAsHeld works_with o (option_map works_of o)
works_as_held None = tt
works_as_held (Some q) = refl

abbrev pub lent_with : Held → ReadyPair → List ℕ → region.Lent → Lent
lent_with h r keys regions = record (lent_to h r keys) { regions = regions }

abbrev pub held_but_regions : Held → List ℕ → region.Lent → Held
held_but_regions h keys regions = record h { regions = regions_with h keys regions }

back_as_lent : (h : Held) (device : Option ℕ) (r : ReadyPair) (keys : List ℕ) (regions : region.Lent) → IsReadied h r.at device r → held_with_lent h r keys (lent_with h r keys regions) ≡ held_but_regions h keys regions
back_as_lent h device r keys regions known =
    held_same h _ _ _ _ _ _ _ _ _ _ refl
    (ap (λ (rings : List (Cell Belled)). cells_with rings (own_place r) queue_with (own_queue r)) (same_with h.rings (Some r.send.cell) queue_with (Some r.send) (ap is_some known.send.stands) (queue_as_held h.rings r.send known.send.stands))
    ∙ same_with h.rings (own_place r) queue_with (own_queue r) (own_live h r.at device r known) (own_as_held h.rings r.receive (r.send.cell == r.receive.cell) known.receive.stands))
    (ap (λ (channels : List (Cell (List ℕ))). cells_with channels (own_channel r) events_with (value_if h.channels (own_channel r))) (same_with h.channels r.send.channel events_with (value_if h.channels r.send.channel) known.send.told (events_as_held (value_if h.channels r.send.channel)))
    ∙ same_with h.channels (own_channel r) events_with (value_if h.channels (own_channel r)) (channel_live h r.at device r known) (events_as_held (value_if h.channels (own_channel r))))
    (same_with h.shared (shared_place r.pair) works_with (works_lent h r) (shared_live h r.at device r known) (works_as_held (value_if h.shared (shared_place r.pair))))
    (changed_same h.pairs r.at (pair_with r.pair.qp) r.pair known.stands refl)

-- taking and giving back leaves all as it was
pub back_whole : (h : Held) (device : Option ℕ) (r : ReadyPair) (keys : List ℕ) → AreDifferent keys → IsReadied h r.at device r → held_with_lent h r keys (lent_to h r keys) ≡ h
back_whole h device r keys different known =
    back_as_lent h device r keys (lend_all h.windows (nothing_lent h.regions) keys).lent known
    ∙ ap (λ (regions : List (Cell Registered)). (let now : Held = record h { regions = regions } in now)) (lent_back_whole h.windows h.regions keys different)

-- and where the regions have got room alone, nothing that counts has changed
pub back_untouched : (h : Held) (device : Option ℕ) (r : ReadyPair) (keys : List ℕ) (left : Lent) → AreDifferent keys → IsReadied h r.at device r → IsUntouched (lent_to h r keys) left → StaysHeld h (held_with_lent h r keys left)
back_untouched h device r keys left different known same =
    let is : held_with_lent h r keys left ≡ held_but_regions h keys left.regions = ap (held_with_lent h r keys) same.rest_is ∙ back_as_lent h device r keys left.regions known in
    subst (StaysHeld h) (sym is) record { rest_is = refl; regions_stay = known_back h.windows h.regions keys left.regions different same.regions_stay }

-- What was done.

pub done_gives :
    (h : Held) (device : Option ℕ) (r : ReadyPair) (keys : List ℕ) (action : Option ActionMade) (d : Did) (left : Lent) (new : Held) → AreDifferent keys → IsReadied h r.at device r → new ≡ held_with_lent h r keys left
    → ActionGives action (lent_to h r keys) d left → DoneGives h r keys action d new
done_gives h device r keys None (did.Did word frames) left new different known back gives = absurd gives
done_gives h device r keys None did.Idle left new different known back gives = back ∙ (ap (held_with_lent h r keys) gives ∙ back_whole h device r keys different known)
done_gives h device r keys None did.NoMemory left new different known back gives = subst (StaysHeld h) (sym back) (back_untouched h device r keys left different known gives)
done_gives h device r keys (Some m) (did.Did word frames) left new different known back gives = record { word_is = gives.word_is; frames_are = gives.frames_are; held_is = back ∙ ap (held_with_lent h r keys) gives.lent_is }
done_gives h device r keys (Some m) did.Idle left new different known back gives = absurd gives
done_gives h device r keys (Some m) did.NoMemory left new different known back gives = subst (StaysHeld h) (sym back) (back_untouched h device r keys left different known gives)

-- Counts.

counted : {T : Type 0} (v : Option T) → counts_value (option_map something v) ≡ counts_value v
counted None = refl
counted (Some x) = refl

full_outlined : {T : Type 0} (cells : List (Cell T)) → full_cells (map outline cells) ≡ full_cells cells
full_outlined [] = refl
full_outlined (c ∷ cs) =
    let here : counts_cell (outline c) ≡ counts_cell c = counted c.value in
    let rest : full_cells (map outline cs) ≡ full_cells cs = full_outlined cs in
    omega (arith, sum_by-cons counts_cell (outline c) (map outline cs), sum_by-cons counts_cell c cs, here, rest)

-- as many cells hold something
pub full_same : {T : Type 0} (a b : List (Cell T)) → map outline a ≡ map outline b → full_cells a ≡ full_cells b
full_same a b same = sym (full_outlined a) ∙ (ap full_cells same ∙ full_outlined b)

-- From taking to giving back.

pub record IsActed (c : Contents) (r : ReadyPair) (task : PairTask) (d : Did) (new : Contents) : Type 0 where
  pub gives : TaskGives (held_of c) r task d (held_of new)
  pub cells : SameCells (held_of c) (held_of new)
  pub housed : IsHoused c → IsHoused new

housed_back : (c new : Contents) (r : ReadyPair) (keys : List ℕ) (left : Lent) → new ≡ contents_back c r keys left → SameCells (held_of c) (held_of (contents_back c r keys left)) → IsHoused c → IsHoused new
housed_back c new r keys left is same housed =
    let back = contents_back c r keys left in
    let regions : full_cells back.regions ≡ full_cells c.regions = full_same back.regions c.regions (same.outlined kind.Mr) in
    let pairs : full_cells back.pairs ≡ full_cells c.pairs = full_same back.pairs c.pairs (same.outlined kind.Qp) in
    let shared : full_cells back.shared ≡ full_cells c.shared = full_same back.shared c.shared (same.outlined kind.Srq) in
    subst IsHoused (sym is) record {
      journal_room = omega (arith, regions, housed.journal_room);
      list_room = omega (arith, pairs, shared, housed.list_room);
      pairs = sym (length-map back.pairs outline) ∙ (ap length (same.outlined kind.Qp) ∙ (length-map c.pairs outline ∙ housed.pairs));
      unused = housed.unused;
      journals = housed.journals;
      queues = housed.queues;
    }

pub acted_there :
    (c : Contents) (x : PairPlaces) (device : Option ℕ) (r : ReadyPair) (task : PairTask) (lent used left : Lent) (aside : SetAside) (keys : List ℕ) (d : Did) (cells : List (Cell Registered)) (new : Contents)
    → ready_at (held_of c) x.pair device ≡ Some r → x ≡ places_of_pair r → AreTaken (held_of c) x lent aside → keys ≡ keys_for task lent.qp lent.srq → AreDifferent keys
    → used ≡ record lent { regions = (lend_all c.windows (nothing_lent c.regions) keys).lent } → cells ≡ (lend_all c.windows (nothing_lent c.regions) keys).regions
    → ActionGives (action_for task used) used d left → ActionGoesOn used left → new ≡ contents_given (record (contents_without c x) { regions = cells }) x left aside keys → IsActed c r task d new
acted_there c x device r task lent used left aside keys d cells new found places taken keys_are different used_is cells_are gives goes new_is =
    let h : Held = held_of c in
    let found_here : ready_at h r.at device ≡ Some r = ap (λ (y : PairPlaces). ready_at h y.pair device) (sym places) ∙ found in
    let known = readied h r.at device r found_here in
    let t = taken device r found places in
    let wanted : keys ≡ keys_lent h r task = keys_are ∙ ap (λ (l : Lent). keys_for task l.qp l.srq) t.0 in
    let as_lent : used ≡ lent_to h r keys = used_is ∙ ap (λ (l : Lent). (let now : Lent = record l { regions = (lend_all c.windows (nothing_lent c.regions) keys).lent } in now)) t.0 in
    let back : new ≡ contents_back c r keys left =
    new_is
    ∙ (ap (λ (v : List (Cell Registered)). contents_given (record (contents_without c x) { regions = v }) x left aside keys) cells_are
    ∙ (ap (λ (y : PairPlaces). contents_given (record (contents_without c y) { regions = (lend_all c.windows (nothing_lent c.regions) keys).regions }) y left aside keys) places
    ∙ ap (λ (s : SetAside). contents_given (record (contents_without c (places_of_pair r)) { regions = (lend_all c.windows (nothing_lent c.regions) keys).regions }) (places_of_pair r) left s keys) t.1)) in
    let goes_on : ActionGoesOn (lent_to h r keys) left = subst (λ (l : Lent). ActionGoesOn l left) as_lent goes in
    let given : ActionGives (action_for task (lent_to h r keys)) (lent_to h r keys) d left = subst (λ (l : Lent). ActionGives (action_for task l) l d left) as_lent gives in
    let held_back : held_of (contents_back c r keys left) ≡ held_with_lent h r keys left = given_back c device r keys left known goes_on in
    let held_new : held_of new ≡ held_with_lent h r keys left = ap held_of back ∙ held_back in
    let same : SameCells h (held_with_lent h r keys left) = same_with_lent h r keys left different goes_on in
    record {
      gives = subst (λ (ks : List ℕ). DoneGives h r ks (action_for task (lent_to h r ks)) d (held_of new)) wanted (done_gives h device r keys (action_for task (lent_to h r keys)) d left (held_of new) different known held_new given);
      cells = subst (SameCells h) (sym held_new) same;
      housed = housed_back c new r keys left back (subst (SameCells h) (sym held_back) same);
    }

-- the same, with the contents as they stand after taking
pub acted_from :
    (c s : Contents) (x : PairPlaces) (device : Option ℕ) (r : ReadyPair) (task : PairTask) (lent left : Lent) (lent_regions : region.Lent) (aside : SetAside) (keys : List ℕ) (d : Did) (cells : List (Cell Registered)) (new : Contents)
    → s ≡ contents_without c x → ready_at (held_of c) x.pair device ≡ Some r → x ≡ places_of_pair r → AreTaken (held_of c) x lent aside → keys ≡ keys_for task lent.qp lent.srq → AreDifferent keys
    → lent_regions ≡ (lend_all s.windows (nothing_lent s.regions) keys).lent → cells ≡ (lend_all s.windows (nothing_lent s.regions) keys).regions
    → ActionGives (action_for task (record lent { regions = lent_regions })) (record lent { regions = lent_regions }) d left → ActionGoesOn (record lent { regions = lent_regions }) left
    → new ≡ contents_given (record s { regions = cells }) x left aside keys → IsActed c r task d new
acted_from c s x device r task lent left lent_regions aside keys d cells new without found places taken keys_are different lent_is cells_are gives goes new_is =
    acted_there c x device r task lent (record lent { regions = lent_regions }) left aside keys d cells new found places taken keys_are different
    (ap (λ (m : region.Lent). (let l : Lent = record lent { regions = m } in l)) (lent_is ∙ ap (λ (v : Contents). (lend_all v.windows (nothing_lent v.regions) keys).lent) without))
    (cells_are ∙ ap (λ (v : Contents). (lend_all v.windows (nothing_lent v.regions) keys).regions) without) gives goes
    (new_is ∙ ap (λ (v : Contents). contents_given (record v { regions = cells }) x left aside keys) without)

-- works of a shared receive queue were taken exactly where the pair has one
pub works_taken : (h : Held) (x : PairPlaces) (lent : Lent) (aside : SetAside) → AreReadyPlaces h x → AreTaken h x lent aside → lent.qp.srq ≡ is_some lent.srq
works_taken h x lent aside places taken =
    let same = (taken places.device places.ready places.found places.places).0 in
    ap (λ (l : Lent). l.qp.srq) same
    ∙ (works_with_pair h x.pair places.device places.ready (readied h x.pair places.device places.ready places.found)
    ∙ sym (ap (λ (l : Lent). is_some l.srq) same))
