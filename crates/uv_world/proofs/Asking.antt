-- From what an action did to what is answered.
use Rattle.std.proofs.Common.{◌≡◌, ◌∙◌, ℕ, Bool, true, false, List, [], ◌∷◌, Option, None, Some, refl, sym, ap, subst}
use Rattle.std.specs.Prelude.{◌==◌, ◌||◌, is_none, option_map, if◌then◌else◌}
use Rattle.uv_num.specs.Each.{Each}
use Rattle.uv_num.specs.Ids.{is_number}
use Rattle.uv_packet.specs.declared.fault.PacketFault.{PacketFault}
use Rattle.uv_packet.specs.Packets.{Content}
use Rattle.uv_packet.specs.Reading.{content_at}
use Rattle.uv_packet.specs.Refusal.{packet_of, refusal_of}
use Rattle.uv_engine.specs.declared.acting.Did.{Did}
use Rattle.uv_engine.specs.declared.acting.Did.TheVariants as did
use Rattle.uv_engine.specs.declared.acting.Work.{Work}
use Rattle.uv_engine.specs.Acting.{ActionMade}
use Rattle.uv_engine.specs.Laws.{StandOnce, WantsApart}
use Rattle.uv_engine.specs.Wanting.{is_among, keys_needed, keys_wanted}
use Rattle.uv_engine.specs.declared.wanted.Wants.{Wants}
use Rattle.uv_qp.specs.Pairs.{Paired}
use Rattle.uv_queue.specs.Queued.{Queued}
use Rattle.uv_wr.specs.Works.{Receiving}
use Rattle.uv_world.specs.declared.acting.PacketTried.{PacketTried}
use Rattle.uv_world.specs.declared.acting.PacketTried.TheVariants as tried
use Rattle.uv_world.specs.declared.taking.PairPlaces.{PairPlaces}
use Rattle.uv_world.specs.Acting.{AnswerGives, DoneGives, IsDead, ReadyGives, StaysHeld, TaskGives, action_for}
use Rattle.uv_world.specs.Asking.{ActsAt, AnswersAs}
use Rattle.uv_world.specs.Holdings.{Held}
use Rattle.uv_world.specs.Lending.{AreDifferent}
use Rattle.uv_world.specs.Taking.{AreReadyPlaces, PairTask, ReadyPair, keys_lent, lent_to, places_of_pair, ready_at}
use Rattle.uv_world.proofs.Readied.{readied, some_is}

-- Keys that each stand once are different.

neither : (a b : Bool) → (a || b) ≡ false → (a ≡ false) × (b ≡ false)
neither true b e = absurd cc
neither false b e = (refl, e)

not_among : (key : ℕ) (keys : List ℕ) → is_among keys key ≡ false → Each (λ k. (k == key) ≡ false) keys
not_among key [] e = tt
not_among key (k ∷ keys) e = let both = neither (is_number key k) (is_among keys key) e in (both.0, not_among key keys both.1)

pub different_once : (keys : List ℕ) → StandOnce keys → AreDifferent keys
different_once [] once = tt
different_once (key ∷ keys) once = (not_among key keys once.0, different_once keys once.1)

pub wants_different : WantsApart → (w : Wants) (p : Paired) (packet : Option Content) (shared : Option (Queued Receiving)) → keys_wanted w ≡ keys_needed p packet shared → AreDifferent (keys_wanted w)
wants_different apart w p packet shared is = subst AreDifferent (sym is) (different_once (keys_needed p packet shared) (apart p packet shared).once)

-- The packet of bytes that have no fault.

the_packet : (bytes : List ℕ) (c : Content) (fault : Option PacketFault) → fault ≡ None → (if is_none fault then Some (content_at bytes) else None) ≡ Some c → c ≡ content_at bytes
the_packet bytes c None none e = sym (some_is (content_at bytes) c e)
the_packet bytes c (Some fault) none e = absurd cc

pub packet_is : (bytes : List ℕ) (c : Content) → refusal_of bytes ≡ None → packet_of bytes ≡ Some c → c ≡ content_at bytes
packet_is bytes c none e = the_packet bytes c (refusal_of bytes) none e

pub packet_read : (bytes given : List ℕ) (c : Content) → given ≡ bytes → refusal_of bytes ≡ None → packet_of given ≡ Some c → c ≡ content_at bytes
packet_read bytes given c same none e = packet_is bytes c none (sym (ap packet_of same) ∙ e)

-- Where a queue pair is ready.

pub record FoundPlaces (h : Held) (at : ℕ) (device : Option ℕ) (x : PairPlaces) : Type 0 where
  pub ready : ReadyPair
  pub here : ready_at h at device ≡ Some ready
  pub found : ready_at h x.pair device ≡ Some ready
  pub places : x ≡ places_of_pair ready

found_in : (h : Held) (at : ℕ) (device : Option ℕ) (x : PairPlaces) (o : Option ReadyPair) → ready_at h at device ≡ o → Some x ≡ option_map places_of_pair o → FoundPlaces h at device x
found_in h at device x None is e = absurd cc
found_in h at device x (Some r) is e =
    let same : x ≡ places_of_pair r = some_is x (places_of_pair r) e in
    let cell : x.pair ≡ at = ap (λ (y : PairPlaces). y.pair) same ∙ (readied h at device r is).cell in
    record {
      ready = r;
      here = is;
      found = ap (λ n. ready_at h n device) cell ∙ is;
      places = same;
    }

pub found_places : (h : Held) (at : ℕ) (device : Option ℕ) (x : PairPlaces) → Some x ≡ option_map places_of_pair (ready_at h at device) → FoundPlaces h at device x
found_places h at device x e = found_in h at device x (ready_at h at device) refl e

pub are_places : (h : Held) (at : ℕ) (device : Option ℕ) (x : PairPlaces) → Some x ≡ option_map places_of_pair (ready_at h at device) → AreReadyPlaces h x
are_places h at device x e =
    let f = found_places h at device x e in
    record { device = device; ready = f.ready; found = f.found; places = f.places }

none_found : (o : Option ReadyPair) → None ≡ option_map places_of_pair o → o ≡ None
none_found None e = refl
none_found (Some r) e = absurd cc

-- where it isn't, nothing is done
pub dead_gives : (h : Held) (work : Work) (at : ℕ) (device : Option ℕ) (task : PairTask) → None ≡ option_map places_of_pair (ready_at h at device) → ReadyGives h work (ready_at h at device) task tried.Dead h
dead_gives h work at device task e =
    let P : Option ReadyPair → Type 0 = λ o. ReadyGives h work o task tried.Dead h in
    subst P (sym (none_found (ready_at h at device) e)) (refl, refl)

-- What is answered.

memory_stays : (h : Held) (r : ReadyPair) (keys : List ℕ) (action : Option ActionMade) (new : Held) → DoneGives h r keys action did.NoMemory new → StaysHeld h new
memory_stays h r keys None new gives = gives
memory_stays h r keys (Some m) new gives = gives

pub answered : (h : Held) (work : Work) (r : ReadyPair) (task : PairTask) (d : Did) (answer : PacketTried) (new : Held) → TaskGives h r task d new → AnswersAs d work answer → AnswerGives h work r task answer new
answered h work r task (did.Did word frames) answer new gives e = subst (λ (a : PacketTried). AnswerGives h work r task a new) (sym e) gives
answered h work r task did.Idle answer new gives e = subst (λ (a : PacketTried). AnswerGives h work r task a new) (sym e) gives
answered h work r task did.NoMemory answer new gives e =
    subst (λ (a : PacketTried). AnswerGives h work r task a new) (sym e) (refl, memory_stays h r (keys_lent h r task) (action_for task (lent_to h r (keys_lent h r task))) new gives)

-- an action at places that were found
pub ready_gives :
    (h : Held) (work : Work) (at : ℕ) (device : Option ℕ) (task : PairTask) (x : PairPlaces) (answer : PacketTried) (new : Held) → Some x ≡ option_map places_of_pair (ready_at h at device)
    → ((r : ReadyPair) → ready_at h x.pair device ≡ Some r → x ≡ places_of_pair r → AnswerGives h work r task answer new) → ReadyGives h work (ready_at h at device) task answer new
ready_gives h work at device task x answer new e gives =
    let f = found_places h at device x e in
    let P : Option ReadyPair → Type 0 = λ o. ReadyGives h work o task answer new in
    subst P (sym f.here) (gives f.ready f.found f.places)
