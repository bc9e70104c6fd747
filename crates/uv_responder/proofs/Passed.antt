-- What a packet has passed that came as far as a row.
use Rattle.std.proofs.Common.{◌≡◌, Bool, true, false, ◌&&◌, not, Option, length, refl, ◌∙◌, ap}
use Rattle.std.specs.Prelude.{is_none, is_some, ◌==◌, if◌then◌else◌}
use Rattle.uv_packet.specs.Packets.{Content}
use Rattle.uv_region.specs.declared.action.Access.TheVariants.{LocalWrite}
use Rattle.uv_region.specs.Lent.{Lent}
use Rattle.uv_region.specs.Several.{lent_allows_all}
use Rattle.uv_qp.specs.Pairs.{Paired, mtu_of, access_of}
use Rattle.uv_wr.specs.Works.{Receiving}
use Rattle.uv_responder.specs.declared.judging.Judgement.{Judgement}
use Rattle.uv_responder.specs.declared.judging.Judgement.TheVariants as judgement
use Rattle.uv_responder.specs.declared.part.Part.{Part}
use Rattle.uv_responder.specs.Judging.{psn_distance, came_before, can_reread, judged_before, is_in_place, is_sized, has_length, is_granted, takes_receive, reaches, bytes_got, fits_receive, received_at, judged_valid, judged_expected, judgement_of}
use Rattle.uv_responder.specs.Parts.{asks_send, asks_read, asks_invalidate}
use Rattle.uv_responder.specs.Passing.{Passes, Accepts}

-- the rows in which the receive of a packet is looked at
abbrev pub is_late : Judgement → Bool
is_late judgement.Duplicate = false
is_late judgement.Reread = false
is_late judgement.Stale = false
is_late judgement.Ahead = false
is_late judgement.Busy = false
is_late judgement.Invalid = false
is_late judgement.NotReady = false
is_late judgement.Denied = false
is_late judgement.TooLong = true
is_late judgement.Unplaced = true
is_late judgement.Accepted = true

abbrev pub is_again : Judgement → Bool
is_again judgement.Duplicate = false
is_again judgement.Reread = true
is_again judgement.Stale = false
is_again judgement.Ahead = false
is_again judgement.Busy = false
is_again judgement.Invalid = false
is_again judgement.NotReady = false
is_again judgement.Denied = false
is_again judgement.TooLong = false
is_again judgement.Unplaced = false
is_again judgement.Accepted = false

not_true : (b : Bool) → b ≡ false → b ≡ true → ⊥
not_true true h k = cc
not_true false h k = cc

not_false : (b : Bool) → not b ≡ false → b ≡ true
not_false true h = refl
not_false false h = cc

-- a row that was not met by the one that came
unmet : (test : Judgement → Bool) (b : Bool) (x y v : Judgement) → test x ≡ false → test v ≡ true → (if b then x else y) ≡ v → (b ≡ false) × (y ≡ v)
unmet test true x y v off met h = absurd (not_true (test x) off (ap test h ∙ met))
unmet test false x y v off met h = (refl, h)

-- what neither row meets, none meets
neither : (test : Judgement → Bool) (b : Bool) (x y : Judgement) → test x ≡ false → test y ≡ false → test (if b then x else y) ≡ false
neither test true x y h k = h
neither test false x y h k = k

before_early : (b d : Bool) → is_late (if b then judgement.Duplicate else (if d then judgement.Reread else judgement.Stale)) ≡ false
before_early true d = refl
before_early false true = refl
before_early false false = refl

valid_ready : (part : Part) (c : Content) (p : Paired) (lent : Lent) (next : Option Receiving) (v : Judgement) → is_late v ≡ true → judged_valid part c p lent next ≡ v → (takes_receive part && is_none next) ≡ false
valid_ready part c p lent next v late h = (unmet is_late (takes_receive part && is_none next) judgement.NotReady _ v refl late h).0

expected_passed : (part : Part) (c : Content) (p : Paired) (lent : Lent) (next : Option Receiving) (v : Judgement) → is_late v ≡ true → judged_expected part c p lent next ≡ v → Passes part c p next × (judged_valid part c p lent next ≡ v)
expected_passed part c p lent next v late h =
    let (a, one) = unmet is_late (is_some p.responder.reading) judgement.Busy _ v refl late h in
    let (b, two) = unmet is_late (asks_invalidate part.asks) judgement.Invalid _ v refl late one in
    let (d, three) = unmet is_late (not (is_in_place part p.responder.message)) judgement.Invalid _ v refl late two in
    let (f, four) = unmet is_late (not (is_sized part (mtu_of p) (length c.payload))) judgement.Invalid _ v refl late three in
    let (g, five) = unmet is_late (not (has_length part part.asks c p)) judgement.Invalid _ v refl late four in
    let (i, six) = unmet is_late (not (is_granted part.asks (access_of p))) judgement.Invalid _ v refl late five in
    (record { done = b; place = not_false _ d; sized = not_false _ f; long = not_false _ g; ready = valid_ready part c p lent next v late six }, six)

pub passed : (part : Part) (c : Content) (p : Paired) (lent : Lent) (next : Option Receiving) (v : Judgement) → is_late v ≡ true → judgement_of part c p lent next ≡ v → Passes part c p next × (judged_valid part c p lent next ≡ v)
passed part c p lent next v late h =
    let (a, one) = unmet is_late (came_before (psn_distance p.responder.expected c.psn)) (judged_before part c p lent) _ v (before_early (not (asks_read part.asks)) (can_reread c p lent)) late h in
    let (b, two) = unmet is_late (not (psn_distance p.responder.expected c.psn == 0)) judgement.Ahead _ v refl late one in
    expected_passed part c p lent next v late two

-- a row that is met only by sends
sends_meet : (a b : Bool) → (a && not b) ≡ false → a ≡ true → b ≡ true
sends_meet true true h k = refl
sends_meet true false h k = cc
sends_meet false b h k = cc

abbrev pub is_accepted : Judgement → Bool
is_accepted judgement.Duplicate = false
is_accepted judgement.Reread = false
is_accepted judgement.Stale = false
is_accepted judgement.Ahead = false
is_accepted judgement.Busy = false
is_accepted judgement.Invalid = false
is_accepted judgement.NotReady = false
is_accepted judgement.Denied = false
is_accepted judgement.TooLong = false
is_accepted judgement.Unplaced = false
is_accepted judgement.Accepted = true

pub accepted : (part : Part) (c : Content) (p : Paired) (lent : Lent) (next : Option Receiving) → judgement_of part c p lent next ≡ judgement.Accepted → Accepts part c p lent next
accepted part c p lent next h =
    let (passes, zero) = passed part c p lent next judgement.Accepted refl h in
    let (a, one) = unmet is_accepted (takes_receive part && is_none next) judgement.NotReady _ judgement.Accepted refl refl zero in
    let (b, two) = unmet is_accepted (not (reaches part part.asks c p lent)) judgement.Denied _ judgement.Accepted refl refl one in
    let (d, three) = unmet is_accepted (asks_send part.asks && not (fits_receive (bytes_got p.responder.message) (length c.payload) next)) judgement.TooLong _ judgement.Accepted refl refl two in
    let (f, four) = unmet is_accepted (asks_send part.asks && not (lent_allows_all lent LocalWrite p.names.domain (received_at next (bytes_got p.responder.message) (length c.payload)))) judgement.Unplaced _ judgement.Accepted refl refl three in
    record { passes = passes; reaches = not_false _ b; fits = sends_meet _ _ d; placed = sends_meet _ _ f }

-- a message that failed at its receive is a send

abbrev pub is_failed : Judgement → Bool
is_failed judgement.Duplicate = false
is_failed judgement.Reread = false
is_failed judgement.Stale = false
is_failed judgement.Ahead = false
is_failed judgement.Busy = false
is_failed judgement.Invalid = false
is_failed judgement.NotReady = false
is_failed judgement.Denied = false
is_failed judgement.TooLong = true
is_failed judgement.Unplaced = true
is_failed judgement.Accepted = false

last_rows : (a b d : Bool) (v : Judgement) → is_failed v ≡ true → (if a && b then judgement.TooLong else (if a && d then judgement.Unplaced else judgement.Accepted)) ≡ v → a ≡ true
last_rows true b d v met h = refl
last_rows false b d v met h = absurd (not_true false refl (ap is_failed h ∙ met))

pub failed_send : (part : Part) (c : Content) (p : Paired) (lent : Lent) (next : Option Receiving) (v : Judgement) → is_failed v ≡ true → judged_valid part c p lent next ≡ v → asks_send part.asks ≡ true
failed_send part c p lent next v met h =
    let (a, one) = unmet is_failed (takes_receive part && is_none next) judgement.NotReady _ v refl met h in
    let (b, two) = unmet is_failed (not (reaches part part.asks c p lent)) judgement.Denied _ v refl met one in
    last_rows (asks_send part.asks) (not (fits_receive (bytes_got p.responder.message) (length c.payload) next)) (not (lent_allows_all lent LocalWrite p.names.domain (received_at next (bytes_got p.responder.message) (length c.payload)))) v met two

-- a read that is answered again is no longer than a work

if_reread : (b d : Bool) → (if b then judgement.Duplicate else (if d then judgement.Reread else judgement.Stale)) ≡ judgement.Reread → d ≡ true
if_reread true d h = cc
if_reread false true h = refl
if_reread false false h = cc

valid_not_again : (part : Part) (c : Content) (p : Paired) (lent : Lent) (next : Option Receiving) → is_again (judged_valid part c p lent next) ≡ false
valid_not_again part c p lent next =
    neither is_again (takes_receive part && is_none next) _ _ refl
    (neither is_again (not (reaches part part.asks c p lent)) _ _ refl
    (neither is_again (asks_send part.asks && not (fits_receive (bytes_got p.responder.message) (length c.payload) next)) _ _ refl
    (neither is_again (asks_send part.asks && not (lent_allows_all lent LocalWrite p.names.domain (received_at next (bytes_got p.responder.message) (length c.payload)))) _ _ refl refl)))

expected_not_again : (part : Part) (c : Content) (p : Paired) (lent : Lent) (next : Option Receiving) → is_again (judged_expected part c p lent next) ≡ false
expected_not_again part c p lent next =
    neither is_again (is_some p.responder.reading) _ _ refl
    (neither is_again (asks_invalidate part.asks) _ _ refl
    (neither is_again (not (is_in_place part p.responder.message)) _ _ refl
    (neither is_again (not (is_sized part (mtu_of p) (length c.payload))) _ _ refl
    (neither is_again (not (has_length part part.asks c p)) _ _ refl
    (neither is_again (not (is_granted part.asks (access_of p))) _ _ refl (valid_not_again part c p lent next))))))

if_again : (b : Bool) (x y : Judgement) → is_again y ≡ false → (if b then x else y) ≡ judgement.Reread → x ≡ judgement.Reread
if_again true x y off h = h
if_again false x y off h = absurd (not_true (is_again y) off (ap is_again h))

pub again_readable : (part : Part) (c : Content) (p : Paired) (lent : Lent) (next : Option Receiving) → judgement_of part c p lent next ≡ judgement.Reread → can_reread c p lent ≡ true
again_readable part c p lent next h =
    let one = if_again (came_before (psn_distance p.responder.expected c.psn)) (judged_before part c p lent) _ (neither is_again (not (psn_distance p.responder.expected c.psn == 0)) judgement.Ahead _ refl (expected_not_again part c p lent next)) h in
    if_reread (not (asks_read part.asks)) (can_reread c p lent) one
