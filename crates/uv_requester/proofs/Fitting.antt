-- Where a requester stands after the next packet: no further than the packets of the works that wait.
use Rattle.std.proofs.Common.{◌≡◌, ℕ, ◌+◌, ◌-◌, ◌<◌, ◌≤◌, max, Bool, true, false, cond, List, [], ◌∷◌, Option, None, Some, nat_lt, slice_get, refl, sym, ap, ◌∙◌, arith, suc}
use Rattle.uv_qp.specs.declared.state.Requester.{Requester}
use Rattle.uv_qp.specs.PacketCounts.{op_packets, queue_packets, work_packets}
use Rattle.uv_qp.specs.Pairs.{IsRequesting}
use Rattle.uv_region.specs.Lent.{Lent, known, StaysKnown}
use Rattle.uv_wr.specs.declared.work.Op.{Op}
use Rattle.uv_wr.specs.declared.work.Op.TheVariants.{Send, SendImm, Write, WriteImm, Read, Ud, UdImm}
use Rattle.uv_wr.specs.Works.{Sending, whole_length}
use Rattle.uv_requester.specs.SendPlaces.{is_read_op, located, op_places, work_places}
use Rattle.uv_requester.specs.Sends.{sent_on}

-- regions that are as they were
pub stays_so : (lent after : Lent) → after ≡ lent → StaysKnown lent after
stays_so lent after is = record { same = λ k. ap (λ (m : Lent). known m k) is }

-- a request packet takes no places beyond those of its work
places_within : (o : Op) (mtu size at : ℕ) → at < op_packets mtu o size → at + op_places mtu o size at ≤ op_packets mtu o size
places_within Send mtu size at h = omega (arith, h)
places_within (SendImm imm) mtu size at h = omega (arith, h)
places_within (Write place key) mtu size at h = omega (arith, h)
places_within (WriteImm place key imm) mtu size at h = omega (arith, h)
places_within (Read place key) mtu size at h = omega (arith, h)
places_within (Ud device qp qkey) mtu size at h = omega (arith, h)
places_within (UdImm device qp qkey imm) mtu size at h = omega (arith, h)

less_is : (a b : ℕ) → nat_lt a b ≡ true → a < b
less_is a b h = grind (arith, h)

not_less_is : (a b : ℕ) → nat_lt a b ≡ false → b ≤ a
not_less_is a b h = grind (arith, h)

-- a place of a work, and of a packet of it
abbrev work_at : Option (ℕ × ℕ) → ℕ
work_at None = 0
work_at (Some l) = l.0

abbrev packet_at : Option (ℕ × ℕ) → ℕ
packet_at None = 0
packet_at (Some l) = l.1

-- the works are counted on
counted_by : (b : Bool) (k at place j : ℕ) (rest : Option (ℕ × ℕ)) → (rest ≡ Some (place, j) → k + 1 ≤ place) → cond b (Some (k, at)) rest ≡ Some (place, j) → k ≤ place
counted_by true k at place j rest later h = let is : k ≡ place = ap work_at h in omega (arith, is)
counted_by false k at place j rest later h = omega (arith, later h)

counted_on : (k mtu : ℕ) (ws : List Sending) (at place j : ℕ) → located k mtu ws at ≡ Some (place, j) → k ≤ place
counted_on k mtu [] at place j h = cc
counted_on k mtu (w ∷ ws) at place j h =
    counted_by (nat_lt at (work_packets mtu w)) k at place j (located (k + 1) mtu ws (at - work_packets mtu w)) (counted_on (k + 1) mtu ws (at - work_packets mtu w) place j) h

later_work : (ws : List Sending) (x w : Sending) (k place : ℕ) → k + 1 ≤ place → slice_get (x ∷ ws) (place - k) ≡ Some w → slice_get ws (place - (k + 1)) ≡ Some w
later_work ws x w k place less h =
    let e : place - k ≡ suc (place - (k + 1)) = omega (arith, less) in
    sym (ap (slice_get (x ∷ ws)) e) ∙ h

first_work : (ws : List Sending) (x w : Sending) (k : ℕ) → slice_get (x ∷ ws) (k - k) ≡ Some w → x ≡ w
first_work ws x w k h =
    let e : k - k ≡ 0 = omega arith in
    let there : slice_get (x ∷ ws) 0 ≡ Some w = sym (ap (slice_get (x ∷ ws)) e) ∙ h in
    cc

-- a place in a queue is no further than its packets
abbrev Fit : ℕ → ℕ → List Sending → ℕ → ℕ → ℕ → Sending → Type 0
Fit k mtu ws at place j w = slice_get ws (place - k) ≡ Some w → at + work_places mtu w j ≤ queue_packets mtu ws

fits_by : (b : Bool) (k mtu : ℕ) (x : Sending) (ws : List Sending) (at place j : ℕ) (w : Sending) → nat_lt at (work_packets mtu x) ≡ b
    → (located (k + 1) mtu ws (at - work_packets mtu x) ≡ Some (place, j) → Fit (k + 1) mtu ws (at - work_packets mtu x) place j w)
    → cond b (Some (k, at)) (located (k + 1) mtu ws (at - work_packets mtu x)) ≡ Some (place, j) → Fit k mtu (x ∷ ws) at place j w
fits_by true k mtu x ws at place j w e later h there =
    let here : k ≡ place = ap work_at h in
    let first : at ≡ j = ap packet_at h in
    let found : slice_get (x ∷ ws) (k - k) ≡ Some w = ap (λ n. slice_get (x ∷ ws) (n - k)) here ∙ there in
    let is : x ≡ w = first_work ws x w k found in
    let within : at + work_places mtu x at ≤ work_packets mtu x = places_within x.op mtu (whole_length x.parts) at (less_is at (work_packets mtu x) e) in
    let same : work_places mtu w j ≡ work_places mtu x at = ap (λ v. work_places mtu v j) (sym is) ∙ ap (work_places mtu x) (sym first) in
    omega (arith, within, same)
fits_by false k mtu x ws at place j w e later h there =
    let from : k + 1 ≤ place = counted_on (k + 1) mtu ws (at - work_packets mtu x) place j h in
    let rest : at - work_packets mtu x + work_places mtu w j ≤ queue_packets mtu ws = later h (later_work ws x w k place from there) in
    omega (arith, rest, not_less_is at (work_packets mtu x) e)

places_fit : (k mtu : ℕ) (ws : List Sending) (at place j : ℕ) (w : Sending) → located k mtu ws at ≡ Some (place, j) → Fit k mtu ws at place j w
places_fit k mtu [] at place j w h there = cc
places_fit k mtu (x ∷ ws) at place j w h there =
    fits_by (nat_lt at (work_packets mtu x)) k mtu x ws at place j w refl (places_fit (k + 1) mtu ws (at - work_packets mtu x) place j w) h there

less_asked : (b : Bool) (m n a : ℕ) → n ≤ m → a ≤ m → cond b n a ≤ m
less_asked true m n a h k = h
less_asked false m n a h k = k

pub goes_on_requesting : (mtu : ℕ) (ws : List Sending) (r : Requester) (place at : ℕ) (w : Sending) → IsRequesting r (queue_packets mtu ws)
    → located 0 mtu ws r.next ≡ Some (place, at) → slice_get ws place ≡ Some w
    → IsRequesting (sent_on r (work_places mtu w at) (is_read_op w.op)) (queue_packets mtu ws)
goes_on_requesting mtu ws r place at w h found there =
    let none : place - 0 ≡ place = omega arith in
    let fits : r.next + work_places mtu w at ≤ queue_packets mtu ws = places_fit 0 mtu ws r.next place at w found (ap (slice_get ws) none ∙ there) in
    let n : ℕ = r.next + work_places mtu w at in
    record {
      base = h.base;
      una = omega (arith, h.una);
      next = omega arith;
      high = omega (arith, h.high, fits);
      asked = less_asked (is_read_op w.op) (max r.high n) r.next r.asked (omega (arith, h.next)) (omega (arith, h.asked));
      retried = h.retried;
      unready = h.unready;
    }
