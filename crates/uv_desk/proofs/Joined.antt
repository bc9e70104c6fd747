-- The seats of a desk, joined one by one, and what the last state tells.
use Rattle.std.proofs.Common.{◌≡◌, ⊎_elim, inl, inr, ℕ, zero, suc, ◌+◌, ◌<◌, ◌≤◌, List, [], ◌∷◌, ◌++◌, length, map, ap, sym, subst, ◌∙◌, true, arith, append-nil as append_nil}
use mathlib.Core.Logic.{dite}
use mathlib.Core.Option.{some, some-injective}
use native.Mathlib.Decide.{ℕ_discrete}
use lib.ListN.{get_elem?}
use Rattle.std.specs.Prelude.{Option, Some, None}
use Rattle.atomic_table.specs.Table.{Me, Final, Seen}
use Rattle.atomic_table.specs.Seated.{TableId}
use Rattle.atomic_table.specs.declared.shared.Seat.{Seat}
use Rattle.uv_num.specs.Each.{Each}
use Rattle.uv_order.specs.declared.signed.Signed.{Signed}
use Rattle.uv_order.specs.Signed.{AreBelow}
use Rattle.uv_order.specs.Seen.{Quiet}
use Rattle.uv_desk.specs.declared.view.View.{View}
use Rattle.uv_desk.specs.declared.view.Kept.{Kept}
use Rattle.uv_desk.specs.Views.{with_kept}
use Rattle.uv_desk.specs.Rule.{AreKept, Ordered}
use Rattle.uv_desk.specs.Seats.{Placed, OneOf, AreAllFrom, IsAll, AreSeats, kept_by, placed, IsPlaced, IsFirst, fresh, freshes}
use Rattle.uv_desk.specs.Gathering.{IsAmong, Parts, Drawn, joined_to, Gathered}
use Rattle.uv_desk.specs.Fits.{SeatFits, Fits}
use Rattle.uv_desk.proofs.Keeping.{none_holds_it}
use Rattle.uv_desk.proofs.Drawing.{all_but, all_behind, each_back, parts_whole, parts_move, one_left, one_stood, each_of_in, in_of_each, the_one, one_of_in}

module _ {E O : Type 0} where
  -- one new seat more
  pub freshes_more : (t : TableId) (k n : ℕ) (history : List E) (own : ℕ → O) → freshes t k n history own ++ fresh t (k + n) 0 history own ∷ [] ≡ freshes t k (suc n) history own
  freshes_more t k zero history own = ap (λ (i : ℕ). fresh t i 0 history own ∷ []) (omega arith)
  freshes_more t k (suc n) history own =
      ap (λ (l : List (Placed E O)). fresh t k 0 history own ∷ l) (ap (λ (i : ℕ). freshes t (k + 1) n history own ++ fresh t i 0 history own ∷ []) (omega arith) ∙ freshes_more t (k + 1) n history own)

  each_fits : (own : ℕ → O) (log : List (Signed E)) (latest : ℕ) (seats : List (Placed E O)) → AreKept own log latest (map kept_by seats) → Each (SeatFits own log) seats
  each_fits own log latest [] k = tt
  each_fits own log latest (s ∷ ss) k = ((k.0.0, k.0.1), each_fits own log latest ss k.1)

  one_saw : (own : ℕ → O) (log : List (Signed E)) (latest : ℕ) (t : TableId) (n : ℕ) (seats : List (Placed E O)) → AreSeats t n seats → n ≤ latest → latest < n + length seats → AreKept own log latest (map kept_by seats) → OneOf (λ (s : Placed E O). s.seen ≡ log) seats
  one_saw own log latest t n [] a le lt k = absurd (omega arith)
  one_saw own log latest t n (s ∷ ss) a le lt k = dite (ℕ_discrete latest n)
      (λ e. inl (k.0.2 (a.1 ∙ sym e)))
      (λ ne. inr (one_saw own log latest t (n + 1) ss a.2 (omega arith) (omega arith) k.1))

module _ {M E O : Type 0} where
  -- the seats above those that are left are joined to the first
  pub record IsGathering (desk : TableId) (me : Me (Option M) (View M E O)) (seats left : List (Placed E O)) (me' : Me (Option M) (View M E O)) : Type 0 where
    pub sorted : List (Placed E O)
    pub parts : Parts seats left sorted
    pub all : AreAllFrom desk 1 left
    pub in_order : AreSeats desk (length left + 1) sorted
    pub as_many : length left + length sorted ≡ length seats
    pub joined_is : me' ≡ joined_to me (length left + 1) (map kept_by sorted)

  pub gathers : (desk : TableId) (me : Me (Option M) (View M E O)) (seats : List (Placed E O)) → AreAllFrom desk 1 seats → IsFirst (length seats + 1) me → IsGathering desk me seats seats me
  gathers desk me seats all first = record {
    sorted = [];
    parts = parts_whole seats;
    all = all;
    in_order = tt;
    as_many = omega arith;
    joined_is = λ i. (record me.0 { whole = first.2 i }, me.1);
  }

  pub gathered_one : (desk : TableId) (me me1 me2 : Me (Option M) (View M E O)) (seats left left' : List (Placed E O)) (seat : Placed E O) (last : ℕ) → IsGathering desk me seats left me1 → Drawn last left seat left' → last ≡ length left
      → me2 ≡ (with_kept me1.0 (kept_by seat) seat.number, me1.1) → IsGathering desk me seats left' me2
  gathered_one desk me me1 me2 seats left left' seat last g d e step =
      let r = all_but desk 1 left left' seat last g.all d (omega arith) in
      let number : seat.number ≡ length left' + 1 = (let n = d.number_is in let l = r.2 in omega arith) in
      record {
        sorted = seat ∷ g.sorted;
        parts = subst (λ (l : List (Placed E O)). Parts seats l (seat ∷ g.sorted)) (sym d.left_is) (parts_move seats d.front d.back g.sorted seat (subst (λ (l : List (Placed E O)). Parts seats l g.sorted) d.stood g.parts));
        all = r.1;
        in_order = (r.0, number, subst (λ (n : ℕ). AreSeats desk n g.sorted) (let l = r.2 in omega arith) g.in_order);
        as_many = let a = g.as_many in let l = r.2 in omega arith;
        joined_is = step ∙ (ap (λ (m : Me (Option M) (View M E O)). (with_kept m.0 (kept_by seat) seat.number, m.1)) g.joined_is ∙ ap (λ (n : ℕ). joined_to me n (kept_by seat ∷ map kept_by g.sorted)) number);
      }

  -- none is left
  pub gathered_all : (desk : TableId) (me me' : Me (Option M) (View M E O)) (seats left : List (Placed E O)) → IsGathering desk me seats left me' → left ≡ [] → Gathered desk me seats me'
  gathered_all desk me me' seats left g e = record {
    sorted = g.sorted;
    parts = subst (λ (l : List (Placed E O)). Parts seats l g.sorted) e g.parts;
    in_order = subst (λ (l : List (Placed E O)). AreSeats desk (length l + 1) g.sorted) e g.in_order;
    as_many = let a = g.as_many in let none = ap length e in omega arith;
    joined_is = g.joined_is ∙ ap (λ (l : List (Placed E O)). joined_to me (length l + 1) (map kept_by g.sorted)) e;
  }

some_is : {X : Type 0} (r : Option X) (a b : X) → r ≡ Some a → r ≡ Some b → a ≡ b
some_is r a b p q = cc (p, q)

module _ {E O : Type 0} where
  -- what is known of the seats in order is true of them in the order in which they came
  fits_all : (history : List E) (own : ℕ → O) (names : E → Option ℕ) (seats left sorted : List (Placed E O)) (first : Placed E O) → Fits history own names (first ∷ sorted) → Drawn 0 seats first left → Parts left [] sorted → length seats ≡ length sorted + 1
      → Fits history own names seats
  fits_all history own names seats left sorted first f d p len =
      let log : List (Signed E) = f.log in let saw : Placed E O → Type 0 = λ s. s.seen ≡ log in
      record {
        log = log;
        log_is = f.log_is;
        named = f.named;
        authors = subst (λ (n : ℕ). AreBelow n log) (let l = len in omega arith) f.authors;
        each = each_of_in (SeatFits own log) seats
            (λ x i. ⊎_elim (λ q. subst (SeatFits own log) q f.each.0)
            (λ q. ⊎_elim (λ none. absurd none) (λ s. in_of_each (SeatFits own log) sorted x f.each.1 s) (p.each x (subst (λ (l : List (Placed E O)). IsAmong x l) (sym d.left_is) q)))
            (one_left (λ (y : Placed E O). y ≡ x) d.front d.back first (subst (λ (l : List (Placed E O)). IsAmong x l) d.stood i)));
        one_saw = subst (λ (l : List (Placed E O)). OneOf saw l) (sym d.stood)
            (one_stood saw d.front d.back first
            (⊎_elim (λ q. inl q)
            (λ q. let o = the_one saw sorted q in inr (subst (λ (l : List (Placed E O)). OneOf saw l) d.left_is (one_of_in saw left o.0 (p.others o.0 o.1) o.2)))
            f.one_saw));
      }

  -- the seat numbered 0 knows how many there are
  pub first_counts : (desk : TableId) (seats left : List (Placed E O)) (first : Placed E O) → IsAll desk seats → Drawn 0 seats first left → first.count ≡ length left + 1
  first_counts desk seats left first all d =
      let counted : Placed E O → Type 0 = λ s. s.number ≡ 0 → s.count ≡ length seats in
      let here = each_back counted d.front (first ∷ d.back) (subst (λ (l : List (Placed E O)). Each counted l) d.stood all.counted) in
      here.0 d.number_is ∙ (all_behind desk seats left first all.all d).2

module _ {M E O : Type 0} (history : M → List E) (own : M → ℕ → O) (names : E → Option ℕ) (start : M) where
  -- all are joined to the first seat, and the machine is at home
  ends : (id : ℕ) (v : View M E O) (words : List ℕ) (slots : List (Option M)) (t : TableId) (first : Placed E O) (seats : List (Placed E O)) (res : Option M) → v.numbered ≡ true → v.number ≡ 0 → v.whole ≡ 1 → v.held ≡ None → v.next ≡ length seats + 1 → v.joined ≡ map kept_by seats
      → first.number ≡ 0 → v.seen ≡ first.seen → v.own ≡ first.own → AreSeats t 1 seats → Final (Seen (Ordered history own names start) id v) words slots → get_elem? slots 0 ≡ some res
      → (m : M) × (res ≡ Some m) × Fits (history m) (own m) names (first ∷ seats)
  ends id v words slots t first seats res num zero_is whole held next all first_zero seen_is own_is are f at =
      let s = f.0 in let r = f.1.0 in let kv = r.each_seat id v f.1.1 in
      let one : r.whole ≡ 1 = sym (kv.whole_is num zero_is) ∙ whole in
      let none_holds : r.holder ≡ None = none_holds_it r.holder (λ h e. let tk = r.held_by h e in
      dite (ℕ_discrete h 0) (λ q. kv.idle num held (e ∙ ap (λ (z : ℕ). Some z) (q ∙ sym zero_is)))
      (λ q. let o = r.free h (omega arith) in absurd (cc (tk, o)))) in
      let here : get_elem? s.homes 0 ≡ some (some (Some r.machine)) = r.at_home none_holds in
      let given_is : r.given ≡ suc (length seats) = sym (kv.next_is num zero_is) ∙ (next ∙ (omega arith)) in
      let fits : AreKept (own r.machine) r.log r.latest (map kept_by seats) = subst (AreKept (own r.machine) r.log r.latest) (sym (kv.joined_is num zero_is) ∙ all) r.fits in
      let quiet : Quiet v.number r.log v.seen = kv.mine_is num in
      let same : v.number ≡ first.number = zero_is ∙ sym first_zero in
      let latest = r.last_given in (
        r.machine,
        some-injective res (Some r.machine) (sym at ∙ f.4 0 (Some r.machine) here),
        record {
          log = r.log;
          log_is = r.log_is;
          named = r.named;
          authors = subst (λ (n : ℕ). AreBelow n r.log) given_is r.authors;
          each = ((subst (λ (z : ℕ × List (Signed E)). Quiet z.0 r.log z.1) (λ i. (same i, seen_is i)) quiet, sym own_is ∙ (kv.own_is num ∙ ap (λ (z : ℕ). Some (own r.machine z)) same)), each_fits (own r.machine) r.log r.latest seats fits);
          one_saw = dite (ℕ_discrete r.latest 0) (λ q. inl (sym seen_is ∙ kv.last_is num (zero_is ∙ sym q))) (λ q. inr (one_saw (own r.machine) r.log r.latest t 1 seats are (omega arith) (omega arith) fits));
        },
      )

  pub closes : (id n : ℕ) (c : Seat (Option M) (View M E O)) (first : Placed E O) (me : Me (Option M) (View M E O)) (words : List ℕ) (slots : List (Option M)) (desk : TableId) (seats left : List (Placed E O)) (res : Option M) → placed c ≡ first → IsPlaced n c.me → IsAll desk seats → Drawn 0 seats first left → Gathered desk c.me left me
      → Final (Seen (Ordered history own names start) id me.0) words slots → get_elem? slots 0 ≡ some res → (m : M) × (res ≡ Some m) × Fits (history m) (own m) names seats
  closes id n c first me words slots desk seats left res is i all d g fin at =
      let behind = all_behind desk seats left first all.all d in
      let w = g.joined_is in let V : Type 0 = Me (Option M) (View M E O) in
      let count : c.me.0.whole ≡ length left + 1 = ap (λ (q : Placed E O). q.count) is ∙ first_counts desk seats left first all d in
      let zero_is : c.me.0.number ≡ 0 = ap (λ (q : Placed E O). q.number) is ∙ d.number_is in
      let e = ends id me.0 words slots desk first g.sorted res (ap (λ (m : V). m.0.numbered) w ∙ i.0.0) (ap (λ (m : V). m.0.number) w ∙ zero_is) (ap (λ (m : V). m.0.whole) w) (ap (λ (m : V). m.0.held) w ∙ i.0.2)
      (ap (λ (m : V). m.0.next) w ∙ (i.2 ∙ (count ∙ ap (λ (k : ℕ). k + 1) (sym g.as_many))))
      (ap (λ (m : V). m.0.joined) w ∙ (ap (λ (l : List (Kept E O)). map kept_by g.sorted ++ l) i.3 ∙ append_nil (map kept_by g.sorted)))
      d.number_is (ap (λ (m : V). m.0.seen) w ∙ ap (λ (q : Placed E O). q.seen) is) (ap (λ (m : V). m.0.own) w ∙ ap (λ (q : Placed E O). q.own) is) g.in_order fin at in
      (e.0, e.1, fits_all (history e.0) (own e.0) names seats left g.sorted first e.2 d g.parts (behind.2 ∙ ap (λ (k : ℕ). k + 1) (sym g.as_many)))

  pub closes_at : (seats : List (Placed E O)) (res : Option M) (m : M) → (m' : M) × (res ≡ Some m') × Fits (history m') (own m') names seats → res ≡ Some m → Fits (history m) (own m) names seats
  closes_at seats res m r is = let e : r.0 ≡ m = some_is res r.0 m r.1 is in subst (λ (x : M). Fits (history x) (own x) names seats) e r.2
