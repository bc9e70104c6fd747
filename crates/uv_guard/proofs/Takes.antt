-- The steps of a seat keep the rule: refer, unrefer, read, turn, give.
use Rattle.std.proofs.Common.{◌≡◌, ◌≢◌, ◌⊎◌, ℕ, suc, ◌+◌, ◌*◌, ◌/◌, ◌%◌, ◌^◌, ◌<◌, List, [], ◌∷◌, ◌++◌, length, set, get_or, subst, sym, refl, ap, ◌∙◌, ⊎_elim, inl, inr, arith, length-set, get_or-set_same, get_or-set_other, bit_or, bit_and, ◌==◌}
use Rattle.std.proofs.Math.Nat.{mod-add-mod, mod-eq_of_lt}
use Rattle.std.proofs.lemmas.Nat.{shr_split}
use Rattle.std.proofs.lemmas.Nat.Bits.{bit_at_clear_other}
use mathlib.Core.Option.{some, none}
use mathlib.Core.Option as maybe
use lib.ListN.{get_elem?}
use prog.Atomic.{either}
use mir.Val.{bits}
use mir.Syntax.{w64}
use Rattle.std.specs.Int.{bit_at, bit_not}
use Rattle.std.specs.Prelude.{Option, Some, None}
use Rattle.atomic_table.specs.Table.{step, Act, keeps, takes, gives, put_back, rest, carried_after, Valid, stepped, Allows}
use Rattle.atomic_table.proofs.Lists.{set_here, exchanged}
use Rattle.uv_order.specs.declared.signed.Signed.{Signed}
use Rattle.uv_order.specs.declared.taken.Taken.{Taken}
use Rattle.uv_guard.specs.declared.life.Stage.{Stage}
use Rattle.uv_guard.specs.declared.life.Stage.TheVariants.{Home, Filling, Planted, Doomed, Clear, Spent}
use Rattle.uv_guard.specs.declared.view.Found.{Found}
use Rattle.uv_guard.specs.declared.view.Held.{Held}
use Rattle.uv_guard.specs.declared.view.View.{View}
use Rattle.uv_guard.specs.declared.view.Role.TheVariants.{Taker}
use Rattle.uv_order.specs.Takings.{run}
use Rattle.uv_order.specs.Laws.{LogLaws, TakingLaws}
use Rattle.uv_guard.specs.Lives.{flags, IsStanding, IsAfter}
use Rattle.uv_guard.specs.Rule.{Truth, Lies, IsGuarded, turns}
use Rattle.uv_guard.specs.Words.{found_at, life_word, turn_word}
use Rattle.uv_guard.specs.Steps.{Sat, finding, finding_more, referred, unreferred, turned, gave, taking}
use Rattle.uv_guard.proofs.Put.{put, put_here, put_else, put_at}
use Rattle.uv_guard.proofs.Bits.{or_keeps, or_sets, or_low_top, and_clear_top}
use Rattle.uv_guard.proofs.Logs.{those_same, those_other, length_more, has_value, account_gives, account_keeps, kept_gives, value_goes}
use Rattle.uv_guard.proofs.Frames.{St, seat_moves, finds}

module _ {T : Type 0} where
  -- only a planted cell has the flags of a live one
  is_live : (stage : Stage T) (gen g : ℕ) → 4 * gen + flags stage ≡ 4 * g + 1 → gen ≡ g
  is_live Home gen g e = absurd (omega arith)
  is_live Filling gen g e = absurd (omega arith)
  is_live (Planted p) gen g e = omega arith
  is_live (Doomed p) gen g e = absurd (omega arith)
  is_live (Clear p x) gen g e = absurd (omega arith)
  is_live Spent gen g e = absurd (omega arith)

  live_or_not : (stage : Stage T) → IsStanding stage ⊎ ((gen g : ℕ) → 4 * gen + flags stage ≢ 4 * g + 1)
  live_or_not Home = inr (λ gen g e. omega arith)
  live_or_not Filling = inr (λ gen g e. omega arith)
  live_or_not (Planted p) = inl tt
  live_or_not (Doomed p) = inr (λ gen g e. omega arith)
  live_or_not (Clear p x) = inr (λ gen g e. omega arith)
  live_or_not Spent = inr (λ gen g e. omega arith)

  -- where nobody has the turn and seats may refer to the cell, the value is at home
  at_home : (stage : Stage T) (homes : List (maybe.Option (Option T))) (value : Option T) → IsStanding stage → Lies homes value stage → get_elem? homes 0 ≡ some (some value)
  at_home Home homes value h l = absurd h
  at_home Filling homes value h l = absurd h
  at_home (Planted p) homes value h l = l
  at_home (Doomed p) homes value h l = l
  at_home (Clear p x) homes value h l = absurd h
  at_home Spent homes value h l = absurd h

  lies_back : (stage : Stage T) (homes : List (maybe.Option (Option T))) (value : Option T) → IsStanding stage → get_elem? homes 0 ≡ some (some value) → Lies homes value stage
  lies_back Home homes value h l = absurd h
  lies_back Filling homes value h l = absurd h
  lies_back (Planted p) homes value h l = l
  lies_back (Doomed p) homes value h l = l
  lies_back (Clear p x) homes value h l = absurd h
  lies_back Spent homes value h l = absurd h

-- an even turn word: nobody has the turn
none_turns : (h : Option ℕ) (n : ℕ) → turns h n % 2 ≡ 0 → h ≡ None
none_turns None n e = refl
none_turns (Some k) n e = absurd (omega arith)

-- the parity of a count is that of its word
even_word : (t x old : ℕ) → x ≡ t % 18446744073709551616 → x ≡ old → old % 2 ≡ 0 → t % 2 ≡ 0
even_word t x old e hit even = let q = shr_split t 64 in let z : t % 18446744073709551616 ≡ old = sym e ∙ hit in omega arith

next_word : (t x old : ℕ) → x ≡ t % 18446744073709551616 → x ≡ old → old % 2 ≡ 0 → x < 18446744073709551616 → old + 1 ≡ (t + 1) % 18446744073709551616
next_word t x old e hit even fits = sym (sym (mod-add-mod t 18446744073709551616 1) ∙ (ap (λ z. (z + 1) % 18446744073709551616) (sym e ∙ hit) ∙ mod-eq_of_lt (omega arith)))

same_nat : (k k' : ℕ) → Some k ≡ Some k' → k ≡ k'
same_nat k k' e = cc

module _ {T : Type 0} (goes_on : T → T → Type 0) where
  -- a step of a seat on the life word, after which it refers to y
  on_life : (s : St T) (r : IsGuarded goes_on s) (id : ℕ) (v : View T) (x : ℕ) (y : Option ℕ) (f : List Found) → get_elem? s.views id ≡ some v → v.role ≡ Taker → v.entered ≡ None
      → x / 4294967296 ≡ 4 * r.truth.gen + flags r.truth.stage → ((m : ℕ) → m ≢ v.number → m < 32 → bit_at (get_or s.words 0 0) m ≡ 1 → bit_at x m ≡ 1) → ((g : ℕ) → y ≡ Some g → (g ≡ r.truth.gen) × (bit_at x v.number ≡ 1) × IsStanding r.truth.stage)
      → IsGuarded goes_on record { words = set s.words 0 x; homes = s.homes; views = set s.views id (record v { refers = y; found = f }) }
  on_life s r id v x y f at is out top kept ours =
      let t : Truth T = r.truth in
      let mine = r.each_seat id v at in let n : ℕ = v.number in let w : View T = record v { refers = y; found = f } in let refs' : ℕ → Option ℕ = put t.refs n y in
      let word : get_or (set s.words 0 x) 0 0 ≡ x = get_or-set_same s.words 0 x 0 (let e = r.two_words in omega arith) in
      let free : t.holder ≢ Some n = mine.idle is out in
      let few = r.few in
      record {
        truth = record t { refs = refs' };
        account = account_keeps goes_on t refs' t.holder r.account;
        fits = r.fits;
        two_words = length-set s.words 0 x ∙ r.two_words;
        one_slot = r.one_slot;
        few = r.few;
        top_is = ap (λ z. z / 4294967296) word ∙ top;
        turn_is = get_or-set_other s.words 0 1 x 0 (λ e. omega arith) ∙ r.turn_is;
        odd = λ m e. let o = r.odd m e in put_else t.refs n y m (λ q. free (e ∙ ap (λ z. Some z) q)) ∙ o;
        refers = λ m g. put_at t.refs n y (λ m z. z ≡ Some g → (g ≡ t.gen) × (m < t.given) × (bit_at (get_or (set s.words 0 x) 0 0) m ≡ 1) × IsStanding t.stage) m
            (λ e. let o = ours g e in (o.0, mine.below is, ap (λ z. bit_at z n) word ∙ o.1, o.2))
            (λ ne e. let o = r.refers m g e in (o.0, o.1, ap (λ z. bit_at z m) word ∙ kept m ne (let lt = o.1 in omega arith) o.2, o.3));
        lies = r.lies;
        each_seat = seat_moves goes_on s r id v w t.value refs' t.holder t.log at is (λ m ne. refl) (λ m ne. put_else t.refs n y m ne) (λ m _ e. (e, refl, refl)) (λ m _ e. e)
            record {
              below = mine.below;
              chair_is = mine.chair_is;
              refers_is = λ _. put_here t.refs n y;
              idle = mine.idle;
              entered_is = mine.entered_is;
              took_is = mine.took_is;
              apart = mine.apart;
              told_plants = mine.told_plants;
              told_lives = mine.told_lives;
              deed_is = mine.deed_is;
              owns = λ p. absurd (cc (is, p));
            };
      }

  -- a seat refers to the generation that it finds live
  pub refers : (slots id k : ℕ) (me : Sat T) → me.0.role ≡ Taker → me.0.entered ≡ None → k ≡ 2 ^ me.0.number → Allows (IsGuarded goes_on) slots id me 0 (λ n. bit_or n k) (referred me)
  refers slots id k me num out is s r wide at _ =
      let t : Truth T = r.truth in
      let v : View T = me.0 in let mine = r.each_seat id v at in let n : ℕ = v.number in let x : ℕ = get_or s.words 0 0 in
      let low : n < 32 = let b = mine.below num in let few = r.few in omega arith in
      let top : bit_or x k / 4294967296 ≡ 4 * t.gen + flags t.stage = or_low_top x k n is low ∙ r.top_is in
      let kept : (m : ℕ) → m ≢ n → m < 32 → bit_at x m ≡ 1 → bit_at (bit_or x k) m ≡ 1 = λ m _ _ b. or_keeps x k m b in
      let ours : bit_at (bit_or x k) n ≡ 1 = ap (λ y. bit_at (bit_or x y) n) is ∙ or_sets x n in
      ⊎_elim
      (λ (live : IsStanding t.stage). (
        record v { refers = Some t.gen; found = life_word x ∷ [] },
        keeps,
        tt,
        on_life s r id v (bit_or x k) (Some t.gen) (life_word x ∷ []) at num out top kept (λ g e. (sym (same_nat t.gen g e), ours, live)),
        (Some t.gen, refl, λ g e. ap (λ z. Some z) (is_live t.stage t.gen g (sym r.top_is ∙ e))),
      ))
      (λ (dead : (gen g : ℕ) → 4 * gen + flags t.stage ≢ 4 * g + 1). (
        record v { refers = None; found = life_word x ∷ [] },
        keeps,
        tt,
        on_life s r id v (bit_or x k) None (life_word x ∷ []) at num out top kept (λ g e. absurd cc),
        (None, refl, λ g e. absurd (dead t.gen g (sym r.top_is ∙ e))),
      ))
      (live_or_not t.stage)

  pub unrefers : (slots id n : ℕ) (me : Sat T) → me.0.number ≡ n → me.0.role ≡ Taker → me.0.entered ≡ None
      → Allows (IsGuarded goes_on) slots id me 0 (λ x. bit_and x (bit_not w64 (1 * 2 ^ n % 2 ^ bits w64))) (λ _ m'. unreferred me m')
  unrefers slots id n me num_is num out = subst (λ (n : ℕ). Allows (IsGuarded goes_on) slots id me 0 (λ x. bit_and x (bit_not w64 (1 * 2 ^ n % 2 ^ bits w64))) (λ _ m'. unreferred me m')) num_is
      (λ s r wide at fits.
      let v : View T = me.0 in let mine = r.each_seat id v at in let n : ℕ = v.number in let x : ℕ = get_or s.words 0 0 in let k : ℕ = bit_not w64 (1 * 2 ^ n % 2 ^ bits w64) in
      let low : n < 32 = let b = mine.below num in let few = r.few in omega arith in (
        record v { refers = None },
        keeps,
        tt,
        on_life s r id v (bit_and x k) None v.found at num out (and_clear_top x n fits low ∙ r.top_is) (λ m ne lt b. bit_at_clear_other w64 x n (omega arith) m (omega arith) ne ∙ b) (λ g e. absurd cc),
        refl,
      ))

  pub reads : (slots id i : ℕ) (me : Sat T) → Allows (IsGuarded goes_on) slots id me i (λ n. n) (λ n m'. m' ≡ finding_more me (found_at i n))
  reads slots id i me s r wide at _ = let ws : List Found = me.0.found ++ found_at i (get_or s.words i 0) ∷ [] in (record me.0 { found = ws }, keeps, tt, finds goes_on s r i id me.0 ws at, refl)

  pub sees : (slots id i : ℕ) (me : Sat T) → Allows (IsGuarded goes_on) slots id me i (λ n. n) (λ n m'. m' ≡ finding me (found_at i n ∷ []))
  sees slots id i me s r wide at _ = let ws : List Found = found_at i (get_or s.words i 0) ∷ [] in (record me.0 { found = ws }, keeps, tt, finds goes_on s r i id me.0 ws at, refl)

  abbrev Goes : St T → ℕ → ℕ → Sat T → (ℕ → Sat T → Type 0) → ℕ → Type 0
  Goes s i id me then x = (w : View T) × (a : Act (Option T)) × Valid s.homes me.1 a × IsGuarded goes_on (stepped s i x id me.1 w a) × then (get_or s.words i 0) (w, carried_after me.1 a)

  module _ (same : (x : T) → goes_on x x) (further : (x y z : T) → goes_on x y → goes_on y z → goes_on x z) where
    -- a seat that refers takes the turn, from the even number that it read
    pub turns_to : (slots id old g : ℕ) (me : Sat T) → me.0.role ≡ Taker → me.0.refers ≡ Some g → me.0.entered ≡ None → old % 2 ≡ 0
        → Allows (IsGuarded goes_on) slots id me 1 (λ n. either (n == old) (old + 1) n) (turned goes_on (step slots 1 old (old + 1) none) me)
    turns_to slots id old g me num ref out even s r wide at fits =
        let t : Truth T = r.truth in
        let v : View T = me.0 in let mine = r.each_seat id v at in let n : ℕ = v.number in let x : ℕ = get_or s.words 1 0 in let c : ℕ = turns t.holder (length t.log) in
        let told = turned goes_on (step slots 1 old (old + 1) none) me in
        exchanged x old (old + 1) (Goes s 1 id me told)
        (λ hit.
        let ref_is : t.refs n ≡ Some g = mine.refers_is num ∙ ref in let o = r.refers n g ref_is in
        let refs_gen : t.refs n ≡ Some t.gen = ref_is ∙ ap (λ z. Some z) o.0 in
        let is_even : c % 2 ≡ 0 = even_word c x old r.turn_is hit even in
        let none_has : t.holder ≡ None = none_turns t.holder (length t.log) is_even in
        let there = has_value t.stage (run t.gen t.log) t.value o.3 r.account.runs in let y : T = there.0 in
        let h : Held T = record { number = length t.log; generation = t.gen; value = y } in
        let w : View T = record v { entered = Some h } in
        let known = value_goes goes_on same further t y n v.plants r.account o.3 there.1 mine.told_plants in (
          w,
          takes 0 (Some y),
          at_home t.stage s.homes t.value o.3 (r.lies none_has) ∙ ap (λ z. some (some z)) there.1,
          record {
            truth = record t { holder = Some n };
            account = account_keeps goes_on t t.refs (Some n) r.account;
            fits = r.fits;
            two_words = length-set s.words 1 _ ∙ r.two_words;
            one_slot = length-set s.homes 0 none ∙ r.one_slot;
            few = r.few;
            top_is = ap (λ z. z / 4294967296) (get_or-set_other s.words 1 0 (old + 1) 0 (λ e. omega arith)) ∙ r.top_is;
            turn_is = get_or-set_same s.words 1 (old + 1) 0 (let e = r.two_words in omega arith) ∙ (next_word c x old r.turn_is hit even fits ∙ ap (λ z. (turns z (length t.log) + 1) % 18446744073709551616) none_has);
            odd = λ m e. subst (λ z. t.refs z ≡ Some t.gen) (same_nat n m e) refs_gen;
            refers = λ m k e. let o' = r.refers m k e in (o'.0, o'.1, ap (λ z. bit_at z m) (get_or-set_other s.words 1 0 (old + 1) 0 (λ e. omega arith)) ∙ o'.2, o'.3);
            lies = λ e. absurd cc;
            each_seat = seat_moves goes_on s r id v w t.value t.refs (Some n) t.log at num (λ m ne. refl) (λ m _. refl) (λ m _ e. absurd (cc (none_has, e))) (λ m ne e. absurd (ne (sym (same_nat n m e))))
                record {
                  below = mine.below;
                  chair_is = mine.chair_is;
                  refers_is = mine.refers_is;
                  idle = λ _ e. absurd cc;
                  entered_is = λ k e. let e' : h ≡ k = cc in (there.1 ∙ ap (λ (z : Held T). Some z.value) e', num, refl, sym (ap (λ (z : Held T). z.number) e'), sym (ap (λ (z : Held T). z.generation) e'));
                  took_is = mine.took_is;
                  apart = mine.apart;
                  told_plants = mine.told_plants;
                  told_lives = mine.told_lives;
                  deed_is = mine.deed_is;
                  owns = λ p. absurd (cc (num, p));
                };
          },
          ((λ _. (h, refl, sym (mine.refers_is num) ∙ refs_gen, subst (λ (l : List (Taken T)). IsAfter goes_on t.gen l y) (sym (mine.took_is num)) known.0, known.1, r.turn_is ∙ ap (λ z. turns z (length t.log) % 18446744073709551616) none_has)), λ miss. absurd (miss hit)),
        ))
        (λ miss. (record v { found = v.found ++ turn_word x ∷ [] }, keeps, tt, finds goes_on s r 1 id v (v.found ++ turn_word x ∷ []) at, ((λ hit. absurd (miss hit)), λ _. refl)))

  head_of : (c : List (ℕ × Option T)) (i : ℕ) (a b : Option T) → c ≡ (i, a) ∷ [] → c ≡ (i, b) ∷ [] → a ≡ b
  head_of c i a b p q = let e : (i, a) ≡ (i, b) = cc in ap (λ (z : ℕ × Option T). z.1) e

  same_some : {X : Type 0} (y y' : X) → Some y ≡ Some y' → y ≡ y'
  same_some y y' e = cc

  -- the turn word after the turn was given back
  given_word : (h : Option ℕ) (n : ℕ) (x l l' : ℕ) → h ≡ Some n → x ≡ turns h l % 18446744073709551616 → l' ≡ suc l → (x + 1) % 2 ^ 64 ≡ turns None l' % 18446744073709551616
  given_word h n x l l' is e more =
      let c : ℕ = 2 * l + 1 in
      ap (λ z. (z + 1) % 18446744073709551616) (e ∙ ap (λ z. turns z l % 18446744073709551616) is) ∙ (mod-add-mod c 18446744073709551616 1 ∙ ap (λ z. z % 18446744073709551616) (let z : c + 1 ≡ 2 * l' = omega arith in z))

  -- the seat with the turn gives the value back
  pub gives_back : LogLaws (Taken T) → TakingLaws T → (slots id : ℕ) (me : Sat T) (h : Held T) (y : T) → me.0.entered ≡ Some h → me.1 ≡ (0, Some y) ∷ [] → goes_on h.value y → Allows (IsGuarded goes_on) slots id me 1 (λ n. (n + 1) % 2 ^ 64) (λ _ m'. gave me m')
  gives_back logs takings slots id me h y has out grows s r wide at _ =
      let t : Truth T = r.truth in
      let v : View T = me.0 in let mine = r.each_seat id v at in let n : ℕ = v.number in
      let k = mine.entered_is h has in let num = k.1 in let holder_is = k.2 in
      let ref_is : t.refs n ≡ Some t.gen = r.odd n holder_is in let stands = (r.refers n t.gen ref_is).3 in
      let u : Taken T = taking h y in let signed : Signed (Taken T) = record { by = n; entry = u } in
      let log' : List (Signed (Taken T)) = t.log ++ signed ∷ [] in
      let w : View T = record v { entered = None; took = v.took ++ u ∷ [] } in
      let back : put_back s.homes me.1 ≡ set s.homes 0 (some (Some y)) = ap (put_back s.homes) out in (
        w,
        gives,
        tt,
        subst (λ (hs : List (maybe.Option (Option T))). IsGuarded goes_on record { words = set s.words 1 ((get_or s.words 1 0 + 1) % 2 ^ 64); homes = hs; views = set s.views id w }) (sym back) record {
          truth = record t { value = Some y; holder = None; log = log' };
          account = account_gives goes_on takings t t.refs None n u r.account stands (mine.below num) k.3 k.4 k.0 grows;
          fits = kept_gives logs n u t.log t.plants t.lives t.kept (mine.apart num) r.fits;
          two_words = length-set s.words 1 _ ∙ r.two_words;
          one_slot = length-set s.homes 0 _ ∙ r.one_slot;
          few = r.few;
          top_is = ap (λ z. z / 4294967296) (get_or-set_other s.words 1 0 _ 0 (λ e. omega arith)) ∙ r.top_is;
          turn_is = get_or-set_same s.words 1 _ 0 (let e = r.two_words in omega arith) ∙ given_word t.holder n (get_or s.words 1 0) (length t.log) (length log') holder_is r.turn_is (length_more t.log signed);
          odd = λ m e. absurd cc;
          refers = λ m g e. let o = r.refers m g e in (o.0, o.1, ap (λ z. bit_at z m) (get_or-set_other s.words 1 0 _ 0 (λ e. omega arith)) ∙ o.2, o.3);
          lies = λ _. lies_back t.stage (set s.homes 0 (some (Some y))) (Some y) stands (set_here s.homes 0 (some (Some y)) (let o = r.one_slot in omega arith));
          each_seat = seat_moves goes_on s r id v w (Some y) t.refs None log' at num (λ m ne. those_other logs n u t.log m (λ q. ne (sym q))) (λ m _. refl) (λ m ne e. absurd (ne (sym (same_nat n m (sym holder_is ∙ e))))) (λ m ne e. absurd cc)
              record {
                below = mine.below;
                chair_is = mine.chair_is;
                refers_is = mine.refers_is;
                idle = λ _ _ e. absurd cc;
                entered_is = λ y e. absurd cc;
                took_is = λ _. ap (λ (l : List (Taken T)). l ++ u ∷ []) (mine.took_is num) ∙ sym (those_same logs n u t.log);
                apart = mine.apart;
                told_plants = mine.told_plants;
                told_lives = mine.told_lives;
                deed_is = mine.deed_is;
                owns = λ p. absurd (cc (num, p));
              };
        },
        (λ h' y' has' out' i. (record v { entered = None; took = v.took ++ taking (same_some h h' (sym has ∙ has') i) (same_some y y' (head_of me.1 0 (Some y) (Some y') out out') i) ∷ [] }, ap rest out i)),
      )
