-- The steps of a turn keep the rule: a ticket is drawn, the machine is taken out, and the next ticket is served.
use Rattle.std.proofs.Common.{◌≡◌, ℕ, ◌+◌, ◌%◌, ◌<◌, ◌≤◌, ◌≢◌, true, List, [], ◌∷◌, ◌++◌, length, set, get_or, subst, sym, refl, ap, ◌∙◌, arith, append-nil as append_nil, append_assoc, length-set, get_or-set_same, get_or-set_other}
use Rattle.std.proofs.lemmas.List.{set-get_or, append_cancel_left}
use Rattle.std.proofs.Math.Nat.{mod-add-mod}
use mathlib.Core.Logic.{dite}
use mathlib.Core.Option.{some, none, some-injective, some-ne-none}
use native.Mathlib.Decide.{ℕ_discrete}
use Rattle.std.specs.Prelude.{Option, Some, None}
use Rattle.atomic_table.specs.Table.{State, Me, step, keeps, takes, gives, put_back, rest, Allows}
use Rattle.atomic_table.proofs.Lists.{set_here, set_again, one_turn}
use mathlib.Core.Option as maybe
use Rattle.uv_num.specs.Prefix.{IsPrefix}
use Rattle.uv_num.specs.Place.{changed}
use Rattle.uv_order.specs.declared.signed.Signed.{Signed}
use Rattle.uv_order.specs.Signed.{entries, sign, AreBelow}
use Rattle.uv_order.specs.Seen.{Quiet}
use Rattle.uv_order.specs.Names.{NameOnly, AreNamed}
use Rattle.uv_order.specs.Laws.{LogLaws}
use Rattle.uv_desk.specs.declared.view.View.{View}
use Rattle.uv_desk.specs.Rule.{turn, AreKept, Knows, Ordered}
use Rattle.uv_desk.specs.Plays.{Has, looked, passed, drew}
use Rattle.uv_desk.proofs.Tickets.{changed_here, changed_else, changed_at, waits_more, waits_less, waits_few}
use Rattle.uv_desk.proofs.Keeping.{all_set, same_machine, none_holds_it, below_given, other_number}
use Rattle.uv_desk.proofs.Keeping.{kept_turns, kept_latest}

module _ {M E O : Type 0} (history : M → List E) (own : M → ℕ → O) (names : E → Option ℕ) (start : M) where
  abbrev V : Type 0
  V = View M E O

  abbrev St : Type 0
  St = State (Option M) V

  abbrev Sat : Type 0
  Sat = Me (Option M) V

  abbrev K : (s : St) → Ordered history own names start s → ℕ → V → Type 0
  K s r = Knows history own names start r.machine r.log r.served r.ticket r.chair r.holder r.latest r.given r.whole r.joined

  pub draws : (slots id : ℕ) (me : Sat) → me.0.numbered ≡ true → me.0.ticket ≡ None → me.0.held ≡ None → Allows (Ordered history own names start) slots id me 0 (λ n. (n + 1) % turn) (drew (step slots 0 1 0 none) me)
  draws slots id me num tick hel s r wide at _ =
      let v : V = me.0 in let mine = r.each_seat id v at in let n : ℕ = v.number in let t : ℕ = r.drawn in
      let w : V = record v { ticket = Some t } in let ticket' : ℕ → Option ℕ = changed r.ticket n (Some t) in
      let free : r.ticket n ≡ None = mine.ticket_is num ∙ tick in
      let more = waits_more r.ticket n t r.given free (below_given history own names start s r v (mine.below num)) in let old = r.counted in
      let served : ℕ = r.served in (
        w,
        keeps,
        tt,
        record {
          machine = r.machine;
          drawn = t + 1;
          served = r.served;
          ticket = ticket';
          chair = r.chair;
          holder = r.holder;
          latest = r.latest;
          log = r.log;
          joined = r.joined;
          log_is = r.log_is;
          named = r.named;
          authors = r.authors;
          fits = r.fits;
          given = r.given;
          whole = r.whole;
          few = r.few;
          free = λ i le. changed_else r.ticket n (Some t) i (λ q. let b = mine.below num in omega arith) ∙ r.free i le;
          last_given = r.last_given;
          others = r.others;
          two_words = length-set s.words 0 _ ∙ r.two_words;
          one_slot = r.one_slot;
          drawn_is = get_or-set_same s.words 0 _ 0 (let e = r.two_words in omega arith) ∙ (ap (λ (x : ℕ). (x + 1) % turn) r.drawn_is ∙ mod-add-mod t turn 1);
          served_is = get_or-set_other s.words 0 1 _ 0 (λ e. omega arith) ∙ r.served_is;
          counted = omega arith;
          within = λ i k. changed_at r.ticket n (Some t) (λ i x. x ≡ Some k → (served ≤ k) × (k < t + 1)) i (λ e. let e' : t ≡ k = cc in (omega arith, omega arith)) (λ _ e. let b = r.within i k e in (b.0, omega arith));
          apart = λ i i' k. changed_at r.ticket n (Some t) (λ i x. x ≡ Some k → ticket' i' ≡ Some k → i ≡ i') i
              (λ e. changed_at r.ticket n (Some t) (λ i' x. x ≡ Some k → n ≡ i') i' (λ _. refl) (λ _ e'. let b = r.within i' k e' in let e'' : t ≡ k = cc in absurd (omega arith)))
              (λ _ e. changed_at r.ticket n (Some t) (λ i' x. x ≡ Some k → i ≡ i') i' (λ e'. let b = r.within i k e in let e'' : t ≡ k = cc in absurd (omega arith)) (λ _ e'. r.apart i i' k e e'));
          held_by = λ h e. changed_at r.ticket n (Some t) (λ h x. (h ≢ n) → x ≡ Some served) h (λ ne. absurd (ne refl)) (λ _ _. r.held_by h e) (λ is. let a = r.held_by h e in let b : r.ticket h ≡ None = ap r.ticket is ∙ free in absurd cc);
          at_home = r.at_home;
          each_seat = all_set (Knows history own names start r.machine r.log r.served ticket' r.chair r.holder r.latest r.given r.whole r.joined) s.views id w
              record {
                seen_is = mine.seen_is;
                told_is = mine.told_is;
                last_is = mine.last_is;
                start_is = mine.start_is;
                whole_is = mine.whole_is;
                below = mine.below;
                chair_is = mine.chair_is;
                ticket_is = λ _. changed_here r.ticket n (Some t);
                mine_is = mine.mine_is;
                next_is = mine.next_is;
                joined_is = mine.joined_is;
                apart = mine.apart;
                own_is = mine.own_is;
                idle = mine.idle;
                holds = λ m e. absurd (cc (hel, e));
              }
              (λ j u ne e. let ku = r.each_seat j u e in record {
                seen_is = ku.seen_is;
                told_is = ku.told_is;
                last_is = ku.last_is;
                start_is = ku.start_is;
                whole_is = ku.whole_is;
                below = ku.below;
                chair_is = ku.chair_is;
                ticket_is = λ p. changed_else r.ticket n (Some t) u.number (other_number history own names start s r id j v u num p ne mine ku) ∙ ku.ticket_is p;
                mine_is = ku.mine_is;
                next_is = ku.next_is;
                joined_is = ku.joined_is;
                apart = ku.apart;
                own_is = ku.own_is;
                idle = ku.idle;
                holds = ku.holds;
              });
        },
        (t, r.drawn_is, refl),
      )

  module _ (laws : LogLaws E) where
    pub looks : (slots id : ℕ) (me : Sat) (k : ℕ) → me.0.numbered ≡ true → me.0.ticket ≡ Some k → me.0.held ≡ None → Allows (Ordered history own names start) slots id me 1 (λ n. n) (looked history own names (step slots 1 0 0 none) me)
    looks slots id me k num tick hel s r wide at _ =
        let v : V = me.0 in let mine = r.each_seat id v at in let n : ℕ = v.number in let x : ℕ = get_or s.words 1 0 in
        let told = looked history own names (step slots 1 0 0 none) me in
        let same : set s.words 1 x ≡ s.words = set-get_or s.words 1 0 in
        dite (ℕ_discrete x (k % turn))
        (λ hit.
        let served : ℕ = r.served in let drawn : ℕ = r.drawn in let m : M = r.machine in
        let mine_is : r.ticket n ≡ Some k = mine.ticket_is num ∙ tick in
        let b = r.within n k mine_is in let few = waits_few r.ticket r.given in let few' = r.few.1 in let all = r.counted in
        let is : served ≡ k = one_turn served k turn b.0 (omega arith) (sym r.served_is ∙ hit) in
        let first : r.ticket n ≡ Some served = mine_is ∙ ap (λ (j : ℕ). Some j) (sym is) in
        let log : List (Signed E) = r.log in let w : V = record v { held = Some m; seen = log } in
        let free : (h : ℕ) → r.holder ≢ Some h = λ h e. mine.idle num hel (e ∙ ap (λ (j : ℕ). Some j) (r.apart h n served (r.held_by h e) first)) in
        let none_holds : r.holder ≡ None = none_holds_it r.holder free in (
          w,
          takes 0 (Some m),
          r.at_home none_holds,
          record {
            machine = m;
            drawn = drawn;
            served = served;
            ticket = r.ticket;
            chair = r.chair;
            holder = Some n;
            latest = n;
            log = r.log;
            joined = r.joined;
            log_is = r.log_is;
            named = r.named;
            authors = r.authors;
            fits = kept_latest (own m) log r.latest n r.joined (mine.apart num) r.fits;
            given = r.given;
            whole = r.whole;
            few = r.few;
            free = r.free;
            last_given = below_given history own names start s r v (mine.below num);
            others = r.others;
            two_words = ap (λ (ws : List ℕ). length ws) same ∙ r.two_words;
            one_slot = length-set s.homes 0 none ∙ r.one_slot;
            drawn_is = ap (λ (ws : List ℕ). get_or ws 0 0) same ∙ r.drawn_is;
            served_is = ap (λ (ws : List ℕ). get_or ws 1 0) same ∙ r.served_is;
            counted = r.counted;
            within = r.within;
            apart = r.apart;
            held_by = λ h e. let e' : n ≡ h = cc in subst (λ (j : ℕ). r.ticket j ≡ Some served) e' first;
            at_home = λ e. absurd cc;
            each_seat = all_set (Knows history own names start m r.log served r.ticket r.chair (Some n) n r.given r.whole r.joined) s.views id w
                record {
                  seen_is = record { rest = []; goes_on = sym (append_nil log) };
                  told_is = mine.told_is;
                  last_is = λ _ _. refl;
                  start_is = mine.start_is;
                  whole_is = mine.whole_is;
                  below = mine.below;
                  chair_is = mine.chair_is;
                  ticket_is = mine.ticket_is;
                  mine_is = λ _. laws.seeing.quiet_whole n log;
                  next_is = mine.next_is;
                  joined_is = mine.joined_is;
                  apart = mine.apart;
                  own_is = mine.own_is;
                  idle = λ _ e. absurd cc;
                  holds = λ y e. let e' : m ≡ y = cc in (sym e', num, refl, tick ∙ ap (λ (j : ℕ). Some j) (sym is), refl);
                }
                (λ j u ne e. let ku = r.each_seat j u e in record {
                  seen_is = ku.seen_is;
                  told_is = ku.told_is;
                  last_is = λ p q. absurd (other_number history own names start s r id j v u num p ne mine ku q);
                  start_is = ku.start_is;
                  whole_is = ku.whole_is;
                  below = ku.below;
                  chair_is = ku.chair_is;
                  ticket_is = ku.ticket_is;
                  mine_is = ku.mine_is;
                  next_is = ku.next_is;
                  joined_is = ku.joined_is;
                  apart = ku.apart;
                  own_is = ku.own_is;
                  idle = λ p _ q. let q' : n ≡ u.number = cc in other_number history own names start s r id j v u num p ne mine ku (sym q');
                  holds = λ y q. let z : r.holder ≡ Some u.number = (ku.holds y q).2 in absurd (cc (none_holds, z));
                });
          },
          (λ k' e. let e' : k ≡ k' = cc in ((λ _. (m, log, refl, (r.log_is, mine.mine_is num, r.named, mine.own_is num))), λ not. absurd (not (hit ∙ ap (λ (j : ℕ). j % turn) e')))),
        ))
        (λ miss. (
          v,
          keeps,
          tt,
          subst (λ (y : List ℕ × List V). Ordered history own names start record { words = y.0; homes = s.homes; views = y.1 }) (λ i. (sym same i, sym (set_again s.views id v at) i)) r,
          λ k' e. let e' : k ≡ k' = cc in ((λ hit. absurd (miss (hit ∙ ap (λ (j : ℕ). j % turn) (sym e')))), λ _. refl),
        ))

    pub passes : (slots id : ℕ) (me : Sat) (m₀ m : M) → me.0.numbered ≡ true → me.0.held ≡ Some m₀ → Has history own names me m → (made : List E) → history m ≡ history m₀ ++ made → NameOnly names me.0.number made → ((n : ℕ) → n ≢ me.0.number → own m n ≡ own m₀ n)
        → Allows (Ordered history own names start) slots id me 1 (λ n. (n + 1) % turn) (λ _ me'. passed history own names me me')
    passes slots id me m₀ m num hel has made grown only others s r wide at _ =
        let v : V = me.0 in let mine = r.each_seat id v at in let n : ℕ = v.number in let served : ℕ = r.served in let drawn : ℕ = r.drawn in
        let h = mine.holds m₀ hel in let is : m₀ ≡ r.machine = h.0 in let holder_is : r.holder ≡ Some n = h.2 in
        let first : r.ticket n ≡ Some served = r.held_by n holder_is in
        let ticket' : ℕ → Option ℕ = changed r.ticket n None in
        let seen_is : v.seen ≡ r.log = h.4 in let log' : List (Signed E) = v.seen ++ sign n made in
        let lt : n < r.given = below_given history own names start s r v (mine.below num) in
        let grows : (l : List (Signed E)) → IsPrefix l r.log → IsPrefix l log' = λ l st. record { rest = st.rest ++ sign n made; goes_on = ap (λ (z : List (Signed E)). z ++ sign n made) (seen_is ∙ st.goes_on) ∙ append_assoc l st.rest (sign n made) } in
        let same_log : r.log ++ sign n made ≡ log' = ap (λ (z : List (Signed E)). z ++ sign n made) (sym seen_is) in
        let read : entries v.seen ≡ history m₀ = ap (λ (z : List (Signed E)). entries z) seen_is ∙ (r.log_is ∙ ap history (sym is)) in
        let less = waits_less r.ticket n served r.given first (below_given history own names start s r v (mine.below num)) in let old = r.counted in
        let w : V = record v { ticket = None; held = None; seen = log'; own = Some (own m n) } in
        let others' : (i : ℕ) → i ≢ n → own m i ≡ own r.machine i = λ i ne. others i ne ∙ ap (λ (y : M). own y i) is in
        let back : put_back s.homes me.1 ≡ set s.homes 0 (some (Some m)) = ap (put_back s.homes) has in (
          w,
          gives,
          tt,
          subst (λ (hs : List (maybe.Option (Option M))). Ordered history own names start record { words = set s.words 1 ((get_or s.words 1 0 + 1) % turn); homes = hs; views = set s.views id w }) (sym back) record {
            machine = m;
            drawn = drawn;
            served = served + 1;
            ticket = ticket';
            chair = r.chair;
            holder = None;
            latest = n;
            log = log';
            joined = r.joined;
            log_is = laws.signing.entries_two v.seen (sign n made) ∙ (ap (λ (z : List E). z ++ entries (sign n made)) read ∙ (ap (λ (z : List E). history m₀ ++ z) (laws.signing.entries_sign n made) ∙ sym grown));
            named = subst (λ (z : List (Signed E)). AreNamed names z) same_log (laws.naming.named_two names r.log (sign n made) r.named (laws.naming.named_sign names n made only));
            authors = subst (λ (z : List (Signed E)). AreBelow r.given z) same_log (laws.signing.below_two r.given r.log (sign n made) r.authors (laws.signing.below_sign r.given n lt made));
            fits = subst (λ (z : List (Signed E)). AreKept (own m) z n r.joined) same_log (kept_turns laws (own r.machine) (own m) r.log r.latest n made r.joined (mine.apart num) others' r.fits);
            given = r.given;
            whole = r.whole;
            few = r.few;
            free = λ i le. changed_else r.ticket n None i (λ q. let b = mine.below num in omega arith) ∙ r.free i le;
            last_given = below_given history own names start s r v (mine.below num);
            others = λ i le. others' i (λ q. omega arith) ∙ r.others i le;
            two_words = length-set s.words 1 _ ∙ r.two_words;
            one_slot = length-set s.homes 0 _ ∙ r.one_slot;
            drawn_is = get_or-set_other s.words 1 0 _ 0 (λ e. omega arith) ∙ r.drawn_is;
            served_is = get_or-set_same s.words 1 _ 0 (let e = r.two_words in omega arith) ∙ (ap (λ (x : ℕ). (x + 1) % turn) r.served_is ∙ mod-add-mod served turn 1);
            counted = omega arith;
            within = λ i k. changed_at r.ticket n None (λ i x. x ≡ Some k → (served + 1 ≤ k) × (k < drawn)) i (λ e. absurd cc)
                (λ ne e. let b = r.within i k e in let apart : k ≢ served = λ q. ne (r.apart i n k e (first ∙ ap (λ (j : ℕ). Some j) (sym q))) in (omega arith, b.1));
            apart = λ i i' k. changed_at r.ticket n None (λ i x. x ≡ Some k → ticket' i' ≡ Some k → i ≡ i') i (λ e. absurd cc)
                (λ _ e. changed_at r.ticket n None (λ i' x. x ≡ Some k → i ≡ i') i' (λ e'. absurd cc) (λ _ e'. r.apart i i' k e e'));
            held_by = λ h e. absurd cc;
            at_home = λ _. set_here s.homes 0 (some (Some m)) (let e = r.one_slot in omega arith);
            each_seat = all_set (Knows history own names start m log' (served + 1) ticket' r.chair None n r.given r.whole r.joined) s.views id w
                record {
                  seen_is = record { rest = []; goes_on = sym (append_nil log') };
                  told_is = grows v.told mine.told_is;
                  last_is = λ _ _. refl;
                  start_is = mine.start_is;
                  whole_is = mine.whole_is;
                  below = mine.below;
                  chair_is = mine.chair_is;
                  ticket_is = λ _. changed_here r.ticket n None;
                  mine_is = λ _. laws.seeing.quiet_whole n log';
                  next_is = mine.next_is;
                  joined_is = mine.joined_is;
                  apart = mine.apart;
                  own_is = λ _. refl;
                  idle = λ _ _ e. absurd cc;
                  holds = λ y e. absurd cc;
                }
                (λ j u ne e. let ku = r.each_seat j u e in record {
                  seen_is = grows u.seen ku.seen_is;
                  told_is = grows u.told ku.told_is;
                  last_is = λ p q. absurd (other_number history own names start s r id j v u num p ne mine ku q);
                  start_is = ku.start_is;
                  whole_is = ku.whole_is;
                  below = ku.below;
                  chair_is = ku.chair_is;
                  ticket_is = λ p. changed_else r.ticket n None u.number (other_number history own names start s r id j v u num p ne mine ku) ∙ ku.ticket_is p;
                  mine_is = λ p. subst (λ (z : List (Signed E)). Quiet u.number z u.seen) same_log (laws.seeing.quiet_grows u.number r.log u.seen (sign n made) (ku.mine_is p) (laws.signing.silent_other u.number n (λ q. other_number history own names start s r id j v u num p ne mine ku (sym q)) made));
                  next_is = ku.next_is;
                  joined_is = ku.joined_is;
                  apart = ku.apart;
                  own_is = λ p. ku.own_is p ∙ ap (λ (z : O). Some z) (sym (others' u.number (other_number history own names start s r id j v u num p ne mine ku)));
                  idle = λ _ _ q. absurd cc;
                  holds = λ y q. let k' = ku.holds y q in let q' : n ≡ u.number = cc (holder_is, k'.2) in absurd (other_number history own names start s r id j v u num k'.1 ne mine ku (sym q'));
                });
          },
          λ y made' e g. let y' : m ≡ y = same_machine me.1 m y has e in
              let made_is : made ≡ made' = append_cancel_left (history m₀) made made' (sym grown ∙ (ap history y' ∙ (g ∙ ap (λ (z : List E). z ++ made') read))) in
              λ i. (record v { ticket = None; held = None; seen = v.seen ++ sign n (made_is i); own = Some (own (y' i) n) }, rest_of has i),
        )
      where
        rest_of : me.1 ≡ (0, Some m) ∷ [] → rest me.1 ≡ []
        rest_of e = ap rest e
