-- The first seat makes the others, and takes them in again.
use Rattle.std.proofs.Common.{◌≡◌, ℕ, zero, suc, ◌+◌, ◌<◌, ◌≢◌, true, le_refl, List, [], ◌∷◌, ◌++◌, length, set, subst, sym, refl, ap, ◌∙◌, ⊎_elim, arith, append-nil as append_nil}
use mathlib.Core.Logic.{dite}
use mathlib.Core.Option.{some, some-injective, some-ne-none}
use native.Mathlib.Decide.{ℕ_discrete}
use lib.ListN.{get_elem?}
use Rattle.std.specs.Prelude.{Option, Some, None}
use Rattle.atomic_table.specs.Table.{State, Me, Splits, Joins, opening}
use Rattle.atomic_table.proofs.Lists.{at_set}
use Rattle.uv_num.specs.Place.{changed}
use Rattle.uv_order.specs.declared.signed.Signed.{Signed}
use Rattle.uv_order.specs.declared.signed.TheConstants.{SEATS}
use Rattle.uv_order.specs.Signed.{nobody, sign, those}
use Rattle.uv_order.specs.Names.{NameNobody}
use Rattle.uv_order.specs.Laws.{LogLaws}
use Rattle.uv_desk.specs.declared.view.View.{View}
use Rattle.uv_desk.specs.declared.view.Kept.{Kept}
use Rattle.uv_desk.specs.Rule.{counts_if, IsApart, Knows, Ordered}
use Rattle.uv_desk.specs.Views.{newcomer, guest, further, kept, with_kept}
use Rattle.uv_desk.proofs.Tickets.{changed_here, changed_else}
use Rattle.uv_desk.proofs.Keeping.{all_set, other_number, at_new, guests}

module _ {M E O : Type 0} (history : M → List E) (own : M → ℕ → O) (names : E → Option ℕ) (start : M) where
  abbrev V : Type 0
  V = View M E O

  abbrev St : Type 0
  St = State (Option M) V

  abbrev Sat : Type 0
  Sat = Me (Option M) V

  abbrev K : (s : St) → Ordered history own names start s → ℕ → V → Type 0
  K s r = Knows history own names start r.machine r.log r.served r.ticket r.chair r.holder r.latest r.given r.whole r.joined

  -- the first seat takes in the number before its `whole`, and keeps what that seat saw and owned
  pub joins : (id : ℕ) (v : V) (other : ℕ) (w : V) → v.numbered ≡ true → w.numbered ≡ true → w.held ≡ None → w.ticket ≡ None → v.number ≡ 0 → w.number + 1 ≡ v.whole
      → Joins (Ordered history own names start) id v other w (with_kept v (kept w) w.number) (guest [])
  joins id v other w num num' held' tick zero_is next s r at apart at' =
      let both : V = with_kept v (kept w) w.number in
      let was : get_elem? s.views other ≡ some w = ⊎_elim (λ (x : (other ≡ id) × (both ≡ w)). absurd (apart x.0)) (λ x. x.1) (at_set s.views id other both w at') in
      let kw = r.each_seat other w was in let kv = r.each_seat id v at in
      let whole_is : v.whole ≡ r.whole = kv.whole_is num zero_is in let fw = r.few in
      let joined' : List (Kept E O) = kept w ∷ r.joined in
      let k' : ℕ → V → Type 0 = Knows history own names start r.machine r.log r.served r.ticket r.chair r.holder r.latest r.given w.number joined' in
      record {
        machine = r.machine;
        log = r.log;
        drawn = r.drawn;
        served = r.served;
        ticket = r.ticket;
        chair = r.chair;
        holder = r.holder;
        latest = r.latest;
        given = r.given;
        whole = w.number;
        joined = joined';
        log_is = r.log_is;
        named = r.named;
        authors = r.authors;
        fits = ((kw.mine_is num', kw.own_is num', kw.last_is num'), r.fits);
        two_words = r.two_words;
        one_slot = r.one_slot;
        drawn_is = r.drawn_is;
        served_is = r.served_is;
        counted = r.counted;
        within = r.within;
        apart = r.apart;
        held_by = r.held_by;
        at_home = r.at_home;
        few = (omega arith, fw.1);
        free = λ n le. dite (ℕ_discrete n w.number) (λ q. ap r.ticket q ∙ (kw.ticket_is num' ∙ tick)) (λ q. r.free n (omega arith));
        last_given = r.last_given;
        others = r.others;
        each_seat = all_set k' (set s.views id both) other (guest [])
            (guests history own names start r.machine r.log r.served r.ticket r.chair r.holder r.latest r.given w.number joined' other [] (record { rest = r.log; goes_on = refl }))
            (λ j u ne e. all_set (λ j u. j ≢ other → k' j u) s.views id both
            (λ ne. let nz : w.number ≢ v.number = other_number history own names start s r id other v w num num' (λ q. apart q) kv kw in record {
              seen_is = kv.seen_is;
              told_is = kv.told_is;
              mine_is = kv.mine_is;
              below = λ p. omega arith;
              chair_is = kv.chair_is;
              ticket_is = kv.ticket_is;
              own_is = kv.own_is;
              idle = kv.idle;
              holds = kv.holds;
              last_is = kv.last_is;
              start_is = kv.start_is;
              next_is = kv.next_is;
              whole_is = λ _ _. refl;
              joined_is = λ p q. ap (λ (l : List (Kept E O)). kept w ∷ l) (kv.joined_is p q);
              apart = λ p. (nz, kv.apart p);
            })
            (λ j u apart' e ne. let ku = r.each_seat j u e in record {
              seen_is = ku.seen_is;
              told_is = ku.told_is;
              mine_is = ku.mine_is;
              below = λ p. let b = ku.below p in let nw : u.number ≢ w.number = other_number history own names start s r other j w u num' p ne kw ku in omega arith;
              chair_is = ku.chair_is;
              ticket_is = ku.ticket_is;
              own_is = ku.own_is;
              idle = ku.idle;
              holds = ku.holds;
              last_is = ku.last_is;
              start_is = ku.start_is;
              next_is = ku.next_is;
              whole_is = λ p q. absurd (other_number history own names start s r id j v u num p apart' kv ku (q ∙ sym zero_is));
              joined_is = λ p q. absurd (other_number history own names start s r id j v u num p apart' kv ku (q ∙ sym zero_is));
              apart = λ p. ((λ q. other_number history own names start s r other j w u num' p ne kw ku (sym q)), ku.apart p);
            }) j u e ne);
      }

  module _ (laws : LogLaws E) where
    -- the first seat makes the next
    pub forks : (id : ℕ) (v : V) (m : M) → v.numbered ≡ true → v.number ≡ 0 → v.start ≡ Some m → v.next < SEATS → v.whole ≡ v.next → v.joined ≡ [] → Splits (Ordered history own names start) id v (record v { next = v.next + 1; whole = v.whole + 1 }) (further own v v.start)
    forks id v m num zero_is is room whole_next none_joined s r at =
        let kv = r.each_seat id v at in let st = kv.start_is m is in let g : ℕ = r.given in let next_is : v.next ≡ g = kv.next_is num zero_is in
        let all_there : r.whole ≡ g = sym (kv.whole_is num zero_is) ∙ (whole_next ∙ next_is) in
        let left : V = record v { next = v.next + 1; whole = v.whole + 1 } in let right : V = further own v (Some m) in let vs : List V = set s.views id left in
        let chair' : ℕ → ℕ = changed r.chair g (length vs) in
        let same : (n : ℕ) → n < r.whole → chair' n ≡ r.chair n = λ n lt. changed_else r.chair g (length vs) n (λ q. omega arith) in
        let free : r.ticket g ≡ None = r.free g (omega arith) in
        let empty : r.joined ≡ [] = sym (kv.joined_is num zero_is) ∙ none_joined in
        let k' : ℕ → V → Type 0 = Knows history own names start r.machine r.log r.served r.ticket chair' r.holder r.latest (suc g) (suc g) r.joined in
        let fw = r.few in
        subst (λ (x : Option M). Ordered history own names start record { words = s.words; homes = s.homes; views = vs ++ further own v x ∷ [] }) (sym is) record {
          machine = r.machine;
          log = r.log;
          drawn = r.drawn;
          served = r.served;
          ticket = r.ticket;
          chair = chair';
          holder = r.holder;
          latest = r.latest;
          given = suc g;
          whole = suc g;
          joined = r.joined;
          log_is = r.log_is;
          named = r.named;
          authors = laws.signing.below_more g r.log r.authors;
          fits = r.fits;
          two_words = r.two_words;
          one_slot = r.one_slot;
          drawn_is = r.drawn_is;
          served_is = r.served_is;
          counted = let z : counts_if (r.ticket g) ≡ 0 = ap counts_if free in let c = r.counted in omega arith;
          within = r.within;
          apart = r.apart;
          held_by = r.held_by;
          at_home = r.at_home;
          few = (omega arith, omega arith);
          free = λ n le. r.free n (omega arith);
          last_given = let l = r.last_given in omega arith;
          others = λ n le. r.others n (omega arith);
          each_seat = λ j u e. ⊎_elim
              (λ was. all_set k' s.views id left
              record {
                seen_is = kv.seen_is;
                told_is = kv.told_is;
                mine_is = kv.mine_is;
                below = λ p. let b = kv.below p in omega arith;
                chair_is = λ p. same v.number (kv.below p) ∙ kv.chair_is p;
                ticket_is = kv.ticket_is;
                own_is = kv.own_is;
                idle = kv.idle;
                holds = kv.holds;
                last_is = kv.last_is;
                start_is = kv.start_is;
                next_is = λ _ _. omega arith;
                whole_is = λ _ _. omega arith;
                joined_is = kv.joined_is;
                apart = kv.apart;
              }
              (λ j u ne e. let ku = r.each_seat j u e in record {
                seen_is = ku.seen_is;
                told_is = ku.told_is;
                mine_is = ku.mine_is;
                below = λ p. let b = ku.below p in omega arith;
                chair_is = λ p. same u.number (ku.below p) ∙ ku.chair_is p;
                ticket_is = ku.ticket_is;
                own_is = ku.own_is;
                idle = ku.idle;
                holds = ku.holds;
                last_is = ku.last_is;
                start_is = ku.start_is;
                next_is = λ p q. absurd (other_number history own names start s r id j v u num p ne kv ku (q ∙ sym zero_is));
                whole_is = λ p q. absurd (other_number history own names start s r id j v u num p ne kv ku (q ∙ sym zero_is));
                joined_is = ku.joined_is;
                apart = ku.apart;
              }) j u was)
              (λ (new : (right ≡ u) × (j ≡ length vs)). subst (k' j) new.0 record {
                seen_is = kv.seen_is;
                told_is = record { rest = r.log; goes_on = refl };
                mine_is = λ _. let st = kv.seen_is in record { rest = st.rest; goes_on = st.goes_on; silent = ap (λ (z : ℕ). those z st.rest) next_is ∙ laws.signing.silent_back g v.seen st.rest (ap (those g) (sym st.goes_on) ∙ laws.signing.silent_below g (omega arith) r.log r.authors) };
                below = λ _. omega arith;
                chair_is = λ _. ap chair' next_is ∙ (changed_here r.chair g (length vs) ∙ sym new.1);
                ticket_is = λ _. ap r.ticket next_is ∙ free;
                own_is = λ _. ap (λ (o : O). Some o) (ap (λ (y : M). own y v.next) st.0 ∙ (ap (own start) next_is ∙ (sym (r.others g (le_refl g)) ∙ ap (own r.machine) (sym next_is))));
                idle = λ _ _ q. absurd (cc (r.held_by v.next q, ap r.ticket next_is, free));
                holds = λ y q. absurd cc;
                last_is = λ _ q. let l = r.last_given in absurd (omega arith);
                start_is = λ y q. absurd cc;
                next_is = λ _ q. let l = r.last_given in absurd (omega arith);
                whole_is = λ _ q. let l = r.last_given in absurd (omega arith);
                joined_is = λ _ q. let l = r.last_given in absurd (omega arith);
                apart = λ _. subst (IsApart v.next) (sym empty) tt;
              })
              (at_new vs right u j e);
        }

    only_one : (a b : V) (j : ℕ) → get_elem? (a ∷ []) j ≡ some b → (a ≡ b) × (j ≡ 0)
    only_one a b zero e = (some-injective a b e, refl)
    only_one a b (suc j) e = absurd (some-ne-none b (sym e))

    pub begins : NameNobody names (history start) → Ordered history own names start (opening (0 ∷ 0 ∷ []) (Some start ∷ []) (newcomer start (history start) (own start 0)))
    begins named = let log : List (Signed E) = sign nobody (history start) in record {
      machine = start;
      log = log;
      drawn = 0;
      served = 0;
      ticket = λ _. None;
      chair = λ _. 0;
      holder = None;
      latest = 0;
      given = 1;
      whole = 1;
      joined = [];
      log_is = laws.signing.entries_sign nobody (history start);
      named = laws.naming.named_nobody names nobody (history start) named;
      authors = laws.signing.below_nobody 1 (history start);
      fits = tt;
      two_words = refl;
      one_slot = refl;
      drawn_is = refl;
      served_is = refl;
      counted = refl;
      within = λ n k e. absurd cc;
      apart = λ n n' k e. absurd cc;
      held_by = λ n e. absurd cc;
      at_home = λ _. refl;
      few = (omega arith, omega arith);
      free = λ n le. refl;
      last_given = omega arith;
      others = λ n le. refl;
      each_seat = λ j u e. let o = only_one (newcomer start (history start) (own start 0)) u j e in
          subst (λ (y : ℕ × V). Knows history own names start start log 0 (λ _. None) (λ _. 0) None 0 1 1 [] y.0 y.1) (λ i. (sym o.1 i, o.0 i)) record {
            seen_is = record { rest = []; goes_on = sym (append_nil log) };
            told_is = record { rest = log; goes_on = refl };
            mine_is = λ _. laws.seeing.quiet_whole 0 log;
            below = λ _. omega arith;
            chair_is = λ _. refl;
            ticket_is = λ _. refl;
            own_is = λ _. refl;
            idle = λ _ _ e. absurd cc;
            holds = λ m e. absurd cc;
            last_is = λ _ _. refl;
            start_is = λ m e. let z : start ≡ m = cc in (sym z, refl, refl);
            next_is = λ _ _. refl;
            whole_is = λ _ _. refl;
            joined_is = λ _ _. refl;
            apart = λ _. tt;
          };
    }

    pub begins_at : NameNobody names (history start) → (xs : List (Option M)) → xs ≡ Some start ∷ [] → Ordered history own names start (opening (0 ∷ 0 ∷ []) xs (newcomer start (history start) (own start 0)))
    begins_at named xs e = subst (λ (l : List (Option M)). Ordered history own names start (opening (0 ∷ 0 ∷ []) l (newcomer start (history start) (own start 0)))) (sym e) (begins named)
