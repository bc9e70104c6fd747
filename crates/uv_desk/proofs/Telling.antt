-- The steps of a meeting keep the rule: a guest is made, a seat takes it in, and learns what it was told.
use Rattle.std.proofs.Common.{◌≡◌, ℕ, ◌≤◌, true, false, List, [], ◌∷◌, ◌++◌, length, set, get_or, subst, sym, refl, ap, ⊎_elim, arith, length-append}
use Rattle.std.proofs.lemmas.List.{set-get_or}
use mathlib.Core.Option.{some}
use lib.ListN.{get_elem?}
use Rattle.std.specs.Prelude.{Option}
use Rattle.atomic_table.specs.Table.{State, Me, keeps, Allows, Splits, Joins}
use Rattle.atomic_table.proofs.Lists.{at_set, set_again}
use Rattle.uv_num.specs.Prefix.{IsPrefix}
use Rattle.uv_order.specs.declared.signed.Signed.{Signed}
use Rattle.uv_order.specs.Seen.{longer}
use Rattle.uv_order.specs.Laws.{LogLaws}
use Rattle.uv_desk.specs.declared.view.View.{View}
use Rattle.uv_desk.specs.Rule.{Knows, Ordered}
use Rattle.uv_desk.specs.Plays.{learned}
use Rattle.uv_desk.specs.Views.{guest}
use Rattle.uv_desk.proofs.Keeping.{all_set, reviewed, at_new, guest_at}

prefix_length : {X : Type 0} (xs ys : List X) → IsPrefix xs ys → length xs ≤ length ys
prefix_length xs ys p = omega (arith, ap length p.goes_on, length-append xs p.rest)

-- a beginning that is no shorter is the whole
prefix_whole : {X : Type 0} (xs ys : List X) → IsPrefix xs ys → length ys ≤ length xs → xs ≡ ys
prefix_whole [] [] p le = refl
prefix_whole [] (y ∷ ys) p le = absurd (omega arith)
prefix_whole (x ∷ xs) [] p le = absurd (cc (p.goes_on))
prefix_whole (x ∷ xs) (y ∷ ys) p le = let r = prefix_whole xs ys (record { rest = p.rest; goes_on = cc (p.goes_on) }) (omega arith) in cc (p.goes_on, r)

module _ {M E O : Type 0} (history : M → List E) (own : M → ℕ → O) (names : E → Option ℕ) (start : M) where
  abbrev V : Type 0
  V = View M E O

  abbrev St : Type 0
  St = State (Option M) V

  abbrev Sat : Type 0
  Sat = Me (Option M) V

  abbrev K : (s : St) → Ordered history own names start s → ℕ → V → Type 0
  K s r = Knows history own names start r.machine r.log r.served r.ticket r.chair r.holder r.latest r.given r.whole r.joined

  pub tells : (id : ℕ) (v : V) → Splits (Ordered history own names start) id v v (guest v.seen)
  tells id v s r at =
      let vs : List V = set s.views id v in let same : vs ≡ s.views = set_again s.views id v at in
      reviewed history own names start s r (vs ++ guest v.seen ∷ [])
      (λ j u e. ⊎_elim (λ was. r.each_seat j u (subst (λ (l : List V). get_elem? l j ≡ some u) same was))
      (λ (new : (guest v.seen ≡ u) × (j ≡ length vs)). subst (K s r j) new.0 (guest_at history own names start s r j v.seen (r.each_seat id v at).seen_is))
      (at_new vs (guest v.seen) u j e))

  -- the seat is told what a guest has seen
  pub told : (id : ℕ) (v : V) (other : ℕ) (w : V) → v.numbered ≡ true → w.numbered ≡ false → Joins (Ordered history own names start) id v other w (record v { told = w.seen }) (guest [])
  told id v other w num guest_w s r at apart at' =
      let both : V = record v { told = w.seen } in
      let was : get_elem? s.views other ≡ some w = ⊎_elim (λ (x : (other ≡ id) × (both ≡ w)). absurd (apart x.0)) (λ x. x.1) (at_set s.views id other both w at') in
      let kw = r.each_seat other w was in let kv = r.each_seat id v at in
      reviewed history own names start s r (set (set s.views id both) other (guest []))
      (all_set (K s r) (set s.views id both) other (guest []) (guest_at history own names start s r other [] (record { rest = r.log; goes_on = refl }))
      (λ j u ne e. all_set (K s r) s.views id both
      record {
        seen_is = kv.seen_is;
        told_is = kw.seen_is;
        mine_is = kv.mine_is;
        below = kv.below;
        chair_is = kv.chair_is;
        ticket_is = kv.ticket_is;
        own_is = kv.own_is;
        idle = kv.idle;
        holds = kv.holds;
        last_is = kv.last_is;
        start_is = kv.start_is;
        next_is = kv.next_is;
        joined_is = kv.joined_is;
        apart = kv.apart;
        whole_is = kv.whole_is;
      }
      (λ j u _ e. r.each_seat j u e) j u e))

  module _ (laws : LogLaws E) where
    -- the seat has seen the longer of what it had seen and what it was told
    pub learns : (slots id : ℕ) (me : Sat) → me.0.numbered ≡ true → Allows (Ordered history own names start) slots id me 1 (λ n. n) (λ _ m'. learned names me m')
    learns slots id me num s r wide at _ =
        let v : V = me.0 in let kv = r.each_seat id v at in let b = laws.seeing.quiet_longer v.number r.log v.seen v.told (kv.mine_is num) kv.told_is in
        let w : V = record v { seen = longer v.seen v.told; told = [] } in
        let full : v.seen ≡ r.log → w.seen ≡ r.log = λ q. sym (prefix_whole r.log w.seen (subst (λ (l : List (Signed E)). IsPrefix l w.seen) q (record { rest = b.1.rest; goes_on = b.1.goes_on })) (prefix_length w.seen r.log b.3)) in
        let same : set s.words 1 (get_or s.words 1 0) ≡ s.words = set-get_or s.words 1 0 in (
          w,
          keeps,
          tt,
          subst (λ (ws : List ℕ). Ordered history own names start record { words = ws; homes = s.homes; views = set s.views id w }) (sym same)
              (reviewed history own names start s r (set s.views id w) (all_set (K s r) s.views id w
              record {
                seen_is = b.3;
                told_is = record { rest = r.log; goes_on = refl };
                mine_is = λ _. b.0;
                below = kv.below;
                chair_is = kv.chair_is;
                ticket_is = kv.ticket_is;
                own_is = kv.own_is;
                idle = kv.idle;
                holds = λ m e. let h = kv.holds m e in (h.0, h.1, h.2, h.3, full h.4);
                last_is = λ p q. full (kv.last_is p q);
                start_is = kv.start_is;
                next_is = kv.next_is;
                joined_is = kv.joined_is;
                apart = kv.apart;
                whole_is = kv.whole_is;
              }
              (λ j u _ e. r.each_seat j u e))),
          (refl, b.1, b.2, laws.naming.named_starts names r.log w.seen b.3 r.named),
        )
