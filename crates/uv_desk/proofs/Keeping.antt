-- What a step leaves of the rule: the views of others, the seats by number, and those that are joined.
use Rattle.std.proofs.Common.{◌≡◌, ℕ, zero, suc, ◌<◌, ◌≢◌, ◌⊎◌, true, List, [], ◌∷◌, ◌++◌, length, set, subst, sym, refl, ap, ◌∙◌, ⊎_elim, inl, inr, arith}
use mathlib.Core.Option.{some, some-injective, some-ne-none}
use lib.ListN.{get_elem?}
use Rattle.std.specs.Prelude.{Option, Some, None}
use Rattle.atomic_table.specs.Table.{State}
use Rattle.atomic_table.proofs.Lists.{at_set}
use Rattle.uv_num.specs.Prefix.{IsPrefix}
use Rattle.uv_order.specs.declared.signed.Signed.{Signed}
use Rattle.uv_order.specs.Signed.{sign}
use Rattle.uv_order.specs.Laws.{LogLaws}
use Rattle.uv_desk.specs.declared.view.View.{View}
use Rattle.uv_desk.specs.declared.view.Kept.{Kept}
use Rattle.uv_desk.specs.Rule.{AreKept, IsApart, Knows, Ordered}
use Rattle.uv_desk.specs.Views.{guest}

pub none_holds_it : (h : Option ℕ) → ((n : ℕ) → h ≢ Some n) → h ≡ None
none_holds_it None f = refl
none_holds_it (Some n) f = absurd (f n refl)

module _ {M : Type 0} where
  pub same_machine : (c : List (ℕ × Option M)) (m y : M) → c ≡ (0, Some m) ∷ [] → c ≡ (0, Some y) ∷ [] → m ≡ y
  same_machine c m y a b = let q : (0, Some m) ≡ (0, Some y) = cc in let z : Some m ≡ Some y = ap (λ (p : ℕ × Option M). p.1) q in cc

module _ {X : Type 0} where
  pub all_set : (F : ℕ → X → Type 0) (views : List X) (id : ℕ) (w : X) → F id w → ((j : ℕ) (u : X) → j ≢ id → get_elem? views j ≡ some u → F j u) → (j : ℕ) (u : X) → get_elem? (set views id w) j ≡ some u → F j u
  all_set F views id w mine others j u e = ⊎_elim (λ (x : (j ≡ id) × (w ≡ u)). subst (λ (y : ℕ × X). F y.0 y.1) (λ i. (sym x.0 i, x.1 i)) mine)
      (λ (x : (j ≢ id) × (get_elem? views j ≡ some u)). others j u x.0 x.1) (at_set views id j w u e)

  at_below : (l : List X) (j : ℕ) (a : X) → get_elem? l j ≡ some a → j < length l
  at_below [] j a e = absurd (some-ne-none a (sym e))
  at_below (x ∷ xs) zero a e = omega arith
  at_below (x ∷ xs) (suc j) a e = let r = at_below xs j a e in omega arith

  pub at_new : (l : List X) (a b : X) (j : ℕ) → get_elem? (l ++ a ∷ []) j ≡ some b → (get_elem? l j ≡ some b) ⊎ ((a ≡ b) × (j ≡ length l))
  at_new [] a b zero e = inr (some-injective a b e, refl)
  at_new [] a b (suc j) e = absurd (some-ne-none b (sym e))
  at_new (x ∷ xs) a b zero e = inl e
  at_new (x ∷ xs) a b (suc j) e = ⊎_elim (λ y. inl y) (λ y. inr (y.0, ap suc y.1)) (at_new xs a b j e)

module _ {M E O : Type 0} (history : M → List E) (own : M → ℕ → O) (names : E → Option ℕ) (start : M) where
  abbrev V : Type 0
  V = View M E O

  abbrev St : Type 0
  St = State (Option M) V

  abbrev K : (s : St) → Ordered history own names start s → ℕ → V → Type 0
  K s r = Knows history own names start r.machine r.log r.served r.ticket r.chair r.holder r.latest r.given r.whole r.joined

  pub below_given : (s : St) (r : Ordered history own names start s) (v : V) → v.number < r.whole → v.number < r.given
  below_given s r v lt = let f = r.few.0 in omega arith

  pub other_number : (s : St) (r : Ordered history own names start s) (id j : ℕ) (v u : V) → v.numbered ≡ true → u.numbered ≡ true → j ≢ id → K s r id v → K s r j u → u.number ≢ v.number
  other_number s r id j v u a b ne kv ku e = ne (sym (ku.chair_is b) ∙ (ap r.chair e ∙ kv.chair_is a))

  pub reviewed : (s : St) (r : Ordered history own names start s) (vs : List V) → ((j : ℕ) (u : V) → get_elem? vs j ≡ some u → K s r j u) → Ordered history own names start record { words = s.words; homes = s.homes; views = vs }
  reviewed s r vs all = record {
    machine = r.machine;
    log = r.log;
    drawn = r.drawn;
    served = r.served;
    ticket = r.ticket;
    chair = r.chair;
    holder = r.holder;
    latest = r.latest;
    given = r.given;
    whole = r.whole;
    joined = r.joined;
    log_is = r.log_is;
    named = r.named;
    authors = r.authors;
    fits = r.fits;
    two_words = r.two_words;
    one_slot = r.one_slot;
    drawn_is = r.drawn_is;
    served_is = r.served_is;
    counted = r.counted;
    within = r.within;
    apart = r.apart;
    held_by = r.held_by;
    at_home = r.at_home;
    few = r.few;
    free = r.free;
    last_given = r.last_given;
    others = r.others;
    each_seat = all;
  }

  -- a guest knows what was seen, and no more
  module _ (m : M) (log : List (Signed E)) (served : ℕ) (ticket : ℕ → Option ℕ) (chair : ℕ → ℕ) (holder : Option ℕ) (latest given whole : ℕ) (joined : List (Kept E O)) (j : ℕ) where
    pub guests : (seen : List (Signed E)) → IsPrefix seen log → Knows history own names start m log served ticket chair holder latest given whole joined j (guest seen)
    guests seen is = record {
      seen_is = is;
      told_is = record { rest = log; goes_on = refl };
      mine_is = λ e. absurd cc;
      below = λ e. absurd cc;
      chair_is = λ e. absurd cc;
      ticket_is = λ e. absurd cc;
      own_is = λ e. absurd cc;
      idle = λ e. absurd cc;
      holds = λ m e. absurd cc;
      last_is = λ e. absurd cc;
      start_is = λ m e. absurd cc;
      next_is = λ e. absurd cc;
      whole_is = λ e. absurd cc;
      joined_is = λ e. absurd cc;
      apart = λ e. absurd cc;
    }

  abbrev pub guest_at : (s : St) (r : Ordered history own names start s) (j : ℕ) (seen : List (Signed E)) → IsPrefix seen r.log → K s r j (guest seen)
  guest_at s r j = guests r.machine r.log r.served r.ticket r.chair r.holder r.latest r.given r.whole r.joined j

module _ {E O : Type 0} (laws : LogLaws E) where
  -- a turn of a seat that was not joined leaves what the joined ones had seen and owned
  pub kept_turns : (own own' : ℕ → O) (log : List (Signed E)) (latest n : ℕ) (made : List E) (ks : List (Kept E O)) → IsApart n ks → ((i : ℕ) → i ≢ n → own' i ≡ own i) → AreKept own log latest ks → AreKept own' (log ++ sign n made) n ks
  kept_turns own own' log latest n made [] a o k = tt
  kept_turns own own' log latest n made (x ∷ xs) a o k =
      let ne = a.0 in (
        (laws.seeing.quiet_grows x.number log x.seen (sign n made) k.0.0 (laws.signing.silent_other x.number n (λ e. ne (sym e)) made), k.0.1 ∙ ap (λ (y : O). Some y) (sym (o x.number ne)), λ e. absurd (ne e)),
        kept_turns own own' log latest n made xs a.1 o k.1,
      )

module _ {E O : Type 0} where
  -- a seat that was not joined takes the machine
  pub kept_latest : (own : ℕ → O) (log : List (Signed E)) (latest n : ℕ) (ks : List (Kept E O)) → IsApart n ks → AreKept own log latest ks → AreKept own log n ks
  kept_latest own log latest n [] a k = tt
  kept_latest own log latest n (x ∷ xs) a k = let ne = a.0 in ((k.0.0, k.0.1, λ e. absurd (ne e)), kept_latest own log latest n xs a.1 k.1)
