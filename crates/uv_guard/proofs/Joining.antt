-- Splits and joins keep the rule, and a new cell has it.
use Rattle.std.proofs.Common.{◌≡◌, ◌≢◌, ◌⊎◌, ℕ, zero, suc, ◌<◌, List, [], ◌∷◌, ◌++◌, length, set, subst, sym, refl, ap, ◌∙◌, ⊎_elim, inl, inr, arith}
use Rattle.std.specs.Prelude.{None}
use mathlib.Core.Option.{some, some-injective, some-ne-none}
use lib.ListN.{get_elem?}
use Rattle.atomic_table.specs.Table.{Splits, Joins, opening}
use Rattle.atomic_table.proofs.Lists.{at_set, set_again}
use Rattle.uv_num.specs.Prefix.{IsPrefix}
use Rattle.uv_order.specs.declared.taken.Taken.{Taken}
use Rattle.uv_order.specs.Signed.{nobody}
use Rattle.uv_order.specs.Laws.{LogLaws}
use Rattle.uv_guard.specs.declared.life.Stage.TheVariants.{Home}
use Rattle.uv_guard.specs.declared.life.Planting.{Planting}
use Rattle.uv_guard.specs.declared.life.Life.{Life}
use Rattle.uv_guard.specs.declared.view.Kept.{Kept}
use Rattle.uv_guard.specs.declared.view.View.{View}
use Rattle.uv_guard.specs.declared.view.Role.TheVariants.{Taker, Owner}
use Rattle.uv_guard.specs.Lives.{IsApart}
use Rattle.uv_guard.specs.Rule.{Truth, Knows, IsGuarded}
use Rattle.uv_guard.specs.Steps.{first_view, seat_view, gone_view, teller, told_by, one_given, kept_of, with_kept}
use Rattle.uv_guard.proofs.Put.{put, put_here, put_else}
use Rattle.uv_guard.proofs.Logs.{prefix_none, those_none, account_forks, account_joins}
use Rattle.uv_guard.proofs.Frames.{St, no_one, all_set, other_number}

-- what stands in a list with one more behind
at_new : {X : Type 0} (xs : List X) (a u : X) (j : ℕ) → get_elem? (xs ++ a ∷ []) j ≡ some u → (get_elem? xs j ≡ some u) ⊎ ((a ≡ u) × (j ≡ length xs))
at_new [] a u zero e = inr (some-injective a u e, refl)
at_new [] a u (suc j) e = absurd (some-ne-none u (sym e))
at_new (x ∷ xs) a u zero e = inl e
at_new (x ∷ xs) a u (suc j) e = ⊎_elim (λ r. inl r) (λ r. inr (r.0, ap suc r.1)) (at_new xs a u j e)

only_one : {X : Type 0} (x u : X) (j : ℕ) → get_elem? (x ∷ []) j ≡ some u → (x ≡ u) × (0 ≡ j)
only_one x u zero e = (some-injective x u e, refl)
only_one x u (suc j) e = absurd (some-ne-none u (sym e))

module _ {T : Type 0} (goes_on : T → T → Type 0) where
  -- what anybody knows whose view tells nothing but beginnings
  gone_knows : (t : Truth T) (j : ℕ) (plants : List (Planting T)) (lives : List (Life T)) → IsPrefix plants t.plants → IsPrefix lives t.lives → Knows t j (record (gone_view {T = T}) { plants = plants; lives = lives })
  gone_knows t j plants lives p l = record {
    below = λ e. absurd cc;
    chair_is = λ e. absurd cc;
    refers_is = λ e. absurd cc;
    idle = λ e. absurd cc;
    entered_is = λ h e. absurd cc;
    took_is = λ e. absurd cc;
    apart = λ e. absurd cc;
    told_plants = p;
    told_lives = l;
    deed_is = λ e. absurd cc;
    owns = λ e. absurd cc;
  }

  -- nothing but one view more
  one_more : (s : St T) (r : IsGuarded goes_on s) (u : View T) → Knows r.truth (length s.views) u → IsGuarded goes_on record { words = s.words; homes = s.homes; views = s.views ++ u ∷ [] }
  one_more s r u k = record {
    truth = r.truth;
    account = r.account;
    fits = r.fits;
    two_words = r.two_words;
    one_slot = r.one_slot;
    few = r.few;
    top_is = r.top_is;
    turn_is = r.turn_is;
    odd = r.odd;
    refers = r.refers;
    lies = r.lies;
    each_seat = λ j w e. ⊎_elim (λ was. r.each_seat j w was) (λ (new : (u ≡ w) × (j ≡ length s.views)). subst (λ (y : ℕ × View T). Knows r.truth y.0 y.1) (λ i. (sym new.1 i, new.0 i)) k) (at_new s.views u w j e);
  }

  pub tells : (id : ℕ) (v : View T) → Splits (IsGuarded goes_on) id v v (teller v)
  tells id v s r at =
      let k = r.each_seat id v at in
      subst (λ (vs : List (View T)). IsGuarded goes_on record { words = s.words; homes = s.homes; views = vs ++ teller v ∷ [] }) (sym (set_again s.views id v at))
      (one_more s r (teller v) (gone_knows r.truth (length s.views) v.plants v.lives k.told_plants k.told_lives))

  -- where a view is joined into another, all that either knows of beginnings stays known
  joined : (s : St T) (r : IsGuarded goes_on s) (t : Truth T) (id : ℕ) (both : View T) (other : ℕ)
      → Knows t id both → ((j : ℕ) (u : View T) → j ≢ id → j ≢ other → get_elem? s.views j ≡ some u → Knows t j u)
      → (j : ℕ) (u : View T) → get_elem? (set (set s.views id both) other gone_view) j ≡ some u → Knows t j u
  joined s r t id both other mine others = all_set (Knows t) (set s.views id both) other gone_view (gone_knows t other [] [] (prefix_none t.plants) (prefix_none t.lives))
      (λ j u ne e. ⊎_elim
      (λ (x : (j ≡ id) × (both ≡ u)). subst (λ (y : ℕ × View T). Knows t y.0 y.1) (λ i. (sym x.0 i, x.1 i)) mine)
      (λ (x : (j ≢ id) × (get_elem? s.views j ≡ some u)). others j u x.0 ne x.1)
      (at_set s.views id j both u e))

  -- what stood where a view is joined away
  was_there : (s : St T) (id other : ℕ) (both w : View T) → ¬ (other ≡ id) → get_elem? (set s.views id both) other ≡ some w → get_elem? s.views other ≡ some w
  was_there s id other both w apart at = ⊎_elim (λ (x : (other ≡ id) × (both ≡ w)). absurd (apart x.0)) (λ x. x.1) (at_set s.views id other both w at)

  pub told : (id : ℕ) (v : View T) (other : ℕ) (w : View T) → v.role ≡ Taker → Joins (IsGuarded goes_on) id v other w (told_by v w) gone_view
  told id v other w is s r at apart at' =
      let kw = r.each_seat other w (was_there s id other (told_by v w) w apart at') in let kv = r.each_seat id v at in
      record {
        truth = r.truth;
        account = r.account;
        fits = r.fits;
        two_words = r.two_words;
        one_slot = r.one_slot;
        few = r.few;
        top_is = r.top_is;
        turn_is = r.turn_is;
        odd = r.odd;
        refers = r.refers;
        lies = r.lies;
        each_seat = joined s r r.truth id (told_by v w) other
            record {
              below = kv.below;
              chair_is = kv.chair_is;
              refers_is = kv.refers_is;
              idle = kv.idle;
              entered_is = kv.entered_is;
              took_is = kv.took_is;
              apart = kv.apart;
              told_plants = kw.told_plants;
              told_lives = kw.told_lives;
              deed_is = kv.deed_is;
              owns = λ p. absurd (cc (is, p));
            }
            (λ j u _ _ e. r.each_seat j u e);
      }

  -- a seat that is out of the cell is joined to the deed, which keeps what it knew
  pub joins : (id : ℕ) (v : View T) (other : ℕ) (w : View T) → v.role ≡ Owner → w.role ≡ Taker → Joins (IsGuarded goes_on) id v other w (with_kept v (kept_of w)) gone_view
  joins id v other w is is' s r at apart at' =
      let t : Truth T = r.truth in
      let kw = r.each_seat other w (was_there s id other (with_kept v (kept_of w)) w apart at') in let kv = r.each_seat id v at in let own = kv.owns is in
      let kept' : List (Kept T) = kept_of w ∷ t.kept in
      record {
        truth = record t { kept = kept' };
        account = account_joins goes_on t kept' r.account;
        fits = ((sym (kw.took_is is'), kw.told_plants, kw.told_lives), r.fits);
        two_words = r.two_words;
        one_slot = r.one_slot;
        few = r.few;
        top_is = r.top_is;
        turn_is = r.turn_is;
        odd = r.odd;
        refers = r.refers;
        lies = r.lies;
        each_seat = joined s r (record t { kept = kept' }) id (with_kept v (kept_of w)) other
            record {
              below = kv.below;
              chair_is = kv.chair_is;
              refers_is = kv.refers_is;
              idle = kv.idle;
              entered_is = kv.entered_is;
              took_is = kv.took_is;
              apart = λ p. absurd (cc (is, p));
              told_plants = kv.told_plants;
              told_lives = kv.told_lives;
              deed_is = kv.deed_is;
              owns = λ _. record {
                stage_is = own.stage_is;
                generation_is = own.generation_is;
                given_is = own.given_is;
                plants_is = own.plants_is;
                lives_is = own.lives_is;
                kept_is = ap (λ (l : List (Kept T)). kept_of w ∷ l) own.kept_is;
              };
            }
            (λ j u ne ne' e. let k = r.each_seat j u e in record {
              below = k.below;
              chair_is = k.chair_is;
              refers_is = k.refers_is;
              idle = k.idle;
              entered_is = k.entered_is;
              took_is = k.took_is;
              apart = λ p. ((λ q. other_number goes_on s r other j w u is' p ne' kw k (sym q)), k.apart p);
              told_plants = k.told_plants;
              told_lives = k.told_lives;
              deed_is = k.deed_is;
              owns = λ p. absurd (ne (k.deed_is p ∙ sym (kv.deed_is is)));
            });
      }

  -- the deed makes the next seat
  pub forks : LogLaws (Taken T) → (id : ℕ) (v : View T) → v.role ≡ Owner → v.kept ≡ [] → v.given < 32 → Splits (IsGuarded goes_on) id v (one_given v) (seat_view v.given)
  forks logs id v is empty room s r at =
      let t : Truth T = r.truth in
      let kv = r.each_seat id v at in let own = kv.owns is in
      let g : ℕ = t.given in let given_is : v.given ≡ g = own.given_is in
      let vs : List (View T) = set s.views id (one_given v) in
      let chair' : ℕ → ℕ = put t.chair g (length vs) in
      let t' : Truth T = record t { chair = chair'; given = suc g } in
      let no_ref : t.refs g ≡ None = no_one (t.refs g) (λ k q. let o = r.refers g k q in let lt = o.1 in omega arith) in
      let before : (n : ℕ) → n < g → chair' n ≡ t.chair n = λ n lt. put_else t.chair g (length vs) n (λ q. omega arith) in
      let new : Knows t' (length vs) (seat_view g) = record {
        below = λ _. omega arith;
        chair_is = λ _. put_here t.chair g (length vs);
        refers_is = λ _. no_ref;
        idle = λ _ _ q. let o = r.refers g t.gen (r.odd g q) in let lt = o.1 in absurd (omega arith);
        entered_is = λ h q. absurd cc;
        took_is = λ _. sym (those_none logs g t.log (subst (λ (n : ℕ). n < nobody) given_is room) r.account.authors);
        apart = λ _. subst (IsApart g) (sym (sym own.kept_is ∙ empty)) tt;
        told_plants = prefix_none t.plants;
        told_lives = prefix_none t.lives;
        deed_is = λ q. absurd cc;
        owns = λ q. absurd cc;
      } in
      let mine : Knows t' id (one_given v) = record {
        below = λ p. absurd (cc (is, p));
        chair_is = λ p. absurd (cc (is, p));
        refers_is = kv.refers_is;
        idle = kv.idle;
        entered_is = kv.entered_is;
        took_is = kv.took_is;
        apart = kv.apart;
        told_plants = kv.told_plants;
        told_lives = kv.told_lives;
        deed_is = kv.deed_is;
        owns = λ _. record {
          stage_is = own.stage_is;
          generation_is = own.generation_is;
          given_is = ap suc given_is;
          plants_is = own.plants_is;
          lives_is = own.lives_is;
          kept_is = own.kept_is;
        };
      } in
      record {
        truth = t';
        account = account_forks goes_on t chair' r.account;
        fits = r.fits;
        two_words = r.two_words;
        one_slot = r.one_slot;
        few = omega arith;
        top_is = r.top_is;
        turn_is = r.turn_is;
        odd = r.odd;
        refers = λ n k q. let o = r.refers n k q in (o.0, (let lt = o.1 in omega arith), o.2, o.3);
        lies = r.lies;
        each_seat = λ j u e. ⊎_elim
            (λ was. all_set (Knows t') s.views id (one_given v) mine
            (λ j u ne e. let k = r.each_seat j u e in record {
              below = λ p. let b = k.below p in omega arith;
              chair_is = λ p. before u.number (k.below p) ∙ k.chair_is p;
              refers_is = k.refers_is;
              idle = k.idle;
              entered_is = k.entered_is;
              took_is = k.took_is;
              apart = k.apart;
              told_plants = k.told_plants;
              told_lives = k.told_lives;
              deed_is = k.deed_is;
              owns = λ p. absurd (ne (k.deed_is p ∙ sym (kv.deed_is is)));
            })
            j u was)
            (λ (made : (seat_view v.given ≡ u) × (j ≡ length vs)). subst (λ (y : ℕ × View T). Knows t' y.0 y.1) (λ i. (sym made.1 i, (ap (λ n. seat_view n) (sym given_is) ∙ made.0) i)) new)
            (at_new vs (seat_view v.given) u j e);
      }

  -- a new cell
  pub begins : IsGuarded goes_on (opening (0 ∷ 0 ∷ []) (None ∷ []) first_view)
  begins = let t : Truth T = record { gen = 0; stage = Home; value = None; refs = λ _. None; holder = None; chair = λ _. 0; deed = 0; given = 0; log = []; plants = []; lives = []; kept = [] } in
      record {
        truth = t;
        account = record {
          past = refl;
          planted = refl;
          numbered = tt;
          authors = tt;
          lived = tt;
          grows = tt;
          runs = tt;
          ended = tt;
        };
        fits = tt;
        two_words = refl;
        one_slot = refl;
        few = omega arith;
        top_is = refl;
        turn_is = refl;
        odd = λ n e. absurd cc;
        refers = λ n g e. absurd cc;
        lies = λ _. refl;
        each_seat = λ j u e. let o = only_one first_view u j e in
            subst (λ (y : ℕ × View T). Knows t y.0 y.1) (λ i. (o.1 i, o.0 i)) record {
              below = λ e. absurd cc;
              chair_is = λ e. absurd cc;
              refers_is = λ e. absurd cc;
              idle = λ e. absurd cc;
              entered_is = λ h e. absurd cc;
              took_is = λ e. absurd cc;
              apart = λ e. absurd cc;
              told_plants = prefix_none [];
              told_lives = prefix_none [];
              deed_is = λ _. refl;
              owns = λ _. record {
                stage_is = refl;
                generation_is = refl;
                given_is = refl;
                plants_is = refl;
                lives_is = refl;
                kept_is = refl;
              };
            };
      }
