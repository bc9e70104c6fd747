-- What the others know after a step, and the parts that all steps share.
use Rattle.std.proofs.Common.{◌≡◌, ◌≢◌, ℕ, List, ◌++◌, length, set, get_or, subst, sym, refl, ap, ◌∙◌, ⊎_elim}
use Rattle.std.proofs.lemmas.List.{set-get_or}
use Rattle.std.specs.Prelude.{Option, Some, None}
use mathlib.Core.Option.{some}
use lib.ListN.{get_elem?}
use Rattle.atomic_table.specs.Table.{State}
use Rattle.atomic_table.proofs.Lists.{at_set, set_again}
use Rattle.uv_order.specs.declared.signed.Signed.{Signed}
use Rattle.uv_order.specs.declared.taken.Taken.{Taken}
use Rattle.uv_guard.specs.declared.life.Stage.{Stage}
use Rattle.uv_guard.specs.declared.life.Planting.{Planting}
use Rattle.uv_guard.specs.declared.life.Life.{Life}
use Rattle.uv_guard.specs.declared.view.Found.{Found}
use Rattle.uv_guard.specs.declared.view.View.{View}
use Rattle.uv_guard.specs.declared.view.Role.TheVariants.{Taker, Owner}
use Rattle.uv_order.specs.Signed.{those}
use Rattle.uv_guard.specs.Lives.{IsStanding}
use Rattle.uv_guard.specs.Rule.{Knows, IsGuarded}
use Rattle.uv_guard.proofs.Logs.{prefix_grows}

pub all_set : {X : Type 0} (F : ℕ → X → Type 0) (views : List X) (id : ℕ) (w : X) → F id w → ((j : ℕ) (u : X) → j ≢ id → get_elem? views j ≡ some u → F j u) → (j : ℕ) (u : X) → get_elem? (set views id w) j ≡ some u → F j u
all_set {X = X} F views id w mine others j u e = ⊎_elim (λ (x : (j ≡ id) × (w ≡ u)). subst (λ (y : ℕ × X). F y.0 y.1) (λ i. (sym x.0 i, x.1 i)) mine)
    (λ (x : (j ≢ id) × (get_elem? views j ≡ some u)). others j u x.0 x.1) (at_set views id j w u e)

abbrev pub St : Type 0 → Type 0
St T = State (Option T) (View T)

pub no_one : (h : Option ℕ) → ((n : ℕ) → h ≢ Some n) → h ≡ None
no_one None f = refl
no_one (Some n) f = absurd (f n refl)

module _ {T : Type 0} (goes_on : T → T → Type 0) where
  -- two seats have different numbers
  pub other_number : (s : St T) (r : IsGuarded goes_on s) (id j : ℕ) (v u : View T) → v.role ≡ Taker → u.role ≡ Taker → j ≢ id → Knows r.truth id v → Knows r.truth j u → u.number ≢ v.number
  other_number s r id j v u a b ne kv ku e = ne (sym (ku.chair_is b) ∙ (ap r.truth.chair e ∙ kv.chair_is a))

  -- after a step of a seat, which may change what it refers to, who has the turn, the value and the log
  pub seat_moves : (s : St T) (r : IsGuarded goes_on s) (id : ℕ) (v w : View T) (value' : Option T) (refs' : ℕ → Option ℕ) (holder' : Option ℕ) (log' : List (Signed (Taken T))) → get_elem? s.views id ≡ some v → v.role ≡ Taker
      → ((m : ℕ) → m ≢ v.number → those m log' ≡ those m r.truth.log)
      → ((m : ℕ) → m ≢ v.number → refs' m ≡ r.truth.refs m)
      → ((m : ℕ) → m ≢ v.number → r.truth.holder ≡ Some m → (holder' ≡ Some m) × (value' ≡ r.truth.value) × (length log' ≡ length r.truth.log))
      → ((m : ℕ) → m ≢ v.number → holder' ≡ Some m → r.truth.holder ≡ Some m)
      → Knows (record r.truth { value = value'; refs = refs'; holder = holder'; log = log' }) id w
      → (j : ℕ) (u : View T) → get_elem? (set s.views id w) j ≡ some u → Knows (record r.truth { value = value'; refs = refs'; holder = holder'; log = log' }) j u
  seat_moves s r id v w value' refs' holder' log' at is theirs apart there back mine = all_set (Knows (record r.truth { value = value'; refs = refs'; holder = holder'; log = log' })) s.views id w mine
      (λ j u ne e. let k = r.each_seat j u e in let me = r.each_seat id v at in
      let ne' : u.role ≡ Taker → u.number ≢ v.number = λ p. other_number s r id j v u is p ne me k in
      record {
        below = k.below;
        chair_is = k.chair_is;
        refers_is = λ p. apart u.number (ne' p) ∙ k.refers_is p;
        idle = λ p q x. k.idle p q (back u.number (ne' p) x);
        entered_is = λ h q. let y = k.entered_is h q in let z = there u.number (ne' y.1) y.2 in (z.1 ∙ y.0, y.1, z.0, y.3 ∙ sym z.2, y.4);
        took_is = λ p. k.took_is p ∙ sym (theirs u.number (ne' p));
        apart = k.apart;
        told_plants = k.told_plants;
        told_lives = k.told_lives;
        deed_is = k.deed_is;
        owns = λ p. let o = k.owns p in record {
          stage_is = o.stage_is;
          generation_is = o.generation_is;
          given_is = o.given_is;
          plants_is = o.plants_is;
          lives_is = o.lives_is;
          kept_is = o.kept_is;
        };
      })

  -- after a step of the deed, by which plantings and lives may come to an end of those that were told
  pub deed_moves : (s : St T) (r : IsGuarded goes_on s) (id : ℕ) (v w : View T) (gen' : ℕ) (stage' : Stage T) (value' : Option T) (plants' : List (Planting T)) (lives' : List (Life T)) → get_elem? s.views id ≡ some v → v.role ≡ Owner
      → ((m : ℕ) → r.truth.holder ≡ Some m → (value' ≡ r.truth.value) × (gen' ≡ r.truth.gen))
      → Knows (record r.truth { gen = gen'; stage = stage'; value = value'; plants = r.truth.plants ++ plants'; lives = r.truth.lives ++ lives' }) id w
      → (j : ℕ) (u : View T) → get_elem? (set s.views id w) j ≡ some u → Knows (record r.truth { gen = gen'; stage = stage'; value = value'; plants = r.truth.plants ++ plants'; lives = r.truth.lives ++ lives' }) j u
  deed_moves s r id v w gen' stage' value' plants' lives' at is held mine = all_set (Knows (record r.truth { gen = gen'; stage = stage'; value = value'; plants = r.truth.plants ++ plants'; lives = r.truth.lives ++ lives' })) s.views id w mine
      (λ j u ne e. let k = r.each_seat j u e in let me = r.each_seat id v at in
      record {
        below = k.below;
        chair_is = k.chair_is;
        refers_is = k.refers_is;
        idle = k.idle;
        entered_is = λ h q. let y = k.entered_is h q in let z = held u.number y.2 in (z.0 ∙ y.0, y.1, y.2, y.3, y.4 ∙ sym z.1);
        took_is = k.took_is;
        apart = k.apart;
        told_plants = prefix_grows u.plants r.truth.plants plants' k.told_plants;
        told_lives = prefix_grows u.lives r.truth.lives lives' k.told_lives;
        deed_is = k.deed_is;
        owns = λ p. absurd (ne (k.deed_is p ∙ sym (me.deed_is is)));
      })

  -- nothing changes
  pub stays : (s : St T) (r : IsGuarded goes_on s) (i id : ℕ) (v : View T) → get_elem? s.views id ≡ some v → IsGuarded goes_on record { words = set s.words i (get_or s.words i 0); homes = s.homes; views = set s.views id v }
  stays s r i id v at = subst (λ (y : List ℕ × List (View T)). IsGuarded goes_on record { words = y.0; homes = s.homes; views = y.1 }) (λ k. (sym (set-get_or s.words i 0) k, sym (set_again s.views id v at) k)) r

  -- nothing changes but what a seat found
  pub finds : (s : St T) (r : IsGuarded goes_on s) (i id : ℕ) (v : View T) (ws : List Found) → get_elem? s.views id ≡ some v → IsGuarded goes_on record { words = set s.words i (get_or s.words i 0); homes = s.homes; views = set s.views id (record v { found = ws }) }
  finds s r i id v ws at =
      let k = r.each_seat id v at in
      subst (λ (l : List ℕ). IsGuarded goes_on record { words = l; homes = s.homes; views = set s.views id (record v { found = ws }) }) (sym (set-get_or s.words i 0)) record {
        truth = r.truth;
        account = r.account;
        fits = r.fits;
        two_words = r.two_words;
        one_slot = r.one_slot;
        few = r.few;
        top_is = r.top_is;
        turn_is = r.turn_is;
        odd = r.odd;
        refers = r.refers;
        lies = r.lies;
        each_seat = all_set (Knows r.truth) s.views id (record v { found = ws })
            record {
              below = k.below;
              chair_is = k.chair_is;
              refers_is = k.refers_is;
              idle = k.idle;
              entered_is = k.entered_is;
              took_is = k.took_is;
              apart = k.apart;
              told_plants = k.told_plants;
              told_lives = k.told_lives;
              deed_is = k.deed_is;
              owns = λ p. let o = k.owns p in record {
                stage_is = o.stage_is;
                generation_is = o.generation_is;
                given_is = o.given_is;
                plants_is = o.plants_is;
                lives_is = o.lives_is;
                kept_is = o.kept_is;
              };
            }
            (λ j u _ e. r.each_seat j u e);
      }

  -- at a stage at which no seat may refer, none does, and none has the turn
  pub no_refs : (s : St T) (r : IsGuarded goes_on s) → ¬ IsStanding r.truth.stage → (m g : ℕ) → r.truth.refs m ≢ Some g
  no_refs s r not m g q = not (r.refers m g q).3

  pub no_holder : (s : St T) (r : IsGuarded goes_on s) → ((m g : ℕ) → r.truth.refs m ≢ Some g) → (m : ℕ) → r.truth.holder ≢ Some m
  no_holder s r none m q = none m r.truth.gen (r.odd m q)
