-- The steps of the deed keep the rule: fill, plant, doom, look, bury.
use Rattle.std.proofs.Common.{◌≡◌, ◌≢◌, ℕ, suc, ◌+◌, ◌*◌, ◌/◌, ◌%◌, List, [], ◌∷◌, ◌++◌, length, set, get_or, subst, sym, refl, ap, ◌∙◌, arith, length-set, get_or-set_same, get_or-set_other, bit_or, append-nil, eq-eqb, ne_eqb, cond}
use mathlib.Core.Logic.{dite}
use mathlib.Core.Option.{some, none}
use mathlib.Core.Option as maybe
use native.Mathlib.Decide.{ℕ_discrete}
use lib.ListN.{get_elem?}
use Rattle.std.specs.Int.{bit_at}
use Rattle.std.specs.Prelude.{Option, Some, None}
use Rattle.atomic_table.specs.Table.{keeps, takes, gives, put_back, rest, Allows}
use Rattle.atomic_table.proofs.Lists.{set_here}
use Rattle.uv_num.specs.Prefix.{IsPrefix}
use Rattle.uv_order.specs.declared.taken.Taken.{Taken}
use Rattle.uv_guard.specs.declared.life.Stage.{Stage}
use Rattle.uv_guard.specs.declared.life.Stage.TheVariants.{Home, Filling, Planted, Doomed, Clear, Spent}
use Rattle.uv_guard.specs.declared.life.Planting.{Planting}
use Rattle.uv_guard.specs.declared.life.Life.{Life}
use Rattle.uv_guard.specs.declared.view.View.{View}
use Rattle.uv_guard.specs.declared.view.Role.TheVariants.{Owner}
use Rattle.uv_guard.specs.Lives.{flags, IsStanding, over, begun, standing, Runs}
use Rattle.uv_guard.specs.Rule.{Truth, Account, Lies, IsGuarded}
use Rattle.uv_guard.specs.Steps.{Sat, last, generation_after, stage_after, filled, planted, doomed, looked, buried, buried_view}
use Rattle.uv_guard.proofs.Bits.{or_keeps, low_none, or_live, or_dying}
use Rattle.uv_guard.proofs.Logs.{prefix_whole, kept_grows, account_fills, account_plants, account_dooms, account_clears, account_buries, doomed_goes}
use Rattle.uv_guard.proofs.Frames.{St, no_one, deed_moves, stays, no_refs, no_holder}

module _ {T : Type 0} (goes_on : T → T → Type 0) where
  -- what is true of the cell after a step of the deed
  abbrev moved : Truth T → ℕ → Stage T → Option T → List (Planting T) → List (Life T) → Truth T
  moved t gen stage value plants lives = record t { gen = gen; stage = stage; value = value; plants = t.plants ++ plants; lives = t.lives ++ lives }

  abbrev seen : View T → ℕ → Stage T → List (Planting T) → List (Life T) → View T
  seen v gen stage plants lives = record v { generation = gen; stage = stage; plants = v.plants ++ plants; lives = v.lives ++ lives }

  -- a step of the deed on the life word
  deed_step : (s : St T) (r : IsGuarded goes_on s) (id : ℕ) (v : View T) (x : ℕ) (homes' : List (maybe.Option (Option T))) (gen' gen'' : ℕ) (stage' : Stage T) (value' : Option T) (plants' : List (Planting T)) (lives' : List (Life T))
      → Account goes_on (moved r.truth gen' stage' value' plants' lives') → get_elem? s.views id ≡ some v → v.role ≡ Owner → gen'' ≡ gen'
      → x / 4294967296 ≡ 4 * gen' + flags stage' → ((m g : ℕ) → r.truth.refs m ≡ Some g → (g ≡ gen') × (bit_at x m ≡ 1) × IsStanding stage') → ((m : ℕ) → r.truth.holder ≡ Some m → (value' ≡ r.truth.value) × (gen' ≡ r.truth.gen))
      → (r.truth.holder ≡ None → Lies homes' value' stage') → length homes' ≡ 1
      → IsGuarded goes_on record { words = set s.words 0 x; homes = homes'; views = set s.views id (seen v gen'' stage' plants' lives') }
  deed_step s r id v x homes' gen' gen'' stage' value' plants' lives' account at is same top refs held lies one =
      let t : Truth T = r.truth in
      let mine = r.each_seat id v at in let own = mine.owns is in
      let word : get_or (set s.words 0 x) 0 0 ≡ x = get_or-set_same s.words 0 x 0 (let e = r.two_words in omega arith) in
      record {
        truth = moved t gen' stage' value' plants' lives';
        account = account;
        fits = kept_grows t.log t.plants plants' t.lives lives' t.kept r.fits;
        two_words = length-set s.words 0 x ∙ r.two_words;
        one_slot = one;
        few = r.few;
        top_is = ap (λ z. z / 4294967296) word ∙ top;
        turn_is = get_or-set_other s.words 0 1 x 0 (λ e. omega arith) ∙ r.turn_is;
        odd = λ m e. let o = r.odd m e in o ∙ ap (λ z. Some z) (sym (held m e).1);
        refers = λ m g e. let o = r.refers m g e in let o' = refs m g e in (o'.0, o.1, ap (λ z. bit_at z m) word ∙ o'.1, o'.2);
        lies = lies;
        each_seat = deed_moves goes_on s r id v (seen v gen'' stage' plants' lives') gen' stage' value' plants' lives' at is held
            record {
              below = mine.below;
              chair_is = mine.chair_is;
              refers_is = mine.refers_is;
              idle = mine.idle;
              entered_is = λ h e. let o = mine.entered_is h e in absurd (cc (is, o.1));
              took_is = mine.took_is;
              apart = mine.apart;
              told_plants = subst (λ (l : List (Planting T)). IsPrefix (l ++ plants') (t.plants ++ plants')) (sym own.plants_is) (prefix_whole (t.plants ++ plants'));
              told_lives = subst (λ (l : List (Life T)). IsPrefix (l ++ lives') (t.lives ++ lives')) (sym own.lives_is) (prefix_whole (t.lives ++ lives'));
              deed_is = mine.deed_is;
              owns = λ _. record {
                stage_is = refl;
                generation_is = same;
                given_is = own.given_is;
                plants_is = ap (λ (l : List (Planting T)). l ++ plants') own.plants_is;
                lives_is = ap (λ (l : List (Life T)). l ++ lives') own.lives_is;
                kept_is = own.kept_is;
              };
            };
      }

  -- nothing more was planted, and no life more is over
  quiet : (s : St T) (v : View T) (gen : ℕ) (stage : Stage T) (words : List ℕ) (homes : List (maybe.Option (Option T))) (id : ℕ) → IsGuarded goes_on record { words = words; homes = homes; views = set s.views id (seen v gen stage [] []) } → IsGuarded goes_on record { words = words; homes = homes; views = set s.views id (record v { generation = gen; stage = stage }) }
  quiet s v gen stage words homes id r = subst (λ (w : View T). IsGuarded goes_on record { words = words; homes = homes; views = set s.views id w }) (λ i. record v { generation = gen; stage = stage; plants = append-nil v.plants i; lives = append-nil v.lives i }) r

  quiet_account : (t : Truth T) (gen : ℕ) (stage : Stage T) (value : Option T) → Account goes_on (record t { gen = gen; stage = stage; value = value }) → Account goes_on (moved t gen stage value [] [])
  quiet_account t gen stage value a = subst (Account goes_on) (λ i. record t { gen = gen; stage = stage; value = value; plants = sym (append-nil t.plants) i; lives = sym (append-nil t.lives) i }) a

  -- the deed takes the empty slot, to fill it
  pub fills : (slots id : ℕ) (me : Sat T) → me.0.role ≡ Owner → me.0.stage ≡ Home → Allows (IsGuarded goes_on) slots id me 0 (λ n. n) (λ _ m'. filled me m')
  fills slots id me is st s r wide at _ =
      let t : Truth T = r.truth in
      let v : View T = me.0 in let mine = r.each_seat id v at in let own = mine.owns is in let e : t.stage ≡ Home = sym own.stage_is ∙ st in let x : ℕ = get_or s.words 0 0 in
      let not : ¬ IsStanding t.stage = λ z. subst IsStanding e z in
      let none_refers = no_refs goes_on s r not in
      let none_holds : t.holder ≡ None = no_one t.holder (no_holder goes_on s r none_refers) in
      let ready : IsGuarded goes_on record { words = set s.words 0 x; homes = set s.homes 0 none; views = set s.views id (seen v v.generation Filling [] []) } = deed_step s r id v x (set s.homes 0 none) t.gen v.generation Filling t.value [] [] (quiet_account t t.gen Filling t.value (account_fills goes_on t e r.account)) at is own.generation_is
      (r.top_is ∙ ap (λ z. 4 * t.gen + flags z) e) (λ m g q. absurd (none_refers m g q)) (λ m q. (refl, refl)) (λ _. tt) (length-set s.homes 0 none ∙ r.one_slot) in (
        record v { stage = Filling },
        takes 0 None,
        subst (Lies s.homes t.value) e (r.lies none_holds),
        quiet s v v.generation Filling (set s.words 0 x) (set s.homes 0 none) id ready,
        refl,
      )

  head_of : (c : List (ℕ × Option T)) (i : ℕ) (a b : Option T) → c ≡ (i, a) ∷ [] → c ≡ (i, b) ∷ [] → a ≡ b
  head_of c i a b p q = let e : (i, a) ≡ (i, b) = cc in ap (λ (z : ℕ × Option T). z.1) e

  same_some : (y y' : T) → Some y ≡ Some y' → y ≡ y'
  same_some y y' e = cc

  pub plants : (slots id : ℕ) (me : Sat T) (y : T) → me.0.role ≡ Owner → me.0.stage ≡ Filling → me.1 ≡ (0, Some y) ∷ [] → Allows (IsGuarded goes_on) slots id me 0 (λ n. bit_or n 4294967296) (λ _ m'. planted me m')
  plants slots id me y is st out s r wide at _ =
      let t : Truth T = r.truth in
      let v : View T = me.0 in let mine = r.each_seat id v at in let own = mine.owns is in let e : t.stage ≡ Filling = sym own.stage_is ∙ st in let x : ℕ = get_or s.words 0 0 in
      let not : ¬ IsStanding t.stage = λ z. subst IsStanding e z in
      let none_refers = no_refs goes_on s r not in
      let none_holds = no_holder goes_on s r none_refers in
      let p : Planting T = record { generation = t.gen; value = y } in
      let account : Account goes_on (moved t t.gen (Planted y) (Some y) (p ∷ []) []) = subst (λ (l : List (Life T)). Account goes_on (record t { stage = Planted y; value = Some y; plants = t.plants ++ p ∷ []; lives = l })) (sym (append-nil t.lives)) (account_plants goes_on t y e r.account) in
      let back : put_back s.homes me.1 ≡ set s.homes 0 (some (Some y)) = ap (put_back s.homes) out in
      let ready : IsGuarded goes_on record { words = set s.words 0 (bit_or x 4294967296); homes = set s.homes 0 (some (Some y)); views = set s.views id (seen v v.generation (Planted y) (p ∷ []) []) } = deed_step s r id v (bit_or x 4294967296) (set s.homes 0 (some (Some y))) t.gen v.generation (Planted y) (Some y) (p ∷ []) [] account at is own.generation_is (or_live x t.gen (r.top_is ∙ ap (λ z. 4 * t.gen + flags z) e))
      (λ m g q. absurd (none_refers m g q)) (λ m q. absurd (none_holds m q)) (λ _. set_here s.homes 0 (some (Some y)) (let o = r.one_slot in omega arith)) (length-set s.homes 0 _ ∙ r.one_slot) in
      let w : T → View T = λ z. record v { stage = Planted z; plants = v.plants ++ record { generation = v.generation; value = z } ∷ [] } in
      let same : seen v v.generation (Planted y) (p ∷ []) [] ≡ w y = λ i. record v { stage = Planted y; plants = v.plants ++ record { generation = sym own.generation_is i; value = y } ∷ []; lives = append-nil v.lives i } in (
        w y,
        gives,
        tt,
        subst (λ (hs : List (maybe.Option (Option T))). IsGuarded goes_on record { words = set s.words 0 (bit_or x 4294967296); homes = hs; views = set s.views id (w y) }) (sym back)
            (subst (λ (u : View T). IsGuarded goes_on record { words = set s.words 0 (bit_or x 4294967296); homes = set s.homes 0 (some (Some y)); views = set s.views id u }) same ready),
        (λ y' out' i. (w (same_some y y' (head_of me.1 0 (Some y) (Some y') out out') i), ap rest out i)),
      )

  same_planted : (p p' : T) → Planted p ≡ Planted p' → p ≡ p'
  same_planted p p' e = cc

  same_doomed : (p p' : T) → Doomed p ≡ Doomed p' → p ≡ p'
  same_doomed p p' e = cc

  pub dooms : (slots id : ℕ) (me : Sat T) (p : T) → me.0.role ≡ Owner → me.0.stage ≡ Planted p → Allows (IsGuarded goes_on) slots id me 0 (λ n. bit_or n 8589934592) (λ _ m'. doomed me m')
  dooms slots id me p is st s r wide at _ =
      let t : Truth T = r.truth in
      let v : View T = me.0 in let mine = r.each_seat id v at in let own = mine.owns is in let e : t.stage ≡ Planted p = sym own.stage_is ∙ st in let x : ℕ = get_or s.words 0 0 in
      let ready : IsGuarded goes_on record { words = set s.words 0 (bit_or x 8589934592); homes = s.homes; views = set s.views id (seen v v.generation (Doomed p) [] []) } = deed_step s r id v (bit_or x 8589934592) s.homes t.gen v.generation (Doomed p) t.value [] [] (quiet_account t t.gen (Doomed p) t.value (account_dooms goes_on t p e r.account)) at is own.generation_is (or_dying x t.gen (r.top_is ∙ ap (λ z. 4 * t.gen + flags z) e))
      (λ m g q. let o = r.refers m g q in (o.0, or_keeps x 8589934592 m o.2, tt)) (λ m q. (refl, refl)) (λ q. subst (Lies s.homes t.value) e (r.lies q)) r.one_slot in (
        record v { stage = Doomed p },
        keeps,
        tt,
        quiet s v v.generation (Doomed p) (set s.words 0 (bit_or x 8589934592)) s.homes id ready,
        (λ p' st' i. (record v { stage = Doomed (same_planted p p' (sym st ∙ st') i) }, me.1)),
      )

  module _ (same : (x : T) → goes_on x x) (further : (x y z : T) → goes_on x y → goes_on y z → goes_on x z) where
    -- a doomed deed that finds no reference bit takes the value out
    pub clears : (slots id : ℕ) (me : Sat T) (p : T) → me.0.role ≡ Owner → me.0.stage ≡ Doomed p → Allows (IsGuarded goes_on) slots id me 0 (λ n. n) (looked goes_on me)
    clears slots id me p is st s r wide at _ =
        let t : Truth T = r.truth in
        let v : View T = me.0 in let mine = r.each_seat id v at in let own = mine.owns is in let e : t.stage ≡ Doomed p = sym own.stage_is ∙ st in let x : ℕ = get_or s.words 0 0 in
        dite (ℕ_discrete (x % 4294967296) 0)
        (λ clear.
        let none_refers : (m g : ℕ) → t.refs m ≢ Some g = λ m g q. let o = r.refers m g q in let lt = o.1 in let few = r.few in let z = low_none x m clear (omega arith) in let z' = o.2 in omega arith in
        let none_holds : t.holder ≡ None = no_one t.holder (no_holder goes_on s r none_refers) in
        let d = doomed_goes goes_on same further t p r.account e in let y : T = d.0 in
        let ready : IsGuarded goes_on record { words = set s.words 0 x; homes = set s.homes 0 none; views = set s.views id (seen v v.generation (Clear p y) [] []) } = deed_step s r id v x (set s.homes 0 none) t.gen v.generation (Clear p y) t.value [] [] (quiet_account t t.gen (Clear p y) t.value (account_clears goes_on t p y e d.1 r.account)) at is own.generation_is (r.top_is ∙ ap (λ z. 4 * t.gen + flags z) e)
        (λ m g q. absurd (none_refers m g q)) (λ m q. (refl, refl)) (λ _. tt) (length-set s.homes 0 none ∙ r.one_slot) in (
          record v { stage = Clear p y },
          takes 0 (Some y),
          subst (Lies s.homes t.value) e (r.lies none_holds) ∙ ap (λ z. some (some z)) d.1,
          quiet s v v.generation (Clear p y) (set s.words 0 x) (set s.homes 0 none) id ready,
          (λ p' st'. let q : p ≡ p' = same_doomed p p' (sym st ∙ st') in
              ((λ _. (y, (λ i. (record v { stage = Clear (q i) y }, (0, Some y) ∷ me.1)), subst (λ z. goes_on z y) q d.2)), λ not. absurd (not clear))),
        ))
        (λ not. (v, keeps, tt, stays goes_on s r 0 id v at, (λ p' st'. ((λ clear. absurd (not clear)), λ _. refl))))

  same_clear : (p p' x x' : T) → Clear p x ≡ Clear p' x' → (p ≡ p') × (x ≡ x')
  same_clear p p' x x' e = (cc, cc)

  -- the last life of a cell leaves it spent
  pub buries : (slots id k : ℕ) (me : Sat T) (p x : T) → me.0.role ≡ Owner → me.0.stage ≡ Clear p x → me.1 ≡ (0, None) ∷ [] → k / 4294967296 ≡ 4 * generation_after me.0.generation → Allows (IsGuarded goes_on) slots id me 0 (λ _. k) (λ _ m'. buried me m')
  buries slots id k me p x is st out top s r wide at _ =
      let t : Truth T = r.truth in
      let v : View T = me.0 in let mine = r.each_seat id v at in let own = mine.owns is in let e : t.stage ≡ Clear p x = sym own.stage_is ∙ st in
      let gen_is : v.generation ≡ t.gen = own.generation_is in
      let not : ¬ IsStanding t.stage = λ z. subst IsStanding e z in
      let none_refers = no_refs goes_on s r not in
      let none_holds = no_holder goes_on s r none_refers in
      let life : ℕ → Life T = λ g. record { generation = g; planted = p; given = x } in
      let back : put_back s.homes me.1 ≡ set s.homes 0 (some None) = ap (put_back s.homes) out in
      let there : get_elem? (set s.homes 0 (some None)) 0 ≡ some (some None) = set_here s.homes 0 (some None) (let o = r.one_slot in omega arith) in
      let go : (gen' : ℕ) (stage' : Stage T) → generation_after v.generation ≡ gen' → stage_after v.generation ≡ stage' → over stage' gen' ≡ suc t.gen → begun stage' gen' ≡ suc t.gen → standing stage' gen' ≡ [] → ((ts : List (Taken T)) (y : Option T) → Runs stage' ts y) → flags stage' ≡ 0 → Lies (set s.homes 0 (some None)) t.value stage'
      → IsGuarded goes_on record { words = set s.words 0 k; homes = put_back s.homes me.1; views = set s.views id (buried_view v p x) }
      = λ gen' stage' ge se ov be no ru fl li.
      let account : Account goes_on (moved t gen' stage' t.value [] (life t.gen ∷ [])) = subst (λ (l : List (Planting T)). Account goes_on (record t { gen = gen'; stage = stage'; plants = l; lives = t.lives ++ life t.gen ∷ [] })) (sym (append-nil t.plants)) (account_buries goes_on t stage' gen' p x e ov be no ru r.account) in
      let ready : IsGuarded goes_on record { words = set s.words 0 k; homes = set s.homes 0 (some None); views = set s.views id (seen v gen' stage' [] (life t.gen ∷ [])) } = deed_step s r id v k (set s.homes 0 (some None)) gen' gen' stage' t.value [] (life t.gen ∷ []) account at is refl (let f = fl in let g = ge in omega (arith, top))
      (λ m g q. absurd (none_refers m g q)) (λ m q. absurd (none_holds m q)) (λ _. li) (length-set s.homes 0 _ ∙ r.one_slot) in
      let same : seen v gen' stage' [] (life t.gen ∷ []) ≡ buried_view v p x = λ i. record v { generation = sym ge i; stage = sym se i; plants = append-nil v.plants i; lives = v.lives ++ life (sym gen_is i) ∷ [] } in
      subst (λ (hs : List (maybe.Option (Option T))). IsGuarded goes_on record { words = set s.words 0 k; homes = hs; views = set s.views id (buried_view v p x) }) (sym back)
      (subst (λ (u : View T). IsGuarded goes_on record { words = set s.words 0 k; homes = set s.homes 0 (some None); views = set s.views id u }) same ready) in (
        buried_view v p x,
        gives,
        tt,
        dite (ℕ_discrete v.generation last)
            (λ q. go t.gen Spent (ap (λ b. cond b v.generation (suc v.generation)) (eq-eqb v.generation last q) ∙ gen_is) (ap (λ b. cond b Spent Home) (eq-eqb v.generation last q)) refl refl refl (λ ts y. tt) refl tt)
            (λ ne. go (suc t.gen) Home (ap (λ b. cond b v.generation (suc v.generation)) (ne_eqb v.generation last ne) ∙ ap suc gen_is) (ap (λ b. cond b Spent Home) (ne_eqb v.generation last ne)) refl refl refl (λ ts y. tt) refl there),
        (λ p' x' st'. let q = same_clear p p' x x' (sym st ∙ st') in λ i. (buried_view v (q.0 i) (q.1 i), ap rest out i)),
      )
