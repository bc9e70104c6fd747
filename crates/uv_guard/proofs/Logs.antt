-- What a step adds to all that was done with a cell.
use Rattle.std.proofs.Common.{◌≡◌, ◌≢◌, ◌⊎◌, inl, ℕ, suc, ◌+◌, ◌<◌, ◌≤◌, cond, subst, sym, refl, ap, ◌∙◌, eq-eqb, ne_eqb, arith, List, [], ◌∷◌, ◌++◌, append_assoc, append-nil, Bool, true, false, nat_eq, length, map}
use Rattle.std.specs.Prelude.{Option, Some, None}
use Rattle.uv_num.specs.Each.{Each}
use Rattle.uv_num.specs.Prefix.{IsPrefix}
use Rattle.uv_order.specs.declared.signed.Signed.{Signed}
use Rattle.uv_order.specs.declared.taken.Taken.{Taken}
use Rattle.uv_guard.specs.declared.life.Stage.{Stage}
use Rattle.uv_guard.specs.declared.life.Stage.TheVariants.{Home, Filling, Planted, Doomed, Clear, Spent}
use Rattle.uv_guard.specs.declared.life.Planting.{Planting}
use Rattle.uv_guard.specs.declared.life.Life.{Life}
use Rattle.uv_guard.specs.declared.view.Kept.{Kept}
use Rattle.uv_order.specs.Signed.{nobody, sign, those, AreOfSeats}
use Rattle.uv_order.specs.Laws.{LogLaws, TakingLaws}
use Rattle.uv_order.specs.Takings.{run, Chains}
use Rattle.uv_guard.specs.Lives.{IsStanding, over, begun, standing, planting, LeadsTo, Runs, AreLived, AreNumbered, AreEnded, Grows, IsAfter, IsOf, AreKept, IsApart}
use Rattle.uv_guard.specs.Rule.{Truth, Account}

pub each_snoc : {X : Type 0} (P : X → Type 0) (xs : List X) (x : X) → Each P xs → P x → Each P (xs ++ x ∷ [])
each_snoc P [] x e p = (p, tt)
each_snoc P (y ∷ ys) x e p = (e.0, each_snoc P ys x e.1 p)

pub each_map : {X : Type 0} (P Q : X → Type 0) → ((x : X) → P x → Q x) → (xs : List X) → Each P xs → Each Q xs
each_map P Q f [] e = tt
each_map P Q f (x ∷ xs) e = (f x e.0, each_map P Q f xs e.1)

pub each_front : {X : Type 0} (P : X → Type 0) (xs ys : List X) → Each P (xs ++ ys) → Each P xs
each_front P [] ys e = tt
each_front P (x ∷ xs) ys e = (e.0, each_front P xs ys e.1)

pub prefix_whole : {X : Type 0} (xs : List X) → IsPrefix xs xs
prefix_whole xs = record { rest = []; goes_on = sym (append-nil xs) }

pub prefix_none : {X : Type 0} (xs : List X) → IsPrefix [] xs
prefix_none xs = record { rest = xs; goes_on = refl }

pub prefix_grows : {X : Type 0} (xs ys more : List X) → IsPrefix xs ys → IsPrefix xs (ys ++ more)
prefix_grows xs ys more p = record { rest = p.rest ++ more; goes_on = ap (λ l. l ++ more) p.goes_on ∙ append_assoc xs p.rest more }

pub length_more : {X : Type 0} (xs : List X) (x : X) → length (xs ++ x ∷ []) ≡ suc (length xs)
length_more [] x = refl
length_more (y ∷ ys) x = ap suc (length_more ys x)

-- one entry more, by seat
module _ {E : Type 0} (laws : LogLaws E) (n : ℕ) (t : E) (log : List (Signed E)) where
  pub those_same : those n (log ++ record { by = n; entry = t } ∷ []) ≡ those n log ++ t ∷ []
  those_same = laws.signing.those_two n log (sign n (t ∷ [])) ∙ ap (λ l. those n log ++ l) (laws.signing.those_sign n (t ∷ []))

  pub those_other : (m : ℕ) → n ≢ m → those m (log ++ record { by = n; entry = t } ∷ []) ≡ those m log
  those_other m ne = laws.signing.those_two m log (sign n (t ∷ [])) ∙ (ap (λ l. those m log ++ l) (laws.signing.silent_other m n ne (t ∷ [])) ∙ append-nil (those m log))

-- a seat that is yet to be made took nothing
pub those_none : {E : Type 0} → LogLaws E → (n : ℕ) (log : List (Signed E)) → n < nobody → AreOfSeats n log → those n log ≡ []
those_none {E} laws n log lt seats = laws.signing.silent_below n lt log (each_map (λ (y : Signed E). y.by < n) (λ (y : Signed E). (y.by < n) ⊎ (y.by ≡ nobody)) (λ y b. inl b) log seats)

module _ {T : Type 0} where
  -- no life has begun at this generation, so nothing was taken in it
  none_yet : (g : ℕ) (log : List (Signed (Taken T))) → AreLived g log → run g log ≡ []
  none_yet g [] y = refl
  none_yet g (u ∷ us) y = ap (λ b. cond b (u.entry ∷ run g us) (run g us)) (ne_eqb u.entry.generation g (λ e. let lt = y.0 in omega arith)) ∙ none_yet g us y.1

  numbered_on : (k : ℕ) (log : List (Signed (Taken T))) (y : Signed (Taken T)) → AreNumbered k log → y.entry.number ≡ k + length log → AreNumbered k (log ++ y ∷ [])
  numbered_on k [] y a e = (omega arith, tt)
  numbered_on k (u ∷ us) y a e = (a.0, numbered_on (suc k) us y a.1 (omega arith))

  -- a taking of a life that isn't over changes none that is
  ended_on : TakingLaws T → (k g n : ℕ) (t : Taken T) (log : List (Signed (Taken T))) → t.generation ≡ g → (ls : List (Life T)) → k + length ls ≤ g → AreEnded k log ls → AreEnded k (log ++ record { by = n; entry = t } ∷ []) ls
  ended_on laws k g n t log is [] le e = tt
  ended_on laws k g n t log is (l ∷ ls) le e =
      (e.0, subst (λ (ts : List (Taken T)). Chains l.planted ts l.given) (sym (laws.run_other k n t log (λ q. omega arith))) e.1, ended_on laws (suc k) g n t log is ls (omega arith) e.2)

  -- one life more is over
  ended_more : (k g : ℕ) (log : List (Signed (Taken T))) (p x : T) (ls : List (Life T)) → k + length ls ≡ g → AreEnded k log ls → Chains p (run g log) x → AreEnded k log (ls ++ record { generation = g; planted = p; given = x } ∷ [])
  ended_more k g log p x [] le e c = let z : g ≡ k = omega arith in (z, subst (λ n. Chains p (run n log) x) z c, tt)
  ended_more k g log p x (l ∷ ls) le e c = (e.0, e.1, ended_more (suc k) g log p x ls (omega arith) e.2 c)

  planted_more : (ls : List (Life T)) (l : Life T) → map planting (ls ++ l ∷ []) ≡ map planting ls ++ planting l ∷ []
  planted_more [] l = refl
  planted_more (x ∷ xs) l = ap (λ m. planting x ∷ m) (planted_more xs l)

  leads_on : TakingLaws T → (p : T) (ts : List (Taken T)) (x : Option T) (t : Taken T) → LeadsTo p ts x → x ≡ Some t.entered → Chains p (ts ++ t ∷ []) t.left
  leads_on laws p ts None t l e = absurd l
  leads_on laws p ts (Some y) t l e = laws.chains_on p ts y t l (let z : y ≡ t.entered = cc in sym z)

  runs_on : TakingLaws T → (stage : Stage T) (x : Option T) (ts : List (Taken T)) (t : Taken T) → IsStanding stage → Runs stage ts x → x ≡ Some t.entered → Runs stage (ts ++ t ∷ []) (Some t.left)
  runs_on laws Home x ts t h r e = absurd h
  runs_on laws Filling x ts t h r e = absurd h
  runs_on laws (Planted p) x ts t h r e = leads_on laws p ts x t r e
  runs_on laws (Doomed p) x ts t h r e = leads_on laws p ts x t r e
  runs_on laws (Clear p y) x ts t h r e = absurd h
  runs_on laws Spent x ts t h r e = absurd h

  -- something leads to a value, so there is one
  led : (p : T) (ts : List (Taken T)) (x : Option T) → LeadsTo p ts x → (y : T) × (x ≡ Some y) × Chains p ts y
  led p ts None l = absurd l
  led p ts (Some y) l = (y, refl, l)

  -- a standing cell has a value
  pub has_value : (stage : Stage T) (ts : List (Taken T)) (x : Option T) → IsStanding stage → Runs stage ts x → (y : T) × (x ≡ Some y)
  has_value Home ts x h r = absurd h
  has_value Filling ts x h r = absurd h
  has_value (Planted p) ts x h r = let l = led p ts x r in (l.0, l.1)
  has_value (Doomed p) ts x h r = let l = led p ts x r in (l.0, l.1)
  has_value (Clear p y) ts x h r = absurd h
  has_value Spent ts x h r = absurd h

  begun_standing : (stage : Stage T) (g : ℕ) → IsStanding stage → (over stage g ≡ g) × (begun stage g ≡ suc g)
  begun_standing Home g h = absurd h
  begun_standing Filling g h = absurd h
  begun_standing (Planted p) g h = (refl, refl)
  begun_standing (Doomed p) g h = (refl, refl)
  begun_standing (Clear p x) g h = absurd h
  begun_standing Spent g h = absurd h

module _ {T : Type 0} (goes_on : T → T → Type 0) where
  -- a taking is given back
  pub account_gives : TakingLaws T → (t : Truth T) (refs : ℕ → Option ℕ) (holder : Option ℕ) (n : ℕ) (u : Taken T) → Account goes_on t → IsStanding t.stage → n < t.given → u.number ≡ length t.log → u.generation ≡ t.gen → t.value ≡ Some u.entered → goes_on u.entered u.left
      → Account goes_on (record t { value = Some u.left; refs = refs; holder = holder; log = t.log ++ record { by = n; entry = u } ∷ [] })
  account_gives laws t refs holder n u a h lt num is e grows =
      let b = begun_standing t.stage t.gen h in let over_is = b.0 in let begun_is = b.1 in let past = a.past in
      record {
        past = a.past;
        planted = a.planted;
        numbered = numbered_on 0 t.log (record { by = n; entry = u }) a.numbered (omega arith);
        authors = each_snoc (λ (y : Signed (Taken T)). y.by < t.given) t.log (record { by = n; entry = u }) a.authors lt;
        lived = each_snoc (λ (y : Signed (Taken T)). y.entry.generation < begun t.stage t.gen) t.log (record { by = n; entry = u }) a.lived (omega arith);
        grows = each_snoc (λ (y : Signed (Taken T)). goes_on y.entry.entered y.entry.left) t.log (record { by = n; entry = u }) a.grows grows;
        runs = subst (λ (ts : List (Taken T)). Runs t.stage ts (Some u.left)) (sym (laws.run_same t.gen n u t.log is)) (runs_on laws t.stage t.value (run t.gen t.log) u h a.runs e);
        ended = ended_on laws 0 t.gen n u t.log is t.lives (omega arith) a.ended;
      }

  -- nothing of it changes
  pub account_keeps : (t : Truth T) (refs : ℕ → Option ℕ) (holder : Option ℕ) → Account goes_on t → Account goes_on (record t { refs = refs; holder = holder })
  account_keeps t refs holder a = record {
    past = a.past;
    planted = a.planted;
    numbered = a.numbered;
    authors = a.authors;
    lived = a.lived;
    grows = a.grows;
    runs = a.runs;
    ended = a.ended;
  }

  pub account_fills : (t : Truth T) → t.stage ≡ Home → Account goes_on t → Account goes_on (record t { stage = Filling })
  account_fills t e a = record {
    past = subst (λ (s : Stage T). over s t.gen ≡ length t.lives) e a.past;
    planted = subst (λ (s : Stage T). t.plants ≡ map planting t.lives ++ standing s t.gen) e a.planted;
    numbered = a.numbered;
    authors = a.authors;
    lived = subst (λ (s : Stage T). AreLived (begun s t.gen) t.log) e a.lived;
    grows = a.grows;
    runs = tt;
    ended = a.ended;
  }

  pub account_plants : (t : Truth T) (y : T) → t.stage ≡ Filling → Account goes_on t → Account goes_on (record t { stage = Planted y; value = Some y; plants = t.plants ++ record { generation = t.gen; value = y } ∷ [] })
  account_plants t y e a =
      let lived : AreLived t.gen t.log = subst (λ (s : Stage T). AreLived (begun s t.gen) t.log) e a.lived in
      record {
        past = subst (λ (s : Stage T). over s t.gen ≡ length t.lives) e a.past;
        planted = ap (λ (l : List (Planting T)). l ++ record { generation = t.gen; value = y } ∷ []) (subst (λ (s : Stage T). t.plants ≡ map planting t.lives ++ standing s t.gen) e a.planted ∙ append-nil (map planting t.lives));
        numbered = a.numbered;
        authors = a.authors;
        lived = each_map (λ (u : Signed (Taken T)). u.entry.generation < t.gen) (λ (u : Signed (Taken T)). u.entry.generation < suc t.gen) (λ u lt. omega arith) t.log lived;
        grows = a.grows;
        runs = subst (λ (ts : List (Taken T)). Chains y ts y) (sym (none_yet t.gen t.log lived)) refl;
        ended = a.ended;
      }

  pub account_dooms : (t : Truth T) (p : T) → t.stage ≡ Planted p → Account goes_on t → Account goes_on (record t { stage = Doomed p })
  account_dooms t p e a = record {
    past = subst (λ (s : Stage T). over s t.gen ≡ length t.lives) e a.past;
    planted = subst (λ (s : Stage T). t.plants ≡ map planting t.lives ++ standing s t.gen) e a.planted;
    numbered = a.numbered;
    authors = a.authors;
    lived = subst (λ (s : Stage T). AreLived (begun s t.gen) t.log) e a.lived;
    grows = a.grows;
    runs = subst (λ (s : Stage T). Runs s (run t.gen t.log) t.value) e a.runs;
    ended = a.ended;
  }

  pub account_clears : (t : Truth T) (p x : T) → t.stage ≡ Doomed p → t.value ≡ Some x → Account goes_on t → Account goes_on (record t { stage = Clear p x })
  account_clears t p x e there a = record {
    past = subst (λ (s : Stage T). over s t.gen ≡ length t.lives) e a.past;
    planted = subst (λ (s : Stage T). t.plants ≡ map planting t.lives ++ standing s t.gen) e a.planted;
    numbered = a.numbered;
    authors = a.authors;
    lived = subst (λ (s : Stage T). AreLived (begun s t.gen) t.log) e a.lived;
    grows = a.grows;
    runs = subst (λ (z : Option T). LeadsTo p (run t.gen t.log) z) there (subst (λ (s : Stage T). Runs s (run t.gen t.log) t.value) e a.runs);
    ended = a.ended;
  }

  -- the life that was cleared is over, and the cell is home at the next generation, or spent
  pub account_buries : (t : Truth T) (stage' : Stage T) (gen' : ℕ) (p x : T) → t.stage ≡ Clear p x → over stage' gen' ≡ suc t.gen → begun stage' gen' ≡ suc t.gen → standing stage' gen' ≡ [] → ((ts : List (Taken T)) (y : Option T) → Runs stage' ts y) → Account goes_on t
      → Account goes_on (record t { gen = gen'; stage = stage'; lives = t.lives ++ record { generation = t.gen; planted = p; given = x } ∷ [] })
  account_buries t stage' gen' p x e over_is begun_is none runs a =
      let life : Life T = record { generation = t.gen; planted = p; given = x } in
      let past : t.gen ≡ length t.lives = subst (λ (s : Stage T). over s t.gen ≡ length t.lives) e a.past in
      let planted : t.plants ≡ map planting t.lives ++ planting life ∷ [] = subst (λ (s : Stage T). t.plants ≡ map planting t.lives ++ standing s t.gen) e a.planted in
      record {
        past = let m = length_more t.lives life in omega arith;
        planted = planted ∙ (sym (planted_more t.lives life) ∙ (sym (append-nil (map planting (t.lives ++ life ∷ []))) ∙ ap (λ (l : List (Planting T)). map planting (t.lives ++ life ∷ []) ++ l) (sym none)));
        numbered = a.numbered;
        authors = a.authors;
        lived = subst (λ n. AreLived n t.log) (subst (λ (s : Stage T). begun s t.gen ≡ suc t.gen) (sym e) refl ∙ sym begun_is) a.lived;
        grows = a.grows;
        runs = runs (run gen' t.log) t.value;
        ended = ended_more 0 t.gen t.log p x t.lives (omega arith) a.ended (subst (λ (s : Stage T). Runs s (run t.gen t.log) t.value) e a.runs);
      }

  -- one seat more is made
  pub account_forks : (t : Truth T) (chair : ℕ → ℕ) → Account goes_on t → Account goes_on (record t { chair = chair; given = suc t.given })
  account_forks t chair a = record {
    past = a.past;
    planted = a.planted;
    numbered = a.numbered;
    authors = each_map (λ (y : Signed (Taken T)). y.by < t.given) (λ (y : Signed (Taken T)). y.by < suc t.given) (λ y lt. omega arith) t.log a.authors;
    lived = a.lived;
    grows = a.grows;
    runs = a.runs;
    ended = a.ended;
  }

  pub account_joins : (t : Truth T) (kept : List (Kept T)) → Account goes_on t → Account goes_on (record t { kept = kept })
  account_joins t kept a = record {
    past = a.past;
    planted = a.planted;
    numbered = a.numbered;
    authors = a.authors;
    lived = a.lived;
    grows = a.grows;
    runs = a.runs;
    ended = a.ended;
  }

  module _ (same : (x : T) → goes_on x x) (further : (x y z : T) → goes_on x y → goes_on y z → goes_on x z) where
    abbrev After : List (Taken T) → T → Type 0
    After ts x = Each (λ (t : Taken T). goes_on t.entered x × goes_on t.left x) ts

    -- the last of a chain goes on from all of it
    chain_goes : (p : T) (ts : List (Taken T)) (x : T) → Chains p ts x → Each (λ (t : Taken T). goes_on t.entered t.left) ts → goes_on p x × After ts x
    chain_goes p [] x c g = (subst (goes_on p) (sym c) (same p), tt)
    chain_goes p (t ∷ ts) x c g =
        let r = chain_goes t.left ts x c.1 g.1 in
        let e : goes_on t.entered x = further t.entered t.left x g.0 r.0 in
        (subst (λ y. goes_on y x) c.0 e, ((e, r.0), r.1))

    run_grows : (g : ℕ) (log : List (Signed (Taken T))) → Grows goes_on log → Each (λ (t : Taken T). goes_on t.entered t.left) (run g log)
    run_grows g [] e = tt
    run_grows g (y ∷ ys) e = go (nat_eq y.entry.generation g) (run_grows g ys e.1)
      where
        go : (b : Bool) → Each (λ (t : Taken T). goes_on t.entered t.left) (run g ys) → Each (λ (t : Taken T). goes_on t.entered t.left) (cond b (y.entry ∷ run g ys) (run g ys))
        go true r = (e.0, r)
        go false r = r

    -- what goes on from a whole run goes on from a seat's own part of it
    own_after : (g n : ℕ) (x : T) (log : List (Signed (Taken T))) → After (run g log) x → IsAfter goes_on g (those n log) x
    own_after g n x [] a = tt
    own_after g n x (y ∷ ys) a = go (nat_eq y.by n) (own_after g n x ys (others (nat_eq y.entry.generation g) a))
      where
        others : (b : Bool) → After (cond b (y.entry ∷ run g ys) (run g ys)) x → After (run g ys) x
        others true r = r.1
        others false r = r

        here : y.entry.generation ≡ g → goes_on y.entry.entered x × goes_on y.entry.left x
        here e = (subst (λ b. After (cond b (y.entry ∷ run g ys) (run g ys)) x) (eq-eqb y.entry.generation g e) a).0

        go : (b : Bool) → IsAfter goes_on g (those n ys) x → IsAfter goes_on g (cond b (y.entry ∷ those n ys) (those n ys)) x
        go true r = (here, r)
        go false r = r

    -- a life that is over was planted at an earlier generation
    earlier : (k g : ℕ) (x : T) (log : List (Signed (Taken T))) (ls : List (Life T)) (ps : List (Planting T)) → AreEnded k log ls → k + length ls ≤ g → IsOf goes_on g ps x → IsOf goes_on g (map planting ls ++ ps) x
    earlier k g x log [] ps e le o = o
    earlier k g x log (l ∷ ls) ps e le o = let is = e.0 in ((λ q. absurd (omega arith)), earlier (suc k) g x log ls ps e.2 (omega arith) o)

    -- where seats may refer to a cell, its value goes on from all that a seat knows of this life
    pub value_goes : (t : Truth T) (x : T) (n : ℕ) (plants : List (Planting T)) → Account goes_on t → IsStanding t.stage → t.value ≡ Some x → IsPrefix plants t.plants → IsAfter goes_on t.gen (those n t.log) x × IsOf goes_on t.gen plants x
    value_goes t x n plants a h there known = by_stage t.stage h a.past (subst (Runs t.stage (run t.gen t.log)) there a.runs) a.planted
      where
        with_chain : (p : T) → t.gen ≡ length t.lives → Chains p (run t.gen t.log) x → t.plants ≡ map planting t.lives ++ record { generation = t.gen; value = p } ∷ [] → IsAfter goes_on t.gen (those n t.log) x × IsOf goes_on t.gen plants x
        with_chain p past c planted =
            let r = chain_goes p (run t.gen t.log) x c (run_grows t.gen t.log a.grows) in
            let all : IsOf goes_on t.gen (map planting t.lives ++ record { generation = t.gen; value = p } ∷ []) x = earlier 0 t.gen x t.log t.lives (record { generation = t.gen; value = p } ∷ []) a.ended (omega arith) ((λ _. r.0), tt) in
            (own_after t.gen n x t.log r.1, each_front (λ (q : Planting T). q.generation ≡ t.gen → goes_on q.value x) plants known.rest (subst (λ (l : List (Planting T)). IsOf goes_on t.gen l x) (sym planted ∙ known.goes_on) all))

        by_stage : (s : Stage T) → IsStanding s → over s t.gen ≡ length t.lives → Runs s (run t.gen t.log) (Some x) → t.plants ≡ map planting t.lives ++ standing s t.gen → IsAfter goes_on t.gen (those n t.log) x × IsOf goes_on t.gen plants x
        by_stage Home h past r planted = absurd h
        by_stage Filling h past r planted = absurd h
        by_stage (Planted p) h past r planted = with_chain p past r planted
        by_stage (Doomed p) h past r planted = with_chain p past r planted
        by_stage (Clear p y) h past r planted = absurd h
        by_stage Spent h past r planted = absurd h

    -- what a doomed cell holds goes on from what was planted
    pub doomed_goes : (t : Truth T) (p : T) → Account goes_on t → t.stage ≡ Doomed p → (x : T) × (t.value ≡ Some x) × goes_on p x
    doomed_goes t p a e =
        let l = led p (run t.gen t.log) t.value (subst (λ (s : Stage T). Runs s (run t.gen t.log) t.value) e a.runs) in
        (l.0, l.1, (chain_goes p (run t.gen t.log) l.0 l.2 (run_grows t.gen t.log a.grows)).0)

module _ {T : Type 0} where
  -- a taking by a seat that wasn't joined leaves what the joined ones took
  pub kept_gives : LogLaws (Taken T) → (n : ℕ) (t : Taken T) (log : List (Signed (Taken T))) (plants : List (Planting T)) (lives : List (Life T)) (ks : List (Kept T)) → IsApart n ks → AreKept log plants lives ks → AreKept (log ++ record { by = n; entry = t } ∷ []) plants lives ks
  kept_gives laws n t log plants lives [] a k = tt
  kept_gives laws n t log plants lives (x ∷ xs) a k = ((those_other laws n t log x.number (λ e. a.0 (sym e)) ∙ k.0.0, k.0.1, k.0.2), kept_gives laws n t log plants lives xs a.1 k.1)

  -- plantings and lives only come to an end
  pub kept_grows : (log : List (Signed (Taken T))) (plants plants' : List (Planting T)) (lives lives' : List (Life T)) (ks : List (Kept T)) → AreKept log plants lives ks → AreKept log (plants ++ plants') (lives ++ lives') ks
  kept_grows log plants plants' lives lives' [] k = tt
  kept_grows log plants plants' lives lives' (x ∷ xs) k = ((k.0.0, prefix_grows x.plants plants plants' k.0.1, prefix_grows x.lives lives lives' k.0.2), kept_grows log plants plants' lives lives' xs k.1)
