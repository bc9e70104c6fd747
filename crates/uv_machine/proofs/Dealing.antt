-- What an entry makes, and what it does to cells.
use Rattle.std.proofs.Common.{◌≡◌, ℕ, ◌+◌, Bool, true, false, List, [], ◌∷◌, Option, Some, None, refl, ap, sym, ◌∙◌, arith, inl, inr}
use Rattle.std.specs.Prelude.{◌==◌, ◌++◌, slice_get, find, cond, if◌then◌else◌}
use Rattle.std.proofs.lemmas.Bool.{and_parts, eq-eqb, ne_eqb}
use Rattle.uv_num.specs.declared.errno.Errno.{Errno}
use Rattle.uv_num.specs.declared.errno.Errno.TheVariants.{NoSpc}
use Rattle.uv_num.specs.declared.limits.TheConstants.{NONE}
use Rattle.uv_num.specs.declared.qp.QpState.{QpState}
use Rattle.uv_num.specs.declared.request.Act as request
use Rattle.uv_num.specs.declared.request.Act.TheVariants.{Modify, Query, Bind, Unbind, Async}
use Rattle.uv_num.specs.Kind.{kind_place}
use Rattle.uv_num.specs.Place.{at_place}
use Rattle.uv_machine.specs.declared.entry.Entry.{Entry}
use Rattle.uv_machine.specs.declared.entry.Entry.TheVariants.{Open, Enter, Step, Unplug, Tear, Kill, Gone, Dissociated, Closed}
use Rattle.uv_machine.specs.declared.entry.Word.{Word}
use Rattle.uv_machine.specs.declared.entry.Word.TheVariants as word
use Rattle.uv_machine.specs.declared.entry.Answer.{Answer}
use Rattle.uv_machine.specs.declared.object.Object.{Object}
use Rattle.uv_machine.specs.declared.call.InFlight.{InFlight}
use Rattle.uv_machine.specs.declared.state.State.{State}
use Rattle.uv_machine.specs.declared.told.Told.{Told}
use Rattle.uv_machine.specs.Objects.{has_id, is_doomed}
use Rattle.uv_machine.specs.Cells.{drawn, buried_at}
use Rattle.uv_machine.specs.Plans.{next_word, own_object, closing}
use Rattle.uv_machine.specs.States.{object_with, home_cell, home_of_kind}
use Rattle.uv_machine.specs.Steps.{told, make_told, cell_told, refused_told, step_answer}
use Rattle.uv_machine.specs.Effects.{refusal_in, with_burial, act, buried_if_doomed, generation_in, gone_from, unless_answered}
use Rattle.uv_machine.specs.Outside.{may_sweep, may_go_object}
use Rattle.uv_machine.specs.Histories.{Allowed, after, kept_in}
use Rattle.uv_machine.specs.Accounts.{is_make}
use Rattle.uv_machine.specs.Reached.{IsIn, Reached}
use Rattle.uv_machine.specs.Made.{step_made, new_by}
use Rattle.uv_machine.proofs.Members.{Passes-find}
use Rattle.uv_machine.proofs.Planned.{InPlan, IsClosing, next_word-planned, next_word-closing}
use Rattle.uv_machine.proofs.Turns.{Turn, Made, object_made, IsTurn, IsTurn-allowed}
use Rattle.uv_machine.proofs.Turns.Turn.{Refuses, Reserves, Looks, Makes, Commits, Does, Locks, Checks, Finishes, Aborts, Frees, Leaves}
use Rattle.uv_machine.proofs.Graph.{within_rising}
use Rattle.uv_machine.proofs.Holding.{finish_made}
use Rattle.uv_machine.proofs.Numbers.{Numbered, room_is, room_at}
use Rattle.uv_machine.proofs.Coming.{Begins}

-- A new object, after the others, in a cell that was home.

pub record Adds (m : State) (z : Object) (m' : State) : Type 0 where
  pub begins : Begins m z
  pub objects : m'.objects ≡ m.objects ++ z ∷ []
  pub made : m'.made ≡ m.made + 1
  pub pools : m'.pools ≡ at_place m.pools (kind_place z.kind) (drawn z.index)
  pub home : home_of_kind (slice_get m.pools (kind_place z.kind)) ≡ Some z.index
  pub generation : z.generation ≡ generation_in z.index (slice_get m.pools (kind_place z.kind))

-- A doomed object whose cell is buried.

pub record Returns (m : State) (x : Object) (m' : State) : Type 0 where
  pub within : IsIn x m.objects
  pub doomed : is_doomed x.phase ≡ true
  pub pools : m'.pools ≡ at_place m.pools (kind_place x.kind) (buried_at x.index)

-- an entry makes an object, or buries a cell, or does neither
pub data Deals (m : State) (new : Option Object) (m' : State) : Type 0 where
  MakesOne : (z : Object) → new ≡ Some z → Adds m z m' → Deals m new m'
  BuriesOne : (x : Object) → new ≡ None → m'.made ≡ m.made → Returns m x m' → Deals m new m'
  DealsNone : new ≡ None → m'.made ≡ m.made → m'.pools ≡ m.pools → Deals m new m'

nothing_new : (w : Word) (e : Option Errno) (x : Option Object) → is_make w ≡ false → step_made w e x ≡ None
nothing_new word.Reserve e x h = refl
nothing_new word.Look e x h = refl
nothing_new word.Make e x h = absurd cc
nothing_new word.Commit e x h = refl
nothing_new word.Act e x h = refl
nothing_new word.Lock e x h = refl
nothing_new word.Check e x h = refl
nothing_new word.Finish e x h = refl
nothing_new word.Abort e x h = refl
nothing_new word.Free e x h = refl
nothing_new word.Exit e x h = refl

refused_new : (w : Word) (e : Errno) (x : Option Object) → step_made w (Some e) x ≡ None
refused_new word.Reserve e x = refl
refused_new word.Look e x = refl
refused_new word.Make e x = refl
refused_new word.Commit e x = refl
refused_new word.Act e x = refl
refused_new word.Lock e x = refl
refused_new word.Check e x = refl
refused_new word.Finish e x = refl
refused_new word.Abort e x = refl
refused_new word.Free e x = refl
refused_new word.Exit e x = refl

act_pools : (m : State) (c : ℕ) (call : InFlight) (a : Answer) (what : request.Act) → (act m c call a what).pools ≡ m.pools
act_pools m c call a (Modify to attrs) = refl
act_pools m c call a Query = refl
act_pools m c call a (Bind offset long access) = refl
act_pools m c call a (Unbind offset long access) = refl
act_pools m c call a Async = refl

act_made : (m : State) (c : ℕ) (call : InFlight) (a : Answer) (what : request.Act) → (act m c call a what).made ≡ m.made
act_made m c call a (Modify to attrs) = refl
act_made m c call a Query = refl
act_made m c call a (Bind offset long access) = refl
act_made m c call a (Unbind offset long access) = refl
act_made m c call a Async = refl

neither : (m m' n : State) (new : Option Object) → new ≡ None → m' ≡ n → n.made ≡ m.made → n.pools ≡ m.pools → Deals m new m'
neither m m' n new none e made pools = Deals.DealsNone none (ap (λ (s : State). s.made) e ∙ made) (ap (λ (s : State). s.pools) e ∙ pools)

-- the end of a husk buries nothing
buries_by : (m m' : State) (new : Option Object) (x : Object) (doomed : Bool) → is_doomed x.phase ≡ doomed → IsIn x m.objects → new ≡ None → m'.made ≡ m.made → m'.pools ≡ (if doomed then with_burial m x else m).pools → Deals m new m'
buries_by m m' new x true e k none made pools = Deals.BuriesOne x none made (record { within = k; doomed = e; pools = pools })
buries_by m m' new x false e k none made pools = Deals.DealsNone none made pools

finishes_by : (m m' : State) (o : ℕ) (new : Option Object) (slot : Option Object) → object_with m o ≡ slot → new ≡ None → m'.made ≡ m.made → m'.pools ≡ (buried_if_doomed m slot).pools → Deals m new m'
finishes_by m m' o new None e none made pools = Deals.DealsNone none made pools
finishes_by m m' o new (Some x) e none made pools = buries_by m m' new x (is_doomed x.phase) refl (Passes-find (has_id o) x m.objects e).within none made pools

find_last : (o : ℕ) (z : Object) (xs : List Object) → (z.id == o) ≡ true → ((y : Object) → IsIn y xs → has_id o y ≡ false) → find (has_id o) (xs ++ z ∷ []) ≡ Some z
find_last o z [] e none = ap (λ b. cond b (Some z) None) e
find_last o z (y ∷ xs) e none = ap (λ b. cond b (Some y) (find (has_id o) (xs ++ z ∷ []))) (none y (inl refl)) ∙ find_last o z xs e (λ v k. none v (inr k))

next_fresh : (n : ℕ) (full : Bool) → full ≡ false → (if full then n else n + 1) ≡ n + 1
next_fresh n true e = absurd cc
next_fresh n false e = refl

module _ (m : State) (r : Reached m) (numbered : Numbered m) (c : ℕ) (w : Word) (o : ℕ) (found : Option QpState) (a : Answer) (allowed : Allowed m (Step c w o found a)) where
  abbrev m_now : State
  m_now = after m (Step c w o found a)

  abbrev turn_now : IsTurn m c w o found a (after m (Step c w o found a))
  turn_now = IsTurn-allowed m c w o found a allowed

  abbrev new_now : Option Object
  new_now = step_made w (refusal_in a) (object_with (after m (Step c w o found a)) o)

  none_by : (t : IsTurn m c w o found a (after m (Step c w o found a))) (v : Word) → next_word t.call ≡ v → is_make v ≡ false → new_now ≡ None
  none_by t v e never = nothing_new w (refusal_in a) (object_with (after m (Step c w o found a)) o) (ap is_make (sym t.word ∙ e) ∙ never)

  planned : (t : IsTurn m c w o found a (after m (Step c w o found a))) (v : Word) → InPlan t.call v → is_make v ≡ false → new_now ≡ None
  planned t v plan never = none_by t v (next_word-planned t.call v plan.fine plan.planned) never

  closes : (t : IsTurn m c w o found a (after m (Step c w o found a))) (v : Word) → IsClosing t.call → closing t.call ≡ v → is_make v ≡ false → new_now ≡ None
  closes t v ends is never = none_by t v (next_word-closing t.call ends ∙ is) never

  -- what a Make that isn't refused was told
  makes_told : (t : IsTurn m c w o found a (after m (Step c w o found a))) (k : Made m c t.call (after m (Step c w o found a))) → told m c t.call found w ≡ record { object = m.made; refusal = None }
  makes_told t k =
      let said : w ≡ word.Make = sym t.word ∙ next_word-planned t.call word.Make k.plan.fine k.plan.planned in
      ap (told m c t.call found) said
      ∙ ap (make_told m) k.creates
      ∙ ap (λ b. if b then refused_told NoSpc else cell_told m (home_cell m k.kind)) k.fresh
      ∙ ap (cell_told m) k.home

  makes_deal : (t : IsTurn m c w o found a (after m (Step c w o found a))) (k : Made m c t.call (after m (Step c w o found a))) → Deals m new_now (after m (Step c w o found a))
  makes_deal t k =
      let m' = after m (Step c w o found a) in
      let z = object_made m t.call k.kind k.index in
      let said : w ≡ word.Make = sym t.word ∙ next_word-planned t.call word.Make k.plan.fine k.plan.planned in
      let says = makes_told t k in
      let same : m.made ≡ o = sym (ap (λ (v : Told). v.object) says) ∙ t.object in
      let fine : refusal_in a ≡ None =
      ap refusal_in (sym t.answer)
      ∙ ap (λ (v : Told). refusal_in (step_answer m t.call found (kept_in a) w v.refusal)) says
      ∙ ap (λ v. refusal_in (step_answer m t.call found (kept_in a) v None)) said in
      let room = room_is z m.objects (room_at m c t.call r numbered t.is k.plan) in
      let objects : m'.objects ≡ m.objects ++ z ∷ [] = ap (λ (s : State). s.objects) k.gives ∙ room in
      let none : (y : Object) → IsIn y m.objects → has_id o y ≡ false =
      λ y h. ne_eqb y.id o (λ e. (let low = (within_rising 0 m.made y m.objects h r.graph.rising).1 in absurd (omega (arith, low, e, same)))) in
      let there : object_with m' o ≡ Some z = ap (find (has_id o)) objects ∙ find_last o z m.objects (eq-eqb m.made o same) none in
      Deals.MakesOne z (ap (λ v. step_made v (refusal_in a) (object_with m' o)) said ∙ ap (λ e. step_made word.Make e (object_with m' o)) fine ∙ there)
      (record {
        begins = record { actor = c; call = t.call; kind = k.kind; index = k.index; is = t.is; plan = k.plan; creates = k.creates; home = k.home; fresh = k.fresh; gives = refl };
        objects = objects;
        made = ap (λ (s : State). s.made) k.gives ∙ next_fresh m.made (m.made == NONE) k.fresh;
        pools = ap (λ (s : State). s.pools) k.gives;
        home = k.home;
        generation = refl;
      })

  deals_turn : (t : IsTurn m c w o found a (after m (Step c w o found a))) → Turn m c t.call a (after m (Step c w o found a)) → Deals m new_now (after m (Step c w o found a))
  deals_turn t (Refuses k) = neither m (after m (Step c w o found a)) _ new_now (ap (λ e. step_made w e (object_with (after m (Step c w o found a)) o)) k.tells ∙ refused_new w k.errno (object_with (after m (Step c w o found a)) o)) k.gives refl refl
  deals_turn t (Reserves k) = neither m (after m (Step c w o found a)) _ new_now (planned t word.Reserve k.plan refl) k.gives refl refl
  deals_turn t (Looks k) = neither m (after m (Step c w o found a)) _ new_now (planned t word.Look k.plan refl) k.gives refl refl
  deals_turn t (Makes k) = makes_deal t k
  deals_turn t (Commits k) = neither m (after m (Step c w o found a)) _ new_now (planned t word.Commit k.plan refl) k.gives refl refl
  deals_turn t (Does k) = neither m (after m (Step c w o found a)) _ new_now (planned t word.Act k.plan refl) k.gives (act_made m c t.call a k.what) (act_pools m c t.call a k.what)
  deals_turn t (Locks k) = neither m (after m (Step c w o found a)) _ new_now (planned t word.Lock k.plan refl) k.gives refl refl
  deals_turn t (Checks k) = neither m (after m (Step c w o found a)) _ new_now (planned t word.Check k.plan refl) k.gives refl refl
  deals_turn t (Finishes k) =
      let i = own_object t.call in
      finishes_by m (after m (Step c w o found a)) i new_now (object_with m i) refl (planned t word.Finish k.plan refl)
      (ap (λ (s : State). s.made) k.gives ∙ finish_made m c i) (ap (λ (s : State). s.pools) k.gives)
  deals_turn t (Aborts k) = neither m (after m (Step c w o found a)) _ new_now (closes t word.Abort k.ends k.word refl) k.gives refl refl
  deals_turn t (Frees k) = neither m (after m (Step c w o found a)) _ new_now (closes t word.Free k.ends k.word refl) k.gives refl refl
  deals_turn t (Leaves k) = neither m (after m (Step c w o found a)) _ new_now (closes t word.Exit k.ends k.word refl) k.gives refl refl

  pub deals_step : Deals m (step_made w (refusal_in a) (object_with (after m (Step c w o found a)) o)) (after m (Step c w o found a))
  deals_step = let t = IsTurn-allowed m c w o found a allowed in deals_turn t t.turn

deals_unless : (m m' : State) (e : Option Errno) → m'.made ≡ m.made → m'.pools ≡ m.pools → Deals m None (unless_answered m e m')
deals_unless m m' None made pools = Deals.DealsNone refl made pools
deals_unless m m' (Some e) made pools = Deals.DealsNone refl refl refl

deals_gone : (m : State) (o : ℕ) (slot : Option Object) → object_with m o ≡ slot → may_go_object m slot ≡ true → Deals m None (gone_from m o slot)
deals_gone m o None e may = Deals.DealsNone refl refl refl
deals_gone m o (Some x) e may =
    let p = Passes-find (has_id o) x m.objects e in
    Deals.BuriesOne x refl refl (record { within = p.within; doomed = (and_parts (is_doomed x.phase) (may_sweep m x.file) may).0; pools = refl })

pub deals_after : (m : State) (e : Entry) → Reached m → Numbered m → Allowed m e → Deals m (new_by m e) (after m e)
deals_after m (Open c f d a) r numbered allowed = deals_unless m _ (refusal_in a) refl refl
deals_after m (Enter c f request a) r numbered allowed = deals_unless m _ (refusal_in a) refl refl
deals_after m (Step c w o found a) r numbered allowed = deals_step m r numbered c w o found a allowed
deals_after m (Unplug d) r numbered allowed = Deals.DealsNone refl refl refl
deals_after m (Tear f by) r numbered allowed = Deals.DealsNone refl refl refl
deals_after m (Kill o) r numbered allowed = Deals.DealsNone refl refl refl
deals_after m (Gone o kept) r numbered allowed = deals_gone m o (object_with m o) refl allowed
deals_after m (Dissociated f) r numbered allowed = Deals.DealsNone refl refl refl
deals_after m (Closed f) r numbered allowed = Deals.DealsNone refl refl refl
