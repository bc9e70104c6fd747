-- What a turn leaves of the graph, of what calls hold, and of exclusive holds.
use Rattle.std.proofs.Common.{◌≡◌, ℕ, ◌+◌, ◌≤◌, Bool, true, false, List, [], ◌∷◌, Some, None, length, refl, ap, sym, ◌∙◌, subst, arith, ⊎_elim}
use Rattle.std.specs.Prelude.{◌||◌, ◌==◌, slice_get, unwrap_or, filter}
use Rattle.std.specs.List.{list_any}
use Rattle.std.proofs.lemmas.Bool.{or_left, eq-eqb}
use Rattle.uv_num.specs.declared.ids.Ids.{Ids}
use Rattle.uv_num.specs.declared.ids.Ids.TheVariants.{One, Two}
use Rattle.uv_num.specs.declared.kind.Kind.{Kind}
use Rattle.uv_num.specs.declared.kind.Kind.TheVariants.{Mr, Mw}
use Rattle.uv_num.specs.declared.limits.TheConstants.{NONE}
use Rattle.uv_num.specs.declared.request.Act as request
use Rattle.uv_num.specs.declared.request.Act.TheVariants.{Modify, Query, Bind, Unbind, Async}
use Rattle.uv_num.specs.declared.request.Ask.{Ask}
use Rattle.uv_num.specs.declared.request.Role.{Role}
use Rattle.uv_num.specs.declared.request.Role.TheVariants.{Creates, Destroys, Acts}
use Rattle.uv_num.specs.Ids as ids
use Rattle.uv_num.specs.Ids.{ids_of, ids_and, ids_behind}
use Rattle.uv_num.specs.Kind.{kind_rank}
use Rattle.uv_num.specs.Looks.{asked, looks_of}
use Rattle.uv_num.specs.Request.{role_of}
use Rattle.uv_machine.specs.declared.entry.Word.{Word}
use Rattle.uv_machine.specs.declared.entry.Word.TheVariants.{Reserve, Look, Make, Commit, Act, Lock, Check, Finish, Abort, Free, Exit}
use Rattle.uv_machine.specs.declared.entry.Answer.{Answer}
use Rattle.uv_machine.specs.declared.object.Object.{Object}
use Rattle.uv_machine.specs.declared.object.Change.TheVariants.{ToLive, ToDoomed, ToBound}
use Rattle.uv_machine.specs.declared.object.Phase.{Phase}
use Rattle.uv_machine.specs.declared.object.Phase.TheVariants as phase
use Rattle.uv_machine.specs.declared.call.InFlight.{InFlight}
use Rattle.uv_machine.specs.declared.state.State.{State}
use Rattle.uv_machine.specs.Objects.{is_live, is_husk, uses_object}
use Rattle.uv_machine.specs.Plans.{next_word, own_object, acted_on, looked_at, looks_at}
use Rattle.uv_machine.specs.States.{call_of, object_with}
use Rattle.uv_machine.specs.Effects.{with_room_for, next_id, act, finish, not_with_id, binding_of}
use Rattle.uv_machine.specs.Reached.{IsIn, IsPhased, IsAbove, IsGraph, is_early, AllSuit, HoldsWell, Reached, look_count}
use Rattle.uv_machine.proofs.Planned.{InPlan, IsClosing, stands_in_plan, StandsAt, next_word-planned, next_word-closing, closing_unwinds, unwinds, in_plan}
use Rattle.uv_machine.proofs.Turns.{Turn, object_made}
use Rattle.uv_machine.proofs.Turns.Turn.{Refuses, Reserves, Looks, Makes, Commits, Does, Locks, Checks, Finishes, Aborts, Frees, Leaves}
use Rattle.uv_machine.proofs.Phased.{looks_in, act_has}
use Rattle.uv_machine.proofs.Graph.{GainsWell, gains_live, gains_doomed, IsGraph-map, IsGraph-filter, IsGraph-new}
use Rattle.uv_machine.proofs.Suiting.{looks_lower, bind_looks, unbind_looks, suits_some, two_ids, one_id}
use Rattle.uv_machine.proofs.Files.{buried_objects, buried_made}

-- Early words.

early_forward : (w : Word) → is_early w ≡ true → unwinds w ≡ false
early_forward Reserve e = refl
early_forward Look e = refl
early_forward Make e = refl
early_forward Commit e = absurd cc
early_forward Act e = refl
early_forward Lock e = absurd cc
early_forward Check e = absurd cc
early_forward Finish e = absurd cc
early_forward Abort e = absurd cc
early_forward Free e = absurd cc
early_forward Exit e = absurd cc

-- a call that closes makes no early word
pub closing_late : (call : InFlight) → IsClosing call → is_early (next_word call) ≡ true → ⊥
closing_late call ends early =
    let forward = early_forward (next_word call) early in
    let back : unwinds (next_word call) ≡ true = ap unwinds (next_word-closing call ends) ∙ closing_unwinds call in
    cc

-- where the early words of a plan stand
abbrev pub IsEarlyAt : Role → ℕ → ℕ → Type 0
IsEarlyAt (Creates kind) looks place = place ≤ looks + 1
IsEarlyAt (Destroys asked) looks place = ⊥
IsEarlyAt (Acts act) looks place = place ≤ looks

early_by : (role role' : Role) (looks place : ℕ) → role ≡ role' → IsEarlyAt role' looks place → IsEarlyAt role looks place
early_by role role' looks place e h = let P : Role → Type 0 = λ r. IsEarlyAt r looks place in subst P (sym e) h

early_stands : (role : Role) (looks place : ℕ) (w : Word) → is_early w ≡ true → StandsAt role looks place w → IsEarlyAt role looks place
early_stands role looks place Reserve e s = early_by role (Creates s.kind) looks place s.creates (omega (arith, s.at))
early_stands role looks place Look e s =
    ⊎_elim
    (λ k. early_by role (Creates k.kind) looks place k.creates (omega (arith, k.to)))
    (λ k. early_by role (Acts k.act) looks place k.acts (omega (arith, k.to)))
    s
early_stands role looks place Make e s = early_by role (Creates s.kind) looks place s.creates (omega (arith, s.at))
early_stands role looks place Commit e s = absurd cc
early_stands role looks place Act e s = early_by role (Acts s.act) looks place s.acts (omega (arith, s.at))
early_stands role looks place Lock e s = absurd cc
early_stands role looks place Check e s = absurd cc
early_stands role looks place Finish e s = absurd cc
early_stands role looks place Abort e s = absurd s
early_stands role looks place Free e s = absurd s
early_stands role looks place Exit e s = absurd s

pub early_at : (call : InFlight) → is_early (next_word call) ≡ true → IsEarlyAt (role_of call.request) (looks_in call) call.place
early_at call early =
    let plan = in_plan call (next_word call) refl (early_forward (next_word call) early) in
    early_stands (role_of call.request) (looks_in call) call.place (next_word call) early (stands_in_plan call (next_word call) plan)

pub or_second : (a b : Bool) → b ≡ true → (a || (b || false)) ≡ true
or_second true b h = refl
or_second false b h = or_left b false h

-- The graph after a turn.

graph_as : (m' n : State) → m' ≡ n → IsGraph n.made n.objects → IsGraph m'.made m'.objects
graph_as m' n e g = let P : State → Type 0 = λ s. IsGraph s.made s.objects in subst P (sym e) g

-- a finish takes the object away
pub finish_objects : (m : State) (c o : ℕ) → (finish m c o).objects ≡ filter (not_with_id o) m.objects
finish_objects m c o = ap (λ xs. filter (not_with_id o) xs) (buried_objects m (object_with m o))

pub finish_made : (m : State) (c o : ℕ) → (finish m c o).made ≡ m.made
finish_made m c o = buried_made m (object_with m o)

live_is_no_husk : (p : Phase) → is_live p ≡ true → is_husk p ≡ false
live_is_no_husk phase.Made e = refl
live_is_no_husk phase.Live e = refl
live_is_no_husk phase.Doomed e = refl
live_is_no_husk phase.Husk e = absurd cc

module _ (m : State) (r : Reached m) (c : ℕ) (call : InFlight) (is : call_of m c ≡ Some call) where
  well : HoldsWell m.made m.objects call
  well = r.holds_well c call is

  phased : IsPhased call
  phased = r.phased c call is

  pub suits_at : (w : Word) → InPlan call w → is_early w ≡ true → AllSuit m.objects call.file (ids_of call.looked) (looks_of call.request)
  suits_at w plan early = well.suits (ap is_early (next_word-planned call w plan.fine plan.planned) ∙ early)

  new_above : (kind : Kind) (index : ℕ) → InPlan call Make → role_of call.request ≡ Creates kind → (y : Object) → IsIn y m.objects → uses_object y.id (object_made m call kind index) ≡ true → IsAbove (object_made m call kind index) y
  new_above kind index plan role y k used =
      let s = suits_some m.objects call.file (ids_of call.looked) (looks_of call.request) y (suits_at Make plan refl) k used in
      let same : kind_rank y.kind ≡ kind_rank s.ask.kind = ap kind_rank s.suits.kind in
      record {
        rank = omega (arith, looks_lower call.request kind s.ask role s.within, same);
        same = s.suits.same;
      }

  made_graph : (kind : Kind) (index : ℕ) → InPlan call Make → role_of call.request ≡ Creates kind → (m.made == NONE) ≡ false → IsGraph (next_id m.made) (with_room_for (object_made m call kind index) m.objects)
  made_graph kind index plan role fresh =
      rw fresh (IsGraph-new m.made m.objects r.graph (object_made m call kind index) refl (record {
        husk = λ h. absurd cc;
        below = λ u used. well.looked u used;
        above = new_above kind index plan role;
      }))

  place_at_act : InPlan call Act → look_count call ≡ looks_in call
  place_at_act plan =
      let s = stands_in_plan call Act plan in
      let has = (act_has call s.act phased plan.fine s.acts).looking (omega (arith, s.at)) in
      omega (arith, has.looks_are, s.at)

  -- a bind looks at a window and a region
  pub record IsBind : Type 0 where
    pub window : ℕ
    pub region : ℕ
    pub looked : call.looked ≡ Two window region
    pub windows : (y : Object) → IsIn y m.objects → y.id ≡ window → (y.kind ≡ Mw) × (y.file ≡ call.file) × (is_live y.phase ≡ true)
    pub regions : (y : Object) → IsIn y m.objects → y.id ≡ region → (y.kind ≡ Mr) × (y.file ≡ call.file) × (is_live y.phase ≡ true)

  pub bind_at : (offset long access : ℕ) → InPlan call Act → role_of call.request ≡ Acts (Bind offset long access) → IsBind
  bind_at offset long access plan role =
      let b = bind_looks call.request offset long access role in
      let two = two_ids call.looked (place_at_act plan ∙ ap (λ (v : List Ask). length v) b.looks) in
      let P : Ids → Type 0 = λ v. AllSuit m.objects call.file (ids_of v) (looks_of call.request) in
      let Q : List Ask → Type 0 = λ v. AllSuit m.objects call.file (two.0 ∷ two.1 ∷ []) v in
      let all : AllSuit m.objects call.file (two.0 ∷ two.1 ∷ []) (asked Mw b.window ∷ asked Mr b.region ∷ []) = subst Q b.looks (subst P two.2 (suits_at Act plan refl)) in
      record {
        window = two.0;
        region = two.1;
        looked = two.2;
        windows = λ y k e. (let s = all.0 y k e in (s.kind, s.same, s.live));
        regions = λ y k e. (let s = all.1.0 y k e in (s.kind, s.same, s.live));
      }

  pub acts_on_first : (w : ℕ) (looked : Ids) → call.looked ≡ looked → unwrap_or (slice_get (ids_of looked) 0) NONE ≡ w → acted_on call ≡ w
  acts_on_first w looked e h = ap (λ v. unwrap_or (slice_get (ids_of v) 0) NONE) e ∙ h

  pub acts_on_second : (w : ℕ) (looked : Ids) → call.looked ≡ looked → unwrap_or (slice_get (ids_of looked) 1) NONE ≡ w → looked_at 1 call ≡ w
  acts_on_second w looked e h = ap (λ v. unwrap_or (slice_get (ids_of v) 1) NONE) e ∙ h

  bind_gains : (offset long access : ℕ) → IsBind → GainsWell m.made (acted_on call) (ToBound (Some (binding_of call offset long access))) m.objects
  bind_gains offset long access b =
      let first = acts_on_first b.window (Two b.window b.region) b.looked refl in
      let second = acts_on_second b.region (Two b.window b.region) b.looked refl in
      let there : looks_at b.region call ≡ true = ap (λ v. list_any (ids.is_number b.region) (ids_of v)) b.looked ∙ or_second (b.window == b.region) (b.region == b.region) (eq-eqb b.region b.region refl) in
      record {
        live = λ x k e. live_is_no_husk x.phase (b.windows x k (e ∙ first)).2;
        below = λ u h. (let low = well.looked b.region there in let same : b.region ≡ u = sym second ∙ h in omega arith);
        above = λ x y k h e g. (
            let w = b.windows x k (e ∙ first) in
            let v = b.regions y h (sym g ∙ second) in
            let low : kind_rank y.kind ≡ 2 = ap kind_rank v.0 in
            let high : kind_rank x.kind ≡ 3 = ap kind_rank w.0 in
            record { rank = omega (arith, low, high); same = v.1 ∙ sym w.1 });
      }

  unbind_gains : (offset long access : ℕ) → InPlan call Act → role_of call.request ≡ Acts (Unbind offset long access) → GainsWell m.made (acted_on call) (ToBound None) m.objects
  unbind_gains offset long access plan role =
      let b = unbind_looks call.request offset long access role in
      let one = one_id call.looked (place_at_act plan ∙ ap (λ (v : List Ask). length v) b.looks) in
      let first = acts_on_first one.0 (One one.0) one.1 refl in
      let P : Ids → Type 0 = λ v. AllSuit m.objects call.file (ids_of v) (looks_of call.request) in
      let Q : List Ask → Type 0 = λ v. AllSuit m.objects call.file (one.0 ∷ []) v in
      let all : AllSuit m.objects call.file (one.0 ∷ []) (asked Mw b.window ∷ []) = subst Q b.looks (subst P one.1 (suits_at Act plan refl)) in
      record {
        live = λ x k e. (let s = all.0 x k (e ∙ first) in live_is_no_husk x.phase s.live);
        below = λ u h. absurd h;
        above = λ x y k h e g. absurd g;
      }

  graph_act : (a : Answer) (what : request.Act) → InPlan call Act → role_of call.request ≡ Acts what → IsGraph (act m c call a what).made (act m c call a what).objects
  graph_act a (Modify to attrs) plan role = r.graph
  graph_act a Query plan role = r.graph
  graph_act a (Bind offset long access) plan role = IsGraph-map m.made (acted_on call) (ToBound (Some (binding_of call offset long access))) m.objects r.graph (bind_gains offset long access (bind_at offset long access plan role))
  graph_act a (Unbind offset long access) plan role = IsGraph-map m.made (acted_on call) (ToBound None) m.objects r.graph (unbind_gains offset long access plan role)
  graph_act a Async plan role = r.graph

  finished_graph : (o : ℕ) → IsGraph (finish m c o).made (finish m c o).objects
  finished_graph o =
      let P : ℕ → Type 0 = λ n. IsGraph n (finish m c o).objects in
      let Q : List Object → Type 0 = λ v. IsGraph m.made v in
      subst P (sym (finish_made m c o)) (subst Q (sym (finish_objects m c o)) (IsGraph-filter m.made (not_with_id o) m.objects r.graph))

  pub graph_turn : (a : Answer) (m' : State) → Turn m c call a m' → IsGraph m'.made m'.objects
  graph_turn a m' (Refuses k) = graph_as m' _ k.gives r.graph
  graph_turn a m' (Reserves k) = graph_as m' _ k.gives r.graph
  graph_turn a m' (Looks k) = graph_as m' _ k.gives r.graph
  graph_turn a m' (Makes k) = graph_as m' _ k.gives (made_graph k.kind k.index k.plan k.creates k.fresh)
  graph_turn a m' (Commits k) = graph_as m' _ k.gives (IsGraph-map m.made (own_object call) ToLive m.objects r.graph (gains_live m.made (own_object call) m.objects))
  graph_turn a m' (Does k) = graph_as m' _ k.gives (graph_act a k.what k.plan k.acts)
  graph_turn a m' (Locks k) = graph_as m' _ k.gives r.graph
  graph_turn a m' (Checks k) = graph_as m' _ k.gives (IsGraph-map m.made (own_object call) ToDoomed m.objects r.graph (gains_doomed m.made (own_object call) m.objects))
  graph_turn a m' (Finishes k) = graph_as m' _ k.gives (finished_graph (own_object call))
  graph_turn a m' (Aborts k) = graph_as m' _ k.gives r.graph
  graph_turn a m' (Frees k) = graph_as m' _ k.gives r.graph
  graph_turn a m' (Leaves k) = graph_as m' _ k.gives r.graph
