-- What is out is known through every entry as it was when it was made: no entry begins a life in a cell that an object stands in.
use Rattle.std.proofs.Common.{◌≡◌, ℕ, ◌<◌, Bool, true, false, List, [], ◌∷◌, ◌++◌, Option, Some, None, refl, ap, sym, ◌∙◌, subst, inl, inr, ◌⊎◌, ⊎_elim}
use Rattle.std.specs.Prelude.{◌==◌, slice_get, option_map}
use Rattle.std.proofs.lemmas.Option.{none-some, same_Some}
use Rattle.std.proofs.lemmas.Bool.{and_parts, eqb-true}
use Rattle.std.proofs.lemmas.Bool.Decides.{eqb_tells}
use Rattle.uv_num.specs.declared.errno.Errno.{Errno}
use Rattle.uv_num.specs.declared.ids.Ids.{Ids}
use Rattle.uv_num.specs.declared.limits.TheConstants.{CELLS, KINDS}
use Rattle.uv_num.specs.declared.qp.QpState.{QpState}
use Rattle.uv_num.specs.Kind.{kind_place}
use Rattle.uv_num.specs.Place.{at_place}
use Rattle.uv_num.proofs.PlaceLaws.{slice_get-at_place_same, slice_get-at_place_other}
use Rattle.uv_pool.specs.declared.deed.Life.{Life}
use Rattle.uv_machine.specs.declared.entry.Entry.{Entry}
use Rattle.uv_machine.specs.declared.entry.Entry.TheVariants.{Open, Enter, Step, Unplug, Tear, Kill, Gone, Dissociated, Closed}
use Rattle.uv_machine.specs.declared.entry.Answer.{Answer}
use Rattle.uv_machine.specs.declared.entry.Answer.TheVariants as answer
use Rattle.uv_machine.specs.declared.entry.CallStep.{CallStep}
use Rattle.uv_machine.specs.declared.entry.Word.{Word}
use Rattle.uv_machine.specs.declared.entry.Word.TheVariants.{Reserve, Look, Make, Commit, Act, Lock, Check, Finish, Abort, Free, Exit}
use Rattle.uv_machine.specs.declared.call.InFlight.{InFlight}
use Rattle.uv_machine.specs.declared.object.Object.{Object}
use Rattle.uv_machine.specs.declared.object.Phase.{Phase}
use Rattle.uv_machine.specs.declared.pool.Cell.{Cell}
use Rattle.uv_machine.specs.declared.state.State.{State}
use Rattle.uv_machine.specs.Objects.{has_id, is_made, is_doomed, is_husk, no_ids}
use Rattle.uv_machine.specs.States.{object_with}
use Rattle.uv_machine.specs.Steps.{next_from, step_of, step_answer, told, found_at}
use Rattle.uv_machine.specs.Effects.{refusal_in}
use Rattle.uv_machine.specs.Histories.{Allowed, after, state_of, kept_in, IsLegal}
use Rattle.uv_machine.specs.Reached.{IsIn, IsCelled, cell_in}
use Rattle.uv_machine.proofs.Celled.{IsHomeAt, home_is}
use Rattle.uv_machine.proofs.CelledTurns.{legal_celled}
use Rattle.uv_machine.proofs.Members.{Passes-find}
use Rattle.uv_machine.proofs.Numbers.{legal_numbered}
use Rattle.uv_machine.proofs.Reaching.{Reached-state_of}
use Rattle.uv_machine.proofs.Turns.{IsTurn-allowed}
use Rattle.uv_machine.specs.Made.{is_at, step_made, new_by}
use Rattle.uv_graph.specs.declared.out.Out.{Out}
use Rattle.uv_graph.specs.Kept.{Kept, the_out, put_out, out_of, kill_of}
use Rattle.uv_graph.specs.Lives.{uses_after, last_uses, lives_out, life_if, life_in, lives_in, life_of}
use Rattle.uv_graph.specs.Seats.{IsFor, HasOut, HasKill, AreKnown, StoresUses, seat_place}
use Rattle.uv_graph.specs.Slots.{put_uses}
use Rattle.uv_graph.proofs.Handing.{OutCase, out_case}
use Rattle.uv_graph.proofs.Handing.OutCase.{IsThis, IsThat}
use Rattle.uv_graph.proofs.Holders.{made_stands, doomed_stands, place_apart, kind_within}
use Rattle.uv_graph.proofs.Making.{MakesIt, makes_item}
use Rattle.uv_graph.proofs.Tying.{lives_go_on, append_none}

-- The last life of a cell.

uses_more : (u : Ids) (lives : List Life) (life : Life) → uses_after u (lives ++ life ∷ []) ≡ life.identity.uses
uses_more u [] life = refl
uses_more u (x ∷ lives) life = uses_more x.identity.uses lives life

-- what the object of a life used that is the last
pub last_more : (lives : List Life) (life : Life) → last_uses (lives ++ life ∷ []) ≡ life.identity.uses
last_more lives life = uses_more no_ids lives life

-- An accepted Make.

fine_make : (m : State) (call : InFlight) (found : Option QpState) (kept : ℕ) (r : Option Errno) → refusal_in (step_answer m call found kept Make r) ≡ None → step_answer m call found kept Make r ≡ answer.Ok
fine_make m call found kept None e = refl
fine_make m call found kept (Some x) e = absurd (none-some x (sym e))

-- it finds nothing and answers Ok
make_is : (m : State) (c o : ℕ) (found : Option QpState) (a : Answer) → Allowed m (Step c Make o found a) → refusal_in a ≡ None → Step c Make o found a ≡ Step c Make o None answer.Ok
make_is m c o found a allowed fine =
    let t = IsTurn-allowed m c Make o found a allowed in
    let d : CallStep = record { word = Make; object = o; found = found; answer = a } in
    let same : step_of m c found (kept_in a) t.call ≡ d = same_Some (step_of m c found (kept_in a) t.call) d (ap (next_from m c found (kept_in a)) (sym t.is) ∙ allowed.1) in
    let none : found ≡ None = sym (ap (λ (v : CallStep). v.found) same) ∙ ap (λ w. found_at t.call w found) t.word in
    let ok : a ≡ answer.Ok = sym t.answer ∙ fine_make m t.call found (kept_in a) (told m c t.call found Make).refusal (ap refusal_in t.answer ∙ fine) in
    ap (λ (v : Option QpState). Step c Make o v a) none ∙ ap (λ (v : Answer). Step c Make o None v) ok

false_if : (b : Bool) → (b ≡ true → ⊥) → b ≡ false
false_if true h = absurd (h refl)
false_if false h = refl

-- the new object's cell was home, so that no object stood in it
home_free : (m m' : State) → IsCelled m.pools m.objects → (c o : ℕ) (x : Object) → MakesIt m m' c o x → (y : Object) → IsIn y m.objects → is_husk y.phase ≡ false → is_at (kind_place y.kind) y.index x ≡ false
home_free m m' celled c o x it y k stands =
    false_if (is_at (kind_place y.kind) y.index x)
    (λ yes. (
    let at = and_parts (kind_place x.kind == kind_place y.kind) (x.index == y.index) yes in
    let home : IsHomeAt it.pool x.index = home_is it.pool x.index it.home in
    let has = celled.has y k stands in
    let cell : cell_in (slice_get m.pools (kind_place x.kind)) x.index ≡ Some home.cell = ap (λ s. cell_in s x.index) it.pool_is ∙ home.at in
    let there : Some home.cell ≡ Some has.cell =
    sym cell ∙ ap (λ v. cell_in (slice_get m.pools v) x.index) (eqb-true (kind_place x.kind) (kind_place y.kind) at.0) ∙ ap (cell_in (slice_get m.pools (kind_place y.kind))) (eqb-true x.index y.index at.1) ∙ has.is in
    let out : home.cell.home ≡ false = ap (λ (v : Cell). v.home) (same_Some home.cell has.cell there) ∙ has.out in
    let is = home.home in
    cc))

module _ (h : List Entry) (legal : IsLegal h) (y : Object) (k : IsIn y (state_of h).objects) (stands : is_husk y.phase ≡ false) where
  new_made : (c o : ℕ) (found : Option QpState) (a : Answer) → Allowed (state_of h) (Step c Make o found a) → (r : Option Errno) → refusal_in a ≡ r
      → life_in (kind_place y.kind) y.index (step_made Make r (object_with (after (state_of h) (Step c Make o found a)) o)) ≡ []
  new_made c o found a allowed (Some e) is = refl
  new_made c o found a allowed None is =
      let m = state_of h in
      let same = make_is m c o found a allowed is in
      let P : Entry → Type 0 = λ e. Allowed m e in
      let made = makes_item m c o (Reached-state_of h legal) (legal_numbered h legal) (subst P same allowed) in
      let there : object_with (after m (Step c Make o found a)) o ≡ Some made.item = ap (λ e. object_with (after m e) o) same ∙ made.it.there in
      ap (life_in (kind_place y.kind) y.index) there
      ∙ ap (λ b. life_if b made.item) (home_free m (after m (Step c Make o None answer.Ok)) (legal_celled h legal) c o made.item made.it y k stands)

  new_stepped : (c : ℕ) (w : Word) (o : ℕ) (found : Option QpState) (a : Answer) → Allowed (state_of h) (Step c w o found a)
      → life_in (kind_place y.kind) y.index (new_by (state_of h) (Step c w o found a)) ≡ []
  new_stepped c Reserve o found a allowed = refl
  new_stepped c Look o found a allowed = refl
  new_stepped c Make o found a allowed = new_made c o found a allowed (refusal_in a) refl
  new_stepped c Commit o found a allowed = refl
  new_stepped c Act o found a allowed = refl
  new_stepped c Lock o found a allowed = refl
  new_stepped c Check o found a allowed = refl
  new_stepped c Finish o found a allowed = refl
  new_stepped c Abort o found a allowed = refl
  new_stepped c Free o found a allowed = refl
  new_stepped c Exit o found a allowed = refl

  none_new : (e : Entry) → Allowed (state_of h) e → life_in (kind_place y.kind) y.index (new_by (state_of h) e) ≡ []
  none_new (Open c f d a) allowed = refl
  none_new (Enter c f request a) allowed = refl
  none_new (Step c w o found a) allowed = new_stepped c w o found a allowed
  none_new (Unplug d) allowed = refl
  none_new (Tear f by) allowed = refl
  none_new (Kill o) allowed = refl
  none_new (Gone o kept) allowed = refl
  none_new (Dissociated f) allowed = refl
  none_new (Closed f) allowed = refl

  -- the lives of a cell in which an object stands
  pub lives_stay : (e : Entry) → Allowed (state_of h) e → lives_in (h ++ e ∷ []) (kind_place y.kind) y.index ≡ lives_in h (kind_place y.kind) y.index
  lives_stay e allowed =
      lives_go_on h e (kind_place y.kind) y.index
      ∙ ap (λ v. lives_in h (kind_place y.kind) y.index ++ v) (none_new e allowed)
      ∙ append_none (lives_in h (kind_place y.kind) y.index)

-- What is out.

stands_by : (p : Phase) → (is_made p ≡ true) ⊎ (is_doomed p ≡ true) → is_husk p ≡ false
stands_by p (inl h) = made_stands p h
stands_by p (inr h) = doomed_stands p h

module _ (h g : List Entry) (e : Entry) (more : g ≡ h ++ e ∷ []) (legal : IsLegal h) (allowed : Allowed (state_of h) e) where
  cell_stays : (out : Out) (x : Object) → IsFor out x → IsIn x (state_of h).objects → is_husk x.phase ≡ false → lives_out g (Some out) ≡ lives_out h (Some out)
  cell_stays out x for k stands =
      let at : (l : List Entry) → lives_in l (kind_place out.identity.kind) out.index ≡ lives_in l (kind_place x.kind) x.index =
      λ l. ap (λ v. lives_in l (kind_place v) out.index) (sym for.kind) ∙ ap (lives_in l (kind_place x.kind)) (sym for.index) in
      at g ∙ ap (λ v. lives_in v (kind_place x.kind) x.index) more ∙ lives_stay h legal x k stands e allowed ∙ sym (at h)

  pub out_stays : (c : ℕ) (out : Out) → HasOut (state_of h) c out → lives_out g (Some out) ≡ lives_out h (Some out)
  out_stays c out o = cell_stays out o.item o.same (Passes-find (has_id out.identity.id) o.item (state_of h).objects o.there).within (stands_by o.item.phase o.phase)

  pub kill_stays : (b : ℕ) (out : Out) → HasKill (state_of h) b out → lives_out g (Some out) ≡ lives_out h (Some out)
  kill_stays b out o = cell_stays out o.item o.same (Passes-find (has_id out.identity.id) o.item (state_of h).objects o.there).within (doomed_stands o.item.phase o.phase)

-- an actor has this out
abbrev pub IsNamed : Kept → ℕ → Out → Type 0
IsNamed k a out = (out_of k a ≡ Some out) ⊎ (kill_of k a ≡ Some out)

-- the object is known by what its cell tells
abbrev pub IsTold : Out → List Entry → Type 0
IsTold out h = out.identity.uses ≡ last_uses (lives_out h (Some out))

pub named_same : (k k' : Kept) → k'.outs ≡ k.outs → k'.kills ≡ k.kills → (a : ℕ) (out : Out) → IsNamed k' a out → IsNamed k a out
named_same k k' outs kills a out n =
    ⊎_elim (λ e. inl (sym (ap (λ v. the_out (slice_get v a)) outs) ∙ e)) (λ e. inr (sym (ap (λ v. the_out (slice_get v a)) kills) ∙ e)) n

case_by : (k k' : Option Out) (a c : ℕ) (new : Option Out) (out : Out) → OutCase k k' a c new → k' ≡ Some out → (k ≡ Some out) ⊎ (new ≡ Some out)
case_by k k' a c new out (IsThis mine now) e = inr (sym now ∙ e)
case_by k k' a c new out (IsThat other now) e = inl (sym now ∙ e)

-- a call's hand changed
pub named_out : (k k' : Kept) (c : ℕ) (new x : Option Out) → k'.outs ≡ at_place k.outs c (put_out new) → slice_get k.outs c ≡ Some x → k'.kills ≡ k.kills
    → (a : ℕ) (out : Out) → IsNamed k' a out → IsNamed k a out ⊎ (new ≡ Some out)
named_out k k' c new x outs there kills a out n =
    ⊎_elim
    (λ e. ⊎_elim (λ was. inl (inl was)) (λ mine. inr mine) (case_by (out_of k a) (out_of k' a) c a new out (out_case k.outs k'.outs c a new x outs there) e))
    (λ e. inl (inr (sym (ap (λ v. the_out (slice_get v a)) kills) ∙ e)))
    n

-- a teardown's hand changed
pub named_kill : (k k' : Kept) (b : ℕ) (new x : Option Out) → k'.kills ≡ at_place k.kills b (put_out new) → slice_get k.kills b ≡ Some x → k'.outs ≡ k.outs
    → (a : ℕ) (out : Out) → IsNamed k' a out → IsNamed k a out ⊎ (new ≡ Some out)
named_kill k k' b new x kills there outs a out n =
    ⊎_elim
    (λ e. inl (inl (sym (ap (λ v. the_out (slice_get v a)) outs) ∙ e)))
    (λ e. ⊎_elim (λ was. inl (inr was)) (λ mine. inr mine) (case_by (kill_of k a) (kill_of k' a) b a new out (out_case k.kills k'.kills b a new x kills there) e))
    n

-- what was out stays known, and what goes out is
pub known_after : (h g : List Entry) (e : Entry) (k k' : Kept) → g ≡ h ++ e ∷ [] → IsLegal h → Allowed (state_of h) e
    → ((c : ℕ) (out : Out) → out_of k c ≡ Some out → HasOut (state_of h) c out) → ((b : ℕ) (out : Out) → kill_of k b ≡ Some out → HasKill (state_of h) b out)
    → AreKnown k h → ((a : ℕ) (out : Out) → IsNamed k' a out → IsNamed k a out ⊎ IsTold out g) → AreKnown k' g
known_after h g e k k' more legal allowed outs kills known from a out n =
    ⊎_elim
    (λ was. known a out was ∙ ap last_uses (sym (⊎_elim (λ is. out_stays h g e more legal allowed a out (outs a out is)) (λ is. kill_stays h g e more legal allowed a out (kills a out is)) was)))
    (λ new. new)
    (from a out n)

-- What is stored.

pub stored_after : (h g : List Entry) (e : Entry) (uses : List Ids) → g ≡ h ++ e ∷ [] → new_by (state_of h) e ≡ None → StoresUses uses h → StoresUses uses g
stored_after h g e uses more none stored k i low low' =
    let same : lives_in g k i ≡ lives_in h k i = ap (λ v. lives_in v k i) more ∙ lives_go_on h e k i ∙ ap (λ x. lives_in h k i ++ life_in k i x) none ∙ append_none (lives_in h k i) in
    stored k i low low' ∙ ap (λ ls. Some (last_uses ls)) (sym same)

-- a new object
module _ (h g : List Entry) (uses uses' : List Ids) (x : Object) (low_x : x.index < CELLS)
    (begins : lives_in g (kind_place x.kind) x.index ≡ lives_in h (kind_place x.kind) x.index ++ life_of x ∷ [])
    (others : (a b : ℕ) → (kind_place x.kind ≡ a → x.index ≡ b → ⊥) → lives_in g a b ≡ lives_in h a b)
    (puts : uses' ≡ at_place uses (seat_place (kind_place x.kind) x.index) (put_uses x.uses)) (stored : StoresUses uses h) where
  stored_here : slice_get uses' (seat_place (kind_place x.kind) x.index) ≡ Some (last_uses (lives_in g (kind_place x.kind) x.index))
  stored_here =
      ap (λ v. slice_get v (seat_place (kind_place x.kind) x.index)) puts
      ∙ slice_get-at_place_same uses (seat_place (kind_place x.kind) x.index) (put_uses x.uses)
      ∙ ap (option_map (put_uses x.uses)) (stored (kind_place x.kind) x.index (kind_within x.kind) low_x)
      ∙ ap (λ (v : Ids). Some v) (sym (ap last_uses begins ∙ last_more (lives_in h (kind_place x.kind) x.index) (life_of x)))

  stored_there : (a b : ℕ) → a < KINDS → b < CELLS → (kind_place x.kind ≡ a → x.index ≡ b → ⊥) → slice_get uses' (seat_place a b) ≡ Some (last_uses (lives_in g a b))
  stored_there a b low low' apart =
      ap (λ v. slice_get v (seat_place a b)) puts
      ∙ slice_get-at_place_other uses (seat_place (kind_place x.kind) x.index) (seat_place a b) (put_uses x.uses) (place_apart (kind_place x.kind) x.index a b low_x low' (λ k i. apart (sym k) (sym i)))
      ∙ stored a b low low'
      ∙ ap (λ ls. Some (last_uses ls)) (sym (others a b apart))

  pub stored_made : StoresUses uses' g
  stored_made a b low low' =
      ⊎_elim
      (λ k. ⊎_elim
      (λ i. (
      let P : ℕ → Type 0 = λ v. slice_get uses' (seat_place v b) ≡ Some (last_uses (lives_in g v b)) in
      let Q : ℕ → Type 0 = λ v. slice_get uses' (seat_place (kind_place x.kind) v) ≡ Some (last_uses (lives_in g (kind_place x.kind) v)) in
      subst P k.1 (subst Q i.1 stored_here)))
      (λ i. stored_there a b low low' (λ k' i'. i.1 i'))
      (eqb_tells x.index b))
      (λ k. stored_there a b low low' (λ k' i'. k.1 k'))
      (eqb_tells (kind_place x.kind) a)

  -- the new object is known by what its cell tells
  pub told_made : x.uses ≡ last_uses (lives_in g (kind_place x.kind) x.index)
  told_made = sym (ap last_uses begins ∙ last_more (lives_in h (kind_place x.kind) x.index) (life_of x))
