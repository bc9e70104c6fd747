-- Objects are released once, and none while it has users.
use Rattle.std.proofs.Common.{◌≡◌, ◌≢◌, ℕ, ◌<◌, Bool, true, false, List, Some, None, map, refl, ap, sym, ◌∙◌, subst, arith, ⊎_elim}
use Rattle.std.specs.Prelude.{if◌then◌else◌}
use Rattle.std.proofs.lemmas.Option.{none-some, same_Some}
use Rattle.std.proofs.lemmas.Bool.{or_left, eq-eqb}
use Rattle.std.proofs.lemmas.Bool.Decides.{eqb_tells}
use Rattle.uv_num.specs.declared.errno.Errno.{Errno}
use Rattle.uv_num.specs.declared.kind.Kind.{Kind}
use Rattle.uv_num.specs.declared.request.Act as request
use Rattle.uv_num.specs.declared.request.Act.TheVariants.{Modify, Query, Bind, Unbind, Async}
use Rattle.uv_num.specs.declared.request.Role.TheVariants.{Creates, Destroys, Acts}
use Rattle.uv_num.specs.Request.{role_of}
use Rattle.uv_machine.specs.declared.entry.Word.TheVariants.{Reserve, Look, Commit, Lock, Check, Finish}
use Rattle.uv_machine.specs.declared.entry.Answer.{Answer}
use Rattle.uv_machine.specs.declared.object.Phase.{Phase}
use Rattle.uv_machine.specs.declared.object.Phase.TheVariants as phase
use Rattle.uv_machine.specs.declared.object.Object.{Object}
use Rattle.uv_machine.specs.declared.object.Change.{Change}
use Rattle.uv_machine.specs.declared.object.Change.TheVariants.{ToLive, ToDoomed, ToHusk, ToBound}
use Rattle.uv_machine.specs.declared.call.InFlight.{InFlight}
use Rattle.uv_machine.specs.declared.state.State.{State}
use Rattle.uv_machine.specs.Objects.{has_id, is_made, doomed_from, live_from, with_change, on_object}
use Rattle.uv_machine.specs.Plans.{next_word, own_object, acted_on, looks_at, holds, with_refusal, with_number, with_look, with_made, with_outcome, with_lock, without_lock, without_number, without_look, moved_on}
use Rattle.uv_machine.specs.States.{call_of}
use Rattle.uv_machine.specs.Effects.{act, binding_of, made_outcome, not_with_id}
use Rattle.uv_machine.specs.Reached.{IsIn, Reached}
use Rattle.uv_machine.proofs.Members.{IsIn-map, Passes-filter}
use Rattle.uv_machine.proofs.Planned.{InPlan, IsClosing, IsDestroying, in_plan, stands_in_plan, next_word-planned, next_place-in_plan}
use Rattle.uv_machine.proofs.Turns.{Turn, Checked, object_made}
use Rattle.uv_machine.proofs.Turns.Turn.{Refuses, Reserves, Looks, Makes, Commits, Does, Locks, Checks, Finishes, Aborts, Frees, Leaves}
use Rattle.uv_machine.proofs.OwnCall.{calls_turn}
use Rattle.uv_machine.proofs.Calling.{CallBehind, call_behind, false_unless}
use Rattle.uv_machine.proofs.Changing.{on_object-id}
use Rattle.uv_machine.proofs.Graph.{in_room}
use Rattle.uv_machine.proofs.Holding.{finish_objects}
use Rattle.uv_machine.proofs.Keeping.{locks_it, owns_at_check}

-- A destroy that is about to finish has an object that is doomed, or a husk.

abbrev pub is_ending : Phase → Bool
is_ending phase.Made = false
is_ending phase.Live = false
is_ending phase.Doomed = true
is_ending phase.Husk = true

-- the call is about to finish what it has locked, which is doomed or a husk
abbrev pub Finishing : State → Type 0
Finishing m = (b : ℕ) (k : InFlight) → call_of m b ≡ Some k → next_word k ≡ Finish → (x : Object) → IsIn x m.objects → k.locked ≡ Some x.id → is_ending x.phase ≡ true

live_ending : (p : Phase) → is_ending p ≡ true → is_ending (live_from p) ≡ true
live_ending phase.Made e = absurd cc
live_ending phase.Live e = absurd cc
live_ending phase.Doomed e = refl
live_ending phase.Husk e = refl

doomed_ending : (p : Phase) → is_ending p ≡ true → is_ending (doomed_from p) ≡ true
doomed_ending phase.Made e = absurd cc
doomed_ending phase.Live e = absurd cc
doomed_ending phase.Doomed e = refl
doomed_ending phase.Husk e = refl

changed_ending : (b : Bool) (change : Change) (x : Object) → is_ending x.phase ≡ true → is_ending (if b then with_change change x else x).phase ≡ true
changed_ending true ToLive x e = live_ending x.phase e
changed_ending true ToDoomed x e = doomed_ending x.phase e
changed_ending true ToHusk x e = refl
changed_ending true (ToBound binding) x e = e
changed_ending false change x e = e

-- an object that isn't merely made is ending after its doom
unmade_ending : (p : Phase) → is_made p ≡ false → is_ending (doomed_from p) ≡ true
unmade_ending phase.Made e = absurd cc
unmade_ending phase.Live e = refl
unmade_ending phase.Doomed e = refl
unmade_ending phase.Husk e = refl

here_ending : (b : Bool) (x : Object) → b ≡ true → is_made x.phase ≡ false → is_ending (if b then with_change ToDoomed x else x).phase ≡ true
here_ending true x e made = unmade_ending x.phase made
here_ending false x e made = absurd cc

-- an id that was given before has an object that was ending before, and is so still
abbrev pub GoesOn : State → List Object → ℕ → Type 0
GoesOn m objects' o = ((x : Object) → IsIn x m.objects → x.id ≡ o → is_ending x.phase ≡ true) → (y : Object) → IsIn y objects' → y.id ≡ o → is_ending y.phase ≡ true

pub goes_map : (m : State) (o o' : ℕ) (change : Change) → GoesOn m (map (on_object o' change) m.objects) o
goes_map m o o' change before y k e =
    let from = IsIn-map (on_object o' change) y m.objects k in
    let x = from.item in
    let id : x.id ≡ o = sym (on_object-id o' change x) ∙ sym (ap (λ (v : Object). v.id) from.gives) ∙ e in
    ap (λ (v : Object). is_ending v.phase) from.gives ∙ changed_ending (has_id o' x) change x (before x from.within id)

module _ (m : State) (r : Reached m) (f : Finishing m) (c : ℕ) (call : InFlight) (is : call_of m c ≡ Some call) where
  goes_as : (m' n : State) (o : ℕ) → m' ≡ n → GoesOn m n.objects o → GoesOn m m'.objects o
  goes_as m' n o e h = let P : State → Type 0 = λ s. GoesOn m s.objects o in subst P (sym e) h

  goes_same : (o : ℕ) → GoesOn m m.objects o
  goes_same o before = before

  goes_act : (a : Answer) (what : request.Act) (o : ℕ) → GoesOn m (act m c call a what).objects o
  goes_act a (Modify to attrs) o = goes_same o
  goes_act a Query o = goes_same o
  goes_act a (Bind offset long access) o = goes_map m o (acted_on call) (ToBound (Some (binding_of call offset long access)))
  goes_act a (Unbind offset long access) o = goes_map m o (acted_on call) (ToBound None)
  goes_act a Async o = goes_same o

  goes_turn : (a : Answer) (m' : State) → Turn m c call a m' → (o : ℕ) → o < m.made → GoesOn m m'.objects o
  goes_turn a m' (Refuses t) o low = goes_as m' _ o t.gives (goes_same o)
  goes_turn a m' (Reserves t) o low = goes_as m' _ o t.gives (goes_same o)
  goes_turn a m' (Looks t) o low = goes_as m' _ o t.gives (goes_same o)
  goes_turn a m' (Makes t) o low =
      goes_as m' _ o t.gives
      (λ before y k e. ⊎_elim (λ old. before y old e) (λ new. absurd (let same : y.id ≡ m.made = ap (λ (v : Object). v.id) new in omega arith)) (in_room y (object_made m call t.kind t.index) m.objects k))
  goes_turn a m' (Commits t) o low = goes_as m' _ o t.gives (goes_map m o (own_object call) ToLive)
  goes_turn a m' (Does t) o low = goes_as m' _ o t.gives (goes_act a t.what o)
  goes_turn a m' (Locks t) o low = goes_as m' _ o t.gives (goes_same o)
  goes_turn a m' (Checks t) o low = goes_as m' _ o t.gives (goes_map m o (own_object call) ToDoomed)
  goes_turn a m' (Finishes t) o low =
      goes_as m' _ o t.gives
      (λ before y k e. before y (Passes-filter (not_with_id (own_object call)) y m.objects (let P : List Object → Type 0 = λ v. IsIn y v in subst P (finish_objects m c (own_object call)) k)).within e)
  goes_turn a m' (Aborts t) o low = goes_as m' _ o t.gives (goes_same o)
  goes_turn a m' (Frees t) o low = goes_as m' _ o t.gives (goes_same o)
  goes_turn a m' (Leaves t) o low = goes_as m' _ o t.gives (goes_same o)

  -- what a call has locked that is about to check it has been committed
  locked_not_made : InPlan call Check → (x : Object) → IsIn x m.objects → call.locked ≡ Some x.id → is_made x.phase ≡ false
  locked_not_made plan x k locked =
      false_unless (is_made x.phase)
      (λ made. (
      let held = r.making x k made in
      ⊎_elim
      (λ same. (
      let one : held.call ≡ call = same_Some held.call call (sym held.is ∙ ap (call_of m) (sym same.1) ∙ is) in
      let word : Commit ≡ Check = sym held.word ∙ ap next_word one ∙ next_word-planned call Check plan.fine plan.planned in
      cc))
      (λ apart. (
      let none = r.alone c held.actor call held.call x.id is held.is apart.1 locked in
      let yes : holds x.id (Some held.call) ≡ true = or_left _ (looks_at x.id held.call) (locks_it x.id held.call.locked held.own) in
      cc))
      (eqb_tells c held.actor)))

  -- only a destroy that has checked its object makes Finish next
  finish_place : (k : InFlight) → next_word k ≡ Finish → IsDestroying (role_of k.request) k.place 2
  finish_place k word = stands_in_plan k Finish (in_plan k Finish word refl)

  not_by_create : (k : InFlight) (kind : Kind) → role_of k.request ≡ Creates kind → next_word k ≡ Finish → ⊥
  not_by_create k kind role word = let s = finish_place k word in let same : Creates kind ≡ Destroys s.asked = sym role ∙ s.destroys in cc

  not_by_act : (k : InFlight) (what : request.Act) → role_of k.request ≡ Acts what → next_word k ≡ Finish → ⊥
  not_by_act k what role word = let s = finish_place k word in let same : Acts what ≡ Destroys s.asked = sym role ∙ s.destroys in cc

  not_at : (k : InFlight) → k.place ≢ 2 → next_word k ≡ Finish → ⊥
  not_at k ne word = ne (finish_place k word).at

  not_refused : (e : Errno) → next_word (with_refusal e call) ≡ Finish → ⊥
  not_refused e word = none-some e (sym (in_plan (with_refusal e call) Finish word refl).fine)

  closes_not : (k : InFlight) → IsClosing k → next_word k ≡ Finish → ⊥
  closes_not k ends word = let plan = in_plan k Finish word refl in none-some Finish (sym (ends plan.fine) ∙ plan.planned)

  checked_ending : (a' : Answer) (m'' : State) (t' : Checked m c call m'') (k' : InFlight) → Some (moved_on call) ≡ Some k' → (y : Object) → IsIn y m''.objects → k'.locked ≡ Some y.id → is_ending y.phase ≡ true
  checked_ending a' m'' t' k' e' y h locked =
      let o = own_object call in
      let P : State → Type 0 = λ s. IsIn y s.objects in
      let from = IsIn-map (on_object o ToDoomed) y m.objects (subst P t'.gives h) in
      let x = from.item in
      let owns = owns_at_check m r c call is t'.plan in
      let id : y.id ≡ x.id = ap (λ (v : Object). v.id) from.gives ∙ on_object-id o ToDoomed x in
      let mine : call.locked ≡ Some y.id = ap (λ (v : InFlight). v.locked) (same_Some (moved_on call) k' e') ∙ locked in
      let same : x.id ≡ o = sym id ∙ same_Some y.id o (sym mine ∙ owns) in
      ap (λ (v : Object). is_ending v.phase) from.gives
      ∙ here_ending (has_id o x) x (eq-eqb x.id o same) (locked_not_made t'.plan x from.within (mine ∙ ap (λ (n : ℕ). Some n) id))

  own_finishing : (a : Answer) (m' : State) (t : Turn m c call a m') (k : InFlight) → (calls_turn m c call a m' t).change (Some call) ≡ Some k → next_word k ≡ Finish → (y : Object) → IsIn y m'.objects → k.locked ≡ Some y.id → is_ending y.phase ≡ true
  own_finishing a m' (Refuses t) k e word = absurd (not_refused t.errno (ap next_word (same_Some (with_refusal t.errno call) k e) ∙ word))
  own_finishing a m' (Reserves t) k e word =
      let s = stands_in_plan call Reserve t.plan in
      absurd (not_by_create (with_number (Some t.number) call) s.kind s.creates (ap next_word (same_Some (with_number (Some t.number) call) k e) ∙ word))
  own_finishing a m' (Looks t) k e word =
      let w = ap next_word (same_Some (with_look _ call) k e) ∙ word in
      absurd (⊎_elim (λ s. not_by_create (with_look _ call) s.kind s.creates w) (λ s. not_by_act (with_look _ call) s.act s.acts w) (stands_in_plan call Look t.plan))
  own_finishing a m' (Makes t) k e word =
      let x = object_made m call t.kind t.index in
      absurd (not_by_create (with_made x.id (made_outcome x) call) t.kind t.creates (ap next_word (same_Some (with_made x.id (made_outcome x) call) k e) ∙ word))
  own_finishing a m' (Commits t) k e word =
      let s = stands_in_plan call Commit t.plan in
      absurd (not_by_create (without_lock call) s.kind s.creates (ap next_word (same_Some (without_lock call) k e) ∙ word))
  own_finishing a m' (Does t) k e word = absurd (not_by_act (with_outcome a call) t.what t.acts (ap next_word (same_Some (with_outcome a call) k e) ∙ word))
  own_finishing a m' (Locks t) k e word =
      let s = stands_in_plan call Lock t.plan in
      let next = next_place-in_plan call Lock t.plan in
      absurd (not_at (with_lock t.item.id call) (λ two. (let one = s.at in omega (arith, next, one, two))) (ap next_word (same_Some (with_lock t.item.id call) k e) ∙ word))
  own_finishing a m' (Checks t) k e word = checked_ending a m' t k e
  own_finishing a m' (Finishes t) k e word =
      let s = stands_in_plan call Finish t.plan in
      let next = next_place-in_plan call Finish t.plan in
      absurd (not_at (without_lock call) (λ two. (let at = s.at in omega (arith, next, at, two))) (ap next_word (same_Some (without_lock call) k e) ∙ word))
  own_finishing a m' (Aborts t) k e word = absurd (closes_not (without_number call) t.ends (ap next_word (same_Some (without_number call) k e) ∙ word))
  own_finishing a m' (Frees t) k e word = absurd (closes_not (without_look call) t.ends (ap next_word (same_Some (without_look call) k e) ∙ word))
  own_finishing a m' (Leaves t) k e word = absurd (none-some k e)

  finishing_by : (a : Answer) (m' : State) (t : Turn m c call a m') (b : ℕ) (k : InFlight) → CallBehind m c b ((calls_turn m c call a m' t).change (Some call)) k → next_word k ≡ Finish → (y : Object) → IsIn y m'.objects → k.locked ≡ Some y.id → is_ending y.phase ≡ true
  finishing_by a m' t b k (CallBehind.IsOwn same e) word y h locked = own_finishing a m' t k e word y h locked
  finishing_by a m' t b k (CallBehind.IsOther ne e) word y h locked =
      let low = (r.holds_well b k e).locked y.id locked in
      goes_turn a m' t y.id low (λ x h' same. f b k e word x h' (locked ∙ ap (λ (n : ℕ). Some n) (sym same))) y h refl

  pub Finishing-turn : (a : Answer) (m' : State) → Turn m c call a m' → Finishing m'
  Finishing-turn a m' t b k is' word y h locked =
      let kt = calls_turn m c call a m' t in
      finishing_by a m' t b k (call_behind m m' c call kt.change is kt.calls b k is') word y h locked
