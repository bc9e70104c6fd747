-- The releases of a kind, against the calls that entered to create one.
use Rattle.std.proofs.Common.{◌≡◌, ◌≢◌, ℕ, zero, suc, ◌+◌, ◌≤◌, Bool, true, false, List, [], ◌∷◌, ◌++◌, Option, Some, None, cond, count_by, map, refl, ap, sym, ◌∙◌, arith, ⊎_elim, inl, inr}
use Rattle.std.specs.Prelude.{not, ◌&&◌, nat_lt, filter, length, slice_get, option_map, sum_by, replicate, is_none, if◌then◌else◌}
use Rattle.std.proofs.lemmas.List.Sums.{sum_by-cons}
use Rattle.std.proofs.lemmas.Option.{none-some, same_Some}
use Rattle.std.proofs.lemmas.Bool.{eqb-true, eq-eqb}
use Rattle.uv_num.specs.declared.errno.Errno.{Errno}
use Rattle.uv_num.specs.declared.kind.Kind.{Kind}
use Rattle.uv_num.specs.declared.limits.TheConstants.{ACTOR_PLACES, MOST_OBJECTS}
use Rattle.uv_num.specs.declared.qp.QpState.{QpState}
use Rattle.uv_num.specs.declared.request.Act as request
use Rattle.uv_num.specs.declared.request.Act.TheVariants.{Modify, Query, Bind, Unbind, Async}
use Rattle.uv_num.specs.declared.request.Request.{Request}
use Rattle.uv_num.specs.declared.request.Role.TheVariants.{Creates}
use Rattle.uv_num.specs.Place.{at_place}
use Rattle.uv_num.specs.Request.{role_of}
use Rattle.uv_machine.specs.declared.entry.Word.{Word}
use Rattle.uv_machine.specs.declared.entry.Word.TheVariants.{Reserve, Look, Make, Commit, Act, Lock, Check, Finish, Abort, Free, Exit}
use Rattle.uv_machine.specs.declared.entry.Answer.{Answer}
use Rattle.uv_machine.specs.declared.entry.Entry.{Entry}
use Rattle.uv_machine.specs.declared.entry.Entry.TheVariants.{Open, Enter, Step, Unplug, Tear, Kill, Gone, Dissociated, Closed}
use Rattle.uv_machine.specs.declared.object.Change.{Change}
use Rattle.uv_machine.specs.declared.object.Change.TheVariants.{ToLive, ToDoomed, ToHusk, ToBound}
use Rattle.uv_machine.specs.declared.object.Phase.{Phase}
use Rattle.uv_machine.specs.declared.object.Phase.TheVariants as phase
use Rattle.uv_machine.specs.declared.object.Object.{Object}
use Rattle.uv_machine.specs.declared.call.InFlight.{InFlight}
use Rattle.uv_machine.specs.declared.state.State.{State}
use Rattle.uv_machine.specs.Accounts.{one_if, makes_ahead, making_comes, call_makes}
use Rattle.uv_machine.specs.Effects.{refusal_in, with_file, opened, act, binding_of, not_with_id, not_in_file, gone_from, unless_answered, put_call}
use Rattle.uv_machine.specs.Made.{if_doomed, step_released, released_by}
use Rattle.uv_machine.specs.Files.{is_of_kind, kind_releases_from, creates_kind, enters_for, ReleasesBelowEnters}
use Rattle.uv_machine.specs.Histories.{Allowed, after, IsLegalFrom, state_from}
use Rattle.uv_machine.specs.Objects.{has_id, is_kind, is_doomed, is_husk, live_from, doomed_from, with_change, on_object}
use Rattle.uv_machine.specs.Plans.{next_word, own_object, acted_on, entered}
use Rattle.uv_machine.specs.Reached.{IsIn, Reached}
use Rattle.uv_machine.specs.States.{object_with, start}
use Rattle.uv_machine.specs.Steps.{told}
use Rattle.uv_machine.proofs.Members as members
use Rattle.uv_machine.proofs.Members.{count_by-cons, Passes-find}
use Rattle.uv_machine.proofs.Sums.{worth, sum_by-at_place_worth}
use Rattle.uv_machine.proofs.Planned.{InPlan, next_word-planned, next_word-closing}
use Rattle.uv_machine.proofs.Turns.{Turn, object_made, IsTurn-allowed, may_refuse}
use Rattle.uv_machine.proofs.Turns.Turn.{Refuses, Reserves, Looks, Makes, Commits, Does, Locks, Checks, Finishes, Aborts, Frees, Leaves}
use Rattle.uv_machine.proofs.OwnCall.{OwnTurn, calls_turn}
use Rattle.uv_machine.proofs.Clients.{stays_or_leaves}
use Rattle.uv_machine.proofs.Holding.{finish_objects}
use Rattle.uv_machine.proofs.Owing.{is_making, makes_fall, calls_sum}
use Rattle.uv_machine.proofs.Reaching.{Reached-start, Reached-after}
use Rattle.uv_machine.proofs.Changing.{changed_if}
use Rattle.uv_machine.proofs.Emptying.{count_same, count_changed, IsTaken, gone}

-- what a step of the call releases
abbrev released_step : State → ℕ → Word → Option Object
released_step m o w = step_released w (object_with m o)

abbrev if_doomed_by : Bool → Object → Option Object
if_doomed_by b x = if b then Some x else None

-- What counts: the objects of the kind that weren't released, and the calls that can still make one.

abbrev pub of_kind : Kind → Object → Bool
of_kind kind x = is_kind x.kind kind && not (is_husk x.phase)

abbrev pub if_kind : Bool → ℕ → ℕ
if_kind true n = n
if_kind false n = 0

abbrev pub kind_makes : Kind → Option InFlight → ℕ
kind_makes kind None = 0
kind_makes kind (Some call) = if_kind (creates_kind kind (role_of call.request)) (making_comes call call.refusal)

abbrev pub kind_counts : State → Kind → ℕ
kind_counts m kind = count_by (of_kind kind) m.objects + sum_by (kind_makes kind) m.calls

-- Lists.

one_of : (b : Bool) → members.one_if b ≡ one_if b
one_of true = refl
one_of false = refl

kept_fewer_by : {X : Type 0} (p : X → Bool) (k : Bool) (x : X) (xs fewer : List X) → count_by p fewer ≤ count_by p xs → count_by p (cond k (x ∷ fewer) fewer) ≤ count_by p (x ∷ xs)
kept_fewer_by p true x xs fewer rest = omega (arith, count_by-cons p x fewer, count_by-cons p x xs, rest)
kept_fewer_by p false x xs fewer rest = omega (arith, count_by-cons p x xs, rest)

kept_fewer : {X : Type 0} (p k : X → Bool) (xs : List X) → count_by p (filter k xs) ≤ count_by p xs
kept_fewer p k [] = omega arith
kept_fewer p k (x ∷ xs) = kept_fewer_by p (k x) x xs (filter k xs) (kept_fewer p k xs)

lost_here : {X : Type 0} (p : X → Bool) (k : Bool) (x y : X) (xs fewer : List X) → k ≡ false → x ≡ y → count_by p fewer ≤ count_by p xs → count_by p (cond k (y ∷ fewer) fewer) + one_if (p x) ≤ count_by p (y ∷ xs)
lost_here p true x y xs fewer lost e rest = absurd cc
lost_here p false x y xs fewer lost e rest =
    let same : one_if (p x) ≡ members.one_if (p y) = ap (λ v. one_if (p v)) e ∙ sym (one_of (p y)) in
    omega (arith, count_by-cons p y xs, rest, same)

lost_later : {X : Type 0} (p : X → Bool) (k : Bool) (x y : X) (xs fewer : List X) → count_by p fewer + one_if (p x) ≤ count_by p xs → count_by p (cond k (y ∷ fewer) fewer) + one_if (p x) ≤ count_by p (y ∷ xs)
lost_later p true x y xs fewer rest = omega (arith, count_by-cons p y fewer, count_by-cons p y xs, rest)
lost_later p false x y xs fewer rest = omega (arith, count_by-cons p y xs, rest)

-- an item that is taken out
lost_one : {X : Type 0} (p k : X → Bool) (x : X) (xs : List X) → IsIn x xs → k x ≡ false → count_by p (filter k xs) + one_if (p x) ≤ count_by p xs
lost_one p k x [] within lost = absurd within
lost_one p k x (y ∷ ys) (inl e) lost = lost_here p (k y) x y ys (filter k ys) (ap k (sym e) ∙ lost) e (kept_fewer p k ys)
lost_one p k x (y ∷ ys) (inr within) lost = lost_later p (k y) x y ys (filter k ys) (lost_one p k x ys within lost)

-- Objects.

live_stays : (p : Phase) → is_husk (live_from p) ≡ is_husk p
live_stays phase.Made = refl
live_stays phase.Live = refl
live_stays phase.Doomed = refl
live_stays phase.Husk = refl

doomed_stays : (p : Phase) → is_husk (doomed_from p) ≡ is_husk p
doomed_stays phase.Made = refl
doomed_stays phase.Live = refl
doomed_stays phase.Doomed = refl
doomed_stays phase.Husk = refl

abbrev pub releases_none : Change → Bool
releases_none ToLive = true
releases_none ToDoomed = true
releases_none ToHusk = false
releases_none (ToBound binding) = true

kind_kept_by : (kind : Kind) (b : Bool) (change : Change) (x : Object) → releases_none change ≡ true → of_kind kind (changed_if b change x) ≡ of_kind kind x
kind_kept_by kind true ToLive x e = ap (λ b. is_kind x.kind kind && not b) (live_stays x.phase)
kind_kept_by kind true ToDoomed x e = ap (λ b. is_kind x.kind kind && not b) (doomed_stays x.phase)
kind_kept_by kind true ToHusk x e = absurd cc
kind_kept_by kind true (ToBound binding) x e = refl
kind_kept_by kind false change x e = refl

kind_kept : (kind : Kind) (o : ℕ) (change : Change) (xs : List Object) → releases_none change ≡ true → count_by (of_kind kind) (map (on_object o change) xs) ≡ count_by (of_kind kind) xs
kind_kept kind o change xs e = count_same (of_kind kind) (on_object o change) xs (λ x k. kind_kept_by kind (has_id o x) change x e)

and_yes : (b : Bool) → (b && true) ≡ b
and_yes true = refl
and_yes false = refl

and_no : (b : Bool) → (b && false) ≡ false
and_no true = refl
and_no false = refl

one_most : (b : Bool) → one_if b ≤ 1
one_most true = omega arith
one_most false = omega arith

room_most : (kind : Kind) (b : Bool) (z : Object) (xs : List Object) (more : ℕ) → one_if (of_kind kind z) ≤ more → count_by (of_kind kind) (if b then xs ++ z ∷ [] else xs) ≤ count_by (of_kind kind) xs + more
room_most kind true z [] more few = omega (arith, count_by-cons (of_kind kind) z [], one_of (of_kind kind z), few)
room_most kind true z (x ∷ xs) more few = omega (arith, count_by-cons (of_kind kind) x (xs ++ z ∷ []), count_by-cons (of_kind kind) x xs, room_most kind true z xs more few)
room_most kind false z xs more few = omega arith

-- Calls.

module _ (kind : Kind) where
  makes_by : (call : InFlight) (slot : Option InFlight) (makes b : Bool) → creates_kind kind (role_of call.request) ≡ b → ((k : InFlight) → slot ≡ Some k → k.request ≡ call.request) → call_makes slot + one_if makes ≤ making_comes call call.refusal → kind_makes kind slot + if_kind b (one_if makes) ≤ if_kind b (making_comes call call.refusal)
  makes_by call None makes true is same fall = fall
  makes_by call (Some k) makes true is same fall =
      let kept : creates_kind kind (role_of k.request) ≡ true = ap (λ v. creates_kind kind (role_of v)) (same k refl) ∙ is in
      let now : kind_makes kind (Some k) ≡ call_makes (Some k) = ap (λ b. if_kind b (making_comes k k.refusal)) kept in
      omega (arith, now, fall)
  makes_by call None makes false is same fall = omega arith
  makes_by call (Some k) makes false is same fall =
      let kept : creates_kind kind (role_of k.request) ≡ false = ap (λ v. creates_kind kind (role_of v)) (same k refl) ∙ is in
      let now : kind_makes kind (Some k) ≡ 0 = ap (λ b. if_kind b (making_comes k k.refusal)) kept in
      omega (arith, now)

  request_kept : (call : InFlight) (w : Word) (slot : Option InFlight) → next_word call ≡ w → OwnTurn call slot → (k : InFlight) → slot ≡ Some k → k.request ≡ call.request
  request_kept call w slot word own k is =
      ⊎_elim
      (λ stays. ap (λ (v : InFlight). v.request) (same_Some k stays.left (sym is ∙ stays.is)) ∙ stays.request)
      (λ leaves. absurd (none-some k (sym leaves.1 ∙ is)))
      (stays_or_leaves call w slot word own)

  -- what a turn leaves of the objects, beside what it releases and makes
  objects_as : (m m' n : State) (released more : ℕ) → m' ≡ n → count_by (of_kind kind) n.objects + released ≤ count_by (of_kind kind) m.objects + more → count_by (of_kind kind) m'.objects + released ≤ count_by (of_kind kind) m.objects + more
  objects_as m m' n released more e h = let same : count_by (of_kind kind) m'.objects ≡ count_by (of_kind kind) n.objects = ap (λ (s : State). count_by (of_kind kind) s.objects) e in omega (arith, same, h)

  act_count : (m : State) (c : ℕ) (call : InFlight) (a : Answer) (what : request.Act) → count_by (of_kind kind) (act m c call a what).objects ≡ count_by (of_kind kind) m.objects
  act_count m c call a (Modify to attrs) = refl
  act_count m c call a Query = refl
  act_count m c call a (Bind offset long access) = kind_kept kind (acted_on call) (ToBound (Some (binding_of call offset long access))) m.objects refl
  act_count m c call a (Unbind offset long access) = kind_kept kind (acted_on call) (ToBound None) m.objects refl
  act_count m c call a Async = refl

  not_finish : (m : State) (o : ℕ) (w v : Word) → w ≡ v → v ≢ Finish → one_if (is_of_kind kind (released_step m o w)) ≡ 0
  not_finish m o Reserve v e ne = refl
  not_finish m o Look v e ne = refl
  not_finish m o Make v e ne = refl
  not_finish m o Commit v e ne = refl
  not_finish m o Act v e ne = refl
  not_finish m o Lock v e ne = refl
  not_finish m o Check v e ne = refl
  not_finish m o Finish v e ne = absurd (ne (sym e))
  not_finish m o Abort v e ne = refl
  not_finish m o Free v e ne = refl
  not_finish m o Exit v e ne = refl

  doomed_no_husk : (p : Phase) → is_doomed p ≡ true → is_husk p ≡ false
  doomed_no_husk phase.Made h = absurd cc
  doomed_no_husk phase.Live h = absurd cc
  doomed_no_husk phase.Doomed h = refl
  doomed_no_husk phase.Husk h = absurd cc

  of_doomed : (x : Object) → is_doomed x.phase ≡ true → one_if (of_kind kind x) ≡ one_if (is_kind x.kind kind)
  of_doomed x h = ap (λ b. one_if (is_kind x.kind kind && not b)) (doomed_no_husk x.phase h) ∙ ap one_if (and_yes (is_kind x.kind kind))

  finish_some : (m : State) (o : ℕ) (x : Object) (b : Bool) → IsIn x m.objects → x.id ≡ o → is_doomed x.phase ≡ b → count_by (of_kind kind) (filter (not_with_id o) m.objects) + one_if (is_of_kind kind (if_doomed_by b x)) ≤ count_by (of_kind kind) m.objects
  finish_some m o x true k id doomed =
      omega (arith, lost_one (of_kind kind) (not_with_id o) x m.objects k (ap not (eq-eqb x.id o id)), of_doomed x doomed)
  finish_some m o x false k id doomed = omega (arith, kept_fewer (of_kind kind) (not_with_id o) m.objects)

  finish_by : (m : State) (o : ℕ) (slot : Option Object) → object_with m o ≡ slot → count_by (of_kind kind) (filter (not_with_id o) m.objects) + one_if (is_of_kind kind (if_doomed slot)) ≤ count_by (of_kind kind) m.objects
  finish_by m o None is = omega (arith, kept_fewer (of_kind kind) (not_with_id o) m.objects)
  finish_by m o (Some x) is = let p = Passes-find (has_id o) x m.objects is in finish_some m o x (is_doomed x.phase) p.within (eqb-true x.id o p.test) refl

  module _ (m : State) (c : ℕ) (call : InFlight) (w : Word) (o : ℕ) (found : Option QpState) (word : next_word call ≡ w) (object : (told m c call found w).object ≡ o) where
    word_is : (v : Word) → InPlan call v → w ≡ v
    word_is v plan = sym word ∙ next_word-planned call v plan.fine plan.planned

    refused_apart : (v : Word) → may_refuse v ≡ true → v ≢ Finish
    refused_apart v may e = let same : may_refuse v ≡ false = ap may_refuse e in cc

    still : (m' n : State) (v : Word) → m' ≡ n → count_by (of_kind kind) n.objects ≡ count_by (of_kind kind) m.objects → w ≡ v → v ≢ Finish → count_by (of_kind kind) m'.objects + one_if (is_of_kind kind (released_step m o w)) ≤ count_by (of_kind kind) m.objects + 0
    still m' n v e same is ne = objects_as m m' n (one_if (is_of_kind kind (released_step m o w))) 0 e (omega (arith, same, not_finish m o w v is ne))

    kind_is : (k : Kind) → role_of call.request ≡ Creates k → creates_kind kind (role_of call.request) ≡ is_kind k kind
    kind_is k creates = ap (creates_kind kind) creates

    one_by : (b : Bool) → one_if b ≡ if_kind b 1
    one_by true = refl
    one_by false = refl

    turn_count : (a : Answer) (m' : State) (t : Turn m c call a m') → count_by (of_kind kind) m'.objects + one_if (is_of_kind kind (released_step m o w)) ≤ count_by (of_kind kind) m.objects + if_kind (creates_kind kind (role_of call.request)) (one_if (is_making call ((calls_turn m c call a m' t).change (Some call)) (calls_turn m c call a m' t).own))
    turn_count a m' (Refuses t) = omega (arith, still m' _ t.word t.gives refl (word_is t.word t.plan) (refused_apart t.word t.may))
    turn_count a m' (Reserves t) = omega (arith, still m' _ Reserve t.gives refl (word_is Reserve t.plan) (λ e. cc))
    turn_count a m' (Looks t) = omega (arith, still m' _ Look t.gives refl (word_is Look t.plan) (λ e. cc))
    turn_count a m' (Makes t) =
        let z = object_made m call t.kind t.index in
        let one : one_if (of_kind kind z) ≡ if_kind (creates_kind kind (role_of call.request)) 1 = ap one_if (and_yes (is_kind t.kind kind)) ∙ (one_by (is_kind t.kind kind) ∙ ap (λ b. if_kind b 1) (sym (kind_is t.kind t.creates))) in
        objects_as m m' _ (one_if (is_of_kind kind (released_step m o w))) (if_kind (creates_kind kind (role_of call.request)) 1) t.gives
        (omega (arith, not_finish m o w Make (word_is Make t.plan) (λ e. cc), room_most kind (nat_lt (length m.objects) MOST_OBJECTS) z m.objects (if_kind (creates_kind kind (role_of call.request)) 1) (omega (arith, one))))
    turn_count a m' (Commits t) = omega (arith, still m' _ Commit t.gives (kind_kept kind (own_object call) ToLive m.objects refl) (word_is Commit t.plan) (λ e. cc))
    turn_count a m' (Does t) = omega (arith, still m' _ Act t.gives (act_count m c call a t.what) (word_is Act t.plan) (λ e. cc))
    turn_count a m' (Locks t) = omega (arith, still m' _ Lock t.gives refl (word_is Lock t.plan) (λ e. cc))
    turn_count a m' (Checks t) = omega (arith, still m' _ Check t.gives (kind_kept kind (own_object call) ToDoomed m.objects refl) (word_is Check t.plan) (λ e. cc))
    turn_count a m' (Finishes t) =
        let same = word_is Finish t.plan in
        let own : own_object call ≡ o = ap (λ v. (told m c call found v).object) (sym same) ∙ object in
        let released : one_if (is_of_kind kind (released_step m o w)) ≡ one_if (is_of_kind kind (if_doomed (object_with m o))) = ap (λ v. one_if (is_of_kind kind (released_step m o v))) same in
        let left : count_by (of_kind kind) m'.objects ≡ count_by (of_kind kind) (filter (not_with_id o) m.objects) = ap (λ (s : State). count_by (of_kind kind) s.objects) t.gives ∙ (ap (count_by (of_kind kind)) (finish_objects m c (own_object call)) ∙ ap (λ i. count_by (of_kind kind) (filter (not_with_id i) m.objects)) own) in
        omega (arith, left, released, finish_by m o (object_with m o) refl)
    turn_count a m' (Aborts t) = omega (arith, still m' _ Abort t.gives refl (sym word ∙ (next_word-closing call t.ends ∙ t.word)) (λ e. cc))
    turn_count a m' (Frees t) = omega (arith, still m' _ Free t.gives refl (sym word ∙ (next_word-closing call t.ends ∙ t.word)) (λ e. cc))
    turn_count a m' (Leaves t) = omega (arith, still m' _ Exit t.gives refl (sym word ∙ (next_word-closing call t.ends ∙ t.word)) (λ e. cc))

  step_count : (m : State) (c : ℕ) (w : Word) (o : ℕ) (found : Option QpState) (a : Answer) → Allowed m (Step c w o found a) → kind_counts (after m (Step c w o found a)) kind + one_if (is_of_kind kind (released_step m o w)) ≤ kind_counts m kind
  step_count m c w o found a allowed =
      let m' = after m (Step c w o found a) in
      let t = IsTurn-allowed m c w o found a allowed in
      let k = calls_turn m c t.call a m' t.turn in
      let slot = k.change (Some t.call) in
      let fall = makes_fall t.call slot k.own in
      let makes = makes_by t.call slot (is_making t.call slot k.own) (creates_kind kind (role_of t.call.request)) refl (request_kept t.call w slot t.word k.own) fall.comes in
      omega (arith, makes, calls_sum (kind_makes kind) m m' c t.call k.change k.calls t.is, turn_count m c t.call w o found t.word t.object a m' t.turn)

  -- the other entries

  counts_unless : (m m' : State) (r : Option Errno) (more : ℕ) → (r ≡ None → kind_counts m' kind ≤ kind_counts m kind + more) → kind_counts (unless_answered m r m') kind ≤ kind_counts m kind + more
  counts_unless m m' None more h = h refl
  counts_unless m m' (Some e) more h = omega arith

  entered_makes : (f : ℕ) (request : Request) (b : Bool) → creates_kind kind (role_of request) ≡ b → kind_makes kind (Some (entered f request)) ≤ one_if b
  entered_makes f request true is = omega (arith, ap (λ v. if_kind v (making_comes (entered f request) None)) is, one_most (makes_ahead (entered f request)))
  entered_makes f request false is = omega (arith, ap (λ v. if_kind v (making_comes (entered f request) None)) is)

  put_worth : (call : InFlight) (slot : Option (Option InFlight)) → worth (kind_makes kind) (option_map (put_call call) slot) ≤ kind_makes kind (Some call)
  put_worth call None = omega arith
  put_worth call (Some inner) = omega arith

  entered_count : (m : State) (c f : ℕ) (request : Request) → kind_counts (record m { calls = at_place m.calls c (put_call (entered f request)) }) kind ≤ kind_counts m kind + one_if (creates_kind kind (role_of request))
  entered_count m c f request =
      omega (arith, sum_by-at_place_worth (kind_makes kind) (put_call (entered f request)) m.calls c, put_worth (entered f request) (slice_get m.calls c), entered_makes f request (creates_kind kind (role_of request)) refl)

  enter_count : (m : State) (c f : ℕ) (request : Request) (a : Answer) (r : Option Errno) → refusal_in a ≡ r → kind_counts (unless_answered m r (record m { calls = at_place m.calls c (put_call (entered f request)) })) kind ≤ kind_counts m kind + one_if (is_none r && creates_kind kind (role_of request))
  enter_count m c f request a None is = entered_count m c f request
  enter_count m c f request a (Some e) is = omega arith

  gone_count : (m : State) (r : Reached m) (o : ℕ) (t : IsTaken m o is_doomed) → kind_counts (gone_from m o (object_with m o)) kind + one_if (is_of_kind kind (object_with m o)) ≤ kind_counts m kind
  gone_count m r o t =
      let x = t.item in
      let objects : count_by (of_kind kind) (gone_from m o (object_with m o)).objects ≡ count_by (of_kind kind) (map (on_object o ToHusk) m.objects) = ap (λ slot. count_by (of_kind kind) (gone_from m o slot).objects) t.is in
      let calls : sum_by (kind_makes kind) (gone_from m o (object_with m o)).calls ≡ sum_by (kind_makes kind) m.calls = ap (λ slot. sum_by (kind_makes kind) (gone_from m o slot).calls) t.is in
      let one : one_if (is_of_kind kind (object_with m o)) ≡ one_if (is_kind x.kind kind) = ap (λ slot. one_if (is_of_kind kind slot)) t.is in
      let none : one_if (of_kind kind (with_change ToHusk x)) ≡ 0 = ap one_if (and_no (is_kind x.kind kind)) in
      omega (arith, objects, calls, one, none, of_doomed x t.phase, count_changed (of_kind kind) o ToHusk 0 m.made m.objects x r.graph.rising t.within t.id)

  count_after : (m : State) (e : Entry) → Reached m → Allowed m e → kind_counts (after m e) kind + one_if (is_of_kind kind (released_by m e)) ≤ kind_counts m kind + one_if (enters_for kind e)
  count_after m (Open c f d a) r allowed = omega (arith, counts_unless m (with_file m f (opened c d)) (refusal_in a) 0 (λ fine. omega arith))
  count_after m (Enter c f request a) r allowed = omega (arith, enter_count m c f request a (refusal_in a) refl)
  count_after m (Step c w o found a) r allowed = omega (arith, step_count m c w o found a allowed)
  count_after m (Unplug d) r allowed = omega arith
  count_after m (Tear f by) r allowed = omega arith
  count_after m (Kill o) r allowed = omega (arith, kind_kept kind o ToDoomed m.objects refl)
  count_after m (Gone o kept) r allowed = omega (arith, gone_count m r o (gone m o allowed))
  count_after m (Dissociated f) r allowed = omega arith
  count_after m (Closed f) r allowed = omega (arith, kept_fewer (of_kind kind) (not_in_file f) m.objects)

  counts_from : (m : State) (h : List Entry) → Reached m → IsLegalFrom m h → kind_releases_from m kind h + kind_counts (state_from m h) kind ≤ kind_counts m kind + count_by (enters_for kind) h
  counts_from m [] r legal = omega arith
  counts_from m (e ∷ h) r legal =
      omega (arith, count_by-cons (enters_for kind) e h, one_of (enters_for kind e), count_after m e r legal.0, counts_from (after m e) h (Reached-after m e legal.0 r) legal.1)

  idle_sum : (n : ℕ) → sum_by (kind_makes kind) (replicate n None) ≡ 0
  idle_sum zero = refl
  idle_sum (suc n) = omega (arith, sum_by-cons (kind_makes kind) None (replicate n None), idle_sum n)

  start_count : kind_counts start kind ≡ 0
  unfolding start
  start_count = omega (arith, idle_sum ACTOR_PLACES)

pub releases_below_enters : ReleasesBelowEnters
releases_below_enters h kind legal = omega (arith, counts_from kind start h Reached-start legal, start_count kind)
